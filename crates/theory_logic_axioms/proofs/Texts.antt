-- Two axioms with one text are one axiom: the text of each leads back to it.
use Rattle.std.proofs.Common.{◌≡◌, ℕ, List, Option, Some, None, refl, ap, ◌∙◌, sym, if◌then◌else◌, bytes_eq}
use Rattle.theory_logic_axioms.specs.Names.{AxiomName, text_of, emp_some, emp_one, join_emp, join_comm, join_assoc, join_fun, join_cancel, join_empty}
use Rattle.theory_logic_axioms.specs.Names.{join_cross, cell_block, cell_one, cell_val, cell_make, block_part, block_sep, block_null, block_emp, block_word}
use Rattle.theory_logic_axioms.specs.Names.{block_place, block_width, add_comm, mul_comm, add_assoc, mul_assoc, add_zero, mul_one, mul_zero, mul_add, sub_add}
use Rattle.theory_logic_axioms.specs.Names.{add_sub, lt_irrefl, lt_zero, lt_trans, lt_total, lt_step, lt_gap, lt_pred, eq_yes, eq_no, bool_or, bool_ne}
use Rattle.theory_logic_axioms.specs.Names.{pair_eta, unit_eta, and_zero, or_zero, xor_self, shl_one}

pub named : List ℕ → Option AxiomName
named text =
    if bytes_eq text (text_of emp_some) then Some emp_some else if bytes_eq text (text_of emp_one) then Some emp_one else if bytes_eq text
    (text_of join_emp) then Some join_emp else if bytes_eq text (text_of join_comm) then Some join_comm else if bytes_eq text
    (text_of join_assoc) then Some join_assoc else if bytes_eq text (text_of join_fun) then Some join_fun else if bytes_eq text
    (text_of join_cancel) then Some join_cancel else if bytes_eq text (text_of join_empty) then Some join_empty else if bytes_eq text
    (text_of join_cross) then Some join_cross else if bytes_eq text (text_of cell_block) then Some cell_block else if bytes_eq text
    (text_of cell_one) then Some cell_one else if bytes_eq text (text_of cell_val) then Some cell_val else if bytes_eq text
    (text_of cell_make) then Some cell_make else if bytes_eq text (text_of block_part) then Some block_part else if bytes_eq text
    (text_of block_sep) then Some block_sep else if bytes_eq text (text_of block_null) then Some block_null else if bytes_eq text
    (text_of block_emp) then Some block_emp else if bytes_eq text (text_of block_word) then Some block_word else if bytes_eq text
    (text_of block_place) then Some block_place else if bytes_eq text (text_of block_width) then Some block_width else if bytes_eq text
    (text_of add_comm) then Some add_comm else if bytes_eq text (text_of mul_comm) then Some mul_comm else if bytes_eq text
    (text_of add_assoc) then Some add_assoc else if bytes_eq text (text_of mul_assoc) then Some mul_assoc else if bytes_eq text
    (text_of add_zero) then Some add_zero else if bytes_eq text (text_of mul_one) then Some mul_one else if bytes_eq text (text_of mul_zero)
    then Some mul_zero else if bytes_eq text (text_of mul_add) then Some mul_add else if bytes_eq text (text_of sub_add) then Some sub_add
    else if bytes_eq text (text_of add_sub) then Some add_sub else if bytes_eq text (text_of lt_irrefl) then Some lt_irrefl else if bytes_eq
    text (text_of lt_zero) then Some lt_zero else if bytes_eq text (text_of lt_trans) then Some lt_trans else if bytes_eq text
    (text_of lt_total) then Some lt_total else if bytes_eq text (text_of lt_step) then Some lt_step else if bytes_eq text (text_of lt_gap)
    then Some lt_gap else if bytes_eq text (text_of lt_pred) then Some lt_pred else if bytes_eq text (text_of eq_yes) then Some eq_yes else
    if bytes_eq text (text_of eq_no) then Some eq_no else if bytes_eq text (text_of bool_or) then Some bool_or else if bytes_eq text
    (text_of bool_ne) then Some bool_ne else if bytes_eq text (text_of pair_eta) then Some pair_eta else if bytes_eq text (text_of unit_eta)
    then Some unit_eta else if bytes_eq text (text_of and_zero) then Some and_zero else if bytes_eq text (text_of or_zero) then Some or_zero
    else if bytes_eq text (text_of xor_self) then Some xor_self else if bytes_eq text (text_of shl_one) then Some shl_one else None

pub named_back : (axiom_name : AxiomName) → named (text_of axiom_name) ≡ Some axiom_name
unfolding named
named_back emp_some = refl
named_back emp_one = refl
named_back join_emp = refl
named_back join_comm = refl
named_back join_assoc = refl
named_back join_fun = refl
named_back join_cancel = refl
named_back join_empty = refl
named_back join_cross = refl
named_back cell_block = refl
named_back cell_one = refl
named_back cell_val = refl
named_back cell_make = refl
named_back block_part = refl
named_back block_sep = refl
named_back block_null = refl
named_back block_emp = refl
named_back block_word = refl
named_back block_place = refl
named_back block_width = refl
named_back add_comm = refl
named_back mul_comm = refl
named_back add_assoc = refl
named_back mul_assoc = refl
named_back add_zero = refl
named_back mul_one = refl
named_back mul_zero = refl
named_back mul_add = refl
named_back sub_add = refl
named_back add_sub = refl
named_back lt_irrefl = refl
named_back lt_zero = refl
named_back lt_trans = refl
named_back lt_total = refl
named_back lt_step = refl
named_back lt_gap = refl
named_back lt_pred = refl
named_back eq_yes = refl
named_back eq_no = refl
named_back bool_or = refl
named_back bool_ne = refl
named_back pair_eta = refl
named_back unit_eta = refl
named_back and_zero = refl
named_back or_zero = refl
named_back xor_self = refl
named_back shl_one = refl

some_once : {a b : AxiomName} → Some a ≡ Some b → a ≡ b
some_once e = cc

pub one_name : (a b : AxiomName) → text_of a ≡ text_of b → a ≡ b
one_name a b e = some_once (sym (named_back a) ∙ ap named e ∙ named_back b)
