-- The table of names, and that looking a text up in it finds the axiom of this name.
use Rattle.std.proofs.Common.{◌≡◌, ◌↔◌, ℕ, ◌+◌, ◌<◌, List, [], ◌∷◌, length, map, drop, get_or, suc, Bool, true, false, cond, refl, sym, ◌∙◌, ap, arith}
use Rattle.std.specs.Prelude.{Option, Some, None, option_map}
use Rattle.std.specs.Str.{bytes_eq}
use denote.Ref.{Bor}
use Rattle.std.proofs.Math.Seq.{drop-cons}
use Rattle.std.specs.Cmp.Lexicographic.{same_text}
use Rattle.theory_logic_axioms.specs.Names.{AxiomName, text_of}
use Rattle.theory_logic_axioms.specs.Names.{emp_some, emp_one, join_emp, join_comm, join_assoc, join_fun, join_cancel, join_empty, join_cross}
use Rattle.theory_logic_axioms.specs.Names.{cell_block, cell_one, cell_val, cell_make, block_part, block_sep, block_null, block_emp, block_word}
use Rattle.theory_logic_axioms.specs.Names.{block_place, block_width, add_comm, mul_comm, add_assoc, mul_assoc, add_zero, mul_one, mul_zero, mul_add}
use Rattle.theory_logic_axioms.specs.Names.{sub_add, add_sub, lt_irrefl, lt_zero, lt_trans, lt_total, lt_step, lt_gap, lt_pred, eq_yes, eq_no}
use Rattle.theory_logic_axioms.specs.Names.{bool_or, bool_ne, pair_eta, unit_eta, and_zero, or_zero, xor_self, shl_one}
use Rattle.logic_axioms_names.specs.declared.axiom.Axiom.{Axiom}
use Rattle.logic_axioms_names.specs.declared.axiom.Axiom.TheVariants as variants
use Rattle.logic_axioms_names.specs.Views.{axiom_name}
use Rattle.logic_axioms_names.specs.Tables.{lookup, spelled}

-- ---- a row of a table

pub row_here : (table : List (Bor (List ℕ) × Axiom)) (i : ℕ) (other : Bor (List ℕ) × Axiom) (text : List ℕ)
    → i < length table
    → bytes_eq text (get_or table i other).0.now ≡ true
    → lookup (map spelled (drop i table)) text ≡ Some (get_or table i other).1
row_here table i other text within same = rw (drop-cons table i other within, same) refl

pub row_elsewhere : (table : List (Bor (List ℕ) × Axiom)) (i : ℕ) (other : Bor (List ℕ) × Axiom) (text : List ℕ)
    → i < length table
    → bytes_eq text (get_or table i other).0.now ≡ false
    → lookup (map spelled (drop i table)) text ≡ lookup (map spelled (drop (i + 1) table)) text
row_elsewhere table i other text within differs =
    let next : suc i ≡ i + 1 = omega arith in
    rw (drop-cons table i other within, differs) (ap (λ k. lookup (map spelled (drop k table)) text) next)

-- ---- the table of the code

unfoldable pub axiom_table : List (List ℕ × Axiom)
axiom_table =
    (text_of emp_some, variants.EmpSome) ∷
    (text_of emp_one, variants.EmpOne) ∷
    (text_of join_emp, variants.JoinEmp) ∷
    (text_of join_comm, variants.JoinComm) ∷
    (text_of join_assoc, variants.JoinAssoc) ∷
    (text_of join_fun, variants.JoinFun) ∷
    (text_of join_cancel, variants.JoinCancel) ∷
    (text_of join_empty, variants.JoinEmpty) ∷
    (text_of join_cross, variants.JoinCross) ∷
    (text_of cell_block, variants.CellBlock) ∷
    (text_of cell_one, variants.CellOne) ∷
    (text_of cell_val, variants.CellVal) ∷
    (text_of cell_make, variants.CellMake) ∷
    (text_of block_part, variants.BlockPart) ∷
    (text_of block_sep, variants.BlockSep) ∷
    (text_of block_null, variants.BlockNull) ∷
    (text_of block_emp, variants.BlockEmp) ∷
    (text_of block_word, variants.BlockWord) ∷
    (text_of block_place, variants.BlockPlace) ∷
    (text_of block_width, variants.BlockWidth) ∷
    (text_of add_comm, variants.AddComm) ∷
    (text_of mul_comm, variants.MulComm) ∷
    (text_of add_assoc, variants.AddAssoc) ∷
    (text_of mul_assoc, variants.MulAssoc) ∷
    (text_of add_zero, variants.AddZero) ∷
    (text_of mul_one, variants.MulOne) ∷
    (text_of mul_zero, variants.MulZero) ∷
    (text_of mul_add, variants.MulAdd) ∷
    (text_of sub_add, variants.SubAdd) ∷
    (text_of add_sub, variants.AddSub) ∷
    (text_of lt_irrefl, variants.LtIrrefl) ∷
    (text_of lt_zero, variants.LtZero) ∷
    (text_of lt_trans, variants.LtTrans) ∷
    (text_of lt_total, variants.LtTotal) ∷
    (text_of lt_step, variants.LtStep) ∷
    (text_of lt_gap, variants.LtGap) ∷
    (text_of lt_pred, variants.LtPred) ∷
    (text_of eq_yes, variants.EqYes) ∷
    (text_of eq_no, variants.EqNo) ∷
    (text_of bool_or, variants.BoolOr) ∷
    (text_of bool_ne, variants.BoolNe) ∷
    (text_of pair_eta, variants.PairEta) ∷
    (text_of unit_eta, variants.UnitEta) ∷
    (text_of and_zero, variants.AndZero) ∷
    (text_of or_zero, variants.OrZero) ∷
    (text_of xor_self, variants.XorSelf) ∷
    (text_of shl_one, variants.ShlOne) ∷
    []

-- each row has its axiom's text
abbrev HasTexts : List (List ℕ × Axiom) → Type 0
HasTexts [] = Unit {0}
HasTexts (row ∷ rows) = (row.0 ≡ text_of (axiom_name row.1)) × HasTexts rows

table_texts : HasTexts axiom_table
unfolding axiom_table
table_texts = (refl, (refl, (refl, (refl, (refl, (refl, (refl, (refl, (refl, (refl, (refl, (refl, (refl, (refl, (refl, (refl, (refl, (refl, (refl, (refl, (refl, (refl, (refl, (refl, (refl, (refl, (refl, (refl, (refl, (refl, (refl, (refl, (refl, (refl, (refl, (refl, (refl, (refl, (refl, (refl, (refl, (refl, (refl, (refl, (refl, (refl, (refl, tt)))))))))))))))))))))))))))))))))))))))))))))))

by_cond : {A : Type 0} (P : A → Type 0) (t : Bool) (x y : A) → (t ≡ true → P x) → (t ≡ false → P y) → P (cond t x y)
by_cond P true x y when unless = when refl
by_cond P false x y when unless = unless refl

found_in : (rows : List (List ℕ × Axiom)) (text : List ℕ) (axiom_found : Axiom)
    → HasTexts rows
    → lookup rows text ≡ Some axiom_found
    → text_of (axiom_name axiom_found) ≡ text
found_in [] text axiom_found texts e = cc
found_in (row ∷ rows) text axiom_found texts e =
    by_cond (λ o. o ≡ Some axiom_found → text_of (axiom_name axiom_found) ≡ text) (bytes_eq text row.0) (Some row.1)
    (lookup rows text)
    (λ same here. let it : row.1 ≡ axiom_found = cc in sym (same_text text row.0 (sym same) ∙ texts.0 ∙ ap (λ a. text_of (axiom_name a)) it))
    (λ _ rest. found_in rows text axiom_found texts.1 rest) e

-- the text of each axiom leads to its row
found_back : (name : AxiomName) → option_map axiom_name (lookup axiom_table (text_of name)) ≡ Some name
unfolding axiom_table
found_back emp_some = refl
found_back emp_one = refl
found_back join_emp = refl
found_back join_comm = refl
found_back join_assoc = refl
found_back join_fun = refl
found_back join_cancel = refl
found_back join_empty = refl
found_back join_cross = refl
found_back cell_block = refl
found_back cell_one = refl
found_back cell_val = refl
found_back cell_make = refl
found_back block_part = refl
found_back block_sep = refl
found_back block_null = refl
found_back block_emp = refl
found_back block_word = refl
found_back block_place = refl
found_back block_width = refl
found_back add_comm = refl
found_back mul_comm = refl
found_back add_assoc = refl
found_back mul_assoc = refl
found_back add_zero = refl
found_back mul_one = refl
found_back mul_zero = refl
found_back mul_add = refl
found_back sub_add = refl
found_back add_sub = refl
found_back lt_irrefl = refl
found_back lt_zero = refl
found_back lt_trans = refl
found_back lt_total = refl
found_back lt_step = refl
found_back lt_gap = refl
found_back lt_pred = refl
found_back eq_yes = refl
found_back eq_no = refl
found_back bool_or = refl
found_back bool_ne = refl
found_back pair_eta = refl
found_back unit_eta = refl
found_back and_zero = refl
found_back or_zero = refl
found_back xor_self = refl
found_back shl_one = refl

found_name : (o : Option Axiom) (text : List ℕ) (name : AxiomName)
    → lookup axiom_table text ≡ o
    → option_map axiom_name o ≡ Some name
    → text_of name ≡ text
found_name None text name e f = cc
found_name (Some axiom_found) text name e f =
    let same : axiom_name axiom_found ≡ name = cc in
    sym (ap text_of same) ∙ found_in axiom_table text axiom_found table_texts e

pub found_exactly : (text : List ℕ) (name : AxiomName)
    → (option_map axiom_name (lookup axiom_table text) ≡ Some name) ↔ (text_of name ≡ text)
found_exactly text name = (
  found_name (lookup axiom_table text) text name refl,
  λ e. ap (λ t. option_map axiom_name (lookup axiom_table t)) (sym e) ∙ found_back name,
)
