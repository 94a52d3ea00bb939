-- The axioms and their names.
use Rattle.std.specs.Prelude.{ℕ, List, codes}

pub data AxiomName : Type 0 where
  emp_some emp_one : AxiomName
  join_emp join_comm join_assoc join_fun join_cancel join_empty join_cross : AxiomName
  cell_block cell_one cell_val cell_make : AxiomName
  block_part block_sep block_null block_emp block_word block_place block_width : AxiomName
  add_comm mul_comm add_assoc mul_assoc add_zero mul_one mul_zero mul_add sub_add add_sub : AxiomName
  lt_irrefl lt_zero lt_trans lt_total lt_step lt_gap lt_pred : AxiomName
  eq_yes eq_no bool_or bool_ne pair_eta unit_eta : AxiomName
  and_zero or_zero xor_self shl_one : AxiomName

-- The bytes of a name, as a proof writes it.
abbrev pub text_of : AxiomName → List ℕ
text_of emp_some = codes "emp_some"
text_of emp_one = codes "emp_one"
text_of join_emp = codes "join_emp"
text_of join_comm = codes "join_comm"
text_of join_assoc = codes "join_assoc"
text_of join_fun = codes "join_fun"
text_of join_cancel = codes "join_cancel"
text_of join_empty = codes "join_empty"
text_of join_cross = codes "join_cross"
text_of cell_block = codes "cell_block"
text_of cell_one = codes "cell_one"
text_of cell_val = codes "cell_val"
text_of cell_make = codes "cell_make"
text_of block_part = codes "block_part"
text_of block_sep = codes "block_sep"
text_of block_null = codes "block_null"
text_of block_emp = codes "block_emp"
text_of block_word = codes "block_word"
text_of block_place = codes "block_place"
text_of block_width = codes "block_width"
text_of add_comm = codes "add_comm"
text_of mul_comm = codes "mul_comm"
text_of add_assoc = codes "add_assoc"
text_of mul_assoc = codes "mul_assoc"
text_of add_zero = codes "add_zero"
text_of mul_one = codes "mul_one"
text_of mul_zero = codes "mul_zero"
text_of mul_add = codes "mul_add"
text_of sub_add = codes "sub_add"
text_of add_sub = codes "add_sub"
text_of lt_irrefl = codes "lt_irrefl"
text_of lt_zero = codes "lt_zero"
text_of lt_trans = codes "lt_trans"
text_of lt_total = codes "lt_total"
text_of lt_step = codes "lt_step"
text_of lt_gap = codes "lt_gap"
text_of lt_pred = codes "lt_pred"
text_of eq_yes = codes "eq_yes"
text_of eq_no = codes "eq_no"
text_of bool_or = codes "bool_or"
text_of bool_ne = codes "bool_ne"
text_of pair_eta = codes "pair_eta"
text_of unit_eta = codes "unit_eta"
text_of and_zero = codes "and_zero"
text_of or_zero = codes "or_zero"
text_of xor_self = codes "xor_self"
text_of shl_one = codes "shl_one"
