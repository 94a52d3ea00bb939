-- The axiom of the written table that each value of the Rust type is.
use Rattle.theory_logic_axioms.specs.Names as names
use Rattle.theory_logic_axioms.specs.Names.{AxiomName}
use Rattle.logic_axioms_names.specs.declared.axiom.Axiom.{Axiom}
use Rattle.logic_axioms_names.specs.declared.axiom.Axiom.TheVariants as variants

abbrev pub axiom_name : Axiom → AxiomName
axiom_name variants.EmpSome = names.emp_some
axiom_name variants.EmpOne = names.emp_one
axiom_name variants.JoinEmp = names.join_emp
axiom_name variants.JoinComm = names.join_comm
axiom_name variants.JoinAssoc = names.join_assoc
axiom_name variants.JoinFun = names.join_fun
axiom_name variants.JoinCancel = names.join_cancel
axiom_name variants.JoinEmpty = names.join_empty
axiom_name variants.JoinCross = names.join_cross
axiom_name variants.CellBlock = names.cell_block
axiom_name variants.CellOne = names.cell_one
axiom_name variants.CellVal = names.cell_val
axiom_name variants.CellMake = names.cell_make
axiom_name variants.BlockPart = names.block_part
axiom_name variants.BlockSep = names.block_sep
axiom_name variants.BlockNull = names.block_null
axiom_name variants.BlockEmp = names.block_emp
axiom_name variants.BlockWord = names.block_word
axiom_name variants.BlockPlace = names.block_place
axiom_name variants.BlockWidth = names.block_width
axiom_name variants.AddComm = names.add_comm
axiom_name variants.MulComm = names.mul_comm
axiom_name variants.AddAssoc = names.add_assoc
axiom_name variants.MulAssoc = names.mul_assoc
axiom_name variants.AddZero = names.add_zero
axiom_name variants.MulOne = names.mul_one
axiom_name variants.MulZero = names.mul_zero
axiom_name variants.MulAdd = names.mul_add
axiom_name variants.SubAdd = names.sub_add
axiom_name variants.AddSub = names.add_sub
axiom_name variants.LtIrrefl = names.lt_irrefl
axiom_name variants.LtZero = names.lt_zero
axiom_name variants.LtTrans = names.lt_trans
axiom_name variants.LtTotal = names.lt_total
axiom_name variants.LtStep = names.lt_step
axiom_name variants.LtGap = names.lt_gap
axiom_name variants.LtPred = names.lt_pred
axiom_name variants.EqYes = names.eq_yes
axiom_name variants.EqNo = names.eq_no
axiom_name variants.BoolOr = names.bool_or
axiom_name variants.BoolNe = names.bool_ne
axiom_name variants.PairEta = names.pair_eta
axiom_name variants.UnitEta = names.unit_eta
axiom_name variants.AndZero = names.and_zero
axiom_name variants.OrZero = names.or_zero
axiom_name variants.XorSelf = names.xor_self
axiom_name variants.ShlOne = names.shl_one
