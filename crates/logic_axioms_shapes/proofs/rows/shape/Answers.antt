-- Each row's answer, from that of its signature.
use Rattle.std.proofs.Common.{refl}
use Rattle.logic_axioms_shapes.proofs.Shapes.{answered, paired}
use Rattle.logic_axioms_shapes.proofs.rows.shape.Goals as goal

pub returns-in-EmpSome : goal.returns-in-EmpSome
returns-in-EmpSome c = record { shape = rw c.in-EmpSome.is (answered _ _ _ c.plain.result refl (c.plain.ensures _ refl)) }

pub returns-in-EmpOne : goal.returns-in-EmpOne
returns-in-EmpOne c = record { shape = rw c.in-EmpOne.is (answered _ _ _ c.plain-in-EmpOne.result refl (c.plain-in-EmpOne.ensures _ refl)) }

pub returns-in-JoinEmp : goal.returns-in-JoinEmp
returns-in-JoinEmp c = record { shape = rw c.in-JoinEmp.is (answered _ _ _ c.plain-in-JoinEmp.result refl (c.plain-in-JoinEmp.ensures _ refl)) }

pub returns-in-JoinComm : goal.returns-in-JoinComm
returns-in-JoinComm c = record { shape = rw c.in-JoinComm.is (answered _ _ _ c.plain-in-JoinComm.result refl (c.plain-in-JoinComm.ensures _ refl)) }

pub returns-in-JoinAssoc : goal.returns-in-JoinAssoc
returns-in-JoinAssoc c = record { shape = rw c.in-JoinAssoc.is (answered _ _ _ c.plain-in-JoinAssoc.result refl (c.plain-in-JoinAssoc.ensures _ refl)) }

pub returns-in-JoinFun : goal.returns-in-JoinFun
returns-in-JoinFun c = record { shape = rw c.in-JoinFun.is (answered _ _ _ c.plain-in-JoinFun.result refl (c.plain-in-JoinFun.ensures _ refl)) }

pub returns-in-JoinCancel : goal.returns-in-JoinCancel
returns-in-JoinCancel c = record { shape = rw c.in-JoinCancel.is (answered _ _ _ c.plain-in-JoinCancel.result refl (c.plain-in-JoinCancel.ensures _ refl)) }

pub returns-in-JoinEmpty : goal.returns-in-JoinEmpty
returns-in-JoinEmpty c = record { shape = rw c.in-JoinEmpty.is (answered _ _ _ c.plain-in-JoinEmpty.result refl (c.plain-in-JoinEmpty.ensures _ refl)) }

pub returns-in-JoinCross : goal.returns-in-JoinCross
returns-in-JoinCross c = record { shape = rw c.in-JoinCross.is (answered _ _ _ c.plain-in-JoinCross.result refl (c.plain-in-JoinCross.ensures _ refl)) }

pub returns-in-CellBlock : goal.returns-in-CellBlock
returns-in-CellBlock c = record { shape = rw c.in-CellBlock.is (answered _ _ _ c.with_one.result refl (c.with_one.ensures _ (λ _. refl))) }

pub returns-in-CellOne : goal.returns-in-CellOne
returns-in-CellOne c = record { shape = rw c.in-CellOne.is (answered _ _ _ c.with_one-in-CellOne.result refl (c.with_one-in-CellOne.ensures _ (λ _. refl))) }

pub returns-in-CellVal : goal.returns-in-CellVal
returns-in-CellVal c = record { shape = rw c.in-CellVal.is (answered _ _ _ c.with_one-in-CellVal.result refl (c.with_one-in-CellVal.ensures _ (λ _. refl))) }

pub returns-in-CellMake : goal.returns-in-CellMake
returns-in-CellMake c = record { shape = rw c.in-CellMake.is (answered _ _ _ c.with_one-in-CellMake.result refl (c.with_one-in-CellMake.ensures _ (λ _. refl))) }

pub returns-in-BlockPart : goal.returns-in-BlockPart
returns-in-BlockPart c = record { shape = rw c.in-BlockPart.is (answered _ _ _ c.with_two.result refl (c.with_two.ensures _ (λ _ _. refl))) }

pub returns-in-BlockSep : goal.returns-in-BlockSep
returns-in-BlockSep c = record { shape = rw c.in-BlockSep.is (answered _ _ _ c.with_two-in-BlockSep.result refl (c.with_two-in-BlockSep.ensures _ (λ _ _. refl))) }

pub returns-in-BlockNull : goal.returns-in-BlockNull
returns-in-BlockNull c = record { shape = rw c.in-BlockNull.is (answered _ _ _ c.with_one-in-BlockNull.result refl (c.with_one-in-BlockNull.ensures _ (λ _. refl))) }

pub returns-in-BlockEmp : goal.returns-in-BlockEmp
returns-in-BlockEmp c = record { shape = rw c.in-BlockEmp.is (answered _ _ _ c.with_one-in-BlockEmp.result refl (c.with_one-in-BlockEmp.ensures _ (λ _. refl))) }

pub returns-in-BlockWord : goal.returns-in-BlockWord
returns-in-BlockWord c = record { shape = rw c.in-BlockWord.is (answered _ _ _ c.plain-in-BlockWord.result refl (c.plain-in-BlockWord.ensures _ refl)) }

pub returns-in-BlockPlace : goal.returns-in-BlockPlace
returns-in-BlockPlace c = record { shape = rw c.in-BlockPlace.is (answered _ _ _ c.with_two-in-BlockPlace.result refl (c.with_two-in-BlockPlace.ensures _ (λ _ _. refl))) }

pub returns-in-BlockWidth : goal.returns-in-BlockWidth
returns-in-BlockWidth c = record { shape = rw c.in-BlockWidth.is (answered _ _ _ c.with_two_as_wide.result refl (c.with_two_as_wide.ensures _ (λ _ _. refl))) }

pub returns-in-AddComm : goal.returns-in-AddComm
returns-in-AddComm c = record { shape = rw c.in-AddComm.is (answered _ _ _ c.plain-in-AddComm.result refl (c.plain-in-AddComm.ensures _ refl)) }

pub returns-in-MulComm : goal.returns-in-MulComm
returns-in-MulComm c = record { shape = rw c.in-MulComm.is (answered _ _ _ c.plain-in-MulComm.result refl (c.plain-in-MulComm.ensures _ refl)) }

pub returns-in-AddAssoc : goal.returns-in-AddAssoc
returns-in-AddAssoc c = record { shape = rw c.in-AddAssoc.is (answered _ _ _ c.plain-in-AddAssoc.result refl (c.plain-in-AddAssoc.ensures _ refl)) }

pub returns-in-MulAssoc : goal.returns-in-MulAssoc
returns-in-MulAssoc c = record { shape = rw c.in-MulAssoc.is (answered _ _ _ c.plain-in-MulAssoc.result refl (c.plain-in-MulAssoc.ensures _ refl)) }

pub returns-in-AddZero : goal.returns-in-AddZero
returns-in-AddZero c = record { shape = rw c.in-AddZero.is (answered _ _ _ c.plain-in-AddZero.result refl (c.plain-in-AddZero.ensures _ refl)) }

pub returns-in-MulOne : goal.returns-in-MulOne
returns-in-MulOne c = record { shape = rw c.in-MulOne.is (answered _ _ _ c.plain-in-MulOne.result refl (c.plain-in-MulOne.ensures _ refl)) }

pub returns-in-MulZero : goal.returns-in-MulZero
returns-in-MulZero c = record { shape = rw c.in-MulZero.is (answered _ _ _ c.plain-in-MulZero.result refl (c.plain-in-MulZero.ensures _ refl)) }

pub returns-in-MulAdd : goal.returns-in-MulAdd
returns-in-MulAdd c = record { shape = rw c.in-MulAdd.is (answered _ _ _ c.plain-in-MulAdd.result refl (c.plain-in-MulAdd.ensures _ refl)) }

pub returns-in-SubAdd : goal.returns-in-SubAdd
returns-in-SubAdd c = record { shape = rw c.in-SubAdd.is (answered _ _ _ c.plain-in-SubAdd.result refl (c.plain-in-SubAdd.ensures _ refl)) }

pub returns-in-AddSub : goal.returns-in-AddSub
returns-in-AddSub c = record { shape = rw c.in-AddSub.is (answered _ _ _ c.plain-in-AddSub.result refl (c.plain-in-AddSub.ensures _ refl)) }

pub returns-in-LtIrrefl : goal.returns-in-LtIrrefl
returns-in-LtIrrefl c = record { shape = rw c.in-LtIrrefl.is (answered _ _ _ c.plain-in-LtIrrefl.result refl (c.plain-in-LtIrrefl.ensures _ refl)) }

pub returns-in-LtZero : goal.returns-in-LtZero
returns-in-LtZero c = record { shape = rw c.in-LtZero.is (answered _ _ _ c.plain-in-LtZero.result refl (c.plain-in-LtZero.ensures _ refl)) }

pub returns-in-LtTrans : goal.returns-in-LtTrans
returns-in-LtTrans c = record { shape = rw c.in-LtTrans.is (answered _ _ _ c.plain-in-LtTrans.result refl (c.plain-in-LtTrans.ensures _ refl)) }

pub returns-in-LtTotal : goal.returns-in-LtTotal
returns-in-LtTotal c = record { shape = rw c.in-LtTotal.is (answered _ _ _ c.plain-in-LtTotal.result refl (c.plain-in-LtTotal.ensures _ refl)) }

pub returns-in-LtStep : goal.returns-in-LtStep
returns-in-LtStep c = record { shape = rw c.in-LtStep.is (answered _ _ _ c.plain-in-LtStep.result refl (c.plain-in-LtStep.ensures _ refl)) }

pub returns-in-LtGap : goal.returns-in-LtGap
returns-in-LtGap c = record { shape = rw c.in-LtGap.is (answered _ _ _ c.plain-in-LtGap.result refl (c.plain-in-LtGap.ensures _ refl)) }

pub returns-in-LtPred : goal.returns-in-LtPred
returns-in-LtPred c = record { shape = rw c.in-LtPred.is (answered _ _ _ c.plain-in-LtPred.result refl (c.plain-in-LtPred.ensures _ refl)) }

pub returns-in-EqYes : goal.returns-in-EqYes
returns-in-EqYes c = record { shape = rw c.in-EqYes.is (answered _ _ _ c.with_comparable.result refl (c.with_comparable.ensures _ (λ _. refl))) }

pub returns-in-EqNo : goal.returns-in-EqNo
returns-in-EqNo c = record { shape = rw c.in-EqNo.is (answered _ _ _ c.with_comparable-in-EqNo.result refl (c.with_comparable-in-EqNo.ensures _ (λ _. refl))) }

pub returns-in-BoolOr : goal.returns-in-BoolOr
returns-in-BoolOr c = record { shape = rw c.in-BoolOr.is (answered _ _ _ c.plain-in-BoolOr.result refl (c.plain-in-BoolOr.ensures _ refl)) }

pub returns-in-BoolNe : goal.returns-in-BoolNe
returns-in-BoolNe c = record { shape = rw c.in-BoolNe.is (answered _ _ _ c.plain-in-BoolNe.result refl (c.plain-in-BoolNe.ensures _ refl)) }

pub returns-in-PairEta : goal.returns-in-PairEta
returns-in-PairEta c = record { shape = rw c.in-PairEta.is (paired _ _ c.with_pair.result c.with_pair.ensures) }

pub returns-in-UnitEta : goal.returns-in-UnitEta
returns-in-UnitEta c = record { shape = rw c.in-UnitEta.is (answered _ _ _ c.plain-in-UnitEta.result refl (c.plain-in-UnitEta.ensures _ refl)) }

pub returns-in-AndZero : goal.returns-in-AndZero
returns-in-AndZero c = record { shape = rw c.in-AndZero.is (answered _ _ _ c.plain-in-AndZero.result refl (c.plain-in-AndZero.ensures _ refl)) }

pub returns-in-OrZero : goal.returns-in-OrZero
returns-in-OrZero c = record { shape = rw c.in-OrZero.is (answered _ _ _ c.plain-in-OrZero.result refl (c.plain-in-OrZero.ensures _ refl)) }

pub returns-in-XorSelf : goal.returns-in-XorSelf
returns-in-XorSelf c = record { shape = rw c.in-XorSelf.is (answered _ _ _ c.plain-in-XorSelf.result refl (c.plain-in-XorSelf.ensures _ refl)) }

pub returns-in-ShlOne : goal.returns-in-ShlOne
returns-in-ShlOne c = record { shape = rw c.in-ShlOne.is (answered _ _ _ c.plain-in-ShlOne.result refl (c.plain-in-ShlOne.ensures _ refl)) }
