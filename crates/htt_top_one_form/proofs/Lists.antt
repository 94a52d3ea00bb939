-- Whether a list has members, and the rows by which trees keep lists.
use Rattle.std.proofs.Common.{◌≡◌, ℕ, suc, List, [], ◌∷◌, length, arith}
use Rattle.std.proofs.lemmas.Bool.Decides.{nat_tests}
use Rattle.std.specs.Prelude.{false, ◌==◌}
use mathlib.Core.Former.{this, arity}
use Rattle.htt_syntax_seq.specs.formers.seq.Seq.{the_former}
use Rattle.htt_parser_trees.specs.declared.tree.ProdOperand.{ProdOperand}
use Rattle.htt_parser_trees.specs.declared.tree.RawStep.{RawStep}
use Rattle.htt_parser_trees.specs.declared.tree.ProdOperand.TheBlock as block
use Rattle.htt_parser_trees.specs.declared.tree.ProdOperand.TheBlock.{Row_of-ProdOperand, Row_of-RawStep, end_of-ProdOperand, end_of-RawStep}
use Rattle.htt_parser_trees.specs.declared.tree.ProdOperand.TheBlock.{more_of-ProdOperand, more_of-RawStep}
use Rattle.htt_parser_trees.specs.declared.proof.RawStmt.{RawStmt}
use Rattle.htt_parser_trees.specs.declared.proof.RawEnd.TheBlock as proof_block
use Rattle.htt_parser_trees.specs.declared.proof.RawEnd.TheBlock.{Row_of-RawStmt, end_of-RawStmt, more_of-RawStmt}

above_none : (n : ℕ) → false ≡ (suc n == 0)
above_none n = grind (arith, nat_tests)

pub some_left : {A : Type 0} (x : A) (xs : List A) → false ≡ (length (x ∷ xs) == 0)
some_left x xs = above_none (length xs)

-- what holds of the rows of all lists holds of all rows
pub by_operands : (P : (a : (the_former this).Shape) → Row_of-ProdOperand (arity (the_former this) a) → Type 0)
    → ((xs : List ProdOperand) → P (block.shape-the_row-ProdOperand-8 xs) (block.hidden-the_row-ProdOperand-8 xs))
    → (a : (the_former this).Shape) (row : Row_of-ProdOperand (arity (the_former this) a))
    → P a row
unfolding block.hidden-the_row-ProdOperand-8 block.shape-the_row-ProdOperand-8 denote.Hole.Carrier.hidden
by_operands P h [] end_of-ProdOperand = h []
by_operands P h (u ∷ us) (more_of-ProdOperand x row) = by_operands (λ a r. P (u ∷ a) (more_of-ProdOperand x r)) (λ xs. h (x ∷ xs)) us row

pub by_steps : (P : (a : (the_former this).Shape) → Row_of-RawStep (arity (the_former this) a) → Type 0)
    → ((xs : List RawStep) → P (block.shape-the_row-RawStep-11 xs) (block.hidden-the_row-RawStep-11 xs))
    → (a : (the_former this).Shape) (row : Row_of-RawStep (arity (the_former this) a))
    → P a row
unfolding block.hidden-the_row-RawStep-11 block.shape-the_row-RawStep-11 denote.Hole.Carrier.hidden
by_steps P h [] end_of-RawStep = h []
by_steps P h (u ∷ us) (more_of-RawStep x row) = by_steps (λ a r. P (u ∷ a) (more_of-RawStep x r)) (λ xs. h (x ∷ xs)) us row

pub by_statements : (P : (a : (the_former this).Shape) → Row_of-RawStmt (arity (the_former this) a) → Type 0)
    → ((xs : List RawStmt) → P (proof_block.shape-the_row-RawStmt-0 xs) (proof_block.hidden-the_row-RawStmt-0 xs))
    → (a : (the_former this).Shape) (row : Row_of-RawStmt (arity (the_former this) a))
    → P a row
unfolding proof_block.hidden-the_row-RawStmt-0 proof_block.shape-the_row-RawStmt-0 denote.Hole.Carrier.hidden
by_statements P h [] end_of-RawStmt = h []
by_statements P h (u ∷ us) (more_of-RawStmt x row) = by_statements (λ a r. P (u ∷ a) (more_of-RawStmt x r)) (λ xs. h (x ∷ xs)) us row
