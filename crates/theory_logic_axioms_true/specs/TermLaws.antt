-- What leaves the value of a term as it is.
use Rattle.std.specs.Prelude.{◌≡◌, ◌↔◌, List}
use Rattle.htt_syntax.specs.Trees.{TermTree, FormulaTree}
use Rattle.theory_canonical.specs.Folding.{folding}
use Rattle.theory_truth.specs.Worlds.{World}
use Rattle.theory_truth.specs.TermValue.{term_value}
use Rattle.theory_truth.specs.Truth.{Holds}
use Rattle.theory_truth.specs.Predicates.{RecTree, recs_of}
use Rattle.theory_typing.specs.Positions.{plain_term, plain_formula}
use Rattle.theory_logic_rules.specs.Sequents.{SameTerm, SameFormula}

abbrev pub FoldingKeepsValues : Type 0
FoldingKeepsValues = (w : World) (M : TermTree) → term_value w (folding M) ≡ term_value w M

-- Terms that differ in positions alone have one value, and such formulas are true together.
pub record PositionsKeepTruth : Type 0 where
  pub plain_values : (w : World) (M : TermTree) → term_value w (plain_term M) ≡ term_value w M
  pub plain_truths : (table : List RecTree) (w : World) (F : FormulaTree)
      → Holds (recs_of table) w (plain_formula F) ↔ Holds (recs_of table) w F
  pub same_values : (w : World) (M N : TermTree) → SameTerm M N → term_value w M ≡ term_value w N
  pub same_truths : (table : List RecTree) (w : World) (F G : FormulaTree)
      → SameFormula F G
      → Holds (recs_of table) w F ↔ Holds (recs_of table) w G
