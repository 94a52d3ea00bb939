use Rattle.theory_renaming.proofs.Scoping.{term_scoped, formula_scoped}
use Rattle.theory_renaming.proofs.renaming_keeps_scope.Goals as goal

pub returns : goal.returns
returns c = record { law = λ m n k h. ((λ t d. term_scoped m n k h d), (λ f d. formula_scoped m n k h d)) }
