-- Canonical trees are steady, and recursive functions unfold.
use Rattle.theory_denotation.specs.Recursion.{entered, recursion}
use Rattle.theory_denotation_unfolding.specs.Laws.{CanonicalIsSteady, turn, RecursionsUnfold}
use Rattle.theory_denotation_unfolding.proofs.Recursions.{unfolding_agrees, same_steadily}
use Rattle.theory_denotation_unfolding.proofs.Agreed.{fix_runs, term_agrees, fix_agrees, comp_agrees}

pub canonical_steady : CanonicalIsSteady
canonical_steady = record {
  terms = λ bound heads e e' g w w' h r term s c. term_agrees bound c h r;
  computations = λ bound heads e e' g w w' h r comp c. comp_agrees bound c h r;
  steady = λ heads e g w h r term s c bound. term_agrees bound c (h bound) (r bound);
}

pub unfolds : RecursionsUnfold
unfolds heads e g w h r fix s c =
    same_steadily s (recursion s (turn e w fix s)) (entered s (turn e w fix s (recursion s (turn e w fix s))))
    (λ b. unfolding_agrees (fix_runs c) b (turn e w fix s) (turn e w fix s) (λ k l x y q. fix_agrees k c x y q (h k) (r k)))
