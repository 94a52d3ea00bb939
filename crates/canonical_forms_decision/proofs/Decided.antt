-- What the cases say is what is canonical.
use Rattle.std.proofs.Common.{◌≡◌, List, Bool, true, Result, Ok, Err, IfOk, sym, ◌∙◌, ◌↔◌}
use Rattle.htt_syntax.specs.Trees.{TermTree}
use Rattle.theory_canonical.specs.Skeletons.{Skeleton}
use Rattle.theory_canonical.specs.Contexts.{Standing, Heads}
use Rattle.theory_canonical.specs.Canonical.{IsCanonical}
use Rattle.theory_canonical_decided.specs.Decision.{term_is_canonical}
use Rattle.theory_canonical_decided.proofs.Sound.{term_sound}
use Rattle.theory_canonical_decided.proofs.Complete.{term_complete}

pub decided : {E : Type 0} (r : Result Bool E) (h k : Heads) (g l : List Standing) (term : TermTree) (s : Skeleton)
    → k ≡ h
    → l ≡ g
    → IfOk r (λ b. b ≡ term_is_canonical k l term s)
    → IfOk r (λ b. (b ≡ true) ↔ IsCanonical h g term s)
decided (Err x) h k g l term s heads standings is = is
decided (Ok b) h k g l term s heads standings is =
    let e : b ≡ term_is_canonical h g term s = is ∙ (λ j. term_is_canonical (heads j) (standings j) term s) in
    (λ yes. term_sound h term g s (sym e ∙ yes), λ yes. e ∙ term_complete h yes)
