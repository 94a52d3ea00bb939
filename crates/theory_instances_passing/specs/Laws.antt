-- Where a recursive function passes its fixed parameters on, its body can't tell it from the function whose
-- fixed parameters are pinned to the arguments.
use Rattle.std.specs.Prelude.{◌≡◌, ℕ, List}
use Rattle.htt_syntax.specs.Trees.{FixTree, t_fix}
use Rattle.theory_canonical.specs.Skeletons.{Skeleton}
use Rattle.theory_canonical.specs.Contexts.{Standing, Heads}
use Rattle.theory_canonical.specs.Canonical.{IsCanonicalFix}
use Rattle.theory_denotation.specs.Valuations.{Domain, den_term, Valuation, HeadEntries}
use Rattle.theory_denotation.specs.Denotation.{fix_den}
use Rattle.theory_denotation.specs.Valued.{ContextValued, HeadsValued}
use Rattle.theory_instances.specs.Varying.{NeverVaries}
use Rattle.theory_instances_passing.specs.Pinned.{AtEach, GivenArgument, pinned, applied_to, Splits}

abbrev pub PassingOnAgrees : Type 0
PassingOnAgrees =
    (heads : Heads) (e : HeadEntries) (g : List Standing) (w : Valuation)
    → HeadsValued heads e
    → ContextValued g w
    → (at : ℕ) (fix : FixTree) (s : Skeleton)
    → IsCanonicalFix heads g s fix s
    → NeverVaries (t_fix at fix)
    → (own : Domain s) (arguments : List GivenArgument) (set : List AtEach)
    → Splits s arguments set
    → applied_to (den_term s (fix_den e w (den_term s own) fix s)) arguments
    ≡ applied_to (den_term s (fix_den e w (den_term s (pinned s set own)) fix s)) arguments
