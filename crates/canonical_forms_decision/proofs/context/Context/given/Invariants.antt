use Rattle.std.proofs.Common.{◌≡◌, map, take}
use Rattle.theory_canonical.specs.Contexts.{standing_of}
use Rattle.canonical_forms_skeletons.specs.Views.{skeleton_tree}
use Rattle.canonical_forms_decision.specs.Views.{standing}
use Rattle.canonical_forms_decision.proofs.context.Context.given.Given as goal

abbrev pub invariant-loop-skeleton : goal.invariant-loop-skeleton
invariant-loop-skeleton l = map standing l.entries.items ≡ map (λ s. standing_of (skeleton_tree s)) (take l.skeleton-index l.skeletons)
