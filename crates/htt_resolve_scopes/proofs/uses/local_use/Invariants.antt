use Rattle.std.proofs.Common.{◌≡◌, ◌+◌, ◌≤◌, length, take}
use Rattle.theory_text_names.specs.Uses.{local_use}
use Rattle.htt_resolve_scopes.specs.Views.{innermost_first}
use Rattle.htt_resolve_scopes.proofs.uses.local_use.Given as goal

-- the innermost local of this name is one of those that are left
abbrev pub invariant-outward : goal.invariant-outward
invariant-outward l =
    (local_use l.name 0 (innermost_first l.fn.locals) ≡ local_use l.name l.inside (innermost_first (take l.left l.fn.locals)))
    × (l.inside + l.left ≤ length l.fn.locals)

abbrev pub decreases-outward : goal.decreases-outward
decreases-outward l = l.left
