use Rattle.std.proofs.Common.{◌≡◌, ◌+◌, ◌≤◌, length, take}
use Rattle.theory_text_names.specs.Scopes.{hypotheses}
use Rattle.htt_resolve_scopes.specs.Views.{innermost_first}
use Rattle.htt_resolve_scopes.proofs.uses.hypotheses.Given as goal

-- those so far are counted
abbrev pub invariant-outward : goal.invariant-outward
invariant-outward l =
    (hypotheses (innermost_first l.fn.locals) ≡ l.counted + hypotheses (innermost_first (take l.left l.fn.locals)))
    × (l.counted + l.left ≤ length l.fn.locals)

abbrev pub decreases-outward : goal.decreases-outward
decreases-outward l = l.left
