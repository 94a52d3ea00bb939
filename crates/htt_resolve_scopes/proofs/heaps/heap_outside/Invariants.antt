use Rattle.std.proofs.Common.{◌≡◌, ◌+◌, ◌≤◌, length, take}
use Rattle.theory_text_names.specs.Uses.{heap_outside}
use Rattle.htt_resolve_scopes.specs.Views.{innermost_first, is_of}
use Rattle.htt_resolve_scopes.proofs.heaps.heap_outside.Given as goal

-- the heap is one of those that are left
abbrev pub invariant-outward : goal.invariant-outward
invariant-outward l =
    (heap_outside (is_of l.word) l.fn.over 0 (innermost_first l.fn.locals)
    ≡ heap_outside (is_of l.word) l.over_left l.inside (innermost_first (take l.left l.fn.locals)))
    × (l.inside + l.left ≤ length l.fn.locals)

abbrev pub decreases-outward : goal.decreases-outward
decreases-outward l = l.left
