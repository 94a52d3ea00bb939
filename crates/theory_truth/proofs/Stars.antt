-- A star is true exactly where two disjoint parts make its formulas true.
use Rattle.std.proofs.Common.{ℕ}
use Rattle.htt_syntax.specs.Trees.{FormulaTree}
use Rattle.theory_truth.specs.Worlds.{World, heap_at}
use Rattle.theory_truth.specs.Truth.{NotNot, Recs, Holds}
use Rattle.theory_truth.specs.Predicates.{recs_of}
use Rattle.theory_truth.specs.Laws.{star, Split, StarIsSplit}

star_splits : (R : Recs) (w : World) (h : ℕ) (F G : FormulaTree) → Holds R w (star h F G) → NotNot (Split R w (heap_at w h) F G)
unfolding Holds
star_splits R w h F G holds deny =
    holds (λ a.
    a.2 (λ b.
    deny
    (record { left = a.0; right = b.0; left_is_heap = a.1; right_is_heap = b.1; parts = b.2.0; in_left = b.2.1.0; in_right = b.2.1.1 })))

split_is_star : (R : Recs) (w : World) (h : ℕ) (F G : FormulaTree) → NotNot (Split R w (heap_at w h) F G) → Holds R w (star h F G)
unfolding Holds
split_is_star R w h F G splits deny = splits (λ s. deny (s.left, s.left_is_heap, λ k. k (s.right, s.right_is_heap, (s.parts, (s.in_left, s.in_right)))))

pub stars : StarIsSplit
stars = record { star_is_split = λ table w h F G. (star_splits (recs_of table) w h F G, split_is_star (recs_of table) w h F G) }
