-- The values of a file: each is canonical where the values before it are the heads, and ends in a
-- computation.
use Rattle.std.specs.Prelude.{List, [], ◌∷◌, ◌++◌}
use Rattle.theory_canonical.specs.Skeletons.{Skeleton}
use Rattle.theory_canonical.specs.Contexts.{Heads}
use Rattle.theory_canonical.specs.Canonical.{IsCanonical}
use Rattle.theory_denotation.specs.Denotation.{ValTree}
use Rattle.theory_denotation.specs.Valued.{EndsInRun}

abbrev pub heads_of_skeletons : List Skeleton → Heads
heads_of_skeletons before = record { vals = before; made = [] }

pub data AreVals : List Skeleton → List ValTree → Type 0 where
  vals_end : {before : List Skeleton} → AreVals before []
  vals_more : {before : List Skeleton} {v : ValTree} {vs : List ValTree}
      → IsCanonical (heads_of_skeletons before) [] v.term v.skeleton
      → EndsInRun v.skeleton
      → AreVals (before ++ (v.skeleton ∷ [])) vs
      → AreVals before (v ∷ vs)

-- The skeletons of the values so far and of these.
abbrev pub skeletons_after : List Skeleton → List ValTree → List Skeleton
skeletons_after before [] = before
skeletons_after before (v ∷ vs) = skeletons_after (before ++ (v.skeleton ∷ [])) vs

abbrev pub heads_of_file : List ValTree → Heads
heads_of_file vs = heads_of_skeletons (skeletons_after [] vs)
