-- The skeleton that each value of the Rust type is, matched as the views of trees match theirs.
use Rattle.canonical_forms_skeletons.specs.declared.skeleton.Skeleton.{Skeleton, Arrow', All', more_of-Skeleton}
use Rattle.canonical_forms_skeletons.specs.declared.skeleton.Skeleton.{end_of-Skeleton}
use Rattle.canonical_forms_skeletons.specs.declared.skeleton.Skeleton.TheVariants as variant
use Rattle.theory_canonical.specs.Skeletons as theory

unfoldable pub skeleton_tree : Skeleton → theory.Skeleton
skeleton_tree variant.O = theory.sk_o
skeleton_tree variant.C = theory.sk_c
skeleton_tree (Arrow' pa (more_of-Skeleton a end_of-Skeleton) pb (more_of-Skeleton b end_of-Skeleton)) =
    theory.sk_arrow (skeleton_tree a) (skeleton_tree b)
skeleton_tree (All' pa (more_of-Skeleton a end_of-Skeleton)) = theory.sk_all (skeleton_tree a)
