-- The view of a skeleton, one level at a time: an equation for each variant.
use Rattle.std.specs.Prelude.{◌≡◌, refl, ⊤}
use Rattle.canonical_forms_skeletons.specs.declared.skeleton.Skeleton.{Skeleton}
use Rattle.canonical_forms_skeletons.specs.declared.skeleton.Skeleton.TheBlock as block
use Rattle.canonical_forms_skeletons.specs.declared.skeleton.Skeleton.TheVariants as variant
use Rattle.theory_canonical.specs.Skeletons.{sk_o, sk_c, sk_arrow, sk_all}
use Rattle.canonical_forms_skeletons.specs.Views.{skeleton_tree}

-- All that the equations below compute with.
generated : Type 0
unfolding skeleton_tree block.hidden-the_row-Skeleton-0 denote.Hole.Carrier.hidden
generated = ⊤

pub skeleton_o : skeleton_tree variant.O ≡ sk_o
unfolding generated
skeleton_o = refl

pub skeleton_c : skeleton_tree variant.C ≡ sk_c
unfolding generated
skeleton_c = refl

pub skeleton_arrow : (a b : Skeleton) → skeleton_tree (variant.Arrow a b) ≡ sk_arrow (skeleton_tree a) (skeleton_tree b)
unfolding generated
skeleton_arrow a b = refl

pub skeleton_all : (a : Skeleton) → skeleton_tree (variant.All a) ≡ sk_all (skeleton_tree a)
unfolding generated
skeleton_all a = refl

pub ruleset skeleton_levels = (skeleton_o, skeleton_c, skeleton_arrow, skeleton_all)
