-- Whether two skeletons are the same, by cases. The contract of the call says that it is equality.
use Rattle.std.specs.Prelude.{Bool, true, false, ◌&&◌}
use Rattle.theory_canonical.specs.Skeletons.{Skeleton, sk_o, sk_c, sk_arrow, sk_all}

unfoldable pub same_skeletons : Skeleton → Skeleton → Bool
same_skeletons sk_o sk_o = true
same_skeletons sk_c sk_c = true
same_skeletons (sk_arrow s t) (sk_arrow u v) = same_skeletons s u && same_skeletons t v
same_skeletons (sk_all s) (sk_all t) = same_skeletons s t
same_skeletons _ _ = false
