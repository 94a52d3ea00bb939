-- What an entry of a context, and a skeleton that is told or not, may be used for.
use Rattle.std.specs.Prelude.{Bool, true, false, Option, Some, None}
use Rattle.htt_syntax.specs.Trees.{TermTree}
use Rattle.theory_canonical.specs.Skeletons.{Skeleton, sk_o, sk_c, sk_arrow, sk_all}
use Rattle.theory_canonical.specs.Contexts.{Standing, as_mono, as_heap, as_open, as_term}

-- Whether an entry, if there is one, may be used as a monotype, and as a heap.
abbrev pub serves_as_mono : Option Standing → Bool
serves_as_mono (Some as_mono) = true
serves_as_mono (Some as_open) = true
serves_as_mono _ = false

abbrev pub serves_as_heap : Option Standing → Bool
serves_as_heap (Some as_heap) = true
serves_as_heap (Some as_open) = true
serves_as_heap _ = false

-- The skeleton with which it may be used as a term.
abbrev pub skeleton_of_entry : Option Standing → Option Skeleton
skeleton_of_entry (Some as_open) = Some sk_o
skeleton_of_entry (Some (as_term s)) = Some s
skeleton_of_entry _ = None

abbrev pub is_o : Skeleton → Bool
is_o sk_o = true
is_o _ = false

abbrev pub is_told_o : Option Skeleton → Bool
is_told_o (Some s) = is_o s
is_told_o None = false

abbrev pub is_told_c : Option Skeleton → Bool
is_told_c (Some sk_c) = true
is_told_c _ = false

-- nothing is folded
abbrev pub is_kept : Option TermTree → Bool
is_kept None = true
is_kept (Some term) = false

abbrev pub told_if : Bool → Option Skeleton → Option Skeleton
told_if true s = s
told_if false s = None

-- The skeleton of an application, whose argument is tested at the skeleton that the function tells, and that of an
-- instance.
abbrev pub of_application : Option Skeleton → (Skeleton → Bool) → Option Skeleton
of_application (Some (sk_arrow s t)) test = told_if (test s) (Some t)
of_application _ test = None

abbrev pub of_instance : Option Skeleton → Option Skeleton
of_instance (Some (sk_all s)) = Some s
of_instance _ = None
