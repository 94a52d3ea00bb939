-- Canonical programs and keys. Where instances are, all variables have values, so that each entry of their
-- contexts is a term of a monotype.
use Rattle.std.specs.Prelude.{◌≡◌, ℕ, List, [], ◌∷◌, map, replicate, Some, slice_get}
use Rattle.htt_syntax.specs.Trees.{MonoTree, TermTree, FixTree, t_val, t_fix}
use Rattle.theory_canonical.specs.Skeletons.{Skeleton, sk_o, sk_c, sk_arrow, sk_all, skeleton}
use Rattle.theory_canonical.specs.Contexts.{Standing, as_term, Heads}
use Rattle.theory_canonical.specs.Canonical.{IsCanonical, IsCanonicalMono, IsCanonicalFix}
use Rattle.theory_denotation.specs.Denotation.{ValTree}
use Rattle.theory_denotation_relations.specs.Files.{AreVals}
use Rattle.theory_instances.specs.Calls.{ProgramVal, Program, Argument, of_term, of_mono, head_ty}
use Rattle.theory_instances.specs.Keys.{Key}
use Rattle.theory_instances_passing.specs.Pinned.{IsFixed}

-- So many variables of monotypes.
abbrev pub values_context : ℕ → List Standing
values_context n = replicate n (as_term sk_o)

-- The values of a program, and for each key the made function that it may become.
abbrev pub heads_with : Program → List Key → Heads
heads_with p keys =
    record {
      vals = map (λ (v : ProgramVal). skeleton v.ty) p.vals;
      made = map (λ (k : Key). skeleton (head_ty p k.head)) keys;
    }

-- Each value is canonical where the values before it are the heads, and ends in a computation.
abbrev pub val_tree : ProgramVal → ValTree
val_tree v = record { term = v.term; skeleton = skeleton v.ty }

abbrev pub IsCanonicalProgram : Program → Type 0
IsCanonicalProgram p = AreVals [] (map val_tree p.vals)

-- Canonical fixed arguments of a function of this skeleton.
pub data CanonicalFixed (heads : Heads) (g : List Standing) : Skeleton → List Argument → Type 0 where
  fixed_end : CanonicalFixed heads g sk_c []
  fixed_value : {t : Skeleton} {fixed : List Argument}
      → CanonicalFixed heads g t fixed
      → CanonicalFixed heads g (sk_arrow sk_o t) fixed
  fixed_term : {s t : Skeleton} {term : TermTree} {fixed : List Argument}
      → IsFixed s
      → IsCanonical heads g term s
      → CanonicalFixed heads g t fixed
      → CanonicalFixed heads g (sk_arrow s t) (of_term term ∷ fixed)
  fixed_mono : {s : Skeleton} {mono : MonoTree} {fixed : List Argument}
      → IsCanonicalMono g mono
      → CanonicalFixed heads g s fixed
      → CanonicalFixed heads g (sk_all s) (of_mono mono ∷ fixed)

-- A key's head and fixed arguments are canonical under some number of variables.
pub data IsCanonicalKey (heads : Heads) (p : Program) (key : Key) : Type 0 where
  canonical_val : (m : ℕ) {n : ℕ} {v : ProgramVal}
      → key.head ≡ t_val n
      → slice_get p.vals n ≡ Some v
      → CanonicalFixed heads (values_context m) (skeleton v.ty) key.fixed
      → IsCanonicalKey heads p key
  canonical_fix : (m : ℕ) {at : ℕ} {fix : FixTree} {s : Skeleton}
      → key.head ≡ t_fix at fix
      → IsCanonicalFix heads (values_context m) s fix s
      → CanonicalFixed heads (values_context m) s key.fixed
      → IsCanonicalKey heads p key
