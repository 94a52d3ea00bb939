-- What is to be canonical, so that what the typing rules give is canonical: the types of the values, the
-- types and terms of the definitions, the monotypes of predicates and the type of each entry.
use Rattle.std.specs.Prelude.{◌≡◌, ℕ, zero, suc, List, [], ◌∷◌, Some, All, map, slice_get}
use Rattle.htt_syntax.specs.Trees.{MonoTree, TyTree, TermTree}
use Rattle.theory_truth.specs.Predicates.{RecTree}
use Rattle.theory_canonical.specs.Skeletons.{sk_o, skeleton}
use Rattle.theory_canonical.specs.Contexts.{Standing, as_mono, as_heap, as_term, Heads}
use Rattle.theory_canonical.specs.Canonical.{IsCanonicalMono, IsCanonical, IsCanonicalTy}
use Rattle.theory_typing.specs.Contexts.{EntryTree, en_mono, en_heap, en_term, Context, Environment}

-- what canonical trees are told of an entry, and of a context
abbrev pub standing : EntryTree → Standing
standing en_mono = as_mono
standing en_heap = as_heap
standing (en_term ty) = as_term (skeleton ty)

abbrev pub standings : Context → List Standing
standings g = map standing g

-- the heads of an environment: its values, and no made function
abbrev pub heads_of : Environment → Heads
heads_of env = record { vals = map skeleton env.vals; made = [] }

pub record IsCanonicalEnvironment (env : Environment) : Type 0 where
  pub val_types : (number : ℕ) (ty : TyTree) → slice_get env.vals number ≡ Some ty → IsCanonicalTy (heads_of env) [] ty
  pub def_types : (number : ℕ) (definition : TyTree × TermTree)
      → slice_get env.defs number ≡ Some definition
      → IsCanonicalTy (heads_of env) [] (definition.0)
  pub def_terms : (number : ℕ) (definition : TyTree × TermTree)
      → slice_get env.defs number ≡ Some definition
      → IsCanonical (heads_of env) [] (definition.1) (skeleton (definition.0))
  pub rec_params : (number : ℕ) (r : RecTree) → slice_get env.recs number ≡ Some r → All (IsCanonicalMono []) r.params

-- the type of each entry stands under the entries further out
pub data IsCanonicalContext (heads : Heads) : Context → Type 0 where
  no_entry : IsCanonicalContext heads []
  mono_entry : {g : Context} → IsCanonicalContext heads g → IsCanonicalContext heads (en_mono ∷ g)
  heap_entry : {g : Context} → IsCanonicalContext heads g → IsCanonicalContext heads (en_heap ∷ g)
  term_entry : {g : Context} {ty : TyTree}
      → IsCanonicalContext heads g
      → IsCanonicalTy heads (standings g) ty
      → IsCanonicalContext heads (en_term ty ∷ g)

-- the context of a state: the heaps init and mem, mem the innermost
abbrev pub at_state : List Standing → List Standing
at_state g = as_heap ∷ as_heap ∷ g

-- a context with so many variables of monotypes more
unfoldable pub with_values : ℕ → List Standing → List Standing
with_values zero g = g
with_values (suc n) g = as_term sk_o ∷ with_values n g

-- each of these monotypes stands under those before it, of which there are i
unfoldable pub IsCanonicalRow : ℕ → List Standing → List MonoTree → Type 0
IsCanonicalRow i g [] = Unit {0}
IsCanonicalRow i g (z ∷ zs) = IsCanonicalMono (with_values i g) z × IsCanonicalRow (suc i) g zs
