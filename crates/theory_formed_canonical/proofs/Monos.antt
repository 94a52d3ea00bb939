-- A canonical type's monotypes are formed, whatever its formulas are.
use Rattle.std.proofs.Common.{ℕ, zero, suc, List, [], ◌∷◌}
use Rattle.htt_syntax.specs.Trees.{MonoTree, TyTree}
use Rattle.theory_canonical.specs.Skeletons.{Skeleton, skeleton}
use Rattle.theory_canonical.specs.Contexts.{Standing, as_mono, as_heap, as_term, Stands, there, Heads}
use Rattle.theory_canonical.specs.Canonical.{IsCanonicalMono, n_m_word, n_m_bool, n_m_loc, n_m_unit, n_m_pair, n_m_var, IsCanonicalTy, n_mono, n_fun, n_all}
use Rattle.theory_canonical.specs.Canonical.{n_hoare, n_triple}
use Rattle.theory_typing.specs.Contexts.{en_mono, en_heap, en_term, Context}
use Rattle.theory_typing_canonical.specs.Environments.{standings}
use Rattle.theory_formed_shapes.specs.Shapes.{Shape, shape_of, in_mono, in_heap, in_term, Shapes, IsMonoAt, mono_at_zero, mono_further, shapes_of}
use Rattle.theory_formed_shapes.specs.Formed.{IsFormedMono, z_m_word, z_m_bool, z_m_loc, z_m_unit, z_m_pair, z_m_var}
use Rattle.theory_formed_shapes.proofs.Monos.{MonosFormed, mono_monos, fun_monos, all_monos, spec_monos}

-- The variables that stand as monotypes are monotypes.
record MonosStand (c : List Standing) (g : Shapes) : Type 0 where
  pub at : (n : ℕ) → Stands c n as_mono → IsMonoAt g n

under_mono : {c : List Standing} {g : Shapes} → MonosStand c g → MonosStand (as_mono ∷ c) (in_mono ∷ g)
under_mono {c = c} {g = g} k = record { at = go }
  where
    go : (n : ℕ) → Stands (as_mono ∷ c) n as_mono → IsMonoAt (in_mono ∷ g) n
    go zero d = mono_at_zero
    go (suc n) (there d) = mono_further (k.at n d)

under_heap : {c : List Standing} {g : Shapes} → MonosStand c g → MonosStand (as_heap ∷ c) (in_heap ∷ g)
under_heap {c = c} {g = g} k = record { at = go }
  where
    go : (n : ℕ) → Stands (as_heap ∷ c) n as_mono → IsMonoAt (in_heap ∷ g) n
    go zero d = elim d [ ]
    go (suc n) (there d) = mono_further (k.at n d)

under_term : {c : List Standing} {g : Shapes} (s : Skeleton) (a : Shape) → MonosStand c g → MonosStand (as_term s ∷ c) (in_term a ∷ g)
under_term {c = c} {g = g} s a k = record { at = go }
  where
    go : (n : ℕ) → Stands (as_term s ∷ c) n as_mono → IsMonoAt (in_term a ∷ g) n
    go zero d = elim d [ ]
    go (suc n) (there d) = mono_further (k.at n d)

monos_stand : (g : Context) → MonosStand (standings g) (shapes_of g)
monos_stand [] = record { at = λ n d. elim d [ ] }
monos_stand (en_mono ∷ g) = under_mono (monos_stand g)
monos_stand (en_heap ∷ g) = under_heap (monos_stand g)
monos_stand (en_term ty ∷ g) = under_term (skeleton ty) (shape_of ty) (monos_stand g)

mono_formed : {c : List Standing} {g : Shapes} {t : MonoTree} → IsCanonicalMono c t → MonosStand c g → IsFormedMono g t
mono_formed n_m_word k = z_m_word
mono_formed n_m_bool k = z_m_bool
mono_formed n_m_loc k = z_m_loc
mono_formed n_m_unit k = z_m_unit
mono_formed (n_m_pair p q) k = z_m_pair (mono_formed p k) (mono_formed q k)
mono_formed (n_m_var {index = index} d) k = z_m_var (k.at index d)

monos_formed : {heads : Heads} {c : List Standing} {g : Shapes} {A : TyTree} → IsCanonicalTy heads c A → MonosStand c g → MonosFormed g A
monos_formed (n_mono m) k = mono_monos (mono_formed m k)
monos_formed (n_fun {argument = argument} {s = s} d q e) k = fun_monos (monos_formed d k) (monos_formed e (under_term s (shape_of argument) k))
monos_formed (n_all d) k = all_monos (monos_formed d (under_mono k))
monos_formed (n_hoare (n_triple p m q)) k = spec_monos (mono_formed m k)

-- in a context of the typing rules
pub canonical_mono : (g : Context) {t : MonoTree} → IsCanonicalMono (standings g) t → IsFormedMono (shapes_of g) t
canonical_mono g d = mono_formed d (monos_stand g)

pub canonical_monos : (g : Context) {heads : Heads} {A : TyTree} → IsCanonicalTy heads (standings g) A → MonosFormed (shapes_of g) A
canonical_monos g d = monos_formed d (monos_stand g)
