-- The shape of a type whose monotypes are formed depends on the monotypes of its context alone, so that of a closed type on
-- none; and what is closed is formed in each context.
use Rattle.std.proofs.Common.{◌≡◌, ℕ, zero, suc, List, [], ◌∷◌, All, Some, None, map, refl, sym, ap, ◌∙◌, subst}
use Rattle.std.specs.Prelude.{slice_get}
use Rattle.std.proofs.lemmas.Option.{same_Some}
use Rattle.std.proofs.lemmas.List.Elements.{All-head, All-tail}
use Rattle.htt_syntax.specs.Trees.{MonoTree, TyTree, TermTree, m_pair, m_var}
use Rattle.theory_renaming.specs.Renaming.{rename_mono}
use Rattle.theory_renaming.proofs.Identity.{ty_stays, term_stays}
use Rattle.theory_truth.specs.Predicates.{RecTree}
use Rattle.theory_substitution.specs.Monotypes.{Filling, next_filling, fill_mono}
use Rattle.theory_typing.specs.Contexts.{Environment}
use Rattle.theory_formed_shapes.specs.Shapes.{Shape, sh_mono, sh_fun, sh_all, sh_comp, fill_shape, renaming_of, up_shape, dropping, shape_of, in_mono, in_term}
use Rattle.theory_formed_shapes.specs.Shapes.{Shapes, IsMonoAt, mono_further}
use Rattle.theory_formed_shapes.specs.Formed.{FileShapes, file_shapes, IsFormedMono, z_m_word, z_m_bool, z_m_loc, z_m_unit, z_m_pair, z_m_var, IsFormedTerm}
use Rattle.theory_formed_shapes.specs.Formed.{IsFormedTy, fill_monos, IsClosedFile}
use Rattle.theory_formed_shapes.specs.Laws.{FillsFormed}
use Rattle.theory_formed_shapes.proofs.Fillings.{shape_after, shape_kept, mono_kept}
use Rattle.theory_formed_shapes.proofs.Renamed.{term_renamed, ty_renamed}
use Rattle.theory_formed_shapes.specs.Environments.{FormsEnvironment}
use Rattle.theory_formed_shapes.proofs.Monos.{MonosFormed, mono_monos, fun_monos, all_monos, spec_monos}
use Rattle.theory_canonical.specs.Canonical.{IsCanonicalMono}
use Rattle.theory_typing_canonical.specs.Environments.{IsCanonicalEnvironment}
use Rattle.theory_formed_canonical.proofs.Bare.{environment_bare}
use Rattle.theory_formed_canonical.proofs.Monos.{canonical_mono, canonical_monos}

-- Two fillings agree at the monotypes of a context.
pub record AgreeAt (g : Shapes) (f k : Filling) : Type 0 where
  pub at : (n : ℕ) → IsMonoAt g n → f n ≡ k n

mono_agrees : {g : Shapes} {t : MonoTree} {f k : Filling} → IsFormedMono g t → AgreeAt g f k → fill_mono f t ≡ fill_mono k t
unfolding fill_mono
mono_agrees z_m_word a = refl
mono_agrees z_m_bool a = refl
mono_agrees z_m_loc a = refl
mono_agrees z_m_unit a = refl
mono_agrees (z_m_pair p q) a = λ j. m_pair (mono_agrees p a j) (mono_agrees q a j)
mono_agrees (z_m_var {index = index} d) a = a.at index d

agree_dropped : {g : Shapes} {f k : Filling} (s : Shape)
    → AgreeAt g f k
    → AgreeAt (in_term s ∷ g) (λ n. fill_mono f (dropping n)) (λ n. fill_mono k (dropping n))
unfolding fill_mono dropping
agree_dropped {g = g} {f = f} {k = k} s a = record { at = λ n d. go n s d }
  where
    go : (n : ℕ) (b : Shape) → IsMonoAt (in_term b ∷ g) n → fill_mono f (dropping n) ≡ fill_mono k (dropping n)
    go zero b d = elim d [ ]
    go (suc n) b (mono_further d) = a.at n d

agree_next : {g : Shapes} {f k : Filling} → AgreeAt g f k → AgreeAt (in_mono ∷ g) (next_filling f) (next_filling k)
unfolding next_filling
agree_next {g = g} {f = f} {k = k} a = record { at = go }
  where
    go : (n : ℕ) → IsMonoAt (in_mono ∷ g) n → next_filling f n ≡ next_filling k n
    go zero d = refl
    go (suc n) (mono_further d) = ap (rename_mono suc) (a.at n d)

shapes_agree : {g : Shapes} {A : TyTree} {f k : Filling}
    → MonosFormed g A
    → AgreeAt g f k
    → fill_shape f (shape_of A) ≡ fill_shape k (shape_of A)
unfolding fill_shape shape_of
shapes_agree (mono_monos m) a = ap sh_mono (mono_agrees m a)
shapes_agree {f = f} {k = k} (fun_monos {argument = argument} {answer = answer} d e) a =
    let first = shapes_agree d a in
    let second =
    shape_after dropping f (shape_of answer)
    ∙ shapes_agree e (agree_dropped (shape_of argument) a)
    ∙ sym (shape_after dropping k (shape_of answer)) in
    λ j. sh_fun (first j) (second j)
shapes_agree (all_monos d) a = ap sh_all (shapes_agree d (agree_next a))
shapes_agree (spec_monos m) a = ap sh_comp (mono_agrees m a)

-- the answer's type is in the context without the argument
pub up_dropped : {g : Shapes} {s : Shape} {A : TyTree}
    → MonosFormed (in_term s ∷ g) A
    → up_shape (fill_shape dropping (shape_of A)) ≡ shape_of A
unfolding fill_mono dropping
up_dropped {g = g} {s = s} {A = A} d =
    shape_after dropping (renaming_of suc) (shape_of A) ∙ shapes_agree d (record { at = λ n i. go n s i }) ∙ shape_kept (shape_of A)
  where
    go : (n : ℕ) (b : Shape) → IsMonoAt (in_term b ∷ g) n → fill_mono (renaming_of suc) (dropping n) ≡ m_var n
    go zero b i = elim i [ ]
    go (suc n) b i = refl

-- the file is closed
ty_fixed : (A : TyTree) (f : Filling) → MonosFormed [] A → fill_shape f (shape_of A) ≡ shape_of A
ty_fixed A f d = shapes_agree d (record { at = λ n i. elim i [ ] }) ∙ shape_kept (shape_of A)

monos_fixed : (ts : List MonoTree) (f : Filling) → All (IsFormedMono []) ts → fill_monos f ts ≡ ts
monos_fixed [] f d = refl
monos_fixed (t ∷ ts) f d = λ j.
    (mono_agrees {f = f} {k = λ n. m_var n} (All-head (IsFormedMono []) t ts d) (record { at = λ n i. elim i [ ] }) ∙ mono_kept t) j ∷
    monos_fixed ts f (All-tail (IsFormedMono []) t ts d) j

no_element : {A : Type 0} {x : A} → None ≡ Some x → ⊥
no_element q = cc

pub map_get : {A B : Type 0} (f : A → B) (xs : List A) (n : ℕ) (x : A) → slice_get xs n ≡ Some x → slice_get (map f xs) n ≡ Some (f x)
map_get f [] n x q = absurd (no_element q)
map_get f (y ∷ xs) zero x q = ap (λ z. Some (f z)) (same_Some y x q)
map_get f (y ∷ xs) (suc n) x q = map_get f xs n x q

-- what a mapped list has is of an element
pub record Mapped {A B : Type 0} (f : A → B) (xs : List A) (n : ℕ) (y : B) : Type 0 where
  pub of : A
  pub found : slice_get xs n ≡ Some of
  pub is : f of ≡ y

pub mapped : {A B : Type 0} (f : A → B) (xs : List A) (n : ℕ) (y : B) → slice_get (map f xs) n ≡ Some y → Mapped f xs n y
mapped f [] n y q = absurd (no_element q)
mapped f (x ∷ xs) zero y q = record { of = x; found = refl; is = same_Some (f x) y q }
mapped f (x ∷ xs) (suc n) y q = let o = mapped f xs n y q in record { of = o.of; found = o.found; is = o.is }

monos_canonical : (ts : List MonoTree) → All (IsCanonicalMono []) ts → All (IsFormedMono []) ts
monos_canonical ts d = λ k t l. canonical_mono [] (d k t l)

pub canonical_closed : {env : Environment} → IsCanonicalEnvironment env → IsClosedFile (file_shapes env)
canonical_closed {env = env} known = record {
  vals = λ n s q f.
      let o = mapped shape_of env.vals n s q in
      subst (λ (a : Shape). fill_shape f a ≡ a) o.is (ty_fixed o.of f (canonical_monos [] (known.val_types n o.of o.found)));
  captured = λ n m q f. absurd (no_element q);
  made = λ n m q f. absurd (no_element q);
  recs = λ n ts q f.
      let o = mapped (λ (r : RecTree). r.params) env.recs n ts q in
      subst (λ (a : List MonoTree). fill_monos f a ≡ a) o.is (monos_fixed o.of.params f (monos_canonical o.of.params (known.rec_params n o.of o.found)));
}

pub file_closed : {env : Environment} → FormsEnvironment env → IsClosedFile (file_shapes env)
file_closed {env = env} known = canonical_closed (environment_bare env known)

-- what is closed is formed in each context
none_fills : (g : Shapes) → FillsFormed (renaming_of (λ n. n)) (λ n. n) [] g
none_fills g = record { monos = λ n d. elim d [ ]; heaps = λ n d. elim d [ ]; terms = λ n s d. elim d [ ] }

pub closed_ty : {file : FileShapes} (g : Shapes) {A : TyTree} → IsFormedTy file [] A → IsClosedFile file → IsFormedTy file g A
closed_ty {file = file} g {A = A} d c = subst (IsFormedTy file g) (ty_stays (λ n. n) (λ n. refl) A) (ty_renamed d c (none_fills g))

pub closed_term : {file : FileShapes} (g : Shapes) {M : TermTree} {s : Shape} → IsFormedTerm file [] M s → IsClosedFile file → IsFormedTerm file g M s
closed_term {file = file} g {M = M} {s = s} d c =
    subst (IsFormedTerm file g M) (shape_kept s)
    (subst (λ (N : TermTree). IsFormedTerm file g N (fill_shape (renaming_of (λ n. n)) s)) (term_stays (λ n. n) (λ n. refl) M)
    (term_renamed d c (none_fills g)))

pub closed_mono : (g : Shapes) {t : MonoTree} → IsFormedMono [] t → IsFormedMono g t
closed_mono g z_m_word = z_m_word
closed_mono g z_m_bool = z_m_bool
closed_mono g z_m_loc = z_m_loc
closed_mono g z_m_unit = z_m_unit
closed_mono g (z_m_pair p q) = z_m_pair (closed_mono g p) (closed_mono g q)
closed_mono g (z_m_var d) = elim d [ ]
