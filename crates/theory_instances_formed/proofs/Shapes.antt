-- Closed shapes, and contexts of variables that have values.
use Rattle.std.proofs.Common.{◌≡◌, ℕ, zero, suc, List, [], ◌∷◌, All, Some, None, slice_get, refl, sym, ap, ◌∙◌, subst}
use Rattle.std.proofs.lemmas.List.Elements.{All-head, All-tail}
use Rattle.std.proofs.lemmas.Option.{same_Some}
use Rattle.htt_syntax.specs.Trees.{MonoTree, TyTree, m_word, m_bool, m_loc, m_unit, m_pair, m_var}
use Rattle.theory_renaming.specs.Renaming.{Map, rename_mono}
use Rattle.theory_values.specs.Values.{IsClosed, closed_word, closed_bool, closed_loc, closed_unit, closed_pair}
use Rattle.theory_substitution.specs.Monotypes.{Filling, next_filling, fill_mono}
use Rattle.theory_formed_shapes.specs.Shapes.{Shape, sh_mono, sh_fun, sh_all, sh_comp, fill_shape, renaming_of, up_shape, dropping, first_filled, shape_of, in_mono, in_term, Shapes, IsMonoAt}
use Rattle.theory_formed_shapes.specs.Shapes.{mono_further, IsHeapAt, heap_further, HasShape, shape_here, shape_there}
use Rattle.theory_formed_shapes.specs.Formed.{IsFormedMono, z_m_word, z_m_bool, z_m_loc, z_m_unit, z_m_pair, z_m_var}
use Rattle.theory_formed_shapes.specs.Laws.{FillsFormed}
use Rattle.theory_formed_shapes.proofs.Fillings.{mono_renamed, first_and_filled, shape_after, shape_kept}
use Rattle.theory_formed_shapes.proofs.Monos.{MonosFormed, mono_monos, fun_monos, all_monos, spec_monos}
use Rattle.theory_formed_met.specs.Laws.{CarriesEntry}
use Rattle.theory_instances_formed.specs.Formed.{values_shapes}

-- no filling changes it
abbrev pub IsClosedShape : Shape → Type 0
IsClosedShape s = (f : Filling) → fill_shape f s ≡ s

pub closed_filled : (f : Filling) {t : MonoTree} → IsClosed t → fill_mono f t ≡ t
unfolding fill_mono
closed_filled f closed_word = refl
closed_filled f closed_bool = refl
closed_filled f closed_loc = refl
closed_filled f closed_unit = refl
closed_filled f (closed_pair a b) = λ j. m_pair (closed_filled f a j) (closed_filled f b j)

pub closed_renamed : (m : Map) {t : MonoTree} → IsClosed t → rename_mono m t ≡ t
closed_renamed m {t = t} c = sym (mono_renamed m t) ∙ closed_filled (renaming_of m) c

all_words : (t : MonoTree) → IsClosed (fill_mono (λ n. m_word) t)
unfolding fill_mono
all_words m_word = closed_word
all_words m_bool = closed_bool
all_words m_loc = closed_loc
all_words m_unit = closed_unit
all_words (m_pair t u) = closed_pair (all_words t) (all_words u)
all_words (m_var index) = closed_word

-- the parts of a shape
abbrev mono_in : Shape → MonoTree
mono_in (sh_mono t) = t
mono_in (sh_comp t) = t
mono_in s = m_unit

abbrev argument_in : Shape → Shape
argument_in (sh_fun a b) = a
argument_in s = s

abbrev answer_in : Shape → Shape
answer_in (sh_fun a b) = b
answer_in s = s

abbrev body_in : Shape → Shape
body_in (sh_all s) = s
body_in s = s

pub closed_value : {t : MonoTree} → IsClosedShape (sh_mono t) → IsClosed t
unfolding fill_shape
closed_value {t = t} c = subst IsClosed (ap mono_in (c (λ n. m_word))) (all_words t)

pub closed_result : {t : MonoTree} → IsClosedShape (sh_comp t) → IsClosed t
unfolding fill_shape
closed_result {t = t} c = subst IsClosed (ap mono_in (c (λ n. m_word))) (all_words t)

pub closed_argument : {a b : Shape} → IsClosedShape (sh_fun a b) → IsClosedShape a
unfolding fill_shape
closed_argument c = λ f. ap argument_in (c f)

pub closed_answer : {a b : Shape} → IsClosedShape (sh_fun a b) → IsClosedShape b
unfolding fill_shape
closed_answer c = λ f. ap answer_in (c f)

pub closed_instance : {s : Shape} {t : MonoTree} → IsClosedShape (sh_all s) → IsClosed t → IsClosedShape (fill_shape (first_filled t) s)
unfolding fill_shape
closed_instance {s = s} {t = t} c k = λ f.
    first_and_filled f t s ∙ ap (λ (u : MonoTree). fill_shape (first_filled u) (fill_shape (next_filling f) s)) (closed_filled f k)
    ∙ ap (λ (a : Shape). fill_shape (first_filled t) a) (ap body_in (c f))

pub value_closed : {t : MonoTree} → IsClosed t → IsClosedShape (sh_mono t)
unfolding fill_shape
value_closed c = λ f. ap sh_mono (closed_filled f c)

-- ---- contexts of values

pub no_mono : (ts : List MonoTree) (n : ℕ) → IsMonoAt (values_shapes ts) n → ⊥
no_mono [] n d = elim d [ ]
no_mono (t ∷ ts) zero d = elim d [ ]
no_mono (t ∷ ts) (suc n) (mono_further d) = no_mono ts n d

pub no_heap : (ts : List MonoTree) (n : ℕ) → IsHeapAt (values_shapes ts) n → ⊥
no_heap [] n d = elim d [ ]
no_heap (t ∷ ts) zero d = elim d [ ]
no_heap (t ∷ ts) (suc n) (heap_further d) = no_heap ts n d

pub formed_closed : (ts : List MonoTree) {t : MonoTree} → IsFormedMono (values_shapes ts) t → IsClosed t
formed_closed ts z_m_word = closed_word
formed_closed ts z_m_bool = closed_bool
formed_closed ts z_m_loc = closed_loc
formed_closed ts z_m_unit = closed_unit
formed_closed ts (z_m_pair a b) = closed_pair (formed_closed ts a) (formed_closed ts b)
formed_closed ts (z_m_var {index = index} d) = absurd (no_mono ts index d)

pub closed_formed : (g : Shapes) {t : MonoTree} → IsClosed t → IsFormedMono g t
closed_formed g closed_word = z_m_word
closed_formed g closed_bool = z_m_bool
closed_formed g closed_loc = z_m_loc
closed_formed g closed_unit = z_m_unit
closed_formed g (closed_pair a b) = z_m_pair (closed_formed g a) (closed_formed g b)

none_some : {A : Type 0} {x : A} → None ≡ Some x → ⊥
none_some q = cc

-- the entry of a variable
pub values_get : (ts : List MonoTree) (n : ℕ) (t : MonoTree)
    → All IsClosed ts
    → slice_get ts n ≡ Some t
    → HasShape (values_shapes ts) n (sh_mono t)
values_get [] n t c q = absurd (none_some q)
values_get (u ∷ ts) zero t c q =
    subst (λ (x : MonoTree). HasShape (in_term (sh_mono u) ∷ values_shapes ts) zero (sh_mono x)) (same_Some u t q)
    (subst (HasShape (in_term (sh_mono u) ∷ values_shapes ts) zero) (value_closed (All-head IsClosed u ts c) (renaming_of suc)) shape_here)
values_get (u ∷ ts) (suc n) t c q =
    let d = values_get ts n t (All-tail IsClosed u ts c) q in
    subst (HasShape (in_term (sh_mono u) ∷ values_shapes ts) (suc n)) (value_closed (get_closed ts n t (All-tail IsClosed u ts c) q) (renaming_of suc))
    (shape_there d)
  where
    get_closed : (ts : List MonoTree) (n : ℕ) (t : MonoTree) → All IsClosed ts → slice_get ts n ≡ Some t → IsClosed t
    get_closed [] n t c q = absurd (none_some q)
    get_closed (u ∷ ts) zero t c q = subst IsClosed (same_Some u t q) (All-head IsClosed u ts c)
    get_closed (u ∷ ts) (suc n) t c q = get_closed ts n t (All-tail IsClosed u ts c) q

pub record ValueAt (ts : List MonoTree) (n : ℕ) (s : Shape) : Type 0 where
  pub mono : MonoTree
  pub there : slice_get ts n ≡ Some mono
  pub closed : IsClosed mono
  pub is : s ≡ sh_mono mono

pub value_at : (ts : List MonoTree) {n : ℕ} {s : Shape} → All IsClosed ts → HasShape (values_shapes ts) n s → ValueAt ts n s
value_at [] c d = elim d [ ]
value_at (t ∷ ts) c shape_here =
    let k = All-head IsClosed t ts c in record { mono = t; there = refl; closed = k; is = value_closed k (renaming_of suc) }
value_at (t ∷ ts) c (shape_there d) =
    let r = value_at ts (All-tail IsClosed t ts c) d in
    record { mono = r.mono; there = r.there; closed = r.closed; is = ap up_shape r.is ∙ value_closed r.closed (renaming_of suc) }

-- a map that keeps the monotype of a variable carries its entry
pub carries : (m : Map) (ts us : List MonoTree) (n : ℕ)
    → All IsClosed ts
    → All IsClosed us
    → ((t : MonoTree) → slice_get ts n ≡ Some t → slice_get us (m n) ≡ Some t)
    → CarriesEntry m (values_shapes ts) (values_shapes us) n
carries m ts us n c k keeps = λ s d.
    let r = value_at ts c d in
    let q : fill_shape (renaming_of m) s ≡ sh_mono r.mono = ap (fill_shape (renaming_of m)) r.is ∙ value_closed r.closed (renaming_of m) in
    subst (HasShape (values_shapes us) (m n)) (sym q) (values_get us (m n) r.mono k (keeps r.mono r.there))

pub fills_values : (m : Map) (ts us : List MonoTree)
    → All IsClosed ts
    → All IsClosed us
    → ((n : ℕ) (t : MonoTree) → slice_get ts n ≡ Some t → slice_get us (m n) ≡ Some t)
    → FillsFormed (renaming_of m) m (values_shapes ts) (values_shapes us)
fills_values m ts us c k keeps = record {
  monos = λ n d. absurd (no_mono ts n d);
  heaps = λ n d. absurd (no_heap ts n d);
  terms = λ n s d. carries m ts us n c k (keeps n) s d;
}

-- ---- the shape of a type depends on the monotypes of its context alone

record AgreeAt (g : Shapes) (f k : Filling) : Type 0 where
  at : (n : ℕ) → IsMonoAt g n → f n ≡ k n

mono_agrees : {g : Shapes} {t : MonoTree} {f k : Filling} → IsFormedMono g t → AgreeAt g f k → fill_mono f t ≡ fill_mono k t
unfolding fill_mono
mono_agrees z_m_word a = refl
mono_agrees z_m_bool a = refl
mono_agrees z_m_loc a = refl
mono_agrees z_m_unit a = refl
mono_agrees (z_m_pair p q) a = λ j. m_pair (mono_agrees p a j) (mono_agrees q a j)
mono_agrees (z_m_var {index = index} d) a = a.at index d

agree_dropped : {g : Shapes} {f k : Filling} (s : Shape)
    → AgreeAt g f k
    → AgreeAt (in_term s ∷ g) (λ n. fill_mono f (dropping n)) (λ n. fill_mono k (dropping n))
unfolding fill_mono dropping
agree_dropped {g = g} {f = f} {k = k} s a = record { at = λ n d. go n s d }
  where
    go : (n : ℕ) (b : Shape) → IsMonoAt (in_term b ∷ g) n → fill_mono f (dropping n) ≡ fill_mono k (dropping n)
    go zero b d = elim d [ ]
    go (suc n) b (mono_further d) = a.at n d

agree_next : {g : Shapes} {f k : Filling} → AgreeAt g f k → AgreeAt (in_mono ∷ g) (next_filling f) (next_filling k)
unfolding next_filling
agree_next {g = g} {f = f} {k = k} a = record { at = go }
  where
    go : (n : ℕ) → IsMonoAt (in_mono ∷ g) n → next_filling f n ≡ next_filling k n
    go zero d = refl
    go (suc n) (mono_further d) = ap (rename_mono suc) (a.at n d)

shapes_agree : {g : Shapes} {A : TyTree} {f k : Filling}
    → MonosFormed g A
    → AgreeAt g f k
    → fill_shape f (shape_of A) ≡ fill_shape k (shape_of A)
unfolding fill_shape shape_of
shapes_agree (mono_monos m) a = ap sh_mono (mono_agrees m a)
shapes_agree {f = f} {k = k} (fun_monos {argument = argument} {answer = answer} d e) a =
    let first = shapes_agree d a in
    let second =
    shape_after dropping f (shape_of answer)
    ∙ shapes_agree e (agree_dropped (shape_of argument) a)
    ∙ sym (shape_after dropping k (shape_of answer)) in
    λ j. sh_fun (first j) (second j)
shapes_agree (all_monos d) a = ap sh_all (shapes_agree d (agree_next a))
shapes_agree (spec_monos m) a = ap sh_comp (mono_agrees m a)

-- so where no entry is a monotype it is closed
pub closed_shape : {A : TyTree} (ts : List MonoTree) → MonosFormed (values_shapes ts) A → IsClosedShape (shape_of A)
closed_shape {A = A} ts m = λ f. shapes_agree {f = f} {k = λ n. m_var n} m (record { at = λ n d. absurd (no_mono ts n d) }) ∙ shape_kept (shape_of A)
