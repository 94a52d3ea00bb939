-- A canonical term that is formed denotes at its shape, where the variables do.
use Rattle.std.proofs.Common.{◌≡◌, ℕ, zero, suc, List, [], ◌∷◌, refl, sym, ap, subst, ◌⊎◌, inl, inr}
use Rattle.htt_syntax.specs.Trees.{MonoTree, TermTree}
use Rattle.theory_values.specs.Values.{HasType, is_word, is_bool, is_loc, is_unit, is_pair, IsClosed, closed_word, closed_bool, closed_loc, closed_unit}
use Rattle.theory_values.specs.Values.{closed_pair}
use Rattle.theory_values.specs.Heaps.{Heap, IsHeap}
use Rattle.theory_canonical.specs.Skeletons.{Skeleton, sk_o, sk_arrow, sk_all}
use Rattle.theory_canonical.specs.Contexts.{Standing, as_mono, as_heap, as_term, Stands, here, there, Heads}
use Rattle.theory_canonical.specs.Canonical.{IsCanonicalMono, n_m_word, n_m_bool, n_m_loc, n_m_unit, n_m_pair, n_m_var, IsCanonical, n_word, n_bool, n_loc}
use Rattle.theory_canonical.specs.Canonical.{n_unit, n_pair, n_fst, n_snd, n_not, n_bin, n_eq, n_sel, n_lam, n_lam_t, n_neutral, IsNeutral, e_var, e_app}
use Rattle.theory_canonical.specs.Canonical.{e_inst}
use Rattle.theory_formed_shapes.specs.Shapes.{Shape, sh_fun, sh_all, fill_shape, renaming_of, up_shape, first_filled, in_mono, in_heap, in_term, Shapes}
use Rattle.theory_formed_shapes.specs.Shapes.{HasShape, shape_here, shape_there}
use Rattle.theory_formed_shapes.specs.Formed.{FileShapes, IsFormedTerm, z_word, z_bool, z_loc, z_unit, z_pair, z_fst, z_snd, z_not, z_bin, z_eq, z_sel}
use Rattle.theory_formed_shapes.specs.Formed.{z_lam, z_lam_t, z_do, z_neutral, IsFormedNeutral, w_var, w_val, w_made, w_fix, w_app, w_inst}
use Rattle.theory_formed_typing.proofs.Ends.{EndsInComp, ends_filled, fix_ends, FileEnds}
use Rattle.theory_denotation.specs.Valuations.{Domain, ValuationEntry, den_mono, den_heap, den_term, Valuation, entry_at, applied_entry, instance_entry}
use Rattle.theory_denotation.specs.Valuations.{value_of_entry, mono_of_entry, mono_in, HeadEntries}
use Rattle.theory_denotation.specs.Denotation.{term_den, head_den}
use Rattle.theory_denotation.proofs.HeadsDenote.{head_value}
use Rattle.theory_typing_shaped.proofs.Values.{fst_typed, snd_typed, not_typed, op_typed, eq_typed, sel_typed, op_mono_in}
use Rattle.theory_typing_shaped.proofs.Shaped.{IsShaped, ending_shaped, FillsAll, shape_filled}

-- A valuation of variables of these shapes and skeletons.
pub data Shaped : Shapes → List Standing → Valuation → Type 0 where
  sv_none : Shaped [] [] []
  sv_mono : {g : Shapes} {c : List Standing} {w : Valuation} {t : MonoTree} → IsClosed t → Shaped g c w → Shaped (in_mono ∷ g) (as_mono ∷ c) (den_mono t ∷ w)
  sv_heap : {g : Shapes} {c : List Standing} {w : Valuation} {h : Heap} → IsHeap h → Shaped g c w → Shaped (in_heap ∷ g) (as_heap ∷ c) (den_heap h ∷ w)
  sv_term : {g : Shapes} {c : List Standing} {w : Valuation} {A : Shape} {s : Skeleton} {d : Domain s}
      → IsShaped w A s d
      → Shaped g c w
      → Shaped (in_term A ∷ g) (as_term s ∷ c) (den_term s d ∷ w)

-- The entry is a denotation at the skeleton, and at the shape.
pub record EntryShaped (w : Valuation) (A : Shape) (s : Skeleton) (x : ValuationEntry) : Type 0 where
  pub of : Domain s
  pub is : x ≡ den_term s of
  pub shaped : IsShaped w A s of

fills_suc : (x : ValuationEntry) (w : Valuation) → FillsAll (renaming_of suc) w (x ∷ w)
fills_suc x w = record { at = λ n. refl }

into : {A B : Type 0} → A ≡ B → A → B
into e a = subst (λ (X : Type 0). X) e a

raised : (x : ValuationEntry) (w : Valuation) (A : Shape) (s : Skeleton) (d : Domain s) → IsShaped w A s d ≡ IsShaped (x ∷ w) (up_shape A) s d
raised x w A s d = sym (shape_filled A (fills_suc x w) s d)

seen_further : {w : Valuation} {A : Shape} {s : Skeleton} {y : ValuationEntry} (x : ValuationEntry) → EntryShaped w A s y → EntryShaped (x ∷ w) (up_shape A) s y
seen_further {w = w} {A = A} {s = s} x o = record { of = o.of; is = o.is; shaped = into (raised x w A s o.of) o.shaped }

entry_shaped : {g : Shapes} {c : List Standing} {w : Valuation} {n : ℕ} {A : Shape} {s : Skeleton}
    → Shaped g c w
    → HasShape g n A
    → Stands c n (as_term s)
    → EntryShaped w A s (entry_at w n)
entry_shaped sv_none i p = elim i [ ]
entry_shaped (sv_mono {t = t} c k) (shape_there i) (there p) = seen_further (den_mono t) (entry_shaped k i p)
entry_shaped (sv_heap {h = h} c k) (shape_there i) (there p) = seen_further (den_heap h) (entry_shaped k i p)
entry_shaped (sv_term {w = w} {A = A} {s = s} {d = d} m k) shape_here here = record { of = d; is = refl; shaped = into (raised (den_term s d) w A s d) m }
entry_shaped (sv_term {s = s} {d = d} m k) (shape_there i) (there p) = seen_further (den_term s d) (entry_shaped k i p)

-- a monotype is closed by the valuation
mono_entry_closed : {g : Shapes} {c : List Standing} {w : Valuation} {n : ℕ} → Shaped g c w → Stands c n as_mono → IsClosed (mono_of_entry (entry_at w n))
mono_entry_closed sv_none p = elim p [ ]
mono_entry_closed (sv_mono c k) here = c
mono_entry_closed (sv_mono c k) (there p) = mono_entry_closed k p
mono_entry_closed (sv_heap c k) (there p) = mono_entry_closed k p
mono_entry_closed (sv_term m k) (there p) = mono_entry_closed k p

pub mono_closed : {g : Shapes} {c : List Standing} {w : Valuation} {t : MonoTree} → Shaped g c w → IsCanonicalMono c t → IsClosed (mono_in w t)
mono_closed k n_m_word = closed_word
mono_closed k n_m_bool = closed_bool
mono_closed k n_m_loc = closed_loc
mono_closed k n_m_unit = closed_unit
mono_closed k (n_m_pair p q) = closed_pair (mono_closed k p) (mono_closed k q)
mono_closed k (n_m_var d) = mono_entry_closed k d

-- a head ends in a computation, or denotes at its shape
abbrev HeadShaped : Valuation → Shape → Skeleton → ValuationEntry → Type 0
HeadShaped w A s x = EndsInComp A ⊎ EntryShaped w A s x

applied : {w : Valuation} {A B : Shape} {s t : Skeleton} {x : ValuationEntry} (d : (u : Skeleton) → Domain u)
    → EntryShaped w (sh_fun A B) (sk_arrow s t) x
    → IsShaped w A s (d s)
    → EntryShaped w B t (applied_entry x d)
unfolding IsShaped
applied {s = s} d o m = record { of = o.of (d s); is = ap (λ (y : ValuationEntry). applied_entry y d) o.is; shaped = o.shaped (d s) m }

fills_first : (w : Valuation) (t : MonoTree) → FillsAll (first_filled t) (den_mono (mono_in w t) ∷ w) w
unfolding first_filled
fills_first w t = record { at = go }
  where
    go : (n : ℕ) → mono_in w (first_filled t n) ≡ mono_of_entry (entry_at (den_mono (mono_in w t) ∷ w) n)
    go zero = refl
    go (suc n) = refl

instanced : {w : Valuation} {B : Shape} {s : Skeleton} {x : ValuationEntry} (t : MonoTree)
    → EntryShaped w (sh_all B) (sk_all s) x
    → IsClosed (mono_in w t)
    → EntryShaped w (fill_shape (first_filled t) B) s (instance_entry x (mono_in w t))
unfolding IsShaped
instanced {w = w} {B = B} {s = s} t o c = record {
  of = o.of (mono_in w t);
  is = ap (λ (y : ValuationEntry). instance_entry y (mono_in w t)) o.is;
  shaped = into (sym (shape_filled B (fills_first w t) s (o.of (mono_in w t)))) (o.shaped (mono_in w t) c);
}

-- the value of a head of a monotype
value_shaped : {w : Valuation} {A : Shape} {x : ValuationEntry} → HeadShaped w A sk_o x → IsShaped w A sk_o (value_of_entry x)
value_shaped {w = w} {A = A} {x = x} (inl ends) = ending_shaped w A sk_o (value_of_entry x) ends
value_shaped {w = w} {A = A} (inr o) = subst (λ (y : ValuationEntry). IsShaped w A sk_o (value_of_entry y)) (sym o.is) o.shaped

mutual
  unfolding term_den IsShaped

  pub term_shaped : (e : HeadEntries) {file : FileShapes} {heads : Heads} {g : Shapes} {c : List Standing} {w : Valuation} {M : TermTree}
      {A : Shape} {s : Skeleton}
      → FileEnds file
      → IsFormedTerm file g M A
      → IsCanonical heads c M s
      → Shaped g c w
      → IsShaped w A s (term_den e w M s)
  term_shaped e f (z_word l) n_word k = is_word l
  term_shaped e f (z_word l) (n_neutral d) k = elim d [ ]
  term_shaped e f z_bool n_bool k = is_bool
  term_shaped e f z_bool (n_neutral d) k = elim d [ ]
  term_shaped e f (z_loc l) n_loc k = is_loc l
  term_shaped e f (z_loc l) (n_neutral d) k = elim d [ ]
  term_shaped e f z_unit n_unit k = is_unit
  term_shaped e f z_unit (n_neutral d) k = elim d [ ]
  term_shaped e f (z_pair p q) (n_pair a b) k = is_pair (term_shaped e f p a k) (term_shaped e f q b k)
  term_shaped e f (z_pair p q) (n_neutral d) k = elim d [ ]
  term_shaped e f (z_fst p i) (n_fst a r) k = fst_typed (term_shaped e f p a k)
  term_shaped e f (z_fst p i) (n_neutral d) k = elim d [ ]
  term_shaped e f (z_snd p i) (n_snd a r) k = snd_typed (term_shaped e f p a k)
  term_shaped e f (z_snd p i) (n_neutral d) k = elim d [ ]
  term_shaped e f (z_not p i) (n_not a r) k = not_typed (term_shaped e f p a k)
  term_shaped e f (z_not p i) (n_neutral d) k = elim d [ ]
  term_shaped e {w = w} f (z_bin {op = op} p q i) (n_bin a b r) k =
      subst (HasType _) (sym (op_mono_in w op)) (op_typed op (term_shaped e f p a k) (term_shaped e f q b k))
  term_shaped e f (z_bin p q i) (n_neutral d) k = elim d [ ]
  term_shaped e {w = w} f (z_eq {t = mono} m p q i) (n_eq t a b r) k = eq_typed w m (term_shaped e f p a k) (term_shaped e f q b k)
  term_shaped e f (z_eq m p q i) (n_neutral d) k = elim d [ ]
  term_shaped e f (z_sel m p q u i) (n_sel t a b c r) k = sel_typed (term_shaped e f p a k) (term_shaped e f q b k) (term_shaped e f u c k)
  term_shaped e f (z_sel m p q u i) (n_neutral d) k = elim d [ ]
  term_shaped e {w = w} f (z_lam {body = body} {t = answer} p) (n_lam {s = s} {t = t} a) k =
      λ d m.
      into (shape_filled answer (fills_suc (den_term s d) w) t (term_den e (den_term s d ∷ w) body t)) (term_shaped e f p a (sv_term m k))
  term_shaped e f (z_lam p) (n_neutral d) k = elim d [ ]
  term_shaped e f (z_lam_t p) (n_lam_t a) k = λ t c. term_shaped e f p a (sv_mono c k)
  term_shaped e f (z_lam_t p) (n_neutral d) k = elim d [ ]
  term_shaped e f (z_do p) a k = tt
  term_shaped e {w = w} {A = A} f (z_neutral h) (n_neutral d) k =
      subst (IsShaped w A sk_o) (sym (head_value e w d)) (value_shaped (head_shaped e f h d k))
  term_shaped e f (z_neutral h) _ k = elim h [ ]

  head_shaped : (e : HeadEntries) {file : FileShapes} {heads : Heads} {g : Shapes} {c : List Standing} {w : Valuation} {M : TermTree}
      {A : Shape} {s : Skeleton}
      → FileEnds file
      → IsFormedNeutral file g M A
      → IsNeutral heads c M s
      → Shaped g c w
      → HeadShaped w A s (head_den e w M)
  head_shaped e f (w_var i) (e_var p) k = inr (entry_shaped k i p)
  head_shaped e f (w_val {number = number} {s = A} q) d k = inl (f.vals number A q)
  head_shaped e f (w_made {number = number} {m = m} q p) d k = inl (f.made number m q)
  head_shaped e f (w_fix p) d k = inl (fix_ends p)
  head_shaped e {w = w} f (w_app {argument = term} h p) (e_app d c) k =
      elim (head_shaped e f h d k) [ inl ends ↦ inl ends | inr o ↦ inr (applied (term_den e w term) o (term_shaped e f p c k)) ]
  head_shaped e f (w_inst {t = mono} {s = body} h m) (e_inst d c) k = elim (head_shaped e f h d k) [
    | inl ends ↦ inl (ends_filled (first_filled mono) body ends)
    | inr o ↦ inr (instanced mono o (mono_closed k c))
  ]
