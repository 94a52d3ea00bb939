-- Denotations at shapes, and that those in the shape of a type are those at the type's shape.
use Rattle.std.proofs.Common.{◌≡◌, ℕ, zero, suc, ◌∷◌, refl, sym, ap, ◌∙◌}
use Rattle.htt_syntax.specs.Trees.{MonoTree, TyTree, m_word, m_bool, m_loc, m_unit, m_pair, m_var, y_mono, y_fun, y_all, y_hoare, y_at, triple}
use Rattle.theory_renaming.specs.Renaming.{rename_mono}
use Rattle.theory_values.specs.Values.{HasType, IsClosed}
use Rattle.theory_canonical.specs.Skeletons.{Skeleton, sk_o, sk_c, sk_arrow, sk_all}
use Rattle.theory_substitution.specs.Monotypes.{Filling, next_filling, fill_mono}
use Rattle.theory_formed_shapes.specs.Shapes.{Shape, sh_mono, sh_fun, sh_all, sh_comp, fill_shape, dropping, shape_of, in_mono, in_term, Shapes, IsMonoAt}
use Rattle.theory_formed_shapes.specs.Shapes.{mono_further}
use Rattle.theory_formed_shapes.specs.Formed.{IsFormedMono, z_m_word, z_m_bool, z_m_loc, z_m_unit, z_m_pair, z_m_var}
use Rattle.theory_formed_shapes.proofs.Fillings.{shape_after, shape_kept}
use Rattle.theory_formed_shapes.proofs.Monos.{MonosFormed, mono_monos, fun_monos, all_monos, answer_monos}
use Rattle.theory_formed_typing.proofs.Ends.{EndsInComp}
use Rattle.theory_denotation.specs.Valuations.{Domain, ValuationEntry, den_mono, den_term, Valuation, entry_at, mono_of_entry, mono_in}
use Rattle.theory_denotation_renaming.proofs.Renamed.{mono_renamed, agree_suc}
use Rattle.theory_denotation_shapes.specs.Shapes.{InShape}

unfoldable pub IsShaped : Valuation → Shape → (s : Skeleton) → Domain s → Type 0
IsShaped w (sh_mono mono) sk_o v = HasType v (mono_in w mono)
IsShaped w (sh_fun argument answer) (sk_arrow s t) f = (d : Domain s) → IsShaped w argument s d → IsShaped w answer t (f d)
IsShaped w (sh_all body) (sk_all s) f = (t : MonoTree) → IsClosed t → IsShaped (den_mono t ∷ w) body s (f t)
IsShaped w _ s d = Unit {0}

-- what ends in a computation is so
pub ending_shaped : (w : Valuation) (A : Shape) (s : Skeleton) (d : Domain s) → EndsInComp A → IsShaped w A s d
unfolding IsShaped
ending_shaped w (sh_mono mono) s d e = absurd e
ending_shaped w (sh_fun argument answer) (sk_arrow s t) f e = λ d h. ending_shaped w answer t (f d) e
ending_shaped w (sh_all body) (sk_all s) f e = λ t c. ending_shaped (den_mono t ∷ w) body s (f t) e
ending_shaped w (sh_comp mono) s d e = tt
ending_shaped w (sh_fun argument answer) sk_o d e = tt
ending_shaped w (sh_fun argument answer) sk_c d e = tt
ending_shaped w (sh_fun argument answer) (sk_all s) d e = tt
ending_shaped w (sh_all body) sk_o d e = tt
ending_shaped w (sh_all body) sk_c d e = tt
ending_shaped w (sh_all body) (sk_arrow s t) d e = tt

-- The one valuation gives for the fillings what the other gives for the context's monotypes.
pub record FillsEntries (f : Filling) (g : Shapes) (w w' : Valuation) : Type 0 where
  pub at : (n : ℕ) → IsMonoAt g n → mono_in w' (f n) ≡ mono_of_entry (entry_at w n)

-- The same for all variables.
pub record FillsAll (f : Filling) (w w' : Valuation) : Type 0 where
  pub at : (n : ℕ) → mono_in w' (f n) ≡ mono_of_entry (entry_at w n)

raised_mono : (x : ValuationEntry) (w : Valuation) (t : MonoTree) → mono_in (x ∷ w) (rename_mono suc t) ≡ mono_in w t
raised_mono x w t = mono_renamed (agree_suc x w) t

all_next : {f : Filling} {w w' : Valuation} (x : ValuationEntry) → FillsAll f w w' → FillsAll (next_filling f) (x ∷ w) (x ∷ w')
unfolding next_filling
all_next {f = f} {w = w} {w' = w'} x k = record { at = go }
  where
    go : (n : ℕ) → mono_in (x ∷ w') (next_filling f n) ≡ mono_of_entry (entry_at (x ∷ w) n)
    go zero = refl
    go (suc n) = raised_mono x w' (f n) ∙ k.at n

mono_all : (t : MonoTree) {f : Filling} {w w' : Valuation} → FillsAll f w w' → mono_in w' (fill_mono f t) ≡ mono_in w t
unfolding fill_mono
mono_all m_word k = refl
mono_all m_bool k = refl
mono_all m_loc k = refl
mono_all m_unit k = refl
mono_all (m_pair left right) k = λ j. m_pair (mono_all left k j) (mono_all right k j)
mono_all (m_var index) k = k.at index

pub shape_filled : (A : Shape) {f : Filling} {w w' : Valuation}
    → FillsAll f w w'
    → (s : Skeleton) (d : Domain s)
    → IsShaped w' (fill_shape f A) s d ≡ IsShaped w A s d
unfolding IsShaped fill_shape
shape_filled (sh_mono mono) k sk_o v = λ j. HasType v (mono_all mono k j)
shape_filled (sh_fun argument answer) k (sk_arrow s t) h = λ j. (d : Domain s) → shape_filled argument k s d j → shape_filled answer k t (h d) j
shape_filled (sh_all body) k (sk_all s) h = λ j. (t : MonoTree) → IsClosed t → shape_filled body (all_next (den_mono t) k) s (h t) j
shape_filled _ k s d = refl

-- the shape of a type
fills_next : {f : Filling} {g : Shapes} {w w' : Valuation} (t : MonoTree)
    → FillsEntries f g w w'
    → FillsEntries (next_filling f) (in_mono ∷ g) (den_mono t ∷ w) (den_mono t ∷ w')
unfolding next_filling
fills_next {f = f} {g = g} {w = w} {w' = w'} t k = record { at = go }
  where
    go : (n : ℕ) → IsMonoAt (in_mono ∷ g) n → mono_in (den_mono t ∷ w') (next_filling f n) ≡ mono_of_entry (entry_at (den_mono t ∷ w) n)
    go zero d = refl
    go (suc n) (mono_further d) = raised_mono (den_mono t) w' (f n) ∙ k.at n d

fills_dropped : {f : Filling} {g : Shapes} {w w' : Valuation} (a : Shape) (x : ValuationEntry)
    → FillsEntries f g w w'
    → FillsEntries (λ n. fill_mono f (dropping n)) (in_term a ∷ g) (x ∷ w) w'
unfolding fill_mono dropping
fills_dropped {f = f} {g = g} {w = w} {w' = w'} a x k = record { at = λ n d. go n a d }
  where
    go : (n : ℕ) (b : Shape) → IsMonoAt (in_term b ∷ g) n → mono_in w' (fill_mono f (dropping n)) ≡ mono_of_entry (entry_at (x ∷ w) n)
    go zero b d = elim d [ ]
    go (suc n) b (mono_further d) = k.at n d

mono_entries : {g : Shapes} {t : MonoTree} {f : Filling} {w w' : Valuation}
    → IsFormedMono g t
    → FillsEntries f g w w'
    → mono_in w' (fill_mono f t) ≡ mono_in w t
unfolding fill_mono
mono_entries z_m_word k = refl
mono_entries z_m_bool k = refl
mono_entries z_m_loc k = refl
mono_entries z_m_unit k = refl
mono_entries (z_m_pair p q) k = λ j. m_pair (mono_entries p k j) (mono_entries q k j)
mono_entries (z_m_var {index = index} d) k = k.at index d

mono_part : {g : Shapes} {t : MonoTree} → MonosFormed g (y_mono t) → IsFormedMono g t
mono_part (mono_monos m) = m

argument_monos : {g : Shapes} {argument answer : TyTree} → MonosFormed g (y_fun argument answer) → MonosFormed g argument
argument_monos (fun_monos d e) = d

body_monos : {g : Shapes} {body : TyTree} → MonosFormed g (y_all body) → MonosFormed (in_mono ∷ g) body
body_monos (all_monos d) = d

type_filled : (A : TyTree) {f : Filling} {g : Shapes} {w w' : Valuation}
    → MonosFormed g A
    → FillsEntries f g w w'
    → (s : Skeleton) (d : Domain s)
    → IsShaped w' (fill_shape f (shape_of A)) s d ≡ InShape w A s d
unfolding IsShaped InShape fill_shape shape_of
type_filled (y_mono mono) d k sk_o v = λ j. HasType v (mono_entries (mono_part d) k j)
type_filled (y_fun argument answer) {f = f} {w' = w'} d k (sk_arrow s t) h =
    λ j.
    (x : Domain s)
    → type_filled argument (argument_monos d) k s x j
    → (ap (λ (B : Shape). IsShaped w' B t (h x)) (shape_after dropping f (shape_of answer))
    ∙ type_filled answer (answer_monos d) (fills_dropped (shape_of argument) (den_term s x) k) t (h x)) j
type_filled (y_all body) d k (sk_all s) h = λ j. (t : MonoTree) → IsClosed t → type_filled body (body_monos d) (fills_next t k) s (h t) j
type_filled (y_hoare (triple pre mono post)) d k s x = refl
type_filled (y_at at ty) d k s x = elim d [ ]
type_filled _ d k s x = refl

pub type_shaped : (A : TyTree) {g : Shapes} (w : Valuation) → MonosFormed g A → (s : Skeleton) (d : Domain s) → IsShaped w (shape_of A) s d ≡ InShape w A s d
type_shaped A {g = g} w d s x =
    ap (λ (B : Shape). IsShaped w B s x) (sym (shape_kept (shape_of A)))
    ∙ type_filled A {g = g} {w = w} {w' = w} d (record { at = λ n e. refl }) s x
