-- Variables of words and of heaps, by their number in a context, and literals, as terms.
use Rattle.std.proofs.Common.{◌≡◌, ℕ, zero, suc, [], ◌∷◌, Some, None, slice_get, refl, sym, subst}
use Rattle.std.proofs.lemmas.Option.{same_Some}
use Rattle.htt_syntax.specs.Trees.{m_word, y_mono, t_var, t_word}
use Rattle.theory_renaming.specs.Renaming.{rename_mono, rename_ty}
use Rattle.theory_values.specs.Values.{IsWord}
use Rattle.theory_canonical.specs.Eta.{expansion}
use Rattle.theory_typing.specs.Positions.{plain_ty}
use Rattle.theory_typing.specs.Contexts.{EntryTree, en_heap, en_term, Context, Environment, IsHeapEntry, HasEntryType, type_here, type_there, heap_here}
use Rattle.theory_typing.specs.Contexts.{heap_there}
use Rattle.theory_typing.specs.Typing.{Mode, Fits, gives_var, gives_word, fits_given}

no_element : {x : EntryTree} → None ≡ Some x → ⊥
no_element q = cc

pub word_entry : (g : Context) (index : ℕ) → slice_get g index ≡ Some (en_term (y_mono m_word)) → HasEntryType g index (y_mono m_word)
unfolding rename_ty rename_mono
word_entry [] index q = absurd (no_element q)
word_entry (entry ∷ g) zero q =
    subst (λ (e : EntryTree). HasEntryType (e ∷ g) zero (y_mono m_word)) (sym (same_Some entry (en_term (y_mono m_word)) q)) type_here
word_entry (entry ∷ g) (suc n) q = type_there (word_entry g n q)

pub heap_entry : (g : Context) (index : ℕ) → slice_get g index ≡ Some en_heap → IsHeapEntry g index
heap_entry [] index q = absurd (no_element q)
heap_entry (entry ∷ g) zero q = subst (λ (e : EntryTree). IsHeapEntry (e ∷ g) zero) (sym (same_Some entry en_heap q)) heap_here
heap_entry (entry ∷ g) (suc n) q = heap_there (heap_entry g n q)

pub word_fits : {env : Environment} {m : Mode} {g : Context} (index : ℕ)
    → slice_get g index ≡ Some (en_term (y_mono m_word))
    → Fits env m g (t_var index) (y_mono m_word) (t_var index) []
unfolding expansion plain_ty
word_fits {g = g} index q = fits_given tt (gives_var (word_entry g index q)) refl

pub literal_fits : {env : Environment} {m : Mode} {g : Context} {word : ℕ} → IsWord word → Fits env m g (t_word word) (y_mono m_word) (t_word word) []
literal_fits word = fits_given tt (gives_word word) refl
