-- Contexts whose term entries are of monotypes: they are canonical.
use Rattle.std.proofs.Common.{◌≡◌, ℕ, zero, suc, [], ◌∷◌, Some, None, refl}
use Rattle.htt_syntax.specs.Trees.{MonoTree, m_word, m_bool, m_loc, m_unit, m_pair, m_var, y_mono, y_fun, y_all, y_hoare, y_at}
use Rattle.theory_canonical.specs.Contexts.{as_mono, Stands, here, there, Heads}
use Rattle.theory_canonical.specs.Canonical.{IsCanonicalMono, n_m_word, n_m_bool, n_m_loc, n_m_unit, n_m_pair, n_m_var, n_mono}
use Rattle.theory_typing.specs.Contexts.{en_mono, en_heap, en_term, Context, IsMonoEntry, mono_here, mono_there, FormsMono, forms_word, forms_bool}
use Rattle.theory_typing.specs.Contexts.{forms_loc, forms_unit, forms_pair, forms_var}
use Rattle.theory_typing_canonical.specs.Environments.{standings, IsCanonicalContext, no_entry, mono_entry, heap_entry, term_entry}
use Rattle.theory_logic_sorts.specs.Sorts.{Sort, for_mono, for_value, for_heap, HasSort, SortedMono}
use Rattle.theory_typing_values.specs.FirstOrder.{sorts_of}

-- Each term entry is of a monotype that uses each variable by its sort.
abbrev pub SortedContext : Context → Type 0
SortedContext [] = Unit {0}
SortedContext (en_mono ∷ g) = SortedContext g
SortedContext (en_heap ∷ g) = SortedContext g
SortedContext (en_term (y_mono t) ∷ g) = SortedMono (sorts_of g) t × SortedContext g
SortedContext (en_term ty ∷ g) = ⊥

-- what is formed is sorted
mono_sort : {g : Context} {n : ℕ} → IsMonoEntry g n → HasSort (sorts_of g) n for_mono
mono_sort mono_here = refl
mono_sort (mono_there i) = mono_sort i

pub mono_formed : {g : Context} {t : MonoTree} → FormsMono g t → SortedMono (sorts_of g) t
unfolding SortedMono
mono_formed forms_word = tt
mono_formed forms_bool = tt
mono_formed forms_loc = tt
mono_formed forms_unit = tt
mono_formed (forms_pair p q) = (mono_formed p, mono_formed q)
mono_formed (forms_var i) = mono_sort i

no_sort : {s : Sort} → None ≡ Some s → ⊥
no_sort e = cc

heap_no_mono : Some for_heap ≡ Some for_mono → ⊥
heap_no_mono e = cc

value_no_mono : Some for_value ≡ Some for_mono → ⊥
value_no_mono e = cc

-- what is sorted is canonical
sort_stands : (g : Context) (n : ℕ) → HasSort (sorts_of g) n for_mono → Stands (standings g) n as_mono
sort_stands [] n e = absurd (no_sort e)
sort_stands (en_mono ∷ g) zero e = here
sort_stands (en_mono ∷ g) (suc n) e = there (sort_stands g n e)
sort_stands (en_heap ∷ g) zero e = absurd (heap_no_mono e)
sort_stands (en_heap ∷ g) (suc n) e = there (sort_stands g n e)
sort_stands (en_term ty ∷ g) zero e = absurd (value_no_mono e)
sort_stands (en_term ty ∷ g) (suc n) e = there (sort_stands g n e)

mono_stands : (g : Context) (t : MonoTree) → SortedMono (sorts_of g) t → IsCanonicalMono (standings g) t
unfolding SortedMono
mono_stands g m_word d = n_m_word
mono_stands g m_bool d = n_m_bool
mono_stands g m_loc d = n_m_loc
mono_stands g m_unit d = n_m_unit
mono_stands g (m_pair left right) d = n_m_pair (mono_stands g left d.0) (mono_stands g right d.1)
mono_stands g (m_var index) d = n_m_var (sort_stands g index d)

pub entered : (heads : Heads) (g : Context) → SortedContext g → IsCanonicalContext heads g
entered heads [] d = no_entry
entered heads (en_mono ∷ g) d = mono_entry (entered heads g d)
entered heads (en_heap ∷ g) d = heap_entry (entered heads g d)
entered heads (en_term (y_mono t) ∷ g) d = term_entry (entered heads g d.1) (n_mono (mono_stands g t d.0))
entered heads (en_term (y_fun argument answer) ∷ g) d = absurd d
entered heads (en_term (y_all body) ∷ g) d = absurd d
entered heads (en_term (y_hoare spec) ∷ g) d = absurd d
entered heads (en_term (y_at at ty) ∷ g) d = absurd d
