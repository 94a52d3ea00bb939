-- Arguments that fit sorts: they are canonical, and denote values of their sorts.
use Rattle.std.proofs.Common.{◌≡◌, ℕ, List, [], ◌∷◌, ◌++◌}
use Rattle.htt_syntax.specs.Trees.{MonoTree, TermTree, ArgTree, y_mono, a_heap, a_term}
use Rattle.theory_values.specs.Values.{HasType}
use Rattle.theory_values.specs.Heaps as values
use Rattle.theory_canonical.specs.Skeletons.{sk_o}
use Rattle.theory_canonical.specs.Contexts.{Standing, as_heap, Stands}
use Rattle.theory_canonical.specs.Canonical.{IsCanonical, IsCanonicalTerms, n_no_terms, n_more_terms}
use Rattle.theory_typing.specs.Contexts.{Context, Environment, IsHeapEntry, Obligation}
use Rattle.theory_typing.specs.Typing.{Mode, Fits}
use Rattle.theory_typing_canonical.specs.Environments.{standings, heads_of, IsCanonicalContext}
use Rattle.theory_typing_canonical.proofs.Entries.{heap_stands, mono_canonical}
use Rattle.theory_logic_axioms.specs.Table.{ArgSort}
use Rattle.theory_logic_axioms.specs.Laws.{AreCanonicalMonos, AreCanonicalArgs}
use Rattle.theory_logic_rules.specs.Sequents.{terms_of, FormsMonos, forms_no_monos, forms_more_monos, FitsArgs, fits_no_args, fits_heap_arg, fits_term_arg}
use Rattle.theory_canonical.specs.Contexts.{Heads}
use Rattle.theory_denotation.specs.Valuations.{den_heap, Valuation, entry_at, mono_in, heap_in, HeadEntries}
use Rattle.theory_denotation.specs.Denotation.{term_den}
use Rattle.theory_logic_axioms_satisfied.specs.Laws.{DenoteSorts}
use Rattle.theory_formed_typing.proofs.Fitted.{mono_fitted}
use Rattle.theory_typing_shaped.proofs.Fitting.{mono_valued}
use Rattle.theory_denotation_shapes.proofs.Given.{heap_shaped_at}
use Rattle.theory_items_sound.specs.Environments.{SoundEnvironment}
use Rattle.theory_logic_unfoldings_satisfied.specs.Entries.{Setting}

pub heap_of : {env : Environment} {e : HeadEntries} {g : Context} {w : Valuation} {h : ℕ}
    → Setting env e g w
    → IsHeapEntry g h
    → (entry_at w h ≡ den_heap (heap_in w h)) × values.IsHeap (heap_in w h)
heap_of s i = heap_shaped_at s.valuation (heap_stands i)

pub value_of : {env : Environment} {e : HeadEntries} {g : Context} {w : Valuation} {m : Mode} {M N : TermTree} {o : List Obligation}
    (t : MonoTree)
    → Setting env e g w
    → Fits env m g M (y_mono t) N o
    → HasType (term_den e w N sk_o) (mono_in w t)
value_of {e = e} t s d = mono_valued e t s.environment s.context s.valuation d

pub form_of : {env : Environment} {g : Context} {m : Mode} {M N : TermTree} {o : List Obligation} (t : MonoTree)
    → SoundEnvironment env
    → IsCanonicalContext (heads_of env) g
    → Fits env m g M (y_mono t) N o
    → IsCanonical (heads_of env) (standings g) N sk_o
form_of t s c d = mono_fitted t s.canonical c d

pub args_denote : {env : Environment} {e : HeadEntries} {g : Context} {w : Valuation} {arguments values : List ArgTree}
    {sorts : List ArgSort}
    → Setting env e g w
    → FitsArgs env g arguments sorts values
    → DenoteSorts e w sorts values
args_denote s fits_no_args = tt
args_denote s (fits_heap_arg i rest) = ((heap_of s i).1, args_denote s rest)
args_denote s (fits_term_arg {t = t} d rest) = (value_of t s d, args_denote s rest)

pub args_formed : {env : Environment} {g : Context} {arguments values : List ArgTree} {sorts : List ArgSort}
    → SoundEnvironment env
    → IsCanonicalContext (heads_of env) g
    → FitsArgs env g arguments sorts values
    → AreCanonicalArgs (heads_of env) (standings g) values
args_formed s c fits_no_args = tt
args_formed s c (fits_heap_arg i rest) = (heap_stands i, args_formed s c rest)
args_formed s c (fits_term_arg {t = t} d rest) = (form_of t s c d, args_formed s c rest)

pub monos_formed : {g : Context} {monos : List MonoTree} → FormsMonos g monos → AreCanonicalMonos (standings g) monos
monos_formed forms_no_monos = tt
monos_formed (forms_more_monos m rest) = (mono_canonical m, monos_formed rest)

pub terms_formed : {heads : Heads} {g : List Standing} (values : List ArgTree) → AreCanonicalArgs heads g values → IsCanonicalTerms heads g (terms_of values)
unfolding terms_of
terms_formed [] d = n_no_terms
terms_formed (a_heap h ∷ others) d = terms_formed others d.1
terms_formed (a_term m ∷ others) d = n_more_terms d.0 (terms_formed others d.1)

pub more_formed : (heads : Heads) {g : List Standing} (values : List ArgTree) (h : ℕ)
    → AreCanonicalArgs heads g values
    → Stands g h as_heap
    → AreCanonicalArgs heads g (values ++ a_heap h ∷ [])
more_formed heads [] h d i = (i, tt)
more_formed heads (a_heap k ∷ others) h d i = (d.0, more_formed heads others h d.1 i)
more_formed heads (a_term m ∷ others) h d i = (d.0, more_formed heads others h d.1 i)
