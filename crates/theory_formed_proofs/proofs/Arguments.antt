-- Arguments: that what fits sorts is formed, and what they are put in.
use Rattle.std.proofs.Common.{◌≡◌, ℕ, zero, suc, ◌+◌, List, [], ◌∷◌, ◌++◌, length, map, All, arith, refl, sym, ap, subst}
use Rattle.std.proofs.lemmas.List.Elements.{All-head, All-tail}
use Rattle.htt_syntax.specs.Trees.{MonoTree, TermTree, FormulaTree, ArgTree, m_pair, y_mono, a_heap}
use Rattle.theory_renaming.specs.Renaming.{Map, lift, lifts, rename_term}
use Rattle.theory_renaming.proofs.Identity.{formula_stays}
use Rattle.theory_substitution.specs.Monotypes.{Filling, fill_mono}
use Rattle.theory_typing.specs.Contexts.{en_term, Context, Environment, IsHeapEntry, heap_here, heap_there, Obligation}
use Rattle.theory_typing.specs.Typing.{Mode, Fits}
use Rattle.theory_items.specs.Items.{with_params}
use Rattle.theory_logic_axioms.specs.Table.{ArgSort, heap_sort, term_sort}
use Rattle.theory_logic_rules.specs.Sequents.{putting, put_heap, raised_term, PutArgs, put_none, put_term_first, put_heap_first, terms_of, FitsArgs}
use Rattle.theory_logic_rules.specs.Sequents.{fits_no_args, fits_heap_arg, fits_term_arg, FormsMonos, forms_no_monos, forms_more_monos}
use Rattle.theory_logic_sorts.proofs.Arguments.{lifts_inside}
use Rattle.theory_formed_shapes.specs.Shapes.{sh_mono, shape_of, fill_shape, renaming_of, in_heap, in_term, Shapes, IsHeapAt, heap_at_zero, heap_further}
use Rattle.theory_formed_shapes.specs.Shapes.{HasShape, shapes_of}
use Rattle.theory_formed_shapes.specs.Formed.{FileShapes, file_shapes, IsFormedMono, z_m_word, z_m_bool, z_m_loc, z_m_unit, z_m_pair, z_m_var, IsFormedTerm}
use Rattle.theory_formed_shapes.specs.Formed.{IsFormedTerms, z_no_terms, z_more_terms, IsFormedFormula, IsClosedFile}
use Rattle.theory_formed_shapes.specs.Laws.{FillsFormed}
use Rattle.theory_formed_shapes.proofs.Fillings.{shape_kept, next_renaming}
use Rattle.theory_formed_shapes.proofs.Filled as filling
use Rattle.theory_formed_shapes.proofs.Renamed.{formula_renamed, fills_lift}
use Rattle.theory_substitution.specs.Closing.{closing}
use Rattle.theory_formed_substitution.specs.Laws.{PutsFormed}
use Rattle.theory_formed_substitution.proofs.Put.{puts_first, formula_put}
use Rattle.theory_formed_states.proofs.Sent.{Sends, fills, heap_sent}
use Rattle.theory_formed_shapes.specs.Environments.{IsFormedContext, FormsEnvironment}
use Rattle.theory_formed_typing.proofs.Terms.{mono_formed}
use Rattle.theory_formed_typing.proofs.Fitted as fitted
use Rattle.theory_formed_canonical.proofs.Bare.{environment_bare, entries_bare}
use Rattle.theory_formed_proofs.specs.Sequents.{AreFormedMonos, AreFormedArgs, formed_no_args, formed_heap_arg, formed_term_arg, with_sorts, AreClosedSorts}
use Rattle.theory_formed_substitution.proofs.Put.{puts_next, puts_heap}

-- what fits
pub heap_formed_at : {g : Context} {n : ℕ} → IsHeapEntry g n → IsHeapAt (shapes_of g) n
heap_formed_at heap_here = heap_at_zero
heap_formed_at (heap_there d) = heap_further (heap_formed_at d)

pub monos_formed : {g : Context} {monos : List MonoTree} → FormsMonos g monos → AreFormedMonos (shapes_of g) monos
monos_formed forms_no_monos = tt
monos_formed (forms_more_monos m rest) = (mono_formed m, monos_formed rest)

pub value_formed : {env : Environment} {m : Mode} {g : Context} {M N : TermTree} {t : MonoTree} {o : List Obligation}
    → Fits env m g M (y_mono t) N o
    → FormsEnvironment env
    → IsFormedContext (file_shapes env) g
    → IsFormedTerm (file_shapes env) (shapes_of g) N (sh_mono t)
value_formed {env = env} {g = g} {t = t} d k c = fitted.mono_formed t (environment_bare env k) k.def_terms (entries_bare env g c) d

pub args_fitted : {env : Environment} {g : Context} {arguments values : List ArgTree} {sorts : List ArgSort}
    → FitsArgs env g arguments sorts values
    → FormsEnvironment env
    → IsFormedContext (file_shapes env) g
    → AreFormedArgs (file_shapes env) (shapes_of g) sorts values
args_fitted fits_no_args k c = formed_no_args
args_fitted (fits_heap_arg i rest) k c = formed_heap_arg (heap_formed_at i) (args_fitted rest k c)
args_fitted (fits_term_arg d rest) k c = formed_term_arg (value_formed d k c) (args_fitted rest k c)

pub terms_formed : {file : FileShapes} {g : Shapes} {values : List ArgTree} (params : List MonoTree)
    → AreFormedArgs file g (map term_sort params) values
    → IsFormedTerms file g (terms_of values) params
unfolding terms_of
terms_formed [] formed_no_args = z_no_terms
terms_formed (t ∷ ts) (formed_term_arg d rest) = z_more_terms d (terms_formed ts rest)

pub with_heap_arg : {file : FileShapes} {g : Shapes} {sorts : List ArgSort} {values : List ArgTree} {h : ℕ}
    → AreFormedArgs file g sorts values
    → IsHeapAt g h
    → AreFormedArgs file g (sorts ++ heap_sort ∷ []) (values ++ a_heap h ∷ [])
with_heap_arg formed_no_args i = formed_heap_arg i formed_no_args
with_heap_arg (formed_heap_arg k rest) i = formed_heap_arg k (with_heap_arg rest i)
with_heap_arg (formed_term_arg d rest) i = formed_term_arg d (with_heap_arg rest i)

-- a closed monotype
closed_kept : {t : MonoTree} (f : Filling) → IsFormedMono [] t → fill_mono f t ≡ t
unfolding fill_mono
closed_kept f z_m_word = refl
closed_kept f z_m_bool = refl
closed_kept f z_m_loc = refl
closed_kept f z_m_unit = refl
closed_kept f (z_m_pair p q) = λ j. m_pair (closed_kept f p j) (closed_kept f q j)
closed_kept f (z_m_var d) = elim d [ ]

-- maps under entries of closed sorts
heap_lifted : {m : Map} {g h : Shapes} → FillsFormed (renaming_of m) m g h → FillsFormed (renaming_of (lift m)) (lift m) (in_heap ∷ g) (in_heap ∷ h)
heap_lifted {m = m} {g = g} {h = h} k =
    subst (λ (f : Filling). FillsFormed f (lift m) (in_heap ∷ g) (in_heap ∷ h)) (next_renaming m) (filling.next_heap k)

term_lifted : {m : Map} {g h : Shapes} {t : MonoTree}
    → IsFormedMono [] t
    → FillsFormed (renaming_of m) m g h
    → FillsFormed (renaming_of (lift m)) (lift m) (in_term (sh_mono t) ∷ g) (in_term (sh_mono t) ∷ h)
unfolding fill_shape
term_lifted {m = m} {g = g} {h = h} {t = t} closed k =
    subst (λ (u : MonoTree). FillsFormed (renaming_of (lift m)) (lift m) (in_term (sh_mono t) ∷ g) (in_term (sh_mono u) ∷ h))
    (closed_kept (renaming_of m) closed) (fills_lift (sh_mono t) k)

fills_under : {file : FileShapes} {k : Shapes} {sorts : List ArgSort} {others : List ArgTree} (m : Map) (g h : Shapes)
    → AreFormedArgs file k sorts others
    → AreClosedSorts sorts
    → FillsFormed (renaming_of m) m g h
    → FillsFormed (renaming_of (lifts (length others) m)) (lifts (length others) m) (with_sorts sorts g) (with_sorts sorts h)
unfolding lifts
fills_under m g h formed_no_args c d = d
fills_under m g h (formed_heap_arg {sorts = sorts} {others = others} i rest) c d =
    subst (λ (r : Map). FillsFormed (renaming_of r) r (with_sorts sorts (in_heap ∷ g)) (with_sorts sorts (in_heap ∷ h))) (lifts_inside (length others) m)
    (fills_under (lift m) (in_heap ∷ g) (in_heap ∷ h) rest c (heap_lifted d))
fills_under m g h (formed_term_arg {t = t} {sorts = sorts} {others = others} i rest) c d =
    subst (λ (r : Map). FillsFormed (renaming_of r) r (with_sorts sorts (in_term (sh_mono t) ∷ g)) (with_sorts sorts (in_term (sh_mono t) ∷ h)))
    (lifts_inside (length others) m)
    (fills_under (lift m) (in_term (sh_mono t) ∷ g) (in_term (sh_mono t) ∷ h) rest c.1 (term_lifted c.0 d))

-- a heap for the innermost variable
fills_putting : {g : Shapes} {h : ℕ} → IsHeapAt g h → FillsFormed (renaming_of (putting h)) (putting h) (in_heap ∷ g) g
unfolding putting
fills_putting {g = g} {h = h} i =
    let same : Sends (λ n. n) g g =
    record { monos = λ n d. d; heaps = λ n d. d; terms = λ n s d. subst (HasShape g n) (sym (shape_kept s)) d } in
    let sent : Sends (putting h) (in_heap ∷ g) g = heap_sent {m = putting h} i same in
    fills sent

pub heap_put : {file : FileShapes} {g : Shapes} {h : ℕ} (F : FormulaTree)
    → IsClosedFile file
    → IsHeapAt g h
    → IsFormedFormula file (in_heap ∷ g) F
    → IsFormedFormula file g (put_heap h F)
heap_put F c i d = formula_renamed d c (fills_putting i)

-- a term for a variable under entries
raised_inside : (k : ℕ) (m : TermTree) → raised_term k (rename_term suc m) ≡ raised_term (suc k) m
unfolding raised_term
raised_inside zero m = refl
raised_inside (suc k) m = ap (rename_term suc) (raised_inside k m)

puts_under : {file : FileShapes} {k : Shapes} {sorts : List ArgSort} {others : List ArgTree} (new : TermTree) (x : ℕ) (g h : Shapes)
    → IsClosedFile file
    → AreFormedArgs file k sorts others
    → AreClosedSorts sorts
    → PutsFormed file new x g h
    → PutsFormed file (raised_term (length others) new) (x + length others) (with_sorts sorts g) (with_sorts sorts h)
unfolding raised_term fill_shape
puts_under {file = file} new x g h closed formed_no_args c d = let q : x ≡ x + 0 = omega arith in subst (λ (n : ℕ). PutsFormed file new n g h) q d
puts_under {file = file} new x g h closed (formed_heap_arg {sorts = sorts} {others = others} i rest) c d =
    let q : suc x + length others ≡ x + suc (length others) = omega arith in
    subst (λ (n : ℕ). PutsFormed file (raised_term (suc (length others)) new) n (with_sorts sorts (in_heap ∷ g)) (with_sorts sorts (in_heap ∷ h))) q
    (subst (λ (m : TermTree). PutsFormed file m (suc x + length others) (with_sorts sorts (in_heap ∷ g)) (with_sorts sorts (in_heap ∷ h)))
    (raised_inside (length others) new)
    (puts_under (rename_term suc new) (suc x) (in_heap ∷ g) (in_heap ∷ h) closed rest c (puts_heap closed d)))
puts_under {file = file} new x g h closed (formed_term_arg {t = t} {sorts = sorts} {others = others} i rest) c d =
    let e = in_term (sh_mono t) in
    let q : suc x + length others ≡ x + suc (length others) = omega arith in
    let next : PutsFormed file (rename_term suc new) (suc x) (e ∷ g) (e ∷ h) =
    subst (λ (u : MonoTree). PutsFormed file (rename_term suc new) (suc x) (e ∷ g) (in_term (sh_mono u) ∷ h))
    (closed_kept (renaming_of (closing x)) c.0) (puts_next (sh_mono t) closed d) in
    subst (λ (n : ℕ). PutsFormed file (raised_term (suc (length others)) new) n (with_sorts sorts (e ∷ g)) (with_sorts sorts (e ∷ h))) q
    (subst (λ (m : TermTree). PutsFormed file m (suc x + length others) (with_sorts sorts (e ∷ g)) (with_sorts sorts (e ∷ h)))
    (raised_inside (length others) new) (puts_under (rename_term suc new) (suc x) (e ∷ g) (e ∷ h) closed rest c.1 next))

pub args_put : {file : FileShapes} {g : Shapes} {sorts : List ArgSort} {arguments : List ArgTree} {F R : FormulaTree}
    → IsClosedFile file
    → AreClosedSorts sorts
    → AreFormedArgs file g sorts arguments
    → PutArgs arguments F R
    → IsFormedFormula file (with_sorts sorts g) F
    → IsFormedFormula file g R
args_put closed c formed_no_args put_none d = d
args_put {g = g} closed c (formed_heap_arg {h = h} i rest) (put_heap_first put) d =
    args_put closed c rest put (formula_renamed d closed (fills_under (putting h) (in_heap ∷ g) g rest c (fills_putting i)))
args_put {file = file} {g = g} closed c (formed_term_arg {m = m} {t = t} {sorts = sorts} {others = others} i rest) (put_term_first u put) d =
    let q : zero + length others ≡ length others = omega arith in
    let p =
    subst (λ (n : ℕ). PutsFormed file (raised_term (length others) m) n (with_sorts sorts (in_term (sh_mono t) ∷ g)) (with_sorts sorts g)) q
    (puts_under m zero (in_term (sh_mono t) ∷ g) g closed rest c.1 (puts_first i)) in
    args_put closed c.1 rest put (formula_put u d closed p)

-- what is formed under entries of closed sorts alone is so in each context
none_fills : (g : Shapes) → FillsFormed (renaming_of (λ n. n)) (λ n. n) [] g
none_fills g = record { monos = λ n d. elim d [ ]; heaps = λ n d. elim d [ ]; terms = λ n s d. elim d [ ] }

stays : (k : ℕ) (n : ℕ) → lifts k (λ n. n) n ≡ n
unfolding lifts lift
stays zero n = refl
stays (suc k) zero = refl
stays (suc k) (suc n) = ap suc (stays k n)

pub extended : {file : FileShapes} {k : Shapes} {sorts : List ArgSort} {arguments : List ArgTree} {F : FormulaTree} (g : Shapes)
    → IsClosedFile file
    → AreClosedSorts sorts
    → AreFormedArgs file k sorts arguments
    → IsFormedFormula file (with_sorts sorts []) F
    → IsFormedFormula file (with_sorts sorts g) F
extended {file = file} {sorts = sorts} {arguments = arguments} {F = F} g closed c a d =
    subst (IsFormedFormula file (with_sorts sorts g)) (formula_stays (lifts (length arguments) (λ n. n)) (stays (length arguments)) F)
    (formula_renamed d closed (fills_under (λ n. n) [] g a c (none_fills g)))

-- the entries of a recursive predicate's bodies
pub closed_params : (params : List MonoTree) → All (IsFormedMono []) params → AreClosedSorts (map term_sort params ++ heap_sort ∷ [])
closed_params [] d = tt
closed_params (t ∷ ts) d = (All-head (IsFormedMono []) t ts d, closed_params ts (All-tail (IsFormedMono []) t ts d))

pub params_sorts : (params : List MonoTree) (g : Context)
    → in_heap ∷ shapes_of (with_params g params) ≡ with_sorts (map term_sort params ++ heap_sort ∷ []) (shapes_of g)
unfolding shape_of
params_sorts [] g = refl
params_sorts (t ∷ ts) g = params_sorts ts (en_term (y_mono t) ∷ g)
