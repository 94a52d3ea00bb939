-- A formed tree is so in each context that has the entries of the variables that occur in it.
use Rattle.std.proofs.Common.{◌≡◌, ℕ, zero, suc, List, [], ◌∷◌, ◌++◌, All, Option, Some, None, refl, sym, ap, ◌∙◌, subst}
use Rattle.std.proofs.lemmas.List.Elements.{All-head, All-tail}
use Rattle.htt_syntax.specs.Trees.{MonoTree, TyTree, TripleTree, TermTree, FixTree, CompTree, StepTree, FormulaTree, TermTrees, triple, t_val, t_bin, t_inst, t_made}
use Rattle.htt_syntax.specs.Trees.{t_app, t_do, t_fix, t_unit, more_terms, x_param, x_body, c_ret}
use Rattle.theory_renaming.specs.Renaming.{Map, lift, rename_term, rename_fix, rename_comp, rename_terms}
use Rattle.theory_substitution.specs.Monotypes.{Filling, next_filling, fill_mono, fill_ty, fill_triple, fill_term, fill_fix, fill_comp, fill_step, fill_formula}
use Rattle.theory_substitution.specs.Monotypes.{fill_terms}
use Rattle.theory_formed_shapes.specs.Shapes.{Shape, sh_mono, sh_fun, fill_shape, renaming_of, up_shape, shape_of, ShapeEntry, in_mono, in_heap, in_term, Shapes}
use Rattle.theory_formed_shapes.specs.Shapes.{IsMonoAt, mono_at_zero, mono_further, IsHeapAt, heap_at_zero, heap_further, HasShape, shape_here, shape_there}
use Rattle.theory_formed_shapes.specs.Formed.{FileShapes, IsFormedMono, z_m_word, z_m_bool, z_m_loc, z_m_unit, z_m_pair, z_m_var, IsFormedTerm, z_word, z_bool}
use Rattle.theory_formed_shapes.specs.Formed.{z_loc, z_unit, z_pair, z_fst, z_snd, z_not, z_bin, z_eq, z_sel, z_lam, z_lam_t, z_do, z_neutral, IsFormedNeutral}
use Rattle.theory_formed_shapes.specs.Formed.{w_var, w_val, w_made, w_fix, w_app, w_inst, IsFormedTerms, z_no_terms, z_more_terms, IsFormedFix, z_param, z_body}
use Rattle.theory_formed_shapes.specs.Formed.{IsFormedComp, z_ret, z_step, IsFormedStep, z_run, z_alloc, z_get, z_set, z_free, z_if, IsFormedTy, z_mono, z_fun}
use Rattle.theory_formed_shapes.specs.Formed.{z_all, z_hoare, IsFormedTriple, z_triple, IsFormedFormula, z_tt, z_ff, z_and, z_or, z_imp, z_all_t, z_ex_t}
use Rattle.theory_formed_shapes.specs.Formed.{z_all_h, z_ex_h, z_emp, z_cell, z_block, z_join, z_same, z_equal, z_rec, fill_monos, IsClosedFile}
use Rattle.theory_formed_shapes.proofs.Fillings.{mono_renamed, next_renaming, up_filled, up_mono_filled, first_and_filled}
use Rattle.theory_formed_shapes.proofs.ShapesOf.{shape_filled}
use Rattle.theory_formed_shapes.proofs.Folded.{fst_folded, snd_folded, not_folded, bin_folded, eq_folded, sel_folded}
use Rattle.theory_formed_shapes.proofs.Filled.{mono_raised, op_mono_filled, comparable_filled}
use Rattle.theory_formed_shapes.proofs.Renamed.{term_same, ty_same, triple_same}
use Rattle.theory_instances.specs.Calls.{Argument, of_term, of_mono}
use Rattle.theory_instances.specs.Occurrences.{Occurrence, outside, met, met_in_term, met_in_terms, met_in_fix, met_in_comp, met_in_step, met_in_ty}
use Rattle.theory_instances.specs.Occurrences.{met_in_triple, met_in_formula}
use Rattle.theory_formed_met.specs.Laws.{CarriesEntry, OnlyMetIsNeeded}

abbrev pub EachMet : (ℕ → Type 0) → List Occurrence → Type 0
EachMet P [] = Unit {0}
EachMet P (o ∷ others) = P o.variable × EachMet P others

pub both : (P : ℕ → Type 0) (xs ys : List Occurrence) → EachMet P (xs ++ ys) → EachMet P xs × EachMet P ys
both P [] ys e = (tt, e)
both P (x ∷ xs) ys e = let r = both P xs ys (e.1) in ((e.0, r.0), r.1)

-- a variable that is bound inside, or one of those outside
abbrev pub Known : (ℕ → Type 0) → Option ℕ → Type 0
Known P None = Unit {0}
Known P (Some n) = P n

known_met : (P : ℕ → Type 0) (d : ℕ) (pending : List Argument) (o : Option ℕ) → EachMet P (met d pending o) → Known P o
known_met P d pending None e = tt
known_met P d pending (Some n) e = e.0

-- d binders inside
record Inside (P : ℕ → Type 0) (d : ℕ) (f : Filling) (m : Map) (g h : Shapes) : Type 0 where
  monos : (n : ℕ) → IsMonoAt g n → IsFormedMono h (f n)
  heaps : (n : ℕ) → IsHeapAt g n → IsHeapAt h (m n)
  terms : (n : ℕ) (s : Shape) → Known P (outside d n) → HasShape g n s → HasShape h (m n) (fill_shape f s)

mono_filled : {P : ℕ → Type 0} {d : ℕ} {f : Filling} {m : Map} {g h : Shapes} {t : MonoTree}
    → IsFormedMono g t
    → Inside P d f m g h
    → IsFormedMono h (fill_mono f t)
unfolding fill_mono
mono_filled z_m_word k = z_m_word
mono_filled z_m_bool k = z_m_bool
mono_filled z_m_loc k = z_m_loc
mono_filled z_m_unit k = z_m_unit
mono_filled (z_m_pair p q) k = z_m_pair (mono_filled p k) (mono_filled q k)
mono_filled (z_m_var {index = index} d) k = k.monos index d

-- under one more entry
raised_shape : {P : ℕ → Type 0} {d : ℕ} {f : Filling} {m : Map} {g h : Shapes} (entry : ShapeEntry)
    → Inside P d f m g h
    → {n : ℕ} {s : Shape}
    → Known P (outside d n)
    → HasShape g n s
    → HasShape (entry ∷ h) (suc (m n)) (fill_shape (next_filling f) (up_shape s))
raised_shape {f = f} {m = m} {h = h} entry k {n = n} {s = s} q d =
    subst (HasShape (entry ∷ h) (suc (m n))) (sym (up_filled f s)) (shape_there (k.terms n s q d))

next_mono : {P : ℕ → Type 0} {d : ℕ} {f : Filling} {m : Map} {g h : Shapes}
    → Inside P d f m g h
    → Inside P (suc d) (next_filling f) (lift m) (in_mono ∷ g) (in_mono ∷ h)
unfolding next_filling lift
next_mono {P = P} {d = depth} {f = f} {m = m} {g = g} {h = h} k = record { monos = monos; heaps = heaps; terms = terms }
  where
    monos : (n : ℕ) → IsMonoAt (in_mono ∷ g) n → IsFormedMono (in_mono ∷ h) (next_filling f n)
    monos zero d = z_m_var mono_at_zero
    monos (suc n) (mono_further d) = mono_raised in_mono (k.monos n d)

    heaps : (n : ℕ) → IsHeapAt (in_mono ∷ g) n → IsHeapAt (in_mono ∷ h) (lift m n)
    heaps zero d = elim d [ ]
    heaps (suc n) (heap_further d) = heap_further (k.heaps n d)

    terms : (n : ℕ) (s : Shape) → Known P (outside (suc depth) n) → HasShape (in_mono ∷ g) n s → HasShape (in_mono ∷ h) (lift m n) (fill_shape (next_filling f) s)
    terms zero s q d = elim d [ ]
    terms (suc n) _ q (shape_there d) = raised_shape in_mono k q d

next_heap : {P : ℕ → Type 0} {d : ℕ} {f : Filling} {m : Map} {g h : Shapes}
    → Inside P d f m g h
    → Inside P (suc d) (next_filling f) (lift m) (in_heap ∷ g) (in_heap ∷ h)
unfolding next_filling lift
next_heap {P = P} {d = depth} {f = f} {m = m} {g = g} {h = h} k = record { monos = monos; heaps = heaps; terms = terms }
  where
    monos : (n : ℕ) → IsMonoAt (in_heap ∷ g) n → IsFormedMono (in_heap ∷ h) (next_filling f n)
    monos zero d = elim d [ ]
    monos (suc n) (mono_further d) = mono_raised in_heap (k.monos n d)

    heaps : (n : ℕ) → IsHeapAt (in_heap ∷ g) n → IsHeapAt (in_heap ∷ h) (lift m n)
    heaps zero d = heap_at_zero
    heaps (suc n) (heap_further d) = heap_further (k.heaps n d)

    terms : (n : ℕ) (s : Shape) → Known P (outside (suc depth) n) → HasShape (in_heap ∷ g) n s → HasShape (in_heap ∷ h) (lift m n) (fill_shape (next_filling f) s)
    terms zero s q d = elim d [ ]
    terms (suc n) _ q (shape_there d) = raised_shape in_heap k q d

next_term : {P : ℕ → Type 0} {d : ℕ} {f : Filling} {m : Map} {g h : Shapes} (a : Shape)
    → Inside P d f m g h
    → Inside P (suc d) (next_filling f) (lift m) (in_term a ∷ g) (in_term (fill_shape f a) ∷ h)
unfolding next_filling lift
next_term {P = P} {d = depth} {f = f} {m = m} {g = g} {h = h} a k =
    record { monos = λ n d. monos n a d; heaps = λ n d. heaps n a d; terms = λ n s q d. terms n a s q d }
  where
    monos : (n : ℕ) (b : Shape) → IsMonoAt (in_term b ∷ g) n → IsFormedMono (in_term (fill_shape f b) ∷ h) (next_filling f n)
    monos zero b d = elim d [ ]
    monos (suc n) b (mono_further d) = mono_raised (in_term (fill_shape f b)) (k.monos n d)

    heaps : (n : ℕ) (b : Shape) → IsHeapAt (in_term b ∷ g) n → IsHeapAt (in_term (fill_shape f b) ∷ h) (lift m n)
    heaps zero b d = elim d [ ]
    heaps (suc n) b (heap_further d) = heap_further (k.heaps n d)

    terms : (n : ℕ) (b s : Shape)
        → Known P (outside (suc depth) n)
        → HasShape (in_term b ∷ g) n s
        → HasShape (in_term (fill_shape f b) ∷ h) (lift m n) (fill_shape (next_filling f) s)
    terms zero b _ q shape_here = subst (HasShape (in_term (fill_shape f b) ∷ h) zero) (sym (up_filled f b)) shape_here
    terms (suc n) b _ q (shape_there d) = raised_shape (in_term (fill_shape f b)) k q d

module _ {P : ℕ → Type 0} {file : FileShapes} (c : IsClosedFile file) where
  mutual
    unfolding fill_term fill_mono fill_shape met_in_term

    term_met : {d : ℕ} {f : Filling} {m : Map} {g h : Shapes} {M : TermTree} {s : Shape} (pending : List Argument)
        → IsFormedTerm file g M s
        → Inside P d f m g h
        → EachMet P (met_in_term d pending M)
        → IsFormedTerm file h (fill_term f m M) (fill_shape f s)
    term_met pending (z_word l) k e = z_word l
    term_met pending z_bool k e = z_bool
    term_met pending (z_loc l) k e = z_loc l
    term_met pending z_unit k e = z_unit
    term_met {d = d} pending (z_pair {left = left} {right = right} d0 d1) k e =
        let r = both P (met_in_term d [] left) (met_in_term d [] right) e in z_pair (term_met [] d0 k (r.0)) (term_met [] d1 k (r.1))
    term_met pending (z_fst d0 q) k e = fst_folded _ (term_met [] d0 k e)
    term_met pending (z_snd d0 q) k e = snd_folded _ (term_met [] d0 k e)
    term_met pending (z_not d0 q) k e = not_folded _ (term_met [] d0 k e)
    term_met {d = d} {f = f} {m = m} {h = h} pending (z_bin {op = op} {left = left} {right = right} d0 d1 q) k e =
        let r = both P (met_in_term d [] left) (met_in_term d [] right) e in
        subst (λ (a : MonoTree). IsFormedTerm file h (fill_term f m (t_bin op left right)) (sh_mono a)) (sym (op_mono_filled f op))
        (bin_folded op _ _ (term_met [] d0 k (r.0)) (term_met [] d1 k (r.1)))
    term_met {d = d} {f = f} {m = m} pending (z_eq {t = t} {left = left} {right = right} p d0 d1 q) k e =
        let r = both P (met_in_term d [] left) (met_in_term d [] right) e in
        eq_folded (fill_mono f t) _ _ (comparable_filled f p) (term_met [] d0 k (r.0)) (term_met [] d1 k (r.1))
    term_met {d = d} pending (z_sel {t = t} {test = test} {on_true = on_true} {on_false = on_false} d0 d1 d2 d3 q) k e =
        let r = both P (met_in_term d [] test) (met_in_term d [] on_true ++ met_in_term d [] on_false) e in
        let s = both P (met_in_term d [] on_true) (met_in_term d [] on_false) (r.1) in
        sel_folded _ _ _ _ (mono_filled d0 k) (term_met [] d1 k (r.0)) (term_met [] d2 k (s.0)) (term_met [] d3 k (s.1))
    term_met {f = f} {m = m} {h = h} pending (z_lam {body = body} {s = s} {t = t} d0) k e =
        z_lam (subst (IsFormedTerm file (in_term (fill_shape f s) ∷ h) (fill_term (next_filling f) (lift m) body)) (up_filled f t)
        (term_met [] d0 (next_term s k) e))
    term_met pending (z_lam_t d0) k e = z_lam_t (term_met [] d0 (next_mono k) e)
    term_met pending (z_do d0) k e = z_do (comp_met d0 k e)
    term_met pending (z_neutral d0) k e = z_neutral (neutral_met pending d0 k e)

    neutral_met : {d : ℕ} {f : Filling} {m : Map} {g h : Shapes} {M : TermTree} {s : Shape} (pending : List Argument)
        → IsFormedNeutral file g M s
        → Inside P d f m g h
        → EachMet P (met_in_term d pending M)
        → IsFormedNeutral file h (fill_term f m M) (fill_shape f s)
    neutral_met {d = d} pending (w_var {index = index} {s = s} d0) k e = w_var (k.terms index s (known_met P d pending (outside d index) e) d0)
    neutral_met {f = f} {h = h} pending (w_val {number = number} {s = s} d0) k e =
        subst (IsFormedNeutral file h (t_val number)) (sym (c.vals number s d0 f)) (w_val d0)
    neutral_met {f = f} {m = m} {h = h} pending (w_made {number = number} {values = values} {m = made} d0 d1) k e =
        subst (IsFormedNeutral file h (t_made number (fill_terms f m values))) (sym (c.made number made d0 f))
        (w_made d0 (subst (IsFormedTerms file h (fill_terms f m values)) (c.captured number made d0 f) (terms_met d1 k e)))
    neutral_met pending (w_fix d0) k e = w_fix (fix_met d0 k e)
    neutral_met {d = d} pending (w_app {function = function} {argument = argument} d0 d1) k e =
        let r = both P (met_in_term d (of_term argument ∷ pending) function) (met_in_term d [] argument) e in
        w_app (neutral_met (of_term argument ∷ pending) d0 k (r.0)) (term_met [] d1 k (r.1))
    neutral_met {f = f} {m = m} {h = h} pending (w_inst {function = function} {t = t} {s = s} d0 d1) k e =
        subst (IsFormedNeutral file h (t_inst (fill_term f m function) (fill_mono f t))) (sym (first_and_filled f t s))
        (w_inst (neutral_met (of_mono t ∷ pending) d0 k e) (mono_filled d1 k))

    terms_met : {d : ℕ} {f : Filling} {m : Map} {g h : Shapes} {Ms : TermTrees} {ts : List MonoTree}
        → IsFormedTerms file g Ms ts
        → Inside P d f m g h
        → EachMet P (met_in_terms d Ms)
        → IsFormedTerms file h (fill_terms f m Ms) (fill_monos f ts)
    terms_met z_no_terms k e = z_no_terms
    terms_met {d = d} (z_more_terms {term = term} {others = others} d0 d1) k e =
        let r = both P (met_in_term d [] term) (met_in_terms d others) e in z_more_terms (term_met [] d0 k (r.0)) (terms_met d1 k (r.1))

    fix_met : {d : ℕ} {f : Filling} {m : Map} {g h : Shapes} {fix : FixTree} {whole s : Shape}
        → IsFormedFix file g whole fix s
        → Inside P d f m g h
        → EachMet P (met_in_fix d fix)
        → IsFormedFix file h (fill_shape f whole) (fill_fix f m fix) (fill_shape f s)
    fix_met {d = d} {f = f} {m = m} {h = h} (z_param {whole = whole} {t = t} {ty = ty} {others = others} d0 d1) k e =
        let r = both P (met_in_ty d ty) (met_in_fix (suc d) others) e in
        let q = shape_filled f m ty in
        let inner =
        subst (λ (a : Shape).
        IsFormedFix file (in_term (fill_shape f (shape_of ty)) ∷ h) a (fill_fix (next_filling f) (lift m) others) (up_shape (fill_shape f t)))
        (up_filled f whole) (subst
        (IsFormedFix file (in_term (fill_shape f (shape_of ty)) ∷ h) (fill_shape (next_filling f) (up_shape whole))
        (fill_fix (next_filling f) (lift m) others)) (up_filled f t) (fix_met d1 (next_term (shape_of ty) k) (r.1))) in
        subst (λ (a : Shape).
        IsFormedFix file h (fill_shape f whole) (x_param (fill_ty f m ty) (fill_fix (next_filling f) (lift m) others))
        (sh_fun a (fill_shape f t))) q
        (z_param (ty_met d0 k (r.0))
        (subst (λ (a : Shape).
        IsFormedFix file (in_term a ∷ h) (up_shape (fill_shape f whole)) (fill_fix (next_filling f) (lift m) others)
        (up_shape (fill_shape f t))) (sym q) inner))
    fix_met {d = d} {f = f} {m = m} {h = h} (z_body {whole = whole} {pre = pre} {post = post} {t = t} {comp = comp} d0 d1) k e =
        let r = both P (met_in_triple d (triple pre t post)) (met_in_comp (suc d) comp) e in
        z_body (triple_met d0 k (r.0))
        (subst (IsFormedComp file (in_term (fill_shape f whole) ∷ h) (fill_comp (next_filling f) (lift m) comp)) (up_mono_filled f t)
        (comp_met d1 (next_term whole k) (r.1)))

    comp_met : {d : ℕ} {f : Filling} {m : Map} {g h : Shapes} {E : CompTree} {t : MonoTree}
        → IsFormedComp file g E t
        → Inside P d f m g h
        → EachMet P (met_in_comp d E)
        → IsFormedComp file h (fill_comp f m E) (fill_mono f t)
    comp_met (z_ret d0) k e = z_ret (term_met [] d0 k e)
    comp_met {d = d} {f = f} {m = m} {h = h} (z_step {step = step} {others = others} {t = t} {u = u} d0 d1) k e =
        let r = both P (met_in_step d step) (met_in_comp (suc d) others) e in
        z_step (step_met d0 k (r.0))
        (subst (IsFormedComp file (in_term (sh_mono (fill_mono f u)) ∷ h) (fill_comp (next_filling f) (lift m) others)) (up_mono_filled f t)
        (comp_met d1 (next_term (sh_mono u) k) (r.1)))

    step_met : {d : ℕ} {f : Filling} {m : Map} {g h : Shapes} {step : StepTree} {t : MonoTree}
        → IsFormedStep file g step t
        → Inside P d f m g h
        → EachMet P (met_in_step d step)
        → IsFormedStep file h (fill_step f m step) (fill_mono f t)
    step_met (z_run d0 d1) k e = z_run (neutral_met [] d0 k e) (mono_filled d1 k)
    step_met (z_alloc d0 d1) k e = z_alloc (mono_filled d0 k) (term_met [] d1 k e)
    step_met (z_get d0 d1) k e = z_get (mono_filled d0 k) (term_met [] d1 k e)
    step_met {d = d} (z_set {place = place} {value = value} d0 d1 d2) k e =
        let r = both P (met_in_term d [] place) (met_in_term d [] value) e in
        z_set (mono_filled d0 k) (term_met [] d1 k (r.0)) (term_met [] d2 k (r.1))
    step_met (z_free d0 d1) k e = z_free (mono_filled d0 k) (term_met [] d1 k e)
    step_met {d = d} (z_if {test = test} {on_true = on_true} {on_false = on_false} d0 d1 d2 d3) k e =
        let r = both P (met_in_term d [] test) (met_in_comp d on_true ++ met_in_comp d on_false) e in
        let s = both P (met_in_comp d on_true) (met_in_comp d on_false) (r.1) in
        z_if (mono_filled d0 k) (term_met [] d1 k (r.0)) (comp_met d2 k (s.0)) (comp_met d3 k (s.1))

    ty_met : {d : ℕ} {f : Filling} {m : Map} {g h : Shapes} {A : TyTree}
        → IsFormedTy file g A
        → Inside P d f m g h
        → EachMet P (met_in_ty d A)
        → IsFormedTy file h (fill_ty f m A)
    ty_met (z_mono d0) k e = z_mono (mono_filled d0 k)
    ty_met {d = d} {f = f} {m = m} {h = h} (z_fun {argument = argument} {answer = answer} d0 d1) k e =
        let r = both P (met_in_ty d argument) (met_in_ty (suc d) answer) e in
        z_fun (ty_met d0 k (r.0)) (subst (λ (a : Shape). IsFormedTy file (in_term a ∷ h) (fill_ty (next_filling f) (lift m) answer))
        (sym (shape_filled f m argument)) (ty_met d1 (next_term (shape_of argument) k) (r.1)))
    ty_met (z_all d0) k e = z_all (ty_met d0 (next_mono k) e)
    ty_met (z_hoare d0) k e = z_hoare (triple_met d0 k e)

    triple_met : {d : ℕ} {f : Filling} {m : Map} {g h : Shapes} {spec : TripleTree}
        → IsFormedTriple file g spec
        → Inside P d f m g h
        → EachMet P (met_in_triple d spec)
        → IsFormedTriple file h (fill_triple f m spec)
    triple_met {d = d} (z_triple {pre = pre} {post = post} {t = t} d0 d1 d2) k e =
        let r = both P (met_in_formula (suc d) pre) (met_in_formula (suc (suc (suc d))) post) e in
        z_triple (formula_met d0 (next_heap k) (r.0)) (mono_filled d1 k)
        (formula_met d2 (next_heap (next_heap (next_term (sh_mono t) k))) (r.1))

    formula_met : {d : ℕ} {f : Filling} {m : Map} {g h : Shapes} {F : FormulaTree}
        → IsFormedFormula file g F
        → Inside P d f m g h
        → EachMet P (met_in_formula d F)
        → IsFormedFormula file h (fill_formula f m F)
    formula_met z_tt k e = z_tt
    formula_met z_ff k e = z_ff
    formula_met {d = d} (z_and {left = left} {right = right} d0 d1) k e =
        let r = both P (met_in_formula d left) (met_in_formula d right) e in z_and (formula_met d0 k (r.0)) (formula_met d1 k (r.1))
    formula_met {d = d} (z_or {left = left} {right = right} d0 d1) k e =
        let r = both P (met_in_formula d left) (met_in_formula d right) e in z_or (formula_met d0 k (r.0)) (formula_met d1 k (r.1))
    formula_met {d = d} (z_imp {left = left} {right = right} d0 d1) k e =
        let r = both P (met_in_formula d left) (met_in_formula d right) e in z_imp (formula_met d0 k (r.0)) (formula_met d1 k (r.1))
    formula_met (z_all_t {t = t} d0 d1) k e = z_all_t (mono_filled d0 k) (formula_met d1 (next_term (sh_mono t) k) e)
    formula_met (z_ex_t {t = t} d0 d1) k e = z_ex_t (mono_filled d0 k) (formula_met d1 (next_term (sh_mono t) k) e)
    formula_met (z_all_h d0) k e = z_all_h (formula_met d0 (next_heap k) e)
    formula_met (z_ex_h d0) k e = z_ex_h (formula_met d0 (next_heap k) e)
    formula_met (z_emp {heap = heap} d0) k e = z_emp (k.heaps heap d0)
    formula_met {d = d} (z_cell {heap = heap} {place = place} {value = value} d0 d1 d2 d3) k e =
        let r = both P (met_in_term d [] place) (met_in_term d [] value) e in
        z_cell (mono_filled d0 k) (k.heaps heap d1) (term_met [] d2 k (r.0)) (term_met [] d3 k (r.1))
    formula_met (z_block {heap = heap} d0 d1 d2) k e = z_block (mono_filled d0 k) (k.heaps heap d1) (term_met [] d2 k e)
    formula_met (z_join {whole = whole} {left = left} {right = right} d0 d1 d2) k e =
        z_join (k.heaps whole d0) (k.heaps left d1) (k.heaps right d2)
    formula_met (z_same {left = left} {right = right} d0 d1) k e = z_same (k.heaps left d0) (k.heaps right d1)
    formula_met {d = d} (z_equal {left = left} {right = right} d0 d1 d2) k e =
        let r = both P (met_in_term d [] left) (met_in_term d [] right) e in
        z_equal (mono_filled d0 k) (term_met [] d1 k (r.0)) (term_met [] d2 k (r.1))
    formula_met {d = d} {f = f} {m = m} {h = h} (z_rec {number = number} {heap = heap} {place = place} {arguments = arguments} {ts = ts} q d0 d1 d2) k e =
        let r = both P (met_in_term d [] place) (met_in_terms d arguments) e in
        z_rec q (k.heaps heap d0) (term_met [] d1 k (r.0))
        (subst (IsFormedTerms file h (fill_terms f m arguments)) (c.recs number ts q f) (terms_met d2 k (r.1)))

-- ---- on formed heads the filling by variables is renaming

abbrev comp_within : TermTree → CompTree
comp_within (t_do comp) = comp
comp_within term = c_ret t_unit

comp_same : {file : FileShapes} {g : Shapes} {E : CompTree} {t : MonoTree} (m : Map)
    → IsFormedComp file g E t
    → fill_comp (renaming_of m) m E ≡ rename_comp m E
unfolding fill_term rename_term
comp_same m d = ap comp_within (term_same m (z_do d))

mutual
  unfolding fill_term rename_term

  terms_same : {file : FileShapes} {g : Shapes} {Ms : TermTrees} {ts : List MonoTree} (m : Map)
      → IsFormedTerms file g Ms ts
      → fill_terms (renaming_of m) m Ms ≡ rename_terms m Ms
  terms_same m z_no_terms = refl
  terms_same m (z_more_terms d0 d1) = λ j. more_terms (term_same m d0 j) (terms_same m d1 j)

  fix_same : {file : FileShapes} {g : Shapes} {fix : FixTree} {whole s : Shape} (m : Map)
      → IsFormedFix file g whole fix s
      → fill_fix (renaming_of m) m fix ≡ rename_fix m fix
  fix_same m (z_param {others = others} d0 d1) =
      λ j. x_param (ty_same m d0 j) ((ap (λ (f : Filling). fill_fix f (lift m) others) (next_renaming m) ∙ fix_same (lift m) d1) j)
  fix_same m (z_body {comp = comp} d0 d1) =
      λ j. x_body (triple_same m d0 j) ((ap (λ (f : Filling). fill_comp f (lift m) comp) (next_renaming m) ∙ comp_same (lift m) d1) j)

  head_same : {file : FileShapes} {g : Shapes} {M : TermTree} {s : Shape} (m : Map)
      → IsFormedNeutral file g M s
      → fill_term (renaming_of m) m M ≡ rename_term m M
  head_same m (w_var d0) = refl
  head_same m (w_val d0) = refl
  head_same m (w_made {number = number} d0 d1) = ap (t_made number) (terms_same m d1)
  head_same m (w_fix {at = at} d0) = ap (t_fix at) (fix_same m d0)
  head_same m (w_app d0 d1) = λ j. t_app (head_same m d0 j) (term_same m d1 j)
  head_same m (w_inst {t = t} d0 d1) = λ j. t_inst (head_same m d0 j) (mono_renamed m t j)

-- ---- a map

each_met : (m : Map) (g h : Shapes) (xs : List Occurrence)
    → All (λ (o : Occurrence). CarriesEntry m g h o.variable) xs
    → EachMet (CarriesEntry m g h) xs
each_met m g h [] a = tt
each_met m g h (o ∷ xs) a = (
  All-head (λ (o : Occurrence). CarriesEntry m g h o.variable) o xs a,
  each_met m g h xs (All-tail (λ (o : Occurrence). CarriesEntry m g h o.variable) o xs a),
)

start : {m : Map} {g h : Shapes}
    → ((n : ℕ) → IsMonoAt g n → IsMonoAt h (m n))
    → ((n : ℕ) → IsHeapAt g n → IsHeapAt h (m n))
    → Inside (CarriesEntry m g h) zero (renaming_of m) m g h
start monos heaps = record { monos = λ n d. z_m_var (monos n d); heaps = heaps; terms = λ n s q d. q s d }

-- where the entry of each variable that occurs is known to be carried
pub term_by_met : {file : FileShapes} {m : Map} {g h : Shapes} {M : TermTree} {s : Shape}
    → IsClosedFile file
    → ((n : ℕ) → IsMonoAt g n → IsMonoAt h (m n))
    → ((n : ℕ) → IsHeapAt g n → IsHeapAt h (m n))
    → EachMet (CarriesEntry m g h) (met_in_term zero [] M)
    → IsFormedTerm file g M s
    → IsFormedTerm file h (rename_term m M) (fill_shape (renaming_of m) s)
term_by_met {file = file} {m = m} {h = h} {s = s} c monos heaps e d =
    subst (λ (N : TermTree). IsFormedTerm file h N (fill_shape (renaming_of m) s)) (term_same m d) (term_met c [] d (start monos heaps) e)

pub head_by_met : {file : FileShapes} {m : Map} {g h : Shapes} {M : TermTree} {s : Shape}
    → IsClosedFile file
    → ((n : ℕ) → IsMonoAt g n → IsMonoAt h (m n))
    → ((n : ℕ) → IsHeapAt g n → IsHeapAt h (m n))
    → EachMet (CarriesEntry m g h) (met_in_term zero [] M)
    → IsFormedNeutral file g M s
    → IsFormedNeutral file h (rename_term m M) (fill_shape (renaming_of m) s)
head_by_met {file = file} {m = m} {h = h} {s = s} c monos heaps e d =
    subst (λ (N : TermTree). IsFormedNeutral file h N (fill_shape (renaming_of m) s)) (head_same m d) (neutral_met c [] d (start monos heaps) e)

pub only_met : OnlyMetIsNeeded
only_met = record {
  terms = λ file c m g h M s k d. term_by_met c k.monos k.heaps (each_met m g h (met_in_term zero [] M) k.terms) d;
  heads = λ file c m g h M s k d. head_by_met c k.monos k.heaps (each_met m g h (met_in_term zero [] M) k.terms) d;
}
