-- Monotypes that are put for monotype variables leave a formed tree formed.
use Rattle.std.proofs.Common.{◌≡◌, ℕ, zero, suc, List, ◌∷◌, refl, sym, subst}
use Rattle.htt_syntax.specs.declared.mono.Op.{Op}
use Rattle.htt_syntax.specs.declared.mono.Op.TheVariants.{Lt}
use Rattle.htt_syntax.specs.Trees.{MonoTree, TyTree, TripleTree, TermTree, FixTree, CompTree, StepTree, FormulaTree, TermTrees, t_val, t_inst, t_bin, t_made}
use Rattle.htt_syntax.specs.Trees.{x_param}
use Rattle.theory_renaming.specs.Renaming.{Map, lift, rename_mono}
use Rattle.theory_values.specs.Values.{op_mono}
use Rattle.theory_substitution.specs.Monotypes.{Filling, next_filling, fill_mono, fill_ty, fill_triple, fill_term, fill_fix, fill_comp, fill_step, fill_formula}
use Rattle.theory_substitution.specs.Monotypes.{fill_terms}
use Rattle.theory_typing.specs.Contexts.{IsComparable, compares_word, compares_bool, compares_loc}
use Rattle.theory_formed_shapes.specs.Shapes.{Shape, sh_mono, sh_fun, fill_shape, up_shape, shape_of, ShapeEntry, in_mono, in_heap, in_term, Shapes, IsMonoAt}
use Rattle.theory_formed_shapes.specs.Shapes.{mono_at_zero, mono_further, IsHeapAt, heap_at_zero, heap_further, HasShape, shape_here, shape_there}
use Rattle.theory_formed_shapes.specs.Formed.{FileShapes, IsFormedMono, z_m_word, z_m_bool, z_m_loc, z_m_unit, z_m_pair, z_m_var, IsFormedTerm, z_word, z_bool}
use Rattle.theory_formed_shapes.specs.Formed.{z_loc, z_unit, z_pair, z_fst, z_snd, z_not, z_bin, z_eq, z_sel, z_lam, z_lam_t, z_do, z_neutral, IsFormedNeutral}
use Rattle.theory_formed_shapes.specs.Formed.{w_var, w_val, w_made, w_fix, w_app, w_inst, IsFormedTerms, z_no_terms, z_more_terms, IsFormedFix, z_param, z_body}
use Rattle.theory_formed_shapes.specs.Formed.{IsFormedComp, z_ret, z_step, IsFormedStep, z_run, z_alloc, z_get, z_set, z_free, z_if, IsFormedTy, z_mono, z_fun}
use Rattle.theory_formed_shapes.specs.Formed.{z_all, z_hoare, IsFormedTriple, z_triple, IsFormedFormula, z_tt, z_ff, z_and, z_or, z_imp, z_all_t, z_ex_t}
use Rattle.theory_formed_shapes.specs.Formed.{z_all_h, z_ex_h, z_emp, z_cell, z_block, z_join, z_same, z_equal, z_rec, fill_monos, IsClosedFile}
use Rattle.theory_formed_shapes.specs.Laws.{FillsFormed, FillingKeepsFormed}
use Rattle.theory_formed_shapes.proofs.Fillings.{up_filled, up_mono_filled, first_and_filled}
use Rattle.theory_formed_shapes.proofs.ShapesOf.{shape_filled}
use Rattle.theory_formed_shapes.proofs.Folded.{fst_folded, snd_folded, not_folded, bin_folded, eq_folded, sel_folded}

-- a monotype under one more entry
pub mono_raised : {g : Shapes} {t : MonoTree} (entry : ShapeEntry) → IsFormedMono g t → IsFormedMono (entry ∷ g) (rename_mono suc t)
unfolding rename_mono
mono_raised entry z_m_word = z_m_word
mono_raised entry z_m_bool = z_m_bool
mono_raised entry z_m_loc = z_m_loc
mono_raised entry z_m_unit = z_m_unit
mono_raised entry (z_m_pair p q) = z_m_pair (mono_raised entry p) (mono_raised entry q)
mono_raised entry (z_m_var d) = z_m_var (mono_further d)

pub mono_filled : {f : Filling} {m : Map} {g h : Shapes} {t : MonoTree} → IsFormedMono g t → FillsFormed f m g h → IsFormedMono h (fill_mono f t)
unfolding fill_mono
mono_filled z_m_word k = z_m_word
mono_filled z_m_bool k = z_m_bool
mono_filled z_m_loc k = z_m_loc
mono_filled z_m_unit k = z_m_unit
mono_filled (z_m_pair p q) k = z_m_pair (mono_filled p k) (mono_filled q k)
mono_filled (z_m_var {index = index} d) k = k.monos index d

pub op_mono_filled : (f : Filling) (op : Op) → fill_mono f (op_mono op) ≡ op_mono op
unfolding fill_mono
op_mono_filled f Lt = refl
op_mono_filled f _ = refl

pub comparable_filled : (f : Filling) {t : MonoTree} → IsComparable t → IsComparable (fill_mono f t)
unfolding fill_mono
comparable_filled f compares_word = compares_word
comparable_filled f compares_bool = compares_bool
comparable_filled f compares_loc = compares_loc

-- under one more entry
raised_shape : {f : Filling} {m : Map} {g h : Shapes} (entry : ShapeEntry)
    → FillsFormed f m g h
    → {n : ℕ} {s : Shape}
    → HasShape g n s
    → HasShape (entry ∷ h) (suc (m n)) (fill_shape (next_filling f) (up_shape s))
raised_shape {f = f} {m = m} {h = h} entry k {n = n} {s = s} d = subst (HasShape (entry ∷ h) (suc (m n))) (sym (up_filled f s)) (shape_there (k.terms n s d))

pub next_mono : {f : Filling} {m : Map} {g h : Shapes} → FillsFormed f m g h → FillsFormed (next_filling f) (lift m) (in_mono ∷ g) (in_mono ∷ h)
unfolding next_filling lift
next_mono {f = f} {m = m} {g = g} {h = h} k = record { monos = monos; heaps = heaps; terms = terms }
  where
    monos : (n : ℕ) → IsMonoAt (in_mono ∷ g) n → IsFormedMono (in_mono ∷ h) (next_filling f n)
    monos zero d = z_m_var mono_at_zero
    monos (suc n) (mono_further d) = mono_raised in_mono (k.monos n d)

    heaps : (n : ℕ) → IsHeapAt (in_mono ∷ g) n → IsHeapAt (in_mono ∷ h) (lift m n)
    heaps zero d = elim d [ ]
    heaps (suc n) (heap_further d) = heap_further (k.heaps n d)

    terms : (n : ℕ) (s : Shape) → HasShape (in_mono ∷ g) n s → HasShape (in_mono ∷ h) (lift m n) (fill_shape (next_filling f) s)
    terms zero s d = elim d [ ]
    terms (suc n) _ (shape_there d) = raised_shape in_mono k d

pub next_heap : {f : Filling} {m : Map} {g h : Shapes} → FillsFormed f m g h → FillsFormed (next_filling f) (lift m) (in_heap ∷ g) (in_heap ∷ h)
unfolding next_filling lift
next_heap {f = f} {m = m} {g = g} {h = h} k = record { monos = monos; heaps = heaps; terms = terms }
  where
    monos : (n : ℕ) → IsMonoAt (in_heap ∷ g) n → IsFormedMono (in_heap ∷ h) (next_filling f n)
    monos zero d = elim d [ ]
    monos (suc n) (mono_further d) = mono_raised in_heap (k.monos n d)

    heaps : (n : ℕ) → IsHeapAt (in_heap ∷ g) n → IsHeapAt (in_heap ∷ h) (lift m n)
    heaps zero d = heap_at_zero
    heaps (suc n) (heap_further d) = heap_further (k.heaps n d)

    terms : (n : ℕ) (s : Shape) → HasShape (in_heap ∷ g) n s → HasShape (in_heap ∷ h) (lift m n) (fill_shape (next_filling f) s)
    terms zero s d = elim d [ ]
    terms (suc n) _ (shape_there d) = raised_shape in_heap k d

pub next_term : {f : Filling} {m : Map} {g h : Shapes} (a : Shape)
    → FillsFormed f m g h
    → FillsFormed (next_filling f) (lift m) (in_term a ∷ g) (in_term (fill_shape f a) ∷ h)
unfolding next_filling lift
next_term {f = f} {m = m} {g = g} {h = h} a k = record { monos = λ n d. monos n a d; heaps = λ n d. heaps n a d; terms = λ n s d. terms n a s d }
  where
    monos : (n : ℕ) (b : Shape) → IsMonoAt (in_term b ∷ g) n → IsFormedMono (in_term (fill_shape f b) ∷ h) (next_filling f n)
    monos zero b d = elim d [ ]
    monos (suc n) b (mono_further d) = mono_raised (in_term (fill_shape f b)) (k.monos n d)

    heaps : (n : ℕ) (b : Shape) → IsHeapAt (in_term b ∷ g) n → IsHeapAt (in_term (fill_shape f b) ∷ h) (lift m n)
    heaps zero b d = elim d [ ]
    heaps (suc n) b (heap_further d) = heap_further (k.heaps n d)

    terms : (n : ℕ) (b s : Shape) → HasShape (in_term b ∷ g) n s → HasShape (in_term (fill_shape f b) ∷ h) (lift m n) (fill_shape (next_filling f) s)
    terms zero b _ shape_here = subst (HasShape (in_term (fill_shape f b) ∷ h) zero) (sym (up_filled f b)) shape_here
    terms (suc n) b _ (shape_there d) = raised_shape (in_term (fill_shape f b)) k d

mutual
  unfolding fill_term fill_mono fill_shape

  pub term_filled : {file : FileShapes} {f : Filling} {m : Map} {g h : Shapes} {M : TermTree} {s : Shape}
      → IsFormedTerm file g M s
      → IsClosedFile file
      → FillsFormed f m g h
      → IsFormedTerm file h (fill_term f m M) (fill_shape f s)
  term_filled (z_word l) c k = z_word l
  term_filled z_bool c k = z_bool
  term_filled (z_loc l) c k = z_loc l
  term_filled z_unit c k = z_unit
  term_filled (z_pair d0 d1) c k = z_pair (term_filled d0 c k) (term_filled d1 c k)
  term_filled (z_fst {pair = pair} d0 q) c k = fst_folded _ (term_filled d0 c k)
  term_filled (z_snd {pair = pair} d0 q) c k = snd_folded _ (term_filled d0 c k)
  term_filled (z_not {term = term} d0 q) c k = not_folded _ (term_filled d0 c k)
  term_filled {file = file} {f = f} {m = m} {h = h} (z_bin {op = op} {left = left} {right = right} d0 d1 q) c k =
      subst (λ (a : MonoTree). IsFormedTerm file h (fill_term f m (t_bin op left right)) (sh_mono a)) (sym (op_mono_filled f op))
      (bin_folded op _ _ (term_filled d0 c k) (term_filled d1 c k))
  term_filled {f = f} {m = m} (z_eq {t = t} {left = left} {right = right} p d0 d1 q) c k =
      eq_folded (fill_mono f t) _ _ (comparable_filled f p) (term_filled d0 c k) (term_filled d1 c k)
  term_filled (z_sel {t = t} {test = test} {on_true = on_true} {on_false = on_false} d0 d1 d2 d3 q) c k =
      sel_folded _ _ _ _ (mono_filled d0 k) (term_filled d1 c k) (term_filled d2 c k) (term_filled d3 c k)
  term_filled {file = file} {f = f} {m = m} {h = h} (z_lam {body = body} {s = s} {t = t} d0) c k =
      z_lam (subst (IsFormedTerm file (in_term (fill_shape f s) ∷ h) (fill_term (next_filling f) (lift m) body)) (up_filled f t)
      (term_filled d0 c (next_term s k)))
  term_filled (z_lam_t d0) c k = z_lam_t (term_filled d0 c (next_mono k))
  term_filled (z_do d0) c k = z_do (comp_filled d0 c k)
  term_filled (z_neutral d0) c k = z_neutral (neutral_filled d0 c k)

  pub neutral_filled : {file : FileShapes} {f : Filling} {m : Map} {g h : Shapes} {M : TermTree} {s : Shape}
      → IsFormedNeutral file g M s
      → IsClosedFile file
      → FillsFormed f m g h
      → IsFormedNeutral file h (fill_term f m M) (fill_shape f s)
  neutral_filled (w_var {index = index} {s = s} d0) c k = w_var (k.terms index s d0)
  neutral_filled {file = file} {f = f} {m = m} {h = h} (w_val {number = number} {s = s} d0) c k =
      subst (IsFormedNeutral file h (t_val number)) (sym (c.vals number s d0 f)) (w_val d0)
  neutral_filled {file = file} {f = f} {m = m} {h = h} (w_made {number = number} {values = values} {m = made} d0 d1) c k =
      subst (IsFormedNeutral file h (t_made number (fill_terms f m values))) (sym (c.made number made d0 f))
      (w_made d0 (subst (IsFormedTerms file h (fill_terms f m values)) (c.captured number made d0 f) (terms_filled d1 c k)))
  neutral_filled (w_fix d0) c k = w_fix (fix_filled d0 c k)
  neutral_filled (w_app d0 d1) c k = w_app (neutral_filled d0 c k) (term_filled d1 c k)
  neutral_filled {file = file} {f = f} {m = m} {h = h} (w_inst {function = function} {t = t} {s = s} d0 d1) c k =
      subst (IsFormedNeutral file h (t_inst (fill_term f m function) (fill_mono f t))) (sym (first_and_filled f t s))
      (w_inst (neutral_filled d0 c k) (mono_filled d1 k))

  pub terms_filled : {file : FileShapes} {f : Filling} {m : Map} {g h : Shapes} {Ms : TermTrees} {ts : List MonoTree}
      → IsFormedTerms file g Ms ts
      → IsClosedFile file
      → FillsFormed f m g h
      → IsFormedTerms file h (fill_terms f m Ms) (fill_monos f ts)
  terms_filled z_no_terms c k = z_no_terms
  terms_filled (z_more_terms d0 d1) c k = z_more_terms (term_filled d0 c k) (terms_filled d1 c k)

  pub fix_filled : {file : FileShapes} {f : Filling} {m : Map} {g h : Shapes} {fix : FixTree} {whole s : Shape}
      → IsFormedFix file g whole fix s
      → IsClosedFile file
      → FillsFormed f m g h
      → IsFormedFix file h (fill_shape f whole) (fill_fix f m fix) (fill_shape f s)
  fix_filled {file = file} {f = f} {m = m} {h = h} (z_param {whole = whole} {t = t} {ty = ty} {others = others} d0 d1) c k =
      let e = shape_filled f m ty in
      let inner =
      subst (λ (a : Shape).
      IsFormedFix file (in_term (fill_shape f (shape_of ty)) ∷ h) a (fill_fix (next_filling f) (lift m) others) (up_shape (fill_shape f t)))
      (up_filled f whole) (subst
      (IsFormedFix file (in_term (fill_shape f (shape_of ty)) ∷ h) (fill_shape (next_filling f) (up_shape whole))
      (fill_fix (next_filling f) (lift m) others)) (up_filled f t) (fix_filled d1 c (next_term (shape_of ty) k))) in
      subst (λ (a : Shape).
      IsFormedFix file h (fill_shape f whole) (x_param (fill_ty f m ty) (fill_fix (next_filling f) (lift m) others))
      (sh_fun a (fill_shape f t))) e
      (z_param (ty_filled d0 c k)
      (subst (λ (a : Shape).
      IsFormedFix file (in_term a ∷ h) (up_shape (fill_shape f whole)) (fill_fix (next_filling f) (lift m) others)
      (up_shape (fill_shape f t))) (sym e) inner))
  fix_filled {file = file} {f = f} {m = m} {h = h} (z_body {whole = whole} {t = t} {comp = comp} d0 d1) c k =
      z_body (triple_filled d0 c k)
      (subst (IsFormedComp file (in_term (fill_shape f whole) ∷ h) (fill_comp (next_filling f) (lift m) comp)) (up_mono_filled f t)
      (comp_filled d1 c (next_term whole k)))

  pub comp_filled : {file : FileShapes} {f : Filling} {m : Map} {g h : Shapes} {E : CompTree} {t : MonoTree}
      → IsFormedComp file g E t
      → IsClosedFile file
      → FillsFormed f m g h
      → IsFormedComp file h (fill_comp f m E) (fill_mono f t)
  comp_filled (z_ret d0) c k = z_ret (term_filled d0 c k)
  comp_filled {file = file} {f = f} {m = m} {h = h} (z_step {others = others} {t = t} {u = u} d0 d1) c k =
      z_step (step_filled d0 c k)
      (subst (IsFormedComp file (in_term (sh_mono (fill_mono f u)) ∷ h) (fill_comp (next_filling f) (lift m) others)) (up_mono_filled f t)
      (comp_filled d1 c (next_term (sh_mono u) k)))

  pub step_filled : {file : FileShapes} {f : Filling} {m : Map} {g h : Shapes} {step : StepTree} {t : MonoTree}
      → IsFormedStep file g step t
      → IsClosedFile file
      → FillsFormed f m g h
      → IsFormedStep file h (fill_step f m step) (fill_mono f t)
  step_filled {file = file} {f = f} {m = m} {h = h} (z_run {term = term} {t = t} d0 d1) c k = z_run (neutral_filled d0 c k) (mono_filled d1 k)
  step_filled {file = file} {f = f} {m = m} {h = h} (z_alloc {t = t} {value = value} d0 d1) c k = z_alloc (mono_filled d0 k) (term_filled d1 c k)
  step_filled {file = file} {f = f} {m = m} {h = h} (z_get {t = t} {place = place} d0 d1) c k = z_get (mono_filled d0 k) (term_filled d1 c k)
  step_filled {file = file} {f = f} {m = m} {h = h} (z_set {t = t} {place = place} {value = value} d0 d1 d2) c k =
      z_set (mono_filled d0 k) (term_filled d1 c k) (term_filled d2 c k)
  step_filled {file = file} {f = f} {m = m} {h = h} (z_free {t = t} {place = place} d0 d1) c k = z_free (mono_filled d0 k) (term_filled d1 c k)
  step_filled {file = file} {f = f} {m = m} {h = h} (z_if {t = t} {test = test} {on_true = on_true} {on_false = on_false} d0 d1 d2 d3) c k =
      z_if (mono_filled d0 k) (term_filled d1 c k) (comp_filled d2 c k) (comp_filled d3 c k)

  pub ty_filled : {file : FileShapes} {f : Filling} {m : Map} {g h : Shapes} {A : TyTree}
      → IsFormedTy file g A
      → IsClosedFile file
      → FillsFormed f m g h
      → IsFormedTy file h (fill_ty f m A)
  ty_filled (z_mono d0) c k = z_mono (mono_filled d0 k)
  ty_filled {file = file} {f = f} {m = m} {h = h} (z_fun {argument = argument} {answer = answer} d0 d1) c k =
      z_fun (ty_filled d0 c k) (subst (λ (a : Shape). IsFormedTy file (in_term a ∷ h) (fill_ty (next_filling f) (lift m) answer))
      (sym (shape_filled f m argument)) (ty_filled d1 c (next_term (shape_of argument) k)))
  ty_filled (z_all d0) c k = z_all (ty_filled d0 c (next_mono k))
  ty_filled (z_hoare d0) c k = z_hoare (triple_filled d0 c k)

  pub triple_filled : {file : FileShapes} {f : Filling} {m : Map} {g h : Shapes} {spec : TripleTree}
      → IsFormedTriple file g spec
      → IsClosedFile file
      → FillsFormed f m g h
      → IsFormedTriple file h (fill_triple f m spec)
  triple_filled {file = file} {f = f} {m = m} {h = h} (z_triple {pre = pre} {post = post} {t = t} d0 d1 d2) c k =
      z_triple (formula_filled d0 c (next_heap k)) (mono_filled d1 k)
      (formula_filled d2 c (next_heap (next_heap (next_term (sh_mono t) k))))

  pub formula_filled : {file : FileShapes} {f : Filling} {m : Map} {g h : Shapes} {F : FormulaTree}
      → IsFormedFormula file g F
      → IsClosedFile file
      → FillsFormed f m g h
      → IsFormedFormula file h (fill_formula f m F)
  formula_filled z_tt c k = z_tt
  formula_filled z_ff c k = z_ff
  formula_filled (z_and d0 d1) c k = z_and (formula_filled d0 c k) (formula_filled d1 c k)
  formula_filled (z_or d0 d1) c k = z_or (formula_filled d0 c k) (formula_filled d1 c k)
  formula_filled (z_imp d0 d1) c k = z_imp (formula_filled d0 c k) (formula_filled d1 c k)
  formula_filled {file = file} {f = f} {m = m} {h = h} (z_all_t {t = t} {body = body} d0 d1) c k =
      z_all_t (mono_filled d0 k) (formula_filled d1 c (next_term (sh_mono t) k))
  formula_filled {file = file} {f = f} {m = m} {h = h} (z_ex_t {t = t} {body = body} d0 d1) c k =
      z_ex_t (mono_filled d0 k) (formula_filled d1 c (next_term (sh_mono t) k))
  formula_filled (z_all_h d0) c k = z_all_h (formula_filled d0 c (next_heap k))
  formula_filled (z_ex_h d0) c k = z_ex_h (formula_filled d0 c (next_heap k))
  formula_filled (z_emp {heap = heap} d0) c k = z_emp (k.heaps heap d0)
  formula_filled {file = file} {f = f} {m = m} {h = h} (z_cell {t = t} {heap = heap} {place = place} {value = value} d0 d1 d2 d3) c k =
      z_cell (mono_filled d0 k) (k.heaps heap d1) (term_filled d2 c k) (term_filled d3 c k)
  formula_filled (z_block {heap = heap} d0 d1 d2) c k = z_block (mono_filled d0 k) (k.heaps heap d1) (term_filled d2 c k)
  formula_filled (z_join {whole = whole} {left = left} {right = right} d0 d1 d2) c k = z_join (k.heaps whole d0) (k.heaps left d1) (k.heaps right d2)
  formula_filled (z_same {left = left} {right = right} d0 d1) c k = z_same (k.heaps left d0) (k.heaps right d1)
  formula_filled {file = file} {f = f} {m = m} {h = h} (z_equal {t = t} {left = left} {right = right} d0 d1 d2) c k =
      z_equal (mono_filled d0 k) (term_filled d1 c k) (term_filled d2 c k)
  formula_filled {file = file} {f = f} {m = m} {h = h} (z_rec {number = number} {heap = heap} {arguments = arguments} {ts = ts} q d0 d1 d2)
      c k =
      z_rec q (k.heaps heap d0) (term_filled d1 c k)
      (subst (IsFormedTerms file h (fill_terms f m arguments)) (c.recs number ts q f) (terms_filled d2 c k))

pub filling_formed : FillingKeepsFormed
filling_formed = record {
  terms = λ file c f m g h k M s d. term_filled d c k;
  types = λ file c f m g h k A d. ty_filled d c k;
  formulas = λ file c f m g h k F d. formula_filled d c k;
}
