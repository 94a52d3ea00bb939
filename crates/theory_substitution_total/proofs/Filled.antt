-- Monotypes that are put for monotype variables leave a canonical tree canonical.
use Rattle.std.proofs.Common.{ℕ, suc, List, ◌∷◌, ◌∙◌}
use Rattle.htt_syntax.specs.Trees.{MonoTree, TyTree, TripleTree, TermTree, FixTree, CompTree, StepTree, FormulaTree, TermTrees}
use Rattle.theory_renaming.specs.Renaming.{Map, lift}
use Rattle.theory_canonical.specs.Skeletons.{Skeleton, sk_o}
use Rattle.theory_canonical.specs.Contexts.{Standing, as_mono, as_heap, as_term, Stands, here, open_mono, open_heap, open_term, there, Heads}
use Rattle.theory_canonical.specs.Canonical.{IsCanonical, IsNeutral, IsCanonicalTerms, IsCanonicalFix, IsCanonicalComp, IsCanonicalStep, IsCanonicalTy}
use Rattle.theory_canonical.specs.Canonical.{IsCanonicalTriple, IsCanonicalFormula, IsCanonicalMono, n_m_word, n_m_bool, n_m_loc, n_m_unit, n_m_pair, n_m_var}
use Rattle.theory_canonical.specs.Canonical.{n_word, n_bool, n_loc, n_unit, n_pair, n_fst, n_snd, n_not, n_bin, n_eq, n_sel, n_lam, n_lam_t, n_do, n_neutral}
use Rattle.theory_canonical.specs.Canonical.{e_var, e_val, e_made, e_fix, e_app, e_inst, n_no_terms, n_more_terms, n_param, n_body, n_ret, n_step, n_run}
use Rattle.theory_canonical.specs.Canonical.{n_alloc, n_get, n_set, n_free, n_if, n_mono, n_fun, n_all, n_hoare, n_triple, n_tt, n_ff, n_and, n_or, n_imp}
use Rattle.theory_canonical.specs.Canonical.{n_all_t, n_ex_t, n_all_h, n_ex_h, n_emp, n_cell, n_block, n_join, n_same, n_equal, n_rec}
use Rattle.theory_substitution.specs.Monotypes.{Filling, fill_mono, next_filling, fill_ty, fill_triple, fill_term, fill_fix, fill_comp, fill_step, fill_formula}
use Rattle.theory_substitution.specs.Monotypes.{fill_terms}
use Rattle.theory_canonical.proofs.Renamed.{keeps_suc, mono_renamed}
use Rattle.theory_substitution_total.proofs.Folded.{fst_folded, snd_folded, not_folded, bin_folded, eq_folded, sel_folded}
use Rattle.theory_substitution.proofs.Skeletons.{skeleton_filled}

-- What a filling and a map are to give for the variables of the one context in the other.
pub record Fills (f : Filling) (m : Map) (g h : List Standing) : Type 0 where
  pub monos : (n : ℕ) → Stands g n as_mono → IsCanonicalMono h (f n)
  pub heaps : (n : ℕ) → Stands g n as_heap → Stands h (m n) as_heap
  pub terms : (n : ℕ) (s : Skeleton) → Stands g n (as_term s) → Stands h (m n) (as_term s)

next_monos : {f : Filling} {m : Map} {g h : List Standing} (entry : Standing) (n : ℕ)
    → Fills f m g h
    → Stands (entry ∷ g) n as_mono
    → IsCanonicalMono (entry ∷ h) (next_filling f n)
unfolding next_filling
next_monos entry n k here = n_m_var here
next_monos entry n k open_mono = n_m_var open_mono
next_monos {h = h} entry (suc n) k (there d) = mono_renamed (k.monos n d) (keeps_suc entry h)

next_heaps : {f : Filling} {m : Map} {g h : List Standing} (entry : Standing) (n : ℕ)
    → Fills f m g h
    → Stands (entry ∷ g) n as_heap
    → Stands (entry ∷ h) (lift m n) as_heap
unfolding lift
next_heaps entry n k here = here
next_heaps entry n k open_heap = open_heap
next_heaps entry (suc n) k (there d) = there (k.heaps n d)

next_terms : {f : Filling} {m : Map} {g h : List Standing} (entry : Standing) (n : ℕ) (s : Skeleton)
    → Fills f m g h
    → Stands (entry ∷ g) n (as_term s)
    → Stands (entry ∷ h) (lift m n) (as_term s)
unfolding lift
next_terms entry n s k here = here
next_terms entry n s k open_term = open_term
next_terms entry (suc n) s k (there d) = there (k.terms n s d)

pub fills_next : {f : Filling} {m : Map} {g h : List Standing} (entry : Standing) → Fills f m g h → Fills (next_filling f) (lift m) (entry ∷ g) (entry ∷ h)
fills_next entry k = record { monos = λ n d. next_monos entry n k d; heaps = λ n d. next_heaps entry n k d; terms = λ n s d. next_terms entry n s k d }

pub mono_filled : {t : MonoTree} {f : Filling} {m : Map} {g h : List Standing} → IsCanonicalMono g t → Fills f m g h → IsCanonicalMono h (fill_mono f t)
unfolding fill_mono
mono_filled n_m_word k = n_m_word
mono_filled n_m_bool k = n_m_bool
mono_filled n_m_loc k = n_m_loc
mono_filled n_m_unit k = n_m_unit
mono_filled (n_m_pair d0 d1) k = n_m_pair (mono_filled d0 k) (mono_filled d1 k)
mono_filled (n_m_var {index = index} d0) k = k.monos index d0

mutual
  unfolding fill_term

  pub term_filled : {heads : Heads} {t : TermTree} {s : Skeleton} {f : Filling} {m : Map} {g h : List Standing}
      → IsCanonical heads g t s
      → Fills f m g h
      → IsCanonical heads h (fill_term f m t) s
  term_filled n_word k = n_word
  term_filled n_bool k = n_bool
  term_filled n_loc k = n_loc
  term_filled n_unit k = n_unit
  term_filled (n_pair d0 d1) k = n_pair (term_filled d0 k) (term_filled d1 k)
  term_filled (n_fst d0 d1) k = fst_folded _ (term_filled d0 k)
  term_filled (n_snd d0 d1) k = snd_folded _ (term_filled d0 k)
  term_filled (n_not d0 d1) k = not_folded _ (term_filled d0 k)
  term_filled (n_bin {op = op} d0 d1 d2) k = bin_folded op _ _ (term_filled d0 k) (term_filled d1 k)
  term_filled (n_eq d0 d1 d2 d3) k = eq_folded _ _ _ (mono_filled d0 k) (term_filled d1 k) (term_filled d2 k)
  term_filled (n_sel d0 d1 d2 d3 d4) k = sel_folded _ _ _ _ (mono_filled d0 k) (term_filled d1 k) (term_filled d2 k) (term_filled d3 k)
  term_filled (n_lam {s = s} d0) k = n_lam (term_filled d0 (fills_next (as_term s) k))
  term_filled (n_lam_t d0) k = n_lam_t (term_filled d0 (fills_next as_mono k))
  term_filled (n_do d0) k = n_do (comp_filled d0 k)
  term_filled (n_neutral d0) k = n_neutral (neutral_filled d0 k)

  pub neutral_filled : {heads : Heads} {t : TermTree} {s : Skeleton} {f : Filling} {m : Map} {g h : List Standing}
      → IsNeutral heads g t s
      → Fills f m g h
      → IsNeutral heads h (fill_term f m t) s
  neutral_filled (e_var {index = index} {s = s} d0) k = e_var (k.terms index s d0)
  neutral_filled (e_val d0) k = e_val d0
  neutral_filled (e_made d0 d1) k = e_made d0 (terms_filled d1 k)
  neutral_filled (e_fix d0) k = e_fix (fix_filled d0 k)
  neutral_filled (e_app d0 d1) k = e_app (neutral_filled d0 k) (term_filled d1 k)
  neutral_filled (e_inst d0 d1) k = e_inst (neutral_filled d0 k) (mono_filled d1 k)

  pub terms_filled : {heads : Heads} {t : TermTrees} {f : Filling} {m : Map} {g h : List Standing}
      → IsCanonicalTerms heads g t
      → Fills f m g h
      → IsCanonicalTerms heads h (fill_terms f m t)
  terms_filled n_no_terms k = n_no_terms
  terms_filled (n_more_terms d0 d1) k = n_more_terms (term_filled d0 k) (terms_filled d1 k)

  pub fix_filled : {heads : Heads} {t : FixTree} {whole s : Skeleton} {f : Filling} {m : Map} {g h : List Standing}
      → IsCanonicalFix heads g whole t s
      → Fills f m g h
      → IsCanonicalFix heads h whole (fill_fix f m t) s
  fix_filled {f = f} {m = m} (n_param {s = s} {ty = ty} d0 d1 d2) k =
      n_param (ty_filled d0 k) (skeleton_filled f m ty ∙ d1) (fix_filled d2 (fills_next (as_term s) k))
  fix_filled (n_body {whole = whole} d0 d1) k = n_body (triple_filled d0 k) (comp_filled d1 (fills_next (as_term whole) k))

  pub comp_filled : {heads : Heads} {t : CompTree} {f : Filling} {m : Map} {g h : List Standing}
      → IsCanonicalComp heads g t
      → Fills f m g h
      → IsCanonicalComp heads h (fill_comp f m t)
  comp_filled (n_ret d0) k = n_ret (term_filled d0 k)
  comp_filled (n_step d0 d1) k = n_step (step_filled d0 k) (comp_filled d1 (fills_next (as_term sk_o) k))

  pub step_filled : {heads : Heads} {t : StepTree} {f : Filling} {m : Map} {g h : List Standing}
      → IsCanonicalStep heads g t
      → Fills f m g h
      → IsCanonicalStep heads h (fill_step f m t)
  step_filled (n_run d0 d1) k = n_run (neutral_filled d0 k) (mono_filled d1 k)
  step_filled (n_alloc d0 d1) k = n_alloc (mono_filled d0 k) (term_filled d1 k)
  step_filled (n_get d0 d1) k = n_get (mono_filled d0 k) (term_filled d1 k)
  step_filled (n_set d0 d1 d2) k = n_set (mono_filled d0 k) (term_filled d1 k) (term_filled d2 k)
  step_filled (n_free d0 d1) k = n_free (mono_filled d0 k) (term_filled d1 k)
  step_filled (n_if d0 d1 d2 d3) k = n_if (mono_filled d0 k) (term_filled d1 k) (comp_filled d2 k) (comp_filled d3 k)

  pub ty_filled : {heads : Heads} {t : TyTree} {f : Filling} {m : Map} {g h : List Standing}
      → IsCanonicalTy heads g t
      → Fills f m g h
      → IsCanonicalTy heads h (fill_ty f m t)
  ty_filled (n_mono d0) k = n_mono (mono_filled d0 k)
  ty_filled {f = f} {m = m} (n_fun {argument = argument} {s = s} d0 d1 d2) k =
      n_fun (ty_filled d0 k) (skeleton_filled f m argument ∙ d1) (ty_filled d2 (fills_next (as_term s) k))
  ty_filled (n_all d0) k = n_all (ty_filled d0 (fills_next as_mono k))
  ty_filled (n_hoare d0) k = n_hoare (triple_filled d0 k)

  pub triple_filled : {heads : Heads} {t : TripleTree} {f : Filling} {m : Map} {g h : List Standing}
      → IsCanonicalTriple heads g t
      → Fills f m g h
      → IsCanonicalTriple heads h (fill_triple f m t)
  triple_filled (n_triple d0 d1 d2) k =
      n_triple (formula_filled d0 (fills_next as_heap k)) (mono_filled d1 k)
      (formula_filled d2 (fills_next as_heap (fills_next as_heap (fills_next (as_term sk_o) k))))

  pub formula_filled : {heads : Heads} {t : FormulaTree} {f : Filling} {m : Map} {g h : List Standing}
      → IsCanonicalFormula heads g t
      → Fills f m g h
      → IsCanonicalFormula heads h (fill_formula f m t)
  formula_filled n_tt k = n_tt
  formula_filled n_ff k = n_ff
  formula_filled (n_and d0 d1) k = n_and (formula_filled d0 k) (formula_filled d1 k)
  formula_filled (n_or d0 d1) k = n_or (formula_filled d0 k) (formula_filled d1 k)
  formula_filled (n_imp d0 d1) k = n_imp (formula_filled d0 k) (formula_filled d1 k)
  formula_filled (n_all_t d0 d1) k = n_all_t (mono_filled d0 k) (formula_filled d1 (fills_next (as_term sk_o) k))
  formula_filled (n_ex_t d0 d1) k = n_ex_t (mono_filled d0 k) (formula_filled d1 (fills_next (as_term sk_o) k))
  formula_filled (n_all_h d0) k = n_all_h (formula_filled d0 (fills_next as_heap k))
  formula_filled (n_ex_h d0) k = n_ex_h (formula_filled d0 (fills_next as_heap k))
  formula_filled (n_emp {heap = heap} d0) k = n_emp (k.heaps heap d0)
  formula_filled (n_cell {heap = heap} d0 d1 d2 d3) k = n_cell (mono_filled d0 k) (k.heaps heap d1) (term_filled d2 k) (term_filled d3 k)
  formula_filled (n_block {heap = heap} d0 d1 d2) k = n_block (mono_filled d0 k) (k.heaps heap d1) (term_filled d2 k)
  formula_filled (n_join {whole = whole} {left = left} {right = right} d0 d1 d2) k = n_join (k.heaps whole d0) (k.heaps left d1) (k.heaps right d2)
  formula_filled (n_same {left = left} {right = right} d0 d1) k = n_same (k.heaps left d0) (k.heaps right d1)
  formula_filled (n_equal d0 d1 d2) k = n_equal (mono_filled d0 k) (term_filled d1 k) (term_filled d2 k)
  formula_filled (n_rec {heap = heap} d0 d1 d2) k = n_rec (k.heaps heap d0) (term_filled d1 k) (terms_filled d2 k)
