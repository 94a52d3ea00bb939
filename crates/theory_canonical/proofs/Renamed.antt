-- A renaming that gives for each variable one that may be used alike keeps a canonical tree canonical.
use Rattle.std.proofs.Common.{◌≡◌, ℕ, suc, List, ◌∷◌, true, false, Some, None, option_map, refl, ap, ◌∙◌}
use Rattle.htt_syntax.specs.declared.mono.Op.{Op}
use Rattle.htt_syntax.specs.declared.mono.Op.TheVariants.{Lt}
use Rattle.htt_syntax.specs.Trees.{MonoTree, TyTree, TripleTree, TermTree, FixTree, CompTree, StepTree, FormulaTree, TermTrees, m_word, m_bool, m_loc, y_mono}
use Rattle.htt_syntax.specs.Trees.{y_fun, y_all, y_hoare, y_at, t_word, t_bool, t_loc, t_pair, t_fst, t_snd, t_not, t_bin, t_eq, t_sel}
use Rattle.theory_renaming.specs.Renaming.{Map, lift, rename_mono, rename_ty, rename_triple, rename_term, rename_fix, rename_comp, rename_step, rename_formula}
use Rattle.theory_renaming.specs.Renaming.{rename_terms}
use Rattle.theory_canonical.specs.Skeletons.{Skeleton, sk_o, sk_arrow, sk_all, skeleton}
use Rattle.theory_canonical.specs.Folding.{contractum, op_literal}
use Rattle.theory_canonical.specs.Contexts.{Standing, as_mono, as_heap, as_term, Stands, here, open_mono, open_heap, open_term, there, Heads, KeepsStandings}
use Rattle.theory_canonical.specs.Canonical.{IsCanonical, IsNeutral, IsCanonicalTerms, IsCanonicalFix, IsCanonicalComp, IsCanonicalStep, IsCanonicalTy}
use Rattle.theory_canonical.specs.Canonical.{IsCanonicalTriple, IsCanonicalFormula, IsCanonicalMono, n_m_word, n_m_bool, n_m_loc, n_m_unit, n_m_pair, n_m_var}
use Rattle.theory_canonical.specs.Canonical.{n_word, n_bool, n_loc, n_unit, n_pair, n_fst, n_snd, n_not, n_bin, n_eq, n_sel, n_lam, n_lam_t, n_do, n_neutral}
use Rattle.theory_canonical.specs.Canonical.{e_var, e_val, e_made, e_fix, e_app, e_inst, n_no_terms, n_more_terms, n_param, n_body, n_ret, n_step, n_run}
use Rattle.theory_canonical.specs.Canonical.{n_alloc, n_get, n_set, n_free, n_if, n_mono, n_fun, n_all, n_hoare, n_triple, n_tt, n_ff, n_and, n_or, n_imp}
use Rattle.theory_canonical.specs.Canonical.{n_all_t, n_ex_t, n_all_h, n_ex_h, n_emp, n_cell, n_block, n_join, n_same, n_equal, n_rec}

lift_stands : {m : Map} {g h : List Standing} (entry : Standing) (n : ℕ) (found : Standing)
    → KeepsStandings m g h
    → Stands (entry ∷ g) n found
    → Stands (entry ∷ h) (lift m n) found
unfolding lift
lift_stands entry n found k here = here
lift_stands entry n found k open_mono = open_mono
lift_stands entry n found k open_heap = open_heap
lift_stands entry n found k open_term = open_term
lift_stands entry (suc n) found k (there d) = there (k.at n found d)

pub keeps_lift : {m : Map} {g h : List Standing} (entry : Standing) → KeepsStandings m g h → KeepsStandings (lift m) (entry ∷ g) (entry ∷ h)
keeps_lift entry k = record { at = λ n found d. lift_stands entry n found k d }

pub keeps_suc : (entry : Standing) (g : List Standing) → KeepsStandings suc g (entry ∷ g)
keeps_suc entry g = record { at = λ n found d. there d }

pub skeleton_stays : (m : Map) (ty : TyTree) → skeleton (rename_ty m ty) ≡ skeleton ty
unfolding skeleton rename_ty
skeleton_stays m (y_mono mono) = refl
skeleton_stays m (y_fun argument answer) = λ j. sk_arrow (skeleton_stays m argument j) (skeleton_stays (lift m) answer j)
skeleton_stays m (y_all body) = λ j. sk_all (skeleton_stays (lift m) body j)
skeleton_stays m (y_hoare spec) = refl
skeleton_stays m (y_at at ty) = skeleton_stays m ty

literal_stays : (m : Map) (op : Op) (x y : ℕ) → op_literal op x y ≡ rename_term m (op_literal op x y)
unfolding rename_term
literal_stays m Lt x y = refl
literal_stays m _ x y = refl

-- Folding and renaming may be done in either order.
pub folded_renamed : (m : Map) (t : TermTree) → contractum (rename_term m t) ≡ option_map (rename_term m) (contractum t)
unfolding contractum rename_term rename_mono
folded_renamed m (t_bin op (t_word x) (t_word y)) = ap Some (literal_stays m op x y)
folded_renamed m (t_not (t_bool x)) = refl
folded_renamed m (t_eq m_word (t_word x) (t_word y)) = refl
folded_renamed m (t_eq m_bool (t_bool x) (t_bool y)) = refl
folded_renamed m (t_eq m_loc (t_loc x) (t_loc y)) = refl
folded_renamed m (t_fst (t_pair left right)) = refl
folded_renamed m (t_snd (t_pair left right)) = refl
folded_renamed m (t_sel mono (t_bool true) on_true on_false) = refl
folded_renamed m (t_sel mono (t_bool false) on_true on_false) = refl
folded_renamed m _ = refl

stays_unfolded : (m : Map) (t : TermTree) → contractum t ≡ None → contractum (rename_term m t) ≡ None
stays_unfolded m t e = folded_renamed m t ∙ ap (option_map (rename_term m)) e

pub mono_renamed : {t : MonoTree} {m : Map} {g h : List Standing} → IsCanonicalMono g t → KeepsStandings m g h → IsCanonicalMono h (rename_mono m t)
unfolding rename_mono
mono_renamed n_m_word k = n_m_word
mono_renamed n_m_bool k = n_m_bool
mono_renamed n_m_loc k = n_m_loc
mono_renamed n_m_unit k = n_m_unit
mono_renamed (n_m_pair d0 d1) k = n_m_pair (mono_renamed d0 k) (mono_renamed d1 k)
mono_renamed (n_m_var {index = index} d0) k = n_m_var (k.at index as_mono d0)

mutual
  unfolding rename_term

  pub term_renamed : {heads : Heads} {t : TermTree} {s : Skeleton} {m : Map} {g h : List Standing}
      → IsCanonical heads g t s
      → KeepsStandings m g h
      → IsCanonical heads h (rename_term m t) s
  term_renamed n_word k = n_word
  term_renamed n_bool k = n_bool
  term_renamed n_loc k = n_loc
  term_renamed n_unit k = n_unit
  term_renamed (n_pair d0 d1) k = n_pair (term_renamed d0 k) (term_renamed d1 k)
  term_renamed {m = m} (n_fst {pair = pair} d0 d1) k = n_fst (term_renamed d0 k) (stays_unfolded m (t_fst pair) d1)
  term_renamed {m = m} (n_snd {pair = pair} d0 d1) k = n_snd (term_renamed d0 k) (stays_unfolded m (t_snd pair) d1)
  term_renamed {m = m} (n_not {term = term} d0 d1) k = n_not (term_renamed d0 k) (stays_unfolded m (t_not term) d1)
  term_renamed {m = m} (n_bin {op = op} {left = left} {right = right} d0 d1 d2) k =
      n_bin (term_renamed d0 k) (term_renamed d1 k) (stays_unfolded m (t_bin op left right) d2)
  term_renamed {m = m} (n_eq {mono = mono} {left = left} {right = right} d0 d1 d2 d3) k =
      n_eq (mono_renamed d0 k) (term_renamed d1 k) (term_renamed d2 k) (stays_unfolded m (t_eq mono left right) d3)
  term_renamed {m = m} (n_sel {mono = mono} {test = test} {on_true = on_true} {on_false = on_false} d0 d1 d2 d3 d4) k =
      n_sel (mono_renamed d0 k) (term_renamed d1 k) (term_renamed d2 k) (term_renamed d3 k)
      (stays_unfolded m (t_sel mono test on_true on_false) d4)
  term_renamed (n_lam {s = s} d0) k = n_lam (term_renamed d0 (keeps_lift (as_term s) k))
  term_renamed (n_lam_t d0) k = n_lam_t (term_renamed d0 (keeps_lift as_mono k))
  term_renamed (n_do d0) k = n_do (comp_renamed d0 k)
  term_renamed (n_neutral d0) k = n_neutral (neutral_renamed d0 k)

  pub neutral_renamed : {heads : Heads} {t : TermTree} {s : Skeleton} {m : Map} {g h : List Standing}
      → IsNeutral heads g t s
      → KeepsStandings m g h
      → IsNeutral heads h (rename_term m t) s
  neutral_renamed (e_var {index = index} {s = s} d0) k = e_var (k.at index (as_term s) d0)
  neutral_renamed (e_val d0) k = e_val d0
  neutral_renamed (e_made d0 d1) k = e_made d0 (terms_renamed d1 k)
  neutral_renamed (e_fix d0) k = e_fix (fix_renamed d0 k)
  neutral_renamed (e_app d0 d1) k = e_app (neutral_renamed d0 k) (term_renamed d1 k)
  neutral_renamed (e_inst d0 d1) k = e_inst (neutral_renamed d0 k) (mono_renamed d1 k)

  pub terms_renamed : {heads : Heads} {t : TermTrees} {m : Map} {g h : List Standing}
      → IsCanonicalTerms heads g t
      → KeepsStandings m g h
      → IsCanonicalTerms heads h (rename_terms m t)
  terms_renamed n_no_terms k = n_no_terms
  terms_renamed (n_more_terms d0 d1) k = n_more_terms (term_renamed d0 k) (terms_renamed d1 k)

  pub fix_renamed : {heads : Heads} {t : FixTree} {whole s : Skeleton} {m : Map} {g h : List Standing}
      → IsCanonicalFix heads g whole t s
      → KeepsStandings m g h
      → IsCanonicalFix heads h whole (rename_fix m t) s
  fix_renamed {m = m} (n_param {s = s} {ty = ty} d0 d1 d2) k = n_param (ty_renamed d0 k) (skeleton_stays m ty ∙ d1) (fix_renamed d2 (keeps_lift (as_term s) k))
  fix_renamed (n_body {whole = whole} d0 d1) k = n_body (triple_renamed d0 k) (comp_renamed d1 (keeps_lift (as_term whole) k))

  pub comp_renamed : {heads : Heads} {t : CompTree} {m : Map} {g h : List Standing}
      → IsCanonicalComp heads g t
      → KeepsStandings m g h
      → IsCanonicalComp heads h (rename_comp m t)
  comp_renamed (n_ret d0) k = n_ret (term_renamed d0 k)
  comp_renamed (n_step d0 d1) k = n_step (step_renamed d0 k) (comp_renamed d1 (keeps_lift (as_term sk_o) k))

  pub step_renamed : {heads : Heads} {t : StepTree} {m : Map} {g h : List Standing}
      → IsCanonicalStep heads g t
      → KeepsStandings m g h
      → IsCanonicalStep heads h (rename_step m t)
  step_renamed (n_run d0 d1) k = n_run (neutral_renamed d0 k) (mono_renamed d1 k)
  step_renamed (n_alloc d0 d1) k = n_alloc (mono_renamed d0 k) (term_renamed d1 k)
  step_renamed (n_get d0 d1) k = n_get (mono_renamed d0 k) (term_renamed d1 k)
  step_renamed (n_set d0 d1 d2) k = n_set (mono_renamed d0 k) (term_renamed d1 k) (term_renamed d2 k)
  step_renamed (n_free d0 d1) k = n_free (mono_renamed d0 k) (term_renamed d1 k)
  step_renamed (n_if d0 d1 d2 d3) k = n_if (mono_renamed d0 k) (term_renamed d1 k) (comp_renamed d2 k) (comp_renamed d3 k)

  pub ty_renamed : {heads : Heads} {t : TyTree} {m : Map} {g h : List Standing}
      → IsCanonicalTy heads g t
      → KeepsStandings m g h
      → IsCanonicalTy heads h (rename_ty m t)
  ty_renamed (n_mono d0) k = n_mono (mono_renamed d0 k)
  ty_renamed {m = m} (n_fun {argument = argument} {s = s} d0 d1 d2) k =
      n_fun (ty_renamed d0 k) (skeleton_stays m argument ∙ d1) (ty_renamed d2 (keeps_lift (as_term s) k))
  ty_renamed (n_all d0) k = n_all (ty_renamed d0 (keeps_lift as_mono k))
  ty_renamed (n_hoare d0) k = n_hoare (triple_renamed d0 k)

  pub triple_renamed : {heads : Heads} {t : TripleTree} {m : Map} {g h : List Standing}
      → IsCanonicalTriple heads g t
      → KeepsStandings m g h
      → IsCanonicalTriple heads h (rename_triple m t)
  triple_renamed (n_triple d0 d1 d2) k =
      n_triple (formula_renamed d0 (keeps_lift as_heap k)) (mono_renamed d1 k)
      (formula_renamed d2 (keeps_lift as_heap (keeps_lift as_heap (keeps_lift (as_term sk_o) k))))

  pub formula_renamed : {heads : Heads} {t : FormulaTree} {m : Map} {g h : List Standing}
      → IsCanonicalFormula heads g t
      → KeepsStandings m g h
      → IsCanonicalFormula heads h (rename_formula m t)
  formula_renamed n_tt k = n_tt
  formula_renamed n_ff k = n_ff
  formula_renamed (n_and d0 d1) k = n_and (formula_renamed d0 k) (formula_renamed d1 k)
  formula_renamed (n_or d0 d1) k = n_or (formula_renamed d0 k) (formula_renamed d1 k)
  formula_renamed (n_imp d0 d1) k = n_imp (formula_renamed d0 k) (formula_renamed d1 k)
  formula_renamed (n_all_t d0 d1) k = n_all_t (mono_renamed d0 k) (formula_renamed d1 (keeps_lift (as_term sk_o) k))
  formula_renamed (n_ex_t d0 d1) k = n_ex_t (mono_renamed d0 k) (formula_renamed d1 (keeps_lift (as_term sk_o) k))
  formula_renamed (n_all_h d0) k = n_all_h (formula_renamed d0 (keeps_lift as_heap k))
  formula_renamed (n_ex_h d0) k = n_ex_h (formula_renamed d0 (keeps_lift as_heap k))
  formula_renamed (n_emp {heap = heap} d0) k = n_emp (k.at heap as_heap d0)
  formula_renamed (n_cell {heap = heap} d0 d1 d2 d3) k = n_cell (mono_renamed d0 k) (k.at heap as_heap d1) (term_renamed d2 k) (term_renamed d3 k)
  formula_renamed (n_block {heap = heap} d0 d1 d2) k = n_block (mono_renamed d0 k) (k.at heap as_heap d1) (term_renamed d2 k)
  formula_renamed (n_join {whole = whole} {left = left} {right = right} d0 d1 d2) k =
      n_join (k.at whole as_heap d0) (k.at left as_heap d1) (k.at right as_heap d2)
  formula_renamed (n_same {left = left} {right = right} d0 d1) k = n_same (k.at left as_heap d0) (k.at right as_heap d1)
  formula_renamed (n_equal d0 d1 d2) k = n_equal (mono_renamed d0 k) (term_renamed d1 k) (term_renamed d2 k)
  formula_renamed (n_rec {heap = heap} d0 d1 d2) k = n_rec (k.at heap as_heap d0) (term_renamed d1 k) (terms_renamed d2 k)

pub literal_canonical : {heads : Heads} {g : List Standing} (op : Op) (x y : ℕ) → IsCanonical heads g (op_literal op x y) sk_o
literal_canonical Lt x y = n_bool
literal_canonical _ x y = n_word
