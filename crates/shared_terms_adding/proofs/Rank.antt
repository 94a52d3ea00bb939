-- A number for each tree that is greater than those of the trees in its slots: by it the walk ends.
use Rattle.std.proofs.Common.{◌≡◌, ℕ, ◌+◌, ◌<◌, Option, Some, None, refl, arith}
use Rattle.htt_syntax.specs.Trees.{MonoTree, TyTree, TripleTree, TermTree, FixTree, CompTree, StepTree, FormulaTree, TermTrees}
use Rattle.htt_syntax.specs.Trees.{c_ret, c_step, f_all_h, f_all_t, f_and, f_at, f_block, f_cell, f_emp, f_eq, f_ex_h}
use Rattle.htt_syntax.specs.Trees.{f_ex_t, f_ff, f_imp, f_join, f_or, f_rec, f_same, f_tt, m_bool, m_loc, m_pair}
use Rattle.htt_syntax.specs.Trees.{m_unit, m_var, m_word, more_terms, no_terms, s_alloc, s_claim, s_free, s_get, s_if}
use Rattle.htt_syntax.specs.Trees.{s_run, s_set, t_ann, t_app, t_at, t_bin, t_bool, t_def, t_do, t_eq, t_fix, t_fst}
use Rattle.htt_syntax.specs.Trees.{t_inst, t_lam, t_lam_t, t_loc, t_made, t_not, t_pair, t_sel, t_snd, t_unit, t_val}
use Rattle.htt_syntax.specs.Trees.{t_var, t_word, triple, x_body, x_param, y_all, y_at, y_fun, y_hoare, y_mono}
use Rattle.theory_canonical.specs.Skeletons.{Skeleton, sk_all, sk_arrow, sk_c, sk_o}
use Rattle.shared_terms_rows.specs.Parts.{Part, of_skeleton, of_mono, of_ty, of_triple, of_term, of_terms, of_fix, of_comp, of_step, of_formula}
use Rattle.shared_terms_rows.specs.Forms.{slots, skeleton_slots, mono_slots, ty_slots, term_slots, fix_slots, comp_slots, step_slots, formula_slots}
use Rattle.theory_rows_inversion.specs.Inversion.{form_at, parts_at}
use Rattle.shared_terms_adding.specs.Roots.{root_of}

abbrev pub over : ℕ → ℕ → ℕ → ℕ → ℕ
over a b c d = a + b + c + d + 1

unfoldable pub rank_skeleton : Skeleton → ℕ
rank_skeleton sk_o = over 0 0 0 0
rank_skeleton sk_c = over 0 0 0 0
rank_skeleton (sk_arrow a b) = over (rank_skeleton a) (rank_skeleton b) 0 0
rank_skeleton (sk_all a) = over (rank_skeleton a) 0 0 0

unfoldable pub rank_mono : MonoTree → ℕ
rank_mono m_word = over 0 0 0 0
rank_mono m_bool = over 0 0 0 0
rank_mono m_loc = over 0 0 0 0
rank_mono m_unit = over 0 0 0 0
rank_mono (m_pair a b) = over (rank_mono a) (rank_mono b) 0 0
rank_mono (m_var index) = over 0 0 0 0

unfoldable mutual
  pub rank_ty : TyTree → ℕ
  rank_ty (y_mono a) = over (rank_mono a) 0 0 0
  rank_ty (y_fun a b) = over (rank_ty a) (rank_ty b) 0 0
  rank_ty (y_all a) = over (rank_ty a) 0 0 0
  rank_ty (y_hoare a) = over (rank_triple a) 0 0 0
  rank_ty (y_at at a) = over (rank_ty a) 0 0 0

  pub rank_triple : TripleTree → ℕ
  rank_triple (triple a b c) = over (rank_formula a) (rank_mono b) (rank_formula c) 0

  pub rank_term : TermTree → ℕ
  rank_term (t_var index) = over 0 0 0 0
  rank_term (t_val number) = over 0 0 0 0
  rank_term (t_def number) = over 0 0 0 0
  rank_term (t_app a b) = over (rank_term a) (rank_term b) 0 0
  rank_term (t_inst a b) = over (rank_term a) (rank_mono b) 0 0
  rank_term (t_lam a) = over (rank_term a) 0 0 0
  rank_term (t_lam_t a) = over (rank_term a) 0 0 0
  rank_term (t_do a) = over (rank_comp a) 0 0 0
  rank_term (t_fix at a) = over (rank_fix a) 0 0 0
  rank_term (t_word word) = over 0 0 0 0
  rank_term (t_bool truth) = over 0 0 0 0
  rank_term (t_loc place) = over 0 0 0 0
  rank_term t_unit = over 0 0 0 0
  rank_term (t_pair a b) = over (rank_term a) (rank_term b) 0 0
  rank_term (t_fst a) = over (rank_term a) 0 0 0
  rank_term (t_snd a) = over (rank_term a) 0 0 0
  rank_term (t_not a) = over (rank_term a) 0 0 0
  rank_term (t_bin op a b) = over (rank_term a) (rank_term b) 0 0
  rank_term (t_eq a b c) = over (rank_mono a) (rank_term b) (rank_term c) 0
  rank_term (t_sel a b c d) = over (rank_mono a) (rank_term b) (rank_term c) (rank_term d)
  rank_term (t_ann a b) = over (rank_term a) (rank_ty b) 0 0
  rank_term (t_made number a) = over (rank_terms a) 0 0 0
  rank_term (t_at at a) = over (rank_term a) 0 0 0

  pub rank_terms : TermTrees → ℕ
  rank_terms no_terms = over 0 0 0 0
  rank_terms (more_terms a b) = over (rank_term a) (rank_terms b) 0 0

  pub rank_fix : FixTree → ℕ
  rank_fix (x_param a b) = over (rank_ty a) (rank_fix b) 0 0
  rank_fix (x_body a b) = over (rank_triple a) (rank_comp b) 0 0

  pub rank_comp : CompTree → ℕ
  rank_comp (c_ret a) = over (rank_term a) 0 0 0
  rank_comp (c_step a b) = over (rank_step a) (rank_comp b) 0 0

  pub rank_step : StepTree → ℕ
  rank_step (s_run a (Some b)) = over (rank_term a) (rank_mono b) 0 0
  rank_step (s_run a None) = over (rank_term a) 0 0 0
  rank_step (s_alloc a b) = over (rank_mono a) (rank_term b) 0 0
  rank_step (s_get a b) = over (rank_mono a) (rank_term b) 0 0
  rank_step (s_set a b c) = over (rank_mono a) (rank_term b) (rank_term c) 0
  rank_step (s_free a b) = over (rank_mono a) (rank_term b) 0 0
  rank_step (s_if a b c d) = over (rank_mono a) (rank_term b) (rank_comp c) (rank_comp d)
  rank_step (s_claim a) = over (rank_formula a) 0 0 0

  pub rank_formula : FormulaTree → ℕ
  rank_formula f_tt = over 0 0 0 0
  rank_formula f_ff = over 0 0 0 0
  rank_formula (f_and a b) = over (rank_formula a) (rank_formula b) 0 0
  rank_formula (f_or a b) = over (rank_formula a) (rank_formula b) 0 0
  rank_formula (f_imp a b) = over (rank_formula a) (rank_formula b) 0 0
  rank_formula (f_all_t a b) = over (rank_mono a) (rank_formula b) 0 0
  rank_formula (f_ex_t a b) = over (rank_mono a) (rank_formula b) 0 0
  rank_formula (f_all_h a) = over (rank_formula a) 0 0 0
  rank_formula (f_ex_h a) = over (rank_formula a) 0 0 0
  rank_formula (f_emp heap) = over 0 0 0 0
  rank_formula (f_cell a heap b c) = over (rank_mono a) (rank_term b) (rank_term c) 0
  rank_formula (f_block a heap b) = over (rank_mono a) (rank_term b) 0 0
  rank_formula (f_join whole left right) = over 0 0 0 0
  rank_formula (f_same left right) = over 0 0 0 0
  rank_formula (f_eq a b c) = over (rank_mono a) (rank_term b) (rank_term c) 0
  rank_formula (f_at at a) = over (rank_formula a) 0 0 0
  rank_formula (f_rec number heap a b) = over (rank_term a) (rank_terms b) 0 0

unfoldable pub rank : Part → ℕ
rank (of_skeleton x) = rank_skeleton x
rank (of_mono x) = rank_mono x
rank (of_ty x) = rank_ty x
rank (of_triple x) = rank_triple x
rank (of_term x) = rank_term x
rank (of_terms x) = rank_terms x
rank (of_fix x) = rank_fix x
rank (of_comp x) = rank_comp x
rank (of_step x) = rank_step x
rank (of_formula x) = rank_formula x

unfoldable pub rank_in : Option Part → ℕ
rank_in None = 0
rank_in (Some part) = rank part

pub rank_adds : (part : Part) → rank part ≡ over (rank_in ((root_of part).first)) (rank_in ((root_of part).second)) (rank_in ((root_of part).third)) (rank_in ((root_of part).fourth))
unfolding rank rank_in rank_skeleton rank_mono rank_ty root_of form_at parts_at slots skeleton_slots mono_slots ty_slots term_slots fix_slots comp_slots step_slots formula_slots
rank_adds (of_skeleton sk_o) = refl
rank_adds (of_skeleton sk_c) = refl
rank_adds (of_skeleton (sk_arrow a b)) = refl
rank_adds (of_skeleton (sk_all a)) = refl
rank_adds (of_mono m_word) = refl
rank_adds (of_mono m_bool) = refl
rank_adds (of_mono m_loc) = refl
rank_adds (of_mono m_unit) = refl
rank_adds (of_mono (m_pair a b)) = refl
rank_adds (of_mono (m_var index)) = refl
rank_adds (of_ty (y_mono a)) = refl
rank_adds (of_ty (y_fun a b)) = refl
rank_adds (of_ty (y_all a)) = refl
rank_adds (of_ty (y_hoare a)) = refl
rank_adds (of_ty (y_at at a)) = refl
rank_adds (of_triple (triple a b c)) = refl
rank_adds (of_term (t_var index)) = refl
rank_adds (of_term (t_val number)) = refl
rank_adds (of_term (t_def number)) = refl
rank_adds (of_term (t_app a b)) = refl
rank_adds (of_term (t_inst a b)) = refl
rank_adds (of_term (t_lam a)) = refl
rank_adds (of_term (t_lam_t a)) = refl
rank_adds (of_term (t_do a)) = refl
rank_adds (of_term (t_fix at a)) = refl
rank_adds (of_term (t_word word)) = refl
rank_adds (of_term (t_bool truth)) = refl
rank_adds (of_term (t_loc place)) = refl
rank_adds (of_term t_unit) = refl
rank_adds (of_term (t_pair a b)) = refl
rank_adds (of_term (t_fst a)) = refl
rank_adds (of_term (t_snd a)) = refl
rank_adds (of_term (t_not a)) = refl
rank_adds (of_term (t_bin op a b)) = refl
rank_adds (of_term (t_eq a b c)) = refl
rank_adds (of_term (t_sel a b c d)) = refl
rank_adds (of_term (t_ann a b)) = refl
rank_adds (of_term (t_made number a)) = refl
rank_adds (of_term (t_at at a)) = refl
rank_adds (of_fix (x_param a b)) = refl
rank_adds (of_fix (x_body a b)) = refl
rank_adds (of_comp (c_ret a)) = refl
rank_adds (of_comp (c_step a b)) = refl
rank_adds (of_step (s_run a (Some b))) = refl
rank_adds (of_step (s_run a None)) = refl
rank_adds (of_step (s_alloc a b)) = refl
rank_adds (of_step (s_get a b)) = refl
rank_adds (of_step (s_set a b c)) = refl
rank_adds (of_step (s_free a b)) = refl
rank_adds (of_step (s_if a b c d)) = refl
rank_adds (of_step (s_claim a)) = refl
rank_adds (of_formula f_tt) = refl
rank_adds (of_formula f_ff) = refl
rank_adds (of_formula (f_and a b)) = refl
rank_adds (of_formula (f_or a b)) = refl
rank_adds (of_formula (f_imp a b)) = refl
rank_adds (of_formula (f_all_t a b)) = refl
rank_adds (of_formula (f_ex_t a b)) = refl
rank_adds (of_formula (f_all_h a)) = refl
rank_adds (of_formula (f_ex_h a)) = refl
rank_adds (of_formula (f_emp heap)) = refl
rank_adds (of_formula (f_cell a heap b c)) = refl
rank_adds (of_formula (f_block a heap b)) = refl
rank_adds (of_formula (f_join whole left right)) = refl
rank_adds (of_formula (f_same left right)) = refl
rank_adds (of_formula (f_eq a b c)) = refl
rank_adds (of_formula (f_at at a)) = refl
rank_adds (of_formula (f_rec number heap a b)) = refl
rank_adds (of_terms no_terms) = refl
rank_adds (of_terms (more_terms a b)) = refl

-- what stands in a slot is less than the tree
pub first_less : (part : Part) → rank_in ((root_of part).first) < rank part
first_less part = omega (arith, rank_adds part)

pub second_less : (part : Part) → rank_in ((root_of part).second) < rank part
second_less part = omega (arith, rank_adds part)

pub third_less : (part : Part) → rank_in ((root_of part).third) < rank part
third_less part = omega (arith, rank_adds part)

pub fourth_less : (part : Part) → rank_in ((root_of part).fourth) < rank part
fourth_less part = omega (arith, rank_adds part)
