-- What a phrase stands for in a sorted scope is sorted.
use Rattle.std.specs.Prelude.{◌≡◌, ℕ, suc, length, Result}
use Rattle.std.proofs.Common.{refl, ap, ◌∙◌}
use Rattle.htt_syntax.specs.Trees.{TermTree, FixTree}
use Rattle.htt_parser_trees.specs.Trees as raw
use Rattle.theory_text_names.specs.Stops.{Stop}
use Rattle.theory_text_names.specs.Scopes.{a_mono, a_term, a_heap, Scope, under, under_name, under_mem, under_heaps, at_heap}
use Rattle.theory_text_sugar.specs.Sugar.{left_part, right_part}
use Rattle.theory_text.specs.Bytes.{byte_of_atom, byte_of_appl, byte_of_prod, byte_of_rel, byte_of_fatom}
use Rattle.theory_text.specs.Phrases.{sum_op, prod_op, count_of, list_of, ty_comes, triple_comes, term_comes, params_come, rel_comes, sum_comes, sum_rest_comes}
use Rattle.theory_text.specs.Phrases.{prod_comes, prod_rest_comes, appl_comes, parts_come, atom_comes, terms_come, comp_comes, step_comes, formula_comes}
use Rattle.theory_text.specs.Phrases.{disj_comes, conj_comes, star_comes, fatom_comes}
use Rattle.htt_syntax.specs.Trees.{t_at, t_bin, t_app, t_inst}
use Rattle.theory_text_scoped.specs.Sorted.{SortedTy, SortedTriple, SortedTerm, SortedFix, SortedComp, SortedStep, SortedFormula, SortedTerms, sorted_none}
use Rattle.theory_text_scoped.specs.Sorted.{sorted_y_mono, sorted_y_fun, sorted_y_all, sorted_y_hoare, sorted_y_at, sorted_triple, sorted_t_app, sorted_t_inst}
use Rattle.theory_text_scoped.specs.Sorted.{sorted_t_lam, sorted_t_lam_t, sorted_t_do, sorted_t_fix, sorted_t_word, sorted_t_bool, sorted_t_loc, sorted_t_unit}
use Rattle.theory_text_scoped.specs.Sorted.{sorted_t_pair, sorted_t_bin, sorted_t_eq, sorted_t_sel, sorted_t_ann, sorted_t_at, sorted_x_param, sorted_x_body}
use Rattle.theory_text_scoped.specs.Sorted.{sorted_c_ret, sorted_c_step, sorted_s_run, sorted_s_alloc, sorted_s_get, sorted_s_set, sorted_s_free, sorted_s_if}
use Rattle.theory_text_scoped.specs.Sorted.{sorted_s_claim, sorted_f_tt, sorted_f_ff, sorted_f_and, sorted_f_or, sorted_f_imp, sorted_f_all_t, sorted_f_ex_t}
use Rattle.theory_text_scoped.specs.Sorted.{sorted_f_all_h, sorted_f_ex_h, sorted_f_emp, sorted_f_cell, sorted_f_block, sorted_f_join, sorted_f_same}
use Rattle.theory_text_scoped.specs.Sorted.{sorted_f_eq, sorted_f_at, sorted_f_rec, sorted_no_terms, sorted_more_terms}
use Rattle.theory_text_scoped.specs.Scopes.{sorts_in, IsSortedScope}
use Rattle.theory_text_scoped.proofs.Binding.{Gives, gives, if_bind, any_ok, count_right}
use Rattle.theory_text_scoped.proofs.Named.{under_fits, under_mem_fits, under_heaps_fits, left_part_fits, right_part_fits, at_heap_fits, heap_sorted}
use Rattle.theory_text_scoped.proofs.Named.{current_sorted, term_named_sorted, pred_named_sorted, mono_sorted, monos_sorted}
use Rattle.theory_text_scoped.proofs.Uses.{unary_sorted, joined_sorted, placed_sorted, use_sorted, counts}

mutual
  unfolding term_comes sorts_in count_of list_of

  pub ty_sorted : (s : Scope) → IsSortedScope s → (t : raw.RawTyTree) → Gives (ty_comes s t) (SortedTy (sorts_in s.locals))
  ty_sorted s fits (raw.y_fun at b argument answer) =
      if_bind (ty_sorted s fits argument)
      (λ A hA. if_bind (ty_sorted (under s b a_term) (under_fits a_term fits) answer) (λ B hB. gives (sorted_y_at (sorted_y_fun hA hB))))
  ty_sorted s fits (raw.y_all at a body) =
      if_bind (ty_sorted (under_name s a a_mono) (under_fits a_mono fits) body) (λ B hB. gives (sorted_y_at (sorted_y_all hB)))
  ty_sorted s fits (raw.y_hoare at spec) = if_bind (triple_sorted s fits spec) (λ T hT. gives (sorted_y_at (sorted_y_hoare hT)))
  ty_sorted s fits (raw.y_mono mono) = if_bind (mono_sorted s fits mono) (λ t ht. gives (sorted_y_at (sorted_y_mono ht)))

  pub triple_sorted : (s : Scope) → IsSortedScope s → (t : raw.RawTripleTree) → Gives (triple_comes s t) (SortedTriple (sorts_in s.locals))
  triple_sorted s fits (raw.triple_of pre b result post) =
      if_bind (formula_sorted (under_mem s) (under_mem_fits fits) pre) (λ P hP.
      if_bind (mono_sorted s fits result) (λ t ht.
      if_bind (formula_sorted (under_heaps (under s b a_term)) (under_heaps_fits (under_fits a_term fits)) post)
      (λ Q hQ. gives (sorted_triple hP ht hQ))))

  pub term_sorted : (s : Scope) → IsSortedScope s → (t : raw.RawTermTree) → Gives (term_comes s t) (SortedTerm (sorts_in s.locals))
  term_sorted s fits (raw.t_fun at b body) =
      if_bind (term_sorted (under s b a_term) (under_fits a_term fits) body) (λ M hM. gives (sorted_t_at (sorted_t_lam hM)))
  term_sorted s fits (raw.t_fun_mono at a body) =
      if_bind (term_sorted (under_name s a a_mono) (under_fits a_mono fits) body) (λ M hM. gives (sorted_t_at (sorted_t_lam_t hM)))
  term_sorted s fits (raw.t_do at comp) = if_bind (comp_sorted s fits comp) (λ E hE. gives (sorted_t_at (sorted_t_do hE)))
  term_sorted s fits (raw.t_fix at f params spec comp) =
      if_bind (params_sorted s fits params _ (λ inner inside.
      if_bind (triple_sorted inner inside spec)
      (λ T hT. if_bind (comp_sorted (under_name inner f a_term) (under_fits a_term inside) comp) (λ E hE. gives (sorted_x_body hT hE)))))
      (λ X hX. gives (sorted_t_at (sorted_t_fix hX)))
  term_sorted s fits (raw.t_rel rel) = rel_sorted s fits rel

  pub params_sorted : (s : Scope)
      → IsSortedScope s
      → (t : raw.RawParamTrees) (rest : Scope → Result FixTree Stop)
      → ((inner : Scope) → IsSortedScope inner → Gives (rest inner) (SortedFix (sorts_in inner.locals)))
      → Gives (params_come s t rest) (SortedFix (sorts_in s.locals))
  params_sorted s fits raw.no_params rest k = k s fits
  params_sorted s fits (raw.more_params b ty params) rest k =
      if_bind (ty_sorted s fits ty)
      (λ A hA. if_bind (params_sorted (under s b a_term) (under_fits a_term fits) params rest k) (λ X hX. gives (sorted_x_param hA hX)))

  pub rel_sorted : (s : Scope) → IsSortedScope s → (t : raw.RawRelTree) → Gives (rel_comes s t) (SortedTerm (sorts_in s.locals))
  rel_sorted s fits (raw.r_sum sum) = sum_sorted s fits sum
  rel_sorted s fits (raw.r_less left right) =
      if_bind (sum_sorted s fits left) (λ M hM. if_bind (sum_sorted s fits right) (λ N hN. gives (sorted_t_at (sorted_t_bin hM hN))))

  pub sum_sorted : (s : Scope) → IsSortedScope s → (t : raw.RawSumTree) → Gives (sum_comes s t) (SortedTerm (sorts_in s.locals))
  sum_sorted s fits (raw.s_sum first rest) = if_bind (prod_sorted s fits first) (λ M hM. sum_rest_sorted s fits (byte_of_prod first) M hM rest)

  pub sum_rest_sorted : (s : Scope)
      → IsSortedScope s
      → (at : ℕ) (M : TermTree)
      → SortedTerm (sorts_in s.locals) M
      → (t : raw.RawSumRestTree)
      → Gives (sum_rest_comes s at M t) (SortedTerm (sorts_in s.locals))
  sum_rest_sorted s fits at M hM raw.s_end = gives hM
  sum_rest_sorted s fits at M hM (raw.s_more sign operand rest) =
      if_bind (prod_sorted s fits operand)
      (λ N hN. sum_rest_sorted s fits at (t_at at (t_bin (sum_op sign) M N)) (sorted_t_at (sorted_t_bin hM hN)) rest)

  pub prod_sorted : (s : Scope) → IsSortedScope s → (t : raw.RawProdTree) → Gives (prod_comes s t) (SortedTerm (sorts_in s.locals))
  prod_sorted s fits (raw.x_prod first rest) = if_bind (appl_sorted s fits first) (λ M hM. prod_rest_sorted s fits (byte_of_appl first) M hM rest)

  pub prod_rest_sorted : (s : Scope)
      → IsSortedScope s
      → (at : ℕ) (M : TermTree)
      → SortedTerm (sorts_in s.locals) M
      → (t : raw.RawProdRestTree)
      → Gives (prod_rest_comes s at M t) (SortedTerm (sorts_in s.locals))
  prod_rest_sorted s fits at M hM raw.x_end = gives hM
  prod_rest_sorted s fits at M hM (raw.x_more sign operand rest) =
      if_bind (appl_sorted s fits operand)
      (λ N hN. prod_rest_sorted s fits at (t_at at (t_bin (prod_op sign) M N)) (sorted_t_at (sorted_t_bin hM hN)) rest)

  pub appl_sorted : (s : Scope) → IsSortedScope s → (t : raw.RawApplTree) → Gives (appl_comes s t) (SortedTerm (sorts_in s.locals))
  appl_sorted s fits (raw.l_unary at word operand) = if_bind (atom_sorted s fits operand) (λ M hM. gives (sorted_t_at (unary_sorted word hM)))
  appl_sorted s fits (raw.l_apply head parts) = if_bind (atom_sorted s fits head) (λ M hM. parts_sorted s fits (byte_of_atom head) M hM parts)

  pub parts_sorted : (s : Scope)
      → IsSortedScope s
      → (at : ℕ) (M : TermTree)
      → SortedTerm (sorts_in s.locals) M
      → (t : raw.RawPartTrees)
      → Gives (parts_come s at M t) (SortedTerm (sorts_in s.locals))
  parts_sorted s fits at M hM raw.no_parts = gives hM
  parts_sorted s fits at M hM (raw.atom_part argument parts) =
      if_bind (atom_sorted s fits argument) (λ N hN. parts_sorted s fits at (t_at at (t_app M N)) (sorted_t_at (sorted_t_app hM hN)) parts)
  parts_sorted s fits at M hM (raw.mono_part mono parts) =
      if_bind (mono_sorted s fits mono) (λ t ht. parts_sorted s fits at (t_at at (t_inst M t)) (sorted_t_at (sorted_t_inst hM ht)) parts)

  pub atom_sorted : (s : Scope) → IsSortedScope s → (t : raw.RawAtomTree) → Gives (atom_comes s t) (SortedTerm (sorts_in s.locals))
  atom_sorted s fits (raw.a_name span) = if_bind (term_named_sorted s fits span) (λ M hM. gives (sorted_t_at hM))
  atom_sorted s fits (raw.a_number at value) = gives (sorted_t_at sorted_t_word)
  atom_sorted s fits (raw.a_true at) = gives (sorted_t_at sorted_t_bool)
  atom_sorted s fits (raw.a_false at) = gives (sorted_t_at sorted_t_bool)
  atom_sorted s fits (raw.a_null at) = gives (sorted_t_at sorted_t_loc)
  atom_sorted s fits (raw.a_place at value) = gives (sorted_t_at sorted_t_loc)
  atom_sorted s fits (raw.a_eq at mono left right) =
      if_bind (mono_sorted s fits mono) (λ t ht.
      if_bind (term_sorted s fits left) (λ M hM. if_bind (term_sorted s fits right) (λ N hN. gives (sorted_t_at (sorted_t_eq ht hM hN)))))
  atom_sorted s fits (raw.a_sel at mono test on_true on_false) =
      if_bind (mono_sorted s fits mono) (λ t ht.
      if_bind (term_sorted s fits test) (λ B hB.
      if_bind (term_sorted s fits on_true)
      (λ M hM. if_bind (term_sorted s fits on_false) (λ N hN. gives (sorted_t_at (sorted_t_sel ht hB hM hN))))))
  atom_sorted s fits (raw.a_unit at) = gives (sorted_t_at sorted_t_unit)
  atom_sorted s fits (raw.a_brackets at term) = term_sorted s fits term
  atom_sorted s fits (raw.a_pair at left right) =
      if_bind (term_sorted s fits left) (λ M hM. if_bind (term_sorted s fits right) (λ N hN. gives (sorted_t_at (sorted_t_pair hM hN))))
  atom_sorted s fits (raw.a_annotated at term ty) =
      if_bind (term_sorted s fits term) (λ M hM. if_bind (ty_sorted s fits ty) (λ A hA. gives (sorted_t_at (sorted_t_ann hM hA))))

  pub terms_sorted : (s : Scope)
      → IsSortedScope s
      → (t : raw.RawTermTrees)
      → Gives (terms_come s t) (λ Ms. SortedTerms (sorts_in s.locals) Ms × (length (list_of Ms) ≡ count_of t))
  terms_sorted s fits raw.no_terms = gives (sorted_no_terms, refl)
  terms_sorted s fits (raw.more_terms term terms) =
      if_bind (term_sorted s fits term)
      (λ M hM. if_bind (terms_sorted s fits terms) (λ Ms hMs. gives (sorted_more_terms hM hMs.0, ap suc hMs.1)))

  pub comp_sorted : (s : Scope) → IsSortedScope s → (t : raw.RawCompTree) → Gives (comp_comes s t) (SortedComp (sorts_in s.locals))
  comp_sorted s fits (raw.c_ret term) = if_bind (term_sorted s fits term) (λ M hM. gives (sorted_c_ret hM))
  comp_sorted s fits (raw.c_step b step comp) =
      if_bind (step_sorted s fits step)
      (λ S hS. if_bind (comp_sorted (under s b a_term) (under_fits a_term fits) comp) (λ E hE. gives (sorted_c_step hS hE)))

  pub step_sorted : (s : Scope) → IsSortedScope s → (t : raw.RawStepTree) → Gives (step_comes s t) (SortedStep (sorts_in s.locals))
  step_sorted s fits (raw.s_alloc mono value) =
      if_bind (mono_sorted s fits mono) (λ t ht. if_bind (atom_sorted s fits value) (λ M hM. gives (sorted_s_alloc ht hM)))
  step_sorted s fits (raw.s_get mono place) =
      if_bind (mono_sorted s fits mono) (λ t ht. if_bind (atom_sorted s fits place) (λ M hM. gives (sorted_s_get ht hM)))
  step_sorted s fits (raw.s_set mono place value) =
      if_bind (mono_sorted s fits mono)
      (λ t ht. if_bind (atom_sorted s fits place) (λ M hM. if_bind (atom_sorted s fits value) (λ N hN. gives (sorted_s_set ht hM hN))))
  step_sorted s fits (raw.s_free mono place) =
      if_bind (mono_sorted s fits mono) (λ t ht. if_bind (atom_sorted s fits place) (λ M hM. gives (sorted_s_free ht hM)))
  step_sorted s fits (raw.s_if mono test on_true on_false) =
      if_bind (mono_sorted s fits mono) (λ t ht.
      if_bind (atom_sorted s fits test) (λ B hB.
      if_bind (comp_sorted s fits on_true) (λ E hE. if_bind (comp_sorted s fits on_false) (λ E' hE'. gives (sorted_s_if ht hB hE hE')))))
  step_sorted s fits (raw.s_claim formula) = if_bind (formula_sorted (under_heaps s) (under_heaps_fits fits) formula) (λ F hF. gives (sorted_s_claim hF))
  step_sorted s fits (raw.s_run routine) = if_bind (appl_sorted s fits routine) (λ K hK. gives (sorted_s_run hK sorted_none))

  pub formula_sorted : (s : Scope) → IsSortedScope s → (t : raw.RawFormulaTree) → Gives (formula_comes s t) (SortedFormula (sorts_in s.locals))
  formula_sorted s fits (raw.f_all at b (raw.over_mono mono) body) =
      if_bind (mono_sorted s fits mono) (λ t ht.
      if_bind (formula_sorted (under s b a_term) (under_fits a_term fits) body) (λ F hF. gives (sorted_f_at (sorted_f_all_t ht hF))))
  formula_sorted s fits (raw.f_all at b raw.over_heap body) =
      if_bind (formula_sorted (under s b a_heap) (under_fits a_heap fits) body) (λ F hF. gives (sorted_f_at (sorted_f_all_h hF)))
  formula_sorted s fits (raw.f_ex at b (raw.over_mono mono) body) =
      if_bind (mono_sorted s fits mono) (λ t ht.
      if_bind (formula_sorted (under s b a_term) (under_fits a_term fits) body) (λ F hF. gives (sorted_f_at (sorted_f_ex_t ht hF))))
  formula_sorted s fits (raw.f_ex at b raw.over_heap body) =
      if_bind (formula_sorted (under s b a_heap) (under_fits a_heap fits) body) (λ F hF. gives (sorted_f_at (sorted_f_ex_h hF)))
  formula_sorted s fits (raw.f_disj disj) = disj_sorted s fits disj
  formula_sorted s fits (raw.f_implies disj formula) =
      if_bind (disj_sorted s fits disj) (λ F hF. if_bind (formula_sorted s fits formula) (λ G hG. gives (sorted_f_at (sorted_f_imp hF hG))))

  pub disj_sorted : (s : Scope) → IsSortedScope s → (t : raw.RawDisjTree) → Gives (disj_comes s t) (SortedFormula (sorts_in s.locals))
  disj_sorted s fits (raw.d_conj conj) = conj_sorted s fits conj
  disj_sorted s fits (raw.d_or conj disj) =
      if_bind (conj_sorted s fits conj) (λ F hF. if_bind (disj_sorted s fits disj) (λ G hG. gives (sorted_f_at (sorted_f_or hF hG))))

  pub conj_sorted : (s : Scope) → IsSortedScope s → (t : raw.RawConjTree) → Gives (conj_comes s t) (SortedFormula (sorts_in s.locals))
  conj_sorted s fits (raw.j_star star) = star_sorted s fits star
  conj_sorted s fits (raw.j_and star conj) =
      if_bind (star_sorted s fits star) (λ F hF. if_bind (conj_sorted s fits conj) (λ G hG. gives (sorted_f_at (sorted_f_and hF hG))))

  pub star_sorted : (s : Scope) → IsSortedScope s → (t : raw.RawStarTree) → Gives (star_comes s t) (SortedFormula (sorts_in s.locals))
  star_sorted s fits (raw.k_fatom fatom) = fatom_sorted s fits fatom
  star_sorted s fits (raw.k_times fatom others) =
      if_bind (current_sorted s fits (byte_of_fatom fatom)) (λ h hh.
      if_bind (fatom_sorted (left_part s) (left_part_fits fits) fatom)
      (λ P hP. if_bind (star_sorted (right_part s) (right_part_fits fits) others) (λ Q hQ. gives (sorted_f_at (joined_sorted hh hP hQ)))))

  pub fatom_sorted : (s : Scope) → IsSortedScope s → (t : raw.RawFatomTree) → Gives (fatom_comes s t) (SortedFormula (sorts_in s.locals))
  fatom_sorted s fits (raw.g_tt at) = gives (sorted_f_at sorted_f_tt)
  fatom_sorted s fits (raw.g_ff at) = gives (sorted_f_at sorted_f_ff)
  fatom_sorted s fits (raw.g_emp at) = if_bind (current_sorted s fits at) (λ h hh. gives (sorted_f_at (sorted_f_emp hh)))
  fatom_sorted s fits (raw.g_brackets at formula) = formula_sorted s fits formula
  fatom_sorted s fits (raw.g_at_heap at heap formula) =
      if_bind (heap_sorted s fits heap)
      (λ k hk. if_bind (formula_sorted (at_heap s k) (at_heap_fits fits hk) formula) (λ P hP. gives (sorted_f_at hP)))
  fatom_sorted s fits (raw.g_emp_of at heap) = if_bind (heap_sorted s fits heap) (λ h hh. gives (sorted_f_at (sorted_f_emp hh)))
  fatom_sorted s fits (raw.g_same at left right) =
      if_bind (heap_sorted s fits left) (λ h hh. if_bind (heap_sorted s fits right) (λ k hk. gives (sorted_f_at (sorted_f_same hh hk))))
  fatom_sorted s fits (raw.g_join at whole left right) =
      if_bind (heap_sorted s fits whole) (λ h hh.
      if_bind (heap_sorted s fits left) (λ a ha. if_bind (heap_sorted s fits right) (λ b hb. gives (sorted_f_at (sorted_f_join hh ha hb)))))
  fatom_sorted s fits (raw.g_cell at mono heap place value) =
      if_bind (mono_sorted s fits mono) (λ t ht.
      if_bind (heap_sorted s fits heap) (λ h hh.
      if_bind (term_sorted s fits place)
      (λ M hM. if_bind (term_sorted s fits value) (λ N hN. gives (sorted_f_at (sorted_f_cell ht hh hM hN))))))
  fatom_sorted s fits (raw.g_block at mono heap place) =
      if_bind (mono_sorted s fits mono) (λ t ht.
      if_bind (heap_sorted s fits heap)
      (λ h hh. if_bind (term_sorted s fits place) (λ M hM. gives (sorted_f_at (sorted_f_block ht hh hM)))))
  fatom_sorted s fits (raw.g_use at name monos arguments) =
      if_bind (current_sorted s fits at) (λ h hh.
      if_bind (pred_named_sorted s fits name) (λ p hp.
      if_bind (count_right at _) (λ counted hcounted.
      if_bind (monos_sorted s fits monos) (λ ts hts.
      if_bind (terms_sorted s fits arguments) (λ Ms hMs.
      let (n, m) = counts _ _ _ _ hcounted in gives (placed_sorted at (use_sorted p hp ts hts.0 (hts.1 ∙ n) Ms hMs.0 (hMs.1 ∙ m) h hh)))))))
  fatom_sorted s fits (raw.g_use_at at name index arguments) =
      if_bind (current_sorted s fits at) (λ h hh.
      if_bind (any_ok _) (λ p hp.
      if_bind (count_right at _) (λ counted hcounted.
      if_bind (term_sorted s fits index)
      (λ N hN. if_bind (terms_sorted s fits arguments) (λ Ms hMs. gives (sorted_f_at (sorted_f_rec hh hN hMs.0)))))))
  fatom_sorted s fits (raw.g_use_at_heap at name heap index arguments) =
      if_bind (any_ok _) (λ p hp.
      if_bind (count_right at _) (λ counted hcounted.
      if_bind (heap_sorted s fits heap) (λ h hh.
      if_bind (term_sorted s fits index)
      (λ N hN. if_bind (terms_sorted s fits arguments) (λ Ms hMs. gives (sorted_f_at (sorted_f_rec hh hN hMs.0)))))))
  fatom_sorted s fits (raw.g_eq left mono right) =
      if_bind (rel_sorted s fits left) (λ M hM.
      if_bind (mono_sorted s fits mono) (λ t ht. if_bind (rel_sorted s fits right) (λ N hN. gives (sorted_f_at (sorted_f_eq ht hM hN)))))
  fatom_sorted s fits (raw.g_points place mono value) =
      if_bind (current_sorted s fits (byte_of_rel place)) (λ h hh.
      if_bind (rel_sorted s fits place) (λ M hM.
      if_bind (mono_sorted s fits mono)
      (λ t ht. if_bind (rel_sorted s fits value) (λ N hN. gives (sorted_f_at (sorted_f_cell ht hh hM hN))))))
  fatom_sorted s fits (raw.g_points_any place mono) =
      if_bind (current_sorted s fits (byte_of_rel place)) (λ h hh.
      if_bind (rel_sorted s fits place) (λ M hM. if_bind (mono_sorted s fits mono) (λ t ht. gives (sorted_f_at (sorted_f_block ht hh hM)))))
