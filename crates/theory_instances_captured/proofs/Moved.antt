-- A renamed tree has the occurrences of the tree, each with the renamed variable.
use Rattle.std.proofs.Common.{◌≡◌, ℕ, zero, suc, List, [], ◌∷◌, ◌++◌, map, flat_map, Option, Some, None, option_map, refl, sym, ap, ◌∙◌}
use Rattle.std.proofs.lemmas.List.{map-append}
use Rattle.htt_syntax.specs.Trees.{TyTree, TripleTree, TermTree, FixTree, CompTree, StepTree, FormulaTree, TermTrees, y_mono, y_fun, y_all, y_hoare, y_at, triple}
use Rattle.htt_syntax.specs.Trees.{t_var, t_val, t_def, t_app, t_inst, t_lam, t_lam_t, t_do, t_fix, t_word, t_bool, t_loc, t_unit, t_pair, t_fst, t_snd, t_not}
use Rattle.htt_syntax.specs.Trees.{t_bin, t_eq, t_sel, t_ann, t_made, t_at, x_param, x_body, c_ret, c_step, s_run, s_alloc, s_get, s_set, s_free, s_if, s_claim}
use Rattle.htt_syntax.specs.Trees.{f_tt, f_ff, f_and, f_or, f_imp, f_all_t, f_ex_t, f_all_h, f_ex_h, f_emp, f_cell, f_block, f_join, f_same, f_eq, f_at, f_rec}
use Rattle.htt_syntax.specs.Trees.{no_terms, more_terms}
use Rattle.theory_renaming.specs.Renaming.{Map, lift, lifts, rename_mono, rename_ty, rename_triple, rename_term, rename_fix, rename_comp, rename_step, rename_formula, rename_terms}
use Rattle.theory_instances.specs.Calls.{Argument, of_term, of_mono, rename_argument}
use Rattle.theory_instances.specs.Occurrences.{Occurrence, outside, met, met_in_term, met_in_terms, met_in_fix, met_in_comp, met_in_step, met_in_ty}
use Rattle.theory_instances.specs.Occurrences.{met_in_triple, met_in_formula, met_in_argument}

abbrev pub variables_of : List Occurrence → List ℕ
variables_of xs = map (λ (o : Occurrence). o.variable) xs

module _ (m : Map) where
  abbrev pub Moved : List Occurrence → List Occurrence → Type 0
  Moved xs ys = variables_of ys ≡ map m (variables_of xs)

  pub moved_both : (xs xs' ys ys' : List Occurrence) → Moved xs ys → Moved xs' ys' → Moved (xs ++ xs') (ys ++ ys')
  moved_both xs xs' ys ys' p q =
      map-append (λ (o : Occurrence). o.variable) ys ys'
      ∙ (λ j. p j ++ q j)
      ∙ sym (map-append m (variables_of xs) (variables_of xs'))
      ∙ ap (map m) (sym (map-append (λ (o : Occurrence). o.variable) xs xs'))

  outside_moved : (d n : ℕ) → outside d (lifts d m n) ≡ option_map m (outside d n)
  unfolding lifts lift
  outside_moved zero n = refl
  outside_moved (suc d) zero = refl
  outside_moved (suc d) (suc n) = outside_moved d n

  met_moved : (d : ℕ) (xs ys : List Argument) (o : Option ℕ) → Moved (met d xs o) (met d ys (option_map m o))
  met_moved d xs ys (Some n) = refl
  met_moved d xs ys None = refl

  mutual
    unfolding met_in_term rename_term lifts lift

    pub term_moved : (term : TermTree) (d : ℕ) (xs ys : List Argument) → Moved (met_in_term d xs term) (met_in_term d ys (rename_term (lifts d m) term))
    term_moved (t_var index) d xs ys =
        ap (λ (o : Option ℕ). variables_of (met d ys o)) (outside_moved d index) ∙ met_moved d xs ys (outside d index)
    term_moved (t_app function argument) d xs ys =
        moved_both (met_in_term d (of_term argument ∷ xs) function) (met_in_term d [] argument)
        (met_in_term d (of_term (rename_term (lifts d m) argument) ∷ ys) (rename_term (lifts d m) function))
        (met_in_term d [] (rename_term (lifts d m) argument))
        (term_moved function d (of_term argument ∷ xs) (of_term (rename_term (lifts d m) argument) ∷ ys)) (term_moved argument d [] [])
    term_moved (t_inst function mono) d xs ys = term_moved function d (of_mono mono ∷ xs) (of_mono (rename_mono (lifts d m) mono) ∷ ys)
    term_moved (t_lam body) d xs ys = term_moved body (suc d) [] []
    term_moved (t_lam_t body) d xs ys = term_moved body (suc d) [] []
    term_moved (t_do comp) d xs ys = comp_moved comp d
    term_moved (t_fix at fix) d xs ys = fix_moved fix d
    term_moved (t_pair left right) d xs ys =
        moved_both (met_in_term d [] left) (met_in_term d [] right) (met_in_term d [] (rename_term (lifts d m) left))
        (met_in_term d [] (rename_term (lifts d m) right)) (term_moved left d [] []) (term_moved right d [] [])
    term_moved (t_fst pair) d xs ys = term_moved pair d [] []
    term_moved (t_snd pair) d xs ys = term_moved pair d [] []
    term_moved (t_not term) d xs ys = term_moved term d [] []
    term_moved (t_bin op left right) d xs ys =
        moved_both (met_in_term d [] left) (met_in_term d [] right) (met_in_term d [] (rename_term (lifts d m) left))
        (met_in_term d [] (rename_term (lifts d m) right)) (term_moved left d [] []) (term_moved right d [] [])
    term_moved (t_eq mono left right) d xs ys =
        moved_both (met_in_term d [] left) (met_in_term d [] right) (met_in_term d [] (rename_term (lifts d m) left))
        (met_in_term d [] (rename_term (lifts d m) right)) (term_moved left d [] []) (term_moved right d [] [])
    term_moved (t_sel mono test on_true on_false) d xs ys =
        moved_both (met_in_term d [] test) (met_in_term d [] on_true ++ met_in_term d [] on_false) (met_in_term d [] (rename_term (lifts d m) test))
        (met_in_term d [] (rename_term (lifts d m) on_true) ++ met_in_term d [] (rename_term (lifts d m) on_false)) (term_moved test d [] [])
        (moved_both (met_in_term d [] on_true) (met_in_term d [] on_false) (met_in_term d [] (rename_term (lifts d m) on_true))
        (met_in_term d [] (rename_term (lifts d m) on_false)) (term_moved on_true d [] []) (term_moved on_false d [] []))
    term_moved (t_ann term ty) d xs ys =
        moved_both (met_in_term d [] term) (met_in_ty d ty) (met_in_term d [] (rename_term (lifts d m) term)) (met_in_ty d (rename_ty (lifts d m) ty))
        (term_moved term d [] []) (ty_moved ty d)
    term_moved (t_made number values) d xs ys = terms_moved values d
    term_moved (t_at at term) d xs ys = term_moved term d xs ys
    term_moved (t_val number) d xs ys = refl
    term_moved (t_def number) d xs ys = refl
    term_moved (t_word word) d xs ys = refl
    term_moved (t_bool truth) d xs ys = refl
    term_moved (t_loc place) d xs ys = refl
    term_moved t_unit d xs ys = refl

    terms_moved : (terms : TermTrees) (d : ℕ) → Moved (met_in_terms d terms) (met_in_terms d (rename_terms (lifts d m) terms))
    terms_moved no_terms d = refl
    terms_moved (more_terms first others) d =
        moved_both (met_in_term d [] first) (met_in_terms d others) (met_in_term d [] (rename_term (lifts d m) first))
        (met_in_terms d (rename_terms (lifts d m) others)) (term_moved first d [] []) (terms_moved others d)

    fix_moved : (fix : FixTree) (d : ℕ) → Moved (met_in_fix d fix) (met_in_fix d (rename_fix (lifts d m) fix))
    fix_moved (x_param ty others) d =
        moved_both (met_in_ty d ty) (met_in_fix (suc d) others) (met_in_ty d (rename_ty (lifts d m) ty))
        (met_in_fix (suc d) (rename_fix (lifts (suc d) m) others)) (ty_moved ty d) (fix_moved others (suc d))
    fix_moved (x_body spec comp) d =
        moved_both (met_in_triple d spec) (met_in_comp (suc d) comp) (met_in_triple d (rename_triple (lifts d m) spec))
        (met_in_comp (suc d) (rename_comp (lifts (suc d) m) comp)) (triple_moved spec d) (comp_moved comp (suc d))

    comp_moved : (comp : CompTree) (d : ℕ) → Moved (met_in_comp d comp) (met_in_comp d (rename_comp (lifts d m) comp))
    comp_moved (c_ret term) d = term_moved term d [] []
    comp_moved (c_step step others) d =
        moved_both (met_in_step d step) (met_in_comp (suc d) others) (met_in_step d (rename_step (lifts d m) step))
        (met_in_comp (suc d) (rename_comp (lifts (suc d) m) others)) (step_moved step d) (comp_moved others (suc d))

    step_moved : (step : StepTree) (d : ℕ) → Moved (met_in_step d step) (met_in_step d (rename_step (lifts d m) step))
    step_moved (s_run term mono) d = term_moved term d [] []
    step_moved (s_alloc mono value) d = term_moved value d [] []
    step_moved (s_get mono place) d = term_moved place d [] []
    step_moved (s_set mono place value) d =
        moved_both (met_in_term d [] place) (met_in_term d [] value) (met_in_term d [] (rename_term (lifts d m) place))
        (met_in_term d [] (rename_term (lifts d m) value)) (term_moved place d [] []) (term_moved value d [] [])
    step_moved (s_free mono place) d = term_moved place d [] []
    step_moved (s_if mono test on_true on_false) d =
        moved_both (met_in_term d [] test) (met_in_comp d on_true ++ met_in_comp d on_false) (met_in_term d [] (rename_term (lifts d m) test))
        (met_in_comp d (rename_comp (lifts d m) on_true) ++ met_in_comp d (rename_comp (lifts d m) on_false)) (term_moved test d [] [])
        (moved_both (met_in_comp d on_true) (met_in_comp d on_false) (met_in_comp d (rename_comp (lifts d m) on_true))
        (met_in_comp d (rename_comp (lifts d m) on_false)) (comp_moved on_true d) (comp_moved on_false d))
    step_moved (s_claim formula) d = formula_moved formula (suc (suc d))

    ty_moved : (ty : TyTree) (d : ℕ) → Moved (met_in_ty d ty) (met_in_ty d (rename_ty (lifts d m) ty))
    ty_moved (y_mono mono) d = refl
    ty_moved (y_fun argument answer) d =
        moved_both (met_in_ty d argument) (met_in_ty (suc d) answer) (met_in_ty d (rename_ty (lifts d m) argument))
        (met_in_ty (suc d) (rename_ty (lifts (suc d) m) answer)) (ty_moved argument d) (ty_moved answer (suc d))
    ty_moved (y_all body) d = ty_moved body (suc d)
    ty_moved (y_hoare spec) d = triple_moved spec d
    ty_moved (y_at at ty) d = ty_moved ty d

    triple_moved : (spec : TripleTree) (d : ℕ) → Moved (met_in_triple d spec) (met_in_triple d (rename_triple (lifts d m) spec))
    triple_moved (triple pre mono post) d =
        moved_both (met_in_formula (suc d) pre) (met_in_formula (suc (suc (suc d))) post)
        (met_in_formula (suc d) (rename_formula (lifts (suc d) m) pre))
        (met_in_formula (suc (suc (suc d))) (rename_formula (lifts (suc (suc (suc d))) m) post)) (formula_moved pre (suc d))
        (formula_moved post (suc (suc (suc d))))

    formula_moved : (formula : FormulaTree) (d : ℕ) → Moved (met_in_formula d formula) (met_in_formula d (rename_formula (lifts d m) formula))
    formula_moved (f_and left right) d =
        moved_both (met_in_formula d left) (met_in_formula d right) (met_in_formula d (rename_formula (lifts d m) left))
        (met_in_formula d (rename_formula (lifts d m) right)) (formula_moved left d) (formula_moved right d)
    formula_moved (f_or left right) d =
        moved_both (met_in_formula d left) (met_in_formula d right) (met_in_formula d (rename_formula (lifts d m) left))
        (met_in_formula d (rename_formula (lifts d m) right)) (formula_moved left d) (formula_moved right d)
    formula_moved (f_imp left right) d =
        moved_both (met_in_formula d left) (met_in_formula d right) (met_in_formula d (rename_formula (lifts d m) left))
        (met_in_formula d (rename_formula (lifts d m) right)) (formula_moved left d) (formula_moved right d)
    formula_moved (f_all_t mono body) d = formula_moved body (suc d)
    formula_moved (f_ex_t mono body) d = formula_moved body (suc d)
    formula_moved (f_all_h body) d = formula_moved body (suc d)
    formula_moved (f_ex_h body) d = formula_moved body (suc d)
    formula_moved (f_cell mono heap place value) d =
        moved_both (met_in_term d [] place) (met_in_term d [] value) (met_in_term d [] (rename_term (lifts d m) place))
        (met_in_term d [] (rename_term (lifts d m) value)) (term_moved place d [] []) (term_moved value d [] [])
    formula_moved (f_block mono heap place) d = term_moved place d [] []
    formula_moved (f_eq mono left right) d =
        moved_both (met_in_term d [] left) (met_in_term d [] right) (met_in_term d [] (rename_term (lifts d m) left))
        (met_in_term d [] (rename_term (lifts d m) right)) (term_moved left d [] []) (term_moved right d [] [])
    formula_moved (f_at at formula) d = formula_moved formula d
    formula_moved (f_rec number heap place arguments) d =
        moved_both (met_in_term d [] place) (met_in_terms d arguments) (met_in_term d [] (rename_term (lifts d m) place))
        (met_in_terms d (rename_terms (lifts d m) arguments)) (term_moved place d [] []) (terms_moved arguments d)
    formula_moved f_tt d = refl
    formula_moved f_ff d = refl
    formula_moved (f_emp heap) d = refl
    formula_moved (f_join whole left right) d = refl
    formula_moved (f_same left right) d = refl

  head_moved : (term : TermTree) → Moved (met_in_term zero [] term) (met_in_term zero [] (rename_term m term))
  unfolding lifts
  head_moved term = term_moved term zero [] []

  argument_moved : (argument : Argument) → Moved (met_in_argument argument) (met_in_argument (rename_argument m argument))
  argument_moved (of_term term) = head_moved term
  argument_moved (of_mono mono) = refl

  arguments_moved : (fixed : List Argument) → Moved (flat_map met_in_argument fixed) (flat_map met_in_argument (map (rename_argument m) fixed))
  arguments_moved [] = refl
  arguments_moved (x ∷ fixed) =
      moved_both (met_in_argument x) (flat_map met_in_argument fixed) (met_in_argument (rename_argument m x))
      (flat_map met_in_argument (map (rename_argument m) fixed)) (argument_moved x) (arguments_moved fixed)

  -- the variables of a head and its fixed arguments
  pub key_moved : (head : TermTree) (fixed : List Argument)
      → Moved (met_in_term zero [] head ++ flat_map met_in_argument fixed)
      (met_in_term zero [] (rename_term m head) ++ flat_map met_in_argument (map (rename_argument m) fixed))
  key_moved head fixed =
      moved_both (met_in_term zero [] head) (flat_map met_in_argument fixed) (met_in_term zero [] (rename_term m head))
      (flat_map met_in_argument (map (rename_argument m) fixed)) (head_moved head) (arguments_moved fixed)
