-- What a tree measures, one level at a time: an equation for each form of node.
use Rattle.std.specs.Prelude.{ℕ, suc, ◌+◌, Bool, ◌≡◌, refl, max, Option, Some, None, ⊤}
use Rattle.std.proofs.Common.{ap, ◌∙◌, arith}
use Rattle.htt_syntax.specs.declared.mono.Op.{Op}
use Rattle.htt_syntax.specs.Trees.{MonoTree, TyTree, TripleTree, TermTree, FixTree, CompTree, StepTree, FormulaTree}
use Rattle.htt_syntax.specs.Trees.{TermTrees, m_word, m_bool, m_loc, m_unit, m_pair, m_var, y_mono, y_fun, y_all}
use Rattle.htt_syntax.specs.Trees.{y_hoare, y_at, t_var, t_val, t_def, t_app, t_inst, t_lam, t_lam_t, t_do, t_fix}
use Rattle.htt_syntax.specs.Trees.{t_word, t_bool, t_loc, t_unit, t_pair, t_fst, t_snd, t_not, t_bin, t_eq, t_sel}
use Rattle.htt_syntax.specs.Trees.{t_ann, t_made, t_at, s_run, s_alloc, s_get, s_set, s_free, s_if, s_claim, f_tt, f_ff}
use Rattle.htt_syntax.specs.Trees.{f_and, f_or, f_imp, f_all_t, f_ex_t, f_all_h, f_ex_h, f_emp, f_cell, f_block, f_join}
use Rattle.htt_syntax.specs.Trees.{f_same, f_eq, f_at, f_rec, triple, x_param, x_body, c_ret, c_step, no_terms}
use Rattle.htt_syntax.specs.Trees.{more_terms}
use Rattle.theory_saturation.specs.Saturation.{saturated}
use Rattle.theory_counts.specs.Nodes.{nodes_mono, nodes_option, nodes_ty, nodes_triple, nodes_term, nodes_fix}
use Rattle.theory_counts.specs.Nodes.{nodes_comp, nodes_step, nodes_formula, nodes_terms}
use Rattle.theory_counts.specs.Depth.{depth_mono, depth_option, depth_ty, depth_triple, depth_term, within_fix}
use Rattle.theory_counts.specs.Depth.{within_comp, depth_step, depth_formula, depth_terms}
use Rattle.htt_syntax_measure.specs.declared.size.Size.{Size}
use Rattle.htt_syntax_measure.specs.Measures.{told, nothing, leaf, beside, node, node_of_two, node_of_three}
use Rattle.htt_syntax_measure.specs.Measures.{node_of_four}
use Rattle.htt_syntax_measure.specs.Measures.{counted, deeper, mono_measure, option_measure, ty_measure, triple_measure}
use Rattle.htt_syntax_measure.specs.Measures.{term_measure, fix_measure, comp_measure, step_measure, formula_measure}
use Rattle.htt_syntax_measure.specs.Measures.{terms_measure}

-- ---- sizes before they are told, each number as large as it is

abbrev mono_size : MonoTree → Size
mono_size t = record { nodes = nodes_mono t; depth = depth_mono t }

abbrev option_size : Option MonoTree → Size
option_size t = record { nodes = nodes_option t; depth = depth_option t }

abbrev ty_size : TyTree → Size
ty_size A = record { nodes = nodes_ty A; depth = depth_ty A }

abbrev triple_size : TripleTree → Size
triple_size T = record { nodes = nodes_triple T; depth = depth_triple T }

abbrev term_size : TermTree → Size
term_size M = record { nodes = nodes_term M; depth = depth_term M }

abbrev fix_size : FixTree → Size
fix_size X = record { nodes = nodes_fix X; depth = within_fix X }

abbrev comp_size : CompTree → Size
comp_size E = record { nodes = nodes_comp E; depth = within_comp E }

abbrev step_size : StepTree → Size
step_size S = record { nodes = nodes_step S; depth = depth_step S }

abbrev formula_size : FormulaTree → Size
formula_size F = record { nodes = nodes_formula F; depth = depth_formula F }

abbrev terms_size : TermTrees → Size
terms_size Ms = record { nodes = nodes_terms Ms; depth = depth_terms Ms }

-- one level deeper
abbrev deeper_size : Size → Size
deeper_size z = record { nodes = z.nodes; depth = suc z.depth }

abbrev told_size : Size → Size
told_size z = told z.nodes z.depth

-- ---- what is told, part by part

cap_beside : (a b : Size) → told (a.nodes + b.nodes) (max a.depth b.depth) ≡ beside (told_size a) (told_size b)
unfolding told beside
cap_beside a b =
    let nodes : saturated (a.nodes + b.nodes) ≡ saturated (saturated a.nodes + saturated b.nodes) = omega arith in
    let depth : saturated (max a.depth b.depth) ≡ max (saturated a.depth) (saturated b.depth) = omega arith in
    λ j. record { nodes = nodes j; depth = depth j }

of_one : (a : Size) → told (suc a.nodes) (suc a.depth) ≡ node (told_size a)
unfolding told node
of_one a =
    let nodes : saturated (suc a.nodes) ≡ saturated (suc (saturated a.nodes)) = omega arith in
    let depth : saturated (suc a.depth) ≡ saturated (suc (saturated a.depth)) = omega arith in
    λ j. record { nodes = nodes j; depth = depth j }

cap_counted : (a : Size) → told (suc a.nodes) a.depth ≡ counted (told_size a)
unfolding told counted
cap_counted a =
    let nodes : saturated (suc a.nodes) ≡ saturated (suc (saturated a.nodes)) = omega arith in
    λ j. record { nodes = nodes j; depth = saturated a.depth }

cap_deeper : (a : Size) → told a.nodes (suc a.depth) ≡ deeper (told_size a)
unfolding told deeper
cap_deeper a =
    let depth : saturated (suc a.depth) ≡ saturated (suc (saturated a.depth)) = omega arith in
    λ j. record { nodes = saturated a.nodes; depth = depth j }

of_two : (a b : Size)
    → told (suc (a.nodes + b.nodes)) (suc (max a.depth b.depth)) ≡ node_of_two (told_size a) (told_size b)
unfolding node_of_two
of_two a b = of_one (record { nodes = a.nodes + b.nodes; depth = max a.depth b.depth }) ∙ ap node (cap_beside a b)

of_three : (a b c : Size)
    → told (suc (a.nodes + b.nodes + c.nodes)) (suc (max a.depth (max b.depth c.depth)))
    ≡ node_of_three (told_size a) (told_size b) (told_size c)
unfolding node_of_two node_of_three
of_three a b c =
    let row : max a.depth (max b.depth c.depth) ≡ max (max a.depth b.depth) c.depth = omega arith in
    ap (λ m. told (suc (a.nodes + b.nodes + c.nodes)) (suc m)) row
    ∙ of_two (record { nodes = a.nodes + b.nodes; depth = max a.depth b.depth }) c
    ∙ ap (λ x. node (beside x (told_size c))) (cap_beside a b)

of_four : (a b c d : Size)
    → told (suc (a.nodes + b.nodes + c.nodes + d.nodes)) (suc (max a.depth (max b.depth (max c.depth d.depth))))
    ≡ node_of_four (told_size a) (told_size b) (told_size c) (told_size d)
unfolding node_of_four node_of_three
of_four a b c d =
    let row : max a.depth (max b.depth (max c.depth d.depth)) ≡ max (max a.depth b.depth) (max c.depth d.depth) =
    omega arith in
    ap (λ m. told (suc (a.nodes + b.nodes + c.nodes + d.nodes)) (suc m)) row
    ∙ of_three (record { nodes = a.nodes + b.nodes; depth = max a.depth b.depth }) c d
    ∙ ap (λ x. node (beside (beside x (told_size c)) (told_size d))) (cap_beside a b)

-- all that the equations below compute with
opened : Type 0
unfolding leaf mono_measure option_measure ty_measure triple_measure term_measure fix_measure comp_measure step_measure
    formula_measure terms_measure told nodes_mono nodes_option nodes_term depth_mono depth_option depth_term
opened = ⊤

-- ---- the forms of nodes

pub mono_word_measure : mono_measure m_word ≡ leaf
unfolding opened
mono_word_measure = refl

pub mono_bool_measure : mono_measure m_bool ≡ leaf
unfolding opened
mono_bool_measure = refl

pub mono_loc_measure : mono_measure m_loc ≡ leaf
unfolding opened
mono_loc_measure = refl

pub mono_unit_measure : mono_measure m_unit ≡ leaf
unfolding opened
mono_unit_measure = refl

pub mono_pair_measure : (left : MonoTree) (right : MonoTree)
    → mono_measure (m_pair left right) ≡ node_of_two (mono_measure left) (mono_measure right)
unfolding opened
mono_pair_measure left right = of_two (mono_size left) (mono_size right)

pub ty_mono_measure : (mono : MonoTree) → ty_measure (y_mono mono) ≡ node (mono_measure mono)
unfolding opened
ty_mono_measure mono = of_one (mono_size mono)

pub ty_fun_measure : (argument : TyTree) (answer : TyTree)
    → ty_measure (y_fun argument answer) ≡ node_of_two (ty_measure argument) (ty_measure answer)
unfolding opened
ty_fun_measure argument answer = of_two (ty_size argument) (ty_size answer)

pub ty_all_measure : (body : TyTree) → ty_measure (y_all body) ≡ node (ty_measure body)
unfolding opened
ty_all_measure body = of_one (ty_size body)

pub ty_hoare_measure : (spec : TripleTree) → ty_measure (y_hoare spec) ≡ node (triple_measure spec)
unfolding opened
ty_hoare_measure spec = of_one (triple_size spec)

pub ty_at_measure : (at : ℕ) (ty : TyTree) → ty_measure (y_at at ty) ≡ ty_measure ty
unfolding opened
ty_at_measure at ty = refl

pub triple_of_measure : (pre : FormulaTree) (mono : MonoTree) (post : FormulaTree)
    → triple_measure (triple pre mono post)
    ≡ node_of_three (formula_measure pre) (mono_measure mono) (formula_measure post)
unfolding opened
triple_of_measure pre mono post = of_three (formula_size pre) (mono_size mono) (formula_size post)

pub term_val_measure : (number : ℕ) → term_measure (t_val number) ≡ leaf
unfolding opened
term_val_measure number = refl

pub term_def_measure : (number : ℕ) → term_measure (t_def number) ≡ leaf
unfolding opened
term_def_measure number = refl

pub term_app_measure : (function : TermTree) (argument : TermTree)
    → term_measure (t_app function argument) ≡ node_of_two (term_measure function) (term_measure argument)
unfolding opened
term_app_measure function argument = of_two (term_size function) (term_size argument)

pub term_inst_measure : (function : TermTree) (mono : MonoTree)
    → term_measure (t_inst function mono) ≡ node_of_two (term_measure function) (mono_measure mono)
unfolding opened
term_inst_measure function mono = of_two (term_size function) (mono_size mono)

pub term_lam_measure : (body : TermTree) → term_measure (t_lam body) ≡ node (term_measure body)
unfolding opened
term_lam_measure body = of_one (term_size body)

pub term_lam_t_measure : (body : TermTree) → term_measure (t_lam_t body) ≡ node (term_measure body)
unfolding opened
term_lam_t_measure body = of_one (term_size body)

pub term_do_measure : (comp : CompTree) → term_measure (t_do comp) ≡ node (deeper (comp_measure comp))
unfolding opened
term_do_measure comp = of_one (deeper_size (comp_size comp)) ∙ ap (λ x. node x) (cap_deeper (comp_size comp))

pub term_fix_measure : (at : ℕ) (fix : FixTree) → term_measure (t_fix at fix) ≡ node (deeper (fix_measure fix))
unfolding opened
term_fix_measure at fix = of_one (deeper_size (fix_size fix)) ∙ ap (λ x. node x) (cap_deeper (fix_size fix))

pub term_word_measure : (word : ℕ) → term_measure (t_word word) ≡ leaf
unfolding opened
term_word_measure word = refl

pub term_bool_measure : (truth : Bool) → term_measure (t_bool truth) ≡ leaf
unfolding opened
term_bool_measure truth = refl

pub term_loc_measure : (place : ℕ) → term_measure (t_loc place) ≡ leaf
unfolding opened
term_loc_measure place = refl

pub term_unit_measure : term_measure t_unit ≡ leaf
unfolding opened
term_unit_measure = refl

pub term_pair_measure : (left : TermTree) (right : TermTree)
    → term_measure (t_pair left right) ≡ node_of_two (term_measure left) (term_measure right)
unfolding opened
term_pair_measure left right = of_two (term_size left) (term_size right)

pub term_fst_measure : (pair : TermTree) → term_measure (t_fst pair) ≡ node (term_measure pair)
unfolding opened
term_fst_measure pair = of_one (term_size pair)

pub term_snd_measure : (pair : TermTree) → term_measure (t_snd pair) ≡ node (term_measure pair)
unfolding opened
term_snd_measure pair = of_one (term_size pair)

pub term_not_measure : (term : TermTree) → term_measure (t_not term) ≡ node (term_measure term)
unfolding opened
term_not_measure term = of_one (term_size term)

pub term_bin_measure : (op : Op) (left : TermTree) (right : TermTree)
    → term_measure (t_bin op left right) ≡ node_of_two (term_measure left) (term_measure right)
unfolding opened
term_bin_measure op left right = of_two (term_size left) (term_size right)

pub term_eq_measure : (mono : MonoTree) (left : TermTree) (right : TermTree)
    → term_measure (t_eq mono left right) ≡ node_of_three (mono_measure mono) (term_measure left) (term_measure right)
unfolding opened
term_eq_measure mono left right = of_three (mono_size mono) (term_size left) (term_size right)

pub term_sel_measure : (mono : MonoTree) (test : TermTree) (on_true : TermTree) (on_false : TermTree)
    → term_measure (t_sel mono test on_true on_false)
    ≡ node_of_four (mono_measure mono) (term_measure test) (term_measure on_true) (term_measure on_false)
unfolding opened
term_sel_measure mono test on_true on_false =
    of_four (mono_size mono) (term_size test) (term_size on_true) (term_size on_false)

pub term_ann_measure : (term : TermTree) (ty : TyTree)
    → term_measure (t_ann term ty) ≡ node_of_two (term_measure term) (ty_measure ty)
unfolding opened
term_ann_measure term ty = of_two (term_size term) (ty_size ty)

pub term_made_measure : (number : ℕ) (values : TermTrees)
    → term_measure (t_made number values) ≡ node (terms_measure values)
unfolding opened
term_made_measure number values = of_one (terms_size values)

pub term_at_measure : (at : ℕ) (term : TermTree) → term_measure (t_at at term) ≡ term_measure term
unfolding opened
term_at_measure at term = refl

pub step_run_measure : (term : TermTree) (mono : Option MonoTree)
    → step_measure (s_run term mono) ≡ node_of_two (term_measure term) (option_measure mono)
unfolding opened
step_run_measure term mono = of_two (term_size term) (option_size mono)

pub step_alloc_measure : (mono : MonoTree) (value : TermTree)
    → step_measure (s_alloc mono value) ≡ node_of_two (mono_measure mono) (term_measure value)
unfolding opened
step_alloc_measure mono value = of_two (mono_size mono) (term_size value)

pub step_get_measure : (mono : MonoTree) (place : TermTree)
    → step_measure (s_get mono place) ≡ node_of_two (mono_measure mono) (term_measure place)
unfolding opened
step_get_measure mono place = of_two (mono_size mono) (term_size place)

pub step_set_measure : (mono : MonoTree) (place : TermTree) (value : TermTree)
    → step_measure (s_set mono place value)
    ≡ node_of_three (mono_measure mono) (term_measure place) (term_measure value)
unfolding opened
step_set_measure mono place value = of_three (mono_size mono) (term_size place) (term_size value)

pub step_free_measure : (mono : MonoTree) (place : TermTree)
    → step_measure (s_free mono place) ≡ node_of_two (mono_measure mono) (term_measure place)
unfolding opened
step_free_measure mono place = of_two (mono_size mono) (term_size place)

pub step_if_measure : (mono : MonoTree) (test : TermTree) (on_true : CompTree) (on_false : CompTree)
    → step_measure (s_if mono test on_true on_false)
    ≡ node_of_four (mono_measure mono) (term_measure test) (deeper (comp_measure on_true))
    (deeper (comp_measure on_false))
unfolding opened
step_if_measure mono test on_true on_false =
    of_four (mono_size mono) (term_size test) (deeper_size (comp_size on_true)) (deeper_size (comp_size on_false))
    ∙ ap (λ x. node_of_four (mono_measure mono) (term_measure test) x (told_size (deeper_size (comp_size on_false))))
    (cap_deeper (comp_size on_true))
    ∙ ap (λ x. node_of_four (mono_measure mono) (term_measure test) (deeper (comp_measure on_true)) x)
    (cap_deeper (comp_size on_false))

pub step_claim_measure : (formula : FormulaTree) → step_measure (s_claim formula) ≡ node (formula_measure formula)
unfolding opened
step_claim_measure formula = of_one (formula_size formula)

pub formula_tt_measure : formula_measure f_tt ≡ leaf
unfolding opened
formula_tt_measure = refl

pub formula_ff_measure : formula_measure f_ff ≡ leaf
unfolding opened
formula_ff_measure = refl

pub formula_and_measure : (left : FormulaTree) (right : FormulaTree)
    → formula_measure (f_and left right) ≡ node_of_two (formula_measure left) (formula_measure right)
unfolding opened
formula_and_measure left right = of_two (formula_size left) (formula_size right)

pub formula_or_measure : (left : FormulaTree) (right : FormulaTree)
    → formula_measure (f_or left right) ≡ node_of_two (formula_measure left) (formula_measure right)
unfolding opened
formula_or_measure left right = of_two (formula_size left) (formula_size right)

pub formula_imp_measure : (left : FormulaTree) (right : FormulaTree)
    → formula_measure (f_imp left right) ≡ node_of_two (formula_measure left) (formula_measure right)
unfolding opened
formula_imp_measure left right = of_two (formula_size left) (formula_size right)

pub formula_all_t_measure : (mono : MonoTree) (body : FormulaTree)
    → formula_measure (f_all_t mono body) ≡ node_of_two (mono_measure mono) (formula_measure body)
unfolding opened
formula_all_t_measure mono body = of_two (mono_size mono) (formula_size body)

pub formula_ex_t_measure : (mono : MonoTree) (body : FormulaTree)
    → formula_measure (f_ex_t mono body) ≡ node_of_two (mono_measure mono) (formula_measure body)
unfolding opened
formula_ex_t_measure mono body = of_two (mono_size mono) (formula_size body)

pub formula_all_h_measure : (body : FormulaTree) → formula_measure (f_all_h body) ≡ node (formula_measure body)
unfolding opened
formula_all_h_measure body = of_one (formula_size body)

pub formula_ex_h_measure : (body : FormulaTree) → formula_measure (f_ex_h body) ≡ node (formula_measure body)
unfolding opened
formula_ex_h_measure body = of_one (formula_size body)

pub formula_emp_measure : (heap : ℕ) → formula_measure (f_emp heap) ≡ leaf
unfolding opened
formula_emp_measure heap = refl

pub formula_cell_measure : (mono : MonoTree) (heap : ℕ) (place : TermTree) (value : TermTree)
    → formula_measure (f_cell mono heap place value)
    ≡ node_of_three (mono_measure mono) (term_measure place) (term_measure value)
unfolding opened
formula_cell_measure mono heap place value = of_three (mono_size mono) (term_size place) (term_size value)

pub formula_block_measure : (mono : MonoTree) (heap : ℕ) (place : TermTree)
    → formula_measure (f_block mono heap place) ≡ node_of_two (mono_measure mono) (term_measure place)
unfolding opened
formula_block_measure mono heap place = of_two (mono_size mono) (term_size place)

pub formula_join_measure : (whole : ℕ) (left : ℕ) (right : ℕ) → formula_measure (f_join whole left right) ≡ leaf
unfolding opened
formula_join_measure whole left right = refl

pub formula_same_measure : (left : ℕ) (right : ℕ) → formula_measure (f_same left right) ≡ leaf
unfolding opened
formula_same_measure left right = refl

pub formula_eq_measure : (mono : MonoTree) (left : TermTree) (right : TermTree)
    → formula_measure (f_eq mono left right)
    ≡ node_of_three (mono_measure mono) (term_measure left) (term_measure right)
unfolding opened
formula_eq_measure mono left right = of_three (mono_size mono) (term_size left) (term_size right)

pub formula_at_measure : (at : ℕ) (formula : FormulaTree) → formula_measure (f_at at formula) ≡ formula_measure formula
unfolding opened
formula_at_measure at formula = refl

pub formula_rec_measure : (number : ℕ) (heap : ℕ) (place : TermTree) (arguments : TermTrees)
    → formula_measure (f_rec number heap place arguments) ≡ node_of_two (term_measure place) (terms_measure arguments)
unfolding opened
formula_rec_measure number heap place arguments = of_two (term_size place) (terms_size arguments)

pub mono_var_measure : (index : ℕ) → mono_measure (m_var index) ≡ leaf
unfolding opened
mono_var_measure index = refl

pub term_var_measure : (index : ℕ) → term_measure (t_var index) ≡ leaf
unfolding opened
term_var_measure index = refl

pub param_measure : (ty : TyTree) (rest : FixTree)
    → fix_measure (x_param ty rest) ≡ beside (ty_measure ty) (fix_measure rest)
unfolding opened
param_measure ty rest = cap_beside (ty_size ty) (fix_size rest)

pub body_measure : (spec : TripleTree) (comp : CompTree)
    → fix_measure (x_body spec comp) ≡ counted (beside (triple_measure spec) (deeper (comp_measure comp)))
unfolding opened
body_measure spec comp =
    cap_counted (record {
      nodes = (triple_size spec).nodes + (comp_size comp).nodes;
      depth = max (triple_size spec).depth (suc (comp_size comp).depth);
    })
    ∙ ap counted (cap_beside (triple_size spec) (deeper_size (comp_size comp))
    ∙ ap (beside (triple_measure spec)) (cap_deeper (comp_size comp)))

pub ret_measure : (term : TermTree) → comp_measure (c_ret term) ≡ counted (term_measure term)
unfolding opened
ret_measure term = cap_counted (term_size term)

pub bound_measure : (step : StepTree) (rest : CompTree)
    → comp_measure (c_step step rest) ≡ beside (step_measure step) (comp_measure rest)
unfolding opened
bound_measure step rest = cap_beside (step_size step) (comp_size rest)

pub no_terms_measure : terms_measure no_terms ≡ nothing
unfolding opened nothing
no_terms_measure = refl

pub more_terms_measure : (first : TermTree) (others : TermTrees)
    → terms_measure (more_terms first others) ≡ beside (term_measure first) (terms_measure others)
unfolding opened
more_terms_measure first others = cap_beside (term_size first) (terms_size others)

pub no_mono_measure : option_measure None ≡ nothing
unfolding opened nothing
no_mono_measure = refl

pub some_mono_measure : (mono : MonoTree) → option_measure (Some mono) ≡ mono_measure mono
unfolding opened
some_mono_measure mono = refl

pub ruleset option_measures = (no_mono_measure, some_mono_measure)

pub ruleset mono_measures = (mono_word_measure, mono_bool_measure, mono_loc_measure, mono_unit_measure, mono_pair_measure)

pub ruleset ty_measures = (ty_mono_measure, ty_fun_measure, ty_all_measure, ty_hoare_measure, ty_at_measure)

pub ruleset term_measures = (term_val_measure, term_def_measure, term_app_measure, term_inst_measure, term_lam_measure, term_lam_t_measure, term_do_measure, term_fix_measure, term_word_measure, term_bool_measure, term_loc_measure, term_unit_measure, term_pair_measure, term_fst_measure, term_snd_measure, term_not_measure, term_bin_measure, term_eq_measure, term_sel_measure, term_ann_measure, term_made_measure, term_at_measure)

pub ruleset step_measures = (step_run_measure, step_alloc_measure, step_get_measure, step_set_measure, step_free_measure, step_if_measure, step_claim_measure)

pub ruleset formula_measures = (formula_tt_measure, formula_ff_measure, formula_and_measure, formula_or_measure, formula_imp_measure, formula_all_t_measure, formula_ex_t_measure, formula_all_h_measure, formula_ex_h_measure, formula_emp_measure, formula_cell_measure, formula_block_measure, formula_join_measure, formula_same_measure, formula_eq_measure, formula_at_measure, formula_rec_measure)
