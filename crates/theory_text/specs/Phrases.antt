-- What types, terms, computations and formulas stand for at a place of a text, or the first event that stops them.
-- A phrase comes to its tree with its first byte around it; its parts are taken in the order of the text. So the
-- first part that is stopped stops the phrase, and a part that needs a heap or a sort is stopped before its own
-- parts.
use Rattle.std.specs.Prelude.{ℕ, zero, suc, Bool, true, false, ◌&&◌, ◌==◌, List, [], ◌∷◌, length, None, Result, Ok, Err}
use Rattle.htt_syntax.specs.declared.mono.Op.{Op}
use Rattle.htt_syntax.specs.declared.mono.Op.TheVariants.{Add, Sub, Mul, And, Or, Xor, Shl, Shr, Lt}
use Rattle.htt_syntax.specs.Trees.{TyTree, TripleTree, TermTree, FixTree, CompTree, StepTree, FormulaTree, TermTrees}
use Rattle.htt_syntax.specs.Trees.{y_mono, y_fun, y_all, y_hoare, y_at, triple, t_app, t_inst, t_lam, t_lam_t, t_do}
use Rattle.htt_syntax.specs.Trees.{t_fix, t_word, t_bool, t_loc, t_unit, t_pair, t_fst, t_snd, t_not, t_bin, t_eq}
use Rattle.htt_syntax.specs.Trees.{t_sel, t_ann, t_at, x_param, x_body, c_ret, c_step, s_run, s_alloc, s_get, s_set}
use Rattle.htt_syntax.specs.Trees.{s_free, s_if, s_claim, f_tt, f_ff, f_and, f_or, f_imp, f_all_t, f_ex_t, f_all_h}
use Rattle.htt_syntax.specs.Trees.{f_ex_h, f_emp, f_cell, f_block, f_join, f_same, f_eq, f_at, f_rec, no_terms}
use Rattle.htt_syntax.specs.Trees.{more_terms}
use Rattle.htt_parser_trees.specs.declared.tree.UnaryWord.{UnaryWord}
use Rattle.htt_parser_trees.specs.declared.tree.UnaryWord.TheVariants as unary_words
use Rattle.htt_parser_trees.specs.Trees as raw
use Rattle.theory_text_names.specs.Stops.{Stop, wrong_sort, ◌>>=◌}
use Rattle.theory_text_names.specs.Scopes.{a_mono, a_term, a_heap, Scope, under, under_name, at_heap, under_mem}
use Rattle.theory_text_names.specs.Scopes.{under_heaps}
use Rattle.theory_text_names.specs.Uses.{term_named, pred_named, rec_named, heap_comes, current_heap}
use Rattle.theory_text_sugar.specs.Putting.{used_at}
use Rattle.theory_text_sugar.specs.Sugar.{placed, star, left_part, right_part}
use Rattle.theory_text.specs.Bytes.{byte_of_mono, byte_of_atom, byte_of_appl, byte_of_prod, byte_of_sum, byte_of_rel}
use Rattle.theory_text.specs.Bytes.{byte_of_fatom, byte_of_star, byte_of_conj, byte_of_disj}
use Rattle.theory_text.specs.Monotypes.{mono_comes, monos_come}

abbrev pub sum_op : raw.SumSign → Op
sum_op raw.plus = Add
sum_op raw.minus = Sub
sum_op raw.bar = Or
sum_op raw.caret = Xor

abbrev pub prod_op : raw.ProdSign → Op
prod_op raw.times = Mul
prod_op raw.ampersand = And
prod_op raw.shift_left = Shl
prod_op raw.shift_right = Shr

abbrev pub unary : UnaryWord → TermTree → TermTree
unary unary_words.Fst m = t_fst m
unary unary_words.Snd m = t_snd m
unary unary_words.Not m = t_not m

-- a count that has to be right, where the phrase at this byte would be of a wrong sort
abbrev pub right_count : ℕ → Bool → Result (Unit {0}) Stop
right_count at true = Ok tt
right_count at false = Err (wrong_sort at)

unfoldable pub count_of : raw.RawTermTrees → ℕ
count_of raw.no_terms = zero
count_of (raw.more_terms first others) = suc (count_of others)

unfoldable pub list_of : TermTrees → List TermTree
list_of no_terms = []
list_of (more_terms first others) = first ∷ list_of others

unfoldable mutual
  -- ---- types
  pub ty_comes : Scope → raw.RawTyTree → Result TyTree Stop
  ty_comes s (raw.y_fun at b argument answer) = do
    A ← ty_comes s argument
    B ← ty_comes (under s b a_term) answer
    Ok (y_at at (y_fun A B))
  ty_comes s (raw.y_all at a body) = do
    B ← ty_comes (under_name s a a_mono) body
    Ok (y_at at (y_all B))
  ty_comes s (raw.y_hoare at spec) = do
    T ← triple_comes s spec
    Ok (y_at at (y_hoare T))
  ty_comes s (raw.y_mono mono) = do
    t ← mono_comes s mono
    Ok (y_at (byte_of_mono mono) (y_mono t))

  pub triple_comes : Scope → raw.RawTripleTree → Result TripleTree Stop
  triple_comes s (raw.triple_of pre b result post) = do
    P ← formula_comes (under_mem s) pre
    t ← mono_comes s result
    Q ← formula_comes (under_heaps (under s b a_term)) post
    Ok (triple P t Q)

  -- ---- terms
  pub term_comes : Scope → raw.RawTermTree → Result TermTree Stop
  term_comes s (raw.t_fun at b body) = do
    M ← term_comes (under s b a_term) body
    Ok (t_at at (t_lam M))
  term_comes s (raw.t_fun_mono at a body) = do
    M ← term_comes (under_name s a a_mono) body
    Ok (t_at at (t_lam_t M))
  term_comes s (raw.t_do at comp) = do
    E ← comp_comes s comp
    Ok (t_at at (t_do E))
  -- the triple stands under the parameters, the computation under the function too
  term_comes s (raw.t_fix at f params spec comp) = do
    X ← params_come s params (λ inner. do
      T ← triple_comes inner spec
      E ← comp_comes (under_name inner f a_term) comp
      Ok (x_body T E))
    Ok (t_at at (t_fix at X))
  term_comes s (raw.t_rel rel) = rel_comes s rel

  -- each parameter is seen by those after it and by what follows them
  pub params_come : Scope → raw.RawParamTrees → (Scope → Result FixTree Stop) → Result FixTree Stop
  params_come s raw.no_params rest = rest s
  params_come s (raw.more_params b ty params) rest = do
    A ← ty_comes s ty
    X ← params_come (under s b a_term) params rest
    Ok (x_param A X)

  pub rel_comes : Scope → raw.RawRelTree → Result TermTree Stop
  rel_comes s (raw.r_sum sum) = sum_comes s sum
  rel_comes s (raw.r_less left right) = do
    M ← sum_comes s left
    N ← sum_comes s right
    Ok (t_at (byte_of_sum left) (t_bin Lt M N))

  -- a chain groups to the left, and each of its nodes begins with the chain
  pub sum_comes : Scope → raw.RawSumTree → Result TermTree Stop
  sum_comes s (raw.s_sum first rest) = do
    M ← prod_comes s first
    sum_rest_comes s (byte_of_prod first) M rest

  pub sum_rest_comes : Scope → ℕ → TermTree → raw.RawSumRestTree → Result TermTree Stop
  sum_rest_comes s at M raw.s_end = Ok M
  sum_rest_comes s at M (raw.s_more sign operand rest) = do
    N ← prod_comes s operand
    sum_rest_comes s at (t_at at (t_bin (sum_op sign) M N)) rest

  pub prod_comes : Scope → raw.RawProdTree → Result TermTree Stop
  prod_comes s (raw.x_prod first rest) = do
    M ← appl_comes s first
    prod_rest_comes s (byte_of_appl first) M rest

  pub prod_rest_comes : Scope → ℕ → TermTree → raw.RawProdRestTree → Result TermTree Stop
  prod_rest_comes s at M raw.x_end = Ok M
  prod_rest_comes s at M (raw.x_more sign operand rest) = do
    N ← appl_comes s operand
    prod_rest_comes s at (t_at at (t_bin (prod_op sign) M N)) rest

  pub appl_comes : Scope → raw.RawApplTree → Result TermTree Stop
  appl_comes s (raw.l_unary at word operand) = do
    M ← atom_comes s operand
    Ok (t_at at (unary word M))
  appl_comes s (raw.l_apply head parts) = do
    M ← atom_comes s head
    parts_come s (byte_of_atom head) M parts

  pub parts_come : Scope → ℕ → TermTree → raw.RawPartTrees → Result TermTree Stop
  parts_come s at M raw.no_parts = Ok M
  parts_come s at M (raw.atom_part argument parts) = do
    N ← atom_comes s argument
    parts_come s at (t_at at (t_app M N)) parts
  parts_come s at M (raw.mono_part mono parts) = do
    t ← mono_comes s mono
    parts_come s at (t_at at (t_inst M t)) parts

  pub atom_comes : Scope → raw.RawAtomTree → Result TermTree Stop
  atom_comes s (raw.a_name span) = do
    M ← term_named s span
    Ok (t_at span.from M)
  atom_comes s (raw.a_number at value) = Ok (t_at at (t_word value))
  atom_comes s (raw.a_true at) = Ok (t_at at (t_bool true))
  atom_comes s (raw.a_false at) = Ok (t_at at (t_bool false))
  atom_comes s (raw.a_null at) = Ok (t_at at (t_loc 0))
  atom_comes s (raw.a_place at value) = Ok (t_at at (t_loc value))
  atom_comes s (raw.a_eq at mono left right) = do
    t ← mono_comes s mono
    M ← term_comes s left
    N ← term_comes s right
    Ok (t_at at (t_eq t M N))
  atom_comes s (raw.a_sel at mono test on_true on_false) = do
    t ← mono_comes s mono
    B ← term_comes s test
    M ← term_comes s on_true
    N ← term_comes s on_false
    Ok (t_at at (t_sel t B M N))
  atom_comes s (raw.a_unit at) = Ok (t_at at t_unit)
  -- brackets that only group have no node
  atom_comes s (raw.a_brackets at term) = term_comes s term
  atom_comes s (raw.a_pair at left right) = do
    M ← term_comes s left
    N ← term_comes s right
    Ok (t_at at (t_pair M N))
  atom_comes s (raw.a_annotated at term ty) = do
    M ← term_comes s term
    A ← ty_comes s ty
    Ok (t_at at (t_ann M A))

  pub terms_come : Scope → raw.RawTermTrees → Result TermTrees Stop
  terms_come s raw.no_terms = Ok no_terms
  terms_come s (raw.more_terms term terms) = do
    M ← term_comes s term
    others ← terms_come s terms
    Ok (more_terms M others)

  -- ---- computations
  pub comp_comes : Scope → raw.RawCompTree → Result CompTree Stop
  comp_comes s (raw.c_ret term) = do
    M ← term_comes s term
    Ok (c_ret M)
  comp_comes s (raw.c_step b step comp) = do
    S ← step_comes s step
    E ← comp_comes (under s b a_term) comp
    Ok (c_step S E)

  pub step_comes : Scope → raw.RawStepTree → Result StepTree Stop
  step_comes s (raw.s_alloc mono value) = do
    t ← mono_comes s mono
    M ← atom_comes s value
    Ok (s_alloc t M)
  step_comes s (raw.s_get mono place) = do
    t ← mono_comes s mono
    M ← atom_comes s place
    Ok (s_get t M)
  step_comes s (raw.s_set mono place value) = do
    t ← mono_comes s mono
    M ← atom_comes s place
    N ← atom_comes s value
    Ok (s_set t M N)
  step_comes s (raw.s_free mono place) = do
    t ← mono_comes s mono
    M ← atom_comes s place
    Ok (s_free t M)
  step_comes s (raw.s_if mono test on_true on_false) = do
    t ← mono_comes s mono
    B ← atom_comes s test
    E ← comp_comes s on_true
    E' ← comp_comes s on_false
    Ok (s_if t B E E')
  step_comes s (raw.s_claim formula) = do
    F ← formula_comes (under_heaps s) formula
    Ok (s_claim F)
  step_comes s (raw.s_run routine) = do
    K ← appl_comes s routine
    Ok (s_run K None)

  -- ---- formulas
  pub formula_comes : Scope → raw.RawFormulaTree → Result FormulaTree Stop
  formula_comes s (raw.f_all at b (raw.over_mono mono) body) = do
    t ← mono_comes s mono
    F ← formula_comes (under s b a_term) body
    Ok (f_at at (f_all_t t F))
  formula_comes s (raw.f_all at b raw.over_heap body) = do
    F ← formula_comes (under s b a_heap) body
    Ok (f_at at (f_all_h F))
  formula_comes s (raw.f_ex at b (raw.over_mono mono) body) = do
    t ← mono_comes s mono
    F ← formula_comes (under s b a_term) body
    Ok (f_at at (f_ex_t t F))
  formula_comes s (raw.f_ex at b raw.over_heap body) = do
    F ← formula_comes (under s b a_heap) body
    Ok (f_at at (f_ex_h F))
  formula_comes s (raw.f_disj disj) = disj_comes s disj
  formula_comes s (raw.f_implies disj formula) = do
    F ← disj_comes s disj
    G ← formula_comes s formula
    Ok (f_at (byte_of_disj disj) (f_imp F G))

  pub disj_comes : Scope → raw.RawDisjTree → Result FormulaTree Stop
  disj_comes s (raw.d_conj conj) = conj_comes s conj
  disj_comes s (raw.d_or conj disj) = do
    F ← conj_comes s conj
    G ← disj_comes s disj
    Ok (f_at (byte_of_conj conj) (f_or F G))

  pub conj_comes : Scope → raw.RawConjTree → Result FormulaTree Stop
  conj_comes s (raw.j_star star) = star_comes s star
  conj_comes s (raw.j_and star conj) = do
    F ← star_comes s star
    G ← conj_comes s conj
    Ok (f_at (byte_of_star star) (f_and F G))

  pub star_comes : Scope → raw.RawStarTree → Result FormulaTree Stop
  star_comes s (raw.k_fatom fatom) = fatom_comes s fatom
  star_comes s (raw.k_times fatom others) = do
    h ← current_heap s (byte_of_fatom fatom)
    P ← fatom_comes (left_part s) fatom
    Q ← star_comes (right_part s) others
    Ok (f_at (byte_of_fatom fatom) (star h P Q))

  pub fatom_comes : Scope → raw.RawFatomTree → Result FormulaTree Stop
  fatom_comes s (raw.g_tt at) = Ok (f_at at f_tt)
  fatom_comes s (raw.g_ff at) = Ok (f_at at f_ff)
  fatom_comes s (raw.g_emp at) = do
    h ← current_heap s at
    Ok (f_at at (f_emp h))
  fatom_comes s (raw.g_brackets at formula) = formula_comes s formula
  fatom_comes s (raw.g_at_heap at heap formula) = do
    k ← heap_comes s heap
    P ← formula_comes (at_heap s k) formula
    Ok (f_at at P)
  fatom_comes s (raw.g_emp_of at heap) = do
    h ← heap_comes s heap
    Ok (f_at at (f_emp h))
  fatom_comes s (raw.g_same at left right) = do
    h ← heap_comes s left
    k ← heap_comes s right
    Ok (f_at at (f_same h k))
  fatom_comes s (raw.g_join at whole left right) = do
    h ← heap_comes s whole
    a ← heap_comes s left
    b ← heap_comes s right
    Ok (f_at at (f_join h a b))
  fatom_comes s (raw.g_cell at mono heap place value) = do
    t ← mono_comes s mono
    h ← heap_comes s heap
    M ← term_comes s place
    N ← term_comes s value
    Ok (f_at at (f_cell t h M N))
  fatom_comes s (raw.g_block at mono heap place) = do
    t ← mono_comes s mono
    h ← heap_comes s heap
    M ← term_comes s place
    Ok (f_at at (f_block t h M))
  -- the body of the predicate, which begins with the use
  fatom_comes s (raw.g_use at name monos arguments) = do
    h ← current_heap s at
    p ← pred_named s name
    counted ← right_count at (length monos == p.monos && count_of arguments == length p.params)
    ts ← monos_come s monos
    Ms ← terms_come s arguments
    Ok (placed at (used_at p ts (list_of Ms) h))
  fatom_comes s (raw.g_use_at at name index arguments) = do
    h ← current_heap s at
    p ← rec_named s name
    counted ← right_count at (count_of arguments == p.1)
    N ← term_comes s index
    Ms ← terms_come s arguments
    Ok (f_at at (f_rec p.0 h N Ms))
  fatom_comes s (raw.g_use_at_heap at name heap index arguments) = do
    p ← rec_named s name
    counted ← right_count at (count_of arguments == p.1)
    h ← heap_comes s heap
    N ← term_comes s index
    Ms ← terms_come s arguments
    Ok (f_at at (f_rec p.0 h N Ms))
  fatom_comes s (raw.g_eq left mono right) = do
    M ← rel_comes s left
    t ← mono_comes s mono
    N ← rel_comes s right
    Ok (f_at (byte_of_rel left) (f_eq t M N))
  fatom_comes s (raw.g_points place mono value) = do
    h ← current_heap s (byte_of_rel place)
    M ← rel_comes s place
    t ← mono_comes s mono
    N ← rel_comes s value
    Ok (f_at (byte_of_rel place) (f_cell t h M N))
  fatom_comes s (raw.g_points_any place mono) = do
    h ← current_heap s (byte_of_rel place)
    M ← rel_comes s place
    t ← mono_comes s mono
    Ok (f_at (byte_of_rel place) (f_block t h M))
