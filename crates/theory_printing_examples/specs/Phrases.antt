-- Printed monotypes, types, terms, computations and formulas, written by hand: each form, and each place of brackets.
use Rattle.std.specs.Prelude.{◌≡◌, true, false, [], ◌∷◌, None, codes}
use Rattle.htt_syntax.specs.declared.mono.Op.TheVariants.{Add, Sub, Mul, And, Or, Xor, Shl, Shr, Lt}
use Rattle.htt_syntax.specs.Trees.{m_word, m_bool, m_loc, m_unit, m_pair, m_var, y_mono, y_fun, y_all, y_hoare, y_at}
use Rattle.htt_syntax.specs.Trees.{triple, t_var, t_val, t_def, t_app, t_inst, t_lam, t_lam_t, t_do, t_fix, t_word}
use Rattle.htt_syntax.specs.Trees.{t_bool, t_loc, t_unit, t_pair, t_fst, t_snd, t_not, t_bin, t_eq, t_sel, t_ann, t_at}
use Rattle.htt_syntax.specs.Trees.{c_ret, c_step, s_run, s_alloc, s_get, s_set, s_free, s_if, s_claim, f_tt, f_ff}
use Rattle.htt_syntax.specs.Trees.{f_and, f_or, f_imp, f_all_t, f_ex_t, f_all_h, f_ex_h, f_emp, f_cell, f_block}
use Rattle.htt_syntax.specs.Trees.{f_join, f_same, f_eq, f_at, f_rec, no_terms, more_terms}
use Rattle.theory_text_names.specs.Scopes.{a_term, the_init, the_mem}
use Rattle.theory_printing.specs.Pieces.{bytes_of}
use Rattle.theory_printing.specs.Phrases.{formula}
use Rattle.theory_printing_examples.specs.Short.{among, of_mono, of_ty, of_term, of_step, of_formula, x, f, one_and_two}
use Rattle.theory_printing_examples.specs.Short.{do_one, a_fix}

pub record PrintedMonotypes : Type 0 where
  pub word_ : of_mono m_word ≡ codes "word"
  pub bool_ : of_mono m_bool ≡ codes "bool"
  pub loc_ : of_mono m_loc ≡ codes "loc"
  pub unit_ : of_mono m_unit ≡ codes "unit"
  pub variable : of_mono (m_var 2) ≡ codes "_a0"
  pub pair : of_mono (m_pair m_word (m_var 2)) ≡ codes "word * _a0"
  pub pair_at_the_left : of_mono (m_pair (m_pair m_word m_bool) m_loc) ≡ codes "(word * bool) * loc"
  pub pair_at_the_right : of_mono (m_pair m_word (m_pair m_bool m_loc)) ≡ codes "word * (bool * loc)"
  pub no_entry : of_mono (m_var 3) ≡ codes "_"

pub record PrintedTypes : Type 0 where
  pub monotype : of_ty (y_mono (m_pair m_word m_bool)) ≡ codes "word * bool"
  pub function : of_ty (y_fun (y_mono m_word) (y_mono m_bool)) ≡ codes "(_x3 : word) -> bool"
  pub function_of_a_function :
      of_ty (y_fun (y_fun (y_mono m_word) (y_mono m_word)) (y_fun (y_mono m_loc) (y_mono m_bool)))
      ≡ codes "(_x3 : (_x3 : word) -> word) -> (_x4 : loc) -> bool"
  pub under_a_monotype : of_ty (y_all (y_mono (m_var 0))) ≡ codes "[_a3] -> _a3"
  pub computation : of_ty (y_hoare (triple (f_emp 0) m_word (f_eq m_word (t_var 2) (t_var 4))))
      ≡ codes "{Emp(mem)} _x3 : word {_x3 =[word] _x1}"
  pub positions : of_ty (y_at 7 (y_mono m_word)) ≡ codes "word"

pub record PrintedTerms : Type 0 where
  pub variable : of_term x ≡ codes "_x1"
  pub value : of_term (t_val 1) ≡ codes "main"
  pub lambda : of_term (t_lam (t_var 0)) ≡ codes "fun _x3 . _x3"
  pub lambda_of_a_monotype : of_term (t_lam_t (t_inst f (m_var 0))) ≡ codes "fun [_a3] . f [_a3]"
  pub computation : of_term do_one ≡ codes "do ret 1"
  pub recursive : of_term (t_fix 0 a_fix)
      ≡ codes "fix _x4 (_x3 : word) : {tt} _x4 : word {Same(init, mem)} . ret _x4 _x3"
  pub word_ : of_term (t_word 18446744073709551615) ≡ codes "18446744073709551615"
  pub true_ : of_term (t_bool true) ≡ codes "true"
  pub false_ : of_term (t_bool false) ≡ codes "false"
  pub no_place : of_term (t_loc 0) ≡ codes "null"
  pub a_place : of_term (t_loc 5) ≡ codes "place 5"
  pub unit_ : of_term t_unit ≡ codes "()"
  pub pair : of_term (t_pair one_and_two do_one) ≡ codes "(1 + 2, do ret 1)"
  pub annotated : of_term (t_ann (t_lam (t_var 0)) (y_mono m_word)) ≡ codes "(fun _x3 . _x3 : word)"
  pub equality : of_term (t_eq m_word one_and_two x) ≡ codes "eq[word](1 + 2, _x1)"
  pub selection : of_term (t_sel m_word (t_bool true) one_and_two x) ≡ codes "sel[word](true, 1 + 2, _x1)"
  pub positions : of_term (t_app (t_at 3 f) (t_at 5 x)) ≡ codes "f _x1"

pub record PrintedOperands : Type 0 where
  pub sum : of_term one_and_two ≡ codes "1 + 2"
  pub difference : of_term (t_bin Sub (t_word 1) (t_word 2)) ≡ codes "1 - 2"
  pub product : of_term (t_bin Mul (t_word 1) (t_word 2)) ≡ codes "1 * 2"
  pub conjunction : of_term (t_bin And (t_word 1) (t_word 2)) ≡ codes "1 & 2"
  pub disjunction : of_term (t_bin Or (t_word 1) (t_word 2)) ≡ codes "1 | 2"
  pub exclusive : of_term (t_bin Xor (t_word 1) (t_word 2)) ≡ codes "1 ^ 2"
  pub left_shift : of_term (t_bin Shl (t_word 1) (t_word 2)) ≡ codes "1 << 2"
  pub right_shift : of_term (t_bin Shr (t_word 1) (t_word 2)) ≡ codes "1 >> 2"
  pub order : of_term (t_bin Lt (t_fst x) x) ≡ codes "(fst _x1) < _x1"
  pub at_the_left : of_term (t_bin Add one_and_two (t_word 3)) ≡ codes "(1 + 2) + 3"
  pub at_the_right : of_term (t_bin Sub x (t_bin Mul (t_word 2) x)) ≡ codes "_x1 - (2 * _x1)"
  pub under_a_product : of_term (t_bin Mul one_and_two (t_app f x)) ≡ codes "(1 + 2) * (f _x1)"
  pub first_part : of_term (t_fst (t_snd x)) ≡ codes "fst (snd _x1)"
  pub second_part : of_term (t_snd (t_pair x x)) ≡ codes "snd (_x1, _x1)"
  pub negation : of_term (t_not (t_bin Lt x x)) ≡ codes "not (_x1 < _x1)"
  pub arguments : of_term (t_app (t_app f x) (t_loc 5)) ≡ codes "f _x1 place 5"
  pub argument : of_term (t_app f (t_app f x)) ≡ codes "f (f _x1)"
  pub argument_and_monotype : of_term (t_app (t_inst f (m_pair m_word m_bool)) x) ≡ codes "f [word * bool] _x1"
  pub function_as_argument : of_term (t_app f (t_lam (t_var 0))) ≡ codes "f (fun _x3 . _x3)"
  pub head_that_is_a_part : of_term (t_app (t_fst x) (t_word 5)) ≡ codes "(fst _x1) 5"
  pub head_that_is_a_function : of_term (t_app (t_lam (t_var 0)) (t_word 5)) ≡ codes "(fun _x3 . _x3) 5"
  pub head_that_is_recursive : of_term (t_app (t_fix 0 a_fix) (t_word 3))
      ≡ codes "(fix _x4 (_x3 : word) : {tt} _x4 : word {Same(init, mem)} . ret _x4 _x3) 3"
  pub no_entry : of_term (t_var 3) ≡ codes "_"
  pub no_value : of_term (t_val 2) ≡ codes "_"
  pub no_text : of_term (t_def 0) ≡ codes "_"

pub record PrintedSteps : Type 0 where
  pub allocation : of_step (s_alloc m_word one_and_two) ≡ codes "alloc[word] (1 + 2)"
  pub reading : of_step (s_get m_word (t_loc 5)) ≡ codes "get[word] place 5"
  pub writing : of_step (s_set (m_pair m_word m_bool) (t_fst x) (t_pair x x))
      ≡ codes "set[word * bool] (fst _x1) (_x1, _x1)"
  pub freeing : of_step (s_free m_word (t_loc 0)) ≡ codes "free[word] null"
  pub branches : of_step (s_if m_word (t_not x) (c_ret (t_word 1)) (c_ret one_and_two))
      ≡ codes "if [word] (not _x1) { ret 1 } { ret 1 + 2 }"
  pub claim : of_step (s_claim (f_same 1 0)) ≡ codes "claim {Same(init, mem)}"
  pub run_of_an_atom : of_step (s_run f None) ≡ codes "f"
  pub run_of_an_application : of_step (s_run (t_app f x) None) ≡ codes "f _x1"
  pub run_of_a_part : of_step (s_run (t_fst x) None) ≡ codes "fst _x1"
  pub run_of_an_operation : of_step (s_run one_and_two None) ≡ codes "(1 + 2)"
  pub run_of_a_computation : of_step (s_run do_one None) ≡ codes "(do ret 1)"
  pub in_a_row :
      of_term
      (t_do (c_step (s_alloc m_word (t_word 1)) (c_step (s_get m_word (t_var 0)) (c_ret (t_pair (t_var 0) (t_var 1))))))
      ≡ codes "do _x3 <- alloc[word] 1; _x4 <- get[word] _x3; ret (_x4, _x3)"

pub record PrintedFormulas : Type 0 where
  pub truth : of_formula f_tt ≡ codes "tt"
  pub falsehood : of_formula f_ff ≡ codes "ff"
  pub conjunction : of_formula (f_and f_tt (f_emp 0)) ≡ codes "tt /\\ Emp(_h2)"
  pub disjunction : of_formula (f_or (f_eq m_word x x) f_ff) ≡ codes "_x1 =[word] _x1 \\/ ff"
  pub implication : of_formula (f_imp f_tt f_ff) ≡ codes "tt => ff"
  pub over_terms : of_formula (f_all_t m_word (f_eq m_word (t_var 0) (t_var 2)))
      ≡ codes "all _x3 : word . _x3 =[word] _x1"
  pub some_term : of_formula (f_ex_t (m_pair m_word m_bool) f_tt) ≡ codes "ex _x3 : word * bool . tt"
  pub over_heaps : of_formula (f_all_h (f_ex_h (f_same 0 1))) ≡ codes "all _h3 : heap . ex _h4 : heap . Same(_h4, _h3)"
  pub cell : of_formula (f_cell m_word 0 x one_and_two) ≡ codes "Cell[word](_h2, _x1, 1 + 2)"
  pub block : of_formula (f_block m_word 0 (t_loc 0)) ≡ codes "Block[word](_h2, null)"
  pub join : of_formula (f_join 0 0 0) ≡ codes "Join(_h2, _h2, _h2)"
  pub same : of_formula (f_same 0 0) ≡ codes "Same(_h2, _h2)"
  pub recursive : of_formula (f_rec 0 0 one_and_two no_terms) ≡ codes "!lst@_h2(1 + 2;)"
  pub recursive_with_terms : of_formula (f_rec 0 0 x (more_terms x (more_terms one_and_two no_terms)))
      ≡ codes "!lst@_h2(_x1; _x1, 1 + 2)"
  pub bare_sides : of_formula (f_eq m_word one_and_two (t_app f x)) ≡ codes "1 + 2 =[word] f _x1"
  pub bound_sides : of_formula (f_eq m_word (t_lam (t_var 0)) do_one)
      ≡ codes "(fun _x3 . _x3) =[word] (do ret 1)"
  pub positions : of_formula (f_at 3 (f_and (f_at 3 f_tt) (f_at 8 f_ff))) ≡ codes "tt /\\ ff"
  pub no_predicate : of_formula (f_rec 1 0 x no_terms) ≡ codes "!_@_h2(_x1;)"

pub record PrintedConnectives : Type 0 where
  pub quantifier_at_the_left : of_formula (f_and (f_ex_h (f_emp 0)) f_tt) ≡ codes "[ex _h3 : heap . Emp(_h3)] /\\ tt"
  pub quantifier_at_the_right : of_formula (f_imp f_tt (f_all_t m_word f_ff)) ≡ codes "tt => [all _x3 : word . ff]"
  pub conjunction_at_the_right : of_formula (f_and f_tt (f_and f_tt f_ff)) ≡ codes "tt /\\ [tt /\\ ff]"
  pub conjunction_at_the_left : of_formula (f_or (f_and f_tt f_ff) f_tt) ≡ codes "[tt /\\ ff] \\/ tt"
  pub disjunction_at_the_left : of_formula (f_imp (f_or f_tt f_ff) f_tt) ≡ codes "[tt \\/ ff] => tt"
  pub implication_at_the_right : of_formula (f_imp f_tt (f_imp f_ff f_tt)) ≡ codes "tt => [ff => tt]"
  pub implication_at_the_left : of_formula (f_and (f_imp f_tt f_ff) f_tt) ≡ codes "[tt => ff] /\\ tt"
  pub body_is_bare : of_formula (f_all_t m_word (f_imp f_tt (f_or f_ff f_tt)))
      ≡ codes "all _x3 : word . tt => [ff \\/ tt]"

-- heaps without names: each word counts its own kind alone
pub record PrintedHeaps : Type 0 where
  pub outer_ones : bytes_of (formula (among (the_mem ∷ the_init ∷ a_term ∷ the_mem ∷ the_init ∷ [])) (f_same 4 3))
      ≡ codes "Same(init^1, mem^1)"
  pub inner_ones : bytes_of (formula (among (the_mem ∷ the_init ∷ a_term ∷ the_mem ∷ the_init ∷ [])) (f_same 1 0))
      ≡ codes "Same(init, mem)"
  pub past_a_precondition : bytes_of (formula (among (the_mem ∷ the_mem ∷ the_init ∷ [])) (f_join 2 1 0))
      ≡ codes "Join(init, mem^1, mem)"
  pub in_a_claim :
      of_formula (f_all_h (f_eq m_word (t_do (c_step (s_claim (f_same 2 1)) (c_ret (t_word 0)))) (t_word 1)))
      ≡ codes "all _h3 : heap . (do _x4 <- claim {Same(_h3, init)}; ret 0) =[word] 1"
