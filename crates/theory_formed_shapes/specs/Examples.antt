-- Formed trees, and trees that aren't, worked out by hand.
use Rattle.std.specs.Prelude.{◌≡◌, [], ◌∷◌, Some}
use Rattle.htt_syntax.specs.declared.mono.Op.TheVariants.{Add}
use Rattle.htt_syntax.specs.Trees.{m_word, m_bool, m_loc, m_pair, m_var, y_mono, y_fun, y_all, y_hoare, triple, t_var}
use Rattle.htt_syntax.specs.Trees.{t_val, t_made, t_app, t_inst, t_lam, t_do, t_fix, t_word, t_bin, x_param, x_body}
use Rattle.htt_syntax.specs.Trees.{c_ret, c_step, s_run, f_tt, f_ex_h, f_emp, f_eq, f_cell, f_rec, no_terms, more_terms}
use Rattle.theory_formed_shapes.specs.Shapes.{Shape, sh_mono, sh_fun, sh_all, sh_comp, shape_of, fill_shape}
use Rattle.theory_formed_shapes.specs.Shapes.{first_filled, ShapeEntry, in_heap, in_term}
use Rattle.theory_formed_shapes.specs.Formed.{FileShapes, IsFormedTerm, IsFormedNeutral, IsFormedFormula}

-- a file with one value of [a] -> (x : a) -> {tt} y : a * a {tt}, one function that is made with a word and
-- takes a location to a computation of a word, and one predicate of a location
abbrev pub file : FileShapes
file = record {
  vals = sh_all (sh_fun (sh_mono (m_var 0)) (sh_comp (m_pair (m_var 0) (m_var 0)))) ∷ [];
  made = record { captured = m_word ∷ []; whole = sh_fun (sh_mono m_loc) (sh_comp m_word) } ∷ [];
  recs = (m_loc ∷ []) ∷ [];
}

-- f : ({tt} x : word {tt}) -> word
abbrev pub of_computation : ShapeEntry
of_computation = in_term (sh_fun (sh_comp m_word) (sh_mono m_word))

pub record WorkedExamples : Type 0 where
  -- (x : word) -> {emp} y : bool {tt}: the monotypes stay, the formulas go
  pub shape_of_a_routine : shape_of (y_fun (y_mono m_word) (y_hoare (triple (f_emp 0) m_bool f_tt)))
      ≡ sh_fun (sh_mono m_word) (sh_comp m_bool)
  -- [a] -> (x : a) -> {tt} y : a * a {tt}, where x is no part of the answer's shape; and the same at loc
  pub shape_of_a_family :
      shape_of (y_all (y_fun (y_mono (m_var 0)) (y_hoare (triple f_tt (m_pair (m_var 1) (m_var 1)) f_tt))))
      ≡ sh_all (sh_fun (sh_mono (m_var 0)) (sh_comp (m_pair (m_var 0) (m_var 0))))
  pub shape_at_loc : fill_shape (first_filled m_loc) (sh_fun (sh_mono (m_var 0)) (sh_comp (m_pair (m_var 0) (m_var 0))))
      ≡ sh_fun (sh_mono m_loc) (sh_comp (m_pair m_loc m_loc))
  -- do y <- dup [word] 3; ret y, for the value of the file
  pub call :
      IsFormedTerm file [] (t_do
      (c_step (s_run (t_app (t_inst (t_val 0) m_word) (t_word 3)) (Some (m_pair m_word m_word))) (c_ret (t_var 0))))
      (sh_comp (m_pair m_word m_word))
  -- do y <- k l; ret y, for the function k that is made with the word 3, and a location l
  pub made_call :
      IsFormedTerm file (in_term (sh_mono m_loc) ∷ [])
      (t_do
      (c_step (s_run (t_app (t_made 0 (more_terms (t_word 3) no_terms)) (t_var 0)) (Some m_word)) (c_ret (t_var 0))))
      (sh_comp m_word)
  -- f (do ret 1) =[word] 2, which nobody can write, but a definition can put there
  pub computation_in_a_formula :
      IsFormedFormula file (of_computation ∷ []) (f_eq m_word (t_app (t_var 0) (t_do (c_ret (t_word 1)))) (t_word 2))
  -- ex h : heap . !p@h(n; l), with the word n and the location l
  pub predicate :
      IsFormedFormula file (in_term (sh_mono m_loc) ∷ in_term (sh_mono m_word) ∷ [])
      (f_ex_h (f_rec 0 0 (t_var 2) (more_terms (t_var 1) no_terms)))
  -- fix f (n : word) : {tt} z : word {tt} . y <- f n; ret y, as a function
  pub recursion :
      IsFormedTerm file [] (t_lam
      (t_do (c_step (s_run (t_app
      (t_fix 0 (x_param (y_mono m_word)
      (x_body (triple f_tt m_word f_tt) (c_step (s_run (t_app (t_var 0) (t_var 1)) (Some m_word)) (c_ret (t_var 0))))))
      (t_var 0)) (Some m_word)) (c_ret (t_var 0))))) (sh_fun (sh_mono m_word) (sh_comp m_word))
  -- 1 =[bool] 1; 2 + 3, which isn't folded; a literal of 65 bits; a cell at a word; a predicate without its
  -- argument; one that isn't there
  pub other_monotype : IsFormedFormula file [] (f_eq m_bool (t_word 1) (t_word 1)) → ⊥
  pub redex : (s : Shape) → IsFormedTerm file [] (t_bin Add (t_word 2) (t_word 3)) s → ⊥
  pub no_word : (s : Shape) → IsFormedTerm file [] (t_word 18446744073709551616) s → ⊥
  pub no_location : IsFormedFormula file (in_heap ∷ []) (f_cell m_word 0 (t_word 5) (t_word 7)) → ⊥
  pub no_arguments : IsFormedFormula file (in_heap ∷ []) (f_rec 0 0 (t_word 1) no_terms) → ⊥
  pub no_predicate : IsFormedFormula file (in_heap ∷ []) (f_rec 1 0 (t_word 1) no_terms) → ⊥
  -- the made function without its word
  pub no_capture : IsFormedNeutral file [] (t_made 0 no_terms) (sh_fun (sh_mono m_loc) (sh_comp m_word)) → ⊥
