-- The places at which a variable stands in a tree, from the left, in the order of the written form: a head
-- before its arguments; of a recursive function the parameters' types, precondition, postcondition and body;
-- of a cell the place before the value. Monotypes and heaps aren't looked at.
use Rattle.std.specs.Prelude.{ℕ, zero, suc, List, [], ◌∷◌, ◌++◌, Option, Some, None}
use Rattle.htt_syntax.specs.Trees.{TyTree, TripleTree, TermTree, FixTree, CompTree, StepTree, FormulaTree, TermTrees}
use Rattle.htt_syntax.specs.Trees.{y_mono, y_fun, y_all, y_hoare, y_at, triple, t_var, t_app, t_inst, t_lam, t_lam_t}
use Rattle.htt_syntax.specs.Trees.{t_do, t_fix, t_pair, t_fst, t_snd, t_not, t_bin, t_eq, t_sel, t_ann, t_made, t_at}
use Rattle.htt_syntax.specs.Trees.{x_param, x_body, c_ret, c_step, s_run, s_alloc, s_get, s_set, s_free, s_if, s_claim}
use Rattle.htt_syntax.specs.Trees.{f_and, f_or, f_imp, f_all_t, f_ex_t, f_all_h, f_ex_h, f_cell, f_block, f_eq, f_at}
use Rattle.htt_syntax.specs.Trees.{f_rec, no_terms, more_terms}
use Rattle.theory_instances.specs.Calls.{Argument, of_term, of_mono}

-- A free variable, as it is seen from outside of the tree, the number of binders of the tree under which it
-- stands there, and its arguments, which stand under them too.
pub record Occurrence : Type 0 where
  pub variable : ℕ
  pub inside : ℕ
  pub arguments : List Argument

-- A variable, as it is seen from outside of so many binders, where none of them binds it.
abbrev pub outside : ℕ → ℕ → Option ℕ
outside zero n = Some n
outside (suc d) zero = None
outside (suc d) (suc n) = outside d n

abbrev pub met : ℕ → List Argument → Option ℕ → List Occurrence
met d arguments (Some n) = record { variable = n; inside = d; arguments = arguments } ∷ []
met d arguments None = []

-- Under d binders, where a term is applied to these arguments.
unfoldable mutual
  pub met_in_term : ℕ → List Argument → TermTree → List Occurrence
  met_in_term d arguments (t_var index) = met d arguments (outside d index)
  met_in_term d arguments (t_app function argument) =
      met_in_term d (of_term argument ∷ arguments) function ++ met_in_term d [] argument
  met_in_term d arguments (t_inst function mono) = met_in_term d (of_mono mono ∷ arguments) function
  met_in_term d arguments (t_lam body) = met_in_term (suc d) [] body
  met_in_term d arguments (t_lam_t body) = met_in_term (suc d) [] body
  met_in_term d arguments (t_do comp) = met_in_comp d comp
  met_in_term d arguments (t_fix at fix) = met_in_fix d fix
  met_in_term d arguments (t_pair left right) = met_in_term d [] left ++ met_in_term d [] right
  met_in_term d arguments (t_fst pair) = met_in_term d [] pair
  met_in_term d arguments (t_snd pair) = met_in_term d [] pair
  met_in_term d arguments (t_not term) = met_in_term d [] term
  met_in_term d arguments (t_bin op left right) = met_in_term d [] left ++ met_in_term d [] right
  met_in_term d arguments (t_eq mono left right) = met_in_term d [] left ++ met_in_term d [] right
  met_in_term d arguments (t_sel mono test on_true on_false) =
      met_in_term d [] test ++ (met_in_term d [] on_true ++ met_in_term d [] on_false)
  met_in_term d arguments (t_ann term ty) = met_in_term d [] term ++ met_in_ty d ty
  met_in_term d arguments (t_made number values) = met_in_terms d values
  met_in_term d arguments (t_at at term) = met_in_term d arguments term
  met_in_term d arguments term = []

  pub met_in_terms : ℕ → TermTrees → List Occurrence
  met_in_terms d no_terms = []
  met_in_terms d (more_terms first others) = met_in_term d [] first ++ met_in_terms d others

  pub met_in_fix : ℕ → FixTree → List Occurrence
  met_in_fix d (x_param ty others) = met_in_ty d ty ++ met_in_fix (suc d) others
  met_in_fix d (x_body spec comp) = met_in_triple d spec ++ met_in_comp (suc d) comp

  pub met_in_comp : ℕ → CompTree → List Occurrence
  met_in_comp d (c_ret term) = met_in_term d [] term
  met_in_comp d (c_step step others) = met_in_step d step ++ met_in_comp (suc d) others

  pub met_in_step : ℕ → StepTree → List Occurrence
  met_in_step d (s_run term mono) = met_in_term d [] term
  met_in_step d (s_alloc mono value) = met_in_term d [] value
  met_in_step d (s_get mono place) = met_in_term d [] place
  met_in_step d (s_set mono place value) = met_in_term d [] place ++ met_in_term d [] value
  met_in_step d (s_free mono place) = met_in_term d [] place
  met_in_step d (s_if mono test on_true on_false) =
      met_in_term d [] test ++ (met_in_comp d on_true ++ met_in_comp d on_false)
  met_in_step d (s_claim formula) = met_in_formula (suc (suc d)) formula

  pub met_in_ty : ℕ → TyTree → List Occurrence
  met_in_ty d (y_mono mono) = []
  met_in_ty d (y_fun argument answer) = met_in_ty d argument ++ met_in_ty (suc d) answer
  met_in_ty d (y_all body) = met_in_ty (suc d) body
  met_in_ty d (y_hoare spec) = met_in_triple d spec
  met_in_ty d (y_at at ty) = met_in_ty d ty

  pub met_in_triple : ℕ → TripleTree → List Occurrence
  met_in_triple d (triple pre mono post) = met_in_formula (suc d) pre ++ met_in_formula (suc (suc (suc d))) post

  pub met_in_formula : ℕ → FormulaTree → List Occurrence
  met_in_formula d (f_and left right) = met_in_formula d left ++ met_in_formula d right
  met_in_formula d (f_or left right) = met_in_formula d left ++ met_in_formula d right
  met_in_formula d (f_imp left right) = met_in_formula d left ++ met_in_formula d right
  met_in_formula d (f_all_t mono body) = met_in_formula (suc d) body
  met_in_formula d (f_ex_t mono body) = met_in_formula (suc d) body
  met_in_formula d (f_all_h body) = met_in_formula (suc d) body
  met_in_formula d (f_ex_h body) = met_in_formula (suc d) body
  met_in_formula d (f_cell mono heap place value) = met_in_term d [] place ++ met_in_term d [] value
  met_in_formula d (f_block mono heap place) = met_in_term d [] place
  met_in_formula d (f_eq mono left right) = met_in_term d [] left ++ met_in_term d [] right
  met_in_formula d (f_at at formula) = met_in_formula d formula
  met_in_formula d (f_rec number heap place arguments) = met_in_term d [] place ++ met_in_terms d arguments
  met_in_formula d formula = []

abbrev pub met_in_argument : Argument → List Occurrence
met_in_argument (of_term term) = met_in_term zero [] term
met_in_argument (of_mono mono) = []
