-- Calls: a head with its arguments. An argument of a monotype is passed at run time; a monotype, and an
-- argument that is a function, a family over monotypes or a computation, is fixed.
use Rattle.std.specs.Prelude.{ℕ, zero, suc, List, [], ◌∷◌, ◌++◌, Option, Some, None, slice_get}
use Rattle.htt_syntax.specs.Trees.{MonoTree, TyTree, TermTree, FixTree, CompTree, StepTree, TermTrees, m_loc, m_unit}
use Rattle.htt_syntax.specs.Trees.{y_mono, y_fun, y_hoare, t_var, t_val, t_app, t_inst, t_fix, x_param, x_body, c_ret}
use Rattle.htt_syntax.specs.Trees.{c_step}
use Rattle.htt_syntax.specs.Trees.{s_run, s_alloc, s_get, s_if, no_terms, more_terms}
use Rattle.theory_renaming.specs.Renaming.{Map, rename_mono, rename_term}
use Rattle.theory_canonical.specs.Skeletons.{Skeleton, sk_o, sk_arrow, sk_all}

-- A value of a file: its canonical type and its canonical term.
pub record ProgramVal : Type 0 where
  pub ty : TyTree
  pub term : TermTree

-- The values of a file, in order, and the number of the one that is named main, if there is one.
pub record Program : Type 0 where
  pub vals : List ProgramVal
  pub main : Option ℕ

pub data Argument : Type 0 where
  of_term : TermTree → Argument
  of_mono : MonoTree → Argument

abbrev pub rename_argument : Map → Argument → Argument
rename_argument m (of_term term) = of_term (rename_term m term)
rename_argument m (of_mono mono) = of_mono (rename_mono m mono)

-- The head of a call, and its arguments, the first one first.
unfoldable pub head_of : TermTree → TermTree
head_of (t_app function argument) = head_of function
head_of (t_inst function mono) = head_of function
head_of term = term

unfoldable pub arguments_of : TermTree → List Argument
arguments_of (t_app function argument) = arguments_of function ++ of_term argument ∷ []
arguments_of (t_inst function mono) = arguments_of function ++ of_mono mono ∷ []
arguments_of term = []

-- Of the arguments of a head of this skeleton, those that are fixed, and those that are passed.
abbrev pub fixed_of : Skeleton → List Argument → List Argument
fixed_of (sk_arrow sk_o t) (of_term x ∷ others) = fixed_of t others
fixed_of (sk_arrow s t) (of_term x ∷ others) = of_term x ∷ fixed_of t others
fixed_of (sk_all s) (of_mono mono ∷ others) = of_mono mono ∷ fixed_of s others
fixed_of s arguments = []

abbrev pub passed_of : Skeleton → List Argument → List TermTree
passed_of (sk_arrow sk_o t) (of_term x ∷ others) = x ∷ passed_of t others
passed_of (sk_arrow s t) (of_term x ∷ others) = passed_of t others
passed_of (sk_all s) (of_mono mono ∷ others) = passed_of s others
passed_of s arguments = []

-- How many arguments are passed.
abbrev pub passed_count : Skeleton → ℕ
passed_count (sk_arrow sk_o t) = suc (passed_count t)
passed_count (sk_arrow s t) = passed_count t
passed_count (sk_all s) = passed_count s
passed_count s = zero

-- All arguments of a head in order, from those that are fixed and those that are passed.
abbrev pub all_arguments : Skeleton → List Argument → List TermTree → List Argument
all_arguments (sk_arrow sk_o t) fixed (x ∷ passed) = of_term x ∷ all_arguments t fixed passed
all_arguments (sk_arrow s t) (argument ∷ fixed) passed = argument ∷ all_arguments t fixed passed
all_arguments (sk_all s) (argument ∷ fixed) passed = argument ∷ all_arguments s fixed passed
all_arguments s fixed passed = []

-- The type of a recursive function, and its computation.
unfoldable pub fix_ty : FixTree → TyTree
fix_ty (x_param ty others) = y_fun ty (fix_ty others)
fix_ty (x_body spec comp) = y_hoare spec

unfoldable pub fix_comp : FixTree → CompTree
fix_comp (x_param ty others) = fix_comp others
fix_comp (x_body spec comp) = comp

-- The type of a value of the file; a number without a value has a harmless one.
abbrev pub ty_of_val : Option ProgramVal → TyTree
ty_of_val (Some v) = v.ty
ty_of_val None = y_mono m_unit

-- The type of a head that is a value or a recursive function.
abbrev pub head_ty : Program → TermTree → TyTree
head_ty p (t_val number) = ty_of_val (slice_get p.vals number)
head_ty p (t_fix at fix) = fix_ty fix
head_ty p head = ty_of_val None

-- Terms as a list.
abbrev pub list_of : TermTrees → List TermTree
list_of no_terms = []
list_of (more_terms first others) = first ∷ list_of others

abbrev pub terms_from : List TermTree → TermTrees
terms_from [] = no_terms
terms_from (first ∷ others) = more_terms first (terms_from others)

-- The innermost so many variables, the outermost first.
abbrev pub variables : ℕ → List TermTree
variables zero = []
variables (suc n) = t_var n ∷ variables n

-- The monotype of the variable that a step binds.
abbrev pub bound_mono : StepTree → MonoTree
bound_mono (s_run term (Some mono)) = mono
bound_mono (s_alloc mono value) = m_loc
bound_mono (s_get mono place) = mono
bound_mono (s_if mono test on_true on_false) = mono
bound_mono step = m_unit

-- The calls of a computation from the first step to the last, those of a first branch before those of a
-- second. Each stands under variables of these monotypes, the innermost first.
pub record Site : Type 0 where
  pub call : TermTree
  pub context : List MonoTree

unfoldable mutual
  pub sites_of : List MonoTree → CompTree → List Site
  sites_of g (c_ret term) = []
  sites_of g (c_step step others) = sites_of_step g step ++ sites_of (bound_mono step ∷ g) others

  pub sites_of_step : List MonoTree → StepTree → List Site
  sites_of_step g (s_run term mono) = record { call = term; context = g } ∷ []
  sites_of_step g (s_if mono test on_true on_false) = sites_of g on_true ++ sites_of g on_false
  sites_of_step g step = []
