-- The body of an instance: what its head does at its fixed arguments, as a computation under the captured
-- variables and then the arguments that are passed. The arguments are put from left to right.
use Rattle.std.specs.Prelude.{◌≡◌, ℕ, zero, suc, List, [], ◌∷◌, ◌++◌, map, length, reverse, Some, slice_get}
use Rattle.htt_syntax.specs.Trees.{MonoTree, TyTree, TermTree, FixTree, CompTree, m_unit, m_var, y_mono, y_fun, y_all}
use Rattle.htt_syntax.specs.Trees.{y_hoare, triple, t_val, t_lam, t_lam_t, t_do, t_fix, t_made, x_param, x_body}
use Rattle.theory_renaming.specs.Renaming.{Map, shifting, rename_term, rename_fix}
use Rattle.theory_canonical.specs.Skeletons.{Skeleton, sk_c, sk_arrow, sk_all, skeleton}
use Rattle.theory_canonical.specs.Eta.{eta}
use Rattle.theory_substitution.specs.Monotypes.{Filling, fill_mono, put_mono_term}
use Rattle.theory_substitution.specs.Substitution.{App}
use Rattle.theory_instances.specs.Calls.{ProgramVal, Program, Argument, of_term, of_mono, rename_argument}
use Rattle.theory_instances.specs.Calls.{passed_count, all_arguments, fix_ty, head_ty, terms_from}
use Rattle.theory_instances.specs.Calls.{variables}
use Rattle.theory_instances.specs.Keys.{Key}

-- A filling, where one more variable is a monotype.
abbrev pub filled_further : Filling → MonoTree → Filling
filled_further f mono zero = mono
filled_further f mono (suc n) = f n

-- The monotypes of the arguments that are passed, and that of the result, where the type's own monotype
-- variables are filled by the fixed arguments.
abbrev pub passed_monos : Filling → TyTree → List Argument → List MonoTree
passed_monos f (y_fun (y_mono mono) answer) fixed =
    fill_mono f mono ∷ passed_monos (filled_further f m_unit) answer fixed
passed_monos f (y_fun argument answer) (x ∷ fixed) = passed_monos (filled_further f m_unit) answer fixed
passed_monos f (y_all body) (of_mono mono ∷ fixed) = passed_monos (filled_further f mono) body fixed
passed_monos f ty fixed = []

abbrev pub result_mono : Filling → TyTree → List Argument → MonoTree
result_mono f (y_fun (y_mono mono) answer) fixed = result_mono (filled_further f m_unit) answer fixed
result_mono f (y_fun argument answer) (x ∷ fixed) = result_mono (filled_further f m_unit) answer fixed
result_mono f (y_all body) (of_mono mono ∷ fixed) = result_mono (filled_further f mono) body fixed
result_mono f (y_hoare (triple pre mono post)) fixed = fill_mono f mono
result_mono f ty fixed = m_unit

-- The parameters of an instance, the captured variables and then what is passed, with the innermost first;
-- and its result.
abbrev pub params_of : Program → Key → List MonoTree
params_of p key = reverse (passed_monos m_var (head_ty p key.head) key.fixed) ++ key.captured

abbrev pub result_of : Program → Key → MonoTree
result_of p key = result_mono m_var (head_ty p key.head) key.fixed

-- A function is given arguments, one after the other: what is left of it after each, and after all.
pub data Puts : TermTree → Skeleton → List Argument → List TermTree → TermTree → Type 0 where
  puts_none : {function : TermTree} {s : Skeleton} → Puts function s [] [] function
  puts_term : {function argument next last : TermTree} {s t : Skeleton} {others : List Argument}
      {results : List TermTree}
      → App function s argument next
      → Puts next t others results last
      → Puts function (sk_arrow s t) (of_term argument ∷ others) (next ∷ results) last
  puts_mono : {body last : TermTree} {mono : MonoTree} {s : Skeleton} {others : List Argument} {results : List TermTree}
      → Puts (put_mono_term mono zero body) s others results last
      → Puts (t_lam_t body) (sk_all s) (of_mono mono ∷ others) (put_mono_term mono zero body ∷ results) last

-- A recursive function as a function of its parameters and, last, of itself; and the skeleton of this.
unfoldable pub opened_fix : FixTree → TermTree
opened_fix (x_param ty others) = t_lam (opened_fix others)
opened_fix (x_body spec comp) = t_lam (t_do comp)

unfoldable pub opened_skeleton : Skeleton → FixTree → Skeleton
opened_skeleton whole (x_param ty others) = sk_arrow (skeleton ty) (opened_skeleton whole others)
opened_skeleton whole (x_body spec comp) = sk_arrow whole sk_c

-- The captured variables go past those that are passed.
abbrev pub past_passed : Skeleton → Map
past_passed s = shifting zero (passed_count s)

-- All arguments of the key's head, as they stand in the body: those that are passed are its variables.
abbrev pub arguments_within : Skeleton → Key → List Argument
arguments_within s key = all_arguments s (map (rename_argument (past_passed s)) key.fixed) (variables (passed_count s))

-- The recursion variable becomes the instance itself, with its captured variables.
abbrev pub made_of : ℕ → Skeleton → Key → TermTree
made_of number s key =
    t_made number (terms_from (map (rename_term (past_passed s)) (variables (length key.captured))))

-- The instance with this number and key has this body; and what is left after each argument.
pub data HasBody (p : Program) (number : ℕ) (key : Key) : List TermTree → CompTree → Type 0 where
  body_of_val : {n : ℕ} {v : ProgramVal} {results : List TermTree} {comp : CompTree}
      → key.head ≡ t_val n
      → slice_get p.vals n ≡ Some v
      → Puts v.term (skeleton v.ty) (arguments_within (skeleton v.ty) key) results (t_do comp)
      → HasBody p number key results comp
  body_of_fix : {at : ℕ} {fix own : FixTree} {results : List TermTree} {comp : CompTree}
      → key.head ≡ t_fix at fix
      → own ≡ rename_fix (past_passed (skeleton (fix_ty fix))) fix
      → Puts (opened_fix own) (opened_skeleton (skeleton (fix_ty own)) own)
      (arguments_within (skeleton (fix_ty own)) key ++
      of_term (eta (made_of number (skeleton (fix_ty own)) key) (fix_ty own)) ∷ []) results (t_do comp)
      → HasBody p number key results comp
