-- When a recursive function passes its fixed parameters on unchanged, and where it varies. The parameters
-- that aren't of monotypes are fixed. At each occurrence of the recursion variable in the body the argument
-- for a fixed parameter has to be the eta-expansion of this parameter.
use Rattle.std.specs.Prelude.{◌≡◌, ◌≢◌, ℕ, zero, suc, List, [], ◌∷◌, ◌++◌, map, filter, All, nat_eq}
use Rattle.htt_syntax.specs.Trees.{TermTree, FixTree, t_var, t_fix, x_param, x_body}
use Rattle.theory_renaming.specs.Renaming.{shifting, rename_term}
use Rattle.theory_canonical.specs.Skeletons.{Skeleton, sk_o, sk_c, sk_arrow, skeleton}
use Rattle.theory_canonical.specs.Eta.{expansion}
use Rattle.theory_substitution.specs.Closing.{up}
use Rattle.theory_instances.specs.Calls.{Argument, of_term, fix_ty, fix_comp}
use Rattle.theory_instances.specs.Occurrences.{Occurrence, met_in_comp}

-- The eta-expansions of these terms' further parameters, as they are seen under all parameters and the
-- function itself.
abbrev pub expanded_params : List TermTree → FixTree → List TermTree
expanded_params before (x_param ty others) =
    expanded_params (map up before ++ expansion suc (t_var zero) ty ∷ []) others
expanded_params before (x_body spec comp) = map up before

-- The occurrences of the recursion variable in the body.
abbrev pub own_occurrences : FixTree → List Occurrence
own_occurrences fix = filter (λ (o : Occurrence). nat_eq o.variable zero) (met_in_comp zero (fix_comp fix))

-- What the parameters are, eta-expanded, at an occurrence.
abbrev pub expanded_at : FixTree → Occurrence → List TermTree
expanded_at fix o = map (rename_term (shifting zero o.inside)) (expanded_params [] fix)

-- Of a function of this skeleton, each fixed parameter is passed on.
pub data PassesOn : Skeleton → List TermTree → List Argument → Type 0 where
  passes_end : PassesOn sk_c [] []
  passes_value : {t : Skeleton} {param argument : TermTree} {params : List TermTree} {arguments : List Argument}
      → PassesOn t params arguments
      → PassesOn (sk_arrow sk_o t) (param ∷ params) (of_term argument ∷ arguments)
  passes_fixed : {s t : Skeleton} {param argument : TermTree} {params : List TermTree} {arguments : List Argument}
      → argument ≡ param
      → PassesOn t params arguments
      → PassesOn (sk_arrow s t) (param ∷ params) (of_term argument ∷ arguments)

-- The first fixed parameter that isn't passed on, counted from 1 over all parameters.
pub data VariesAt : Skeleton → List TermTree → List Argument → ℕ → Type 0 where
  varies_here : {s t : Skeleton} {param argument : TermTree} {params : List TermTree} {arguments : List Argument}
      → s ≢ sk_o
      → argument ≢ param
      → VariesAt (sk_arrow s t) (param ∷ params) (of_term argument ∷ arguments) 1
  varies_past_value : {t : Skeleton} {param argument : TermTree} {params : List TermTree} {arguments : List Argument}
      {position : ℕ}
      → VariesAt t params arguments position
      → VariesAt (sk_arrow sk_o t) (param ∷ params) (of_term argument ∷ arguments) (suc position)
  varies_past_fixed : {s t : Skeleton} {param argument : TermTree} {params : List TermTree} {arguments : List Argument}
      {position : ℕ}
      → argument ≡ param
      → VariesAt t params arguments position
      → VariesAt (sk_arrow s t) (param ∷ params) (of_term argument ∷ arguments) (suc position)

abbrev pub PassesOnAt : FixTree → Occurrence → Type 0
PassesOnAt fix o = PassesOn (skeleton (fix_ty fix)) (expanded_at fix o) o.arguments

-- A head that is a recursive function passes its fixed parameters on at each occurrence of itself.
abbrev pub NeverVaries : TermTree → Type 0
NeverVaries (t_fix at fix) = All (PassesOnAt fix) (own_occurrences fix)
NeverVaries head = Unit {0}

-- The first occurrence that varies, and its position.
pub record Varies (fix : FixTree) (position : ℕ) : Type 0 where
  pub before : List Occurrence
  pub here : Occurrence
  pub after : List Occurrence
  pub all : own_occurrences fix ≡ before ++ here ∷ after
  pub passed_on : All (PassesOnAt fix) before
  pub varies : VariesAt (skeleton (fix_ty fix)) (expanded_at fix here) here.arguments position
