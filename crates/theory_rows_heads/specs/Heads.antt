-- A head with its arguments, in which a term is put for a variable: either the head is another and stays, or it is the
-- variable, and what comes to stand as a redex is reduced. Then the skeleton of what is left is told as well.
use Rattle.std.specs.Prelude.{ℕ, Bool, true, false, Option, Some, None}
use Rattle.htt_syntax.specs.Trees.{TermTree, StepTree, t_var, t_val, t_app, t_inst, t_fix, t_made, s_run}
use Rattle.theory_canonical.specs.Skeletons.{Skeleton}
use Rattle.theory_substitution.specs.Substitution.{Kept, Reduced}

pub data SubHead : TermTree → Skeleton → ℕ → TermTree → TermTree → Option Skeleton → Type 0 where
  stays : {new : TermTree} {s : Skeleton} {x : ℕ} {term result : TermTree}
      → Kept new s x term result
      → SubHead new s x term result None
  gives : {new : TermTree} {s left : Skeleton} {x : ℕ} {term result : TermTree}
      → Reduced new s x term result left
      → SubHead new s x term result (Some left)

-- a head with its arguments
unfoldable pub is_head : TermTree → Bool
is_head (t_var index) = true
is_head (t_val number) = true
is_head (t_app function argument) = true
is_head (t_inst function mono) = true
is_head (t_fix at fix) = true
is_head (t_made number values) = true
is_head other = false

-- a head that no term is put for
unfoldable pub is_fixed_head : TermTree → Bool
is_fixed_head (t_val number) = true
is_fixed_head (t_fix at fix) = true
is_fixed_head (t_made number values) = true
is_fixed_head other = false

unfoldable pub is_run : StepTree → Bool
is_run (s_run term mono) = true
is_run other = false
