-- Going past variables is a shift from 0 on.
use Rattle.std.proofs.Common.{◌≡◌, ℕ, sym}
use Rattle.htt_syntax.specs.Trees.{MonoTree, TermTree}
use Rattle.theory_renaming.specs.Renaming.{shifting, rename_mono, rename_term}
use Rattle.theory_states.specs.States.{past}
use Rattle.theory_states.proofs.Shifts.{past_shifts}

shifts_past : (k n : ℕ) → shifting 0 k n ≡ past k n
shifts_past k n = sym (past_shifts k n)

pub mono_past : (k : ℕ) (t : MonoTree) → rename_mono (shifting 0 k) t ≡ rename_mono (past k) t
mono_past k t = λ j. rename_mono (λ n. shifts_past k n j) t

pub term_past : (k : ℕ) (t : TermTree) → rename_term (shifting 0 k) t ≡ rename_term (past k) t
term_past k t = λ j. rename_term (λ n. shifts_past k n j) t
