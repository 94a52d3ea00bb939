-- What a machine comes to, where a flat body comes to an outcome.
use Rattle.std.specs.Prelude.{◌≡◌, ◌≤◌, ℕ, List}
use Rattle.htt_syntax.specs.Trees.{MonoTree}
use Rattle.theory_values.specs.Values.{Value, encoding}
use Rattle.theory_values.specs.Heaps.{Heap}
use Rattle.theory_denotation.specs.Outcomes.{Outcome, ended, out_of_fuel, asking, wrong}
use Rattle.word_loader_code.specs.declared.code.Code.{Code}
use Rattle.word_loader_code.specs.declared.code.Function.{Function}
use Rattle.word_loader_code.specs.Machine.{Stack, with_top, Machine, going, asking as machine_asking, entered_frame, returned}
use Rattle.word_loader_code.specs.Machine.{after_steps}
use Rattle.word_loader_code.specs.Laws.{IsOver}
use Rattle.theory_emitted_terms.specs.Layouts.{HasLayout, encodings}

-- Where the outcome is an end, after some steps the machine is in a state for it. Where fuel runs out, the
-- machine still goes on after at least n steps. Nothing is said where the outcome is wrong.
abbrev pub Follows : Code → ℕ → (Value → Heap → List ℕ → Machine → Type 0) → Machine → Outcome → Type 0
Follows code n Ends m (ended v h cs) = (steps : ℕ) × Ends v h cs (after_steps code m steps)
Follows code n Ends m out_of_fuel = (steps : ℕ) × (n ≤ steps) × (IsOver (after_steps code m steps) → ⊥)
Follows code n Ends m asking = (steps : ℕ) × (after_steps code m steps ≡ machine_asking)
Follows code n Ends m wrong = Unit {0}

pub record ComesTo (code : Code) (n : ℕ) (Ends : Value → Heap → List ℕ → Machine → Type 0) (m : Machine)
    (outcome : Outcome) : Type 0 where
  pub follows : Follows code n Ends m outcome

-- The words of a value of the monotype are returned to the stack.
pub record Returns (stack : Stack) (mono : MonoTree) (v : Value) (h : Heap) (choices : List ℕ) (m : Machine) : Type 0 where
  pub layout : HasLayout v mono
  pub there : m ≡ returned h stack (encoding v) choices

-- A frame that is just entered, with the words of these values as parameters.
abbrev pub entered_for : ℕ → Function → List Value → Heap → Stack → List ℕ → Machine
entered_for number f vs h stack choices = going h (with_top stack (entered_frame number f (encodings vs))) choices
