-- What a phrase comes to: what it stands for, or the first event that stops it.
use Rattle.std.specs.Prelude.{ℕ, Result, Ok, Err}

-- A name that stands for nothing, a name that is declared twice, or a phrase of another sort than its place needs,
-- each with its byte; or a tree with too many nodes, or that is too deep.
pub data Stop : Type 0 where
  unbound duplicate wrong_sort : ℕ → Stop
  too_large too_deep : Stop

-- One premise and then the others: a stop of the first is that of both, and else they go on from what it gives.
infixl 10 ◌>>=◌
unfoldable pub ◌>>=◌ : {A B : Type 0} → Result A Stop → (A → Result B Stop) → Result B Stop
Ok given >>= next = next given
Err stop >>= next = Err stop
