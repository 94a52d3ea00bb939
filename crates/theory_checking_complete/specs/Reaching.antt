-- A phrase that reaches what it is to give, unless a limit is passed: no rule refuses it.
use Rattle.std.specs.Prelude.{Result, Ok, Err}
use Rattle.htt_syntax_words.specs.declared.words.Which.{Which}
use Rattle.theory_checking.specs.Stops.{Stop, passed}

-- A stop that is no refusal.
pub data IsLimit : Stop → Type 0 where
  limit : {which : Which} → IsLimit (passed which)

-- A result is this one, or a limit.
pub data IsOrLimit {A : Type 0} (given : A) : Result A Stop → Type 0 where
  is_given : IsOrLimit given (Ok given)
  is_limit : {stop : Stop} → IsLimit stop → IsOrLimit given (Err stop)

-- A row of premises comes to this, or to a limit.
pub data Reaches {A : Type 0} (Row : Result A Stop → Type 0) (given : A) : Type 0 where
  reaches : {result : Result A Stop} → Row result → IsOrLimit given result → Reaches Row given
