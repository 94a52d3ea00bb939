-- What stops the check of a phrase, and how its premises follow one another. A premise is a relation to a
-- result: to what it gives, or to a stop.
use Rattle.std.specs.Prelude.{ℕ, Result, Ok, Err}
use Rattle.htt_syntax_words.specs.declared.words.Rule.{Rule}
use Rattle.htt_syntax_words.specs.declared.words.Which.{Which}

-- A rule that refuses a phrase, with the phrase's byte; or a limit that was passed.
pub data Stop : Type 0 where
  refused : Rule → ℕ → Stop
  passed : Which → Stop

-- One premise and then the others: a stop of the first is that of both, and else they go on from what it
-- gives.
pub data Then {A B : Type 0} (first : Result A Stop → Type 0) (others : A → Result B Stop → Type 0) : Result B Stop
    → Type 0 where
  stops : {stop : Stop} → first (Err stop) → Then first others (Err stop)
  goes_on : {given : A} {result : Result B Stop}
      → first (Ok given)
      → others given result
      → Then first others result

-- the same, written in a row of premises
infixl 10 ◌>>=◌
abbrev pub ◌>>=◌ : {A B : Type 0}
    → (Result A Stop → Type 0)
    → (A → Result B Stop → Type 0)
    → Result B Stop
    → Type 0
first >>= others = Then first others

infixl 10 ◌>>◌
abbrev pub ◌>>◌ : {A B : Type 0} → (Result A Stop → Type 0) → (Result B Stop → Type 0) → Result B Stop → Type 0
first >> others = Then first (λ given. others)

-- What a phrase comes to after its premises.
pub data Comes {A : Type 0} (given : A) : Result A Stop → Type 0 where
  comes : Comes given (Ok given)

-- A phrase that no rule is for.
pub data Refuses {A : Type 0} (stop : Stop) : Result A Stop → Type 0 where
  refuses : Refuses stop (Err stop)

-- A premise that holds, or stops.
pub data Needs (premise : Type 0) (stop : Stop) : Result (Unit {0}) Stop → Type 0 where
  holds : premise → Needs premise stop (Ok tt)
  fails : (premise → ⊥) → Needs premise stop (Err stop)

-- What a premise finds, or the stop where there is nothing.
pub data Finds {A : Type 0} (found : A → Type 0) (stop : Stop) : Result A Stop → Type 0 where
  finds : {given : A} → found given → Finds found stop (Ok given)
  finds_none : ((given : A) → found given → ⊥) → Finds found stop (Err stop)

-- What a canonical phrase always has.
pub data Makes {A : Type 0} (made : A → Type 0) : Result A Stop → Type 0 where
  makes : {given : A} → made given → Makes made (Ok given)
