-- What is past a limit refuses, and what isn't leaves it to the next test.
use Rattle.std.proofs.Common.{◌≡◌, ◌<◌, ◌≤◌, ℕ, Option, Some, refl}
use Rattle.std.proofs.lemmas.Bool.{lt-ltb, le-ltb}
use Rattle.theory_instances.specs.Lists.{Refusal, past_limit}

pub is_past : (limit count : ℕ) (refusal : Refusal) (others : Option Refusal) → limit < count → past_limit limit count refusal others ≡ Some refusal
is_past limit count refusal others l = rw (lt-ltb limit count l) refl

pub is_within : (limit count : ℕ) (refusal : Refusal) (others : Option Refusal) → count ≤ limit → past_limit limit count refusal others ≡ others
is_within limit count refusal others l = rw (le-ltb limit count l) refl
