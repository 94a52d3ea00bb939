-- What a chain of premises gives, from what each of them gives.
use Rattle.std.specs.Prelude.{◌≡◌, ℕ, Bool, true, false, Result, Ok, Err, IfOk}
use Rattle.std.proofs.Common.{refl}
use Rattle.theory_text_names.specs.Stops.{Stop, ◌>>=◌}
use Rattle.theory_text.specs.Phrases.{right_count}

-- what a result gives, if it gives something, is such a thing
pub record Gives {A : Type 0} (r : Result A Stop) (P : A → Type 0) : Type 0 where
  pub given : IfOk r P

pub gives : {A : Type 0} {P : A → Type 0} {a : A} → P a → Gives (Ok a) P
gives h = record { given = h }

pub stops : {A : Type 0} {P : A → Type 0} {stop : Stop} → Gives (Err stop) P
stops = record { given = tt }

pub if_bind : {A B : Type 0} {P : A → Type 0} {Q : B → Type 0} {r : Result A Stop} {next : A → Result B Stop}
    → Gives r P
    → ((a : A) → P a → Gives (next a) Q)
    → Gives (r >>= next) Q
unfolding ◌>>=◌
if_bind {r = Ok a} h k = k a h.given
if_bind {r = Err stop} h k = stops

pub but : {A : Type 0} {P Q : A → Type 0} {r : Result A Stop} → Gives r P → ((a : A) → P a → Q a) → Gives r Q
but {r = Ok a} h k = gives (k a h.given)
but {r = Err stop} h k = stops

pub any_ok : {A : Type 0} (r : Result A Stop) → Gives r (λ a. Unit {0})
any_ok (Ok a) = gives tt
any_ok (Err stop) = stops

pub count_right : (at : ℕ) (b : Bool) → Gives (right_count at b) (λ counted. b ≡ true)
count_right at true = gives refl
count_right at false = stops
