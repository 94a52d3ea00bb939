-- What a recursion comes to is reached where what it repeats keeps this, and more turns of the right side come to the
-- same.
use Rattle.std.proofs.Common.{ℕ, zero, suc, ◌+◌, refl}
use Rattle.theory_canonical.specs.Skeletons.{Skeleton}
use Rattle.theory_denotation.specs.Valuations.{Domain}
use Rattle.theory_denotation.specs.Recursion.{entered, unentered, turns, by_fuel, recursion}
use Rattle.theory_denotation.specs.Valued.{EndsInRun, ends_c, ends_arrow, ends_all}
use Rattle.theory_denotation_relations.specs.Relating.{Related}
use Rattle.theory_denotation_relations.specs.Laws.{KeptByFuel}
use Rattle.theory_fuel_of_values.specs.Reaching.{Reached}
use Rattle.theory_fuel_of_values.proofs.Kept.{turns_kept, turn_itself}
use Rattle.theory_fuel_of_values.proofs.Runs.{entered_left, entered_right, turns_reached_by}

pub left_reached : {s : Skeleton} → EndsInRun s → (d c : Domain s) → Reached s d c → Reached s (entered s d) c
left_reached ends_c d c q = entered_left d c q
left_reached (ends_arrow r) d c q = λ x y p k. left_reached r (d x) (c y) (q x y p k)
left_reached (ends_all r) d c q = λ t. left_reached r (d t) (c t) (q t)

pub right_reached : {s : Skeleton} → EndsInRun s → (d c : Domain s) → Reached s d c → Reached s d (entered s c)
right_reached ends_c d c q = entered_right d c q
right_reached (ends_arrow r) d c q = λ x y p k. right_reached r (d x) (c y) (q x y p k)
right_reached (ends_all r) d c q = λ t. right_reached r (d t) (c t) (q t)

unentered_reached : {s : Skeleton} → EndsInRun s → (d : Domain s) → Reached s (unentered s) d
unentered_reached ends_c d = record { at = λ n h cs other. absurd (other refl) }
unentered_reached (ends_arrow r) d = λ x y q k. unentered_reached r (d y)
unentered_reached (ends_all r) d = λ t. unentered_reached r (d t)

fuel_reached : {s : Skeleton}
    → EndsInRun s
    → (f g : ℕ → Domain s)
    → ((m : ℕ) → Reached s (f m) (g m))
    → ((m more : ℕ) → Related KeptByFuel s (g m) (g (m + more)))
    → Reached s (by_fuel s f) (by_fuel s g)
fuel_reached ends_c f g q k = turns_reached_by f g q k
fuel_reached (ends_arrow r) f g q k =
    λ x y p l. fuel_reached r (λ m. f m x) (λ m. g m y) (λ m. q m x y p l) (λ m more. k m more y y l)
fuel_reached (ends_all r) f g q k = λ t. fuel_reached r (λ m. f m t) (λ m. g m t) (λ m. q m t) (λ m more. k m more t)

module _ {s : Skeleton} (r : EndsInRun s) (f g : Domain s → Domain s)
    (q : (d c : Domain s) → Reached s d c → Related KeptByFuel s c c → Reached s (f d) (g c))
    (k : (d c : Domain s) → Related KeptByFuel s d c → Related KeptByFuel s (g d) (g c)) where
  turns_reached : (m : ℕ) → Reached s (turns s f m) (turns s g m)
  turns_reached zero = unentered_reached r (turns s g zero)
  turns_reached (suc m) =
      left_reached r (f (turns s f m)) (entered s (g (turns s g m)))
      (right_reached r (f (turns s f m)) (g (turns s g m)) (q (turns s f m) (turns s g m) (turns_reached m) (turn_itself r g k m)))

  pub recursion_reached : Reached s (recursion s f) (recursion s g)
  recursion_reached = fuel_reached r (turns s f) (turns s g) turns_reached (turns_kept r g k)
