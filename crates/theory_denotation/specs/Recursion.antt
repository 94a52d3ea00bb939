-- Recursion by fuel. Fuel counts how deep the bodies of recursive functions are entered, and nothing
-- else.
use Rattle.std.specs.Prelude.{ℕ, zero, suc}
use Rattle.theory_values.specs.Values.{v_unit}
use Rattle.theory_canonical.specs.Skeletons.{Skeleton, sk_o, sk_c, sk_arrow, sk_all}
use Rattle.theory_denotation.specs.Outcomes.{Running, out_of_fuel}
use Rattle.theory_denotation.specs.Valuations.{Domain}

-- A computation that is run with one unit of fuel less.
abbrev pub entered_running : Running → Running
entered_running f zero h cs = out_of_fuel
entered_running f (suc n) h cs = f n h cs

abbrev pub entered : (s : Skeleton) → Domain s → Domain s
entered sk_o v = v
entered sk_c f = entered_running f
entered (sk_arrow s t) f = λ d. entered t (f d)
entered (sk_all s) f = λ t. entered s (f t)

-- What is never entered.
abbrev pub unentered : (s : Skeleton) → Domain s
unentered sk_o = v_unit
unentered sk_c = λ n h cs. out_of_fuel
unentered (sk_arrow s t) = λ d. unentered t
unentered (sk_all s) = λ t. unentered s

-- A recursion of which so many turns may be entered.
abbrev pub turns : (s : Skeleton) → (Domain s → Domain s) → ℕ → Domain s
turns s f zero = unentered s
turns s f (suc m) = entered s (f (turns s f m))

-- With fuel n, what the turns n + 1 are: no more than these can be entered.
abbrev pub by_fuel : (s : Skeleton) → (ℕ → Domain s) → Domain s
by_fuel sk_o g = g zero
by_fuel sk_c g = λ n h cs. g (suc n) n h cs
by_fuel (sk_arrow s t) g = λ d. by_fuel t (λ m. g m d)
by_fuel (sk_all s) g = λ t. by_fuel s (λ m. g m t)

abbrev pub recursion : (s : Skeleton) → (Domain s → Domain s) → Domain s
recursion s f = by_fuel s (turns s f)
