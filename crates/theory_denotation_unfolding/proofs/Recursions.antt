-- Recursions agree below a bound where their turns do, and a recursion is its own turn, entered.
use Rattle.std.proofs.Common.{◌≤◌, ℕ, zero, suc, refl, arith}
use Rattle.theory_canonical.specs.Skeletons.{Skeleton, sk_o, sk_c, sk_arrow, sk_all}
use Rattle.theory_denotation.specs.Valuations.{Domain}
use Rattle.theory_denotation.specs.Recursion.{entered, turns, by_fuel, recursion}
use Rattle.theory_denotation.specs.Valued.{EndsInRun, ends_c, ends_arrow, ends_all}
use Rattle.theory_denotation_unfolding.specs.Agreement.{AgreeBelow, SameSteadily}

-- below a lower bound
pub lower : (s : Skeleton) (k b : ℕ) → k ≤ b → (d c : Domain s) → AgreeBelow b s d c → AgreeBelow k s d c
lower sk_o k b l d c q = q
lower sk_c k b l d c q = λ n h cs m. q n h cs (omega (arith, l, m))
lower (sk_arrow s t) k b l d c q = λ j m x y p. q j (omega (arith, l, m)) x y p
lower (sk_all s) k b l d c q = λ t. lower s k b l (d t) (c t) (q t)

-- below nothing all agree
nothing_below : {s : Skeleton} → EndsInRun s → (k : ℕ) → k ≤ zero → (d c : Domain s) → AgreeBelow k s d c
nothing_below ends_c k l d c = λ n h cs m. absurd (omega (arith, l, m))
nothing_below (ends_arrow r) k l d c = λ j m x y q. nothing_below r j (omega (arith, l, m)) (d x) (c y)
nothing_below (ends_all r) k l d c = λ t. nothing_below r k l (d t) (c t)

-- what is entered agrees further by one
pub entered_agree : {s : Skeleton}
    → EndsInRun s
    → (b : ℕ) (d c : Domain s)
    → ((k : ℕ) → suc k ≤ b → AgreeBelow k s d c)
    → AgreeBelow b s (entered s d) (entered s c)
entered_agree ends_c b d c q = at_fuel
  where
    at_fuel : AgreeBelow b sk_c (entered sk_c d) (entered sk_c c)
    at_fuel zero h cs l = refl
    at_fuel (suc n) h cs l = q (suc n) (omega (arith, l)) n h cs (omega arith)
entered_agree (ends_arrow {s = s} r) b d c q =
    λ j m x y p. entered_agree r j (d x) (c y) (λ k l. q k (omega (arith, l, m)) k (omega arith) x y (lower s k j (omega (arith, l)) x y p))
entered_agree (ends_all r) b d c q = λ t. entered_agree r b (d t) (c t) (λ k l. q k l t)

-- a recursion by fuel, and what its turns agree with
pub fuel_left : {s : Skeleton}
    → EndsInRun s
    → (b : ℕ) (f : ℕ → Domain s) (c : Domain s)
    → ((m : ℕ) → m ≤ b → AgreeBelow m s (f m) c)
    → AgreeBelow b s (by_fuel s f) c
fuel_left ends_c b f c q = λ n h cs l. q (suc n) (omega (arith, l)) n h cs (omega arith)
fuel_left (ends_arrow {s = s} r) b f c q =
    λ j m x y p. fuel_left r j (λ i. f i x) (c y) (λ i l. q i (omega (arith, l, m)) i (omega arith) x y (lower s i j l x y p))
fuel_left (ends_all r) b f c q = λ t. fuel_left r b (λ i. f i t) (c t) (λ i l. q i l t)

pub fuel_right : {s : Skeleton}
    → EndsInRun s
    → (b : ℕ) (c : Domain s) (f : ℕ → Domain s)
    → ((m : ℕ) → m ≤ b → AgreeBelow m s c (f m))
    → AgreeBelow b s c (by_fuel s f)
fuel_right ends_c b c f q = λ n h cs l. q (suc n) (omega (arith, l)) n h cs (omega arith)
fuel_right (ends_arrow {s = s} r) b c f q =
    λ j m x y p. fuel_right r j (c x) (λ i. f i y) (λ i l. q i (omega (arith, l, m)) i (omega arith) x y (lower s i j l x y p))
fuel_right (ends_all r) b c f q = λ t. fuel_right r b (c t) (λ i. f i t) (λ i l. q i l t)

-- A turn of each, below all bounds up to this one, keeps agreement.
abbrev pub KeepsAgreement : ℕ → (s : Skeleton) → (Domain s → Domain s) → (Domain s → Domain s) → Type 0
KeepsAgreement b s f g = (k : ℕ) → k ≤ b → (x y : Domain s) → AgreeBelow k s x y → AgreeBelow k s (f x) (g y)

module _ {s : Skeleton} (r : EndsInRun s) (b : ℕ) (f g : Domain s → Domain s) (keeps : KeepsAgreement b s f g) where
  -- as many turns as the bound, and more, agree below it
  pub turns_agree : (m j k : ℕ) → k ≤ b → k ≤ m → k ≤ j → AgreeBelow k s (turns s f m) (turns s g j)
  turns_agree zero j k l p q = nothing_below r k p (turns s f zero) (turns s g j)
  turns_agree (suc m) zero k l p q = nothing_below r k q (turns s f (suc m)) (turns s g zero)
  turns_agree (suc m) (suc j) k l p q =
      entered_agree r k (f (turns s f m)) (g (turns s g j))
      (λ i o. keeps i (omega (arith, l, o)) (turns s f m) (turns s g j)
      (turns_agree m j i (omega (arith, l, o)) (omega (arith, p, o)) (omega (arith, q, o))))

  turns_and_all : (m k : ℕ) → k ≤ b → k ≤ m → AgreeBelow k s (turns s f m) (recursion s g)
  turns_and_all m k l p =
      fuel_right r k (turns s f m) (turns s g) (λ j o. turns_agree m j j (omega (arith, l, o)) (omega (arith, p, o)) (omega arith))

  pub recursion_agrees : AgreeBelow b s (recursion s f) (recursion s g)
  recursion_agrees = fuel_left r b (turns s f) (recursion s g) (λ m l. turns_and_all m m l (omega arith))

  -- the turn of a recursion, entered
  turn_agrees : (m : ℕ) → m ≤ b → AgreeBelow m s (turns s f m) (entered s (g (recursion s g)))
  turn_agrees zero l = nothing_below r zero (omega arith) (turns s f zero) (entered s (g (recursion s g)))
  turn_agrees (suc m) l =
      entered_agree r (suc m) (f (turns s f m)) (g (recursion s g))
      (λ k o. keeps k (omega (arith, l, o)) (turns s f m) (recursion s g) (turns_and_all m k (omega (arith, l, o)) (omega (arith, o))))

  pub unfolding_agrees : AgreeBelow b s (recursion s f) (entered s (g (recursion s g)))
  unfolding_agrees = fuel_left r b (turns s f) (entered s (g (recursion s g))) turn_agrees

-- what agrees below all bounds is the same for steady arguments
pub same_steadily : (s : Skeleton) (d c : Domain s) → ((b : ℕ) → AgreeBelow b s d c) → SameSteadily s d c
same_steadily sk_o d c q = q zero
same_steadily sk_c d c q = λ j n h cs. q (suc n) n h cs (omega arith) j
same_steadily (sk_arrow s t) d c q = λ x p. same_steadily t (d x) (c x) (λ b. q b b (omega arith) x x (p b))
same_steadily (sk_all s) d c q = λ t. same_steadily s (d t) (c t) (λ b. q b t)
