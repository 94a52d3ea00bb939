-- What a computation comes to is reached where what it is made of reaches it.
use Rattle.std.proofs.Common.{◌≡◌, ◌≢◌, ℕ, zero, suc, ◌+◌, List, refl, sym, ap, ◌∙◌, subst, arith}
use Rattle.std.specs.Prelude.{true, false}
use Rattle.theory_values.specs.Values.{Value, v_bool}
use Rattle.theory_values.specs.Heaps.{Heap}
use Rattle.theory_denotation.specs.Outcomes.{Outcome, Running, ended, out_of_fuel, asking, wrong, then_outcome, in_sequence, branch_outcome}
use Rattle.theory_denotation.specs.Recursion.{entered_running}
use Rattle.theory_denotation_relations.specs.Laws.{KeptByFuel}
use Rattle.theory_fuel_of_values.specs.Reaching.{ReachedBy}

-- reaching computations may be written otherwise
pub along : {f f' g g' : Running} → f' ≡ f → g' ≡ g → ReachedBy f g → ReachedBy f' g'
along {f' = f'} {g = g} p q r = subst (λ x. ReachedBy f' x) (sym q) (subst (λ x. ReachedBy x g) (sym p) r)

-- what takes no fuel
pub constant_reached : (f g : Heap → List ℕ → Outcome) → f ≡ g → ReachedBy (λ n h cs. f h cs) (λ n h cs. g h cs)
constant_reached f g q = record { at = λ n h cs other. (n, λ j. sym q j h cs) }

branch_at : (v : Value) (f g a b : Running)
    → ReachedBy f g
    → ReachedBy a b
    → (n : ℕ) (h : Heap) (cs : List ℕ)
    → branch_outcome v (f n h cs) (a n h cs) ≢ out_of_fuel
    → (m : ℕ) × (branch_outcome v (g m h cs) (b m h cs) ≡ branch_outcome v (f n h cs) (a n h cs))
branch_at (v_bool true) f g a b q r n h cs other = q.at n h cs other
branch_at (v_bool false) f g a b q r n h cs other = r.at n h cs other
branch_at _ f g a b q r n h cs other = (n, refl)

pub branch_reached : (v : Value) (f g a b : Running)
    → ReachedBy f g
    → ReachedBy a b
    → ReachedBy (λ n h cs. branch_outcome v (f n h cs) (a n h cs)) (λ n h cs. branch_outcome v (g n h cs) (b n h cs))
branch_reached v f g a b q r = record { at = λ n h cs other. branch_at v f g a b q r n h cs other }

-- the fuel of both is enough for the one after the other
module _ (f g : Running) (a b : Value → Running) (q : ReachedBy f g) (k : KeptByFuel g g) (r : (v : Value) → ReachedBy (a v) (b v))
    (l : (v : Value) → KeptByFuel (b v) (b v)) where
  sequence_at : (n : ℕ) (h : Heap) (cs : List ℕ) (o : Outcome)
      → f n h cs ≡ o
      → then_outcome o (λ v i ds. a v n i ds) ≢ out_of_fuel
      → (m : ℕ) × (in_sequence g b m h cs ≡ then_outcome o (λ v i ds. a v n i ds))
  sequence_at n h cs (ended v i ds) is other =
      let first = q.at n h cs (λ x. absurd (cc)) in
      let second = (r v).at n i ds other in
      let m = first.0 in
      let j = second.0 in
      let ends : g m h cs ≡ ended v i ds = first.1 ∙ is in
      let still : g (m + j) h cs ≡ ended v i ds = k.at m j h cs (λ x. absurd (cc)) ∙ ends in
      let turned : j + m ≡ m + j = omega arith in (
        m + j,
        ap (λ x. then_outcome x (λ u d es. b u (m + j) d es)) still
            ∙ ap (λ x. b v x i ds) (sym turned)
            ∙ (l v).at j m i ds (λ x. other (sym (second.1) ∙ x))
            ∙ second.1,
      )
  sequence_at n h cs out_of_fuel is other = absurd (other refl)
  sequence_at n h cs asking is other =
      let first = q.at n h cs (λ x. absurd (cc)) in
      (first.0, ap (λ x. then_outcome x (λ u d es. b u (first.0) d es)) (first.1 ∙ is))
  sequence_at n h cs wrong is other =
      let first = q.at n h cs (λ x. absurd (cc)) in
      (first.0, ap (λ x. then_outcome x (λ u d es. b u (first.0) d es)) (first.1 ∙ is))

  pub sequence_reached : ReachedBy (in_sequence f a) (in_sequence g b)
  sequence_reached = record { at = λ n h cs other. sequence_at n h cs (f n h cs) refl other }

-- what is entered on the one side alone
pub entered_left : (f g : Running) → ReachedBy f g → ReachedBy (entered_running f) g
entered_left f g q = record { at = at }
  where
    at : (n : ℕ) (h : Heap) (cs : List ℕ) → entered_running f n h cs ≢ out_of_fuel → (m : ℕ) × (g m h cs ≡ entered_running f n h cs)
    at zero h cs other = absurd (other refl)
    at (suc n) h cs other = q.at n h cs other

pub entered_right : (f g : Running) → ReachedBy f g → ReachedBy f (entered_running g)
entered_right f g q = record { at = λ n h cs other. let m = q.at n h cs other in (suc (m.0), m.1) }

-- turns by fuel, where more turns come to the same
pub turns_reached_by : (f g : ℕ → Running)
    → ((m : ℕ) → ReachedBy (f m) (g m))
    → ((m more : ℕ) → KeptByFuel (g m) (g (m + more)))
    → ReachedBy (λ n h cs. f (suc n) n h cs) (λ n h cs. g (suc n) n h cs)
turns_reached_by f g q k = record {
  at = λ n h cs other.
      let found = (q (suc n)).at n h cs other in
      let m = found.0 in
      let turn : suc n + m ≡ suc (n + m) = omega arith in
      let fuel : m + n ≡ n + m = omega arith in (
        n + m,
        (λ j. g (sym turn j) (sym fuel j) h cs) ∙ (k (suc n) m).at m n h cs (λ x. other (sym (found.1) ∙ x)) ∙ found.1,
      );
}
