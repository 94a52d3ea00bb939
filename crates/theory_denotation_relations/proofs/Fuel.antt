-- More fuel keeps an outcome.
use Rattle.std.proofs.Common.{◌≡◌, ◌≢◌, ℕ, zero, suc, ◌+◌, List, refl, sym, ap, ◌∙◌, arith}
use Rattle.theory_values.specs.Values.{Value, v_bool}
use Rattle.std.specs.Prelude.{true, false}
use Rattle.theory_values.specs.Heaps.{Heap}
use Rattle.theory_denotation.specs.Outcomes.{Outcome, Running, ended, out_of_fuel, asking, wrong, then_outcome, branch_outcome}
use Rattle.theory_denotation.specs.Recursion.{entered_running}
use Rattle.theory_denotation_relations.specs.Relating.{IsKept}
use Rattle.theory_denotation_relations.specs.Laws.{KeptByFuel, MoreFuelKeepsOutcomes}
use Rattle.theory_denotation_relations.proofs.Related.{term_related, comp_related}
use Rattle.theory_denotation_relations.proofs.Vals.{file_related}

sequence_kept : (o p : Outcome) (a b : Value → Heap → List ℕ → Outcome)
    → (o ≢ out_of_fuel → p ≡ o)
    → ((v : Value) (h : Heap) (cs : List ℕ) → a v h cs ≢ out_of_fuel → b v h cs ≡ a v h cs)
    → then_outcome o a ≢ out_of_fuel
    → then_outcome p b ≡ then_outcome o a
sequence_kept (ended v h cs) p a b q r other = ap (λ x. then_outcome x b) (q (λ e. cc)) ∙ r v h cs other
sequence_kept out_of_fuel p a b q r other = absurd (other refl)
sequence_kept asking p a b q r other = ap (λ x. then_outcome x b) (q (λ e. cc))
sequence_kept wrong p a b q r other = ap (λ x. then_outcome x b) (q (λ e. cc))

branch_kept : (v : Value) (o p a b : Outcome)
    → (o ≢ out_of_fuel → p ≡ o)
    → (a ≢ out_of_fuel → b ≡ a)
    → branch_outcome v o a ≢ out_of_fuel
    → branch_outcome v p b ≡ branch_outcome v o a
branch_kept (v_bool true) o p a b q r other = q other
branch_kept (v_bool false) o p a b q r other = r other
branch_kept _ o p a b q r other = refl

-- what takes no fuel
constant_kept : (f : Heap → List ℕ → Outcome) → KeptByFuel (λ n h cs. f h cs) (λ n h cs. f h cs)
constant_kept f = record { at = λ n more h cs other. refl }

entered_kept : (f g : Running)
    → KeptByFuel f g
    → (n more : ℕ) (h : Heap) (cs : List ℕ)
    → entered_running f n h cs ≢ out_of_fuel
    → entered_running g (n + more) h cs ≡ entered_running f n h cs
entered_kept f g q zero more h cs other = absurd (other refl)
entered_kept f g q (suc n) more h cs other =
    let e : suc (n + more) ≡ suc n + more = omega arith in ap (λ k. entered_running g k h cs) (sym e) ∙ q.at n more h cs other

fuel_kept : (f g : ℕ → Running) → ((m more : ℕ) → KeptByFuel (f m) (g (m + more))) → KeptByFuel (λ n h cs. f (suc n) n h cs) (λ n h cs. g (suc n) n h cs)
fuel_kept f g q = record {
  at = λ n more h cs other.
      let e : suc n + more ≡ suc (n + more) = omega arith in ap (λ k. g k (n + more) h cs) (sym e) ∙ (q (suc n) more).at n more h cs other;
}

fuel_is_kept : IsKept KeptByFuel
fuel_is_kept = record {
  ending = λ v. constant_kept (λ h cs. ended v h cs);
  alloc = λ v. record { at = λ n more h cs other. refl };
  get = λ t v. record { at = λ n more h cs other. refl };
  set = λ t v u. record { at = λ n more h cs other. refl };
  free = λ t v. record { at = λ n more h cs other. refl };
  branch = λ v f g a b q r. record {
    at = λ n more h cs other.
        branch_kept v (f n h cs) (g (n + more) h cs) (a n h cs) (b (n + more) h cs) (q.at n more h cs) (r.at n more h cs) other;
  };
  sequence = λ f g a b q r. record {
    at = λ n more h cs other.
        sequence_kept (f n h cs) (g (n + more) h cs) (λ v k ds. a v n k ds) (λ v k ds. b v (n + more) k ds) (q.at n more h cs)
        (λ v k ds. (r v).at n more k ds) other;
  };
  unentered = λ f. record { at = λ n more h cs other. absurd (other refl) };
  entered = λ f g q. record { at = entered_kept f g q };
  by_fuel = fuel_kept;
}

pub more_fuel : MoreFuelKeepsOutcomes
more_fuel = record {
  terms = λ heads e g w h r term s c. term_related KeptByFuel fuel_is_kept h c r;
  computations = λ heads e g w h r comp c. comp_related KeptByFuel fuel_is_kept h c r;
  files = λ vs a. file_related KeptByFuel fuel_is_kept vs a;
}
