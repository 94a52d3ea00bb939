-- Outcomes that more fuel keeps: of what computations are made of, of what is entered, and of the turns of a recursion.
use Rattle.std.proofs.Common.{◌≡◌, ◌≢◌, ℕ, zero, suc, ◌+◌, List, refl, sym, ap, ◌∙◌, subst, arith}
use Rattle.std.specs.Prelude.{true, false}
use Rattle.htt_syntax.specs.Trees.{FixTree, StepTree, t_var, c_ret, c_step}
use Rattle.theory_values.specs.Values.{Value, v_bool}
use Rattle.theory_values.specs.Heaps.{Heap}
use Rattle.theory_canonical.specs.Skeletons.{Skeleton}
use Rattle.theory_canonical.specs.Contexts.{Standing, here, Heads}
use Rattle.theory_canonical.specs.Canonical.{IsCanonicalFix, IsCanonicalStep, n_ret, n_step, n_neutral, n_param, n_body, e_var}
use Rattle.theory_denotation.specs.Outcomes.{Outcome, Running, ended, out_of_fuel, asking, wrong, then_outcome, branch_outcome}
use Rattle.theory_denotation.specs.Valuations.{Domain, den_term, Valuation, HeadEntries}
use Rattle.theory_denotation.specs.Recursion.{entered_running, unentered, turns}
use Rattle.theory_denotation.specs.Denotation.{term_den, fix_den, comp_den, step_den}
use Rattle.theory_denotation.specs.Valued.{EndsInRun, ends_c, ends_arrow, ends_all}
use Rattle.theory_denotation_relations.specs.Relating.{Related, IsKept, RelatedValuations, RelatedHeads}
use Rattle.theory_denotation_relations.specs.Laws.{KeptByFuel}
use Rattle.theory_denotation_relations.proofs.Recursions.{entered_related}
use Rattle.theory_denotation_relations.proofs.Related.{next_term, comp_related}

branch_kept : (v : Value) (o p a b : Outcome)
    → (o ≢ out_of_fuel → p ≡ o)
    → (a ≢ out_of_fuel → b ≡ a)
    → branch_outcome v o a ≢ out_of_fuel
    → branch_outcome v p b ≡ branch_outcome v o a
branch_kept (v_bool true) o p a b q r other = q other
branch_kept (v_bool false) o p a b q r other = r other
branch_kept _ o p a b q r other = refl

sequence_kept : (o p : Outcome) (a b : Value → Heap → List ℕ → Outcome)
    → (o ≢ out_of_fuel → p ≡ o)
    → ((v : Value) (h : Heap) (cs : List ℕ) → a v h cs ≢ out_of_fuel → b v h cs ≡ a v h cs)
    → then_outcome o a ≢ out_of_fuel
    → then_outcome p b ≡ then_outcome o a
sequence_kept (ended v h cs) p a b q r other = ap (λ x. then_outcome x b) (q (λ e. cc)) ∙ r v h cs other
sequence_kept out_of_fuel p a b q r other = absurd (other refl)
sequence_kept asking p a b q r other = ap (λ x. then_outcome x b) (q (λ e. cc))
sequence_kept wrong p a b q r other = ap (λ x. then_outcome x b) (q (λ e. cc))

entered_kept : (f g : Running)
    → KeptByFuel f g
    → (n more : ℕ) (h : Heap) (cs : List ℕ)
    → entered_running f n h cs ≢ out_of_fuel
    → entered_running g (n + more) h cs ≡ entered_running f n h cs
entered_kept f g q zero more h cs other = absurd (other refl)
entered_kept f g q (suc n) more h cs other =
    let e : suc (n + more) ≡ suc n + more = omega arith in ap (λ k. entered_running g k h cs) (sym e) ∙ q.at n more h cs other

turn_kept : (f g : ℕ → Running)
    → ((m more : ℕ) → KeptByFuel (f m) (g (m + more)))
    → KeptByFuel (λ n h cs. f (suc n) n h cs) (λ n h cs. g (suc n) n h cs)
turn_kept f g q = record {
  at = λ n more h cs other.
      let e : suc n + more ≡ suc (n + more) = omega arith in ap (λ k. g k (n + more) h cs) (sym e) ∙ (q (suc n) more).at n more h cs other;
}

pub fuel_is_kept : IsKept KeptByFuel
fuel_is_kept = record {
  ending = λ v. record { at = λ n more h cs other. refl };
  alloc = λ v. record { at = λ n more h cs other. refl };
  get = λ t v. record { at = λ n more h cs other. refl };
  set = λ t v u. record { at = λ n more h cs other. refl };
  free = λ t v. record { at = λ n more h cs other. refl };
  branch = λ v f g a b q r. record {
    at = λ n more h cs other.
        branch_kept v (f n h cs) (g (n + more) h cs) (a n h cs) (b (n + more) h cs) (q.at n more h cs) (r.at n more h cs) other;
  };
  sequence = λ f g a b q r. record {
    at = λ n more h cs other.
        sequence_kept (f n h cs) (g (n + more) h cs) (λ v k ds. a v n k ds) (λ v k ds. b v (n + more) k ds) (q.at n more h cs)
        (λ v k ds. (r v).at n more k ds) other;
  };
  unentered = λ f. record { at = λ n more h cs other. absurd (other refl) };
  entered = λ f g q. record { at = entered_kept f g q };
  by_fuel = turn_kept;
}

-- the turns of a recursion, of which more may be entered
unentered_kept : {s : Skeleton} → EndsInRun s → (d : Domain s) → Related KeptByFuel s (unentered s) d
unentered_kept ends_c d = record { at = λ n more h cs other. absurd (other refl) }
unentered_kept (ends_arrow r) d = λ x y q. unentered_kept r (d y)
unentered_kept (ends_all r) d = λ t. unentered_kept r (d t)

pub turns_kept : {s : Skeleton}
    → EndsInRun s
    → (g : Domain s → Domain s)
    → ((d c : Domain s) → Related KeptByFuel s d c → Related KeptByFuel s (g d) (g c))
    → (m more : ℕ)
    → Related KeptByFuel s (turns s g m) (turns s g (m + more))
turns_kept {s = s} r g q zero more = unentered_kept r (turns s g (zero + more))
turns_kept {s = s} r g q (suc m) more =
    let e : suc (m + more) ≡ suc m + more = omega arith in
    subst (λ k. Related KeptByFuel s (turns s g (suc m)) (turns s g k)) e
    (entered_related KeptByFuel fuel_is_kept r (g (turns s g m)) (g (turns s g (m + more)))
    (q (turns s g m) (turns s g (m + more)) (turns_kept r g q m more)))

pub turn_itself : {s : Skeleton}
    → EndsInRun s
    → (g : Domain s → Domain s)
    → ((d c : Domain s) → Related KeptByFuel s d c → Related KeptByFuel s (g d) (g c))
    → (m : ℕ)
    → Related KeptByFuel s (turns s g m) (turns s g m)
turn_itself {s = s} r g q m =
    let e : m + 0 ≡ m = omega arith in subst (λ k. Related KeptByFuel s (turns s g m) (turns s g k)) e (turns_kept r g q m 0)

-- a recursive function, of its own denotation
pub fix_kept : {heads : Heads} {e : HeadEntries} {g : List Standing} {w w' : Valuation} {fix : FixTree} {whole s : Skeleton}
    → RelatedHeads KeptByFuel heads e e
    → IsCanonicalFix heads g whole fix s
    → (d c : Domain whole)
    → Related KeptByFuel whole d c
    → RelatedValuations KeptByFuel g w w'
    → Related KeptByFuel s (fix_den e w (den_term whole d) fix s) (fix_den e w' (den_term whole c) fix s)
unfolding fix_den
fix_kept h (n_param {s = s} ty q others) d c p r = λ x y i. fix_kept h others d c p (next_term KeptByFuel fuel_is_kept s x y i r)
fix_kept h (n_body {whole = whole} spec a) d c p r = comp_related KeptByFuel fuel_is_kept h a (next_term KeptByFuel fuel_is_kept whole d c p r)

-- a step, by the computation that gives its value
then_itself : (o : Outcome) → then_outcome o (λ v k ds. ended v k ds) ≡ o
then_itself (ended v h cs) = refl
then_itself out_of_fuel = refl
then_itself asking = refl
then_itself wrong = refl

pub step_kept : {heads : Heads} {e : HeadEntries} {g : List Standing} {w : Valuation} {step : StepTree}
    → RelatedHeads KeptByFuel heads e e
    → IsCanonicalStep heads g step
    → RelatedValuations KeptByFuel g w w
    → KeptByFuel (step_den e w step) (step_den e w step)
unfolding term_den
step_kept {e = e} {w = w} {step = step} h a r =
    let whole : comp_den e w (c_step step (c_ret (t_var 0))) ≡ step_den e w step = λ j n k cs. then_itself (step_den e w step n k cs) j in
    subst (λ (f : Running). KeptByFuel f f) whole
    (comp_related KeptByFuel fuel_is_kept h (n_step {others = c_ret (t_var 0)} a (n_ret (n_neutral (e_var here)))) r)
