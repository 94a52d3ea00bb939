-- Choices that aren't used are handed on.
use Rattle.std.proofs.Common.{◌≡◌, ◌≢◌, ℕ, zero, suc, List, [], ◌∷◌, ◌++◌, Option, Some, None, refl, ap, ◌∙◌}
use Rattle.std.specs.Prelude.{Bool, true, false, if◌then◌else◌}
use Rattle.htt_syntax.specs.Trees.{MonoTree}
use Rattle.theory_values.specs.Values.{Value, v_bool, v_loc, v_unit, encoding}
use Rattle.theory_values.specs.Heaps.{Heap, with_block, without_block}
use Rattle.theory_meaning.specs.Meaning.{is_fresh, block_value, is_as_wide}
use Rattle.theory_denotation.specs.Outcomes.{Outcome, Running, ended, out_of_fuel, asking, wrong, then_outcome, value_outcome, alloc_outcome, get_outcome}
use Rattle.theory_denotation.specs.Outcomes.{set_outcome, free_outcome, branch_outcome}
use Rattle.theory_denotation.specs.Recursion.{entered_running}
use Rattle.theory_denotation_relations.specs.Relating.{IsKept}
use Rattle.theory_denotation_relations.specs.Laws.{HandsOn, outcome_with_more, OutcomesHandOnChoices, FilesAreValued}
use Rattle.theory_denotation_relations.proofs.Related.{term_related, comp_related}
use Rattle.theory_denotation_relations.proofs.Vals.{file_related, file_valued, file_runs}

fresh_hands : (b : Bool) (v : Value) (h : Heap) (cs more : List ℕ)
    → (if b then ended v h cs else asking) ≢ asking
    → (if b then ended v h (cs ++ more) else asking) ≡ outcome_with_more more (if b then ended v h cs else asking)
fresh_hands true v h cs more other = refl
fresh_hands false v h cs more other = refl

wide_hands : (b : Bool) (v : Value) (h : Heap) (cs more : List ℕ)
    → (if b then ended v h (cs ++ more) else wrong) ≡ outcome_with_more more (if b then ended v h cs else wrong)
wide_hands true v h cs more = refl
wide_hands false v h cs more = refl

alloc_hands : (v : Value) (h : Heap) (cs more : List ℕ)
    → alloc_outcome v h cs ≢ asking
    → alloc_outcome v h (cs ++ more) ≡ outcome_with_more more (alloc_outcome v h cs)
alloc_hands v h [] more other = absurd (other refl)
alloc_hands v h (l ∷ cs) more other = fresh_hands (is_fresh h l) (v_loc l) (with_block h l (encoding v)) cs more other

value_hands : (o : Option Value) (h : Heap) (cs more : List ℕ) → value_outcome o h (cs ++ more) ≡ outcome_with_more more (value_outcome o h cs)
value_hands (Some v) h cs more = refl
value_hands None h cs more = refl

get_hands : (t : MonoTree) (v : Value) (h : Heap) (cs more : List ℕ) → get_outcome t v h (cs ++ more) ≡ outcome_with_more more (get_outcome t v h cs)
get_hands t (v_loc l) h cs more = value_hands (block_value (Some t) (h l)) h cs more
get_hands t _ h cs more = refl

set_hands : (t : MonoTree) (v u : Value) (h : Heap) (cs more : List ℕ) → set_outcome t v u h (cs ++ more) ≡ outcome_with_more more (set_outcome t v u h cs)
set_hands t (v_loc l) u h cs more = wide_hands (is_as_wide (Some t) (h l)) v_unit (with_block h l (encoding u)) cs more
set_hands t _ u h cs more = refl

free_hands : (t : MonoTree) (v : Value) (h : Heap) (cs more : List ℕ) → free_outcome t v h (cs ++ more) ≡ outcome_with_more more (free_outcome t v h cs)
free_hands t (v_loc l) h cs more = wide_hands (is_as_wide (Some t) (h l)) v_unit (without_block h l) cs more
free_hands t _ h cs more = refl

branch_hands : (v : Value) (more : List ℕ) (o p a b : Outcome)
    → (o ≢ asking → p ≡ outcome_with_more more o)
    → (a ≢ asking → b ≡ outcome_with_more more a)
    → branch_outcome v o a ≢ asking
    → branch_outcome v p b ≡ outcome_with_more more (branch_outcome v o a)
branch_hands (v_bool true) more o p a b q r other = q other
branch_hands (v_bool false) more o p a b q r other = r other
branch_hands _ more o p a b q r other = refl

sequence_hands : (more : List ℕ) (o p : Outcome) (a : Value → Heap → List ℕ → Outcome)
    → (o ≢ asking → p ≡ outcome_with_more more o)
    → ((v : Value) (h : Heap) (cs : List ℕ) → a v h cs ≢ asking → a v h (cs ++ more) ≡ outcome_with_more more (a v h cs))
    → then_outcome o a ≢ asking
    → then_outcome p a ≡ outcome_with_more more (then_outcome o a)
sequence_hands more (ended v h cs) p a q r other = ap (λ x. then_outcome x a) (q (λ e. cc)) ∙ r v h cs other
sequence_hands more out_of_fuel p a q r other = ap (λ x. then_outcome x a) (q (λ e. cc))
sequence_hands more asking p a q r other = absurd (other refl)
sequence_hands more wrong p a q r other = ap (λ x. then_outcome x a) (q (λ e. cc))

entered_hands : (f g : Running)
    → HandsOn f g
    → (n : ℕ) (h : Heap) (cs more : List ℕ)
    → entered_running f n h cs ≢ asking
    → entered_running f n h (cs ++ more) ≡ outcome_with_more more (entered_running f n h cs)
entered_hands f g q zero h cs more other = refl
entered_hands f g q (suc n) h cs more other = q.at n h cs more other

handing_is_kept : IsKept HandsOn
handing_is_kept = record {
  ending = λ v. record { at = λ n h cs more other. refl };
  alloc = λ v. record { at = λ n h cs more other. alloc_hands v h cs more other };
  get = λ t v. record { at = λ n h cs more other. get_hands t v h cs more };
  set = λ t v u. record { at = λ n h cs more other. set_hands t v u h cs more };
  free = λ t v. record { at = λ n h cs more other. free_hands t v h cs more };
  branch = λ v f g a b q r. record {
    at = λ n h cs more other.
        branch_hands v more (f n h cs) (f n h (cs ++ more)) (a n h cs) (a n h (cs ++ more)) (q.at n h cs more) (r.at n h cs more) other;
  };
  sequence = λ f g a b q r. record {
    at = λ n h cs more other.
        sequence_hands more (f n h cs) (f n h (cs ++ more)) (λ v k ds. a v n k ds) (q.at n h cs more) (λ v k ds. (r v).at n k ds more)
        other;
  };
  unentered = λ f. record { at = λ n h cs more other. refl };
  entered = λ f g q. record { at = entered_hands f g q };
  by_fuel = λ f g q. record { at = λ n h cs more other. (q (suc n) 0).at n h cs more other };
}

pub handed_on : OutcomesHandOnChoices
handed_on = record {
  terms = λ heads e g w h r term s c. term_related HandsOn handing_is_kept h c r;
  computations = λ heads e g w h r comp c. comp_related HandsOn handing_is_kept h c r;
  files = λ vs a. file_related HandsOn handing_is_kept vs a;
}

pub valued : FilesAreValued
valued = record { valued = λ vs a. file_valued HandsOn handing_is_kept vs a; runs = λ vs a. file_runs HandsOn handing_is_kept vs a }
