-- The worked examples hold.
use Rattle.std.proofs.Common.{◌≡◌, ℕ, zero, suc, List, [], ◌∷◌, Some, None, slice_get, refl, sym, ap, ◌∙◌, subst, inl, inr}
use Rattle.std.proofs.lemmas.Option.{same_Some}
use Rattle.htt_syntax.specs.Trees.{ProofTree}
use Rattle.theory_typing.specs.Contexts.{Environment, Obligation}
use Rattle.theory_typing.specs.Laws.{none, sum_goal}
use Rattle.theory_items.specs.Items.{with_val}
use Rattle.theory_items.specs.Examples.{gives_five}
use Rattle.theory_items.proofs.Worked as items
use Rattle.theory_logic_rules.specs.Rules.{Proves, infers_hyp, infers_second, proves_inferred, proves_block, block_end, block_intro}
use Rattle.theory_file_derived.specs.Derived.{by_auto, by_proof, ProofItem, DerivesAll, derives_none, derives_more, owed_at, given_for, IsProvedOnce, IsDerived}
use Rattle.theory_file_derived.specs.Examples.{sum_file, second_part, main_proved, main_second, other_proved, WorkedExamples}
use Rattle.theory_file_derived.proofs.Derived.{all_once}

sum_env : Environment
sum_env = with_val none gives_five

sum_derives : DerivesAll none sum_file (with_val none gives_five) ((sum_goal ∷ []) ∷ [])
sum_derives = derives_more items.worked.val derives_none

sum_proved : Proves (with_val none gives_five) sum_goal.context [] second_part sum_goal.goal
sum_proved = proves_block (block_intro (block_end (proves_inferred (infers_second (infers_hyp refl)) refl)))

no_element : {A : Type 0} {x : A} → None ≡ Some x → ⊥
no_element e = cc

-- the only obligation is main.1
only_goal : (item number : ℕ) (o : Obligation) → owed_at ((sum_goal ∷ []) ∷ []) (Some item) number ≡ Some o → (item ≡ 0) × (number ≡ 1) × (sum_goal ≡ o)
only_goal zero zero o e = absurd (no_element e)
only_goal zero (suc zero) o e = (refl, refl, same_Some sum_goal o e)
only_goal zero (suc (suc n)) o e = absurd (no_element e)
only_goal (suc item) number o e = absurd (no_element e)

proved_once : (item number : ℕ) (o : Obligation)
    → owed_at ((sum_goal ∷ []) ∷ []) (Some item) number ≡ Some o
    → IsProvedOnce (with_val none gives_five) (main_proved ∷ []) item number o
unfolding given_for
proved_once item number o e =
    let r = only_goal item number o e in
    subst (λ (i : ℕ). IsProvedOnce (with_val none gives_five) (main_proved ∷ []) i number o) (sym r.0)
    (subst (λ (n : ℕ). IsProvedOnce (with_val none gives_five) (main_proved ∷ []) 0 n o) (sym r.1)
    (subst (λ (g : Obligation). IsProvedOnce (with_val none gives_five) (main_proved ∷ []) 0 1 g) r.2
    (record { proof = second_part; only = refl; proves = sum_proved })))

aimed : (n : ℕ) (proof : ProofItem)
    → slice_get (main_proved ∷ []) n ≡ Some proof
    → (o : Obligation) × (owed_at ((sum_goal ∷ []) ∷ []) proof.item proof.number ≡ Some o)
aimed zero proof e =
    subst (λ (p : ProofItem). (o : Obligation) × (owed_at ((sum_goal ∷ []) ∷ []) p.item p.number ≡ Some o)) (same_Some main_proved proof e)
    (sum_goal, refl)
aimed (suc n) proof e = absurd (no_element e)

-- in a derived file what is given for main.1 is one proof
given_one : {proofs : List ProofItem} {final : Environment} → IsDerived sum_file proofs final → (p : ProofTree) × (given_for proofs 0 1 ≡ by_proof p ∷ [])
given_one d =
    let same = (all_once sum_derives d.derives).1 in
    let p = d.proved 0 1 sum_goal (ap (λ (r : List (List Obligation)). owed_at r (Some 0) 1) (sym same)) in
    (p.proof, p.only)

-- and each proof is aimed at an obligation
aim : {proofs : List ProofItem} {final : Environment}
    → IsDerived sum_file proofs final
    → (n : ℕ) (proof : ProofItem)
    → slice_get proofs n ≡ Some proof
    → (o : Obligation) × (owed_at ((sum_goal ∷ []) ∷ []) proof.item proof.number ≡ Some o)
aim d n proof e =
    let r = d.aimed n proof e in
    (r.0, ap (λ (r : List (List Obligation)). owed_at r proof.item proof.number) (all_once sum_derives d.derives).1 ∙ r.1)

none_given : (p : ProofTree) → [] ≡ by_proof p ∷ [] → ⊥
none_given p e = cc

auto_given : (p : ProofTree) → by_auto ∷ [] ≡ by_proof p ∷ [] → ⊥
auto_given p e = cc

two_given : (p q r : ProofTree) → by_proof q ∷ by_proof r ∷ [] ≡ by_proof p ∷ [] → ⊥
two_given p q r e = cc

pub worked : WorkedExamples
unfolding given_for
worked = record {
  derived = record { rows = (sum_goal ∷ []) ∷ []; derives = sum_derives; proved = proved_once; aimed = aimed };
  without_proof = record { owed = refl; unproved = inl refl };
  with_auto = record { owed = refl; unproved = inr refl };
  not_without = λ final d. let r = given_one d in none_given r.0 r.1;
  not_auto = λ final d. let r = given_one d in auto_given r.0 r.1;
  not_twice = λ final d. let r = given_one d in two_given r.0 second_part second_part r.1;
  not_stray = λ final d. let r = aim d 1 main_second refl in no_element r.1;
  not_unnamed = λ final d. let r = aim d 1 other_proved refl in no_element r.1;
  texts = refl;
}
