-- A claim comes to one thing, and a row is claimed once.
use Rattle.std.proofs.Common.{◌≡◌, ℕ, Bool, true, false, List, Option, Some, Ok, Err, refl, sym, ap, ◌∙◌, subst, arith}
use Rattle.std.specs.Prelude.{slice_get, slice_set}
use Rattle.obligations.specs.declared.row.Row.{Row}
use Rattle.obligations.specs.declared.row.State.{State}
use Rattle.obligations.specs.declared.claims.ClaimStop.TheVariants.{Stray, Twice}
use Rattle.obligations.specs.Rows.{is_free, is_free_state, AreDistinct, ChangesTo, with_state}
use Rattle.obligations.specs.Claims.{NoneNamed, StandsAs, claimed_as}
use Rattle.obligations.specs.Laws.{ClaimsComeToOne, ClaimsAreOnce}
use Rattle.obligations.proofs.Rows.{some_is, stands_changed, changed_distinct}

module _ (target : Option ℕ) (number : ℕ) (rows : List Row) where
  one_row : (free also : Bool) (j k : ℕ) → AreDistinct rows → StandsAs free target number rows j → StandsAs also target number rows k → j ≡ k
  one_row free also j k distinct a b =
      distinct j k a.there b.there a.stands b.stands
      (some_is a.there.item b.there.item (sym a.named.of_item ∙ b.named.of_item)) (sym a.named.of_number ∙ b.named.of_number)

  one_state : (free also : Bool) (j k : ℕ) → AreDistinct rows → StandsAs free target number rows j → StandsAs also target number rows k → free ≡ also
  one_state free also j k distinct a b =
      let same = one_row free also j k distinct a b in
      let there : a.there ≡ b.there = some_is a.there b.there (sym a.stands ∙ ap (slice_get rows) same ∙ b.stands) in
      sym a.state ∙ ap (λ (r : Row). is_free r) there ∙ b.state

  not_both : (free : Bool) (row : ℕ) → NoneNamed target number rows → StandsAs free target number rows row → ⊥
  not_both free row none a = none row a.there a.stands a.named

one_change : (s : State) (row : ℕ) (rows one other : List Row) → ChangesTo s row rows one → ChangesTo s row rows other → one ≡ other
one_change s row rows one other a b =
    let was : a.was ≡ b.was = some_is a.was b.was (sym a.stood ∙ b.stood) in
    a.changed ∙ ap (λ (r : Row). slice_set rows row (with_state s r)) was ∙ sym b.changed

pub claims_come_to_one : ClaimsComeToOne
claims_come_to_one target number auto rows one other (Ok j) (Ok k) distinct a b =
    let same = one_row target number rows true true j k distinct a.0 b.0 in
    (ap Ok same, one_change (claimed_as auto) k rows one other (subst (λ i. ChangesTo (claimed_as auto) i rows one) same a.1) b.1)
claims_come_to_one target number auto rows one other (Ok j) (Err Stray) distinct a b = absurd (not_both target number rows true j b.0 a.0)
claims_come_to_one target number auto rows one other (Ok j) (Err Twice) distinct a b =
    let e = one_state target number rows true false j b.0.0 distinct a.0 b.0.1 in grind (arith, e)
claims_come_to_one target number auto rows one other (Err Stray) (Ok k) distinct a b = absurd (not_both target number rows true k a.0 b.0)
claims_come_to_one target number auto rows one other (Err Stray) (Err Stray) distinct a b = (refl, a.1 ∙ sym b.1)
claims_come_to_one target number auto rows one other (Err Stray) (Err Twice) distinct a b = absurd (not_both target number rows false b.0.0 a.0 b.0.1)
claims_come_to_one target number auto rows one other (Err Twice) (Ok k) distinct a b =
    let e = one_state target number rows false true a.0.0 k distinct a.0.1 b.0 in grind (arith, e)
claims_come_to_one target number auto rows one other (Err Twice) (Err Stray) distinct a b = absurd (not_both target number rows false a.0.0 b.0 a.0.1)
claims_come_to_one target number auto rows one other (Err Twice) (Err Twice) distinct a b = (refl, a.1 ∙ sym b.1)

-- ---- a row is claimed once

not_free : (auto : Bool) → is_free_state (claimed_as auto) ≡ false
not_free true = refl
not_free false = refl

module _ (target : Option ℕ) (number : ℕ) (auto : Bool) (rows once : List Row) (row : ℕ) (distinct : AreDistinct rows) where
  claimed : StandsAs true target number rows row → ChangesTo (claimed_as auto) row rows once → StandsAs false target number once row
  claimed a b =
      let same : a.there ≡ b.was = some_is a.there b.was (sym a.stands ∙ b.stood) in
      let x = with_state (claimed_as auto) b.was in
      record {
        there = x;
        stands = ap (λ (rs : List Row). slice_get rs row) b.changed ∙ stands_changed rows row b.was x b.stood;
        named = record { of_item = a.named.of_item ∙ ap (λ (r : Row). Some r.item) same; of_number = a.named.of_number ∙ ap (λ (r : Row). r.number) same };
        state = not_free auto;
      }

  stays_distinct : ChangesTo (claimed_as auto) row rows once → AreDistinct once
  stays_distinct b = subst (λ (rs : List Row). AreDistinct rs) (sym b.changed) (changed_distinct rows row b.was (claimed_as auto) b.stood distinct)

pub claims_are_once : ClaimsAreOnce
claims_are_once target number auto again rows once twice row (Ok k) distinct a b =
    let there = claimed target number auto rows once row distinct a.0 a.1 in
    let kept = stays_distinct target number auto rows once row distinct a.1 in
    let e = one_state target number once false true row k kept there b.0 in
    grind (arith, e)
claims_are_once target number auto again rows once twice row (Err Stray) distinct a b =
    absurd (not_both target number once false row b.0 (claimed target number auto rows once row distinct a.0 a.1))
claims_are_once target number auto again rows once twice row (Err Twice) distinct a b = (refl, b.1)
