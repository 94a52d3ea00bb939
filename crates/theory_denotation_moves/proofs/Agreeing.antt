-- The maps of states agree with the valuations that they are for.
use Rattle.std.proofs.Common.{◌≡◌, ℕ, zero, suc, ◌∷◌, refl, sym, subst}
use Rattle.htt_syntax.specs.Trees.{m_loc}
use Rattle.theory_values.specs.Values.{Value, v_loc, HasType, is_loc}
use Rattle.theory_states.specs.States.{past, at_heaps, at_heap, at_result}
use Rattle.theory_denotation.specs.Valuations.{ValuationEntry, Valuation, entry_at}
use Rattle.theory_denotation_renaming.specs.Along.{AgreeAlong}

pub into : {A B : Type 0} → A ≡ B → B → A
into q b = subst (λ (T : Type 0). T) (sym q) b

pub out_of : {A B : Type 0} → A ≡ B → A → B
out_of q a = subst (λ (T : Type 0). T) q a

pub heaps_agree : (m i k : ℕ) (b c : ValuationEntry) (w w' : Valuation)
    → entry_at w' m ≡ b
    → entry_at w' i ≡ c
    → ((n : ℕ) → entry_at w' (past k n) ≡ entry_at w n)
    → AgreeAlong (at_heaps m i k) (b ∷ c ∷ w) w'
unfolding at_heaps
heaps_agree m i k b c w w' p q r = record { at = go }
  where
    go : (n : ℕ) → entry_at w' (at_heaps m i k n) ≡ entry_at (b ∷ c ∷ w) n
    go zero = p
    go (suc zero) = q
    go (suc (suc n)) = r n

pub heap_agrees : (h k : ℕ) (b : ValuationEntry) (w w' : Valuation)
    → entry_at w' h ≡ b
    → ((n : ℕ) → entry_at w' (past k n) ≡ entry_at w n)
    → AgreeAlong (at_heap h k) (b ∷ w) w'
unfolding at_heap
heap_agrees h k b w w' p r = record { at = go }
  where
    go : (n : ℕ) → entry_at w' (at_heap h k n) ≡ entry_at (b ∷ w) n
    go zero = p
    go (suc n) = r n

pub result_agrees : (before after value k : ℕ) (a b c : ValuationEntry) (w w' : Valuation)
    → entry_at w' after ≡ a
    → entry_at w' before ≡ b
    → entry_at w' value ≡ c
    → ((n : ℕ) → entry_at w' (past k n) ≡ entry_at w n)
    → AgreeAlong (at_result before after value k) (a ∷ b ∷ c ∷ w) w'
unfolding at_result
result_agrees before after value k a b c w w' p q s r = record { at = go }
  where
    go : (n : ℕ) → entry_at w' (at_result before after value k n) ≡ entry_at (a ∷ b ∷ c ∷ w) n
    go zero = p
    go (suc zero) = q
    go (suc (suc zero)) = s
    go (suc (suc (suc n))) = r n

pub past_2 : (a b : ValuationEntry) (w : Valuation) → AgreeAlong (past 2) w (a ∷ b ∷ w)
unfolding past
past_2 a b w = record { at = λ n. refl }

pub past_3 : (a b c : ValuationEntry) (w : Valuation) → AgreeAlong (past 3) w (a ∷ b ∷ c ∷ w)
unfolding past
past_3 a b c w = record { at = λ n. refl }

pub past_4 : (a b c d : ValuationEntry) (w : Valuation) → AgreeAlong (past 4) w (a ∷ b ∷ c ∷ d ∷ w)
unfolding past
past_4 a b c d w = record { at = λ n. refl }

pub past_5 : (a b c d f : ValuationEntry) (w : Valuation) → AgreeAlong (past 5) w (a ∷ b ∷ c ∷ d ∷ f ∷ w)
unfolding past
past_5 a b c d f w = record { at = λ n. refl }

pub past_6 : (a b c d f g : ValuationEntry) (w : Valuation) → AgreeAlong (past 6) w (a ∷ b ∷ c ∷ d ∷ f ∷ g ∷ w)
unfolding past
past_6 a b c d f g w = record { at = λ n. refl }

pub past_7 : (a b c d f g i : ValuationEntry) (w : Valuation) → AgreeAlong (past 7) w (a ∷ b ∷ c ∷ d ∷ f ∷ g ∷ i ∷ w)
unfolding past
past_7 a b c d f g i w = record { at = λ n. refl }

-- a value of the locations is a location
pub record IsPlace (v : Value) : Type 0 where
  pub place : ℕ
  pub is_place : v ≡ v_loc place

pub place_of_loc : {v : Value} → HasType v m_loc → IsPlace v
place_of_loc (is_loc {n = n} p) = record { place = n; is_place = refl }
