-- The worked values, heaps and choices.
use Rattle.std.proofs.Common.{◌≡◌, ℕ, ◌≤◌, [], ◌∷◌, true, false, Option, Some, None, Bool, nat_eq, if◌then◌else◌, refl, arith, ◌⊎◌, inl, inr}
use Rattle.std.proofs.lemmas.Bool.Decides.{nat_tests}
use Rattle.std.proofs.lemmas.List.Elements.{All-nil, All-cons}
use Rattle.htt_syntax.specs.Trees.{m_word, m_pair, m_var}
use Rattle.theory_values.specs.Values.{Value, v_word, v_loc, HasType, IsClosed, IsWord, is_word, is_bool, is_loc, is_pair, closed_unit, closed_bool, closed_loc}
use Rattle.theory_values.specs.Values.{closed_pair}
use Rattle.theory_values.specs.Heaps.{Block, Joins, InUse, empty_heap, single_block}
use Rattle.theory_values.proofs.Joins.{single_is_only, only_is_heap}
use Rattle.theory_meaning.specs.Choices.{IsGreatest}
use Rattle.theory_examples.specs.Heaps.{TheValues, TheHeaps, TheChoices}

no_word_beyond : HasType (v_word 18446744073709551616) m_word → ⊥
no_word_beyond (is_word l) = omega (arith, l)

no_location_for_a_word : HasType (v_loc 5) m_word → ⊥
no_location_for_a_word d = elim d [ ]

of_no_variable : (v : Value) → HasType v (m_var 0) → ⊥
of_no_variable v d = elim d [ ]

no_closed_variable : IsClosed (m_var 0) → ⊥
no_closed_variable d = elim d [ ]

not_closed : IsClosed (m_pair m_word (m_var 0)) → ⊥
not_closed (closed_pair a b) = no_closed_variable b

pub values : TheValues
values = record {
  of_a_pair = is_pair (is_word (omega arith)) is_bool;
  last_location = is_loc (omega arith);
  no_word_beyond = no_word_beyond;
  no_location_for_a_word = no_location_for_a_word;
  of_no_variable = of_no_variable;
  closed = closed_pair closed_unit (closed_pair closed_bool closed_loc);
  not_closed = not_closed;
  closed_by_environment = refl;
  not_by_a_value = refl;
}

-- a block that stands where a test is met
block_if : (t : Bool) (b c : Block) → (if t then Some b else None) ≡ Some c → t ≡ true
block_if true b c e = refl
block_if false b c e = cc

none_is_some : {b : Block} → None ≡ Some b → ⊥
none_is_some e = cc

some_is_none : {b : Block} → Some b ≡ None → ⊥
some_is_none e = cc

-- a single block stands at its place alone
placed : (l m : ℕ) (b c : Block) → single_block l b m ≡ Some c → m ≡ l
placed l m b c e = let t : nat_eq m l ≡ true = block_if (nat_eq m l) b c e in grind (arith, nat_tests)

put_back_at : (t : Bool) (b : Block) → (if t then Some b else (if t then None else (if t then Some b else None))) ≡ (if t then Some b else None)
put_back_at true b = refl
put_back_at false b = refl

taken_at : (t : Bool) (b : Block) (x : Option Block) → x ≡ None → (if t then x else (if t then Some b else None)) ≡ None
taken_at true b x e = e
taken_at false b x e = refl

joined_at : (t s : Bool) (b c : Block)
    → (t ≡ true → s ≡ true → ⊥)
    → Joins (if s then Some c else (if t then Some b else None)) (if t then Some b else None) (if s then Some c else None)
joined_at true true b c h = absurd (h refl refl)
joined_at true false b c h = refl
joined_at false true b c h = refl
joined_at false false b c h = refl

apart : (l : ℕ) → nat_eq l 5 ≡ true → nat_eq l 6 ≡ true → ⊥
apart l p q = grind (arith, nat_tests)

pub heaps : TheHeaps
heaps = record {
  one_block = only_is_heap (single_is_only 5 (7 ∷ [])) (omega arith) (omega arith) (All-cons IsWord 7 [] (omega arith) (All-nil IsWord));
  no_block_at_null = λ h. omega (arith, h.above_zero 0 [] refl);
  no_block_beyond = λ h. omega (arith, h.at_words 18446744073709551616 [] refl);
  no_large_word = λ h. omega (arith, h.of_words 5 (18446744073709551616 ∷ []) refl 0 0 (omega arith));
  put_back = record { each = λ l. put_back_at (nat_eq l 5) (7 ∷ []) };
  taken_away = record { each = λ l. taken_at (nat_eq l 5) (7 ∷ []) None refl };
  two_blocks = record { each = λ l. joined_at (nat_eq l 5) (nat_eq l 6) (7 ∷ []) [] (apart l) };
  no_overlap = λ h j. j.each 5;
  no_part_left_out = λ j. none_is_some (j.each 6);
  nothing_more = λ j. some_is_none (j.each 5);
}

-- a heap with the blocks 5 and 9 has no location above 9
of_two_if : (t s : Bool) (c : Block) → (if t then Some [] else (if s then Some [] else None)) ≡ Some c → (t ≡ true) ⊎ (s ≡ true)
of_two_if true s c e = inl refl
of_two_if false true c e = inr refl
of_two_if false false c e = absurd (none_is_some e)

five_or_nine : (l : ℕ) → (nat_eq l 5 ≡ true) ⊎ (nat_eq l 9 ≡ true) → l ≤ 9
five_or_nine l (inl e) = grind (arith, nat_tests)
five_or_nine l (inr e) = grind (arith, nat_tests)

single_above : (l m : ℕ) → InUse (single_block l []) m → m ≤ l
single_above l m (c, e) = omega (arith, placed l m [] c e)

no_six : (g : ℕ) → g ≡ 6 → InUse (single_block 5 []) g ⊎ (g ≡ 0) → ⊥
no_six g s (inl (c, e)) = omega (arith, s, placed 5 g [] c e)
no_six g s (inr e) = omega (arith, s, e)

six_is_unused : IsGreatest (single_block 5 []) 6 → ⊥
six_is_unused g = no_six 6 refl g.in_use_or_zero

five_is_greatest : IsGreatest (single_block 5 []) 5
five_is_greatest = record { none_above = single_above 5; in_use_or_zero = inl ([], refl) }

zero_is_greatest : IsGreatest empty_heap 0
zero_is_greatest = record { none_above = λ l u. absurd (none_is_some (u.1)); in_use_or_zero = inr refl }

pub choices : TheChoices
choices = record {
  free_location = refl;
  used_location = refl;
  null = refl;
  greatest_of_none = zero_is_greatest;
  greatest_of_two = record { none_above = λ l u. five_or_nine l (of_two_if (nat_eq l 5) (nat_eq l 9) (u.0) (u.1)); in_use_or_zero = inl ([], refl) };
  no_unused_greatest = six_is_unused;
  not_above = λ g. omega (arith, g.none_above 5 ([], refl));
  shipped = record { greatest = 5; is_greatest = five_is_greatest; in_order = refl };
  shipped_from_none = record { greatest = 0; is_greatest = zero_is_greatest; in_order = refl };
}
