-- Marks in which no further operand is deeper than all marks before it, and how they are put together.
use Rattle.std.proofs.Common.{◌≡◌, ℕ, ◌<◌, ◌≤◌, List, [], ◌∷◌, ◌++◌, subst, arith}
use Rattle.std.specs.Prelude.{Bool}
use Rattle.htt_lexer_tokens.specs.declared.tokens.Kind.{Kind}
use Rattle.theory_grammar.specs.Marks.{Mark, ◌⨟◌, numbered, each_after, separated}
use Rattle.theory_grammar.proofs.Spells.{Opens}
use Rattle.theory_grammar_chains.specs.Operands.{AtMost}

-- a further operand has at most this level, where the marks before it have
abbrev pub IsEven : ℕ → List Mark → Type 0
IsEven n [] = Unit {0}
IsEven n (m ∷ ms) = (1 < m.operand → m.level ≤ n) × (m.level ≤ n → IsEven n ms)

pub record Even (n : ℕ) (marks : List Mark) : Type 0 where
  pub even : IsEven n marks

joined : (n : ℕ) (a b : List Mark) → IsEven n a → (AtMost n a → IsEven n b) → IsEven n (a ⨟ b)
unfolding ◌⨟◌
joined n [] b first rest = rest tt
joined n (m ∷ a) b first rest = (first.0, λ low. joined n a b (first.1 low) (λ most. rest (low, most)))

pub none : {n : ℕ} → Even n []
none = record { even = tt }

no_further : (n operand level : ℕ) → operand ≡ 1 → 1 < operand → level ≤ n
no_further n operand level is more = absurd (let no : ⊥ = omega (arith, is, more) in no)

pub one : {n : ℕ} {ms : List Mark} (m : Mark) → m.operand ≡ 1 → Even n ms → Even n ((m ∷ []) ⨟ ms)
unfolding ◌⨟◌
one {n = n} m is rest = record { even = (no_further n m.operand m.level is, λ low. rest.even) }

pub alone : {n : ℕ} {m : Mark} → m.operand ≡ 1 → Even n (m ∷ [])
alone {n = n} {m = m} is = record { even = (no_further n m.operand m.level is, λ low. tt) }

pub sub : {n : ℕ} {a b : List Mark} → Even n a → Even n b → Even n (a ⨟ b)
sub {n = n} {a = a} {b = b} first rest = record { even = joined n a b first.even (λ most. rest.even) }

-- what follows knows the level of what stands before it
pub behind : {n : ℕ} {a b : List Mark} → Even n a → (AtMost n a → Even n b) → Even n (a ⨟ b)
behind {n = n} {a = a} {b = b} first rest = record { even = joined n a b first.even (λ most. (rest most).even) }

-- ---- operands

pub level_of : {n l : ℕ} (begins : Kind → Bool) (a : List Mark) → Opens begins l a → AtMost n a → l ≤ n
level_of begins [] opens most = absurd opens
level_of {n = n} begins (m ∷ a) opens most = subst (λ k. k ≤ n) opens.1 most.0

again_of : (n l k : ℕ) (begins : Kind → Bool) (a : List Mark) → Opens begins l a → l ≤ n → IsEven n a → IsEven n (numbered k a)
again_of n l k begins [] opens low even = absurd opens
again_of n l k begins (m ∷ a) opens low even =
    (λ more. subst (λ j. j ≤ n) (let here = opens.1 in cc) low, λ _. even.1 (subst (λ j. j ≤ n) (let here = opens.1 in cc) low))

-- a phrase of this level as a further operand
pub again : {n l : ℕ} {a : List Mark} (k : ℕ) (begins : Kind → Bool) → Opens begins l a → l ≤ n → Even n a → Even n (numbered k a)
again {n = n} {l = l} {a = a} k begins opens low phrase = record { even = again_of n l k begins a opens low phrase.even }

-- ---- lists

pub each_even : {A : Type 0} {n : ℕ} {marks : A → List Mark} (m : Mark)
    → m.operand ≡ 1
    → ((x : A) → Even n (marks x))
    → (xs : List A)
    → Even n (each_after (m ∷ []) marks xs)
unfolding each_after
each_even m is item [] = none
each_even m is item (x ∷ xs) = one m is (sub (item x) (each_even m is item xs))

pub separated_even : {A : Type 0} {n : ℕ} {marks : A → List Mark} (m : Mark)
    → m.operand ≡ 1
    → ((x : A) → Even n (marks x))
    → (xs : List A)
    → Even n (separated (m ∷ []) marks xs)
separated_even m is item [] = none
separated_even m is item (x ∷ xs) = sub (item x) (each_even m is item xs)

-- ---- so a further operand is no deeper

pub no_deeper : (n : ℕ) (first others : List Mark) (m : Mark) → IsEven n (first ++ (m ∷ others)) → AtMost n first → 1 < m.operand → m.level ≤ n
no_deeper n [] others m even most more = even.0 more
no_deeper n (f ∷ first) others m even most more = no_deeper n first others m (even.1 most.0) most.1 more
