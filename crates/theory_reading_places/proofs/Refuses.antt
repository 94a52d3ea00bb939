-- A reader refuses, as unexpected, a first token with which its phrase can't begin. How this goes from
-- the parts of a phrase to the phrase.
use Rattle.std.proofs.Common.{◌≡◌, ℕ, List, [], ◌∷◌, length, refl, sym, ◌∙◌, ap}
use Rattle.std.specs.Prelude.{Bool, true, false, Option, None, Err, cond}
use Rattle.htt_lexer_tokens.specs.declared.tokens.Kind.{Kind}
use Rattle.htt_lexer_tokens.specs.declared.tokens.Token.{Token}
use Rattle.htt_parser_trees.specs.declared.place.Span.{Span}
use Rattle.theory_grammar.specs.Readers.{Reader, Why, expected, then_read, ◌>>=◌, stop, refused, refuse, chosen, either, first_is, if_first, measured}
use Rattle.theory_reading_places.specs.Alike.{Alike}
use Rattle.theory_reading_places.proofs.Follows.{Greater, Kept, Follows}

pub record Refuses {A : Type 0} (begins : Kind → Bool) (reader : Reader A) : Type 0 where
  pub refuses : (ts : List Token) → first_is begins ts ≡ false → reader ts ≡ Err (record { why = expected; rest = ts })

pub refuses_stop : {A : Type 0} (begins : Kind → Bool) → Refuses {A = A} begins stop
unfolding stop
refuses_stop begins = record { refuses = λ ts h. refl }

pub refuses_refuse : {A : Type 0} (why : Why) (begins : Kind → Bool) → Refuses {A = A} begins (refuse why begins)
unfolding refuse
refuses_refuse {A = A} why begins = record { refuses = by_first }
  where
    by_first : (ts : List Token) → first_is begins ts ≡ false → refuse {A = A} why begins ts ≡ Err (record { why = expected; rest = ts })
    by_first [] h = refl
    by_first (t ∷ ts) h = ap (λ c. Err (record { why = cond c why expected; rest = t ∷ ts })) h

pub refuses_then : {A B : Type 0} {begins : Kind → Bool} {r : Reader A} (k : A → Reader B) → Refuses begins r → Refuses begins (r >>= k)
unfolding ◌>>=◌
refuses_then k first = record { refuses = λ ts h. ap (λ o. then_read o k) (first.refuses ts h) }

pub refuses_either : {A : Type 0} {begins : Kind → Bool} {otherwise : Reader A} (choose : Kind → Option (Span → Reader A))
    → ((k : Kind) → begins k ≡ false → choose k ≡ None)
    → Refuses begins otherwise
    → Refuses begins (either choose otherwise)
unfolding either
refuses_either {A = A} {begins = begins} {otherwise = otherwise} choose none rest = record { refuses = by_first }
  where
    by_first : (ts : List Token) → first_is begins ts ≡ false → either choose otherwise ts ≡ Err (record { why = expected; rest = ts })
    by_first [] h = rest.refuses [] h
    by_first (t ∷ ts) h = ap (λ p. chosen p otherwise t ts) (none t.kind h) ∙ rest.refuses (t ∷ ts) h

-- what begins with fewer kinds
pub refuses_wider : {A : Type 0} {begins others : Kind → Bool} {r : Reader A}
    → ((k : Kind) → others k ≡ false → begins k ≡ false)
    → Refuses begins r
    → Refuses others r
refuses_wider {A = A} {begins = begins} {others = others} {r = r} wider rest = record { refuses = by_first }
  where
    by_first : (ts : List Token) → first_is others ts ≡ false → r ts ≡ Err (record { why = expected; rest = ts })
    by_first [] h = rest.refuses [] refl
    by_first (t ∷ ts) h = rest.refuses (t ∷ ts) (wider t.kind h)

pub refuses_first : {A : Type 0} {begins : Kind → Bool} {other : Reader A} (test : Kind → Bool) (one : Reader A)
    → ((k : Kind) → begins k ≡ false → test k ≡ false)
    → Refuses begins other
    → Refuses begins (if_first test one other)
unfolding if_first
refuses_first {A = A} {begins = begins} {other = other} test one not rest = record { refuses = by_first }
  where
    by_first : (ts : List Token) → first_is begins ts ≡ false → if_first test one other ts ≡ Err (record { why = expected; rest = ts })
    by_first [] h = rest.refuses [] h
    by_first (t ∷ ts) h = ap (λ c. cond c (one (t ∷ ts)) (other (t ∷ ts))) (not t.kind h) ∙ rest.refuses (t ∷ ts) h

pub refuses_measured : {A : Type 0} {begins : Kind → Bool} {r : ℕ → Reader A} → ((n : ℕ) → Refuses begins (r n)) → Refuses begins (measured r)
unfolding measured
refuses_measured each = record { refuses = λ ts h. (each (length ts)).refuses ts h }

-- a reader that refuses at a limit, and one that reads on
pub follow_refused : {A : Type 0} {b : Greater} {n m : ℕ} {q : Reader A} (why : Why) (begins : Kind → Bool)
    → (Kept b why → ⊥)
    → Refuses begins q
    → Follows b n m (refuse why begins) q
unfolding refuse
follow_refused {A = A} {b = b} {n = n} {m = m} {q = q} why begins not_kept refuses = record {
  answers = λ us short. record { before = []; parts = refl; same = λ other alike fits claimed. by_first us other alike claimed };
}
  where
    by_test : (c : Bool) (other : List Token)
        → first_is begins other ≡ c
        → Kept b (cond c why expected)
        → q other ≡ Err (record { why = cond c why expected; rest = other })
    by_test true other e kept = absurd (not_kept kept)
    by_test false other e kept = refuses.refuses other e

    by_first : (us other : List Token) → Alike us other → Kept b (refused why begins us) → q other ≡ Err (record { why = refused why begins us; rest = other })
    by_first [] [] alike kept = refuses.refuses [] refl
    by_first [] (u ∷ other) alike kept = absurd alike
    by_first (t ∷ us) [] alike kept = absurd alike
    by_first (t ∷ us) (u ∷ other) alike kept = by_test (begins t.kind) (u ∷ other) (ap (λ x. begins x.kind) (sym alike)) kept
