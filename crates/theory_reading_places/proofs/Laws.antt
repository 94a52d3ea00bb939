-- A reader decides by the next token, and greater limits keep its answers.
use Rattle.std.proofs.Common.{◌≡◌, ℕ, ◌≤◌, List, ◌++◌, length, refl, sym, ◌∙◌, subst, arith}
use Rattle.std.specs.Prelude.{Result, Ok, Err}
use Rattle.std.proofs.lemmas.List.{append_cancel_right}
use Rattle.htt_lexer_tokens.specs.declared.tokens.Token.{Token}
use Rattle.theory_grammar.specs.Readers.{Reader, Halt, Why, expected, too_nested, too_long}
use Rattle.theory_grammar.specs.Phrases.{Deeper}
use Rattle.theory_grammar.specs.Reading.{deeper, file_on}
use Rattle.theory_reading.specs.Laws.{outermost}
use Rattle.theory_reading_places.specs.Alike.{Alike}
use Rattle.theory_reading_places.specs.Laws.{Decides, KeepsReader, KeepsStops, OtherLimitKeeps, MonoDecides, FormulaDecides, ProofDecides, FileDecides}
use Rattle.theory_reading_places.specs.Laws.{MonoKeeps, FormulaKeeps, ProofKeeps, FileKeeps, MonoStopsStay, FormulaStopsStay, ProofStopsStay, FileStopsStay}
use Rattle.theory_reading_places.proofs.Follows.{Greater, in_none, in_chains, in_levels, in_all, Kept, Claimed, Answers, Follows, rest_of, with_rest}
use Rattle.theory_reading_places.proofs.Follows.{alike_self}
use Rattle.theory_reading_places.proofs.Words.{Follow, chain_same}
use Rattle.theory_reading_places.proofs.Files.{follow_limits, follow_self, follow_greater, file_follows}

pub kept_same : (why : Why) → Kept in_none why
kept_same expected = tt
kept_same _ = tt

-- the reader that follows answers the same to whatever begins alike
pub answers_alike : {A : Type 0} {b : Greater} {m : ℕ} {q : Reader A} {us : List Token} {o : Result (A × List Token) Halt}
    → Answers b m q us o
    → (before other : List Token)
    → us ≡ before ++ rest_of o
    → Alike (rest_of o) other
    → length (before ++ other) ≤ m
    → Claimed b o
    → q (before ++ other) ≡ with_rest o other
answers_alike {m = m} {q = q} {o = o} got before other parts alike fits claimed =
    let same : got.before ≡ before = append_cancel_right got.before before (rest_of o) (sym got.parts ∙ parts) in
    subst (λ ts. q (ts ++ other) ≡ with_rest o other) same (got.same other alike (subst (λ ts. length (ts ++ other) ≤ m) (sym same) fits) claimed)

answers_of : {A : Type 0} {b : Greater} {r q : Reader A}
    → ((n m : ℕ) → Follows b n m r q)
    → (m : ℕ) (us : List Token) (o : Result (A × List Token) Halt)
    → r us ≡ o
    → Answers b m q us o
answers_of {b = b} {q = q} follows m us o e = subst (λ p. Answers b m q us p) e ((follows (length us) m).answers us (omega arith))

decides : {A : Type 0} {r : Reader A} → ((n m : ℕ) → Follows in_none n m r r) → Decides r
decides follows = record {
  gives = λ before rest other tree alike e.
      answers_alike (answers_of follows (length (before ++ other)) (before ++ rest) (Ok (tree, rest)) e) before other refl alike
      (omega arith) tt;
  refuses = λ before rest other why alike e.
      answers_alike (answers_of follows (length (before ++ other)) (before ++ rest) (Err (record { why = why; rest = rest })) e) before
      other refl alike (omega arith) (kept_same why);
}

same_again : {A : Type 0} {b : Greater} {q : Reader A} {us : List Token} {o : Result (A × List Token) Halt}
    → Answers b (length us) q us o
    → Claimed b o
    → q us ≡ with_rest o (rest_of o)
same_again {q = q} {us = us} {o = o} got claimed =
    subst (λ ts. q ts ≡ with_rest o (rest_of o)) (sym got.parts)
    (got.same (rest_of o) (alike_self (rest_of o)) (subst (λ ts. length ts ≤ length us) got.parts (omega arith)) claimed)

keeps : {A : Type 0} {r q : Reader A} → ((n m : ℕ) → Follows in_all n m r q) → KeepsReader r q
keeps follows = record {
  gives = λ tokens tree rest e. same_again (answers_of follows (length tokens) tokens (Ok (tree, rest)) e) tt;
  refuses = λ tokens rest e. same_again (answers_of follows (length tokens) tokens (Err (record { why = expected; rest = rest })) e) tt;
}

outer : Follow in_none outermost outermost
outer = follow_self 63 256

pub mono_decides : MonoDecides
mono_decides = decides (λ n m. outer.mono)

pub formula_decides : FormulaDecides
formula_decides = decides (λ n m. outer.formula)

pub proof_decides : ProofDecides
proof_decides = decides (λ n m. outer.proof)

file_follows_self : (count : ℕ) → Decides (file_on outermost count)
file_follows_self count = decides (λ n m. file_follows outermost outermost outer count count refl)

pub file_decides : FileDecides
file_decides = file_follows_self 10_000

pub mono_keeps : MonoKeeps
mono_keeps further more n m wide deep = keeps (λ i j. (follow_greater further more n m wide deep).mono)

pub formula_keeps : FormulaKeeps
formula_keeps further more n m wide deep = keeps (λ i j. (follow_greater further more n m wide deep).formula)

pub proof_keeps : ProofKeeps
proof_keeps further more n m wide deep = keeps (λ i j. (follow_greater further more n m wide deep).proof)

pub file_keeps : FileKeeps
file_keeps count many few further more n m wide deep =
    keeps (λ i j. file_follows (deeper further n) (deeper more m) (follow_greater further more n m wide deep) count many few)

-- ---- where one limit is greater, a stop at the other stays

keeps_stops : {A : Type 0} {b : Greater} {r q : Reader A} (why : Why) → Kept b why → ((n m : ℕ) → Follows b n m r q) → KeepsStops why r q
keeps_stops why kept follows tokens rest e = same_again (answers_of follows (length tokens) tokens (Err (record { why = why; rest = rest })) e) kept

other_limit : {A : Type 0} (read : Deeper → Reader A)
    → ((b : Greater) (d e : Deeper) → Follow b d e → (n m : ℕ) → Follows b n m (read d) (read e))
    → OtherLimitKeeps read
other_limit read follows = record {
  levels = λ further more n wide.
      keeps_stops {b = in_chains} too_nested tt
      (follows in_chains (deeper further n) (deeper more n) (follow_limits in_chains further more n n wide refl));
  chains = λ further n m deep.
      keeps_stops {b = in_levels} too_long tt
      (follows in_levels (deeper further n) (deeper further m) (follow_limits in_levels further further n m refl deep));
}

pub mono_stops_stay : MonoStopsStay
mono_stops_stay = other_limit (λ d. d.mono) (λ b d e follow n m. follow.mono)

pub formula_stops_stay : FormulaStopsStay
formula_stops_stay = other_limit (λ d. d.formula) (λ b d e follow n m. follow.formula)

pub proof_stops_stay : ProofStopsStay
proof_stops_stay = other_limit (λ d. d.proof) (λ b d e follow n m. follow.proof)

pub file_stops_stay : FileStopsStay
file_stops_stay count = other_limit (λ d. file_on d count) (λ b d e follow n m. file_follows d e follow count count (chain_same b count))
