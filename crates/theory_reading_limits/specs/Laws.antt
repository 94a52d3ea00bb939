-- Where a reader stops at a limit and one with greater limits gives a tree, this is past the limit there.
use Rattle.std.specs.Prelude.{◌≡◌, ℕ, suc, ◌≤◌, List, Ok, Err}
use Rattle.htt_lexer_tokens.specs.declared.tokens.Token.{Token}
use Rattle.theory_grammar.specs.Marks.{Mark, Limits}
use Rattle.theory_grammar.specs.Grammar.{mono, formula, proof, file}
use Rattle.theory_grammar.specs.Readers.{Reader, Halt}
use Rattle.theory_grammar.specs.Phrases.{Deeper}
use Rattle.theory_grammar.specs.Reading.{deeper, file_on}
use Rattle.theory_reading_limits.specs.Limits.{IsLimit, IsPast}

-- so many levels, and so many operands after the first
abbrev pub limits_of : ℕ → ℕ → Limits
limits_of further n = record { nesting = n; chain = suc further }

abbrev pub StopsPast : {A : Type 0} → Limits → (A → List Mark) → Reader A → Reader A → Type 0
StopsPast {A = A} limits marks reader other =
    (tokens : List Token) (halt : Halt) (tree : A) (rest : List Token)
    → reader tokens ≡ Err halt
    → IsLimit halt.why
    → other tokens ≡ Ok (tree, rest)
    → IsPast limits marks tokens halt tree

abbrev pub StopsPastLimits : {A : Type 0} → (Deeper → Reader A) → (A → List Mark) → Type 0
StopsPastLimits read marks =
    (further more n m : ℕ)
    → further ≤ more
    → n ≤ m
    → StopsPast (limits_of further n) marks (read (deeper further n)) (read (deeper more m))

abbrev pub MonoStopsPast : Type 0
MonoStopsPast = StopsPastLimits (λ d. d.mono) (mono 1)

abbrev pub FormulaStopsPast : Type 0
FormulaStopsPast = StopsPastLimits (λ d. d.formula) (formula 1)

abbrev pub ProofStopsPast : Type 0
ProofStopsPast = StopsPastLimits (λ d. d.proof) (proof 1)

abbrev pub FileStopsPast : Type 0
FileStopsPast =
    (count many : ℕ)
    → count ≤ many
    → (further more n m : ℕ)
    → further ≤ more
    → n ≤ m
    → StopsPast (limits_of further n) file (file_on (deeper further n) count) (file_on (deeper more m) many)
