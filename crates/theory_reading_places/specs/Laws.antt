-- What a reader answers hangs on what it has read and the next token alone, and where no limit is met
-- on no limit.
use Rattle.std.specs.Prelude.{◌≡◌, ℕ, ◌≤◌, List, ◌++◌, Ok, Err}
use Rattle.htt_lexer_tokens.specs.declared.tokens.Token.{Token}
use Rattle.theory_grammar.specs.Readers.{Reader, Why, expected, too_nested, too_long}
use Rattle.theory_grammar.specs.Phrases.{Deeper}
use Rattle.theory_grammar.specs.Reading.{deeper, file_on}
use Rattle.theory_reading.specs.Laws.{read_mono, read_formula, read_proof, read_file}
use Rattle.theory_reading_places.specs.Alike.{Alike}

-- the answer is the same whatever follows the next token
pub record Decides {A : Type 0} (reader : Reader A) : Type 0 where
  pub gives : (before rest other : List Token) (tree : A)
      → Alike rest other
      → reader (before ++ rest) ≡ Ok (tree, rest)
      → reader (before ++ other) ≡ Ok (tree, other)
  pub refuses : (before rest other : List Token) (why : Why)
      → Alike rest other
      → reader (before ++ rest) ≡ Err (record { why = why; rest = rest })
      → reader (before ++ other) ≡ Err (record { why = why; rest = other })

abbrev pub MonoDecides : Type 0
MonoDecides = Decides read_mono

abbrev pub FormulaDecides : Type 0
FormulaDecides = Decides read_formula

abbrev pub ProofDecides : Type 0
ProofDecides = Decides read_proof

abbrev pub FileDecides : Type 0
FileDecides = Decides read_file

-- the other reader gives each tree that the one gives, and refuses what the one finds unexpected
pub record KeepsReader {A : Type 0} (reader other : Reader A) : Type 0 where
  pub gives : (tokens : List Token) (tree : A) (rest : List Token)
      → reader tokens ≡ Ok (tree, rest)
      → other tokens ≡ Ok (tree, rest)
  pub refuses : (tokens rest : List Token)
      → reader tokens ≡ Err (record { why = expected; rest = rest })
      → other tokens ≡ Err (record { why = expected; rest = rest })

-- so do readers that may read deeper and further
abbrev pub GreaterKeep : {A : Type 0} → (Deeper → Reader A) → Type 0
GreaterKeep read =
    (further more n m : ℕ) → further ≤ more → n ≤ m → KeepsReader (read (deeper further n)) (read (deeper more m))

abbrev pub MonoKeeps : Type 0
MonoKeeps = GreaterKeep (λ d. d.mono)

abbrev pub FormulaKeeps : Type 0
FormulaKeeps = GreaterKeep (λ d. d.formula)

abbrev pub ProofKeeps : Type 0
ProofKeeps = GreaterKeep (λ d. d.proof)

-- and those that may read more declarations
abbrev pub FileKeeps : Type 0
FileKeeps =
    (count many : ℕ)
    → count ≤ many
    → (further more n m : ℕ)
    → further ≤ more
    → n ≤ m
    → KeepsReader (file_on (deeper further n) count) (file_on (deeper more m) many)

-- the other reader stops for this reason where the one does
abbrev pub KeepsStops : {A : Type 0} → Why → Reader A → Reader A → Type 0
KeepsStops why reader other =
    (tokens rest : List Token)
    → reader tokens ≡ Err (record { why = why; rest = rest })
    → other tokens ≡ Err (record { why = why; rest = rest })

-- a reader that may read further, but no deeper, stops at the same levels; one that may read deeper, but
-- no further, in the same chains
pub record OtherLimitKeeps {A : Type 0} (read : Deeper → Reader A) : Type 0 where
  pub levels : (further more n : ℕ)
      → further ≤ more
      → KeepsStops too_nested (read (deeper further n)) (read (deeper more n))
  pub chains : (further n m : ℕ) → n ≤ m → KeepsStops too_long (read (deeper further n)) (read (deeper further m))

abbrev pub MonoStopsStay : Type 0
MonoStopsStay = OtherLimitKeeps (λ d. d.mono)

abbrev pub FormulaStopsStay : Type 0
FormulaStopsStay = OtherLimitKeeps (λ d. d.formula)

abbrev pub ProofStopsStay : Type 0
ProofStopsStay = OtherLimitKeeps (λ d. d.proof)

abbrev pub FileStopsStay : Type 0
FileStopsStay = (count : ℕ) → OtherLimitKeeps (λ d. file_on d count)
