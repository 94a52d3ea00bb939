-- Which refusals are right, and where they stand in the text.
use Rattle.std.specs.Prelude.{◌≡◌, ℕ, List, [], ◌∷◌, drop, Err}
use Rattle.htt_lexer_tokens.specs.declared.tokens.Token.{Token}
use Rattle.theory_grammar.specs.Marks.{Mark}
use Rattle.theory_grammar.specs.Readers.{Why, expected, too_nested, too_long, too_many, Halt}
use Rattle.theory_reading.specs.Laws.{read_file}
use Rattle.theory_refusals.specs.Refusals.{Refusal, FileRefusal}
use Rattle.htt_parser_words.specs.declared.cursor.Halted.{Halted}
use Rattle.htt_parser_words.specs.declared.cursor.Halted.TheVariants as halts
use Rattle.htt_parser_words.specs.Results.{why_of}
use Rattle.htt_parser.specs.declared.stops.ParseStop.{ParseStop}
use Rattle.htt_parser.specs.declared.stops.ParseStop.TheVariants as stops

-- the first byte of the first token, or the length of the text
abbrev pub first_byte : ℕ → List Token → ℕ
first_byte length [] = length
first_byte length (token ∷ tokens) = token.from

abbrev pub stop_for : Why → ℕ → ParseStop
stop_for expected at = stops.Expected at
stop_for too_nested at = stops.TooNested at
stop_for too_long at = stops.TooLongChain at
stop_for too_many at = stops.TooMany at

-- a refusal as it is answered, in a text of this length
abbrev pub stop_at : ℕ → Halt → ParseStop
stop_at length halt = stop_for halt.why (first_byte length halt.rest)

abbrev pub stop_of : ℕ → List Token → Halted → ParseStop
stop_of length tokens (halts.At reason place) =
    stop_at length (record { why = why_of reason; rest = drop place tokens })
stop_of length tokens halts.NoMemory = stops.NoMemory

-- a right refusal of these tokens; want of memory is free
abbrev pub RefusesTokens : {A : Type 0} → (A → List Mark) → ℕ → List Token → ParseStop → Type 0
RefusesTokens marks length tokens stops.NoMemory = Unit {0}
RefusesTokens marks length tokens stop = (halt : Halt) × Refusal marks tokens halt × (stop ≡ stop_at length halt)

-- the same for a file, and that it is the written reader's
abbrev pub RefusesFile : ℕ → List Token → ParseStop → Type 0
RefusesFile length tokens stops.NoMemory = Unit {0}
RefusesFile length tokens stop =
    (halt : Halt) × (read_file tokens ≡ Err halt) × FileRefusal tokens halt × (stop ≡ stop_at length halt)
