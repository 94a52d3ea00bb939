-- A phrase that is the whole list of tokens.
use Rattle.std.proofs.Common.{◌≡◌, ℕ, List, [], ◌∷◌, refl, ◌∙◌, ap}
use Rattle.std.specs.Prelude.{Ok, Err}
use Rattle.htt_lexer_tokens.specs.declared.tokens.Token.{Token}
use Rattle.theory_grammar.specs.Marks.{Mark}
use Rattle.theory_grammar.specs.Readers.{Reader, Halt, expected}
use Rattle.theory_refusals.specs.Refusals.{Refusal}
use Rattle.theory_reading.specs.Laws.{read_file}
use Rattle.theory_refusals.specs.Laws.{to_end}
use Rattle.theory_refusals.proofs.Files.{file_is_refused}
use Rattle.htt_parser_words.specs.declared.cursor.Reason.TheVariants as reasons
use Rattle.htt_parser_words.specs.declared.cursor.Halted.{Halted}
use Rattle.htt_parser_words.specs.declared.cursor.Halted.TheVariants as halts
use Rattle.htt_parser_words.specs.Results.{StopsAs}
use Rattle.htt_parser.specs.Refusals.{RefusesTokens, RefusesFile, stop_of}
use Rattle.htt_parser.specs.declared.stops.ParseStop.TheVariants as stops

-- that what a reader refuses before the end is refused rightly
abbrev pub IsRefused : {A : Type 0} → (A → List Mark) → Reader A → Type 0
IsRefused marks read = (tokens : List Token) (halt : Halt) → to_end (read tokens) ≡ Err halt → Refusal marks tokens halt

pub to_the_end : {A : Type 0} (read : Reader A) (tokens rest : List Token) (x : A) → read tokens ≡ Ok (x, rest) → rest ≡ [] → read tokens ≡ Ok (x, [])
to_the_end read tokens rest x is end = is ∙ ap (λ us. Ok (x, us)) end

-- a token behind a whole phrase
pub goes_on : {A : Type 0} (marks : A → List Mark) (read : Reader A) (law : IsRefused marks read) (length : ℕ)
    (tokens rest others : List Token) (t : Token) (x : A)
    → read tokens ≡ Ok (x, rest)
    → rest ≡ t ∷ others
    → RefusesTokens marks length tokens (stops.Expected t.from)
goes_on marks read law length tokens rest others t x is more =
    let halt : Halt = record { why = expected; rest = t ∷ others } in
    (halt, law tokens halt (ap to_end (is ∙ ap (λ us. Ok (x, us)) more)), refl)

pub refused : {A : Type 0} (marks : A → List Mark) (read : Reader A) (law : IsRefused marks read) (tokens : List Token) (length : ℕ)
    (halted : Halted)
    → StopsAs tokens halted (read tokens)
    → RefusesTokens marks length tokens (stop_of length tokens halted)
refused marks read law tokens length halts.NoMemory h = tt
refused marks read law tokens length (halts.At reasons.Expected place) h = (_, law tokens _ (ap to_end h), refl)
refused marks read law tokens length (halts.At reasons.TooNested place) h = (_, law tokens _ (ap to_end h), refl)
refused marks read law tokens length (halts.At reasons.TooLong place) h = (_, law tokens _ (ap to_end h), refl)
refused marks read law tokens length (halts.At reasons.TooMany place) h = (_, law tokens _ (ap to_end h), refl)

-- ---- files

pub refused_file : (tokens : List Token) (length : ℕ) (halted : Halted)
    → StopsAs tokens halted (read_file tokens)
    → RefusesFile length tokens (stop_of length tokens halted)
refused_file tokens length halts.NoMemory h = tt
refused_file tokens length (halts.At reasons.Expected place) h = (_, h, file_is_refused tokens _ h, refl)
refused_file tokens length (halts.At reasons.TooNested place) h = (_, h, file_is_refused tokens _ h, refl)
refused_file tokens length (halts.At reasons.TooLong place) h = (_, h, file_is_refused tokens _ h, refl)
refused_file tokens length (halts.At reasons.TooMany place) h = (_, h, file_is_refused tokens _ h, refl)
