-- The answer to whether an instruction passes a limit.
use Rattle.std.specs.Prelude.{ℕ, ◌<◌, length, Option, Some, None}
use Rattle.htt_syntax_words.specs.declared.words.Bound.{Bound}
use Rattle.word_loader_code.specs.declared.code.Code.{Code}
use Rattle.word_loader_code.specs.declared.code.Instr.{Instr}
use Rattle.word_loader_code.specs.declared.code.Instr.TheVariants.{Call, Tail}

-- a function that the instruction names is there
abbrev pub NamesFunction : Code → Instr → Type 0
NamesFunction code (Call g a d) = g < length code.functions
NamesFunction code (Tail g a) = g < length code.functions
NamesFunction code instr = Unit {0}

-- the limit that is passed with its total, or that none is
abbrev pub IsPassed : (Bound → ℕ → Type 0) → Option (Bound × ℕ) → Type 0
IsPassed Passes None = (bound : Bound) (total : ℕ) → Passes bound total → ⊥
IsPassed Passes (Some p) = Passes p.0 p.1
