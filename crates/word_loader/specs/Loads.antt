-- What loading answers.
use Rattle.std.specs.Prelude.{◌≡◌, ℕ, ◌≤◌, Result, Ok, Err, List, length}
use Rattle.word_loader_code.specs.declared.code.Instr.{Instr}
use Rattle.word_loader_format.specs.Rows.{Test, checked, after_instr, IsRefused}
use Rattle.word_loader_format.specs.Reading.{instr_in}
use Rattle.word_loader.specs.declared.loader.LoadStop.{LoadStop}
use Rattle.word_loader.specs.declared.loader.LoadStop.TheVariants.{Bad, NoMemory}

-- a value exactly where all tests are met, and else the first one that isn't, unless memory runs out
abbrev pub Loads : {X : Type 0} → Result X LoadStop → List Test → (X → Type 0) → Type 0
Loads (Ok x) tests IsValue = (checked tests ≡ Ok tt) × IsValue x
Loads (Err (Bad at row)) tests IsValue = checked tests ≡ Err (record { at = at; row = row })
Loads (Err NoMemory) tests IsValue = Unit {0}

-- the instruction at a place, with the place after it
pub record IsInstrAt (file : List ℕ) (version at : ℕ) (x : Instr × ℕ) : Type 0 where
  pub instr : x.0 ≡ instr_in file version at
  pub next : x.1 ≡ after_instr file version at
  pub within : x.1 ≤ length file

-- bytes are refused at a place, by a row, only where the first test that isn't met is so
abbrev pub RefusesCode : List ℕ → LoadStop → Type 0
RefusesCode bytes (Bad at row) = IsRefused bytes at row
RefusesCode bytes NoMemory = Unit {0}
