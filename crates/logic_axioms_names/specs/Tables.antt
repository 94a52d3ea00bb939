-- Looking a text up in a table.
use Rattle.std.specs.Prelude.{ℕ, List, [], ◌∷◌, Option, Some, None, if◌then◌else◌}
use Rattle.std.specs.Str.{bytes_eq}
use denote.Ref.{Bor}
use Rattle.logic_axioms_names.specs.declared.axiom.Axiom.{Axiom}

-- a row of the code's table: the bytes of a name, and its axiom
abbrev pub spelled : Bor (List ℕ) × Axiom → List ℕ × Axiom
spelled row = (row.0.now, row.1)

-- what the table has for this text, if anything
abbrev pub lookup : List (List ℕ × Axiom) → List ℕ → Option Axiom
lookup [] text = None
lookup (row ∷ rows) text = if bytes_eq text row.0 then Some row.1 else lookup rows text
