-- A list of tokens has at most one right refusal: one place, and one reason.
use Rattle.std.specs.Prelude.{◌≡◌, List}
use Rattle.htt_lexer_tokens.specs.declared.tokens.Token.{Token}
use Rattle.theory_grammar.specs.Marks.{Mark}
use Rattle.theory_grammar.specs.Grammar.{mono, formula, proof}
use Rattle.theory_grammar.specs.Readers.{Halt}
use Rattle.theory_refusals.specs.Refusals.{Refusal, FileRefusal}

abbrev pub OneRefusal : {A : Type 0} → (A → List Mark) → Type 0
OneRefusal marks =
    (tokens : List Token) (halt other : Halt) → Refusal marks tokens halt → Refusal marks tokens other → halt ≡ other

abbrev pub MonoHasOneRefusal : Type 0
MonoHasOneRefusal = OneRefusal (mono 1)

abbrev pub FormulaHasOneRefusal : Type 0
FormulaHasOneRefusal = OneRefusal (formula 1)

abbrev pub ProofHasOneRefusal : Type 0
ProofHasOneRefusal = OneRefusal (proof 1)

abbrev pub FileHasOneRefusal : Type 0
FileHasOneRefusal =
    (tokens : List Token) (halt other : Halt) → FileRefusal tokens halt → FileRefusal tokens other → halt ≡ other
