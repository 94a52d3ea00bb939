-- A text stands for a tree, and for no other: positions and the monotypes of runs aside, which no text has.
use Rattle.std.specs.Prelude.{◌≡◌, ◌↔◌, ℕ, List}
use Rattle.htt_lexer_tokens.specs.declared.tokens.Token.{Token}
use Rattle.htt_syntax.specs.Trees.{TyTree, FormulaTree, ProofTree}
use Rattle.theory_grammar.specs.Marks.{Mark, Limits, AllWithin}
use Rattle.theory_grammar.specs.Grammar as grammar
use Rattle.theory_grammar.specs.Derivations.{IsType, IsFormula, IsProof}
use Rattle.theory_text_names.specs.Scopes.{Scope}
use Rattle.theory_text_bytes.specs.Texts.{Derives, IsTypeText, IsFormulaText, IsProofText}
use Rattle.theory_printing.specs.Pieces.{Printed, marks_of}
use Rattle.theory_printing_forms.specs.Said.{said_ty, said_formula, said_proof}

-- The text stands for some tree that says the same, and each tree for which it stands says the same. What it derives is
-- within limits exactly where the printed levels and operands are.
pub record StandsFor {Raw Tree : Type 0} (IsTree : List Token → Raw → Type 0) (spell : Raw → List Mark)
    (IsTextOf : Tree → Type 0) (said : Tree → Tree) (text : List ℕ) (printed : List Mark) (tree : Tree) : Type 0 where
  pub read : Tree
  pub is_text : IsTextOf read
  pub same : said read ≡ said tree
  pub no_other : (other : Tree) → IsTextOf other → said other ≡ said tree
  pub within : (limits : Limits) (derived : Raw)
      → Derives IsTree text derived
      → AllWithin limits printed ↔ AllWithin limits (spell derived)

abbrev pub TypeStands : Scope → Printed → TyTree → Type 0
TypeStands r p A = StandsFor IsType (grammar.ty 1) (IsTypeText r) said_ty r.text (marks_of 1 p) A

abbrev pub FormulaStands : Scope → Printed → FormulaTree → Type 0
FormulaStands r p F = StandsFor IsFormula (grammar.formula 1) (IsFormulaText r) said_formula r.text (marks_of 1 p) F

abbrev pub ProofStands : Scope → Printed → ProofTree → Type 0
ProofStands r p q = StandsFor IsProof (grammar.proof 1) (IsProofText r) said_proof r.text (marks_of 1 p) q
