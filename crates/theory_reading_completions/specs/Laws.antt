-- What is said to begin a phrase begins one.
use Rattle.std.specs.Prelude.{◌≡◌, ℕ, List, ◌∷◌, Bool, true}
use Rattle.htt_lexer_tokens.specs.declared.tokens.Kind.{Kind}
use Rattle.htt_lexer_tokens.specs.declared.tokens.Token.{Token}
use Rattle.theory_grammar.specs.Marks.{Mark, AllFit}
use Rattle.theory_grammar.specs.Grammar.{mono, ty, term, comp, formula, proof, decl}
use Rattle.theory_grammar.specs.Beginnings.{begins_mono, begins_ty, begins_term, begins_comp, begins_formula}
use Rattle.theory_grammar.specs.Beginnings.{begins_proof, begins_decl}

-- a tree whose first token is this one
pub record Started {A : Type 0} (marks : A → List Mark) (token : Token) : Type 0 where
  pub tree : A
  pub more : List Token
  pub fit : AllFit (token ∷ more) (marks tree)

abbrev pub IsStart : {A : Type 0} → (Kind → Bool) → (A → List Mark) → Type 0
IsStart begins marks = (token : Token) → begins token.kind ≡ true → Started marks token

abbrev pub MonoStarts : Type 0
MonoStarts = (level : ℕ) → IsStart begins_mono (mono level)

abbrev pub TypeStarts : Type 0
TypeStarts = (level : ℕ) → IsStart begins_ty (ty level)

abbrev pub TermStarts : Type 0
TermStarts = (level : ℕ) → IsStart begins_term (term level)

abbrev pub CompStarts : Type 0
CompStarts = (level : ℕ) → IsStart begins_comp (comp level)

abbrev pub FormulaStarts : Type 0
FormulaStarts = (level : ℕ) → IsStart begins_formula (formula level)

abbrev pub ProofStarts : Type 0
ProofStarts = (level : ℕ) → IsStart begins_proof (proof level)

abbrev pub DeclStarts : Type 0
DeclStarts = IsStart begins_decl decl
