-- The tokens that are printed of a type or a formula derive a tree of the grammar, which comes to what was printed.
use Rattle.std.specs.Prelude.{ℕ, List}
use Rattle.htt_syntax.specs.Trees.{TyTree, FormulaTree}
use Rattle.theory_text_names.specs.Scopes.{Scope}
use Rattle.theory_printing.specs.Names.{PrintScope}
use Rattle.theory_printing.specs.Phrases.{ty, formula}
use Rattle.theory_printing_conditions.specs.Conditions.{HasTextTy, HasTextFormula}
use Rattle.theory_printing_tokens.specs.Spoken.{Spoken}
use Rattle.theory_printing_names.specs.Scopes.{HasPrintedNames}
use Rattle.theory_printing_forms.specs.Said.{said_ty, said_formula}
use Rattle.theory_printing_forms.specs.Readings.{ReadsTy, ReadsFormula}

pub record PrintedPhrases : Type 0 where
  pub types : (counts : List ℕ) (s : PrintScope) (r : Scope) (A : TyTree) (l : ℕ)
      → HasPrintedNames s counts r
      → HasTextTy counts s A
      → (v : Spoken r.text (ty s A))
      → ReadsTy r l (ty s A) v (said_ty A)
  pub formulas : (counts : List ℕ) (s : PrintScope) (r : Scope) (F : FormulaTree) (l : ℕ)
      → HasPrintedNames s counts r
      → HasTextFormula counts s F
      → (v : Spoken r.text (formula s F))
      → ReadsFormula r l (formula s F) v (said_formula F)
