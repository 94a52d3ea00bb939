-- What checking gives is what the typing rules derive.
use Rattle.std.specs.Prelude.{ℕ, Ok, Some, None}
use Rattle.htt_syntax.specs.Trees.{TyTree, TripleTree, TermTree, CompTree, FormulaTree}
use Rattle.theory_typing.specs.Contexts.{Context, Environment}
use Rattle.theory_typing.specs.Typing.{Mode, FormsTy, FormsFormula, Gives, Fits, FitsBody}
use Rattle.theory_checking.specs.Results.{Typed, Computed, BodyComesTo}
use Rattle.theory_checking.specs.Checking.{TyComesTo, FormulaComesTo, TermComesTo, RunsTo}

-- what a phrase gives is derived: its type, its canonical form, and what it owes, in order
pub record WhatComesIsDerived : Type 0 where
  pub types : (env : Environment) (g : Context) (at : ℕ) (A R : TyTree)
      → TyComesTo env g at A (Ok R)
      → FormsTy env g A R
  pub formulas : (env : Environment) (g : Context) (at : ℕ) (F R : FormulaTree)
      → FormulaComesTo env g at F (Ok R)
      → FormsFormula env g F R
  pub given : (env : Environment) (m : Mode) (g : Context) (at : ℕ) (M : TermTree) (k : Typed)
      → TermComesTo env m g at M None (Ok k)
      → Gives env m g M k.ty k.term k.owed
  pub fitting : (env : Environment) (m : Mode) (g : Context) (at : ℕ) (M : TermTree) (A : TyTree) (k : Typed)
      → TermComesTo env m g at M (Some A) (Ok k)
      → Fits env m g M A k.term k.owed
  pub bodies : (env : Environment) (g : Context) (at : ℕ) (spec : TripleTree) (E : CompTree) (c : Computed)
      → BodyComesTo g spec (λ mono state. RunsTo env g at mono state E) (Ok c)
      → FitsBody env g E spec c.comp c.owed
