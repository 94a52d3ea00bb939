-- The laws of checking.
use Rattle.std.specs.Prelude.{◌≡◌, ℕ, Result, Option}
use Rattle.htt_syntax.specs.Trees.{TyTree, TripleTree, TermTree, CompTree, FormulaTree}
use Rattle.theory_typing.specs.Contexts.{Context, Environment}
use Rattle.theory_typing.specs.Typing.{Mode}
use Rattle.theory_checking.specs.Stops.{Stop}
use Rattle.theory_checking.specs.Results.{BodyComesTo}
use Rattle.theory_checking.specs.Checking.{TyComesTo, FormulaComesTo, TermComesTo, RunsTo}

-- what comes to one result at most
abbrev pub Once : {A : Type 0} → (Result A Stop → Type 0) → Type 0
Once {A = A} R = (r q : Result A Stop) → R r → R q → r ≡ q

-- a phrase comes to one thing at most: what it gives, or one stop
pub record CheckingComesToOne : Type 0 where
  pub types : (env : Environment) (g : Context) (at : ℕ) (A : TyTree) → Once (TyComesTo env g at A)
  pub formulas : (env : Environment) (g : Context) (at : ℕ) (F : FormulaTree) → Once (FormulaComesTo env g at F)
  pub terms : (env : Environment) (m : Mode) (g : Context) (at : ℕ) (M : TermTree) (asked : Option TyTree)
      → Once (TermComesTo env m g at M asked)
  pub bodies : (env : Environment) (g : Context) (at : ℕ) (spec : TripleTree) (E : CompTree)
      → Once (BodyComesTo g spec (λ mono state. RunsTo env g at mono state E))
