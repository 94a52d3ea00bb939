-- Definitions that are typed, each with those before it alone.
use Rattle.std.specs.Prelude.{◌≡◌, ℕ, List, [], Some, take, slice_get}
use Rattle.htt_syntax.specs.Trees.{TyTree, TermTree}
use Rattle.theory_typing.specs.Contexts.{Environment, Obligation}
use Rattle.theory_typing.specs.Typing.{in_program, Fits}

-- the environment with the definitions before one alone
abbrev pub before_def : Environment → ℕ → Environment
before_def env number = record { vals = env.vals; defs = take number env.defs; recs = env.recs }

-- a definition's term is the canonical form of some term that fits its type
pub record IsDefined (env : Environment) (definition : TyTree × TermTree) : Type 0 where
  pub written : TermTree
  pub owed : List Obligation
  pub fits : Fits env in_program [] written (definition.0) (definition.1) owed

abbrev pub AreDefined : Environment → Type 0
AreDefined env =
    (number : ℕ) (definition : TyTree × TermTree)
    → slice_get env.defs number ≡ Some definition
    → IsDefined (before_def env number) definition
