-- Each monotype of what a phrase or an item comes to is within its limit.
use Rattle.std.specs.Prelude.{ℕ, Ok, Option, Some, None}
use Rattle.htt_syntax.specs.Trees.{TyTree, TripleTree, TermTree, CompTree, FormulaTree}
use Rattle.theory_typing.specs.Contexts.{Context, Environment}
use Rattle.theory_typing.specs.Typing.{Mode}
use Rattle.theory_items.specs.Items.{ItemTree, Added, with_added}
use Rattle.theory_checking.specs.Results.{Typed, Computed, BodyComesTo}
use Rattle.theory_checking.specs.Checking.{TyComesTo, FormulaComesTo, TermComesTo, RunsTo}
use Rattle.theory_checking_narrow.specs.Narrow.{IsNarrowTy, IsNarrowTriple, IsNarrowTerm, IsNarrowComp, IsNarrowFormula}
use Rattle.theory_checking_items.specs.Items.{Checked, ItemComesTo}
use Rattle.theory_checking_narrow.specs.Narrow.{IsNarrowContext, AreNarrow, IsNarrowEnvironment, IsNarrowAdded}

-- a term, its type, and what it owes
pub record IsNarrowTyped (k : Typed) : Type 0 where
  pub ty : IsNarrowTy k.ty
  pub term : IsNarrowTerm k.term
  pub owed : AreNarrow k.owed

-- a computation and what it owes
pub record IsNarrowComputed (c : Computed) : Type 0 where
  pub comp : IsNarrowComp c.comp
  pub owed : AreNarrow c.owed

-- the type that is asked for, if any
abbrev pub IsNarrowAsked : Option TyTree → Type 0
IsNarrowAsked None = Unit {0}
IsNarrowAsked (Some ty) = IsNarrowTy ty

-- in an environment and a context that are so; what is to fit is to fit a type or triple that is so
pub record WhatComesIsNarrow : Type 0 where
  pub types : (env : Environment) (g : Context)
      → IsNarrowEnvironment env
      → IsNarrowContext g
      → (at : ℕ) (A R : TyTree)
      → TyComesTo env g at A (Ok R)
      → IsNarrowTy R
  pub formulas : (env : Environment) (g : Context)
      → IsNarrowEnvironment env
      → IsNarrowContext g
      → (at : ℕ) (F R : FormulaTree)
      → FormulaComesTo env g at F (Ok R)
      → IsNarrowFormula R
  pub terms : (env : Environment) (g : Context)
      → IsNarrowEnvironment env
      → IsNarrowContext g
      → (m : Mode) (at : ℕ) (M : TermTree) (asked : Option TyTree) (k : Typed)
      → IsNarrowAsked asked
      → TermComesTo env m g at M asked (Ok k)
      → IsNarrowTyped k
  pub bodies : (env : Environment) (g : Context)
      → IsNarrowEnvironment env
      → IsNarrowContext g
      → (at : ℕ) (spec : TripleTree) (E : CompTree) (c : Computed)
      → IsNarrowTriple spec
      → BodyComesTo g spec (λ mono state. RunsTo env g at mono state E) (Ok c)
      → IsNarrowComputed c

-- an item adds what is so, and the environment after it is so again
pub record CheckedItemsAreNarrow : Type 0 where
  pub added : (env : Environment) (g : Context)
      → IsNarrowEnvironment env
      → IsNarrowContext g
      → (at : ℕ) (item : ItemTree) (c : Checked)
      → ItemComesTo env g at item (Ok c)
      → IsNarrowAdded c.added
  pub owed : (env : Environment) (g : Context)
      → IsNarrowEnvironment env
      → IsNarrowContext g
      → (at : ℕ) (item : ItemTree) (c : Checked)
      → ItemComesTo env g at item (Ok c)
      → AreNarrow c.owed
  pub environment : (env : Environment) (added : Added)
      → IsNarrowEnvironment env
      → IsNarrowAdded added
      → IsNarrowEnvironment (with_added env added)
