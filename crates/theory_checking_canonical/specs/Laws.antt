-- What a phrase or an item comes to is canonical, and what it owes is within the limits.
use Rattle.std.specs.Prelude.{ℕ, ◌≤◌, [], length, All, Ok, Option, Some, None}
use Rattle.htt_syntax.specs.Trees.{TyTree, TripleTree, TermTree, CompTree, FormulaTree}
use Rattle.theory_counts.specs.Nodes.{nodes_formula}
use Rattle.theory_counts.specs.Depth.{depth_formula}
use Rattle.theory_canonical.specs.Skeletons.{skeleton}
use Rattle.theory_canonical.specs.Contexts.{Heads}
use Rattle.theory_canonical.specs.Canonical.{IsCanonical, IsCanonicalComp, IsCanonicalTy, IsCanonicalTriple}
use Rattle.theory_canonical.specs.Canonical.{IsCanonicalFormula}
use Rattle.theory_typing.specs.Contexts.{Context, Environment, Obligation}
use Rattle.theory_typing.specs.Typing.{Mode}
use Rattle.theory_typing_canonical.specs.Environments.{standings, heads_of, IsCanonicalEnvironment, IsCanonicalContext}
use Rattle.theory_typing_canonical.specs.Laws.{AreCanonical}
use Rattle.theory_items.specs.Items.{ItemTree, with_added}
use Rattle.theory_checking.specs.Limits.{node_limit, depth_limit, entry_limit}
use Rattle.theory_checking.specs.Results.{Typed, Computed, BodyComesTo}
use Rattle.theory_checking.specs.Checking.{TyComesTo, FormulaComesTo, TermComesTo, RunsTo}
use Rattle.theory_checking_items.specs.Items.{Checked, ItemComesTo}

-- the goal of an obligation isn't too large, nor too deep, and its context not too long
pub record IsWithin (o : Obligation) : Type 0 where
  pub nodes : nodes_formula o.goal ≤ node_limit
  pub depth : depth_formula o.goal ≤ depth_limit
  pub entries : length o.context ≤ entry_limit

pub record OwedIsWithinLimits : Type 0 where
  pub terms : (env : Environment) (m : Mode) (g : Context) (at : ℕ) (M : TermTree) (asked : Option TyTree) (k : Typed)
      → TermComesTo env m g at M asked (Ok k)
      → All IsWithin k.owed
  pub bodies : (env : Environment) (g : Context) (at : ℕ) (spec : TripleTree) (E : CompTree) (c : Computed)
      → BodyComesTo g spec (λ mono state. RunsTo env g at mono state E) (Ok c)
      → All IsWithin c.owed
  pub items : (env : Environment) (g : Context) (at : ℕ) (item : ItemTree) (c : Checked)
      → ItemComesTo env g at item (Ok c)
      → All IsWithin c.owed

-- a term, its type, and what it owes
pub record IsCanonicalTyped (heads : Heads) (g : Context) (k : Typed) : Type 0 where
  pub ty : IsCanonicalTy heads (standings g) k.ty
  pub term : IsCanonical heads (standings g) k.term (skeleton k.ty)
  pub owed : AreCanonical heads k.owed

-- a computation and what it owes
pub record IsCanonicalComputed (heads : Heads) (g : Context) (c : Computed) : Type 0 where
  pub comp : IsCanonicalComp heads (standings g) c.comp
  pub owed : AreCanonical heads c.owed

-- in a canonical environment and context; what is to fit is to fit a canonical type or triple
pub record WhatComesIsCanonical : Type 0 where
  pub types : (env : Environment) (g : Context)
      → IsCanonicalEnvironment env
      → IsCanonicalContext (heads_of env) g
      → (at : ℕ) (A R : TyTree)
      → TyComesTo env g at A (Ok R)
      → IsCanonicalTy (heads_of env) (standings g) R
  pub formulas : (env : Environment) (g : Context)
      → IsCanonicalEnvironment env
      → IsCanonicalContext (heads_of env) g
      → (at : ℕ) (F R : FormulaTree)
      → FormulaComesTo env g at F (Ok R)
      → IsCanonicalFormula (heads_of env) (standings g) R
  pub given : (env : Environment) (g : Context)
      → IsCanonicalEnvironment env
      → IsCanonicalContext (heads_of env) g
      → (m : Mode) (at : ℕ) (M : TermTree) (k : Typed)
      → TermComesTo env m g at M None (Ok k)
      → IsCanonicalTyped (heads_of env) g k
  pub fitting : (env : Environment) (g : Context)
      → IsCanonicalEnvironment env
      → IsCanonicalContext (heads_of env) g
      → (m : Mode) (at : ℕ) (M : TermTree) (A : TyTree) (k : Typed)
      → IsCanonicalTy (heads_of env) (standings g) A
      → TermComesTo env m g at M (Some A) (Ok k)
      → IsCanonical (heads_of env) (standings g) k.term (skeleton A) × AreCanonical (heads_of env) k.owed
  pub bodies : (env : Environment) (g : Context)
      → IsCanonicalEnvironment env
      → IsCanonicalContext (heads_of env) g
      → (at : ℕ) (spec : TripleTree) (E : CompTree) (c : Computed)
      → IsCanonicalTriple (heads_of env) (standings g) spec
      → BodyComesTo g spec (λ mono state. RunsTo env g at mono state E) (Ok c)
      → IsCanonicalComputed (heads_of env) g c

-- an item without entries keeps the environment canonical, and owes canonical goals
pub record CheckedItemsKeepCanonical : Type 0 where
  pub environment : (env : Environment)
      → IsCanonicalEnvironment env
      → (at : ℕ) (item : ItemTree) (c : Checked)
      → ItemComesTo env [] at item (Ok c)
      → IsCanonicalEnvironment (with_added env c.added)
  pub owed : (env : Environment) (g : Context)
      → IsCanonicalEnvironment env
      → IsCanonicalContext (heads_of env) g
      → (at : ℕ) (item : ItemTree) (c : Checked)
      → ItemComesTo env g at item (Ok c)
      → AreCanonical (heads_of env) c.owed
