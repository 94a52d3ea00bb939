-- What a phrase and a declaration come to is formed.
use Rattle.std.specs.Prelude.{ℕ, [], Ok, Some, None}
use Rattle.htt_syntax.specs.Trees.{TyTree, TermTree, FormulaTree}
use Rattle.theory_typing.specs.Contexts.{Context, Environment}
use Rattle.theory_typing.specs.Typing.{Mode}
use Rattle.theory_items.specs.Items.{ItemTree, with_added}
use Rattle.theory_formed_shapes.specs.Shapes.{shape_of, shapes_of}
use Rattle.theory_formed_shapes.specs.Formed.{FileShapes, file_shapes, IsFormedTerm, IsFormedTy, IsFormedFormula}
use Rattle.theory_formed_shapes.specs.Environments.{IsFormedContext, FormsEnvironment}
use Rattle.theory_formed_obligations.specs.Laws.{AreFormed}
use Rattle.theory_formed_items.specs.Environments.{IsFormedEnvironment}
use Rattle.theory_checking.specs.Results.{Typed}
use Rattle.theory_checking.specs.Checking.{TyComesTo, FormulaComesTo, TermComesTo}
use Rattle.theory_checking_items.specs.Items.{Checked, ItemComesTo}

-- a term, its type, and what it owes
pub record IsFormedTyped (file : FileShapes) (g : Context) (k : Typed) : Type 0 where
  pub ty : IsFormedTy file (shapes_of g) k.ty
  pub term : IsFormedTerm file (shapes_of g) k.term (shape_of k.ty)
  pub owed : AreFormed file k.owed

-- in an environment that is formed as far as typing needs it, and a formed context; what is to fit is to fit
-- a formed type
pub record WhatComesIsFormed : Type 0 where
  pub types : (env : Environment) (g : Context)
      → FormsEnvironment env
      → IsFormedContext (file_shapes env) g
      → (at : ℕ) (A R : TyTree)
      → TyComesTo env g at A (Ok R)
      → IsFormedTy (file_shapes env) (shapes_of g) R
  pub formulas : (env : Environment) (g : Context)
      → FormsEnvironment env
      → IsFormedContext (file_shapes env) g
      → (at : ℕ) (F R : FormulaTree)
      → FormulaComesTo env g at F (Ok R)
      → IsFormedFormula (file_shapes env) (shapes_of g) R
  pub given : (env : Environment) (g : Context)
      → FormsEnvironment env
      → IsFormedContext (file_shapes env) g
      → (m : Mode) (at : ℕ) (M : TermTree) (k : Typed)
      → TermComesTo env m g at M None (Ok k)
      → IsFormedTyped (file_shapes env) g k
  pub fitting : (env : Environment) (g : Context)
      → FormsEnvironment env
      → IsFormedContext (file_shapes env) g
      → (m : Mode) (at : ℕ) (M : TermTree) (A : TyTree) (k : Typed)
      → IsFormedTy (file_shapes env) (shapes_of g) A
      → TermComesTo env m g at M (Some A) (Ok k)
      → IsFormedTerm (file_shapes env) (shapes_of g) k.term (shape_of A) × AreFormed (file_shapes env) k.owed
  pub items : (env : Environment) (g : Context)
      → FormsEnvironment env
      → IsFormedContext (file_shapes env) g
      → (at : ℕ) (item : ItemTree) (c : Checked)
      → ItemComesTo env g at item (Ok c)
      → AreFormed (file_shapes env) c.owed

-- an item without entries keeps the environment formed
abbrev pub CheckedItemsKeepFormed : Type 0
CheckedItemsKeepFormed =
    (env : Environment)
    → IsFormedEnvironment env
    → (at : ℕ) (item : ItemTree) (c : Checked)
    → ItemComesTo env [] at item (Ok c)
    → IsFormedEnvironment (with_added env c.added)
