-- The items of a file with its proofs, and what each declared name stands for.
use Rattle.std.specs.Prelude.{ℕ, List, Option}
use Rattle.theory_items.specs.Items.{ItemTree}
use Rattle.theory_text_names.specs.Scopes.{Declared, Names}

-- One for each declaration: an item, or a proof with the place of the item that it is for, which counts all
-- declarations from 0, if some item has the name, and with its number.
pub data FileItem : Type 0 where
  an_item : ItemTree → FileItem
  a_proof : Option ℕ → ℕ → FileItem

-- what a declaration is, and what it declares
pub record Row : Type 0 where
  pub item : FileItem
  pub declares : Option Declared

-- what a file is
pub record Resolved : Type 0 where
  pub items : List FileItem
  pub names : Names
