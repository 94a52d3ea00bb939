-- The laws of checked items.
use Rattle.std.specs.Prelude.{ℕ, Ok}
use Rattle.theory_typing.specs.Contexts.{Context, Environment}
use Rattle.theory_items.specs.Items.{ItemTree, Derives}
use Rattle.theory_checking.specs.Laws.{Once}
use Rattle.theory_checking_items.specs.Items.{Checked, ItemComesTo}

-- an item comes to one thing at most
abbrev pub ItemsComeToOne : Type 0
ItemsComeToOne = (env : Environment) (g : Context) (at : ℕ) (item : ItemTree) → Once (ItemComesTo env g at item)

-- what an item comes to is derived
abbrev pub CheckedItemsDerive : Type 0
CheckedItemsDerive =
    (env : Environment) (g : Context) (at : ℕ) (item : ItemTree) (c : Checked)
    → ItemComesTo env g at item (Ok c)
    → Derives env g item c.added c.owed
