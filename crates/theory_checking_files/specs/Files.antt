-- The items of a file are checked in order, without entries, each in the environment of those before it. They
-- come to the environment after all of them and to what each owes, or to the first item that stops.
use Rattle.std.specs.Prelude.{ℕ, zero, suc, List, [], ◌∷◌, Result, Ok, Err}
use Rattle.theory_typing.specs.Contexts.{Environment, Obligation}
use Rattle.theory_items.specs.Items.{ItemTree, with_added}
use Rattle.theory_checking.specs.Stops.{Stop}
use Rattle.theory_checking_items.specs.Items.{Checked, ItemComesTo}
use Rattle.theory_checking_complete.specs.Reaching.{IsLimit}

-- The environment after all items, and what each of them owes.
pub record CheckedAll : Type 0 where
  pub final : Environment
  pub rows : List (List Obligation)

abbrev pub checked_all : Environment → List (List Obligation) → CheckedAll
checked_all final rows = record { final = final; rows = rows }

-- The item that stops, which counts from 0 in the order of the file, and its stop.
pub record ItemStop : Type 0 where
  pub item : ℕ
  pub stop : Stop

abbrev pub item_stop : ℕ → Stop → ItemStop
item_stop item stop = record { item = item; stop = stop }

-- What items come to of which the first has this number.
pub data ItemsComeTo : ℕ → Environment → List ItemTree → Result CheckedAll ItemStop → Type 0 where
  items_end : {n : ℕ} {env : Environment} → ItemsComeTo n env [] (Ok (checked_all env []))
  item_stops : {n : ℕ} {env : Environment} {item : ItemTree} {items : List ItemTree} {stop : Stop}
      → ItemComesTo env [] zero item (Err stop)
      → ItemsComeTo n env (item ∷ items) (Err (item_stop n stop))
  item_then_stop : {n : ℕ} {env : Environment} {item : ItemTree} {items : List ItemTree} {later : ItemStop} (c : Checked)
      → ItemComesTo env [] zero item (Ok c)
      → ItemsComeTo (suc n) (with_added env c.added) items (Err later)
      → ItemsComeTo n env (item ∷ items) (Err later)
  item_then_items : {n : ℕ} {env final : Environment} {item : ItemTree} {items : List ItemTree}
      {rows : List (List Obligation)} (c : Checked)
      → ItemComesTo env [] zero item (Ok c)
      → ItemsComeTo (suc n) (with_added env c.added) items (Ok (checked_all final rows))
      → ItemsComeTo n env (item ∷ items) (Ok (checked_all final (c.owed ∷ rows)))

-- A result is this one, or a limit at some item.
pub data AreOrLimit (final : Environment) (rows : List (List Obligation)) : Result CheckedAll ItemStop → Type 0 where
  are_given : AreOrLimit final rows (Ok (checked_all final rows))
  are_cut : {n : ℕ} {stop : Stop} → IsLimit stop → AreOrLimit final rows (Err (item_stop n stop))
