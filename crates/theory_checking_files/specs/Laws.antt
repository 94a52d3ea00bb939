-- The laws of the items of a file.
use Rattle.std.specs.Prelude.{◌≡◌, ℕ, zero, ◌+◌, List, [], ◌∷◌, ◌++◌, length, All, Result, Ok, Err}
use Rattle.htt_syntax_words.specs.declared.words.Rule.{Rule}
use Rattle.theory_typing.specs.Contexts.{Environment, Obligation}
use Rattle.theory_typing_canonical.specs.Environments.{IsCanonicalEnvironment}
use Rattle.theory_items.specs.Items.{ItemTree}
use Rattle.theory_file_derived.specs.Derived.{DerivesAll}
use Rattle.theory_formed_items.specs.Environments.{IsFormedEnvironment}
use Rattle.theory_checking.specs.Stops.{refused}
use Rattle.theory_checking_items.specs.Items.{ItemComesTo}
use Rattle.theory_checking_canonical.specs.Laws.{IsWithin}
use Rattle.theory_checking_narrow.specs.Narrow.{IsNarrowEnvironment}
use Rattle.theory_checking_files.specs.Files.{CheckedAll, ItemStop, item_stop, ItemsComeTo, AreOrLimit}

-- items come to one thing at most
abbrev pub FilesComeToOne : Type 0
FilesComeToOne =
    (n : ℕ) (env : Environment) (items : List ItemTree) (r q : Result CheckedAll ItemStop)
    → ItemsComeTo n env items r
    → ItemsComeTo n env items q
    → r ≡ q

-- where they stop, the items before the one that stops come to an environment, in which this one stops
pub record StopsAt (n : ℕ) (env : Environment) (items : List ItemTree) (s : ItemStop) : Type 0 where
  pub before : List ItemTree
  pub item : ItemTree
  pub behind : List ItemTree
  pub these : items ≡ before ++ item ∷ behind
  pub counted : s.item ≡ n + length before
  pub reached : CheckedAll
  pub come : ItemsComeTo n env before (Ok reached)
  pub stop_there : ItemComesTo reached.final [] zero item (Err s.stop)

abbrev pub FirstStop : Type 0
FirstStop =
    (n : ℕ) (env : Environment) (items : List ItemTree) (s : ItemStop)
    → ItemsComeTo n env items (Err s)
    → StopsAt n env items s

-- items that are checked derive
abbrev pub CheckedFilesDerive : Type 0
CheckedFilesDerive =
    (n : ℕ) (env : Environment) (items : List ItemTree) (k : CheckedAll)
    → ItemsComeTo n env items (Ok k)
    → DerivesAll env items k.final k.rows

-- items that derive come to that or to a limit, and to nothing else
pub record DerivedFilesReach : Type 0 where
  pub reaches : (n : ℕ) (env final : Environment) (items : List ItemTree) (rows : List (List Obligation))
      → DerivesAll env items final rows
      → (r : Result CheckedAll ItemStop) × ItemsComeTo n env items r × AreOrLimit final rows r
  pub only : (n : ℕ) (env final : Environment) (items : List ItemTree) (rows : List (List Obligation))
      (r : Result CheckedAll ItemStop)
      → DerivesAll env items final rows
      → ItemsComeTo n env items r
      → AreOrLimit final rows r
  pub refused_is_not_derived : (n m : ℕ) (env final : Environment) (items : List ItemTree)
      (rows : List (List Obligation)) (rule : Rule) (at : ℕ)
      → ItemsComeTo n env items (Err (item_stop m (refused rule at)))
      → DerivesAll env items final rows
      → ⊥

-- the environment after them is what the one before was, and what they owe is within the limits
pub record CheckedFilesKeep : Type 0 where
  pub canonical : (n : ℕ) (env : Environment) (items : List ItemTree) (k : CheckedAll)
      → IsCanonicalEnvironment env
      → ItemsComeTo n env items (Ok k)
      → IsCanonicalEnvironment k.final
  pub formed : (n : ℕ) (env : Environment) (items : List ItemTree) (k : CheckedAll)
      → IsFormedEnvironment env
      → ItemsComeTo n env items (Ok k)
      → IsFormedEnvironment k.final
  pub narrow : (n : ℕ) (env : Environment) (items : List ItemTree) (k : CheckedAll)
      → IsNarrowEnvironment env
      → ItemsComeTo n env items (Ok k)
      → IsNarrowEnvironment k.final
  pub within : (n : ℕ) (env : Environment) (items : List ItemTree) (k : CheckedAll)
      → ItemsComeTo n env items (Ok k)
      → All (λ (owed : List Obligation). All IsWithin owed) k.rows
