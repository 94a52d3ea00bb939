-- Derived files. Items stand in the order of the file, each in the environment of those before it.
-- Proofs may stand anywhere, since each is checked in the environment of all items.
use Rattle.std.specs.Prelude.{◌≡◌, ℕ, zero, suc, Bool, false, List, [], ◌∷◌, Option, Some, None, slice_get, nat_eq}
use Rattle.std.specs.Prelude.{if◌then◌else◌, ◌⊎◌}
use Rattle.htt_syntax.specs.Trees.{TermTree, ProofTree}
use Rattle.theory_meaning.specs.Closures.{Items}
use Rattle.theory_typing.specs.Contexts.{Environment, Obligation}
use Rattle.theory_typing.specs.Laws.{none}
use Rattle.theory_logic_rules.specs.Rules.{Proves}
use Rattle.theory_items.specs.Items.{ItemTree, i_def, i_val, Added, with_added, Derives}

-- What is written for an obligation: a proof, or `auto`, which leaves it to provers.
pub data GivenTree : Type 0 where
  by_auto : GivenTree
  by_proof : ProofTree → GivenTree

-- The item whose obligation is meant, which counts from 0 in the order of the file, unless none has the
-- name; the number of the obligation, from 1; and what is given for it.
pub record ProofItem : Type 0 where
  pub item : Option ℕ
  pub number : ℕ
  pub given : GivenTree

-- Items derive one after the other: the environment after them, and what each of them owes.
pub data DerivesAll : Environment → List ItemTree → Environment → List (List Obligation) → Type 0 where
  derives_none : {env : Environment} → DerivesAll env [] env []
  derives_more : {env final : Environment} {item : ItemTree} {added : Added} {items : List ItemTree}
      {owed : List Obligation} {rows : List (List Obligation)}
      → Derives env [] item added owed
      → DerivesAll (with_added env added) items final rows
      → DerivesAll env (item ∷ items) final (owed ∷ rows)

-- The obligation of an item with a number.
abbrev pub numbered : List Obligation → ℕ → Option Obligation
numbered owed zero = None
numbered owed (suc n) = slice_get owed n

abbrev pub owed_in : Option (List Obligation) → ℕ → Option Obligation
owed_in (Some owed) number = numbered owed number
owed_in None number = None

abbrev pub owed_at : List (List Obligation) → Option ℕ → ℕ → Option Obligation
owed_at rows (Some item) number = owed_in (slice_get rows item) number
owed_at rows None number = None

-- What is given for an obligation, in order.
abbrev pub is_item : Option ℕ → ℕ → Bool
is_item (Some other) item = nat_eq other item
is_item None item = false

abbrev pub is_for : ProofItem → ℕ → ℕ → Bool
is_for proof item number = if is_item proof.item item then nat_eq proof.number number else false

unfoldable pub given_for : List ProofItem → ℕ → ℕ → List GivenTree
given_for [] item number = []
given_for (proof ∷ others) item number =
    if is_for proof item number then proof.given ∷ given_for others item number else given_for others item number

-- Exactly one proof is given for the obligation, which isn't `auto`, and it proves the goal without
-- hypotheses.
pub record IsProvedOnce (final : Environment) (proofs : List ProofItem) (item number : ℕ) (o : Obligation) :
    Type 0 where
  pub proof : ProofTree
  pub only : given_for proofs item number ≡ by_proof proof ∷ []
  pub proves : Proves final o.context [] proof o.goal

pub record IsDerived (items : List ItemTree) (proofs : List ProofItem) (final : Environment) : Type 0 where
  pub rows : List (List Obligation)
  pub derives : DerivesAll none items final rows
  pub proved : (item number : ℕ) (o : Obligation)
      → owed_at rows (Some item) number ≡ Some o
      → IsProvedOnce final proofs item number o
  -- each proof has a target
  pub aimed : (n : ℕ) (proof : ProofItem)
      → slice_get proofs n ≡ Some proof
      → (o : Obligation) × (owed_at rows proof.item proof.number ≡ Some o)

-- An obligation is open that lacks a proof, or whose proof is `auto`.
pub record IsOpen (rows : List (List Obligation)) (proofs : List ProofItem) (item number : ℕ) (o : Obligation) :
    Type 0 where
  pub owed : owed_at rows (Some item) number ≡ Some o
  pub unproved : (given_for proofs item number ≡ []) ⊎ (given_for proofs item number ≡ by_auto ∷ [])

-- The written terms of the values and of the definitions of a file.
abbrev pub val_terms : List ItemTree → List TermTree
val_terms [] = []
val_terms (i_val ty term ∷ items) = term ∷ val_terms items
val_terms (_ ∷ items) = val_terms items

abbrev pub def_terms : List ItemTree → List TermTree
def_terms [] = []
def_terms (i_def ty term ∷ items) = term ∷ def_terms items
def_terms (_ ∷ items) = def_terms items

abbrev pub texts_of : List ItemTree → Items
texts_of items = record { vals = val_terms items; defs = def_terms items }
