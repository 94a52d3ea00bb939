-- Tables of declared names: the values and the recursive predicates of one, in order; when a table is in order, as that
-- of a file is; and the table of names that are given.
use Rattle.std.specs.Prelude.{◌≡◌, ℕ, zero, suc, Bool, false, if◌then◌else◌, List, [], ◌∷◌, ◌++◌, map, Option}
use Rattle.std.specs.Prelude.{Some, None, bytes_eq}
use Rattle.theory_text_names.specs.Scopes.{Meaning, means_rec, means_val, Declared}
use Rattle.theory_text_names.specs.Scopes.{Names}
use Rattle.theory_text_names.specs.Uses.{declared_use}
use Rattle.theory_text_items.specs.Declarations.{a_value, a_recursion, how_many}

-- ---- what a table declares, in order

abbrev pub if_such : (Meaning → Bool) → Option Declared → List Declared
if_such such None = []
if_such such (Some d) = if such d.meaning then d ∷ [] else []

unfoldable pub those_in : (Meaning → Bool) → Names → List Declared
those_in such [] = []
those_in such (d ∷ ds) = if_such such d ++ those_in such ds

abbrev pub params_of : Meaning → ℕ
params_of (means_rec number params) = params
params_of _ = zero

abbrev pub vals_in : Names → List (List ℕ)
vals_in names = map (λ d. d.name) (those_in a_value names)

abbrev pub recs_in : Names → List (List ℕ)
recs_in names = map (λ d. d.name) (those_in a_recursion names)

-- how many parameters each recursive predicate has
abbrev pub counts_in : Names → List ℕ
counts_in names = map (λ d. params_of d.meaning) (those_in a_recursion names)

-- ---- in order: each name is new behind those before it, and values and recursive predicates are numbered from 0

abbrev pub IsNumbered : Names → Meaning → Type 0
IsNumbered before (means_val number) = number ≡ how_many a_value before
IsNumbered before (means_rec number params) = number ≡ how_many a_recursion before
IsNumbered before _ = Unit {0}

abbrev pub IsNext : Names → Option Declared → Type 0
IsNext before None = Unit {0}
IsNext before (Some d) = (declared_use d.name before ≡ None) × IsNumbered before d.meaning

unfoldable pub AreInOrder : Names → Names → Type 0
AreInOrder before [] = Unit {0}
AreInOrder before (d ∷ ds) = IsNext before d × AreInOrder (before ++ d ∷ []) ds

-- ---- the table of given names of values, and of recursive predicates with so many parameters each

abbrev pub declares_as : List ℕ → Meaning → Option Declared
declares_as name meaning = Some (record { name = name; meaning = meaning })

-- from this number on
unfoldable pub val_rows : ℕ → List (List ℕ) → Names
val_rows number [] = []
val_rows number (name ∷ others) = declares_as name (means_val number) ∷ val_rows (suc number) others

unfoldable pub rec_rows : ℕ → List (List ℕ) → List ℕ → Names
rec_rows number (name ∷ others) (params ∷ counts) =
    declares_as name (means_rec number params) ∷ rec_rows (suc number) others counts
rec_rows number _ _ = []

abbrev pub table_of : List (List ℕ) → List (List ℕ) → List ℕ → Names
table_of vals recs counts = val_rows zero vals ++ rec_rows zero recs counts

-- no two of them are the same
unfoldable pub DiffersFrom : List ℕ → List (List ℕ) → Type 0
DiffersFrom name [] = Unit {0}
DiffersFrom name (other ∷ others) = (bytes_eq name other ≡ false) × DiffersFrom name others

unfoldable pub AreDifferent : List (List ℕ) → Type 0
AreDifferent [] = Unit {0}
AreDifferent (name ∷ others) = DiffersFrom name others × AreDifferent others
