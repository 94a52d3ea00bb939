-- What phrases come to, and the rows of premises that bodies, branches and steps share.
use Rattle.std.specs.Prelude.{◌≡◌, ℕ, List, [], ◌∷◌, ◌++◌, Result, Option, Some, None}
use Rattle.htt_syntax_words.specs.declared.words.Rule.TheVariants.{Mismatch}
use Rattle.htt_syntax.specs.Trees.{MonoTree, TyTree, TripleTree, TermTree, FixTree, CompTree, FormulaTree, triple, t_at}
use Rattle.htt_syntax.specs.Trees.{y_at, c_ret, c_step}
use Rattle.theory_states.specs.States.{Move, start, owed, after, finish, last}
use Rattle.theory_typing.specs.Positions.{plain_ty}
use Rattle.theory_typing.specs.Contexts.{Context, Obligation}
use Rattle.theory_typing.specs.Typing.{Part, part_step, part_comp, part_unit, owes, owes_at_end}
use Rattle.theory_checking.specs.Stops.{Stop, refused, ◌>>=◌, ◌>>◌, Comes, Needs}
use Rattle.theory_checking.specs.Limits.{HasRoom, StateIsWithin, OwedIsWithin, RunsBefore, DropsClaim}

-- A term: the type that it gives or fits, its canonical form, and what it owes.
pub record Typed : Type 0 where
  pub ty : TyTree
  pub term : TermTree
  pub owed : List Obligation

abbrev pub typed : TyTree → TermTree → List Obligation → Typed
typed ty term owed = record { ty = ty; term = term; owed = owed }

-- A recursive function; a computation that is checked against a triple.
pub record Fixed : Type 0 where
  pub fix : FixTree
  pub owed : List Obligation

abbrev pub fixed : FixTree → List Obligation → Fixed
fixed fix owed = record { fix = fix; owed = owed }

pub record Computed : Type 0 where
  pub comp : CompTree
  pub owed : List Obligation

abbrev pub computed : CompTree → List Obligation → Computed
computed comp owed = record { comp = comp; owed = owed }

-- A computation that ran to its end: the state there, the monotypes of its steps' variables, its result,
-- what its steps become, and what it owes.
pub record Ran : Type 0 where
  pub end : FormulaTree
  pub zs : List MonoTree
  pub value : TermTree
  pub parts : List Part
  pub owed : List Obligation

abbrev pub ran : FormulaTree → List MonoTree → TermTree → List Part → List Obligation → Ran
ran end zs value parts owed = record { end = end; zs = zs; value = value; parts = parts; owed = owed }

-- A step: the monotype of its variable, the next state, what it becomes, and what it owes.
pub record Moved : Type 0 where
  pub mono : MonoTree
  pub next : FormulaTree
  pub part : Part
  pub owed : List Obligation

abbrev pub moved : MonoTree → FormulaTree → Part → List Obligation → Moved
moved mono next part owed = record { mono = mono; next = next; part = part; owed = owed }

-- A branch: the formula in which it ends, its computation, and what it owes.
pub record Branched : Type 0 where
  pub ending : FormulaTree
  pub comp : CompTree
  pub owed : List Obligation

abbrev pub branched : FormulaTree → CompTree → List Obligation → Branched
branched ending comp owed = record { ending = ending; comp = comp; owed = owed }

-- the byte of a phrase, where the nearest position round it is `at`
abbrev pub byte_of_term : ℕ → TermTree → ℕ
byte_of_term at (t_at inner term) = byte_of_term inner term
byte_of_term at _ = at

abbrev pub byte_of_ty : ℕ → TyTree → ℕ
byte_of_ty at (y_at inner ty) = byte_of_ty inner ty
byte_of_ty at _ = at

-- What a phrase gives is asked for, or a type that it is to fit.
abbrev pub Agrees : ℕ → Option TyTree → Typed → Result Typed Stop → Type 0
Agrees at None given = Comes given
Agrees at (Some ty) given = do
  Needs (plain_ty given.ty ≡ plain_ty ty) (refused Mismatch at)
  Comes (typed ty given.term given.owed)

-- A phrase whose type is inferred, by this row of premises.
abbrev pub Inferred : ℕ → Option TyTree → (Result Typed Stop → Type 0) → Result Typed Stop → Type 0
Inferred at asked Row = do
  given ← Row
  Agrees at asked given

-- The next state of a step, for a variable of a monotype: what the step owes after its terms, room for its
-- variable and the heaps, and the state.
abbrev pub GoesOn : Context → FormulaTree → Move → MonoTree → Part → List Obligation → Result Moved Stop → Type 0
GoesOn g state move mono part terms_owed = do
  OwedIsWithin (owed move state)
  HasRoom g 3
  StateIsWithin (after move state)
  Comes (moved mono (after move state) part (terms_owed ++ owes g (owed move state)))

-- The computation that parts become, from the last to the first: each is tested where a substitution makes it.
unfoldable pub AssemblesTo : List Part → TermTree → Result CompTree Stop → Type 0
AssemblesTo [] value = Comes (c_ret value)
AssemblesTo (part_step step ∷ parts) value = do
  others ← AssemblesTo parts value
  Comes (c_step step others)
AssemblesTo (part_comp comp ∷ parts) value = do
  others ← AssemblesTo parts value
  RunsBefore comp others
AssemblesTo (part_unit ∷ parts) value = do
  others ← AssemblesTo parts value
  DropsClaim others

-- A body: room for the heaps, the state at its start, its run, room for its result, its end, its last
-- obligation, and its computation.
abbrev pub BodyComesTo : Context
    → TripleTree
    → (MonoTree → FormulaTree → Result Ran Stop → Type 0)
    → Result Computed Stop
    → Type 0
BodyComesTo g (triple pre mono post) Runs = do
  HasRoom g 2
  StateIsWithin (start pre)
  r ← Runs mono (start pre)
  HasRoom g 3
  StateIsWithin (finish r.end r.zs mono r.value)
  StateIsWithin (last (finish r.end r.zs mono r.value) post)
  comp ← AssemblesTo r.parts r.value
  Comes (computed comp (r.owed ++ owes_at_end g r.end r.zs mono r.value post))

-- A branch from a state: that state, its run, room for its result, its end, and its computation.
abbrev pub BranchComesTo : Context
    → MonoTree
    → FormulaTree
    → (FormulaTree → Result Ran Stop → Type 0)
    → Result Branched Stop
    → Type 0
BranchComesTo g mono from Runs = do
  StateIsWithin from
  r ← Runs from
  HasRoom g 3
  StateIsWithin (finish r.end r.zs mono r.value)
  comp ← AssemblesTo r.parts r.value
  Comes (branched (finish r.end r.zs mono r.value) comp r.owed)
