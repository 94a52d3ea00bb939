-- What states keep, and what the typing rules give.
use Rattle.std.specs.Prelude.{zero, ◌∷◌, List, length, All, Bool, Option, Some, None}
use Rattle.htt_syntax.specs.Trees.{MonoTree, TyTree, TripleTree, TermTree, CompTree, FormulaTree}
use Rattle.theory_states.specs.States.{Move, move_alloc, move_get, move_set, move_free, move_run, move_claim, start}
use Rattle.theory_states.specs.States.{owed, after, branch, finish, merge, last}
use Rattle.theory_canonical.specs.Skeletons.{sk_o, skeleton}
use Rattle.theory_canonical.specs.Contexts.{Standing, as_heap, as_term, Heads}
use Rattle.theory_canonical.specs.Canonical.{IsCanonicalMono, IsCanonical, IsCanonicalComp, IsCanonicalTy}
use Rattle.theory_canonical.specs.Canonical.{IsCanonicalTriple, IsCanonicalFormula}
use Rattle.theory_typing.specs.Contexts.{Context, Environment, Obligation}
use Rattle.theory_typing.specs.Typing.{Mode, FormsTy, FormsFormula, Gives, Fits, FitsBody}
use Rattle.theory_typing_canonical.specs.Environments.{standings, heads_of, IsCanonicalEnvironment, IsCanonicalContext}
use Rattle.theory_typing_canonical.specs.Environments.{at_state, with_values, IsCanonicalRow}

-- a step's parts stand in the context without the heaps
abbrev pub IsCanonicalMove : Heads → List Standing → Move → Type 0
IsCanonicalMove heads g (move_alloc t N) = IsCanonicalMono g t × IsCanonical heads g N sk_o
IsCanonicalMove heads g (move_get t M) = IsCanonicalMono g t × IsCanonical heads g M sk_o
IsCanonicalMove heads g (move_set t M N) = IsCanonicalMono g t × IsCanonical heads g M sk_o × IsCanonical heads g N sk_o
IsCanonicalMove heads g (move_free t M) = IsCanonicalMono g t × IsCanonical heads g M sk_o
IsCanonicalMove heads g (move_run spec) = IsCanonicalTriple heads g spec
IsCanonicalMove heads g (move_claim F) = IsCanonicalFormula heads (at_state g) F

abbrev pub IsCanonicalOwed : Heads → List Standing → Option FormulaTree → Type 0
IsCanonicalOwed heads g None = Unit {0}
IsCanonicalOwed heads g (Some goal) = IsCanonicalFormula heads g goal

pub record StatesKeepCanonical : Type 0 where
  pub starts : (heads : Heads) (g : List Standing) (P : FormulaTree)
      → IsCanonicalFormula heads (as_heap ∷ g) P
      → IsCanonicalFormula heads (at_state g) (start P)
  pub owes : (heads : Heads) (g : List Standing) (step : Move) (R : FormulaTree)
      → IsCanonicalMove heads g step
      → IsCanonicalFormula heads (at_state g) R
      → IsCanonicalOwed heads (at_state g) (owed step R)
  pub goes_on : (heads : Heads) (g : List Standing) (step : Move) (R : FormulaTree)
      → IsCanonicalMove heads g step
      → IsCanonicalFormula heads (at_state g) R
      → IsCanonicalFormula heads (at_state (as_term sk_o ∷ g)) (after step R)
  pub branches : (heads : Heads) (g : List Standing) (R : FormulaTree) (M : TermTree) (side : Bool)
      → IsCanonicalFormula heads (at_state g) R
      → IsCanonical heads g M sk_o
      → IsCanonicalFormula heads (at_state g) (branch R M side)
  pub ends : (heads : Heads) (g : List Standing) (R : FormulaTree) (zs : List MonoTree) (t : MonoTree) (M : TermTree)
      → IsCanonicalFormula heads (at_state (with_values (length zs) g)) R
      → IsCanonicalRow zero g zs
      → IsCanonicalMono g t
      → IsCanonical heads (with_values (length zs) g) M sk_o
      → IsCanonicalFormula heads (at_state (as_term sk_o ∷ g)) (finish R zs t M)
  pub merges : (heads : Heads) (g : List Standing) (on_true on_false : FormulaTree)
      → IsCanonicalFormula heads g on_true
      → IsCanonicalFormula heads g on_false
      → IsCanonicalFormula heads g (merge on_true on_false)
  pub lasts : (heads : Heads) (g : List Standing) (S Q : FormulaTree)
      → IsCanonicalFormula heads g S
      → IsCanonicalFormula heads g Q
      → IsCanonicalFormula heads g (last S Q)

-- each obligation's goal is canonical in its own context
abbrev pub AreCanonical : Heads → List Obligation → Type 0
AreCanonical heads owed = All (λ (o : Obligation). IsCanonicalFormula heads (standings o.context) o.goal) owed

-- in a canonical environment and context the typing rules give canonical types, terms, computations and
-- obligations
pub record TypingGivesCanonical : Type 0 where
  pub types : (env : Environment) (g : Context) (ty r : TyTree)
      → IsCanonicalEnvironment env
      → IsCanonicalContext (heads_of env) g
      → FormsTy env g ty r
      → IsCanonicalTy (heads_of env) (standings g) r
  pub formulas : (env : Environment) (g : Context) (F r : FormulaTree)
      → IsCanonicalEnvironment env
      → IsCanonicalContext (heads_of env) g
      → FormsFormula env g F r
      → IsCanonicalFormula (heads_of env) (standings g) r
  pub given_types : (env : Environment) (m : Mode) (g : Context) (M r : TermTree) (A : TyTree) (o : List Obligation)
      → IsCanonicalEnvironment env
      → IsCanonicalContext (heads_of env) g
      → Gives env m g M A r o
      → IsCanonicalTy (heads_of env) (standings g) A
  pub given_terms : (env : Environment) (m : Mode) (g : Context) (M r : TermTree) (A : TyTree) (o : List Obligation)
      → IsCanonicalEnvironment env
      → IsCanonicalContext (heads_of env) g
      → Gives env m g M A r o
      → IsCanonical (heads_of env) (standings g) r (skeleton A)
  pub given_owed : (env : Environment) (m : Mode) (g : Context) (M r : TermTree) (A : TyTree) (o : List Obligation)
      → IsCanonicalEnvironment env
      → IsCanonicalContext (heads_of env) g
      → Gives env m g M A r o
      → AreCanonical (heads_of env) o
  pub fitting : (env : Environment) (m : Mode) (g : Context) (M r : TermTree) (A : TyTree) (o : List Obligation)
      → IsCanonicalEnvironment env
      → IsCanonicalContext (heads_of env) g
      → IsCanonicalTy (heads_of env) (standings g) A
      → Fits env m g M A r o
      → IsCanonical (heads_of env) (standings g) r (skeleton A)
  pub fitting_owed : (env : Environment) (m : Mode) (g : Context) (M r : TermTree) (A : TyTree) (o : List Obligation)
      → IsCanonicalEnvironment env
      → IsCanonicalContext (heads_of env) g
      → IsCanonicalTy (heads_of env) (standings g) A
      → Fits env m g M A r o
      → AreCanonical (heads_of env) o
  pub bodies : (env : Environment) (g : Context) (E r : CompTree) (spec : TripleTree) (o : List Obligation)
      → IsCanonicalEnvironment env
      → IsCanonicalContext (heads_of env) g
      → IsCanonicalTriple (heads_of env) (standings g) spec
      → FitsBody env g E spec r o
      → IsCanonicalComp (heads_of env) (standings g) r
  pub bodies_owed : (env : Environment) (g : Context) (E r : CompTree) (spec : TripleTree) (o : List Obligation)
      → IsCanonicalEnvironment env
      → IsCanonicalContext (heads_of env) g
      → IsCanonicalTriple (heads_of env) (standings g) spec
      → FitsBody env g E spec r o
      → AreCanonical (heads_of env) o
