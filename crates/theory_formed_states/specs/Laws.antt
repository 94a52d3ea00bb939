-- States are formed where their parts are.
use Rattle.std.specs.Prelude.{List, [], ◌∷◌, length, Bool, Option, Some, None}
use Rattle.htt_syntax.specs.Trees.{MonoTree, TermTree, FormulaTree, m_bool, m_loc, m_unit, triple}
use Rattle.theory_renaming.specs.Renaming.{rename_mono}
use Rattle.theory_states.specs.States.{past, Move, move_alloc, move_get, move_set, move_free, move_run, move_claim}
use Rattle.theory_states.specs.States.{start, owed, after, branch, finish, merge, last}
use Rattle.theory_formed_shapes.specs.Shapes.{sh_mono, in_heap, in_term, Shapes}
use Rattle.theory_formed_shapes.specs.Formed.{FileShapes, IsFormedMono, IsFormedTerm, IsFormedTriple, IsFormedFormula}
use Rattle.theory_formed_shapes.specs.Formed.{IsClosedFile}

-- the context of a state: the heaps init and mem, mem the innermost
abbrev pub at_state : Shapes → Shapes
at_state g = in_heap ∷ in_heap ∷ g

-- the monotype of a step's variable
abbrev pub mono_of : Move → MonoTree
mono_of (move_alloc t N) = m_loc
mono_of (move_get t M) = t
mono_of (move_set t M N) = m_unit
mono_of (move_free t M) = m_unit
mono_of (move_run (triple P t Q)) = t
mono_of (move_claim F) = m_unit

abbrev pub IsFormedMove : FileShapes → Shapes → Move → Type 0
IsFormedMove file g (move_alloc t N) = IsFormedMono g t × IsFormedTerm file g N (sh_mono t)
IsFormedMove file g (move_get t M) = IsFormedMono g t × IsFormedTerm file g M (sh_mono m_loc)
IsFormedMove file g (move_set t M N) =
    IsFormedMono g t × IsFormedTerm file g M (sh_mono m_loc) × IsFormedTerm file g N (sh_mono t)
IsFormedMove file g (move_free t M) = IsFormedMono g t × IsFormedTerm file g M (sh_mono m_loc)
IsFormedMove file g (move_run spec) = IsFormedTriple file g spec
IsFormedMove file g (move_claim F) = IsFormedFormula file (at_state g) F

abbrev pub IsFormedOwed : FileShapes → Shapes → Option FormulaTree → Type 0
IsFormedOwed file g None = Unit {0}
IsFormedOwed file g (Some goal) = IsFormedFormula file g goal

-- a context with variables of these monotypes more, each under those before it
abbrev pub under : List MonoTree → Shapes → Shapes
under [] g = g
under (z ∷ zs) g = under zs (in_term (sh_mono z) ∷ g)

abbrev pub IsFormedRow : Shapes → List MonoTree → Type 0
IsFormedRow g [] = Unit {0}
IsFormedRow g (z ∷ zs) = IsFormedMono g z × IsFormedRow (in_term (sh_mono z) ∷ g) zs

pub record StatesKeepFormed : Type 0 where
  pub starts : (file : FileShapes)
      → IsClosedFile file
      → (g : Shapes) (P : FormulaTree)
      → IsFormedFormula file (in_heap ∷ g) P
      → IsFormedFormula file (at_state g) (start P)
  pub owes : (file : FileShapes)
      → IsClosedFile file
      → (g : Shapes) (step : Move) (R : FormulaTree)
      → IsFormedMove file g step
      → IsFormedFormula file (at_state g) R
      → IsFormedOwed file (at_state g) (owed step R)
  pub goes_on : (file : FileShapes)
      → IsClosedFile file
      → (g : Shapes) (step : Move) (R : FormulaTree)
      → IsFormedMove file g step
      → IsFormedFormula file (at_state g) R
      → IsFormedFormula file (at_state (in_term (sh_mono (mono_of step)) ∷ g)) (after step R)
  pub branches : (file : FileShapes)
      → IsClosedFile file
      → (g : Shapes) (R : FormulaTree) (M : TermTree) (side : Bool)
      → IsFormedFormula file (at_state g) R
      → IsFormedTerm file g M (sh_mono m_bool)
      → IsFormedFormula file (at_state g) (branch R M side)
  pub ends : (file : FileShapes)
      → IsClosedFile file
      → (g : Shapes) (R : FormulaTree) (zs : List MonoTree) (t : MonoTree) (M : TermTree)
      → IsFormedFormula file (at_state (under zs g)) R
      → IsFormedRow g zs
      → IsFormedMono g t
      → IsFormedTerm file (under zs g) M (sh_mono (rename_mono (past (length zs)) t))
      → IsFormedFormula file (at_state (in_term (sh_mono t) ∷ g)) (finish R zs t M)
  pub merges : (file : FileShapes) (g : Shapes) (on_true on_false : FormulaTree)
      → IsFormedFormula file g on_true
      → IsFormedFormula file g on_false
      → IsFormedFormula file g (merge on_true on_false)
  pub lasts : (file : FileShapes) (g : Shapes) (S Q : FormulaTree)
      → IsFormedFormula file g S
      → IsFormedFormula file g Q
      → IsFormedFormula file g (last S Q)
