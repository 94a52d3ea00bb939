-- What an evaluation of the text works on: values with closures, environments, and results.
use Rattle.std.specs.Prelude.{ℕ, zero, suc, List, Option, Some, None}
use Rattle.htt_syntax.specs.Trees.{MonoTree, TermTree, FixTree, CompTree, m_word, m_bool, m_loc, m_unit, m_pair, m_var}
use Rattle.theory_values.specs.Values.{Value}
use Rattle.theory_values.specs.Heaps.{Heap}

mutual
  -- A value of a monotype, or a closure: a function of a term, a function of a monotype, a
  -- computation, or a recursive function with some of its arguments.
  pub data RunValue : Type 0 where
    base : Value → RunValue
    fun_of : Env → TermTree → RunValue
    all_of : Env → TermTree → RunValue
    do_of : Env → CompTree → RunValue
    -- its environment and the function; then the environment with the arguments so far, and what is
    -- left of the function under them
    fix_of : Env → FixTree → Env → FixTree → RunValue

  -- The entries around a phrase, the innermost first.
  pub data Env : Type 0 where
    nothing : Env
    with_mono : MonoTree → Env → Env
    with_value : RunValue → Env → Env

pub data PureResult : Type 0 where
  gives : RunValue → PureResult
  lacks_fuel : PureResult
  faults : PureResult

pub data RunResult : Type 0 where
  -- the value, the heap, and the choices that are left
  done : RunValue → Heap → List ℕ → RunResult
  no_fuel : RunResult
  asks : RunResult
  fault : RunResult

-- The terms of the values and of the definitions of a file.
pub record Items : Type 0 where
  pub vals : List TermTree
  pub defs : List TermTree

-- The value of a variable.
abbrev pub value_entry : Env → ℕ → PureResult
value_entry nothing n = faults
value_entry (with_value v e) zero = gives v
value_entry (with_mono t e) zero = faults
value_entry (with_value v e) (suc n) = value_entry e n
value_entry (with_mono t e) (suc n) = value_entry e n

-- The monotype of a monotype variable.
abbrev pub mono_entry : Env → ℕ → Option MonoTree
mono_entry nothing n = None
mono_entry (with_value v e) zero = None
mono_entry (with_mono t e) zero = Some t
mono_entry (with_value v e) (suc n) = mono_entry e n
mono_entry (with_mono t e) (suc n) = mono_entry e n

abbrev pub pair_mono : Option MonoTree → Option MonoTree → Option MonoTree
pair_mono (Some t) (Some u) = Some (m_pair t u)
pair_mono _ _ = None

-- A monotype closed by an environment, where it can be.
abbrev pub closed_mono : Env → MonoTree → Option MonoTree
closed_mono e m_word = Some m_word
closed_mono e m_bool = Some m_bool
closed_mono e m_loc = Some m_loc
closed_mono e m_unit = Some m_unit
closed_mono e (m_pair t u) = pair_mono (closed_mono e t) (closed_mono e u)
closed_mono e (m_var index) = mono_entry e index
