-- A predicate's body where the predicate is used: what stands for its monotypes, its parameters and its heap is put
-- into it. Variables are indices, so that no binder of the body captures what is put.
use Rattle.std.specs.Prelude.{ℕ, zero, suc, List, [], ◌∷◌, Option, Some, None, option_and_then, slice_get}
use Rattle.htt_syntax.specs.Trees.{MonoTree, TermTree, FormulaTree, m_var, y_mono, t_var, t_ann}
use Rattle.theory_renaming.specs.Renaming.{shifting, rename_mono, rename_term}
use Rattle.htt_syntax_walk.specs.Walk.{Puts, walk_mono, walk_formula}
use Rattle.theory_text_names.specs.Scopes.{PredTree}

-- What stands for a free variable of a body, seen from where the predicate is used.
pub data Put : Type 0 where
  put_mono : MonoTree → Put
  put_term : TermTree → Put
  put_heap : ℕ → Put

-- an index from outside so many binders; none for a variable of theirs
unfoldable pub from_outside : ℕ → ℕ → Option ℕ
from_outside zero n = Some n
from_outside (suc d) zero = None
from_outside (suc d) (suc n) = from_outside d n

-- what stands for an index under so many binders, where these are put for the free variables, the innermost first
abbrev pub put_for : List Put → ℕ → ℕ → Option Put
put_for puts d n = option_and_then (slice_get puts) (from_outside d n)

-- the same at a place of each sort; what is put goes past the binders, and a variable of theirs stays
abbrev pub mono_for : ℕ → ℕ → Option Put → MonoTree
mono_for d n (Some (put_mono t)) = rename_mono (shifting 0 d) t
mono_for d n _ = m_var n

abbrev pub term_for : ℕ → ℕ → Option Put → TermTree
term_for d n (Some (put_term m)) = rename_term (shifting 0 d) m
term_for d n _ = t_var n

abbrev pub heap_for : ℕ → ℕ → Option Put → ℕ
heap_for d n (Some (put_heap h)) = shifting 0 d h
heap_for d n _ = n

abbrev pub putting : List Put → Puts
putting puts = record {
  on_mono = λ d n. mono_for d n (put_for puts d n);
  on_term = λ d n. term_for d n (put_for puts d n);
  on_heap = λ d n. heap_for d n (put_for puts d n);
}

abbrev pub put_into_mono : List Put → MonoTree → MonoTree
put_into_mono puts t = walk_mono (putting puts) 0 t

abbrev pub put_into_formula : List Put → FormulaTree → FormulaTree
put_into_formula puts F = walk_formula (putting puts) 0 F

-- ---- a use of a predicate

-- each monotype behind those before it
unfoldable pub with_monos : List Put → List MonoTree → List Put
with_monos puts [] = puts
with_monos puts (t ∷ ts) = with_monos (put_mono t ∷ puts) ts

-- (M : t) for each parameter x : t, behind what was put for the parameters and monotypes before it
unfoldable pub with_arguments : List Put → List MonoTree → List TermTree → List Put
with_arguments puts (t ∷ ts) (m ∷ ms) =
    with_arguments (put_term (t_ann m (y_mono (put_into_mono puts t))) ∷ puts) ts ms
with_arguments puts _ _ = puts

-- the body at a heap, its monotypes replaced by those given, its parameters by the arguments
abbrev pub used_at : PredTree → List MonoTree → List TermTree → ℕ → FormulaTree
used_at p monos arguments heap =
    put_into_formula (put_heap heap ∷ with_arguments (with_monos [] monos) p.params arguments) p.body
