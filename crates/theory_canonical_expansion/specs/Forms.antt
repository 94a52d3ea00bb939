-- What an expansion makes at a computation, and how far it goes on at a type.
use Rattle.std.specs.Prelude.{ℕ, zero, suc, ◌+◌, Some}
use Rattle.htt_syntax.specs.Trees.{MonoTree, TyTree, TripleTree, TermTree, CompTree, triple, t_var, c_ret, c_step, s_run}
use Rattle.htt_syntax.specs.Trees.{y_mono, y_fun, y_all, y_hoare, y_at}

-- the computation that runs a term and answers its result
abbrev pub run_of : TermTree → MonoTree → CompTree
run_of term mono = c_step (s_run term (Some mono)) (c_ret (t_var zero))

-- the monotype of the result that a triple tells
abbrev pub result_of : TripleTree → MonoTree
result_of (triple pre mono post) = mono

-- the forms of a type that an expansion goes through, positions counted too
unfoldable pub rungs : TyTree → ℕ
rungs (y_mono mono) = 1
rungs (y_fun argument answer) = suc (rungs argument + rungs answer)
rungs (y_all body) = suc (rungs body)
rungs (y_hoare spec) = 1
rungs (y_at at ty) = suc (rungs ty)
