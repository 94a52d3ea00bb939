-- Environments and recursive predicates of the code. The entries of an environment are the context of a phrase, which
-- the definitions keep apart.
use Rattle.std.specs.Prelude.{map}
use Rattle.htt_syntax.specs.declared.sequent.Env.{Env}
use Rattle.htt_syntax.specs.declared.sequent.RecPred.{RecPred}
use Rattle.htt_syntax.specs.declared.tree.Ty.{Ty}
use Rattle.htt_syntax.specs.declared.tree.Term.{Term}
use Rattle.htt_syntax.specs.Trees.{TyTree, TermTree}
use Rattle.htt_syntax.specs.Views.{mono_tree, ty_tree, term_tree, formula_tree}
use Rattle.theory_truth.specs.Predicates.{RecTree}
use Rattle.theory_typing.specs.Contexts.{Context, Environment}
use Rattle.theory_views.specs.Contexts.{context_of}

unfoldable pub rec_tree : RecPred → RecTree
rec_tree r = record { params = map mono_tree r.params; at_zero = formula_tree r.zero; at_next = formula_tree r.next }

abbrev pub def_tree : Ty × Term → TyTree × TermTree
def_tree d = (ty_tree d.0, term_tree d.1)

unfoldable pub environment_tree : Env → Environment
environment_tree env =
    record { vals = map ty_tree env.vals; defs = map def_tree env.defs; recs = map rec_tree env.recs }

-- the context in which the entries of an environment stand
abbrev pub context_in : Env → Context
context_in env = context_of env.entries
