-- Contexts and sequents of the code. Their outermost entry comes first, and a context of the definitions has its
-- innermost entry first, so a view turns a context round. Hypotheses keep their order.
use Rattle.std.specs.Prelude.{List, map, reverse}
use Rattle.htt_syntax.specs.declared.sequent.Entry.{Entry}
use Rattle.htt_syntax.specs.declared.sequent.Entry.TheVariants as entries
use Rattle.htt_syntax.specs.declared.sequent.Sequent.{Sequent}
use Rattle.htt_syntax.specs.Trees.{FormulaTree}
use Rattle.htt_syntax.specs.Views.{ty_tree, formula_tree}
use Rattle.theory_typing.specs.Contexts.{EntryTree, en_mono, en_term, en_heap, Context, Obligation}

abbrev pub entry_tree : Entry → EntryTree
entry_tree entries.Mono = en_mono
entry_tree (entries.Term ty) = en_term (ty_tree ty)
entry_tree entries.Heap = en_heap

abbrev pub context_of : List Entry → Context
context_of entries = reverse (map entry_tree entries)

-- A goal under hypotheses, the first of which is the outermost.
pub record SequentTree : Type 0 where
  pub context : Context
  pub hypotheses : List FormulaTree
  pub goal : FormulaTree

unfoldable pub sequent_tree : Sequent → SequentTree
sequent_tree s =
    record { context = context_of s.context; hypotheses = map formula_tree s.hyps; goal = formula_tree s.goal }

-- an obligation is a sequent without hypotheses
abbrev pub obligation_tree : Sequent → Obligation
obligation_tree s = record { context = context_of s.context; goal = formula_tree s.goal }
