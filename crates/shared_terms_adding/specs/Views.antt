-- What the borrowed trees of the code are.
use Rattle.std.specs.Prelude.{Option, option_map, drop}
use Rattle.htt_syntax.specs.Trees.{x_body}
use Rattle.htt_syntax.specs.Views.{mono_tree, ty_tree, term_tree, step_tree, formula_tree}
use Rattle.htt_syntax.specs.Levels.{term_trees, params_tree, steps_tree, triple_tree, comp_tree}
use Rattle.shared_terms_rows.specs.Parts.{Part, of_mono, of_ty, of_triple, of_term, of_terms, of_fix, of_comp, of_step}
use Rattle.shared_terms_rows.specs.Parts.{of_formula}
use Rattle.shared_terms_adding.specs.declared.tree.Tree.{Tree}
use Rattle.shared_terms_adding.specs.declared.tree.Tree.TheVariants as trees

abbrev pub part_of : Tree → Part
part_of (trees.Mono x) = of_mono (mono_tree x.now)
part_of (trees.Ty x) = of_ty (ty_tree x.now)
part_of (trees.Triple x) = of_triple (triple_tree x.now)
part_of (trees.FixTriple fix) = of_triple (triple_tree fix.now.triple)
part_of (trees.Term x) = of_term (term_tree x.now)
part_of (trees.Terms x) = of_terms (term_trees x.now)
part_of (trees.Fix fix from) =
    of_fix (params_tree (drop from fix.now.params) (x_body (triple_tree fix.now.triple) (comp_tree fix.now.body)))
part_of (trees.Comp comp from) = of_comp (steps_tree (drop from comp.now.steps) (term_tree comp.now.result))
part_of (trees.Step x) = of_step (step_tree x.now)
part_of (trees.Formula x) = of_formula (formula_tree x.now)

abbrev pub part_in : Option Tree → Option Part
part_in slot = option_map part_of slot
