-- The size of a tree as 64 bits hold it: its nodes and its depth, of which 2^64 - 1 stands for all that is more. The
-- depth of a computation, of a recursive function and of a list is that under its own node.
use Rattle.std.specs.Prelude.{◌≡◌, ℕ, suc, ◌+◌, max, List, length, Option, Result, IfOk}
use Rattle.htt_syntax.specs.Trees.{MonoTree, TyTree, TripleTree, TermTree, FixTree, CompTree, StepTree, FormulaTree}
use Rattle.htt_syntax.specs.Trees.{TermTrees}
use Rattle.htt_syntax.specs.Levels.{params_tree, steps_tree}
use Rattle.htt_syntax.specs.declared.tree.Ty.{Ty}
use Rattle.htt_syntax.specs.declared.tree.Step.{Step}
use Rattle.htt_syntax_walk.specs.Walk.{Puts, walk_term, walk_fix, walk_comp}
use Rattle.theory_saturation.specs.Saturation.{saturated}
use Rattle.theory_counts.specs.Nodes.{nodes_mono, nodes_option, nodes_ty, nodes_triple, nodes_term, nodes_fix}
use Rattle.theory_counts.specs.Nodes.{nodes_comp, nodes_step, nodes_formula, nodes_terms}
use Rattle.theory_counts.specs.Depth.{depth_mono, depth_option, depth_ty, depth_triple, depth_term, within_fix}
use Rattle.theory_counts.specs.Depth.{within_comp, depth_step, depth_formula, depth_terms}
use Rattle.htt_syntax_measure.specs.declared.size.Size.{Size}

-- so many nodes, and such a depth
unfoldable pub told : ℕ → ℕ → Size
told nodes depth = record { nodes = saturated nodes; depth = saturated depth }

-- ---- from parts

unfoldable pub nothing : Size
nothing = record { nodes = 0; depth = 0 }

unfoldable pub leaf : Size
leaf = record { nodes = 1; depth = 1 }

-- trees side by side
unfoldable pub beside : Size → Size → Size
beside a b = record { nodes = saturated (a.nodes + b.nodes); depth = max a.depth b.depth }

-- a node over what measures so much
unfoldable pub node : Size → Size
node a = record { nodes = saturated (suc a.nodes); depth = saturated (suc a.depth) }

unfoldable pub node_of_two : Size → Size → Size
node_of_two a b = node (beside a b)

unfoldable pub node_of_three : Size → Size → Size → Size
node_of_three a b c = node (beside (beside a b) c)

unfoldable pub node_of_four : Size → Size → Size → Size → Size
node_of_four a b c d = node_of_three (beside a b) c d

-- the node of a computation or a recursive function counts at its end, and its level where it stands
unfoldable pub counted : Size → Size
counted a = record { nodes = saturated (suc a.nodes); depth = a.depth }

unfoldable pub deeper : Size → Size
deeper a = record { nodes = a.nodes; depth = saturated (suc a.depth) }

-- what was measured, if it was, has this size
abbrev pub IsSize : {E : Type 0} → Result Size E → Size → Type 0
IsSize result size = IfOk result (λ z. z ≡ size)

-- ---- of trees

unfoldable pub mono_measure : MonoTree → Size
mono_measure t = told (nodes_mono t) (depth_mono t)

unfoldable pub option_measure : Option MonoTree → Size
option_measure t = told (nodes_option t) (depth_option t)

unfoldable pub ty_measure : TyTree → Size
ty_measure A = told (nodes_ty A) (depth_ty A)

unfoldable pub triple_measure : TripleTree → Size
triple_measure T = told (nodes_triple T) (depth_triple T)

unfoldable pub term_measure : TermTree → Size
term_measure M = told (nodes_term M) (depth_term M)

unfoldable pub fix_measure : FixTree → Size
fix_measure X = told (nodes_fix X) (within_fix X)

unfoldable pub comp_measure : CompTree → Size
comp_measure E = told (nodes_comp E) (within_comp E)

unfoldable pub step_measure : StepTree → Size
step_measure S = told (nodes_step S) (depth_step S)

unfoldable pub formula_measure : FormulaTree → Size
formula_measure F = told (nodes_formula F) (depth_formula F)

unfoldable pub terms_measure : TermTrees → Size
terms_measure Ms = told (nodes_terms Ms) (depth_terms Ms)

-- ---- of rows in which each part stands under those before it, with what is put for their variables

-- what parameters add to the size of what stands under them
abbrev pub AreParams : Puts → ℕ → List Ty → Size → Type 0
AreParams p d params z =
    (rest : FixTree) →
    fix_measure (walk_fix p d (params_tree params rest)) ≡ beside z (fix_measure (walk_fix p (d + length params) rest))

-- what steps add to the size of the result
abbrev pub AreSteps : Puts → ℕ → List Step → Size → Type 0
AreSteps p d steps z =
    (end : TermTree) →
    comp_measure (walk_comp p d (steps_tree steps end))
    ≡ beside z (counted (term_measure (walk_term p (d + length steps) end)))
