-- What was made has this tree; where memory was wanting nothing is said.
use Rattle.std.specs.Prelude.{◌≡◌, Option, Some, Result, IfOk}
use Rattle.htt_syntax.specs.declared.mono.Mono.{Mono}
use Rattle.htt_syntax.specs.declared.tree.Term.{Term}
use Rattle.htt_syntax.specs.declared.tree.Formula.{Formula}
use Rattle.htt_syntax.specs.Trees.{MonoTree, TermTree, FormulaTree}
use Rattle.htt_syntax.specs.Views.{mono_tree, term_tree, formula_tree}

abbrev pub MakesMono : {E : Type 0} → Result Mono E → MonoTree → Type 0
MakesMono made t = IfOk made (λ m. mono_tree m ≡ t)

abbrev pub MakesTerm : {E : Type 0} → Result Term E → TermTree → Type 0
MakesTerm made t = IfOk made (λ m. term_tree m ≡ t)

abbrev pub Makes : {E : Type 0} → Result Formula E → FormulaTree → Type 0
Makes made f = IfOk made (λ m. formula_tree m ≡ f)

-- the same of what a step owes, which is there
abbrev pub MakesOwed : {E : Type 0} → Result Formula E → Option FormulaTree → Type 0
MakesOwed made owed = IfOk made (λ m. Some (formula_tree m) ≡ owed)
