-- The quantifiers, as the grammar names them.
use Rattle.std.specs.Prelude.{ℕ, List, [], ◌∷◌, Option, None}
use Rattle.htt_lexer_tokens.specs.declared.tokens.Kind.{Kind}
use Rattle.htt_lexer_tokens.specs.declared.tokens.Token.{Token}
use Rattle.htt_parser_trees.specs.declared.place.Binder.{Binder}
use Rattle.htt_parser_trees.specs.Trees.{ProdSign, SumSign, times, ampersand, shift_left, shift_right, plus, minus, bar}
use Rattle.htt_parser_trees.specs.Trees.{caret, RawSortTree, RawFormulaTree, f_all, f_ex}
use Rattle.htt_parser_formulas.specs.declared.formulas.Quantifier.{Quantifier}
use Rattle.htt_parser_formulas.specs.declared.formulas.Quantifier.TheVariants as quantifiers

abbrev pub quantifier_tree : Quantifier → ℕ → Binder → RawSortTree → RawFormulaTree → RawFormulaTree
quantifier_tree quantifiers.All = f_all
quantifier_tree quantifiers.Ex = f_ex
