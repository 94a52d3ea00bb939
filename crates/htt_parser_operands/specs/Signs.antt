-- The signs between operands, as the grammar names them.
use Rattle.std.specs.Prelude.{ℕ, List, [], ◌∷◌, Option, None}
use Rattle.htt_lexer_tokens.specs.declared.tokens.Kind.{Kind}
use Rattle.htt_lexer_tokens.specs.declared.tokens.Token.{Token}
use Rattle.htt_parser_trees.specs.declared.place.Binder.{Binder}
use Rattle.htt_parser_trees.specs.Trees.{ProdSign, SumSign, times, ampersand, shift_left, shift_right, plus, minus, bar}
use Rattle.htt_parser_trees.specs.Trees.{caret, RawSortTree, RawFormulaTree, f_all, f_ex}
use Rattle.htt_parser_operands.specs.declared.signs.TimesSign.{TimesSign}
use Rattle.htt_parser_operands.specs.declared.signs.TimesSign.TheVariants as times_signs
use Rattle.htt_parser_operands.specs.declared.signs.PlusSign.{PlusSign}
use Rattle.htt_parser_operands.specs.declared.signs.PlusSign.TheVariants as plus_signs

abbrev pub times_tree : TimesSign → ProdSign
times_tree times_signs.Star = times
times_tree times_signs.Ampersand = ampersand
times_tree times_signs.ShiftLeft = shift_left
times_tree times_signs.ShiftRight = shift_right

abbrev pub plus_tree : PlusSign → SumSign
plus_tree plus_signs.Plus = plus
plus_tree plus_signs.Minus = minus
plus_tree plus_signs.Bar = bar
plus_tree plus_signs.Caret = caret

-- the operator that the first token is, if it is one
abbrev pub first_sign : {S : Type 0} → (Kind → Option S) → List Token → Option S
first_sign sign_of [] = None
first_sign sign_of (token ∷ tokens) = sign_of token.kind
