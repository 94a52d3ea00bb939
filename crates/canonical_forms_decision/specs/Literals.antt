-- What of a term folding looks at.
use Rattle.std.specs.Prelude.{Bool, true, false, not, ◌&&◌}
use Rattle.htt_syntax.specs.Trees.{MonoTree, TermTree, m_word, m_bool, m_loc, t_word, t_bool, t_loc, t_pair}
use Rattle.canonical_forms_decision.specs.declared.folding.Literal.{Literal}
use Rattle.canonical_forms_decision.specs.declared.folding.Literal.TheVariants as literal

unfoldable pub literal_of : TermTree → Literal
literal_of (t_word word) = literal.Word
literal_of (t_bool truth) = literal.Bool
literal_of (t_loc place) = literal.Loc
literal_of (t_pair left right) = literal.Pair
literal_of _ = literal.Other

abbrev pub is_word : Literal → Bool
is_word literal.Word = true
is_word _ = false

abbrev pub is_bool : Literal → Bool
is_bool literal.Bool = true
is_bool _ = false

abbrev pub is_loc : Literal → Bool
is_loc literal.Loc = true
is_loc _ = false

abbrev pub is_pair : Literal → Bool
is_pair literal.Pair = true
is_pair _ = false

-- whether a comparison stays
abbrev pub eq_stays : MonoTree → Literal → Literal → Bool
eq_stays m_word x y = not (is_word x && is_word y)
eq_stays m_bool x y = not (is_bool x && is_bool y)
eq_stays m_loc x y = not (is_loc x && is_loc y)
eq_stays _ x y = true
