-- What folding sees of a term at its root: a literal, or a pair.
use Rattle.std.specs.Prelude.{ℕ, Bool, Option, Some, None, option_map, nat_eq}
use Rattle.htt_syntax.specs.Trees.{MonoTree, TermTree, m_word, m_bool, m_loc, t_word, t_bool, t_loc, t_pair}
use Rattle.theory_values.specs.Values.{bool_eq}

abbrev pub word_of : TermTree → Option ℕ
word_of (t_word word) = Some word
word_of _ = None

abbrev pub bool_of : TermTree → Option Bool
bool_of (t_bool truth) = Some truth
bool_of _ = None

abbrev pub loc_of : TermTree → Option ℕ
loc_of (t_loc place) = Some place
loc_of _ = None

abbrev pub pair_of : TermTree → Option (TermTree × TermTree)
pair_of (t_pair left right) = Some (left, right)
pair_of _ = None

abbrev pub both : {X : Type 0} → Option X → Option X → Option (X × X)
both (Some x) (Some y) = Some (x, y)
both (Some x) None = None
both None y = None

-- whether two literals are equal, where they are of this monotype and values of it are compared
abbrev pub compared : MonoTree → TermTree → TermTree → Option Bool
compared m_word left right = option_map (λ p. nat_eq p.0 p.1) (both (word_of left) (word_of right))
compared m_bool left right = option_map (λ p. bool_eq p.0 p.1) (both (bool_of left) (bool_of right))
compared m_loc left right = option_map (λ p. nat_eq p.0 p.1) (both (loc_of left) (loc_of right))
compared _ left right = None
