-- What folding sees of a term: a literal, a pair, or neither; and what a term is folded to by what is seen of its parts.
use Rattle.std.specs.Prelude.{ℕ, Bool, true, false, not, Option, Some, None, nat_eq, List}
use Rattle.htt_syntax.specs.declared.mono.Op.{Op}
use Rattle.htt_syntax.specs.Trees.{MonoTree, TermTree, m_word, m_bool, m_loc, t_word, t_bool, t_loc, t_pair}
use Rattle.theory_values.specs.Values.{bool_eq}
use Rattle.theory_canonical.specs.Folding.{op_literal}
use Rattle.shared_terms_rows.specs.Parts.{Part, as_term}
use Rattle.shared_terms_rows.specs.Rows.{at}
use Rattle.shared_terms_folding.specs.declared.shape.Shape.{Shape}
use Rattle.shared_terms_folding.specs.declared.shape.Shape.TheVariants as shapes

pub data TermShape : Type 0 where
  a_word : ℕ → TermShape
  a_bool : Bool → TermShape
  a_loc : ℕ → TermShape
  a_pair : TermTree → TermTree → TermShape
  another : TermShape

unfoldable pub shape_of : TermTree → TermShape
shape_of (t_word word) = a_word word
shape_of (t_bool truth) = a_bool truth
shape_of (t_loc place) = a_loc place
shape_of (t_pair left right) = a_pair left right
shape_of other = another

-- the shape that the code tells, by places
abbrev pub shape_in : List Part → Shape → TermShape
shape_in parts (shapes.Word word) = a_word word
shape_in parts (shapes.Bool truth) = a_bool truth
shape_in parts (shapes.Loc place) = a_loc place
shape_in parts (shapes.Pair left right) = a_pair (as_term (at parts left)) (as_term (at parts right))
shape_in parts shapes.Other = another

-- what a term is folded to, if it is
abbrev pub folded_bin : Op → TermShape → TermShape → Option TermTree
folded_bin op (a_word x) (a_word y) = Some (op_literal op x y)
folded_bin op a b = None

abbrev pub folded_not : TermShape → Option TermTree
folded_not (a_bool truth) = Some (t_bool (not truth))
folded_not other = None

abbrev pub folded_eq : MonoTree → TermShape → TermShape → Option TermTree
folded_eq m_word (a_word x) (a_word y) = Some (t_bool (nat_eq x y))
folded_eq m_bool (a_bool x) (a_bool y) = Some (t_bool (bool_eq x y))
folded_eq m_loc (a_loc x) (a_loc y) = Some (t_bool (nat_eq x y))
folded_eq mono a b = None

abbrev pub folded_fst : TermShape → Option TermTree
folded_fst (a_pair left right) = Some left
folded_fst other = None

abbrev pub folded_snd : TermShape → Option TermTree
folded_snd (a_pair left right) = Some right
folded_snd other = None

abbrev pub folded_sel : TermShape → TermTree → TermTree → Option TermTree
folded_sel (a_bool true) on_true on_false = Some on_true
folded_sel (a_bool false) on_true on_false = Some on_false
folded_sel other on_true on_false = None
