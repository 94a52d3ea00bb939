-- The value of a canonical term of a monotype in a world of a first-order context. A term of another
-- form has the unit value, on which nothing rests.
use Rattle.std.specs.Prelude.{ℕ, List, [], ◌∷◌, Option, Some, None}
use Rattle.htt_syntax.specs.Trees.{TermTree, TermTrees, t_var, t_word, t_bool, t_loc, t_unit, t_pair, t_fst, t_snd}
use Rattle.htt_syntax.specs.Trees.{t_not, t_bin, t_eq, t_sel, t_at, no_terms, more_terms}
use Rattle.theory_values.specs.Values.{Value, v_word, v_bool, v_loc, v_unit, v_pair, value_of_op, value_of_not}
use Rattle.theory_values.specs.Values.{value_of_eq, value_of_sel, value_of_fst, value_of_snd}
use Rattle.theory_truth.specs.Worlds.{World, value_at, mono_under}

abbrev pub value_or_unit : Option Value → Value
value_or_unit (Some v) = v
value_or_unit None = v_unit

unfoldable pub term_value : World → TermTree → Value
term_value w (t_var index) = value_at w index
term_value w (t_word word) = v_word word
term_value w (t_bool truth) = v_bool truth
term_value w (t_loc place) = v_loc place
term_value w t_unit = v_unit
term_value w (t_pair left right) = v_pair (term_value w left) (term_value w right)
term_value w (t_fst pair) = value_or_unit (value_of_fst (term_value w pair))
term_value w (t_snd pair) = value_or_unit (value_of_snd (term_value w pair))
term_value w (t_not term) = value_or_unit (value_of_not (term_value w term))
term_value w (t_bin op left right) = value_or_unit (value_of_op op (term_value w left) (term_value w right))
term_value w (t_eq mono left right) =
    value_or_unit (value_of_eq (mono_under w mono) (term_value w left) (term_value w right))
term_value w (t_sel mono test on_true on_false) =
    value_or_unit (value_of_sel (term_value w test) (term_value w on_true) (term_value w on_false))
term_value w (t_at at term) = term_value w term
term_value w _ = v_unit

unfoldable pub term_values : World → TermTrees → List Value
term_values w no_terms = []
term_values w (more_terms first others) = term_value w first ∷ term_values w others

-- The word of a word, and the location of a location.
abbrev pub word_of : Value → ℕ
word_of (v_word n) = n
word_of _ = 0

abbrev pub loc_of : Value → ℕ
loc_of (v_loc n) = n
loc_of _ = 0
