-- Folding: an operation on literals of its own monotypes, a part of a pair, and a choice by a truth
-- literal are computed. Nothing else is.
use Rattle.std.specs.Prelude.{ℕ, true, false, not, Option, Some, None, nat_eq}
use Rattle.htt_syntax.specs.declared.mono.Op.{Op}
use Rattle.htt_syntax.specs.Trees.{TermTree, m_word, m_bool, m_loc, t_word, t_bool, t_loc, t_unit, t_pair, t_fst, t_snd}
use Rattle.htt_syntax.specs.Trees.{t_not, t_bin, t_eq, t_sel}
use Rattle.theory_values.specs.Values.{Value, v_word, v_bool, v_loc, v_unit, v_pair, op_value, bool_eq}

-- a value as a literal
abbrev pub literal : Value → TermTree
literal (v_word n) = t_word n
literal (v_bool b) = t_bool b
literal (v_loc n) = t_loc n
literal v_unit = t_unit
literal (v_pair x y) = t_pair (literal x) (literal y)

-- what an operation gives for two words, as a literal
abbrev pub op_literal : Op → ℕ → ℕ → TermTree
op_literal op x y = literal (op_value op x y)

-- What a term is folded to, if it is folded.
unfoldable pub contractum : TermTree → Option TermTree
contractum (t_bin op (t_word x) (t_word y)) = Some (op_literal op x y)
contractum (t_not (t_bool x)) = Some (t_bool (not x))
contractum (t_eq m_word (t_word x) (t_word y)) = Some (t_bool (nat_eq x y))
contractum (t_eq m_bool (t_bool x) (t_bool y)) = Some (t_bool (bool_eq x y))
contractum (t_eq m_loc (t_loc x) (t_loc y)) = Some (t_bool (nat_eq x y))
contractum (t_fst (t_pair left right)) = Some left
contractum (t_snd (t_pair left right)) = Some right
contractum (t_sel mono (t_bool true) on_true on_false) = Some on_true
contractum (t_sel mono (t_bool false) on_true on_false) = Some on_false
contractum _ = None

abbrev pub or_itself : Option TermTree → TermTree → TermTree
or_itself (Some result) term = result
or_itself None term = term

-- The term, folded if it can be.
abbrev pub folding : TermTree → TermTree
folding term = or_itself (contractum term) term
