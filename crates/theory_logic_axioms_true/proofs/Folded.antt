-- Folding keeps values, whatever the operands are.
use Rattle.std.proofs.Common.{◌≡◌, ℕ, refl}
use Rattle.std.specs.Prelude.{true, false}
use Rattle.htt_syntax.specs.declared.mono.Op.{Op}
use Rattle.htt_syntax.specs.declared.mono.Op.TheVariants.{Add, Sub, Mul, And, Or, Xor, Shl, Shr, Lt}
use Rattle.htt_syntax.specs.Trees.{m_word, m_bool, m_loc, t_word, t_bool, t_loc, t_pair, t_fst, t_snd, t_not, t_bin, t_eq, t_sel}
use Rattle.theory_values.specs.Values.{op_value}
use Rattle.theory_canonical.specs.Folding.{op_literal, contractum}
use Rattle.theory_truth.specs.Worlds.{World}
use Rattle.theory_truth.specs.TermValue.{term_value}
use Rattle.theory_logic_axioms_true.specs.TermLaws.{FoldingKeepsValues}

op_folded : (w : World) (op : Op) (x y : ℕ) → term_value w (op_literal op x y) ≡ op_value op x y
unfolding term_value
op_folded w Add x y = refl
op_folded w Sub x y = refl
op_folded w Mul x y = refl
op_folded w And x y = refl
op_folded w Or x y = refl
op_folded w Xor x y = refl
op_folded w Shl x y = refl
op_folded w Shr x y = refl
op_folded w Lt x y = refl

pub folded : FoldingKeepsValues
unfolding term_value contractum
folded w (t_bin op (t_word x) (t_word y)) = op_folded w op x y
folded w (t_not (t_bool x)) = refl
folded w (t_eq m_word (t_word x) (t_word y)) = refl
folded w (t_eq m_bool (t_bool x) (t_bool y)) = refl
folded w (t_eq m_loc (t_loc x) (t_loc y)) = refl
folded w (t_fst (t_pair left right)) = refl
folded w (t_snd (t_pair left right)) = refl
folded w (t_sel mono (t_bool true) on_true on_false) = refl
folded w (t_sel mono (t_bool false) on_true on_false) = refl
folded w _ = refl
