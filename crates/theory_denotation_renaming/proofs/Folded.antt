-- Folding keeps a term's value.
use Rattle.std.proofs.Common.{◌≡◌, ℕ, true, false, refl}
use Rattle.htt_syntax.specs.declared.mono.Op.{Op}
use Rattle.htt_syntax.specs.declared.mono.Op.TheVariants.{Lt}
use Rattle.htt_syntax.specs.Trees.{m_word, m_bool, m_loc, t_word, t_bool, t_loc, t_pair, t_fst, t_snd, t_not, t_bin, t_eq, t_sel}
use Rattle.theory_values.specs.Values.{op_value}
use Rattle.theory_canonical.specs.Skeletons.{sk_o}
use Rattle.theory_canonical.specs.Folding.{contractum, op_literal}
use Rattle.theory_denotation.specs.Valuations.{Valuation, HeadEntries}
use Rattle.theory_denotation.specs.Denotation.{term_den}
use Rattle.theory_denotation_renaming.specs.Laws.{FoldingKeepsDenotations}

literal_value : (e : HeadEntries) (w : Valuation) (op : Op) (x y : ℕ) → term_den e w (op_literal op x y) sk_o ≡ op_value op x y
unfolding term_den
literal_value e w Lt x y = refl
literal_value e w _ x y = refl

pub folded : FoldingKeepsDenotations
unfolding contractum term_den
folded e w (t_bin op (t_word x) (t_word y)) = literal_value e w op x y
folded e w (t_not (t_bool x)) = refl
folded e w (t_eq m_word (t_word x) (t_word y)) = refl
folded e w (t_eq m_bool (t_bool x) (t_bool y)) = refl
folded e w (t_eq m_loc (t_loc x) (t_loc y)) = refl
folded e w (t_fst (t_pair left right)) = refl
folded e w (t_snd (t_pair left right)) = refl
folded e w (t_sel mono (t_bool true) on_true on_false) = refl
folded e w (t_sel mono (t_bool false) on_true on_false) = refl
folded e w _ = refl
