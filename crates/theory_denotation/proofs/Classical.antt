-- Truth in valuations is stable under double negation.
use Rattle.std.proofs.Common.{◌∷◌}
use Rattle.htt_syntax.specs.Trees.{FormulaTree, f_tt, f_ff, f_and, f_or, f_imp, f_all_t, f_ex_t, f_all_h, f_ex_h, f_emp, f_cell, f_block, f_join, f_same, f_eq}
use Rattle.htt_syntax.specs.Trees.{f_at, f_rec}
use Rattle.theory_truth.specs.Truth.{Recs}
use Rattle.theory_truth.specs.Predicates.{recs_of}
use Rattle.theory_truth.proofs.Stable.{Stable, StableRecs, block_stable, joins_stable, value_stable, classical as truth_classical, only_stable, is_block_stable}
use Rattle.theory_canonical.specs.Skeletons.{sk_o}
use Rattle.theory_denotation.specs.Valuations.{den_heap, den_term, Valuation, HeadEntries}
use Rattle.theory_denotation.specs.Satisfaction.{Satisfies}
use Rattle.theory_denotation.specs.Laws.{SatisfactionIsClassical}

pub stable : (R : Recs) → StableRecs R → (e : HeadEntries) (F : FormulaTree) (w : Valuation) → Stable (Satisfies R e w F)
unfolding Satisfies
stable R s e f_tt w h = tt
stable R s e f_ff w h = h (λ k. k)
stable R s e (f_and left right) w h = (stable R s e left w (λ k. h (λ p. k p.0)), stable R s e right w (λ k. h (λ p. k p.1)))
stable R s e (f_or left right) w h = λ k. h (λ p. p k)
stable R s e (f_imp left right) w h = λ a. stable R s e right w (λ k. h (λ p. k (p a)))
stable R s e (f_all_t mono body) w h = λ v typed. stable R s e body (den_term sk_o v ∷ w) (λ k. h (λ p. k (p v typed)))
stable R s e (f_ex_t mono body) w h = λ k. h (λ p. p k)
stable R s e (f_all_h body) w h = λ g is. stable R s e body (den_heap g ∷ w) (λ k. h (λ p. k (p g is)))
stable R s e (f_ex_h body) w h = λ k. h (λ p. p k)
stable R s e (f_emp heap) w h = record { each = λ l. block_stable _ _ (λ k. h (λ p. k (p.each l))) }
stable R s e (f_cell mono heap place value) w h = only_stable _ _ _ h
stable R s e (f_block mono heap place) w h = is_block_stable _ _ _ h
stable R s e (f_join whole left right) w h = record { each = λ l. joins_stable _ _ _ (λ k. h (λ p. k (p.each l))) }
stable R s e (f_same left right) w h = record { each = λ l. block_stable _ _ (λ k. h (λ p. k (p.each l))) }
stable R s e (f_eq mono left right) w h = value_stable _ _ h
stable R s e (f_at at formula) w h = stable R s e formula w h
stable R s e (f_rec number heap place arguments) w h = s.at _ _ _ _ h

pub classical : SatisfactionIsClassical
classical table e w formula h = stable (recs_of table) (record { at = λ p j vs g. truth_classical.tables table p j vs g }) e formula w h
