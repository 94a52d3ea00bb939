-- Positions say nothing.
use Rattle.std.proofs.Common.{◌≡◌, ◌∷◌, refl, sym, ap, ◌∙◌, subst, ◌⊎◌, ◌↔◌}
use Rattle.htt_syntax.specs.Trees.{TermTree, FormulaTree, TermTrees, t_var, t_val, t_def, t_app, t_inst, t_lam, t_lam_t, t_do, t_fix, t_word, t_bool, t_loc}
use Rattle.htt_syntax.specs.Trees.{t_unit, t_pair, t_fst, t_snd, t_not, t_bin, t_eq, t_sel, t_ann, t_made, t_at, f_tt, f_ff, f_and, f_or, f_imp, f_all_t}
use Rattle.htt_syntax.specs.Trees.{f_ex_t, f_all_h, f_ex_h, f_emp, f_cell, f_block, f_join, f_same, f_eq, f_at, f_rec, no_terms, more_terms}
use Rattle.theory_values.specs.Values.{Value, v_pair, HasType, encoding, width, value_of_op, value_of_not, value_of_eq, value_of_sel, value_of_fst}
use Rattle.theory_values.specs.Values.{value_of_snd}
use Rattle.theory_values.specs.Heaps.{Heap, IsHeap, IsOnly}
use Rattle.theory_truth.specs.Worlds.{World, th_value, th_heap, heap_at, mono_under}
use Rattle.theory_truth.specs.TermValue.{value_or_unit, term_value, term_values, word_of, loc_of}
use Rattle.theory_truth.specs.Truth.{NotNot, IsBlock, Recs, Holds}
use Rattle.theory_truth.specs.Predicates.{recs_of}
use Rattle.theory_truth.proofs.Renamed.{both_ways}
use Rattle.theory_typing.specs.Positions.{plain_term, plain_formula, plain_terms}
use Rattle.theory_logic_axioms_true.specs.TermLaws.{PositionsKeepTruth}

pub plain_value : (w : World) (M : TermTree) → term_value w (plain_term M) ≡ term_value w M
unfolding term_value plain_term
plain_value w (t_var index) = refl
plain_value w (t_val number) = refl
plain_value w (t_def number) = refl
plain_value w (t_app function argument) = refl
plain_value w (t_inst function mono) = refl
plain_value w (t_lam body) = refl
plain_value w (t_lam_t body) = refl
plain_value w (t_do comp) = refl
plain_value w (t_fix at fix) = refl
plain_value w (t_word word) = refl
plain_value w (t_bool truth) = refl
plain_value w (t_loc place) = refl
plain_value w t_unit = refl
plain_value w (t_pair left right) = λ j. v_pair (plain_value w left j) (plain_value w right j)
plain_value w (t_fst pair) = λ j. value_or_unit (value_of_fst (plain_value w pair j))
plain_value w (t_snd pair) = λ j. value_or_unit (value_of_snd (plain_value w pair j))
plain_value w (t_not term) = λ j. value_or_unit (value_of_not (plain_value w term j))
plain_value w (t_bin op left right) = λ j. value_or_unit (value_of_op op (plain_value w left j) (plain_value w right j))
plain_value w (t_eq mono left right) = λ j. value_or_unit (value_of_eq (mono_under w mono) (plain_value w left j) (plain_value w right j))
plain_value w (t_sel mono test on_true on_false) = λ j. value_or_unit (value_of_sel (plain_value w test j) (plain_value w on_true j) (plain_value w on_false j))
plain_value w (t_ann term ty) = refl
plain_value w (t_made number values) = refl
plain_value w (t_at at term) = plain_value w term

pub plain_values : (w : World) (Ms : TermTrees) → term_values w (plain_terms Ms) ≡ term_values w Ms
unfolding term_values plain_terms
plain_values w no_terms = refl
plain_values w (more_terms first others) = λ j. plain_value w first j ∷ plain_values w others j

-- truth is equal as a type
pub plain_truth : (R : Recs) (F : FormulaTree) (w : World) → Holds R w (plain_formula F) ≡ Holds R w F
unfolding Holds plain_formula
plain_truth R f_tt w = refl
plain_truth R f_ff w = refl
plain_truth R (f_and left right) w = λ j. plain_truth R left w j × plain_truth R right w j
plain_truth R (f_or left right) w = λ j. NotNot (plain_truth R left w j ⊎ plain_truth R right w j)
plain_truth R (f_imp left right) w = λ j. plain_truth R left w j → plain_truth R right w j
plain_truth R (f_all_t mono body) w = λ j. (v : Value) → HasType v (mono_under w mono) → plain_truth R body (th_value v ∷ w) j
plain_truth R (f_ex_t mono body) w = λ j. NotNot ((v : Value) × HasType v (mono_under w mono) × plain_truth R body (th_value v ∷ w) j)
plain_truth R (f_all_h body) w = λ j. (h : Heap) → IsHeap h → plain_truth R body (th_heap h ∷ w) j
plain_truth R (f_ex_h body) w = λ j. NotNot ((h : Heap) × IsHeap h × plain_truth R body (th_heap h ∷ w) j)
plain_truth R (f_emp heap) w = refl
plain_truth R (f_cell mono heap place value) w = λ j. IsOnly (heap_at w heap) (loc_of (plain_value w place j)) (encoding (plain_value w value j))
plain_truth R (f_block mono heap place) w =
    λ j. IsBlock (heap_at w heap) (loc_of (plain_value w place j)) (width (mono_under w mono))
plain_truth R (f_join whole left right) w = refl
plain_truth R (f_same left right) w = refl
plain_truth R (f_eq mono left right) w = λ j. plain_value w left j ≡ plain_value w right j
plain_truth R (f_at at formula) w = plain_truth R formula w
plain_truth R (f_rec number heap place arguments) w = λ j. R number (word_of (plain_value w place j)) (plain_values w arguments j) (heap_at w heap)

pub same_value : (w : World) (M N : TermTree) → plain_term M ≡ plain_term N → term_value w M ≡ term_value w N
same_value w M N e = sym (plain_value w M) ∙ ap (term_value w) e ∙ plain_value w N

pub same_truth : (R : Recs) (w : World) (F G : FormulaTree) → plain_formula F ≡ plain_formula G → Holds R w F ↔ Holds R w G
same_truth R w F G e =
    let x = both_ways (plain_truth R F w) in
    let y = both_ways (plain_truth R G w) in (λ h. y.0 (subst (Holds R w) e (x.1 h)), λ h. x.0 (subst (Holds R w) (sym e) (y.1 h)))

pub plain : PositionsKeepTruth
plain = record {
  plain_values = plain_value;
  plain_truths = λ table w F. both_ways (plain_truth (recs_of table) F w);
  same_values = same_value;
  same_truths = λ table w F G e. same_truth (recs_of table) w F G e;
}
