-- Two axioms without their conditions are false.
use Rattle.std.proofs.Common.{◌≡◌, [], ◌∷◌, length, Some, refl, sym, ap, ◌∙◌, subst, arith}
use Rattle.std.specs.Prelude.{true, false}
use Rattle.std.proofs.lemmas.List.Elements.{All-nil, All-cons}
use Rattle.htt_syntax.specs.Trees.{FormulaTree, m_word, m_pair, t_var, a_heap, a_term}
use Rattle.theory_values.specs.Values.{v_bool, IsWord, is_word, is_loc}
use Rattle.theory_values.specs.Heaps.{Block, IsOnly, single_block}
use Rattle.theory_values.proofs.Joins.{single_is_only, only_is_heap}
use Rattle.theory_canonical.specs.Folding.{contractum}
use Rattle.theory_truth.specs.TermValue.{term_value}
use Rattle.theory_truth.specs.Truth.{Recs, Holds}
use Rattle.theory_truth.specs.Predicates.{recs_of}
use Rattle.theory_typing.specs.Worlds.{world_none, world_value, world_heap}
use Rattle.theory_logic_axioms.specs.Names.{block_width}
use Rattle.theory_logic_axioms.specs.Table.{count_of_words, SideCondition, formula_of}
use Rattle.theory_logic_axioms_true.specs.WithoutConditions.{at_greatest, one_word_held, next_is_above, ConditionsAreNeeded}
use Rattle.theory_truth.proofs.Stable.{some_is_one}

not_true : v_bool false ≡ v_bool true → ⊥
not_true e = cc

not_above : (R : Recs) → Holds R at_greatest next_is_above → ⊥
unfolding Holds term_value contractum
not_above R h = not_true h

two_words : (b : Block) → length b ≡ 2 → IsOnly (single_block 5 (7 ∷ [])) 5 b → ⊥
two_words b e o = let s : 7 ∷ [] ≡ b = some_is_one (sym (single_is_only 5 (7 ∷ [])).here ∙ o.here) in omega (arith, e, ap length s)

row_of : {F G : FormulaTree} → Some G ≡ Some F → G ≡ F
row_of e = cc

not_wider : (R : Recs) (F : FormulaTree)
    → formula_of block_width (m_word ∷ m_pair m_word m_word ∷ []) (a_heap 1 ∷ a_term (t_var 0) ∷ []) ≡ Some F
    → Holds R one_word_held F
    → ⊥
unfolding Holds formula_of term_value
not_wider R F e h =
    let k = subst (Holds R one_word_held) (sym (row_of e)) h in
    let x = k (7 ∷ [], refl, single_is_only 5 (7 ∷ [])) in two_words x.0 x.1 x.2

not_as_wide : SideCondition block_width (m_word ∷ m_pair m_word m_word ∷ []) → ⊥
unfolding SideCondition count_of_words
not_as_wide s = let e : 1 ≡ 2 = s.same_words in omega (arith, e)

pub needed : ConditionsAreNeeded
unfolding formula_of
needed = record {
  row_of_next_word = λ y. refl;
  greatest_is_a_word = world_value (is_word (omega arith)) world_none;
  no_word_above_greatest = λ table. not_above (recs_of table);
  place_and_heap =
      world_value (is_loc (omega arith))
      (world_heap
      (only_is_heap (single_is_only 5 (7 ∷ [])) (omega arith) (omega arith) (All-cons IsWord 7 [] (omega arith) (All-nil IsWord)))
      world_none);
  other_width = not_as_wide;
  no_block_of_another_width = λ table. not_wider (recs_of table);
}
