-- The worked examples hold.
use Rattle.std.proofs.Common.{◌≡◌, ℕ, List, [], ◌∷◌, Some, None, refl, sym, ap, ◌∙◌, subst, arith}
use Rattle.std.specs.Prelude.{Bool, true, false, nat_eq, if◌then◌else◌}
use Rattle.std.proofs.lemmas.Bool.Decides.{nat_tests}
use Rattle.std.proofs.lemmas.List.Elements.{All-nil, All-cons}
use Rattle.theory_values.specs.Values.{Value, IsWord, v_word, v_unit, is_word, is_unit}
use Rattle.theory_values.specs.Heaps.{Heap, Block, IsHeap, empty_heap, single_block, with_block, Joins, IsJoin}
use Rattle.theory_values.proofs.Joins.{single_is_only, only_is_heap, join_of_empty, join_is_one, empty_is_heap}
use Rattle.htt_syntax.specs.Trees.{m_word, t_var, t_word, f_eq}
use Rattle.theory_truth.specs.Worlds.{th_value, th_heap}
use Rattle.theory_truth.specs.Predicates.{recs_below}
use Rattle.theory_truth.specs.TermValue.{term_value}
use Rattle.theory_truth.specs.Truth.{Holds}
use Rattle.theory_meaning.specs.Closures.{RunValue, base, done, fault}
use Rattle.theory_triples.specs.Triples.{MeetsTriple, run_of_val}
use Rattle.theory_triples.specs.Examples.{file, gives_five, gives_six, writes_eight, writes_from_any, WorkedExamples}

no_fault_at_end : {v : RunValue} {h : Heap} {cs : List ℕ} → done v h cs ≡ fault → ⊥
no_fault_at_end e = cc

heap_of_end : {v u : RunValue} {h g : Heap} {cs ds : List ℕ} → done v h cs ≡ done u g ds → h ≡ g
heap_of_end e = cc

value_of_end : {v u : RunValue} {h g : Heap} {cs ds : List ℕ} → done v h cs ≡ done u g ds → v ≡ u
value_of_end e = cc

five : (k : Heap) → MeetsTriple [] gives_five (run_of_val file 0 1 []) empty_heap k
unfolding Holds term_value
five k = record {
  no_fault = λ whole i j p e. no_fault_at_end e;
  ends_so = λ whole i j p v g rest e. record {
    own = empty_heap;
    own_is_heap = empty_is_heap;
    parts = record { each = λ l. ap (λ (h : Heap). h l) (sym (heap_of_end e)) ∙ j.each l };
    value = v_word 5;
    is_value = sym (value_of_end e);
    typed = is_word (omega arith);
    post = refl;
  };
}

one_word : {x y : ℕ} → base (v_word x) ≡ base (v_word y) → x ≡ y
one_word e = cc

six_post : (x : Value) (a b : Heap)
    → base (v_word 5) ≡ base x
    → Holds (λ p j vs h. ⊥) (th_heap a ∷ th_heap b ∷ th_value x ∷ []) (f_eq m_word (t_var 2) (t_word 6))
    → ⊥
unfolding Holds term_value
six_post x a b e p = let f : 5 ≡ 6 = one_word (e ∙ ap base p) in omega (arith, f)

five_is_not_six : MeetsTriple [] gives_six (run_of_val file 0 1 []) empty_heap empty_heap → ⊥
unfolding Holds term_value recs_below
five_is_not_six m =
    let a =
    m.ends_so empty_heap empty_is_heap (join_of_empty empty_heap) (record { each = λ l. refl }) (base (v_word 5)) empty_heap [] refl in
    six_post a.value a.own empty_heap a.is_value a.post

not_from_any : MeetsTriple [] writes_from_any (run_of_val file 1 1 []) empty_heap empty_heap → ⊥
unfolding Holds
not_from_any m = m.no_fault empty_heap empty_is_heap (join_of_empty empty_heap) tt refl

-- two places, of which one may have been written before
both_places : (b c : Bool)
    → (b ≡ true → c ≡ true → ⊥)
    → (x y : Block)
    → Joins (if b then Some x else (if c then Some y else None)) (if b then Some x else None) (if c then Some y else None)
both_places true true n x y = absurd (n refl refl)
both_places true false n x y = refl
both_places false true n x y = refl
both_places false false n x y = refl

written_place : (b c : Bool)
    → (b ≡ true → c ≡ true → ⊥)
    → (x y z : Block)
    → Joins (if b then Some x else (if b then Some z else (if c then Some y else None))) (if b then Some x else None)
    (if c then Some y else None)
written_place true true n x y z = absurd (n refl refl)
written_place true false n x y z = refl
written_place false true n x y z = refl
written_place false false n x y z = refl

not_both : (l : ℕ) → nat_eq l 5 ≡ true → nat_eq l 6 ≡ true → ⊥
not_both l p q = grind (arith, nat_tests)

abbrev two_cells : Heap
two_cells = with_block (single_block 6 (1 ∷ [])) 5 (7 ∷ [])

two_cells_are : IsJoin two_cells (single_block 5 (7 ∷ [])) (single_block 6 (1 ∷ []))
two_cells_are = record { each = λ l. both_places (nat_eq l 5) (nat_eq l 6) (not_both l) (7 ∷ []) (1 ∷ []) }

whole_is : (whole : Heap) → IsJoin whole (single_block 5 (7 ∷ [])) (single_block 6 (1 ∷ [])) → whole ≡ two_cells
whole_is whole j = λ i l. (join_is_one j two_cells_are).each l i

ends_at : (whole : Heap)
    → IsJoin whole (single_block 5 (7 ∷ [])) (single_block 6 (1 ∷ []))
    → run_of_val file 1 1 [] whole ≡ done (base v_unit) (with_block two_cells 5 (8 ∷ [])) []
ends_at whole j = ap (run_of_val file 1 1 []) (whole_is whole j)

eight_is_heap : IsHeap (single_block 5 (8 ∷ []))
eight_is_heap = only_is_heap (single_is_only 5 (8 ∷ [])) (omega arith) (omega arith) (All-cons IsWord 8 [] (omega arith) (All-nil IsWord))

eight : MeetsTriple [] writes_eight (run_of_val file 1 1 []) (single_block 5 (7 ∷ [])) (single_block 6 (1 ∷ []))
unfolding Holds term_value
eight = record {
  no_fault = λ whole i j p e. no_fault_at_end (sym (ends_at whole j) ∙ e);
  ends_so = λ whole i j p v g rest e. record {
    own = single_block 5 (8 ∷ []);
    own_is_heap = eight_is_heap;
    parts =
        subst (λ (h : Heap). IsJoin h (single_block 5 (8 ∷ [])) (single_block 6 (1 ∷ []))) (heap_of_end (sym (ends_at whole j) ∙ e))
        (record { each = λ l. written_place (nat_eq l 5) (nat_eq l 6) (not_both l) (8 ∷ []) (1 ∷ []) (7 ∷ []) });
    value = v_unit;
    is_value = sym (value_of_end (sym (ends_at whole j) ∙ e));
    typed = is_unit;
    post = single_is_only 5 (8 ∷ []);
  };
}

pub worked : WorkedExamples
worked = record { five_is_given = five; six_is_not = five_is_not_six; eight_beside_another = eight; not_from_any = not_from_any }
