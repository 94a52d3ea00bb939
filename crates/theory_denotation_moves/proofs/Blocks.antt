-- A write and a release are sound.
use Rattle.std.proofs.Common.{ℕ, List, ◌∷◌, refl, sym, ap, ◌∙◌, subst}
use Rattle.htt_syntax.specs.Trees.{MonoTree, TermTree, FormulaTree, m_loc, m_unit, s_set, s_free}
use Rattle.theory_values.specs.Values.{Value, v_unit, HasType, is_unit, encoding, width}
use Rattle.theory_values.specs.Heaps.{Heap, IsHeap, IsOnly, IsJoin, single_block}
use Rattle.theory_values.proofs.Joins.{part_is_heap, single_is_only}
use Rattle.theory_truth.specs.TermValue.{loc_of}
use Rattle.theory_truth.specs.Truth.{IsBlock}
use Rattle.theory_truth.specs.Predicates.{RecTree, recs_of}
use Rattle.theory_canonical.specs.Skeletons.{sk_o}
use Rattle.theory_states.specs.States.{past, move_set, move_free, owes_block, owed, after}
use Rattle.theory_denotation.specs.Outcomes.{set_outcome, free_outcome}
use Rattle.theory_denotation.specs.Valuations.{den_heap, den_term, Valuation, mono_in, HeadEntries}
use Rattle.theory_denotation.specs.Denotation.{term_den, step_den}
use Rattle.theory_denotation.specs.Satisfaction.{Satisfies}
use Rattle.theory_denotation_renaming.proofs.Renamed.{mono_renamed, term_renamed}
use Rattle.theory_denotation_renaming.proofs.RenamedTruth.{truth_renamed}
use Rattle.theory_denotation_moves.proofs.Local.{local}
use Rattle.theory_denotation_types.specs.Meeting.{EndsWell}
use Rattle.theory_denotation_types.proofs.Stable.{ends_stable}
use Rattle.theory_denotation_moves.specs.States.{StateAt, NextState, OwedAt, InState}
use Rattle.theory_denotation_moves.proofs.Agreeing.{into, out_of, heaps_agree, past_4, past_5, past_7, place_of_loc}
use Rattle.theory_denotation_moves.proofs.Cells.{next_stable}

module _ (table : List RecTree) (e : HeadEntries) (w : Valuation) where
  set_after : (t : MonoTree) (M N : TermTree) (R : FormulaTree) (init mem g n k own : Heap) (v : Value)
      → StateAt table e w R init mem
      → IsHeap mem
      → IsHeap g
      → IsHeap n
      → IsHeap k
      → IsBlock g (loc_of (term_den e w M sk_o)) (width (mono_in w t))
      → IsJoin mem g k
      → IsOnly n (loc_of (term_den e w M sk_o)) (encoding (term_den e w N sk_o))
      → IsJoin own n k
      → NextState table e w (after (move_set t M N) R) v init own
  unfolding Satisfies after past
  set_after t M N R init mem g n k own v r im ig in_ ik block join cell joins deny =
      let x = den_term sk_o v in
      let inside = past_7 (den_heap k) (den_heap n) (den_heap g) (den_heap mem) (den_heap own) (den_heap init) x w in
      let place = term_renamed e M inside sk_o in
      deny (
        mem,
        im,
        λ deny2. deny2 (
          g,
          ig,
          λ deny3. deny3 (
            n,
            in_,
            λ deny4. deny4 (
              k,
              ik,
              (
                into (truth_renamed (recs_of table) e R
                    (heaps_agree 3 5 7 (den_heap mem) (den_heap init) w
                    (den_heap k ∷ den_heap n ∷ den_heap g ∷ den_heap mem ∷ den_heap own ∷ den_heap init ∷ x ∷ w) refl refl (λ i. refl))) r,
                (
                  into (λ j. IsBlock g (loc_of (place j)) (width (mono_renamed inside t j))) block,
                  (
                    join,
                    (
                      into (λ j. IsOnly n (loc_of (place j)) (encoding (term_renamed e N inside sk_o j))) cell,
                      joins,
                    ),
                  ),
                ),
              ),
            ),
          ),
        ),
      )

  set_here : (t : MonoTree) (M N : TermTree) (R : FormulaTree) (init mem frame whole g k : Heap) (cs : List ℕ)
      → InState table e w R init mem frame whole cs
      → HasType (term_den e w M sk_o) m_loc
      → HasType (term_den e w N sk_o) (mono_in w t)
      → IsHeap g
      → IsHeap k
      → IsBlock g (loc_of (term_den e w M sk_o)) (width (mono_in w t))
      → IsJoin mem g k
      → EndsWell m_unit (NextState table e w (after (move_set t M N) R)) init frame
      (set_outcome (mono_in w t) (term_den e w M sk_o) (term_den e w N sk_o) whole cs)
  set_here t M N R init mem frame whole g k cs s place typed ig ik block join =
      let p = place_of_loc place in
      let v = term_den e w N sk_o in
      let done =
      local.set (mono_in w t) v p.place block.0 whole mem frame g k cs s.is_heap s.parts join
      (subst (λ x. IsOnly g (loc_of x) block.0) p.is_place block.2) block.1 typed in
      let r = done.1 in
      let cell = subst (λ l. IsOnly (single_block p.place (encoding v)) l (encoding v)) (sym (ap loc_of p.is_place)) (single_is_only p.place (encoding v)) in
      subst (EndsWell m_unit (NextState table e w (after (move_set t M N) R)) init frame)
      (sym (ap (λ x. set_outcome (mono_in w t) x v whole cs) p.is_place ∙ done.0)) (
        record {
          own = r.own;
          parts = r.parts;
          is_heap = r.is_heap;
          typed = is_unit;
          holds =
              set_after t M N R init mem g (single_block p.place (encoding v)) k r.own v_unit s.state (part_is_heap s.parts s.is_heap).0
              ig r.block_is_heap ik block join cell r.has;
        },
        s.words,
      )

  pub set_sound : (t : MonoTree) (M N : TermTree) (R : FormulaTree) (n : ℕ) (init mem frame whole : Heap) (cs : List ℕ)
      → InState table e w R init mem frame whole cs
      → HasType (term_den e w M sk_o) m_loc
      → HasType (term_den e w N sk_o) (mono_in w t)
      → OwedAt table e w (owed (move_set t M N) R) init mem
      → EndsWell m_unit (NextState table e w (after (move_set t M N) R)) init frame (step_den e w (s_set t M N) n whole cs)
  unfolding term_den owed owes_block Satisfies
  set_sound t M N R n init mem frame whole cs s place typed owes =
      ends_stable m_unit (NextState table e w (after (move_set t M N) R)) init frame
      (set_outcome (mono_in w t) (term_den e w M sk_o) (term_den e w N sk_o) whole cs) (next_stable table e w (after (move_set t M N) R))
      (λ deny.
      owes s.state (λ a. a.2 (λ c. deny (
      let inside = past_4 (den_heap c.0) (den_heap a.0) (den_heap mem) (den_heap init) w in
      set_here t M N R init mem frame whole a.0 c.0 cs s place typed a.1 c.1
      (out_of (λ j. IsBlock a.0 (loc_of (term_renamed e M inside sk_o j)) (width (mono_renamed inside t j))) c.2.0) c.2.1))))

  free_after : (t : MonoTree) (M : TermTree) (R : FormulaTree) (init mem g k : Heap) (v : Value)
      → StateAt table e w R init mem
      → IsHeap mem
      → IsHeap g
      → IsBlock g (loc_of (term_den e w M sk_o)) (width (mono_in w t))
      → IsJoin mem g k
      → NextState table e w (after (move_free t M) R) v init k
  unfolding Satisfies after past
  free_after t M R init mem g k v r im ig block join deny =
      let x = den_term sk_o v in
      let inside = past_5 (den_heap g) (den_heap mem) (den_heap k) (den_heap init) x w in
      deny (
        mem,
        im,
        λ deny2. deny2 (
          g,
          ig,
          (
            into (truth_renamed (recs_of table) e R
                (heaps_agree 1 3 5 (den_heap mem) (den_heap init) w (den_heap g ∷ den_heap mem ∷ den_heap k ∷ den_heap init ∷ x ∷ w) refl
                refl (λ i. refl))) r,
            (
              into (λ j. IsBlock g (loc_of (term_renamed e M inside sk_o j)) (width (mono_renamed inside t j))) block,
              join,
            ),
          ),
        ),
      )

  free_here : (t : MonoTree) (M : TermTree) (R : FormulaTree) (init mem frame whole g k : Heap) (cs : List ℕ)
      → InState table e w R init mem frame whole cs
      → HasType (term_den e w M sk_o) m_loc
      → IsHeap g
      → IsBlock g (loc_of (term_den e w M sk_o)) (width (mono_in w t))
      → IsJoin mem g k
      → EndsWell m_unit (NextState table e w (after (move_free t M) R)) init frame
      (free_outcome (mono_in w t) (term_den e w M sk_o) whole cs)
  free_here t M R init mem frame whole g k cs s place ig block join =
      let p = place_of_loc place in
      let done =
      local.free (mono_in w t) p.place block.0 whole mem frame g k cs s.is_heap s.parts join
      (subst (λ x. IsOnly g (loc_of x) block.0) p.is_place block.2) block.1 in
      subst (EndsWell m_unit (NextState table e w (after (move_free t M) R)) init frame)
      (sym (ap (λ x. free_outcome (mono_in w t) x whole cs) p.is_place ∙ done.0)) (
        record {
          own = k;
          parts = done.1;
          is_heap = done.2;
          typed = is_unit;
          holds = free_after t M R init mem g k v_unit s.state (part_is_heap s.parts s.is_heap).0 ig block join;
        },
        s.words,
      )

  pub free_sound : (t : MonoTree) (M : TermTree) (R : FormulaTree) (n : ℕ) (init mem frame whole : Heap) (cs : List ℕ)
      → InState table e w R init mem frame whole cs
      → HasType (term_den e w M sk_o) m_loc
      → OwedAt table e w (owed (move_free t M) R) init mem
      → EndsWell m_unit (NextState table e w (after (move_free t M) R)) init frame (step_den e w (s_free t M) n whole cs)
  unfolding term_den owed owes_block Satisfies
  free_sound t M R n init mem frame whole cs s place owes =
      ends_stable m_unit (NextState table e w (after (move_free t M) R)) init frame
      (free_outcome (mono_in w t) (term_den e w M sk_o) whole cs) (next_stable table e w (after (move_free t M) R)) (λ deny.
      owes s.state (λ a. a.2 (λ c. deny (
      let inside = past_4 (den_heap c.0) (den_heap a.0) (den_heap mem) (den_heap init) w in
      free_here t M R init mem frame whole a.0 c.0 cs s place a.1
      (out_of (λ j. IsBlock a.0 (loc_of (term_renamed e M inside sk_o j)) (width (mono_renamed inside t j))) c.2.0) c.2.1))))
