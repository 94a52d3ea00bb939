-- A call is sound: the triple of what is called is met at each split of the own part, beside the rest
-- of it and the frame.
use Rattle.std.proofs.Common.{◌≡◌, ℕ, List, ◌∷◌, refl, subst}
use Rattle.htt_syntax.specs.Trees.{MonoTree, TripleTree, FormulaTree, triple}
use Rattle.theory_values.specs.Values.{Value}
use Rattle.theory_values.specs.Heaps.{Heap, IsHeap, IsJoin}
use Rattle.theory_values.proofs.Joins.{part_is_heap, join_right, join_left, join_commutes, join_cancels}
use Rattle.theory_truth.specs.Predicates.{RecTree, recs_of}
use Rattle.theory_canonical.specs.Skeletons.{sk_o}
use Rattle.theory_states.specs.States.{past, move_run, owed, after}
use Rattle.theory_denotation.specs.Outcomes.{Outcome, Running, ended, out_of_fuel, asking, wrong}
use Rattle.theory_denotation.specs.Valuations.{den_heap, den_term, Valuation, mono_in, HeadEntries}
use Rattle.theory_denotation.specs.Satisfaction.{Satisfies, PreAt, PostAt, answer_mono}
use Rattle.theory_denotation_renaming.proofs.RenamedTruth.{truth_renamed}
use Rattle.theory_denotation_types.specs.Meeting.{Post, LeavesPost, EndsWell, Meets}
use Rattle.theory_denotation_types.proofs.Stable.{ends_stable}
use Rattle.theory_denotation_moves.specs.States.{StateAt, NextState, OwedAt, InState}
use Rattle.theory_denotation_moves.proofs.Agreeing.{into, out_of, heaps_agree, heap_agrees, result_agrees, past_4}
use Rattle.theory_denotation_moves.proofs.Cells.{next_stable}

-- What an outcome from the whole heap is at each split of the own part.
abbrev AtSplits : (Heap → Type 0) → MonoTree → Post → Heap → Heap → Outcome → Type 0
AtSplits pre mono post mem frame o = (g k : Heap) → IsJoin mem g k → pre g → (rest : Heap) × IsJoin rest k frame × EndsWell mono post g rest o

-- the own part after a call at a split
record Called (post : Post) (v : Value) (g k frame whole : Heap) : Type 0 where
  answer : Heap
  own : Heap
  parts : IsJoin whole own frame
  split : IsJoin own answer k
  holds : post v g answer

called : {mono : MonoTree} {post : Post} {v : Value} {g k frame rest whole : Heap}
    → IsJoin rest k frame
    → LeavesPost mono post g rest v whole
    → Called post v g k frame whole
called i a = let j = join_left a.parts i in record { answer = a.own; own = j.0; parts = j.1; split = j.2; holds = a.holds }

-- the own part is the same at each split
same_own : {post : Post} {v u : Value} {g k h l frame whole : Heap} (a : Called post v g k frame whole) (b : Called post u h l frame whole) → b.own ≡ a.own
same_own a b = λ j m. (join_cancels (join_commutes b.parts) (join_commutes a.parts)).each m j

module _ (table : List RecTree) (e : HeadEntries) (w : Valuation) where
  run_after : (P : FormulaTree) (t : MonoTree) (Q R : FormulaTree) (init mem own : Heap) (v : Value)
      → StateAt table e w R init mem
      → IsHeap mem
      → IsHeap own
      → ((g k : Heap) → IsJoin mem g k → PreAt (recs_of table) e w (triple P t Q) g →
      (n : Heap) × IsJoin own n k × PostAt (recs_of table) e w (triple P t Q) v g n)
      → NextState table e w (after (move_run (triple P t Q)) R) v init own
  unfolding Satisfies after past
  run_after P t Q R init mem own v r im io calls deny =
      let x = den_term sk_o v in
      deny (
        mem,
        im,
        (
          into (truth_renamed (recs_of table) e R
              (heaps_agree 0 2 4 (den_heap mem) (den_heap init) w (den_heap mem ∷ den_heap own ∷ den_heap init ∷ x ∷ w) refl refl
              (λ i. refl))) r,
          λ g ig k ik p.
              let c =
              calls g k p.0 (out_of (truth_renamed (recs_of table) e P
              (heap_agrees 1 6 (den_heap g) w (den_heap k ∷ den_heap g ∷ den_heap mem ∷ den_heap own ∷ den_heap init ∷ x ∷ w) refl
              (λ i. refl))) p.1) in
              λ other. other (
                c.0,
                (part_is_heap c.1 io).0,
                (
                  c.1,
                  into (truth_renamed (recs_of table) e Q
                      (result_agrees 2 0 6 7 (den_heap c.0) (den_heap g) x w
                      (den_heap c.0 ∷ den_heap k ∷ den_heap g ∷ den_heap mem ∷ den_heap own ∷ den_heap init ∷ x ∷ w) refl refl refl
                      (λ i. refl))) c.2,
                ),
              ),
        ),
      )

  -- an outcome that ends, at a split and at all others
  split_ends : (P : FormulaTree) (t : MonoTree) (Q R : FormulaTree) (init mem frame : Heap) (v : Value) (whole : Heap) (rest : List ℕ)
      → StateAt table e w R init mem
      → IsHeap mem
      → AtSplits (PreAt (recs_of table) e w (triple P t Q)) (mono_in w t) (PostAt (recs_of table) e w (triple P t Q)) mem frame
      (ended v whole rest)
      → (g k : Heap)
      → IsJoin mem g k
      → PreAt (recs_of table) e w (triple P t Q) g
      → EndsWell (mono_in w t) (NextState table e w (after (move_run (triple P t Q)) R)) init frame (ended v whole rest)
  split_ends P t Q R init mem frame v whole rest r im all g k j p =
      let first = all g k j p in
      let a = called first.1 (first.2).0 in
      let ih = ((first.2).0).is_heap in (
        record {
          own = a.own;
          parts = a.parts;
          is_heap = ih;
          typed = ((first.2).0).typed;
          holds = run_after P t Q R init mem a.own v r im (part_is_heap a.parts ih).0 (λ h l i q.
              let other = all h l i q in
              let b = called other.1 (other.2).0 in
              (b.answer, subst (λ (o : Heap). IsJoin o b.answer l) (same_own a b) b.split, b.holds));
        },
        (first.2).1,
      )

  splits_end : (P : FormulaTree) (t : MonoTree) (Q R : FormulaTree) (init mem frame : Heap) (o : Outcome)
      → StateAt table e w R init mem
      → IsHeap mem
      → AtSplits (PreAt (recs_of table) e w (triple P t Q)) (mono_in w t) (PostAt (recs_of table) e w (triple P t Q)) mem frame o
      → (g k : Heap)
      → IsJoin mem g k
      → PreAt (recs_of table) e w (triple P t Q) g
      → EndsWell (mono_in w t) (NextState table e w (after (move_run (triple P t Q)) R)) init frame o
  splits_end P t Q R init mem frame (ended v whole rest) r im all g k j p = split_ends P t Q R init mem frame v whole rest r im all g k j p
  splits_end P t Q R init mem frame out_of_fuel r im all g k j p = tt
  splits_end P t Q R init mem frame asking r im all g k j p = tt
  splits_end P t Q R init mem frame wrong r im all g k j p = (all g k j p).2

  pub run_sound : (spec : TripleTree) (f : Running) (R : FormulaTree) (n : ℕ) (init mem frame whole : Heap) (cs : List ℕ)
      → InState table e w R init mem frame whole cs
      → Meets (PreAt (recs_of table) e w spec) (answer_mono w spec) (PostAt (recs_of table) e w spec) f
      → OwedAt table e w (owed (move_run spec) R) init mem
      → EndsWell (answer_mono w spec) (NextState table e w (after (move_run spec) R)) init frame (f n whole cs)
  unfolding owed Satisfies
  run_sound (triple P t Q) f R n init mem frame whole cs s m owes =
      ends_stable (mono_in w t) (NextState table e w (after (move_run (triple P t Q)) R)) init frame (f n whole cs)
      (next_stable table e w (after (move_run (triple P t Q)) R)) (λ deny.
      owes s.state (λ a. a.2 (λ c. deny (splits_end P t Q R init mem frame (f n whole cs) s.state (part_is_heap s.parts s.is_heap).0
      (λ g k j p. let r = join_right s.parts j in (r.0, r.2, m.at n g r.0 whole cs s.is_heap r.1 s.words p))
      a.0 c.0 c.2.0 (out_of (truth_renamed (recs_of table) e P
      (heap_agrees 1 4 (den_heap a.0) w (den_heap c.0 ∷ den_heap a.0 ∷ den_heap mem ∷ den_heap init ∷ w) refl
      (past_4 (den_heap c.0) (den_heap a.0) (den_heap mem) (den_heap init) w).at)) c.2.1)))))
