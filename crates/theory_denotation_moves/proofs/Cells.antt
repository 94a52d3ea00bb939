-- An allocation and a read are sound.
use Rattle.std.proofs.Common.{ℕ, List, ◌∷◌, refl, sym, ap, ◌∙◌, subst}
use Rattle.htt_syntax.specs.Trees.{MonoTree, TermTree, FormulaTree, m_loc, s_alloc, s_get}
use Rattle.theory_values.specs.Values.{Value, HasType, is_loc, encoding}
use Rattle.theory_values.specs.Heaps.{Heap, IsHeap, IsOnly, IsJoin, single_block}
use Rattle.theory_values.proofs.Joins.{part_is_heap, single_is_only}
use Rattle.theory_truth.specs.TermValue.{loc_of}
use Rattle.theory_truth.specs.Predicates.{RecTree, recs_of}
use Rattle.theory_canonical.specs.Skeletons.{sk_o}
use Rattle.theory_states.specs.States.{past, move_alloc, move_get, owed, after}
use Rattle.theory_denotation.specs.Outcomes.{Outcome, ended, out_of_fuel, asking, wrong, alloc_outcome, get_outcome}
use Rattle.theory_denotation.specs.Valuations.{den_heap, den_term, Valuation, mono_in, HeadEntries}
use Rattle.theory_denotation.specs.Denotation.{term_den, step_den}
use Rattle.theory_denotation.specs.Satisfaction.{Satisfies}
use Rattle.theory_denotation_renaming.proofs.Renamed.{mono_renamed, term_renamed}
use Rattle.theory_denotation_renaming.proofs.RenamedTruth.{truth_renamed}
use Rattle.theory_denotation_moves.specs.FrameLaws.{Allocated, Allocates}
use Rattle.theory_denotation_moves.proofs.Local.{local}
use Rattle.theory_denotation_types.specs.Meeting.{EndsWell}
use Rattle.theory_denotation_types.proofs.Stable.{StablePost, ends_stable}
use Rattle.theory_denotation.proofs.Classical.{classical}
use Rattle.theory_denotation_moves.specs.States.{StateAt, NextState, OwedAt, InState}
use Rattle.theory_denotation_moves.proofs.Agreeing.{into, out_of, heaps_agree, past_2, past_4, past_5, place_of_loc}

pub next_stable : (table : List RecTree) (e : HeadEntries) (w : Valuation) (F : FormulaTree) → StablePost (NextState table e w F)
next_stable table e w F = record { at = λ v init mem n. classical table e (den_heap mem ∷ den_heap init ∷ den_term sk_o v ∷ w) F n }

module _ (table : List RecTree) (e : HeadEntries) (w : Valuation) where
  alloc_after : (t : MonoTree) (N : TermTree) (R : FormulaTree) (init mem frame : Heap) (u : Value) (whole : Heap)
      → StateAt table e w R init mem
      → IsHeap mem
      → (a : Allocated (term_den e w N sk_o) mem frame u whole)
      → NextState table e w (after (move_alloc t N) R) u init a.own
  unfolding Satisfies after term_den
  alloc_after t N R init mem frame u whole r i a deny =
      let one = single_block a.place (encoding (term_den e w N sk_o)) in
      let v = den_term sk_o u in
      let value = term_renamed e N (past_5 (den_heap one) (den_heap mem) (den_heap a.own) (den_heap init) v w) sk_o in
      deny (
        mem,
        i,
        (
          into (truth_renamed (recs_of table) e R
              (heaps_agree 0 2 4 (den_heap mem) (den_heap init) w (den_heap mem ∷ den_heap a.own ∷ den_heap init ∷ v ∷ w) refl refl
              (past_4 (den_heap mem) (den_heap a.own) (den_heap init) v w).at)) r,
          λ other.
              other (
                one,
                a.block_is_heap,
                (
                  into (λ j. IsOnly one (loc_of (a.is_place j)) (encoding (value j)))
                      (single_is_only a.place (encoding (term_den e w N sk_o))),
                  a.adds,
                ),
              ),
        ),
      )

  alloc_ends : (t : MonoTree) (N : TermTree) (R : FormulaTree) (init mem frame : Heap) (o : Outcome)
      → StateAt table e w R init mem
      → IsHeap mem
      → Allocates (term_den e w N sk_o) mem frame o
      → EndsWell m_loc (NextState table e w (after (move_alloc t N) R)) init frame o
  alloc_ends t N R init mem frame (ended u whole rest) r i a = (
    record {
      own = a.0.own;
      parts = a.0.parts;
      is_heap = a.0.is_heap;
      typed = subst (λ x. HasType x m_loc) (sym a.0.is_place) (is_loc a.0.is_word);
      holds = alloc_after t N R init mem frame u whole r i a.0;
    },
    a.1,
  )
  alloc_ends t N R init mem frame out_of_fuel r i a = absurd a
  alloc_ends t N R init mem frame asking r i a = tt
  alloc_ends t N R init mem frame wrong r i a = absurd a

  pub alloc_sound : (t : MonoTree) (N : TermTree) (R : FormulaTree) (n : ℕ) (init mem frame whole : Heap) (cs : List ℕ)
      → InState table e w R init mem frame whole cs
      → HasType (term_den e w N sk_o) (mono_in w t)
      → EndsWell m_loc (NextState table e w (after (move_alloc t N) R)) init frame (step_den e w (s_alloc t N) n whole cs)
  unfolding term_den
  alloc_sound t N R n init mem frame whole cs s typed =
      alloc_ends t N R init mem frame (alloc_outcome (term_den e w N sk_o) whole cs) s.state (part_is_heap s.parts s.is_heap).0
      (local.alloc (mono_in w t) (term_den e w N sk_o) whole mem frame cs s.is_heap s.parts s.words typed)

  get_after : (t : MonoTree) (M : TermTree) (R : FormulaTree) (init mem g k : Heap) (v : Value)
      → StateAt table e w R init mem
      → IsHeap g
      → IsHeap k
      → IsOnly g (loc_of (term_den e w M sk_o)) (encoding v)
      → IsJoin mem g k
      → NextState table e w (after (move_get t M) R) v init mem
  unfolding Satisfies after term_den past
  get_after t M R init mem g k v r ig ik only join =
      let x = den_term sk_o v in
      let place = term_renamed e M (past_5 (den_heap k) (den_heap g) (den_heap mem) (den_heap init) x w) sk_o in (
        into (truth_renamed (recs_of table) e R
            (heaps_agree 0 1 3 (den_heap mem) (den_heap init) w (den_heap mem ∷ den_heap init ∷ x ∷ w) refl refl (λ n. refl))) r,
        λ deny. deny (g, ig, λ other. other (k, ik, (into (λ j. IsOnly g (loc_of (place j)) (encoding v)) only, join))),
      )

  get_here : (t : MonoTree) (M : TermTree) (R : FormulaTree) (init mem frame whole g k : Heap) (v : Value) (cs : List ℕ)
      → InState table e w R init mem frame whole cs
      → HasType (term_den e w M sk_o) m_loc
      → HasType v (mono_in w t)
      → IsHeap g
      → IsHeap k
      → IsOnly g (loc_of (term_den e w M sk_o)) (encoding v)
      → IsJoin mem g k
      → EndsWell (mono_in w t) (NextState table e w (after (move_get t M) R)) init frame
      (get_outcome (mono_in w t) (term_den e w M sk_o) whole cs)
  get_here t M R init mem frame whole g k v cs s place typed ig ik only join =
      let p = place_of_loc place in
      let read =
      ap (λ x. get_outcome (mono_in w t) x whole cs) p.is_place
      ∙ local.get (mono_in w t) v p.place whole mem frame g k cs s.parts join
      (subst (λ x. IsOnly g (loc_of x) (encoding v)) p.is_place only) typed in
      subst (EndsWell (mono_in w t) (NextState table e w (after (move_get t M) R)) init frame) (sym read) (
        record {
          own = mem;
          parts = s.parts;
          is_heap = s.is_heap;
          typed = typed;
          holds = get_after t M R init mem g k v s.state ig ik only join;
        },
        s.words,
      )

  pub get_sound : (t : MonoTree) (M : TermTree) (R : FormulaTree) (n : ℕ) (init mem frame whole : Heap) (cs : List ℕ)
      → InState table e w R init mem frame whole cs
      → HasType (term_den e w M sk_o) m_loc
      → OwedAt table e w (owed (move_get t M) R) init mem
      → EndsWell (mono_in w t) (NextState table e w (after (move_get t M) R)) init frame (step_den e w (s_get t M) n whole cs)
  unfolding term_den owed Satisfies
  get_sound t M R n init mem frame whole cs s place owes =
      ends_stable (mono_in w t) _ init frame (get_outcome (mono_in w t) (term_den e w M sk_o) whole cs)
      (next_stable table e w (after (move_get t M) R)) (λ deny.
      owes s.state (λ a. a.2 (λ b. b.2 (λ c. deny (get_here t M R init mem frame whole b.0 c.0 a.0 cs s place
      (subst (HasType a.0) (mono_renamed (past_2 (den_heap mem) (den_heap init) w) t) a.1) b.1 c.1
      (out_of (λ j.
      IsOnly b.0
      (loc_of (term_renamed e M (past_5 (den_heap c.0) (den_heap b.0) (den_term sk_o a.0) (den_heap mem) (den_heap init) w) sk_o j))
      (encoding a.0)) c.2.0)
      c.2.1)))))
