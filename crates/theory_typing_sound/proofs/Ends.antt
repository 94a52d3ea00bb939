-- The end of a body: the values of its steps' variables make its state true, so that the formula of the
-- end holds; and how outcomes are put in sequence.
use Rattle.std.proofs.Common.{◌≡◌, ℕ, zero, suc, ◌+◌, List, [], ◌∷◌, length, refl, sym, ap, ◌∙◌, subst, arith}
use Rattle.std.specs.Prelude.{All}
use Rattle.htt_syntax.specs.Trees.{MonoTree, TermTree, FormulaTree}
use Rattle.theory_values.specs.Values.{Value, IsWord, HasType}
use Rattle.theory_values.specs.Heaps.{Heap, IsHeap, IsJoin}
use Rattle.theory_renaming.specs.Renaming.{lifts}
use Rattle.theory_values.proofs.Joins.{part_is_heap}
use Rattle.theory_truth.specs.Predicates.{RecTree, recs_of}
use Rattle.theory_canonical.specs.Skeletons.{sk_o}
use Rattle.theory_states.specs.States.{past, some_values, within, ending, finish}
use Rattle.theory_denotation.specs.Outcomes.{Outcome, ended, out_of_fuel, asking, wrong, then_outcome}
use Rattle.theory_denotation.specs.Valuations.{ValuationEntry, den_heap, den_term, Valuation, entry_at, value_of_entry, mono_in, HeadEntries}
use Rattle.theory_denotation.specs.Denotation.{term_den}
use Rattle.theory_denotation.specs.Satisfaction.{Satisfies}
use Rattle.theory_denotation_renaming.specs.Along.{AgreeAlong}
use Rattle.theory_denotation_renaming.proofs.Renamed.{agree_next, mono_renamed, term_renamed}
use Rattle.theory_denotation_renaming.proofs.RenamedTruth.{truth_renamed}
use Rattle.theory_denotation_types.specs.Meeting.{Post, EndsWell}
use Rattle.theory_denotation_moves.specs.States.{StateAt}
use Rattle.theory_denotation_moves.proofs.Agreeing.{into, past_3}

-- The variables of the steps have values under which the end's state holds and the result is v.
abbrev pub EndPost : List RecTree → HeadEntries → Valuation → FormulaTree → List MonoTree → TermTree → Post
EndPost table e w end [] value v init own = StateAt table e w end init own × (term_den e w value sk_o ≡ v)
EndPost table e w end (z ∷ zs) value v init own = (x : Value) × HasType x (mono_in w z) × EndPost table e (den_term sk_o x ∷ w) end zs value v init own

-- Under i variables: the valuations with the result and the heaps behind them, and without.
record Under (i : ℕ) (v : Value) (init own : Heap) (w w' : Valuation) : Type 0 where
  agrees : AgreeAlong (lifts i (past 3)) w w'
  at_own : entry_at w' i ≡ den_heap own
  at_init : entry_at w' (suc i) ≡ den_heap init
  at_value : entry_at w' (suc (suc i)) ≡ den_term sk_o v

under_next : {i : ℕ} {v : Value} {init own : Heap} {w w' : Valuation} (x : ValuationEntry) → Under i v init own w w' → Under (suc i) v init own (x ∷ w) (x ∷ w')
unfolding lifts
under_next x u = record { agrees = agree_next x u.agrees; at_own = u.at_own; at_init = u.at_init; at_value = u.at_value }

within_agrees : {i : ℕ} {v : Value} {init own : Heap} {w w' : Valuation} → Under i v init own w w' → AgreeAlong (within i) (den_heap own ∷ den_heap init ∷ w) w'
unfolding within
within_agrees {i = i} {init = init} {own = own} {w = w} {w' = w'} u = record { at = go }
  where
    go : (n : ℕ) → entry_at w' (within i n) ≡ entry_at (den_heap own ∷ den_heap init ∷ w) n
    go zero = u.at_own
    go (suc zero) = u.at_init
    go (suc (suc n)) = u.agrees.at n

module _ (table : List RecTree) (e : HeadEntries) where
  ending_holds : (i j : ℕ) (end : FormulaTree) (t : MonoTree) (value : TermTree) {v : Value} {init own : Heap} {w w' : Valuation}
      → Under i v init own w w'
      → i ≡ j
      → StateAt table e w end init own
      → term_den e w value sk_o ≡ v
      → Satisfies (recs_of table) e w' (ending j end t value)
  unfolding ending Satisfies term_den
  ending_holds i j end t value {w' = w'} u q state is = subst (λ k. Satisfies (recs_of table) e w' (ending k end t value)) q
      (into (truth_renamed (recs_of table) e end (within_agrees u)) state, ap value_of_entry u.at_value ∙ sym is ∙ sym (term_renamed e value u.agrees sk_o))

  values_hold : (i j : ℕ) (end : FormulaTree) (zs : List MonoTree) (t : MonoTree) (value : TermTree) {v : Value} {init own : Heap}
      {w w' : Valuation}
      → Under i v init own w w'
      → i + length zs ≡ j
      → EndPost table e w end zs value v init own
      → Satisfies (recs_of table) e w' (some_values i zs (ending j end t value))
  unfolding some_values Satisfies
  values_hold i j end [] t value u q p = let r : i ≡ j = omega (arith, q) in ending_holds i j end t value u r p.0 p.1
  values_hold i j end (z ∷ zs) t value u q p =
      let r : suc i + length zs ≡ j = omega (arith, q) in
      λ deny.
      deny (
        p.0,
        subst (HasType p.0) (sym (mono_renamed u.agrees z)) p.1,
        values_hold (suc i) j end zs t value (under_next (den_term sk_o p.0) u) r p.2,
      )

  pub finish_holds : (end : FormulaTree) (zs : List MonoTree) (t : MonoTree) (value : TermTree) (v : Value) (init own : Heap)
      (w : Valuation)
      → EndPost table e w end zs value v init own
      → Satisfies (recs_of table) e (den_heap own ∷ den_heap init ∷ den_term sk_o v ∷ w) (finish end zs t value)
  unfolding finish lifts
  finish_holds end zs t value v init own w p =
      let q : zero + length zs ≡ length zs = omega arith in
      values_hold 0 (length zs) end zs t value
      (record { agrees = past_3 (den_heap own) (den_heap init) (den_term sk_o v) w; at_own = refl; at_init = refl; at_value = refl }) q p

-- another postcondition
pub ends_mapped : (t : MonoTree) (post other : Post) (init frame : Heap) (o : Outcome)
    → ((v : Value) (own : Heap) → IsHeap own → HasType v t → post v init own → other v init own)
    → EndsWell t post init frame o
    → EndsWell t other init frame o
ends_mapped t post other init frame (ended v whole rest) f a =
    let l = a.0 in (
      record {
        own = l.own;
        parts = l.parts;
        is_heap = l.is_heap;
        typed = l.typed;
        holds = f v l.own (part_is_heap l.parts l.is_heap).0 l.typed l.holds;
      },
      a.1,
    )
ends_mapped t post other init frame out_of_fuel f a = tt
ends_mapped t post other init frame asking f a = tt
ends_mapped t post other init frame wrong f a = a

-- an outcome and what follows it
pub ends_then : (t u : MonoTree) (post other : Post) (init frame : Heap) (o : Outcome) (k : Value → Heap → List ℕ → Outcome)
    → ((v : Value) (own whole : Heap) (cs : List ℕ) → IsHeap whole → IsJoin whole own frame → All IsWord cs → HasType v t →
    post v init own → EndsWell u other init frame (k v whole cs))
    → EndsWell t post init frame o
    → EndsWell u other init frame (then_outcome o k)
ends_then t u post other init frame (ended v whole rest) k f a = let l = a.0 in f v l.own whole rest l.is_heap l.parts a.1 l.typed l.holds
ends_then t u post other init frame out_of_fuel k f a = tt
ends_then t u post other init frame asking k f a = tt
ends_then t u post other init frame wrong k f a = a
