-- The moves are sound.
use Rattle.std.proofs.Common.{◌≡◌, List, ◌∷◌, refl, ◌∙◌}
use Rattle.std.specs.Prelude.{Bool}
use Rattle.htt_syntax.specs.Trees.{TermTree, FormulaTree}
use Rattle.theory_values.specs.Values.{v_bool, v_unit}
use Rattle.theory_values.specs.Heaps.{Heap}
use Rattle.theory_truth.specs.Predicates.{RecTree, recs_of}
use Rattle.theory_canonical.specs.Skeletons.{sk_o}
use Rattle.theory_states.specs.States.{past, move_claim, start, owed, after, branch}
use Rattle.theory_denotation.specs.Valuations.{den_heap, den_term, Valuation, HeadEntries}
use Rattle.theory_denotation.specs.Denotation.{term_den}
use Rattle.theory_denotation.specs.Satisfaction.{Satisfies}
use Rattle.theory_denotation_renaming.proofs.Renamed.{term_renamed}
use Rattle.theory_denotation_renaming.proofs.RenamedTruth.{truth_renamed}
use Rattle.theory_denotation_moves.specs.States.{StateAt, NextState, OwedAt}
use Rattle.theory_denotation_moves.specs.Laws.{MovesAreSound}
use Rattle.theory_denotation_moves.proofs.Agreeing.{into, heaps_agree, heap_agrees, past_2}
use Rattle.theory_denotation_moves.proofs.Cells.{alloc_sound, get_sound}
use Rattle.theory_denotation_moves.proofs.Blocks.{set_sound, free_sound}
use Rattle.theory_denotation_moves.proofs.Runs.{run_sound}

pub claim_sound : (table : List RecTree) (e : HeadEntries) (w : Valuation) (F R : FormulaTree) (init mem : Heap)
    → StateAt table e w R init mem
    → OwedAt table e w (owed (move_claim F) R) init mem
    → NextState table e w (after (move_claim F) R) v_unit init mem
unfolding owed after Satisfies past
claim_sound table e w F R init mem r owes =
    into (truth_renamed (recs_of table) e F
    (heaps_agree 0 1 3 (den_heap mem) (den_heap init) w (den_heap mem ∷ den_heap init ∷ den_term sk_o v_unit ∷ w) refl refl (λ i. refl)))
    (owes r)

pub branch_sound : (table : List RecTree) (e : HeadEntries) (w : Valuation) (M : TermTree) (R : FormulaTree) (side : Bool) (init mem : Heap)
    → StateAt table e w R init mem
    → term_den e w M sk_o ≡ v_bool side
    → StateAt table e w (branch R M side) init mem
unfolding branch Satisfies term_den
branch_sound table e w M R side init mem r q = (r, term_renamed e M (past_2 (den_heap mem) (den_heap init) w) sk_o ∙ q)

pub start_sound : (table : List RecTree) (e : HeadEntries) (w : Valuation) (P : FormulaTree) (mem : Heap)
    → Satisfies (recs_of table) e (den_heap mem ∷ w) P
    → StateAt table e w (start P) mem mem
unfolding start Satisfies past
start_sound table e w P mem p = (
  into (truth_renamed (recs_of table) e P (heap_agrees 1 2 (den_heap mem) w (den_heap mem ∷ den_heap mem ∷ w) refl (λ i. refl))) p,
  record { each = λ l. refl },
)

pub sound : MovesAreSound
sound = record {
  alloc = λ table e w t N R n init mem frame whole cs s typed. alloc_sound table e w t N R n init mem frame whole cs s typed;
  get = λ table e w t M R n init mem frame whole cs s place owes. get_sound table e w t M R n init mem frame whole cs s place owes;
  set = λ table e w t M N R n init mem frame whole cs s place typed owes. set_sound table e w t M N R n init mem frame whole cs s place typed owes;
  free = λ table e w t M R n init mem frame whole cs s place owes. free_sound table e w t M R n init mem frame whole cs s place owes;
  run = λ table e w spec f R n init mem frame whole cs s m owes. run_sound table e w spec f R n init mem frame whole cs s m owes;
  claim = claim_sound;
  branching = branch_sound;
  starting = start_sound;
}
