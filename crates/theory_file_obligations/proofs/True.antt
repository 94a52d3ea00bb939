-- An obligation that is proved in the environment of all items is true.
use Rattle.std.proofs.Common.{◌≡◌, ℕ, zero, suc, List, [], ◌∷◌, Some, None, subst}
use Rattle.std.specs.Prelude.{slice_get}
use Rattle.std.proofs.lemmas.Option.{same_Some}
use Rattle.std.proofs.lemmas.List.Elements.{All-head, All-tail}
use Rattle.theory_canonical.specs.Contexts.{Heads}
use Rattle.theory_canonical.specs.Canonical.{IsCanonicalFormula}
use Rattle.theory_typing.specs.Contexts.{Obligation}
use Rattle.theory_truth.specs.Predicates.{recs_of}
use Rattle.theory_typing_canonical.specs.Environments.{standings, heads_of, IsCanonicalContext, no_entry}
use Rattle.theory_typing_canonical.specs.Laws.{AreCanonical}
use Rattle.theory_items.proofs.Derived as items
use Rattle.theory_items.proofs.MoreHeads.{formula_more}
use Rattle.theory_denotation_types.proofs.Shaped.{context_shaped}
use Rattle.theory_items_sound.proofs.Kept.{items_keep_sound}
use Rattle.theory_logic_satisfied.proofs.Satisfied.{proved}
use Rattle.theory_file_obligations.specs.Laws.{StandCanonical, ProvedIsTrueGoal}
use Rattle.theory_file_obligations.proofs.Owed.{item_stands}
use Rattle.theory_file_obligations.proofs.More.{all_sound, heads_from, context_more}

no_element : {A : Type 0} {x : A} → None ≡ Some x → ⊥
no_element q = cc

goal_at : (heads : Heads) (owed : List Obligation) (k : ℕ) (o : Obligation)
    → slice_get owed k ≡ Some o
    → AreCanonical heads owed
    → IsCanonicalFormula heads (standings o.context) o.goal
goal_at heads [] k o q d = absurd (no_element q)
goal_at heads (x ∷ owed) zero o q d =
    subst (λ (y : Obligation). IsCanonicalFormula heads (standings y.context) y.goal) (same_Some x o q)
    (All-head (λ (y : Obligation). IsCanonicalFormula heads (standings y.context) y.goal) x owed d)
goal_at heads (x ∷ owed) (suc k) o q d =
    goal_at heads owed k o q (All-tail (λ (y : Obligation). IsCanonicalFormula heads (standings y.context) y.goal) x owed d)

context_at : (heads : Heads) (owed : List Obligation) (k : ℕ) (o : Obligation)
    → slice_get owed k ≡ Some o
    → StandCanonical heads owed
    → IsCanonicalContext heads o.context
context_at heads [] k o q d = absurd (no_element q)
context_at heads (x ∷ owed) zero o q d = subst (λ (y : Obligation). IsCanonicalContext heads y.context) (same_Some x o q) d.0
context_at heads (x ∷ owed) (suc k) o q d = context_at heads owed k o q d.1

pub proved_goal : ProvedIsTrueGoal
proved_goal env final item added owed rest rows s d more e valued k o p q proof = λ w m.
    let heads = heads_from d more in
    let goal = formula_more heads (goal_at (heads_of env) owed k o q (items.items_keep_canonical.owed env [] item added owed s.canonical no_entry d)) in
    let context = context_more heads (context_at (heads_of env) owed k o q (item_stands env s.canonical d no_entry)) in
    let whole = all_sound more (items_keep_sound.kept env item added owed s d) in
    proved.alone final e o.context w
    (record { environment = whole; heads = valued; context = context; valuation = context_shaped (recs_of final.recs) e m }) o.goal goal p
    proof
