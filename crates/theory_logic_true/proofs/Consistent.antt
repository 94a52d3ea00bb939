-- Each first-order context has a world, in which `ff` isn't true.
use Rattle.std.proofs.Common.{[], ◌∷◌}
use Rattle.htt_syntax.specs.Trees.{MonoTree, m_unit, f_ff}
use Rattle.theory_values.specs.Values.{IsClosed, closed_word, closed_bool, closed_loc, closed_unit, closed_pair}
use Rattle.theory_values.specs.Heaps.{empty_heap}
use Rattle.theory_values.proofs.Encoding.{closed_has_value}
use Rattle.theory_truth.specs.Worlds.{World, th_mono, th_value, th_heap, mono_under}
use Rattle.theory_truth.specs.Truth.{Holds}
use Rattle.theory_truth.specs.Predicates.{recs_of}
use Rattle.theory_typing.specs.Worlds.{IsWorldOf, world_none, world_mono, world_value, world_heap}
use Rattle.theory_typing.proofs.Given.{mono_given}
use Rattle.theory_typing.specs.Contexts.{Context, Environment, FormsMono, forms_word, forms_bool, forms_loc, forms_unit, forms_pair, forms_var}
use Rattle.theory_logic_sorts.specs.Sorts.{SortedFormula}
use Rattle.theory_typing_values.specs.FirstOrder.{IsFirstOrder, fo_none, fo_mono, fo_heap, fo_value, sorts_of}
use Rattle.theory_logic_true.specs.Laws.{ProofsAreConsistent}
use Rattle.theory_logic_true.proofs.True.{proved}
use Rattle.theory_values.proofs.Joins.{empty_is_heap}

-- a formed monotype is closed under a world
closed_under : {g : Context} {w : World} {t : MonoTree} → FormsMono g t → IsWorldOf g w → IsClosed (mono_under w t)
closed_under forms_word q = closed_word
closed_under forms_bool q = closed_bool
closed_under forms_loc q = closed_loc
closed_under forms_unit q = closed_unit
closed_under (forms_pair a b) q = closed_pair (closed_under a q) (closed_under b q)
closed_under (forms_var i) q = mono_given q i

world_of : {g : Context} → IsFirstOrder g → (w : World) × IsWorldOf g w
world_of fo_none = ([], world_none)
world_of (fo_mono p) = let r = world_of p in (th_mono m_unit ∷ r.0, world_mono closed_unit r.1)
world_of (fo_heap p) = let r = world_of p in (th_heap empty_heap ∷ r.0, world_heap empty_is_heap r.1)
world_of (fo_value f p) = let r = world_of p in let v = closed_has_value (closed_under f r.1) in (th_value v.0 ∷ r.0, world_value v.1 r.1)

false_sorted : (g : Context) → SortedFormula (sorts_of g) f_ff
unfolding SortedFormula
false_sorted g = tt

never : (env : Environment) (w : World) → Holds (recs_of env.recs) w f_ff → ⊥
unfolding Holds
never env w h = h

pub consistent : ProofsAreConsistent
consistent = record {
  has_world = λ g p. world_of p;
  no_proof_of_false = λ env f g p proof d. let r = world_of p in never env r.0 (proved.sorted env f g p [] f_ff tt (false_sorted g) proof d r.0 r.1 tt);
}
