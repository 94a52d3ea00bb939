-- A monotype of a context is closed by a valuation of it, and obligations are true by parts.
use Rattle.std.proofs.Common.{List, [], ◌∷◌, ◌++◌, Option, Some, None, sym, ap, subst}
use Rattle.htt_syntax.specs.Trees.{MonoTree, FormulaTree}
use Rattle.theory_values.specs.Values.{IsClosed, closed_word, closed_bool, closed_loc, closed_unit, closed_pair}
use Rattle.theory_values.specs.Heaps.{Heap, IsHeap}
use Rattle.theory_truth.specs.Predicates.{RecTree, recs_of}
use Rattle.theory_typing.specs.Contexts.{Context, Obligation, FormsMono, forms_word, forms_bool, forms_loc, forms_unit, forms_pair, forms_var}
use Rattle.theory_typing.specs.Typing.{owes}
use Rattle.theory_denotation.specs.Valuations.{Valuation, den_heap, mono_of_entry, mono_in, HeadEntries}
use Rattle.theory_denotation_types.specs.Types.{ContextMeans, means_heap}
use Rattle.theory_denotation_types.proofs.Given.{given}
use Rattle.theory_denotation_moves.specs.States.{OwedAt}
use Rattle.theory_typing_sound.specs.Environments.{AllTrue}

module _ (table : List RecTree) (e : HeadEntries) where
  pub closed_in : {g : Context} {w : Valuation} {t : MonoTree} → FormsMono g t → ContextMeans (recs_of table) e g w → IsClosed (mono_in w t)
  closed_in forms_word k = closed_word
  closed_in forms_bool k = closed_bool
  closed_in forms_loc k = closed_loc
  closed_in forms_unit k = closed_unit
  closed_in (forms_pair a b) k = closed_pair (closed_in a k) (closed_in b k)
  closed_in (forms_var {index = index} d) k = let o = given.monos table e k index d in subst IsClosed (sym (ap mono_of_entry o.1)) o.2

  pub all_left : (o p : List Obligation) → AllTrue table e (o ++ p) → AllTrue table e o
  all_left [] p t = tt
  all_left (x ∷ o) p t = (t.0, all_left o p t.1)

  pub all_right : (o p : List Obligation) → AllTrue table e (o ++ p) → AllTrue table e p
  all_right [] p t = t
  all_right (x ∷ o) p t = all_right o p t.1

  pub owed_true : (g : Context) (goal : Option FormulaTree) (w : Valuation) (init mem : Heap)
      → AllTrue table e (owes g goal)
      → ContextMeans (recs_of table) e g w
      → IsHeap init
      → IsHeap mem
      → OwedAt table e w goal init mem
  owed_true g None w init mem t k i j = tt
  owed_true g (Some F) w init mem t k i j = t.0 (den_heap mem ∷ den_heap init ∷ w) (means_heap j (means_heap i k))
