-- A sequent's context and hypotheses with a world in which they are true, and what rules add to them.
use Rattle.std.proofs.Common.{◌≡◌, ℕ, zero, suc, List, [], ◌∷◌, ◌++◌, Some, None, refl, sym, subst}
use Rattle.std.specs.Prelude.{slice_get}
use Rattle.htt_syntax.specs.Trees.{MonoTree, FormulaTree, m_word, m_bool, m_loc, m_unit, m_pair, m_var, y_mono}
use Rattle.theory_renaming.specs.Renaming.{rename_formula}
use Rattle.theory_values.specs.Values.{Value, HasType}
use Rattle.theory_values.specs.Heaps.{Heap, IsHeap}
use Rattle.theory_truth.specs.Worlds.{Thing, World, th_value, th_heap}
use Rattle.theory_truth.specs.Worlds.{thing_at, heap_at, mono_under}
use Rattle.theory_truth.specs.Truth.{Holds, Recs}
use Rattle.theory_truth.specs.Predicates.{recs_of}
use Rattle.theory_truth.proofs.Renamed.{truth_renamed}
use Rattle.theory_typing.specs.Worlds.{IsWorldOf, world_none, world_mono, world_value, world_heap}
use Rattle.theory_typing.specs.Contexts as contexts
use Rattle.theory_typing.specs.Contexts.{en_heap, en_term, Context, Environment, IsMonoEntry, mono_here, mono_there, FormsMono, forms_word, forms_bool}
use Rattle.theory_typing.specs.Contexts.{forms_loc, forms_unit, forms_pair, forms_var}
use Rattle.theory_logic_rules.specs.Sequents.{raised}
use Rattle.theory_logic_sorts.specs.Sorts.{for_mono, for_value, for_heap, HasSort, SortedMono, SortedFormula}
use Rattle.theory_logic_sorts.proofs.Renamed as sorting
use Rattle.theory_typing_values.specs.FirstOrder.{IsFirstOrder, fo_heap, fo_value, sorts_of}
use Rattle.theory_typing_values.proofs.Formed.{SortedContext}
use Rattle.theory_typing_values.proofs.Sorted.{context_sorted}
use Rattle.theory_logic_true.specs.Sequents.{Each, AreSorted, AreTrue}

pub record Scene (env : Environment) (g : Context) (hypotheses : List FormulaTree) (w : World) : Type 0 where
  pub first_order : IsFirstOrder g
  pub world : IsWorldOf g w
  pub sorted : AreSorted (sorts_of g) hypotheses
  pub true : AreTrue env w hypotheses

no_element : {A : Type 0} {x : A} → None ≡ Some x → ⊥
no_element e = cc

heap_no_mono : Some for_heap ≡ Some for_mono → ⊥
heap_no_mono e = cc

value_no_mono : Some for_value ≡ Some for_mono → ⊥
value_no_mono e = cc

mono_no_heap : Some for_mono ≡ Some for_heap → ⊥
mono_no_heap e = cc

value_no_heap : Some for_value ≡ Some for_heap → ⊥
value_no_heap e = cc

same_element : {F G : FormulaTree} → Some F ≡ Some G → F ≡ G
same_element e = cc

pub each_at : (P : FormulaTree → Type 0) (hs : List FormulaTree) (n : ℕ) (F : FormulaTree) → slice_get hs n ≡ Some F → Each P hs → P F
each_at P [] n F e d = absurd (no_element e)
each_at P (G ∷ hs) zero F e d = subst P (same_element e) d.0
each_at P (G ∷ hs) (suc n) F e d = each_at P hs n F e d.1

pub each_more : (P : FormulaTree → Type 0) (hs : List FormulaTree) (more : List FormulaTree) → Each P hs → Each P more → Each P (hs ++ more)
each_more P [] more d e = e
each_more P (G ∷ hs) more d e = (d.0, each_more P hs more d.1 e)

pub each_raised : (P Q : FormulaTree → Type 0) → ((F : FormulaTree) → P F → Q (rename_formula suc F)) → (hs : List FormulaTree) → Each P hs → Each Q (raised hs)
each_raised P Q f [] d = tt
each_raised P Q f (G ∷ hs) d = (f G d.0, each_raised P Q f hs d.1)

-- more hypotheses
pub with_more : {env : Environment} {g : Context} {hs : List FormulaTree} {w : World} (more : List FormulaTree)
    → Scene env g hs w
    → AreSorted (sorts_of g) more
    → AreTrue env w more
    → Scene env g (hs ++ more) w
with_more {env = env} {g = g} {hs = hs} {w = w} more s d t = record {
  first_order = s.first_order;
  world = s.world;
  sorted = each_more (SortedFormula (sorts_of g)) hs more s.sorted d;
  true = each_more (Holds (recs_of env.recs) w) hs more s.true t;
}

pub with_hypothesis : {env : Environment} {g : Context} {hs : List FormulaTree} {w : World} (F : FormulaTree)
    → Scene env g hs w
    → SortedFormula (sorts_of g) F
    → Holds (recs_of env.recs) w F
    → Scene env g (hs ++ F ∷ []) w
with_hypothesis F s d t = with_more (F ∷ []) s (d, tt) (t, tt)

-- truth under one more thing
pub raised_truth : (R : Recs) (x : Thing) (w : World) (F : FormulaTree) → Holds R (x ∷ w) (rename_formula suc F) ≡ Holds R w F
raised_truth R x w F = truth_renamed R F {m = suc} {w = w} {w' = x ∷ w} (record { at = λ n. refl })

abbrev as_is : (A : Type 0) → Type 0
as_is A = A

pub raise : (R : Recs) (x : Thing) (w : World) (F : FormulaTree) → Holds R w F → Holds R (x ∷ w) (rename_formula suc F)
raise R x w F h = subst as_is (sym (raised_truth R x w F)) h

pub lower : (R : Recs) (x : Thing) (w : World) (F : FormulaTree) → Holds R (x ∷ w) (rename_formula suc F) → Holds R w F
lower R x w F h = subst as_is (raised_truth R x w F) h

-- a monotype whose variables are monotypes is formed
mono_there_formed : (g : Context) (n : ℕ) → HasSort (sorts_of g) n for_mono → IsMonoEntry g n
mono_there_formed [] n e = absurd (no_element e)
mono_there_formed (contexts.en_mono ∷ g) zero e = mono_here
mono_there_formed (en_heap ∷ g) zero e = absurd (heap_no_mono e)
mono_there_formed (en_term ty ∷ g) zero e = absurd (value_no_mono e)
mono_there_formed (entry ∷ g) (suc n) e = mono_there (mono_there_formed g n e)

pub sorted_is_formed : (g : Context) (t : MonoTree) → SortedMono (sorts_of g) t → FormsMono g t
unfolding SortedMono
sorted_is_formed g m_word d = forms_word
sorted_is_formed g m_bool d = forms_bool
sorted_is_formed g m_loc d = forms_loc
sorted_is_formed g m_unit d = forms_unit
sorted_is_formed g (m_pair left right) d = forms_pair (sorted_is_formed g left d.0) (sorted_is_formed g right d.1)
sorted_is_formed g (m_var index) d = forms_var (mono_there_formed g index d)

-- one more value, and one more heap
pub with_value : {env : Environment} {g : Context} {hs : List FormulaTree} {w : World} (t : MonoTree) (v : Value)
    → Scene env g hs w
    → SortedMono (sorts_of g) t
    → HasType v (mono_under w t)
    → Scene env (en_term (y_mono t) ∷ g) (raised hs) (th_value v ∷ w)
with_value {env = env} {g = g} {hs = hs} {w = w} t v s d typed = record {
  first_order = fo_value (sorted_is_formed g t d) s.first_order;
  world = world_value typed s.world;
  sorted =
      each_raised (SortedFormula (sorts_of g)) (SortedFormula (for_value ∷ sorts_of g))
      (λ F. sorting.formula_sorted F (sorting.keeps_suc for_value (sorts_of g))) hs s.sorted;
  true = each_raised (Holds (recs_of env.recs) w) (Holds (recs_of env.recs) (th_value v ∷ w)) (raise (recs_of env.recs) (th_value v) w) hs s.true;
}

pub with_heap : {env : Environment} {g : Context} {hs : List FormulaTree} {w : World} (h : Heap)
    → Scene env g hs w
    → IsHeap h
    → Scene env (en_heap ∷ g) (raised hs) (th_heap h ∷ w)
with_heap {env = env} {g = g} {hs = hs} {w = w} h s is = record {
  first_order = fo_heap s.first_order;
  world = world_heap is s.world;
  sorted =
      each_raised (SortedFormula (sorts_of g)) (SortedFormula (for_heap ∷ sorts_of g))
      (λ F. sorting.formula_sorted F (sorting.keeps_suc for_heap (sorts_of g))) hs s.sorted;
  true = each_raised (Holds (recs_of env.recs) w) (Holds (recs_of env.recs) (th_heap h ∷ w)) (raise (recs_of env.recs) (th_heap h) w) hs s.true;
}

-- the thing of a heap variable is a heap
pub heap_there : {g : Context} {w : World} (n : ℕ)
    → HasSort (sorts_of g) n for_heap
    → IsWorldOf g w
    → (thing_at w n ≡ th_heap (heap_at w n)) × IsHeap (heap_at w n)
heap_there n e world_none = absurd (no_element e)
heap_there zero e (world_heap is q) = (refl, is)
heap_there zero e (world_mono closed q) = absurd (mono_no_heap e)
heap_there zero e (world_value typed q) = absurd (value_no_heap e)
heap_there (suc n) e (world_heap is q) = heap_there n e q
heap_there (suc n) e (world_mono closed q) = heap_there n e q
heap_there (suc n) e (world_value typed q) = heap_there n e q

pub heap_entry : {g : Context} {n : ℕ} → contexts.IsHeapEntry g n → HasSort (sorts_of g) n for_heap
heap_entry contexts.heap_here = refl
heap_entry (contexts.heap_there i) = heap_entry i

pub context_of : {env : Environment} {g : Context} {hs : List FormulaTree} {w : World} → Scene env g hs w → SortedContext g
context_of s = context_sorted s.first_order
