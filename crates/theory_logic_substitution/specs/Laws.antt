-- The laws of reindexing.
use Rattle.std.specs.Prelude.{◌≡◌, ◌↔◌, ℕ, zero, List, ◌∷◌}
use Rattle.htt_syntax.specs.Trees.{MonoTree, TermTree, FormulaTree, ArgTree}
use Rattle.theory_values.specs.Heaps.{Heap}
use Rattle.theory_truth.specs.Worlds.{World, th_mono, th_value, th_heap, thing_at, mono_under}
use Rattle.theory_truth.specs.TermValue.{term_value}
use Rattle.theory_truth.specs.Truth.{Holds}
use Rattle.theory_truth.specs.Predicates.{RecTree, recs_of}
use Rattle.theory_canonical.specs.Skeletons.{sk_o}
use Rattle.theory_substitution.specs.Monotypes.{put_mono_term, put_mono_formula}
use Rattle.theory_substitution.specs.Substitution.{SubTerm, SubFormula}
use Rattle.theory_logic_rules.specs.Sequents.{put_heap, PutArgs}
use Rattle.theory_logic_sorts.specs.Sorts.{Sorts, for_mono, for_value, HasSort, SortedTerm, SortedFormula}
use Rattle.theory_logic_sorts.specs.Sorts.{AreSortedArgs, under_args}
use Rattle.theory_logic_substitution.specs.Reindexing.{HasMore, AgreesOn, world_of_args, AreHeapsIn}

pub record EntriesDecide : Type 0 where
  pub values : {g : Sorts} {w v : World}
      → AgreesOn g w v
      → (M : TermTree)
      → SortedTerm g M
      → term_value w M ≡ term_value v M
  pub truths : (table : List RecTree) {g : Sorts} {w v : World}
      → AgreesOn g w v
      → (F : FormulaTree)
      → SortedFormula g F
      → Holds (recs_of table) w F ↔ Holds (recs_of table) v F

pub record TermsReindex : Type 0 where
  pub values : (new : TermTree) (x : ℕ) (g : Sorts) {w whole : World}
      → HasMore x (th_value (term_value w new)) w whole
      → HasSort g x for_value
      → (M R : TermTree)
      → SubTerm new sk_o x M R
      → SortedTerm g M
      → term_value w R ≡ term_value whole M
  pub truths : (table : List RecTree) (new : TermTree) (x : ℕ) (g : Sorts) {w whole : World}
      → HasMore x (th_value (term_value w new)) w whole
      → HasSort g x for_value
      → (F R : FormulaTree)
      → SubFormula new sk_o x F R
      → SortedFormula g F
      → Holds (recs_of table) w R ↔ Holds (recs_of table) whole F
  pub innermost : (table : List RecTree) (new : TermTree) (g : Sorts) (w : World) (F R : FormulaTree)
      → SubFormula new sk_o zero F R
      → SortedFormula (for_value ∷ g) F
      → Holds (recs_of table) w R ↔ Holds (recs_of table) (th_value (term_value w new) ∷ w) F

abbrev pub HeapsReindex : Type 0
HeapsReindex =
    (table : List RecTree) (w : World) (heap : ℕ) (h : Heap)
    → thing_at w heap ≡ th_heap h
    → (F : FormulaTree)
    → Holds (recs_of table) w (put_heap heap F) ↔ Holds (recs_of table) (th_heap h ∷ w) F

pub record MonotypesReindexTruth : Type 0 where
  pub values : (mono : MonoTree) (x : ℕ) (g : Sorts) {w whole : World}
      → HasMore x (th_mono (mono_under w mono)) w whole
      → HasSort g x for_mono
      → (M : TermTree)
      → SortedTerm g M
      → term_value w (put_mono_term mono x M) ≡ term_value whole M
  pub truths : (table : List RecTree) (mono : MonoTree) (x : ℕ) (g : Sorts) {w whole : World}
      → HasMore x (th_mono (mono_under w mono)) w whole
      → HasSort g x for_mono
      → (F : FormulaTree)
      → SortedFormula g F
      → Holds (recs_of table) w (put_mono_formula mono x F) ↔ Holds (recs_of table) whole F

abbrev pub ArgumentsReindex : Type 0
ArgumentsReindex =
    (table : List RecTree) (g : Sorts) (w : World) (arguments : List ArgTree)
    → AreSortedArgs g arguments
    → AreHeapsIn w arguments
    → (F R : FormulaTree)
    → PutArgs arguments F R
    → SortedFormula (under_args arguments g) F
    → Holds (recs_of table) w R ↔ Holds (recs_of table) (world_of_args w w arguments) F
