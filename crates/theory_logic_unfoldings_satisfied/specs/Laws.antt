-- Arguments are entries, and unfoldings of recursive predicates are true in valuations.
use Rattle.std.specs.Prelude.{◌≡◌, ◌↔◌, ℕ, List, [], ◌∷◌, ◌++◌, map, Some, slice_get}
use Rattle.htt_syntax.specs.declared.mono.Op.TheVariants.{Add}
use Rattle.htt_syntax.specs.Trees.{TermTree, FormulaTree, ArgTree, m_word, t_word, t_bin, f_imp, f_rec, a_heap, a_term}
use Rattle.theory_truth.specs.Predicates.{RecTree, recs_of}
use Rattle.theory_canonical.specs.Contexts.{Standing, Heads}
use Rattle.theory_canonical.specs.Canonical.{IsCanonicalFormula}
use Rattle.theory_canonical.specs.Folding.{folding}
use Rattle.theory_typing.specs.Contexts.{Context, Environment}
use Rattle.theory_logic_axioms.specs.Table.{heap_sort, term_sort}
use Rattle.theory_logic_axioms.specs.Laws.{AreCanonicalArgs}
use Rattle.theory_logic_rules.specs.Sequents.{PutArgs, terms_of, FitsArgs, below_greatest, both_ways}
use Rattle.theory_denotation.specs.Valuations.{Valuation, HeadEntries}
use Rattle.theory_denotation.specs.Satisfaction.{Satisfies}
use Rattle.theory_denotation.specs.Valued.{ContextValued, HeadsValued}
use Rattle.theory_logic_unfoldings_satisfied.specs.Entries.{with_args, with_entries, AreHeapsIn, Setting}

pub record ArgumentsAreEntries : Type 0 where
  pub canonical : (heads : Heads) (g : List Standing) (arguments : List ArgTree)
      → AreCanonicalArgs heads g arguments
      → (F R : FormulaTree)
      → PutArgs arguments F R
      → IsCanonicalFormula heads (with_args arguments g) F
      → IsCanonicalFormula heads g R
  pub satisfied : (table : List RecTree) (heads : Heads) (e : HeadEntries) (g : List Standing) (w : Valuation)
      → HeadsValued heads e
      → ContextValued g w
      → (arguments : List ArgTree)
      → AreCanonicalArgs heads g arguments
      → AreHeapsIn w arguments
      → (F R : FormulaTree)
      → PutArgs arguments F R
      → IsCanonicalFormula heads (with_args arguments g) F
      → Satisfies (recs_of table) e w R ↔ Satisfies (recs_of table) e (with_entries e w arguments w) F

pub record UnfoldingsAreSatisfied : Type 0 where
  pub at_zero : (env : Environment) (e : HeadEntries) (g : Context) (w : Valuation)
      → Setting env e g w
      → (number : ℕ) (r : RecTree)
      → slice_get env.recs number ≡ Some r
      → (h : ℕ) (arguments values : List ArgTree)
      → FitsArgs env g arguments (heap_sort ∷ map term_sort r.params) (a_heap h ∷ values)
      → (F : FormulaTree)
      → PutArgs (values ++ a_heap h ∷ []) r.at_zero F
      → Satisfies (recs_of env.recs) e w (both_ways (f_rec number h (t_word 0) (terms_of values)) F)
  pub at_next : (env : Environment) (e : HeadEntries) (g : Context) (w : Valuation)
      → Setting env e g w
      → (number : ℕ) (r : RecTree)
      → slice_get env.recs number ≡ Some r
      → (h : ℕ) (m : TermTree) (arguments values : List ArgTree)
      → FitsArgs env g arguments (heap_sort ∷ term_sort m_word ∷ map term_sort r.params) (a_heap h ∷ a_term m ∷ values)
      → (F : FormulaTree)
      → PutArgs (a_term m ∷ values ++ a_heap h ∷ []) r.at_next F
      → Satisfies (recs_of env.recs) e w
      (f_imp (below_greatest m) (both_ways (f_rec number h (folding (t_bin Add m (t_word 1))) (terms_of values)) F))
