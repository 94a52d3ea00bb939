-- Rows of premises that proofs share: results of substitutions in formulas, the arguments of an axiom, and what
-- a rewriting and an opening do by the formula that is inferred.
use Rattle.std.specs.Prelude.{◌≡◌, ℕ, zero, suc, ◌≤◌, List, [], ◌∷◌, ◌++◌, Result, Option, Some, None, true}
use Rattle.htt_syntax_words.specs.declared.words.Rule.TheVariants.{Infer, Axiom, Unpack, Rewrite}
use Rattle.htt_syntax_words.specs.declared.words.Which.TheVariants.{Nodes, Mono}
use Rattle.htt_syntax.specs.Trees.{MonoTree, TermTree, FormulaTree, ArgTree, y_mono, f_all_t, f_ex_t, f_ex_h, f_same}
use Rattle.htt_syntax.specs.Trees.{f_eq, a_heap, a_term}
use Rattle.theory_renaming.specs.Renaming.{rename_formula}
use Rattle.theory_canonical.specs.Skeletons.{sk_o}
use Rattle.theory_counts.specs.Nodes.{nodes_mono, nodes_formula}
use Rattle.theory_counts_monotypes.specs.Monotypes.{greatest_in_formula}
use Rattle.theory_substitution.specs.Substitution.{SubFormula}
use Rattle.theory_typing.specs.Contexts.{en_heap, en_term, Context, Environment}
use Rattle.theory_typing.specs.Typing.{in_formula}
use Rattle.theory_logic_axioms.specs.Table.{ArgSort, heap_sort, term_sort, fits_sorts}
use Rattle.theory_logic_rules.specs.Sequents.{SameFormula, raised, put_heap}
use Rattle.theory_checking.specs.Stops.{Stop, refused, passed, ◌>>=◌, ◌>>◌, Comes, Refuses, Needs, Makes}
use Rattle.theory_checking.specs.Limits.{node_limit, mono_limit, HasRoom, MonoComesTo, ResultIsWithin}
use Rattle.theory_checking.specs.Checking.{FormulaComesTo, TermComesTo, HeapComesTo}

-- A formula that is inferred is asked for, or a goal that it is to be.
abbrev pub Meets : ℕ → Option FormulaTree → FormulaTree → Result FormulaTree Stop → Type 0
Meets at None F = Comes F
Meets at (Some goal) F = do
  Needs (SameFormula F goal) (refused Infer at)
  Comes goal

-- A proof that infers, by this row of premises.
abbrev pub Inferred : ℕ → Option FormulaTree → (Result FormulaTree Stop → Type 0) → Result FormulaTree Stop → Type 0
Inferred at asked Row = do
  F ← Row
  Meets at asked F

-- the result of a substitution in a formula
abbrev pub FormulaIsWithin : FormulaTree → Result (Unit {0}) Stop → Type 0
FormulaIsWithin F = ResultIsWithin (nodes_formula F) (greatest_in_formula F)

-- a term, a heap put for the innermost variable of a formula
abbrev pub PutsInFormula : TermTree → FormulaTree → Result FormulaTree Stop → Type 0
PutsInFormula new F = do
  result ← Makes (SubFormula new sk_o zero F)
  FormulaIsWithin result
  Comes result

abbrev pub PutsHeap : ℕ → FormulaTree → Result FormulaTree Stop → Type 0
PutsHeap heap F = do
  FormulaIsWithin (put_heap heap F)
  Comes (put_heap heap F)

-- the formula of an axiom at its arguments
abbrev pub InstanceIsWithin : FormulaTree → Result FormulaTree Stop → Type 0
InstanceIsWithin F = do
  Needs (nodes_formula F ≤ node_limit) (passed Nodes)
  Comes F

-- monotypes in brackets, from the left
unfoldable pub MonosComeTo : Context → ℕ → List MonoTree → Result (Unit {0}) Stop → Type 0
MonosComeTo g at [] = Comes tt
MonosComeTo g at (t ∷ ts) = do
  MonoComesTo g at t
  MonosComeTo g at ts

-- the monotype of an argument that a pair of two makes
abbrev pub IsNarrowSort : ArgSort → Type 0
IsNarrowSort heap_sort = Unit {0}
IsNarrowSort (term_sort t) = nodes_mono t ≤ mono_limit

-- arguments of these sorts: first whether each is a heap or a term, as its sort, and then each from the left
unfoldable pub ArgsComeTo : Environment → Context → ℕ → List ArgTree → List ArgSort → Result (List ArgTree) Stop → Type 0
ArgsComeTo env g at [] [] = Comes []
ArgsComeTo env g at (a_heap h ∷ others) (heap_sort ∷ sorts) = do
  HeapComesTo g at h
  others' ← ArgsComeTo env g at others sorts
  Comes (a_heap h ∷ others')
ArgsComeTo env g at (a_term m ∷ others) (term_sort t ∷ sorts) = do
  v ← TermComesTo env in_formula g at m (Some (y_mono t))
  others' ← ArgsComeTo env g at others sorts
  Comes (a_term v.term ∷ others')
ArgsComeTo env g at _ _ = Refuses (refused Axiom at)

abbrev pub ArgumentsComeTo : Environment → Context → ℕ → List ArgTree → List ArgSort → Result (List ArgTree) Stop → Type 0
ArgumentsComeTo env g at arguments sorts = do
  Needs (fits_sorts sorts arguments ≡ true) (refused Axiom at)
  ArgsComeTo env g at arguments sorts

-- a goal that is a motive with the right side put in, and the proof of the motive with the left side
abbrev pub RewriteComesTo : Environment → Context → ℕ → FormulaTree → FormulaTree
    → (FormulaTree → Result FormulaTree Stop → Type 0)
    → FormulaTree
    → Result FormulaTree Stop
    → Type 0
RewriteComesTo env g at C goal Rest (f_eq t left right) = do
  HasRoom g 1
  C' ← FormulaComesTo env (en_term (y_mono t) ∷ g) at C
  at_right ← PutsInFormula right C'
  Needs (SameFormula goal at_right) (refused Rewrite at)
  at_left ← PutsInFormula left C'
  Rest at_left
  Comes goal
RewriteComesTo env g at C goal Rest (f_same left right) = do
  HasRoom g 1
  C' ← FormulaComesTo env (en_heap ∷ g) at C
  at_right ← PutsHeap right C'
  Needs (SameFormula goal at_right) (refused Rewrite at)
  at_left ← PutsHeap left C'
  Rest at_left
  Comes goal
RewriteComesTo env g at C goal Rest _ = Refuses (refused Rewrite at)

-- what is there is named, and then the rest of a block
abbrev pub OpenComesTo : Context → List FormulaTree → ℕ → FormulaTree
    → (Context → List FormulaTree → FormulaTree → Result FormulaTree Stop → Type 0)
    → FormulaTree
    → Result FormulaTree Stop
    → Type 0
OpenComesTo g hs at goal Rest (f_ex_t t F) = do
  HasRoom g 1
  Rest (en_term (y_mono t) ∷ g) (raised hs ++ F ∷ []) (rename_formula suc goal)
  Comes goal
OpenComesTo g hs at goal Rest (f_ex_h F) = do
  HasRoom g 1
  Rest (en_heap ∷ g) (raised hs ++ F ∷ []) (rename_formula suc goal)
  Comes goal
OpenComesTo g hs at goal Rest _ = Refuses (refused Unpack at)
