-- What the proof rules say of hypotheses, of heaps and arguments that are put for variables, and of the
-- arguments of axioms.
use Rattle.std.specs.Prelude.{◌≡◌, ℕ, zero, suc, List, [], ◌∷◌, length, map, true}
use Rattle.htt_syntax.specs.declared.mono.Op.TheVariants.{Lt}
use Rattle.htt_syntax.specs.Trees.{MonoTree, TermTree, TermTrees, FormulaTree, ArgTree, m_bool, y_mono, t_word, t_bool}
use Rattle.htt_syntax.specs.Trees.{t_bin, f_and, f_imp, f_eq, a_heap, a_term, no_terms, more_terms}
use Rattle.theory_renaming.specs.Renaming.{Map, lifts, rename_term, rename_formula}
use Rattle.theory_canonical.specs.Skeletons.{sk_o}
use Rattle.theory_canonical.specs.Folding.{folding}
use Rattle.theory_substitution.specs.Substitution.{SubFormula}
use Rattle.theory_typing.specs.Positions.{plain_term, plain_formula}
use Rattle.theory_typing.specs.Contexts.{Context, Environment, IsHeapEntry, FormsMono}
use Rattle.theory_typing.specs.Typing.{in_formula, Fits}
use Rattle.theory_logic_axioms.specs.Table.{ArgSort, heap_sort, term_sort}

-- Terms and formulas are the same where they differ in positions alone.
abbrev pub SameTerm : TermTree → TermTree → Type 0
SameTerm m n = plain_term m ≡ plain_term n

abbrev pub SameFormula : FormulaTree → FormulaTree → Type 0
SameFormula F G = plain_formula F ≡ plain_formula G

-- The hypotheses of a sequent, the first of them outermost, under one more variable.
abbrev pub raised : List FormulaTree → List FormulaTree
raised hypotheses = map (rename_formula suc) hypotheses

-- A heap for the innermost variable.
unfoldable pub putting : ℕ → Map
putting heap zero = heap
putting heap (suc n) = n

abbrev pub put_heap : ℕ → FormulaTree → FormulaTree
put_heap heap F = rename_formula (putting heap) F

-- A term under so many more variables.
unfoldable pub raised_term : ℕ → TermTree → TermTree
raised_term zero m = m
raised_term (suc k) m = rename_term suc (raised_term k m)

-- Arguments for the innermost variables of a formula, the first of them for the outermost of these.
pub data PutArgs : List ArgTree → FormulaTree → FormulaTree → Type 0 where
  put_none : {F : FormulaTree} → PutArgs [] F F
  put_term_first : {m : TermTree} {others : List ArgTree} {F F' G : FormulaTree}
      → SubFormula (raised_term (length others) m) sk_o (length others) F F'
      → PutArgs others F' G
      → PutArgs (a_term m ∷ others) F G
  put_heap_first : {h : ℕ} {others : List ArgTree} {F G : FormulaTree}
      → PutArgs others (rename_formula (lifts (length others) (putting h)) F) G
      → PutArgs (a_heap h ∷ others) F G

-- The terms of arguments.
unfoldable pub terms_of : List ArgTree → TermTrees
terms_of [] = no_terms
terms_of (a_heap h ∷ others) = terms_of others
terms_of (a_term m ∷ others) = more_terms m (terms_of others)

pub data FormsMonos (g : Context) : List MonoTree → Type 0 where
  forms_no_monos : FormsMonos g []
  forms_more_monos : {mono : MonoTree} {others : List MonoTree}
      → FormsMono g mono
      → FormsMonos g others
      → FormsMonos g (mono ∷ others)

-- Arguments fit sorts, with their canonical forms.
pub data FitsArgs (env : Environment) (g : Context) : List ArgTree → List ArgSort → List ArgTree → Type 0 where
  fits_no_args : FitsArgs env g [] [] []
  fits_heap_arg : {h : ℕ} {others : List ArgTree} {sorts : List ArgSort} {others' : List ArgTree}
      → IsHeapEntry g h
      → FitsArgs env g others sorts others'
      → FitsArgs env g (a_heap h ∷ others) (heap_sort ∷ sorts) (a_heap h ∷ others')
  fits_term_arg : {m m' : TermTree} {t : MonoTree} {others : List ArgTree} {sorts : List ArgSort}
      {others' : List ArgTree}
      → Fits env in_formula g m (y_mono t) m' []
      → FitsArgs env g others sorts others'
      → FitsArgs env g (a_term m ∷ others) (term_sort t ∷ sorts) (a_term m' ∷ others')

-- The word m is not the greatest, as a canonical formula.
abbrev pub below_greatest : TermTree → FormulaTree
below_greatest m = f_eq m_bool (folding (t_bin Lt m (t_word 18446744073709551615))) (t_bool true)

abbrev pub both_ways : FormulaTree → FormulaTree → FormulaTree
both_ways F G = f_and (f_imp F G) (f_imp G F)
