-- The laws of typing, and small derivations.
use Rattle.std.specs.Prelude.{◌≡◌, ℕ, List, [], ◌∷◌, true}
use Rattle.htt_syntax.specs.declared.mono.Op.TheVariants.{Add, Lt}
use Rattle.htt_syntax.specs.Trees.{MonoTree, TyTree, TripleTree, TermTree, CompTree, FormulaTree, m_word, m_bool}
use Rattle.htt_syntax.specs.Trees.{m_pair, y_mono}
use Rattle.htt_syntax.specs.Trees.{y_fun, triple, t_var, t_app, t_lam, t_do, t_word, t_bool, t_pair, t_bin, t_eq, t_ann}
use Rattle.htt_syntax.specs.Trees.{t_at, c_ret, f_tt, f_and, f_imp, f_ex_t, f_same, f_eq, f_at}
use Rattle.theory_values.specs.Values.{HasType, IsClosed}
use Rattle.theory_values.specs.Heaps.{IsHeap}
use Rattle.theory_truth.specs.Worlds.{World, mono_at, value_at, heap_at, mono_under}
use Rattle.theory_typing.specs.Contexts.{en_term, en_heap, Context, IsMonoEntry, IsHeapEntry, HasEntryType, Environment}
use Rattle.theory_typing.specs.Contexts.{Obligation}
use Rattle.theory_typing.specs.Worlds.{IsWorldOf}
use Rattle.theory_typing.specs.Typing.{Mode, in_program, in_formula, FormsTy, FormsFormula, Gives, Fits, FitsBody}

-- A world gives each variable of its context a thing of its sort: a closed monotype, a heap, or a value
-- of the variable's monotype.
pub record WorldsGive : Type 0 where
  pub monos : (g : Context) (w : World) → IsWorldOf g w → (n : ℕ) → IsMonoEntry g n → IsClosed (mono_at w n)
  pub heaps : (g : Context) (w : World) → IsWorldOf g w → (n : ℕ) → IsHeapEntry g n → IsHeap (heap_at w n)
  pub values : (g : Context) (w : World)
      → IsWorldOf g w
      → (n : ℕ) (t : MonoTree)
      → HasEntryType g n (y_mono t)
      → HasType (value_at w n) (mono_under w t)

-- a phrase has at most one type, one canonical form and one list of obligations
pub record TypingGivesOne : Type 0 where
  pub types : (env : Environment) (g : Context) (ty r q : TyTree) → FormsTy env g ty r → FormsTy env g ty q → r ≡ q
  pub formulas : (env : Environment) (g : Context) (F r q : FormulaTree)
      → FormsFormula env g F r
      → FormsFormula env g F q
      → r ≡ q
  pub given : (env : Environment) (m : Mode) (g : Context) (M r q : TermTree) (A B : TyTree) (o p : List Obligation)
      → Gives env m g M A r o
      → Gives env m g M B q p
      → (A ≡ B) × (r ≡ q) × (o ≡ p)
  pub fitting : (env : Environment) (m : Mode) (g : Context) (M r q : TermTree) (A : TyTree) (o p : List Obligation)
      → Fits env m g M A r o
      → Fits env m g M A q p
      → (r ≡ q) × (o ≡ p)
  pub bodies : (env : Environment) (g : Context) (E r q : CompTree) (spec : TripleTree) (o p : List Obligation)
      → FitsBody env g E spec r o
      → FitsBody env g E spec q p
      → (r ≡ q) × (o ≡ p)

abbrev pub none : Environment
none = record { vals = []; defs = []; recs = [] }

abbrev pub word_to_word : TyTree
word_to_word = y_fun (y_mono m_word) (y_mono m_word)

-- [[tt /\ Same(mem, init)] /\ y =[word] 5] => y =[word] 5, under y, init and mem
abbrev pub sum_goal : Obligation
sum_goal = record {
  context = en_heap ∷ en_heap ∷ en_term (y_mono m_word) ∷ [];
  goal = f_imp (f_and (f_and f_tt (f_same 0 1)) (f_eq m_word (t_var 2) (t_word 5))) (f_eq m_word (t_var 2) (t_word 5));
}

pub record WorkedTyping : Type 0 where
  -- do ret 2 + 3 against {tt} x : word {x =[word] 5}: the sum is folded, and one obligation is owed
  pub sum :
      FitsBody none [] (c_ret (t_bin Add (t_word 2) (t_word 3))) (triple f_tt m_word (f_eq m_word (t_var 2) (t_word 5)))
      (c_ret (t_word 5)) (sum_goal ∷ [])
  -- positions are passed over
  pub placed : Fits none in_program [] (t_at 3 (t_bool true)) (y_mono m_bool) (t_bool true) []
  -- fun y . y + 1 fits (x : word) -> word
  pub successor :
      Fits none in_formula [] (t_lam (t_bin Add (t_var 0) (t_word 1))) word_to_word
      (t_lam (t_bin Add (t_var 0) (t_word 1))) []
  -- a function's variable is expanded: f gives (x : word) -> word as fun x . f x
  pub expanded :
      Gives none in_formula (en_term word_to_word ∷ []) (t_var 0) word_to_word (t_lam (t_app (t_var 1) (t_var 0))) []
  -- ((fun y . y + 1) : (x : word) -> word) 2 gives 3
  pub applied :
      Gives none in_formula [] (t_app (t_ann (t_lam (t_bin Add (t_var 0) (t_word 1))) word_to_word) (t_word 2))
      (y_mono m_word) (t_word 3) []
  -- a comparison gives a boolean
  pub compared : Gives none in_formula [] (t_bin Lt (t_word 2) (t_word 3)) (y_mono m_bool) (t_bool true) []
  -- ex y : word . y =[word] y is formed as it is
  pub formed :
      FormsFormula none [] (f_at 0 (f_ex_t m_word (f_eq m_word (t_var 0) (t_var 0))))
      (f_ex_t m_word (f_eq m_word (t_var 0) (t_var 0)))
  -- a function gives no type, and a pair doesn't fit a function type
  pub no_synthesis : (A : TyTree) (N : TermTree) (o : List Obligation)
      → Gives none in_program [] (t_lam (t_var 0)) A N o
      → ⊥
  pub no_function : (N : TermTree) (o : List Obligation)
      → Fits none in_program [] (t_pair (t_word 1) (t_word 2)) word_to_word N o
      → ⊥
  -- no computation in a formula
  pub no_do : (E : CompTree) (A : TyTree) (N : TermTree) (o : List Obligation)
      → Fits none in_formula [] (t_do E) A N o
      → ⊥
  -- pairs aren't compared
  pub no_comparison : (M N R : TermTree) (A : TyTree) (o : List Obligation)
      → Gives none in_program [] (t_eq (m_pair m_word m_word) M N) A R o
      → ⊥
