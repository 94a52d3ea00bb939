-- The declarations of a file but for its proofs, each in the environment of those before it: what it
-- adds to the environment, and what it owes. Premises have the written order.
--
-- In a file an item stands in the empty context. In another context its types, terms and formulas may
-- speak of the entries.
use Rattle.std.specs.Prelude.{◌≡◌, ℕ, zero, suc, ◌+◌, List, [], ◌∷◌, ◌++◌, length, All}
use Rattle.htt_syntax.specs.Trees.{MonoTree, TyTree, TermTree, FormulaTree, y_mono, m_word, t_var}
use Rattle.theory_truth.specs.Predicates.{RecTree}
use Rattle.theory_truth.specs.Atoms.{AtomsMeet}
use Rattle.theory_typing.specs.Contexts.{en_mono, en_heap, en_term, Context, Environment, FormsMono, Obligation}
use Rattle.theory_typing.specs.Contexts.{EndsInHoare}
use Rattle.theory_typing.specs.Typing.{in_program, FormsTy, FormsFormula, Fits}

-- An abbreviation of a monotype; a predicate with so many monotypes, its parameters, each under the
-- monotypes and the parameters before it, and its body under all and the heap; a definition; a value; a
-- recursive predicate.
pub data ItemTree : Type 0 where
  i_abbreviation : MonoTree → ItemTree
  i_pred : ℕ → List MonoTree → FormulaTree → ItemTree
  i_def : TyTree → TermTree → ItemTree
  i_val : TyTree → TermTree → ItemTree
  i_rec : RecTree → ItemTree

-- a context with so many monotypes more
abbrev pub with_monos : ℕ → Context → Context
with_monos zero g = g
with_monos (suc n) g = en_mono ∷ with_monos n g

-- parameters are formed, each under those before it, with the context under all
pub data FormsParams : Context → List MonoTree → Context → Type 0 where
  params_none : {g : Context} → FormsParams g [] g
  params_more : {g h : Context} {t : MonoTree} {ts : List MonoTree}
      → FormsMono g t
      → FormsParams (en_term (y_mono t) ∷ g) ts h
      → FormsParams g (t ∷ ts) h

-- a context with entries of these monotypes more, the first of them outermost
abbrev pub with_params : Context → List MonoTree → Context
with_params g [] = g
with_params g (t ∷ ts) = with_params (en_term (y_mono t) ∷ g) ts

-- what the two bodies of a recursive predicate stand under: its parameters and then the heap; and above
-- 0 the index less one before them
abbrev pub zero_context : List MonoTree → Context
zero_context params = en_heap ∷ with_params [] params

abbrev pub next_context : List MonoTree → Context
next_context params = en_heap ∷ with_params (en_term (y_mono m_word) ∷ []) params

-- the same in a context
abbrev pub zero_under : Context → List MonoTree → Context
zero_under g params = en_heap ∷ with_params g params

abbrev pub next_under : Context → List MonoTree → Context
next_under g params = en_heap ∷ with_params (en_term (y_mono m_word) ∷ g) params

-- what an item adds: the type and the term of a definition; those of a value; a recursive predicate
pub data Added : Type 0 where
  adds_nothing : Added
  adds_def : TyTree → TermTree → Added
  adds_val : TyTree → TermTree → Added
  adds_rec : RecTree → Added

abbrev pub with_def : Environment → TyTree → TermTree → Environment
with_def env ty term = record { vals = env.vals; defs = env.defs ++ (ty, term) ∷ []; recs = env.recs }

abbrev pub with_val : Environment → TyTree → Environment
with_val env ty = record { vals = env.vals ++ ty ∷ []; defs = env.defs; recs = env.recs }

abbrev pub with_rec : Environment → RecTree → Environment
with_rec env r = record { vals = env.vals; defs = env.defs; recs = env.recs ++ r ∷ [] }

-- the environment of the items after it, which see the type of a value alone
abbrev pub with_added : Environment → Added → Environment
with_added env adds_nothing = env
with_added env (adds_def ty term) = with_def env ty term
with_added env (adds_val ty term) = with_val env ty
with_added env (adds_rec r) = with_rec env r

-- an atom of the predicate p itself stands at the index less one, which is the outermost variable
abbrev pub OwnAtIndex : ℕ → ℕ → ℕ → ℕ → TermTree → Type 0
OwnAtIndex p params d number place = number ≡ p → place ≡ t_var (suc (d + params))

-- An item derives in an environment and a context, with what it adds and what it owes.
pub data Derives (env : Environment) (g : Context) : ItemTree → Added → List Obligation → Type 0 where
  derives_abbreviation : {t : MonoTree} → FormsMono g t → Derives env g (i_abbreviation t) adds_nothing []
  derives_pred : {n : ℕ} {params : List MonoTree} {body body' : FormulaTree} {h : Context}
      → FormsParams (with_monos n g) params h
      → FormsFormula env (en_heap ∷ h) body body'
      → Derives env g (i_pred n params body) adds_nothing []
  derives_def : {ty ty' : TyTree} {term term' : TermTree} {o : List Obligation}
      → FormsTy env g ty ty'
      → Fits env in_program g term ty' term' o
      → Derives env g (i_def ty term) (adds_def ty' term') o
  derives_val : {ty ty' : TyTree} {term term' : TermTree} {o : List Obligation}
      → FormsTy env g ty ty'
      → EndsInHoare ty'
      → Fits env in_program g term ty' term' o
      → Derives env g (i_val ty term) (adds_val ty' term') o
  -- the parameters are closed, and the second body may speak of the predicate itself
  derives_rec : {r : RecTree} {at_zero at_next : FormulaTree}
      → All (FormsMono []) r.params
      → FormsFormula env (zero_under g r.params) r.at_zero at_zero
      → FormsFormula (with_rec env r) (next_under g r.params) r.at_next at_next
      → AtomsMeet (OwnAtIndex (length env.recs) (length r.params)) zero at_next
      → Derives env g (i_rec r) (adds_rec (record { params = r.params; at_zero = at_zero; at_next = at_next })) []
