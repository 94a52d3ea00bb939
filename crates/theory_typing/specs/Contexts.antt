-- Contexts and what stands in them, the environment of a phrase, and what a phrase owes.
use Rattle.std.specs.Prelude.{ℕ, zero, suc, List, ◌∷◌}
use Rattle.htt_syntax.specs.Trees.{MonoTree, TyTree, TermTree, TermTrees, FormulaTree, no_terms, more_terms, m_word}
use Rattle.htt_syntax.specs.Trees.{m_bool, m_loc, m_unit, m_pair, m_var, y_all, y_fun, y_hoare}
use Rattle.theory_renaming.specs.Renaming.{rename_ty}
use Rattle.theory_truth.specs.Predicates.{RecTree}

-- An entry of a context: a monotype variable, a term variable with its type, or a heap variable.
pub data EntryTree : Type 0 where
  en_mono en_heap : EntryTree
  en_term : TyTree → EntryTree

-- A context has its innermost entry first.
abbrev pub Context : Type 0
Context = List EntryTree

-- The types of the values of the file, the types and terms of its definitions, and its recursive
-- predicates; all are closed.
pub record Environment : Type 0 where
  pub vals : List TyTree
  pub defs : List (TyTree × TermTree)
  pub recs : List RecTree

-- The variable n is a monotype, a heap, or a term of a type, which is seen from the whole context.
pub data IsMonoEntry : Context → ℕ → Type 0 where
  mono_here : {g : Context} → IsMonoEntry (en_mono ∷ g) zero
  mono_there : {g : Context} {entry : EntryTree} {n : ℕ} → IsMonoEntry g n → IsMonoEntry (entry ∷ g) (suc n)

pub data IsHeapEntry : Context → ℕ → Type 0 where
  heap_here : {g : Context} → IsHeapEntry (en_heap ∷ g) zero
  heap_there : {g : Context} {entry : EntryTree} {n : ℕ} → IsHeapEntry g n → IsHeapEntry (entry ∷ g) (suc n)

pub data HasEntryType : Context → ℕ → TyTree → Type 0 where
  type_here : {g : Context} {ty : TyTree} → HasEntryType (en_term ty ∷ g) zero (rename_ty suc ty)
  type_there : {g : Context} {entry : EntryTree} {n : ℕ} {ty : TyTree}
      → HasEntryType g n ty
      → HasEntryType (entry ∷ g) (suc n) (rename_ty suc ty)

-- A monotype is formed where its variables are monotypes of the context.
pub data FormsMono (g : Context) : MonoTree → Type 0 where
  forms_word : FormsMono g m_word
  forms_bool : FormsMono g m_bool
  forms_loc : FormsMono g m_loc
  forms_unit : FormsMono g m_unit
  forms_pair : {left right : MonoTree} → FormsMono g left → FormsMono g right → FormsMono g (m_pair left right)
  forms_var : {index : ℕ} → IsMonoEntry g index → FormsMono g (m_var index)

-- An obligation: a goal without hypotheses in a context.
pub record Obligation : Type 0 where
  pub context : Context
  pub goal : FormulaTree

-- How many terms there are.
unfoldable pub count_of : TermTrees → ℕ
count_of no_terms = zero
count_of (more_terms first others) = suc (count_of others)

-- The monotypes at which `eq` compares.
pub data IsComparable : MonoTree → Type 0 where
  compares_word : IsComparable m_word
  compares_bool : IsComparable m_bool
  compares_loc : IsComparable m_loc

-- The type of a `val` ends in a computation after its functions.
abbrev pub EndsInHoare : TyTree → Type 0
EndsInHoare (y_hoare spec) = Unit {0}
EndsInHoare (y_fun argument answer) = EndsInHoare answer
EndsInHoare (y_all body) = EndsInHoare body
EndsInHoare _ = ⊥
