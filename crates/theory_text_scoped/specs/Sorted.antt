-- Trees in which each free variable is one of a context, and is of the sort that its place needs.
use Rattle.std.specs.Prelude.{◌≡◌, ℕ, zero, suc, Bool, true, false, List, ◌∷◌, Option, Some, None}
use Rattle.htt_syntax.specs.declared.mono.Op.{Op}
use Rattle.htt_syntax.specs.Trees.{MonoTree, TyTree, TripleTree, TermTree, FixTree, CompTree, StepTree, FormulaTree}
use Rattle.htt_syntax.specs.Trees.{TermTrees, m_word, m_bool, m_loc, m_unit, m_pair, m_var, y_mono, y_fun, y_all}
use Rattle.htt_syntax.specs.Trees.{y_hoare, y_at, triple, t_var, t_val, t_def, t_app, t_inst, t_lam, t_lam_t, t_do}
use Rattle.htt_syntax.specs.Trees.{t_fix, t_word, t_bool, t_loc, t_unit, t_pair, t_fst, t_snd, t_not, t_bin, t_eq}
use Rattle.htt_syntax.specs.Trees.{t_sel, t_ann, t_made, t_at, x_param, x_body, c_ret, c_step, s_run, s_alloc, s_get}
use Rattle.htt_syntax.specs.Trees.{s_set, s_free, s_if, s_claim, f_tt, f_ff, f_and, f_or, f_imp, f_all_t, f_ex_t}
use Rattle.htt_syntax.specs.Trees.{f_all_h, f_ex_h, f_emp, f_cell, f_block, f_join, f_same, f_eq, f_at, f_rec, no_terms}
use Rattle.htt_syntax.specs.Trees.{more_terms}
use Rattle.theory_text_names.specs.Scopes.{Sort, a_mono, a_term, a_heap, a_term_or_heap, the_init, the_mem}

-- The sorts of a context, the innermost first.
abbrev pub Sorts : Type 0
Sorts = List Sort

abbrev pub may_be_mono : Sort → Bool
may_be_mono a_mono = true
may_be_mono _ = false

abbrev pub may_be_term : Sort → Bool
may_be_term a_term = true
may_be_term a_term_or_heap = true
may_be_term _ = false

abbrev pub may_be_heap : Sort → Bool
may_be_heap a_heap = true
may_be_heap the_init = true
may_be_heap the_mem = true
may_be_heap a_term_or_heap = true
may_be_heap _ = false

-- The variable n is one of the context, with a sort that passes.
pub data HasSort (may_be : Sort → Bool) : Sorts → ℕ → Type 0 where
  sort_here : {g : Sorts} {s : Sort} → may_be s ≡ true → HasSort may_be (s ∷ g) zero
  sort_there : {g : Sorts} {s : Sort} {n : ℕ} → HasSort may_be g n → HasSort may_be (s ∷ g) (suc n)

abbrev pub IsMono : Sorts → ℕ → Type 0
IsMono = HasSort may_be_mono

abbrev pub IsTerm : Sorts → ℕ → Type 0
IsTerm = HasSort may_be_term

abbrev pub IsHeap : Sorts → ℕ → Type 0
IsHeap = HasSort may_be_heap

pub data SortedMono : Sorts → MonoTree → Type 0 where
  sorted_m_word : {g : Sorts} → SortedMono g m_word
  sorted_m_bool : {g : Sorts} → SortedMono g m_bool
  sorted_m_loc : {g : Sorts} → SortedMono g m_loc
  sorted_m_unit : {g : Sorts} → SortedMono g m_unit
  sorted_m_pair : {g : Sorts} {left : MonoTree} {right : MonoTree}
      → SortedMono g left
      → SortedMono g right
      → SortedMono g (m_pair left right)
  sorted_m_var : {g : Sorts} {index : ℕ} → IsMono g index → SortedMono g (m_var index)

pub data SortedOption : Sorts → Option MonoTree → Type 0 where
  sorted_none : {g : Sorts} → SortedOption g None
  sorted_some : {g : Sorts} {mono : MonoTree} → SortedMono g mono → SortedOption g (Some mono)

mutual
  pub data SortedTy : Sorts → TyTree → Type 0 where
    sorted_y_mono : {g : Sorts} {mono : MonoTree} → SortedMono g mono → SortedTy g (y_mono mono)
    sorted_y_fun : {g : Sorts} {argument : TyTree} {answer : TyTree}
        → SortedTy g argument
        → SortedTy (a_term ∷ g) answer
        → SortedTy g (y_fun argument answer)
    sorted_y_all : {g : Sorts} {body : TyTree} → SortedTy (a_mono ∷ g) body → SortedTy g (y_all body)
    sorted_y_hoare : {g : Sorts} {spec : TripleTree} → SortedTriple g spec → SortedTy g (y_hoare spec)
    sorted_y_at : {g : Sorts} {at : ℕ} {ty : TyTree} → SortedTy g ty → SortedTy g (y_at at ty)

  pub data SortedTriple : Sorts → TripleTree → Type 0 where
    sorted_triple : {g : Sorts} {pre : FormulaTree} {mono : MonoTree} {post : FormulaTree}
        → SortedFormula (the_mem ∷ g) pre
        → SortedMono g mono
        → SortedFormula (the_mem ∷ the_init ∷ a_term ∷ g) post
        → SortedTriple g (triple pre mono post)

  pub data SortedTerm : Sorts → TermTree → Type 0 where
    sorted_t_var : {g : Sorts} {index : ℕ} → IsTerm g index → SortedTerm g (t_var index)
    sorted_t_val : {g : Sorts} {number : ℕ} → SortedTerm g (t_val number)
    sorted_t_def : {g : Sorts} {number : ℕ} → SortedTerm g (t_def number)
    sorted_t_app : {g : Sorts} {function : TermTree} {argument : TermTree}
        → SortedTerm g function
        → SortedTerm g argument
        → SortedTerm g (t_app function argument)
    sorted_t_inst : {g : Sorts} {function : TermTree} {mono : MonoTree}
        → SortedTerm g function
        → SortedMono g mono
        → SortedTerm g (t_inst function mono)
    sorted_t_lam : {g : Sorts} {body : TermTree} → SortedTerm (a_term ∷ g) body → SortedTerm g (t_lam body)
    sorted_t_lam_t : {g : Sorts} {body : TermTree} → SortedTerm (a_mono ∷ g) body → SortedTerm g (t_lam_t body)
    sorted_t_do : {g : Sorts} {comp : CompTree} → SortedComp g comp → SortedTerm g (t_do comp)
    sorted_t_fix : {g : Sorts} {at : ℕ} {fix : FixTree} → SortedFix g fix → SortedTerm g (t_fix at fix)
    sorted_t_word : {g : Sorts} {word : ℕ} → SortedTerm g (t_word word)
    sorted_t_bool : {g : Sorts} {truth : Bool} → SortedTerm g (t_bool truth)
    sorted_t_loc : {g : Sorts} {place : ℕ} → SortedTerm g (t_loc place)
    sorted_t_unit : {g : Sorts} → SortedTerm g t_unit
    sorted_t_pair : {g : Sorts} {left : TermTree} {right : TermTree}
        → SortedTerm g left
        → SortedTerm g right
        → SortedTerm g (t_pair left right)
    sorted_t_fst : {g : Sorts} {pair : TermTree} → SortedTerm g pair → SortedTerm g (t_fst pair)
    sorted_t_snd : {g : Sorts} {pair : TermTree} → SortedTerm g pair → SortedTerm g (t_snd pair)
    sorted_t_not : {g : Sorts} {term : TermTree} → SortedTerm g term → SortedTerm g (t_not term)
    sorted_t_bin : {g : Sorts} {op : Op} {left : TermTree} {right : TermTree}
        → SortedTerm g left
        → SortedTerm g right
        → SortedTerm g (t_bin op left right)
    sorted_t_eq : {g : Sorts} {mono : MonoTree} {left : TermTree} {right : TermTree}
        → SortedMono g mono
        → SortedTerm g left
        → SortedTerm g right
        → SortedTerm g (t_eq mono left right)
    sorted_t_sel : {g : Sorts} {mono : MonoTree} {test : TermTree} {on_true : TermTree} {on_false : TermTree}
        → SortedMono g mono
        → SortedTerm g test
        → SortedTerm g on_true
        → SortedTerm g on_false
        → SortedTerm g (t_sel mono test on_true on_false)
    sorted_t_ann : {g : Sorts} {term : TermTree} {ty : TyTree}
        → SortedTerm g term
        → SortedTy g ty
        → SortedTerm g (t_ann term ty)
    sorted_t_made : {g : Sorts} {number : ℕ} {values : TermTrees}
        → SortedTerms g values
        → SortedTerm g (t_made number values)
    sorted_t_at : {g : Sorts} {at : ℕ} {term : TermTree} → SortedTerm g term → SortedTerm g (t_at at term)

  pub data SortedFix : Sorts → FixTree → Type 0 where
    sorted_x_param : {g : Sorts} {ty : TyTree} {others : FixTree}
        → SortedTy g ty
        → SortedFix (a_term ∷ g) others
        → SortedFix g (x_param ty others)
    sorted_x_body : {g : Sorts} {spec : TripleTree} {comp : CompTree}
        → SortedTriple g spec
        → SortedComp (a_term ∷ g) comp
        → SortedFix g (x_body spec comp)

  pub data SortedComp : Sorts → CompTree → Type 0 where
    sorted_c_ret : {g : Sorts} {term : TermTree} → SortedTerm g term → SortedComp g (c_ret term)
    sorted_c_step : {g : Sorts} {step : StepTree} {others : CompTree}
        → SortedStep g step
        → SortedComp (a_term ∷ g) others
        → SortedComp g (c_step step others)

  pub data SortedStep : Sorts → StepTree → Type 0 where
    sorted_s_run : {g : Sorts} {term : TermTree} {mono : Option MonoTree}
        → SortedTerm g term
        → SortedOption g mono
        → SortedStep g (s_run term mono)
    sorted_s_alloc : {g : Sorts} {mono : MonoTree} {value : TermTree}
        → SortedMono g mono
        → SortedTerm g value
        → SortedStep g (s_alloc mono value)
    sorted_s_get : {g : Sorts} {mono : MonoTree} {place : TermTree}
        → SortedMono g mono
        → SortedTerm g place
        → SortedStep g (s_get mono place)
    sorted_s_set : {g : Sorts} {mono : MonoTree} {place : TermTree} {value : TermTree}
        → SortedMono g mono
        → SortedTerm g place
        → SortedTerm g value
        → SortedStep g (s_set mono place value)
    sorted_s_free : {g : Sorts} {mono : MonoTree} {place : TermTree}
        → SortedMono g mono
        → SortedTerm g place
        → SortedStep g (s_free mono place)
    sorted_s_if : {g : Sorts} {mono : MonoTree} {test : TermTree} {on_true : CompTree} {on_false : CompTree}
        → SortedMono g mono
        → SortedTerm g test
        → SortedComp g on_true
        → SortedComp g on_false
        → SortedStep g (s_if mono test on_true on_false)
    sorted_s_claim : {g : Sorts} {formula : FormulaTree}
        → SortedFormula (the_mem ∷ the_init ∷ g) formula
        → SortedStep g (s_claim formula)

  pub data SortedFormula : Sorts → FormulaTree → Type 0 where
    sorted_f_tt : {g : Sorts} → SortedFormula g f_tt
    sorted_f_ff : {g : Sorts} → SortedFormula g f_ff
    sorted_f_and : {g : Sorts} {left : FormulaTree} {right : FormulaTree}
        → SortedFormula g left
        → SortedFormula g right
        → SortedFormula g (f_and left right)
    sorted_f_or : {g : Sorts} {left : FormulaTree} {right : FormulaTree}
        → SortedFormula g left
        → SortedFormula g right
        → SortedFormula g (f_or left right)
    sorted_f_imp : {g : Sorts} {left : FormulaTree} {right : FormulaTree}
        → SortedFormula g left
        → SortedFormula g right
        → SortedFormula g (f_imp left right)
    sorted_f_all_t : {g : Sorts} {mono : MonoTree} {body : FormulaTree}
        → SortedMono g mono
        → SortedFormula (a_term ∷ g) body
        → SortedFormula g (f_all_t mono body)
    sorted_f_ex_t : {g : Sorts} {mono : MonoTree} {body : FormulaTree}
        → SortedMono g mono
        → SortedFormula (a_term ∷ g) body
        → SortedFormula g (f_ex_t mono body)
    sorted_f_all_h : {g : Sorts} {body : FormulaTree} → SortedFormula (a_heap ∷ g) body →
        SortedFormula g (f_all_h body)
    sorted_f_ex_h : {g : Sorts} {body : FormulaTree} → SortedFormula (a_heap ∷ g) body → SortedFormula g (f_ex_h body)
    sorted_f_emp : {g : Sorts} {heap : ℕ} → IsHeap g heap → SortedFormula g (f_emp heap)
    sorted_f_cell : {g : Sorts} {mono : MonoTree} {heap : ℕ} {place : TermTree} {value : TermTree}
        → SortedMono g mono
        → IsHeap g heap
        → SortedTerm g place
        → SortedTerm g value
        → SortedFormula g (f_cell mono heap place value)
    sorted_f_block : {g : Sorts} {mono : MonoTree} {heap : ℕ} {place : TermTree}
        → SortedMono g mono
        → IsHeap g heap
        → SortedTerm g place
        → SortedFormula g (f_block mono heap place)
    sorted_f_join : {g : Sorts} {whole : ℕ} {left : ℕ} {right : ℕ}
        → IsHeap g whole
        → IsHeap g left
        → IsHeap g right
        → SortedFormula g (f_join whole left right)
    sorted_f_same : {g : Sorts} {left : ℕ} {right : ℕ}
        → IsHeap g left
        → IsHeap g right
        → SortedFormula g (f_same left right)
    sorted_f_eq : {g : Sorts} {mono : MonoTree} {left : TermTree} {right : TermTree}
        → SortedMono g mono
        → SortedTerm g left
        → SortedTerm g right
        → SortedFormula g (f_eq mono left right)
    sorted_f_at : {g : Sorts} {at : ℕ} {formula : FormulaTree}
        → SortedFormula g formula
        → SortedFormula g (f_at at formula)
    sorted_f_rec : {g : Sorts} {number : ℕ} {heap : ℕ} {place : TermTree} {arguments : TermTrees}
        → IsHeap g heap
        → SortedTerm g place
        → SortedTerms g arguments
        → SortedFormula g (f_rec number heap place arguments)

  pub data SortedTerms : Sorts → TermTrees → Type 0 where
    sorted_no_terms : {g : Sorts} → SortedTerms g no_terms
    sorted_more_terms : {g : Sorts} {first : TermTree} {others : TermTrees}
        → SortedTerm g first
        → SortedTerms g others
        → SortedTerms g (more_terms first others)
