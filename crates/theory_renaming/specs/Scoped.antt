-- Every free variable of a tree is one of the innermost n, and stands under n binders.
use Rattle.std.specs.Prelude.{ℕ, suc, ◌<◌, Bool, Option, Some, None}
use Rattle.htt_syntax.specs.declared.mono.Op.{Op}
use Rattle.htt_syntax.specs.Trees.{MonoTree, TyTree, TripleTree, TermTree, FixTree, CompTree, StepTree, FormulaTree}
use Rattle.htt_syntax.specs.Trees.{TermTrees, m_word, m_bool, m_loc, m_unit, m_pair, m_var, y_mono, y_fun, y_all}
use Rattle.htt_syntax.specs.Trees.{y_hoare, y_at, triple, t_var, t_val, t_def, t_app, t_inst, t_lam, t_lam_t, t_do}
use Rattle.htt_syntax.specs.Trees.{t_fix, t_word, t_bool, t_loc, t_unit, t_pair, t_fst, t_snd, t_not, t_bin, t_eq}
use Rattle.htt_syntax.specs.Trees.{t_sel, t_ann, t_made, t_at, x_param, x_body, c_ret, c_step, s_run, s_alloc, s_get}
use Rattle.htt_syntax.specs.Trees.{s_set, s_free, s_if, s_claim, f_tt, f_ff, f_and, f_or, f_imp, f_all_t, f_ex_t}
use Rattle.htt_syntax.specs.Trees.{f_all_h, f_ex_h, f_emp, f_cell, f_block, f_join, f_same, f_eq, f_at, f_rec, no_terms}
use Rattle.htt_syntax.specs.Trees.{more_terms}

pub data ScopedMono : ℕ → MonoTree → Type 0 where
  in_m_word : {n : ℕ} → ScopedMono n m_word
  in_m_bool : {n : ℕ} → ScopedMono n m_bool
  in_m_loc : {n : ℕ} → ScopedMono n m_loc
  in_m_unit : {n : ℕ} → ScopedMono n m_unit
  in_m_pair : {n : ℕ} {left : MonoTree} {right : MonoTree}
      → ScopedMono n left
      → ScopedMono n right
      → ScopedMono n (m_pair left right)
  in_m_var : {n : ℕ} {index : ℕ} → index < n → ScopedMono n (m_var index)

pub data ScopedOption : ℕ → Option MonoTree → Type 0 where
  in_none : {n : ℕ} → ScopedOption n None
  in_some : {n : ℕ} {mono : MonoTree} → ScopedMono n mono → ScopedOption n (Some mono)

mutual
  pub data ScopedTy : ℕ → TyTree → Type 0 where
    in_y_mono : {n : ℕ} {mono : MonoTree} → ScopedMono n mono → ScopedTy n (y_mono mono)
    in_y_fun : {n : ℕ} {argument : TyTree} {answer : TyTree}
        → ScopedTy n argument
        → ScopedTy (suc n) answer
        → ScopedTy n (y_fun argument answer)
    in_y_all : {n : ℕ} {body : TyTree} → ScopedTy (suc n) body → ScopedTy n (y_all body)
    in_y_hoare : {n : ℕ} {spec : TripleTree} → ScopedTriple n spec → ScopedTy n (y_hoare spec)
    in_y_at : {n : ℕ} {at : ℕ} {ty : TyTree} → ScopedTy n ty → ScopedTy n (y_at at ty)

  pub data ScopedTriple : ℕ → TripleTree → Type 0 where
    in_triple : {n : ℕ} {pre : FormulaTree} {mono : MonoTree} {post : FormulaTree}
        → ScopedFormula (suc n) pre
        → ScopedMono n mono
        → ScopedFormula (suc (suc (suc n))) post
        → ScopedTriple n (triple pre mono post)

  pub data ScopedTerm : ℕ → TermTree → Type 0 where
    in_t_var : {n : ℕ} {index : ℕ} → index < n → ScopedTerm n (t_var index)
    in_t_val : {n : ℕ} {number : ℕ} → ScopedTerm n (t_val number)
    in_t_def : {n : ℕ} {number : ℕ} → ScopedTerm n (t_def number)
    in_t_app : {n : ℕ} {function : TermTree} {argument : TermTree}
        → ScopedTerm n function
        → ScopedTerm n argument
        → ScopedTerm n (t_app function argument)
    in_t_inst : {n : ℕ} {function : TermTree} {mono : MonoTree}
        → ScopedTerm n function
        → ScopedMono n mono
        → ScopedTerm n (t_inst function mono)
    in_t_lam : {n : ℕ} {body : TermTree} → ScopedTerm (suc n) body → ScopedTerm n (t_lam body)
    in_t_lam_t : {n : ℕ} {body : TermTree} → ScopedTerm (suc n) body → ScopedTerm n (t_lam_t body)
    in_t_do : {n : ℕ} {comp : CompTree} → ScopedComp n comp → ScopedTerm n (t_do comp)
    in_t_fix : {n : ℕ} {at : ℕ} {fix : FixTree} → ScopedFix n fix → ScopedTerm n (t_fix at fix)
    in_t_word : {n : ℕ} {word : ℕ} → ScopedTerm n (t_word word)
    in_t_bool : {n : ℕ} {truth : Bool} → ScopedTerm n (t_bool truth)
    in_t_loc : {n : ℕ} {place : ℕ} → ScopedTerm n (t_loc place)
    in_t_unit : {n : ℕ} → ScopedTerm n t_unit
    in_t_pair : {n : ℕ} {left : TermTree} {right : TermTree}
        → ScopedTerm n left
        → ScopedTerm n right
        → ScopedTerm n (t_pair left right)
    in_t_fst : {n : ℕ} {pair : TermTree} → ScopedTerm n pair → ScopedTerm n (t_fst pair)
    in_t_snd : {n : ℕ} {pair : TermTree} → ScopedTerm n pair → ScopedTerm n (t_snd pair)
    in_t_not : {n : ℕ} {term : TermTree} → ScopedTerm n term → ScopedTerm n (t_not term)
    in_t_bin : {n : ℕ} {op : Op} {left : TermTree} {right : TermTree}
        → ScopedTerm n left
        → ScopedTerm n right
        → ScopedTerm n (t_bin op left right)
    in_t_eq : {n : ℕ} {mono : MonoTree} {left : TermTree} {right : TermTree}
        → ScopedMono n mono
        → ScopedTerm n left
        → ScopedTerm n right
        → ScopedTerm n (t_eq mono left right)
    in_t_sel : {n : ℕ} {mono : MonoTree} {test : TermTree} {on_true : TermTree} {on_false : TermTree}
        → ScopedMono n mono
        → ScopedTerm n test
        → ScopedTerm n on_true
        → ScopedTerm n on_false
        → ScopedTerm n (t_sel mono test on_true on_false)
    in_t_ann : {n : ℕ} {term : TermTree} {ty : TyTree}
        → ScopedTerm n term
        → ScopedTy n ty
        → ScopedTerm n (t_ann term ty)
    in_t_made : {n : ℕ} {number : ℕ} {values : TermTrees} → ScopedTerms n values → ScopedTerm n (t_made number values)
    in_t_at : {n : ℕ} {at : ℕ} {term : TermTree} → ScopedTerm n term → ScopedTerm n (t_at at term)

  pub data ScopedFix : ℕ → FixTree → Type 0 where
    in_x_param : {n : ℕ} {ty : TyTree} {others : FixTree}
        → ScopedTy n ty
        → ScopedFix (suc n) others
        → ScopedFix n (x_param ty others)
    in_x_body : {n : ℕ} {spec : TripleTree} {comp : CompTree}
        → ScopedTriple n spec
        → ScopedComp (suc n) comp
        → ScopedFix n (x_body spec comp)

  pub data ScopedComp : ℕ → CompTree → Type 0 where
    in_c_ret : {n : ℕ} {term : TermTree} → ScopedTerm n term → ScopedComp n (c_ret term)
    in_c_step : {n : ℕ} {step : StepTree} {others : CompTree}
        → ScopedStep n step
        → ScopedComp (suc n) others
        → ScopedComp n (c_step step others)

  pub data ScopedStep : ℕ → StepTree → Type 0 where
    in_s_run : {n : ℕ} {term : TermTree} {mono : Option MonoTree}
        → ScopedTerm n term
        → ScopedOption n mono
        → ScopedStep n (s_run term mono)
    in_s_alloc : {n : ℕ} {mono : MonoTree} {value : TermTree}
        → ScopedMono n mono
        → ScopedTerm n value
        → ScopedStep n (s_alloc mono value)
    in_s_get : {n : ℕ} {mono : MonoTree} {place : TermTree}
        → ScopedMono n mono
        → ScopedTerm n place
        → ScopedStep n (s_get mono place)
    in_s_set : {n : ℕ} {mono : MonoTree} {place : TermTree} {value : TermTree}
        → ScopedMono n mono
        → ScopedTerm n place
        → ScopedTerm n value
        → ScopedStep n (s_set mono place value)
    in_s_free : {n : ℕ} {mono : MonoTree} {place : TermTree}
        → ScopedMono n mono
        → ScopedTerm n place
        → ScopedStep n (s_free mono place)
    in_s_if : {n : ℕ} {mono : MonoTree} {test : TermTree} {on_true : CompTree} {on_false : CompTree}
        → ScopedMono n mono
        → ScopedTerm n test
        → ScopedComp n on_true
        → ScopedComp n on_false
        → ScopedStep n (s_if mono test on_true on_false)
    in_s_claim : {n : ℕ} {formula : FormulaTree} → ScopedFormula (suc (suc n)) formula → ScopedStep n (s_claim formula)

  pub data ScopedFormula : ℕ → FormulaTree → Type 0 where
    in_f_tt : {n : ℕ} → ScopedFormula n f_tt
    in_f_ff : {n : ℕ} → ScopedFormula n f_ff
    in_f_and : {n : ℕ} {left : FormulaTree} {right : FormulaTree}
        → ScopedFormula n left
        → ScopedFormula n right
        → ScopedFormula n (f_and left right)
    in_f_or : {n : ℕ} {left : FormulaTree} {right : FormulaTree}
        → ScopedFormula n left
        → ScopedFormula n right
        → ScopedFormula n (f_or left right)
    in_f_imp : {n : ℕ} {left : FormulaTree} {right : FormulaTree}
        → ScopedFormula n left
        → ScopedFormula n right
        → ScopedFormula n (f_imp left right)
    in_f_all_t : {n : ℕ} {mono : MonoTree} {body : FormulaTree}
        → ScopedMono n mono
        → ScopedFormula (suc n) body
        → ScopedFormula n (f_all_t mono body)
    in_f_ex_t : {n : ℕ} {mono : MonoTree} {body : FormulaTree}
        → ScopedMono n mono
        → ScopedFormula (suc n) body
        → ScopedFormula n (f_ex_t mono body)
    in_f_all_h : {n : ℕ} {body : FormulaTree} → ScopedFormula (suc n) body → ScopedFormula n (f_all_h body)
    in_f_ex_h : {n : ℕ} {body : FormulaTree} → ScopedFormula (suc n) body → ScopedFormula n (f_ex_h body)
    in_f_emp : {n : ℕ} {heap : ℕ} → heap < n → ScopedFormula n (f_emp heap)
    in_f_cell : {n : ℕ} {mono : MonoTree} {heap : ℕ} {place : TermTree} {value : TermTree}
        → ScopedMono n mono
        → heap < n
        → ScopedTerm n place
        → ScopedTerm n value
        → ScopedFormula n (f_cell mono heap place value)
    in_f_block : {n : ℕ} {mono : MonoTree} {heap : ℕ} {place : TermTree}
        → ScopedMono n mono
        → heap < n
        → ScopedTerm n place
        → ScopedFormula n (f_block mono heap place)
    in_f_join : {n : ℕ} {whole : ℕ} {left : ℕ} {right : ℕ}
        → whole < n
        → left < n
        → right < n
        → ScopedFormula n (f_join whole left right)
    in_f_same : {n : ℕ} {left : ℕ} {right : ℕ} → left < n → right < n → ScopedFormula n (f_same left right)
    in_f_eq : {n : ℕ} {mono : MonoTree} {left : TermTree} {right : TermTree}
        → ScopedMono n mono
        → ScopedTerm n left
        → ScopedTerm n right
        → ScopedFormula n (f_eq mono left right)
    in_f_at : {n : ℕ} {at : ℕ} {formula : FormulaTree} → ScopedFormula n formula → ScopedFormula n (f_at at formula)
    in_f_rec : {n : ℕ} {number : ℕ} {heap : ℕ} {place : TermTree} {arguments : TermTrees}
        → heap < n
        → ScopedTerm n place
        → ScopedTerms n arguments
        → ScopedFormula n (f_rec number heap place arguments)

  pub data ScopedTerms : ℕ → TermTrees → Type 0 where
    in_no_terms : {n : ℕ} → ScopedTerms n no_terms
    in_more_terms : {n : ℕ} {first : TermTree} {others : TermTrees}
        → ScopedTerm n first
        → ScopedTerms n others
        → ScopedTerms n (more_terms first others)
