-- The trees of the language, as definitions speak of them. A variable is an index that counts the
-- binders between its place and its own; 0 is the innermost. What binds is in the shape: what
-- stands under a binder is the part of the node that follows it.
use Rattle.std.specs.Prelude.{ℕ, Bool, List, Option}
use Rattle.htt_syntax.specs.declared.mono.Op.{Op}

pub data MonoTree : Type 0 where
  m_word m_bool m_loc m_unit : MonoTree
  m_pair : MonoTree → MonoTree → MonoTree
  m_var : ℕ → MonoTree

mutual
  pub data TyTree : Type 0 where
    y_mono : MonoTree → TyTree
    -- a function: the argument's type, and the answer's type under the argument
    y_fun : TyTree → TyTree → TyTree
    -- a type under a monotype
    y_all : TyTree → TyTree
    y_hoare : TripleTree → TyTree
    y_at : ℕ → TyTree → TyTree

  -- the precondition under the heap mem; the postcondition under the result, init and mem
  pub data TripleTree : Type 0 where
    triple : FormulaTree → MonoTree → FormulaTree → TripleTree

  pub data TermTree : Type 0 where
    t_var : ℕ → TermTree
    t_val : ℕ → TermTree
    t_def : ℕ → TermTree
    t_app : TermTree → TermTree → TermTree
    t_inst : TermTree → MonoTree → TermTree
    -- a body under its argument, and a body under a monotype
    t_lam : TermTree → TermTree
    t_lam_t : TermTree → TermTree
    t_do : CompTree → TermTree
    -- the byte of the keyword, and the function
    t_fix : ℕ → FixTree → TermTree
    t_word : ℕ → TermTree
    t_bool : Bool → TermTree
    t_loc : ℕ → TermTree
    t_unit : TermTree
    t_pair : TermTree → TermTree → TermTree
    t_fst : TermTree → TermTree
    t_snd : TermTree → TermTree
    t_not : TermTree → TermTree
    t_bin : Op → TermTree → TermTree → TermTree
    t_eq : MonoTree → TermTree → TermTree → TermTree
    t_sel : MonoTree → TermTree → TermTree → TermTree → TermTree
    t_ann : TermTree → TyTree → TermTree
    t_made : ℕ → TermTrees → TermTree
    t_at : ℕ → TermTree → TermTree

  -- a recursive function: a parameter and what stands under it, or the triple and, under the
  -- function itself, the computation
  pub data FixTree : Type 0 where
    x_param : TyTree → FixTree → FixTree
    x_body : TripleTree → CompTree → FixTree

  -- a computation: its result, or a step and what stands under the step's variable
  pub data CompTree : Type 0 where
    c_ret : TermTree → CompTree
    c_step : StepTree → CompTree → CompTree

  pub data StepTree : Type 0 where
    s_run : TermTree → Option MonoTree → StepTree
    s_alloc : MonoTree → TermTree → StepTree
    s_get : MonoTree → TermTree → StepTree
    s_set : MonoTree → TermTree → TermTree → StepTree
    s_free : MonoTree → TermTree → StepTree
    s_if : MonoTree → TermTree → CompTree → CompTree → StepTree
    -- a formula under the heaps init and mem
    s_claim : FormulaTree → StepTree

  -- a quantifier's formula stands under what it quantifies
  pub data FormulaTree : Type 0 where
    f_tt : FormulaTree
    f_ff : FormulaTree
    f_and : FormulaTree → FormulaTree → FormulaTree
    f_or : FormulaTree → FormulaTree → FormulaTree
    f_imp : FormulaTree → FormulaTree → FormulaTree
    f_all_t : MonoTree → FormulaTree → FormulaTree
    f_ex_t : MonoTree → FormulaTree → FormulaTree
    f_all_h : FormulaTree → FormulaTree
    f_ex_h : FormulaTree → FormulaTree
    f_emp : ℕ → FormulaTree
    f_cell : MonoTree → ℕ → TermTree → TermTree → FormulaTree
    f_block : MonoTree → ℕ → TermTree → FormulaTree
    f_join : ℕ → ℕ → ℕ → FormulaTree
    f_same : ℕ → ℕ → FormulaTree
    f_eq : MonoTree → TermTree → TermTree → FormulaTree
    f_at : ℕ → FormulaTree → FormulaTree
    f_rec : ℕ → ℕ → TermTree → TermTrees → FormulaTree

  pub data TermTrees : Type 0 where
    no_terms : TermTrees
    more_terms : TermTree → TermTrees → TermTrees

pub data ArgTree : Type 0 where
  a_heap : ℕ → ArgTree
  a_term : TermTree → ArgTree

mutual
  pub data ProofTree : Type 0 where
    p_hyp : ℕ → ProofTree
    p_trivial : ProofTree
    p_refl : ProofTree
    p_first : ProofTree → ProofTree
    p_second : ProofTree → ProofTree
    p_left : ProofTree → ProofTree
    p_right : ProofTree → ProofTree
    p_absurd : ProofTree → ProofTree
    p_both : ProofTree → ProofTree → ProofTree
    p_give : ArgTree → ProofTree → ProofTree
    p_app : ProofTree → ProofTree → ProofTree
    p_inst : ProofTree → ArgTree → ProofTree
    p_case : ProofTree → ProofTree → ProofTree → ProofTree
    -- a motive stands under one variable, and so does the proof for a next word
    p_rewrite : ProofTree → FormulaTree → ProofTree → ProofTree
    p_induct : FormulaTree → TermTree → ProofTree → ProofTree → ProofTree
    p_split : FormulaTree → TermTree → ProofTree → ProofTree → ProofTree
    p_axiom : List ℕ → List MonoTree → List ArgTree → ProofTree
    p_lem : FormulaTree → ProofTree
    p_the : FormulaTree → ProofTree → ProofTree
    p_block : BlockTree → ProofTree
    p_at : ℕ → ProofTree → ProofTree
    p_unfold : ℕ → ℕ → List ArgTree → ProofTree

  pub data StmtTree : Type 0 where
    d_intro : StmtTree
    d_gen : StmtTree
    d_have : FormulaTree → ProofTree → StmtTree
    d_open : ProofTree → StmtTree
    d_at : ℕ → StmtTree → StmtTree

  -- a statement and what stands under the variable that it adds, if it adds one; or the proof
  pub data BlockTree : Type 0 where
    b_then : StmtTree → BlockTree → BlockTree
    b_end : ProofTree → BlockTree

-- How many variables a statement adds for what follows it.
unfoldable pub binders_of : StmtTree → ℕ
binders_of d_intro = 0
binders_of d_gen = 1
binders_of (d_have formula proof) = 0
binders_of (d_open proof) = 1
binders_of (d_at at stmt) = binders_of stmt
