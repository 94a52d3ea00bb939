-- The trees of a text as the grammar speaks of them: a constructor for each form of a production,
-- with its parts in the order of the text. A number is the first byte of the phrase.
use Rattle.std.specs.Prelude.{ℕ, List, [], ◌∷◌, Option, Some, None}
use Rattle.htt_parser_trees.specs.declared.place.Span.{Span}
use Rattle.htt_parser_trees.specs.declared.place.Binder.{Binder}
use Rattle.htt_parser_trees.specs.declared.mono.MonoName.{MonoName}
use Rattle.htt_parser_trees.specs.declared.tree.UnaryWord.{UnaryWord}
use Rattle.htt_parser_trees.specs.declared.tree.RawHeap.{RawHeap}
use Rattle.htt_parser_trees.specs.declared.proof.UnaryRule.{UnaryRule}

-- the members of a list before what follows them, each put there by `put`
abbrev pub onto : {X T : Type 0} → (X → T → T) → List X → T → T
onto put [] rest = rest
onto put (x ∷ xs) rest = put x (onto put xs rest)

-- the sign before an operand of a sum, and of a product
pub data SumSign : Type 0 where
  plus minus bar caret : SumSign

pub data ProdSign : Type 0 where
  times ampersand shift_left shift_right : ProdSign

mutual
  pub data RawFactorTree : Type 0 where
    m_name : MonoName → RawFactorTree
    m_brackets : ℕ → RawMonoTree → RawFactorTree

  pub data RawMonoTree : Type 0 where
    m_factor : RawFactorTree → RawMonoTree
    m_pair : RawFactorTree → RawMonoTree → RawMonoTree

-- a factor with what stands at the right of it
abbrev pub with_right : RawFactorTree → Option RawMonoTree → RawMonoTree
with_right f None = m_factor f
with_right f (Some m) = m_pair f m

mutual
  pub data RawTyTree : Type 0 where
    y_fun : ℕ → Binder → RawTyTree → RawTyTree → RawTyTree
    y_all : ℕ → Span → RawTyTree → RawTyTree
    y_hoare : ℕ → RawTripleTree → RawTyTree
    y_mono : RawMonoTree → RawTyTree

  pub data RawTripleTree : Type 0 where
    triple_of : RawFormulaTree → Binder → RawMonoTree → RawFormulaTree → RawTripleTree

  pub data RawTermTree : Type 0 where
    t_fun : ℕ → Binder → RawTermTree → RawTermTree
    t_fun_mono : ℕ → Span → RawTermTree → RawTermTree
    t_do : ℕ → RawCompTree → RawTermTree
    t_fix : ℕ → Span → RawParamTrees → RawTripleTree → RawCompTree → RawTermTree
    t_rel : RawRelTree → RawTermTree

  pub data RawParamTrees : Type 0 where
    no_params : RawParamTrees
    more_params : Binder → RawTyTree → RawParamTrees → RawParamTrees

  pub data RawRelTree : Type 0 where
    r_sum : RawSumTree → RawRelTree
    r_less : RawSumTree → RawSumTree → RawRelTree

  -- a chain is its first operand and the further ones, each with the sign before it
  pub data RawSumTree : Type 0 where
    s_sum : RawProdTree → RawSumRestTree → RawSumTree

  pub data RawSumRestTree : Type 0 where
    s_end : RawSumRestTree
    s_more : SumSign → RawProdTree → RawSumRestTree → RawSumRestTree

  pub data RawProdTree : Type 0 where
    x_prod : RawApplTree → RawProdRestTree → RawProdTree

  pub data RawProdRestTree : Type 0 where
    x_end : RawProdRestTree
    x_more : ProdSign → RawApplTree → RawProdRestTree → RawProdRestTree

  pub data RawApplTree : Type 0 where
    l_unary : ℕ → UnaryWord → RawAtomTree → RawApplTree
    l_apply : RawAtomTree → RawPartTrees → RawApplTree

  pub data RawPartTrees : Type 0 where
    no_parts : RawPartTrees
    atom_part : RawAtomTree → RawPartTrees → RawPartTrees
    mono_part : RawMonoTree → RawPartTrees → RawPartTrees

  pub data RawAtomTree : Type 0 where
    a_name : Span → RawAtomTree
    -- the byte and the value
    a_number : ℕ → ℕ → RawAtomTree
    a_true : ℕ → RawAtomTree
    a_false : ℕ → RawAtomTree
    a_null : ℕ → RawAtomTree
    a_place : ℕ → ℕ → RawAtomTree
    a_eq : ℕ → RawMonoTree → RawTermTree → RawTermTree → RawAtomTree
    a_sel : ℕ → RawMonoTree → RawTermTree → RawTermTree → RawTermTree → RawAtomTree
    a_unit : ℕ → RawAtomTree
    a_brackets : ℕ → RawTermTree → RawAtomTree
    a_pair : ℕ → RawTermTree → RawTermTree → RawAtomTree
    a_annotated : ℕ → RawTermTree → RawTyTree → RawAtomTree

  pub data RawCompTree : Type 0 where
    c_ret : RawTermTree → RawCompTree
    c_step : Binder → RawStepTree → RawCompTree → RawCompTree

  pub data RawStepTree : Type 0 where
    s_alloc : RawMonoTree → RawAtomTree → RawStepTree
    s_get : RawMonoTree → RawAtomTree → RawStepTree
    s_set : RawMonoTree → RawAtomTree → RawAtomTree → RawStepTree
    s_free : RawMonoTree → RawAtomTree → RawStepTree
    s_if : RawMonoTree → RawAtomTree → RawCompTree → RawCompTree → RawStepTree
    s_claim : RawFormulaTree → RawStepTree
    s_run : RawApplTree → RawStepTree

  pub data RawFormulaTree : Type 0 where
    f_all : ℕ → Binder → RawSortTree → RawFormulaTree → RawFormulaTree
    f_ex : ℕ → Binder → RawSortTree → RawFormulaTree → RawFormulaTree
    f_disj : RawDisjTree → RawFormulaTree
    f_implies : RawDisjTree → RawFormulaTree → RawFormulaTree

  pub data RawSortTree : Type 0 where
    over_mono : RawMonoTree → RawSortTree
    over_heap : RawSortTree

  pub data RawDisjTree : Type 0 where
    d_conj : RawConjTree → RawDisjTree
    d_or : RawConjTree → RawDisjTree → RawDisjTree

  pub data RawConjTree : Type 0 where
    j_star : RawStarTree → RawConjTree
    j_and : RawStarTree → RawConjTree → RawConjTree

  pub data RawStarTree : Type 0 where
    k_fatom : RawFatomTree → RawStarTree
    k_times : RawFatomTree → RawStarTree → RawStarTree

  pub data RawFatomTree : Type 0 where
    g_tt : ℕ → RawFatomTree
    g_ff : ℕ → RawFatomTree
    g_emp : ℕ → RawFatomTree
    g_brackets : ℕ → RawFormulaTree → RawFatomTree
    g_at_heap : ℕ → RawHeap → RawFormulaTree → RawFatomTree
    g_emp_of : ℕ → RawHeap → RawFatomTree
    g_same : ℕ → RawHeap → RawHeap → RawFatomTree
    g_join : ℕ → RawHeap → RawHeap → RawHeap → RawFatomTree
    g_cell : ℕ → RawMonoTree → RawHeap → RawTermTree → RawTermTree → RawFatomTree
    g_block : ℕ → RawMonoTree → RawHeap → RawTermTree → RawFatomTree
    g_use : ℕ → Span → List RawMonoTree → RawTermTrees → RawFatomTree
    g_use_at : ℕ → Span → RawTermTree → RawTermTrees → RawFatomTree
    g_use_at_heap : ℕ → Span → RawHeap → RawTermTree → RawTermTrees → RawFatomTree
    g_eq : RawRelTree → RawMonoTree → RawRelTree → RawFatomTree
    g_points : RawRelTree → RawMonoTree → RawRelTree → RawFatomTree
    g_points_any : RawRelTree → RawMonoTree → RawFatomTree

  pub data RawTermTrees : Type 0 where
    no_terms : RawTermTrees
    more_terms : RawTermTree → RawTermTrees → RawTermTrees

pub data RawArgTree : Type 0 where
  arg_heap : ℕ → RawHeap → RawArgTree
  arg_term : RawTermTree → RawArgTree

pub data RawMotiveTree : Type 0 where
  motive_of : Binder → RawFormulaTree → RawMotiveTree

mutual
  pub data RawProofTree : Type 0 where
    p_end : RawEndTree → RawProofTree
    p_step : RawStmtTree → RawProofTree → RawProofTree

  pub data RawStmtTree : Type 0 where
    b_intro : ℕ → Span → RawStmtTree
    b_gen : ℕ → Binder → RawStmtTree
    b_open : ℕ → Binder → Span → RawProofTree → RawStmtTree
    b_have : ℕ → Span → RawFormulaTree → RawProofTree → RawStmtTree

  pub data RawEndTree : Type 0 where
    e_name : Span → RawEndTree
    e_trivial : ℕ → RawEndTree
    e_refl : ℕ → RawEndTree
    e_unary : ℕ → UnaryRule → RawProofTree → RawEndTree
    e_both : ℕ → RawProofTree → RawProofTree → RawEndTree
    e_give : ℕ → RawArgTree → RawProofTree → RawEndTree
    e_app : ℕ → RawProofTree → RawProofTree → RawProofTrees → RawEndTree
    e_inst : ℕ → RawProofTree → RawArgTree → List RawArgTree → RawEndTree
    e_case : ℕ → RawProofTree → Span → RawProofTree → Span → RawProofTree → RawEndTree
    e_rewrite : ℕ → RawProofTree → RawMotiveTree → RawProofTree → RawEndTree
    e_induct : ℕ → RawMotiveTree → RawTermTree → RawProofTree → Binder → Span → Span → RawProofTree → RawEndTree
    e_split : ℕ → RawMotiveTree → RawTermTree → RawProofTree → RawProofTree → RawEndTree
    e_axiom : ℕ → Span → List RawMonoTree → List RawArgTree → RawEndTree
    e_unfold : ℕ → Span → ℕ → RawArgTree → List RawArgTree → RawEndTree
    e_lem : ℕ → RawFormulaTree → RawEndTree
    e_the : ℕ → RawFormulaTree → RawProofTree → RawEndTree

  pub data RawProofTrees : Type 0 where
    no_proofs : RawProofTrees
    more_proofs : RawProofTree → RawProofTrees → RawProofTrees

-- a name and its monotype
pub data RawMonoParamTree : Type 0 where
  mono_param : Span → RawMonoTree → RawMonoParamTree

pub data RawBodyTree : Type 0 where
  body_auto : ℕ → RawBodyTree
  body_proof : RawProofTree → RawBodyTree

pub data RawDeclTree : Type 0 where
  decl_type : Span → RawMonoTree → RawDeclTree
  decl_pred : Span → List Span → List RawMonoParamTree → RawFormulaTree → RawDeclTree
  decl_induct : Span → Binder → List RawMonoParamTree → RawFormulaTree → RawFormulaTree → RawDeclTree
  decl_def : Span → RawTyTree → RawTermTree → RawDeclTree
  decl_val : Span → RawTyTree → RawTermTree → RawDeclTree
  -- the byte of the word, the name, the number and the body
  decl_proof : ℕ → Span → ℕ → RawBodyTree → RawDeclTree
