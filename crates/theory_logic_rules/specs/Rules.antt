-- The proof rules, with their premises in the written order. A proof infers a formula, or proves a goal.
-- Hypotheses and goals are canonical formulas; a formula that is written in a proof is formed first, and
-- its canonical form is used. Hypotheses are counted from the outermost, and a new one comes last. A
-- variable that a proof adds stands innermost, and the hypotheses and the goal are raised past it. A
-- position says nothing.
use Rattle.std.specs.Prelude.{◌≡◌, ℕ, zero, suc, List, [], ◌∷◌, ◌++◌, map, true, false, Some, slice_get}
use Rattle.htt_syntax.specs.declared.mono.Op.TheVariants.{Add}
use Rattle.htt_syntax.specs.Trees.{MonoTree, TermTree, FormulaTree, ArgTree, ProofTree, StmtTree, BlockTree, m_word}
use Rattle.htt_syntax.specs.Trees.{m_bool, y_mono, t_var, t_word, t_bool, t_bin, f_tt, f_ff, f_and, f_or, f_imp}
use Rattle.htt_syntax.specs.Trees.{f_all_t, f_ex_t, f_all_h, f_ex_h, f_same, f_eq, f_rec, a_heap, a_term, p_hyp}
use Rattle.htt_syntax.specs.Trees.{p_trivial, p_refl, p_first, p_second, p_left, p_right, p_absurd, p_both, p_give}
use Rattle.htt_syntax.specs.Trees.{p_app, p_inst, p_case, p_rewrite, p_induct, p_split, p_axiom, p_lem, p_the, p_block}
use Rattle.htt_syntax.specs.Trees.{p_at, p_unfold, d_intro, d_gen, d_have, d_open, d_at, b_then, b_end}
use Rattle.theory_renaming.specs.Renaming.{lift, rename_formula}
use Rattle.theory_canonical.specs.Skeletons.{sk_o}
use Rattle.theory_canonical.specs.Folding.{folding}
use Rattle.theory_substitution.specs.Substitution.{SubFormula}
use Rattle.theory_truth.specs.Predicates.{RecTree}
use Rattle.theory_typing.specs.Contexts.{en_heap, en_term, Context, Environment, IsHeapEntry}
use Rattle.theory_typing.specs.Typing.{in_formula, FormsFormula, Fits}
use Rattle.theory_logic_axioms.specs.Names.{AxiomName, text_of}
use Rattle.theory_logic_axioms.specs.Table.{ArgSort, heap_sort, term_sort, fits_sorts, argument_sorts, SideCondition}
use Rattle.theory_logic_axioms.specs.Table.{formula_of}
use Rattle.theory_logic_rules.specs.Sequents.{SameTerm, SameFormula, raised, put_heap, PutArgs, terms_of, FormsMonos}
use Rattle.theory_logic_rules.specs.Sequents.{FitsArgs, below_greatest, both_ways}

mutual
  -- in this context, from these hypotheses, the proof infers the formula
  pub data Infers (env : Environment) : Context → List FormulaTree → ProofTree → FormulaTree → Type 0 where
    infers_hyp : {g : Context} {hs : List FormulaTree} {number : ℕ} {F : FormulaTree}
        → slice_get hs number ≡ Some F
        → Infers env g hs (p_hyp number) F
    infers_first : {g : Context} {hs : List FormulaTree} {p : ProofTree} {A B : FormulaTree}
        → Infers env g hs p (f_and A B)
        → Infers env g hs (p_first p) A
    infers_second : {g : Context} {hs : List FormulaTree} {p : ProofTree} {A B : FormulaTree}
        → Infers env g hs p (f_and A B)
        → Infers env g hs (p_second p) B
    infers_app : {g : Context} {hs : List FormulaTree} {p q : ProofTree} {A B : FormulaTree}
        → Infers env g hs p (f_imp A B)
        → Proves env g hs q A
        → Infers env g hs (p_app p q) B
    infers_inst_term : {g : Context} {hs : List FormulaTree} {p : ProofTree} {m m' : TermTree} {t : MonoTree}
        {F F' : FormulaTree}
        → Infers env g hs p (f_all_t t F)
        → Fits env in_formula g m (y_mono t) m' []
        → SubFormula m' sk_o zero F F'
        → Infers env g hs (p_inst p (a_term m)) F'
    infers_inst_heap : {g : Context} {hs : List FormulaTree} {p : ProofTree} {h : ℕ} {F : FormulaTree}
        → Infers env g hs p (f_all_h F)
        → IsHeapEntry g h
        → Infers env g hs (p_inst p (a_heap h)) (put_heap h F)
    infers_axiom : {g : Context} {hs : List FormulaTree} (axiom_name : AxiomName) {text : List ℕ}
        {monos : List MonoTree} {sorts : List ArgSort} {arguments arguments' : List ArgTree} {F : FormulaTree}
        → text_of axiom_name ≡ text
        → FormsMonos g monos
        → argument_sorts axiom_name monos ≡ Some sorts
        → SideCondition axiom_name monos
        → fits_sorts sorts arguments ≡ true
        → FitsArgs env g arguments sorts arguments'
        → formula_of axiom_name monos arguments' ≡ Some F
        → Infers env g hs (p_axiom text monos arguments) F
    infers_lem : {g : Context} {hs : List FormulaTree} {F F' : FormulaTree}
        → FormsFormula env g F F'
        → Infers env g hs (p_lem F) (f_or F' (f_imp F' f_ff))
    infers_the : {g : Context} {hs : List FormulaTree} {F F' : FormulaTree} {p : ProofTree}
        → FormsFormula env g F F'
        → Proves env g hs p F'
        → Infers env g hs (p_the F p) F'
    -- what a recursive predicate says at 0 of a heap and values, and at the word after m
    infers_at_zero : {g : Context} {hs : List FormulaTree} {number : ℕ} {r : RecTree} {h : ℕ}
        {arguments values : List ArgTree} {F : FormulaTree}
        → slice_get env.recs number ≡ Some r
        → fits_sorts (heap_sort ∷ map term_sort r.params) arguments ≡ true
        → FitsArgs env g arguments (heap_sort ∷ map term_sort r.params) (a_heap h ∷ values)
        → PutArgs (values ++ a_heap h ∷ []) r.at_zero F
        → Infers env g hs (p_unfold number 0 arguments) (both_ways (f_rec number h (t_word 0) (terms_of values)) F)
    infers_at_next : {g : Context} {hs : List FormulaTree} {number : ℕ} {r : RecTree} {h : ℕ} {m : TermTree}
        {arguments values : List ArgTree} {F : FormulaTree}
        → slice_get env.recs number ≡ Some r
        → fits_sorts (heap_sort ∷ term_sort m_word ∷ map term_sort r.params) arguments ≡ true
        → FitsArgs env g arguments (heap_sort ∷ term_sort m_word ∷ map term_sort r.params)
        (a_heap h ∷ a_term m ∷ values)
        → PutArgs (a_term m ∷ values ++ a_heap h ∷ []) r.at_next F
        → Infers env g hs (p_unfold number 1 arguments)
        (f_imp (below_greatest m) (both_ways (f_rec number h (folding (t_bin Add m (t_word 1))) (terms_of values)) F))
    infers_at : {g : Context} {hs : List FormulaTree} {at : ℕ} {p : ProofTree} {F : FormulaTree}
        → Infers env g hs p F
        → Infers env g hs (p_at at p) F

  -- in this context, from these hypotheses, the proof proves the goal
  pub data Proves (env : Environment) : Context → List FormulaTree → ProofTree → FormulaTree → Type 0 where
    proves_both : {g : Context} {hs : List FormulaTree} {p q : ProofTree} {A B : FormulaTree}
        → Proves env g hs p A
        → Proves env g hs q B
        → Proves env g hs (p_both p q) (f_and A B)
    proves_left : {g : Context} {hs : List FormulaTree} {p : ProofTree} {A B : FormulaTree}
        → Proves env g hs p A
        → Proves env g hs (p_left p) (f_or A B)
    proves_right : {g : Context} {hs : List FormulaTree} {p : ProofTree} {A B : FormulaTree}
        → Proves env g hs p B
        → Proves env g hs (p_right p) (f_or A B)
    proves_give_term : {g : Context} {hs : List FormulaTree} {p : ProofTree} {m m' : TermTree} {t : MonoTree}
        {F F' : FormulaTree}
        → Fits env in_formula g m (y_mono t) m' []
        → SubFormula m' sk_o zero F F'
        → Proves env g hs p F'
        → Proves env g hs (p_give (a_term m) p) (f_ex_t t F)
    proves_give_heap : {g : Context} {hs : List FormulaTree} {p : ProofTree} {h : ℕ} {F : FormulaTree}
        → IsHeapEntry g h
        → Proves env g hs p (put_heap h F)
        → Proves env g hs (p_give (a_heap h) p) (f_ex_h F)
    proves_trivial : {g : Context} {hs : List FormulaTree} → Proves env g hs p_trivial f_tt
    proves_refl_term : {g : Context} {hs : List FormulaTree} {t : MonoTree} {m n : TermTree}
        → SameTerm m n
        → Proves env g hs p_refl (f_eq t m n)
    proves_refl_heap : {g : Context} {hs : List FormulaTree} {h : ℕ} → Proves env g hs p_refl (f_same h h)
    proves_absurd : {g : Context} {hs : List FormulaTree} {p : ProofTree} {G : FormulaTree}
        → Proves env g hs p f_ff
        → Proves env g hs (p_absurd p) G
    proves_case : {g : Context} {hs : List FormulaTree} {p q r : ProofTree} {A B G : FormulaTree}
        → Infers env g hs p (f_or A B)
        → Proves env g (hs ++ A ∷ []) q G
        → Proves env g (hs ++ B ∷ []) r G
        → Proves env g hs (p_case p q r) G
    -- the motive stands under a term or a heap
    proves_rewrite_term : {g : Context} {hs : List FormulaTree} {p q : ProofTree} {t : MonoTree} {m n : TermTree}
        {C C' at_right at_left G : FormulaTree}
        → Infers env g hs p (f_eq t m n)
        → FormsFormula env (en_term (y_mono t) ∷ g) C C'
        → SubFormula n sk_o zero C' at_right
        → SameFormula G at_right
        → SubFormula m sk_o zero C' at_left
        → Proves env g hs q at_left
        → Proves env g hs (p_rewrite p C q) G
    proves_rewrite_heap : {g : Context} {hs : List FormulaTree} {p q : ProofTree} {h k : ℕ} {C C' G : FormulaTree}
        → Infers env g hs p (f_same h k)
        → FormsFormula env (en_heap ∷ g) C C'
        → SameFormula G (put_heap k C')
        → Proves env g hs q (put_heap h C')
        → Proves env g hs (p_rewrite p C q) G
    -- under the next word's predecessor y, the motive at y is the motive itself
    proves_induct : {g : Context} {hs : List FormulaTree} {p q : ProofTree} {m m' : TermTree}
        {C C' at_word at_zero at_next G : FormulaTree}
        → FormsFormula env (en_term (y_mono m_word) ∷ g) C C'
        → Fits env in_formula g m (y_mono m_word) m' []
        → SubFormula m' sk_o zero C' at_word
        → SameFormula G at_word
        → SubFormula (t_word 0) sk_o zero C' at_zero
        → Proves env g hs p at_zero
        → SubFormula (t_bin Add (t_var 0) (t_word 1)) sk_o zero (rename_formula (lift suc) C') at_next
        → Proves env (en_term (y_mono m_word) ∷ g) (raised hs ++ below_greatest (t_var 0) ∷ C' ∷ []) q at_next
        → Proves env g hs (p_induct C m p q) G
    proves_split : {g : Context} {hs : List FormulaTree} {p q : ProofTree} {m m' : TermTree}
        {C C' at_term at_true at_false G : FormulaTree}
        → FormsFormula env (en_term (y_mono m_bool) ∷ g) C C'
        → Fits env in_formula g m (y_mono m_bool) m' []
        → SubFormula m' sk_o zero C' at_term
        → SameFormula G at_term
        → SubFormula (t_bool true) sk_o zero C' at_true
        → Proves env g hs p at_true
        → SubFormula (t_bool false) sk_o zero C' at_false
        → Proves env g hs q at_false
        → Proves env g hs (p_split C m p q) G
    proves_inferred : {g : Context} {hs : List FormulaTree} {p : ProofTree} {F G : FormulaTree}
        → Infers env g hs p F
        → SameFormula F G
        → Proves env g hs p G
    proves_block : {g : Context} {hs : List FormulaTree} {block : BlockTree} {G : FormulaTree}
        → ProvesBlock env g hs block G
        → Proves env g hs (p_block block) G
    proves_at : {g : Context} {hs : List FormulaTree} {at : ℕ} {p : ProofTree} {G : FormulaTree}
        → Proves env g hs p G
        → Proves env g hs (p_at at p) G

  -- statements and an end prove the goal
  pub data ProvesBlock (env : Environment) : Context → List FormulaTree → BlockTree → FormulaTree → Type 0 where
    block_end : {g : Context} {hs : List FormulaTree} {p : ProofTree} {G : FormulaTree}
        → Proves env g hs p G
        → ProvesBlock env g hs (b_end p) G
    block_intro : {g : Context} {hs : List FormulaTree} {rest : BlockTree} {A B : FormulaTree}
        → ProvesBlock env g (hs ++ A ∷ []) rest B
        → ProvesBlock env g hs (b_then d_intro rest) (f_imp A B)
    block_gen_term : {g : Context} {hs : List FormulaTree} {rest : BlockTree} {t : MonoTree} {F : FormulaTree}
        → ProvesBlock env (en_term (y_mono t) ∷ g) (raised hs) rest F
        → ProvesBlock env g hs (b_then d_gen rest) (f_all_t t F)
    block_gen_heap : {g : Context} {hs : List FormulaTree} {rest : BlockTree} {F : FormulaTree}
        → ProvesBlock env (en_heap ∷ g) (raised hs) rest F
        → ProvesBlock env g hs (b_then d_gen rest) (f_all_h F)
    block_have : {g : Context} {hs : List FormulaTree} {rest : BlockTree} {p : ProofTree} {F F' G : FormulaTree}
        → FormsFormula env g F F'
        → Proves env g hs p F'
        → ProvesBlock env g (hs ++ F' ∷ []) rest G
        → ProvesBlock env g hs (b_then (d_have F p) rest) G
    block_open_term : {g : Context} {hs : List FormulaTree} {rest : BlockTree} {p : ProofTree} {t : MonoTree}
        {F G : FormulaTree}
        → Infers env g hs p (f_ex_t t F)
        → ProvesBlock env (en_term (y_mono t) ∷ g) (raised hs ++ F ∷ []) rest (rename_formula suc G)
        → ProvesBlock env g hs (b_then (d_open p) rest) G
    block_open_heap : {g : Context} {hs : List FormulaTree} {rest : BlockTree} {p : ProofTree} {F G : FormulaTree}
        → Infers env g hs p (f_ex_h F)
        → ProvesBlock env (en_heap ∷ g) (raised hs ++ F ∷ []) rest (rename_formula suc G)
        → ProvesBlock env g hs (b_then (d_open p) rest) G
    block_at : {g : Context} {hs : List FormulaTree} {rest : BlockTree} {at : ℕ} {stmt : StmtTree} {G : FormulaTree}
        → ProvesBlock env g hs (b_then stmt rest) G
        → ProvesBlock env g hs (b_then (d_at at stmt) rest) G
