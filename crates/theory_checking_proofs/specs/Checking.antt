-- What a proof comes to when it is checked: the formula that it infers, or that it proves a goal, or the first
-- premise or limit that stops it. One row a rule, with its premises and limits in the written order. `at` is the
-- byte of the nearest position round the proof or the statement; hypotheses and goals are canonical.
--
-- A proof is asked what it infers (`None`), or is to prove a goal (`Some`), which it then gives.
use Rattle.std.specs.Prelude.{◌≡◌, ℕ, zero, suc, List, [], ◌∷◌, ◌++◌, map, All, true, false, Result, Option, Some, None, slice_get}
use Rattle.htt_syntax_words.specs.declared.words.Rule.TheVariants.{Sort, Synth, Axiom, First, Second, App, Inst}
use Rattle.htt_syntax_words.specs.declared.words.Rule.TheVariants.{Intro, Gen, Both, Left, Right, Give, Trivial, Refl}
use Rattle.htt_syntax_words.specs.declared.words.Rule.TheVariants.{Case, Induct, Split}
use Rattle.htt_syntax_words.specs.declared.words.Which.TheVariants.{Mono}
use Rattle.htt_syntax.specs.declared.mono.Op.TheVariants.{Add}
use Rattle.htt_syntax.specs.Trees.{MonoTree, TermTree, FormulaTree, ArgTree, ProofTree, StmtTree, BlockTree, m_word}
use Rattle.htt_syntax.specs.Trees.{m_bool, y_mono, t_var, t_word, t_bool, t_bin, f_tt, f_ff, f_and, f_or, f_imp}
use Rattle.htt_syntax.specs.Trees.{f_all_t, f_ex_t, f_all_h, f_ex_h, f_same, f_eq, f_rec, a_heap, a_term, p_hyp}
use Rattle.htt_syntax.specs.Trees.{p_trivial, p_refl, p_first, p_second, p_left, p_right, p_absurd, p_both, p_give}
use Rattle.htt_syntax.specs.Trees.{p_app, p_inst, p_case, p_rewrite, p_induct, p_split, p_axiom, p_lem, p_the, p_block}
use Rattle.htt_syntax.specs.Trees.{p_at, p_unfold, d_intro, d_gen, d_have, d_open, d_at, b_then, b_end}
use Rattle.theory_renaming.specs.Renaming.{lift, rename_formula}
use Rattle.theory_canonical.specs.Folding.{folding}
use Rattle.theory_truth.specs.Predicates.{RecTree}
use Rattle.theory_typing.specs.Contexts.{en_heap, en_term, Context, Environment}
use Rattle.theory_typing.specs.Typing.{in_formula}
use Rattle.theory_logic_axioms.specs.Names.{AxiomName, text_of}
use Rattle.theory_logic_axioms.specs.Table.{ArgSort, heap_sort, term_sort, argument_sorts, SideCondition, formula_of}
use Rattle.theory_logic_rules.specs.Sequents.{SameTerm, SameFormula, raised, PutArgs, terms_of, below_greatest, both_ways}
use Rattle.theory_checking.specs.Stops.{Stop, refused, passed, ◌>>=◌, ◌>>◌, Comes, Refuses, Needs, Finds, Makes}
use Rattle.theory_checking.specs.Limits.{HasRoom}
use Rattle.theory_checking.specs.Checking.{FormulaComesTo, TermComesTo, HeapComesTo}
use Rattle.theory_checking_proofs.specs.Rows.{Inferred, PutsInFormula, PutsHeap, InstanceIsWithin, MonosComeTo}
use Rattle.theory_checking_proofs.specs.Rows.{IsNarrowSort, ArgumentsComeTo, RewriteComesTo, OpenComesTo}

unfoldable mutual
  -- a proof infers a formula, or proves the goal
  pub ProofComesTo : Environment → Context → List FormulaTree → ℕ → ProofTree → Option FormulaTree
      → Result FormulaTree Stop
      → Type 0
  ProofComesTo env g hs at (p_hyp number) asked = Inferred at asked (do
    F ← Finds (λ (F : FormulaTree). slice_get hs number ≡ Some F) (refused Sort at)
    Comes F)
  ProofComesTo env g hs at (p_first p) asked = Inferred at asked (do
    F ← ProofComesTo env g hs at p None
    (left, right) ← Finds (λ (f : FormulaTree × FormulaTree). F ≡ f_and (f.0) (f.1)) (refused First at)
    Comes left)
  ProofComesTo env g hs at (p_second p) asked = Inferred at asked (do
    F ← ProofComesTo env g hs at p None
    (left, right) ← Finds (λ (f : FormulaTree × FormulaTree). F ≡ f_and (f.0) (f.1)) (refused Second at)
    Comes right)
  ProofComesTo env g hs at (p_app p q) asked = Inferred at asked (do
    F ← ProofComesTo env g hs at p None
    (premise, answer) ← Finds (λ (f : FormulaTree × FormulaTree). F ≡ f_imp (f.0) (f.1)) (refused App at)
    ProofComesTo env g hs at q (Some premise)
    Comes answer)
  ProofComesTo env g hs at (p_inst p (a_term m)) asked = Inferred at asked (do
    F ← ProofComesTo env g hs at p None
    (t, body) ← Finds (λ (f : MonoTree × FormulaTree). F ≡ f_all_t (f.0) (f.1)) (refused Inst at)
    v ← TermComesTo env in_formula g at m (Some (y_mono t))
    PutsInFormula v.term body)
  ProofComesTo env g hs at (p_inst p (a_heap h)) asked = Inferred at asked (do
    F ← ProofComesTo env g hs at p None
    body ← Finds (λ (body : FormulaTree). F ≡ f_all_h body) (refused Inst at)
    HeapComesTo g at h
    PutsHeap h body)
  ProofComesTo env g hs at (p_axiom text monos arguments) asked = Inferred at asked (do
    name ← Finds (λ (name : AxiomName). text_of name ≡ text) (refused Axiom at)
    MonosComeTo g at monos
    sorts ← Finds (λ (sorts : List ArgSort). argument_sorts name monos ≡ Some sorts) (refused Axiom at)
    Needs (SideCondition name monos) (refused Axiom at)
    Needs (All IsNarrowSort sorts) (passed Mono)
    arguments' ← ArgumentsComeTo env g at arguments sorts
    F ← Makes (λ (F : FormulaTree). formula_of name monos arguments' ≡ Some F)
    InstanceIsWithin F)
  ProofComesTo env g hs at (p_lem F) asked = Inferred at asked (do
    F' ← FormulaComesTo env g at F
    Comes (f_or F' (f_imp F' f_ff)))
  ProofComesTo env g hs at (p_the F p) asked = Inferred at asked (do
    F' ← FormulaComesTo env g at F
    ProofComesTo env g hs at p (Some F')
    Comes F')
  -- what a recursive predicate says at 0, and at the next word; no other number has a row
  ProofComesTo env g hs at (p_unfold number zero arguments) asked = Inferred at asked (do
    r ← Finds (λ (r : RecTree). slice_get env.recs number ≡ Some r) (refused Sort at)
    arguments' ← ArgumentsComeTo env g at arguments (heap_sort ∷ map term_sort r.params)
    (h, values) ← Makes (λ (a : ℕ × List ArgTree). arguments' ≡ a_heap (a.0) ∷ a.1)
    F ← Makes (PutArgs (values ++ a_heap h ∷ []) r.at_zero)
    InstanceIsWithin (both_ways (f_rec number h (t_word 0) (terms_of values)) F))
  ProofComesTo env g hs at (p_unfold number (suc zero) arguments) asked = Inferred at asked (do
    r ← Finds (λ (r : RecTree). slice_get env.recs number ≡ Some r) (refused Sort at)
    arguments' ← ArgumentsComeTo env g at arguments (heap_sort ∷ term_sort m_word ∷ map term_sort r.params)
    (h, m, values) ← Makes (λ (a : ℕ × TermTree × List ArgTree). arguments' ≡ a_heap (a.0) ∷ a_term (a.1) ∷ a.2)
    F ← Makes (PutArgs (a_term m ∷ values ++ a_heap h ∷ []) r.at_next)
    InstanceIsWithin (f_imp (below_greatest m)
        (both_ways (f_rec number h (folding (t_bin Add m (t_word 1))) (terms_of values)) F)))
  ProofComesTo env g hs at (p_unfold number (suc (suc n)) arguments) asked = do
    r ← Finds (λ (r : RecTree). slice_get env.recs number ≡ Some r) (refused Sort at)
    Refuses (refused Axiom at)
  ProofComesTo env g hs at (p_both p q) None = Refuses (refused Synth at)
  ProofComesTo env g hs at (p_both p q) (Some (f_and A B)) = do
    ProofComesTo env g hs at p (Some A)
    ProofComesTo env g hs at q (Some B)
    Comes (f_and A B)
  ProofComesTo env g hs at (p_both p q) (Some _) = Refuses (refused Both at)
  ProofComesTo env g hs at (p_left p) None = Refuses (refused Synth at)
  ProofComesTo env g hs at (p_left p) (Some (f_or A B)) = do
    ProofComesTo env g hs at p (Some A)
    Comes (f_or A B)
  ProofComesTo env g hs at (p_left p) (Some _) = Refuses (refused Left at)
  ProofComesTo env g hs at (p_right p) None = Refuses (refused Synth at)
  ProofComesTo env g hs at (p_right p) (Some (f_or A B)) = do
    ProofComesTo env g hs at p (Some B)
    Comes (f_or A B)
  ProofComesTo env g hs at (p_right p) (Some _) = Refuses (refused Right at)
  ProofComesTo env g hs at (p_give argument p) None = Refuses (refused Synth at)
  ProofComesTo env g hs at (p_give (a_term m) p) (Some (f_ex_t t F)) = do
    v ← TermComesTo env in_formula g at m (Some (y_mono t))
    goal ← PutsInFormula v.term F
    ProofComesTo env g hs at p (Some goal)
    Comes (f_ex_t t F)
  ProofComesTo env g hs at (p_give (a_heap h) p) (Some (f_ex_h F)) = do
    HeapComesTo g at h
    goal ← PutsHeap h F
    ProofComesTo env g hs at p (Some goal)
    Comes (f_ex_h F)
  ProofComesTo env g hs at (p_give argument p) (Some _) = Refuses (refused Give at)
  ProofComesTo env g hs at p_trivial None = Refuses (refused Synth at)
  ProofComesTo env g hs at p_trivial (Some f_tt) = Comes f_tt
  ProofComesTo env g hs at p_trivial (Some _) = Refuses (refused Trivial at)
  ProofComesTo env g hs at p_refl None = Refuses (refused Synth at)
  ProofComesTo env g hs at p_refl (Some (f_eq t m n)) = do
    Needs (SameTerm m n) (refused Refl at)
    Comes (f_eq t m n)
  ProofComesTo env g hs at p_refl (Some (f_same h k)) = do
    Needs (h ≡ k) (refused Refl at)
    Comes (f_same h k)
  ProofComesTo env g hs at p_refl (Some _) = Refuses (refused Refl at)
  ProofComesTo env g hs at (p_absurd p) None = Refuses (refused Synth at)
  ProofComesTo env g hs at (p_absurd p) (Some G) = do
    ProofComesTo env g hs at p (Some f_ff)
    Comes G
  ProofComesTo env g hs at (p_case p q r) None = Refuses (refused Synth at)
  ProofComesTo env g hs at (p_case p q r) (Some G) = do
    F ← ProofComesTo env g hs at p None
    (left, right) ← Finds (λ (f : FormulaTree × FormulaTree). F ≡ f_or (f.0) (f.1)) (refused Case at)
    ProofComesTo env g (hs ++ left ∷ []) at q (Some G)
    ProofComesTo env g (hs ++ right ∷ []) at r (Some G)
    Comes G
  ProofComesTo env g hs at (p_rewrite p C q) None = Refuses (refused Synth at)
  ProofComesTo env g hs at (p_rewrite p C q) (Some G) = do
    F ← ProofComesTo env g hs at p None
    RewriteComesTo env g at C G (λ goal. ProofComesTo env g hs at q (Some goal)) F
  ProofComesTo env g hs at (p_induct C m p q) None = Refuses (refused Synth at)
  ProofComesTo env g hs at (p_induct C m p q) (Some G) = do
    HasRoom g 1
    C' ← FormulaComesTo env (en_term (y_mono m_word) ∷ g) at C
    v ← TermComesTo env in_formula g at m (Some (y_mono m_word))
    at_word ← PutsInFormula v.term C'
    Needs (SameFormula G at_word) (refused Induct at)
    at_zero ← PutsInFormula (t_word 0) C'
    ProofComesTo env g hs at p (Some at_zero)
    at_next ← PutsInFormula (t_bin Add (t_var 0) (t_word 1)) (rename_formula (lift suc) C')
    ProofComesTo env (en_term (y_mono m_word) ∷ g) (raised hs ++ below_greatest (t_var 0) ∷ C' ∷ []) at q
        (Some at_next)
    Comes G
  ProofComesTo env g hs at (p_split C m p q) None = Refuses (refused Synth at)
  ProofComesTo env g hs at (p_split C m p q) (Some G) = do
    HasRoom g 1
    C' ← FormulaComesTo env (en_term (y_mono m_bool) ∷ g) at C
    v ← TermComesTo env in_formula g at m (Some (y_mono m_bool))
    at_term ← PutsInFormula v.term C'
    Needs (SameFormula G at_term) (refused Split at)
    at_true ← PutsInFormula (t_bool true) C'
    ProofComesTo env g hs at p (Some at_true)
    at_false ← PutsInFormula (t_bool false) C'
    ProofComesTo env g hs at q (Some at_false)
    Comes G
  ProofComesTo env g hs at (p_block block) None = Refuses (refused Synth at)
  ProofComesTo env g hs at (p_block block) (Some G) = BlockComesTo env g hs at block G
  ProofComesTo env g hs at (p_at inner p) asked = ProofComesTo env g hs inner p asked

  -- statements and an end prove the goal
  pub BlockComesTo : Environment → Context → List FormulaTree → ℕ → BlockTree → FormulaTree → Result FormulaTree Stop
      → Type 0
  BlockComesTo env g hs at (b_end p) G = ProofComesTo env g hs at p (Some G)
  BlockComesTo env g hs at (b_then stmt rest) G =
      StmtComesTo env g hs at stmt G (λ h us goal. BlockComesTo env h us at rest goal)

  -- a statement, and then the rest of its block in the entries, the hypotheses and the goal that it leaves
  pub StmtComesTo : Environment → Context → List FormulaTree → ℕ → StmtTree → FormulaTree
      → (Context → List FormulaTree → FormulaTree → Result FormulaTree Stop → Type 0)
      → Result FormulaTree Stop
      → Type 0
  StmtComesTo env g hs at d_intro (f_imp A B) Rest = do
    Rest g (hs ++ A ∷ []) B
    Comes (f_imp A B)
  StmtComesTo env g hs at d_intro _ Rest = Refuses (refused Intro at)
  StmtComesTo env g hs at d_gen (f_all_t t F) Rest = do
    HasRoom g 1
    Rest (en_term (y_mono t) ∷ g) (raised hs) F
    Comes (f_all_t t F)
  StmtComesTo env g hs at d_gen (f_all_h F) Rest = do
    HasRoom g 1
    Rest (en_heap ∷ g) (raised hs) F
    Comes (f_all_h F)
  StmtComesTo env g hs at d_gen _ Rest = Refuses (refused Gen at)
  StmtComesTo env g hs at (d_have F p) G Rest = do
    F' ← FormulaComesTo env g at F
    ProofComesTo env g hs at p (Some F')
    Rest g (hs ++ F' ∷ []) G
  StmtComesTo env g hs at (d_open p) G Rest = do
    F ← ProofComesTo env g hs at p None
    OpenComesTo g hs at G Rest F
  StmtComesTo env g hs at (d_at inner stmt) G Rest = StmtComesTo env g hs inner stmt G Rest
