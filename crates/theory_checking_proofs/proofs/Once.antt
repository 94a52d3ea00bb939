-- A proof comes to one result at most: by the proof, each row by its premises.
use Rattle.std.proofs.Common.{◌≡◌, ℕ, zero, suc, true, false, List, [], ◌∷◌, ◌++◌, map, Result, Option, Some, None, refl, sym, ◌∙◌}
use Rattle.htt_syntax.specs.declared.mono.Op.TheVariants.{Add}
use Rattle.htt_syntax.specs.Trees.{MonoTree, TermTree, FormulaTree, ArgTree, ProofTree, StmtTree, BlockTree, m_word, m_bool, y_mono, t_var, t_word, t_bool}
use Rattle.htt_syntax.specs.Trees.{t_bin, f_tt, f_ff, f_and, f_or, f_imp, f_all_t, f_ex_t, f_all_h, f_ex_h, f_same, f_eq, a_heap, a_term, p_hyp, p_trivial}
use Rattle.htt_syntax.specs.Trees.{p_refl, p_first, p_second, p_left, p_right, p_absurd, p_both, p_give, p_app, p_inst, p_case, p_rewrite, p_induct}
use Rattle.htt_syntax.specs.Trees.{p_split, p_axiom, p_lem, p_the, p_block, p_at, p_unfold, d_intro, d_gen, d_have, d_open, d_at, b_then, b_end}
use Rattle.theory_renaming.specs.Renaming.{lift, rename_formula}
use Rattle.theory_substitution.proofs.Once.{formula_once as sub_formula_once}
use Rattle.theory_typing.specs.Contexts.{en_heap, en_term, Context, Environment}
use Rattle.theory_typing.specs.Typing.{in_formula}
use Rattle.theory_typing.proofs.Once.{found_once}
use Rattle.theory_logic_axioms.specs.Table.{ArgSort, heap_sort, term_sort}
use Rattle.theory_logic_axioms.proofs.Texts.{one_name}
use Rattle.theory_logic_rules.specs.Sequents.{raised, below_greatest}
use Rattle.theory_logic_rules.proofs.Once.{one_put}
use Rattle.theory_checking.specs.Stops.{Stop}
use Rattle.theory_checking.specs.Laws.{Once}
use Rattle.theory_checking.proofs.Chains.{then_once, comes_once, refuses_once, needs_once, finds_once, makes_once, mono_once, within_once}
use Rattle.theory_checking.proofs.Once.{formula_once, term_once}
use Rattle.theory_checking_proofs.specs.Rows.{Meets, Inferred, PutsInFormula, PutsHeap, InstanceIsWithin, MonosComeTo, ArgsComeTo, ArgumentsComeTo}
use Rattle.theory_checking_proofs.specs.Rows.{RewriteComesTo, OpenComesTo}
use Rattle.theory_checking_proofs.specs.Checking.{ProofComesTo, BlockComesTo, StmtComesTo}
use Rattle.theory_checking_proofs.specs.Laws.{ProofsComeToOne}

-- a formula, and a list of arguments, has its parts once

and_left : {A B C D : FormulaTree} → f_and A B ≡ f_and C D → A ≡ C
and_left e = cc

and_right : {A B C D : FormulaTree} → f_and A B ≡ f_and C D → B ≡ D
and_right e = cc

or_left : {A B C D : FormulaTree} → f_or A B ≡ f_or C D → A ≡ C
or_left e = cc

or_right : {A B C D : FormulaTree} → f_or A B ≡ f_or C D → B ≡ D
or_right e = cc

imp_left : {A B C D : FormulaTree} → f_imp A B ≡ f_imp C D → A ≡ C
imp_left e = cc

imp_right : {A B C D : FormulaTree} → f_imp A B ≡ f_imp C D → B ≡ D
imp_right e = cc

all_mono : {t s : MonoTree} {F G : FormulaTree} → f_all_t t F ≡ f_all_t s G → t ≡ s
all_mono e = cc

all_body : {t s : MonoTree} {F G : FormulaTree} → f_all_t t F ≡ f_all_t s G → F ≡ G
all_body e = cc

heap_body : {F G : FormulaTree} → f_all_h F ≡ f_all_h G → F ≡ G
heap_body e = cc

first_heap : {a b : ℕ} {xs ys : List ArgTree} → a_heap a ∷ xs ≡ a_heap b ∷ ys → a ≡ b
first_heap e = cc

first_term : {a b : TermTree} {xs ys : List ArgTree} → a_term a ∷ xs ≡ a_term b ∷ ys → a ≡ b
first_term e = cc

others_of : {a b : ArgTree} {xs ys : List ArgTree} → a ∷ xs ≡ b ∷ ys → xs ≡ ys
others_of e = cc

same_and : {F : FormulaTree} (f h : FormulaTree × FormulaTree) → F ≡ f_and (f.0) (f.1) → F ≡ f_and (h.0) (h.1) → f ≡ h
same_and (a, b) (c, d) p q = let e : f_and a b ≡ f_and c d = sym p ∙ q in λ j. (and_left e j, and_right e j)

same_or : {F : FormulaTree} (f h : FormulaTree × FormulaTree) → F ≡ f_or (f.0) (f.1) → F ≡ f_or (h.0) (h.1) → f ≡ h
same_or (a, b) (c, d) p q = let e : f_or a b ≡ f_or c d = sym p ∙ q in λ j. (or_left e j, or_right e j)

same_imp : {F : FormulaTree} (f h : FormulaTree × FormulaTree) → F ≡ f_imp (f.0) (f.1) → F ≡ f_imp (h.0) (h.1) → f ≡ h
same_imp (a, b) (c, d) p q = let e : f_imp a b ≡ f_imp c d = sym p ∙ q in λ j. (imp_left e j, imp_right e j)

same_all : {F : FormulaTree} (f h : MonoTree × FormulaTree) → F ≡ f_all_t (f.0) (f.1) → F ≡ f_all_t (h.0) (h.1) → f ≡ h
same_all (a, b) (c, d) p q = let e : f_all_t a b ≡ f_all_t c d = sym p ∙ q in λ j. (all_mono e j, all_body e j)

same_one : {args : List ArgTree} (f h : ℕ × List ArgTree) → args ≡ a_heap (f.0) ∷ f.1 → args ≡ a_heap (h.0) ∷ h.1 → f ≡ h
same_one (a, b) (c, d) p q = let e : a_heap a ∷ b ≡ a_heap c ∷ d = sym p ∙ q in λ j. (first_heap e j, others_of e j)

same_two : {args : List ArgTree} (f h : ℕ × TermTree × List ArgTree)
    → args ≡ a_heap (f.0) ∷ a_term (f.1) ∷ f.2
    → args ≡ a_heap (h.0) ∷ a_term (h.1) ∷ h.2
    → f ≡ h
same_two (a, b, x) (c, d, y) p q =
    let e : a_heap a ∷ a_term b ∷ x ≡ a_heap c ∷ a_term d ∷ y = sym p ∙ q in
    λ j. (first_heap e j, first_term (others_of e) j, others_of (others_of e) j)

-- rows

meets_once : (at : ℕ) (asked : Option FormulaTree) (F : FormulaTree) → Once (Meets at asked F)
meets_once at None F = comes_once
meets_once at (Some goal) F = then_once needs_once (λ _. comes_once)

puts_once : (new : TermTree) (F : FormulaTree) → Once (PutsInFormula new F)
puts_once new F = then_once (makes_once (λ a b d e. sub_formula_once d e)) (λ _. then_once (within_once _ _) (λ _. comes_once))

heap_once : (heap : ℕ) (F : FormulaTree) → Once (PutsHeap heap F)
heap_once heap F = then_once (within_once _ _) (λ _. comes_once)

instance_once : (F : FormulaTree) → Once (InstanceIsWithin F)
instance_once F = then_once needs_once (λ _. comes_once)

monos_once : (g : Context) (at : ℕ) (ts : List MonoTree) → Once (MonosComeTo g at ts)
unfolding MonosComeTo
monos_once g at [] = comes_once
monos_once g at (t ∷ ts) = then_once (mono_once g at t) (λ _. monos_once g at ts)

args_once : (env : Environment) (g : Context) (at : ℕ) (args : List ArgTree) (sorts : List ArgSort) → Once (ArgsComeTo env g at args sorts)
unfolding ArgsComeTo
args_once env g at [] [] = comes_once
args_once env g at (a_heap h ∷ others) (heap_sort ∷ sorts) = then_once needs_once (λ _. then_once (args_once env g at others sorts) (λ _. comes_once))
args_once env g at (a_term m ∷ others) (term_sort t ∷ sorts) =
    then_once (term_once env in_formula g at m (Some (y_mono t))) (λ _. then_once (args_once env g at others sorts) (λ _. comes_once))
args_once env g at _ _ = refuses_once

arguments_once : (env : Environment) (g : Context) (at : ℕ) (args : List ArgTree) (sorts : List ArgSort) → Once (ArgumentsComeTo env g at args sorts)
arguments_once env g at args sorts = then_once needs_once (λ _. args_once env g at args sorts)

rewrite_once : (env : Environment) (g : Context) (at : ℕ) (C goal : FormulaTree) (Rest : FormulaTree → Result FormulaTree Stop → Type 0) (F : FormulaTree)
    → ((G : FormulaTree) → Once (Rest G))
    → Once (RewriteComesTo env g at C goal Rest F)
rewrite_once env g at C goal Rest (f_eq t left right) f =
    then_once needs_once (λ _. then_once (formula_once env (en_term (y_mono t) ∷ g) at C) (λ C'. then_once (puts_once right C') (λ _.
    then_once needs_once (λ _. then_once (puts_once left C') (λ G. then_once (f G) (λ _. comes_once))))))
rewrite_once env g at C goal Rest (f_same left right) f =
    then_once needs_once (λ _. then_once (formula_once env (en_heap ∷ g) at C) (λ C'. then_once (heap_once right C') (λ _.
    then_once needs_once (λ _. then_once (heap_once left C') (λ G. then_once (f G) (λ _. comes_once))))))
rewrite_once env g at C goal Rest _ f = refuses_once

open_once : (g : Context) (hs : List FormulaTree) (at : ℕ) (goal : FormulaTree)
    (Rest : Context → List FormulaTree → FormulaTree → Result FormulaTree Stop → Type 0) (F : FormulaTree)
    → ((h : Context) (us : List FormulaTree) (G : FormulaTree) → Once (Rest h us G))
    → Once (OpenComesTo g hs at goal Rest F)
open_once g hs at goal Rest (f_ex_t t F) f = then_once needs_once (λ _. then_once (f _ _ _) (λ _. comes_once))
open_once g hs at goal Rest (f_ex_h F) f = then_once needs_once (λ _. then_once (f _ _ _) (λ _. comes_once))
open_once g hs at goal Rest _ f = refuses_once

mutual
  unfolding ProofComesTo BlockComesTo StmtComesTo

  pub proofs_come_to_one : ProofsComeToOne
  proofs_come_to_one env g hs at (p_hyp number) asked =
      then_once (then_once (finds_once (λ a b d e. found_once d e)) (λ _. comes_once)) (λ F. meets_once at asked F)
  proofs_come_to_one env g hs at (p_first p) asked =
      then_once (then_once (proofs_come_to_one env g hs at p None) (λ _. then_once (finds_once same_and) (λ _. comes_once))) (λ F. meets_once at asked F)
  proofs_come_to_one env g hs at (p_second p) asked =
      then_once (then_once (proofs_come_to_one env g hs at p None) (λ _. then_once (finds_once same_and) (λ _. comes_once))) (λ F. meets_once at asked F)
  proofs_come_to_one env g hs at (p_app p q) asked =
      then_once (then_once (proofs_come_to_one env g hs at p None) (λ _. then_once (finds_once same_imp) (λ (premise, answer).
      then_once (proofs_come_to_one env g hs at q (Some premise)) (λ _. comes_once)))) (λ F. meets_once at asked F)
  proofs_come_to_one env g hs at (p_inst p (a_term m)) asked =
      then_once (then_once (proofs_come_to_one env g hs at p None) (λ _. then_once (finds_once same_all) (λ (t, body).
      then_once (term_once env in_formula g at m (Some (y_mono t))) (λ v. puts_once v.term body)))) (λ F. meets_once at asked F)
  proofs_come_to_one env g hs at (p_inst p (a_heap h)) asked =
      then_once (then_once (proofs_come_to_one env g hs at p None) (λ _. then_once (finds_once (λ a b d e. heap_body (sym d ∙ e))) (λ body.
      then_once needs_once (λ _. heap_once h body)))) (λ F. meets_once at asked F)
  proofs_come_to_one env g hs at (p_axiom text monos arguments) asked =
      then_once (then_once (finds_once (λ a b d e. one_name a b (d ∙ sym e))) (λ name. then_once (monos_once g at monos) (λ _.
      then_once (finds_once (λ a b d e. found_once d e)) (λ sorts. then_once needs_once (λ _. then_once needs_once (λ _.
      then_once (arguments_once env g at arguments sorts) (λ _. then_once (makes_once (λ a b d e. found_once d e)) (λ F. instance_once F))))))))
      (λ F. meets_once at asked F)
  proofs_come_to_one env g hs at (p_lem F) asked =
      then_once (then_once (formula_once env g at F) (λ _. comes_once)) (λ F. meets_once at asked F)
  proofs_come_to_one env g hs at (p_the F p) asked =
      then_once (then_once (formula_once env g at F) (λ F'. then_once (proofs_come_to_one env g hs at p (Some F')) (λ _. comes_once)))
      (λ F. meets_once at asked F)
  proofs_come_to_one env g hs at (p_unfold number zero arguments) asked =
      then_once (then_once (finds_once (λ a b d e. found_once d e)) (λ r. then_once (arguments_once env g at arguments (heap_sort ∷ map term_sort r.params)) (λ _.
      then_once (makes_once same_one) (λ (h, values). then_once (makes_once (λ a b d e. one_put _ _ a b d e)) (λ F. instance_once _)))))
      (λ F. meets_once at asked F)
  proofs_come_to_one env g hs at (p_unfold number (suc zero) arguments) asked =
      then_once (then_once (finds_once (λ a b d e. found_once d e)) (λ r. then_once (arguments_once env g at arguments (heap_sort ∷ term_sort m_word ∷ map term_sort r.params)) (λ _.
      then_once (makes_once same_two) (λ (h, m, values). then_once (makes_once (λ a b d e. one_put _ _ a b d e)) (λ F. instance_once _)))))
      (λ F. meets_once at asked F)
  proofs_come_to_one env g hs at (p_unfold number (suc (suc n)) arguments) asked =
      then_once (finds_once (λ a b d e. found_once d e)) (λ _. refuses_once)
  proofs_come_to_one env g hs at (p_both p q) None = refuses_once
  proofs_come_to_one env g hs at (p_both p q) (Some (f_and A B)) =
      then_once (proofs_come_to_one env g hs at p (Some A)) (λ _. then_once (proofs_come_to_one env g hs at q (Some B)) (λ _. comes_once))
  proofs_come_to_one env g hs at (p_both p q) (Some _) = refuses_once
  proofs_come_to_one env g hs at (p_left p) None = refuses_once
  proofs_come_to_one env g hs at (p_left p) (Some (f_or A B)) = then_once (proofs_come_to_one env g hs at p (Some A)) (λ _. comes_once)
  proofs_come_to_one env g hs at (p_left p) (Some _) = refuses_once
  proofs_come_to_one env g hs at (p_right p) None = refuses_once
  proofs_come_to_one env g hs at (p_right p) (Some (f_or A B)) = then_once (proofs_come_to_one env g hs at p (Some B)) (λ _. comes_once)
  proofs_come_to_one env g hs at (p_right p) (Some _) = refuses_once
  proofs_come_to_one env g hs at (p_give (a_term m) p) None = refuses_once
  proofs_come_to_one env g hs at (p_give (a_heap h) p) None = refuses_once
  proofs_come_to_one env g hs at (p_give (a_term m) p) (Some (f_ex_t t F)) =
      then_once (term_once env in_formula g at m (Some (y_mono t))) (λ v. then_once (puts_once v.term F) (λ goal.
      then_once (proofs_come_to_one env g hs at p (Some goal)) (λ _. comes_once)))
  proofs_come_to_one env g hs at (p_give (a_heap h) p) (Some (f_ex_h F)) =
      then_once needs_once (λ _. then_once (heap_once h F) (λ goal. then_once (proofs_come_to_one env g hs at p (Some goal)) (λ _. comes_once)))
  proofs_come_to_one env g hs at (p_give (a_term m) p) (Some _) = refuses_once
  proofs_come_to_one env g hs at (p_give (a_heap h) p) (Some _) = refuses_once
  proofs_come_to_one env g hs at p_trivial None = refuses_once
  proofs_come_to_one env g hs at p_trivial (Some f_tt) = comes_once
  proofs_come_to_one env g hs at p_trivial (Some _) = refuses_once
  proofs_come_to_one env g hs at p_refl None = refuses_once
  proofs_come_to_one env g hs at p_refl (Some (f_eq t m n)) = then_once needs_once (λ _. comes_once)
  proofs_come_to_one env g hs at p_refl (Some (f_same h k)) = then_once needs_once (λ _. comes_once)
  proofs_come_to_one env g hs at p_refl (Some _) = refuses_once
  proofs_come_to_one env g hs at (p_absurd p) None = refuses_once
  proofs_come_to_one env g hs at (p_absurd p) (Some G) = then_once (proofs_come_to_one env g hs at p (Some f_ff)) (λ _. comes_once)
  proofs_come_to_one env g hs at (p_case p q r) None = refuses_once
  proofs_come_to_one env g hs at (p_case p q r) (Some G) =
      then_once (proofs_come_to_one env g hs at p None) (λ _. then_once (finds_once same_or) (λ (left, right).
      then_once (proofs_come_to_one env g (hs ++ left ∷ []) at q (Some G)) (λ _.
      then_once (proofs_come_to_one env g (hs ++ right ∷ []) at r (Some G)) (λ _. comes_once))))
  proofs_come_to_one env g hs at (p_rewrite p C q) None = refuses_once
  proofs_come_to_one env g hs at (p_rewrite p C q) (Some G) =
      then_once (proofs_come_to_one env g hs at p None) (λ F. rewrite_once env g at C G (λ goal. ProofComesTo env g hs at q (Some goal)) F
      (λ goal. proofs_come_to_one env g hs at q (Some goal)))
  proofs_come_to_one env g hs at (p_induct C m p q) None = refuses_once
  proofs_come_to_one env g hs at (p_induct C m p q) (Some G) =
      then_once needs_once (λ _. then_once (formula_once env (en_term (y_mono m_word) ∷ g) at C) (λ C'.
      then_once (term_once env in_formula g at m (Some (y_mono m_word))) (λ v. then_once (puts_once v.term C') (λ _. then_once needs_once (λ _.
      then_once (puts_once (t_word 0) C') (λ goal. then_once (proofs_come_to_one env g hs at p (Some goal)) (λ _.
      then_once (puts_once (t_bin Add (t_var 0) (t_word 1)) (rename_formula (lift suc) C')) (λ next.
      then_once (proofs_come_to_one env (en_term (y_mono m_word) ∷ g) (raised hs ++ below_greatest (t_var 0) ∷ C' ∷ []) at q (Some next))
      (λ _. comes_once)))))))))
  proofs_come_to_one env g hs at (p_split C m p q) None = refuses_once
  proofs_come_to_one env g hs at (p_split C m p q) (Some G) =
      then_once needs_once (λ _. then_once (formula_once env (en_term (y_mono m_bool) ∷ g) at C) (λ C'.
      then_once (term_once env in_formula g at m (Some (y_mono m_bool))) (λ v. then_once (puts_once v.term C') (λ _. then_once needs_once (λ _.
      then_once (puts_once (t_bool true) C') (λ goal. then_once (proofs_come_to_one env g hs at p (Some goal)) (λ _.
      then_once (puts_once (t_bool false) C') (λ other. then_once (proofs_come_to_one env g hs at q (Some other)) (λ _. comes_once)))))))))
  proofs_come_to_one env g hs at (p_block block) None = refuses_once
  proofs_come_to_one env g hs at (p_block block) (Some G) = block_once env g hs at block G
  proofs_come_to_one env g hs at (p_at inner p) asked = proofs_come_to_one env g hs inner p asked

  block_once : (env : Environment) (g : Context) (hs : List FormulaTree) (at : ℕ) (block : BlockTree) (G : FormulaTree)
      → Once (BlockComesTo env g hs at block G)
  block_once env g hs at (b_end p) G = proofs_come_to_one env g hs at p (Some G)
  block_once env g hs at (b_then stmt rest) G =
      stmt_once env g hs at stmt G at rest (λ h us goal. block_once env h us at rest goal)

  stmt_once : (env : Environment) (g : Context) (hs : List FormulaTree) (at : ℕ) (stmt : StmtTree) (G : FormulaTree)
      (outer : ℕ) (rest : BlockTree)
      → ((h : Context) (us : List FormulaTree) (goal : FormulaTree) → Once (BlockComesTo env h us outer rest goal))
      → Once (StmtComesTo env g hs at stmt G (λ h us goal. BlockComesTo env h us outer rest goal))
  stmt_once env g hs at d_intro (f_imp A B) outer rest f = then_once (f g (hs ++ A ∷ []) B) (λ _. comes_once)
  stmt_once env g hs at d_intro _ outer rest f = refuses_once
  stmt_once env g hs at d_gen (f_all_t t F) outer rest f = then_once needs_once (λ _. then_once (f (en_term (y_mono t) ∷ g) (raised hs) F) (λ _. comes_once))
  stmt_once env g hs at d_gen (f_all_h F) outer rest f = then_once needs_once (λ _. then_once (f (en_heap ∷ g) (raised hs) F) (λ _. comes_once))
  stmt_once env g hs at d_gen _ outer rest f = refuses_once
  stmt_once env g hs at (d_have F p) G outer rest f =
      then_once (formula_once env g at F) (λ F'. then_once (proofs_come_to_one env g hs at p (Some F')) (λ _. f g (hs ++ F' ∷ []) G))
  stmt_once env g hs at (d_open p) G outer rest f = then_once (proofs_come_to_one env g hs at p None) (λ F. open_once g hs at G (λ h us goal. BlockComesTo env h us outer rest goal) F f)
  stmt_once env g hs at (d_at inner stmt) G outer rest f = stmt_once env g hs inner stmt G outer rest f
