-- What a proof gives is inferred or proved: by the proof, each row by its rule.
use Rattle.std.proofs.Common.{◌≡◌, ℕ, zero, suc, true, false, List, [], ◌∷◌, ◌++◌, map, Result, Ok, Option, Some, None, refl, sym, subst}
use Rattle.htt_syntax.specs.declared.mono.Op.TheVariants.{Add}
use Rattle.htt_syntax.specs.Trees.{MonoTree, TermTree, FormulaTree, ArgTree, ProofTree, StmtTree, BlockTree, m_word, m_bool, y_mono, t_var, t_word, t_bool}
use Rattle.htt_syntax.specs.Trees.{t_bin, f_tt, f_ff, f_and, f_or, f_imp, f_all_t, f_ex_t, f_all_h, f_ex_h, f_same, f_eq, a_heap, a_term, p_hyp, p_trivial}
use Rattle.htt_syntax.specs.Trees.{p_refl, p_first, p_second, p_left, p_right, p_absurd, p_both, p_give, p_app, p_inst, p_case, p_rewrite, p_induct}
use Rattle.htt_syntax.specs.Trees.{p_split, p_axiom, p_lem, p_the, p_block, p_at, p_unfold, d_intro, d_gen, d_have, d_open, d_at, b_then, b_end}
use Rattle.theory_renaming.specs.Renaming.{lift, rename_formula}
use Rattle.theory_typing.specs.Contexts.{en_heap, en_term, Context, Environment}
use Rattle.theory_typing.specs.Typing.{in_formula, FormsFormula}
use Rattle.theory_logic_axioms.specs.Table.{ArgSort, heap_sort, term_sort}
use Rattle.theory_logic_rules.specs.Sequents.{raised, FormsMonos, forms_no_monos, forms_more_monos, FitsArgs, fits_no_args, fits_heap_arg, fits_term_arg}
use Rattle.theory_logic_rules.specs.Sequents.{below_greatest}
use Rattle.theory_logic_rules.specs.Rules.{Infers, infers_hyp, infers_first, infers_second, infers_app, infers_inst_term, infers_inst_heap, infers_axiom}
use Rattle.theory_logic_rules.specs.Rules.{infers_lem, infers_the, infers_at_zero, infers_at_next, infers_at, Proves, proves_both, proves_left, proves_right}
use Rattle.theory_logic_rules.specs.Rules.{proves_give_term, proves_give_heap, proves_trivial, proves_refl_term, proves_refl_heap, proves_absurd, proves_case}
use Rattle.theory_logic_rules.specs.Rules.{proves_rewrite_term, proves_rewrite_heap, proves_induct, proves_split, proves_inferred, proves_block, proves_at}
use Rattle.theory_logic_rules.specs.Rules.{ProvesBlock, block_end, block_intro, block_gen_term, block_gen_heap, block_have, block_open_term, block_open_heap}
use Rattle.theory_logic_rules.specs.Rules.{block_at}
use Rattle.theory_checking.specs.Stops.{Stop, Then, goes_on, Comes, comes, holds, finds, makes}
use Rattle.theory_checking_derived.proofs.Pieces.{in_formula_fits}
use Rattle.theory_checking_derived.proofs.Derived.{formula_derived, term_derived}
use Rattle.theory_checking_proofs.specs.Rows.{Meets, MonosComeTo, ArgsComeTo, RewriteComesTo, OpenComesTo}
use Rattle.theory_checking_proofs.specs.Checking.{ProofComesTo, BlockComesTo, StmtComesTo}
use Rattle.theory_checking_proofs.specs.Laws.{CheckedProofsProve}

-- what a proof has come to: it infers a formula, or it proves the goal that was asked
abbrev pub Proved : Environment → Context → List FormulaTree → ProofTree → Option FormulaTree → FormulaTree → Type 0
Proved env g hs p None F = Infers env g hs p F
Proved env g hs p (Some G) F = Proves env g hs p G

met : {env : Environment} {g : Context} {hs : List FormulaTree} {p : ProofTree} {F z : FormulaTree} (at : ℕ) (asked : Option FormulaTree) (R : FormulaTree)
    → Infers env g hs p F
    → Comes F (Ok z)
    → Meets at asked z (Ok R)
    → Proved env g hs p asked R
met at None R d comes comes = d
met at (Some G) R d comes (goes_on (holds e) comes) = proves_inferred d e

infers_same : {env : Environment} {g : Context} {hs : List FormulaTree} {p : ProofTree} {F G : FormulaTree}
    → Infers env g hs p F
    → F ≡ G
    → Infers env g hs p G
infers_same {env = env} {g = g} {hs = hs} {p = p} d e = subst (λ (F : FormulaTree). Infers env g hs p F) e d

same_heaps : {env : Environment} {g : Context} {hs : List FormulaTree} (h k : ℕ) → h ≡ k → Proves env g hs p_refl (f_same h k)
same_heaps {env = env} {g = g} {hs = hs} h k e = subst (λ (l : ℕ). Proves env g hs p_refl (f_same h l)) e proves_refl_heap

monos_formed : (g : Context) (at : ℕ) (ts : List MonoTree) → MonosComeTo g at ts (Ok tt) → FormsMonos g ts
unfolding MonosComeTo
monos_formed g at [] comes = forms_no_monos
monos_formed g at (t ∷ ts) (goes_on (goes_on (holds m) n) a) = forms_more_monos m (monos_formed g at ts a)

args_fit : (env : Environment) (g : Context) (at : ℕ) (args : List ArgTree) (sorts : List ArgSort) {R : List ArgTree}
    → ArgsComeTo env g at args sorts (Ok R)
    → FitsArgs env g args sorts R
unfolding ArgsComeTo
args_fit env g at [] [] comes = fits_no_args
args_fit env g at (a_heap h ∷ others) (heap_sort ∷ sorts) (goes_on (holds i) (goes_on a comes)) = fits_heap_arg i (args_fit env g at others sorts a)
args_fit env g at (a_term m ∷ others) (term_sort t ∷ sorts) (goes_on {given = v} a (goes_on b comes)) =
    fits_term_arg (in_formula_fits (term_derived env in_formula g at m (Some (y_mono t)) v a)) (args_fit env g at others sorts b)
args_fit env g at _ _ a = elim a [ ]

these_fit : {env : Environment} {g : Context} {args : List ArgTree} {sorts : List ArgSort} {xs ys : List ArgTree}
    → FitsArgs env g args sorts xs
    → xs ≡ ys
    → FitsArgs env g args sorts ys
these_fit {env = env} {g = g} {args = args} {sorts = sorts} d e = subst (λ (xs : List ArgTree). FitsArgs env g args sorts xs) e d

rewrite_proved : {env : Environment} {g : Context} {hs : List FormulaTree} {p q : ProofTree} {G : FormulaTree} (at : ℕ) (C : FormulaTree)
    (Rest : FormulaTree → Result FormulaTree Stop → Type 0) (F : FormulaTree)
    → Infers env g hs p F
    → ((goal S : FormulaTree) → Rest goal (Ok S) → Proves env g hs q goal)
    → (R : FormulaTree)
    → RewriteComesTo env g at C G Rest F (Ok R)
    → Proves env g hs (p_rewrite p C q) G
rewrite_proved {env = env} {g = g} at C Rest (f_eq t left right) d f R
    (goes_on h (goes_on {given = C'} c (goes_on (goes_on (makes s) (goes_on w comes)) (goes_on (holds e)
    (goes_on {given = L} (goes_on (makes u) (goes_on x comes)) (goes_on {given = S} r z)))))) =
    proves_rewrite_term d (formula_derived env (en_term (y_mono t) ∷ g) at C c) s e u (f L S r)
rewrite_proved {env = env} {g = g} at C Rest (f_same left right) d f R
    (goes_on h (goes_on {given = C'} c (goes_on (goes_on w comes) (goes_on (holds e) (goes_on {given = L} (goes_on x comes) (goes_on {given = S} r z)))))) =
    proves_rewrite_heap d (formula_derived env (en_heap ∷ g) at C c) e (f L S r)
rewrite_proved at C Rest _ d f R a = elim a [ ]

open_proved : {env : Environment} {g : Context} {hs : List FormulaTree} {p : ProofTree} {rest : BlockTree} {G : FormulaTree} (at : ℕ)
    (Rest : Context → List FormulaTree → FormulaTree → Result FormulaTree Stop → Type 0) (F : FormulaTree)
    → Infers env g hs p F
    → ((h : Context) (us : List FormulaTree) (goal S : FormulaTree) → Rest h us goal (Ok S) → ProvesBlock env h us rest goal)
    → (R : FormulaTree)
    → OpenComesTo g hs at G Rest F (Ok R)
    → ProvesBlock env g hs (b_then (d_open p) rest) G
open_proved {g = g} {hs = hs} {G = G} at Rest (f_ex_t t F) d f R (goes_on h (goes_on {given = S} r z)) =
    block_open_term d (f (en_term (y_mono t) ∷ g) (raised hs ++ F ∷ []) (rename_formula suc G) S r)
open_proved {g = g} {hs = hs} {G = G} at Rest (f_ex_h F) d f R (goes_on h (goes_on {given = S} r z)) =
    block_open_heap d (f (en_heap ∷ g) (raised hs ++ F ∷ []) (rename_formula suc G) S r)
open_proved at Rest _ d f R a = elim a [ ]

module _ (env : Environment) where
  mutual
    unfolding ProofComesTo BlockComesTo StmtComesTo

    pub proof_proved : (g : Context) (hs : List FormulaTree) (at : ℕ) (p : ProofTree) (asked : Option FormulaTree) (R : FormulaTree)
        → ProofComesTo env g hs at p asked (Ok R)
        → Proved env g hs p asked R
    proof_proved g hs at (p_hyp number) asked R (goes_on (goes_on (finds d) z) s) = met at asked R (infers_hyp d) z s
    proof_proved g hs at (p_first p) asked R (goes_on (goes_on {given = F} a (goes_on (finds e) z)) s) =
        met at asked R (infers_first (infers_same (proof_proved g hs at p None F a) e)) z s
    proof_proved g hs at (p_second p) asked R (goes_on (goes_on {given = F} a (goes_on (finds e) z)) s) =
        met at asked R (infers_second (infers_same (proof_proved g hs at p None F a) e)) z s
    proof_proved g hs at (p_app p q) asked R (goes_on (goes_on {given = F} a (goes_on {given = f} (finds e) (goes_on {given = P} b z))) s) =
        met at asked R (infers_app (infers_same (proof_proved g hs at p None F a) e) (proof_proved g hs at q (Some (f.0)) P b)) z s
    proof_proved g hs at (p_inst p (a_term m)) asked R
        (goes_on (goes_on {given = F} a (goes_on {given = f} (finds e) (goes_on {given = v} b (goes_on (makes u) (goes_on w z))))) s) =
        met at asked R
        (infers_inst_term (infers_same (proof_proved g hs at p None F a) e)
        (in_formula_fits (term_derived env in_formula g at m (Some (y_mono (f.0))) v b)) u) z s
    proof_proved g hs at (p_inst p (a_heap h)) asked R (goes_on (goes_on {given = F} a (goes_on (finds e) (goes_on (holds i) (goes_on w z)))) s) =
        met at asked R (infers_inst_heap (infers_same (proof_proved g hs at p None F a) e) i) z s
    proof_proved g hs at (p_axiom text monos arguments) asked R
        (goes_on (goes_on {given = name} (finds n) (goes_on a (goes_on {given = sorts} (finds o) (goes_on (holds c) (goes_on x
        (goes_on (goes_on (holds k) b) (goes_on (makes f) (goes_on w z)))))))) s) =
        met at asked R (infers_axiom name n (monos_formed g at monos a) o c k (args_fit env g at arguments sorts b) f) z s
    proof_proved g hs at (p_lem F) asked R (goes_on (goes_on a z) s) = met at asked R (infers_lem (formula_derived env g at F a)) z s
    proof_proved g hs at (p_the F p) asked R (goes_on (goes_on {given = G} a (goes_on {given = P} b z)) s) =
        met at asked R (infers_the (formula_derived env g at F a) (proof_proved g hs at p (Some G) P b)) z s
    proof_proved g hs at (p_unfold number zero arguments) asked R
        (goes_on (goes_on {given = r} (finds l) (goes_on (goes_on (holds k) b) (goes_on {given = a} (makes e) (goes_on (makes u) (goes_on w z))))) s) =
        met at asked R
        (infers_at_zero l k (these_fit (args_fit env g at arguments (heap_sort ∷ map term_sort r.params) b) e) u) z s
    proof_proved g hs at (p_unfold number (suc zero) arguments) asked R
        (goes_on (goes_on {given = r} (finds l) (goes_on (goes_on (holds k) b) (goes_on {given = a} (makes e) (goes_on (makes u) (goes_on w z))))) s) =
        met at asked R
        (infers_at_next l k (these_fit (args_fit env g at arguments (heap_sort ∷ term_sort m_word ∷ map term_sort r.params) b) e) u) z s
    proof_proved g hs at (p_unfold number (suc (suc n)) arguments) asked R (goes_on f x) = elim x [ ]
    proof_proved g hs at (p_both p q) None R a = elim a [ ]
    proof_proved g hs at (p_both p q) (Some (f_and A B)) R (goes_on {given = P} a (goes_on {given = Q} b comes)) =
        proves_both (proof_proved g hs at p (Some A) P a) (proof_proved g hs at q (Some B) Q b)
    proof_proved g hs at (p_both p q) (Some _) R a = elim a [ ]
    proof_proved g hs at (p_left p) None R a = elim a [ ]
    proof_proved g hs at (p_left p) (Some (f_or A B)) R (goes_on {given = P} a comes) = proves_left (proof_proved g hs at p (Some A) P a)
    proof_proved g hs at (p_left p) (Some _) R a = elim a [ ]
    proof_proved g hs at (p_right p) None R a = elim a [ ]
    proof_proved g hs at (p_right p) (Some (f_or A B)) R (goes_on {given = P} a comes) = proves_right (proof_proved g hs at p (Some B) P a)
    proof_proved g hs at (p_right p) (Some _) R a = elim a [ ]
    proof_proved g hs at (p_give (a_term m) p) None R a = elim a [ ]
    proof_proved g hs at (p_give (a_heap h) p) None R a = elim a [ ]
    proof_proved g hs at (p_give (a_term m) p) (Some (f_ex_t t F)) R
        (goes_on {given = v} a (goes_on {given = H} (goes_on (makes u) (goes_on w comes)) (goes_on {given = P} b comes))) =
        proves_give_term (in_formula_fits (term_derived env in_formula g at m (Some (y_mono t)) v a)) u (proof_proved g hs at p (Some H) P b)
    proof_proved g hs at (p_give (a_heap h) p) (Some (f_ex_h F)) R
        (goes_on (holds i) (goes_on {given = H} (goes_on w comes) (goes_on {given = P} b comes))) =
        proves_give_heap i (proof_proved g hs at p (Some H) P b)
    proof_proved g hs at (p_give (a_term m) p) (Some _) R a = elim a [ ]
    proof_proved g hs at (p_give (a_heap h) p) (Some _) R a = elim a [ ]
    proof_proved g hs at p_trivial None R a = elim a [ ]
    proof_proved g hs at p_trivial (Some f_tt) R comes = proves_trivial
    proof_proved g hs at p_trivial (Some _) R a = elim a [ ]
    proof_proved g hs at p_refl None R a = elim a [ ]
    proof_proved g hs at p_refl (Some (f_eq t m n)) R (goes_on (holds e) comes) = proves_refl_term e
    proof_proved g hs at p_refl (Some (f_same h k)) R (goes_on (holds e) comes) = same_heaps h k e
    proof_proved g hs at p_refl (Some _) R a = elim a [ ]
    proof_proved g hs at (p_absurd p) None R a = elim a [ ]
    proof_proved g hs at (p_absurd p) (Some G) R (goes_on {given = P} a z) = proves_absurd (proof_proved g hs at p (Some f_ff) P a)
    proof_proved g hs at (p_case p q r) None R a = elim a [ ]
    proof_proved g hs at (p_case p q r) (Some G) R
        (goes_on {given = F} a (goes_on {given = f} (finds e) (goes_on {given = Q} b (goes_on {given = S} c z)))) =
        proves_case (infers_same (proof_proved g hs at p None F a) e) (proof_proved g (hs ++ f.0 ∷ []) at q (Some G) Q b)
        (proof_proved g (hs ++ f.1 ∷ []) at r (Some G) S c)
    proof_proved g hs at (p_rewrite p C q) None R a = elim a [ ]
    proof_proved g hs at (p_rewrite p C q) (Some G) R (goes_on {given = F} a b) =
        rewrite_proved at C (λ goal. ProofComesTo env g hs at q (Some goal)) F (proof_proved g hs at p None F a)
        (λ goal S x. proof_proved g hs at q (Some goal) S x) R b
    proof_proved g hs at (p_induct C m p q) None R a = elim a [ ]
    proof_proved g hs at (p_induct C m p q) (Some G) R
        (goes_on h (goes_on {given = C'} c (goes_on {given = v} a (goes_on (goes_on (makes s) (goes_on w comes)) (goes_on (holds e)
        (goes_on {given = Z} (goes_on (makes u) (goes_on x comes)) (goes_on {given = P} b
        (goes_on {given = N} (goes_on (makes y) (goes_on k comes)) (goes_on {given = Q} d z))))))))) =
        proves_induct (formula_derived env (en_term (y_mono m_word) ∷ g) at C c)
        (in_formula_fits (term_derived env in_formula g at m (Some (y_mono m_word)) v a)) s e u (proof_proved g hs at p (Some Z) P b) y
        (proof_proved (en_term (y_mono m_word) ∷ g) (raised hs ++ below_greatest (t_var 0) ∷ C' ∷ []) at q (Some N) Q d)
    proof_proved g hs at (p_split C m p q) None R a = elim a [ ]
    proof_proved g hs at (p_split C m p q) (Some G) R
        (goes_on h (goes_on {given = C'} c (goes_on {given = v} a (goes_on (goes_on (makes s) (goes_on w comes)) (goes_on (holds e)
        (goes_on {given = Y} (goes_on (makes u) (goes_on x comes)) (goes_on {given = P} b
        (goes_on {given = N} (goes_on (makes y) (goes_on k comes)) (goes_on {given = Q} d z))))))))) =
        proves_split (formula_derived env (en_term (y_mono m_bool) ∷ g) at C c)
        (in_formula_fits (term_derived env in_formula g at m (Some (y_mono m_bool)) v a)) s e u (proof_proved g hs at p (Some Y) P b) y
        (proof_proved g hs at q (Some N) Q d)
    proof_proved g hs at (p_block block) None R a = elim a [ ]
    proof_proved g hs at (p_block block) (Some G) R a = proves_block (block_proved g hs at block G R a)
    proof_proved g hs at (p_at inner p) None R a = infers_at (proof_proved g hs inner p None R a)
    proof_proved g hs at (p_at inner p) (Some G) R a = proves_at (proof_proved g hs inner p (Some G) R a)

    block_proved : (g : Context) (hs : List FormulaTree) (at : ℕ) (block : BlockTree) (G R : FormulaTree)
        → BlockComesTo env g hs at block G (Ok R)
        → ProvesBlock env g hs block G
    block_proved g hs at (b_end p) G R a = block_end (proof_proved g hs at p (Some G) R a)
    block_proved g hs at (b_then stmt rest) G R a =
        stmt_proved g hs at stmt G at rest
        (λ h us goal S x. block_proved h us at rest goal S x) R a

    stmt_proved : (g : Context) (hs : List FormulaTree) (at : ℕ) (stmt : StmtTree) (G : FormulaTree) (outer : ℕ) (rest : BlockTree)
        → ((h : Context) (us : List FormulaTree) (goal S : FormulaTree) → BlockComesTo env h us outer rest goal (Ok S) → ProvesBlock env h us rest goal)
        → (R : FormulaTree)
        → StmtComesTo env g hs at stmt G (λ h us goal. BlockComesTo env h us outer rest goal) (Ok R)
        → ProvesBlock env g hs (b_then stmt rest) G
    stmt_proved g hs at d_intro (f_imp A B) outer rest f R (goes_on {given = S} a z) = block_intro (f g (hs ++ A ∷ []) B S a)
    stmt_proved g hs at d_intro _ outer rest f R a = elim a [ ]
    stmt_proved g hs at d_gen (f_all_t t F) outer rest f R (goes_on h (goes_on {given = S} a z)) =
        block_gen_term (f (en_term (y_mono t) ∷ g) (raised hs) F S a)
    stmt_proved g hs at d_gen (f_all_h F) outer rest f R (goes_on h (goes_on {given = S} a z)) = block_gen_heap (f (en_heap ∷ g) (raised hs) F S a)
    stmt_proved g hs at d_gen _ outer rest f R a = elim a [ ]
    stmt_proved g hs at (d_have F p) G outer rest f R (goes_on {given = H} a (goes_on {given = P} b c)) =
        block_have (formula_derived env g at F a) (proof_proved g hs at p (Some H) P b) (f g (hs ++ H ∷ []) G R c)
    stmt_proved g hs at (d_open p) G outer rest f R (goes_on {given = F} a b) = open_proved at (λ h us goal. BlockComesTo env h us outer rest goal) F (proof_proved g hs at p None F a) f R b
    stmt_proved g hs at (d_at inner stmt) G outer rest f R a = block_at (stmt_proved g hs inner stmt G outer rest f R a)

pub checked_proofs_prove : CheckedProofsProve
checked_proofs_prove = record {
  inferred = λ env g hs at p F d. proof_proved env g hs at p None F d;
  proved = λ env g hs at p F G d. proof_proved env g hs at p (Some G) F d;
}
