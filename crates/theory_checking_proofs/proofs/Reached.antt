-- What the proof rules infer or prove, a proof reaches, or a limit: by the derivation, each rule by its row.
use Rattle.std.proofs.Common.{◌≡◌, ℕ, zero, suc, ◌≤◌, List, [], ◌∷◌, ◌++◌, All, Result, Ok, Err, Option, Some, None, refl, ◌⊎◌, inl, inr, ⊎_elim, arith}
use Rattle.std.proofs.lemmas.Bool.{cases_lt}
use Rattle.std.proofs.lemmas.List.Elements.{All-nil, All-cons, All-head, All-tail}
use Rattle.htt_syntax_words.specs.declared.words.Rule.{Rule}
use Rattle.htt_syntax_words.specs.declared.words.Which.{Which}
use Rattle.htt_syntax.specs.Trees.{MonoTree, TermTree, FormulaTree, ArgTree, ProofTree, BlockTree, a_heap, a_term, p_hyp, p_trivial, p_refl, p_first, p_second}
use Rattle.htt_syntax.specs.Trees.{p_left, p_right, p_absurd, p_both, p_give, p_app, p_inst, p_case, p_rewrite, p_induct, p_split, p_axiom, p_lem, p_the, p_block}
use Rattle.htt_syntax.specs.Trees.{p_at, p_unfold, b_then, b_end}
use Rattle.theory_canonical.specs.Skeletons.{sk_o}
use Rattle.theory_counts.specs.Nodes.{nodes_mono}
use Rattle.theory_substitution.specs.Substitution.{SubFormula}
use Rattle.theory_typing.specs.Contexts.{Context, Environment}
use Rattle.theory_logic_axioms.specs.Table.{ArgSort, heap_sort, term_sort}
use Rattle.theory_logic_rules.specs.Sequents.{SameFormula, put_heap, FormsMonos, forms_no_monos, forms_more_monos, FitsArgs, fits_no_args, fits_heap_arg}
use Rattle.theory_logic_rules.specs.Sequents.{fits_term_arg}
use Rattle.theory_logic_rules.specs.Rules.{Infers, infers_hyp, infers_first, infers_second, infers_app, infers_inst_term, infers_inst_heap, infers_axiom}
use Rattle.theory_logic_rules.specs.Rules.{infers_lem, infers_the, infers_at_zero, infers_at_next, infers_at, Proves, proves_both, proves_left, proves_right}
use Rattle.theory_logic_rules.specs.Rules.{proves_give_term, proves_give_heap, proves_trivial, proves_refl_term, proves_refl_heap, proves_absurd, proves_case}
use Rattle.theory_logic_rules.specs.Rules.{proves_rewrite_term, proves_rewrite_heap, proves_induct, proves_split, proves_inferred, proves_block, proves_at}
use Rattle.theory_logic_rules.specs.Rules.{ProvesBlock, block_end, block_intro, block_gen_term, block_gen_heap, block_have, block_open_term, block_open_heap}
use Rattle.theory_logic_rules.specs.Rules.{block_at}
use Rattle.theory_checking.specs.Stops.{Stop, refused, passed, Then, stops, goes_on, comes, Refuses, refuses, Needs, holds, fails, Finds, finds, finds_none}
use Rattle.theory_checking_complete.specs.Reaching.{IsLimit, limit, is_given, is_limit, Reaches, reaches}
use Rattle.theory_checking_complete.proofs.Reached.{only, then_reaches, comes_reaches, needs_reaches, limit_reaches, finds_reaches, makes_reaches, mono_reaches}
use Rattle.theory_checking_complete.proofs.Reached.{within_reaches}
use Rattle.theory_checking_complete.proofs.Phrases.{formula_reaches, fit_reaches}
use Rattle.theory_checking_proofs.specs.Rows.{Inferred, PutsInFormula, PutsHeap, InstanceIsWithin, MonosComeTo, IsNarrowSort, ArgsComeTo}
use Rattle.theory_checking_proofs.specs.Checking.{ProofComesTo, BlockComesTo, StmtComesTo}
use Rattle.theory_checking_proofs.specs.Laws.{ProvedReaches, ProvedIsNotRefused}
use Rattle.theory_checking_proofs.proofs.Once.{proofs_come_to_one}

-- rows

meet_reaches : {Row : Result FormulaTree Stop → Type 0} {F G : FormulaTree} (at : ℕ)
    → SameFormula F G
    → Reaches (Inferred at None Row) F
    → Reaches (Inferred at (Some G) Row) G
meet_reaches at e (reaches (goes_on d comes) is_given) = reaches (goes_on d (goes_on (holds e) comes)) is_given
meet_reaches at e (reaches (stops d) (is_limit l)) = reaches (stops d) (is_limit l)
meet_reaches at e (reaches (goes_on d x) (is_limit l)) = elim x [ ]

refuses_nothing : {A : Type 0} {given : A} {rule : Rule} {at : ℕ} → Reaches (Refuses (refused rule at)) given → ⊥
refuses_nothing (reaches refuses (is_limit l)) = elim l [ ]

finds_nothing : {A B : Type 0} {found : A → Type 0} {given : B} {rule other : Rule} {at : ℕ}
    → Reaches (Then (Finds found (refused rule at)) (λ a. Refuses (refused other at))) given
    → ⊥
finds_nothing (reaches (stops (finds_none d)) (is_limit l)) = elim l [ ]
finds_nothing (reaches (goes_on d refuses) (is_limit l)) = elim l [ ]

puts_reaches : {new : TermTree} {F R : FormulaTree} → SubFormula new sk_o 0 F R → Reaches (PutsInFormula new F) R
puts_reaches d = then_reaches (makes_reaches _ d) (then_reaches (within_reaches _ _) comes_reaches)

heap_reaches : (heap : ℕ) (F : FormulaTree) → Reaches (PutsHeap heap F) (put_heap heap F)
heap_reaches heap F = then_reaches (within_reaches _ _) comes_reaches

instance_reaches : (F : FormulaTree) → Reaches (InstanceIsWithin F) F
instance_reaches F = then_reaches limit_reaches comes_reaches

monos_reach : {g : Context} {ts : List MonoTree} (at : ℕ) → FormsMonos g ts → Reaches (MonosComeTo g at ts) tt
unfolding MonosComeTo
monos_reach at forms_no_monos = comes_reaches
monos_reach at (forms_more_monos d e) = then_reaches (mono_reaches d) (monos_reach at e)

-- each sort of a list is narrow, or not
narrow_or_not : (sort : ArgSort) → IsNarrowSort sort ⊎ (IsNarrowSort sort → ⊥)
narrow_or_not heap_sort = inl tt
narrow_or_not (term_sort t) = ⊎_elim (λ l. inr (λ p. omega (arith, l, p))) (λ p. inl p) (cases_lt 64 (nodes_mono t))

all_or_not : (sorts : List ArgSort) → All IsNarrowSort sorts ⊎ (All IsNarrowSort sorts → ⊥)
all_or_not [] = inl (All-nil IsNarrowSort)
all_or_not (sort ∷ sorts) =
    ⊎_elim (λ p. ⊎_elim (λ q. inl (All-cons IsNarrowSort sort sorts p q)) (λ n. inr (λ a. n (All-tail IsNarrowSort sort sorts a))) (all_or_not sorts))
    (λ n. inr (λ a. n (All-head IsNarrowSort sort sorts a))) (narrow_or_not sort)

narrow_reaches : (sorts : List ArgSort) {which : Which} → Reaches (Needs (All IsNarrowSort sorts) (passed which)) tt
narrow_reaches sorts = ⊎_elim (λ p. reaches (holds p) is_given) (λ n. reaches (fails n) (is_limit limit)) (all_or_not sorts)

args_reach : (env : Environment) {g : Context} {args R : List ArgTree} {sorts : List ArgSort} (at : ℕ)
    → FitsArgs env g args sorts R
    → Reaches (ArgsComeTo env g at args sorts) R
unfolding ArgsComeTo
args_reach env at fits_no_args = comes_reaches
args_reach env at (fits_heap_arg i d) = then_reaches (needs_reaches i) (then_reaches (args_reach env at d) comes_reaches)
args_reach env at (fits_term_arg a d) = then_reaches (fit_reaches env at a) (then_reaches (args_reach env at d) comes_reaches)

-- a proof that infers the goal proves it
proof_meets : (env : Environment) (g : Context) (hs : List FormulaTree) (at : ℕ) (p : ProofTree) {F G : FormulaTree}
    → SameFormula F G
    → Reaches (ProofComesTo env g hs at p None) F
    → Reaches (ProofComesTo env g hs at p (Some G)) G
unfolding ProofComesTo
proof_meets env g hs at (p_hyp number) e f = meet_reaches at e f
proof_meets env g hs at (p_first p) e f = meet_reaches at e f
proof_meets env g hs at (p_second p) e f = meet_reaches at e f
proof_meets env g hs at (p_app p q) e f = meet_reaches at e f
proof_meets env g hs at (p_inst p (a_term m)) e f = meet_reaches at e f
proof_meets env g hs at (p_inst p (a_heap h)) e f = meet_reaches at e f
proof_meets env g hs at (p_axiom text monos arguments) e f = meet_reaches at e f
proof_meets env g hs at (p_lem F) e f = meet_reaches at e f
proof_meets env g hs at (p_the F p) e f = meet_reaches at e f
proof_meets env g hs at (p_unfold number zero arguments) e f = meet_reaches at e f
proof_meets env g hs at (p_unfold number (suc zero) arguments) e f = meet_reaches at e f
proof_meets env g hs at (p_unfold number (suc (suc n)) arguments) e f = absurd (finds_nothing f)
proof_meets env g hs at (p_both p q) e f = absurd (refuses_nothing f)
proof_meets env g hs at (p_left p) e f = absurd (refuses_nothing f)
proof_meets env g hs at (p_right p) e f = absurd (refuses_nothing f)
proof_meets env g hs at (p_give (a_term m) p) e f = absurd (refuses_nothing f)
proof_meets env g hs at (p_give (a_heap h) p) e f = absurd (refuses_nothing f)
proof_meets env g hs at p_trivial e f = absurd (refuses_nothing f)
proof_meets env g hs at p_refl e f = absurd (refuses_nothing f)
proof_meets env g hs at (p_absurd p) e f = absurd (refuses_nothing f)
proof_meets env g hs at (p_case p q r) e f = absurd (refuses_nothing f)
proof_meets env g hs at (p_rewrite p C q) e f = absurd (refuses_nothing f)
proof_meets env g hs at (p_induct C m p q) e f = absurd (refuses_nothing f)
proof_meets env g hs at (p_split C m p q) e f = absurd (refuses_nothing f)
proof_meets env g hs at (p_block block) e f = absurd (refuses_nothing f)
proof_meets env g hs at (p_at inner p) e f = proof_meets env g hs inner p e f

-- a block whose first statement stands at a byte of its own
abbrev BlockAt : Environment → Context → List FormulaTree → ℕ → ℕ → BlockTree → FormulaTree → Result FormulaTree Stop → Type 0
BlockAt env g hs at outer (b_end p) G = ProofComesTo env g hs at p (Some G)
BlockAt env g hs at outer (b_then stmt rest) G = StmtComesTo env g hs at stmt G (λ h us goal. BlockComesTo env h us outer rest goal)

block_from : (env : Environment) (g : Context) (hs : List FormulaTree) (at : ℕ) (block : BlockTree) (G : FormulaTree)
    → Reaches (BlockAt env g hs at at block G) G
    → Reaches (BlockComesTo env g hs at block G) G
unfolding BlockComesTo
block_from env g hs at (b_end p) G d = d
block_from env g hs at (b_then stmt rest) G d = d

module _ (env : Environment) where
  mutual
    unfolding ProofComesTo BlockComesTo StmtComesTo

    pub infer_reaches : {g : Context} {hs : List FormulaTree} {p : ProofTree} {F : FormulaTree} (at : ℕ)
        → Infers env g hs p F
        → Reaches (ProofComesTo env g hs at p None) F
    infer_reaches at (infers_hyp {F = F} d) = then_reaches (then_reaches (finds_reaches F d) comes_reaches) comes_reaches
    infer_reaches at (infers_first {A = A} {B = B} d) =
        then_reaches (then_reaches (infer_reaches at d) (then_reaches (finds_reaches (A, B) refl) comes_reaches)) comes_reaches
    infer_reaches at (infers_second {A = A} {B = B} d) =
        then_reaches (then_reaches (infer_reaches at d) (then_reaches (finds_reaches (A, B) refl) comes_reaches)) comes_reaches
    infer_reaches at (infers_app {A = A} {B = B} d a) =
        then_reaches (then_reaches (infer_reaches at d) (then_reaches (finds_reaches (A, B) refl) (then_reaches (prove_reaches at a) comes_reaches)))
        comes_reaches
    infer_reaches at (infers_inst_term {t = t} {F = F} d a s) =
        then_reaches (then_reaches (infer_reaches at d) (then_reaches (finds_reaches (t, F) refl) (then_reaches (fit_reaches env at a) (puts_reaches s))))
        comes_reaches
    infer_reaches at (infers_inst_heap {h = h} {F = F} d i) =
        then_reaches (then_reaches (infer_reaches at d) (then_reaches (finds_reaches F refl) (then_reaches (needs_reaches i) (heap_reaches h F))))
        comes_reaches
    infer_reaches at (infers_axiom c {sorts = sorts} {F = F} n ms o s k a f) =
        then_reaches (then_reaches (finds_reaches c n) (then_reaches (monos_reach at ms) (then_reaches (finds_reaches sorts o)
        (then_reaches (needs_reaches s) (then_reaches (narrow_reaches sorts) (then_reaches (then_reaches (needs_reaches k) (args_reach env at a))
        (then_reaches (makes_reaches F f) (instance_reaches F)))))))) comes_reaches
    infer_reaches at (infers_lem d) = then_reaches (then_reaches (formula_reaches env at d) comes_reaches) comes_reaches
    infer_reaches at (infers_the d a) =
        then_reaches (then_reaches (formula_reaches env at d) (then_reaches (prove_reaches at a) comes_reaches)) comes_reaches
    infer_reaches at (infers_at_zero {r = r} {h = h} {values = values} {F = F} l k a s) =
        then_reaches (then_reaches (finds_reaches r l) (then_reaches (then_reaches (needs_reaches k) (args_reach env at a))
        (then_reaches (makes_reaches (h, values) refl) (then_reaches (makes_reaches F s) (instance_reaches _))))) comes_reaches
    infer_reaches at (infers_at_next {r = r} {h = h} {m = m} {values = values} {F = F} l k a s) =
        then_reaches (then_reaches (finds_reaches r l) (then_reaches (then_reaches (needs_reaches k) (args_reach env at a))
        (then_reaches (makes_reaches (h, m, values) refl) (then_reaches (makes_reaches F s) (instance_reaches _))))) comes_reaches
    infer_reaches at (infers_at {at = inner} d) = infer_reaches inner d

    pub prove_reaches : {g : Context} {hs : List FormulaTree} {p : ProofTree} {G : FormulaTree} (at : ℕ)
        → Proves env g hs p G
        → Reaches (ProofComesTo env g hs at p (Some G)) G
    prove_reaches at (proves_both a b) = then_reaches (prove_reaches at a) (then_reaches (prove_reaches at b) comes_reaches)
    prove_reaches at (proves_left a) = then_reaches (prove_reaches at a) comes_reaches
    prove_reaches at (proves_right a) = then_reaches (prove_reaches at a) comes_reaches
    prove_reaches at (proves_give_term a s d) =
        then_reaches (fit_reaches env at a) (then_reaches (puts_reaches s) (then_reaches (prove_reaches at d) comes_reaches))
    prove_reaches at (proves_give_heap {h = h} {F = F} i d) =
        then_reaches (needs_reaches i) (then_reaches (heap_reaches h F) (then_reaches (prove_reaches at d) comes_reaches))
    prove_reaches at proves_trivial = comes_reaches
    prove_reaches at (proves_refl_term e) = then_reaches (needs_reaches e) comes_reaches
    prove_reaches at proves_refl_heap = then_reaches (needs_reaches refl) comes_reaches
    prove_reaches at (proves_absurd d) = then_reaches (prove_reaches at d) comes_reaches
    prove_reaches at (proves_case {A = A} {B = B} d a b) =
        then_reaches (infer_reaches at d) (then_reaches (finds_reaches (A, B) refl)
        (then_reaches (prove_reaches at a) (then_reaches (prove_reaches at b) comes_reaches)))
    prove_reaches at (proves_rewrite_term d c s e u a) =
        then_reaches (infer_reaches at d) (then_reaches limit_reaches (then_reaches (formula_reaches env at c) (then_reaches (puts_reaches s)
        (then_reaches (needs_reaches e) (then_reaches (puts_reaches u) (then_reaches (prove_reaches at a) comes_reaches))))))
    prove_reaches at (proves_rewrite_heap {h = h} {k = k} {C' = C'} d c e a) =
        then_reaches (infer_reaches at d) (then_reaches limit_reaches (then_reaches (formula_reaches env at c) (then_reaches (heap_reaches k C')
        (then_reaches (needs_reaches e) (then_reaches (heap_reaches h C') (then_reaches (prove_reaches at a) comes_reaches))))))
    prove_reaches at (proves_induct c v s e u a y b) =
        then_reaches limit_reaches (then_reaches (formula_reaches env at c) (then_reaches (fit_reaches env at v) (then_reaches (puts_reaches s)
        (then_reaches (needs_reaches e) (then_reaches (puts_reaches u) (then_reaches (prove_reaches at a) (then_reaches (puts_reaches y)
        (then_reaches (prove_reaches at b) comes_reaches))))))))
    prove_reaches at (proves_split c v s e u a y b) =
        then_reaches limit_reaches (then_reaches (formula_reaches env at c) (then_reaches (fit_reaches env at v) (then_reaches (puts_reaches s)
        (then_reaches (needs_reaches e) (then_reaches (puts_reaches u) (then_reaches (prove_reaches at a) (then_reaches (puts_reaches y)
        (then_reaches (prove_reaches at b) comes_reaches))))))))
    prove_reaches at (proves_inferred {g = g} {hs = hs} {p = p} d e) = proof_meets env g hs at p e (infer_reaches at d)
    prove_reaches at (proves_block {g = g} {hs = hs} {block = block} {G = G} d) = block_from env g hs at block G (block_reaches at at d)
    prove_reaches at (proves_at {at = inner} d) = prove_reaches inner d

    block_reaches : {g : Context} {hs : List FormulaTree} {block : BlockTree} {G : FormulaTree} (at outer : ℕ)
        → ProvesBlock env g hs block G
        → Reaches (BlockAt env g hs at outer block G) G
    block_reaches at outer (block_end d) = prove_reaches at d
    block_reaches at outer (block_intro {rest = rest} d) = then_reaches (block_from env _ _ outer rest _ (block_reaches outer outer d)) comes_reaches
    block_reaches at outer (block_gen_term {rest = rest} d) =
        then_reaches limit_reaches (then_reaches (block_from env _ _ outer rest _ (block_reaches outer outer d)) comes_reaches)
    block_reaches at outer (block_gen_heap {rest = rest} d) =
        then_reaches limit_reaches (then_reaches (block_from env _ _ outer rest _ (block_reaches outer outer d)) comes_reaches)
    block_reaches at outer (block_have {rest = rest} f a d) =
        then_reaches (formula_reaches env at f) (then_reaches (prove_reaches at a) (block_from env _ _ outer rest _ (block_reaches outer outer d)))
    block_reaches at outer (block_open_term {rest = rest} a d) =
        then_reaches (infer_reaches at a) (then_reaches limit_reaches
        (then_reaches (block_from env _ _ outer rest _ (block_reaches outer outer d)) comes_reaches))
    block_reaches at outer (block_open_heap {rest = rest} a d) =
        then_reaches (infer_reaches at a) (then_reaches limit_reaches
        (then_reaches (block_from env _ _ outer rest _ (block_reaches outer outer d)) comes_reaches))
    block_reaches at outer (block_at {at = inner} d) = block_reaches inner outer d

pub proved_reaches : ProvedReaches
proved_reaches = record {
  inferred = λ env g hs at p F d. infer_reaches env at d;
  proved = λ env g hs at p G d. prove_reaches env at d;
}

pub proved_is_not_refused : ProvedIsNotRefused
proved_is_not_refused = record {
  inferred = λ env g hs at p F r d. only (proofs_come_to_one env g hs at p None) (infer_reaches env at d) r;
  proved = λ env g hs at p G r d. only (proofs_come_to_one env g hs at p (Some G)) (prove_reaches env at d) r;
}
