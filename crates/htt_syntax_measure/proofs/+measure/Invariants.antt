use Rattle.std.proofs.Common.{◌≡◌, ℕ, ◌+◌, ◌<◌, ◌≤◌, ◌^◌, drop, length}
use Rattle.htt_syntax.specs.Trees.{TermTree, FixTree}
use Rattle.htt_syntax.specs.Levels.{term_trees, params_tree, steps_tree}
use Rattle.htt_syntax_walk.specs.Walk.{Puts, walk_terms, walk_fix, walk_comp}
use Rattle.theory_saturation.specs.Saturation.{saturated}
use Rattle.htt_syntax_measure.specs.Measures.{beside, terms_measure, fix_measure, comp_measure}
use Rattle.htt_syntax_measure.proofs.+measure.Given as goal

-- what was measured, beside what is left
abbrev pub invariant-terms::measure_terms-loop-term : goal.invariant-terms::measure_terms-loop-term
invariant-terms::measure_terms-loop-term g l =
    ((p : Puts) (d : ℕ)
    → g.S.Sizes.measures l.sizes p
    → l.depth ≡ saturated d
    → terms_measure (walk_terms p d (term_trees l.terms))
    ≡ beside l.total (terms_measure (walk_terms p d (term_trees (drop l.term-index l.terms)))))
    × (l.total.nodes < 2 ^ 64)

abbrev pub invariant-computations::measure_params-loop-param : goal.invariant-computations::measure_params-loop-param
invariant-computations::measure_params-loop-param g l =
    ((p : Puts) (d : ℕ)
    → g.S.Sizes.measures l.sizes p
    → l.depth ≡ saturated d
    → (rest : FixTree)
    → fix_measure (walk_fix p d (params_tree l.params rest))
    ≡ beside l.total (fix_measure (walk_fix p (d + l.param-index) (params_tree (drop l.param-index l.params) rest))))
    × (((d : ℕ) → l.depth ≡ saturated d → l.inner ≡ saturated (d + l.param-index)) × (l.param-index ≤ length l.params))

abbrev pub invariant-computations::measure_steps-loop-step : goal.invariant-computations::measure_steps-loop-step
invariant-computations::measure_steps-loop-step g l =
    ((p : Puts) (d : ℕ)
    → g.S.Sizes.measures l.sizes p
    → l.depth ≡ saturated d
    → (end : TermTree)
    → comp_measure (walk_comp p d (steps_tree l.steps end))
    ≡ beside l.total (comp_measure (walk_comp p (d + l.step-index) (steps_tree (drop l.step-index l.steps) end))))
    × (((d : ℕ) → l.depth ≡ saturated d → l.inner ≡ saturated (d + l.step-index)) × (l.step-index ≤ length l.steps))
