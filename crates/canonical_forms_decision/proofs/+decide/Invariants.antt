use Rattle.std.proofs.Common.{◌≡◌, ◌&&◌, drop}
use Rattle.htt_syntax.specs.Trees.{x_body}
use Rattle.htt_syntax.specs.Views.{term_tree}
use Rattle.htt_syntax.specs.Levels.{term_trees, params_tree, steps_tree, triple_tree, comp_tree}
use Rattle.theory_denotation.specs.Denotation.{fix_skeleton}
use Rattle.theory_canonical_decided.specs.Decision.{terms_are_canonical, fix_is_canonical, comp_is_canonical}
use Rattle.canonical_forms_skeletons.specs.Views.{skeleton_tree}
use Rattle.canonical_forms_decision.specs.Views.{context_tree, heads_tree}
use Rattle.canonical_forms_decision.proofs.+decide.Given as goal

-- what was found, beside what is left
abbrev pub invariant-terms::values_at-loop-term : goal.invariant-terms::values_at-loop-term
invariant-terms::values_at-loop-term l =
    terms_are_canonical (heads_tree l.context) (context_tree l.context) (term_trees l.terms)
    ≡ (l.all && terms_are_canonical (heads_tree l.context) (context_tree l.context) (term_trees (drop l.term-index l.terms)))

abbrev pub invariant-computations::comp_at-loop-step : goal.invariant-computations::comp_at-loop-step
invariant-computations::comp_at-loop-step l =
    (comp_is_canonical (heads_tree l.context) (context_tree l.context) (steps_tree l.comp.steps (term_tree l.comp.result))
    ≡ (l.all && comp_is_canonical (heads_tree l.context) (context_tree l.inner) (steps_tree (drop l.step-index l.comp.steps) (term_tree l.comp.result))))
    × (heads_tree l.inner ≡ heads_tree l.context)

abbrev pub invariant-computations::fix_at-loop-param : goal.invariant-computations::fix_at-loop-param
invariant-computations::fix_at-loop-param l =
    (fix_is_canonical (heads_tree l.context) (context_tree l.context) (skeleton_tree l.whole)
    (params_tree l.fix.params (x_body (triple_tree l.fix.triple) (comp_tree l.fix.body)))
    ≡ (l.all
    && fix_is_canonical (heads_tree l.context) (context_tree l.inner) (skeleton_tree l.whole)
    (params_tree (drop l.param-index l.fix.params) (x_body (triple_tree l.fix.triple) (comp_tree l.fix.body)))))
    × (heads_tree l.inner ≡ heads_tree l.context)
    × (skeleton_tree l.left
    ≡ fix_skeleton (params_tree (drop l.param-index l.fix.params) (x_body (triple_tree l.fix.triple) (comp_tree l.fix.body))))
