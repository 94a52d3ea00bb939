use Rattle.std.proofs.Common.{◌≡◌, ◌+◌, take, map}
use Rattle.htt_syntax.specs.Views.{term_tree, ty_tree, step_tree}
use Rattle.htt_syntax_walk.specs.Walk.{walk_term, walk_ty, walk_step}
use Rattle.htt_syntax_walk.specs.Rising.{rising}
use Rattle.htt_syntax_walk.proofs.+walk.Given as goal

abbrev pub invariant-terms::walk_terms-loop-term : goal.invariant-terms::walk_terms-loop-term
invariant-terms::walk_terms-loop-term g l =
    map term_tree l.walked.items ≡ map (λ x. walk_term (g.A.Action.puts l.action) l.depth (term_tree x)) (take l.term-index l.terms)

abbrev pub invariant-computations::walk_params-loop-param : goal.invariant-computations::walk_params-loop-param
invariant-computations::walk_params-loop-param g l =
    (map ty_tree l.walked.items ≡ rising (walk_ty (g.A.Action.puts l.action)) l.depth (map ty_tree (take l.param-index l.params)))
    × (l.inner ≡ l.depth + l.param-index)

abbrev pub invariant-computations::walk_steps-loop-step : goal.invariant-computations::walk_steps-loop-step
invariant-computations::walk_steps-loop-step g l =
    (map step_tree l.walked.items ≡ rising (walk_step (g.A.Action.puts l.action)) l.depth (map step_tree (take l.step-index l.steps)))
    × (l.inner ≡ l.depth + l.step-index)
