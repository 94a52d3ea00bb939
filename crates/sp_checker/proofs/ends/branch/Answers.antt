use Rattle.theory_states.specs.States.{branch}
use Rattle.htt_syntax.specs.Levels.{mono_bool, term_bool}
use Rattle.sp_checker.proofs.ends.branch.Goals as goal

pub returns : goal.returns
unfolding branch
returns c =
    let is = c.equal-is.ensures.made _ _ _ mono_bool c.term_past.ensures.past (term_bool c.args.side) in
    record { state = c.and.ensures.made _ _ c.copy_formula.ensures.same_tree is }
