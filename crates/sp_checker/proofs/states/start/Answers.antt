use Rattle.theory_states.specs.States.{start}
use Rattle.htt_syntax.specs.Levels.{formula_same}
use Rattle.sp_checker.proofs.states.start.Goals as goal

pub returns : goal.returns
unfolding start
returns c = record { state = c.and.ensures.made _ _ c.needed_at.ensures.there (formula_same 0 1) }
