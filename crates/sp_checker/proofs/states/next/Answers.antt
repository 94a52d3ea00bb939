use Rattle.std.proofs.Common.{sym, subst}
use Rattle.htt_syntax.specs.Views.{formula_tree}
use Rattle.theory_states.specs.States.{after}
use Rattle.sp_checker.specs.declared.moves.Move.{Move}
use Rattle.sp_checker.specs.Made.{Makes}
use Rattle.sp_checker.specs.Moves.{move_tree}
use Rattle.sp_checker.proofs.states.next.Goals as goal

pub returns-in-Claim : goal.returns-in-Claim
unfolding after
returns-in-Claim c =
    record {
      state = subst (λ (s : Move). Makes c.state_at.result (after (move_tree s) (formula_tree c.args.state.now))) (sym c.in-Claim.is)
          c.state_at.ensures.there;
    }
