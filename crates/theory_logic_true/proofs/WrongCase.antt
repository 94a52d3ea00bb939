-- The wrong case distinction proves what is false: from `ff \/ [ff => ff]`.
use Rattle.std.proofs.Common.{refl}
use Rattle.htt_syntax.specs.Trees.{f_ff, f_imp, p_hyp, p_lem}
use Rattle.theory_truth.specs.Worlds.{World}
use Rattle.theory_truth.specs.Truth.{Recs, Holds}
use Rattle.theory_truth.specs.Predicates.{recs_of}
use Rattle.theory_typing.specs.Typing.{forms_ff}
use Rattle.theory_logic_rules.specs.Rules.{infers_hyp, infers_lem, proves_inferred}
use Rattle.theory_logic_true.specs.WrongCase.{BranchesNeedTheirOwn}

never : (R : Recs) (w : World) → Holds R w f_ff → ⊥
unfolding Holds
never R w h = h

pub wrong : BranchesNeedTheirOwn
wrong env g = record {
  alternatives = p_lem f_ff;
  first_branch = p_hyp 0;
  second_branch = p_hyp 0;
  left = f_ff;
  right = f_imp f_ff f_ff;
  premises = record {
    alternatives = infers_lem forms_ff;
    first_branch = proves_inferred (infers_hyp refl) refl;
    second_branch = proves_inferred (infers_hyp refl) refl;
  };
  never_true = never (recs_of env.recs);
}
