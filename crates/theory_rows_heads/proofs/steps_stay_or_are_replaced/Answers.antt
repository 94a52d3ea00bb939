use Rattle.theory_substitution.specs.Substitution.{u_step}
use Rattle.theory_rows_heads.proofs.Steps.{run_has_parts, run_stays, run_gives, run_is_spliced, step_has_parts}
use Rattle.theory_rows_heads.proofs.steps_stay_or_are_replaced.Goals as goal

pub returns : goal.returns
returns c =
    record {
      parts = λ new s x term mono others r h. run_has_parts h;
      stays = λ new s x term head mono h. run_stays h;
      gives = λ new s x term mono comp others rest r h p b. run_gives h p b;
      spliced = λ new s left x term head mono others rest r h m q. run_is_spliced h m q;
      step = λ new s x step others r e h. step_has_parts e h;
      before = λ new s x step first others rest a p. u_step a p;
    }
