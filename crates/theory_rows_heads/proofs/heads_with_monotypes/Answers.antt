use Rattle.theory_rows_heads.proofs.Heads.{instance_has_head, instance_stays, instance_gives, instance_is_redex}
use Rattle.theory_rows_heads.proofs.heads_with_monotypes.Goals as goal

pub returns : goal.returns
returns c =
    record {
      parts = λ new s x f r mono k h. instance_has_head h;
      stays = λ new s x f g mono h. instance_stays h;
      gives = λ new s left x f body mono h. instance_gives h;
      redex = λ new s left x f g r mono k h m. instance_is_redex h m;
    }
