use Rattle.theory_rows_heads.proofs.Heads.{application_has_parts, application_stays, application_gives, application_is_redex}
use Rattle.theory_rows_heads.proofs.heads_with_arguments.Goals as goal

pub returns : goal.returns
returns c =
    record {
      parts = λ new s x f a r k h. application_has_parts h;
      stays = λ new s x f a g b h p. application_stays h p;
      gives = λ new s left right x f a body b r h p q. application_gives h p q;
      redex = λ new s left x f a g b r k h m q. application_is_redex h m q;
    }
