use Rattle.std.proofs.Common.{refl}
use Rattle.theory_substitution.specs.Substitution.{k_var, r_var}
use Rattle.theory_rows_heads.specs.Heads.{stays, gives}
use Rattle.theory_rows_heads.proofs.Heads.{fixed_head_stays}
use Rattle.theory_rows_heads.proofs.heads_without_arguments.Goals as goal

pub returns : goal.returns
returns c =
    record {
      gives = λ new s x. gives (r_var refl);
      stays = λ new s x index e. stays (k_var e);
      fixed = λ new s x term r e a. fixed_head_stays term e a;
    }
