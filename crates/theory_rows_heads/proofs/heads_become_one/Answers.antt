use Rattle.theory_rows_heads.proofs.Heads.{head_once, head_is_term, term_has_head}
use Rattle.theory_rows_heads.proofs.heads_become_one.Goals as goal

pub returns : goal.returns
returns c =
    record {
      one = λ new s x term r q k l a b. head_once a b;
      terms = λ new s x term r k a. head_is_term a;
      heads = λ new s x term r e a. term_has_head e a;
    }
