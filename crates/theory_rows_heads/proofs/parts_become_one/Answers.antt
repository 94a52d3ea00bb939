use Rattle.theory_rows_heads.proofs.Parts.{part_once, kind_stays}
use Rattle.theory_rows_heads.proofs.parts_become_one.Goals as goal

pub returns : goal.returns
returns c = record { one = λ new s x old p q a b. part_once a b; kind = λ new s x old p a. kind_stays a }
