use Rattle.std.proofs.Common.{refl}
use Rattle.theory_text_sugar.specs.Putting.{putting}
use Rattle.htt_resolve_sugar.proofs.measure.body_size.Goals as goal

pub returns : goal.returns
returns c = record { measured = λ put sizes. c.measure_formula.ensures.sized (putting put) 0 (put, sizes, refl) refl }
