use Rattle.std.proofs.Common.{refl}
use Rattle.std.specs.Fmt.{digits}
use Rattle.heap_model.proofs.laws.worked_examples.Goals as goal

pub returns : goal.returns
unfolding digits
returns c = record {
  examples = record { number = refl; truth = refl; unit = refl; place = refl; null_in_pair = refl; pairs = refl };
}
