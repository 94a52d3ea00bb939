-- The worked file is one to which the headline applies.
use Rattle.std.proofs.Common.{inr, refl}
use Rattle.word_loader_code.specs.Machine.{step, after_steps}
use Rattle.theory_file_derived.proofs.Worked as file
use Rattle.theory_extraction_valid.proofs.Worked.{sum_checked, sum_has_code}
use Rattle.theory_extraction_sound.specs.Examples.{WorkedHeadline}

pub worked : WorkedHeadline
unfolding step after_steps
worked = record {
  derived = file.worked.derived;
  has_code = sum_has_code;
  main = refl;
  checked = sum_checked;
  starts_empty = inr refl;
  halts = λ h choices. refl;
}
