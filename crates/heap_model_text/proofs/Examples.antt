-- The texts that were worked out by hand.
use Rattle.std.proofs.Common.{refl}
use Rattle.std.specs.Fmt.{digits}
use Rattle.heap_model_text.specs.Examples.{WorkedExamples}

pub worked_examples : WorkedExamples
unfolding digits
worked_examples = record {
  no_block = refl;
  empty_block = refl;
  three_words = refl;
  two_lines = refl;
  first_of_two = refl;
  both_of_two = refl;
  an_empty_line = refl;
}
