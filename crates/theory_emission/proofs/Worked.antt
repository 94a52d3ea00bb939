-- The worked examples compute.
use Rattle.std.proofs.Common.{refl}
use Rattle.word_loader_format.specs.Numbers.{little_endian}
use Rattle.theory_emission.specs.Terms.{emit_term, emit_terms}
use Rattle.theory_emission.specs.Bodies.{emit_flat}
use Rattle.theory_emission.specs.Examples.{WorkedCode, WorkedBytes}

pub codes : WorkedCode
unfolding emit_term emit_terms emit_flat
codes = record {
  cell_code = refl;
  blocks_code = refl;
  unit_code = refl;
  dup_code = refl;
  dup_count = refl;
  rep_code = refl;
  pick_code = refl;
  parts_code = refl;
  tail_count = refl;
  call_count = refl;
  seven_code_of_one = refl;
  branches_end = refl;
  branches_join = refl;
  none_refused = refl;
  longest = refl;
  one_longer = refl;
  locals_come_first = refl;
  widest = refl;
}

pub bytes : WorkedBytes
unfolding emit_term emit_terms emit_flat little_endian
bytes = record { sum_bytes = refl; sum_bytes_of_two = refl; cell_bytes = refl; seven_bytes = refl }
