use Rattle.std.proofs.Common.{refl}
use Rattle.word_loader_format.specs.Numbers.{little_endian, number_written, number_in_file}
use Rattle.word_loader_format.specs.Rows.{headers_at, headers_tests, numbers_at, operands_tests, instr_tests, after_instr, after_body, body_tests, bodies_tests}
use Rattle.word_loader_format.specs.Rows.{after_bodies, file_tests}
use Rattle.word_loader_format.proofs.laws.worked_files.Goals as goal

pub returns : goal.returns
unfolding little_endian number_written number_in_file headers_at headers_tests numbers_at operands_tests instr_tests after_instr after_body
    body_tests bodies_tests after_bodies file_tests
returns c = record {
  examples = record {
    five_layout = refl;
    seven_layout = refl;
    old_tail = refl;
    cut_magic = refl;
    other_magic = refl;
    cut_target = refl;
    far_target = refl;
    byte_after = refl;
    last_stays = refl;
    early_place = refl;
    waiting_place = refl;
    whole_place = refl;
    unlike_places = refl;
  };
}
