use Rattle.std.specs.Char.{is_ascii_digit}
use Rattle.htt_lexer.proofs.Runs.{take_while-passes}
use Rattle.htt_lexer.proofs.pieces.number_piece.Goals as goal

pub number_of-requires : goal.number_of-requires
number_of-requires c = take_while-passes is_ascii_digit c.args.text.now _ c.digits_length-length.ensures
