use Rattle.htt_lexer.proofs.Words.{word_length_within}
use Rattle.htt_lexer.proofs.pieces.word_piece.Goals as goal

pub slice_bounds-word_kind-end : goal.slice_bounds-word_kind-end
slice_bounds-word_kind-end c =
    word_length_within c.args.text.now c.as_bytes.result.now c.word_length-length.result c.utf8.text c.as_bytes.ensures.value
    c.word_length-length.ensures
