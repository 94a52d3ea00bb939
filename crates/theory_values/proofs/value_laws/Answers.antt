use Rattle.theory_values.proofs.Encoding.{typed_is_closed, closed_has_value, encoding_is_as_wide, encoding_is_words, encodings_split, encoding_tells}
use Rattle.theory_values.proofs.Decoding.{decodes, encoding_is_decoded}
use Rattle.theory_values.proofs.Operations.{op_is_typed}
use Rattle.theory_values.proofs.value_laws.Goals as goal

pub returns : goal.returns
returns c = record {
  laws = record {
    typed_is_closed = typed_is_closed;
    closed_has_value = closed_has_value;
    encoding_is_as_wide = encoding_is_as_wide;
    encoding_is_words = encoding_is_words;
    encodings_split = encodings_split;
    encoding_tells = encoding_tells;
    decoded_is_typed = λ t words v e. (decodes t words v e).typed;
    decoded_is_encoded = λ t words v e. (decodes t words v e).encoded;
    encoding_is_decoded = encoding_is_decoded;
    op_is_typed = op_is_typed;
  };
}
