-- Each printed lexeme is one token.
use Rattle.std.specs.Prelude.{decimal}
use Rattle.theory_printing_lexemes.specs.Laws.{LexemesAreTokens}
use Rattle.theory_printing_lexemes.proofs.Words.{name_token, plain_utf8}
use Rattle.theory_printing_lexemes.proofs.Keywords.{keyword_token, keyword_utf8}
use Rattle.theory_printing_lexemes.proofs.Numbers.{number_token, decimal_plain, entry_name, hypothesis_is_name}
use Rattle.theory_printing_lexemes.proofs.Signs.{sign_token, sign_utf8}

pub lexemes : LexemesAreTokens
lexemes = record {
  words = keyword_token;
  signs = sign_token;
  numbers = number_token;
  names = name_token;
  utf8_words = keyword_utf8;
  utf8_signs = sign_utf8;
  utf8_numbers = λ n. plain_utf8 (decimal n) (decimal_plain n);
  entries = entry_name;
  hypotheses = hypothesis_is_name;
}
