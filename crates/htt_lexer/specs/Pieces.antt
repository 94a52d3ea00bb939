-- What stands at the front of a text, told by its first bytes: the step by which the tokens are read.
use Rattle.std.specs.Prelude.{ℕ, ◌+◌, ◌^◌, List, [], ◌∷◌, length, take, Bool, false, ◌&&◌, ◌==◌, Option, Some, None}
use Rattle.std.specs.Prelude.{if◌then◌else◌, nat_lt}
use denote.Ref.{Bor}
use Rattle.std.specs.List.{prefix_len, take_while}
use Rattle.std.specs.Option.{option_map, option_or, unwrap_or}
use Rattle.std.specs.Char.{is_ascii_digit}
use Rattle.std.specs.Str.{byte, chars, encode_utf8_all}
use Rattle.std.specs.Str.Parse.{digits_value}
use Rattle.unicode_ident.specs.Ident.{is_xid_continue}
use Rattle.htt_lexer_tokens.specs.declared.tokens.Kind.TheVariants as kinds
use Rattle.htt_lexer.specs.declared.pieces.Piece.{Piece}
use Rattle.htt_lexer.specs.declared.pieces.Piece.TheVariants.{End, Gap, Token, NoToken, TooLarge}
use Rattle.htt_lexer.specs.Tables.{lookup, sign_table}
use Rattle.htt_lexer.specs.Tokens.{is_blank, is_comment, begins_word, word_kind}

-- a row of the code's tables as one of the language's
abbrev pub spelled : {A : Type 0} → Bor (List ℕ) × A → List ℕ × A
spelled row = (row.0.now, row.1)

-- a number that is below 2 ^ 64
abbrev pub limited : ℕ → Option ℕ
limited n = if nat_lt n (2 ^ 64) then Some n else None

-- the number that the digits write, if it is below 2 ^ 64
abbrev pub number_of : List ℕ → Option ℕ
number_of digits = limited (digits_value 10 digits)

abbrev pub piece_of_number : Option ℕ → ℕ → Piece
piece_of_number None length = TooLarge
piece_of_number (Some number) length = Token (kinds.Number number) length

abbrev pub number_piece : List ℕ → Piece
number_piece text = piece_of_number (number_of (take_while is_ascii_digit text)) (prefix_len is_ascii_digit text)

-- of the characters of a text: whether a word begins them, and the bytes of those with which it goes on
abbrev pub starts_word : List ℕ → Bool
starts_word [] = false
starts_word (c ∷ cs) = begins_word c

abbrev pub word_length : List ℕ → ℕ
word_length cs = length (encode_utf8_all (take_while is_xid_continue cs))

abbrev pub word_piece : List ℕ → Piece
word_piece text = Token (word_kind (take (word_length (chars text)) text)) (word_length (chars text))

-- the sign that the first bytes spell, up to so many
abbrev pub sign_within : ℕ → List ℕ → Option Piece
sign_within most text =
    option_map (λ s. Token (kinds.Sign s) (length (take most text))) (lookup sign_table (take most text))

abbrev pub sign_piece : List ℕ → Piece
sign_piece text =
    unwrap_or (option_or (sign_within 3 text) (option_or (sign_within 2 text) (sign_within 1 text))) NoToken

abbrev pub begins : ℕ → List ℕ → Bool
begins b [] = false
begins b (c ∷ bytes) = c == b

abbrev pub begins_comment : ℕ → List ℕ → Bool
begins_comment b bytes = b == byte "-" && begins (byte "-") bytes

abbrev pub comment_piece : List ℕ → Piece
comment_piece [] = End
comment_piece (b ∷ bytes) = Gap (2 + prefix_len is_comment bytes)

abbrev pub piece_of : List ℕ → Piece
piece_of [] = End
piece_of (b ∷ bytes) =
    if begins_comment b bytes then comment_piece bytes
    else (if is_blank b then Gap 1
    else (if is_ascii_digit b then number_piece (b ∷ bytes)
    else (if starts_word (chars (b ∷ bytes)) then word_piece (b ∷ bytes)
    else sign_piece (b ∷ bytes))))
