-- A text has one list of tokens, or one cause for which it is refused, and not both.
use Rattle.std.proofs.Common.{◌≡◌, ℕ, ◌^◌, ◌<◌, ◌≤◌, List, [], ◌∷◌, ◌++◌, length, refl, sym, ◌∙◌, ap, subst, arith}
use Rattle.std.specs.Prelude.{IsUtf8}
use Rattle.std.specs.Str.{IsValidUpTo}
use Rattle.std.specs.Str.Parse.{digits_value}
use Rattle.std.proofs.Math.Seq.{take-length}
use Rattle.std.proofs.lemmas.List.{length-append}
use Rattle.std.proofs.lemmas.Str.{utf8_valid_len-IsValidUpTo}
use Rattle.htt_lexer.specs.declared.lexer.LexStop.{LexStop}
use Rattle.htt_lexer.specs.declared.lexer.LexStop.TheVariants.{NotUtf8, BadChar, LiteralTooLarge, NoMemory}
use Rattle.htt_lexer.specs.Tokens.{Reads, here, gap, token, AreTokens}
use Rattle.htt_lexer.specs.Pieces.{piece_of}
use Rattle.htt_lexer.specs.Refusals.{BeginsTooLarge, BeginsNothing, RefusesText}
use Rattle.htt_lexer.specs.Laws.{IsCause, TokenLaws}
use Rattle.htt_lexer.proofs.Cutting.{Tokens, past_gap, past_token}
use Rattle.htt_lexer.proofs.Fronts.{gap_piece, gap_some, token_piece, token_some, large_piece}
use Rattle.htt_lexer.proofs.Sameness.{IsFinal, same_read}
use Rattle.htt_lexer.proofs.Spans.{in_order}
use Rattle.htt_lexer.proofs.Totality.{some_answer}

-- ---- where a reading can't go on

final_end : IsFinal []
final_end = record {
  no_gap = λ piece rest e is. omega (arith, gap_some is, ap length e, length-append piece rest);
  no_token = λ piece rest kind e is. omega (arith, token_some is, ap length e, length-append piece rest);
}

final_nothing : (text : List ℕ) → BeginsNothing text → IsFinal text
final_nothing text h = record { no_gap = h.no_gap; no_token = h.no_token }

final_large : (text : List ℕ) → IsUtf8 text → BeginsTooLarge text → IsFinal text
final_large text u h = record {
  no_gap = λ piece rest e is. let told = large_piece text h in let other = gap_piece is in let same = ap piece_of e in cc;
  no_token = λ piece rest kind e is. let told = large_piece text h in let other = token_piece (subst IsUtf8 e u) is in let same = ap piece_of e in cc;
}

-- ---- what is left of a UTF-8 text is UTF-8

left_utf8 : {at to : ℕ} {text left : List ℕ} {ts : Tokens} → Reads at text ts to left → IsUtf8 text → IsUtf8 left
left_utf8 here u = u
left_utf8 (gap is reads) u = left_utf8 reads (past_gap is u)
left_utf8 (token is reads) u = left_utf8 reads (past_token is u)

-- ---- two answers to one text

large_some : (text digits rest : List ℕ) → text ≡ digits ++ rest → 2 ^ 64 ≤ digits_value 10 digits → 0 < length text
large_some text [] rest whole large = absurd (omega (arith, large))
large_some text (b ∷ run) rest whole large = omega (arith, ap length whole)

some_digits : (text : List ℕ) → BeginsTooLarge text → 0 < length text
some_digits text h = large_some text h.digits h.rest h.whole h.large

-- a reading to the end and one that stops before it
not_both : (text : List ℕ) (ts us : Tokens) (end at : ℕ) (left : List ℕ)
    → IsUtf8 text
    → Reads 0 text ts end []
    → Reads 0 text us at left
    → IsFinal left
    → 0 < length left
    → ⊥
not_both text ts us end at left u whole part final some =
    let same = same_read u whole final_end us at left part final in
    omega (arith, ap length same.text, some)

utf8_or_not : (text : List ℕ) (at : ℕ) → IsUtf8 text → IsValidUpTo text at → ⊥
utf8_or_not text at u h = h.longest (length text) h.short (subst IsUtf8 (sym (take-length text)) u)

no_refusal : (text : List ℕ) (ts : Tokens) (stop : LexStop) → IsCause stop → AreTokens text ts → RefusesText text stop → ⊥
no_refusal text ts (NotUtf8 at) cause are refuses = utf8_or_not text at are.utf8 refuses
no_refusal text ts (BadChar at) cause are refuses =
    let stops = refuses.1 in
    not_both text ts stops.tokens (length text) at stops.left are.utf8 are.reads stops.reads (final_nothing stops.left stops.fault) stops.fault.some
no_refusal text ts (LiteralTooLarge at) cause are refuses =
    let stops = refuses.1 in
    not_both text ts stops.tokens (length text) at stops.left are.utf8 are.reads stops.reads
    (final_large stops.left (left_utf8 stops.reads are.utf8) stops.fault) (some_digits stops.left stops.fault)
no_refusal text ts NoMemory cause are refuses = cause

one_length : (text : List ℕ) (at to : ℕ) → IsValidUpTo text at → IsValidUpTo text to → at ≡ to
one_length text at to h k = sym (utf8_valid_len-IsValidUpTo text at h) ∙ utf8_valid_len-IsValidUpTo text to k

one_refusal : (text : List ℕ) (stop other : LexStop) → IsCause stop → IsCause other → RefusesText text stop → RefusesText text other → stop ≡ other
one_refusal text (NotUtf8 at) (NotUtf8 to) c d h k = ap NotUtf8 (one_length text at to h k)
one_refusal text (NotUtf8 at) (BadChar to) c d h k = absurd (utf8_or_not text at k.0 h)
one_refusal text (NotUtf8 at) (LiteralTooLarge to) c d h k = absurd (utf8_or_not text at k.0 h)
one_refusal text (NotUtf8 at) NoMemory c d h k = absurd d
one_refusal text (BadChar at) (NotUtf8 to) c d h k = absurd (utf8_or_not text to h.0 k)
one_refusal text (BadChar at) (BadChar to) c d h k =
    let same = same_read h.0 h.1.reads (final_nothing h.1.left h.1.fault) k.1.tokens to k.1.left k.1.reads (final_nothing k.1.left k.1.fault) in
    ap BadChar same.place
one_refusal text (BadChar at) (LiteralTooLarge to) c d h k =
    let same =
    same_read h.0 h.1.reads (final_nothing h.1.left h.1.fault) k.1.tokens to k.1.left k.1.reads
    (final_large k.1.left (left_utf8 k.1.reads h.0) k.1.fault) in
    absurd (h.1.fault.no_number (subst BeginsTooLarge (sym same.text) k.1.fault))
one_refusal text (BadChar at) NoMemory c d h k = absurd d
one_refusal text (LiteralTooLarge at) (NotUtf8 to) c d h k = absurd (utf8_or_not text to h.0 k)
one_refusal text (LiteralTooLarge at) (BadChar to) c d h k =
    let same =
    same_read h.0 h.1.reads (final_large h.1.left (left_utf8 h.1.reads h.0) h.1.fault) k.1.tokens to k.1.left k.1.reads
    (final_nothing k.1.left k.1.fault) in
    absurd (k.1.fault.no_number (subst BeginsTooLarge same.text h.1.fault))
one_refusal text (LiteralTooLarge at) (LiteralTooLarge to) c d h k =
    let same =
    same_read h.0 h.1.reads (final_large h.1.left (left_utf8 h.1.reads h.0) h.1.fault) k.1.tokens to k.1.left k.1.reads
    (final_large k.1.left (left_utf8 k.1.reads h.0) k.1.fault) in
    ap LiteralTooLarge same.place
one_refusal text (LiteralTooLarge at) NoMemory c d h k = absurd d
one_refusal text NoMemory other c d h k = absurd c

pub laws : TokenLaws
laws = record {
  some_answer = some_answer;
  one_list = λ text ts us one other. (same_read one.utf8 one.reads final_end us (length text) [] other.reads final_end).tokens;
  one_answer = no_refusal;
  one_refusal = one_refusal;
  in_order = λ text ts are. in_order text are.reads (omega arith) refl;
}
