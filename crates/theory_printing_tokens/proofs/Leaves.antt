-- What is printed of the smallest parts is read as it was printed.
use Rattle.std.proofs.Common.{◌≡◌, ℕ, zero, suc, ◌+◌, ◌<◌, ◌≤◌, ◌^◌, List, [], ◌∷◌, ◌++◌, length, take, Bool, true, false, cond, refl}
use Rattle.std.proofs.Common.{arith}
use Rattle.std.specs.Prelude.{decimal, Option, Some, None, slice_get}
use Rattle.htt_lexer_tokens.specs.declared.tokens.Keyword.{Keyword}
use Rattle.htt_lexer_tokens.specs.declared.tokens.Keyword.TheVariants.{InitWord, MemWord, NullWord, PlaceWord}
use Rattle.htt_lexer_tokens.specs.declared.tokens.Sign.{Sign}
use Rattle.htt_lexer_tokens.specs.declared.tokens.Sign.TheVariants.{CaretSign, CommaSign, SemicolonSign, OpenParenSign, CloseParenSign, OpenBracketSign}
use Rattle.htt_lexer_tokens.specs.declared.tokens.Sign.TheVariants.{CloseBracketSign}
use Rattle.htt_lexer_tokens.specs.declared.tokens.Kind.TheVariants as kinds
use Rattle.htt_syntax.specs.declared.mono.Op.{Op}
use Rattle.htt_syntax.specs.declared.mono.Op.TheVariants.{Add, Sub, Mul, And, Or, Xor, Shl, Shr, Lt}
use Rattle.theory_text_names.specs.Scopes.{Sort, a_mono, a_term, a_heap, a_term_or_heap, the_init, the_mem, a_hypothesis}
use Rattle.theory_text_names.specs.Uses.{is_init, is_mem}
use Rattle.theory_printing.specs.Spellings.{word_spelling, sign_spelling}
use Rattle.theory_printing.specs.Pieces.{Printed, one, ◌▹◌, deeper, operand, a_word, a_sign, a_number, a_name, bytes_of, between, comma}
use Rattle.theory_printing.specs.Pieces.{semicolon}
use Rattle.theory_printing.specs.Pieces.{in_parens, in_brackets}
use Rattle.theory_printing.specs.Names.{PrintScope, name_at, new_name, hypothesis_name, count_of, past, entry_of_sort, entry, name_or_blank}
use Rattle.theory_printing.specs.Phrases.{op_sign, right_of, literal_place}
use Rattle.theory_printing_conditions.specs.Conditions.{IsName, HasName, IsMonoEntry, IsTermEntry, IsHeapEntry, StandsForMono, StandsForTerm, StandsForHeap}
use Rattle.theory_printing_tokens.proofs.Lexing.{Lexes, in_turn, deep, numbered, lex_nothing, lex_space, one_token, its_bytes}
use Rattle.theory_printing_lexemes.specs.Follows.{ends, sign_ends}
use Rattle.theory_printing_lexemes.proofs.Lexemes.{lexemes}

-- a piece before whatever may follow it
abbrev pub LexesPhrase : Printed → Type 0
LexesPhrase p = (rest : List ℕ) → ends rest ≡ true → Lexes p rest

pub phrase_then : {p q : Printed} {rest : List ℕ} → LexesPhrase p → ends (bytes_of q ++ rest) ≡ true → Lexes q rest → Lexes (p ▹ q) rest
phrase_then {p} {q} {rest} hp e hq = in_turn (hp (bytes_of q ++ rest) e) hq

pub deep_phrase : {p : Printed} → LexesPhrase p → LexesPhrase (deeper p)
deep_phrase h rest e = deep (h rest e)

pub numbered_phrase : {n : ℕ} {p : Printed} → LexesPhrase p → LexesPhrase (operand n p)
numbered_phrase h rest e = numbered (h rest e)

-- ---- tokens

pub lex_word : (w : Keyword) → LexesPhrase (one (a_word w))
unfolding bytes_of
lex_word w rest e text pre t =
    record {
      spoken = record { token = record { kind = kinds.Keyword w; from = length pre; to = length pre + length (word_spelling w) }; is = refl };
      utf8 = lexemes.utf8_words w;
      reads = one_token pre (word_spelling w) rest (kinds.Keyword w) (lexemes.words w rest e);
    }

pub lex_sign : {rest : List ℕ} (s : Sign) → sign_ends s rest ≡ true → Lexes (one (a_sign s)) rest
unfolding bytes_of
lex_sign {rest} s e text pre t =
    record {
      spoken = record { token = record { kind = kinds.Sign s; from = length pre; to = length pre + length (sign_spelling s) }; is = refl };
      utf8 = lexemes.utf8_signs s;
      reads = one_token pre (sign_spelling s) rest (kinds.Sign s) (lexemes.signs s rest e);
    }

pub lex_number : (n : ℕ) → n < 2 ^ 64 → LexesPhrase (one (a_number n))
unfolding bytes_of
lex_number n fits rest e text pre t =
    record {
      spoken = record { token = record { kind = kinds.Number n; from = length pre; to = length pre + length (decimal n) }; is = refl };
      utf8 = lexemes.utf8_numbers n;
      reads = one_token pre (decimal n) rest (kinds.Number n) (lexemes.numbers n rest fits e);
    }

pub lex_name : (name : List ℕ) → IsName name → LexesPhrase (one (a_name name))
unfolding bytes_of
lex_name name h rest e text pre t =
    record {
      spoken = record {
        token = record { kind = kinds.Name; from = length pre; to = length pre + length name };
        is = refl;
        bytes = its_bytes text pre name rest t;
      };
      utf8 = h.utf8;
      reads = one_token pre name rest kinds.Name (lexemes.names name rest h e);
    }

pub lex_between : {rest : List ℕ} (s : Sign) → sign_ends s (32 ∷ rest) ≡ true → Lexes (between s) rest
unfolding bytes_of
lex_between {rest} s e = in_turn lex_space (in_turn (lex_sign s e) lex_space)

pub lex_comma : {rest : List ℕ} → Lexes comma rest
lex_comma = in_turn (lex_sign CommaSign refl) lex_space

pub lex_semicolon : {rest : List ℕ} → Lexes semicolon rest
lex_semicolon = in_turn (lex_sign SemicolonSign refl) lex_space

pub lex_between_op : {rest : List ℕ} (op : Op) → Lexes (between (op_sign op)) rest
lex_between_op Add = lex_between (op_sign Add) refl
lex_between_op Sub = lex_between (op_sign Sub) refl
lex_between_op Mul = lex_between (op_sign Mul) refl
lex_between_op And = lex_between (op_sign And) refl
lex_between_op Or = lex_between (op_sign Or) refl
lex_between_op Xor = lex_between (op_sign Xor) refl
lex_between_op Shl = lex_between (op_sign Shl) refl
lex_between_op Shr = lex_between (op_sign Shr) refl
lex_between_op Lt = lex_between (op_sign Lt) refl

pub lex_right_of : {p : Printed} (op : Op) → LexesPhrase p → LexesPhrase (right_of op p)
lex_right_of Lt h = h
lex_right_of Add h = numbered_phrase h
lex_right_of Sub h = numbered_phrase h
lex_right_of Mul h = numbered_phrase h
lex_right_of And h = numbered_phrase h
lex_right_of Or h = numbered_phrase h
lex_right_of Xor h = numbered_phrase h
lex_right_of Shl h = numbered_phrase h
lex_right_of Shr h = numbered_phrase h

pub lex_place : (n : ℕ) → n < 2 ^ 64 → LexesPhrase (literal_place n)
unfolding literal_place bytes_of
lex_place zero h rest e = lex_word NullWord rest e
lex_place (suc n) h rest e = phrase_then (lex_word PlaceWord) refl (in_turn lex_space (lex_number (suc n) h rest e))

-- ---- brackets

pub lex_in_parens : {p : Printed} → LexesPhrase p → LexesPhrase (in_parens p)
unfolding bytes_of
lex_in_parens h rest e = in_turn (lex_sign OpenParenSign refl) (phrase_then h refl (lex_sign CloseParenSign refl))

pub lex_in_brackets : {p : Printed} → LexesPhrase p → LexesPhrase (in_brackets p)
unfolding bytes_of
lex_in_brackets h rest e = in_turn (lex_sign OpenBracketSign refl) (phrase_then h refl (lex_sign CloseBracketSign refl))

pub lex_mono_in : {p : Printed} (b : Bool) → LexesPhrase p → LexesPhrase (cond b (in_parens p) p)
lex_mono_in true h = lex_in_parens h
lex_mono_in false h = h

pub lex_term_in : {p : Printed} (b : Bool) → LexesPhrase p → LexesPhrase (cond b (in_parens (deeper p)) p)
lex_term_in true h = lex_in_parens (deep_phrase h)
lex_term_in false h = h

pub lex_formula_in : {p : Printed} (b : Bool) → LexesPhrase p → LexesPhrase (cond b (in_brackets (deeper p)) p)
lex_formula_in true h = lex_in_brackets (deep_phrase h)
lex_formula_in false h = h

-- ---- names

pub lex_named : (sort : Sort) (position : ℕ) → LexesPhrase (one (a_name (name_at sort position)))
lex_named sort p = lex_name (name_at sort p) (lexemes.entries sort p)

pub lex_new : (sort : Sort) (s : PrintScope) → LexesPhrase (new_name sort s)
lex_new sort s = lex_named sort (length s.entries)

pub lex_hypothesis : (number : ℕ) → LexesPhrase (one (a_name (hypothesis_name number)))
lex_hypothesis n = lex_name (hypothesis_name n) (lexemes.hypotheses n)

pub lex_name_or_blank : (name : Option (List ℕ)) → HasName name → LexesPhrase (name_or_blank name)
lex_name_or_blank None h = absurd h
lex_name_or_blank (Some name) h = lex_name name h.0

lex_past : (w : Keyword) (n : ℕ) → n < 2 ^ 64 → LexesPhrase (one (a_word w) ▹ past n)
unfolding bytes_of
lex_past w zero h rest e = phrase_then (lex_word w) e lex_nothing
lex_past w (suc n) h rest e = phrase_then (lex_word w) refl (in_turn (lex_sign CaretSign refl) (lex_number (suc n) h rest e))

-- how many pass is no more than all
one_at_most : (t : Bool) → cond t 1 0 ≤ 1
one_at_most true = omega arith
one_at_most false = omega arith

count_small : (is_kind : Sort → Bool) (sorts : List Sort) → count_of is_kind sorts ≤ length sorts
unfolding count_of
count_small is_kind [] = omega arith
count_small is_kind (sort ∷ sorts) = omega (arith, one_at_most (is_kind sort), count_small is_kind sorts)

count_fits : (is_kind : Sort → Bool) (index : ℕ) (sorts : List Sort) → length sorts < 2 ^ 64 → count_of is_kind (take index sorts) < 2 ^ 64
count_fits is_kind index sorts few = le-lt (count_small is_kind (take index sorts)) (taken index sorts) few
  where
    taken : (n : ℕ) (xs : List Sort) → length (take n xs) ≤ length xs
    taken zero xs = omega arith
    taken (suc n) [] = omega arith
    taken (suc n) (x ∷ xs) = let shorter = taken n xs in omega (arith, shorter)

    le-lt : {a b c d : ℕ} → a ≤ b → b ≤ c → c < d → a < d
    le-lt h k l = omega (arith, h, k, l)

lex_entry : (sort : Sort) (index : ℕ) (entries : List Sort) → length entries < 2 ^ 64 → LexesPhrase (entry_of_sort (Some sort) index entries)
unfolding entry_of_sort
lex_entry the_init index entries few = lex_past InitWord (count_of is_init (take index entries)) (count_fits is_init index entries few)
lex_entry the_mem index entries few = lex_past MemWord (count_of is_mem (take index entries)) (count_fits is_mem index entries few)
lex_entry a_mono index entries few = lex_named a_mono _
lex_entry a_term index entries few = lex_named a_term _
lex_entry a_heap index entries few = lex_named a_heap _
lex_entry a_term_or_heap index entries few = lex_named a_term_or_heap _
lex_entry a_hypothesis index entries few = lex_named a_hypothesis _

some_entry : (o : Option Sort) (index : ℕ) (entries : List Sort) → (o ≡ None → ⊥) → length entries < 2 ^ 64 → LexesPhrase (entry_of_sort o index entries)
some_entry None index entries is few = absurd (is refl)
some_entry (Some sort) index entries is few = lex_entry sort index entries few

mono_there : (o : Option Sort) → StandsForMono o → o ≡ None → ⊥
mono_there None h e = absurd h
mono_there (Some sort) h e = cc

term_there : (o : Option Sort) → StandsForTerm o → o ≡ None → ⊥
term_there None h e = absurd h
term_there (Some sort) h e = cc

heap_there : (o : Option Sort) → StandsForHeap o → o ≡ None → ⊥
heap_there None h e = absurd h
heap_there (Some sort) h e = cc

pub lex_mono_entry : (s : PrintScope) (index : ℕ) → IsMonoEntry s index → LexesPhrase (entry s index)
lex_mono_entry s index h = some_entry (slice_get s.entries index) index s.entries (mono_there (slice_get s.entries index) h.0) h.1

pub lex_term_entry : (s : PrintScope) (index : ℕ) → IsTermEntry s index → LexesPhrase (entry s index)
lex_term_entry s index h = some_entry (slice_get s.entries index) index s.entries (term_there (slice_get s.entries index) h.0) h.1

pub lex_heap_entry : (s : PrintScope) (index : ℕ) → IsHeapEntry s index → LexesPhrase (entry s index)
lex_heap_entry s index h = some_entry (slice_get s.entries index) index s.entries (heap_there (slice_get s.entries index) h.0) h.1
