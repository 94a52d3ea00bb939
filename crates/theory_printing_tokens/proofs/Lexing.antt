-- Pieces that are read as they were printed: each token before what may follow it, and one after the other.
use Rattle.std.proofs.Common.{◌≡◌, ℕ, ◌+◌, ◌-◌, List, [], ◌∷◌, ◌++◌, length, take, drop, refl, sym}
use Rattle.std.proofs.Common.{◌∙◌, ap, subst, arith, append_assoc}
use Rattle.std.specs.Prelude.{IsUtf8}
use Rattle.std.specs.Char.{encode_utf8}
use Rattle.std.specs.Str.{chars, is_utf8}
use Rattle.std.proofs.Math.Seq.{take-append_seam, drop-append_seam}
use Rattle.std.proofs.lemmas.List.{length-append, append-nil}
use Rattle.std.proofs.lemmas.Str.{IsUtf8-append, IsUtf8-nil, IsUtf8-from_is_utf8}
use Rattle.htt_lexer_tokens.specs.declared.tokens.Kind.{Kind}
use Rattle.htt_lexer_tokens.specs.declared.tokens.Token.{Token}
use Rattle.htt_lexer.specs.Tokens.{IsToken, blank, Reads, here, gap, token}
use Rattle.theory_text_names.specs.Scopes as scopes
use Rattle.theory_printing.specs.Pieces.{Printed, nothing, one, ◌▹◌, deeper, operand, bytes_of, a_space}
use Rattle.theory_printing_tokens.specs.Spoken.{Spoken, tokens_of}

-- ---- one after the other

pub join : {at mid to : ℕ} {text between left : List ℕ} {ts us : List Token}
    → Reads at text ts mid between
    → Reads mid between us to left
    → Reads at text (ts ++ us) to left
join here r = r
join (gap g h) r = gap g (join h r)
join (token k h) r = token k (join h r)

-- a printed piece before this rest, behind these bytes of a text
pub record Lexed (text pre : List ℕ) (p : Printed) (rest : List ℕ) : Type 0 where
  pub spoken : Spoken text p
  pub utf8 : IsUtf8 (bytes_of p)
  pub reads : Reads (length pre) (bytes_of p ++ rest) (tokens_of text p spoken) (length (pre ++ bytes_of p)) rest

abbrev pub Lexes : Printed → List ℕ → Type 0
Lexes p rest = (text pre : List ℕ) → text ≡ pre ++ (bytes_of p ++ rest) → Lexed text pre p rest

pub in_turn : {p q : Printed} {rest : List ℕ} → Lexes p (bytes_of q ++ rest) → Lexes q rest → Lexes (p ▹ q) rest
unfolding bytes_of
in_turn {p} {q} {rest} hp hq text pre e =
    let seam = append_assoc (bytes_of p) (bytes_of q) rest in
    let e1 = e ∙ ap (λ bs. pre ++ bs) seam in
    let a = hp text pre e1 in
    let b = hq text (pre ++ bytes_of p) (e1 ∙ sym (append_assoc pre (bytes_of p) (bytes_of q ++ rest))) in
    let both = join a.reads b.reads in
    let ended =
    subst (λ bs.
    Reads (length pre) (bytes_of p ++ (bytes_of q ++ rest)) (tokens_of text p a.spoken ++ tokens_of text q b.spoken) (length bs) rest)
    (append_assoc pre (bytes_of p) (bytes_of q)) both in
    record {
      spoken = (a.spoken, b.spoken);
      utf8 = IsUtf8-append (bytes_of p) (bytes_of q) a.utf8 b.utf8;
      reads =
          subst (λ bs.
          Reads (length pre) bs (tokens_of text p a.spoken ++ tokens_of text q b.spoken) (length (pre ++ (bytes_of p ++ bytes_of q))) rest)
          (sym seam) ended;
    }

pub deep : {p : Printed} {rest : List ℕ} → Lexes p rest → Lexes (deeper p) rest
unfolding bytes_of
deep h text pre e = let a = h text pre e in record { spoken = a.spoken; utf8 = a.utf8; reads = a.reads }

pub numbered : {n : ℕ} {p : Printed} {rest : List ℕ} → Lexes p rest → Lexes (operand n p) rest
unfolding bytes_of
numbered h text pre e = let a = h text pre e in record { spoken = a.spoken; utf8 = a.utf8; reads = a.reads }

pub lex_nothing : {rest : List ℕ} → Lexes nothing rest
unfolding bytes_of
lex_nothing {rest} text pre e =
    record { spoken = tt; utf8 = IsUtf8-nil; reads = subst (λ bs. Reads (length pre) rest [] (length bs) rest) (sym (append-nil pre)) here }

pub lex_space : {rest : List ℕ} → Lexes (one a_space) rest
unfolding bytes_of is_utf8 chars encode_utf8
lex_space {rest} text pre e =
    record {
      spoken = tt;
      utf8 = IsUtf8-from_is_utf8 (32 ∷ []) refl;
      reads = subst (λ n. Reads (length pre) (32 ∷ rest) [] n rest) (sym (length-append pre (32 ∷ []))) (gap {piece = 32 ∷ []} (blank refl) here);
    }

-- ---- a token

pub one_token : (pre piece rest : List ℕ) (kind : Kind)
    → IsToken piece rest kind
    → Reads (length pre) (piece ++ rest) (record { kind = kind; from = length pre; to = length pre + length piece } ∷ []) (length (pre ++ piece)) rest
one_token pre piece rest kind h =
    subst (λ n. Reads (length pre) (piece ++ rest) (record { kind = kind; from = length pre; to = length pre + length piece } ∷ []) n rest)
    (sym (length-append pre piece)) (token h here)

-- its bytes
pub its_bytes : (text pre piece rest : List ℕ)
    → text ≡ pre ++ (piece ++ rest)
    → scopes.bytes_of text (record { from = length pre; to = length pre + length piece }) ≡ piece
its_bytes text pre piece rest e =
    let cut : drop (length pre) text ≡ piece ++ rest = ap (λ t. drop (length pre) t) e ∙ drop-append_seam pre (piece ++ rest) in
    let size : length pre + length piece - length pre ≡ length piece = omega arith in
    ap (λ t. take (length pre + length piece - length pre) t) cut ∙ ap (λ n. take n (piece ++ rest)) size ∙ take-append_seam piece rest
