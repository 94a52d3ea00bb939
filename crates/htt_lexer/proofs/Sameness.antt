-- A text is read in one way: two readings that can't go on have the same tokens and end at one place.
use Rattle.std.proofs.Common.{◌≡◌, ℕ, ◌+◌, List, [], ◌∷◌, ◌++◌, length, take, drop, refl, sym, ◌∙◌, ap, subst}
use Rattle.std.specs.Prelude.{IsUtf8}
use Rattle.std.proofs.Math.Seq.{take-append_seam, drop-append_seam}
use Rattle.htt_lexer_tokens.specs.declared.tokens.Kind.{Kind}
use Rattle.htt_lexer.specs.declared.pieces.Piece.TheVariants.{Gap, Token}
use Rattle.htt_lexer.specs.Tokens.{IsGap, IsToken, Reads, here, gap, token}
use Rattle.htt_lexer.specs.Pieces.{piece_of}
use Rattle.htt_lexer.proofs.Fronts.{gap_piece, token_piece}
use Rattle.htt_lexer.proofs.Cutting.{Tokens, past_gap, past_token}

-- no gap and no token begins the text
pub record IsFinal (text : List ℕ) : Type 0 where
  pub no_gap : (piece rest : List ℕ) → text ≡ piece ++ rest → ¬ (IsGap piece rest)
  pub no_token : (piece rest : List ℕ) (kind : Kind) → text ≡ piece ++ rest → ¬ (IsToken piece rest kind)

pub record SameRead (ts : Tokens) (to : ℕ) (left : List ℕ) (us : Tokens) (end : ℕ) (rest : List ℕ) : Type 0 where
  pub tokens : ts ≡ us
  pub place : to ≡ end
  pub text : left ≡ rest

-- the first step of a reading
data First (at : ℕ) (text : List ℕ) (ts : Tokens) (to : ℕ) (left : List ℕ) : Type 0 where
  ended : ts ≡ [] → to ≡ at → left ≡ text → First at text ts to left
  gapped : (piece rest : List ℕ) → text ≡ piece ++ rest → IsGap piece rest → Reads (at + length piece) rest ts to left → First at text ts to left
  tokened : (piece rest : List ℕ) (kind : Kind) (others : Tokens) → text ≡ piece ++ rest → IsToken piece rest kind →
      ts ≡ record { kind = kind; from = at; to = at + length piece } ∷ others → Reads (at + length piece) rest others to left → First at text ts to left

first : {at to : ℕ} {text left : List ℕ} {ts : Tokens} → Reads at text ts to left → First at text ts to left
first here = ended refl refl refl
first (gap {piece = piece} {rest = rest} is reads) = gapped piece rest refl is reads
first (token {piece = piece} {rest = rest} {kind = kind} {tokens = others} is reads) = tokened piece rest kind others refl is refl reads

-- two pieces of one length at the front of a text
record SameSeam (piece rest other left : List ℕ) : Type 0 where
  front : piece ≡ other
  back : rest ≡ left

same_seam : (piece rest other left : List ℕ) → piece ++ rest ≡ other ++ left → length piece ≡ length other → SameSeam piece rest other left
same_seam piece rest other left e size = record {
  front = sym (take-append_seam piece rest) ∙ ap (take (length piece)) e ∙ ap (λ n. take n (other ++ left)) size ∙ take-append_seam other left;
  back = sym (drop-append_seam piece rest) ∙ ap (drop (length piece)) e ∙ ap (λ n. drop n (other ++ left)) size ∙ drop-append_seam other left;
}

-- what the rest of a reading has in common with every other
abbrev Rest : ℕ → List ℕ → Tokens → ℕ → List ℕ → Type 0
Rest at text ts to left = (us : Tokens) (end : ℕ) (rest : List ℕ) → Reads at text us end rest → IsFinal rest → SameRead ts to left us end rest

same_here : (at : ℕ) (text : List ℕ) (us : Tokens) (end : ℕ) (rest : List ℕ) → First at text us end rest → IsFinal text → SameRead [] at text us end rest
same_here at text us end rest (ended e place left) final = record { tokens = sym e; place = sym place; text = sym left }
same_here at text us end rest (gapped piece after e is reads) final = absurd (final.no_gap piece after e is)
same_here at text us end rest (tokened piece after kind others e is these reads) final = absurd (final.no_token piece after kind e is)

same_gap : (at : ℕ) (piece after : List ℕ) (ts : Tokens) (to : ℕ) (left : List ℕ) (us : Tokens) (end : ℕ) (rest : List ℕ)
    → IsUtf8 (piece ++ after)
    → IsGap piece after
    → Rest (at + length piece) after ts to left
    → First at (piece ++ after) us end rest
    → IsFinal rest
    → SameRead ts to left us end rest
same_gap at piece after ts to left us end rest u is more (ended e place whole) final = absurd (final.no_gap piece after whole is)
same_gap at piece after ts to left us end rest u is more (gapped other others e also reads) final =
    let told : piece_of (piece ++ after) ≡ Gap (length piece) = gap_piece is in
    let also_told : piece_of (other ++ others) ≡ Gap (length other) = gap_piece also in
    let pieces = sym told ∙ ap piece_of e ∙ also_told in
    let size : length piece ≡ length other = cc in
    let seam = same_seam piece after other others e size in
    more us end rest
    (subst (λ t. Reads (at + length piece) t us end rest) (sym seam.back) (subst (λ n. Reads (at + n) others us end rest) (sym size) reads))
    final
same_gap at piece after ts to left us end rest u is more (tokened other others kind vs e also these reads) final =
    let told : piece_of (piece ++ after) ≡ Gap (length piece) = gap_piece is in
    let also_told : piece_of (other ++ others) ≡ Token kind (length other) = token_piece (subst IsUtf8 e u) also in
    let pieces = sym told ∙ ap piece_of e ∙ also_told in
    cc

same_token : (at : ℕ) (piece after : List ℕ) (kind : Kind) (ts : Tokens) (to : ℕ) (left : List ℕ) (us : Tokens) (end : ℕ) (rest : List ℕ)
    → IsUtf8 (piece ++ after)
    → IsToken piece after kind
    → Rest (at + length piece) after ts to left
    → First at (piece ++ after) us end rest
    → IsFinal rest
    → SameRead (record { kind = kind; from = at; to = at + length piece } ∷ ts) to left us end rest
same_token at piece after kind ts to left us end rest u is more (ended e place whole) final = absurd (final.no_token piece after kind whole is)
same_token at piece after kind ts to left us end rest u is more (gapped other others e also reads) final =
    let told : piece_of (piece ++ after) ≡ Token kind (length piece) = token_piece u is in
    let also_told : piece_of (other ++ others) ≡ Gap (length other) = gap_piece also in
    let pieces = sym told ∙ ap piece_of e ∙ also_told in
    cc
same_token at piece after kind ts to left us end rest u is more (tokened other others same vs e also these reads) final =
    let told : piece_of (piece ++ after) ≡ Token kind (length piece) = token_piece u is in
    let also_told : piece_of (other ++ others) ≡ Token same (length other) = token_piece (subst IsUtf8 e u) also in
    let pieces = sym told ∙ ap piece_of e ∙ also_told in
    let size : length piece ≡ length other = cc in
    let kinds : kind ≡ same = cc in
    let seam = same_seam piece after other others e size in
    let rest_same =
    more vs end rest
    (subst (λ t. Reads (at + length piece) t vs end rest) (sym seam.back) (subst (λ n. Reads (at + n) others vs end rest) (sym size) reads))
    final in
    record {
      tokens = ap (λ l. record { kind = kind; from = at; to = at + length piece } ∷ l) rest_same.tokens
          ∙ ap (λ k. record { kind = k; from = at; to = at + length piece } ∷ vs) kinds
          ∙ ap (λ n. record { kind = same; from = at; to = at + n } ∷ vs) size
          ∙ sym these;
      place = rest_same.place;
      text = rest_same.text;
    }

pub same_read : {at to : ℕ} {text left : List ℕ} {ts : Tokens} → IsUtf8 text → Reads at text ts to left → IsFinal left → Rest at text ts to left
same_read u (here {at = at} {text = text}) final us end rest s other = same_here at text us end rest (first s) final
same_read u (gap {at = at} {piece = piece} {rest = after} is reads) final us end rest s other =
    same_gap at piece after _ _ _ us end rest u is (same_read (past_gap is u) reads final) (first s) other
same_read u (token {at = at} {piece = piece} {rest = after} {kind = kind} is reads) final us end rest s other =
    same_token at piece after kind _ _ _ us end rest u is (same_read (past_token is u) reads final) (first s) other
