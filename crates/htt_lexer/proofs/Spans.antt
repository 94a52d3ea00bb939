-- The tokens of a text stand in order, and each is what its slice says.
use Rattle.std.proofs.Common.{◌≡◌, ℕ, ◌+◌, ◌-◌, ◌≤◌, List, [], ◌∷◌, ◌++◌, length, take, drop, sym, ◌∙◌, ap, subst, arith}
use Rattle.std.proofs.Math.Seq.{take-append_seam, drop-append_seam}
use Rattle.std.proofs.lemmas.List.{drop-drop, length-drop, length-append}
use Rattle.htt_lexer.specs.Tokens.{IsToken, Reads, here, gap, token}
use Rattle.htt_lexer.specs.Laws.{InOrder}
use Rattle.htt_lexer.proofs.Cutting.{Tokens}
use Rattle.htt_lexer.proofs.Fronts.{token_some}

earlier : (text : List ℕ) (place at : ℕ) (ts : Tokens) → place ≤ at → InOrder text at ts → InOrder text place ts
earlier text place at [] h order = omega (arith, h, order)
earlier text place at (t ∷ ts) h order = (omega (arith, h, order.0), order.1, order.2, order.3)

-- a piece that stands at a place, and where its rest stands
record Stands (text : List ℕ) (at : ℕ) (piece rest : List ℕ) : Type 0 where
  front : take (length piece) (drop at text) ≡ piece
  back : rest ≡ drop (at + length piece) text
  within : at + length piece ≤ length text

stands : (text : List ℕ) (at : ℕ) (piece rest : List ℕ) → at ≤ length text → piece ++ rest ≡ drop at text → Stands text at piece rest
stands text at piece rest within e = record {
  front = ap (take (length piece)) (sym e) ∙ take-append_seam piece rest;
  back = sym (drop-append_seam piece rest) ∙ ap (drop (length piece)) e ∙ drop-drop (length piece) at text;
  within = omega (arith, within, length-drop at text, ap length e, length-append piece rest);
}

pub in_order : (text : List ℕ) {at to : ℕ} {rest left : List ℕ} {ts : Tokens}
    → Reads at rest ts to left
    → at ≤ length text
    → rest ≡ drop at text
    → InOrder text at ts
in_order text here within e = within
in_order text (gap {at = at} {piece = piece} {rest = rest} {tokens = ts} is reads) within e =
    let s = stands text at piece rest within e in
    earlier text at (at + length piece) ts (omega arith) (in_order text reads s.within s.back)
in_order text (token {at = at} {piece = piece} {rest = rest} {kind = kind} is reads) within e =
    let s = stands text at piece rest within e in
    let size : (at + length piece) - at ≡ length piece = omega arith in
    let slice : take ((at + length piece) - at) (drop at text) ≡ piece = ap (λ n. take n (drop at text)) size ∙ s.front in (
      omega arith,
      omega (arith, token_some is),
      subst (λ r. IsToken (take ((at + length piece) - at) (drop at text)) r kind) s.back (subst (λ p. IsToken p rest kind) (sym slice) is),
      in_order text reads s.within s.back,
    )
