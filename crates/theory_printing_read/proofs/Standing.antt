-- A printed phrase stands for its tree, and for no other: its bytes have the printed tokens, these derive a tree of the
-- grammar with the printed levels and operands, and this comes to what was printed. Since a text has one reading, nothing
-- else is read.
use Rattle.std.proofs.Common.{◌≡◌, ◌↔◌, ◌≤◌, ℕ, List, [], ◌∷◌, sym, ◌∙◌, ap, subst}
use Rattle.std.specs.Prelude.{Result, Ok}
use Rattle.htt_lexer.specs.Tokens.{AreTokens}
use Rattle.htt_lexer_tokens.specs.declared.tokens.Token.{Token}
use Rattle.theory_grammar.specs.Marks.{Mark, Limits, AllFit, AllWithin}
use Rattle.theory_text_names.specs.Stops.{Stop}
use Rattle.theory_text_names.specs.Scopes.{Scope}
use Rattle.theory_text_bytes.specs.Texts.{Derives}
use Rattle.theory_text_bytes.proofs.One.{one_tree}
use Rattle.theory_printing.specs.Pieces.{Printed, bytes_of, marks_of}
use Rattle.theory_printing_tokens.specs.Spoken.{Spoken, tokens_of}
use Rattle.theory_printing_tokens.specs.Laws.{HasPrintedTokens}
use Rattle.theory_printing_forms.specs.Readings.{Meets, Reads}
use Rattle.theory_printing_forms.proofs.Meets.{fits_of}
use Rattle.theory_printing_read.specs.Readings.{StandsFor}

-- ---- the printed tokens are those of this text

record TokensIn (text : List ℕ) (p : Printed) : Type 0 where
  spoken : Spoken text p
  are_tokens : AreTokens text (tokens_of text p spoken)

tokens_in : (text : List ℕ) (p : Printed) → text ≡ bytes_of p → HasPrintedTokens p → TokensIn text p
tokens_in text p e h = subst (λ t. TokensIn t p) (sym e) (record { spoken = h.spoken; are_tokens = h.are_tokens })

-- ---- limits

within_of : (limits : Limits) (ts : List Token) (ms gs : List Mark) → Meets ts ms gs → AllWithin limits ms → AllWithin limits gs
within_of limits [] [] [] h k = tt
within_of limits (t ∷ ts) (m ∷ ms) (g ∷ gs) h k = (
  record { level = subst (λ n. n ≤ limits.nesting) (sym h.0.level) k.0.level; operand = subst (λ n. n ≤ limits.chain) (sym h.0.operand) k.0.operand },
  within_of limits ts ms gs h.1 k.1,
)
within_of limits [] (m ∷ ms) gs h k = absurd h
within_of limits [] [] (g ∷ gs) h k = absurd h
within_of limits (t ∷ ts) [] gs h k = absurd h
within_of limits (t ∷ ts) (m ∷ ms) [] h k = absurd h

of_within : (limits : Limits) (ts : List Token) (ms gs : List Mark) → Meets ts ms gs → AllWithin limits gs → AllWithin limits ms
of_within limits [] [] [] h k = tt
of_within limits (t ∷ ts) (m ∷ ms) (g ∷ gs) h k = (
  record { level = subst (λ n. n ≤ limits.nesting) h.0.level k.0.level; operand = subst (λ n. n ≤ limits.chain) h.0.operand k.0.operand },
  of_within limits ts ms gs h.1 k.1,
)
of_within limits [] (m ∷ ms) gs h k = absurd h
of_within limits [] [] (g ∷ gs) h k = absurd h
of_within limits (t ∷ ts) [] gs h k = absurd h
of_within limits (t ∷ ts) (m ∷ ms) [] h k = absurd h

alike : {T : Type 0} (spell : T → List Mark) (limits : Limits) (ts : List Token) (ms : List Mark) (tree other : T)
    → Meets ts ms (spell tree)
    → tree ≡ other
    → AllWithin limits ms ↔ AllWithin limits (spell other)
alike spell limits ts ms tree other h e =
    subst (λ x. AllWithin limits ms ↔ AllWithin limits (spell x)) e (within_of limits ts ms (spell tree) h, of_within limits ts ms (spell tree) h)

-- ---- from the tokens on

pub stands : {Raw Tree : Type 0} {IsTextOf : Tree → Type 0} (spell : Raw → List Mark) (reading : Raw → Result Tree Stop)
    (said : Tree → Tree) (r : Scope) (p : Printed) (tree : Tree)
    → ((ts : List Token) (x y : Raw) → AllFit ts (spell x) → AllFit ts (spell y) → x ≡ y)
    → ((x : Raw) (given : Tree) → Derives (λ ts y. AllFit ts (spell y)) r.text x → reading x ≡ Ok given → IsTextOf given)
    → ((x y : Tree) → IsTextOf x → IsTextOf y → x ≡ y)
    → r.text ≡ bytes_of p
    → HasPrintedTokens p
    → ((v : Spoken r.text p) → Reads spell reading said r.text 1 p v (said tree))
    → StandsFor (λ ts y. AllFit ts (spell y)) spell IsTextOf said r.text (marks_of 1 p) tree
stands {IsTextOf = IsTextOf} spell reading said r p tree unique text_of one e printed read =
    let t = tokens_in r.text p e printed in
    let back = read t.spoken in
    let tokens = tokens_of r.text p t.spoken in
    let derives : Derives (λ ts y. AllFit ts (spell y)) r.text back.tree = record {
      tokens = tokens;
      are_tokens = t.are_tokens;
      is_tree = fits_of tokens (marks_of 1 p) (spell back.tree) back.meets.meets;
    } in
    let is_text : IsTextOf back.given = text_of back.tree back.given derives back.comes in
    record {
      read = back.given;
      is_text = is_text;
      same = back.same;
      no_other = λ other k. ap said (one other back.given k is_text) ∙ back.same;
      within = λ limits derived k.
          alike spell limits tokens (marks_of 1 p) back.tree derived back.meets.meets (one_tree unique r.text back.tree derived derives k);
    }
