-- Opening brackets one by one.
use Rattle.std.proofs.Common.{◌≡◌, ℕ, List, [], ◌∷◌, ◌++◌, drop, reverse, sym, ◌∙◌, ap}
use Rattle.std.proofs.lemmas.List.{reverse-append}
use Rattle.std.specs.Prelude.{true, false, cond}
use Rattle.htt_lexer_tokens.specs.declared.tokens.Kind.TheVariants.{Sign}
use Rattle.htt_lexer_tokens.specs.declared.tokens.Sign.TheVariants.{OpenParenSign}
use Rattle.htt_lexer_tokens.specs.declared.tokens.Token.{Token}
use Rattle.theory_grammar.specs.Readers.{same_kind}
use Rattle.htt_parser_words.specs.Brackets.{opened}

pub opened_step : (os : List ℕ) (ts : List Token) (i : ℕ) (t : Token) (rest : List Token)
    → drop i ts ≡ t ∷ rest
    → same_kind t.kind (Sign OpenParenSign) ≡ true
    → opened (reverse os) (drop i ts) ≡ opened (reverse (os ++ t.from ∷ [])) rest
unfolding opened
opened_step os ts i t rest there same =
    ap (opened (reverse os)) there
    ∙ ap (λ b. cond b (opened (t.from ∷ reverse os) rest) (reverse os, t ∷ rest)) same
    ∙ ap (λ o. opened o rest) (sym (reverse-append os (t.from ∷ [])))

pub opened_other : (os : List ℕ) (ts : List Token) (i : ℕ) (t : Token) (rest : List Token)
    → drop i ts ≡ t ∷ rest
    → same_kind t.kind (Sign OpenParenSign) ≡ false
    → opened os (drop i ts) ≡ (os, drop i ts)
unfolding opened
opened_other os ts i t rest there other =
    ap (opened os) there ∙ ap (λ b. cond b (opened (t.from ∷ os) rest) (os, t ∷ rest)) other ∙ ap (λ us. (os, us)) (sym there)

pub opened_end : (os : List ℕ) (ts : List Token) (i : ℕ) → drop i ts ≡ [] → opened os (drop i ts) ≡ (os, drop i ts)
unfolding opened
opened_end os ts i end = ap (opened os) end ∙ ap (λ us. (os, us)) (sym end)
