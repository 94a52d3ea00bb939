-- What follows the name of a predicate.
use Rattle.std.proofs.Common.{◌≡◌, ℕ, ◌-◌, List, ◌∷◌, refl}
use Rattle.std.specs.Prelude.{Result, Ok, Err}
use Rattle.htt_lexer_tokens.specs.declared.tokens.Kind.TheVariants.{Sign}
use Rattle.htt_lexer_tokens.specs.declared.tokens.Sign.TheVariants.{CloseBracketSign, OpenParenSign, CloseParenSign}
use Rattle.htt_parser_trees.specs.declared.place.Span.{Span}
use Rattle.htt_lexer_tokens.specs.declared.tokens.Token.{Token}
use Rattle.htt_parser_trees.specs.Trees.{RawMonoTree, g_use}
use Rattle.theory_grammar.specs.Readers.{Halt, give, then_read, ◌>>=◌, token}
use Rattle.theory_grammar.specs.Phrases.{Deeper, mono_reader, terms_there, more_monos, use_monos_on}
use Rattle.htt_parser_words.specs.Lists.{monos_at}

-- ---- predicates

pub use_monos_is : (d : Deeper) (at : ℕ) (p : Span) (us : List Token)
    → use_monos_on d at p us
    ≡ (monos_at d >>= (λ ts.
    token (Sign CloseBracketSign) >>= (λ _.
    token (Sign OpenParenSign) >>= (λ _.
    terms_there d >>= (λ ms.
    token (Sign CloseParenSign) >>= (λ _.
    give (g_use at p ts ms))))))) us
unfolding ◌>>=◌ give
use_monos_is d at p us = by_first d at p (mono_reader d us)
  where
    by_more : (d : Deeper) (at : ℕ) (p : Span) (t : RawMonoTree) (o : Result (List RawMonoTree × List Token) Halt)
        → then_read o (λ ts.
        token (Sign CloseBracketSign) >>= (λ _.
        token (Sign OpenParenSign) >>= (λ _.
        terms_there d >>= (λ ms.
        token (Sign CloseParenSign) >>= (λ _.
        give (g_use at p (t ∷ ts) ms))))))
        ≡ then_read (then_read o (λ ts. give (t ∷ ts))) (λ ts.
        token (Sign CloseBracketSign) >>= (λ _.
        token (Sign OpenParenSign) >>= (λ _.
        terms_there d >>= (λ ms.
        token (Sign CloseParenSign) >>= (λ _.
        give (g_use at p ts ms))))))
    by_more d at p t (Ok read) = refl
    by_more d at p t (Err halt) = refl

    by_first : (d : Deeper) (at : ℕ) (p : Span) (o : Result (RawMonoTree × List Token) Halt)
        → then_read o (λ t.
        more_monos d >>= (λ ts.
        token (Sign CloseBracketSign) >>= (λ _.
        token (Sign OpenParenSign) >>= (λ _.
        terms_there d >>= (λ ms.
        token (Sign CloseParenSign) >>= (λ _.
        give (g_use at p (t ∷ ts) ms)))))))
        ≡ then_read (then_read o (λ t. more_monos d >>= (λ ts. give (t ∷ ts)))) (λ ts.
        token (Sign CloseBracketSign) >>= (λ _.
        token (Sign OpenParenSign) >>= (λ _.
        terms_there d >>= (λ ms.
        token (Sign CloseParenSign) >>= (λ _.
        give (g_use at p ts ms))))))
    by_first d at p (Ok read) = by_more d at p read.0 (more_monos d read.1)
    by_first d at p (Err halt) = refl
