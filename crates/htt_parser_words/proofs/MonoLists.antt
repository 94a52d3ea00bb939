-- Monotypes with commas between them, step by step.
use Rattle.std.proofs.Common.{◌≡◌, ℕ, ◌-◌, List, [], ◌∷◌, drop, length, sym, ◌∙◌, ap, length-drop}
use Rattle.std.specs.Prelude.{Ok}
use Rattle.htt_lexer_tokens.specs.declared.tokens.Kind.TheVariants.{Sign}
use Rattle.htt_lexer_tokens.specs.declared.tokens.Sign.TheVariants.{CommaSign}
use Rattle.htt_lexer_tokens.specs.declared.tokens.Token.{Token}
use Rattle.htt_parser_trees.specs.declared.mono.RawMono.{RawMono}
use Rattle.htt_parser_trees.specs.Trees.{onto}
use Rattle.htt_parser_trees.specs.MonoLevels.{raw_mono_tree}
use Rattle.theory_grammar.specs.Readers.{give, then_read, ◌>>=◌, measured, after_commas}
use Rattle.theory_grammar.specs.Phrases.{Deeper, mono_reader, more_monos}
use Rattle.htt_parser_words.specs.Results.{mapped}
use Rattle.htt_parser_words.specs.Lists.{monos_at}

pub monos_begin : (d : Deeper) (us ts : List Token) (at : ℕ) (m : RawMono) (items : List RawMono)
    → mono_reader d us ≡ Ok (raw_mono_tree m, drop at ts)
    → items ≡ m ∷ []
    → monos_at d us
    ≡ mapped (onto (λ x xs. raw_mono_tree x ∷ xs) items) (after_commas (Sign CommaSign) (mono_reader d) (length ts - at) (drop at ts))
unfolding ◌>>=◌ give more_monos measured
monos_begin d us ts at m items e is =
    let put = λ (x : RawMono) (xs : List _). raw_mono_tree x ∷ xs in
    ap (λ o. then_read o (λ x. more_monos d >>= (λ xs. give (x ∷ xs)))) e
    ∙ ap (λ n. mapped (λ xs. raw_mono_tree m ∷ xs) (after_commas (Sign CommaSign) (mono_reader d) n (drop at ts))) (length-drop at ts)
    ∙ ap (λ ys. mapped (onto (λ x xs. raw_mono_tree x ∷ xs) ys) (after_commas (Sign CommaSign) (mono_reader d) (length ts - at) (drop at ts))) (sym is)
