use Rattle.std.proofs.Common.{◌≡◌, ap, sym, ◌∙◌, take, length}
use Rattle.std.proofs.lemmas.List.{take_min}
use Rattle.std.specs.Option.{option_map}
use Rattle.htt_lexer_tokens.specs.declared.tokens.Kind.TheVariants.{Sign}
use Rattle.htt_lexer.specs.declared.pieces.Piece.TheVariants.{Token}
use Rattle.htt_lexer.specs.Tables.{lookup, sign_table}
use Rattle.htt_lexer.proofs.pieces.sign_within.Goals as goal

pub returns : goal.returns
returns c =
    let text = c.args.text.now in
    let m = c.min.result in
    let front : take m text ≡ take c.args.most text = ap (λ k. take k text) c.min.ensures ∙ take_min c.args.most text in
    ap (λ o. option_map (λ s. Token (Sign s) (length (take m text))) o) (sym c.in_ok-sign.was ∙ c.sign_of.ensures)
    ∙ ap (λ t. option_map (λ s. Token (Sign s) (length t)) (lookup sign_table t)) front
