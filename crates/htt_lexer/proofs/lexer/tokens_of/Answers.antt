use Rattle.std.proofs.Common.{◌+◌, ◌∙◌, sym, ap, subst, arith, is_ok, drop}
use Rattle.std.proofs.ResultArms.{chosen}
use Rattle.std.proofs.lemmas.Str.{IsCharBoundary-from_drop}
use Rattle.htt_lexer.specs.Tokens.{IsGap, IsToken}
use Rattle.htt_lexer.specs.declared.pieces.Piece.TheVariants.{Gap, Token, TooLarge}
use Rattle.htt_lexer.specs.Pieces.{piece_of}
use Rattle.htt_lexer.proofs.Fronts.{nothing}
use Rattle.htt_lexer.proofs.Cutting.{Cutting, cut_at, cut_within, cutting_begun, cutting_gap, cutting_token}
use Rattle.htt_lexer.proofs.lexer.tokens_of.Goals as goal

pub loop-tokens-init : goal.loop-tokens-init
loop-tokens-init c = subst (λ out. Cutting c.args.text.now 0 out) (sym c.new-tokens.ensures.items) (cutting_begun c.args.text.now c.utf8.text)

pub range_from-requires : goal.range_from-requires
range_from-requires c _ = IsCharBoundary-from_drop c.args.text.now c.loop-tokens.at c.loop-tokens.invariant.within c.loop-tokens.invariant.utf8

pub overflow_add-at : goal.overflow_add-at
overflow_add-at c =
    let cutting = c.loop-tokens.invariant in
    let cut = cut_at _ _ _ (Gap c.in-Gap.length) cutting (ap piece_of (sym c.range_from.ensures.value) ∙ sym c.piece_of.ensures ∙ c.in-Gap.is) in
    omega (arith, cut_within IsGap _ _ _ cutting.within cut)

pub loop-tokens-preserved-in-Gap : goal.loop-tokens-preserved-in-Gap
loop-tokens-preserved-in-Gap c =
    let cutting = c.loop-tokens.invariant in
    cutting_gap _ _ _ _ cutting
    (cut_at _ _ _ (Gap c.in-Gap.length) cutting (ap piece_of (sym c.range_from.ensures.value) ∙ sym c.piece_of.ensures ∙ c.in-Gap.is))

pub overflow_add-end : goal.overflow_add-end
overflow_add-end c =
    let cutting = c.loop-tokens.invariant in
    let cut =
    cut_at _ _ _ (Token c.in-Token.kind c.in-Token.length) cutting
    (ap piece_of (sym c.range_from.ensures.value) ∙ sym c.piece_of.ensures ∙ c.in-Token.is) in
    omega (arith, cut_within (λ piece rest. IsToken piece rest c.in-Token.kind) _ _ _ cutting.within cut)

pub loop-tokens-smaller : goal.loop-tokens-smaller
loop-tokens-smaller c =
    let cutting = c.loop-tokens.invariant in
    let cut =
    cut_at _ _ _ (Token c.in-Token.kind c.in-Token.length) cutting
    (ap piece_of (sym c.range_from.ensures.value) ∙ sym c.piece_of.ensures ∙ c.in-Token.is) in
    omega (arith, cut_within (λ piece rest. IsToken piece rest c.in-Token.kind) _ _ _ cutting.within cut)

pub loop-tokens-preserved : goal.loop-tokens-preserved
loop-tokens-preserved c =
    let cutting = c.loop-tokens.invariant in
    let pushed = chosen _ _ _ _ c.push.ensures.items (ap is_ok c.in_ok-push-in-Token.was) in
    subst (λ out. Cutting c.args.text.now (c.loop-tokens.at + c.in-Token.length) out) (sym pushed)
    (cutting_token _ _ _ _ _ cutting
    (cut_at _ _ _ (Token c.in-Token.kind c.in-Token.length) cutting
    (ap piece_of (sym c.range_from.ensures.value) ∙ sym c.piece_of.ensures ∙ c.in-Token.is)))

pub returns-in-NoToken-clause-refused : goal.returns-in-NoToken-clause-refused
returns-in-NoToken-clause-refused c =
    let cutting = c.loop-tokens.invariant in (
      c.utf8.text,
      record {
        tokens = c.loop-tokens.tokens.items;
        left = drop c.loop-tokens.at c.args.text.now;
        reads = cutting.reads;
        fault = nothing _ cutting.utf8 (ap piece_of (sym c.range_from.ensures.value) ∙ sym c.piece_of.ensures ∙ c.in-NoToken.is);
      },
    )

pub returns-in-TooLarge-clause-refused : goal.returns-in-TooLarge-clause-refused
returns-in-TooLarge-clause-refused c =
    let cutting = c.loop-tokens.invariant in (
      c.utf8.text,
      record {
        tokens = c.loop-tokens.tokens.items;
        left = drop c.loop-tokens.at c.args.text.now;
        reads = cutting.reads;
        fault = cut_at _ _ _ TooLarge cutting (ap piece_of (sym c.range_from.ensures.value) ∙ sym c.piece_of.ensures ∙ c.in-TooLarge.is);
      },
    )
