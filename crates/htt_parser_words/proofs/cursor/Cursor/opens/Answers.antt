use Rattle.std.proofs.Common.{◌≡◌, ◌+◌, rules, ◌∙◌, ap, sym, reverse, drop, [], ◌∷◌, ◌++◌, true, false}
use Rattle.htt_lexer_tokens.specs.declared.tokens.Kind.TheVariants.{Sign}
use Rattle.htt_lexer_tokens.specs.declared.tokens.Sign.TheVariants.{OpenParenSign}
use Rattle.theory_grammar.specs.Readers.{same_kind}
use Rattle.htt_parser_words.specs.Brackets.{opened}
use Rattle.htt_parser_words.proofs.Opening.{opened_step, opened_other, opened_end}
use Rattle.htt_parser_words.proofs.cursor.Cursor.opens.Goals as goal
use Rattle.htt_parser_words.proofs.cursor.Cursor.opens.Goals.{in-Some+then-ne, in_default}

pub loop-token-preserved : goal.loop-token-preserved
loop-token-preserved c =
    let same : same_kind c.in-Some.token.kind (Sign OpenParenSign) ≡ true = search rules in
    let items : c.push.new.self.items ≡ c.loop-token.opens.items ++ c.in-Some.token.from ∷ [] = search rules in
    c.loop-token.invariant ∙ opened_step c.loop-token.opens.items c.args.self.now.tokens.now c.loop-token.next c.in-Some.token _ c.in-Some.ensures.is same
    ∙ ap (λ os. opened (reverse os) (drop (c.loop-token.next + 1) c.args.self.now.tokens.now)) (sym items)

pub returns : goal.returns
returns c =
    elim c.match-token.branch [
      | in-Some+then-ne w ↦
          let other : same_kind w.in-Some.token.kind (Sign OpenParenSign) ≡ false = search rules in
          sym (c.loop-token.invariant
          ∙ opened_other (reverse c.loop-token.opens.items) c.args.self.now.tokens.now c.loop-token.next w.in-Some.token _
          w.in-Some.ensures.is other)
      | in_default w ↦
          sym (c.loop-token.invariant
          ∙ opened_end (reverse c.loop-token.opens.items) c.args.self.now.tokens.now c.loop-token.next w.in_default.ensures.is)
    ]
