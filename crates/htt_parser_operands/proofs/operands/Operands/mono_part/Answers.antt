use Rattle.std.proofs.Common.{◌<◌, refl, drop, arith}
use Rattle.htt_parser_trees.specs.TreeLevels.{raw_part_mono}
use Rattle.theory_grammar.specs.Readers.{too_long}
use Rattle.theory_grammar.specs.Beginnings.{begins_mono}
use Rattle.theory_grammar.specs.Reading.{deeper}
use Rattle.htt_parser_words.specs.declared.cursor.Reason.TheVariants.{TooLong}
use Rattle.htt_parser_words.proofs.Steps.{stopped_more, after_err, refuse_stops, reading}
use Rattle.htt_parser_operands.proofs.Choices.{mono_after_zero, mono_after_some}
use Rattle.htt_parser_operands.proofs.operands.Operands.mono_part.Goals as goal

pub returns-in_err-at-clause-gives : goal.returns-in_err-at-clause-gives
unfolding reading
returns-in_err-at-clause-gives g c = stopped_more _ _ _ _ _ _ _ _ c.from_residual.ensures.1 (after_err _ _ _ _ c.in_err-at.ensures)

pub returns-then-room-eq0-clause-gives : goal.returns-then-room-eq0-clause-gives
unfolding reading
returns-then-room-eq0-clause-gives g c =
    rw (
      c.in_ok-at.ensures,
      mono_after_zero (deeper 63 c.args.self.now.level.left) c.args.room (drop c.in_ok-at.at c.args.self.now.level.cursor.tokens.now)
          c.if-room-eq0.true,
    ) (refuse_stops _ c.args.self.now.level.cursor.tokens.now too_long begins_mono TooLong _ _ refl c.refuse.ensures)

pub returns-in_err-mono-clause-gives : goal.returns-in_err-mono-clause-gives
unfolding reading
returns-in_err-mono-clause-gives g c =
    let some : 0 < c.args.room = omega (arith, c.if-room-eq0.false) in
    stopped_more _ _ _ _ _ _ _ _ c.from_residual-in_err-mono.ensures.1
    (rw (
      c.in_ok-at.ensures,
      mono_after_some (deeper 63 c.args.self.now.level.left) c.args.room (drop c.in_ok-at.at c.args.self.now.level.cursor.tokens.now) some,
    ) (after_err _ _ _ _ c.in_err-mono.ensures))

pub returns-in_err-at-2-clause-gives : goal.returns-in_err-at-2-clause-gives
unfolding reading
returns-in_err-at-2-clause-gives g c =
    let some : 0 < c.args.room = omega (arith, c.if-room-eq0.false) in
    stopped_more _ _ _ _ _ _ _ _ c.from_residual-in_err-at-2.ensures.1
    (rw (
      c.in_ok-at.ensures,
      mono_after_some (deeper 63 c.args.self.now.level.left) c.args.room (drop c.in_ok-at.at c.args.self.now.level.cursor.tokens.now) some,
      c.in_ok-mono.ensures,
    ) (after_err _ _ _ _ c.in_err-at-2.ensures))

pub returns-clause-gives : goal.returns-clause-gives
unfolding reading
returns-clause-gives g c =
    let some : 0 < c.args.room = omega (arith, c.if-room-eq0.false) in
    rw (
      c.in_ok-at.ensures,
      mono_after_some (deeper 63 c.args.self.now.level.left) c.args.room (drop c.in_ok-at.at c.args.self.now.level.cursor.tokens.now) some,
      c.in_ok-mono.ensures,
      c.in_ok-at-2.ensures,
      raw_part_mono c.in_ok-mono.mono,
    ) refl
