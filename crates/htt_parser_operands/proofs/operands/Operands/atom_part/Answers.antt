use Rattle.std.proofs.Common.{◌<◌, ◌-◌, refl, drop, arith}
use Rattle.std.specs.Prelude.{true, false}
use Rattle.htt_parser_trees.specs.TreeLevels.{raw_part_atom}
use Rattle.theory_grammar.specs.Readers.{too_long}
use Rattle.theory_grammar.specs.Beginnings.{begins_atom}
use Rattle.theory_grammar.specs.Reading.{deeper}
use Rattle.htt_parser_words.specs.declared.cursor.Reason.TheVariants.{TooLong}
use Rattle.htt_parser_words.proofs.Steps.{stopped_more, after_err, refuse_stops, reading}
use Rattle.htt_parser_operands.proofs.Choices.{atom_part_zero, atom_part_some}
use Rattle.htt_parser_operands.proofs.operands.Operands.atom_part.Goals as goal

pub returns-then-room-eq0-clause-gives : goal.returns-then-room-eq0-clause-gives
returns-then-room-eq0-clause-gives g c =
    rw (atom_part_zero (deeper 63 c.args.self.now.level.left) c.args.room (drop c.args.at c.args.self.now.level.cursor.tokens.now)
    c.if-room-eq0.true) (refuse_stops _ c.args.self.now.level.cursor.tokens.now too_long begins_atom TooLong _ _ refl c.refuse.ensures)

pub returns-in_err-atom-clause-gives : goal.returns-in_err-atom-clause-gives
unfolding reading
returns-in_err-atom-clause-gives g c =
    let some : 0 < c.args.room = omega (arith, c.if-room-eq0.false) in
    stopped_more _ _ _ _ _ _ _ _ c.from_residual.ensures.1
    (rw (atom_part_some (deeper 63 c.args.self.now.level.left) c.args.room (drop c.args.at c.args.self.now.level.cursor.tokens.now) some)
    (after_err _ _ _ _ c.in_err-atom.ensures))

pub returns-clause-gives : goal.returns-clause-gives
unfolding reading
returns-clause-gives g c =
    let some : 0 < c.args.room = omega (arith, c.if-room-eq0.false) in
    rw (
      atom_part_some (deeper 63 c.args.self.now.level.left) c.args.room (drop c.args.at c.args.self.now.level.cursor.tokens.now) some,
      c.in_ok-atom.ensures,
      raw_part_atom c.in_ok-atom.atom,
    ) refl
