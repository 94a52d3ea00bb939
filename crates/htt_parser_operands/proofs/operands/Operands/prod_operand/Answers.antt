use Rattle.std.proofs.Common.{◌≡◌, ◌<◌, ◌-◌, refl, drop, arith, rules}
use Rattle.std.specs.Prelude.{true, false, Some, None}
use Rattle.theory_grammar.specs.Readers.{too_long}
use Rattle.theory_grammar.specs.Beginnings.{begins_appl, prod_sign_of}
use Rattle.theory_grammar.specs.Reading.{deeper}
use Rattle.htt_parser_words.specs.declared.cursor.Reason.TheVariants.{TooLong}
use Rattle.htt_parser_words.proofs.Steps.{stopped_more, after_err, refuse_stops, reading}
use Rattle.htt_parser_operands.specs.Signs.{times_tree, first_sign}
use Rattle.htt_parser_operands.proofs.Choices.{prod_none, prod_full, prod_more}
use Rattle.htt_parser_operands.proofs.operands.Operands.prod_operand.Goals as goal

pub returns-in_default-clause-gives : goal.returns-in_default-clause-gives
returns-in_default-clause-gives g c =
    let no : first_sign prod_sign_of (drop c.args.at c.args.self.now.level.cursor.tokens.now) ≡ None = search rules in
    prod_none (deeper 63 c.args.self.now.level.left) c.args.room (drop c.args.at c.args.self.now.level.cursor.tokens.now) no

pub returns-then-room-eq0-clause-gives : goal.returns-then-room-eq0-clause-gives
returns-then-room-eq0-clause-gives g c =
    let sign : first_sign prod_sign_of (drop c.args.at c.args.self.now.level.cursor.tokens.now) ≡ Some (times_tree c.in-Some.sign) =
    search rules in
    rw (prod_full (deeper 63 c.args.self.now.level.left) c.args.room c.args.self.now.level.cursor.tokens.now c.args.at _ sign
    c.if-room-eq0.true) (refuse_stops _ c.args.self.now.level.cursor.tokens.now too_long begins_appl TooLong _ _ refl c.refuse.ensures)

pub returns-in_err-operand-clause-gives : goal.returns-in_err-operand-clause-gives
unfolding reading
returns-in_err-operand-clause-gives g c =
    let sign : first_sign prod_sign_of (drop c.args.at c.args.self.now.level.cursor.tokens.now) ≡ Some (times_tree c.in-Some.sign) =
    search rules in
    let some : 0 < c.args.room = omega (arith, c.if-room-eq0.false) in
    stopped_more _ _ _ _ _ _ _ _ c.from_residual.ensures.1
    (rw (prod_more (deeper 63 c.args.self.now.level.left) c.args.room c.args.self.now.level.cursor.tokens.now c.args.at _ sign some)
    (after_err _ _ _ _ c.in_err-operand.ensures))

pub returns-clause-gives : goal.returns-clause-gives
unfolding reading
returns-clause-gives g c =
    let sign : first_sign prod_sign_of (drop c.args.at c.args.self.now.level.cursor.tokens.now) ≡ Some (times_tree c.in-Some.sign) =
    search rules in
    let some : 0 < c.args.room = omega (arith, c.if-room-eq0.false) in
    rw (
      prod_more (deeper 63 c.args.self.now.level.left) c.args.room c.args.self.now.level.cursor.tokens.now c.args.at _ sign some,
      c.in_ok-operand.ensures,
      c.joined.ensures,
    ) refl
