use Rattle.std.proofs.Common.{◌≡◌, ◌-◌, drop, rules}
use Rattle.std.specs.Prelude.{true, false}
use Rattle.htt_lexer_tokens.specs.declared.tokens.Kind.TheVariants.{Sign}
use Rattle.htt_lexer_tokens.specs.declared.tokens.Sign.TheVariants.{OpenBracketSign}
use Rattle.htt_parser_trees.specs.Trees.{no_parts}
use Rattle.htt_parser_trees.specs.TreeViews.{raw_part_tree}
use Rattle.theory_grammar.specs.Readers.{first_is, same_kind}
use Rattle.theory_grammar.specs.Beginnings.{begins_atom}
use Rattle.theory_grammar.specs.Phrases.{parts_on}
use Rattle.theory_grammar.specs.Reading.{deeper}
use Rattle.htt_parser_operands.specs.Parts.{mono_part_on, atom_part_on}
use Rattle.htt_parser_operands.proofs.Choices.{more_along, parts_bracket, parts_atom, parts_none}
use Rattle.htt_parser_operands.proofs.operands.Operands.part.Goals as goal

pub returns-then-is_sign-clause-gives : goal.returns-then-is_sign-clause-gives
returns-then-is_sign-clause-gives g c =
    let first : first_is (λ q. same_kind q (Sign OpenBracketSign)) (drop c.args.at c.args.self.now.level.cursor.tokens.now) ≡ true =
    search rules in
    more_along c.args.self.now.level.cursor.tokens.now raw_part_tree no_parts _
    (parts_on (deeper 63 c.args.self.now.level.left) c.args.room) (mono_part_on (deeper 63 c.args.self.now.level.left) c.args.room)
    (parts_on (deeper 63 c.args.self.now.level.left) (c.args.room - 1)) c.args.at
    (parts_bracket (deeper 63 c.args.self.now.level.left) c.args.room (drop c.args.at c.args.self.now.level.cursor.tokens.now) first)
    c.mono_part.ensures.gives

pub returns-then-begins-clause-gives : goal.returns-then-begins-clause-gives
returns-then-begins-clause-gives g c =
    let other : first_is (λ q. same_kind q (Sign OpenBracketSign)) (drop c.args.at c.args.self.now.level.cursor.tokens.now) ≡ false =
    search rules in
    let atom : first_is begins_atom (drop c.args.at c.args.self.now.level.cursor.tokens.now) ≡ true = search rules in
    more_along c.args.self.now.level.cursor.tokens.now raw_part_tree no_parts _
    (parts_on (deeper 63 c.args.self.now.level.left) c.args.room) (atom_part_on (deeper 63 c.args.self.now.level.left) c.args.room)
    (parts_on (deeper 63 c.args.self.now.level.left) (c.args.room - 1)) c.args.at
    (parts_atom (deeper 63 c.args.self.now.level.left) c.args.room (drop c.args.at c.args.self.now.level.cursor.tokens.now) other atom)
    c.atom_part.ensures.gives

pub returns-else-begins-clause-gives : goal.returns-else-begins-clause-gives
returns-else-begins-clause-gives g c =
    let other : first_is (λ q. same_kind q (Sign OpenBracketSign)) (drop c.args.at c.args.self.now.level.cursor.tokens.now) ≡ false =
    search rules in
    let atom : first_is begins_atom (drop c.args.at c.args.self.now.level.cursor.tokens.now) ≡ false = search rules in
    parts_none (deeper 63 c.args.self.now.level.left) c.args.room (drop c.args.at c.args.self.now.level.cursor.tokens.now) other atom
