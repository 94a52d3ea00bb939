use Rattle.std.specs.Prelude.{None}
use Rattle.std.proofs.Common.{◌≡◌, ◌∙◌, refl, arith}
use Rattle.htt_lexer.specs.Tables.{lookup, sign_table}
use Rattle.htt_lexer.proofs.Rows.{by_option, lookup-of_length, sign_length_bounds}
use Rattle.htt_lexer.proofs.tables.sign_of.Goals as goal

pub returns-in-1 : goal.returns-in-1
unfolding sign_table
returns-in-1 c = c.row_of.ensures ∙ lookup-of_length 1 sign_table c.args.spelling.now c.in-1.is

pub returns-in-2 : goal.returns-in-2
unfolding sign_table
returns-in-2 c = c.row_of-in-2.ensures ∙ lookup-of_length 2 sign_table c.args.spelling.now c.in-2.is

pub returns-in-3 : goal.returns-in-3
unfolding sign_table
returns-in-3 c = c.row_of-in-3.ensures ∙ lookup-of_length 3 sign_table c.args.spelling.now c.in-3.is

pub returns-in_default : goal.returns-in_default
returns-in_default c =
    by_option (λ o. None ≡ o) (lookup sign_table c.args.spelling.now) (λ _. refl) (λ s e.
    absurd (grind (arith, sign_length_bounds c.args.spelling.now s e)))
