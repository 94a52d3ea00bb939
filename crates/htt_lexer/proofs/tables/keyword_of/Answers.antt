use Rattle.std.specs.Prelude.{None}
use Rattle.std.proofs.Common.{◌≡◌, ◌∙◌, refl, arith}
use Rattle.htt_lexer.specs.Tables.{lookup, keyword_table}
use Rattle.htt_lexer.proofs.Rows.{by_option, lookup-of_length, word_length_bounds}
use Rattle.htt_lexer.proofs.tables.keyword_of.Goals as goal

pub returns-in-2 : goal.returns-in-2
unfolding keyword_table
returns-in-2 c = c.row_of.ensures ∙ lookup-of_length 2 keyword_table c.args.word.now c.in-2.is

pub returns-in-3 : goal.returns-in-3
unfolding keyword_table
returns-in-3 c = c.row_of-in-3.ensures ∙ lookup-of_length 3 keyword_table c.args.word.now c.in-3.is

pub returns-in-4 : goal.returns-in-4
unfolding keyword_table
returns-in-4 c = c.row_of-in-4.ensures ∙ lookup-of_length 4 keyword_table c.args.word.now c.in-4.is

pub returns-in-5 : goal.returns-in-5
unfolding keyword_table
returns-in-5 c = c.row_of-in-5.ensures ∙ lookup-of_length 5 keyword_table c.args.word.now c.in-5.is

pub returns-in-6 : goal.returns-in-6
unfolding keyword_table
returns-in-6 c = c.row_of-in-6.ensures ∙ lookup-of_length 6 keyword_table c.args.word.now c.in-6.is

pub returns-in-7 : goal.returns-in-7
unfolding keyword_table
returns-in-7 c = c.row_of-in-7.ensures ∙ lookup-of_length 7 keyword_table c.args.word.now c.in-7.is

pub returns-in_default : goal.returns-in_default
returns-in_default c =
    by_option (λ o. None ≡ o) (lookup keyword_table c.args.word.now) (λ _. refl) (λ k e.
    absurd (grind (arith, word_length_bounds c.args.word.now k e)))
