use Rattle.std.proofs.Common.{ap, sym, ◌∙◌}
use Rattle.std.specs.Str.{bytes_eq}
use Rattle.htt_lexer.proofs.Rows.{row_here, row_elsewhere}
use Rattle.htt_lexer.proofs.tables.row_of.Goals as goal

pub returns-then-eq : goal.returns-then-eq
returns-then-eq g c =
    let same = ap (bytes_eq c.args.spelling.now) (sym c.as_bytes.ensures.value) ∙ sym c.eq.ensures ∙ c.if-eq.true in
    sym (row_here c.args.table.now c.loop-text.text-index c.loop-text-item.result c.args.spelling.now c.loop-text-test.true
    c.loop-text-item.is same)
    ∙ c.loop-text.invariant

pub loop-text-preserved : goal.loop-text-preserved
loop-text-preserved g c =
    let other = ap (bytes_eq c.args.spelling.now) (sym c.as_bytes.ensures.value) ∙ sym c.eq.ensures ∙ c.if-eq.false in
    sym (row_elsewhere c.args.table.now c.loop-text.text-index c.loop-text-item.result c.args.spelling.now c.loop-text-test.true
    c.loop-text-item.is other)
    ∙ c.loop-text.invariant
