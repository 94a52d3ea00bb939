use Rattle.std.proofs.Common.{sym, ◌∙◌}
use Rattle.logic_axioms_names.proofs.Rows.{row_here, row_elsewhere}
use Rattle.logic_axioms_names.proofs.names.row_of.Goals as goal

pub returns-then-eq : goal.returns-then-eq
returns-then-eq c =
    sym (row_here c.args.table.now c.loop-name.name-index _ c.args.text.now c.loop-name-test.true (sym c.eq.ensures ∙ c.if-eq.true))
    ∙ c.loop-name.invariant

pub loop-name-preserved : goal.loop-name-preserved
loop-name-preserved c =
    sym (row_elsewhere c.args.table.now c.loop-name.name-index _ c.args.text.now c.loop-name-test.true
    (sym c.eq.ensures ∙ c.if-eq.false))
    ∙ c.loop-name.invariant
