use Rattle.std.proofs.Common.{rules, sym, ◌∙◌}
use Rattle.htt_resolve_scopes.proofs.Rows.{rows_end}
use Rattle.htt_resolve_scopes.proofs.uses.declared_use.Goals as goal

pub returns : goal.returns
returns c = record { declared = sym (c.onward.invariant ∙ rows_end c.args.name.now c.onward.left.now (search rules)) }
