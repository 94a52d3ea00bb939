use Rattle.std.proofs.Common.{rules}
use Rattle.htt_resolve_scopes.proofs.Outward.{entered}
use Rattle.htt_resolve_scopes.proofs.scope.Scope.enter.Goals as goal

pub returns-clause-entered : goal.returns-clause-entered
returns-clause-entered c = entered _ _ _ _ (record { name = c.args.name; sort = c.args.sort }) _ _ (search rules) c.in_ok-inner.ensures.past
