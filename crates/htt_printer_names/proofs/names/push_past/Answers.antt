use Rattle.std.proofs.Common.{rules, arith, append_assoc}
use Rattle.std.proofs.lemmas.Grind.{common_steps}
use Rattle.htt_printer_names.proofs.Inward.{past_none, past_some}
use Rattle.htt_printer_names.proofs.names.push_past.Goals as goal

pub returns-then-over-eq0 : goal.returns-then-over-eq0
returns-then-over-eq0 c = rw c.if-over-eq0.true (search (rules, past_none))

pub returns : goal.returns
returns c = rw (past_some c.args.over c.if-over-eq0.false) (grind (arith, common_steps))
