use Rattle.std.proofs.Common.{rules, arith}
use Rattle.std.proofs.lemmas.Grind.{common_steps}
use Rattle.htt_resolve_scopes.specs.declared.local.Sort.TheVariants as sorts
use Rattle.htt_printer_names.proofs.Inward.{init_spelled, mem_spelled, named_spelled}
use Rattle.htt_printer_names.proofs.names.push_entry_at.Goals as goal

pub returns-in_ok-extend_from_slice-in-Init : goal.returns-in_ok-extend_from_slice-in-Init
returns-in_ok-extend_from_slice-in-Init c =
    rw (init_spelled c.args.entries.now c.args.position sorts.Mono c.requires.there c.in-Init.is) (grind (arith, common_steps))

pub returns-in_ok-extend_from_slice-in-Mem : goal.returns-in_ok-extend_from_slice-in-Mem
returns-in_ok-extend_from_slice-in-Mem c =
    rw (mem_spelled c.args.entries.now c.args.position sorts.Mono c.requires.there c.in-Mem.is) (grind (arith, common_steps))

pub returns-in_default : goal.returns-in_default
returns-in_default c =
    rw (named_spelled c.args.entries.now c.args.position sorts.Mono c.in_default.sort c.requires.there c.in_default.sort-is c.in_default.not-Init c.in_default.not-Mem)
    (search rules)
