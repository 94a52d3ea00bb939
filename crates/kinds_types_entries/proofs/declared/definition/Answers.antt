use Rattle.std.proofs.Common.{sym}
use Rattle.theory_views.specs.Environments.{def_tree}
use Rattle.theory_checking.specs.Stops.{finds_none}
use Rattle.kinds_types_entries.proofs.Listed.{copy_comes, none_found}
use Rattle.kinds_types_entries.proofs.declared.definition.Goals as goal

pub returns-in-Some : goal.returns-in-Some
returns-in-Some c =
    record {
      comes = copy_comes def_tree c.args.defs.now c.args.number c.args.at c.in-Some.definition.now c.copied_definition.result (sym c.in-Some.ensures.item)
          c.copied_definition.ensures.same c.copied_definition.ensures.memory;
    }

pub returns-in-None : goal.returns-in-None
returns-in-None c = record { comes = finds_none (none_found def_tree c.args.defs.now c.args.number c.args.at (sym c.in-None.ensures.item)) }
