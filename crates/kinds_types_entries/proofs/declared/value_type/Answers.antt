use Rattle.std.proofs.Common.{sym}
use Rattle.htt_syntax.specs.Views.{ty_tree}
use Rattle.theory_checking.specs.Stops.{finds_none}
use Rattle.kinds_types_entries.proofs.Listed.{copy_comes, none_found}
use Rattle.kinds_types_entries.proofs.declared.value_type.Goals as goal

pub returns-in-Some : goal.returns-in-Some
returns-in-Some c =
    record {
      comes = copy_comes ty_tree c.args.vals.now c.args.number c.args.at c.in-Some.ty.now c.copied_type.result (sym c.in-Some.ensures.item)
          c.copied_type.ensures.same c.copied_type.ensures.memory;
    }

pub returns-in-None : goal.returns-in-None
returns-in-None c = record { comes = finds_none (none_found ty_tree c.args.vals.now c.args.number c.args.at (sym c.in-None.ensures.item)) }
