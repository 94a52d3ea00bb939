use Rattle.std.proofs.Common.{Ok, refl}
use Rattle.sp_checker.proofs.Made.{cell_parts}
use Rattle.sp_checker.proofs.nodes.cell.Goals as goal

pub returns : goal.returns
returns c =
    record {
      made = cell_parts c.args.mono c.args.heap (Ok c.args.heap) c.args.place c.args.value c.formula_cell.result refl
          c.formula_cell.ensures.made;
    }
