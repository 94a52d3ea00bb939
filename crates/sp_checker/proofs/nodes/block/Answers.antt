use Rattle.std.proofs.Common.{Ok, refl}
use Rattle.sp_checker.proofs.Made.{block_parts}
use Rattle.sp_checker.proofs.nodes.block.Goals as goal

pub returns : goal.returns
returns c =
    record { made = block_parts c.args.mono c.args.heap (Ok c.args.heap) c.args.place c.formula_block.result refl c.formula_block.ensures.made }
