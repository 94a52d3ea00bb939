use Rattle.std.proofs.Common.{sym}
use Rattle.htt_syntax.specs.Views.{mono_tree, term_tree, formula_tree}
use Rattle.sp_checker.proofs.Made.{as_tree}
use Rattle.sp_checker.proofs.EndMaps.{whole_end}
use Rattle.sp_checker.proofs.ends.finish.Goals as goal

pub returns-in-Ok : goal.returns-in-Ok
returns-in-Ok c =
    let end = whole_end c.in-Ok.count c.args.bound.now (formula_tree c.args.state.now) (mono_tree c.args.mono.now) (term_tree c.args.value.now) (sym c.in-Ok.ensures.1) in
    record { state = as_tree c.some_values.result _ _ end (c.some_values.ensures.made _ c.ending.ensures.state) }
