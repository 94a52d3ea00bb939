use Rattle.std.proofs.Common.{arith}
use Rattle.sp_checker.proofs.Made.{as_tree}
use Rattle.sp_checker.proofs.EndMaps.{no_values, more_values, no_items}
use Rattle.sp_checker.proofs.ends.+some_values.Goals as goal

pub returns-in_default : goal.returns-in_default
returns-in_default t c =
    record { made = λ f made. as_tree c.args.body f _ (no_values c.args.count c.args.bound.now f (no_items c.args.bound.now c.in_default.ensures.cases)) made }

pub some_values-requires : goal.some_values-requires
some_values-requires t c =
    let less = c.in-Some.ensures.cases.1 in
    let at = c.decreases in
    (omega (arith, less, at), tt)

pub returns-in-Some-checked_add : goal.returns-in-Some-checked_add
returns-in-Some-checked_add t c =
    let first = c.in-Some.first.now in
    let others = c.in-Some.others.now in
    record {
      made = λ f made.
          as_tree c.some_value.result _ _ (more_values c.args.count c.in-Some-checked_add.next c.args.bound.now others first f c.in-Some.ensures.cases.0 c.in-Some-checked_add.ensures.1)
          (c.some_value.ensures.made _ _ c.shift_mono.ensures.shifted (c.some_values.ensures.made f made));
    }
