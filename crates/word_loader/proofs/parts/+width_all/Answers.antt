use Rattle.std.proofs.Common.{◌-◌, length, drop, arith}
use Rattle.std.proofs.lemmas.List.{length-take, length-drop}
use Rattle.word_loader.proofs.parts.+width_all.Goals as goal

pub returns-in-len1-up-clause-narrow : goal.returns-in-len1-up-clause-narrow
returns-in-len1-up-clause-narrow t c =
    let all = c.args.operands.now in
    omega (arith, c.width.ensures.narrow, c.width_all.ensures.narrow, length-take (length all - 1) (drop 1 all), length-drop 1 all, c.in-len1-up.len_at_least)
