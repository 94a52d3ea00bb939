use Rattle.std.proofs.Common.{[], None, refl}
use Rattle.word_machine.specs.States.{state_of}
use Rattle.theory_machine.proofs.Fitting.{started_fits}
use Rattle.word_machine.proofs.Stepping.{main_read}
use Rattle.word_machine.proofs.machine.start.Goals as goal

pub returns-in-Ok-clause-starts : goal.returns-in-Ok-clause-starts
unfolding state_of
returns-in-Ok-clause-starts c =
    let read = rw c.as_slice.ensures.same_items at c.index-as_slice-0.is in
    rw (main_read c.args.code.now c.index-as_slice-0.result c.requires read, c.in-Ok.ensures) refl

pub returns-in-Ok-clause-fits : goal.returns-in-Ok-clause-fits
unfolding state_of
returns-in-Ok-clause-fits c =
    let read = rw c.as_slice.ensures.same_items at c.index-as_slice-0.is in
    let main = main_read c.args.code.now c.index-as_slice-0.result c.requires read in
    rw c.in-Ok.ensures (rw main at (started_fits c.args.code.now (λ l. None) [] c.requires))
