use Rattle.std.proofs.Common.{ℕ, ◌∙◌, List, [], sym, subst}
use Rattle.std.proofs.lemmas.Result.{err_from_is_err_and}
use Rattle.heap_model_flat.specs.Blocks.{blocks_of}
use Rattle.theory_machine.specs.Fits.{FitsCode}
use Rattle.theory_machine.proofs.Standing.{standing_at}
use Rattle.word_machine.specs.declared.stepped.Stepped.TheVariants.{Going}
use Rattle.word_machine.specs.States.{state_of}
use Rattle.word_machine.specs.Steps.{StepsTo}
use Rattle.word_machine.proofs.Stepping.{performed_machine, steps_fit, same_machine, going_fits, going_is}
use Rattle.word_machine.proofs.machine.Machine.go.Goals as goal

pub perform-requires-clause-fits : goal.perform-requires-clause-fits
unfolding state_of
perform-requires-clause-fits c =
    let m = c.args.self.now in
    going_fits c.args.code.now m.over (blocks_of m.heap) m.frames (going_is m.over (blocks_of m.heap) m.frames c.requires.going) c.requires.fits

pub returns-in_err-stepped-clause-unchanged : goal.returns-in_err-stepped-clause-unchanged
unfolding state_of
returns-in_err-stepped-clause-unchanged c =
    let m = c.args.self.now in
    let n = c.perform.new.self in
    let same =
    same_machine m.over n.over (blocks_of m.heap) (blocks_of n.heap) m.frames n.frames c.perform.ensures.same_over
    c.in_err-stepped.ensures.same_heap c.in_err-stepped.ensures.same_frames in
    let p = err_from_is_err_and c.from_residual.result c.from_residual.ensures.1 in
    rw p.1 same

pub returns-in_err-stepped-clause-fits : goal.returns-in_err-stepped-clause-fits
unfolding state_of
returns-in_err-stepped-clause-fits c =
    let m = c.args.self.now in
    let n = c.perform.new.self in
    let same =
    same_machine m.over n.over (blocks_of m.heap) (blocks_of n.heap) m.frames n.frames c.perform.ensures.same_over
    c.in_err-stepped.ensures.same_heap c.in_err-stepped.ensures.same_frames in
    subst (FitsCode c.args.code.now) (sym same) c.requires.fits

-- the instruction that was done, where the machine goes on, and where it is over or asks
went : (c : goal.In-Going) (rest : List ℕ) → StepsTo c.args.code.now (state_of c.args.self.now) c.args.fresh rest Going (state_of c.perform.new.self)
unfolding state_of
went c rest =
    let code = c.args.code.now in
    let m = c.args.self.now in
    let n = c.perform.new.self in
    let none = going_is m.over (blocks_of m.heap) m.frames c.requires.going in
    let fits = going_fits code m.over (blocks_of m.heap) m.frames none c.requires.fits in
    let st = standing_at code m.frames c.args.function.now c.args.instr c.requires.valid fits c.requires.function c.requires.instr in
    performed_machine code m.over n.over (blocks_of m.heap) m.frames c.args.function.now c.args.instr c.args.fresh rest Going
    (blocks_of n.heap) n.frames none (c.perform.ensures.same_over ∙ none) st ((rw c.in-Going.is at c.in_ok-stepped.ensures.performs) rest)

stopped : (c : goal.After-self-1) (rest : List ℕ)
    → StepsTo c.args.code.now (state_of c.args.self.now) c.args.fresh rest c.in_ok-stepped.stepped
    (state_of (record c.perform.new.self { over = c.over_after-self.result }))
unfolding state_of
stopped c rest =
    let code = c.args.code.now in
    let m = c.args.self.now in
    let n = c.perform.new.self in
    let none = going_is m.over (blocks_of m.heap) m.frames c.requires.going in
    let fits = going_fits code m.over (blocks_of m.heap) m.frames none c.requires.fits in
    let st = standing_at code m.frames c.args.function.now c.args.instr c.requires.valid fits c.requires.function c.requires.instr in
    performed_machine code m.over c.over_after-self.result (blocks_of m.heap) m.frames c.args.function.now c.args.instr c.args.fresh rest
    c.in_ok-stepped.stepped (blocks_of n.heap) n.frames none c.over_after-self.ensures st (c.in_ok-stepped.ensures.performs rest)

pub returns-in-Going-clause-steps : goal.returns-in-Going-clause-steps
unfolding state_of
returns-in-Going-clause-steps c = went c

pub returns-in-Going-clause-fits : goal.returns-in-Going-clause-fits
unfolding state_of
returns-in-Going-clause-fits c = steps_fit _ _ c.args.fresh [] Going _ c.requires.valid c.requires.fits (went c [])

pub returns-in_default : goal.returns-in_default
unfolding state_of
returns-in_default c = record {
  steps = stopped c;
  unchanged = tt;
  fits = steps_fit _ _ _ _ _ _ c.requires.valid c.requires.fits (stopped c []);
}
