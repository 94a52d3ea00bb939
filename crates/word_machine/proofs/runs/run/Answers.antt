use Rattle.std.proofs.Common.{◌<◌, ◌^◌, [], arith}
use Rattle.heap_model_flat.specs.Blocks.{blocks_of}
use Rattle.word_machine.specs.States.{state_of}
use Rattle.word_machine.proofs.Stepping.{going_state}
use Rattle.word_machine.proofs.Running.{starts_running}
use Rattle.word_machine.proofs.Ending.{greatest_low, next_names, stops_next, free_next, ends_stopped, ends_halted, ends_faulted, ends_after_steps, asks_never}
use Rattle.word_machine.proofs.Ending.{runs_on}
use Rattle.word_machine.proofs.runs.run.Goals as goal

pub overflow_add-fresh : goal.overflow_add-fresh
overflow_add-fresh c = omega (arith, greatest_low _ _ c.greatest-fresh.ensures.greatest c.requires.low)

pub loop-init : goal.loop-init
loop-init c =
    record {
      greatest = c.greatest-fresh.result;
      is_greatest = c.greatest-fresh.ensures.greatest;
      running =
          starts_running c.args.code.now (blocks_of c.args.heap) c.greatest-fresh.result c.args.steps _ c.requires.valid
          c.in-Ok.ensures.starts c.in-Ok.ensures.fits;
    }

pub passed-requires : goal.passed-requires
passed-requires c = next_names c.args.code.now _ _ c.requires.valid c.loop.invariant.running.fits c.next_instr-instr.ensures.next

pub returns-in-Some : goal.returns-in-Some
unfolding state_of
returns-in-Some c =
    let m = c.loop.machine in
    let is = going_state m.over (blocks_of m.heap) m.frames c.loop.invariant.running.going in
    let passed = rw c.in-Some.is at c.in_ok-bound.ensures in
    ends_stopped c.args.code.now _ _ _ _ _ c.in-Some.bound c.in-Some.total c.loop.invariant (omega arith)
    (stops_next c.args.code.now (state_of m) (blocks_of m.heap) m.frames c.next_instr-instr.result.1 c.in-Some.bound c.in-Some.total is
    c.next_instr-instr.ensures.next passed)

pub next_fresh-fresh-requires : goal.next_fresh-fresh-requires
next_fresh-fresh-requires c =
    let low : c.loop.invariant.greatest < 2 ^ 63 = greatest_low _ _ c.loop.invariant.is_greatest c.requires.low in
    let few = c.loop.invariant.running.counted in
    omega (arith, few)

pub into_halt-requires : goal.into_halt-requires
into_halt-requires c =
    let s = (rw c.in-Halted.is at (c.in_ok-go.ensures.steps [])).0 in
    s

pub returns-in-Halted : goal.returns-in-Halted
unfolding state_of
returns-in-Halted c =
    let m = c.loop.machine in
    let is = going_state m.over (blocks_of m.heap) m.frames c.loop.invariant.running.going in
    let free =
    free_next c.args.code.now (state_of m) (blocks_of m.heap) m.frames c.next_instr-instr.result.1 is c.next_instr-instr.ensures.next
    (rw c.in_default-2.is at c.in_ok-bound.ensures) in
    ends_halted c.args.code.now _ _ _ (state_of m) c.loop.fresh (state_of c.go.new.self) _ c.loop.invariant (omega arith) free
    (rw c.in-Halted.is at c.in_ok-go.ensures.steps) c.into_halt.ensures

pub returns-in-Fault : goal.returns-in-Fault
unfolding state_of
returns-in-Fault c =
    let m = c.loop.machine in
    let is = going_state m.over (blocks_of m.heap) m.frames c.loop.invariant.running.going in
    let free =
    free_next c.args.code.now (state_of m) (blocks_of m.heap) m.frames c.next_instr-instr.result.1 is c.next_instr-instr.ensures.next
    (rw c.in_default-2.is at c.in_ok-bound.ensures) in
    ends_faulted c.args.code.now _ _ _ (state_of m) c.loop.fresh (state_of c.go.new.self) c.in-Fault.kind c.in-Fault.at c.loop.invariant
    (omega arith) free (rw c.in-Fault.is at c.in_ok-go.ensures.steps)

pub unreachable-requires : goal.unreachable-requires
unreachable-requires c =
    asks_never c.args.code.now _ _ _ (state_of c.loop.machine) c.loop.fresh (state_of c.go.new.self) c.requires.valid c.loop.invariant
    (omega arith) (rw c.in-Asks.is at c.in_ok-go.ensures.steps)

pub loop-preserved : goal.loop-preserved
unfolding state_of
loop-preserved c =
    let m = c.loop.machine in
    let is = going_state m.over (blocks_of m.heap) m.frames c.loop.invariant.running.going in
    let free =
    free_next c.args.code.now (state_of m) (blocks_of m.heap) m.frames c.next_instr-instr.result.1 is c.next_instr-instr.ensures.next
    (rw c.in_default-2.is at c.in_ok-bound.ensures) in
    rw c.next_fresh-fresh.ensures
    (runs_on c.args.code.now _ _ _ (state_of m) c.loop.fresh (state_of c.go.new.self) c.next_instr-instr.result.1 c.loop.invariant
    (omega arith) free (rw c.in-Going.is at c.in_ok-go.ensures.steps) c.in_ok-go.ensures.fits c.next_instr-instr.ensures.next)

pub returns : goal.returns
returns c = ends_after_steps c.args.code.now _ c.args.steps c.loop.counter _ _ c.loop.invariant (omega arith)
