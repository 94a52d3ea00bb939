use Rattle.std.proofs.Common.{refl}
use Rattle.word_loader_code.specs.Machine.{step, after_steps}
use Rattle.word_loader_code.proofs.laws.worked_runs.Goals as goal

pub returns : goal.returns
unfolding step after_steps
returns c = record {
  examples = record {
    two_steps = refl;
    wraps = refl;
    allocates = refl;
    no_choice = refl;
    zero_choice = refl;
    used_choice = refl;
    other_length = refl;
    at_null = refl;
    calls = refl;
    tail_calls = refl;
    jumps = refl;
    shifts = refl;
    goes_on = refl;
    first_chosen = refl;
    second_chosen = refl;
    written = refl;
    freed = refl;
    freed_twice = refl;
    set_of_other_length = refl;
    free_of_other_length = refl;
    other_locals = refl;
    tail_call_inside = refl;
    tail_call_outside = refl;
    before_the_end = λ x. x;
  };
}
