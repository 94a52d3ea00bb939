use Rattle.std.proofs.Common.{option_map}
use Rattle.htt_top_answers.specs.Answers.{seen_answer}
use Rattle.htt_top.proofs.DueLemmas.{due_of_run}
use Rattle.htt_top.proofs.command.answer.Goals as goal

pub returns-in-Some-Run-clause-due : goal.returns-in-Some-Run-clause-due
returns-in-Some-Run-clause-due g c =
    let form = rw c.in-Some-Run.field-0-is at c.in-Some-Run.ensures in
    due_of_run _ _ c.in-Some-Run.code.now (option_map (λ n. n.now) c.in-Some-Run.heap) c.in-Some-Run.steps c.unwrap_or.result
    (seen_answer c.load_and_run.result)
    form c.unwrap_or.ensures c.load_and_run.ensures.due
