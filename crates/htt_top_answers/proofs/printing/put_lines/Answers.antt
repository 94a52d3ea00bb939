use Rattle.htt_top_answers.specs.Answers.{seen_answer}
use Rattle.htt_top_answers.proofs.PrintLemmas.{appended_done, puts_appended}
use Rattle.htt_top_answers.proofs.printing.put_lines.Goals as goal

pub returns-in-Ok : goal.returns-in-Ok
returns-in-Ok g c =
    rw c.status_of.ensures
    (puts_appended _ c.args.lines.now (seen_answer c.args.answer.now) (appended_done _ _ _ c.in-Ok.field-0 c.in-Ok.ensures.gives))
