use Rattle.htt_top_answers.specs.Printing.{printed}
use Rattle.htt_top.proofs.PrintedLemmas.{answers_exactly, answers_of}
use Rattle.htt_top.proofs.command.htt_command.Goals as goal

pub returns-clause-answers : goal.returns-clause-answers
returns-clause-answers g c =
    let p = printed (g.O.Sink.written c.args.out.now) (g.O.Sink.written c.print.new.out) (g.O.Sink.faults c.args.out.now) (g.O.Sink.faults c.print.new.out) in
    answers_of _ _ p _ c.print.result c.answer-answer.ensures.due c.print.ensures

pub returns-clause-exactly : goal.returns-clause-exactly
returns-clause-exactly g c =
    let p = printed (g.O.Sink.written c.args.out.now) (g.O.Sink.written c.print.new.out) (g.O.Sink.faults c.args.out.now) (g.O.Sink.faults c.print.new.out) in
    answers_exactly _ _ p c.print.result (answers_of _ _ p _ c.print.result c.answer-answer.ensures.due c.print.ensures)
