use Rattle.std.proofs.Common.{sym, ap, ◌∙◌}
use Rattle.htt_syntax_measure.specs.Measures.{mono_measure}
use Rattle.theory_text_sugar.specs.Putting.{put_for}
use Rattle.htt_resolve_sugar.proofs.measure.PutSizesSizes.at_mono.Goals as goal

pub returns : goal.returns
returns c = λ p d m e.
    c.mono_size.ensures.sized d c.args.index (put_for m.0 d c.args.index) (c.size_for.ensures.found m.0 d m.1 e)
    ∙ ap (λ q. mono_measure (q.on_mono d c.args.index)) (sym m.2)
