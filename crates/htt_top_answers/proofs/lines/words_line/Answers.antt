use Rattle.std.proofs.Common.{◌++◌, ◌∷◌, codes, take, get_or, sym, ap, ◌∙◌, arith}
use Rattle.std.specs.Fmt.{decimal}
use Rattle.std.proofs.lemmas.List.{append_assoc, take_more}
use Rattle.heap_model_text.specs.HeapText.{words_text}
use Rattle.heap_model_text.proofs.WordLemmas.{words_text-push}
use Rattle.htt_top_answers.proofs.lines.words_line.Goals as goal

pub loop-word-preserved : goal.loop-word-preserved
loop-word-preserved c =
    let ws = c.args.words.now in
    let i = c.loop-word.word-index in
    c.in_ok-write.ensures.bytes
    ∙ ap (λ t. t ++ (32 ∷ decimal (get_or ws i 0))) c.loop-word.invariant
    ∙ append_assoc (codes "words") (words_text (take i ws)) (32 ∷ decimal (get_or ws i 0))
    ∙ ap (λ t. codes "words" ++ t) (sym (words_text-push (take i ws) (get_or ws i 0)) ∙ ap words_text (sym (take_more ws i 0 (omega arith))))
