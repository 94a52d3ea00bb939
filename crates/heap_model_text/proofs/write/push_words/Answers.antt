use Rattle.std.proofs.Common.{◌++◌, ◌∷◌, take, get_or, string_bytes, sym, ap, ◌∙◌, arith}
use Rattle.std.specs.Fmt.{decimal}
use Rattle.std.proofs.lemmas.List.{append_assoc, take_more}
use Rattle.heap_model_text.specs.HeapText.{words_text}
use Rattle.heap_model_text.proofs.WordLemmas.{words_text-push}
use Rattle.heap_model_text.proofs.write.push_words.Goals as goal

pub loop-word-preserved : goal.loop-word-preserved
loop-word-preserved c =
    let b = c.args.block.now in
    let i = c.loop-word.word-index in
    c.in_ok-write.ensures.bytes
    ∙ ap (λ t. t ++ (32 ∷ decimal (get_or b i 0))) c.loop-word.invariant
    ∙ append_assoc (string_bytes c.args.text.now) (words_text (take i b)) (32 ∷ decimal (get_or b i 0))
    ∙ ap (λ t. string_bytes c.args.text.now ++ t) (sym (words_text-push (take i b) (get_or b i 0)) ∙ ap words_text (sym (take_more b i 0 (omega arith))))
