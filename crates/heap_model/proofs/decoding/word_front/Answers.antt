use Rattle.std.proofs.Common.{◌<◌, Some, length, get_or, refl, sym, ap, ◌∙◌, arith}
use Rattle.heap_model.specs.Levels.{value_word}
use Rattle.heap_model.proofs.FrontLemmas.{word_in_front}
use Rattle.heap_model.proofs.decoding.word_front.Goals as goal

pub returns : goal.returns
returns c =
    let words = c.args.words.now in
    let l : 0 < length words = grind arith in
    let w = word_in_front words l (omega (arith, c.type_inv.words 0)) in
    (w.0 ∙ ap Some (sym (value_word (get_or words 0 0))), refl, l)
