use Rattle.std.proofs.Common.{◌<◌, Some, length, get_or, nat_eq, refl, sym, ap, ◌∙◌, arith}
use Rattle.heap_model.specs.Levels.{value_bool}
use Rattle.heap_model.proofs.FrontLemmas.{truth_in_front}
use Rattle.heap_model.proofs.decoding.bool_front.Goals as goal

pub returns : goal.returns
returns c =
    let words = c.args.words.now in
    let l : 0 < length words = grind arith in
    (truth_in_front words l c.if-words-gt1.false ∙ ap Some (sym (value_bool (nat_eq (get_or words 0 0) 1))), refl, l)
