use Rattle.std.proofs.Common.{◌++◌, string_bytes, sym, ap, ◌∙◌}
use Rattle.std.specs.Prelude.{codes}
use Rattle.heap_model.specs.Levels.{value_pair}
use Rattle.heap_model.specs.Views.{value_tree}
use Rattle.heap_model.specs.ValueText.{value_text}
use Rattle.heap_model.proofs.PairLemmas.{pieces_join}
use Rattle.heap_model.proofs.text.+push_value.Goals as goal

pub returns-in_ok-push_str-in-Pair-3 : goal.returns-in_ok-push_str-in-Pair-3
returns-in_ok-push_str-in-Pair-3 t c =
    let old = string_bytes c.args.text.now in
    let first = value_text (value_tree c.in-Pair.first) in
    let second = value_text (value_tree c.in-Pair.second) in
    c.in_ok-push_str-in-Pair-3.ensures.bytes
    ∙ ap (λ s. s ++ codes ")")
    (c.in_ok-push_value-in-Pair-2.ensures
    ∙ ap (λ v. string_bytes c.push_str-in-Pair-2.new.self ++ value_text (value_tree v)) c.get-in-Pair.ensures)
    ∙ ap (λ s. s ++ second ++ codes ")") c.in_ok-push_str-in-Pair-2.ensures.bytes
    ∙ ap (λ s. s ++ codes ", " ++ second ++ codes ")")
    (c.in_ok-push_value-in-Pair.ensures ∙ ap (λ v. string_bytes c.push_str-in-Pair.new.self ++ value_text (value_tree v)) c.get.ensures)
    ∙ ap (λ s. s ++ first ++ codes ", " ++ second ++ codes ")") c.in_ok-push_str-in-Pair.ensures.bytes
    ∙ pieces_join old (codes "(") first (codes ", ") second (codes ")")
    ∙ ap (λ v. old ++ value_text v) (sym (ap value_tree c.in-Pair.is ∙ value_pair c.in-Pair.first c.in-Pair.second))
