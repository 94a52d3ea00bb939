use Rattle.std.proofs.Common.{◌++◌, sym, ap, ◌∙◌}
use Rattle.std.proofs.lemmas.List.{append_assoc, append-nil}
use Rattle.theory_values.specs.Values.{encoding}
use Rattle.heap_model.specs.Levels.{value_unit, value_pair}
use Rattle.heap_model.specs.Views.{value_tree}
use Rattle.heap_model.proofs.coding.+push_words.Goals as goal

pub returns-in-Unit : goal.returns-in-Unit
returns-in-Unit t c = sym (append-nil c.args.words.now.items) ∙ ap (λ v. c.args.words.now.items ++ encoding v) (sym (ap value_tree c.in-Unit.is ∙ value_unit))

pub returns-in_ok-push_words-in-Pair-2 : goal.returns-in_ok-push_words-in-Pair-2
returns-in_ok-push_words-in-Pair-2 t c =
    let old = c.args.words.now.items in
    let first = encoding (value_tree c.in-Pair.first) in
    let second = encoding (value_tree c.in-Pair.second) in
    c.in_ok-push_words-in-Pair-2.ensures
    ∙ ap (λ v. c.push_words.new.words.items ++ encoding (value_tree v)) c.get-in-Pair.ensures
    ∙ ap (λ ws. ws ++ second) (c.in_ok-push_words-in-Pair.ensures ∙ ap (λ v. old ++ encoding (value_tree v)) c.get.ensures)
    ∙ append_assoc old first second
    ∙ ap (λ v. old ++ encoding v) (sym (ap value_tree c.in-Pair.is ∙ value_pair c.in-Pair.first c.in-Pair.second))
