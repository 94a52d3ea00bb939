use Rattle.std.proofs.Common.{rules, ◌≡◌, ◌<◌, ◌∙◌, length, [], ◌∷◌, sym, ap, arith, refl, inl, inr}
use Rattle.heap_model_flat.specs.Blocks.{blocks_of}
use Rattle.htt_top.proofs.EndLemmas.{fact_of}
use Rattle.htt_top.proofs.ValueLemmas.{value_end, value_words, no_fault, no_stop, empty_is_low}
use Rattle.htt_top.proofs.go.value.Goals as goal

pub run-requires-clause-low : goal.run-requires-clause-low
run-requires-clause-low c = empty_is_low (blocks_of c.new.result) c.new.ensures.empty

pub bounds-as_slice-0 : goal.bounds-as_slice-0
bounds-as_slice-0 c =
    let ends =
    value_end c.args.number c.in_ok-code.code (blocks_of c.new.result) c.in_ok-words.field-0 c.in_ok-code.ensures.code c.new.ensures.empty
    c.in_ok-words.ensures in
    let words : c.as_slice.result.now ≡ c.args.number ∷ [] =
    c.as_slice.ensures.same_items
    ∙ value_words c.args.number c.in-Halted.words (blocks_of c.in-Halted.field-1) (sym (ap fact_of c.in-Halted.is) ∙ ends) in
    let some : 0 < length c.as_slice.result.now = rw words (omega arith) in
    search rules

pub unreachable-requires : goal.unreachable-requires
unreachable-requires c =
    let ends =
    value_end c.args.number c.in_ok-code.code (blocks_of c.new.result) c.in_ok-words.field-0 c.in_ok-code.ensures.code c.new.ensures.empty
    c.in_ok-words.ensures in
    elim c.in-Fault.is [
      | inl x ↦ no_fault c.args.number x.0 x.1 (sym (ap fact_of x.2) ∙ ends)
      | inr x ↦ no_stop c.args.number x.0 x.1 (sym (ap fact_of x.2) ∙ ends)
    ]

pub returns : goal.returns
returns c =
    let ends =
    value_end c.args.number c.in_ok-code.code (blocks_of c.new.result) c.in_ok-words.field-0 c.in_ok-code.ensures.code c.new.ensures.empty
    c.in_ok-words.ensures in
    let words : c.as_slice.result.now ≡ c.args.number ∷ [] =
    c.as_slice.ensures.same_items
    ∙ value_words c.args.number c.in-Halted.words (blocks_of c.in-Halted.field-1) (sym (ap fact_of c.in-Halted.is) ∙ ends) in
    rw words refl
