use Rattle.std.proofs.Common.{◌∙◌, sym, ap, map}
use Rattle.htt_syntax.specs.Levels.{mono_unit}
use Rattle.logic_axioms_shapes.specs.Slots.{slot_sort}
use Rattle.logic_axioms_shapes.proofs.Counts.{none_taken}
use Rattle.logic_axioms_shapes.proofs.signatures.plain.Goals as goal

pub returns : goal.returns
returns c = λ sorts e. (
  none_taken c.args.monos.now sorts _ c.in-empty.len_below
      (e ∙ sym (c.in_ok-sorts_of.ensures ∙ ap (λ t. map (slot_sort t) c.args.slots.now) mono_unit)),
  tt,
)
