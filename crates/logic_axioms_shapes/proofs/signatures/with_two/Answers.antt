use Rattle.std.proofs.Common.{◌∙◌, sym, ap, map}
use Rattle.htt_syntax.specs.Levels.{mono_unit}
use Rattle.logic_axioms_shapes.specs.Slots.{slot_sort}
use Rattle.logic_axioms_shapes.proofs.Counts.{two_taken}
use Rattle.logic_axioms_shapes.proofs.signatures.with_two.Goals as goal

pub returns : goal.returns
returns c = λ sorts e. (
  two_taken c.args.monos.now sorts _ c.in-len2.len_at_least c.in-len2.len_below (λ t s.
      e t s ∙ sym (c.in_ok-sorts_of.ensures ∙ ap (λ u. map (slot_sort u) c.args.slots.now) mono_unit)),
  tt,
)
