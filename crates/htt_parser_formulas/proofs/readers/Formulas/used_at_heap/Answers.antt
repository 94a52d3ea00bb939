use Rattle.std.proofs.Common.{◌-◌, refl}
use Rattle.htt_parser_trees.specs.TreeLevels.{raw_fatom_use_at_heap}
use Rattle.htt_parser_words.proofs.Steps.{stopped, after_err, reading}
use Rattle.htt_parser_formulas.proofs.readers.Formulas.used_at_heap.Goals as goal

pub returns-in_err-heap : goal.returns-in_err-heap
unfolding reading
returns-in_err-heap g c = stopped _ _ _ _ _ c.from_residual.ensures.1 (after_err _ _ _ _ c.in_err-heap.ensures)

pub returns-in_err-at : goal.returns-in_err-at
unfolding reading
returns-in_err-at g c = stopped _ _ _ _ _ c.from_residual-in_err-at.ensures.1 (rw c.in_ok-heap.ensures (after_err _ _ _ _ c.in_err-at.ensures))

pub returns-in_err-index : goal.returns-in_err-index
unfolding reading
returns-in_err-index g c =
    stopped _ _ _ _ _ c.from_residual-in_err-index.ensures.1
    (rw (c.in_ok-heap.ensures, c.in_ok-at.ensures) (after_err _ _ _ _ c.in_err-index.ensures))

pub returns-in_err-at-2 : goal.returns-in_err-at-2
unfolding reading
returns-in_err-at-2 g c =
    stopped _ _ _ _ _ c.from_residual-in_err-at-2.ensures.1
    (rw (c.in_ok-heap.ensures, c.in_ok-at.ensures, c.in_ok-index.ensures) (after_err _ _ _ _ c.in_err-at-2.ensures))

pub returns-in_err-terms : goal.returns-in_err-terms
unfolding reading
returns-in_err-terms g c =
    stopped _ _ _ _ _ c.from_residual-in_err-terms.ensures.1
    (rw (c.in_ok-heap.ensures, c.in_ok-at.ensures, c.in_ok-index.ensures, c.in_ok-at-2.ensures) (after_err _ _ _ _ c.in_err-terms.ensures))

pub returns-in_err-at-3 : goal.returns-in_err-at-3
unfolding reading
returns-in_err-at-3 g c =
    stopped _ _ _ _ _ c.from_residual-in_err-at-3.ensures.1
    (rw (c.in_ok-heap.ensures, c.in_ok-at.ensures, c.in_ok-index.ensures, c.in_ok-at-2.ensures, c.in_ok-terms.ensures)
    (after_err _ _ _ _ c.in_err-at-3.ensures))

pub returns : goal.returns
unfolding reading
returns g c =
    rw (
      c.in_ok-heap.ensures,
      c.in_ok-at.ensures,
      c.in_ok-index.ensures,
      c.in_ok-at-2.ensures,
      c.in_ok-terms.ensures,
      c.in_ok-at-3.ensures,
      raw_fatom_use_at_heap,
      c.of.ensures.same_items,
    ) refl
