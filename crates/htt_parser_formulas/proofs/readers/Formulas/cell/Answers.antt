use Rattle.std.proofs.Common.{◌-◌, refl}
use Rattle.htt_parser_trees.specs.TreeLevels.{raw_fatom_cell}
use Rattle.htt_parser_words.proofs.Steps.{stopped, after_err, reading}
use Rattle.htt_parser_formulas.proofs.readers.Formulas.cell.Goals as goal

pub returns-in_err-mono : goal.returns-in_err-mono
unfolding reading
returns-in_err-mono g c = stopped _ _ _ _ _ c.from_residual.ensures.1 (after_err _ _ _ _ c.in_err-mono.ensures)

pub returns-in_err-at : goal.returns-in_err-at
unfolding reading
returns-in_err-at g c = stopped _ _ _ _ _ c.from_residual-in_err-at.ensures.1 (rw c.in_ok-mono.ensures (after_err _ _ _ _ c.in_err-at.ensures))

pub returns-in_err-heap : goal.returns-in_err-heap
unfolding reading
returns-in_err-heap g c =
    stopped _ _ _ _ _ c.from_residual-in_err-heap.ensures.1
    (rw (c.in_ok-mono.ensures, c.in_ok-at.ensures) (after_err _ _ _ _ c.in_err-heap.ensures))

pub returns-in_err-at-2 : goal.returns-in_err-at-2
unfolding reading
returns-in_err-at-2 g c =
    stopped _ _ _ _ _ c.from_residual-in_err-at-2.ensures.1
    (rw (c.in_ok-mono.ensures, c.in_ok-at.ensures, c.in_ok-heap.ensures) (after_err _ _ _ _ c.in_err-at-2.ensures))

pub returns-in_err-place : goal.returns-in_err-place
unfolding reading
returns-in_err-place g c =
    stopped _ _ _ _ _ c.from_residual-in_err-place.ensures.1
    (rw (c.in_ok-mono.ensures, c.in_ok-at.ensures, c.in_ok-heap.ensures, c.in_ok-at-2.ensures) (after_err _ _ _ _ c.in_err-place.ensures))

pub returns-in_err-at-3 : goal.returns-in_err-at-3
unfolding reading
returns-in_err-at-3 g c =
    stopped _ _ _ _ _ c.from_residual-in_err-at-3.ensures.1
    (rw (c.in_ok-mono.ensures, c.in_ok-at.ensures, c.in_ok-heap.ensures, c.in_ok-at-2.ensures, c.in_ok-place.ensures)
    (after_err _ _ _ _ c.in_err-at-3.ensures))

pub returns-in_err-value : goal.returns-in_err-value
unfolding reading
returns-in_err-value g c =
    stopped _ _ _ _ _ c.from_residual-in_err-value.ensures.1
    (rw (c.in_ok-mono.ensures, c.in_ok-at.ensures, c.in_ok-heap.ensures, c.in_ok-at-2.ensures, c.in_ok-place.ensures, c.in_ok-at-3.ensures)
    (after_err _ _ _ _ c.in_err-value.ensures))

pub returns-in_err-at-4 : goal.returns-in_err-at-4
unfolding reading
returns-in_err-at-4 g c =
    stopped _ _ _ _ _ c.from_residual-in_err-at-4.ensures.1
    (rw (
      c.in_ok-mono.ensures,
      c.in_ok-at.ensures,
      c.in_ok-heap.ensures,
      c.in_ok-at-2.ensures,
      c.in_ok-place.ensures,
      c.in_ok-at-3.ensures,
      c.in_ok-value.ensures,
    ) (after_err _ _ _ _ c.in_err-at-4.ensures))

pub returns : goal.returns
unfolding reading
returns g c =
    rw (
      c.in_ok-mono.ensures,
      c.in_ok-at.ensures,
      c.in_ok-heap.ensures,
      c.in_ok-at-2.ensures,
      c.in_ok-place.ensures,
      c.in_ok-at-3.ensures,
      c.in_ok-value.ensures,
      c.in_ok-at-4.ensures,
      raw_fatom_cell,
    ) refl
