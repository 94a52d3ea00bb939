use Rattle.std.proofs.Common.{◌-◌, refl}
use Rattle.htt_parser_trees.specs.TreeLevels.{raw_atom_sel}
use Rattle.htt_parser_words.proofs.Steps.{stopped, after_err, reading}
use Rattle.htt_parser_operands.proofs.operands.Operands.selection.Goals as goal

pub returns-in_err-mono : goal.returns-in_err-mono
unfolding reading
returns-in_err-mono g c = stopped _ _ _ _ _ c.from_residual.ensures.1 (after_err _ _ _ _ c.in_err-mono.ensures)

pub returns-in_err-at : goal.returns-in_err-at
unfolding reading
returns-in_err-at g c = stopped _ _ _ _ _ c.from_residual-in_err-at.ensures.1 (rw c.in_ok-mono.ensures (after_err _ _ _ _ c.in_err-at.ensures))

pub returns-in_err-test : goal.returns-in_err-test
unfolding reading
returns-in_err-test g c =
    stopped _ _ _ _ _ c.from_residual-in_err-test.ensures.1
    (rw (c.in_ok-mono.ensures, c.in_ok-at.ensures) (after_err _ _ _ _ c.in_err-test.ensures))

pub returns-in_err-at-2 : goal.returns-in_err-at-2
unfolding reading
returns-in_err-at-2 g c =
    stopped _ _ _ _ _ c.from_residual-in_err-at-2.ensures.1
    (rw (c.in_ok-mono.ensures, c.in_ok-at.ensures, c.in_ok-test.ensures) (after_err _ _ _ _ c.in_err-at-2.ensures))

pub returns-in_err-yes : goal.returns-in_err-yes
unfolding reading
returns-in_err-yes g c =
    stopped _ _ _ _ _ c.from_residual-in_err-yes.ensures.1
    (rw (c.in_ok-mono.ensures, c.in_ok-at.ensures, c.in_ok-test.ensures, c.in_ok-at-2.ensures) (after_err _ _ _ _ c.in_err-yes.ensures))

pub returns-in_err-at-3 : goal.returns-in_err-at-3
unfolding reading
returns-in_err-at-3 g c =
    stopped _ _ _ _ _ c.from_residual-in_err-at-3.ensures.1
    (rw (c.in_ok-mono.ensures, c.in_ok-at.ensures, c.in_ok-test.ensures, c.in_ok-at-2.ensures, c.in_ok-yes.ensures)
    (after_err _ _ _ _ c.in_err-at-3.ensures))

pub returns-in_err-no : goal.returns-in_err-no
unfolding reading
returns-in_err-no g c =
    stopped _ _ _ _ _ c.from_residual-in_err-no.ensures.1
    (rw (c.in_ok-mono.ensures, c.in_ok-at.ensures, c.in_ok-test.ensures, c.in_ok-at-2.ensures, c.in_ok-yes.ensures, c.in_ok-at-3.ensures)
    (after_err _ _ _ _ c.in_err-no.ensures))

pub returns-in_err-at-4 : goal.returns-in_err-at-4
unfolding reading
returns-in_err-at-4 g c =
    stopped _ _ _ _ _ c.from_residual-in_err-at-4.ensures.1
    (rw (
      c.in_ok-mono.ensures,
      c.in_ok-at.ensures,
      c.in_ok-test.ensures,
      c.in_ok-at-2.ensures,
      c.in_ok-yes.ensures,
      c.in_ok-at-3.ensures,
      c.in_ok-no.ensures,
    ) (after_err _ _ _ _ c.in_err-at-4.ensures))

pub returns : goal.returns
unfolding reading
returns g c =
    rw (
      c.in_ok-mono.ensures,
      c.in_ok-at.ensures,
      c.in_ok-test.ensures,
      c.in_ok-at-2.ensures,
      c.in_ok-yes.ensures,
      c.in_ok-at-3.ensures,
      c.in_ok-no.ensures,
      c.in_ok-at-4.ensures,
      raw_atom_sel,
    ) refl
