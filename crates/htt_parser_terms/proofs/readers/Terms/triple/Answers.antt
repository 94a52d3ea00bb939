use Rattle.std.proofs.Common.{◌-◌, refl}
use Rattle.htt_parser_trees.specs.TreeLevels.{raw_triple_tree}
use Rattle.theory_grammar.specs.Phrases.{triple_reader}
use Rattle.htt_parser_words.proofs.Steps.{stopped, after_err, reading}
use Rattle.htt_parser_terms.proofs.readers.Terms.triple.Goals as goal

pub returns-in_err-pre : goal.returns-in_err-pre
unfolding reading triple_reader
returns-in_err-pre g c = stopped _ _ _ _ _ c.from_residual.ensures.1 (after_err _ _ _ _ c.in_err-pre.ensures)

pub returns-in_err-at : goal.returns-in_err-at
unfolding reading triple_reader
returns-in_err-at g c = stopped _ _ _ _ _ c.from_residual-in_err-at.ensures.1 (rw c.in_ok-pre.ensures (after_err _ _ _ _ c.in_err-at.ensures))

pub returns-in_err-name : goal.returns-in_err-name
unfolding reading triple_reader
returns-in_err-name g c =
    stopped _ _ _ _ _ c.from_residual-in_err-name.ensures.1
    (rw (c.in_ok-pre.ensures, c.in_ok-at.ensures) (after_err _ _ _ _ c.in_err-name.ensures))

pub returns-in_err-at-2 : goal.returns-in_err-at-2
unfolding reading triple_reader
returns-in_err-at-2 g c =
    stopped _ _ _ _ _ c.from_residual-in_err-at-2.ensures.1
    (rw (c.in_ok-pre.ensures, c.in_ok-at.ensures, c.in_ok-name.ensures) (after_err _ _ _ _ c.in_err-at-2.ensures))

pub returns-in_err-result : goal.returns-in_err-result
unfolding reading triple_reader
returns-in_err-result g c =
    stopped _ _ _ _ _ c.from_residual-in_err-result.ensures.1
    (rw (c.in_ok-pre.ensures, c.in_ok-at.ensures, c.in_ok-name.ensures, c.in_ok-at-2.ensures) (after_err _ _ _ _ c.in_err-result.ensures))

pub returns-in_err-at-3 : goal.returns-in_err-at-3
unfolding reading triple_reader
returns-in_err-at-3 g c =
    stopped _ _ _ _ _ c.from_residual-in_err-at-3.ensures.1
    (rw (c.in_ok-pre.ensures, c.in_ok-at.ensures, c.in_ok-name.ensures, c.in_ok-at-2.ensures, c.in_ok-result.ensures)
    (after_err _ _ _ _ c.in_err-at-3.ensures))

pub returns-in_err-post : goal.returns-in_err-post
unfolding reading triple_reader
returns-in_err-post g c =
    stopped _ _ _ _ _ c.from_residual-in_err-post.ensures.1
    (rw (c.in_ok-pre.ensures, c.in_ok-at.ensures, c.in_ok-name.ensures, c.in_ok-at-2.ensures, c.in_ok-result.ensures, c.in_ok-at-3.ensures)
    (after_err _ _ _ _ c.in_err-post.ensures))

pub returns-in_err-at-4 : goal.returns-in_err-at-4
unfolding reading triple_reader
returns-in_err-at-4 g c =
    stopped _ _ _ _ _ c.from_residual-in_err-at-4.ensures.1
    (rw (
      c.in_ok-pre.ensures,
      c.in_ok-at.ensures,
      c.in_ok-name.ensures,
      c.in_ok-at-2.ensures,
      c.in_ok-result.ensures,
      c.in_ok-at-3.ensures,
      c.in_ok-post.ensures,
    ) (after_err _ _ _ _ c.in_err-at-4.ensures))

pub returns : goal.returns
unfolding reading triple_reader raw_triple_tree
returns g c =
    rw (
      c.in_ok-pre.ensures,
      c.in_ok-at.ensures,
      c.in_ok-name.ensures,
      c.in_ok-at-2.ensures,
      c.in_ok-result.ensures,
      c.in_ok-at-3.ensures,
      c.in_ok-post.ensures,
      c.in_ok-at-4.ensures,
    ) refl
