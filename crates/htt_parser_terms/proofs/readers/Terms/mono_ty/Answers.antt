use Rattle.std.proofs.Common.{refl}
use Rattle.htt_parser_trees.specs.TreeLevels.{raw_ty_mono}
use Rattle.htt_parser_words.proofs.Steps.{stopped, after_err, reading}
use Rattle.htt_parser_terms.proofs.readers.Terms.mono_ty.Goals as goal

pub returns-in_err-mono : goal.returns-in_err-mono
unfolding reading
returns-in_err-mono g c = stopped _ _ _ _ _ c.from_residual.ensures.1 (after_err _ _ _ _ c.in_err-mono.ensures)

pub returns : goal.returns
unfolding reading
returns g c = rw (c.in_ok-mono.ensures, raw_ty_mono) refl
