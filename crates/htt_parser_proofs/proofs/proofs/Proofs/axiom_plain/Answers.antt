use Rattle.std.proofs.Common.{refl}
use Rattle.htt_parser_trees.specs.ProofLevels.{raw_end_axiom}
use Rattle.theory_grammar.specs.Readers.{give, ◌>>=◌}
use Rattle.htt_parser_proofs.proofs.proofs.Proofs.axiom_plain.Goals as goal

pub returns : goal.returns
unfolding ◌>>=◌ give
returns c = rw (c.in_ok-arguments.ensures, c.in_ok-at.ensures, c.of.ensures.same_items, c.new.ensures.items, c.of-2.ensures.same_items, raw_end_axiom) refl
