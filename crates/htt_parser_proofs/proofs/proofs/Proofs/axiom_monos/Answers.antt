use Rattle.std.proofs.Common.{◌≡◌, refl, ◌∙◌, ℕ, List, drop}
use Rattle.std.specs.Prelude.{Result, Ok, Err}
use Rattle.htt_lexer_tokens.specs.declared.tokens.Token.{Token}
use Rattle.htt_parser_trees.specs.declared.place.Span.{Span}
use Rattle.htt_parser_trees.specs.Trees.{RawMonoTree, RawEndTree}
use Rattle.htt_parser_trees.specs.ProofLevels.{raw_end_axiom}
use Rattle.theory_grammar.specs.Readers.{Reader, then_read, give, ◌>>=◌}
use Rattle.theory_grammar.specs.Phrases.{Deeper}
use Rattle.theory_grammar.specs.Reading.{deeper, axiom_monos_on}
use Rattle.htt_parser_words.specs.Lists.{monos_at}
use Rattle.htt_parser_words.proofs.Steps.{stopped, after_err}
use Rattle.htt_parser_words.proofs.Monotypes.{err_along}
use Rattle.htt_parser_proofs.proofs.Lists.{axiom_rest, axiom_is}
use Rattle.htt_parser_proofs.proofs.proofs.Proofs.axiom_monos.Goals as goal

pub returns-in_err-monos : goal.returns-in_err-monos
returns-in_err-monos c =
    stopped _ _ _ _ _ c.from_residual.ensures.1
    (err_along _ _ _ _ (axiom_is (deeper 63 c.args.left) c.args.from c.args.name _) (after_err _ _ _ _ c.in_err-monos.ensures))

pub returns-in_err-at : goal.returns-in_err-at
unfolding axiom_rest ◌>>=◌ give
returns-in_err-at c =
    stopped _ _ _ _ _ c.from_residual-in_err-at.ensures.1
    (err_along _ _ _ _ (axiom_is (deeper 63 c.args.left) c.args.from c.args.name _)
    (rw (c.in_ok-monos.ensures) (after_err _ _ _ _ c.in_err-at.ensures)))

pub returns-in_err-at-2 : goal.returns-in_err-at-2
unfolding axiom_rest ◌>>=◌ give
returns-in_err-at-2 c =
    stopped _ _ _ _ _ c.from_residual-in_err-at-2.ensures.1
    (err_along _ _ _ _ (axiom_is (deeper 63 c.args.left) c.args.from c.args.name _)
    (rw (c.in_ok-monos.ensures, c.in_ok-at.ensures) (after_err _ _ _ _ c.in_err-at-2.ensures)))

pub returns-in_err-arguments : goal.returns-in_err-arguments
unfolding axiom_rest ◌>>=◌ give
returns-in_err-arguments c =
    stopped _ _ _ _ _ c.from_residual-in_err-arguments.ensures.1
    (err_along _ _ _ _ (axiom_is (deeper 63 c.args.left) c.args.from c.args.name _)
    (rw (c.in_ok-monos.ensures, c.in_ok-at.ensures, c.in_ok-at-2.ensures) (after_err _ _ _ _ c.in_err-arguments.ensures)))

pub returns-in_err-at-3 : goal.returns-in_err-at-3
unfolding axiom_rest ◌>>=◌ give
returns-in_err-at-3 c =
    stopped _ _ _ _ _ c.from_residual-in_err-at-3.ensures.1
    (err_along _ _ _ _ (axiom_is (deeper 63 c.args.left) c.args.from c.args.name _)
    (rw (c.in_ok-monos.ensures, c.in_ok-at.ensures, c.in_ok-at-2.ensures, c.in_ok-arguments.ensures)
    (after_err _ _ _ _ c.in_err-at-3.ensures)))

pub returns : goal.returns
unfolding axiom_rest ◌>>=◌ give
returns c =
    axiom_is (deeper 63 c.args.left) c.args.from c.args.name _
    ∙ rw (
      c.in_ok-monos.ensures,
      c.in_ok-at.ensures,
      c.in_ok-at-2.ensures,
      c.in_ok-arguments.ensures,
      c.in_ok-at-3.ensures,
      c.of.ensures.same_items,
      c.of-2.ensures.same_items,
      raw_end_axiom,
    ) refl
