use Rattle.std.proofs.Common.{refl, ◌∙◌}
use Rattle.theory_grammar.specs.Readers.{give, ◌>>=◌}
use Rattle.theory_grammar.specs.Reading.{deeper}
use Rattle.htt_parser_words.proofs.Steps.{stopped, after_err}
use Rattle.htt_parser_words.proofs.Monotypes.{err_along, gives_along}
use Rattle.htt_parser_declarations.proofs.Lists.{names_is, names_rest}
use Rattle.htt_parser_declarations.proofs.declarations.Declarations.named_predicate.Goals as goal

pub returns-in_err-names : goal.returns-in_err-names
returns-in_err-names c =
    stopped _ _ _ _ _ c.from_residual.ensures.1 (err_along _ _ _ _ (names_is (deeper 63 c.args.left) c.args.name _) (after_err _ _ _ _ c.in_err-names.ensures))

pub returns-in_err-at : goal.returns-in_err-at
unfolding names_rest ◌>>=◌ give
returns-in_err-at c =
    stopped _ _ _ _ _ c.from_residual-in_err-at.ensures.1
    (err_along _ _ _ _ (names_is (deeper 63 c.args.left) c.args.name _)
    (rw (c.in_ok-names.ensures) (after_err _ _ _ _ c.in_err-at.ensures)))

pub returns : goal.returns
unfolding names_rest ◌>>=◌ give
returns c =
    gives_along _ _ _ _ _ (names_is (deeper 63 c.args.left) c.args.name _ ∙ rw (c.in_ok-names.ensures, c.in_ok-at.ensures) refl) c.predicate.ensures
