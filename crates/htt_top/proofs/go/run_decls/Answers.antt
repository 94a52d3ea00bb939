use Rattle.std.proofs.Common.{map, ap}
use Rattle.std.specs.Prelude.{is_some}
use Rattle.htt_parser_trees.specs.DeclViews.{raw_decl_tree}
use Rattle.htt_top_answers.specs.Answers.{seen_answer}
use Rattle.htt_top.proofs.TextLemmas.{decls_gives}
use Rattle.htt_top.proofs.go.run_decls.Goals as goal

pub returns-in-Some : goal.returns-in-Some
returns-in-Some c =
    decls_gives c.args.bytes.now (map raw_decl_tree c.args.decls.now) c.in-Some.form (seen_answer c.run_form.result) c.in-Some.ensures.some
    c.run_form.ensures

pub returns-in-None : goal.returns-in-None
returns-in-None c = c.form_of.ensures.none (ap is_some c.in-None.is)
