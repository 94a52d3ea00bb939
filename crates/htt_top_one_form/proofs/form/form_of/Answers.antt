use Rattle.std.proofs.Common.{map}
use Rattle.htt_parser_trees.specs.DeclViews.{raw_decl_tree}
use Rattle.htt_top_one_form.proofs.Meaning.{some_is, none_told}
use Rattle.htt_top_one_form.proofs.form.form_of.Goals as goal

pub returns-clause-some : goal.returns-clause-some
returns-clause-some c = some_is c.args.text.now (map raw_decl_tree c.args.decls.now) c.form_in.result c.form_in.ensures

pub returns-clause-none : goal.returns-clause-none
returns-clause-none c = none_told c.args.text.now (map raw_decl_tree c.args.decls.now) c.form_in.result c.form_in.ensures
