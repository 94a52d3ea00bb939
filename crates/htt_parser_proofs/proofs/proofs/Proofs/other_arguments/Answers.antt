use Rattle.std.proofs.Common.{sym, drop}
use Rattle.theory_grammar.specs.Reading.{deeper, more_args}
use Rattle.htt_parser_words.proofs.Monotypes.{gives_along}
use Rattle.htt_parser_proofs.specs.Parts.{put_arg}
use Rattle.htt_parser_proofs.proofs.Lists.{onto_none}
use Rattle.htt_parser_proofs.proofs.proofs.Proofs.other_arguments.Goals as goal

pub returns : goal.returns
returns c =
    let told = more_args (deeper 63 c.args.left) (drop c.args.at c.args.self.now.phrases.cursor.tokens.now) in
    gives_along _ _ _ _ _ (sym (onto_none put_arg c.new.result.items told c.new.ensures.items)) c.more_arguments.ensures
