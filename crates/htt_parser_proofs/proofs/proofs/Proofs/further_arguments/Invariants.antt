use Rattle.std.proofs.Common.{◌≡◌, drop}
use Rattle.htt_parser_trees.specs.Trees.{onto}
use Rattle.theory_grammar.specs.Reading.{args_on, deeper}
use Rattle.htt_parser_words.specs.Results.{mapped}
use Rattle.htt_parser_proofs.specs.Parts.{put_arg}
use Rattle.htt_parser_proofs.proofs.proofs.Proofs.further_arguments.Given as goal

-- the arguments so far, before those that there is room for
abbrev pub invariant-loop-arguments : goal.invariant-loop-arguments
invariant-loop-arguments l =
    args_on (deeper 63 l.left) 62 (drop l.fn.at l.self.phrases.cursor.tokens.now)
    ≡ mapped (onto put_arg l.arguments.items) (args_on (deeper 63 l.left) l.room (drop l.at l.self.phrases.cursor.tokens.now))

abbrev pub decreases-loop-arguments : goal.decreases-loop-arguments
decreases-loop-arguments l = l.room
