use Rattle.std.proofs.Common.{◌≡◌, drop}
use Rattle.htt_parser_trees.specs.Trees.{onto}
use Rattle.theory_grammar.specs.Reading.{file_on, deeper}
use Rattle.htt_parser_words.specs.Results.{mapped}
use Rattle.htt_parser_declarations.specs.Parts.{put_decl}
use Rattle.htt_parser_declarations.proofs.declarations.Declarations.declarations.Given as goal

-- the declarations so far, before those that there is room for
abbrev pub invariant-loop-declarations : goal.invariant-loop-declarations
invariant-loop-declarations l =
    file_on (deeper 63 256) 10_000 (drop l.fn.at l.self.proofs.phrases.cursor.tokens.now)
    ≡ mapped (onto put_decl l.declarations.items) (file_on (deeper 63 256) l.room (drop l.at l.self.proofs.phrases.cursor.tokens.now))

abbrev pub decreases-loop-declarations : goal.decreases-loop-declarations
decreases-loop-declarations l = l.room
