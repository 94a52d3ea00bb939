-- The further arguments of `inst` are those of a list, whatever operands they begin.
use Rattle.std.proofs.Common.{ℕ, suc, List, [], ◌∷◌}
use Rattle.htt_lexer_tokens.specs.declared.tokens.Sign.TheVariants.{CommaSign}
use Rattle.htt_lexer_tokens.specs.declared.tokens.Token.{Token}
use Rattle.htt_parser_trees.specs.Trees.{RawArgTree}
use Rattle.htt_parser_table.specs.declared.symbols.Nonterminal.{Nonterminal}
use Rattle.theory_grammar.specs.Marks.{◌⨟◌, sign, numbered, each_after}
use Rattle.theory_grammar.specs.Grammar
use Rattle.theory_grammar_table.proofs.Takes.{Takes, Reads, Makes, join_takes, split_takes, renumbered_takes, unnumbered_takes}

without : (l k : ℕ) (xs : List RawArgTree) (ts us : List Token)
    → Takes (Grammar.args_after l k xs) ts us
    → Takes (each_after (sign l CommaSign) (Grammar.arg l) xs) ts us
unfolding each_after
without l k [] ts us takes = takes
without l k (x ∷ xs) ts us takes =
    let first = split_takes (sign l CommaSign) (numbered k (Grammar.arg l x) ⨟ Grammar.args_after l (suc k) xs) ts us takes in
    let rest = split_takes (numbered k (Grammar.arg l x)) (Grammar.args_after l (suc k) xs) first.0 us first.2 in
    join_takes (sign l CommaSign) (Grammar.arg l x ⨟ each_after (sign l CommaSign) (Grammar.arg l) xs) ts first.0 us first.1
    (join_takes (Grammar.arg l x) (each_after (sign l CommaSign) (Grammar.arg l) xs) first.0 rest.0 us
    (unnumbered_takes k (Grammar.arg l x) first.0 rest.0 rest.1) (without l (suc k) xs rest.0 us rest.2))

with_numbers : (l k : ℕ) (xs : List RawArgTree) (ts us : List Token)
    → Takes (each_after (sign l CommaSign) (Grammar.arg l) xs) ts us
    → Takes (Grammar.args_after l k xs) ts us
unfolding each_after
with_numbers l k [] ts us takes = takes
with_numbers l k (x ∷ xs) ts us takes =
    let first = split_takes (sign l CommaSign) (Grammar.arg l x ⨟ each_after (sign l CommaSign) (Grammar.arg l) xs) ts us takes in
    let rest = split_takes (Grammar.arg l x) (each_after (sign l CommaSign) (Grammar.arg l) xs) first.0 us first.2 in
    join_takes (sign l CommaSign) (numbered k (Grammar.arg l x) ⨟ Grammar.args_after l (suc k) xs) ts first.0 us first.1
    (join_takes (numbered k (Grammar.arg l x)) (Grammar.args_after l (suc k) xs) first.0 rest.0 us
    (renumbered_takes k (Grammar.arg l x) first.0 rest.0 rest.1) (with_numbers l (suc k) xs rest.0 us rest.2))

pub arguments_unnumbered : {n : Nonterminal} (l k : ℕ) (xs : List RawArgTree)
    → Makes (each_after (sign l CommaSign) (Grammar.arg l) xs) n
    → Makes (Grammar.args_after l k xs) n
arguments_unnumbered l k xs phrase = record { makes = λ ts us takes. phrase.makes ts us (without l k xs ts us takes) }

pub arguments_numbered : {ts us : List Token} (l k : ℕ) (xs : List RawArgTree)
    → Reads (each_after (sign l CommaSign) (Grammar.arg l) xs) ts us
    → Reads (Grammar.args_after l k xs) ts us
arguments_numbered {ts = ts} {us = us} l k xs reads = record { takes = with_numbers l k xs ts us reads.takes }
