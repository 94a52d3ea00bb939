-- The steps of a computation, as they are read before what follows them.
use Rattle.std.specs.Prelude.{◌≡◌, ℕ, zero, suc, List, drop, Result, Ok, Err}
use Rattle.htt_lexer_tokens.specs.declared.tokens.Kind.TheVariants.{Sign}
use Rattle.htt_lexer_tokens.specs.declared.tokens.Token.{Token}
use Rattle.htt_lexer_tokens.specs.declared.tokens.Sign.TheVariants.{OpenBracketSign, CloseBracketSign, LeftArrowSign}
use Rattle.htt_lexer_tokens.specs.declared.tokens.Sign.TheVariants.{SemicolonSign}
use Rattle.htt_parser_trees.specs.Trees.{RawPartTrees, atom_part, mono_part, RawCompTree, c_step}
use Rattle.theory_grammar.specs.Readers.{Reader, Halt, too_long, give, ◌>>=◌, refuse, token}
use Rattle.theory_grammar.specs.Beginnings.{begins_mono, begins_atom}
use Rattle.theory_grammar.specs.Phrases.{Deeper, a_binder, mono_reader, atom_reader, parts_on, step_reader}
use Rattle.htt_parser_words.specs.declared.cursor.Halted.{Halted}
use Rattle.htt_parser_words.specs.Results.{StopsAs, mapped}

-- a step, and what follows it
abbrev pub step_on : Deeper → Reader RawCompTree → Reader RawCompTree
step_on d next = a_binder >>= (λ b.
    token (Sign LeftArrowSign) >>= (λ _.
    step_reader d >>= (λ s.
    token (Sign SemicolonSign) >>= (λ _.
    next >>= (λ e.
    give (c_step b s e))))))

-- a member, which is put before what the next reader gives
abbrev pub GivesNext : {X T : Type 0}
    → List Token
    → (X → T → T)
    → Result (X × ℕ) Halted
    → Result (T × List Token) Halt
    → Reader T
    → Type 0
GivesNext tokens put (Ok read) told next = told ≡ mapped (put read.0) (next (drop read.1 tokens))
GivesNext tokens put (Err halted) told next = StopsAs tokens halted told
