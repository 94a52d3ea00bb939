-- The parts of an application, as they are read before what follows them.
use Rattle.std.specs.Prelude.{◌≡◌, ℕ, zero, suc, List, drop, Result, Ok, Err}
use Rattle.htt_lexer_tokens.specs.declared.tokens.Kind.TheVariants.{Sign}
use Rattle.htt_lexer_tokens.specs.declared.tokens.Token.{Token}
use Rattle.htt_lexer_tokens.specs.declared.tokens.Sign.TheVariants.{OpenBracketSign, CloseBracketSign, LeftArrowSign}
use Rattle.htt_lexer_tokens.specs.declared.tokens.Sign.TheVariants.{SemicolonSign}
use Rattle.htt_parser_trees.specs.Trees.{RawPartTrees, atom_part, mono_part, RawCompTree, c_step}
use Rattle.theory_grammar.specs.Readers.{Reader, Halt, too_long, give, ◌>>=◌, refuse, token}
use Rattle.theory_grammar.specs.Beginnings.{begins_mono, begins_atom}
use Rattle.theory_grammar.specs.Phrases.{Deeper, a_binder, mono_reader, atom_reader, parts_on, step_reader}
use Rattle.htt_parser_words.specs.declared.cursor.Halted.{Halted}
use Rattle.htt_parser_words.specs.Results.{StopsAs, mapped}

-- a monotype that a head is applied to, behind its bracket, where there is so much room, and the
-- parts that follow
abbrev pub mono_after_on : Deeper → ℕ → Reader RawPartTrees
mono_after_on d zero = refuse too_long begins_mono
mono_after_on d (suc n) =
    mono_reader d >>= (λ m. token (Sign CloseBracketSign) >>= (λ _. parts_on d n >>= (λ ps. give (mono_part m ps))))

abbrev pub mono_part_on : Deeper → ℕ → Reader RawPartTrees
mono_part_on d n = token (Sign OpenBracketSign) >>= (λ _. mono_after_on d n)

-- the same with an atom
abbrev pub atom_part_on : Deeper → ℕ → Reader RawPartTrees
atom_part_on d zero = refuse too_long begins_atom
atom_part_on d (suc n) = atom_reader d >>= (λ a. parts_on d n >>= (λ ps. give (atom_part a ps)))
