-- The tokens with which each kind of phrase begins.
use Rattle.std.specs.Prelude.{Bool}
use Rattle.htt_lexer_tokens.specs.declared.tokens.Kind.{Kind}
use Rattle.theory_grammar.specs.Beginnings.{begins_mono, begins_ty, begins_atom, begins_appl, begins_term, begins_comp}
use Rattle.theory_grammar.specs.Beginnings.{begins_fatom, begins_formula, begins_arg, begins_stmt, begins_proof}
use Rattle.theory_grammar.specs.Beginnings.{begins_decl}
use Rattle.htt_parser_words.specs.declared.beginnings.Phrase.{Phrase}
use Rattle.htt_parser_words.specs.declared.beginnings.Phrase.TheVariants as phrases

abbrev pub begins_of : Phrase → Kind → Bool
begins_of phrases.Mono k = begins_mono k
begins_of phrases.Type k = begins_ty k
begins_of phrases.Atom k = begins_atom k
begins_of phrases.Application k = begins_appl k
begins_of phrases.Term k = begins_term k
begins_of phrases.Computation k = begins_comp k
begins_of phrases.Fatom k = begins_fatom k
begins_of phrases.Formula k = begins_formula k
begins_of phrases.Argument k = begins_arg k
begins_of phrases.Statement k = begins_stmt k
begins_of phrases.Proof k = begins_proof k
begins_of phrases.Declaration k = begins_decl k
