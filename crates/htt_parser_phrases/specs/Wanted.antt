-- What a wanted phrase begins like.
use Rattle.std.specs.Prelude.{Bool}
use Rattle.htt_lexer_tokens.specs.declared.tokens.Kind.{Kind}
use Rattle.theory_grammar.specs.Beginnings.{begins_ty, begins_term, begins_comp, begins_fatom, begins_formula}
use Rattle.htt_parser_levels.specs.declared.found.Wanted.{Wanted}
use Rattle.htt_parser_levels.specs.declared.found.Wanted.TheVariants as wanted

abbrev pub begins_wanted : Wanted → Kind → Bool
begins_wanted wanted.Type = begins_ty
begins_wanted wanted.Term = begins_term
begins_wanted wanted.Computation = begins_comp
begins_wanted wanted.Formula = begins_formula
begins_wanted wanted.Disjunction = begins_fatom
begins_wanted wanted.Conjunction = begins_fatom
begins_wanted wanted.Star = begins_fatom
