-- Parts of readers that a function of its own reads.
use Rattle.std.specs.Prelude.{List, [], ◌∷◌}
use Rattle.htt_lexer_tokens.specs.declared.tokens.Kind.TheVariants.{Sign}
use Rattle.htt_lexer_tokens.specs.declared.tokens.Sign.TheVariants.{CommaSign}
use Rattle.htt_parser_trees.specs.declared.place.Span.{Span}
use Rattle.htt_parser_trees.specs.declared.decl.RawDecl.{RawDecl}
use Rattle.htt_parser_trees.specs.declared.decl.RawMonoParam.{RawMonoParam}
use Rattle.htt_parser_trees.specs.Trees.{RawBodyTree, body_proof, RawDeclTree, RawMonoParamTree}
use Rattle.htt_parser_trees.specs.DeclViews.{raw_decl_tree, raw_mono_param_tree}
use Rattle.theory_grammar.specs.Readers.{Reader, give, ◌>>=◌, if_first, measured, after_commas}
use Rattle.theory_grammar.specs.Phrases.{Deeper, a_name_there, is_close}
use Rattle.theory_grammar.specs.Reading.{mono_parameter_reader}

abbrev pub put_name : Span → List Span → List Span
put_name x more = x ∷ more

abbrev pub put_param : RawMonoParam → List RawMonoParamTree → List RawMonoParamTree
put_param p more = raw_mono_param_tree p ∷ more

abbrev pub put_decl : RawDecl → List RawDeclTree → List RawDeclTree
put_decl x more = raw_decl_tree x ∷ more

-- names with commas between them
abbrev pub names_at : Reader (List Span)
names_at = a_name_there >>= (λ x. measured (after_commas (Sign CommaSign) a_name_there) >>= (λ more. give (x ∷ more)))

-- the parameters that follow commas
abbrev pub more_parameters_at : Deeper → Reader (List RawMonoParamTree)
more_parameters_at d = measured (after_commas (Sign CommaSign) (mono_parameter_reader d))

-- parameters before a closing bracket
abbrev pub parameters_there : Deeper → Reader (List RawMonoParamTree)
parameters_there d =
    if_first is_close (give []) (mono_parameter_reader d >>= (λ p. more_parameters_at d >>= (λ ps. give (p ∷ ps))))

abbrev pub proof_body_on : Deeper → Reader RawBodyTree
proof_body_on d = d.proof >>= (λ p. give (body_proof p))
