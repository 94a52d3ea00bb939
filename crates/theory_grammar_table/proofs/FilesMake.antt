-- From the marks of a tree to a derivation: files.
use Rattle.std.proofs.Common.{List, [], ◌∷◌, refl}
use Rattle.htt_lexer_tokens.specs.declared.tokens.Sign.TheVariants.{CommaSign}
use Rattle.htt_parser_trees.specs.declared.place.Span.{Span}
use Rattle.htt_parser_trees.specs.Trees.{RawMonoParamTree, mono_param, RawBodyTree, body_auto, body_proof, RawDeclTree, decl_type, decl_pred, decl_induct}
use Rattle.htt_parser_trees.specs.Trees.{decl_def, decl_val, decl_proof}
use Rattle.htt_parser_table.specs.declared.symbols.Nonterminal.TheVariants.{NamesAfter, Names, MonoParameter, MonoParametersAfter, MonoParameters, Body}
use Rattle.htt_parser_table.specs.declared.symbols.Nonterminal.TheVariants.{Declaration, File}
use Rattle.theory_grammar.specs.Marks.{sign, name, each_after}
use Rattle.theory_grammar.specs.Grammar
use Rattle.theory_grammar_table.proofs.Takes.{Makes, none, one, one_alone, sub, last, left_first, skip, by}
use Rattle.theory_grammar_table.proofs.MonotypesMake.{binder_makes, mono_makes}
use Rattle.theory_grammar_table.proofs.TermsMake.{type_phrase_makes, term_makes, formula_makes}
use Rattle.theory_grammar_table.proofs.ProofsMake.{proof_makes}

pub names_after_makes : (x : List Span) → Makes (each_after (sign 0 CommaSign) (name 0) x) NamesAfter
unfolding each_after
names_after_makes [] = by 0 tt none
names_after_makes (s1 ∷ x2) = by 1 tt (one _ refl (one _ refl (last (names_after_makes x2))))

pub names_makes : (x : List Span) → Makes (Grammar.names x) Names
unfolding each_after
names_makes [] = by 0 tt none
names_makes (s1 ∷ x2) = by 1 tt (one _ refl (left_first _ _ _ (one _ refl (sub (names_after_makes x2) (one_alone refl)))))

pub mono_parameter_makes : (x : RawMonoParamTree) → Makes (Grammar.mono_parameter x) MonoParameter
unfolding each_after
mono_parameter_makes (mono_param s0 x2) = by 0 tt (one _ refl (one _ refl (last (mono_makes _ x2))))

pub mono_parameters_after_makes : (x : List RawMonoParamTree) → Makes (each_after (sign 0 CommaSign) Grammar.mono_parameter x) MonoParametersAfter
unfolding each_after
mono_parameters_after_makes [] = by 0 tt none
mono_parameters_after_makes (x1 ∷ x2) = by 1 tt (one _ refl (sub (mono_parameter_makes x1) (last (mono_parameters_after_makes x2))))

pub mono_parameters_makes : (x : List RawMonoParamTree) → Makes (Grammar.mono_parameters x) MonoParameters
unfolding each_after
mono_parameters_makes [] = by 0 tt (one _ refl (skip (one_alone refl)))
mono_parameters_makes (x1 ∷ x2) =
    by 1 tt (one _ refl (left_first _ _ _ (sub (mono_parameter_makes x1) (sub (mono_parameters_after_makes x2) (one_alone refl)))))

pub body_makes : (x : RawBodyTree) → Makes (Grammar.body x) Body
unfolding each_after
body_makes (body_auto a0) = by 0 tt (one_alone refl)
body_makes (body_proof x0) = by 1 tt (last (proof_makes _ x0))

pub declaration_makes : (x : RawDeclTree) → Makes (Grammar.decl x) Declaration
unfolding each_after
declaration_makes (decl_type s1 x3) = by 0 tt (one _ refl (one _ refl (one _ refl (last (mono_makes _ x3)))))
declaration_makes (decl_pred s1 x2 x3 x5) =
    by 1 tt (one _ refl (one _ refl (sub (names_makes x2) (sub (mono_parameters_makes x3) (one _ refl (last (formula_makes _ x5)))))))
declaration_makes (decl_induct s1 x3 x4 x7 x10) =
    by 2 tt (one _ refl (one _ refl
    (one _ refl (sub (binder_makes _ x3)
    (sub (mono_parameters_makes x4)
    (one _ refl (one _ refl (sub (formula_makes _ x7) (one _ refl (one _ refl (sub (formula_makes _ x10) (one_alone refl))))))))))))
declaration_makes (decl_def s1 x3 x5) = by 3 tt (one _ refl (one _ refl (one _ refl (sub (type_phrase_makes _ x3) (one _ refl (last (term_makes _ x5)))))))
declaration_makes (decl_val s1 x3 x5) = by 4 tt (one _ refl (one _ refl (one _ refl (sub (type_phrase_makes _ x3) (one _ refl (last (term_makes _ x5)))))))
declaration_makes (decl_proof a0 s1 n3 x5) = by 5 tt (one _ refl (one _ refl (one _ refl (one _ (n3, refl) (one _ refl (last (body_makes x5)))))))

pub file_makes : (x : List RawDeclTree) → Makes (Grammar.file x) File
unfolding each_after
file_makes [] = by 0 tt none
file_makes (x0 ∷ x1) = by 1 tt (sub (declaration_makes x0) (last (file_makes x1)))
