-- All phrases of the table have trees, and the laws.
use Rattle.std.proofs.Common.{[]}
use Rattle.htt_parser_table.specs.declared.symbols.Nonterminal.{Nonterminal}
use Rattle.htt_parser_table.specs.declared.symbols.Nonterminal.TheVariants.{Binder, MonoName, SumSign, ProductSign, UnaryWord, UnaryRule, HeapNumber, Heap}
use Rattle.htt_parser_table.specs.declared.symbols.Nonterminal.TheVariants.{Factor, Mono, MonoInBrackets, MonosAfter, Monos, TypePhrase, Triple, Term}
use Rattle.htt_parser_table.specs.declared.symbols.Nonterminal.TheVariants.{Parameters, Relation, Sum, SumRest, Product, ProductRest, Application, Parts, Atom}
use Rattle.htt_parser_table.specs.declared.symbols.Nonterminal.TheVariants.{Comp, Step, Formula, Sort, Disjunction, Conjunction, Separation, FormulaAtom, Terms}
use Rattle.htt_parser_table.specs.declared.symbols.Nonterminal.TheVariants.{TermsAfter, Argument, Arguments, ArgumentsAfter, Motive, Proof, Statement, End}
use Rattle.htt_parser_table.specs.declared.symbols.Nonterminal.TheVariants.{ProofsAfter, NamesAfter, Names, MonoParameter, MonoParametersAfter, MonoParameters}
use Rattle.htt_parser_table.specs.declared.symbols.Nonterminal.TheVariants.{Body, Declaration, File}
use Rattle.theory_grammar.specs.Grammar
use Rattle.theory_grammar_table.specs.Laws.{MonoOfTable, TypeOfTable, TermOfTable, FormulaOfTable, ProofOfTable, FileOfTable}
use Rattle.theory_grammar_table.proofs.Takes.{from_fit, to_fit}
use Rattle.theory_grammar_table.proofs.Phrased.{AllBuilt, phrase_tree}
use Rattle.theory_grammar_table.proofs.MonotypesBuilt.{binder_built, mono_name_built, heap_number_built, heap_built, factor_built, mono_built}
use Rattle.theory_grammar_table.proofs.MonotypesBuilt.{mono_in_brackets_built, monos_after_built, monos_built}
use Rattle.theory_grammar_table.proofs.TermsBuilt.{sum_sign_built, product_sign_built, unary_word_built, type_phrase_built, triple_built, term_built}
use Rattle.theory_grammar_table.proofs.TermsBuilt.{parameters_built, relation_built, sum_built, sum_rest_built, product_built, product_rest_built}
use Rattle.theory_grammar_table.proofs.TermsBuilt.{application_built, parts_built, atom_built, comp_built, step_built}
use Rattle.theory_grammar_table.proofs.FormulasBuilt.{formula_built, sort_built, disjunction_built, conjunction_built, separation_built, formula_atom_built}
use Rattle.theory_grammar_table.proofs.FormulasBuilt.{terms_built, terms_after_built}
use Rattle.theory_grammar_table.proofs.ProofsBuilt.{unary_rule_built, argument_built, arguments_after_built, arguments_built, motive_built, proof_built}
use Rattle.theory_grammar_table.proofs.ProofsBuilt.{statement_built, end_built, proofs_after_built}
use Rattle.theory_grammar_table.proofs.FilesBuilt.{names_after_built, names_built, mono_parameter_built, mono_parameters_after_built, mono_parameters_built}
use Rattle.theory_grammar_table.proofs.FilesBuilt.{body_built, declaration_built, file_built}
use Rattle.theory_grammar_table.proofs.MonotypesMake.{mono_makes}
use Rattle.theory_grammar_table.proofs.TermsMake.{type_phrase_makes, term_makes, formula_makes}
use Rattle.theory_grammar_table.proofs.ProofsMake.{proof_makes}
use Rattle.theory_grammar_table.proofs.FilesMake.{file_makes}

built : (n : Nonterminal) → AllBuilt n
built Binder = binder_built
built MonoName = mono_name_built
built SumSign = sum_sign_built
built ProductSign = product_sign_built
built UnaryWord = unary_word_built
built UnaryRule = unary_rule_built
built HeapNumber = heap_number_built
built Heap = heap_built
built Factor = factor_built
built Mono = mono_built
built MonoInBrackets = mono_in_brackets_built
built MonosAfter = monos_after_built
built Monos = monos_built
built TypePhrase = type_phrase_built
built Triple = triple_built
built Term = term_built
built Parameters = parameters_built
built Relation = relation_built
built Sum = sum_built
built SumRest = sum_rest_built
built Product = product_built
built ProductRest = product_rest_built
built Application = application_built
built Parts = parts_built
built Atom = atom_built
built Comp = comp_built
built Step = step_built
built Formula = formula_built
built Sort = sort_built
built Disjunction = disjunction_built
built Conjunction = conjunction_built
built Separation = separation_built
built FormulaAtom = formula_atom_built
built Terms = terms_built
built TermsAfter = terms_after_built
built Argument = argument_built
built Arguments = arguments_built
built ArgumentsAfter = arguments_after_built
built Motive = motive_built
built Proof = proof_built
built Statement = statement_built
built End = end_built
built ProofsAfter = proofs_after_built
built NamesAfter = names_after_built
built Names = names_built
built MonoParameter = mono_parameter_built
built MonoParametersAfter = mono_parameters_after_built
built MonoParameters = mono_parameters_built
built Body = body_built
built Declaration = declaration_built
built File = file_built

pub mono_of_table : MonoOfTable
mono_of_table tokens = (
  λ d. let tree = phrase_tree built Mono tokens [] d in (tree.0, to_fit tokens (Grammar.mono 1 tree.0) (tree.1 1 0).takes),
  λ tree. (mono_makes 1 tree.0).makes tokens [] (from_fit tokens (Grammar.mono 1 tree.0) tree.1),
)

pub type_of_table : TypeOfTable
type_of_table tokens = (
  λ d. let tree = phrase_tree built TypePhrase tokens [] d in (tree.0, to_fit tokens (Grammar.ty 1 tree.0) (tree.1 1 0).takes),
  λ tree. (type_phrase_makes 1 tree.0).makes tokens [] (from_fit tokens (Grammar.ty 1 tree.0) tree.1),
)

pub term_of_table : TermOfTable
term_of_table tokens = (
  λ d. let tree = phrase_tree built Term tokens [] d in (tree.0, to_fit tokens (Grammar.term 1 tree.0) (tree.1 1 0).takes),
  λ tree. (term_makes 1 tree.0).makes tokens [] (from_fit tokens (Grammar.term 1 tree.0) tree.1),
)

pub formula_of_table : FormulaOfTable
formula_of_table tokens = (
  λ d. let tree = phrase_tree built Formula tokens [] d in (tree.0, to_fit tokens (Grammar.formula 1 tree.0) (tree.1 1 0).takes),
  λ tree. (formula_makes 1 tree.0).makes tokens [] (from_fit tokens (Grammar.formula 1 tree.0) tree.1),
)

pub proof_of_table : ProofOfTable
proof_of_table tokens = (
  λ d. let tree = phrase_tree built Proof tokens [] d in (tree.0, to_fit tokens (Grammar.proof 1 tree.0) (tree.1 1 0).takes),
  λ tree. (proof_makes 1 tree.0).makes tokens [] (from_fit tokens (Grammar.proof 1 tree.0) tree.1),
)

pub file_of_table : FileOfTable
file_of_table tokens = (
  λ d. let tree = phrase_tree built File tokens [] d in (tree.0, to_fit tokens (Grammar.file tree.0) (tree.1 1 0).takes),
  λ tree. (file_makes tree.0).makes tokens [] (from_fit tokens (Grammar.file tree.0) tree.1),
)
