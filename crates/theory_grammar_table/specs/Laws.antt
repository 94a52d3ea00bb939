-- The laws of the table: it derives a list of tokens exactly where some tree is derived by them.
use Rattle.std.specs.Prelude.{List, ◌↔◌}
use Rattle.htt_lexer_tokens.specs.declared.tokens.Token.{Token}
use Rattle.htt_parser_trees.specs.Trees.{RawMonoTree, RawTyTree, RawTermTree, RawFormulaTree, RawProofTree, RawDeclTree}
use Rattle.htt_parser_table.specs.declared.symbols.Nonterminal.TheVariants.{Mono, TypePhrase, Term, Formula, Proof}
use Rattle.htt_parser_table.specs.declared.symbols.Nonterminal.TheVariants.{File}
use Rattle.htt_parser_table.specs.Derives.{IsPhrase}
use Rattle.theory_grammar.specs.Derivations.{IsMono, IsType, IsTerm, IsFormula, IsProof, IsFile}

abbrev pub MonoOfTable : Type 0
MonoOfTable = (tokens : List Token) → IsPhrase Mono tokens ↔ ((tree : RawMonoTree) × IsMono tokens tree)

abbrev pub TypeOfTable : Type 0
TypeOfTable = (tokens : List Token) → IsPhrase TypePhrase tokens ↔ ((tree : RawTyTree) × IsType tokens tree)

abbrev pub TermOfTable : Type 0
TermOfTable = (tokens : List Token) → IsPhrase Term tokens ↔ ((tree : RawTermTree) × IsTerm tokens tree)

abbrev pub FormulaOfTable : Type 0
FormulaOfTable = (tokens : List Token) → IsPhrase Formula tokens ↔ ((tree : RawFormulaTree) × IsFormula tokens tree)

abbrev pub ProofOfTable : Type 0
ProofOfTable = (tokens : List Token) → IsPhrase Proof tokens ↔ ((tree : RawProofTree) × IsProof tokens tree)

abbrev pub FileOfTable : Type 0
FileOfTable = (tokens : List Token) → IsPhrase File tokens ↔ ((decls : List RawDeclTree) × IsFile tokens decls)
