-- The laws of the grammar.
use Rattle.std.specs.Prelude.{◌≡◌, List}
use Rattle.htt_lexer_tokens.specs.declared.tokens.Token.{Token}
use Rattle.htt_parser_trees.specs.Trees.{RawMonoTree, RawTyTree, RawTermTree, RawFormulaTree, RawProofTree, RawDeclTree}
use Rattle.theory_grammar.specs.Derivations.{IsMono, IsType, IsTerm, IsFormula, IsProof, IsFile}

-- A list of tokens derives at most one tree of each production.
abbrev pub OneMono : Type 0
OneMono = (tokens : List Token) (tree other : RawMonoTree) → IsMono tokens tree → IsMono tokens other → tree ≡ other

abbrev pub OneType : Type 0
OneType = (tokens : List Token) (tree other : RawTyTree) → IsType tokens tree → IsType tokens other → tree ≡ other

abbrev pub OneTerm : Type 0
OneTerm = (tokens : List Token) (tree other : RawTermTree) → IsTerm tokens tree → IsTerm tokens other → tree ≡ other

abbrev pub OneFormula : Type 0
OneFormula =
    (tokens : List Token) (tree other : RawFormulaTree) → IsFormula tokens tree → IsFormula tokens other → tree ≡ other

abbrev pub OneProof : Type 0
OneProof = (tokens : List Token) (tree other : RawProofTree) → IsProof tokens tree → IsProof tokens other → tree ≡ other

abbrev pub OneFile : Type 0
OneFile =
    (tokens : List Token) (decls others : List RawDeclTree)
    → IsFile tokens decls
    → IsFile tokens others
    → decls ≡ others
