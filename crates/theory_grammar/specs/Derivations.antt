-- Which tree a list of tokens derives, and which trees are within the limits.
use Rattle.std.specs.Prelude.{◌≤◌, List, length}
use Rattle.htt_lexer_tokens.specs.declared.tokens.Token.{Token}
use Rattle.htt_parser_trees.specs.Trees.{RawMonoTree, RawTyTree, RawTermTree, RawFormulaTree, RawProofTree, RawDeclTree}
use Rattle.theory_grammar.specs.Marks.{Limits, AllFit, AllWithin}
use Rattle.theory_grammar.specs.Grammar.{mono, ty, term, formula, proof, file}

-- ---- the grammar alone: the tokens are those of the tree, one by one

abbrev pub IsMono : List Token → RawMonoTree → Type 0
IsMono tokens tree = AllFit tokens (mono 1 tree)

abbrev pub IsType : List Token → RawTyTree → Type 0
IsType tokens tree = AllFit tokens (ty 1 tree)

abbrev pub IsTerm : List Token → RawTermTree → Type 0
IsTerm tokens tree = AllFit tokens (term 1 tree)

abbrev pub IsFormula : List Token → RawFormulaTree → Type 0
IsFormula tokens tree = AllFit tokens (formula 1 tree)

abbrev pub IsProof : List Token → RawProofTree → Type 0
IsProof tokens tree = AllFit tokens (proof 1 tree)

abbrev pub IsFile : List Token → List RawDeclTree → Type 0
IsFile tokens decls = AllFit tokens (file decls)

-- ---- the limits alone

-- 256 levels, and 64 operands in a chain
abbrev pub the_limits : Limits
the_limits = record { nesting = 256; chain = 64 }

abbrev pub IsFormulaWithin : RawFormulaTree → Type 0
IsFormulaWithin tree = AllWithin the_limits (formula 1 tree)

abbrev pub IsProofWithin : RawProofTree → Type 0
IsProofWithin tree = AllWithin the_limits (proof 1 tree)

-- and 10,000 declarations
pub record IsFileWithin (decls : List RawDeclTree) : Type 0 where
  pub marks : AllWithin the_limits (file decls)
  pub count : length decls ≤ 10_000
