-- What a text stands for, from its bytes on. No limit counts here: a text that passes one stands for what it says.
use Rattle.std.specs.Prelude.{◌≡◌, ℕ, List, [], Result, Ok, Err}
use Rattle.htt_lexer_tokens.specs.declared.tokens.Token.{Token}
use Rattle.htt_lexer.specs.Tokens.{AreTokens}
use Rattle.htt_syntax.specs.Trees.{TyTree, FormulaTree, ProofTree}
use Rattle.htt_parser_trees.specs.Trees as raw
use Rattle.theory_grammar.specs.Derivations.{IsType, IsFormula, IsProof, IsFile}
use Rattle.theory_text_names.specs.Stops.{Stop}
use Rattle.theory_text_names.specs.Scopes.{Scope}
use Rattle.theory_text.specs.Phrases.{ty_comes, formula_comes}
use Rattle.theory_text.specs.Proofs.{proof_comes}
use Rattle.theory_text_items.specs.Items.{Resolved}
use Rattle.theory_text_items.specs.Declarations.{declarations_come}
use Rattle.theory_text_items.specs.Resolving.{file_comes}

-- a text is UTF-8 whose tokens derive this tree
pub record Derives {T : Type 0} (IsTree : List Token → T → Type 0) (text : List ℕ) (tree : T) : Type 0 where
  pub tokens : List Token
  pub are_tokens : AreTokens text tokens
  pub is_tree : IsTree tokens tree

-- the items of a text and what its names stand for, where each name has a meaning and each sugar is replaced
pub record IsText (text : List ℕ) (file : Resolved) : Type 0 where
  pub decls : List raw.RawDeclTree
  pub derives : Derives IsFile text decls
  pub comes : declarations_come decls text [] decls ≡ Ok file

-- the same for a type, a formula and a proof, which are whole texts, at a place
pub record IsTypeText (s : Scope) (A : TyTree) : Type 0 where
  pub tree : raw.RawTyTree
  pub derives : Derives IsType s.text tree
  pub comes : ty_comes s tree ≡ Ok A

pub record IsFormulaText (s : Scope) (F : FormulaTree) : Type 0 where
  pub tree : raw.RawFormulaTree
  pub derives : Derives IsFormula s.text tree
  pub comes : formula_comes s tree ≡ Ok F

pub record IsProofText (s : Scope) (p : ProofTree) : Type 0 where
  pub tree : raw.RawProofTree
  pub derives : Derives IsProof s.text tree
  pub comes : proof_comes s tree ≡ Ok p

-- the first event of a text that the grammar derives: of its names, or else of the limits of its trees
pub record IsStopped (text : List ℕ) (stop : Stop) : Type 0 where
  pub decls : List raw.RawDeclTree
  pub derives : Derives IsFile text decls
  pub comes : file_comes text decls ≡ Err stop

-- a text within the limits of its trees
pub record IsWithin (text : List ℕ) (file : Resolved) : Type 0 where
  pub decls : List raw.RawDeclTree
  pub derives : Derives IsFile text decls
  pub comes : file_comes text decls ≡ Ok file
