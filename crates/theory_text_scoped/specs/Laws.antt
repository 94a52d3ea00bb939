-- What a text stands for is in scope.
use Rattle.std.specs.Prelude.{◌≡◌, ℕ, List, length, Ok}
use Rattle.htt_syntax.specs.Trees.{TyTree, TermTree, CompTree, FormulaTree, ProofTree}
use Rattle.theory_renaming.specs.Scoped.{ScopedTy, ScopedTerm, ScopedComp, ScopedFormula}
use Rattle.htt_parser_trees.specs.Trees as raw
use Rattle.theory_text_names.specs.Scopes.{Scope, hypotheses}
use Rattle.theory_text.specs.Phrases.{ty_comes, term_comes, comp_comes, formula_comes}
use Rattle.theory_text.specs.Proofs.{proof_comes}
use Rattle.theory_text_items.specs.Items.{Resolved}
use Rattle.theory_text_items.specs.Resolving.{file_comes}
use Rattle.theory_text_scoped.specs.Sorted.{Sorts, SortedTy, SortedTerm, SortedComp, SortedFormula}
use Rattle.theory_text_scoped.specs.SortedProofs.{SortedProof}
use Rattle.theory_text_scoped.specs.Scopes.{sorts_in, SortedNames, IsSortedScope}
use Rattle.theory_text_scoped.specs.Items.{AreSortedItems}

-- each free variable of a tree that a phrase comes to is an entry of the scope, of the sort that its place needs
pub record PhrasesAreSorted : Type 0 where
  pub types : (s : Scope) (t : raw.RawTyTree) (A : TyTree)
      → IsSortedScope s
      → ty_comes s t ≡ Ok A
      → SortedTy (sorts_in s.locals) A
  pub terms : (s : Scope) (t : raw.RawTermTree) (M : TermTree)
      → IsSortedScope s
      → term_comes s t ≡ Ok M
      → SortedTerm (sorts_in s.locals) M
  pub comps : (s : Scope) (t : raw.RawCompTree) (E : CompTree)
      → IsSortedScope s
      → comp_comes s t ≡ Ok E
      → SortedComp (sorts_in s.locals) E
  pub formulas : (s : Scope) (t : raw.RawFormulaTree) (F : FormulaTree)
      → IsSortedScope s
      → formula_comes s t ≡ Ok F
      → SortedFormula (sorts_in s.locals) F
  pub proofs : (s : Scope) (t : raw.RawProofTree) (p : ProofTree)
      → IsSortedScope s
      → proof_comes s t ≡ Ok p
      → SortedProof (sorts_in s.locals) (hypotheses s.locals) p

-- a sorted tree has no free variable beyond its context
pub record SortedIsScoped : Type 0 where
  pub types : (g : Sorts) (A : TyTree) → SortedTy g A → ScopedTy (length g) A
  pub terms : (g : Sorts) (M : TermTree) → SortedTerm g M → ScopedTerm (length g) M
  pub comps : (g : Sorts) (E : CompTree) → SortedComp g E → ScopedComp (length g) E
  pub formulas : (g : Sorts) (F : FormulaTree) → SortedFormula g F → ScopedFormula (length g) F

-- the items of a file are closed, and so is what its names stand for
abbrev pub FilesAreSorted : Type 0
FilesAreSorted =
    (text : List ℕ) (decls : List raw.RawDeclTree) (file : Resolved) → file_comes text decls ≡ Ok file →
    AreSortedItems file.items × SortedNames file.names
