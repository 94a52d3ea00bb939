-- Expansion is stable under renaming of bound names.
use Rattle.theory_typing.specs.Positions.{plain_ty, plain_term, plain_comp, plain_formula}
use Rattle.std.specs.Prelude.{◌≡◌, ℕ, List, [], map}
use Rattle.htt_syntax.specs.Trees.{MonoTree, TermTrees}
use Rattle.theory_typing.specs.Positions.{plain_terms}
use Rattle.htt_parser_trees.specs.Trees as raw
use Rattle.theory_text_names.specs.Scopes.{PredTree, Scope}
use Rattle.theory_text_sugar.specs.Putting.{used_at}
use Rattle.theory_text.specs.Phrases.{list_of, ty_comes, term_comes, comp_comes, formula_comes}
use Rattle.theory_text_items.specs.Declarations.{declared_name}
use Rattle.theory_text_items.specs.Resolving.{file_comes}
use Rattle.theory_text_alike.specs.Agreeing.{SameResult}
use Rattle.theory_text_alike.specs.AlikeFiles.{plain_file, AlikeDecls}
use Rattle.theory_text_alike.specs.Alike.{plain_pred, AlikeTy, AlikeTerm, AlikeComp, AlikeFormula, AreAlike}

-- phrases that differ in bound names alone come to the same trees, but for bytes, or are stopped for the same reason
pub record BoundNamesAreFree : Type 0 where
  pub types : (s s' : Scope) (t t' : raw.RawTyTree)
      → AlikeTy s s' t t'
      → AreAlike s s'
      → SameResult plain_ty (ty_comes s t) (ty_comes s' t')
  pub terms : (s s' : Scope) (t t' : raw.RawTermTree)
      → AlikeTerm s s' t t'
      → AreAlike s s'
      → SameResult plain_term (term_comes s t) (term_comes s' t')
  pub comps : (s s' : Scope) (t t' : raw.RawCompTree)
      → AlikeComp s s' t t'
      → AreAlike s s'
      → SameResult plain_comp (comp_comes s t) (comp_comes s' t')
  pub formulas : (s s' : Scope) (t t' : raw.RawFormulaTree)
      → AlikeFormula s s' t t'
      → AreAlike s s'
      → SameResult plain_formula (formula_comes s t) (formula_comes s' t')

-- a use of a predicate without bytes is a use of the predicate without bytes
abbrev pub UsesWithoutBytes : Type 0
UsesWithoutBytes =
    (p : PredTree) (ts : List MonoTree) (Ms : TermTrees) (h : ℕ) → plain_formula (used_at p ts (list_of Ms) h)
    ≡ used_at (plain_pred p) ts (list_of (plain_terms Ms)) h

-- files that declare the same names, and differ in bound names alone, have the same items and names, but for bytes, or
-- are stopped for the same reason
abbrev pub FilesWithOtherNames : Type 0
FilesWithOtherNames = (text text' : List ℕ) (file file' : List raw.RawDeclTree) →
    map (declared_name text) file ≡ map (declared_name text') file' →
    AlikeDecls file file' text text' [] [] file file' →
    SameResult plain_file (file_comes text file) (file_comes text' file')
