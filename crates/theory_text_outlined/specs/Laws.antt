-- The laws of names that are alike.
use Rattle.std.specs.Prelude.{ℕ, List}
use Rattle.htt_parser_trees.specs.Trees as raw
use Rattle.theory_text_names.specs.Scopes.{Names, Scope}
use Rattle.theory_text.specs.Monotypes.{mono_comes}
use Rattle.theory_text.specs.Phrases.{ty_comes, term_comes, comp_comes, formula_comes}
use Rattle.theory_text.specs.Proofs.{proof_comes}
use Rattle.theory_text_items.specs.Items.{Row}
use Rattle.theory_text_items.specs.Declarations.{declaration_comes, declarations_come}
use Rattle.theory_text_outlined.specs.Outlines.{AlikeRow, AlikeNames, with_names, SameStop, Related}

pub record StopsHangOnOutlines : Type 0 where
  pub monos : (s : Scope) (names : Names) (t : raw.RawMonoTree)
      → AlikeNames s.names names
      → SameStop (mono_comes s t) (mono_comes (with_names s names) t)
  pub types : (s : Scope) (names : Names) (A : raw.RawTyTree)
      → AlikeNames s.names names
      → SameStop (ty_comes s A) (ty_comes (with_names s names) A)
  pub terms : (s : Scope) (names : Names) (M : raw.RawTermTree)
      → AlikeNames s.names names
      → SameStop (term_comes s M) (term_comes (with_names s names) M)
  pub comps : (s : Scope) (names : Names) (E : raw.RawCompTree)
      → AlikeNames s.names names
      → SameStop (comp_comes s E) (comp_comes (with_names s names) E)
  pub formulas : (s : Scope) (names : Names) (F : raw.RawFormulaTree)
      → AlikeNames s.names names
      → SameStop (formula_comes s F) (formula_comes (with_names s names) F)
  pub proofs : (s : Scope) (names : Names) (p : raw.RawProofTree)
      → AlikeNames s.names names
      → SameStop (proof_comes s p) (proof_comes (with_names s names) p)

-- a declaration declares what is alike, or is stopped by the same; so are declarations in a row
pub record DeclarationsHangOnOutlines : Type 0 where
  pub one : (file : List raw.RawDeclTree) (s : Scope) (names : Names) (d : raw.RawDeclTree)
      → AlikeNames s.names names
      → Related (λ (r q : Row). AlikeRow r.declares q.declares) (declaration_comes file s d)
      (declaration_comes file (with_names s names) d)
  pub all : (file : List raw.RawDeclTree) (text : List ℕ) (names others : Names) (ds : List raw.RawDeclTree)
      → AlikeNames names others
      → SameStop (declarations_come file text names ds) (declarations_come file text others ds)
