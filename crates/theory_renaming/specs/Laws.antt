-- The laws of renaming.
use Rattle.std.specs.Prelude.{ℕ, suc, ◌≡◌, ◌+◌, ◌<◌, ◌≤◌}
use Rattle.htt_syntax.specs.Trees.{TermTree, FormulaTree, ProofTree}
use Rattle.theory_renaming.specs.Renaming.{Map, lift, shifting, rename_term, rename_formula, rename_proof}
use Rattle.theory_renaming.specs.Scoped.{ScopedTerm, ScopedFormula}

abbrev pub IdentityKeeps : Type 0
IdentityKeeps =
    ((t : TermTree) → rename_term (λ n. n) t ≡ t)
    × ((f : FormulaTree) → rename_formula (λ n. n) f ≡ f)
    × ((p : ProofTree) → rename_proof (λ n. n) p ≡ p)

abbrev pub RenamingsCompose : Type 0
RenamingsCompose =
    (m k : Map)
    → ((t : TermTree) → rename_term m (rename_term k t) ≡ rename_term (λ n. m (k n)) t)
    × ((f : FormulaTree) → rename_formula m (rename_formula k f) ≡ rename_formula (λ n. m (k n)) f)
    × ((p : ProofTree) → rename_proof m (rename_proof k p) ≡ rename_proof (λ n. m (k n)) p)

abbrev pub RenamingKeepsScope : Type 0
RenamingKeepsScope =
    (m : Map) (n k : ℕ)
    → ((i : ℕ) → i < n → m i < k)
    → ((t : TermTree) → ScopedTerm n t → ScopedTerm k (rename_term m t))
    × ((f : FormulaTree) → ScopedFormula n f → ScopedFormula k (rename_formula m f))

-- what a shift is: variables below the place stay, the others go past; under a binder the place is one
-- further; two shifts at one place add up
pub record WhatAShiftIs : Type 0 where
  pub below : (from by n : ℕ) → n < from → shifting from by n ≡ n
  pub others : (from by n : ℕ) → from ≤ n → shifting from by n ≡ n + by
  pub under_binder : (from by n : ℕ) → lift (shifting from by) n ≡ shifting (suc from) by n
  pub twice : (from by more : ℕ) (t : TermTree)
      → rename_term (shifting from more) (rename_term (shifting from by) t) ≡ rename_term (shifting from (by + more)) t
