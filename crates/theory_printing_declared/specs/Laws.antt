-- Where declared names stand for the values and the recursive predicates with their numbers.
use Rattle.std.specs.Prelude.{◌≡◌, ℕ, List, [], ◌++◌, length, take}
use Rattle.theory_text_names.specs.Scopes.{Sort, Names}
use Rattle.theory_text_items.specs.Items.{Resolved}
use Rattle.theory_text_bytes.specs.Texts.{IsText}
use Rattle.theory_printing.specs.Names.{PrintScope}
use Rattle.theory_printing_names.specs.Scopes.{AreDeclared}
use Rattle.theory_printing_declared.specs.Tables.{vals_in, recs_in, counts_in, AreInOrder, table_of, AreDifferent}

-- whatever entries and hypotheses there are
abbrev pub scope_with : List Sort → ℕ → List (List ℕ) → List (List ℕ) → PrintScope
scope_with entries hypotheses vals recs =
    record { entries = entries; hypotheses = hypotheses; vals = vals; recs = recs }

pub record DeclaredNames : Type 0 where
  -- a table in order
  pub in_order : (entries : List Sort) (hypotheses : ℕ) (names : Names)
      → AreInOrder [] names
      → AreDeclared (scope_with entries hypotheses (vals_in names) (recs_in names)) (counts_in names) names
  -- what the items of a file declare that come before a place
  pub of_files : (text : List ℕ) (file : Resolved) (visible : ℕ)
      → IsText text file
      → AreInOrder [] (take visible file.names)
  -- names of which no two are the same
  pub of_scopes : (entries : List Sort) (hypotheses : ℕ) (vals recs : List (List ℕ)) (counts : List ℕ)
      → length recs ≡ length counts
      → AreDifferent (vals ++ recs)
      → AreDeclared (scope_with entries hypotheses vals recs) counts (table_of vals recs counts)
