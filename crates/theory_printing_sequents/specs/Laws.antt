-- A place in a sequent has the printed names, and the tokens that are printed of its phrases derive these.
use Rattle.std.specs.Prelude.{ℕ, List, length, map}
use Rattle.theory_typing.specs.Contexts.{Context}
use Rattle.theory_views.specs.Contexts.{SequentTree}
use Rattle.theory_text_names.specs.Scopes.{Names, Scope, in_sequent}
use Rattle.theory_text_items.specs.Resolving.{sort_of_entry}
use Rattle.theory_printing.specs.Phrases.{ty, formula}
use Rattle.theory_printing_tokens.specs.Spoken.{Spoken}
use Rattle.theory_printing_names.specs.Scopes.{AreDeclared, HasPrintedNames}
use Rattle.theory_printing_forms.specs.Said.{said_ty, said_formula}
use Rattle.theory_printing_forms.specs.Readings.{ReadsTy, ReadsFormula}
use Rattle.theory_printing_sequents.specs.Sequents.{scope_in, scope_of, EachPhrase, HasTextSequent}

-- a place of a text in a context, with so many hypotheses; and in a sequent
abbrev pub place_in : List ℕ → Names → Context → ℕ → Scope
place_in text names g hypotheses = in_sequent text names (map sort_of_entry g) hypotheses

abbrev pub place_of : List ℕ → Names → SequentTree → Scope
place_of text names q = place_in text names q.context (length q.hypotheses)

-- where the declared names stand for what was printed
pub record PrintedSequents : Type 0 where
  pub names : (text : List ℕ) (names : Names) (vals recs : List (List ℕ)) (counts : List ℕ) (g : Context) (n : ℕ)
      → AreDeclared (scope_in vals recs g n) counts names
      → HasPrintedNames (scope_in vals recs g n) counts (place_in text names g n)
  pub phrases : (text : List ℕ) (names : Names) (vals recs : List (List ℕ)) (counts : List ℕ) (q : SequentTree) (l : ℕ)
      → AreDeclared (scope_of vals recs q) counts names
      → HasTextSequent counts vals recs q
      → EachPhrase
      (λ outer A. (v : Spoken text (ty (scope_in vals recs outer 0) A))
      → ReadsTy (place_in text names outer 0) l (ty (scope_in vals recs outer 0) A) v (said_ty A))
      (λ F. (v : Spoken text (formula (scope_of vals recs q) F))
      → ReadsFormula (place_of text names q) l (formula (scope_of vals recs q) F) v (said_formula F)) q
