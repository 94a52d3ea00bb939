-- What a row is computed to, as the code tells it; and that a tree stands at a place.
use Rattle.std.specs.Prelude.{◌≡◌, ℕ, ◌<◌, Bool, List, Option, Some, None, length, nat_eq, ⊤}
use Rattle.theory_values.specs.Values.{bool_eq}
use Rattle.htt_syntax.specs.Trees.{TermTree, t_unit}
use Rattle.theory_canonical.specs.Folding.{contractum}
use Rattle.shared_terms_rows.specs.declared.form.Form.{Form}
use Rattle.shared_terms_rows.specs.declared.form.Form.TheVariants as form
use Rattle.shared_terms_rows.specs.declared.form.MonoForm.TheVariants as mono
use Rattle.shared_terms_rows.specs.declared.form.Kind.TheVariants as kinds
use Rattle.shared_terms_rows.specs.declared.form.TermForm.{TermForm}
use Rattle.shared_terms_rows.specs.Parts.{Part, kind_of, as_term, of_term, build_term}
use Rattle.shared_terms_rows.specs.Rows.{at}
use Rattle.shared_terms_rows.specs.Forms.{term_slots, none}
use Rattle.shared_terms_folding.specs.declared.shape.Computed.{Computed}
use Rattle.shared_terms_folding.specs.declared.shape.Computed.TheVariants as computed
use Rattle.shared_terms_folding.specs.declared.shape.Shape.{Shape}
use Rattle.shared_terms_folding.specs.declared.shape.Shape.TheVariants as shapes

-- a tree stands at a place
pub record Stands (parts : List Part) (place : ℕ) (part : Part) : Type 0 where
  pub within : place < length parts
  pub tree : at parts place ≡ part

-- a term stands at a place
pub record IsTerm (parts : List Part) (place : ℕ) : Type 0 where
  pub within : place < length parts
  pub term : kind_of (at parts place) ≡ kinds.Term

-- the parts of a pair are terms
abbrev pub HasTerms : List Part → Shape → Type 0
HasTerms parts (shapes.Pair left right) = IsTerm parts left × IsTerm parts right
HasTerms parts _ = ⊤

-- a literal's term
abbrev pub leaf : TermForm → TermTree
leaf f = build_term f (of_term t_unit) (of_term t_unit) (of_term t_unit) (of_term t_unit)

-- what a term is folded to is what was computed
pub data Computes (parts : List Part) (term : TermTree) : Computed → Type 0 where
  nothing : contractum term ≡ None → Computes parts term computed.Itself
  a_place : {place : ℕ}
      → contractum term ≡ Some (as_term (at parts place))
      → IsTerm parts place
      → Computes parts term (computed.Place place)
  a_literal : {f : TermForm}
      → contractum term ≡ Some (leaf f)
      → term_slots f ≡ none
      → Computes parts term (computed.Literal f)

-- two literals of a monotype, by the monotype's form
abbrev pub equal_by : Form → Shape → Shape → Option Bool
equal_by (form.Mono mono.Word) (shapes.Word x) (shapes.Word y) = Some (nat_eq x y)
equal_by (form.Mono mono.Bool) (shapes.Bool x) (shapes.Bool y) = Some (bool_eq x y)
equal_by (form.Mono mono.Loc) (shapes.Loc x) (shapes.Loc y) = Some (nat_eq x y)
equal_by f a b = None

abbrev pub EqualBy : Form → Shape → Shape → Option Bool → Type 0
EqualBy f a b truth = truth ≡ equal_by f a b
