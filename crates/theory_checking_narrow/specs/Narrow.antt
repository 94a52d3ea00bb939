-- Trees, contexts and environments each of whose monotypes is within its limit.
use Rattle.std.specs.Prelude.{◌≡◌, ℕ, ◌≤◌, List, [], ◌∷◌, All, Some, slice_get}
use Rattle.htt_syntax.specs.Trees.{MonoTree, TyTree, TripleTree, TermTree, CompTree, FormulaTree}
use Rattle.theory_counts.specs.Nodes.{nodes_mono}
use Rattle.theory_counts_monotypes.specs.Monotypes.{greatest_in_ty, greatest_in_triple, greatest_in_term, greatest_in_comp}
use Rattle.theory_counts_monotypes.specs.Monotypes.{greatest_in_formula}
use Rattle.theory_truth.specs.Predicates.{RecTree}
use Rattle.theory_typing.specs.Contexts.{EntryTree, en_mono, en_heap, en_term, Context, Environment, Obligation}
use Rattle.theory_items.specs.Items.{Added, adds_nothing, adds_def, adds_val, adds_rec}
use Rattle.theory_checking.specs.Limits.{mono_limit}

abbrev pub IsNarrowMono : MonoTree → Type 0
IsNarrowMono t = nodes_mono t ≤ mono_limit

abbrev pub IsNarrowTy : TyTree → Type 0
IsNarrowTy A = greatest_in_ty A ≤ mono_limit

abbrev pub IsNarrowTriple : TripleTree → Type 0
IsNarrowTriple spec = greatest_in_triple spec ≤ mono_limit

abbrev pub IsNarrowTerm : TermTree → Type 0
IsNarrowTerm M = greatest_in_term M ≤ mono_limit

abbrev pub IsNarrowComp : CompTree → Type 0
IsNarrowComp E = greatest_in_comp E ≤ mono_limit

abbrev pub IsNarrowFormula : FormulaTree → Type 0
IsNarrowFormula F = greatest_in_formula F ≤ mono_limit

-- a context: the type of each entry
abbrev pub IsNarrowEntry : EntryTree → Type 0
IsNarrowEntry en_mono = Unit {0}
IsNarrowEntry en_heap = Unit {0}
IsNarrowEntry (en_term ty) = IsNarrowTy ty

abbrev pub IsNarrowContext : Context → Type 0
IsNarrowContext [] = Unit {0}
IsNarrowContext (entry ∷ g) = IsNarrowEntry entry × IsNarrowContext g

-- what is owed: the goals and their contexts
abbrev pub AreNarrow : List Obligation → Type 0
AreNarrow [] = Unit {0}
AreNarrow (o ∷ others) = (IsNarrowContext o.context × IsNarrowFormula o.goal) × AreNarrow others

-- the types of the values, the types and terms of the definitions, the parameters of the predicates
pub record IsNarrowEnvironment (env : Environment) : Type 0 where
  pub val_types : (number : ℕ) (ty : TyTree) → slice_get env.vals number ≡ Some ty → IsNarrowTy ty
  pub def_types : (number : ℕ) (definition : TyTree × TermTree)
      → slice_get env.defs number ≡ Some definition
      → IsNarrowTy (definition.0)
  pub def_terms : (number : ℕ) (definition : TyTree × TermTree)
      → slice_get env.defs number ≡ Some definition
      → IsNarrowTerm (definition.1)
  pub rec_params : (number : ℕ) (r : RecTree) → slice_get env.recs number ≡ Some r → All IsNarrowMono r.params

-- what an item adds
abbrev pub IsNarrowAdded : Added → Type 0
IsNarrowAdded adds_nothing = Unit {0}
IsNarrowAdded (adds_def ty term) = IsNarrowTy ty × IsNarrowTerm term
IsNarrowAdded (adds_val ty term) = IsNarrowTy ty × IsNarrowTerm term
IsNarrowAdded (adds_rec r) = All IsNarrowMono r.params × (IsNarrowFormula r.at_zero × IsNarrowFormula r.at_next)
