-- Items whose trees are sorted, each from the outside of its own binders on.
use Rattle.std.specs.Prelude.{List, [], ◌∷◌, length}
use Rattle.theory_truth.specs.Predicates.{RecTree}
use Rattle.htt_syntax.specs.Trees.{MonoTree}
use Rattle.theory_items.specs.Items.{i_abbreviation, i_pred, i_def, i_val, i_rec}
use Rattle.theory_text_names.specs.Scopes.{a_term, the_mem}
use Rattle.theory_text_items.specs.Items.{FileItem, an_item, a_proof}
use Rattle.theory_text_scoped.specs.Sorted.{SortedMono, SortedTy, SortedTerm, SortedFormula}
use Rattle.theory_text_scoped.specs.Scopes.{under_parameters, SortedPred}

unfoldable pub AreClosed : List MonoTree → Type 0
AreClosed [] = Unit {0}
AreClosed (t ∷ ts) = SortedMono [] t × AreClosed ts

pub record SortedRec (r : RecTree) : Type 0 where
  pub params : AreClosed r.params
  pub at_zero : SortedFormula (the_mem ∷ under_parameters (length r.params) []) r.at_zero
  pub at_next : SortedFormula (the_mem ∷ under_parameters (length r.params) (a_term ∷ [])) r.at_next

abbrev pub SortedItem : FileItem → Type 0
SortedItem (an_item (i_abbreviation t)) = SortedMono [] t
SortedItem (an_item (i_pred monos params body)) = SortedPred (record { monos = monos; params = params; body = body })
SortedItem (an_item (i_def ty term)) = SortedTy [] ty × SortedTerm [] term
SortedItem (an_item (i_val ty term)) = SortedTy [] ty × SortedTerm [] term
SortedItem (an_item (i_rec r)) = SortedRec r
SortedItem (a_proof target number) = Unit {0}

unfoldable pub AreSortedItems : List FileItem → Type 0
AreSortedItems [] = Unit {0}
AreSortedItems (item ∷ items) = SortedItem item × AreSortedItems items
