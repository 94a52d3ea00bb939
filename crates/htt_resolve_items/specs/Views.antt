-- Items of the code as definitions speak of them.
use Rattle.std.specs.Prelude.{map}
use Rattle.htt_syntax.specs.Views.{mono_tree, ty_tree, term_tree, formula_tree}
use Rattle.theory_items.specs.Items.{i_abbreviation, i_pred, i_def, i_val, i_rec}
use Rattle.theory_text_items.specs.Items as items
use Rattle.theory_views.specs.Environments.{rec_tree}
use Rattle.htt_resolve_names.specs.Views.{names_tree}
use Rattle.htt_resolve_items.specs.declared.item.Item.{Item}
use Rattle.htt_resolve_items.specs.declared.item.Item.TheVariants as item
use Rattle.htt_resolve_items.specs.declared.item.Resolved.{Resolved}

abbrev pub item_tree : Item → items.FileItem
item_tree (item.Abbreviation t) = items.an_item (i_abbreviation (mono_tree t))
item_tree (item.Pred monos params body) = items.an_item (i_pred monos (map mono_tree params) (formula_tree body))
item_tree (item.Def ty term) = items.an_item (i_def (ty_tree ty) (term_tree term))
item_tree (item.Val ty term) = items.an_item (i_val (ty_tree ty) (term_tree term))
item_tree (item.Rec r) = items.an_item (i_rec (rec_tree r))
item_tree (item.Proof target number) = items.a_proof target number

unfoldable pub resolved_tree : Resolved → items.Resolved
resolved_tree file = record { items = map item_tree file.items; names = names_tree file.names }
