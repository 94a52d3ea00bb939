-- Names and stops of the code as definitions speak of them.
use Rattle.std.specs.Prelude.{List, map, Option, Some, None, option_map}
use Rattle.htt_syntax.specs.Views.{mono_tree, formula_tree}
use Rattle.theory_text_names.specs.Stops.{Stop, unbound, duplicate, wrong_sort, too_large, too_deep}
use Rattle.theory_text_names.specs.Scopes as scopes
use Rattle.htt_resolve_names.specs.declared.names.Meaning.{Meaning}
use Rattle.htt_resolve_names.specs.declared.names.Meaning.TheVariants as meaning
use Rattle.htt_resolve_names.specs.declared.names.Declared.{Declared}
use Rattle.htt_resolve_names.specs.declared.names.Names.{Names}
use Rattle.htt_resolve_names.specs.declared.stop.NameStop.{NameStop}
use Rattle.htt_resolve_names.specs.declared.stop.NameStop.TheVariants as stops

abbrev pub meaning_tree : Meaning → scopes.Meaning
meaning_tree (meaning.Mono t) = scopes.means_mono (mono_tree t)
meaning_tree (meaning.Pred monos params body) =
    scopes.means_pred (record { monos = monos; params = map mono_tree params; body = formula_tree body })
meaning_tree (meaning.Rec number params) = scopes.means_rec number params
meaning_tree (meaning.Def number) = scopes.means_def number
meaning_tree (meaning.Val number) = scopes.means_val number

unfoldable pub declared_tree : Declared → scopes.Declared
declared_tree d = record { name = d.name; meaning = meaning_tree d.meaning }

-- the rows of a table of names
unfoldable pub rows_tree : List (Option Declared) → scopes.Names
rows_tree rows = map (option_map declared_tree) rows

abbrev pub names_tree : Names → scopes.Names
names_tree names = rows_tree names.rows

-- an event as an answer; none is want of memory
abbrev pub event_of : NameStop → Option Stop
event_of (stops.Unbound at) = Some (unbound at)
event_of (stops.Duplicate at) = Some (duplicate at)
event_of (stops.WrongSort at) = Some (wrong_sort at)
event_of stops.TooLarge = Some too_large
event_of stops.TooDeep = Some too_deep
event_of stops.NoMemory = None
