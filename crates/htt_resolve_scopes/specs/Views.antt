-- Places of the code as definitions speak of them.
use Rattle.std.specs.Prelude.{◌≡◌, ℕ, Bool, List, map, reverse, Option, option_map}
use Rattle.htt_syntax.specs.Trees.{MonoTree, m_var}
use Rattle.htt_syntax.specs.Views.{mono_tree, formula_tree}
use Rattle.theory_text_names.specs.Scopes as scopes
use Rattle.theory_text_names.specs.Uses as uses
use Rattle.htt_resolve_names.specs.declared.stop.NameStop.{NameStop}
use Rattle.htt_resolve_names.specs.declared.stop.NameStop.TheVariants as stops
use Rattle.htt_resolve_names.specs.Views.{rows_tree, meaning_tree}
use Rattle.htt_resolve_scopes.specs.declared.local.Sort.{Sort}
use Rattle.htt_resolve_scopes.specs.declared.local.Sort.TheVariants as sorts
use Rattle.htt_resolve_scopes.specs.declared.local.Local.{Local}
use Rattle.htt_resolve_scopes.specs.declared.heaps.HeapWord.{HeapWord}
use Rattle.htt_resolve_scopes.specs.declared.heaps.HeapWord.TheVariants as words
use Rattle.htt_resolve_scopes.specs.declared.named.MonoUse.{MonoUse}
use Rattle.htt_resolve_scopes.specs.declared.named.MonoUse.TheVariants as monos
use Rattle.htt_resolve_scopes.specs.declared.named.PredUse.{PredUse}
use Rattle.htt_resolve_scopes.specs.declared.scope.Scope.{Scope}
use Rattle.htt_resolve_scopes.specs.declared.uses.Use.{Use}
use Rattle.htt_resolve_scopes.specs.declared.uses.Use.TheVariants as kinds

abbrev pub sort_of : Sort → scopes.Sort
sort_of sorts.Mono = scopes.a_mono
sort_of sorts.Term = scopes.a_term
sort_of sorts.Heap = scopes.a_heap
sort_of sorts.TermOrHeap = scopes.a_term_or_heap
sort_of sorts.Init = scopes.the_init
sort_of sorts.Mem = scopes.the_mem
sort_of sorts.Hypothesis = scopes.a_hypothesis

abbrev pub name_of : Local → Option (List ℕ)
name_of l = option_map (λ name. name.now) l.name

abbrev pub local_tree : Local → scopes.Local
local_tree l = record { name = name_of l; sort = sort_of l.sort }

-- the binders around a place, which the code keeps with the outermost first
unfoldable pub innermost_first : List Local → List scopes.Local
innermost_first locals = reverse (map local_tree locals)

abbrev pub scope_tree : Scope → scopes.Scope
scope_tree s =
    record {
      text = s.text.now;
      names = rows_tree s.names.now;
      locals = innermost_first s.locals.items;
      current = s.current;
    }

abbrev pub use_tree : Use → uses.Use
use_tree (kinds.Variable n sort) = uses.a_variable n (sort_of sort)
use_tree (kinds.Hypothesis n) = uses.the_hypothesis n
use_tree (kinds.Declared m) = uses.a_declared (meaning_tree m.now)

-- a monotype that has a name
abbrev pub mono_use_tree : MonoUse → MonoTree
mono_use_tree (monos.Variable n) = m_var n
mono_use_tree (monos.Declared t) = mono_tree t.now

abbrev pub pred_use_tree : PredUse → scopes.PredTree
pred_use_tree p = record { monos = p.monos; params = map mono_tree p.params.now; body = formula_tree p.body.now }

-- the locals of these that a heap's word speaks of
abbrev pub is_of : HeapWord → scopes.Sort → Bool
is_of words.Init = uses.is_init
is_of words.Mem = uses.is_mem

abbrev pub IsMemory : NameStop → Type 0
IsMemory stop = stop ≡ stops.NoMemory
