-- A printed name stands, where the binders bear the printed names, for what it was printed for.
use Rattle.std.specs.Prelude.{◌≡◌, ℕ, suc, ◌-◌, ◌<◌, ◌^◌, List, length, take, true, false, Some, Ok, slice_get}
use Rattle.htt_parser_trees.specs.declared.place.Span.{Span}
use Rattle.theory_text_names.specs.Scopes.{Sort, the_init, the_mem, Scope, bytes_of, is_reserved}
use Rattle.theory_text_names.specs.Uses.{a_variable, declared_use, use_at, hypothesis_named, heap_outside, is_init, is_mem}
use Rattle.theory_printing.specs.Names.{PrintScope, name_at, hypothesis_name, count_of}
use Rattle.theory_printing_conditions.specs.Conditions.{IsHypothesis}
use Rattle.theory_printing_names.specs.Scopes.{is_named, HasPrintedNames}

pub record PrintedNames : Type 0 where
  pub entries : (s : PrintScope) (counts : List ℕ) (r : Scope) (index : ℕ) (sort : Sort) (span : Span)
      → HasPrintedNames s counts r
      → slice_get s.entries index ≡ Some sort
      → is_named sort ≡ true
      → length s.entries < 2 ^ 64
      → bytes_of r.text span ≡ name_at sort (length s.entries - suc index)
      → use_at r span ≡ Some (a_variable index sort)
  -- past as many of its kind as stand inside
  pub init : (s : PrintScope) (counts : List ℕ) (r : Scope) (index : ℕ)
      → HasPrintedNames s counts r
      → slice_get s.entries index ≡ Some the_init
      → heap_outside is_init (count_of is_init (take index s.entries)) 0 r.locals ≡ Some index
  pub mem : (s : PrintScope) (counts : List ℕ) (r : Scope) (index : ℕ)
      → HasPrintedNames s counts r
      → slice_get s.entries index ≡ Some the_mem
      → heap_outside is_mem (count_of is_mem (take index s.entries)) 0 r.locals ≡ Some index
  pub hypotheses : (s : PrintScope) (counts : List ℕ) (r : Scope) (number : ℕ) (span : Span)
      → HasPrintedNames s counts r
      → IsHypothesis s number
      → bytes_of r.text span ≡ hypothesis_name number
      → hypothesis_named r span ≡ Ok number
  -- no binder hides a name that may be declared
  pub declared : (s : PrintScope) (counts : List ℕ) (r : Scope) (name : List ℕ) (span : Span)
      → HasPrintedNames s counts r
      → is_reserved name ≡ false
      → bytes_of r.text span ≡ name
      → use_at r span ≡ declared_use name r.names
