-- What binders add is named as it was printed, and a use of a printed name finds what it was printed for.
use Rattle.std.proofs.Common.{◌≡◌, ℕ, zero, suc, ◌+◌, ◌-◌, ◌<◌, ◌^◌, List, length, true, false, refl, ◌∙◌, ap, arith}
use Rattle.std.specs.Prelude.{Some, Ok, slice_get}
use Rattle.htt_parser_trees.specs.declared.place.Span.{Span}
use Rattle.theory_text_names.specs.Scopes.{Sort, the_init, the_mem, a_hypothesis, Scope, bytes_of, under_name, under_hypothesis, is_reserved}
use Rattle.theory_text_names.specs.Scopes as scopes
use Rattle.theory_text_names.specs.Uses.{a_variable, declared_use, local_use, first_some, use_at, hypothesis_of_use, hypothesis_named}
use Rattle.theory_text_names.specs.Uses.{is_init, is_mem}
use Rattle.theory_printing.specs.Names.{PrintScope, with_entry, with_hypothesis, under_mem, under_heaps, name_at, hypothesis_name}
use Rattle.theory_printing_conditions.specs.Conditions.{IsHypothesis}
use Rattle.theory_printing_names.specs.Scopes.{is_named, named_entry, named_init, named_mem, named_hypothesis, HasPrintedNames}
use Rattle.theory_printing_names.specs.Laws.{PrintedNames}
use Rattle.theory_printing_names.proofs.Lookups.{entry_found, heap_found, hypothesis_found, none_found}

-- ---- under binders

pub under_entry : {s : PrintScope} {counts : List ℕ} {r : Scope} (sort : Sort) (span : Span)
    → is_named sort ≡ true
    → bytes_of r.text span ≡ name_at sort (length s.entries)
    → HasPrintedNames s counts r
    → HasPrintedNames (with_entry sort s) counts (under_name r span sort)
under_entry sort span is e n =
    record { locals = named_entry is (ap Some e) n.locals; declared = record { vals = n.declared.vals; recs = n.declared.recs } }

pub under_new_hypothesis : {s : PrintScope} {counts : List ℕ} {r : Scope} (span : Span)
    → bytes_of r.text span ≡ hypothesis_name s.hypotheses
    → HasPrintedNames s counts r
    → HasPrintedNames (with_hypothesis s) counts (under_hypothesis r span)
under_new_hypothesis span e n =
    record { locals = named_hypothesis (ap Some e) n.locals; declared = record { vals = n.declared.vals; recs = n.declared.recs } }

pub under_own_mem : {s : PrintScope} {counts : List ℕ} {r : Scope} → HasPrintedNames s counts r → HasPrintedNames (under_mem s) counts (scopes.under_mem r)
under_own_mem n = record { locals = named_mem n.locals; declared = record { vals = n.declared.vals; recs = n.declared.recs } }

pub under_own_heaps : {s : PrintScope} {counts : List ℕ} {r : Scope}
    → HasPrintedNames s counts r
    → HasPrintedNames (under_heaps s) counts (scopes.under_heaps r)
under_own_heaps n = record { locals = named_mem (named_init n.locals); declared = record { vals = n.declared.vals; recs = n.declared.recs } }

-- ---- what a name stands for

zero_plus : (n : ℕ) → zero + n ≡ n
zero_plus n = omega arith

pub use_found : {s : PrintScope} {counts : List ℕ} {r : Scope} (index : ℕ) (sort : Sort) (span : Span)
    → HasPrintedNames s counts r
    → slice_get s.entries index ≡ Some sort
    → is_named sort ≡ true
    → length s.entries < 2 ^ 64
    → bytes_of r.text span ≡ name_at sort (length s.entries - suc index)
    → use_at r span ≡ Some (a_variable index sort)
use_found {s} {counts} {r} index sort span n at is few e =
    ap (λ o. first_some o (declared_use (bytes_of r.text span) r.names)) (entry_found index zero sort (bytes_of r.text span) n.locals at is few e)
    ∙ ap (λ m. Some (a_variable m sort)) (zero_plus index)

pub declared_found : {s : PrintScope} {counts : List ℕ} {r : Scope} (name : List ℕ) (span : Span)
    → HasPrintedNames s counts r
    → is_reserved name ≡ false
    → bytes_of r.text span ≡ name
    → use_at r span ≡ declared_use name r.names
declared_found {s} {counts} {r} name span n free e =
    ap (λ bs. first_some (local_use bs zero r.locals) (declared_use bs r.names)) e
    ∙ ap (λ o. first_some o (declared_use name r.names)) (none_found zero name n.locals free)

pub hypothesis_read : {s : PrintScope} {counts : List ℕ} {r : Scope} (number : ℕ) (span : Span)
    → HasPrintedNames s counts r
    → IsHypothesis s number
    → bytes_of r.text span ≡ hypothesis_name number
    → hypothesis_named r span ≡ Ok number
hypothesis_read {s} {counts} {r} number span n h e =
    ap (hypothesis_of_use span.from)
    (ap (λ o. first_some o (declared_use (bytes_of r.text span) r.names)) (hypothesis_found number zero (bytes_of r.text span) n.locals h.0 h.1 e))

-- ---- all of it

from_zero : (index : ℕ) → Some (zero + index) ≡ Some index
from_zero index = ap Some (zero_plus index)

pub printed_names : PrintedNames
printed_names = record {
  entries = λ s counts r index sort span names at is few e. use_found index sort span names at is few e;
  init = λ s counts r index names at. heap_found is_init index zero the_init refl names.locals at refl ∙ from_zero index;
  mem = λ s counts r index names at. heap_found is_mem index zero the_mem refl names.locals at refl ∙ from_zero index;
  hypotheses = λ s counts r number span names h e. hypothesis_read number span names h e;
  declared = λ s counts r name span names free e. declared_found name span names free e;
}
