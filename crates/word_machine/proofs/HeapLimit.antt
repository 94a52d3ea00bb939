-- Whether a new block passes the limit on the heap.
use Rattle.std.proofs.Common.{ℕ, ◌≡◌, ◌+◌, ◌<◌, Bool, true, false, if◌then◌else◌, Some, None, refl, arith}
use Rattle.std.specs.Prelude.{nat_lt}
use Rattle.std.proofs.lemmas.Bool.{ltb-true, lt-ltb}
use Rattle.htt_syntax_words.specs.declared.words.Bound.{Bound}
use Rattle.htt_syntax_words.specs.declared.words.Bound.TheVariants as bounds
use Rattle.theory_values.specs.Heaps.{Heap}
use Rattle.heap_model_flat.specs.Listing.{IsSize}
use Rattle.heap_model_flat.proofs.ChangedListing.{listing_laws}
use Rattle.word_loader_code.specs.declared.code.Code.{Code}
use Rattle.word_loader_code.specs.declared.code.Instr.TheVariants.{Alloc}
use Rattle.word_loader_code.specs.Machine.{Stack}
use Rattle.word_machine.specs.Limits.{IsPassed}
use Rattle.word_machine.specs.Runs.{heap_limit, PassesLimit}

not_past : (size more total : ℕ) → nat_lt heap_limit (size + more) ≡ false → total ≡ size + more → heap_limit < total → ⊥
not_past size more total e is past = true≢false (lt-ltb heap_limit (size + more) (omega arith)) e
  where
    true≢false : {b : Bool} → b ≡ true → b ≡ false → ⊥
    true≢false p q = cc

none_past : (code : Code) (h : Heap) (stack : Stack) (d s n size : ℕ)
    → IsSize h size
    → nat_lt heap_limit (size + (n + 1)) ≡ false
    → (bound : Bound) (total : ℕ)
    → PassesLimit code h stack (Some (Alloc d s n)) bound total
    → ⊥
none_past code h stack d s n size is e bounds.Heap total p =
    let same = listing_laws.sizes_agree h p.0 size p.1 is in
    not_past size (n + 1) total e (let sum : total ≡ p.0 + (n + 1) = p.2 in omega arith) p.3
none_past code h stack d s n size is e bounds.Step total p = p
none_past code h stack d s n size is e bounds.Frame total p = p
none_past code h stack d s n size is e bounds.Fuel total p = p
none_past code h stack d s n size is e bounds.Turns total p = p

pub heap_passed : (code : Code) (h : Heap) (stack : Stack) (d s n size : ℕ)
    → IsSize h size
    → IsPassed (PassesLimit code h stack (Some (Alloc d s n)))
    (if nat_lt heap_limit (size + (n + 1)) then Some (bounds.Heap, size + (n + 1)) else None)
heap_passed code h stack d s n size is = by_test (nat_lt heap_limit (size + (n + 1))) refl
  where
    by_test : (b : Bool)
        → nat_lt heap_limit (size + (n + 1)) ≡ b
        → IsPassed (PassesLimit code h stack (Some (Alloc d s n))) (if b then Some (bounds.Heap, size + (n + 1)) else None)
    by_test true e = (size, is, refl, ltb-true heap_limit (size + (n + 1)) e)
    by_test false e = none_past code h stack d s n size is e
