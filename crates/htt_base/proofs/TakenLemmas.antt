-- What a reader gives when only so many bytes are taken of it.
use Rattle.std.proofs.Common.{ℕ, ◌≡◌, ◌<◌, List, length, take, min, Option, Some, None, IfSome, arith, sym, ap, ◌∙◌}
use Rattle.std.proofs.Math.Seq.{take-length}
use Rattle.std.proofs.lemmas.List.{length-take, take_min}
use Rattle.std.specs.Prelude.{option_map}

-- fewer than were asked for are all
take_whole : (n : ℕ) (bytes taken : List ℕ) → taken ≡ take n bytes → length taken < n → taken ≡ bytes
take_whole n bytes taken e fewer =
    let count : length taken ≡ min n (length bytes) = ap length e ∙ length-take n bytes in
    let all : min n (length bytes) ≡ length bytes = omega arith in
    e ∙ sym (take_min n bytes) ∙ rw all (take-length bytes)

pub taken_whole : (known : Option (List ℕ)) (n : ℕ) (taken : List ℕ)
    → IfSome (option_map (take n) known) (λ xs. taken ≡ xs)
    → length taken < n
    → IfSome known (λ bytes. taken ≡ bytes)
taken_whole None n taken e fewer = tt
taken_whole (Some bytes) n taken e fewer = take_whole n bytes taken e fewer
