-- Words that are copied within a list.
use Rattle.std.proofs.Common.{ℕ, ◌≡◌, ◌+◌, ◌-◌, ◌≤◌, List, length, take, drop, refl, arith}
use Rattle.std.proofs.lemmas.List.{length-take-le, length-drop}
use Rattle.std.specs.List.{copy_within}
use Rattle.word_loader_code.specs.Machine.{words_at, with_words}

pub copied_within : (d : List ℕ) (to from n : ℕ) → from + n ≤ length d → copy_within d from (from + n) to ≡ with_words d to (words_at d from n)
copied_within d to from n within =
    let count : from + n - from ≡ n = omega arith in
    let some : length (take n (drop from d)) ≡ n = length-take-le n (drop from d) (omega (arith, length-drop from d)) in
    rw (count, some) refl
