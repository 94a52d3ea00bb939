-- Places of the heap as words.
use Rattle.std.proofs.Common.{◌≡◌, ◌≢◌, ℕ, zero, suc, ◌++◌, refl, arith}
use Rattle.std.specs.Prelude.{codes, decimal}
use Rattle.theory_printing.specs.Pieces.{bytes_of}
use Rattle.theory_printing.specs.Phrases.{literal_place}
use Rattle.htt_printer_pieces.specs.Bytes.{place_bytes}

pub place_null : (n : ℕ) → n ≡ 0 → place_bytes n ≡ codes "null"
unfolding place_bytes bytes_of literal_place
place_null zero is = refl
place_null (suc n) is = grind arith

pub place_other : (n : ℕ) → n ≢ 0 → place_bytes n ≡ codes "place " ++ decimal n
unfolding place_bytes bytes_of literal_place
place_other zero other = absurd (other refl)
place_other (suc n) other = refl

pub ruleset place_rows = (place_null, place_other)
