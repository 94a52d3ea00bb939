-- Numbers as bytes, the lowest byte first.
use Rattle.std.specs.Prelude.{ℕ, zero, suc, ◌+◌, ◌*◌, ◌/◌, ◌%◌, List, [], ◌∷◌, take, drop}

-- the lowest bytes of a number, of this width
unfoldable pub little_endian : ℕ → ℕ → List ℕ
little_endian zero n = []
little_endian (suc width) n = n % 256 ∷ little_endian width (n / 256)

-- the number that bytes write
unfoldable pub number_written : List ℕ → ℕ
number_written [] = 0
number_written (b ∷ bytes) = b + 256 * number_written bytes

-- the number of this width at a place of a file, as if bytes beyond the end were 0
unfoldable pub number_in_file : List ℕ → ℕ → ℕ → ℕ
number_in_file file at width = number_written (take width (drop at file))
