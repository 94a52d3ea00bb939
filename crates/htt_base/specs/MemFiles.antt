-- What files in memory hold, and which of their calls fail.
use Rattle.std.specs.Prelude.{ℕ, Bool, List, [], ◌∷◌, ◌++◌, String, Vec, string_bytes, nat_eq, find, reverse, map}
use Rattle.std.specs.Prelude.{option_map, Contains, ◌≡◌}
use Rattle.std.specs.Global.{Global}
use Rattle.std.specs.Cmp.Lexicographic.{pointwise}
use Rattle.htt_base.specs.Outside.{Held}
use Rattle.htt_base.specs.declared.mem_files.MemFiles.{MemFiles}

-- a name with its bytes
abbrev pub NamedBytes : Type 0
NamedBytes = String Global × Vec ℕ Global

abbrev pub has_name : List ℕ → NamedBytes → Bool
has_name name entry = pointwise nat_eq (string_bytes entry.0) name

-- what the entries hold: of several with one name the last counts
abbrev pub contents_of : List NamedBytes → Held
contents_of entries name = option_map (λ entry. entry.1.items) (find (has_name name) (reverse entries))

abbrev pub file_contents : MemFiles → Held
file_contents f = contents_of f.entries.items

-- the names that were read, in the order of the reads
abbrev pub read_names : MemFiles → List (List ℕ)
read_names f = map string_bytes f.reads.items

abbrev pub read_fault_count : MemFiles → ℕ
read_fault_count f = f.read_faults

abbrev pub write_fault_count : MemFiles → ℕ
write_fault_count f = f.write_faults

-- the number of the next call, counted from 0 over all calls
abbrev pub next_call : MemFiles → ℕ
next_call f = f.calls

-- the numbers of the calls that fail
abbrev pub failing_calls : MemFiles → List ℕ
failing_calls f = f.failing.items

-- the next call is one of those that fail
abbrev pub FailsNextCall : MemFiles → Type 0
FailsNextCall f = Contains (failing_calls f) (next_call f)

-- one entry more, with this name and these bytes
abbrev pub Appends : List NamedBytes → List NamedBytes → List ℕ → List ℕ → Type 0
Appends old new name bytes =
    (entry : NamedBytes) × (new ≡ old ++ entry ∷ []) × (string_bytes entry.0 ≡ name) × (entry.1.items ≡ bytes)
