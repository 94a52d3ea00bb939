-- Where a phrase is printed, and the names that are printed for what it speaks of: each entry is named by its position,
-- which counts from the outermost one, each hypothesis by its number.
use Rattle.std.specs.Prelude.{ℕ, zero, suc, ◌+◌, ◌-◌, Bool, true, false, List, [], ◌∷◌, ◌++◌, length, take, Option}
use Rattle.std.specs.Prelude.{Some, None, codes, decimal, slice_get, if◌then◌else◌}
use Rattle.htt_lexer_tokens.specs.declared.tokens.Keyword.TheVariants.{InitWord, MemWord}
use Rattle.htt_lexer_tokens.specs.declared.tokens.Sign.TheVariants.{UnderscoreSign, CaretSign}
use Rattle.theory_text_names.specs.Scopes.{Sort, a_mono, a_term, a_heap, the_init, the_mem}
use Rattle.theory_text_names.specs.Uses.{is_init, is_mem}
use Rattle.theory_printing.specs.Pieces.{Printed, nothing, ◌▹◌, word, sign, number, name}

-- The entries around a phrase, the innermost first, how many hypotheses there are, and the names of the values and of
-- the recursive predicates.
pub record PrintScope : Type 0 where
  pub entries : List Sort
  pub hypotheses : ℕ
  pub vals : List (List ℕ)
  pub recs : List (List ℕ)

-- ---- what binders add

abbrev pub with_entry : Sort → PrintScope → PrintScope
with_entry sort s = record s { entries = sort ∷ s.entries }

abbrev pub with_hypothesis : PrintScope → PrintScope
with_hypothesis s = record s { hypotheses = suc s.hypotheses }

-- a precondition
abbrev pub under_mem : PrintScope → PrintScope
under_mem s = with_entry the_mem s

-- a claim, and a postcondition under its result
abbrev pub under_heaps : PrintScope → PrintScope
under_heaps s = with_entry the_mem (with_entry the_init s)

-- ---- names by position

-- `_a`, `_h` and `_x`, which is also that of an entry that a proof adds
abbrev pub letters : Sort → List ℕ
letters a_mono = codes "_a"
letters a_heap = codes "_h"
letters _ = codes "_x"

abbrev pub name_at : Sort → ℕ → List ℕ
name_at sort position = letters sort ++ decimal position

abbrev pub hypothesis_name : ℕ → List ℕ
hypothesis_name number = codes "_u" ++ decimal number

-- the name of the entry, or of the hypothesis, that a binder adds
abbrev pub new_name : Sort → PrintScope → Printed
new_name sort s = name (name_at sort (length s.entries))

abbrev pub new_hypothesis : PrintScope → Printed
new_hypothesis s = name (hypothesis_name s.hypotheses)

-- ---- what an index stands for

-- how many entries pass
unfoldable pub count_of : (Sort → Bool) → List Sort → ℕ
count_of is_kind [] = zero
count_of is_kind (sort ∷ sorts) = (if is_kind sort then 1 else 0) + count_of is_kind sorts

-- the number behind `init` or `mem`, which is left out where no other is passed over
abbrev pub past : ℕ → Printed
past zero = nothing
past (suc n) = sign CaretSign ▹ number (suc n)

-- an index without an entry, and a number without a name, is printed as `_`, which is read back as nothing
unfoldable pub entry_of_sort : Option Sort → ℕ → List Sort → Printed
entry_of_sort None index entries = sign UnderscoreSign
entry_of_sort (Some the_init) index entries = word InitWord ▹ past (count_of is_init (take index entries))
entry_of_sort (Some the_mem) index entries = word MemWord ▹ past (count_of is_mem (take index entries))
entry_of_sort (Some sort) index entries = name (name_at sort (length entries - suc index))

abbrev pub entry : PrintScope → ℕ → Printed
entry s index = entry_of_sort (slice_get s.entries index) index s.entries

abbrev pub name_or_blank : Option (List ℕ) → Printed
name_or_blank (Some bytes) = name bytes
name_or_blank None = sign UnderscoreSign

abbrev pub val_name : PrintScope → ℕ → Printed
val_name s number = name_or_blank (slice_get s.vals number)

abbrev pub rec_name : PrintScope → ℕ → Printed
rec_name s number = name_or_blank (slice_get s.recs number)
