-- In a plain form substitution goes slot by slot, and the result is folded; and where there is a result, each slot
-- has one.
use Rattle.std.specs.Prelude.{◌≡◌, ℕ, true, Option, Some, None, ⊤}
use Rattle.htt_syntax.specs.Trees.{TermTree}
use Rattle.theory_canonical.specs.Skeletons.{Skeleton}
use Rattle.theory_substitution.specs.Closing.{closing}
use Rattle.shared_terms_rows.specs.declared.form.Form.{Form}
use Rattle.shared_terms_rows.specs.declared.slots.Slot.{Slot}
use Rattle.shared_terms_rows.specs.Parts.{Part, build}
use Rattle.shared_terms_rows.specs.Forms.{slots}
use Rattle.shared_terms_rows.specs.Rows.{IsOfSlot}
use Rattle.theory_rows_renaming.specs.Renaming.{rename_form}
use Rattle.theory_rows_substitution.specs.Substitution.{SubPart, SubSlot, ups, beyond, fold_part, is_plain}

abbrev pub PutSlotBySlot : Type 0
PutSlotBySlot =
    (new : TermTree) (s : Skeleton) (x : ℕ) (f : Form)
    → is_plain f ≡ true
    → (a b c d p q r t : Part)
    → SubSlot new s x ((slots f).first) a p
    → SubSlot new s x ((slots f).second) b q
    → SubSlot new s x ((slots f).third) c r
    → SubSlot new s x ((slots f).fourth) d t
    → SubPart new s x (build f a b c d) (fold_part (build (rename_form (closing x) f) p q r t))

-- What stands in a slot has a result.
abbrev pub HasSlot : TermTree → Skeleton → ℕ → Option Slot → Part → Type 0
HasSlot new s x None part = ⊤
HasSlot new s x (Some slot) part =
    (result : Part) × SubPart (ups slot.binders new) s (beyond slot.binders x) part result

abbrev pub SlotsHaveResults : Type 0
SlotsHaveResults =
    (new : TermTree) (s : Skeleton) (x : ℕ) (f : Form)
    → is_plain f ≡ true
    → (a b c d result : Part)
    → IsOfSlot ((slots f).first) a
    → IsOfSlot ((slots f).second) b
    → IsOfSlot ((slots f).third) c
    → IsOfSlot ((slots f).fourth) d
    → SubPart new s x (build f a b c d) result
    → HasSlot new s x ((slots f).first) a
    × HasSlot new s x ((slots f).second) b
    × HasSlot new s x ((slots f).third) c
    × HasSlot new s x ((slots f).fourth) d
