-- Two phrases come to the same, but for bytes.
use Rattle.std.specs.Prelude.{◌≡◌, Result, Ok, Err}
use Rattle.theory_text_names.specs.Stops.{Stop, unbound, duplicate, wrong_sort, too_large, too_deep}

-- a stop without its byte
abbrev pub plain_stop : Stop → Stop
plain_stop (unbound at) = unbound 0
plain_stop (duplicate at) = duplicate 0
plain_stop (wrong_sort at) = wrong_sort 0
plain_stop too_large = too_large
plain_stop too_deep = too_deep

-- both give something, which is the same without its bytes, or both are stopped for the same reason
abbrev pub SameResult : {A B : Type 0} → (A → B) → Result A Stop → Result A Stop → Type 0
SameResult plain (Ok a) (Ok b) = plain a ≡ plain b
SameResult plain (Err stop) (Err other) = plain_stop stop ≡ plain_stop other
SameResult plain _ _ = ⊥
