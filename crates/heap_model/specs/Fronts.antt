-- A value that stands at the front of words.
use Rattle.std.specs.Prelude.{◌≡◌, ℕ, ◌≤◌, List, length, take, Option, Some, None, MatchOption}
use Rattle.htt_syntax.specs.Trees.{MonoTree}
use Rattle.theory_values.specs.Values.{Value, width, value_of_words}
use Rattle.heap_model.specs.declared.front.Front.{Front}
use Rattle.heap_model.specs.Views.{value_tree}

-- the value of as many words as the monotype is wide, where there are as many and they have one
abbrev pub front_value : MonoTree → List ℕ → Option Value
front_value t words = value_of_words t (take (width t) words)

-- the front is that value with its width
abbrev pub IsFront : MonoTree → List ℕ → Option Front → Type 0
IsFront t words front =
    MatchOption front (front_value t words ≡ None)
    (λ f. (front_value t words ≡ Some (value_tree f.value)) × (f.len ≡ width t) × (width t ≤ length words))
