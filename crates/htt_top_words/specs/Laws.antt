-- A law of words.
use Rattle.std.specs.Prelude.{ℕ, ◌≡◌, List}
use Rattle.htt_top_words.specs.Forms.{WordsForm, HasForm}

-- words have one form at most
abbrev pub OneFormOfWords : Type 0
OneFormOfWords = (words : List (List ℕ)) (a b : WordsForm) → HasForm words a → HasForm words b → a ≡ b
