-- What is read of locals, after words were written there.
use Rattle.std.specs.Prelude.{◌≡◌, ◌≤◌, ℕ, ◌+◌, List, [], ◌∷◌, ◌++◌, length, take}
use Rattle.word_loader_code.specs.Machine.{local_at, words_at, with_words}

pub record WordsAreRead : Type 0 where
  -- what was written is read back
  pub written : (locals : List ℕ) (place : ℕ) (words : List ℕ) (n : ℕ)
      → length words ≡ n
      → place ≤ length locals
      → words_at (with_words locals place words) place n ≡ words
  -- what stands before it is as it was
  pub before : (locals : List ℕ) (place : ℕ) (words : List ℕ) (n : ℕ)
      → n ≤ place
      → place ≤ length locals
      → take n (with_words locals place words) ≡ take n locals
  -- locals that agree below a place have the same words there
  pub agreeing : (locals others : List ℕ) (below place n : ℕ)
      → take below others ≡ take below locals
      → place + n ≤ below
      → words_at others place n ≡ words_at locals place n
  -- one word
  pub one : (locals : List ℕ) (place word : ℕ)
      → words_at locals place 1 ≡ word ∷ []
      → local_at locals place ≡ word
  -- the words of two places side by side
  pub side_by_side : (locals : List ℕ) (place m n : ℕ)
      → words_at locals place (m + n) ≡ words_at locals place m ++ words_at locals (place + m) n
  pub first : (locals : List ℕ) (place m n : ℕ) (left right : List ℕ)
      → words_at locals place (m + n) ≡ left ++ right
      → length left ≡ m
      → words_at locals place m ≡ left
  pub second : (locals : List ℕ) (place m n : ℕ) (left right : List ℕ)
      → words_at locals place (m + n) ≡ left ++ right
      → length left ≡ m
      → words_at locals (place + m) n ≡ right
