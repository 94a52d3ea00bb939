-- The forms of a command's words. A word is its bytes.
use Rattle.std.specs.Prelude.{ℕ, ◌≡◌, ◌≤◌, ◌++◌, List, [], ◌∷◌, codes, Option, Some, None, option_map}
use Rattle.std.specs.Fmt.{decimal}
use Rattle.htt_top_words.specs.declared.command.Command.{Command}
use Rattle.htt_top_words.specs.declared.command.Command.TheVariants as rust

-- what words say: `go FILE`, or `run CODE [--heap FILE] [--steps N]`
pub data WordsForm : Type 0 where
  go : (file : List ℕ) → WordsForm
  run : (code : List ℕ) → (heap : Option (List ℕ)) → (steps : Option ℕ) → WordsForm

-- a flag with the word after it, where it is given
abbrev pub option_words : List ℕ → Option (List ℕ) → List (List ℕ)
option_words flag None = []
option_words flag (Some word) = flag ∷ word ∷ []

-- the words of a form: names first, then the options in this order, each once at most
abbrev pub words_of : WordsForm → List (List ℕ)
words_of (go file) = codes "go" ∷ file ∷ []
words_of (run code heap steps) =
    codes "run" ∷ code ∷
    (option_words (codes "--heap") heap ++ option_words (codes "--steps") (option_map decimal steps))

-- a number of steps that may be asked for
pub record IsStepCount (n : ℕ) : Type 0 where
  pub some : 1 ≤ n
  pub most : n ≤ 1000000000

abbrev pub AsksSteps : Option ℕ → Type 0
AsksSteps None = Unit {0}
AsksSteps (Some n) = IsStepCount n

abbrev pub IsWithinLimits : WordsForm → Type 0
IsWithinLimits (go file) = Unit {0}
IsWithinLimits (run code heap steps) = AsksSteps steps

-- the words have this form
pub record HasForm (words : List (List ℕ)) (form : WordsForm) : Type 0 where
  pub said : words ≡ words_of form
  pub within : IsWithinLimits form

-- the words have no form
abbrev pub HasNoForm : List (List ℕ) → Type 0
HasNoForm words = (form : WordsForm) → HasForm words form → ⊥

-- the form of a command
abbrev pub form_of : Command → WordsForm
form_of (rust.Go file) = go file.now
form_of (rust.Run code heap steps) = run code.now (option_map (λ name. name.now) heap) steps
