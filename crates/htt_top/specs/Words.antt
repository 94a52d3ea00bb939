-- What a command's words name, and which of it was read.
use Rattle.std.specs.Prelude.{ℕ, ◌≡◌, ◌++◌, ◌⊎◌, List, [], ◌∷◌, Option, Some, None, Ok}
use Rattle.htt_base.specs.Outside.{Told}
use Rattle.word_loader_code.specs.declared.code.Code.{Code}
use Rattle.htt_top_words.specs.Forms.{WordsForm, go, run, HasForm}
use Rattle.htt_top.specs.Stages.{Seen, CodeGives}

-- the most steps of a run that is asked for none
abbrev pub default_steps : ℕ
default_steps = 10000000

abbrev pub step_limit : Option ℕ → ℕ
step_limit None = default_steps
step_limit (Some n) = n

abbrev pub names_of : Option (List ℕ) → List (List ℕ)
names_of None = []
names_of (Some name) = name ∷ []

-- of these files a first part was read more, where the files tell what was read
abbrev pub ReadsOf : List (List ℕ) → Option (List (List ℕ)) → Option (List (List ℕ)) → Type 0
ReadsOf files before now =
    Told before (λ b. (names left : List (List ℕ)) × (files ≡ names ++ left) × (now ≡ Some (b ++ names)))

-- a code file has code, as the files hold it
abbrev pub HasCode : Seen → List ℕ → Type 0
HasCode s name = (code : Code) × CodeGives s name (Ok code)

-- at most the code file was read more, or it has code and the heap file was read behind it
abbrev pub ReadsRun : Seen → List ℕ → Option (List ℕ) → Option (List (List ℕ)) → Option (List (List ℕ)) → Type 0
ReadsRun s code heap before now =
    ReadsOf (code ∷ []) before now ⊎ (HasCode s code × ReadsOf (code ∷ names_of heap) before now)

abbrev pub ReadsForm : Seen → WordsForm → Option (List (List ℕ)) → Option (List (List ℕ)) → Type 0
ReadsForm s (go file) = ReadsOf (file ∷ [])
ReadsForm s (run code heap steps) = ReadsRun s code heap

-- only what the words name was read more, in its order, and a heap file only where the code file has code
abbrev pub ReadsNamed : List (List ℕ) → Seen → Option (List (List ℕ)) → Option (List (List ℕ)) → Type 0
ReadsNamed words s before now =
    ReadsOf [] before now ⊎ ((form : WordsForm) × HasForm words form × ReadsForm s form before now)
