-- The headline isn't empty: a file to which it applies, with its code, that was found by hand.
use Rattle.std.specs.Prelude.{◌≡◌, ℕ, zero, List, [], ◌∷◌, Ok, Some, slice_get}
use Rattle.htt_syntax.specs.Trees.{TripleTree, triple, m_word, t_var, t_word, y_hoare, f_tt, f_eq}
use Rattle.theory_values.specs.Heaps.{Heap}
use Rattle.word_loader_code.specs.Machine.{machine_after, halted}
use Rattle.theory_typing.specs.Laws.{none, sum_goal}
use Rattle.theory_file_derived.specs.Derived.{IsDerived}
use Rattle.theory_file_derived.specs.Examples.{sum_file, main_proved}
use Rattle.theory_extraction.specs.Extraction.{HasCode}
use Rattle.theory_extraction_valid.specs.Examples.{sum_env, sum_code}
use Rattle.theory_checking_files.specs.Files.{checked_all, ItemsComeTo}
use Rattle.theory_extraction_sound.specs.Outcomes.{StartsEmpty}

-- {tt} x : word {x =[word] 5}
abbrev pub five : TripleTree
five = triple f_tt m_word (f_eq m_word (t_var 2) (t_word 5))

-- val main : {tt} x : word {x =[word] 5} = do ret 2 + 3
pub record WorkedHeadline : Type 0 where
  pub derived : IsDerived sum_file (main_proved ∷ []) sum_env
  pub has_code : HasCode sum_file (Some 0) sum_code
  pub main : slice_get sum_env.vals 0 ≡ Some (y_hoare five)
  pub checked : ItemsComeTo zero none sum_file (Ok (checked_all sum_env ((sum_goal ∷ []) ∷ [])))
  pub starts_empty : StartsEmpty five
  -- after two steps, from each heap with all choices
  pub halts : (h : Heap) (choices : List ℕ) → machine_after sum_code h choices 2 ≡ halted (5 ∷ []) h
