-- Files with one value, worked out by hand.
use Rattle.std.specs.Prelude.{List, [], ◌∷◌, Some, None, ◌≡◌}
use Rattle.htt_syntax.specs.declared.mono.Op.TheVariants.{Add}
use Rattle.htt_syntax.specs.Trees.{ProofTree, m_word, y_mono, t_word, t_bin, t_do, c_ret, p_hyp, p_second, p_block}
use Rattle.htt_syntax.specs.Trees.{d_intro, b_then, b_end}
use Rattle.theory_typing.specs.Contexts.{Environment}
use Rattle.theory_typing.specs.Laws.{none, sum_goal}
use Rattle.theory_items.specs.Items.{ItemTree, i_abbreviation, i_def, i_val, with_val}
use Rattle.theory_items.specs.Examples.{gives_five}
use Rattle.theory_file_derived.specs.Derived.{by_auto, by_proof, ProofItem, IsDerived, IsOpen, texts_of}

-- val main : {tt} x : word {x =[word] 5} = do ret 2 + 3
abbrev pub sum_file : List ItemTree
sum_file = i_val gives_five (t_do (c_ret (t_bin Add (t_word 2) (t_word 3)))) ∷ []

-- proof main.1 = intro u; second(u), and auto in its place
abbrev pub second_part : ProofTree
second_part = p_block (b_then d_intro (b_end (p_second (p_hyp 0))))

abbrev pub main_proved : ProofItem
main_proved = record { item = Some 0; number = 1; given = by_proof second_part }

abbrev pub main_left : ProofItem
main_left = record { item = Some 0; number = 1; given = by_auto }

-- proof main.2, and a proof for a name that no item has
abbrev pub main_second : ProofItem
main_second = record { item = Some 0; number = 2; given = by_proof second_part }

abbrev pub other_proved : ProofItem
other_proved = record { item = None; number = 1; given = by_proof second_part }

pub record WorkedExamples : Type 0 where
  pub derived : IsDerived sum_file (main_proved ∷ []) (with_val none gives_five)
  -- an obligation without a proof is open, and so is one that is left to provers
  pub without_proof : IsOpen ((sum_goal ∷ []) ∷ []) [] 0 1 sum_goal
  pub with_auto : IsOpen ((sum_goal ∷ []) ∷ []) (main_left ∷ []) 0 1 sum_goal
  pub not_without : (final : Environment) → IsDerived sum_file [] final → ⊥
  pub not_auto : (final : Environment) → IsDerived sum_file (main_left ∷ []) final → ⊥
  -- no obligation has two proofs, and each proof has an obligation
  pub not_twice : (final : Environment) → IsDerived sum_file (main_proved ∷ main_proved ∷ []) final → ⊥
  pub not_stray : (final : Environment) → IsDerived sum_file (main_proved ∷ main_second ∷ []) final → ⊥
  pub not_unnamed : (final : Environment) → IsDerived sum_file (main_proved ∷ other_proved ∷ []) final → ⊥
  -- the texts of values and definitions, in order
  pub texts : texts_of (i_abbreviation m_word ∷ i_def (y_mono m_word) (t_word 1) ∷ sum_file)
      ≡ record { vals = t_do (c_ret (t_bin Add (t_word 2) (t_word 3))) ∷ []; defs = t_word 1 ∷ [] }
