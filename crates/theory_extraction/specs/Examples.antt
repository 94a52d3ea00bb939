-- The code of a file, worked out by hand.
use Rattle.std.specs.Prelude.{List, [], ◌∷◌, Some, None}
use Rattle.htt_syntax.specs.declared.mono.Op.TheVariants.{Add}
use Rattle.htt_syntax.specs.Trees.{m_word, t_word, t_bin, t_do, c_ret}
use Rattle.word_loader_code.specs.declared.code.Instr.TheVariants.{Const, Ret}
use Rattle.theory_items.specs.Items.{ItemTree, i_abbreviation, i_val}
use Rattle.theory_items.specs.Examples.{gives_five}
use Rattle.theory_instances.specs.Lists.{no_main}
use Rattle.theory_emission.specs.Examples.{only}
use Rattle.theory_extraction.specs.Extraction.{HasCode, HasFirstCode, of_list, RefusesExtraction}

-- type count = word, and val main : {tt} x : word {x =[word] 5} = do ret 2 + 3
abbrev pub two_items : List ItemTree
two_items = i_abbreviation m_word ∷ i_val gives_five (t_do (c_ret (t_bin Add (t_word 2) (t_word 3)))) ∷ []

pub record WorkedExtraction : Type 0 where
  -- what is emitted is the canonical form
  pub sum_code : HasCode two_items (Some 0) (only 1 1 (Const 0 5 ∷ Ret 0 ∷ []))
  -- the same in version 1
  pub sum_first_code :
      HasFirstCode two_items (Some 0) (record { version = 1; functions = (only 1 1 (Const 0 5 ∷ Ret 0 ∷ [])).functions })
  pub unnamed : RefusesExtraction two_items None (of_list no_main)
  pub empty : RefusesExtraction [] None (of_list no_main)
