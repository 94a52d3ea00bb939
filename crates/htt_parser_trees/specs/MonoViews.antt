-- The tree that each value of the Rust types is. The values are matched as they are generated: a
-- box as its shape and what it holds, a sequence as its shape and its row, and a struct inside a
-- node as its fields. The equations that readers use stand in MonoLevels.
use Rattle.std.specs.Prelude.{Option, Some, None}
use Rattle.htt_parser_trees.specs.declared.mono.RawRight.{RawRight, more_of-RawMono, end_of-RawMono}
use Rattle.htt_parser_trees.specs.declared.mono.RawRight as right
use Rattle.htt_parser_trees.specs.declared.mono.RawBracket.{RawBracket}
use Rattle.htt_parser_trees.specs.declared.mono.RawBracket as bracket
use Rattle.htt_parser_trees.specs.declared.mono.RawMono.{Row_of-RawBracket, more_of-RawBracket, end_of-RawBracket}
use Rattle.htt_parser_trees.specs.Trees.{RawMonoTree, m_name, m_brackets, with_right}

unfoldable mutual
  pub raw_right_tree : RawRight → Option RawMonoTree
  raw_right_tree right.Nothing = None
  raw_right_tree (right.Times' pa (more_of-RawMono a b pc c end_of-RawMono)) =
      Some (raw_brackets_row c (with_right (m_name a) (raw_right_tree b)))

  -- a monotype, and a pair of brackets round it with what stands at its right
  pub raw_bracket_tree : RawBracket → RawMonoTree → RawMonoTree
  raw_bracket_tree (bracket.Alone at) m = with_right (m_brackets at m) None
  raw_bracket_tree (bracket.Times' at pa (more_of-RawMono a b pc c end_of-RawMono)) m =
      with_right (m_brackets at m) (Some (raw_brackets_row c (with_right (m_name a) (raw_right_tree b))))

  pub raw_brackets_row : {shape : _} → Row_of-RawBracket shape → RawMonoTree → RawMonoTree
  raw_brackets_row end_of-RawBracket m = m
  raw_brackets_row (more_of-RawBracket first others) m = raw_brackets_row others (raw_bracket_tree first m)
