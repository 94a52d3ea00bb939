-- The tree of a value, one level at a time: an equation for each variant of each type.
use Rattle.std.specs.Prelude.{ℕ, List, [], ◌∷◌, ◌≡◌, refl, Some, None}
use Rattle.std.proofs.Common.{ap}
use Rattle.htt_parser_trees.specs.declared.mono.RawRight.TheVariants as vright
use Rattle.htt_parser_trees.specs.declared.mono.RawBracket.{RawBracket}
use Rattle.htt_parser_trees.specs.declared.mono.RawBracket.TheVariants as vbracket
use Rattle.htt_parser_trees.specs.declared.mono.RawBracket.TheBlock as block
use Rattle.htt_parser_trees.specs.declared.mono.RawMono.{RawMono}
use Rattle.htt_parser_trees.specs.Trees.{RawMonoTree, m_name, m_brackets, with_right}
use Rattle.htt_parser_trees.specs.MonoViews.{raw_right_tree, raw_bracket_tree, raw_brackets_row}

-- the brackets round a monotype, from the innermost
abbrev pub raw_brackets_tree : List RawBracket → RawMonoTree → RawMonoTree
raw_brackets_tree [] m = m
raw_brackets_tree (b ∷ bs) m = raw_brackets_tree bs (raw_bracket_tree b m)

unfoldable pub raw_mono_tree : RawMono → RawMonoTree
raw_mono_tree m = raw_brackets_tree m.brackets (with_right (m_name m.name) (raw_right_tree m.right))

brackets_row_is : (bs : List RawBracket) (m : RawMonoTree)
    → raw_brackets_row (block.hidden-the_row-RawBracket-0 bs) m ≡ raw_brackets_tree bs m
unfolding raw_right_tree block.hidden-the_row-RawBracket-0 denote.Hole.Carrier.hidden
brackets_row_is [] m = refl
brackets_row_is (b ∷ bs) m = brackets_row_is bs (raw_bracket_tree b m)

pub raw_right_nothing : raw_right_tree vright.Nothing ≡ None
unfolding raw_right_tree
raw_right_nothing = refl

pub raw_right_times : (m : RawMono) → raw_right_tree (vright.Times m) ≡ Some (raw_mono_tree m)
unfolding raw_right_tree raw_mono_tree block.hidden-the_row-RawMono-1 denote.Hole.Carrier.hidden
raw_right_times m = ap Some (brackets_row_is m.brackets _)

pub raw_bracket_alone : (at : ℕ) (m : RawMonoTree)
    → raw_bracket_tree (vbracket.Alone at) m ≡ with_right (m_brackets at m) None
unfolding raw_right_tree
raw_bracket_alone at m = refl

pub raw_bracket_times : (at : ℕ) (right : RawMono) (m : RawMonoTree)
    → raw_bracket_tree (vbracket.Times at right) m ≡ with_right (m_brackets at m) (Some (raw_mono_tree right))
unfolding raw_right_tree raw_mono_tree block.hidden-the_row-RawMono-1 denote.Hole.Carrier.hidden
raw_bracket_times at right m = ap (λ n. with_right (m_brackets at m) (Some n)) (brackets_row_is right.brackets _)
