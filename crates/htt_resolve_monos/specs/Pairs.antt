-- A monotype with what stands at its right, and what is built of that alone.
use Rattle.std.specs.Prelude.{◌≡◌, Option, Some, None, Ok}
use Rattle.htt_syntax.specs.Trees.{MonoTree, m_pair}
use Rattle.htt_parser_trees.specs.Trees.{RawMonoTree, RawFactorTree, with_right}
use Rattle.htt_parser_trees.specs.declared.mono.RawBracket.{RawBracket}
use Rattle.htt_parser_trees.specs.MonoViews.{raw_bracket_tree}
use Rattle.theory_text_names.specs.Scopes.{Scope}
use Rattle.theory_text.specs.Monotypes.{factor_comes, mono_comes}

abbrev pub paired : MonoTree → Option MonoTree → MonoTree
paired left None = left
paired left (Some right) = m_pair left right

-- what is built of the right side of a factor: with any factor before it the whole comes to both
abbrev pub BuildsRight : Scope → Option RawMonoTree → Option MonoTree → Type 0
BuildsRight s right built =
    (f : RawFactorTree) (left : MonoTree)
    → factor_comes s f ≡ Ok left
    → mono_comes s (with_right f right) ≡ Ok (paired left built)

-- what is built of what stands behind a bracket: with any monotype before it the whole comes to both
abbrev pub BuildsBehind : Scope → RawBracket → Option MonoTree → Type 0
BuildsBehind s bracket built =
    (m : RawMonoTree) (left : MonoTree)
    → mono_comes s m ≡ Ok left
    → mono_comes s (raw_bracket_tree bracket m) ≡ Ok (paired left built)
