use Rattle.std.proofs.Common.{◌≡◌, take}
use Rattle.std.specs.Prelude.{Ok}
use Rattle.htt_syntax.specs.Views.{mono_tree}
use Rattle.htt_parser_trees.specs.Trees.{m_name, with_right}
use Rattle.htt_parser_trees.specs.MonoViews.{raw_right_tree}
use Rattle.htt_parser_trees.specs.MonoLevels.{raw_brackets_tree}
use Rattle.theory_text.specs.Monotypes.{mono_comes}
use Rattle.htt_resolve_scopes.specs.Views.{scope_tree}
use Rattle.htt_resolve_monos.proofs.build.+build.Given as goal

-- the monotype in the brackets so far
abbrev pub invariant-build_mono-loop-bracket : goal.invariant-build_mono-loop-bracket
invariant-build_mono-loop-bracket l =
    mono_comes (scope_tree l.scope)
    (raw_brackets_tree (take l.bracket-index l.mono.brackets) (with_right (m_name l.mono.name) (raw_right_tree l.mono.right)))
    ≡ Ok (mono_tree l.built)
