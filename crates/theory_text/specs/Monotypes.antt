-- What a monotype stands for.
use Rattle.std.specs.Prelude.{List, [], ◌∷◌, Result, Ok}
use Rattle.htt_syntax.specs.Trees.{MonoTree, m_word, m_bool, m_loc, m_unit, m_pair}
use Rattle.htt_parser_trees.specs.declared.mono.MonoName.{MonoName}
use Rattle.htt_parser_trees.specs.declared.mono.MonoName.TheVariants as mono_names
use Rattle.htt_parser_trees.specs.Trees as raw
use Rattle.theory_text_names.specs.Stops.{Stop, ◌>>=◌}
use Rattle.theory_text_names.specs.Scopes.{Scope}
use Rattle.theory_text_names.specs.Uses.{mono_named}

abbrev pub mono_name_comes : Scope → MonoName → Result MonoTree Stop
mono_name_comes s (mono_names.Word at) = Ok m_word
mono_name_comes s (mono_names.Bool at) = Ok m_bool
mono_name_comes s (mono_names.Loc at) = Ok m_loc
mono_name_comes s (mono_names.Unit at) = Ok m_unit
mono_name_comes s (mono_names.Name span) = mono_named s span

unfoldable mutual
  pub factor_comes : Scope → raw.RawFactorTree → Result MonoTree Stop
  factor_comes s (raw.m_name name) = mono_name_comes s name
  factor_comes s (raw.m_brackets at mono) = mono_comes s mono

  pub mono_comes : Scope → raw.RawMonoTree → Result MonoTree Stop
  mono_comes s (raw.m_factor factor) = factor_comes s factor
  mono_comes s (raw.m_pair factor mono) = do
    left ← factor_comes s factor
    right ← mono_comes s mono
    Ok (m_pair left right)

unfoldable pub monos_come : Scope → List raw.RawMonoTree → Result (List MonoTree) Stop
monos_come s [] = Ok []
monos_come s (mono ∷ monos) = do
  first ← mono_comes s mono
  others ← monos_come s monos
  Ok (first ∷ others)
