-- Each variable, put for itself.
use Rattle.htt_syntax.specs.Trees.{t_var, m_var}
use Rattle.htt_syntax_walk.specs.Walk.{Puts}

abbrev pub kept : Puts
kept = record { on_term = λ d n. t_var n; on_mono = λ d n. m_var n; on_heap = λ d n. n }
