-- What a walk puts for variables where a map says what each of them becomes: under binders the map is lifted.
use Rattle.htt_syntax.specs.Trees.{t_var, m_var}
use Rattle.theory_renaming.specs.Renaming.{Map, lifts}
use Rattle.htt_syntax_walk.specs.Walk.{Puts}

abbrev pub renamed : Map → Puts
renamed m =
    record { on_term = λ d n. t_var (lifts d m n); on_mono = λ d n. m_var (lifts d m n); on_heap = λ d n. lifts d m n }
