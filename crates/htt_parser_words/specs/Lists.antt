-- A list with its first member, as it is read.
use Rattle.std.specs.Prelude.{List, ◌∷◌}
use Rattle.htt_parser_trees.specs.Trees.{RawMonoTree}
use Rattle.theory_grammar.specs.Readers.{Reader, give, ◌>>=◌}
use Rattle.theory_grammar.specs.Phrases.{Deeper, mono_reader, more_monos}

-- monotypes with commas between them
abbrev pub monos_at : Deeper → Reader (List RawMonoTree)
monos_at d = mono_reader d >>= (λ m. more_monos d >>= (λ ms. give (m ∷ ms)))
