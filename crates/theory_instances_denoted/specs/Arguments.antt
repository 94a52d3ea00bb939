-- Canonical arguments of a head, from its skeleton down to that of what is left.
use Rattle.std.specs.Prelude.{List, [], ◌∷◌}
use Rattle.htt_syntax.specs.Trees.{MonoTree, TermTree}
use Rattle.theory_canonical.specs.Skeletons.{Skeleton, sk_arrow, sk_all}
use Rattle.theory_canonical.specs.Contexts.{Standing, Heads}
use Rattle.theory_canonical.specs.Canonical.{IsCanonical, IsCanonicalMono}
use Rattle.theory_instances.specs.Calls.{Argument, of_term, of_mono}

pub data CanonicalArguments (heads : Heads) (g : List Standing) : Skeleton → List Argument → Skeleton → Type 0 where
  arguments_none : {s : Skeleton} → CanonicalArguments heads g s [] s
  arguments_term : {s t u : Skeleton} {term : TermTree} {others : List Argument}
      → IsCanonical heads g term s
      → CanonicalArguments heads g t others u
      → CanonicalArguments heads g (sk_arrow s t) (of_term term ∷ others) u
  arguments_mono : {s u : Skeleton} {mono : MonoTree} {others : List Argument}
      → IsCanonicalMono g mono
      → CanonicalArguments heads g s others u
      → CanonicalArguments heads g (sk_all s) (of_mono mono ∷ others) u
