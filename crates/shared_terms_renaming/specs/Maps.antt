-- The maps of the renamings.
use Rattle.std.specs.Prelude.{suc}
use Rattle.theory_renaming.specs.Renaming.{Map, lifts}
use Rattle.theory_substitution.specs.Closing.{closing}
use Rattle.shared_terms_renaming.specs.declared.renaming.Renaming.{Renaming}
use Rattle.shared_terms_renaming.specs.declared.renaming.Renaming.TheVariants as renaming

unfoldable pub map_of : Renaming → Map
map_of (renaming.Past from) = lifts from suc
map_of (renaming.Closing gap) = closing gap
