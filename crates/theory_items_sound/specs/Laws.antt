-- The laws of sound environments.
use Rattle.std.specs.Prelude.{List, []}
use Rattle.theory_typing.specs.Contexts.{Environment, Obligation}
use Rattle.theory_typing.specs.Laws.{none}
use Rattle.theory_items.specs.Items.{ItemTree, Added, with_added, Derives}
use Rattle.theory_items_sound.specs.Environments.{SoundEnvironment}

pub record ItemsKeepSound : Type 0 where
  -- before any item
  pub empty : SoundEnvironment none
  pub kept : (env : Environment) (item : ItemTree) (added : Added) (owed : List Obligation)
      → SoundEnvironment env
      → Derives env [] item added owed
      → SoundEnvironment (with_added env added)
