-- Each item keeps an environment formed, and a formed environment is sound.
use Rattle.std.specs.Prelude.{List, []}
use Rattle.theory_typing.specs.Contexts.{Environment, Obligation}
use Rattle.theory_typing.specs.Laws.{none}
use Rattle.theory_items.specs.Items.{ItemTree, Added, with_added, Derives}
use Rattle.theory_items_sound.specs.Environments.{SoundEnvironment}
use Rattle.theory_formed_items.specs.Environments.{IsFormedEnvironment}

pub record ItemsKeepFormed : Type 0 where
  pub empty : IsFormedEnvironment none
  pub kept : (env : Environment) (item : ItemTree) (added : Added) (owed : List Obligation)
      → IsFormedEnvironment env
      → Derives env [] item added owed
      → IsFormedEnvironment (with_added env added)

-- A formed environment is sound.
abbrev pub FormedIsSound : Type 0
FormedIsSound = (env : Environment) → IsFormedEnvironment env → SoundEnvironment env
