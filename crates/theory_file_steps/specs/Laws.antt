-- A file is sound value by value and definition by definition: each is typed where those before it hold.
use Rattle.std.specs.Prelude.{◌≡◌, List, [], length, Some, slice_get}
use Rattle.htt_syntax.specs.Trees.{TyTree, TermTree}
use Rattle.theory_truth.specs.Predicates.{RecTree}
use Rattle.theory_meaning.specs.Closures.{Items}
use Rattle.theory_canonical.specs.Skeletons.{skeleton}
use Rattle.theory_typing.specs.Contexts.{Environment, Obligation, EndsInHoare}
use Rattle.theory_typing.specs.Typing.{in_program, FormsTy, Fits}
use Rattle.theory_typing_canonical.specs.Environments.{heads_of}
use Rattle.theory_items_sound.specs.Environments.{SoundEnvironment}
use Rattle.theory_items.specs.Items.{i_rec, Added, with_def, with_val, with_added, Derives}
use Rattle.theory_denotation.specs.Valuations.{den_term, HeadEntries}
use Rattle.theory_denotation.specs.Denotation.{term_den}
use Rattle.theory_denotation.specs.Valued.{HeadsRun}
use Rattle.theory_typing_sound.specs.Environments.{EnvironmentMeans, AllTrue}
use Rattle.theory_meaning_simulation.specs.Simulation.{ItemsDo}

-- What holds of the declarations so far: they are sound, their values end in computations, mean
-- their types, and the written items do what these denote.
pub record FileHolds (table : List RecTree) (items : Items) (env : Environment) (e : HeadEntries) : Type 0 where
  pub sound : SoundEnvironment env
  pub runs : HeadsRun (heads_of env)
  pub means : EnvironmentMeans table env e
  pub does : ItemsDo items env e

pub record FilesAreSound : Type 0 where
  -- before any declaration
  pub nothing : (table : List RecTree) (items : Items) (e : HeadEntries)
      → FileHolds table items (record { vals = []; defs = []; recs = [] }) e
  -- a value that is typed, whose obligations are true, which is written next, and whose entry is what
  -- its canonical form denotes
  pub val : (table : List RecTree) (items : Items) (env : Environment) (e : HeadEntries)
      → FileHolds table items env e
      → (ty ty' : TyTree) (term term' : TermTree) (o : List Obligation)
      → FormsTy env [] ty ty'
      → EndsInHoare ty'
      → Fits env in_program [] term ty' term' o
      → AllTrue table e o
      → slice_get items.vals (length env.vals) ≡ Some term
      → e.vals (length env.vals) ≡ den_term (skeleton ty') (term_den e [] term' (skeleton ty'))
      → FileHolds table items (with_val env ty') e
  -- a definition that is typed, whose obligations are true, and which is written next
  pub definition : (table : List RecTree) (items : Items) (env : Environment) (e : HeadEntries)
      → FileHolds table items env e
      → (ty ty' : TyTree) (term term' : TermTree) (o : List Obligation)
      → FormsTy env [] ty ty'
      → Fits env in_program [] term ty' term' o
      → AllTrue table e o
      → slice_get items.defs (length env.defs) ≡ Some term
      → FileHolds table items (with_def env ty' term') e
  -- a recursive predicate, which neither means nor does anything of its own
  pub recursive : (table : List RecTree) (items : Items) (env : Environment) (e : HeadEntries)
      → FileHolds table items env e
      → (r : RecTree) (added : Added) (o : List Obligation)
      → Derives env [] (i_rec r) added o
      → FileHolds table items (with_added env added) e
