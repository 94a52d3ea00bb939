use Rattle.theory_migration.proofs.Runs.{does_the_same}
use Rattle.theory_migration.proofs.migrated_does_the_same.Goals as goal

pub returns : goal.returns
returns c = record { law = does_the_same }
