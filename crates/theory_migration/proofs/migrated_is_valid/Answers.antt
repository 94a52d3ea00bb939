use Rattle.theory_migration.proofs.Valid.{migrated_valid}
use Rattle.theory_migration.proofs.migrated_is_valid.Goals as goal

pub returns : goal.returns
returns c = record { law = migrated_valid }
