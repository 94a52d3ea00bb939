use Rattle.theory_migration.proofs.Worked.{worked}
use Rattle.theory_migration.proofs.worked_migrations.Goals as goal

pub returns : goal.returns
returns c = record { examples = worked }
