-- The worked examples compute.
use Rattle.std.proofs.Common.{refl}
use Rattle.theory_migration.specs.Examples.{WorkedMigrations}

pub worked : WorkedMigrations
worked = record { tail = refl; of_two = refl; other_place = refl; other_width = refl; further_on = refl }
