-- The file with a recursive predicate is derived.
use Rattle.std.proofs.Common.{refl}
use Rattle.theory_file_derived.specs.Derived.{given_for, IsDerived}
use Rattle.theory_file_calls.specs.Parts.{whole_heap}
use Rattle.theory_file_calls.proofs.Rows.{derived_by}
use Rattle.theory_file_calls.proofs.Runs.{has_whole_heap}
use Rattle.theory_file_recursion.specs.Proofs.{is_twice, twice_two}
use Rattle.theory_file_recursion.specs.Doubling.{doubling_file, doubling_proofs, doubling_rows, doubling_env, RecursiveFile}
use Rattle.theory_file_recursion.proofs.Typed.{doubling_owes}
use Rattle.theory_file_recursion.proofs.Ends.{is_twice_proved, twice_two_proved}

doubling_derived : IsDerived doubling_file doubling_proofs doubling_env
unfolding given_for
doubling_derived =
    derived_by doubling_rows doubling_owes (
      tt,
      (
        (
          record { proof = whole_heap; only = refl; proves = has_whole_heap },
          (record { proof = is_twice; only = refl; proves = is_twice_proved }, tt),
        ),
        (
          (
            record { proof = whole_heap; only = refl; proves = has_whole_heap },
            (record { proof = twice_two; only = refl; proves = twice_two_proved }, tt),
          ),
          tt,
        ),
      ),
    )
    ((_, refl), ((_, refl), ((_, refl), ((_, refl), tt))))

pub recursion : RecursiveFile
recursion = record { owes = doubling_owes; derived = doubling_derived }
