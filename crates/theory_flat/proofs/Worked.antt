-- The worked examples hold.
use Rattle.std.proofs.Common.{refl}
use Rattle.theory_renaming.specs.Renaming.{lift, rename_mono, rename_term}
use Rattle.theory_canonical.specs.Skeletons.{skeleton}
use Rattle.theory_truth.specs.TermValue.{term_value}
use Rattle.theory_typing.specs.Positions.{plain_term}
use Rattle.theory_instances.specs.Calls.{head_of, arguments_of, fix_ty}
use Rattle.theory_instances.specs.Occurrences.{met_in_term}
use Rattle.theory_instances.specs.Keys.{Key}
use Rattle.theory_instances.specs.Lists.{IsKnownAs}
use Rattle.theory_instances.proofs.Worked as instances
use Rattle.theory_flat.specs.Flat.{names_key, names_made, flattens_ret, flattens_step, flattens_run, flattens_alloc, flattens_get, flattens_free, flattens_if}
use Rattle.theory_flat.specs.Flat.{flat_none, flat_more}
use Rattle.theory_flat.specs.Reading.{flat_outcome, calling}
use Rattle.theory_flat.specs.Examples.{WorkedFlatBodies, WorkedReadings}

pub worked : WorkedFlatBodies
unfolding skeleton head_of arguments_of fix_ty met_in_term rename_term rename_mono lift plain_term
worked = record {
  sum_has = record {
    taken = _;
    keys = _;
    has = instances.worked.sum_has;
    flat = flat_more (record { params = refl; result = refl; body = flattens_ret }) flat_none;
  };
  cell_has = record {
    taken = _;
    keys = _;
    has = instances.worked.cell_has;
    flat =
        flat_more (record {
          params = refl;
          result = refl;
          body = flattens_step flattens_alloc (flattens_step flattens_get (flattens_step flattens_free flattens_ret));
        }) flat_none;
  };
  blocks_have = record {
    taken = _;
    keys = _;
    has = instances.worked.blocks_have;
    flat = flat_more (record { params = refl; result = refl; body = flattens_step flattens_alloc (flattens_step flattens_alloc flattens_ret) }) flat_none;
  };
  seven_has = record {
    taken = _;
    keys = _;
    has = instances.worked.seven_has;
    flat =
        flat_more (record {
          params = refl;
          result = refl;
          body = flattens_step (flattens_run (names_key refl (record { known = _; at = refl; same = refl }))) flattens_ret;
        })
        (flat_more (record { params = refl; result = refl; body = flattens_ret }) flat_none);
  };
  dup_has = record {
    taken = _;
    keys = _;
    has = instances.worked.dup_has;
    flat = flat_more (record {
      params = refl;
      result = refl;
      body = flattens_step (flattens_run (names_key refl (record { known = _; at = refl; same = refl })))
          (flattens_step (flattens_run (names_key refl (record { known = _; at = refl; same = refl }))) flattens_ret);
    })
        (flat_more (record { params = refl; result = refl; body = flattens_ret })
        (flat_more (record { params = refl; result = refl; body = flattens_ret }) flat_none));
  };
  rep_has = record {
    taken = _;
    keys = _;
    has = instances.worked.rep_has;
    flat =
        flat_more (record {
          params = refl;
          result = refl;
          body = flattens_step (flattens_run (names_key refl (record { known = _; at = refl; same = refl }))) flattens_ret;
        })
        (flat_more (record {
          params = refl;
          result = refl;
          body = flattens_step (flattens_run (names_key refl (record { known = _; at = refl; same = refl }))) flattens_ret;
        })
        (flat_more (record {
          params = refl;
          result = refl;
          body = flattens_step (flattens_if flattens_ret (flattens_step (flattens_run (names_made refl refl)) flattens_ret)) flattens_ret;
        }) flat_none));
  };
  captured_in_order = refl;
}

pub read : WorkedReadings
unfolding term_value flat_outcome calling
read = record {
  sum_ends = refl;
  call_lacks_fuel = refl;
  call_ends = refl;
  pairs = refl;
  blocks_differ = refl;
  blocks_ask = refl;
  counted_lacks_fuel = refl;
  counted = refl;
  picked = refl;
}
