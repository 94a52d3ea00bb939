use Rattle.std.proofs.Common.{refl, arith}
use Rattle.htt_top_one_form.specs.Examples.{span}
use Rattle.htt_top_one_form.proofs.laws.example_form.Goals as goal

pub returns : goal.returns
returns c = record {
  examples = record {
    main = span 0 4;
    proved = span 0 4;
    at = 9;
    ty = _;
    term = _;
    proof = _;
    trees = refl;
    main_named = record { ordered = omega arith; within = omega arith; bytes = refl };
    proved_named = record { ordered = omega arith; within = omega arith; bytes = refl };
    claim = record {
      result = span 5 6;
      claimed = span 5 6;
      at = 9;
      tt_at = 9;
      word_at = 9;
      sort_at = 9;
      number_at = 9;
      tree = refl;
      result_named = record { ordered = omega arith; within = omega arith; bytes = refl };
      claimed_named = record { ordered = omega arith; within = omega arith; bytes = refl };
    };
    returned = record { at = 9; left_at = 9; right_at = 9; tree = refl };
    proves = record {
      at = 9;
      bound = span 7 8;
      used = span 7 8;
      tree = refl;
      bound_named = record { ordered = omega arith; within = omega arith; bytes = refl };
      used_named = record { ordered = omega arith; within = omega arith; bytes = refl };
    };
  };
}
