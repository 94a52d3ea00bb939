-- Value text: a decimal, `true`, `false`, `()`, `null`, `place` with a decimal, or two values in
-- brackets.
use Rattle.std.specs.Prelude.{ℕ, zero, suc, List, ◌++◌, true, false, codes}
use Rattle.std.specs.Fmt.{decimal}
use Rattle.theory_values.specs.Values.{Value, v_word, v_bool, v_loc, v_unit, v_pair}

-- location 0 is `null`
abbrev pub place_text : ℕ → List ℕ
place_text zero = codes "null"
place_text (suc n) = codes "place " ++ decimal (suc n)

abbrev pub value_text : Value → List ℕ
value_text (v_word n) = decimal n
value_text (v_bool true) = codes "true"
value_text (v_bool false) = codes "false"
value_text (v_loc n) = place_text n
value_text v_unit = codes "()"
value_text (v_pair x y) = codes "(" ++ value_text x ++ codes ", " ++ value_text y ++ codes ")"
