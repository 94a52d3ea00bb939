-- The value that each value of the Rust type is. A pair is matched as it is generated: each box as
-- its shape and what it holds.
use Rattle.heap_model.specs.declared.value.Value.{Value, Pair', more_of-Value, end_of-Value}
use Rattle.heap_model.specs.declared.value.Value.TheVariants as value
use Rattle.theory_values.specs.Values.{Value as ValueTree, v_word, v_bool, v_loc, v_unit, v_pair}

unfoldable pub value_tree : Value → ValueTree
value_tree (value.Word n) = v_word n
value_tree (value.Bool b) = v_bool b
value_tree (value.Loc n) = v_loc n
value_tree value.Unit = v_unit
value_tree (Pair' pa (more_of-Value a end_of-Value) pb (more_of-Value b end_of-Value)) =
    v_pair (value_tree a) (value_tree b)
