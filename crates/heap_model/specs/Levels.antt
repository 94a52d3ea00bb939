-- The value that a value is, one level at a time: an equation for each variant.
use Rattle.std.specs.Prelude.{ℕ, Bool, ◌≡◌, refl}
use Rattle.heap_model.specs.declared.value.Value.{Value}
use Rattle.heap_model.specs.declared.value.Value.TheVariants as variants
use Rattle.heap_model.specs.declared.value.Value.TheBlock as block
use Rattle.theory_values.specs.Values.{v_word, v_bool, v_loc, v_unit, v_pair}
use Rattle.heap_model.specs.Views.{value_tree}

pub value_word : (n : ℕ) → value_tree (variants.Word n) ≡ v_word n
unfolding value_tree block.hidden-the_row-Value-0 denote.Hole.Carrier.hidden
value_word n = refl

pub value_bool : (b : Bool) → value_tree (variants.Bool b) ≡ v_bool b
unfolding value_tree block.hidden-the_row-Value-0 denote.Hole.Carrier.hidden
value_bool b = refl

pub value_loc : (n : ℕ) → value_tree (variants.Loc n) ≡ v_loc n
unfolding value_tree block.hidden-the_row-Value-0 denote.Hole.Carrier.hidden
value_loc n = refl

pub value_unit : value_tree variants.Unit ≡ v_unit
unfolding value_tree block.hidden-the_row-Value-0 denote.Hole.Carrier.hidden
value_unit = refl

pub value_pair : (a b : Value) → value_tree (variants.Pair a b) ≡ v_pair (value_tree a) (value_tree b)
unfolding value_tree block.hidden-the_row-Value-0 denote.Hole.Carrier.hidden
value_pair a b = refl

pub ruleset value_levels = (value_word, value_bool, value_loc, value_unit, value_pair)
