-- What a computation comes to: a value of a monotype, the heap and the choices that are left; or no
-- fuel is left, or it asks for a location, or it goes wrong. And what each step on a heap comes to.
use Rattle.std.specs.Prelude.{ℕ, List, [], ◌∷◌, true, false, Option, Some, None, if◌then◌else◌}
use Rattle.htt_syntax.specs.Trees.{MonoTree}
use Rattle.theory_values.specs.Values.{Value, v_bool, v_loc, v_unit, encoding}
use Rattle.theory_values.specs.Heaps.{Heap, with_block, without_block}
use Rattle.theory_meaning.specs.Meaning.{is_fresh, block_value, is_as_wide}

pub data Outcome : Type 0 where
  ended : Value → Heap → List ℕ → Outcome
  out_of_fuel : Outcome
  asking : Outcome
  wrong : Outcome

-- A computation: from fuel, a heap and the choices that allocation is given.
abbrev pub Running : Type 0
Running = ℕ → Heap → List ℕ → Outcome

abbrev pub then_outcome : Outcome → (Value → Heap → List ℕ → Outcome) → Outcome
then_outcome (ended v h cs) f = f v h cs
then_outcome out_of_fuel f = out_of_fuel
then_outcome asking f = asking
then_outcome wrong f = wrong

-- One computation and then another, which is given the value of the first.
abbrev pub in_sequence : Running → (Value → Running) → Running
in_sequence first next n h cs = then_outcome (first n h cs) (λ v k ds. next v n k ds)

-- The first choice is the location. Without one, and at 0 or a location in use, it asks.
abbrev pub alloc_outcome : Value → Heap → List ℕ → Outcome
alloc_outcome v h [] = asking
alloc_outcome v h (l ∷ cs) = if is_fresh h l then ended (v_loc l) (with_block h l (encoding v)) cs else asking

abbrev pub value_outcome : Option Value → Heap → List ℕ → Outcome
value_outcome (Some v) h cs = ended v h cs
value_outcome None h cs = wrong

-- A read goes wrong where no block stands that holds a value of the monotype.
abbrev pub get_outcome : MonoTree → Value → Heap → List ℕ → Outcome
get_outcome t (v_loc l) h cs = value_outcome (block_value (Some t) (h l)) h cs
get_outcome t _ h cs = wrong

-- A write and a release go wrong where no block as wide as the monotype stands.
abbrev pub set_outcome : MonoTree → Value → Value → Heap → List ℕ → Outcome
set_outcome t (v_loc l) v h cs =
    if is_as_wide (Some t) (h l) then ended v_unit (with_block h l (encoding v)) cs else wrong
set_outcome t _ v h cs = wrong

abbrev pub free_outcome : MonoTree → Value → Heap → List ℕ → Outcome
free_outcome t (v_loc l) h cs = if is_as_wide (Some t) (h l) then ended v_unit (without_block h l) cs else wrong
free_outcome t _ h cs = wrong

abbrev pub branch_outcome : Value → Outcome → Outcome → Outcome
branch_outcome (v_bool true) on_true on_false = on_true
branch_outcome (v_bool false) on_true on_false = on_false
branch_outcome _ on_true on_false = wrong
