-- The written meaning: the text is evaluated by value, with environments and closures. Fuel is depth:
-- what is entered (a value or a definition of the file, the body of a function, a computation that
-- is run) is evaluated with one fuel less. It knows no canonical form, no substitution and no code.
use Rattle.std.specs.Prelude.{ℕ, zero, suc, List, [], ◌∷◌, length, Bool, true, false, Option, Some, None, is_none}
use Rattle.std.specs.Prelude.{nat_eq, slice_get, if◌then◌else◌}
use Rattle.htt_syntax.specs.Trees.{MonoTree, TermTree, CompTree, StepTree, t_var, t_val, t_def, t_app, t_inst, t_lam}
use Rattle.htt_syntax.specs.Trees.{t_lam_t, t_do, t_fix, t_word, t_bool, t_loc, t_unit, t_pair, t_fst, t_snd, t_not}
use Rattle.htt_syntax.specs.Trees.{t_bin, t_eq, t_sel, t_ann, t_made, t_at, x_param, x_body, c_ret, c_step, s_run}
use Rattle.htt_syntax.specs.Trees.{s_alloc, s_get, s_set, s_free, s_if, s_claim}
use Rattle.theory_values.specs.Values.{Value, v_word, v_bool, v_loc, v_unit, v_pair, width, encoding, value_of_words}
use Rattle.theory_values.specs.Values.{value_of_op, value_of_not, value_of_eq, value_of_sel, value_of_fst, value_of_snd}
pub use Rattle.theory_values.specs.Heaps.{is_fresh}
use Rattle.theory_values.specs.Heaps.{Heap, Block, with_block, without_block}
use Rattle.theory_meaning.specs.Closures.{RunValue, base, fun_of, all_of, do_of, fix_of, Env, nothing, with_mono}
use Rattle.theory_meaning.specs.Closures.{with_value, PureResult, gives, lacks_fuel, faults, RunResult, done, no_fuel}
use Rattle.theory_meaning.specs.Closures.{asks, fault, Items, value_entry, closed_mono}

-- The first part that gives no value ends the evaluation with its result.
abbrev pub then_with : PureResult → (RunValue → PureResult) → PureResult
then_with (gives v) f = f v
then_with lacks_fuel f = lacks_fuel
then_with faults f = faults

abbrev pub base_or_fault : Option Value → PureResult
base_or_fault (Some v) = gives (base v)
base_or_fault None = faults

-- An operation has a case for values of monotypes alone.
abbrev pub of_one : (Value → Option Value) → RunValue → PureResult
of_one f (base x) = base_or_fault (f x)
of_one f _ = faults

abbrev pub of_two : (Value → Value → Option Value) → RunValue → RunValue → PureResult
of_two f (base x) y = of_one (f x) y
of_two f _ y = faults

abbrev pub of_three : (Value → Value → Value → Option Value) → RunValue → RunValue → RunValue → PureResult
of_three f (base x) y z = of_two (f x) y z
of_three f _ y z = faults

abbrev pub of_eq : Option MonoTree → RunValue → RunValue → PureResult
of_eq (Some t) x y = of_two (value_of_eq t) x y
of_eq None x y = faults

-- What entering a term with one fuel less gives.
abbrev pub Entering : Type 0
Entering = Env → TermTree → PureResult

-- A value or a definition of the file stands in the empty environment.
abbrev pub item_result : Entering → Option TermTree → PureResult
item_result enter (Some term) = enter nothing term
item_result enter None = faults

-- A recursive function that lacks arguments keeps one more.
abbrev pub application_result : Entering → RunValue → RunValue → PureResult
application_result enter (fun_of e body) x = enter (with_value x e) body
application_result enter (fix_of own whole e (x_param ty rest)) x = gives (fix_of own whole (with_value x e) rest)
application_result enter _ x = faults

-- A function of a monotype takes one that is closed.
abbrev pub instance_result : Entering → RunValue → Option MonoTree → PureResult
instance_result enter (all_of e body) (Some t) = enter (with_mono t e) body
instance_result enter _ _ = faults

abbrev pub term_result : Items → Entering → Env → TermTree → PureResult
term_result items enter e (t_var index) = value_entry e index
term_result items enter e (t_val number) = item_result enter (slice_get items.vals number)
term_result items enter e (t_def number) = item_result enter (slice_get items.defs number)
term_result items enter e (t_app function argument) =
    then_with (term_result items enter e function)
    (λ f. then_with (term_result items enter e argument) (λ x. application_result enter f x))
term_result items enter e (t_inst function mono) =
    then_with (term_result items enter e function) (λ f. instance_result enter f (closed_mono e mono))
term_result items enter e (t_lam body) = gives (fun_of e body)
term_result items enter e (t_lam_t body) = gives (all_of e body)
term_result items enter e (t_do comp) = gives (do_of e comp)
term_result items enter e (t_fix at fix) = gives (fix_of e fix e fix)
term_result items enter e (t_word word) = gives (base (v_word word))
term_result items enter e (t_bool truth) = gives (base (v_bool truth))
term_result items enter e (t_loc place) = gives (base (v_loc place))
term_result items enter e t_unit = gives (base v_unit)
term_result items enter e (t_pair left right) =
    then_with (term_result items enter e left)
    (λ x. then_with (term_result items enter e right) (λ y. of_two (λ a b. Some (v_pair a b)) x y))
term_result items enter e (t_fst pair) = then_with (term_result items enter e pair) (λ x. of_one value_of_fst x)
term_result items enter e (t_snd pair) = then_with (term_result items enter e pair) (λ x. of_one value_of_snd x)
term_result items enter e (t_not term) = then_with (term_result items enter e term) (λ x. of_one value_of_not x)
term_result items enter e (t_bin op left right) =
    then_with (term_result items enter e left)
    (λ x. then_with (term_result items enter e right) (λ y. of_two (value_of_op op) x y))
term_result items enter e (t_eq mono left right) =
    then_with (term_result items enter e left)
    (λ x. then_with (term_result items enter e right) (λ y. of_eq (closed_mono e mono) x y))
term_result items enter e (t_sel mono test on_true on_false) =
    then_with (term_result items enter e test) (λ b.
    then_with (term_result items enter e on_true)
    (λ x. then_with (term_result items enter e on_false) (λ y. of_three value_of_sel b x y)))
term_result items enter e (t_ann term ty) = term_result items enter e term
term_result items enter e (t_made number values) = faults
term_result items enter e (t_at at term) = term_result items enter e term

-- Entering a term where so much fuel is there.
abbrev pub inner_result : Items → ℕ → Entering
inner_result items zero e term = lacks_fuel
inner_result items (suc n) e term = term_result items (inner_result items n) e term

-- The value of a term with fuel n.
abbrev pub pure : Items → ℕ → Env → TermTree → PureResult
pure items n e term = term_result items (inner_result items n) e term

abbrev pub run_with : PureResult → (RunValue → RunResult) → RunResult
run_with (gives v) f = f v
run_with lacks_fuel f = no_fuel
run_with faults f = fault

-- The first step that isn't done ends the run with its result.
abbrev pub then_run : RunResult → (RunValue → Heap → List ℕ → RunResult) → RunResult
then_run (done v h cs) f = f v h cs
then_run no_fuel f = no_fuel
then_run asks f = asks
then_run fault f = fault

-- What running a computation with one fuel less comes to.
abbrev pub Runner : Type 0
Runner = Env → CompTree → Heap → List ℕ → RunResult

-- The body of a recursive function stands under its arguments and then the function.
abbrev pub start_result : Runner → RunValue → Heap → List ℕ → RunResult
start_result runner (do_of e comp) h cs = runner e comp h cs
start_result runner (fix_of own whole e (x_body spec comp)) h cs =
    runner (with_value (fix_of own whole own whole) e) comp h cs
start_result runner _ h cs = fault

-- The first choice is the location. Without one, and at 0 or a location in use, the run asks.
abbrev pub alloc_result : RunValue → Heap → List ℕ → RunResult
alloc_result (base v) h [] = asks
alloc_result (base v) h (l ∷ cs) = if is_fresh h l then done (base (v_loc l)) (with_block h l (encoding v)) cs else asks
alloc_result _ h cs = fault

-- The value of the monotype that a block holds, where it holds one.
abbrev pub block_value : Option MonoTree → Option Block → Option Value
block_value (Some t) (Some b) = value_of_words t b
block_value _ _ = None

abbrev pub value_result : Option Value → Heap → List ℕ → RunResult
value_result (Some v) h cs = done (base v) h cs
value_result None h cs = fault

-- A read is a fault where no block stands that holds a value of the monotype.
abbrev pub get_result : Option MonoTree → RunValue → Heap → List ℕ → RunResult
get_result t (base (v_loc l)) h cs = value_result (block_value t (h l)) h cs
get_result t _ h cs = fault

-- Whether a block as wide as the monotype stands there.
abbrev pub is_as_wide : Option MonoTree → Option Block → Bool
is_as_wide (Some t) (Some b) = nat_eq (length b) (width t)
is_as_wide _ _ = false

-- A write and a release are faults where no block as wide stands.
abbrev pub set_result : Option MonoTree → RunValue → RunValue → Heap → List ℕ → RunResult
set_result t (base (v_loc l)) (base v) h cs =
    if is_as_wide t (h l) then done (base v_unit) (with_block h l (encoding v)) cs else fault
set_result t _ _ h cs = fault

abbrev pub free_result : Option MonoTree → RunValue → Heap → List ℕ → RunResult
free_result t (base (v_loc l)) h cs = if is_as_wide t (h l) then done (base v_unit) (without_block h l) cs else fault
free_result t _ h cs = fault

abbrev pub branch_result : RunValue → RunResult → RunResult → RunResult
branch_result (base (v_bool true)) on_true on_false = on_true
branch_result (base (v_bool false)) on_true on_false = on_false
branch_result _ on_true on_false = fault

abbrev mutual
  pub comp_result : Items → Entering → Runner → Env → CompTree → Heap → List ℕ → RunResult
  comp_result items enter runner e (c_ret term) h cs = run_with (term_result items enter e term) (λ v. done v h cs)
  comp_result items enter runner e (c_step step others) h cs =
      then_run (step_result items enter runner e step h cs)
      (λ v k ds. comp_result items enter runner (with_value v e) others k ds)

  pub step_result : Items → Entering → Runner → Env → StepTree → Heap → List ℕ → RunResult
  step_result items enter runner e (s_run term mono) h cs =
      run_with (term_result items enter e term) (λ u. start_result runner u h cs)
  step_result items enter runner e (s_alloc mono value) h cs =
      run_with (term_result items enter e value) (λ x. alloc_result x h cs)
  step_result items enter runner e (s_get mono place) h cs =
      run_with (term_result items enter e place) (λ l. get_result (closed_mono e mono) l h cs)
  step_result items enter runner e (s_set mono place value) h cs =
      run_with (term_result items enter e place)
      (λ l. run_with (term_result items enter e value) (λ x. set_result (closed_mono e mono) l x h cs))
  step_result items enter runner e (s_free mono place) h cs =
      run_with (term_result items enter e place) (λ l. free_result (closed_mono e mono) l h cs)
  step_result items enter runner e (s_if mono test on_true on_false) h cs =
      run_with (term_result items enter e test) (λ b.
      branch_result b (comp_result items enter runner e on_true h cs) (comp_result items enter runner e on_false h cs))
  step_result items enter runner e (s_claim formula) h cs = done (base v_unit) h cs

-- Running a computation that is entered where so much fuel is there.
abbrev pub runner_of : Items → ℕ → Runner
runner_of items zero e comp h cs = no_fuel
runner_of items (suc n) e comp h cs = comp_result items (inner_result items n) (runner_of items n) e comp h cs

-- The run of a computation with fuel n, from a heap, with the choices that allocation is given.
abbrev pub run : Items → ℕ → Env → CompTree → Heap → List ℕ → RunResult
run items n e comp h cs = comp_result items (inner_result items n) (runner_of items n) e comp h cs
