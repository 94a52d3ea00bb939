-- With more fuel a run comes to the same, where it didn't want fuel.
use Rattle.std.proofs.Common.{◌≡◌, ◌≢◌, ℕ, zero, suc, ◌+◌, List, refl, sym, ap, subst, arith}
use Rattle.std.specs.Prelude.{true, false}
use Rattle.htt_syntax.specs.Trees.{CompTree, StepTree, x_param, x_body, c_ret, c_step, s_run, s_alloc, s_get, s_set, s_free, s_if, s_claim}
use Rattle.theory_values.specs.Values.{v_word, v_bool, v_loc, v_unit, v_pair}
use Rattle.theory_values.specs.Heaps.{Heap}
use Rattle.theory_meaning.specs.Closures.{RunValue, base, fun_of, all_of, do_of, fix_of, Env, with_value, PureResult, gives, lacks_fuel, faults, RunResult}
use Rattle.theory_meaning.specs.Closures.{done, no_fuel, asks, fault, Items, closed_mono}
use Rattle.theory_meaning.specs.Meaning.{Entering, term_result, inner_result, run_with, then_run, Runner, start_result, alloc_result, get_result, set_result}
use Rattle.theory_meaning.specs.Meaning.{free_result, branch_result, comp_result, step_result, runner_of, run}
use Rattle.theory_meaning.specs.Laws.{MoreFuelKeeps}
use Rattle.theory_meaning.proofs.PureFuel.{Upto, Grows, evaluated_upto, entered_grows, pure_stays}

-- The second is the first, where that is no want of fuel.
abbrev UptoRun : RunResult → RunResult → Type 0
UptoRun (done v h cs) b = b ≡ done v h cs
UptoRun no_fuel b = Unit {0}
UptoRun asks b = b ≡ asks
UptoRun fault b = b ≡ fault

run_same : (a : RunResult) → UptoRun a a
run_same (done v h cs) = refl
run_same no_fuel = tt
run_same asks = refl
run_same fault = refl

run_is : (a b : RunResult) → a ≢ no_fuel → UptoRun a b → b ≡ a
run_is (done v h cs) b n p = p
run_is no_fuel b n p = absurd (n refl)
run_is asks b n p = p
run_is fault b n p = p

with_upto : (a b : PureResult) (f g : RunValue → RunResult) → Upto a b → ((v : RunValue) → UptoRun (f v) (g v)) → UptoRun (run_with a f) (run_with b g)
with_upto (gives v) b f g p q = subst (λ (r : PureResult). UptoRun (f v) (run_with r g)) (sym p) (q v)
with_upto lacks_fuel b f g p q = tt
with_upto faults b f g p q = ap (λ (r : PureResult). run_with r g) p

then_upto : (a b : RunResult) (f g : RunValue → Heap → List ℕ → RunResult)
    → UptoRun a b
    → ((v : RunValue) (h : Heap) (cs : List ℕ) → UptoRun (f v h cs) (g v h cs))
    → UptoRun (then_run a f) (then_run b g)
then_upto (done v h cs) b f g p q = subst (λ (r : RunResult). UptoRun (f v h cs) (then_run r g)) (sym p) (q v h cs)
then_upto no_fuel b f g p q = tt
then_upto asks b f g p q = ap (λ (r : RunResult). then_run r g) p
then_upto fault b f g p q = ap (λ (r : RunResult). then_run r g) p

record GrowsRun (f g : Runner) : Type 0 where
  at : (e : Env) (comp : CompTree) (h : Heap) (cs : List ℕ) → UptoRun (f e comp h cs) (g e comp h cs)

started_upto : (f g : Runner) → GrowsRun f g → (u : RunValue) (h : Heap) (cs : List ℕ) → UptoRun (start_result f u h cs) (start_result g u h cs)
started_upto f g w (do_of e comp) h cs = w.at e comp h cs
started_upto f g w (fix_of own whole e (x_body spec comp)) h cs = w.at (with_value (fix_of own whole own whole) e) comp h cs
started_upto f g w (fix_of own whole e (x_param ty rest)) h cs = refl
started_upto f g w (base v) h cs = refl
started_upto f g w (fun_of e body) h cs = refl
started_upto f g w (all_of e body) h cs = refl

branched_upto : (u : RunValue) (a b c d : RunResult) → UptoRun a c → UptoRun b d → UptoRun (branch_result u a b) (branch_result u c d)
branched_upto (base (v_bool true)) a b c d p q = p
branched_upto (base (v_bool false)) a b c d p q = q
branched_upto (base (v_word n)) a b c d p q = refl
branched_upto (base (v_loc n)) a b c d p q = refl
branched_upto (base v_unit) a b c d p q = refl
branched_upto (base (v_pair x y)) a b c d p q = refl
branched_upto (fun_of e body) a b c d p q = refl
branched_upto (all_of e body) a b c d p q = refl
branched_upto (do_of e comp) a b c d p q = refl
branched_upto (fix_of own whole e left) a b c d p q = refl

mutual
  ran_upto : (items : Items) (i j : Entering) (f g : Runner)
      → Grows i j
      → GrowsRun f g
      → (e : Env) (comp : CompTree) (h : Heap) (cs : List ℕ)
      → UptoRun (comp_result items i f e comp h cs) (comp_result items j g e comp h cs)
  ran_upto items i j f g w r e (c_ret term) h cs =
      with_upto (term_result items i e term) (term_result items j e term) _ _ (evaluated_upto items i j w e term) (λ v. refl)
  ran_upto items i j f g w r e (c_step step others) h cs =
      then_upto (step_result items i f e step h cs) (step_result items j g e step h cs) _ _ (stepped_upto items i j f g w r e step h cs)
      (λ v k ds. ran_upto items i j f g w r (with_value v e) others k ds)

  stepped_upto : (items : Items) (i j : Entering) (f g : Runner)
      → Grows i j
      → GrowsRun f g
      → (e : Env) (step : StepTree) (h : Heap) (cs : List ℕ)
      → UptoRun (step_result items i f e step h cs) (step_result items j g e step h cs)
  stepped_upto items i j f g w r e (s_run term mono) h cs =
      with_upto (term_result items i e term) (term_result items j e term) _ _ (evaluated_upto items i j w e term)
      (λ u. started_upto f g r u h cs)
  stepped_upto items i j f g w r e (s_alloc mono value) h cs =
      with_upto (term_result items i e value) (term_result items j e value) _ _ (evaluated_upto items i j w e value)
      (λ x. run_same (alloc_result x h cs))
  stepped_upto items i j f g w r e (s_get mono place) h cs =
      with_upto (term_result items i e place) (term_result items j e place) _ _ (evaluated_upto items i j w e place)
      (λ l. run_same (get_result (closed_mono e mono) l h cs))
  stepped_upto items i j f g w r e (s_set mono place value) h cs =
      with_upto (term_result items i e place) (term_result items j e place) _ _ (evaluated_upto items i j w e place) (λ l.
      with_upto (term_result items i e value) (term_result items j e value) _ _ (evaluated_upto items i j w e value)
      (λ x. run_same (set_result (closed_mono e mono) l x h cs)))
  stepped_upto items i j f g w r e (s_free mono place) h cs =
      with_upto (term_result items i e place) (term_result items j e place) _ _ (evaluated_upto items i j w e place)
      (λ l. run_same (free_result (closed_mono e mono) l h cs))
  stepped_upto items i j f g w r e (s_if mono test on_true on_false) h cs =
      with_upto (term_result items i e test) (term_result items j e test) _ _ (evaluated_upto items i j w e test) (λ b.
      branched_upto b (comp_result items i f e on_true h cs) (comp_result items i f e on_false h cs) (comp_result items j g e on_true h cs)
      (comp_result items j g e on_false h cs) (ran_upto items i j f g w r e on_true h cs) (ran_upto items i j f g w r e on_false h cs))
  stepped_upto items i j f g w r e (s_claim formula) h cs = refl

runner_grows : (items : Items) (n more : ℕ) → GrowsRun (runner_of items n) (runner_of items (n + more))
runner_grows items zero more = record { at = λ e comp h cs. tt }
runner_grows items (suc n) more =
    let s : suc (n + more) ≡ suc n + more = omega arith in
    let w = runner_grows items n more in
    subst (λ (k : ℕ). GrowsRun (runner_of items (suc n)) (runner_of items k)) s (record {
      at = λ e comp h cs.
          ran_upto items (inner_result items n) (inner_result items (n + more)) (runner_of items n) (runner_of items (n + more))
          (entered_grows items n more) w e comp h cs;
    })

pub more_fuel_keeps : MoreFuelKeeps
more_fuel_keeps = record {
  pure_stays = pure_stays;
  run_stays = λ items n more e comp h cs has.
      run_is (run items n e comp h cs) (run items (n + more) e comp h cs) has
      (ran_upto items (inner_result items n) (inner_result items (n + more)) (runner_of items n) (runner_of items (n + more))
      (entered_grows items n more) (runner_grows items n more) e comp h cs);
}
