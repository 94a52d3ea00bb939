-- The shipped choices are fresh, so a run with enough of them ends without asking.
use Rattle.std.proofs.Common.{◌≡◌, ℕ, zero, suc, ◌+◌, ◌≤◌, List, Option, Some, None, refl, sym, ap, ◌∙◌, subst, arith, ⊎_elim, inl, inr}
use Rattle.std.specs.Prelude.{Bool, true, false, is_none, if◌then◌else◌}
use Rattle.std.proofs.lemmas.Bool.{cases_eq}
use Rattle.std.proofs.lemmas.Bool.Decides.{nat_tests}
use Rattle.htt_syntax.specs.Trees.{MonoTree, CompTree, StepTree, x_param, x_body, c_ret, c_step, s_run, s_alloc, s_get, s_set, s_free, s_if, s_claim}
use Rattle.theory_values.specs.Values.{Value, v_word, v_bool, v_loc, v_unit, v_pair, encoding}
use Rattle.theory_values.specs.Heaps.{Heap, Block, InUse, with_place, with_block, without_block}
use Rattle.theory_meaning.specs.Closures.{RunValue, base, fun_of, all_of, do_of, fix_of, Env, with_value, PureResult, gives, lacks_fuel, faults, RunResult}
use Rattle.theory_meaning.specs.Closures.{done, no_fuel, asks, fault, Items, closed_mono}
use Rattle.theory_meaning.specs.Meaning.{Entering, term_result, inner_result, run_with, then_run, Runner, start_result, is_fresh, alloc_result, block_value}
use Rattle.theory_meaning.specs.Meaning.{value_result, get_result, is_as_wide, set_result, free_result, branch_result, comp_result, step_result, runner_of}
use Rattle.theory_meaning.specs.Choices.{IsGreatest, numbers_from}
use Rattle.theory_meaning.specs.Shipped.{NoneAbove, Served, served_done, served_no_fuel, served_fault, ShippedChoicesSuffice}

-- a result that takes no choice
at_once : (v : RunValue) (h : Heap) (g : ℕ) → NoneAbove h g → (result : List ℕ → RunResult) → ((cs : List ℕ) → result cs ≡ done v h cs) → Served g result
at_once v h g b result same =
    let z : g ≡ g + 0 = omega arith in
    served_done 0 v h (subst (NoneAbove h) z b) (λ more.
    let e : 0 + more ≡ more = omega arith in same (numbers_from (suc g) (0 + more)) ∙ (λ j. done v h (numbers_from (suc (z j)) (e j))))

always_fault : (g : ℕ) (result : List ℕ → RunResult) → ((cs : List ℕ) → result cs ≡ fault) → Served g result
always_fault g result same = served_fault 0 (λ more. same (numbers_from (suc g) (0 + more)))

always_short : (g : ℕ) (result : List ℕ → RunResult) → ((cs : List ℕ) → result cs ≡ no_fuel) → Served g result
always_short g result same = served_no_fuel 0 (λ more. same (numbers_from (suc g) (0 + more)))

served_with : (g : ℕ) (a : PureResult) (f : RunValue → List ℕ → RunResult) → ((v : RunValue) → Served g (f v)) → Served g (λ cs. run_with a (λ v. f v cs))
served_with g (gives v) f s = s v
served_with g lacks_fuel f s = always_short g (λ cs. no_fuel) (λ cs. refl)
served_with g faults f s = always_fault g (λ cs. fault) (λ cs. refl)

served_then : (g : ℕ) (a : List ℕ → RunResult) (f : RunValue → Heap → List ℕ → RunResult)
    → Served g a
    → ((v : RunValue) (k : Heap) (b : ℕ) → NoneAbove k b → Served b (f v k))
    → Served g (λ cs. then_run (a cs) f)
served_then g a f (served_no_fuel count same) next = served_no_fuel count (λ more. ap (λ (r : RunResult). then_run r f) (same more))
served_then g a f (served_fault count same) next = served_fault count (λ more. ap (λ (r : RunResult). then_run r f) (same more))
served_then g a f (served_done count v k b same) next = after g a f count v k same (next v k (g + count) b)
  where
    after : (g : ℕ) (a : List ℕ → RunResult) (f : RunValue → Heap → List ℕ → RunResult) (count : ℕ) (v : RunValue) (k : Heap)
        → ((more : ℕ) → a (numbers_from (suc g) (count + more)) ≡ done v k (numbers_from (suc (g + count)) more))
        → Served (g + count) (f v k)
        → Served g (λ cs. then_run (a cs) f)
    after g a f count v k same (served_done other u m c last) =
        let s : (g + count) + other ≡ g + (count + other) = omega arith in
        served_done (count + other) u m (subst (NoneAbove m) s c) (λ more. let t : (count + other) + more ≡ count + (other + more) = omega arith in
        ap (λ (n : ℕ). then_run (a (numbers_from (suc g) n)) f) t
        ∙ ap (λ (r : RunResult). then_run r f) (same (other + more))
        ∙ last more
        ∙ ap (λ (n : ℕ). done u m (numbers_from (suc n) more)) s)
    after g a f count v k same (served_no_fuel other last) =
        served_no_fuel (count + other) (λ more. let t : (count + other) + more ≡ count + (other + more) = omega arith in
        ap (λ (n : ℕ). then_run (a (numbers_from (suc g) n)) f) t ∙ ap (λ (r : RunResult). then_run r f) (same (other + more)) ∙ last more)
    after g a f count v k same (served_fault other last) =
        served_fault (count + other) (λ more. let t : (count + other) + more ≡ count + (other + more) = omega arith in
        ap (λ (n : ℕ). then_run (a (numbers_from (suc g) n)) f) t ∙ ap (λ (r : RunResult). then_run r f) (same (other + more)) ∙ last more)

-- what is put at a location that isn't greater leaves none greater
put_below : (h : Heap) (g l : ℕ) (o : Option Block) → NoneAbove h g → l ≤ g → NoneAbove (with_place h l o) g
put_below h g l o b le m used =
    ⊎_elim (λ (e : m ≡ l). omega (arith, e, le)) (λ (e : m ≡ l → ⊥). b m (used.0, sym (put_other h l o m e) ∙ used.1)) (cases_eq m l)
  where
    put_other : (h : Heap) (l : ℕ) (o : Option Block) (m : ℕ) → (m ≡ l → ⊥) → with_place h l o m ≡ h m
    put_other h l o m e = grind (arith, nat_tests)

none_at : (h : Heap) (g : ℕ) → NoneAbove h g → (o : Option Block) → h (suc g) ≡ o → o ≡ None
none_at h g b None e = refl
none_at h g b (Some c) e = absurd (let l : suc g ≤ g = b (suc g) (c, e) in omega (arith, l))

next_is_fresh : (h : Heap) (g : ℕ) → NoneAbove h g → is_fresh h (suc g) ≡ true
next_is_fresh h g b = ap is_none (none_at h g b (h (suc g)) refl)

higher : (h : Heap) (g k : ℕ) → g ≤ k → NoneAbove h g → NoneAbove h k
higher h g k le b l used = let m = b l used in omega (arith, le, m)

alloc_served : (x : RunValue) (h : Heap) (g : ℕ) → NoneAbove h g → Served g (alloc_result x h)
alloc_served (base v) h g b =
    served_done 1 (base (v_loc (suc g))) (with_block h (suc g) (encoding v))
    (put_below h (g + 1) (suc g) (Some (encoding v)) (higher h g (g + 1) (omega arith) b) (omega arith))
    (λ more. let s : 1 + more ≡ suc more = omega arith in let t : suc (suc g) ≡ suc (g + 1) = omega arith in
    ap (λ (n : ℕ). alloc_result (base v) h (numbers_from (suc g) n)) s
    ∙ ap
    (λ (c : Bool). if c then done (base (v_loc (suc g))) (with_block h (suc g) (encoding v)) (numbers_from (suc (suc g)) more) else asks)
    (next_is_fresh h g b)
    ∙ ap (λ (n : ℕ). done (base (v_loc (suc g))) (with_block h (suc g) (encoding v)) (numbers_from n more)) t)
alloc_served (fun_of e body) h g b = always_fault g (alloc_result (fun_of e body) h) (λ cs. refl)
alloc_served (all_of e body) h g b = always_fault g (alloc_result (all_of e body) h) (λ cs. refl)
alloc_served (do_of e comp) h g b = always_fault g (alloc_result (do_of e comp) h) (λ cs. refl)
alloc_served (fix_of own whole e left) h g b = always_fault g (alloc_result (fix_of own whole e left) h) (λ cs. refl)

got_served : (o : Option Value) (h : Heap) (g : ℕ) → NoneAbove h g → Served g (value_result o h)
got_served (Some v) h g b = at_once (base v) h g b (value_result (Some v) h) (λ cs. refl)
got_served None h g b = always_fault g (value_result None h) (λ cs. refl)

read_served : (t : Option MonoTree) (l : RunValue) (h : Heap) (g : ℕ) → NoneAbove h g → Served g (get_result t l h)
read_served t (base (v_loc l)) h g b = got_served (block_value t (h l)) h g b
read_served t (base (v_word n)) h g b = always_fault g (get_result t (base (v_word n)) h) (λ cs. refl)
read_served t (base (v_bool c)) h g b = always_fault g (get_result t (base (v_bool c)) h) (λ cs. refl)
read_served t (base v_unit) h g b = always_fault g (get_result t (base v_unit) h) (λ cs. refl)
read_served t (base (v_pair x y)) h g b = always_fault g (get_result t (base (v_pair x y)) h) (λ cs. refl)
read_served t (fun_of e body) h g b = always_fault g (get_result t (fun_of e body) h) (λ cs. refl)
read_served t (all_of e body) h g b = always_fault g (get_result t (all_of e body) h) (λ cs. refl)
read_served t (do_of e comp) h g b = always_fault g (get_result t (do_of e comp) h) (λ cs. refl)
read_served t (fix_of own whole e left) h g b = always_fault g (get_result t (fix_of own whole e left) h) (λ cs. refl)

wide_some : (t : Option MonoTree) (o : Option Block) → is_as_wide t o ≡ true → (b : Block) × (o ≡ Some b)
wide_some (Some t) (Some b) e = (b, refl)
wide_some (Some t) None e = absurd (false_is_not_true e)
  where
    false_is_not_true : false ≡ true → ⊥
    false_is_not_true e = cc
wide_some None o e = absurd (false_is_not_true e)
  where
    false_is_not_true : false ≡ true → ⊥
    false_is_not_true e = cc

where_wide : (c : Bool) (v : RunValue) (k : Heap) (g : ℕ) → (c ≡ true → NoneAbove k g) → Served g (λ cs. if c then done v k cs else fault)
where_wide true v k g b = at_once v k g (b refl) (λ cs. done v k cs) (λ cs. refl)
where_wide false v k g b = always_fault g (λ cs. fault) (λ cs. refl)

write_served : (t : Option MonoTree) (l x : RunValue) (h : Heap) (g : ℕ) → NoneAbove h g → Served g (set_result t l x h)
write_served t (base (v_loc l)) (base v) h g b =
    where_wide (is_as_wide t (h l)) (base v_unit) (with_block h l (encoding v)) g
    (λ e. put_below h g l (Some (encoding v)) b (b l (wide_some t (h l) e)))
write_served t (base (v_loc l)) _ h g b = always_fault g _ (λ cs. refl)
write_served t (base _) x h g b = always_fault g _ (λ cs. refl)
write_served t _ x h g b = always_fault g _ (λ cs. refl)

free_served : (t : Option MonoTree) (l : RunValue) (h : Heap) (g : ℕ) → NoneAbove h g → Served g (free_result t l h)
free_served t (base (v_loc l)) h g b =
    where_wide (is_as_wide t (h l)) (base v_unit) (without_block h l) g (λ e. put_below h g l None b (b l (wide_some t (h l) e)))
free_served t (base _) h g b = always_fault g _ (λ cs. refl)
free_served t _ h g b = always_fault g _ (λ cs. refl)

record Serves (f : Runner) : Type 0 where
  at : (e : Env) (comp : CompTree) (h : Heap) (g : ℕ) → NoneAbove h g → Served g (f e comp h)

started_served : (f : Runner) → Serves f → (u : RunValue) (h : Heap) (g : ℕ) → NoneAbove h g → Served g (start_result f u h)
started_served f s (do_of e comp) h g b = s.at e comp h g b
started_served f s (fix_of own whole e (x_body spec comp)) h g b = s.at (with_value (fix_of own whole own whole) e) comp h g b
started_served f s (fix_of own whole e (x_param ty rest)) h g b = always_fault g _ (λ cs. refl)
started_served f s (base v) h g b = always_fault g _ (λ cs. refl)
started_served f s (fun_of e body) h g b = always_fault g _ (λ cs. refl)
started_served f s (all_of e body) h g b = always_fault g _ (λ cs. refl)

branched_served : (u : RunValue) (g : ℕ) (a b : List ℕ → RunResult) → Served g a → Served g b → Served g (λ cs. branch_result u (a cs) (b cs))
branched_served (base (v_bool true)) g a b p q = p
branched_served (base (v_bool false)) g a b p q = q
branched_served (base _) g a b p q = always_fault g _ (λ cs. refl)
branched_served _ g a b p q = always_fault g _ (λ cs. refl)

mutual
  ran_served : (items : Items) (i : Entering) (f : Runner)
      → Serves f
      → (e : Env) (comp : CompTree) (h : Heap) (g : ℕ)
      → NoneAbove h g
      → Served g (comp_result items i f e comp h)
  ran_served items i f s e (c_ret term) h g b =
      served_with g (term_result items i e term) (λ v cs. done v h cs) (λ v. at_once v h g b (λ cs. done v h cs) (λ cs. refl))
  ran_served items i f s e (c_step step others) h g b =
      served_then g (step_result items i f e step h) (λ v k ds. comp_result items i f (with_value v e) others k ds)
      (stepped_served items i f s e step h g b) (λ v k c d. ran_served items i f s (with_value v e) others k c d)

  stepped_served : (items : Items) (i : Entering) (f : Runner)
      → Serves f
      → (e : Env) (step : StepTree) (h : Heap) (g : ℕ)
      → NoneAbove h g
      → Served g (step_result items i f e step h)
  stepped_served items i f s e (s_run term mono) h g b =
      served_with g (term_result items i e term) (λ u cs. start_result f u h cs) (λ u. started_served f s u h g b)
  stepped_served items i f s e (s_alloc mono value) h g b =
      served_with g (term_result items i e value) (λ x cs. alloc_result x h cs) (λ x. alloc_served x h g b)
  stepped_served items i f s e (s_get mono place) h g b =
      served_with g (term_result items i e place) (λ l cs. get_result (closed_mono e mono) l h cs)
      (λ l. read_served (closed_mono e mono) l h g b)
  stepped_served items i f s e (s_set mono place value) h g b =
      served_with g (term_result items i e place)
      (λ l cs. run_with (term_result items i e value) (λ x. set_result (closed_mono e mono) l x h cs)) (λ l.
      served_with g (term_result items i e value) (λ x cs. set_result (closed_mono e mono) l x h cs)
      (λ x. write_served (closed_mono e mono) l x h g b))
  stepped_served items i f s e (s_free mono place) h g b =
      served_with g (term_result items i e place) (λ l cs. free_result (closed_mono e mono) l h cs)
      (λ l. free_served (closed_mono e mono) l h g b)
  stepped_served items i f s e (s_if mono test on_true on_false) h g b =
      served_with g (term_result items i e test)
      (λ u cs. branch_result u (comp_result items i f e on_true h cs) (comp_result items i f e on_false h cs)) (λ u.
      branched_served u g (comp_result items i f e on_true h) (comp_result items i f e on_false h) (ran_served items i f s e on_true h g b)
      (ran_served items i f s e on_false h g b))
  stepped_served items i f s e (s_claim formula) h g b = at_once (base v_unit) h g b (λ cs. done (base v_unit) h cs) (λ cs. refl)

runner_serves : (items : Items) (n : ℕ) → Serves (runner_of items n)
runner_serves items zero = record { at = λ e comp h g b. always_short g (runner_of items zero e comp h) (λ cs. refl) }
runner_serves items (suc n) = record { at = λ e comp h g b. ran_served items (inner_result items n) (runner_of items n) (runner_serves items n) e comp h g b }

greatest_below : (h : Heap) (g k : ℕ) → IsGreatest h g → IsGreatest h k → g ≤ k
greatest_below h g k i j = ⊎_elim (λ (u : InUse h g). j.none_above g u) (λ (z : g ≡ zero). omega (arith, z)) i.in_use_or_zero

none_is_no_block : {b : Block} → None ≡ Some b → ⊥
none_is_no_block e = cc

by_place : (n : ℕ) (h : Heap) → NoneAbove h (suc n) → (o : Option Block) → h (suc n) ≡ o → (NoneAbove h n → (g : ℕ) × IsGreatest h g) → (g : ℕ) × IsGreatest h g
by_place n h b (Some c) e lower = (suc n, record { none_above = b; in_use_or_zero = inl (c, e) })
by_place n h b None e lower =
    lower (λ l used.
    ⊎_elim (λ (q : l ≡ suc n). absurd (none_is_no_block (sym e ∙ sym (ap h q) ∙ used.1)))
    (λ (q : l ≡ suc n → ⊥). let m = b l used in omega (arith, m, q)) (cases_eq l (suc n)))

found_below : (n : ℕ) (h : Heap) → NoneAbove h n → (g : ℕ) × IsGreatest h g
found_below zero h b = (zero, record { none_above = b; in_use_or_zero = inr refl })
found_below (suc n) h b = by_place n h b (h (suc n)) refl (λ c. found_below n h c)

pub suffices : ShippedChoicesSuffice
suffices = record {
  run_is_served = λ items n e comp h g i. ran_served items (inner_result items n) (runner_of items n) (runner_serves items n) e comp h g i.none_above;
  greatest_exists = λ h i. found_below 18446744073709551615 h (λ l used. let m = i.at_words l used.0 used.1 in omega (arith, m));
  greatest_is_one = λ h g k i j. let a = greatest_below h g k i j in let b = greatest_below h k g j i in omega (arith, a, b);
}
