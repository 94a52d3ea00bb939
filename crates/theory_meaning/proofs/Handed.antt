-- A run that doesn't ask hands further choices on.
use Rattle.std.proofs.Common.{◌≡◌, ℕ, zero, suc, List, [], ◌∷◌, ◌++◌, Option, Some, None, refl, sym, ap, subst}
use Rattle.std.specs.Prelude.{Bool, true, false, if◌then◌else◌}
use Rattle.htt_syntax.specs.Trees.{MonoTree, CompTree, StepTree, x_param, x_body, c_ret, c_step, s_run, s_alloc, s_get, s_set, s_free, s_if, s_claim}
use Rattle.theory_values.specs.Values.{Value, v_word, v_bool, v_loc, v_unit, v_pair, encoding}
use Rattle.theory_values.specs.Heaps.{Heap, with_block, without_block}
use Rattle.theory_meaning.specs.Closures.{RunValue, base, fun_of, all_of, do_of, fix_of, Env, with_value, PureResult, gives, lacks_fuel, faults, RunResult}
use Rattle.theory_meaning.specs.Closures.{done, no_fuel, asks, fault, Items, closed_mono}
use Rattle.theory_meaning.specs.Meaning.{Entering, term_result, inner_result, run_with, then_run, Runner, start_result, is_fresh, alloc_result, block_value}
use Rattle.theory_meaning.specs.Meaning.{value_result, get_result, is_as_wide, set_result, free_result, branch_result, comp_result, step_result, runner_of, run}
use Rattle.theory_meaning.specs.Laws.{ChoicesAreHandedOn}

-- The second is the first with more choices at the end, where the first doesn't ask.
abbrev Hands : List ℕ → RunResult → RunResult → Type 0
Hands more (done v h cs) b = b ≡ done v h (cs ++ more)
Hands more no_fuel b = b ≡ no_fuel
Hands more asks b = Unit {0}
Hands more fault b = b ≡ fault

hands_with : (more : List ℕ) (a : PureResult) (f g : RunValue → RunResult)
    → ((v : RunValue) → Hands more (f v) (g v))
    → Hands more (run_with a f) (run_with a g)
hands_with more (gives v) f g q = q v
hands_with more lacks_fuel f g q = refl
hands_with more faults f g q = refl

hands_then : (more : List ℕ) (a b : RunResult) (f g : RunValue → Heap → List ℕ → RunResult)
    → Hands more a b
    → ((v : RunValue) (h : Heap) (cs : List ℕ) → Hands more (f v h cs) (g v h (cs ++ more)))
    → Hands more (then_run a f) (then_run b g)
hands_then more (done v h cs) b f g p q = subst (λ (r : RunResult). Hands more (f v h cs) (then_run r g)) (sym p) (q v h cs)
hands_then more no_fuel b f g p q = ap (λ (r : RunResult). then_run r g) p
hands_then more asks b f g p q = tt
hands_then more fault b f g p q = ap (λ (r : RunResult). then_run r g) p

record HandsOn (more : List ℕ) (f : Runner) : Type 0 where
  at : (e : Env) (comp : CompTree) (h : Heap) (cs : List ℕ) → Hands more (f e comp h cs) (f e comp h (cs ++ more))

started_hands : (more : List ℕ) (f : Runner)
    → HandsOn more f
    → (u : RunValue) (h : Heap) (cs : List ℕ)
    → Hands more (start_result f u h cs) (start_result f u h (cs ++ more))
started_hands more f w (do_of e comp) h cs = w.at e comp h cs
started_hands more f w (fix_of own whole e (x_body spec comp)) h cs = w.at (with_value (fix_of own whole own whole) e) comp h cs
started_hands more f w (fix_of own whole e (x_param ty rest)) h cs = refl
started_hands more f w (base v) h cs = refl
started_hands more f w (fun_of e body) h cs = refl
started_hands more f w (all_of e body) h cs = refl

fresh_hands : (more : List ℕ) (b : Bool) (v : RunValue) (h : Heap) (cs : List ℕ)
    → Hands more (if b then done v h cs else asks) (if b then done v h (cs ++ more) else asks)
fresh_hands more true v h cs = refl
fresh_hands more false v h cs = tt

allocated_hands : (more : List ℕ) (x : RunValue) (h : Heap) (cs : List ℕ) → Hands more (alloc_result x h cs) (alloc_result x h (cs ++ more))
allocated_hands more (base v) h [] = tt
allocated_hands more (base v) h (l ∷ cs) = fresh_hands more (is_fresh h l) (base (v_loc l)) (with_block h l (encoding v)) cs
allocated_hands more (fun_of e body) h cs = refl
allocated_hands more (all_of e body) h cs = refl
allocated_hands more (do_of e comp) h cs = refl
allocated_hands more (fix_of own whole e left) h cs = refl

got_hands : (more : List ℕ) (o : Option Value) (h : Heap) (cs : List ℕ) → Hands more (value_result o h cs) (value_result o h (cs ++ more))
got_hands more (Some v) h cs = refl
got_hands more None h cs = refl

read_hands : (more : List ℕ) (t : Option MonoTree) (l : RunValue) (h : Heap) (cs : List ℕ) → Hands more (get_result t l h cs) (get_result t l h (cs ++ more))
read_hands more t (base (v_loc l)) h cs = got_hands more (block_value t (h l)) h cs
read_hands more t (base (v_word n)) h cs = refl
read_hands more t (base (v_bool b)) h cs = refl
read_hands more t (base v_unit) h cs = refl
read_hands more t (base (v_pair x y)) h cs = refl
read_hands more t (fun_of e body) h cs = refl
read_hands more t (all_of e body) h cs = refl
read_hands more t (do_of e comp) h cs = refl
read_hands more t (fix_of own whole e left) h cs = refl

wide_hands : (more : List ℕ) (b : Bool) (v : RunValue) (h : Heap) (cs : List ℕ)
    → Hands more (if b then done v h cs else fault) (if b then done v h (cs ++ more) else fault)
wide_hands more true v h cs = refl
wide_hands more false v h cs = refl

write_hands : (more : List ℕ) (t : Option MonoTree) (l x : RunValue) (h : Heap) (cs : List ℕ)
    → Hands more (set_result t l x h cs) (set_result t l x h (cs ++ more))
write_hands more t (base (v_loc l)) (base v) h cs = wide_hands more (is_as_wide t (h l)) (base v_unit) (with_block h l (encoding v)) cs
write_hands more t (base (v_loc l)) _ h cs = refl
write_hands more t (base _) x h cs = refl
write_hands more t _ x h cs = refl

free_hands : (more : List ℕ) (t : Option MonoTree) (l : RunValue) (h : Heap) (cs : List ℕ) → Hands more (free_result t l h cs) (free_result t l h (cs ++ more))
free_hands more t (base (v_loc l)) h cs = wide_hands more (is_as_wide t (h l)) (base v_unit) (without_block h l) cs
free_hands more t (base _) h cs = refl
free_hands more t _ h cs = refl

branched_hands : (more : List ℕ) (u : RunValue) (a b c d : RunResult) → Hands more a c → Hands more b d → Hands more (branch_result u a b) (branch_result u c d)
branched_hands more (base (v_bool true)) a b c d p q = p
branched_hands more (base (v_bool false)) a b c d p q = q
branched_hands more (base _) a b c d p q = refl
branched_hands more _ a b c d p q = refl

mutual
  ran_hands : (more : List ℕ) (items : Items) (i : Entering) (f : Runner)
      → HandsOn more f
      → (e : Env) (comp : CompTree) (h : Heap) (cs : List ℕ)
      → Hands more (comp_result items i f e comp h cs) (comp_result items i f e comp h (cs ++ more))
  ran_hands more items i f r e (c_ret term) h cs = hands_with more (term_result items i e term) _ _ (λ v. refl)
  ran_hands more items i f r e (c_step step others) h cs =
      hands_then more (step_result items i f e step h cs) (step_result items i f e step h (cs ++ more)) _ _
      (stepped_hands more items i f r e step h cs) (λ v k ds. ran_hands more items i f r (with_value v e) others k ds)

  stepped_hands : (more : List ℕ) (items : Items) (i : Entering) (f : Runner)
      → HandsOn more f
      → (e : Env) (step : StepTree) (h : Heap) (cs : List ℕ)
      → Hands more (step_result items i f e step h cs) (step_result items i f e step h (cs ++ more))
  stepped_hands more items i f r e (s_run term mono) h cs = hands_with more (term_result items i e term) _ _ (λ u. started_hands more f r u h cs)
  stepped_hands more items i f r e (s_alloc mono value) h cs = hands_with more (term_result items i e value) _ _ (λ x. allocated_hands more x h cs)
  stepped_hands more items i f r e (s_get mono place) h cs =
      hands_with more (term_result items i e place) _ _ (λ l. read_hands more (closed_mono e mono) l h cs)
  stepped_hands more items i f r e (s_set mono place value) h cs =
      hands_with more (term_result items i e place) _ _
      (λ l. hands_with more (term_result items i e value) _ _ (λ x. write_hands more (closed_mono e mono) l x h cs))
  stepped_hands more items i f r e (s_free mono place) h cs =
      hands_with more (term_result items i e place) _ _ (λ l. free_hands more (closed_mono e mono) l h cs)
  stepped_hands more items i f r e (s_if mono test on_true on_false) h cs =
      hands_with more (term_result items i e test) _ _ (λ b.
      branched_hands more b (comp_result items i f e on_true h cs) (comp_result items i f e on_false h cs)
      (comp_result items i f e on_true h (cs ++ more)) (comp_result items i f e on_false h (cs ++ more))
      (ran_hands more items i f r e on_true h cs) (ran_hands more items i f r e on_false h cs))
  stepped_hands more items i f r e (s_claim formula) h cs = refl

runner_hands : (more : List ℕ) (items : Items) (n : ℕ) → HandsOn more (runner_of items n)
runner_hands more items zero = record { at = λ e comp h cs. refl }
runner_hands more items (suc n) =
    record { at = λ e comp h cs. ran_hands more items (inner_result items n) (runner_of items n) (runner_hands more items n) e comp h cs }

hands : (items : Items) (n : ℕ) (e : Env) (comp : CompTree) (h : Heap) (cs more : List ℕ)
    → Hands more (run items n e comp h cs) (run items n e comp h (cs ++ more))
hands items n e comp h cs more = ran_hands more items (inner_result items n) (runner_of items n) (runner_hands more items n) e comp h cs

pub handed_on : ChoicesAreHandedOn
handed_on = record {
  when_done = λ items n e comp h cs more v k rest p.
      subst (λ (r : RunResult). Hands more r (run items n e comp h (cs ++ more))) p (hands items n e comp h cs more);
  when_fault = λ items n e comp h cs more p. subst (λ (r : RunResult). Hands more r (run items n e comp h (cs ++ more))) p (hands items n e comp h cs more);
  when_no_fuel = λ items n e comp h cs more p. subst (λ (r : RunResult). Hands more r (run items n e comp h (cs ++ more))) p (hands items n e comp h cs more);
}
