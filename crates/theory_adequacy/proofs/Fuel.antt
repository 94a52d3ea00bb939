-- How what holds from some fuel on is put together, and the steps on a heap.
use Rattle.std.proofs.Common.{◌≡◌, ◌≤◌, ◌+◌, ℕ, zero, suc, List, Option, Some, None, refl, sym, ap, ◌∙◌, subst, arith, true, false}
use Rattle.htt_syntax.specs.Trees.{MonoTree, TermTree, CompTree, m_loc, m_unit, m_bool}
use Rattle.theory_values.specs.Values.{Value, v_word, v_bool, v_loc, v_unit, v_pair}
use Rattle.theory_values.specs.Heaps.{Heap}
use Rattle.theory_meaning.specs.Closures.{RunValue, base, Env, PureResult, gives, RunResult, Items}
use Rattle.theory_meaning.specs.Meaning.{then_with, base_or_fault, of_one, of_two, of_three, term_result, inner_result, run_with, then_run, alloc_result}
use Rattle.theory_meaning.specs.Meaning.{get_result, set_result, free_result, branch_result, comp_result, runner_of}
use Rattle.theory_denotation.specs.Outcomes.{Outcome, Running, ended, out_of_fuel, asking, wrong, then_outcome, alloc_outcome, get_outcome, set_outcome}
use Rattle.theory_denotation.specs.Outcomes.{free_outcome, branch_outcome}
use Rattle.theory_denotation.specs.Recursion.{entered_running}
use Rattle.theory_denotation.specs.Laws.{run_result}
use Rattle.theory_denotation.proofs.StepsAgree.{agree}
use Rattle.theory_meaning_simulation.specs.Simulation.{Shaped, GivesSo, AlikeOutcomes}
use Rattle.theory_meaning_simulation.proofs.Results.{alloc_alike, get_alike, set_alike, free_alike}
use Rattle.theory_adequacy.specs.Adequacy.{EventuallyGives, EndsShaped, Reaches}

pub eventually_then : (r : ℕ → PureResult) (P Q : RunValue → Type 0) (f : ℕ → RunValue → PureResult)
    → EventuallyGives r P
    → ((u : RunValue) → P u → EventuallyGives (λ i. f i u) Q)
    → EventuallyGives (λ i. then_with (r i) (f i)) Q
eventually_then r P Q f a g =
    let b = g a.value a.so in
    record {
      fuel = a.fuel + b.fuel;
      value = b.value;
      given = λ i le. ap (λ x. then_with x (f i)) (a.given i (omega (arith, le))) ∙ b.given i (omega (arith, le));
      so = b.so;
    }

pub eventually_more : (r : ℕ → PureResult) (P Q : RunValue → Type 0) → ((u : RunValue) → P u → Q u) → EventuallyGives r P → EventuallyGives r Q
eventually_more r P Q g a = record { fuel = a.fuel; value = a.value; given = a.given; so = g a.value a.so }

-- what is given with any fuel
pub eventually_is : {r : ℕ → PureResult} {u : RunValue} (P : RunValue → Type 0) → ((i : ℕ) → r i ≡ gives u) → P u → EventuallyGives r P
eventually_is {u = u} P q h = record { fuel = zero; value = u; given = λ i le. q i; so = h }

result_of : PureResult → RunValue
result_of (gives u) = u
result_of _ = base v_unit

pub eventually_was : (u : RunValue) (P : RunValue → Type 0) → EventuallyGives (λ i. gives u) P → P u
unfolding result_of
eventually_was u P a = subst P (sym (ap result_of (a.given a.fuel (omega arith)))) a.so

-- entering with one unit of fuel less
inner_given : (items : Items) (e : Env) (term : TermTree) (fuel : ℕ) (u : RunValue)
    → ((i : ℕ) → fuel ≤ i → term_result items (inner_result items i) e term ≡ gives u)
    → (i : ℕ)
    → suc fuel ≤ i
    → inner_result items i e term ≡ gives u
inner_given items e term fuel u f zero le = absurd (omega (arith, le))
inner_given items e term fuel u f (suc i) le = f i (omega (arith, le))

pub eventually_entered : (items : Items) (P : RunValue → Type 0) (e : Env) (term : TermTree)
    → EventuallyGives (λ i. term_result items (inner_result items i) e term) P
    → EventuallyGives (λ i. inner_result items i e term) P
eventually_entered items P e term a =
    record { fuel = suc a.fuel; value = a.value; given = λ i le. inner_given items e term a.fuel a.value a.given i le; so = a.so }

pub reaches_with : (t : MonoTree) (r : ℕ → PureResult) (P : RunValue → Type 0) (f : ℕ → RunValue → RunResult) (o : Outcome)
    → EventuallyGives r P
    → ((u : RunValue) → P u → Reaches t (λ j. f j u) o)
    → Reaches t (λ j. run_with (r j) (f j)) o
reaches_with t r P f o a g has =
    let b = g a.value a.so has in
    record {
      fuel = a.fuel + b.fuel;
      comes = λ j le. ap (λ x. run_with x (f j)) (a.given j (omega (arith, le))) ∙ b.comes j (omega (arith, le));
      shaped = b.shaped;
    }

pub reaches_then : (t s : MonoTree) (r : ℕ → RunResult) (o : Outcome) (f : ℕ → RunValue → Heap → List ℕ → RunResult)
    (g : Value → Heap → List ℕ → Outcome)
    → Reaches t r o
    → ((v : Value) (h : Heap) (cs : List ℕ) → Shaped v t → Reaches s (λ j. f j (base v) h cs) (g v h cs))
    → Reaches s (λ j. then_run (r j) (f j)) (then_outcome o g)
reaches_then t s r (ended v k ds) f g a b = λ has.
    let x = a (λ q. cc) in
    let y = b v k ds x.shaped has in
    record {
      fuel = x.fuel + y.fuel;
      comes = λ j le. ap (λ z. then_run z (f j)) (x.comes j (omega (arith, le))) ∙ y.comes j (omega (arith, le));
      shaped = y.shaped;
    }
reaches_then t s r out_of_fuel f g a b = λ has. absurd (has refl)
reaches_then t s r asking f g a b = λ has.
    let x = a (λ q. cc) in record { fuel = x.fuel; comes = λ j le. ap (λ z. then_run z (f j)) (x.comes j le); shaped = tt }
reaches_then t s r wrong f g a b = λ has.
    let x = a (λ q. cc) in record { fuel = x.fuel; comes = λ j le. ap (λ z. then_run z (f j)) (x.comes j le); shaped = tt }

-- what it comes to with any fuel
pub reaches_end : (t : MonoTree) (v : Value) (h : Heap) (cs : List ℕ) {r : ℕ → RunResult}
    → ((j : ℕ) → r j ≡ run_result (ended v h cs))
    → Shaped v t
    → Reaches t r (ended v h cs)
reaches_end t v h cs q s has = record { fuel = zero; comes = λ j le. q j; shaped = s }

-- running with one unit of fuel less
runner_comes : (items : Items) (e : Env) (comp : CompTree) (h : Heap) (cs : List ℕ) (fuel : ℕ) (x : RunResult)
    → ((j : ℕ) → fuel ≤ j → comp_result items (inner_result items j) (runner_of items j) e comp h cs ≡ x)
    → (j : ℕ)
    → suc fuel ≤ j
    → runner_of items j e comp h cs ≡ x
runner_comes items e comp h cs fuel x f zero le = absurd (omega (arith, le))
runner_comes items e comp h cs fuel x f (suc j) le = f j (omega (arith, le))

pub reaches_started : (items : Items) (t : MonoTree) (e : Env) (comp : CompTree) (h : Heap) (cs : List ℕ) (o : Outcome)
    → Reaches t (λ j. comp_result items (inner_result items j) (runner_of items j) e comp h cs) o
    → Reaches t (λ j. runner_of items j e comp h cs) o
reaches_started items t e comp h cs o a has =
    let b = a has in
    record { fuel = suc b.fuel; comes = λ j le. runner_comes items e comp h cs b.fuel (run_result o) b.comes j le; shaped = b.shaped }

-- a recursive function with all its arguments, run
pub reaches_body : (items : Items) (t : MonoTree) (e : Env) (comp : CompTree) (f : Running)
    → ((n : ℕ) (h : Heap) (cs : List ℕ) → Reaches t (λ j. comp_result items (inner_result items j) (runner_of items j) e comp h cs) (f n h cs))
    → (n : ℕ) (h : Heap) (cs : List ℕ)
    → Reaches t (λ j. runner_of items j e comp h cs) (entered_running f n h cs)
reaches_body items t e comp f a zero h cs = λ has. absurd (has refl)
reaches_body items t e comp f a (suc n) h cs = reaches_started items t e comp h cs (f n h cs) (a n h cs)

-- operations on values of the text, which take no fuel
op_given : (o : Option Value) (P : RunValue → Type 0) → GivesSo (base_or_fault o) P → EventuallyGives (λ i. base_or_fault o) P
op_given (Some v) P h = eventually_is P (λ i. refl) h
op_given None P h = absurd h

pub one_given : (f : Value → Option Value) (v : Value) (x : RunValue) (P : RunValue → Type 0)
    → x ≡ base v
    → GivesSo (base_or_fault (f v)) P
    → EventuallyGives (λ i. of_one f x) P
one_given f v x P q h = subst (λ y. EventuallyGives (λ i. of_one f y) P) (sym q) (op_given (f v) P h)

pub two_given : (f : Value → Value → Option Value) (v u : Value) (x y : RunValue) (P : RunValue → Type 0)
    → x ≡ base v
    → y ≡ base u
    → GivesSo (base_or_fault (f v u)) P
    → EventuallyGives (λ i. of_two f x y) P
two_given f v u x y P q r h =
    subst (λ z. EventuallyGives (λ i. of_two f z y) P) (sym q) (subst (λ z. EventuallyGives (λ i. of_one (f v) z) P) (sym r) (op_given (f v u) P h))

pub three_given : (f : Value → Value → Value → Option Value) (v u a : Value) (x y z : RunValue) (P : RunValue → Type 0)
    → x ≡ base v
    → y ≡ base u
    → z ≡ base a
    → GivesSo (base_or_fault (f v u a)) P
    → EventuallyGives (λ i. of_three f x y z) P
three_given f v u a x y z P q r s h =
    subst (λ b. EventuallyGives (λ i. of_three f b y z) P) (sym q)
    (subst (λ b. EventuallyGives (λ i. of_two (f v) b z) P) (sym r)
    (subst (λ b. EventuallyGives (λ i. of_one (f v u) b) P) (sym s) (op_given (f v u a) P h)))

-- steps on a heap, which take no fuel
ends_shaped : (t : MonoTree) (o : Outcome) → AlikeOutcomes t (run_result o) o → EndsShaped t o
ends_shaped t (ended v h cs) a = a.1
ends_shaped t out_of_fuel a = tt
ends_shaped t asking a = tt
ends_shaped t wrong a = tt

step_reached : (t : MonoTree) (r : RunResult) (o : Outcome) → run_result o ≡ r → AlikeOutcomes t r o → Reaches t (λ j. r) o
step_reached t r o q a has =
    record { fuel = zero; comes = λ j le. sym q; shaped = ends_shaped t o (subst (λ x. AlikeOutcomes t x o) (sym q) a) }

pub alloc_reached : (v : Value) (h : Heap) (cs : List ℕ) → Reaches m_loc (λ j. alloc_result (base v) h cs) (alloc_outcome v h cs)
alloc_reached v h cs = step_reached m_loc (alloc_result (base v) h cs) (alloc_outcome v h cs) (agree.alloc v h cs) (alloc_alike v h cs)

pub get_reached : (t : MonoTree) (v : Value) (h : Heap) (cs : List ℕ) → Reaches t (λ j. get_result (Some t) (base v) h cs) (get_outcome t v h cs)
get_reached t v h cs = step_reached t (get_result (Some t) (base v) h cs) (get_outcome t v h cs) (agree.get t v h cs) (get_alike t v h cs)

pub set_reached : (t : MonoTree) (v u : Value) (h : Heap) (cs : List ℕ)
    → Reaches m_unit (λ j. set_result (Some t) (base v) (base u) h cs) (set_outcome t v u h cs)
set_reached t v u h cs =
    step_reached m_unit (set_result (Some t) (base v) (base u) h cs) (set_outcome t v u h cs) (agree.set t v u h cs) (set_alike t v u h cs)

pub free_reached : (t : MonoTree) (v : Value) (h : Heap) (cs : List ℕ)
    → Reaches m_unit (λ j. free_result (Some t) (base v) h cs) (free_outcome t v h cs)
free_reached t v h cs = step_reached m_unit (free_result (Some t) (base v) h cs) (free_outcome t v h cs) (agree.free t v h cs) (free_alike t v h cs)

pub branch_reached : (t : MonoTree) (v : Value) (x y : ℕ → RunResult) (a b : Outcome)
    → Shaped v m_bool
    → Reaches t x a
    → Reaches t y b
    → Reaches t (λ j. branch_result (base v) (x j) (y j)) (branch_outcome v a b)
branch_reached t (v_bool true) x y a b s p q = p
branch_reached t (v_bool false) x y a b s p q = q
branch_reached t (v_word n) x y a b s p q = absurd s
branch_reached t (v_loc n) x y a b s p q = absurd s
branch_reached t v_unit x y a b s p q = absurd s
branch_reached t (v_pair c d) x y a b s p q = absurd s
