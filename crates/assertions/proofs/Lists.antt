-- The map of a list, place by place, and beside the maps of states.
use Rattle.std.proofs.Common.{◌≡◌, ℕ, zero, suc, ◌+◌, ◌-◌, ◌<◌, ◌≤◌, List, [], ◌∷◌, length, get_or, refl, sym, ap, ◌∙◌, arith}
use Rattle.htt_syntax.specs.Trees.{FormulaTree}
use Rattle.theory_renaming.specs.Renaming.{Map, lift, lifts, rename_formula}
use Rattle.theory_states.specs.States.{past, at_heaps, at_heap, at_result}
use Rattle.theory_states.proofs.Shifts.{past_shifts}
use Rattle.assertions.specs.Listed.{listed}

pub past_adds : (k n : ℕ) → past k n ≡ n + k
unfolding lifts
past_adds k n = past_shifts k n

pub within_list : (to : List ℕ) (by n d : ℕ) → n < length to → get_or to n d ≡ listed to by n
within_list [] by n d within = absurd (omega (arith, within))
within_list (t ∷ ts) by zero d within = refl
within_list (t ∷ ts) by (suc n) d within = within_list ts by n d (omega (arith, within))

pub past_list : (to : List ℕ) (by n : ℕ) → length to ≤ n → (n - length to) + by ≡ listed to by n
past_list [] by n over =
    let none : n - 0 ≡ n = omega arith in
    ap (λ m. m + by) none ∙ sym (past_adds by n)
past_list (t ∷ ts) by zero over = absurd (omega (arith, over))
past_list (t ∷ ts) by (suc n) over =
    let same : suc n - suc (length ts) ≡ n - length ts = omega arith in
    ap (λ m. m + by) same ∙ past_list ts by n (omega (arith, over))

pub bound_stays : (m : Map) (d n : ℕ) → n < d → n ≡ lifts d m n
unfolding lift lifts
bound_stays m zero n below = absurd (omega (arith, below))
bound_stays m (suc d) zero below = refl
bound_stays m (suc d) (suc n) below = ap suc (bound_stays m d n (omega (arith, below)))

pub free_goes : (m : Map) (d n : ℕ) → d ≤ n → m (n - d) + d ≡ lifts d m n
unfolding lift lifts
free_goes m zero n over =
    let none : n - 0 ≡ n = omega arith in
    let same : m n + 0 ≡ m n = omega arith in
    ap (λ i. m i + 0) none ∙ same
free_goes m (suc d) zero over = absurd (omega (arith, over))
free_goes m (suc d) (suc n) over =
    let same : suc n - suc d ≡ n - d = omega arith in
    let rest : m (n - d) + d ≡ lifts d m n = free_goes m d n (omega (arith, over)) in
    let up : m (n - d) + suc d ≡ suc (m (n - d) + d) = omega arith in
    ap (λ i. m i + suc d) same ∙ up ∙ ap suc rest

-- ---- the maps of states

heap_at : (h k n : ℕ) → listed (h ∷ []) k n ≡ at_heap h k n
unfolding at_heap
heap_at h k zero = refl
heap_at h k (suc n) = refl

heaps_at : (m i k n : ℕ) → listed (m ∷ i ∷ []) k n ≡ at_heaps m i k n
unfolding at_heaps
heaps_at m i k zero = refl
heaps_at m i k (suc zero) = refl
heaps_at m i k (suc (suc n)) = refl

result_at : (before after value k n : ℕ) → listed (after ∷ before ∷ value ∷ []) k n ≡ at_result before after value k n
unfolding at_result
result_at before after value k zero = refl
result_at before after value k (suc zero) = refl
result_at before after value k (suc (suc zero)) = refl
result_at before after value k (suc (suc (suc n))) = refl

pub one_heap : (h k : ℕ) (f : FormulaTree) → rename_formula (listed (h ∷ []) k) f ≡ rename_formula (at_heap h k) f
one_heap h k f = λ j. rename_formula (λ n. heap_at h k n j) f

pub two_heaps : (m i k : ℕ) (f : FormulaTree) → rename_formula (listed (m ∷ i ∷ []) k) f ≡ rename_formula (at_heaps m i k) f
two_heaps m i k f = λ j. rename_formula (λ n. heaps_at m i k n j) f

pub one_result : (before after value k : ℕ) (f : FormulaTree)
    → rename_formula (listed (after ∷ before ∷ value ∷ []) k) f ≡ rename_formula (at_result before after value k) f
one_result before after value k f = λ j. rename_formula (λ n. result_at before after value k n j) f
