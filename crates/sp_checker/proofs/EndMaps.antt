-- The maps of an end.
use Rattle.std.proofs.Common.{◌≡◌, ℕ, zero, suc, ◌+◌, List, [], ◌∷◌, ◌++◌, length, map, refl, sym, ap, ◌∙◌, arith}
use Rattle.std.specs.List.{range_with_len}
use Rattle.htt_syntax.specs.Trees.{MonoTree, TermTree, FormulaTree, f_ex_t}
use Rattle.std.proofs.lemmas.List.{length-map}
use Rattle.htt_syntax.specs.declared.mono.Mono.{Mono}
use Rattle.htt_syntax.specs.Views.{mono_tree}
use Rattle.theory_renaming.specs.Renaming.{lift, lifts, shifting, rename_mono, rename_term, rename_formula}
use Rattle.theory_states.specs.States.{past, within, some_values, ending, finish}
use Rattle.assertions.specs.Listed.{listed}
use Rattle.assertions.proofs.Lists.{past_adds}

-- a shift from a place on
lifts_shift : (i k n : ℕ) → shifting i k n ≡ lifts i (past k) n
unfolding lift lifts
lifts_shift zero k n = sym (past_adds k n)
lifts_shift (suc i) k zero = refl
lifts_shift (suc i) k (suc n) = ap suc (lifts_shift i k n)

pub mono_shift : (i k : ℕ) (t : MonoTree) → rename_mono (shifting i k) t ≡ rename_mono (lifts i (past k)) t
mono_shift i k t = λ j. rename_mono (λ n. lifts_shift i k n j) t

pub term_shift : (i k : ℕ) (t : TermTree) → rename_term (shifting i k) t ≡ rename_term (lifts i (past k)) t
term_shift i k t = λ j. rename_term (λ n. lifts_shift i k n j) t

-- the list of the variables of j steps, the first of which becomes a
variables : (j a n : ℕ) → listed (range_with_len a j) (a + (j + 3)) n ≡ a + lifts j (past 3) n
unfolding lift lifts
variables zero a n = let e = past_adds (a + 3) n in let f = past_adds 3 n in omega (arith, e, f)
variables (suc j) a zero = omega arith
variables (suc j) a (suc n) =
    let same : a + (suc j + 3) ≡ (a + 1) + (j + 3) = omega arith in
    let rest : listed (range_with_len (a + 1) j) ((a + 1) + (j + 3)) n ≡ (a + 1) + lifts j (past 3) n = variables j (a + 1) n in
    let out : (a + 1) + lifts j (past 3) n ≡ a + suc (lifts j (past 3) n) = omega arith in
    ap (λ k. listed (range_with_len (a + 1) j) k n) same ∙ rest ∙ out

within_list : (j n : ℕ) → listed (j ∷ suc j ∷ range_with_len 0 j) (suc (suc (suc j))) n ≡ within j n
unfolding within
within_list j zero = refl
within_list j (suc zero) = refl
within_list j (suc (suc n)) =
    let same : suc (suc (suc j)) ≡ 0 + (j + 3) = omega arith in
    let none : 0 + lifts j (past 3) n ≡ lifts j (past 3) n = omega arith in
    ap (λ k. listed (range_with_len 0 j) k n) same ∙ variables j 0 n ∙ none

pub at_end : (j : ℕ) (f : FormulaTree) → rename_formula (listed (j ∷ suc j ∷ range_with_len 0 j) (suc (suc (suc j)))) f ≡ rename_formula (within j) f
at_end j f = λ i. rename_formula (λ n. within_list j n i) f

-- ---- the list as it is made

range_more : (a n : ℕ) → range_with_len a (suc n) ≡ range_with_len a n ++ (a + n) ∷ []
range_more a zero = let none : a ≡ a + 0 = omega arith in ap (λ i. i ∷ []) none
range_more a (suc n) =
    let out : (a + 1) + n ≡ a + suc n = omega arith in
    ap (λ is. a ∷ is) (range_more (a + 1) n) ∙ ap (λ i. a ∷ range_with_len (a + 1) n ++ i ∷ []) out

pub one_more : (j i : ℕ) (to : List ℕ) → to ≡ j ∷ suc j ∷ range_with_len 0 i → to ++ i ∷ [] ≡ j ∷ suc j ∷ range_with_len 0 (i + 1)
one_more j i to is =
    let next : i + 1 ≡ suc i = omega arith in
    let none : 0 + i ≡ i = omega arith in
    ap (λ is. is ++ i ∷ []) is
    ∙ ap (λ k. j ∷ suc j ∷ range_with_len 0 i ++ k ∷ []) (sym none)
    ∙ ap (λ is. j ∷ suc j ∷ is) (sym (range_more 0 i))
    ∙ ap (λ k. j ∷ suc j ∷ range_with_len 0 k) (sym next)

-- ---- the parts of an end

pub state_within : (j far : ℕ) (to : List ℕ) (f : FormulaTree)
    → to ≡ j ∷ suc j ∷ range_with_len 0 j
    → far ≡ j + 3
    → rename_formula (listed to far) f ≡ rename_formula (within j) f
state_within j far to f is over =
    let same : far ≡ suc (suc (suc j)) = omega (arith, over) in
    (λ i. rename_formula (listed (is i) (same i)) f) ∙ at_end j f

pub mono_far : (j far : ℕ) (t : MonoTree) → far ≡ j + 3 → rename_mono (past far) t ≡ rename_mono (past (suc (suc (suc j)))) t
mono_far j far t over =
    let same : far ≡ suc (suc (suc j)) = omega (arith, over) in
    ap (λ k. rename_mono (past k) t) same

pub no_values : (count : ℕ) (bound : List Mono) (f : FormulaTree) → bound ≡ [] → f ≡ some_values count (map mono_tree bound) f
unfolding some_values
no_values count bound f none = sym (ap (λ (ts : List Mono). some_values count (map mono_tree ts) f) none)

pub more_values : (count next : ℕ) (bound others : List Mono) (first : Mono) (f : FormulaTree)
    → bound ≡ first ∷ others
    → next ≡ count + 1
    → f_ex_t (rename_mono (shifting count 3) (mono_tree first)) (some_values next (map mono_tree others) f)
    ≡ some_values count (map mono_tree bound) f
unfolding some_values
more_values count next bound others first f is one =
    let up : next ≡ suc count = omega (arith, one) in
    (λ j. f_ex_t (mono_shift count 3 (mono_tree first) j) (some_values (up j) (map mono_tree others) f))
    ∙ sym (ap (λ (ts : List Mono). some_values count (map mono_tree ts) f) is)

pub whole_end : (count : ℕ) (bound : List Mono) (R : FormulaTree) (t : MonoTree) (M : TermTree)
    → length bound ≡ count
    → some_values 0 (map mono_tree bound) (ending count R t M) ≡ finish R (map mono_tree bound) t M
unfolding finish
whole_end count bound R t M as_many =
    let same : count ≡ length (map mono_tree bound) = sym as_many ∙ sym (length-map bound mono_tree) in
    ap (λ n. some_values 0 (map mono_tree bound) (ending n R t M)) same

-- ---- lists of monotypes

pub no_items : (bound : List Mono) → length bound ≡ 0 → bound ≡ []
no_items [] none = refl
no_items (t ∷ ts) none = absurd (omega (arith, none))
