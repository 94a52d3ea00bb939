-- Arguments that are put for the innermost variables of a formula keep sorts.
use Rattle.std.proofs.Common.{◌≡◌, ◌≢◌, ℕ, zero, suc, ◌+◌, List, [], ◌∷◌, length, refl, ap, subst, arith}
use Rattle.htt_syntax.specs.Trees.{TermTree, FormulaTree, ArgTree}
use Rattle.theory_renaming.specs.Renaming.{Map, lift, lifts}
use Rattle.theory_substitution.specs.Closing.{closing}
use Rattle.theory_logic_rules.specs.Sequents.{putting, raised_term, PutArgs, put_none, put_term_first, put_heap_first}
use Rattle.theory_logic_sorts.specs.Sorts.{Sort, Sorts, for_value, for_heap, HasSort, SortedTerm, SortedFormula, AreSortedArgs, sort_of_arg, under_args}
use Rattle.theory_logic_sorts.specs.Sorts.{KeepsSorts, ClosesSort}
use Rattle.theory_logic_sorts.proofs.Renamed.{keeps_next, keeps_suc, keeps_putting, term_sorted, formula_sorted}
use Rattle.theory_logic_sorts.proofs.Substituted.{closes_next, formula_put}
use Rattle.theory_logic_sorts.specs.Laws.{ArgumentsKeepSorts}

-- The second has so many entries more, in front.
pub data Above : ℕ → Sorts → Sorts → Type 0 where
  above_none : {g : Sorts} → Above zero g g
  above_more : {k : ℕ} {g h : Sorts} (s : Sort) → Above k g h → Above (suc k) g (s ∷ h)

one_more : {k : ℕ} {s : Sort} {g h : Sorts} → Above k (s ∷ g) h → Above (suc k) g h
one_more {s = s} above_none = above_more s above_none
one_more (above_more t a) = above_more t (one_more a)

pub above_args : (arguments : List ArgTree) (g : Sorts) → Above (length arguments) g (under_args arguments g)
above_args [] g = above_none
above_args (argument ∷ others) g = one_more (above_args others (sort_of_arg argument ∷ g))

pub raised_sorted : {k : ℕ} {g h : Sorts} → Above k g h → (M : TermTree) → SortedTerm g M → SortedTerm h (raised_term k M)
unfolding raised_term
raised_sorted above_none M d = d
raised_sorted (above_more {k = k} {h = h} s a) M d = term_sorted (keeps_suc s h) (raised_term k M) (raised_sorted a M d)

closes_args : (arguments : List ArgTree) (x : ℕ) (s : Sort) (g h : Sorts)
    → ClosesSort x s g h
    → ClosesSort (x + length arguments) s (under_args arguments g) (under_args arguments h)
closes_args [] x s g h c = let e : x ≡ x + 0 = omega arith in subst (λ n. ClosesSort n s g h) e c
closes_args (argument ∷ others) x s g h c =
    let t = sort_of_arg argument in
    let e : suc x + length others ≡ x + suc (length others) = omega arith in
    subst (λ n. ClosesSort n s (under_args others (t ∷ g)) (under_args others (t ∷ h))) e (closes_args others (suc x) s (t ∷ g) (t ∷ h) (closes_next t c))

pub closes_first : (s : Sort) (g : Sorts) → ClosesSort zero s (s ∷ g) g
unfolding closing
closes_first s g = record { here = refl; others = go }
  where
    go : (n : ℕ) (t : Sort) → n ≢ zero → HasSort (s ∷ g) n t → HasSort g (closing zero n) t
    go zero t e p = absurd (e refl)
    go (suc n) t e p = p

-- the outermost of the arguments' entries
pub closes_outermost : (arguments : List ArgTree) (s : Sort) (g : Sorts)
    → ClosesSort (length arguments) s (under_args arguments (s ∷ g)) (under_args arguments g)
closes_outermost arguments s g =
    let e : zero + length arguments ≡ length arguments = omega arith in
    subst (λ n. ClosesSort n s (under_args arguments (s ∷ g)) (under_args arguments g)) e
    (closes_args arguments zero s (s ∷ g) g (closes_first s g))

pub lifts_inside : (n : ℕ) (m : Map) → lifts n (lift m) ≡ lift (lifts n m)
unfolding lifts
lifts_inside zero m = refl
lifts_inside (suc n) m = ap lift (lifts_inside n m)

pub keeps_args : (arguments : List ArgTree) (m : Map) (g h : Sorts)
    → KeepsSorts m g h
    → KeepsSorts (lifts (length arguments) m) (under_args arguments g) (under_args arguments h)
unfolding lifts
keeps_args [] m g h k = k
keeps_args (argument ∷ others) m g h k =
    let t = sort_of_arg argument in
    subst (λ (r : Map). KeepsSorts r (under_args others (t ∷ g)) (under_args others (t ∷ h))) (lifts_inside (length others) m)
    (keeps_args others (lift m) (t ∷ g) (t ∷ h) (keeps_next t k))

args_sorted : {F R : FormulaTree} {arguments : List ArgTree} (g : Sorts)
    → PutArgs arguments F R
    → AreSortedArgs g arguments
    → SortedFormula (under_args arguments g) F
    → SortedFormula g R
args_sorted g put_none a d = d
args_sorted g (put_term_first {m = m} {others = others} p rest) a d =
    args_sorted g rest a.1 (formula_put refl (closes_outermost others for_value g) (raised_sorted (above_args others g) m a.0) p d)
args_sorted g (put_heap_first {h = h} {others = others} {F = F} rest) a d =
    args_sorted g rest a.1 (formula_sorted F (keeps_args others (putting h) (for_heap ∷ g) g (keeps_putting h g a.0)) d)

pub arguments_sorted : ArgumentsKeepSorts
arguments_sorted g arguments a F R p d = args_sorted g p a d
