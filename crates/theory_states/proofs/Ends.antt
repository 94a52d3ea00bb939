-- The end of a body or branch is in scope.
use Rattle.std.proofs.Common.{ℕ, zero, suc, ◌+◌, ◌≡◌, List, [], ◌∷◌, length, arith, refl, sym, subst, zero-add}
use Rattle.htt_syntax.specs.Trees.{MonoTree, TermTree, FormulaTree}
use Rattle.theory_renaming.specs.Renaming.{Map, lift, lifts}
use Rattle.theory_renaming.specs.Scoped.{ScopedMono, ScopedTerm, ScopedFormula, in_t_var, in_f_and, in_f_ex_t, in_f_eq}
use Rattle.theory_renaming.proofs.Scoping.{Sends, mono_scoped, term_scoped, formula_scoped}
use Rattle.theory_states.specs.States.{past, some_values, within, ending, finish}
use Rattle.theory_states.specs.Laws.{ScopedRow, under, EndsKeepScope}
use Rattle.theory_states.proofs.Keeping.{past_below}

past-sum : (j n : ℕ) → past j n ≡ j + n
unfolding past
past-sum zero n = sym (zero-add n)
past-sum (suc j) n = let e = past-sum j n in omega (arith, e)

under-past : (n : ℕ) (zs : List MonoTree) → under n zs ≡ past (length zs) n
unfolding past
under-past n [] = refl
under-past n (z ∷ zs) =
    let e = under-past (suc n) zs in
    let f = past-sum (length zs) (suc n) in
    let g = past-sum (length zs) n in
    omega (arith, e, f, g)

lifts_send : (j : ℕ) (m : Map) (n k : ℕ) → Sends m n k → Sends (lifts j m) (past j n) (past j k)
unfolding lift lifts past
lifts_send zero m n k h i l = h i l
lifts_send (suc j) m n k h zero l = omega arith
lifts_send (suc j) m n k h (suc i) l = let e = lifts_send j m n k h i (omega (arith, l)) in omega (arith, e)

some_scoped : (i n : ℕ) (zs : List MonoTree) (F : FormulaTree)
    → ScopedRow (past i n) zs
    → ScopedFormula (under (past i (past 3 n)) zs) F
    → ScopedFormula (past i (past 3 n)) (some_values i zs F)
unfolding past some_values
some_scoped i n [] F r h = h
some_scoped i n (z ∷ zs) F r h =
    in_f_ex_t (mono_scoped (lifts i (past 3)) (past i n) (past i (past 3 n)) (lifts_send i (past 3) n (past 3 n) (past_below 3 n)) r.0)
    (some_scoped (suc i) n zs F r.1 h)

within_sends : (j n : ℕ) → Sends (within j) (suc (suc (past j n))) (past j (past 3 n))
unfolding within past
within_sends j n zero l = let e = past-sum j (suc (suc (suc n))) in omega (arith, e)
within_sends j n (suc zero) l = let e = past-sum j (suc (suc (suc n))) in omega (arith, e)
within_sends j n (suc (suc i)) l = lifts_send j (past 3) n (past 3 n) (past_below 3 n) i (omega (arith, l))

far_sends : (j n : ℕ) → Sends (past (suc (suc (suc j)))) n (past j (past 3 n))
unfolding past
far_sends j n i l =
    let a = past-sum j i in
    let b = past-sum j (suc (suc (suc n))) in
    omega (arith, a, b, l)

ending_scoped : (j n : ℕ) (R : FormulaTree) (t : MonoTree) (M : TermTree)
    → ScopedFormula (suc (suc (past j n))) R
    → ScopedMono n t
    → ScopedTerm (past j n) M
    → ScopedFormula (past j (past 3 n)) (ending j R t M)
unfolding past ending
ending_scoped j n R t M h ht hm =
    let e = past-sum j (suc (suc (suc n))) in
    in_f_and (formula_scoped (within j) (suc (suc (past j n))) (past j (past 3 n)) (within_sends j n) h)
    (in_f_eq (mono_scoped (past (suc (suc (suc j)))) n (past j (past 3 n)) (far_sends j n) ht) (in_t_var (omega (arith, e)))
    (term_scoped (lifts j (past 3)) (past j n) (past j (past 3 n)) (lifts_send j (past 3) n (past 3 n) (past_below 3 n)) hm))

pub finish_scoped : EndsKeepScope
unfolding past finish
finish_scoped n R zs t M h r ht hm =
    let j = length zs in
    let e : under n zs ≡ past j n = under-past n zs in
    let h2 = subst (λ k. ScopedFormula (suc (suc k)) R) e h in
    let m2 = subst (λ k. ScopedTerm k M) e hm in
    let f : past j (past 3 n) ≡ under (past 3 n) zs = sym (under-past (past 3 n) zs) in
    some_scoped 0 n zs (ending j R t M) r (subst (λ k. ScopedFormula k (ending j R t M)) f (ending_scoped j n R t M h2 ht m2))
