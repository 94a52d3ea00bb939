-- States are canonical where their parts are: where each renaming of a state sends its variables.
use Rattle.std.proofs.Common.{ℕ, zero, suc, ◌≡◌, refl, List, [], ◌∷◌, length, Bool, ap, subst, sym}
use Rattle.htt_syntax.specs.Trees.{MonoTree, TermTree, FormulaTree, triple, t_var}
use Rattle.theory_renaming.specs.Renaming.{Map, lifts}
use Rattle.theory_states.specs.States.{past, at_heaps, at_heap, at_result, Move, move_alloc, move_get, move_set, move_free, move_run, move_claim, start}
use Rattle.theory_states.specs.States.{owes_block, owed, after, branch, some_values, within, ending, finish, merge, last}
use Rattle.theory_canonical.specs.Skeletons.{sk_o}
use Rattle.theory_canonical.specs.Contexts.{Standing, as_heap, as_term, Stands, here, there, Heads, KeepsStandings}
use Rattle.theory_canonical.specs.Canonical.{IsCanonicalMono, IsCanonical, IsCanonicalFormula, n_bool, n_neutral, e_var, n_triple, n_and, n_or, n_imp, n_ex_t}
use Rattle.theory_canonical.specs.Canonical.{n_all_h, n_ex_h, n_cell, n_block, n_join, n_same, n_equal, n_m_bool}
use Rattle.theory_canonical.proofs.Renamed.{keeps_lift, mono_renamed, term_renamed, formula_renamed}
use Rattle.theory_typing_canonical.specs.Environments.{at_state, with_values, IsCanonicalRow}
use Rattle.theory_typing_canonical.specs.Laws.{IsCanonicalMove, IsCanonicalOwed}

heaps_kept : (k : ℕ) {m i : ℕ} {g h : List Standing}
    → Stands h m as_heap
    → Stands h i as_heap
    → KeepsStandings (past k) g h
    → KeepsStandings (at_heaps m i k) (at_state g) h
unfolding at_heaps
heaps_kept k {m = m} {i = i} {g = g} {h = h} a b p = record { at = at }
  where
    at : (n : ℕ) (entry : Standing) → Stands (at_state g) n entry → Stands h (at_heaps m i k n) entry
    at zero entry here = a
    at (suc zero) entry (there here) = b
    at (suc (suc n)) entry (there (there d)) = p.at n entry d

heap_kept : (k : ℕ) {m : ℕ} {g h : List Standing} → Stands h m as_heap → KeepsStandings (past k) g h → KeepsStandings (at_heap m k) (as_heap ∷ g) h
unfolding at_heap
heap_kept k {m = m} {g = g} {h = h} a p = record { at = at }
  where
    at : (n : ℕ) (entry : Standing) → Stands (as_heap ∷ g) n entry → Stands h (at_heap m k n) entry
    at zero entry here = a
    at (suc n) entry (there d) = p.at n entry d

result_kept : (k : ℕ) {b a v : ℕ} {g h : List Standing}
    → Stands h b as_heap
    → Stands h a as_heap
    → Stands h v (as_term sk_o)
    → KeepsStandings (past k) g h
    → KeepsStandings (at_result b a v k) (at_state (as_term sk_o ∷ g)) h
unfolding at_result
result_kept k {b = b} {a = a} {v = v} {g = g} {h = h} q r s p = record { at = at }
  where
    at : (n : ℕ) (entry : Standing) → Stands (at_state (as_term sk_o ∷ g)) n entry → Stands h (at_result b a v k n) entry
    at zero entry here = r
    at (suc zero) entry (there here) = q
    at (suc (suc zero)) entry (there (there here)) = s
    at (suc (suc (suc n))) entry (there (there (there d))) = p.at n entry d

-- a context with these entries more
abbrev upon : List Standing → List Standing → List Standing
upon [] g = g
upon (entry ∷ entries) g = entry ∷ upon entries g

past_kept : (entries g : List Standing) → KeepsStandings (past (length entries)) g (upon entries g)
unfolding past
past_kept [] g = record { at = λ n entry d. d }
past_kept (first ∷ entries) g = record { at = λ n entry d. there ((past_kept entries g).at n entry d) }

-- so many heaps, and then the step's variable
abbrev heaps : ℕ → List Standing → List Standing
heaps zero g = g
heaps (suc n) g = as_heap ∷ heaps n g

abbrev value : Standing
value = as_term sk_o

stands_1 : {a b : Standing} {g : List Standing} → Stands (a ∷ b ∷ g) 1 b
stands_1 = there here

stands_2 : {a b c : Standing} {g : List Standing} → Stands (a ∷ b ∷ c ∷ g) 2 c
stands_2 = there stands_1

stands_3 : {a b c d : Standing} {g : List Standing} → Stands (a ∷ b ∷ c ∷ d ∷ g) 3 d
stands_3 = there stands_2

stands_4 : {a b c d e : Standing} {g : List Standing} → Stands (a ∷ b ∷ c ∷ d ∷ e ∷ g) 4 e
stands_4 = there stands_3

stands_5 : {a b c d e f : Standing} {g : List Standing} → Stands (a ∷ b ∷ c ∷ d ∷ e ∷ f ∷ g) 5 f
stands_5 = there stands_4

stands_6 : {a b c d e f i : Standing} {g : List Standing} → Stands (a ∷ b ∷ c ∷ d ∷ e ∷ f ∷ i ∷ g) 6 i
stands_6 = there stands_5

variable_at : {heads : Heads} {g : List Standing} {n : ℕ} → Stands g n value → IsCanonical heads g (t_var n) sk_o
variable_at d = n_neutral (e_var d)

past_result : (g : List Standing) → KeepsStandings (past 3) g (heaps 2 (value ∷ g))
past_result g = past_kept (heaps 2 (value ∷ [])) g

module _ {heads : Heads} (g : List Standing) where
  pub start_kept : {P : FormulaTree} → IsCanonicalFormula heads (as_heap ∷ g) P → IsCanonicalFormula heads (at_state g) (start P)
  unfolding start
  start_kept d = n_and (formula_renamed d (heap_kept 2 stands_1 (past_kept (heaps 2 []) g))) (n_same here stands_1)

  block_kept : {R : FormulaTree} {t : MonoTree} {M : TermTree}
      → IsCanonicalMono g t
      → IsCanonical heads g M sk_o
      → IsCanonicalFormula heads (at_state g) R
      → IsCanonicalFormula heads (at_state g) (owes_block R t M)
  unfolding owes_block
  block_kept t m r =
      let p = past_kept (heaps 4 []) g in
      n_imp r (n_ex_h (n_ex_h (n_and (n_block (mono_renamed t p) stands_1 (term_renamed m p)) (n_join stands_2 stands_1 here))))

  pub owed_kept : (step : Move) {R : FormulaTree}
      → IsCanonicalMove heads g step
      → IsCanonicalFormula heads (at_state g) R
      → IsCanonicalOwed heads (at_state g) (owed step R)
  unfolding owed
  owed_kept (move_alloc t N) s r = tt
  owed_kept (move_get t M) s r =
      let p = past_kept (heaps 2 (value ∷ heaps 2 [])) g in
      n_imp r (n_ex_t (mono_renamed s.0 (past_kept (heaps 2 []) g))
      (n_ex_h
      (n_ex_h (n_and (n_cell (mono_renamed s.0 p) stands_1 (term_renamed s.1 p) (variable_at stands_2)) (n_join stands_3 stands_1 here)))))
  owed_kept (move_set t M N) s r = block_kept s.0 s.1 r
  owed_kept (move_free t M) s r = block_kept s.0 s.1 r
  owed_kept (move_run (triple P z Q)) (n_triple p t q) r =
      n_imp r
      (n_ex_h (n_ex_h (n_and (n_join stands_2 stands_1 here) (formula_renamed p (heap_kept 4 stands_1 (past_kept (heaps 4 []) g))))))
  owed_kept (move_claim F) s r = n_imp r s

  pub after_kept : (step : Move) {R : FormulaTree}
      → IsCanonicalMove heads g step
      → IsCanonicalFormula heads (at_state g) R
      → IsCanonicalFormula heads (at_state (value ∷ g)) (after step R)
  unfolding after
  after_kept (move_alloc t N) s r =
      let p = past_kept (heaps 4 (value ∷ [])) g in
      n_ex_h (n_and (formula_renamed r (heaps_kept 4 here stands_2 (past_kept (heaps 3 (value ∷ [])) g)))
      (n_ex_h (n_and (n_cell (mono_renamed s.0 p) here (variable_at stands_4) (term_renamed s.1 p)) (n_join stands_2 stands_1 here))))
  after_kept (move_get t M) s r =
      let p = past_kept (heaps 4 (value ∷ [])) g in
      n_and (formula_renamed r (heaps_kept 3 here stands_1 (past_result g)))
      (n_ex_h (n_ex_h (n_and (n_cell (mono_renamed s.0 p) stands_1 (term_renamed s.1 p) (variable_at stands_4)) (n_join stands_2 stands_1 here))))
  after_kept (move_set t M N) s r =
      let p = past_kept (heaps 6 (value ∷ [])) g in
      n_ex_h (n_ex_h (n_ex_h (n_ex_h (n_and (formula_renamed r (heaps_kept 7 stands_3 stands_5 p))
      (n_and (n_block (mono_renamed s.0 p) stands_2 (term_renamed s.1 p)) (n_and (n_join stands_3 stands_2 here)
      (n_and (n_cell (mono_renamed s.0 p) stands_1 (term_renamed s.1 p) (term_renamed s.2 p)) (n_join stands_4 stands_1 here))))))))
  after_kept (move_free t M) s r =
      let p = past_kept (heaps 4 (value ∷ [])) g in
      n_ex_h (n_ex_h (n_and (formula_renamed r (heaps_kept 5 stands_1 stands_3 p))
      (n_and (n_block (mono_renamed s.0 p) here (term_renamed s.1 p)) (n_join stands_1 here stands_2))))
  after_kept (move_run (triple P z Q)) (n_triple p t q) r =
      n_ex_h (n_and (formula_renamed r (heaps_kept 4 here stands_2 (past_kept (heaps 3 (value ∷ [])) g)))
      (n_all_h (n_all_h (n_imp (n_and (n_join stands_2 stands_1 here) (formula_renamed p (heap_kept 6 stands_1 (past_kept (heaps 5 (value ∷ [])) g))))
      (n_ex_h (n_and (n_join stands_4 here stands_1) (formula_renamed q (result_kept 7 stands_2 here stands_6 (past_kept (heaps 6 (value ∷ [])) g)))))))))
  after_kept (move_claim F) s r = formula_renamed s (heaps_kept 3 here stands_1 (past_result g))

  pub branch_kept : (side : Bool) {R : FormulaTree} {M : TermTree}
      → IsCanonicalFormula heads (at_state g) R
      → IsCanonical heads g M sk_o
      → IsCanonicalFormula heads (at_state g) (branch R M side)
  unfolding branch
  branch_kept side r m = n_and r (n_equal n_m_bool (term_renamed m (past_kept (heaps 2 []) g)) n_bool)

  pub merge_kept : {F G : FormulaTree} → IsCanonicalFormula heads g F → IsCanonicalFormula heads g G → IsCanonicalFormula heads g (merge F G)
  unfolding merge
  merge_kept d e = n_or d e

  pub last_kept : {F G : FormulaTree} → IsCanonicalFormula heads g F → IsCanonicalFormula heads g G → IsCanonicalFormula heads g (last F G)
  unfolding last
  last_kept d e = n_imp d e

-- the end of a body: the variables of its steps go under quantifiers, behind its result
stands_at : (a : Standing) (g : List Standing) (j : ℕ) → Stands (with_values j (a ∷ g)) j a
unfolding with_values
stands_at a g zero = here
stands_at a g (suc j) = there (stands_at a g j)

stands_next : (a b : Standing) (g : List Standing) (j : ℕ) → Stands (with_values j (a ∷ b ∷ g)) (suc j) b
unfolding with_values
stands_next a b g zero = stands_1
stands_next a b g (suc j) = there (stands_next a b g j)

stands_third : (a b c : Standing) (g : List Standing) (j : ℕ) → Stands (with_values j (a ∷ b ∷ c ∷ g)) (suc (suc j)) c
unfolding with_values
stands_third a b c g zero = stands_2
stands_third a b c g (suc j) = there (stands_third a b c g j)

lifts_kept : {m : Map} {g h : List Standing} (j : ℕ) → KeepsStandings m g h → KeepsStandings (lifts j m) (with_values j g) (with_values j h)
unfolding with_values lifts
lifts_kept zero p = p
lifts_kept (suc j) p = keeps_lift value (lifts_kept j p)

value_inside : (j : ℕ) (g : List Standing) → with_values j (value ∷ g) ≡ value ∷ with_values j g
unfolding with_values
value_inside zero g = refl
value_inside (suc j) g = ap (λ (h : List Standing). value ∷ h) (value_inside j g)

far_stands : {g : List Standing} {n : ℕ} {entry : Standing} (j : ℕ)
    → Stands g n entry
    → Stands (with_values j (heaps 2 (value ∷ g))) (past (suc (suc (suc j))) n) entry
unfolding with_values past
far_stands zero d = there (there (there d))
far_stands (suc j) d = there (far_stands j d)

within_kept : (g : List Standing) (j : ℕ) → KeepsStandings (within j) (at_state (with_values j g)) (with_values j (heaps 2 (value ∷ g)))
unfolding within
within_kept g j = record { at = at }
  where
    at : (n : ℕ) (entry : Standing) → Stands (at_state (with_values j g)) n entry → Stands (with_values j (heaps 2 (value ∷ g))) (within j n) entry
    at zero entry here = stands_at as_heap (heaps 1 (value ∷ g)) j
    at (suc zero) entry (there here) = stands_next as_heap as_heap (value ∷ g) j
    at (suc (suc n)) entry (there (there d)) = (lifts_kept j (past_result g)).at n entry d

module _ {heads : Heads} (g : List Standing) where
  ending_kept : (j : ℕ) {R : FormulaTree} {t : MonoTree} {M : TermTree}
      → IsCanonicalFormula heads (at_state (with_values j g)) R
      → IsCanonicalMono g t
      → IsCanonical heads (with_values j g) M sk_o
      → IsCanonicalFormula heads (with_values j (heaps 2 (value ∷ g))) (ending j R t M)
  unfolding ending
  ending_kept j r t m =
      n_and (formula_renamed r (within_kept g j))
      (n_equal (mono_renamed t (record { at = λ n entry d. far_stands j d })) (variable_at (stands_third as_heap as_heap value g j))
      (term_renamed m (lifts_kept j (past_result g))))

  some_kept : (i : ℕ) (zs : List MonoTree) {F : FormulaTree}
      → IsCanonicalRow i g zs
      → IsCanonicalFormula heads (with_values (length zs) (with_values i (heaps 2 (value ∷ g)))) F
      → IsCanonicalFormula heads (with_values i (heaps 2 (value ∷ g))) (some_values i zs F)
  unfolding with_values some_values IsCanonicalRow
  some_kept i [] r d = d
  some_kept i (z ∷ zs) {F = F} r d =
      n_ex_t (mono_renamed r.0 (lifts_kept i (past_result g)))
      (some_kept (suc i) zs r.1
      (subst (λ (h : List Standing). IsCanonicalFormula heads h F) (sym (value_inside (length zs) (with_values i (heaps 2 (value ∷ g)))))
      d))

  pub finish_kept : (zs : List MonoTree) {R : FormulaTree} {t : MonoTree} {M : TermTree}
      → IsCanonicalFormula heads (at_state (with_values (length zs) g)) R
      → IsCanonicalRow zero g zs
      → IsCanonicalMono g t
      → IsCanonical heads (with_values (length zs) g) M sk_o
      → IsCanonicalFormula heads (at_state (value ∷ g)) (finish R zs t M)
  unfolding with_values finish
  finish_kept zs r row t m = some_kept zero zs row (ending_kept (length zs) r t m)
