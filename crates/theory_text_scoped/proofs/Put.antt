-- What is put for the variables of a tree keeps it sorted, where it is of the sorts of these variables.
use Rattle.std.specs.Prelude.{◌≡◌, ℕ, zero, suc, ◌+◌, Bool, true, false, List, [], ◌∷◌, Option, Some, None, option_map, option_and_then, slice_get}
use Rattle.std.proofs.Common.{refl, sym, subst, arith}
use Rattle.htt_syntax.specs.Trees.{MonoTree, TyTree, TripleTree, TermTree, FixTree, CompTree, StepTree, FormulaTree, TermTrees}
use Rattle.theory_renaming.specs.Renaming.{shifting, lifts}
use Rattle.htt_syntax_walk.specs.Walk.{walk_mono, walk_ty, walk_triple, walk_term, walk_fix, walk_comp, walk_step, walk_formula, walk_terms}
use Rattle.theory_text_names.specs.Scopes.{Sort, a_mono, a_term, the_mem}
use Rattle.theory_text_sugar.specs.Putting.{Put, put_mono, put_term, put_heap, from_outside, put_for, mono_for, term_for, heap_for, putting}
use Rattle.theory_text_scoped.specs.Sorted.{Sorts, HasSort, sort_here, sort_there, IsMono, IsTerm, IsHeap, may_be_mono, may_be_term, may_be_heap, SortedMono}
use Rattle.theory_text_scoped.specs.Sorted.{SortedOption, SortedTy, SortedTriple, SortedTerm, SortedFix, SortedComp, SortedStep, SortedFormula, SortedTerms}
use Rattle.theory_text_scoped.specs.Sorted.{sorted_m_word, sorted_m_bool, sorted_m_loc, sorted_m_unit, sorted_m_pair, sorted_m_var, sorted_none, sorted_some}
use Rattle.theory_text_scoped.specs.Sorted.{sorted_y_mono, sorted_y_fun, sorted_y_all, sorted_y_hoare, sorted_y_at, sorted_triple, sorted_t_var, sorted_t_val}
use Rattle.theory_text_scoped.specs.Sorted.{sorted_t_def, sorted_t_app, sorted_t_inst, sorted_t_lam, sorted_t_lam_t, sorted_t_do, sorted_t_fix, sorted_t_word}
use Rattle.theory_text_scoped.specs.Sorted.{sorted_t_bool, sorted_t_loc, sorted_t_unit, sorted_t_pair, sorted_t_fst, sorted_t_snd, sorted_t_not, sorted_t_bin}
use Rattle.theory_text_scoped.specs.Sorted.{sorted_t_eq, sorted_t_sel, sorted_t_ann, sorted_t_made, sorted_t_at, sorted_x_param, sorted_x_body, sorted_c_ret}
use Rattle.theory_text_scoped.specs.Sorted.{sorted_c_step, sorted_s_run, sorted_s_alloc, sorted_s_get, sorted_s_set, sorted_s_free, sorted_s_if, sorted_s_claim}
use Rattle.theory_text_scoped.specs.Sorted.{sorted_f_tt, sorted_f_ff, sorted_f_and, sorted_f_or, sorted_f_imp, sorted_f_all_t, sorted_f_ex_t, sorted_f_all_h}
use Rattle.theory_text_scoped.specs.Sorted.{sorted_f_ex_h, sorted_f_emp, sorted_f_cell, sorted_f_block, sorted_f_join, sorted_f_same, sorted_f_eq, sorted_f_at}
use Rattle.theory_text_scoped.specs.Sorted.{sorted_f_rec, sorted_no_terms, sorted_more_terms}
use Rattle.theory_text_scoped.proofs.Renamed.{Keeps, mono_renamed, term_renamed}

-- what is put, seen from the context g, for the variables of the context b
pub data AreFor (g : Sorts) : List Put → Sorts → Type 0 where
  for_none : AreFor g [] []
  for_mono : {t : MonoTree} {ps : List Put} {b : Sorts} → SortedMono g t → AreFor g ps b → AreFor g (put_mono t ∷ ps) (a_mono ∷ b)
  for_term : {m : TermTree} {ps : List Put} {b : Sorts} → SortedTerm g m → AreFor g ps b → AreFor g (put_term m ∷ ps) (a_term ∷ b)
  for_heap : {h : ℕ} {ps : List Put} {b : Sorts} → IsHeap g h → AreFor g ps b → AreFor g (put_heap h ∷ ps) (the_mem ∷ b)

-- the contexts from under so many binders
pub data Under (b g : Sorts) : ℕ → Sorts → Sorts → Type 0 where
  under_none : Under b g zero b g
  under_more : {d e : ℕ} {b' g' : Sorts} (s : Sort) → e ≡ suc d → Under b g d b' g' → Under b g e (s ∷ b') (s ∷ g')

-- a variable is bound by one of the binders, or else it is one of the context b
pub data Is (may_be : Sort → Bool) (b : Sorts) (g' : Sorts) (d n : ℕ) : Type 0 where
  is_bound : from_outside d n ≡ None → HasSort may_be g' n → Is may_be b g' d n
  is_free : (j : ℕ) → from_outside d n ≡ Some j → HasSort may_be b j → Is may_be b g' d n

past_one : {may_be : Sort → Bool} {b g' : Sorts} {d n : ℕ} (s : Sort) → Is may_be b g' d n → Is may_be b (s ∷ g') (suc d) (suc n)
unfolding from_outside
past_one s (is_bound e x) = is_bound e (sort_there x)
past_one s (is_free j e x) = is_free j e x

pub is_variable : {may_be : Sort → Bool} {b g : Sorts} {d : ℕ} {b' g' : Sorts} → Under b g d b' g' → (n : ℕ) → HasSort may_be b' n → Is may_be b g' d n
unfolding from_outside
is_variable under_none n x = is_free n refl x
is_variable {may_be} {b} (under_more {e = e} {g' = g'} s eq u) zero (sort_here t) =
    subst (λ k. Is may_be b (s ∷ g') k zero) (sym eq) (is_bound refl (sort_here t))
is_variable {may_be} {b} (under_more {e = e} {g' = g'} s eq u) (suc n) (sort_there x) =
    subst (λ k. Is may_be b (s ∷ g') k (suc n)) (sym eq) (past_one s (is_variable u n x))

pub shift_keeps : {b g : Sorts} {d : ℕ} {b' g' : Sorts} → Under b g d b' g' → Keeps (shifting 0 d) g g'
unfolding lifts
shift_keeps {g = g} under_none may_be i x = let e : i + 0 ≡ i = omega arith in subst (λ k. HasSort may_be g k) (sym e) x
shift_keeps (under_more {d = d} {e = e} {g' = g'} s eq u) may_be i x =
    let moved : i + e ≡ suc (i + d) = omega (arith, eq) in
    subst (λ k. HasSort may_be (s ∷ g') k) (sym moved) (sort_there (shift_keeps u may_be i x))

not_true : {A : Type 0} → false ≡ true → A
not_true e = absurd (cc e)

pub mono_put : {g : Sorts} {ps : List Put} {b : Sorts}
    → AreFor g ps b
    → (j : ℕ)
    → IsMono b j
    → (t : MonoTree) × (slice_get ps j ≡ Some (put_mono t)) × SortedMono g t
mono_put for_none j x = elim x [ ]
mono_put (for_mono {t = t} h r) zero (sort_here e) = (t, refl, h)
mono_put (for_term h r) zero (sort_here e) = not_true e
mono_put (for_heap h r) zero (sort_here e) = not_true e
mono_put (for_mono h r) (suc j) (sort_there x) = mono_put r j x
mono_put (for_term h r) (suc j) (sort_there x) = mono_put r j x
mono_put (for_heap h r) (suc j) (sort_there x) = mono_put r j x

pub term_put : {g : Sorts} {ps : List Put} {b : Sorts}
    → AreFor g ps b
    → (j : ℕ)
    → IsTerm b j
    → (m : TermTree) × (slice_get ps j ≡ Some (put_term m)) × SortedTerm g m
term_put for_none j x = elim x [ ]
term_put (for_mono h r) zero (sort_here e) = not_true e
term_put (for_term {m = m} h r) zero (sort_here e) = (m, refl, h)
term_put (for_heap h r) zero (sort_here e) = not_true e
term_put (for_mono h r) (suc j) (sort_there x) = term_put r j x
term_put (for_term h r) (suc j) (sort_there x) = term_put r j x
term_put (for_heap h r) (suc j) (sort_there x) = term_put r j x

pub heap_put : {g : Sorts} {ps : List Put} {b : Sorts} → AreFor g ps b → (j : ℕ) → IsHeap b j → (h : ℕ) × (slice_get ps j ≡ Some (put_heap h)) × IsHeap g h
heap_put for_none j x = elim x [ ]
heap_put (for_mono h r) zero (sort_here e) = not_true e
heap_put (for_term h r) zero (sort_here e) = not_true e
heap_put (for_heap {h = k} h r) zero (sort_here e) = (k, refl, h)
heap_put (for_mono h r) (suc j) (sort_there x) = heap_put r j x
heap_put (for_term h r) (suc j) (sort_there x) = heap_put r j x
heap_put (for_heap h r) (suc j) (sort_there x) = heap_put r j x

-- what stands for a variable of each sort
mono_there : {b g : Sorts} {ps : List Put} {d : ℕ} {b' g' : Sorts}
    → AreFor g ps b
    → Under b g d b' g'
    → (n : ℕ)
    → Is may_be_mono b g' d n
    → SortedMono g' (mono_for d n (put_for ps d n))
mono_there {ps = ps} {d = d} {g' = g'} a u n (is_bound e x) =
    subst (λ o. SortedMono g' (mono_for d n (option_and_then (slice_get ps) o))) (sym e) (sorted_m_var x)
mono_there {ps = ps} {d = d} {g' = g'} a u n (is_free j e x) =
    let (t, f, h) = mono_put a j x in
    subst (λ o. SortedMono g' (mono_for d n (option_and_then (slice_get ps) o))) (sym e)
    (subst (λ o. SortedMono g' (mono_for d n o)) (sym f) (mono_renamed (shift_keeps u) h))

term_there : {b g : Sorts} {ps : List Put} {d : ℕ} {b' g' : Sorts}
    → AreFor g ps b
    → Under b g d b' g'
    → (n : ℕ)
    → Is may_be_term b g' d n
    → SortedTerm g' (term_for d n (put_for ps d n))
term_there {ps = ps} {d = d} {g' = g'} a u n (is_bound e x) =
    subst (λ o. SortedTerm g' (term_for d n (option_and_then (slice_get ps) o))) (sym e) (sorted_t_var x)
term_there {ps = ps} {d = d} {g' = g'} a u n (is_free j e x) =
    let (t, f, h) = term_put a j x in
    subst (λ o. SortedTerm g' (term_for d n (option_and_then (slice_get ps) o))) (sym e)
    (subst (λ o. SortedTerm g' (term_for d n o)) (sym f) (term_renamed (shift_keeps u) h))

heap_there : {b g : Sorts} {ps : List Put} {d : ℕ} {b' g' : Sorts}
    → AreFor g ps b
    → Under b g d b' g'
    → (n : ℕ)
    → Is may_be_heap b g' d n
    → IsHeap g' (heap_for d n (put_for ps d n))
heap_there {ps = ps} {d = d} {g' = g'} a u n (is_bound e x) = subst (λ o. IsHeap g' (heap_for d n (option_and_then (slice_get ps) o))) (sym e) x
heap_there {ps = ps} {d = d} {g' = g'} a u n (is_free j e x) =
    let (t, f, h) = heap_put a j x in
    subst (λ o. IsHeap g' (heap_for d n (option_and_then (slice_get ps) o))) (sym e)
    (subst (λ o. IsHeap g' (heap_for d n o)) (sym f) (shift_keeps u _ _ h))

one_more : (d : ℕ) → d + 1 ≡ suc d
one_more d = omega arith

two_more : (d : ℕ) → d + 2 ≡ suc (suc d)
two_more d = omega arith

three_more : (d : ℕ) → d + 3 ≡ suc (suc (suc d))
three_more d = omega arith

pub mono_put_into : {b g : Sorts} {ps : List Put} {d : ℕ} {b' g' : Sorts}
    → AreFor g ps b
    → Under b g d b' g'
    → {t : MonoTree}
    → SortedMono b' t
    → SortedMono g' (walk_mono (putting ps) d t)
unfolding walk_mono
mono_put_into a u sorted_m_word = sorted_m_word
mono_put_into a u sorted_m_bool = sorted_m_bool
mono_put_into a u sorted_m_loc = sorted_m_loc
mono_put_into a u sorted_m_unit = sorted_m_unit
mono_put_into a u (sorted_m_pair d0 d1) = sorted_m_pair (mono_put_into a u d0) (mono_put_into a u d1)
mono_put_into a u (sorted_m_var d0) = mono_there a u _ (is_variable u _ d0)

pub option_put_into : {b g : Sorts} {ps : List Put} {d : ℕ} {b' g' : Sorts}
    → AreFor g ps b
    → Under b g d b' g'
    → {t : Option MonoTree}
    → SortedOption b' t
    → SortedOption g' (option_map (walk_mono (putting ps) d) t)
option_put_into a u sorted_none = sorted_none
option_put_into a u (sorted_some d0) = sorted_some (mono_put_into a u d0)

mutual
  unfolding walk_term

  pub ty_put_into : {b g : Sorts} {ps : List Put} {d : ℕ} {b' g' : Sorts}
      → AreFor g ps b
      → Under b g d b' g'
      → {t : TyTree}
      → SortedTy b' t
      → SortedTy g' (walk_ty (putting ps) d t)
  ty_put_into a u (sorted_y_mono d0) = sorted_y_mono (mono_put_into a u d0)
  ty_put_into a u (sorted_y_fun d0 d1) = sorted_y_fun (ty_put_into a u d0) (ty_put_into a (under_more _ (one_more _) u) d1)
  ty_put_into a u (sorted_y_all d0) = sorted_y_all (ty_put_into a (under_more _ (one_more _) u) d0)
  ty_put_into a u (sorted_y_hoare d0) = sorted_y_hoare (triple_put_into a u d0)
  ty_put_into a u (sorted_y_at d0) = sorted_y_at (ty_put_into a u d0)

  pub triple_put_into : {b g : Sorts} {ps : List Put} {d : ℕ} {b' g' : Sorts}
      → AreFor g ps b
      → Under b g d b' g'
      → {t : TripleTree}
      → SortedTriple b' t
      → SortedTriple g' (walk_triple (putting ps) d t)
  triple_put_into a u (sorted_triple d0 d1 d2) =
      sorted_triple (formula_put_into a (under_more _ (one_more _) u) d0) (mono_put_into a u d1)
      (formula_put_into a (under_more _ (three_more _) (under_more _ refl (under_more _ refl u))) d2)

  pub term_put_into : {b g : Sorts} {ps : List Put} {d : ℕ} {b' g' : Sorts}
      → AreFor g ps b
      → Under b g d b' g'
      → {t : TermTree}
      → SortedTerm b' t
      → SortedTerm g' (walk_term (putting ps) d t)
  term_put_into a u (sorted_t_var d0) = term_there a u _ (is_variable u _ d0)
  term_put_into a u sorted_t_val = sorted_t_val
  term_put_into a u sorted_t_def = sorted_t_def
  term_put_into a u (sorted_t_app d0 d1) = sorted_t_app (term_put_into a u d0) (term_put_into a u d1)
  term_put_into a u (sorted_t_inst d0 d1) = sorted_t_inst (term_put_into a u d0) (mono_put_into a u d1)
  term_put_into a u (sorted_t_lam d0) = sorted_t_lam (term_put_into a (under_more _ (one_more _) u) d0)
  term_put_into a u (sorted_t_lam_t d0) = sorted_t_lam_t (term_put_into a (under_more _ (one_more _) u) d0)
  term_put_into a u (sorted_t_do d0) = sorted_t_do (comp_put_into a u d0)
  term_put_into a u (sorted_t_fix d0) = sorted_t_fix (fix_put_into a u d0)
  term_put_into a u sorted_t_word = sorted_t_word
  term_put_into a u sorted_t_bool = sorted_t_bool
  term_put_into a u sorted_t_loc = sorted_t_loc
  term_put_into a u sorted_t_unit = sorted_t_unit
  term_put_into a u (sorted_t_pair d0 d1) = sorted_t_pair (term_put_into a u d0) (term_put_into a u d1)
  term_put_into a u (sorted_t_fst d0) = sorted_t_fst (term_put_into a u d0)
  term_put_into a u (sorted_t_snd d0) = sorted_t_snd (term_put_into a u d0)
  term_put_into a u (sorted_t_not d0) = sorted_t_not (term_put_into a u d0)
  term_put_into a u (sorted_t_bin d0 d1) = sorted_t_bin (term_put_into a u d0) (term_put_into a u d1)
  term_put_into a u (sorted_t_eq d0 d1 d2) = sorted_t_eq (mono_put_into a u d0) (term_put_into a u d1) (term_put_into a u d2)
  term_put_into a u (sorted_t_sel d0 d1 d2 d3) = sorted_t_sel (mono_put_into a u d0) (term_put_into a u d1) (term_put_into a u d2) (term_put_into a u d3)
  term_put_into a u (sorted_t_ann d0 d1) = sorted_t_ann (term_put_into a u d0) (ty_put_into a u d1)
  term_put_into a u (sorted_t_made d0) = sorted_t_made (terms_put_into a u d0)
  term_put_into a u (sorted_t_at d0) = sorted_t_at (term_put_into a u d0)

  pub fix_put_into : {b g : Sorts} {ps : List Put} {d : ℕ} {b' g' : Sorts}
      → AreFor g ps b
      → Under b g d b' g'
      → {t : FixTree}
      → SortedFix b' t
      → SortedFix g' (walk_fix (putting ps) d t)
  fix_put_into a u (sorted_x_param d0 d1) = sorted_x_param (ty_put_into a u d0) (fix_put_into a (under_more _ (one_more _) u) d1)
  fix_put_into a u (sorted_x_body d0 d1) = sorted_x_body (triple_put_into a u d0) (comp_put_into a (under_more _ (one_more _) u) d1)

  pub comp_put_into : {b g : Sorts} {ps : List Put} {d : ℕ} {b' g' : Sorts}
      → AreFor g ps b
      → Under b g d b' g'
      → {t : CompTree}
      → SortedComp b' t
      → SortedComp g' (walk_comp (putting ps) d t)
  comp_put_into a u (sorted_c_ret d0) = sorted_c_ret (term_put_into a u d0)
  comp_put_into a u (sorted_c_step d0 d1) = sorted_c_step (step_put_into a u d0) (comp_put_into a (under_more _ (one_more _) u) d1)

  pub step_put_into : {b g : Sorts} {ps : List Put} {d : ℕ} {b' g' : Sorts}
      → AreFor g ps b
      → Under b g d b' g'
      → {t : StepTree}
      → SortedStep b' t
      → SortedStep g' (walk_step (putting ps) d t)
  step_put_into a u (sorted_s_run d0 d1) = sorted_s_run (term_put_into a u d0) (option_put_into a u d1)
  step_put_into a u (sorted_s_alloc d0 d1) = sorted_s_alloc (mono_put_into a u d0) (term_put_into a u d1)
  step_put_into a u (sorted_s_get d0 d1) = sorted_s_get (mono_put_into a u d0) (term_put_into a u d1)
  step_put_into a u (sorted_s_set d0 d1 d2) = sorted_s_set (mono_put_into a u d0) (term_put_into a u d1) (term_put_into a u d2)
  step_put_into a u (sorted_s_free d0 d1) = sorted_s_free (mono_put_into a u d0) (term_put_into a u d1)
  step_put_into a u (sorted_s_if d0 d1 d2 d3) = sorted_s_if (mono_put_into a u d0) (term_put_into a u d1) (comp_put_into a u d2) (comp_put_into a u d3)
  step_put_into a u (sorted_s_claim d0) = sorted_s_claim (formula_put_into a (under_more _ (two_more _) (under_more _ refl u)) d0)

  pub formula_put_into : {b g : Sorts} {ps : List Put} {d : ℕ} {b' g' : Sorts}
      → AreFor g ps b
      → Under b g d b' g'
      → {t : FormulaTree}
      → SortedFormula b' t
      → SortedFormula g' (walk_formula (putting ps) d t)
  formula_put_into a u sorted_f_tt = sorted_f_tt
  formula_put_into a u sorted_f_ff = sorted_f_ff
  formula_put_into a u (sorted_f_and d0 d1) = sorted_f_and (formula_put_into a u d0) (formula_put_into a u d1)
  formula_put_into a u (sorted_f_or d0 d1) = sorted_f_or (formula_put_into a u d0) (formula_put_into a u d1)
  formula_put_into a u (sorted_f_imp d0 d1) = sorted_f_imp (formula_put_into a u d0) (formula_put_into a u d1)
  formula_put_into a u (sorted_f_all_t d0 d1) = sorted_f_all_t (mono_put_into a u d0) (formula_put_into a (under_more _ (one_more _) u) d1)
  formula_put_into a u (sorted_f_ex_t d0 d1) = sorted_f_ex_t (mono_put_into a u d0) (formula_put_into a (under_more _ (one_more _) u) d1)
  formula_put_into a u (sorted_f_all_h d0) = sorted_f_all_h (formula_put_into a (under_more _ (one_more _) u) d0)
  formula_put_into a u (sorted_f_ex_h d0) = sorted_f_ex_h (formula_put_into a (under_more _ (one_more _) u) d0)
  formula_put_into a u (sorted_f_emp d0) = sorted_f_emp (heap_there a u _ (is_variable u _ d0))
  formula_put_into a u (sorted_f_cell d0 d1 d2 d3) =
      sorted_f_cell (mono_put_into a u d0) (heap_there a u _ (is_variable u _ d1)) (term_put_into a u d2) (term_put_into a u d3)
  formula_put_into a u (sorted_f_block d0 d1 d2) = sorted_f_block (mono_put_into a u d0) (heap_there a u _ (is_variable u _ d1)) (term_put_into a u d2)
  formula_put_into a u (sorted_f_join d0 d1 d2) =
      sorted_f_join (heap_there a u _ (is_variable u _ d0)) (heap_there a u _ (is_variable u _ d1)) (heap_there a u _ (is_variable u _ d2))
  formula_put_into a u (sorted_f_same d0 d1) = sorted_f_same (heap_there a u _ (is_variable u _ d0)) (heap_there a u _ (is_variable u _ d1))
  formula_put_into a u (sorted_f_eq d0 d1 d2) = sorted_f_eq (mono_put_into a u d0) (term_put_into a u d1) (term_put_into a u d2)
  formula_put_into a u (sorted_f_at d0) = sorted_f_at (formula_put_into a u d0)
  formula_put_into a u (sorted_f_rec d0 d1 d2) = sorted_f_rec (heap_there a u _ (is_variable u _ d0)) (term_put_into a u d1) (terms_put_into a u d2)

  pub terms_put_into : {b g : Sorts} {ps : List Put} {d : ℕ} {b' g' : Sorts}
      → AreFor g ps b
      → Under b g d b' g'
      → {t : TermTrees}
      → SortedTerms b' t
      → SortedTerms g' (walk_terms (putting ps) d t)
  terms_put_into a u sorted_no_terms = sorted_no_terms
  terms_put_into a u (sorted_more_terms d0 d1) = sorted_more_terms (term_put_into a u d0) (terms_put_into a u d1)
