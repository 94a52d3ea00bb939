-- Renaming keeps sorts.
use Rattle.std.proofs.Common.{ℕ, zero, suc, ◌∷◌, ◌∙◌}
use Rattle.htt_syntax.specs.Trees.{MonoTree, TermTree, TermTrees, FormulaTree, m_pair, m_var, t_var, t_pair, t_fst, t_snd, t_not, t_bin, t_eq, t_sel, t_at}
use Rattle.htt_syntax.specs.Trees.{no_terms, more_terms, f_tt, f_ff, f_and, f_or, f_imp, f_all_t, f_ex_t, f_all_h, f_ex_h, f_emp, f_cell, f_block, f_join}
use Rattle.htt_syntax.specs.Trees.{f_same, f_eq, f_at, f_rec}
use Rattle.theory_renaming.specs.Renaming.{Map, lift, rename_mono, rename_term, rename_terms, rename_formula}
use Rattle.theory_logic_rules.specs.Sequents.{putting, put_heap}
use Rattle.theory_logic_sorts.specs.Sorts.{Sort, Sorts, for_mono, for_value, for_heap, HasSort, SortedMono, SortedTerm, SortedTerms, SortedFormula, KeepsSorts}
use Rattle.theory_logic_sorts.specs.Laws.{RenamingKeepsSorts}

pub keeps_next : {m : Map} {g h : Sorts} (s : Sort) → KeepsSorts m g h → KeepsSorts (lift m) (s ∷ g) (s ∷ h)
unfolding lift
keeps_next {m = m} {g = g} {h = h} s k = record { at = go }
  where
    go : (n : ℕ) (t : Sort) → HasSort (s ∷ g) n t → HasSort (s ∷ h) (lift m n) t
    go zero t e = e
    go (suc n) t e = k.at n t e

pub keeps_suc : (s : Sort) (g : Sorts) → KeepsSorts suc g (s ∷ g)
keeps_suc s g = record { at = λ n t e. e }

pub mono_sorted : {m : Map} {g h : Sorts} → KeepsSorts m g h → (t : MonoTree) → SortedMono g t → SortedMono h (rename_mono m t)
unfolding SortedMono rename_mono
mono_sorted k (m_pair left right) d = (mono_sorted k left d.0, mono_sorted k right d.1)
mono_sorted k (m_var index) d = k.at index for_mono d
mono_sorted k _ d = tt

pub term_sorted : {m : Map} {g h : Sorts} → KeepsSorts m g h → (M : TermTree) → SortedTerm g M → SortedTerm h (rename_term m M)
unfolding SortedTerm rename_term
term_sorted k (t_var index) d = k.at index for_value d
term_sorted k (t_pair left right) d = (term_sorted k left d.0, term_sorted k right d.1)
term_sorted k (t_fst pair) d = term_sorted k pair d
term_sorted k (t_snd pair) d = term_sorted k pair d
term_sorted k (t_not term) d = term_sorted k term d
term_sorted k (t_bin op left right) d = (term_sorted k left d.0, term_sorted k right d.1)
term_sorted k (t_eq mono left right) d = (mono_sorted k mono d.0, term_sorted k left d.1, term_sorted k right d.2)
term_sorted k (t_sel mono test on_true on_false) d = (term_sorted k test d.0, term_sorted k on_true d.1, term_sorted k on_false d.2)
term_sorted k (t_at at term) d = term_sorted k term d
term_sorted k _ d = tt

pub terms_sorted : {m : Map} {g h : Sorts} → KeepsSorts m g h → (Ms : TermTrees) → SortedTerms g Ms → SortedTerms h (rename_terms m Ms)
unfolding SortedTerms rename_terms
terms_sorted k no_terms d = tt
terms_sorted k (more_terms first others) d = (term_sorted k first d.0, terms_sorted k others d.1)

pub formula_sorted : (F : FormulaTree) {m : Map} {g h : Sorts} → KeepsSorts m g h → SortedFormula g F → SortedFormula h (rename_formula m F)
unfolding SortedFormula rename_formula
formula_sorted f_tt k d = tt
formula_sorted f_ff k d = tt
formula_sorted (f_and left right) k d = (formula_sorted left k d.0, formula_sorted right k d.1)
formula_sorted (f_or left right) k d = (formula_sorted left k d.0, formula_sorted right k d.1)
formula_sorted (f_imp left right) k d = (formula_sorted left k d.0, formula_sorted right k d.1)
formula_sorted (f_all_t mono body) k d = (mono_sorted k mono d.0, formula_sorted body (keeps_next for_value k) d.1)
formula_sorted (f_ex_t mono body) k d = (mono_sorted k mono d.0, formula_sorted body (keeps_next for_value k) d.1)
formula_sorted (f_all_h body) k d = formula_sorted body (keeps_next for_heap k) d
formula_sorted (f_ex_h body) k d = formula_sorted body (keeps_next for_heap k) d
formula_sorted (f_emp heap) k d = k.at heap for_heap d
formula_sorted (f_cell mono heap place value) k d = (mono_sorted k mono d.0, k.at heap for_heap d.1, term_sorted k place d.2, term_sorted k value d.3)
formula_sorted (f_block mono heap place) k d = (mono_sorted k mono d.0, k.at heap for_heap d.1, term_sorted k place d.2)
formula_sorted (f_join whole left right) k d = (k.at whole for_heap d.0, k.at left for_heap d.1, k.at right for_heap d.2)
formula_sorted (f_same left right) k d = (k.at left for_heap d.0, k.at right for_heap d.1)
formula_sorted (f_eq mono left right) k d = (mono_sorted k mono d.0, term_sorted k left d.1, term_sorted k right d.2)
formula_sorted (f_at at formula) k d = formula_sorted formula k d
formula_sorted (f_rec number heap place arguments) k d = (k.at heap for_heap d.0, term_sorted k place d.1, terms_sorted k arguments d.2)

-- a heap for the innermost variable
pub keeps_putting : (heap : ℕ) (g : Sorts) → HasSort g heap for_heap → KeepsSorts (putting heap) (for_heap ∷ g) g
unfolding putting
keeps_putting heap g e = record { at = go }
  where
    go : (n : ℕ) (t : Sort) → HasSort (for_heap ∷ g) n t → HasSort g (putting heap n) t
    go zero t q = e ∙ q
    go (suc n) t q = q

pub heap_sorted : (heap : ℕ) (g : Sorts) → HasSort g heap for_heap → (F : FormulaTree) → SortedFormula (for_heap ∷ g) F → SortedFormula g (put_heap heap F)
heap_sorted heap g e F d = formula_sorted F (keeps_putting heap g e) d

pub renamed : RenamingKeepsSorts
renamed = record { monos = mono_sorted; terms = term_sorted; formulas = λ k F d. formula_sorted F k d }
