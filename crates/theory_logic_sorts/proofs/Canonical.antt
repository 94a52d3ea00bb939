-- Canonical terms of a monotype and canonical formulas are sorted.
use Rattle.std.proofs.Common.{◌≡◌, ℕ, List, [], ◌∷◌, refl, subst}
use Rattle.htt_syntax.specs.Trees.{MonoTree, TermTree, TermTrees, FormulaTree}
use Rattle.theory_canonical.specs.Skeletons.{Skeleton, sk_o}
use Rattle.theory_canonical.specs.Contexts.{Standing, as_mono, as_heap, as_term, Stands, here, there, Heads}
use Rattle.theory_canonical.specs.Canonical.{IsCanonicalMono, IsCanonical, IsNeutral, IsCanonicalTerms, IsCanonicalFormula, n_m_word, n_m_bool, n_m_loc}
use Rattle.theory_canonical.specs.Canonical.{n_m_unit, n_m_pair, n_m_var, n_word, n_bool, n_loc, n_unit, n_pair, n_fst, n_snd, n_not, n_bin, n_eq, n_sel, n_lam}
use Rattle.theory_canonical.specs.Canonical.{n_lam_t, n_do, n_neutral, e_var, e_val, e_made, e_fix, e_app, e_inst, n_no_terms, n_more_terms, n_tt, n_ff, n_and}
use Rattle.theory_canonical.specs.Canonical.{n_or, n_imp, n_all_t, n_ex_t, n_all_h, n_ex_h, n_emp, n_cell, n_block, n_join, n_same, n_equal, n_rec}
use Rattle.theory_logic_sorts.specs.Sorts.{Sort, Sorts, for_mono, for_value, for_heap, HasSort, SortedMono, SortedTerm, SortedTerms, SortedFormula}
use Rattle.theory_logic_sorts.specs.Laws.{CanonicalTreesAreSorted, standing_of_sort, standings_of_sorts}

-- A list of standings is that of sorts.
data AreStandings : Sorts → List Standing → Type 0 where
  no_standings : AreStandings [] []
  more_standings : {g : Sorts} {c : List Standing} (s : Sort) → AreStandings g c → AreStandings (s ∷ g) (standing_of_sort s ∷ c)

are_standings : (g : Sorts) → AreStandings g (standings_of_sorts g)
are_standings [] = no_standings
are_standings (s ∷ g) = more_standings s (are_standings g)

mono_at : {g : Sorts} {c : List Standing} {n : ℕ} → AreStandings g c → Stands c n as_mono → HasSort g n for_mono
mono_at no_standings p = elim p [ ]
mono_at (more_standings for_mono a) here = refl
mono_at (more_standings for_mono a) (there p) = mono_at a p
mono_at (more_standings for_value a) (there p) = mono_at a p
mono_at (more_standings for_heap a) (there p) = mono_at a p

heap_at : {g : Sorts} {c : List Standing} {n : ℕ} → AreStandings g c → Stands c n as_heap → HasSort g n for_heap
heap_at no_standings p = elim p [ ]
heap_at (more_standings for_heap a) here = refl
heap_at (more_standings for_mono a) (there p) = heap_at a p
heap_at (more_standings for_value a) (there p) = heap_at a p
heap_at (more_standings for_heap a) (there p) = heap_at a p

value_at : {g : Sorts} {c : List Standing} {n : ℕ} → AreStandings g c → Stands c n (as_term sk_o) → HasSort g n for_value
value_at no_standings p = elim p [ ]
value_at (more_standings for_value a) here = refl
value_at (more_standings for_mono a) (there p) = value_at a p
value_at (more_standings for_value a) (there p) = value_at a p
value_at (more_standings for_heap a) (there p) = value_at a p

mono_is_sorted : {g : Sorts} {c : List Standing} {t : MonoTree} → AreStandings g c → IsCanonicalMono c t → SortedMono g t
unfolding SortedMono
mono_is_sorted a n_m_word = tt
mono_is_sorted a n_m_bool = tt
mono_is_sorted a n_m_loc = tt
mono_is_sorted a n_m_unit = tt
mono_is_sorted a (n_m_pair p q) = (mono_is_sorted a p, mono_is_sorted a q)
mono_is_sorted a (n_m_var p) = mono_at a p

neutral_is_sorted : {heads : Heads} {g : Sorts} {c : List Standing} {M : TermTree} {s : Skeleton}
    → AreStandings g c
    → IsNeutral heads c M s
    → s ≡ sk_o
    → SortedTerm g M
unfolding SortedTerm
neutral_is_sorted {c = c} a (e_var {index = index} p) q = value_at a (subst (λ u. Stands c index (as_term u)) q p)
neutral_is_sorted a (e_val p) q = tt
neutral_is_sorted a (e_made p ps) q = tt
neutral_is_sorted a (e_fix p) q = tt
neutral_is_sorted a (e_app p r) q = tt
neutral_is_sorted a (e_inst p t) q = tt

term_is_sorted : {heads : Heads} {g : Sorts} {c : List Standing} {M : TermTree} {s : Skeleton} → AreStandings g c → IsCanonical heads c M s → SortedTerm g M
unfolding SortedTerm
term_is_sorted a n_word = tt
term_is_sorted a n_bool = tt
term_is_sorted a n_loc = tt
term_is_sorted a n_unit = tt
term_is_sorted a (n_pair p q) = (term_is_sorted a p, term_is_sorted a q)
term_is_sorted a (n_fst p e) = term_is_sorted a p
term_is_sorted a (n_snd p e) = term_is_sorted a p
term_is_sorted a (n_not p e) = term_is_sorted a p
term_is_sorted a (n_bin p q e) = (term_is_sorted a p, term_is_sorted a q)
term_is_sorted a (n_eq t p q e) = (mono_is_sorted a t, term_is_sorted a p, term_is_sorted a q)
term_is_sorted a (n_sel t p q r e) = (term_is_sorted a p, term_is_sorted a q, term_is_sorted a r)
term_is_sorted a (n_lam p) = tt
term_is_sorted a (n_lam_t p) = tt
term_is_sorted a (n_do p) = tt
term_is_sorted a (n_neutral p) = neutral_is_sorted a p refl

terms_are_sorted : {heads : Heads} {g : Sorts} {c : List Standing} {Ms : TermTrees} → AreStandings g c → IsCanonicalTerms heads c Ms → SortedTerms g Ms
unfolding SortedTerms
terms_are_sorted a n_no_terms = tt
terms_are_sorted a (n_more_terms p ps) = (term_is_sorted a p, terms_are_sorted a ps)

formula_is_sorted : {heads : Heads} {g : Sorts} {c : List Standing} {F : FormulaTree} → AreStandings g c → IsCanonicalFormula heads c F → SortedFormula g F
unfolding SortedFormula
formula_is_sorted a n_tt = tt
formula_is_sorted a n_ff = tt
formula_is_sorted a (n_and p q) = (formula_is_sorted a p, formula_is_sorted a q)
formula_is_sorted a (n_or p q) = (formula_is_sorted a p, formula_is_sorted a q)
formula_is_sorted a (n_imp p q) = (formula_is_sorted a p, formula_is_sorted a q)
formula_is_sorted a (n_all_t t p) = (mono_is_sorted a t, formula_is_sorted (more_standings for_value a) p)
formula_is_sorted a (n_ex_t t p) = (mono_is_sorted a t, formula_is_sorted (more_standings for_value a) p)
formula_is_sorted a (n_all_h p) = formula_is_sorted (more_standings for_heap a) p
formula_is_sorted a (n_ex_h p) = formula_is_sorted (more_standings for_heap a) p
formula_is_sorted a (n_emp h) = heap_at a h
formula_is_sorted a (n_cell t h p q) = (mono_is_sorted a t, heap_at a h, term_is_sorted a p, term_is_sorted a q)
formula_is_sorted a (n_block t h p) = (mono_is_sorted a t, heap_at a h, term_is_sorted a p)
formula_is_sorted a (n_join h k l) = (heap_at a h, heap_at a k, heap_at a l)
formula_is_sorted a (n_same h k) = (heap_at a h, heap_at a k)
formula_is_sorted a (n_equal t p q) = (mono_is_sorted a t, term_is_sorted a p, term_is_sorted a q)
formula_is_sorted a (n_rec h p ps) = (heap_at a h, term_is_sorted a p, terms_are_sorted a ps)

pub canonical : CanonicalTreesAreSorted
canonical = record { terms = λ heads g M p. term_is_sorted (are_standings g) p; formulas = λ heads g F p. formula_is_sorted (are_standings g) p }
