-- Substitution of a term of a monotype keeps sorts.
use Rattle.std.proofs.Common.{◌≡◌, ◌≢◌, ℕ, zero, suc, ◌∷◌, Some, refl, sym, ap, ◌∙◌}
use Rattle.std.specs.Prelude.{true, false, slice_get}
use Rattle.htt_syntax.specs.declared.mono.Op.{Op}
use Rattle.htt_syntax.specs.declared.mono.Op.TheVariants.{Lt}
use Rattle.htt_syntax.specs.Trees.{MonoTree, TermTree, TermTrees, FormulaTree, m_word, m_bool, m_loc, m_pair, m_var, t_word, t_bool, t_loc, t_pair, t_var}
use Rattle.htt_syntax.specs.Trees.{t_fst, t_snd, t_not, t_bin, t_eq, t_sel}
use Rattle.theory_renaming.specs.Renaming.{lift, rename_mono}
use Rattle.theory_canonical.specs.Skeletons.{Skeleton, sk_o}
use Rattle.theory_canonical.specs.Folding.{contractum, folding, op_literal}
use Rattle.theory_substitution.specs.Closing.{closing, up}
use Rattle.theory_substitution.specs.Substitution.{Kept, Reduced, SubTerm, SubTerms, SubFormula, k_var, k_val, k_made, k_fix, k_app, k_inst, r_var, r_app}
use Rattle.theory_substitution.specs.Substitution.{r_inst, u_kept, u_reduced, u_word, u_bool, u_loc, u_unit, u_pair, u_fst, u_snd, u_not, u_bin, u_eq, u_sel}
use Rattle.theory_substitution.specs.Substitution.{u_lam, u_lam_t, u_do, u_no_terms, u_more_terms, u_f_tt, u_f_ff, u_f_and, u_f_or, u_f_imp, u_f_all_t}
use Rattle.theory_substitution.specs.Substitution.{u_f_ex_t, u_f_all_h, u_f_ex_h, u_f_emp, u_f_cell, u_f_block, u_f_join, u_f_same, u_f_eq, u_f_rec}
use Rattle.theory_logic_sorts.specs.Sorts.{Sort, Sorts, for_mono, for_value, for_heap, HasSort, SortedMono, SortedTerm, SortedTerms, SortedFormula, ClosesSort}
use Rattle.theory_logic_sorts.specs.Laws.{SubstitutionKeepsSorts}
use Rattle.theory_logic_sorts.proofs.Renamed.{keeps_suc, term_sorted, heap_sorted}

pub closes_next : {x : ℕ} {s : Sort} {g h : Sorts} (t : Sort) → ClosesSort x s g h → ClosesSort (suc x) s (t ∷ g) (t ∷ h)
unfolding closing lift
closes_next {x = x} {s = s} {g = g} {h = h} t c = record { here = c.here; others = go }
  where
    go : (n : ℕ) (u : Sort) → n ≢ suc x → HasSort (t ∷ g) n u → HasSort (t ∷ h) (closing (suc x) n) u
    go zero u e p = p
    go (suc n) u e p = c.others n u (λ q. e (ap suc q)) p

pub raised : (h : Sorts) (t : Sort) (new : TermTree) → SortedTerm h new → SortedTerm (t ∷ h) (up new)
raised h t new d = term_sorted (keeps_suc t h) new d

sort_of : {s t : Sort} → Some s ≡ Some t → s ≡ t
sort_of e = cc

-- an index of another sort is another variable
pub elsewhere : {x n : ℕ} {s t : Sort} {g h : Sorts} → ClosesSort x s g h → (s ≡ t → ⊥) → HasSort g n t → n ≢ x
elsewhere {g = g} c apart p e = apart (sort_of (sym c.here ∙ ap (slice_get g) (sym e) ∙ p))

value_no_mono : for_value ≡ for_mono → ⊥
value_no_mono e = cc

value_no_heap : for_value ≡ for_heap → ⊥
value_no_heap e = cc

mono_closed : {x : ℕ} {g h : Sorts} → ClosesSort x for_value g h → (t : MonoTree) → SortedMono g t → SortedMono h (rename_mono (closing x) t)
unfolding SortedMono rename_mono
mono_closed c (m_pair left right) d = (mono_closed c left d.0, mono_closed c right d.1)
mono_closed c (m_var index) d = c.others index for_mono (elsewhere c value_no_mono d) d
mono_closed c _ d = tt

heap_closed : {x : ℕ} (n : ℕ) {g h : Sorts} → ClosesSort x for_value g h → HasSort g n for_heap → HasSort h (closing x n) for_heap
heap_closed n c d = c.others n for_heap (elsewhere c value_no_heap d) d

literal_sorted : (g : Sorts) (op : Op) (x y : ℕ) → SortedTerm g (op_literal op x y)
unfolding SortedTerm
literal_sorted g Lt x y = tt
literal_sorted g _ x y = tt

pub fold_sorted : (g : Sorts) (M : TermTree) → SortedTerm g M → SortedTerm g (folding M)
unfolding SortedTerm contractum
fold_sorted g (t_bin op (t_word x) (t_word y)) d = literal_sorted g op x y
fold_sorted g (t_not (t_bool x)) d = tt
fold_sorted g (t_eq m_word (t_word x) (t_word y)) d = tt
fold_sorted g (t_eq m_bool (t_bool x) (t_bool y)) d = tt
fold_sorted g (t_eq m_loc (t_loc x) (t_loc y)) d = tt
fold_sorted g (t_fst (t_pair left right)) d = d.0
fold_sorted g (t_snd (t_pair left right)) d = d.1
fold_sorted g (t_sel mono (t_bool true) on_true on_false) d = d.1
fold_sorted g (t_sel mono (t_bool false) on_true on_false) d = d.2
fold_sorted g _ d = d

-- at a monotype only the variable itself is reduced
pub data IsVariable (x : ℕ) (new : TermTree) : TermTree → TermTree → Type 0 where
  is_variable : {index : ℕ} → index ≡ x → IsVariable x new (t_var index) new

pub reduced_at_o : {new : TermTree} {s left : Skeleton} {x : ℕ} {M R : TermTree} → Reduced new s x M R left → s ≡ sk_o → (left ≡ sk_o) × IsVariable x new M R
reduced_at_o (r_var e) q = (q, is_variable e)
reduced_at_o (r_app r p a) q = let f = (reduced_at_o r q).0 in cc
reduced_at_o (r_inst r) q = let f = (reduced_at_o r q).0 in cc

kept_sorted : {new : TermTree} {s : Skeleton} {x : ℕ} {g h : Sorts} {M R : TermTree}
    → ClosesSort x for_value g h
    → Kept new s x M R
    → SortedTerm g M
    → SortedTerm h R
unfolding SortedTerm
kept_sorted c (k_var {index = index} e) d = c.others index for_value e d
kept_sorted c k_val d = tt
kept_sorted c (k_made p) d = tt
kept_sorted c (k_fix p) d = tt
kept_sorted c (k_app k p) d = tt
kept_sorted c (k_inst k) d = tt

variable_sorted : (h : Sorts) {new : TermTree} {x : ℕ} {M R : TermTree} → IsVariable x new M R → SortedTerm h new → SortedTerm h R
variable_sorted h (is_variable e) n = n

pub term_put : {new : TermTree} {s : Skeleton} {x : ℕ} {g h : Sorts} {M R : TermTree}
    → s ≡ sk_o
    → ClosesSort x for_value g h
    → SortedTerm h new
    → SubTerm new s x M R
    → SortedTerm g M
    → SortedTerm h R
unfolding SortedTerm
term_put q c n (u_kept k) d = kept_sorted c k d
term_put {h = h} q c n (u_reduced r) d = variable_sorted h (reduced_at_o r q).1 n
term_put q c n u_word d = tt
term_put q c n u_bool d = tt
term_put q c n u_loc d = tt
term_put q c n u_unit d = tt
term_put q c n (u_pair a b) d = (term_put q c n a d.0, term_put q c n b d.1)
term_put {h = h} q c n (u_fst {pair' = pair'} a) d = fold_sorted h (t_fst pair') (term_put q c n a d)
term_put {h = h} q c n (u_snd {pair' = pair'} a) d = fold_sorted h (t_snd pair') (term_put q c n a d)
term_put {h = h} q c n (u_not {term' = term'} a) d = fold_sorted h (t_not term') (term_put q c n a d)
term_put {h = h} q c n (u_bin {op = op} {left' = left'} {right' = right'} a b) d =
    fold_sorted h (t_bin op left' right') (term_put q c n a d.0, term_put q c n b d.1)
term_put {x = x} {h = h} q c n (u_eq {mono = mono} {left' = left'} {right' = right'} a b) d =
    fold_sorted h (t_eq (rename_mono (closing x) mono) left' right') (mono_closed c mono d.0, term_put q c n a d.1, term_put q c n b d.2)
term_put {x = x} {h = h} q c n (u_sel {mono = mono} {test' = test'} {on_true' = on_true'} {on_false' = on_false'} a b e) d =
    fold_sorted h (t_sel (rename_mono (closing x) mono) test' on_true' on_false')
    (term_put q c n a d.0, term_put q c n b d.1, term_put q c n e d.2)
term_put q c n (u_lam a) d = tt
term_put q c n (u_lam_t a) d = tt
term_put q c n (u_do a) d = tt

pub terms_put : {new : TermTree} {s : Skeleton} {x : ℕ} {g h : Sorts} {Ms Rs : TermTrees}
    → s ≡ sk_o
    → ClosesSort x for_value g h
    → SortedTerm h new
    → SubTerms new s x Ms Rs
    → SortedTerms g Ms
    → SortedTerms h Rs
unfolding SortedTerms
terms_put q c n u_no_terms d = tt
terms_put q c n (u_more_terms a b) d = (term_put q c n a d.0, terms_put q c n b d.1)

pub formula_put : {new : TermTree} {s : Skeleton} {x : ℕ} {g h : Sorts} {F R : FormulaTree}
    → s ≡ sk_o
    → ClosesSort x for_value g h
    → SortedTerm h new
    → SubFormula new s x F R
    → SortedFormula g F
    → SortedFormula h R
unfolding SortedFormula
formula_put q c n u_f_tt d = tt
formula_put q c n u_f_ff d = tt
formula_put q c n (u_f_and a b) d = (formula_put q c n a d.0, formula_put q c n b d.1)
formula_put q c n (u_f_or a b) d = (formula_put q c n a d.0, formula_put q c n b d.1)
formula_put q c n (u_f_imp a b) d = (formula_put q c n a d.0, formula_put q c n b d.1)
formula_put {new = new} {h = h} q c n (u_f_all_t {mono = mono} a) d =
    (mono_closed c mono d.0, formula_put q (closes_next for_value c) (raised h for_value new n) a d.1)
formula_put {new = new} {h = h} q c n (u_f_ex_t {mono = mono} a) d =
    (mono_closed c mono d.0, formula_put q (closes_next for_value c) (raised h for_value new n) a d.1)
formula_put {new = new} {h = h} q c n (u_f_all_h a) d = formula_put q (closes_next for_heap c) (raised h for_heap new n) a d
formula_put {new = new} {h = h} q c n (u_f_ex_h a) d = formula_put q (closes_next for_heap c) (raised h for_heap new n) a d
formula_put q c n (u_f_emp {heap = heap}) d = heap_closed heap c d
formula_put q c n (u_f_cell {mono = mono} {heap = heap} a b) d = (mono_closed c mono d.0, heap_closed heap c d.1, term_put q c n a d.2, term_put q c n b d.3)
formula_put q c n (u_f_block {mono = mono} {heap = heap} a) d = (mono_closed c mono d.0, heap_closed heap c d.1, term_put q c n a d.2)
formula_put q c n (u_f_join {whole = whole} {left = left} {right = right}) d = (heap_closed whole c d.0, heap_closed left c d.1, heap_closed right c d.2)
formula_put q c n (u_f_same {left = left} {right = right}) d = (heap_closed left c d.0, heap_closed right c d.1)
formula_put q c n (u_f_eq {mono = mono} a b) d = (mono_closed c mono d.0, term_put q c n a d.1, term_put q c n b d.2)
formula_put q c n (u_f_rec {heap = heap} a b) d = (heap_closed heap c d.0, term_put q c n a d.1, terms_put q c n b d.2)

pub substituted : SubstitutionKeepsSorts
substituted = record {
  terms = λ new x c n M R p d. term_put refl c n p d;
  formulas = λ new x c n F R p d. formula_put refl c n p d;
  heaps = heap_sorted;
}
