-- Where monotypes are put for variables, a canonical term or computation denotes what it did.
use Rattle.std.proofs.Common.{◌≡◌, ℕ, zero, suc, List, ◌∷◌, refl, sym, ap, ◌∙◌}
use Rattle.htt_syntax.specs.Trees.{MonoTree, TermTree, FixTree, CompTree, StepTree, TermTrees, m_pair, t_fst, t_snd, t_not, t_bin, t_eq, t_sel, x_param, x_body}
use Rattle.theory_renaming.specs.Renaming.{Map, lift}
use Rattle.theory_values.specs.Values.{v_pair, value_of_op, value_of_not, value_of_eq, value_of_sel, value_of_fst, value_of_snd}
use Rattle.theory_truth.specs.TermValue.{value_or_unit}
use Rattle.theory_canonical.specs.Skeletons.{Skeleton, sk_o, sk_arrow}
use Rattle.theory_canonical.specs.Contexts.{Standing, as_mono, as_heap, as_term, Stands, there, Heads}
use Rattle.theory_canonical.specs.Canonical.{IsCanonical, IsNeutral, IsCanonicalTerms, IsCanonicalFix, IsCanonicalComp, IsCanonicalStep, IsCanonicalMono}
use Rattle.theory_canonical.specs.Canonical.{n_m_word, n_m_bool, n_m_loc, n_m_unit, n_m_pair, n_m_var, n_word, n_bool, n_loc, n_unit, n_pair, n_fst, n_snd}
use Rattle.theory_canonical.specs.Canonical.{n_not, n_bin, n_eq, n_sel, n_lam, n_lam_t, n_do, n_neutral, e_var, e_val, e_made, e_fix, e_app, e_inst, n_no_terms}
use Rattle.theory_canonical.specs.Canonical.{n_more_terms, n_param, n_body, n_ret, n_step, n_run, n_alloc, n_get, n_set, n_free, n_if}
use Rattle.theory_substitution.specs.Monotypes.{Filling, fill_mono, next_filling, fill_term, fill_fix, fill_comp, fill_step, fill_terms}
use Rattle.theory_substitution.proofs.Skeletons.{skeleton_filled}
use Rattle.theory_denotation.specs.Outcomes.{ended, then_outcome, alloc_outcome, get_outcome, set_outcome, free_outcome, branch_outcome}
use Rattle.theory_denotation.specs.Valuations.{Domain, ValuationEntry, den_mono, den_term, Valuation, entry_at, mono_of_entry, value_of_entry, running_of_entry}
use Rattle.theory_denotation.specs.Valuations.{instance_entry, mono_in, HeadEntries}
use Rattle.theory_denotation.specs.Recursion.{recursion}
use Rattle.theory_denotation.specs.Denotation.{fix_skeleton, term_den, terms_den, head_den, fix_den, comp_den, step_den}
use Rattle.theory_denotation.specs.Valued.{ContextValued, HeadsValued}
use Rattle.theory_denotation.proofs.HeadsDenote.{fix_is_of, head_is_of, head_value, fix_value, valued_term, valued_other}
use Rattle.theory_denotation_renaming.specs.Along.{FillAlong}
use Rattle.theory_denotation_renaming.proofs.Entries.{applied_same, fix_entry}
use Rattle.theory_denotation_renaming.proofs.Renamed.{agree_suc, mono_renamed}
use Rattle.theory_denotation_renaming.proofs.Folded.{folded}

next_monos : {f : Filling} {m : Map} {g : List Standing} {w w' : Valuation} (standing : Standing) (x : ValuationEntry) (n : ℕ)
    → FillAlong f m g w w'
    → Stands (standing ∷ g) n as_mono
    → mono_in (x ∷ w') (next_filling f n) ≡ mono_of_entry (entry_at (x ∷ w) n)
unfolding next_filling
next_monos standing x zero k d = refl
next_monos {f = f} {w' = w'} standing x (suc n) k (there d) = mono_renamed (agree_suc x w') (f n) ∙ k.monos n d

next_heaps : {f : Filling} {m : Map} {g : List Standing} {w w' : Valuation} (standing : Standing) (x : ValuationEntry) (n : ℕ)
    → FillAlong f m g w w'
    → Stands (standing ∷ g) n as_heap
    → entry_at (x ∷ w') (lift m n) ≡ entry_at (x ∷ w) n
unfolding lift
next_heaps standing x zero k d = refl
next_heaps standing x (suc n) k (there d) = k.heaps n d

next_terms : {f : Filling} {m : Map} {g : List Standing} {w w' : Valuation} (standing : Standing) (x : ValuationEntry) (n : ℕ)
    (s : Skeleton)
    → FillAlong f m g w w'
    → Stands (standing ∷ g) n (as_term s)
    → entry_at (x ∷ w') (lift m n) ≡ entry_at (x ∷ w) n
unfolding lift
next_terms standing x zero s k d = refl
next_terms standing x (suc n) s k (there d) = k.terms n s d

pub fill_next : {f : Filling} {m : Map} {g : List Standing} {w w' : Valuation} (standing : Standing) (x : ValuationEntry)
    → FillAlong f m g w w'
    → FillAlong (next_filling f) (lift m) (standing ∷ g) (x ∷ w) (x ∷ w')
fill_next standing x k = record {
  monos = λ n d. next_monos standing x n k d;
  heaps = λ n d. next_heaps standing x n k d;
  terms = λ n s d. next_terms standing x n s k d;
}

pub mono_filled : {t : MonoTree} {f : Filling} {m : Map} {g : List Standing} {w w' : Valuation}
    → IsCanonicalMono g t
    → FillAlong f m g w w'
    → mono_in w' (fill_mono f t) ≡ mono_in w t
unfolding fill_mono
mono_filled n_m_word k = refl
mono_filled n_m_bool k = refl
mono_filled n_m_loc k = refl
mono_filled n_m_unit k = refl
mono_filled (n_m_pair a b) k = λ j. m_pair (mono_filled a k j) (mono_filled b k j)
mono_filled (n_m_var {index = index} d) k = k.monos index d

fix_skeleton_filled : (f : Filling) (m : Map) (fix : FixTree) → fix_skeleton (fill_fix f m fix) ≡ fix_skeleton fix
unfolding fix_skeleton fill_term
fix_skeleton_filled f m (x_param ty others) = λ j. sk_arrow (skeleton_filled f m ty j) (fix_skeleton_filled (next_filling f) (lift m) others j)
fix_skeleton_filled f m (x_body spec comp) = refl

-- of a filled head the value is that of its entry
filled_value : {heads : Heads} {g : List Standing} {term : TermTree} {s : Skeleton} (e : HeadEntries) (w : Valuation) (f : Filling)
    (m : Map)
    → IsNeutral heads g term s
    → term_den e w (fill_term f m term) sk_o ≡ value_of_entry (head_den e w (fill_term f m term))
unfolding term_den fill_term
filled_value e w f m (e_var d) = refl
filled_value e w f m (e_val d) = refl
filled_value e w f m (e_made d c) = refl
filled_value e w f m (e_fix {at = at} {fix = fix} d) = fix_value e w at (fill_fix f m fix)
filled_value e w f m (e_app d c) = refl
filled_value e w f m (e_inst d c) = refl

mutual
  unfolding term_den fill_term

  pub term_filled : {heads : Heads} {e : HeadEntries} {term : TermTree} {s : Skeleton} {f : Filling} {m : Map} {g : List Standing}
      {w w' : Valuation}
      → HeadsValued heads e
      → IsCanonical heads g term s
      → FillAlong f m g w w'
      → ContextValued g w
      → term_den e w' (fill_term f m term) s ≡ term_den e w term s
  term_filled h n_word k z = refl
  term_filled h n_bool k z = refl
  term_filled h n_loc k z = refl
  term_filled h n_unit k z = refl
  term_filled h (n_pair a b) k z = λ j. v_pair (term_filled h a k z j) (term_filled h b k z j)
  term_filled {e = e} {f = f} {m = m} {w' = w'} h (n_fst {pair = pair} a q) k z =
      folded e w' (t_fst (fill_term f m pair)) ∙ (λ j. value_or_unit (value_of_fst (term_filled h a k z j)))
  term_filled {e = e} {f = f} {m = m} {w' = w'} h (n_snd {pair = pair} a q) k z =
      folded e w' (t_snd (fill_term f m pair)) ∙ (λ j. value_or_unit (value_of_snd (term_filled h a k z j)))
  term_filled {e = e} {f = f} {m = m} {w' = w'} h (n_not {term = term} a q) k z =
      folded e w' (t_not (fill_term f m term)) ∙ (λ j. value_or_unit (value_of_not (term_filled h a k z j)))
  term_filled {e = e} {f = f} {m = m} {w' = w'} h (n_bin {op = op} {left = left} {right = right} a b q) k z =
      folded e w' (t_bin op (fill_term f m left) (fill_term f m right))
      ∙ (λ j. value_or_unit (value_of_op op (term_filled h a k z j) (term_filled h b k z j)))
  term_filled {e = e} {f = f} {m = m} {w' = w'} h (n_eq {mono = mono} {left = left} {right = right} t a b q) k z =
      folded e w' (t_eq (fill_mono f mono) (fill_term f m left) (fill_term f m right))
      ∙ (λ j. value_or_unit (value_of_eq (mono_filled t k j) (term_filled h a k z j) (term_filled h b k z j)))
  term_filled {e = e} {f = f} {m = m} {w' = w'} h (n_sel {mono = mono} {test = test} {on_true = on_true} {on_false = on_false} t a b c q) k
      z =
      folded e w' (t_sel (fill_mono f mono) (fill_term f m test) (fill_term f m on_true) (fill_term f m on_false))
      ∙ (λ j. value_or_unit (value_of_sel (term_filled h a k z j) (term_filled h b k z j) (term_filled h c k z j)))
  term_filled h (n_lam {s = s} a) k z = λ j d. term_filled h a (fill_next (as_term s) (den_term s d) k) (valued_term s d z) j
  term_filled h (n_lam_t a) k z = λ j t. term_filled h a (fill_next as_mono (den_mono t) k) (valued_other (den_mono t) z).0 j
  term_filled h (n_do a) k z = comp_filled h a k z
  term_filled {e = e} {f = f} {m = m} {w = w} {w' = w'} h (n_neutral {term = term} d) k z =
      filled_value e w' f m d ∙ ap value_of_entry (head_filled h d k z) ∙ sym (head_value e w d)

  pub terms_filled : {heads : Heads} {e : HeadEntries} {terms : TermTrees} {f : Filling} {m : Map} {g : List Standing} {w w' : Valuation}
      → HeadsValued heads e
      → IsCanonicalTerms heads g terms
      → FillAlong f m g w w'
      → ContextValued g w
      → terms_den e w' (fill_terms f m terms) ≡ terms_den e w terms
  terms_filled h n_no_terms k z = refl
  terms_filled h (n_more_terms a b) k z = λ j. term_filled h a k z j ∷ terms_filled h b k z j

  pub head_filled : {heads : Heads} {e : HeadEntries} {term : TermTree} {s : Skeleton} {f : Filling} {m : Map} {g : List Standing}
      {w w' : Valuation}
      → HeadsValued heads e
      → IsNeutral heads g term s
      → FillAlong f m g w w'
      → ContextValued g w
      → head_den e w' (fill_term f m term) ≡ head_den e w term
  head_filled h (e_var {index = index} {s = s} d) k z = k.terms index s d
  head_filled h (e_val d) k z = refl
  head_filled {e = e} h (e_made {number = number} d c) k z = λ j. e.made number (terms_filled h c k z j)
  head_filled {e = e} {f = f} {m = m} {w = w} {w' = w'} h (e_fix {fix = fix} {s = s} d) k z =
      ap (fix_entry e w' (fill_fix f m fix)) (fix_skeleton_filled f m fix ∙ fix_is_of d)
      ∙ (λ j. den_term s (recursion s (λ own. fix_filled h d own k z j)))
      ∙ sym (ap (fix_entry e w fix) (fix_is_of d))
  head_filled {e = e} {f = f} {m = m} {w = w} {w' = w'} h (e_app {argument = argument} d c) k z =
      applied_same (term_den e w argument) (term_den e w' (fill_term f m argument)) (head_is_of h z d) (head_filled h d k z)
      (term_filled h c k z)
  head_filled h (e_inst d t) k z = λ j. instance_entry (head_filled h d k z j) (mono_filled t k j)

  fix_filled : {heads : Heads} {e : HeadEntries} {fix : FixTree} {whole s : Skeleton} {f : Filling} {m : Map} {g : List Standing}
      {w w' : Valuation}
      → HeadsValued heads e
      → IsCanonicalFix heads g whole fix s
      → (own : Domain whole)
      → FillAlong f m g w w'
      → ContextValued g w
      → fix_den e w' (den_term whole own) (fill_fix f m fix) s ≡ fix_den e w (den_term whole own) fix s
  fix_filled h (n_param {s = s} ty q others) own k z = λ j d. fix_filled h others own (fill_next (as_term s) (den_term s d) k) (valued_term s d z) j
  fix_filled h (n_body {whole = whole} spec a) own k z = comp_filled h a (fill_next (as_term whole) (den_term whole own) k) (valued_term whole own z)

  pub comp_filled : {heads : Heads} {e : HeadEntries} {comp : CompTree} {f : Filling} {m : Map} {g : List Standing} {w w' : Valuation}
      → HeadsValued heads e
      → IsCanonicalComp heads g comp
      → FillAlong f m g w w'
      → ContextValued g w
      → comp_den e w' (fill_comp f m comp) ≡ comp_den e w comp
  comp_filled h (n_ret a) k z = λ j n l cs. ended (term_filled h a k z j) l cs
  comp_filled h (n_step a b) k z = λ j n l cs.
      then_outcome (step_filled h a k z j n l cs)
      (λ v i ds. comp_filled h b (fill_next (as_term sk_o) (den_term sk_o v) k) (valued_term sk_o v z) j n i ds)

  step_filled : {heads : Heads} {e : HeadEntries} {step : StepTree} {f : Filling} {m : Map} {g : List Standing} {w w' : Valuation}
      → HeadsValued heads e
      → IsCanonicalStep heads g step
      → FillAlong f m g w w'
      → ContextValued g w
      → step_den e w' (fill_step f m step) ≡ step_den e w step
  step_filled h (n_run a t) k z = λ j n l cs. running_of_entry (head_filled h a k z j) n l cs
  step_filled h (n_alloc t a) k z = λ j n l cs. alloc_outcome (term_filled h a k z j) l cs
  step_filled h (n_get t a) k z = λ j n l cs. get_outcome (mono_filled t k j) (term_filled h a k z j) l cs
  step_filled h (n_set t a b) k z = λ j n l cs. set_outcome (mono_filled t k j) (term_filled h a k z j) (term_filled h b k z j) l cs
  step_filled h (n_free t a) k z = λ j n l cs. free_outcome (mono_filled t k j) (term_filled h a k z j) l cs
  step_filled h (n_if t a b c) k z = λ j n l cs. branch_outcome (term_filled h a k z j) (comp_filled h b k z j n l cs) (comp_filled h c k z j n l cs)
