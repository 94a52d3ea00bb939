-- Canonical trees denote alike below a bound of fuel where heads and variables do.
use Rattle.std.proofs.Common.{◌≡◌, ◌≤◌, ℕ, zero, suc, List, ◌∷◌, refl, sym, ap, ◌∙◌, subst, arith}
use Rattle.htt_syntax.specs.Trees.{MonoTree, TermTree, FixTree, CompTree, StepTree, TermTrees, m_pair}
use Rattle.theory_values.specs.Values.{v_pair, value_of_op, value_of_not, value_of_eq, value_of_sel, value_of_fst, value_of_snd}
use Rattle.theory_truth.specs.TermValue.{value_or_unit}
use Rattle.theory_canonical.specs.Skeletons.{Skeleton, sk_o, sk_c}
use Rattle.theory_canonical.specs.Contexts.{Standing, as_mono, as_term, Stands, here, there, Heads}
use Rattle.theory_canonical.specs.Canonical.{IsCanonical, IsNeutral, IsCanonicalTerms, IsCanonicalFix, IsCanonicalComp, IsCanonicalStep, IsCanonicalMono}
use Rattle.theory_canonical.specs.Canonical.{n_m_word, n_m_bool, n_m_loc, n_m_unit, n_m_pair, n_m_var, n_word, n_bool, n_loc, n_unit, n_pair, n_fst, n_snd}
use Rattle.theory_canonical.specs.Canonical.{n_not, n_bin, n_eq, n_sel, n_lam, n_lam_t, n_do, n_neutral, e_var, e_val, e_made, e_fix, e_app, e_inst, n_no_terms}
use Rattle.theory_canonical.specs.Canonical.{n_more_terms, n_param, n_body, n_ret, n_step, n_run, n_alloc, n_get, n_set, n_free, n_if}
use Rattle.theory_denotation.specs.Outcomes.{ended, then_outcome, alloc_outcome, get_outcome, set_outcome, free_outcome, branch_outcome}
use Rattle.theory_denotation.specs.Valuations.{Domain, ValuationEntry, den_mono, den_term, Valuation, entry_at, mono_of_entry, value_of_entry, running_of_entry}
use Rattle.theory_denotation.specs.Valuations.{applied_entry, instance_entry, mono_in, HeadEntries}
use Rattle.theory_denotation.specs.Recursion.{recursion}
use Rattle.theory_denotation.specs.Denotation.{term_den, terms_den, head_den, fix_den, comp_den, step_den}
use Rattle.theory_denotation.specs.Valued.{EndsInRun, ends_c, ends_arrow}
use Rattle.theory_denotation.proofs.HeadsDenote.{fix_is_of, head_value}
use Rattle.theory_denotation_renaming.proofs.Entries.{fix_entry}
use Rattle.theory_denotation_unfolding.specs.Agreement.{AgreeBelow, EntriesAgree, ValuationsAgree, HeadEntriesAgree}
use Rattle.theory_denotation_unfolding.specs.Laws.{turn}
use Rattle.theory_denotation_unfolding.proofs.Recursions.{lower, recursion_agrees}

pub fix_runs : {heads : Heads} {g : List Standing} {whole s : Skeleton} {fix : FixTree} → IsCanonicalFix heads g whole fix s → EndsInRun s
fix_runs (n_param ty q others) = ends_arrow (fix_runs others)
fix_runs (n_body spec comp) = ends_c

-- below a lower bound
pub lower_entries : {s : Skeleton} {x y : ValuationEntry} (k b : ℕ) → k ≤ b → EntriesAgree b s x y → EntriesAgree k s x y
lower_entries {s = s} k b l o = record {
  left = o.left;
  right = o.right;
  is_left = o.is_left;
  is_right = o.is_right;
  agree = lower s k b l o.left o.right o.agree;
}

pub lower_valuations : {g : List Standing} {w w' : Valuation} (k b : ℕ) → k ≤ b → ValuationsAgree b g w w' → ValuationsAgree k g w w'
lower_valuations k b l r = record { terms = λ n s d. lower_entries k b l (r.terms n s d); monos = λ n d. r.monos n d }

pub lower_heads : {heads : Heads} {e e' : HeadEntries} (k b : ℕ) → k ≤ b → HeadEntriesAgree b heads e e' → HeadEntriesAgree k heads e e'
lower_heads k b l h = record {
  vals = λ n s d. lower_entries k b l (h.vals n s d);
  made = λ n s values d. lower_entries k b l (h.made n s values d);
}

mono_agrees : {b : ℕ} {t : MonoTree} {g : List Standing} {w w' : Valuation}
    → IsCanonicalMono g t
    → ValuationsAgree b g w w'
    → mono_in w t ≡ mono_in w' t
mono_agrees n_m_word r = refl
mono_agrees n_m_bool r = refl
mono_agrees n_m_loc r = refl
mono_agrees n_m_unit r = refl
mono_agrees (n_m_pair a c) r = λ j. m_pair (mono_agrees a r j) (mono_agrees c r j)
mono_agrees (n_m_var {index = index} d) r = r.monos index d

value_agrees : {b : ℕ} {x y : ValuationEntry} → EntriesAgree b sk_o x y → value_of_entry x ≡ value_of_entry y
value_agrees o = ap value_of_entry o.is_left ∙ o.agree ∙ sym (ap value_of_entry o.is_right)

running_agrees : {b : ℕ} {x y : ValuationEntry} → EntriesAgree b sk_c x y → AgreeBelow b sk_c (running_of_entry x) (running_of_entry y)
running_agrees o = λ n h cs l.
    (λ j. running_of_entry (o.is_left j) n h cs) ∙ o.agree n h cs l ∙ (λ j. running_of_entry (sym o.is_right j) n h cs)

pub next_term : {b : ℕ} {g : List Standing} {w w' : Valuation} (s : Skeleton) (d c : Domain s)
    → AgreeBelow b s d c
    → ValuationsAgree b g w w'
    → ValuationsAgree b (as_term s ∷ g) (den_term s d ∷ w) (den_term s c ∷ w')
next_term {b = b} {g = g} {w = w} {w' = w'} s d c q r = record { terms = terms; monos = monos }
  where
    terms : (n : ℕ) (t : Skeleton)
        → Stands (as_term s ∷ g) n (as_term t)
        → EntriesAgree b t (entry_at (den_term s d ∷ w) n) (entry_at (den_term s c ∷ w') n)
    terms zero t here = record { left = d; right = c; is_left = refl; is_right = refl; agree = q }
    terms (suc n) t (there a) = r.terms n t a

    monos : (n : ℕ) → Stands (as_term s ∷ g) n as_mono → mono_of_entry (entry_at (den_term s d ∷ w) n) ≡ mono_of_entry (entry_at (den_term s c ∷ w') n)
    monos zero a = elim a [ ]
    monos (suc n) (there a) = r.monos n a

next_mono : {b : ℕ} {g : List Standing} {w w' : Valuation} (t : MonoTree)
    → ValuationsAgree b g w w'
    → ValuationsAgree b (as_mono ∷ g) (den_mono t ∷ w) (den_mono t ∷ w')
next_mono {b = b} {g = g} {w = w} {w' = w'} t r = record { terms = terms; monos = monos }
  where
    terms : (n : ℕ) (s : Skeleton) → Stands (as_mono ∷ g) n (as_term s) → EntriesAgree b s (entry_at (den_mono t ∷ w) n) (entry_at (den_mono t ∷ w') n)
    terms zero s a = elim a [ ]
    terms (suc n) s (there a) = r.terms n s a

    monos : (n : ℕ) → Stands (as_mono ∷ g) n as_mono → mono_of_entry (entry_at (den_mono t ∷ w) n) ≡ mono_of_entry (entry_at (den_mono t ∷ w') n)
    monos zero a = refl
    monos (suc n) (there a) = r.monos n a

mutual
  unfolding term_den

  pub term_agrees : {heads : Heads} {e e' : HeadEntries} {g : List Standing} {w w' : Valuation} {term : TermTree} {s : Skeleton} (b : ℕ)
      → IsCanonical heads g term s
      → HeadEntriesAgree b heads e e'
      → ValuationsAgree b g w w'
      → AgreeBelow b s (term_den e w term s) (term_den e' w' term s)
  term_agrees b n_word h r = refl
  term_agrees b n_bool h r = refl
  term_agrees b n_loc h r = refl
  term_agrees b n_unit h r = refl
  term_agrees b (n_pair a c) h r = λ j. v_pair (term_agrees b a h r j) (term_agrees b c h r j)
  term_agrees b (n_fst a q) h r = λ j. value_or_unit (value_of_fst (term_agrees b a h r j))
  term_agrees b (n_snd a q) h r = λ j. value_or_unit (value_of_snd (term_agrees b a h r j))
  term_agrees b (n_not a q) h r = λ j. value_or_unit (value_of_not (term_agrees b a h r j))
  term_agrees b (n_bin {op = op} a c q) h r = λ j. value_or_unit (value_of_op op (term_agrees b a h r j) (term_agrees b c h r j))
  term_agrees b (n_eq m a c q) h r = λ j. value_or_unit (value_of_eq (mono_agrees m r j) (term_agrees b a h r j) (term_agrees b c h r j))
  term_agrees b (n_sel m a c d q) h r =
      λ j. value_or_unit (value_of_sel (term_agrees b a h r j) (term_agrees b c h r j) (term_agrees b d h r j))
  term_agrees b (n_lam {s = s} a) h r = λ k l d c q. term_agrees k a (lower_heads k b l h) (next_term s d c q (lower_valuations k b l r))
  term_agrees b (n_lam_t a) h r = λ t. term_agrees b a h (next_mono t r)
  term_agrees b (n_do a) h r = comp_agrees b a h r
  term_agrees {e = e} {e' = e'} {w = w} {w' = w'} b (n_neutral d) h r =
      head_value e w d ∙ value_agrees (head_agrees b d h r) ∙ sym (head_value e' w' d)

  terms_agree : {heads : Heads} {e e' : HeadEntries} {g : List Standing} {w w' : Valuation} {terms : TermTrees} (b : ℕ)
      → IsCanonicalTerms heads g terms
      → HeadEntriesAgree b heads e e'
      → ValuationsAgree b g w w'
      → terms_den e w terms ≡ terms_den e' w' terms
  terms_agree b n_no_terms h r = refl
  terms_agree b (n_more_terms a c) h r = λ j. term_agrees b a h r j ∷ terms_agree b c h r j

  pub head_agrees : {heads : Heads} {e e' : HeadEntries} {g : List Standing} {w w' : Valuation} {term : TermTree} {s : Skeleton} (b : ℕ)
      → IsNeutral heads g term s
      → HeadEntriesAgree b heads e e'
      → ValuationsAgree b g w w'
      → EntriesAgree b s (head_den e w term) (head_den e' w' term)
  head_agrees b (e_var {index = index} {s = s} d) h r = r.terms index s d
  head_agrees b (e_val {number = number} {s = s} d) h r = h.vals number s d
  head_agrees {e = e} {e' = e'} {w = w} b (e_made {number = number} {values = values} {s = s} d c) h r =
      subst (λ vs. EntriesAgree b s (e.made number (terms_den e w values)) (e'.made number vs)) (terms_agree b c h r)
      (h.made number s (terms_den e w values) d)
  head_agrees {e = e} {e' = e'} {w = w} {w' = w'} b (e_fix {fix = fix} {s = s} d) h r = record {
    left = recursion s (turn e w fix s);
    right = recursion s (turn e' w' fix s);
    is_left = ap (fix_entry e w fix) (fix_is_of d);
    is_right = ap (fix_entry e' w' fix) (fix_is_of d);
    agree =
        recursion_agrees (fix_runs d) b (turn e w fix s) (turn e' w' fix s)
        (λ k l x y q. fix_agrees k d x y q (lower_heads k b l h) (lower_valuations k b l r));
  }
  head_agrees {e = e} {e' = e'} {w = w} {w' = w'} b (e_app {argument = argument} {s = s} d c) h r = let o = head_agrees b d h r in record {
    left = o.left (term_den e w argument s);
    right = o.right (term_den e' w' argument s);
    is_left = ap (λ y. applied_entry y (term_den e w argument)) o.is_left;
    is_right = ap (λ y. applied_entry y (term_den e' w' argument)) o.is_right;
    agree = o.agree b (omega arith) (term_den e w argument s) (term_den e' w' argument s) (term_agrees b c h r);
  }
  head_agrees {w = w} {w' = w'} b (e_inst {mono = mono} {s = s} d m) h r = let o = head_agrees b d h r in record {
    left = o.left (mono_in w mono);
    right = o.right (mono_in w mono);
    is_left = ap (λ y. instance_entry y (mono_in w mono)) o.is_left;
    is_right = ap (λ y. instance_entry y (mono_in w' mono)) o.is_right ∙ ap (λ t. den_term s (o.right t)) (sym (mono_agrees m r));
    agree = o.agree (mono_in w mono);
  }

  pub fix_agrees : {heads : Heads} {e e' : HeadEntries} {g : List Standing} {w w' : Valuation} {fix : FixTree} {whole s : Skeleton} (b : ℕ)
      → IsCanonicalFix heads g whole fix s
      → (d c : Domain whole)
      → AgreeBelow b whole d c
      → HeadEntriesAgree b heads e e'
      → ValuationsAgree b g w w'
      → AgreeBelow b s (fix_den e w (den_term whole d) fix s) (fix_den e' w' (den_term whole c) fix s)
  fix_agrees {whole = whole} b (n_param {s = s} ty q others) d c p h r =
      λ k l x y i. fix_agrees k others d c (lower whole k b l d c p) (lower_heads k b l h) (next_term s x y i (lower_valuations k b l r))
  fix_agrees b (n_body {whole = whole} spec a) d c p h r = comp_agrees b a h (next_term whole d c p r)

  pub comp_agrees : {heads : Heads} {e e' : HeadEntries} {g : List Standing} {w w' : Valuation} {comp : CompTree} (b : ℕ)
      → IsCanonicalComp heads g comp
      → HeadEntriesAgree b heads e e'
      → ValuationsAgree b g w w'
      → AgreeBelow b sk_c (comp_den e w comp) (comp_den e' w' comp)
  comp_agrees b (n_ret a) h r = λ n k cs l j. ended (term_agrees b a h r j) k cs
  comp_agrees b (n_step a c) h r =
      λ n k cs l j. then_outcome (step_agrees b a h r n k cs l j) (λ v i ds. comp_agrees b c h (next_term sk_o v v refl r) n i ds l j)

  step_agrees : {heads : Heads} {e e' : HeadEntries} {g : List Standing} {w w' : Valuation} {step : StepTree} (b : ℕ)
      → IsCanonicalStep heads g step
      → HeadEntriesAgree b heads e e'
      → ValuationsAgree b g w w'
      → AgreeBelow b sk_c (step_den e w step) (step_den e' w' step)
  step_agrees b (n_run a m) h r = running_agrees (head_agrees b a h r)
  step_agrees b (n_alloc m a) h r = λ n k cs l j. alloc_outcome (term_agrees b a h r j) k cs
  step_agrees b (n_get m a) h r = λ n k cs l j. get_outcome (mono_agrees m r j) (term_agrees b a h r j) k cs
  step_agrees b (n_set m a c) h r = λ n k cs l j. set_outcome (mono_agrees m r j) (term_agrees b a h r j) (term_agrees b c h r j) k cs
  step_agrees b (n_free m a) h r = λ n k cs l j. free_outcome (mono_agrees m r j) (term_agrees b a h r j) k cs
  step_agrees b (n_if m a c d) h r =
      λ n k cs l j. branch_outcome (term_agrees b a h r j) (comp_agrees b c h r n k cs l j) (comp_agrees b d h r n k cs l j)
