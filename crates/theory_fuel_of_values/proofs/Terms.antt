-- What a canonical tree comes to is reached where heads and variables reach it.
use Rattle.std.proofs.Common.{◌≡◌, ℕ, zero, suc, List, ◌∷◌, refl, sym, ap, ◌∙◌, subst}
use Rattle.htt_syntax.specs.Trees.{MonoTree, TermTree, FixTree, CompTree, StepTree, TermTrees, m_pair}
use Rattle.theory_values.specs.Values.{v_pair, value_of_op, value_of_not, value_of_eq, value_of_sel, value_of_fst, value_of_snd}
use Rattle.theory_truth.specs.TermValue.{value_or_unit}
use Rattle.theory_canonical.specs.Skeletons.{Skeleton, sk_o, sk_c}
use Rattle.theory_canonical.specs.Contexts.{Standing, as_mono, as_term, Stands, here, there, Heads}
use Rattle.theory_canonical.specs.Canonical.{IsCanonical, IsNeutral, IsCanonicalTerms, IsCanonicalFix, IsCanonicalComp, IsCanonicalStep, IsCanonicalMono}
use Rattle.theory_canonical.specs.Canonical.{n_m_word, n_m_bool, n_m_loc, n_m_unit, n_m_pair, n_m_var, n_word, n_bool, n_loc, n_unit, n_pair, n_fst, n_snd}
use Rattle.theory_canonical.specs.Canonical.{n_not, n_bin, n_eq, n_sel, n_lam, n_lam_t, n_do, n_neutral, e_var, e_val, e_made, e_fix, e_app, e_inst, n_no_terms}
use Rattle.theory_canonical.specs.Canonical.{n_more_terms, n_param, n_body, n_ret, n_step, n_run, n_alloc, n_get, n_set, n_free, n_if}
use Rattle.theory_denotation.specs.Outcomes.{ended, alloc_outcome, get_outcome, set_outcome, free_outcome, branch_outcome}
use Rattle.theory_denotation.specs.Valuations.{Domain, ValuationEntry, den_mono, den_term, Valuation, entry_at, mono_of_entry, value_of_entry, running_of_entry}
use Rattle.theory_denotation.specs.Valuations.{applied_entry, instance_entry, mono_in, HeadEntries}
use Rattle.theory_denotation.specs.Recursion.{recursion}
use Rattle.theory_denotation.specs.Denotation.{term_den, terms_den, head_den, fix_den, comp_den, step_den}
use Rattle.theory_denotation.proofs.HeadsDenote.{fix_is_of, head_value}
use Rattle.theory_denotation_renaming.proofs.Entries.{fix_entry}
use Rattle.theory_denotation_relations.specs.Relating.{Related, RelatedEntries, RelatedValuations}
use Rattle.theory_denotation_relations.specs.Laws.{KeptByFuel}
use Rattle.theory_denotation_relations.proofs.Related as related
use Rattle.theory_denotation_unfolding.proofs.Agreed.{fix_runs}
use Rattle.theory_fuel_of_values.specs.Reaching.{ReachedBy, Reached, ReachedEntries, ReachedValuations, ReachedHeads}
use Rattle.theory_fuel_of_values.proofs.Kept.{fuel_is_kept, fix_kept, step_kept}
use Rattle.theory_fuel_of_values.proofs.Runs.{along, constant_reached, branch_reached, sequence_reached}
use Rattle.theory_fuel_of_values.proofs.Recursions.{recursion_reached}

mono_reached : {t : MonoTree} {g : List Standing} {w w' : Valuation} → IsCanonicalMono g t → ReachedValuations g w w' → mono_in w t ≡ mono_in w' t
mono_reached n_m_word r = refl
mono_reached n_m_bool r = refl
mono_reached n_m_loc r = refl
mono_reached n_m_unit r = refl
mono_reached (n_m_pair a b) r = λ j. m_pair (mono_reached a r j) (mono_reached b r j)
mono_reached (n_m_var {index = index} d) r = r.monos index d

value_reached : {x y : ValuationEntry} → ReachedEntries sk_o x y → value_of_entry x ≡ value_of_entry y
value_reached o = ap value_of_entry o.is_left ∙ o.reached ∙ sym (ap value_of_entry o.is_right)

running_reached : {x y : ValuationEntry} → ReachedEntries sk_c x y → ReachedBy (running_of_entry x) (running_of_entry y)
running_reached o = along (ap running_of_entry o.is_left) (ap running_of_entry o.is_right) o.reached

next_term : {g : List Standing} {w w' : Valuation} (s : Skeleton) (d c : Domain s)
    → Reached s d c
    → Related KeptByFuel s c c
    → ReachedValuations g w w'
    → ReachedValuations (as_term s ∷ g) (den_term s d ∷ w) (den_term s c ∷ w')
next_term {g = g} {w = w} {w' = w'} s d c q k r = record {
  terms = terms;
  monos = monos;
  kept = related.next_term KeptByFuel fuel_is_kept s c c k r.kept;
}
  where
    terms : (n : ℕ) (t : Skeleton)
        → Stands (as_term s ∷ g) n (as_term t)
        → ReachedEntries t (entry_at (den_term s d ∷ w) n) (entry_at (den_term s c ∷ w') n)
    terms zero t here = record { left = d; right = c; is_left = refl; is_right = refl; reached = q }
    terms (suc n) t (there a) = r.terms n t a

    monos : (n : ℕ) → Stands (as_term s ∷ g) n as_mono → mono_of_entry (entry_at (den_term s d ∷ w) n) ≡ mono_of_entry (entry_at (den_term s c ∷ w') n)
    monos zero a = elim a [ ]
    monos (suc n) (there a) = r.monos n a

next_mono_kept : {g : List Standing} {w : Valuation} (t : MonoTree)
    → RelatedValuations KeptByFuel g w w
    → RelatedValuations KeptByFuel (as_mono ∷ g) (den_mono t ∷ w) (den_mono t ∷ w)
next_mono_kept {g = g} {w = w} t r = record { terms = terms; monos = λ n d. refl }
  where
    terms : (n : ℕ) (s : Skeleton)
        → Stands (as_mono ∷ g) n (as_term s)
        → RelatedEntries KeptByFuel s (entry_at (den_mono t ∷ w) n) (entry_at (den_mono t ∷ w) n)
    terms zero s a = elim a [ ]
    terms (suc n) s (there a) = r.terms n s a

next_mono : {g : List Standing} {w w' : Valuation} (t : MonoTree)
    → ReachedValuations g w w'
    → ReachedValuations (as_mono ∷ g) (den_mono t ∷ w) (den_mono t ∷ w')
next_mono {g = g} {w = w} {w' = w'} t r = record { terms = terms; monos = monos; kept = next_mono_kept t r.kept }
  where
    terms : (n : ℕ) (s : Skeleton) → Stands (as_mono ∷ g) n (as_term s) → ReachedEntries s (entry_at (den_mono t ∷ w) n) (entry_at (den_mono t ∷ w') n)
    terms zero s a = elim a [ ]
    terms (suc n) s (there a) = r.terms n s a

    monos : (n : ℕ) → Stands (as_mono ∷ g) n as_mono → mono_of_entry (entry_at (den_mono t ∷ w) n) ≡ mono_of_entry (entry_at (den_mono t ∷ w') n)
    monos zero a = refl
    monos (suc n) (there a) = r.monos n a

mutual
  unfolding term_den

  pub term_reached : {heads : Heads} {e e' : HeadEntries} {g : List Standing} {w w' : Valuation} {term : TermTree} {s : Skeleton}
      → ReachedHeads heads e e'
      → IsCanonical heads g term s
      → ReachedValuations g w w'
      → Reached s (term_den e w term s) (term_den e' w' term s)
  term_reached h n_word r = refl
  term_reached h n_bool r = refl
  term_reached h n_loc r = refl
  term_reached h n_unit r = refl
  term_reached h (n_pair a b) r = λ j. v_pair (term_reached h a r j) (term_reached h b r j)
  term_reached h (n_fst a q) r = λ j. value_or_unit (value_of_fst (term_reached h a r j))
  term_reached h (n_snd a q) r = λ j. value_or_unit (value_of_snd (term_reached h a r j))
  term_reached h (n_not a q) r = λ j. value_or_unit (value_of_not (term_reached h a r j))
  term_reached h (n_bin {op = op} a b q) r = λ j. value_or_unit (value_of_op op (term_reached h a r j) (term_reached h b r j))
  term_reached h (n_eq m a b q) r = λ j. value_or_unit (value_of_eq (mono_reached m r j) (term_reached h a r j) (term_reached h b r j))
  term_reached h (n_sel m a b c q) r = λ j. value_or_unit (value_of_sel (term_reached h a r j) (term_reached h b r j) (term_reached h c r j))
  term_reached h (n_lam {s = s} a) r = λ d c q k. term_reached h a (next_term s d c q k r)
  term_reached h (n_lam_t a) r = λ t. term_reached h a (next_mono t r)
  term_reached h (n_do a) r = comp_reached h a r
  term_reached {e = e} {e' = e'} {w = w} {w' = w'} h (n_neutral d) r = head_value e w d ∙ value_reached (head_reached h d r) ∙ sym (head_value e' w' d)

  terms_reached : {heads : Heads} {e e' : HeadEntries} {g : List Standing} {w w' : Valuation} {terms : TermTrees}
      → ReachedHeads heads e e'
      → IsCanonicalTerms heads g terms
      → ReachedValuations g w w'
      → terms_den e w terms ≡ terms_den e' w' terms
  terms_reached h n_no_terms r = refl
  terms_reached h (n_more_terms a b) r = λ j. term_reached h a r j ∷ terms_reached h b r j

  head_reached : {heads : Heads} {e e' : HeadEntries} {g : List Standing} {w w' : Valuation} {term : TermTree} {s : Skeleton}
      → ReachedHeads heads e e'
      → IsNeutral heads g term s
      → ReachedValuations g w w'
      → ReachedEntries s (head_den e w term) (head_den e' w' term)
  head_reached h (e_var {index = index} {s = s} d) r = r.terms index s d
  head_reached h (e_val {number = number} {s = s} d) r = h.vals number s d
  head_reached {e = e} {e' = e'} {w = w} h (e_made {number = number} {values = values} {s = s} d c) r =
      subst (λ vs. ReachedEntries s (e.made number (terms_den e w values)) (e'.made number vs)) (terms_reached h c r)
      (h.made number s (terms_den e w values) d)
  head_reached {e = e} {e' = e'} {w = w} {w' = w'} h (e_fix {fix = fix} {s = s} d) r = record {
    left = recursion s (λ own. fix_den e w (den_term s own) fix s);
    right = recursion s (λ own. fix_den e' w' (den_term s own) fix s);
    is_left = ap (fix_entry e w fix) (fix_is_of d);
    is_right = ap (fix_entry e' w' fix) (fix_is_of d);
    reached =
        recursion_reached (fix_runs d) (λ own. fix_den e w (den_term s own) fix s) (λ own. fix_den e' w' (den_term s own) fix s)
        (λ x y q k. fix_reached h d x y q k r) (λ x y q. fix_kept h.kept d x y q r.kept);
  }
  head_reached {e = e} {e' = e'} {w = w} {w' = w'} h (e_app {argument = argument} {s = s} d c) r = let o = head_reached h d r in record {
    left = o.left (term_den e w argument s);
    right = o.right (term_den e' w' argument s);
    is_left = ap (λ y. applied_entry y (term_den e w argument)) o.is_left;
    is_right = ap (λ y. applied_entry y (term_den e' w' argument)) o.is_right;
    reached =
        o.reached (term_den e w argument s) (term_den e' w' argument s) (term_reached h c r)
        (related.term_related KeptByFuel fuel_is_kept h.kept c r.kept);
  }
  head_reached {w = w} {w' = w'} h (e_inst {mono = mono} {s = s} d m) r = let o = head_reached h d r in record {
    left = o.left (mono_in w mono);
    right = o.right (mono_in w mono);
    is_left = ap (λ y. instance_entry y (mono_in w mono)) o.is_left;
    is_right = ap (λ y. instance_entry y (mono_in w' mono)) o.is_right ∙ ap (λ t. den_term s (o.right t)) (sym (mono_reached m r));
    reached = o.reached (mono_in w mono);
  }

  fix_reached : {heads : Heads} {e e' : HeadEntries} {g : List Standing} {w w' : Valuation} {fix : FixTree} {whole s : Skeleton}
      → ReachedHeads heads e e'
      → IsCanonicalFix heads g whole fix s
      → (d c : Domain whole)
      → Reached whole d c
      → Related KeptByFuel whole c c
      → ReachedValuations g w w'
      → Reached s (fix_den e w (den_term whole d) fix s) (fix_den e' w' (den_term whole c) fix s)
  fix_reached h (n_param {s = s} ty q others) d c p k r = λ x y i l. fix_reached h others d c p k (next_term s x y i l r)
  fix_reached h (n_body {whole = whole} spec a) d c p k r = comp_reached h a (next_term whole d c p k r)

  comp_reached : {heads : Heads} {e e' : HeadEntries} {g : List Standing} {w w' : Valuation} {comp : CompTree}
      → ReachedHeads heads e e'
      → IsCanonicalComp heads g comp
      → ReachedValuations g w w'
      → ReachedBy (comp_den e w comp) (comp_den e' w' comp)
  comp_reached {e = e} {e' = e'} {w = w} {w' = w'} h (n_ret {term = term} a) r =
      constant_reached (λ l cs. ended (term_den e w term sk_o) l cs) (λ l cs. ended (term_den e' w' term sk_o) l cs)
      (λ j l cs. ended (term_reached h a r j) l cs)
  comp_reached {e = e} {e' = e'} {w = w} {w' = w'} h (n_step {step = step} {others = others} a b) r =
      sequence_reached (step_den e w step) (step_den e' w' step) (λ v. comp_den e (den_term sk_o v ∷ w) others)
      (λ v. comp_den e' (den_term sk_o v ∷ w') others) (step_reached h a r) (step_kept h.kept a r.kept)
      (λ v. comp_reached h b (next_term sk_o v v refl refl r))
      (λ v. related.comp_related KeptByFuel fuel_is_kept h.kept b (related.next_term KeptByFuel fuel_is_kept sk_o v v refl r.kept))

  step_reached : {heads : Heads} {e e' : HeadEntries} {g : List Standing} {w w' : Valuation} {step : StepTree}
      → ReachedHeads heads e e'
      → IsCanonicalStep heads g step
      → ReachedValuations g w w'
      → ReachedBy (step_den e w step) (step_den e' w' step)
  step_reached h (n_run a m) r = running_reached (head_reached h a r)
  step_reached {e = e} {e' = e'} {w = w} {w' = w'} h (n_alloc {value = value} m a) r =
      constant_reached (λ l cs. alloc_outcome (term_den e w value sk_o) l cs) (λ l cs. alloc_outcome (term_den e' w' value sk_o) l cs)
      (λ j l cs. alloc_outcome (term_reached h a r j) l cs)
  step_reached {e = e} {e' = e'} {w = w} {w' = w'} h (n_get {mono = mono} {place = place} m a) r =
      constant_reached (λ l cs. get_outcome (mono_in w mono) (term_den e w place sk_o) l cs)
      (λ l cs. get_outcome (mono_in w' mono) (term_den e' w' place sk_o) l cs)
      (λ j l cs. get_outcome (mono_reached m r j) (term_reached h a r j) l cs)
  step_reached {e = e} {e' = e'} {w = w} {w' = w'} h (n_set {mono = mono} {place = place} {value = value} m a b) r =
      constant_reached (λ l cs. set_outcome (mono_in w mono) (term_den e w place sk_o) (term_den e w value sk_o) l cs)
      (λ l cs. set_outcome (mono_in w' mono) (term_den e' w' place sk_o) (term_den e' w' value sk_o) l cs)
      (λ j l cs. set_outcome (mono_reached m r j) (term_reached h a r j) (term_reached h b r j) l cs)
  step_reached {e = e} {e' = e'} {w = w} {w' = w'} h (n_free {mono = mono} {place = place} m a) r =
      constant_reached (λ l cs. free_outcome (mono_in w mono) (term_den e w place sk_o) l cs)
      (λ l cs. free_outcome (mono_in w' mono) (term_den e' w' place sk_o) l cs)
      (λ j l cs. free_outcome (mono_reached m r j) (term_reached h a r j) l cs)
  step_reached {e = e} {e' = e'} {w = w} {w' = w'} h (n_if {test = test} {on_true = on_true} {on_false = on_false} m a b c) r =
      along refl
      (λ j n l cs. branch_outcome (sym (term_reached h a r) j) (comp_den e' w' on_true n l cs) (comp_den e' w' on_false n l cs))
      (branch_reached (term_den e w test sk_o) (comp_den e w on_true) (comp_den e' w' on_true) (comp_den e w on_false)
      (comp_den e' w' on_false) (comp_reached h b r) (comp_reached h c r))
