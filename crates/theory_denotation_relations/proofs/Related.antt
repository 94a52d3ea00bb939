-- A relation that is kept by all of which computations are made holds of each denotation.
use Rattle.std.proofs.Common.{◌≡◌, ℕ, zero, suc, List, ◌∷◌, refl, sym, ap, ◌∙◌, subst}
use Rattle.htt_syntax.specs.Trees.{MonoTree, TermTree, FixTree, CompTree, StepTree, TermTrees, m_pair}
use Rattle.theory_values.specs.Values.{v_pair, value_of_op, value_of_not, value_of_eq, value_of_sel, value_of_fst, value_of_snd}
use Rattle.theory_truth.specs.TermValue.{value_or_unit}
use Rattle.theory_canonical.specs.Skeletons.{Skeleton, sk_o, sk_c}
use Rattle.theory_canonical.specs.Contexts.{Standing, as_mono, as_term, Stands, here, there, Heads}
use Rattle.theory_canonical.specs.Canonical.{IsCanonical, IsNeutral, IsCanonicalTerms, IsCanonicalFix, IsCanonicalComp, IsCanonicalStep, IsCanonicalMono}
use Rattle.theory_canonical.specs.Canonical.{n_m_word, n_m_bool, n_m_loc, n_m_unit, n_m_pair, n_m_var, n_word, n_bool, n_loc, n_unit, n_pair, n_fst, n_snd}
use Rattle.theory_canonical.specs.Canonical.{n_not, n_bin, n_eq, n_sel, n_lam, n_lam_t, n_do, n_neutral, e_var, e_val, e_made, e_fix, e_app, e_inst, n_no_terms}
use Rattle.theory_canonical.specs.Canonical.{n_more_terms, n_param, n_body, n_ret, n_step, n_run, n_alloc, n_get, n_set, n_free, n_if}
use Rattle.theory_denotation.specs.Outcomes.{Running, ended, alloc_outcome, get_outcome, set_outcome, free_outcome, branch_outcome}
use Rattle.theory_denotation.specs.Valuations.{Domain, ValuationEntry, den_mono, den_term, Valuation, entry_at, mono_of_entry, value_of_entry, running_of_entry}
use Rattle.theory_denotation.specs.Valuations.{applied_entry, instance_entry, mono_in, HeadEntries}
use Rattle.theory_denotation.specs.Recursion.{recursion}
use Rattle.theory_denotation.specs.Denotation.{term_den, terms_den, head_den, fix_den, comp_den, step_den}
use Rattle.theory_denotation.specs.Valued.{EndsInRun, ends_c, ends_arrow}
use Rattle.theory_denotation.proofs.HeadsDenote.{fix_is_of, head_value}
use Rattle.theory_denotation_renaming.proofs.Entries.{fix_entry}
use Rattle.theory_denotation_relations.specs.Relating.{Relation, Related, IsKept, RelatedEntries, RelatedValuations, RelatedHeads}
use Rattle.theory_denotation_relations.proofs.Recursions.{recursion_related}

fix_runs : {heads : Heads} {g : List Standing} {whole s : Skeleton} {fix : FixTree} → IsCanonicalFix heads g whole fix s → EndsInRun s
fix_runs (n_param ty q others) = ends_arrow (fix_runs others)
fix_runs (n_body spec comp) = ends_c

mono_related : {Q : Relation} {t : MonoTree} {g : List Standing} {w w' : Valuation}
    → IsCanonicalMono g t
    → RelatedValuations Q g w w'
    → mono_in w t ≡ mono_in w' t
mono_related n_m_word r = refl
mono_related n_m_bool r = refl
mono_related n_m_loc r = refl
mono_related n_m_unit r = refl
mono_related (n_m_pair a b) r = λ j. m_pair (mono_related a r j) (mono_related b r j)
mono_related (n_m_var {index = index} d) r = r.monos index d

value_related : {Q : Relation} {x y : ValuationEntry} → RelatedEntries Q sk_o x y → value_of_entry x ≡ value_of_entry y
value_related o = ap value_of_entry o.is_left ∙ o.related ∙ sym (ap value_of_entry o.is_right)

module _ (Q : Relation) (kept : IsKept Q) where
  -- related computations may be written otherwise
  along : {f f' g g' : Running} → f' ≡ f → g' ≡ g → Q f g → Q f' g'
  along {f' = f'} {g = g} p q r = subst (λ x. Q f' x) (sym q) (subst (λ x. Q x g) (sym p) r)

  running_related : {x y : ValuationEntry} → RelatedEntries Q sk_c x y → Q (running_of_entry x) (running_of_entry y)
  running_related o = along (ap running_of_entry o.is_left) (ap running_of_entry o.is_right) o.related

  pub next_term : {g : List Standing} {w w' : Valuation} (s : Skeleton) (d c : Domain s)
      → Related Q s d c
      → RelatedValuations Q g w w'
      → RelatedValuations Q (as_term s ∷ g) (den_term s d ∷ w) (den_term s c ∷ w')
  next_term {g = g} {w = w} {w' = w'} s d c q r = record { terms = terms; monos = monos }
    where
      terms : (n : ℕ) (t : Skeleton)
          → Stands (as_term s ∷ g) n (as_term t)
          → RelatedEntries Q t (entry_at (den_term s d ∷ w) n) (entry_at (den_term s c ∷ w') n)
      terms zero t here = record { left = d; right = c; is_left = refl; is_right = refl; related = q }
      terms (suc n) t (there a) = r.terms n t a

      monos : (n : ℕ) → Stands (as_term s ∷ g) n as_mono → mono_of_entry (entry_at (den_term s d ∷ w) n) ≡ mono_of_entry (entry_at (den_term s c ∷ w') n)
      monos zero a = elim a [ ]
      monos (suc n) (there a) = r.monos n a

  next_mono : {g : List Standing} {w w' : Valuation} (t : MonoTree)
      → RelatedValuations Q g w w'
      → RelatedValuations Q (as_mono ∷ g) (den_mono t ∷ w) (den_mono t ∷ w')
  next_mono {g = g} {w = w} {w' = w'} t r = record { terms = terms; monos = monos }
    where
      terms : (n : ℕ) (s : Skeleton) → Stands (as_mono ∷ g) n (as_term s) → RelatedEntries Q s (entry_at (den_mono t ∷ w) n) (entry_at (den_mono t ∷ w') n)
      terms zero s a = elim a [ ]
      terms (suc n) s (there a) = r.terms n s a

      monos : (n : ℕ) → Stands (as_mono ∷ g) n as_mono → mono_of_entry (entry_at (den_mono t ∷ w) n) ≡ mono_of_entry (entry_at (den_mono t ∷ w') n)
      monos zero a = refl
      monos (suc n) (there a) = r.monos n a

  mutual
    unfolding term_den

    pub term_related : {heads : Heads} {e e' : HeadEntries} {g : List Standing} {w w' : Valuation} {term : TermTree} {s : Skeleton}
        → RelatedHeads Q heads e e'
        → IsCanonical heads g term s
        → RelatedValuations Q g w w'
        → Related Q s (term_den e w term s) (term_den e' w' term s)
    term_related h n_word r = refl
    term_related h n_bool r = refl
    term_related h n_loc r = refl
    term_related h n_unit r = refl
    term_related h (n_pair a b) r = λ j. v_pair (term_related h a r j) (term_related h b r j)
    term_related h (n_fst a q) r = λ j. value_or_unit (value_of_fst (term_related h a r j))
    term_related h (n_snd a q) r = λ j. value_or_unit (value_of_snd (term_related h a r j))
    term_related h (n_not a q) r = λ j. value_or_unit (value_of_not (term_related h a r j))
    term_related h (n_bin {op = op} a b q) r = λ j. value_or_unit (value_of_op op (term_related h a r j) (term_related h b r j))
    term_related h (n_eq m a b q) r = λ j. value_or_unit (value_of_eq (mono_related m r j) (term_related h a r j) (term_related h b r j))
    term_related h (n_sel m a b c q) r = λ j. value_or_unit (value_of_sel (term_related h a r j) (term_related h b r j) (term_related h c r j))
    term_related h (n_lam {s = s} a) r = λ d c q. term_related h a (next_term s d c q r)
    term_related h (n_lam_t a) r = λ t. term_related h a (next_mono t r)
    term_related h (n_do a) r = comp_related h a r
    term_related {e = e} {e' = e'} {w = w} {w' = w'} h (n_neutral d) r = head_value e w d ∙ value_related (head_related h d r) ∙ sym (head_value e' w' d)

    terms_related : {heads : Heads} {e e' : HeadEntries} {g : List Standing} {w w' : Valuation} {terms : TermTrees}
        → RelatedHeads Q heads e e'
        → IsCanonicalTerms heads g terms
        → RelatedValuations Q g w w'
        → terms_den e w terms ≡ terms_den e' w' terms
    terms_related h n_no_terms r = refl
    terms_related h (n_more_terms a b) r = λ j. term_related h a r j ∷ terms_related h b r j

    pub head_related : {heads : Heads} {e e' : HeadEntries} {g : List Standing} {w w' : Valuation} {term : TermTree} {s : Skeleton}
        → RelatedHeads Q heads e e'
        → IsNeutral heads g term s
        → RelatedValuations Q g w w'
        → RelatedEntries Q s (head_den e w term) (head_den e' w' term)
    head_related h (e_var {index = index} {s = s} d) r = r.terms index s d
    head_related h (e_val {number = number} {s = s} d) r = h.vals number s d
    head_related {e = e} {e' = e'} {w = w} h (e_made {number = number} {values = values} {s = s} d c) r =
        subst (λ vs. RelatedEntries Q s (e.made number (terms_den e w values)) (e'.made number vs)) (terms_related h c r)
        (h.made number s (terms_den e w values) d)
    head_related {e = e} {e' = e'} {w = w} {w' = w'} h (e_fix {fix = fix} {s = s} d) r = record {
      left = recursion s (λ own. fix_den e w (den_term s own) fix s);
      right = recursion s (λ own. fix_den e' w' (den_term s own) fix s);
      is_left = ap (fix_entry e w fix) (fix_is_of d);
      is_right = ap (fix_entry e' w' fix) (fix_is_of d);
      related =
          recursion_related Q kept (fix_runs d) (λ own. fix_den e w (den_term s own) fix s) (λ own. fix_den e' w' (den_term s own) fix s)
          (λ x y q. fix_related h d x y q r);
    }
    head_related {e = e} {e' = e'} {w = w} {w' = w'} h (e_app {argument = argument} {s = s} d c) r = let o = head_related h d r in record {
      left = o.left (term_den e w argument s);
      right = o.right (term_den e' w' argument s);
      is_left = ap (λ y. applied_entry y (term_den e w argument)) o.is_left;
      is_right = ap (λ y. applied_entry y (term_den e' w' argument)) o.is_right;
      related = o.related (term_den e w argument s) (term_den e' w' argument s) (term_related h c r);
    }
    head_related {w = w} {w' = w'} h (e_inst {mono = mono} {s = s} d m) r = let o = head_related h d r in record {
      left = o.left (mono_in w mono);
      right = o.right (mono_in w mono);
      is_left = ap (λ y. instance_entry y (mono_in w mono)) o.is_left;
      is_right = ap (λ y. instance_entry y (mono_in w' mono)) o.is_right ∙ ap (λ t. den_term s (o.right t)) (sym (mono_related m r));
      related = o.related (mono_in w mono);
    }

    fix_related : {heads : Heads} {e e' : HeadEntries} {g : List Standing} {w w' : Valuation} {fix : FixTree} {whole s : Skeleton}
        → RelatedHeads Q heads e e'
        → IsCanonicalFix heads g whole fix s
        → (d c : Domain whole)
        → Related Q whole d c
        → RelatedValuations Q g w w'
        → Related Q s (fix_den e w (den_term whole d) fix s) (fix_den e' w' (den_term whole c) fix s)
    fix_related h (n_param {s = s} ty q others) d c p r = λ x y i. fix_related h others d c p (next_term s x y i r)
    fix_related h (n_body {whole = whole} spec a) d c p r = comp_related h a (next_term whole d c p r)

    pub comp_related : {heads : Heads} {e e' : HeadEntries} {g : List Standing} {w w' : Valuation} {comp : CompTree}
        → RelatedHeads Q heads e e'
        → IsCanonicalComp heads g comp
        → RelatedValuations Q g w w'
        → Q (comp_den e w comp) (comp_den e' w' comp)
    comp_related {e = e} {w = w} h (n_ret {term = term} a) r =
        along refl (λ j n l cs. ended (sym (term_related h a r) j) l cs) (kept.ending (term_den e w term sk_o))
    comp_related {e = e} {e' = e'} {w = w} {w' = w'} h (n_step {step = step} {others = others} a b) r =
        kept.sequence (step_den e w step) (step_den e' w' step) (λ v. comp_den e (den_term sk_o v ∷ w) others)
        (λ v. comp_den e' (den_term sk_o v ∷ w') others) (step_related h a r) (λ v. comp_related h b (next_term sk_o v v refl r))

    step_related : {heads : Heads} {e e' : HeadEntries} {g : List Standing} {w w' : Valuation} {step : StepTree}
        → RelatedHeads Q heads e e'
        → IsCanonicalStep heads g step
        → RelatedValuations Q g w w'
        → Q (step_den e w step) (step_den e' w' step)
    step_related h (n_run a m) r = running_related (head_related h a r)
    step_related {e = e} {w = w} h (n_alloc {value = value} m a) r =
        along refl (λ j n l cs. alloc_outcome (sym (term_related h a r) j) l cs) (kept.alloc (term_den e w value sk_o))
    step_related {e = e} {w = w} h (n_get {mono = mono} {place = place} m a) r =
        along refl (λ j n l cs. get_outcome (sym (mono_related m r) j) (sym (term_related h a r) j) l cs)
        (kept.get (mono_in w mono) (term_den e w place sk_o))
    step_related {e = e} {w = w} h (n_set {mono = mono} {place = place} {value = value} m a b) r =
        along refl (λ j n l cs. set_outcome (sym (mono_related m r) j) (sym (term_related h a r) j) (sym (term_related h b r) j) l cs)
        (kept.set (mono_in w mono) (term_den e w place sk_o) (term_den e w value sk_o))
    step_related {e = e} {w = w} h (n_free {mono = mono} {place = place} m a) r =
        along refl (λ j n l cs. free_outcome (sym (mono_related m r) j) (sym (term_related h a r) j) l cs)
        (kept.free (mono_in w mono) (term_den e w place sk_o))
    step_related {e = e} {e' = e'} {w = w} {w' = w'} h (n_if {test = test} {on_true = on_true} {on_false = on_false} m a b c) r =
        along refl
        (λ j n l cs. branch_outcome (sym (term_related h a r) j) (comp_den e' w' on_true n l cs) (comp_den e' w' on_false n l cs))
        (kept.branch (term_den e w test sk_o) (comp_den e w on_true) (comp_den e' w' on_true) (comp_den e w on_false)
        (comp_den e' w' on_false) (comp_related h b r) (comp_related h c r))
