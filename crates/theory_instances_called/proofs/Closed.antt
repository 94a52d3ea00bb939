-- Valuations that agree at the entries of a context give a canonical tree the same denotation; so each
-- valuation gives a closed one the same.
use Rattle.std.proofs.Common.{◌≡◌, ℕ, zero, suc, List, [], ◌∷◌, refl, sym, ap, ◌∙◌}
use Rattle.htt_syntax.specs.Trees.{MonoTree, TermTree, FixTree, CompTree, StepTree, TermTrees, m_pair}
use Rattle.theory_values.specs.Values.{v_pair, value_of_op, value_of_not, value_of_eq, value_of_sel, value_of_fst, value_of_snd}
use Rattle.theory_truth.specs.TermValue.{value_or_unit}
use Rattle.theory_canonical.specs.Skeletons.{Skeleton, sk_o}
use Rattle.theory_canonical.specs.Contexts.{Standing, as_mono, as_term, Stands, there, Heads}
use Rattle.theory_canonical.specs.Canonical.{IsCanonicalMono, IsCanonical, IsNeutral, IsCanonicalTerms, IsCanonicalFix, IsCanonicalComp, IsCanonicalStep}
use Rattle.theory_canonical.specs.Canonical.{n_m_word, n_m_bool, n_m_loc, n_m_unit, n_m_pair, n_m_var, n_word, n_bool, n_loc}
use Rattle.theory_canonical.specs.Canonical.{n_unit, n_pair, n_fst, n_snd, n_not, n_bin, n_eq, n_sel, n_lam, n_lam_t, n_do, n_neutral, e_var, e_val, e_made}
use Rattle.theory_canonical.specs.Canonical.{e_fix, e_app, e_inst, n_no_terms, n_more_terms, n_param, n_body, n_ret, n_step, n_run, n_alloc, n_get, n_set}
use Rattle.theory_canonical.specs.Canonical.{n_free, n_if}
use Rattle.theory_denotation.specs.Outcomes.{ended, then_outcome, alloc_outcome, get_outcome, set_outcome, free_outcome, branch_outcome}
use Rattle.theory_denotation.specs.Valuations.{Domain, ValuationEntry, den_mono, den_term, Valuation, entry_at, mono_of_entry, value_of_entry, running_of_entry}
use Rattle.theory_denotation.specs.Valuations.{instance_entry, mono_in, HeadEntries}
use Rattle.theory_denotation.specs.Recursion.{recursion}
use Rattle.theory_denotation.specs.Denotation.{term_den, terms_den, head_den, fix_den, comp_den, step_den}
use Rattle.theory_denotation.specs.Valued.{ContextValued, HeadsValued}
use Rattle.theory_denotation.proofs.HeadsDenote.{fix_is_of, head_is_of, head_value, valued_term, valued_other}
use Rattle.theory_denotation_renaming.proofs.Entries.{applied_same, fix_entry}

pub record AgreeAt (g : List Standing) (w w' : Valuation) : Type 0 where
  pub at : (n : ℕ) (entry : Standing) → Stands g n entry → entry_at w n ≡ entry_at w' n

next_at : {g : List Standing} {w w' : Valuation} (entry : Standing) (x : ValuationEntry)
    → AgreeAt g w w'
    → (n : ℕ) (found : Standing)
    → Stands (entry ∷ g) n found
    → entry_at (x ∷ w) n ≡ entry_at (x ∷ w') n
next_at entry x a zero found d = refl
next_at entry x a (suc n) found (there d) = a.at n found d

next : {g : List Standing} {w w' : Valuation} (entry : Standing) (x : ValuationEntry) → AgreeAt g w w' → AgreeAt (entry ∷ g) (x ∷ w) (x ∷ w')
next entry x a = record { at = λ n found d. next_at entry x a n found d }

mono_same : {g : List Standing} {w w' : Valuation} {t : MonoTree} → IsCanonicalMono g t → AgreeAt g w w' → mono_in w t ≡ mono_in w' t
mono_same n_m_word a = refl
mono_same n_m_bool a = refl
mono_same n_m_loc a = refl
mono_same n_m_unit a = refl
mono_same (n_m_pair c d) a = λ j. m_pair (mono_same c a j) (mono_same d a j)
mono_same (n_m_var {index = index} d) a = ap mono_of_entry (a.at index as_mono d)

module _ (heads : Heads) (e : HeadEntries) (h : HeadsValued heads e) where
  mutual
    unfolding term_den

    pub term_same : {term : TermTree} {s : Skeleton} {g : List Standing} {w w' : Valuation}
        → IsCanonical heads g term s
        → AgreeAt g w w'
        → ContextValued g w
        → term_den e w term s ≡ term_den e w' term s
    term_same n_word a z = refl
    term_same n_bool a z = refl
    term_same n_loc a z = refl
    term_same n_unit a z = refl
    term_same (n_pair b c) a z = λ j. v_pair (term_same b a z j) (term_same c a z j)
    term_same (n_fst b q) a z = λ j. value_or_unit (value_of_fst (term_same b a z j))
    term_same (n_snd b q) a z = λ j. value_or_unit (value_of_snd (term_same b a z j))
    term_same (n_not b q) a z = λ j. value_or_unit (value_of_not (term_same b a z j))
    term_same (n_bin {op = op} b c q) a z = λ j. value_or_unit (value_of_op op (term_same b a z j) (term_same c a z j))
    term_same (n_eq t b c q) a z = λ j. value_or_unit (value_of_eq (mono_same t a j) (term_same b a z j) (term_same c a z j))
    term_same (n_sel t b c d q) a z = λ j. value_or_unit (value_of_sel (term_same b a z j) (term_same c a z j) (term_same d a z j))
    term_same (n_lam {s = s} b) a z = λ j d. term_same b (next (as_term s) (den_term s d) a) (valued_term s d z) j
    term_same (n_lam_t b) a z = λ j t. term_same b (next as_mono (den_mono t) a) (valued_other (den_mono t) z).0 j
    term_same (n_do b) a z = comp_same b a z
    term_same {w = w} {w' = w'} (n_neutral d) a z = head_value e w d ∙ ap value_of_entry (head_same d a z) ∙ sym (head_value e w' d)

    terms_same : {terms : TermTrees} {g : List Standing} {w w' : Valuation}
        → IsCanonicalTerms heads g terms
        → AgreeAt g w w'
        → ContextValued g w
        → terms_den e w terms ≡ terms_den e w' terms
    terms_same n_no_terms a z = refl
    terms_same (n_more_terms b c) a z = λ j. term_same b a z j ∷ terms_same c a z j

    head_same : {term : TermTree} {s : Skeleton} {g : List Standing} {w w' : Valuation}
        → IsNeutral heads g term s
        → AgreeAt g w w'
        → ContextValued g w
        → head_den e w term ≡ head_den e w' term
    head_same (e_var {index = index} {s = s} d) a z = a.at index (as_term s) d
    head_same (e_val d) a z = refl
    head_same (e_made {number = number} d c) a z = ap (e.made number) (terms_same c a z)
    head_same {w = w} {w' = w'} (e_fix {fix = fix} {s = s} d) a z =
        ap (fix_entry e w fix) (fix_is_of d)
        ∙ (λ j. den_term s (recursion s (λ (own : Domain s). fix_same d own a z j)))
        ∙ sym (ap (fix_entry e w' fix) (fix_is_of d))
    head_same {w = w} {w' = w'} (e_app {argument = argument} d c) a z =
        sym (applied_same (term_den e w argument) (term_den e w' argument) (head_is_of h z d) (sym (head_same d a z)) (sym (term_same c a z)))
    head_same (e_inst d t) a z = λ j. instance_entry (head_same d a z j) (mono_same t a j)

    fix_same : {fix : FixTree} {whole s : Skeleton} {g : List Standing} {w w' : Valuation}
        → IsCanonicalFix heads g whole fix s
        → (own : Domain whole)
        → AgreeAt g w w'
        → ContextValued g w
        → fix_den e w (den_term whole own) fix s ≡ fix_den e w' (den_term whole own) fix s
    fix_same (n_param {s = s} ty q others) own a z = λ j d. fix_same others own (next (as_term s) (den_term s d) a) (valued_term s d z) j
    fix_same (n_body {whole = whole} spec b) own a z = comp_same b (next (as_term whole) (den_term whole own) a) (valued_term whole own z)

    comp_same : {comp : CompTree} {g : List Standing} {w w' : Valuation}
        → IsCanonicalComp heads g comp
        → AgreeAt g w w'
        → ContextValued g w
        → comp_den e w comp ≡ comp_den e w' comp
    comp_same (n_ret b) a z = λ j n l cs. ended (term_same b a z j) l cs
    comp_same (n_step b c) a z =
        λ j n l cs. then_outcome (step_same b a z j n l cs) (λ v i ds. comp_same c (next (as_term sk_o) (den_term sk_o v) a) (valued_term sk_o v z) j n i ds)

    step_same : {step : StepTree} {g : List Standing} {w w' : Valuation}
        → IsCanonicalStep heads g step
        → AgreeAt g w w'
        → ContextValued g w
        → step_den e w step ≡ step_den e w' step
    step_same (n_run b t) a z = λ j n l cs. running_of_entry (head_same b a z j) n l cs
    step_same (n_alloc t b) a z = λ j n l cs. alloc_outcome (term_same b a z j) l cs
    step_same (n_get t b) a z = λ j n l cs. get_outcome (mono_same t a j) (term_same b a z j) l cs
    step_same (n_set t b c) a z = λ j n l cs. set_outcome (mono_same t a j) (term_same b a z j) (term_same c a z j) l cs
    step_same (n_free t b) a z = λ j n l cs. free_outcome (mono_same t a j) (term_same b a z j) l cs
    step_same (n_if t b c d) a z = λ j n l cs. branch_outcome (term_same b a z j) (comp_same c a z j n l cs) (comp_same d a z j n l cs)

-- a closed term, in any valuation
pub closed_same : {heads : Heads} {e : HeadEntries} {term : TermTree} {s : Skeleton} (w : Valuation)
    → HeadsValued heads e
    → IsCanonical heads [] term s
    → term_den e w term s ≡ term_den e [] term s
closed_same {heads = heads} {e = e} w h c =
    sym (term_same heads e h c (record { at = λ n entry d. elim d [ ] }) (record { at = λ n s d. elim d [ ] }))
