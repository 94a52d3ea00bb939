-- A canonical tree denotes the same for all entries that agree on its heads.
use Rattle.std.proofs.Common.{◌≡◌, List, ◌∷◌, refl, sym, ap, ◌∙◌}
use Rattle.htt_syntax.specs.Trees.{TermTree, FixTree, CompTree, StepTree, TermTrees}
use Rattle.theory_values.specs.Values.{v_pair, value_of_op, value_of_not, value_of_eq, value_of_sel, value_of_fst, value_of_snd}
use Rattle.theory_truth.specs.TermValue.{value_or_unit}
use Rattle.theory_canonical.specs.Skeletons.{Skeleton, sk_o}
use Rattle.theory_canonical.specs.Contexts.{Standing, Heads}
use Rattle.theory_canonical.specs.Canonical.{IsCanonical, IsNeutral, IsCanonicalTerms, IsCanonicalFix, IsCanonicalComp, IsCanonicalStep, n_word, n_bool, n_loc}
use Rattle.theory_canonical.specs.Canonical.{n_unit, n_pair, n_fst, n_snd, n_not, n_bin, n_eq, n_sel, n_lam, n_lam_t, n_do, n_neutral, e_var, e_val, e_made}
use Rattle.theory_canonical.specs.Canonical.{e_fix, e_app, e_inst, n_no_terms, n_more_terms, n_param, n_body, n_ret, n_step, n_run, n_alloc, n_get, n_set}
use Rattle.theory_canonical.specs.Canonical.{n_free, n_if}
use Rattle.theory_denotation.specs.Outcomes.{ended, then_outcome, alloc_outcome, get_outcome, set_outcome, free_outcome, branch_outcome}
use Rattle.theory_denotation.specs.Valuations.{Domain, den_mono, den_term, Valuation, value_of_entry, running_of_entry, instance_entry, mono_in, HeadEntries}
use Rattle.theory_denotation.specs.Recursion.{recursion}
use Rattle.theory_denotation.specs.Denotation.{term_den, terms_den, head_den, fix_den, comp_den, step_den}
use Rattle.theory_denotation.specs.Valued.{ContextValued, HeadsValued}
use Rattle.theory_denotation.proofs.HeadsDenote.{fix_is_of, head_is_of, head_value, valued_term, valued_other}
use Rattle.theory_denotation_renaming.proofs.Entries.{applied_same, fix_entry}
use Rattle.theory_denotation_heads.specs.Agreeing.{HeadsAgree}
use Rattle.theory_denotation_heads.specs.Laws.{UsedHeadsCount}

module _ (heads : Heads) (e e' : HeadEntries) (h : HeadsValued heads e) (a : HeadsAgree heads e e') where
  mutual
    unfolding term_den

    pub term_agrees : {term : TermTree} {s : Skeleton} {g : List Standing} {w : Valuation}
        → IsCanonical heads g term s
        → ContextValued g w
        → term_den e' w term s ≡ term_den e w term s
    term_agrees n_word z = refl
    term_agrees n_bool z = refl
    term_agrees n_loc z = refl
    term_agrees n_unit z = refl
    term_agrees (n_pair b c) z = λ j. v_pair (term_agrees b z j) (term_agrees c z j)
    term_agrees (n_fst b q) z = λ j. value_or_unit (value_of_fst (term_agrees b z j))
    term_agrees (n_snd b q) z = λ j. value_or_unit (value_of_snd (term_agrees b z j))
    term_agrees (n_not b q) z = λ j. value_or_unit (value_of_not (term_agrees b z j))
    term_agrees (n_bin {op = op} b c q) z = λ j. value_or_unit (value_of_op op (term_agrees b z j) (term_agrees c z j))
    term_agrees {w = w} (n_eq {mono = mono} t b c q) z = λ j. value_or_unit (value_of_eq (mono_in w mono) (term_agrees b z j) (term_agrees c z j))
    term_agrees (n_sel t b c d q) z = λ j. value_or_unit (value_of_sel (term_agrees b z j) (term_agrees c z j) (term_agrees d z j))
    term_agrees (n_lam {s = s} b) z = λ j d. term_agrees b (valued_term s d z) j
    term_agrees (n_lam_t b) z = λ j t. term_agrees b (valued_other (den_mono t) z).0 j
    term_agrees (n_do b) z = comp_agrees b z
    term_agrees {w = w} (n_neutral d) z = head_value e' w d ∙ ap value_of_entry (head_agrees d z) ∙ sym (head_value e w d)

    terms_agree : {terms : TermTrees} {g : List Standing} {w : Valuation}
        → IsCanonicalTerms heads g terms
        → ContextValued g w
        → terms_den e' w terms ≡ terms_den e w terms
    terms_agree n_no_terms z = refl
    terms_agree (n_more_terms b c) z = λ j. term_agrees b z j ∷ terms_agree c z j

    pub head_agrees : {term : TermTree} {s : Skeleton} {g : List Standing} {w : Valuation}
        → IsNeutral heads g term s
        → ContextValued g w
        → head_den e' w term ≡ head_den e w term
    head_agrees (e_var d) z = refl
    head_agrees (e_val {number = number} {s = s} d) z = a.vals number s d
    head_agrees {w = w} (e_made {number = number} {values = values} {s = s} d c) z =
        ap (e'.made number) (terms_agree c z) ∙ a.made number s (terms_den e w values) d
    head_agrees {w = w} (e_fix {fix = fix} {s = s} d) z =
        ap (fix_entry e' w fix) (fix_is_of d)
        ∙ (λ j. den_term s (recursion s (λ own. fix_agrees d own z j)))
        ∙ sym (ap (fix_entry e w fix) (fix_is_of d))
    head_agrees {w = w} (e_app {argument = argument} d c) z =
        applied_same (term_den e w argument) (term_den e' w argument) (head_is_of h z d) (head_agrees d z) (term_agrees c z)
    head_agrees {w = w} (e_inst {mono = mono} d t) z = λ j. instance_entry (head_agrees d z j) (mono_in w mono)

    fix_agrees : {fix : FixTree} {whole s : Skeleton} {g : List Standing} {w : Valuation}
        → IsCanonicalFix heads g whole fix s
        → (own : Domain whole)
        → ContextValued g w
        → fix_den e' w (den_term whole own) fix s ≡ fix_den e w (den_term whole own) fix s
    fix_agrees (n_param {s = s} ty q others) own z = λ j d. fix_agrees others own (valued_term s d z) j
    fix_agrees (n_body {whole = whole} spec b) own z = comp_agrees b (valued_term whole own z)

    pub comp_agrees : {comp : CompTree} {g : List Standing} {w : Valuation}
        → IsCanonicalComp heads g comp
        → ContextValued g w
        → comp_den e' w comp ≡ comp_den e w comp
    comp_agrees (n_ret b) z = λ j n l cs. ended (term_agrees b z j) l cs
    comp_agrees (n_step b c) z = λ j n l cs. then_outcome (step_agrees b z j n l cs) (λ v i ds. comp_agrees c (valued_term sk_o v z) j n i ds)

    step_agrees : {step : StepTree} {g : List Standing} {w : Valuation}
        → IsCanonicalStep heads g step
        → ContextValued g w
        → step_den e' w step ≡ step_den e w step
    step_agrees (n_run b t) z = λ j n l cs. running_of_entry (head_agrees b z j) n l cs
    step_agrees (n_alloc t b) z = λ j n l cs. alloc_outcome (term_agrees b z j) l cs
    step_agrees {w = w} (n_get {mono = mono} t b) z = λ j n l cs. get_outcome (mono_in w mono) (term_agrees b z j) l cs
    step_agrees {w = w} (n_set {mono = mono} t b c) z = λ j n l cs. set_outcome (mono_in w mono) (term_agrees b z j) (term_agrees c z j) l cs
    step_agrees {w = w} (n_free {mono = mono} t b) z = λ j n l cs. free_outcome (mono_in w mono) (term_agrees b z j) l cs
    step_agrees (n_if t b c d) z = λ j n l cs. branch_outcome (term_agrees b z j) (comp_agrees c z j n l cs) (comp_agrees d z j n l cs)

pub count : UsedHeadsCount
count = record {
  terms = λ heads e e' h a g w z term s d. term_agrees heads e e' h a d z;
  neutrals = λ heads e e' h a g w z term s d. head_agrees heads e e' h a d z;
  computations = λ heads e e' h a g w z comp d. comp_agrees heads e e' h a d z;
}
