-- A tree that passes the fixed parameters on at each occurrence of the recursion variable denotes the same
-- whether this is the function or the pinned one.
use Rattle.std.proofs.Common.{◌≡◌, ℕ, zero, suc, List, [], ◌∷◌, ◌++◌, ◌⊎◌, inl, inr, refl, sym, ap, ◌∙◌}
use Rattle.htt_syntax.specs.Trees.{TermTree, FixTree, CompTree, StepTree, TermTrees}
use Rattle.theory_values.specs.Values.{v_pair, value_of_op, value_of_not, value_of_eq, value_of_sel, value_of_fst, value_of_snd}
use Rattle.theory_truth.specs.TermValue.{value_or_unit}
use Rattle.theory_canonical.specs.Skeletons.{Skeleton, sk_o}
use Rattle.theory_canonical.specs.Contexts.{Standing, Heads}
use Rattle.theory_canonical.specs.Canonical.{IsCanonical, IsNeutral, IsCanonicalTerms, IsCanonicalFix, IsCanonicalComp, IsCanonicalStep, n_word, n_bool, n_loc}
use Rattle.theory_canonical.specs.Canonical.{n_unit, n_pair, n_fst, n_snd, n_not, n_bin, n_eq, n_sel, n_lam, n_lam_t, n_do, n_neutral, e_var, e_val, e_made}
use Rattle.theory_canonical.specs.Canonical.{e_fix, e_app, e_inst, n_no_terms, n_more_terms, n_param, n_body, n_ret, n_step, n_run, n_alloc, n_get, n_set}
use Rattle.theory_canonical.specs.Canonical.{n_free, n_if}
use Rattle.theory_denotation.specs.Outcomes.{ended, then_outcome, alloc_outcome, get_outcome, set_outcome, free_outcome, branch_outcome}
use Rattle.theory_denotation.specs.Valuations.{Domain, ValuationEntry, den_term, Valuation, entry_at, value_of_entry, running_of_entry, HeadEntries}
use Rattle.theory_denotation.specs.Recursion.{recursion}
use Rattle.theory_denotation.specs.Denotation.{term_den, terms_den, head_den, fix_den, comp_den, step_den}
use Rattle.theory_denotation.specs.Valued.{IsOf, HeadsValued}
use Rattle.theory_denotation.proofs.HeadsDenote.{fix_is_of, head_is_of, head_value}
use Rattle.theory_denotation_renaming.proofs.Entries.{fix_entry}
use Rattle.theory_instances.specs.Calls.{Argument, of_term, of_mono}
use Rattle.theory_instances.specs.Occurrences.{met_in_term, met_in_terms, met_in_fix, met_in_comp, met_in_step, met_in_ty, met_in_triple}
use Rattle.theory_instances_passing.specs.Pinned.{AtEach, Denote}
use Rattle.theory_canonical.specs.Skeletons.{sk_c}
use Rattle.theory_instances_passing.proofs.Own.{EachOwn, both, own_met, Apart, next_term, next_mono, mono_agrees, denote_within, Agreeing, agree_same}
use Rattle.theory_instances_passing.proofs.Own.{agree_own, agreed_run, agreed_value, agreed_instance}
use Rattle.theory_instances_passing.proofs.Own.{agreed_applied}

abbrev skeleton_of_entry : ValuationEntry → Skeleton
skeleton_of_entry (den_term s d) = s
skeleton_of_entry x = sk_o

module _ (heads : Heads) (e : HeadEntries) (h : HeadsValued heads e) (whole : Skeleton) (params : List TermTree) (own : Domain whole)
    (set : List AtEach) (base : Valuation) (denoted : Denote e base whole sk_c params set) where
  mutual
    unfolding term_den met_in_term

    pub term_agrees : {term : TermTree} {s : Skeleton} {d : ℕ} {g : List Standing} {w w' : Valuation}
        → IsCanonical heads g term s
        → Apart whole own set base d g w w'
        → EachOwn whole params (met_in_term d [] term)
        → term_den e w term s ≡ term_den e w' term s
    term_agrees n_word a m = refl
    term_agrees n_bool a m = refl
    term_agrees n_loc a m = refl
    term_agrees n_unit a m = refl
    term_agrees {d = d} (n_pair {left = left} {right = right} b c) a m =
        let r = both whole params (met_in_term d [] left) (met_in_term d [] right) m in
        λ j. v_pair (term_agrees b a (r.0) j) (term_agrees c a (r.1) j)
    term_agrees (n_fst b q) a m = λ j. value_or_unit (value_of_fst (term_agrees b a m j))
    term_agrees (n_snd b q) a m = λ j. value_or_unit (value_of_snd (term_agrees b a m j))
    term_agrees (n_not b q) a m = λ j. value_or_unit (value_of_not (term_agrees b a m j))
    term_agrees {d = d} (n_bin {op = op} {left = left} {right = right} b c q) a m =
        let r = both whole params (met_in_term d [] left) (met_in_term d [] right) m in
        λ j. value_or_unit (value_of_op op (term_agrees b a (r.0) j) (term_agrees c a (r.1) j))
    term_agrees {d = d} (n_eq {mono = mono} {left = left} {right = right} t b c q) a m =
        let r = both whole params (met_in_term d [] left) (met_in_term d [] right) m in
        λ j. value_or_unit (value_of_eq (mono_agrees a mono j) (term_agrees b a (r.0) j) (term_agrees c a (r.1) j))
    term_agrees {d = d} (n_sel {test = test} {on_true = on_true} {on_false = on_false} t b c f q) a m =
        let r = both whole params (met_in_term d [] test) (met_in_term d [] on_true ++ met_in_term d [] on_false) m in
        let k = both whole params (met_in_term d [] on_true) (met_in_term d [] on_false) (r.1) in
        λ j. value_or_unit (value_of_sel (term_agrees b a (r.0) j) (term_agrees c a (k.0) j) (term_agrees f a (k.1) j))
    term_agrees (n_lam {s = s} b) a m = λ j x. term_agrees b (next_term s x a) m j
    term_agrees (n_lam_t b) a m = λ j t. term_agrees b (next_mono t a) m j
    term_agrees (n_do b) a m = comp_agrees b a m
    term_agrees {w = w} {w' = w'} (n_neutral b) a m =
        head_value e w b ∙ ap value_of_entry (agreed_value (head_agrees b a [] m)) ∙ sym (head_value e w' b)

    terms_agree : {terms : TermTrees} {d : ℕ} {g : List Standing} {w w' : Valuation}
        → IsCanonicalTerms heads g terms
        → Apart whole own set base d g w w'
        → EachOwn whole params (met_in_terms d terms)
        → terms_den e w terms ≡ terms_den e w' terms
    terms_agree n_no_terms a m = refl
    terms_agree {d = d} (n_more_terms {term = term} {others = others} b c) a m =
        let r = both whole params (met_in_term d [] term) (met_in_terms d others) m in
        λ j. term_agrees b a (r.0) j ∷ terms_agree c a (r.1) j

    head_agrees : {term : TermTree} {s : Skeleton} {d : ℕ} {g : List Standing} {w w' : Valuation}
        → IsNeutral heads g term s
        → Apart whole own set base d g w w'
        → (pending : List Argument)
        → EachOwn whole params (met_in_term d pending term)
        → Agreeing e w s pending (head_den e w term) (head_den e w' term)
    head_agrees {d = d} {w = w} {w' = w'} (e_var {index = index} {s = s} stands) a pending m =
        elim (a.others index) [
          | inl q ↦ agree_own own
              (ap skeleton_of_entry (sym (a.valued.at index s stands).is ∙ ap (entry_at w) q ∙ a.here))
              (own_met whole params d index pending q m) (denote_within a denoted)
              (ap (entry_at w) q ∙ a.here)
              (ap (entry_at w') q ∙ a.pinned_here)
          | inr q ↦ agree_same q
        ]
    head_agrees (e_val b) a pending m = agree_same refl
    head_agrees (e_made {number = number} b c) a pending m = agree_same (ap (e.made number) (terms_agree c a m))
    head_agrees {w = w} {w' = w'} (e_fix {fix = fix} {s = s} b) a pending m =
        agree_same (ap (fix_entry e w fix) (fix_is_of b)
        ∙ (λ j. den_term s (recursion s (λ (c : Domain s). fix_agrees b c a m j)))
        ∙ sym (ap (fix_entry e w' fix) (fix_is_of b)))
    head_agrees {d = d} {w = w} {w' = w'} (e_app {function = function} {argument = argument} b c) a pending m =
        let r = both whole params (met_in_term d (of_term argument ∷ pending) function) (met_in_term d [] argument) m in
        agreed_applied w' (head_agrees b a (of_term argument ∷ pending) (r.0)) (head_is_of h a.valued b) (term_agrees c a (r.1))
    head_agrees (e_inst {mono = mono} b t) a pending m = agreed_instance (head_agrees b a (of_mono mono ∷ pending) m) (mono_agrees a mono)

    fix_agrees : {fix : FixTree} {inner s : Skeleton} {d : ℕ} {g : List Standing} {w w' : Valuation}
        → IsCanonicalFix heads g inner fix s
        → (c : Domain inner)
        → Apart whole own set base d g w w'
        → EachOwn whole params (met_in_fix d fix)
        → fix_den e w (den_term inner c) fix s ≡ fix_den e w' (den_term inner c) fix s
    fix_agrees {d = d} (n_param {s = s} {ty = ty} {others = others} b q rest) c a m =
        let r = both whole params (met_in_ty d ty) (met_in_fix (suc d) others) m in
        λ j x. fix_agrees rest c (next_term s x a) (r.1) j
    fix_agrees {d = d} (n_body {whole = inner} {spec = spec} {comp = comp} b rest) c a m =
        let r = both whole params (met_in_triple d spec) (met_in_comp (suc d) comp) m in
        comp_agrees rest (next_term inner c a) (r.1)

    pub comp_agrees : {comp : CompTree} {d : ℕ} {g : List Standing} {w w' : Valuation}
        → IsCanonicalComp heads g comp
        → Apart whole own set base d g w w'
        → EachOwn whole params (met_in_comp d comp)
        → comp_den e w comp ≡ comp_den e w' comp
    comp_agrees (n_ret b) a m = λ j n l cs. ended (term_agrees b a m j) l cs
    comp_agrees {d = d} (n_step {step = step} {others = others} b c) a m =
        let r = both whole params (met_in_step d step) (met_in_comp (suc d) others) m in
        λ j n l cs. then_outcome (step_agrees b a (r.0) j n l cs) (λ v i ds. comp_agrees c (next_term sk_o v a) (r.1) j n i ds)

    step_agrees : {step : StepTree} {d : ℕ} {g : List Standing} {w w' : Valuation}
        → IsCanonicalStep heads g step
        → Apart whole own set base d g w w'
        → EachOwn whole params (met_in_step d step)
        → step_den e w step ≡ step_den e w' step
    step_agrees (n_run b t) a m = λ j n l cs. running_of_entry (agreed_run (head_agrees b a [] m) j) n l cs
    step_agrees (n_alloc t b) a m = λ j n l cs. alloc_outcome (term_agrees b a m j) l cs
    step_agrees (n_get {mono = mono} t b) a m = λ j n l cs. get_outcome (mono_agrees a mono j) (term_agrees b a m j) l cs
    step_agrees {d = d} (n_set {mono = mono} {place = place} {value = value} t b c) a m =
        let r = both whole params (met_in_term d [] place) (met_in_term d [] value) m in
        λ j n l cs. set_outcome (mono_agrees a mono j) (term_agrees b a (r.0) j) (term_agrees c a (r.1) j) l cs
    step_agrees (n_free {mono = mono} t b) a m = λ j n l cs. free_outcome (mono_agrees a mono j) (term_agrees b a m j) l cs
    step_agrees {d = d} (n_if {test = test} {on_true = on_true} {on_false = on_false} t b c f) a m =
        let r = both whole params (met_in_term d [] test) (met_in_comp d on_true ++ met_in_comp d on_false) m in
        let k = both whole params (met_in_comp d on_true) (met_in_comp d on_false) (r.1) in
        λ j n l cs. branch_outcome (term_agrees b a (r.0) j) (comp_agrees c a (k.0) j n l cs) (comp_agrees f a (k.1) j n l cs)
