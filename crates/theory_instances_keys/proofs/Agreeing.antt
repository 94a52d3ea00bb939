-- Valuations that agree at the variables that occur in a tree give it the same denotation.
use Rattle.std.proofs.Common.{◌≡◌, ℕ, zero, suc, List, [], ◌∷◌, ◌++◌, All, Option, Some, None, refl, sym, ap, ◌∙◌}
use Rattle.std.proofs.lemmas.List.Elements.{All-head, All-tail}
use Rattle.std.proofs.lemmas.Option.{same_Some}
use Rattle.htt_syntax.specs.Trees.{MonoTree, TermTree, FixTree, CompTree, StepTree, TermTrees, m_word, m_bool, m_loc, m_unit, m_pair, m_var, t_var, t_made}
use Rattle.htt_syntax.specs.Trees.{t_app, t_inst, t_pair, t_fst}
use Rattle.htt_syntax.specs.Trees.{t_snd, t_not, t_bin, t_eq, t_sel, t_at, t_lam, t_lam_t, t_do, t_fix, no_terms, more_terms, x_param, x_body, c_ret, c_step}
use Rattle.htt_syntax.specs.Trees.{s_run, s_alloc, s_get, s_set}
use Rattle.htt_syntax.specs.Trees.{s_free, s_if, s_claim}
use Rattle.theory_values.specs.Values.{v_pair, value_of_op, value_of_not, value_of_eq, value_of_sel, value_of_fst, value_of_snd}
use Rattle.theory_truth.specs.TermValue.{value_or_unit}
use Rattle.theory_canonical.specs.Skeletons.{Skeleton, sk_o, sk_c, sk_arrow, sk_all}
use Rattle.theory_denotation.specs.Outcomes.{ended, then_outcome, alloc_outcome, get_outcome, set_outcome, free_outcome, branch_outcome}
use Rattle.theory_denotation.specs.Valuations.{Domain, ValuationEntry, den_mono, den_term, Valuation, entry_at, mono_of_entry, value_of_entry, running_of_entry}
use Rattle.theory_denotation.specs.Valuations.{applied_entry, instance_entry}
use Rattle.theory_denotation.specs.Valuations.{at_skeleton, mono_in, HeadEntries}
use Rattle.theory_denotation.specs.Recursion.{recursion}
use Rattle.theory_denotation.specs.Denotation.{fix_skeleton, term_den, terms_den, head_den, fix_den, comp_den, step_den}
use Rattle.theory_instances.specs.Calls.{Argument, of_term, of_mono}
use Rattle.theory_instances.specs.Occurrences.{Occurrence, outside, met, met_in_term, met_in_terms, met_in_fix, met_in_comp, met_in_step, met_in_ty}
use Rattle.theory_instances.specs.Occurrences.{met_in_triple}
use Rattle.theory_instances_keys.specs.Laws.{OnlyMetCount}

abbrev pub EachMet : Valuation → Valuation → List Occurrence → Type 0
EachMet base base' [] = Unit {0}
EachMet base base' (o ∷ others) = (entry_at base o.variable ≡ entry_at base' o.variable) × EachMet base base' others

both : (base base' : Valuation) (xs ys : List Occurrence) → EachMet base base' (xs ++ ys) → EachMet base base' xs × EachMet base base' ys
both base base' [] ys m = (tt, m)
both base base' (x ∷ xs) ys m = let r = both base base' xs ys (m.1) in ((m.0, r.0), r.1)

-- d binders inside of two valuations
record Inside (base base' : Valuation) (d : ℕ) (w w' : Valuation) : Type 0 where
  inner : (n : ℕ) → outside d n ≡ None → entry_at w n ≡ entry_at w' n
  left : (n v : ℕ) → outside d n ≡ Some v → entry_at w n ≡ entry_at base v
  right : (n v : ℕ) → outside d n ≡ Some v → entry_at w' n ≡ entry_at base' v
  monos : (n : ℕ) → mono_of_entry (entry_at w n) ≡ mono_of_entry (entry_at w' n)

next_left : (base w : Valuation) (d : ℕ) (x : ValuationEntry)
    → ((n v : ℕ) → outside d n ≡ Some v → entry_at w n ≡ entry_at base v)
    → (n v : ℕ)
    → outside (suc d) n ≡ Some v
    → entry_at (x ∷ w) n ≡ entry_at base v
next_left base w d x a zero v q = absurd (cc)
next_left base w d x a (suc n) v q = a n v q

next_inner : (w w' : Valuation) (d : ℕ) (x : ValuationEntry)
    → ((n : ℕ) → outside d n ≡ None → entry_at w n ≡ entry_at w' n)
    → (n : ℕ)
    → outside (suc d) n ≡ None
    → entry_at (x ∷ w) n ≡ entry_at (x ∷ w') n
next_inner w w' d x a zero q = refl
next_inner w w' d x a (suc n) q = a n q

next_monos : (w w' : Valuation) (x : ValuationEntry)
    → ((n : ℕ) → mono_of_entry (entry_at w n) ≡ mono_of_entry (entry_at w' n))
    → (n : ℕ)
    → mono_of_entry (entry_at (x ∷ w) n) ≡ mono_of_entry (entry_at (x ∷ w') n)
next_monos w w' x a zero = refl
next_monos w w' x a (suc n) = a n

module _ {base base' : Valuation} where
  next : {d : ℕ} {w w' : Valuation} (x : ValuationEntry) → Inside base base' d w w' → Inside base base' (suc d) (x ∷ w) (x ∷ w')
  next {d = d} {w = w} {w' = w'} x a = record {
    inner = next_inner w w' d x a.inner;
    left = next_left base w d x a.left;
    right = next_left base' w' d x a.right;
    monos = next_monos w w' x a.monos;
  }

  mono_same : {d : ℕ} {w w' : Valuation} → Inside base base' d w w' → (t : MonoTree) → mono_in w t ≡ mono_in w' t
  mono_same a m_word = refl
  mono_same a m_bool = refl
  mono_same a m_loc = refl
  mono_same a m_unit = refl
  mono_same a (m_pair t u) = λ j. m_pair (mono_same a t j) (mono_same a u j)
  mono_same a (m_var index) = a.monos index

  entry_same : {d : ℕ} {w w' : Valuation} (index : ℕ) (pending : List Argument)
      → Inside base base' d w w'
      → (o : Option ℕ)
      → outside d index ≡ o
      → EachMet base base' (met d pending o)
      → entry_at w index ≡ entry_at w' index
  entry_same index pending a None q m = a.inner index q
  entry_same index pending a (Some v) q m = a.left index v q ∙ m.0 ∙ sym (a.right index v q)

  mutual
    unfolding term_den met_in_term

    term_same : (e : HeadEntries) (term : TermTree) {d : ℕ} {w w' : Valuation}
        → Inside base base' d w w'
        → (pending : List Argument)
        → EachMet base base' (met_in_term d pending term)
        → (s : Skeleton)
        → term_den e w term s ≡ term_den e w' term s
    term_same e (t_var index) {d = d} a pending m s = λ j. at_skeleton (value_of_entry (entry_same index pending a (outside d index) refl m j)) s
    term_same e (t_made number values) a pending m s = λ j. at_skeleton (value_of_entry (e.made number (terms_same e values a m j))) s
    term_same e (t_app function argument) {d = d} a pending m s =
        let r = both base base' (met_in_term d (of_term argument ∷ pending) function) (met_in_term d [] argument) m in
        λ j.
        at_skeleton (value_of_entry
        (applied_entry (head_same e function a (of_term argument ∷ pending) (r.0) j) (λ u. term_same e argument a [] (r.1) u j))) s
    term_same e (t_inst function mono) a pending m s =
        λ j. at_skeleton (value_of_entry (instance_entry (head_same e function a (of_mono mono ∷ pending) m j) (mono_same a mono j))) s
    term_same e (t_pair left right) {d = d} a pending m s =
        let r = both base base' (met_in_term d [] left) (met_in_term d [] right) m in
        λ j. at_skeleton (v_pair (term_same e left a [] (r.0) sk_o j) (term_same e right a [] (r.1) sk_o j)) s
    term_same e (t_fst pair) a pending m s = λ j. at_skeleton (value_or_unit (value_of_fst (term_same e pair a [] m sk_o j))) s
    term_same e (t_snd pair) a pending m s = λ j. at_skeleton (value_or_unit (value_of_snd (term_same e pair a [] m sk_o j))) s
    term_same e (t_not term) a pending m s = λ j. at_skeleton (value_or_unit (value_of_not (term_same e term a [] m sk_o j))) s
    term_same e (t_bin op left right) {d = d} a pending m s =
        let r = both base base' (met_in_term d [] left) (met_in_term d [] right) m in
        λ j. at_skeleton (value_or_unit (value_of_op op (term_same e left a [] (r.0) sk_o j) (term_same e right a [] (r.1) sk_o j))) s
    term_same e (t_eq mono left right) {d = d} a pending m s =
        let r = both base base' (met_in_term d [] left) (met_in_term d [] right) m in
        λ j. at_skeleton (value_or_unit (value_of_eq (mono_same a mono j) (term_same e left a [] (r.0) sk_o j) (term_same e right a [] (r.1) sk_o j))) s
    term_same e (t_sel mono test on_true on_false) {d = d} a pending m s =
        let r = both base base' (met_in_term d [] test) (met_in_term d [] on_true ++ met_in_term d [] on_false) m in
        let k = both base base' (met_in_term d [] on_true) (met_in_term d [] on_false) (r.1) in
        λ j.
        at_skeleton (value_or_unit
        (value_of_sel (term_same e test a [] (r.0) sk_o j) (term_same e on_true a [] (k.0) sk_o j)
        (term_same e on_false a [] (k.1) sk_o j))) s
    term_same e (t_at at term) a pending m s = term_same e term a pending m s
    term_same e (t_lam body) a pending m (sk_arrow s t) = λ j c. term_same e body (next (den_term s c) a) [] m t j
    term_same e (t_lam_t body) a pending m (sk_all s) = λ j t. term_same e body (next (den_mono t) a) [] m s j
    term_same e (t_do comp) a pending m sk_c = comp_same e comp a m
    term_same e _ a pending m s = refl

    terms_same : (e : HeadEntries) (terms : TermTrees) {d : ℕ} {w w' : Valuation}
        → Inside base base' d w w'
        → EachMet base base' (met_in_terms d terms)
        → terms_den e w terms ≡ terms_den e w' terms
    terms_same e no_terms a m = refl
    terms_same e (more_terms first others) {d = d} a m =
        let r = both base base' (met_in_term d [] first) (met_in_terms d others) m in
        λ j. term_same e first a [] (r.0) sk_o j ∷ terms_same e others a (r.1) j

    head_same : (e : HeadEntries) (term : TermTree) {d : ℕ} {w w' : Valuation}
        → Inside base base' d w w'
        → (pending : List Argument)
        → EachMet base base' (met_in_term d pending term)
        → head_den e w term ≡ head_den e w' term
    head_same e (t_var index) {d = d} a pending m = entry_same index pending a (outside d index) refl m
    head_same e (t_made number values) a pending m = λ j. e.made number (terms_same e values a m j)
    head_same e (t_app function argument) {d = d} a pending m =
        let r = both base base' (met_in_term d (of_term argument ∷ pending) function) (met_in_term d [] argument) m in
        λ j. applied_entry (head_same e function a (of_term argument ∷ pending) (r.0) j) (λ u. term_same e argument a [] (r.1) u j)
    head_same e (t_inst function mono) a pending m = λ j. instance_entry (head_same e function a (of_mono mono ∷ pending) m j) (mono_same a mono j)
    head_same e (t_at at term) a pending m = head_same e term a pending m
    head_same e (t_fix at fix) a pending m = λ j.
        den_term (fix_skeleton fix) (recursion (fix_skeleton fix) (λ own. fix_same e fix (den_term (fix_skeleton fix) own) a m (fix_skeleton fix) j))
    head_same e _ a pending m = refl

    fix_same : (e : HeadEntries) (fix : FixTree) (own : ValuationEntry) {d : ℕ} {w w' : Valuation}
        → Inside base base' d w w'
        → EachMet base base' (met_in_fix d fix)
        → (s : Skeleton)
        → fix_den e w own fix s ≡ fix_den e w' own fix s
    fix_same e (x_param ty others) own {d = d} a m (sk_arrow s t) =
        let r = both base base' (met_in_ty d ty) (met_in_fix (suc d) others) m in
        λ j c. fix_same e others own (next (den_term s c) a) (r.1) t j
    fix_same e (x_body spec comp) own {d = d} a m sk_c =
        let r = both base base' (met_in_triple d spec) (met_in_comp (suc d) comp) m in
        comp_same e comp (next own a) (r.1)
    fix_same e _ own a m s = refl

    comp_same : (e : HeadEntries) (comp : CompTree) {d : ℕ} {w w' : Valuation}
        → Inside base base' d w w'
        → EachMet base base' (met_in_comp d comp)
        → comp_den e w comp ≡ comp_den e w' comp
    comp_same e (c_ret term) a m = λ j n h cs. ended (term_same e term a [] m sk_o j) h cs
    comp_same e (c_step step others) {d = d} a m =
        let r = both base base' (met_in_step d step) (met_in_comp (suc d) others) m in
        λ j n h cs. then_outcome (step_same e step a (r.0) j n h cs) (λ v k ds. comp_same e others (next (den_term sk_o v) a) (r.1) j n k ds)

    step_same : (e : HeadEntries) (step : StepTree) {d : ℕ} {w w' : Valuation}
        → Inside base base' d w w'
        → EachMet base base' (met_in_step d step)
        → step_den e w step ≡ step_den e w' step
    step_same e (s_run term mono) a m = λ j n h cs. running_of_entry (head_same e term a [] m j) n h cs
    step_same e (s_alloc mono value) a m = λ j n h cs. alloc_outcome (term_same e value a [] m sk_o j) h cs
    step_same e (s_get mono place) a m = λ j n h cs. get_outcome (mono_same a mono j) (term_same e place a [] m sk_o j) h cs
    step_same e (s_set mono place value) {d = d} a m =
        let r = both base base' (met_in_term d [] place) (met_in_term d [] value) m in
        λ j n h cs. set_outcome (mono_same a mono j) (term_same e place a [] (r.0) sk_o j) (term_same e value a [] (r.1) sk_o j) h cs
    step_same e (s_free mono place) a m = λ j n h cs. free_outcome (mono_same a mono j) (term_same e place a [] m sk_o j) h cs
    step_same e (s_if mono test on_true on_false) {d = d} a m =
        let r = both base base' (met_in_term d [] test) (met_in_comp d on_true ++ met_in_comp d on_false) m in
        let k = both base base' (met_in_comp d on_true) (met_in_comp d on_false) (r.1) in
        λ j n h cs. branch_outcome (term_same e test a [] (r.0) sk_o j) (comp_same e on_true a (k.0) j n h cs) (comp_same e on_false a (k.1) j n h cs)
    step_same e (s_claim formula) a m = refl

  start : ((n : ℕ) → mono_of_entry (entry_at base n) ≡ mono_of_entry (entry_at base' n)) → Inside base base' zero base base'
  start monos = record {
    inner = λ n q. absurd (let r : Some n ≡ None = q in cc);
    left = λ n v q. ap (entry_at base) (same_Some n v q);
    right = λ n v q. ap (entry_at base') (same_Some n v q);
    monos = monos;
  }

each_met : (base base' : Valuation) (xs : List Occurrence)
    → All (λ (o : Occurrence). entry_at base o.variable ≡ entry_at base' o.variable) xs
    → EachMet base base' xs
each_met base base' [] a = tt
each_met base base' (x ∷ xs) a = (
  All-head (λ (o : Occurrence). entry_at base o.variable ≡ entry_at base' o.variable) x xs a,
  each_met base base' xs (All-tail (λ (o : Occurrence). entry_at base o.variable ≡ entry_at base' o.variable) x xs a),
)

-- where each occurrence is known to agree
pub head_by_met : (e : HeadEntries) (term : TermTree) (w w' : Valuation)
    → ((n : ℕ) → mono_of_entry (entry_at w n) ≡ mono_of_entry (entry_at w' n))
    → EachMet w w' (met_in_term zero [] term)
    → head_den e w term ≡ head_den e w' term
head_by_met e term w w' monos m = head_same e term (start monos) [] m

pub term_by_met : (e : HeadEntries) (term : TermTree) (w w' : Valuation)
    → ((n : ℕ) → mono_of_entry (entry_at w n) ≡ mono_of_entry (entry_at w' n))
    → EachMet w w' (met_in_term zero [] term)
    → (s : Skeleton)
    → term_den e w term s ≡ term_den e w' term s
term_by_met e term w w' monos m s = term_same e term (start monos) [] m s

pub only_met : OnlyMetCount
only_met = record {
  terms = λ e w w' term s a. term_by_met e term w w' a.monos (each_met w w' (met_in_term zero [] term) a.entries) s;
  heads = λ e w w' term a. head_by_met e term w w' a.monos (each_met w w' (met_in_term zero [] term) a.entries);
}
