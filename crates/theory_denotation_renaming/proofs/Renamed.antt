-- A renamed term or computation denotes in one valuation what it denotes in the other.
use Rattle.std.proofs.Common.{◌≡◌, ℕ, zero, suc, ◌∷◌, refl, ap}
use Rattle.htt_syntax.specs.Trees.{MonoTree, TermTree, FixTree, CompTree, StepTree, TermTrees, m_word, m_bool, m_loc, m_unit, m_pair, m_var, t_var, t_app}
use Rattle.htt_syntax.specs.Trees.{t_inst, t_lam, t_lam_t, t_do, t_fix, t_pair, t_fst, t_snd, t_not, t_bin, t_eq, t_sel, t_made, t_at, x_param, x_body, c_ret}
use Rattle.htt_syntax.specs.Trees.{c_step, s_run, s_alloc, s_get, s_set, s_free, s_if, s_claim, no_terms, more_terms}
use Rattle.theory_renaming.specs.Renaming.{Map, lift, rename_mono, rename_term, rename_fix, rename_comp, rename_step, rename_terms}
use Rattle.theory_values.specs.Values.{v_pair, value_of_op, value_of_not, value_of_eq, value_of_sel, value_of_fst, value_of_snd}
use Rattle.theory_truth.specs.TermValue.{value_or_unit}
use Rattle.theory_canonical.specs.Skeletons.{Skeleton, sk_o, sk_c, sk_arrow, sk_all}
use Rattle.theory_canonical.proofs.Renamed.{skeleton_stays}
use Rattle.theory_denotation.specs.Outcomes.{ended, then_outcome, alloc_outcome, get_outcome, set_outcome, free_outcome, branch_outcome}
use Rattle.theory_denotation.specs.Valuations.{ValuationEntry, den_mono, den_term, Valuation, entry_at, mono_of_entry, value_of_entry, running_of_entry}
use Rattle.theory_denotation.specs.Valuations.{applied_entry, instance_entry, at_skeleton, mono_in, HeadEntries}
use Rattle.theory_denotation.specs.Recursion.{recursion}
use Rattle.theory_denotation.specs.Denotation.{fix_skeleton, term_den, terms_den, head_den, fix_den, comp_den, step_den}
use Rattle.theory_denotation_renaming.specs.Along.{AgreeAlong}

pub agree_next : {m : Map} {w w' : Valuation} (x : ValuationEntry) → AgreeAlong m w w' → AgreeAlong (lift m) (x ∷ w) (x ∷ w')
unfolding lift
agree_next {m = m} {w = w} {w' = w'} x a = record { at = go }
  where
    go : (n : ℕ) → entry_at (x ∷ w') (lift m n) ≡ entry_at (x ∷ w) n
    go zero = refl
    go (suc n) = a.at n

pub agree_suc : (x : ValuationEntry) (w : Valuation) → AgreeAlong suc w (x ∷ w)
agree_suc x w = record { at = λ n. refl }

pub mono_renamed : {m : Map} {w w' : Valuation} → AgreeAlong m w w' → (t : MonoTree) → mono_in w' (rename_mono m t) ≡ mono_in w t
unfolding rename_mono
mono_renamed a m_word = refl
mono_renamed a m_bool = refl
mono_renamed a m_loc = refl
mono_renamed a m_unit = refl
mono_renamed a (m_pair left right) = λ j. m_pair (mono_renamed a left j) (mono_renamed a right j)
mono_renamed a (m_var index) = ap mono_of_entry (a.at index)

pub fix_skeleton_renamed : (m : Map) (fix : FixTree) → fix_skeleton (rename_fix m fix) ≡ fix_skeleton fix
unfolding fix_skeleton rename_fix
fix_skeleton_renamed m (x_param ty others) = λ j. sk_arrow (skeleton_stays m ty j) (fix_skeleton_renamed (lift m) others j)
fix_skeleton_renamed m (x_body spec comp) = refl

mutual
  unfolding term_den rename_term

  pub term_renamed : (e : HeadEntries) (term : TermTree) {m : Map} {w w' : Valuation}
      → AgreeAlong m w w'
      → (s : Skeleton)
      → term_den e w' (rename_term m term) s ≡ term_den e w term s
  term_renamed e (t_var index) a s = λ j. at_skeleton (value_of_entry (a.at index j)) s
  term_renamed e (t_made number values) a s = λ j. at_skeleton (value_of_entry (e.made number (terms_renamed e values a j))) s
  term_renamed e (t_app function argument) a s =
      λ j. at_skeleton (value_of_entry (applied_entry (head_renamed e function a j) (λ u. term_renamed e argument a u j))) s
  term_renamed e (t_inst function mono) a s = λ j. at_skeleton (value_of_entry (instance_entry (head_renamed e function a j) (mono_renamed a mono j))) s
  term_renamed e (t_pair left right) a s = λ j. at_skeleton (v_pair (term_renamed e left a sk_o j) (term_renamed e right a sk_o j)) s
  term_renamed e (t_fst pair) a s = λ j. at_skeleton (value_or_unit (value_of_fst (term_renamed e pair a sk_o j))) s
  term_renamed e (t_snd pair) a s = λ j. at_skeleton (value_or_unit (value_of_snd (term_renamed e pair a sk_o j))) s
  term_renamed e (t_not term) a s = λ j. at_skeleton (value_or_unit (value_of_not (term_renamed e term a sk_o j))) s
  term_renamed e (t_bin op left right) a s = λ j. at_skeleton (value_or_unit (value_of_op op (term_renamed e left a sk_o j) (term_renamed e right a sk_o j))) s
  term_renamed e (t_eq mono left right) a s = λ j.
      at_skeleton (value_or_unit (value_of_eq (mono_renamed a mono j) (term_renamed e left a sk_o j) (term_renamed e right a sk_o j))) s
  term_renamed e (t_sel mono test on_true on_false) a s = λ j.
      at_skeleton
      (value_or_unit (value_of_sel (term_renamed e test a sk_o j) (term_renamed e on_true a sk_o j) (term_renamed e on_false a sk_o j))) s
  term_renamed e (t_at at term) a s = term_renamed e term a s
  term_renamed e (t_lam body) a (sk_arrow s t) = λ j d. term_renamed e body (agree_next (den_term s d) a) t j
  term_renamed e (t_lam_t body) a (sk_all s) = λ j t. term_renamed e body (agree_next (den_mono t) a) s j
  term_renamed e (t_do comp) a sk_c = comp_renamed e comp a
  term_renamed e _ a s = refl

  pub terms_renamed : (e : HeadEntries) (terms : TermTrees) {m : Map} {w w' : Valuation}
      → AgreeAlong m w w'
      → terms_den e w' (rename_terms m terms) ≡ terms_den e w terms
  terms_renamed e no_terms a = refl
  terms_renamed e (more_terms first others) a = λ j. term_renamed e first a sk_o j ∷ terms_renamed e others a j

  pub head_renamed : (e : HeadEntries) (term : TermTree) {m : Map} {w w' : Valuation}
      → AgreeAlong m w w'
      → head_den e w' (rename_term m term) ≡ head_den e w term
  head_renamed e (t_var index) a = a.at index
  head_renamed e (t_made number values) a = λ j. e.made number (terms_renamed e values a j)
  head_renamed e (t_app function argument) a = λ j. applied_entry (head_renamed e function a j) (λ u. term_renamed e argument a u j)
  head_renamed e (t_inst function mono) a = λ j. instance_entry (head_renamed e function a j) (mono_renamed a mono j)
  head_renamed e (t_at at term) a = head_renamed e term a
  head_renamed e (t_fix at fix) {m = m} a = λ j.
      den_term (fix_skeleton_renamed m fix j)
      (recursion (fix_skeleton_renamed m fix j)
      (λ own. fix_renamed e fix (den_term (fix_skeleton_renamed m fix j) own) a (fix_skeleton_renamed m fix j) j))
  head_renamed e _ a = refl

  pub fix_renamed : (e : HeadEntries) (fix : FixTree) (own : ValuationEntry) {m : Map} {w w' : Valuation}
      → AgreeAlong m w w'
      → (s : Skeleton)
      → fix_den e w' own (rename_fix m fix) s ≡ fix_den e w own fix s
  fix_renamed e (x_param ty others) own a (sk_arrow s t) = λ j d. fix_renamed e others own (agree_next (den_term s d) a) t j
  fix_renamed e (x_body spec comp) own a sk_c = comp_renamed e comp (agree_next own a)
  fix_renamed e _ own a s = refl

  pub comp_renamed : (e : HeadEntries) (comp : CompTree) {m : Map} {w w' : Valuation}
      → AgreeAlong m w w'
      → comp_den e w' (rename_comp m comp) ≡ comp_den e w comp
  comp_renamed e (c_ret term) a = λ j n h cs. ended (term_renamed e term a sk_o j) h cs
  comp_renamed e (c_step step others) a =
      λ j n h cs. then_outcome (step_renamed e step a j n h cs) (λ v k ds. comp_renamed e others (agree_next (den_term sk_o v) a) j n k ds)

  pub step_renamed : (e : HeadEntries) (step : StepTree) {m : Map} {w w' : Valuation}
      → AgreeAlong m w w'
      → step_den e w' (rename_step m step) ≡ step_den e w step
  step_renamed e (s_run term mono) a = λ j n h cs. running_of_entry (head_renamed e term a j) n h cs
  step_renamed e (s_alloc mono value) a = λ j n h cs. alloc_outcome (term_renamed e value a sk_o j) h cs
  step_renamed e (s_get mono place) a = λ j n h cs. get_outcome (mono_renamed a mono j) (term_renamed e place a sk_o j) h cs
  step_renamed e (s_set mono place value) a =
      λ j n h cs. set_outcome (mono_renamed a mono j) (term_renamed e place a sk_o j) (term_renamed e value a sk_o j) h cs
  step_renamed e (s_free mono place) a = λ j n h cs. free_outcome (mono_renamed a mono j) (term_renamed e place a sk_o j) h cs
  step_renamed e (s_if mono test on_true on_false) a =
      λ j n h cs. branch_outcome (term_renamed e test a sk_o j) (comp_renamed e on_true a j n h cs) (comp_renamed e on_false a j n h cs)
  step_renamed e (s_claim formula) a = refl
