-- Positions say nothing: a tree without its positions denotes what the tree denotes.
use Rattle.std.proofs.Common.{◌≡◌, ◌∷◌, refl}
use Rattle.htt_syntax.specs.Trees.{TyTree, TermTree, FixTree, CompTree, StepTree, TermTrees, y_mono, y_fun, y_all, y_hoare, y_at, t_var, t_app, t_inst, t_lam}
use Rattle.htt_syntax.specs.Trees.{t_lam_t, t_do, t_fix, t_pair, t_fst, t_snd, t_not, t_bin, t_eq, t_sel, t_made, t_at, x_param, x_body, c_ret, c_step, s_run}
use Rattle.htt_syntax.specs.Trees.{s_alloc, s_get, s_set, s_free, s_if, s_claim, no_terms, more_terms}
use Rattle.theory_values.specs.Values.{v_pair, value_of_op, value_of_not, value_of_eq, value_of_sel, value_of_fst, value_of_snd}
use Rattle.theory_truth.specs.TermValue.{value_or_unit}
use Rattle.theory_canonical.specs.Skeletons.{Skeleton, sk_o, sk_c, sk_arrow, sk_all, skeleton}
use Rattle.theory_typing.specs.Positions.{plain_ty, plain_term, plain_fix, plain_comp, plain_step, plain_terms}
use Rattle.theory_denotation.specs.Outcomes.{ended, then_outcome, alloc_outcome, get_outcome, set_outcome, free_outcome, branch_outcome}
use Rattle.theory_denotation.specs.Valuations.{ValuationEntry, den_mono, den_term, Valuation, entry_at, value_of_entry, running_of_entry, applied_entry}
use Rattle.theory_denotation.specs.Valuations.{instance_entry, at_skeleton, mono_in, HeadEntries}
use Rattle.theory_denotation.specs.Recursion.{recursion}
use Rattle.theory_denotation.specs.Denotation.{fix_skeleton, term_den, terms_den, head_den, fix_den, comp_den, step_den}

pub plain_skeleton : (ty : TyTree) → skeleton (plain_ty ty) ≡ skeleton ty
unfolding skeleton plain_ty
plain_skeleton (y_mono mono) = refl
plain_skeleton (y_fun argument answer) = λ j. sk_arrow (plain_skeleton argument j) (plain_skeleton answer j)
plain_skeleton (y_all body) = λ j. sk_all (plain_skeleton body j)
plain_skeleton (y_hoare spec) = refl
plain_skeleton (y_at at ty) = plain_skeleton ty

pub fix_skeleton_plain : (fix : FixTree) → fix_skeleton (plain_fix fix) ≡ fix_skeleton fix
unfolding fix_skeleton plain_ty
fix_skeleton_plain (x_param ty others) = λ j. sk_arrow (plain_skeleton ty j) (fix_skeleton_plain others j)
fix_skeleton_plain (x_body spec comp) = refl

mutual
  unfolding term_den plain_ty

  pub term_plain : (e : HeadEntries) (term : TermTree) (w : Valuation) → (s : Skeleton) → term_den e w (plain_term term) s ≡ term_den e w term s
  term_plain e (t_var index) w s = λ j. at_skeleton (value_of_entry (entry_at w index)) s
  term_plain e (t_made number values) w s = λ j. at_skeleton (value_of_entry (e.made number (terms_plain e values w j))) s
  term_plain e (t_app function argument) w s =
      λ j. at_skeleton (value_of_entry (applied_entry (head_plain e function w j) (λ u. term_plain e argument w u j))) s
  term_plain e (t_inst function mono) w s = λ j. at_skeleton (value_of_entry (instance_entry (head_plain e function w j) (mono_in w mono))) s
  term_plain e (t_pair left right) w s = λ j. at_skeleton (v_pair (term_plain e left w sk_o j) (term_plain e right w sk_o j)) s
  term_plain e (t_fst pair) w s = λ j. at_skeleton (value_or_unit (value_of_fst (term_plain e pair w sk_o j))) s
  term_plain e (t_snd pair) w s = λ j. at_skeleton (value_or_unit (value_of_snd (term_plain e pair w sk_o j))) s
  term_plain e (t_not term) w s = λ j. at_skeleton (value_or_unit (value_of_not (term_plain e term w sk_o j))) s
  term_plain e (t_bin op left right) w s = λ j. at_skeleton (value_or_unit (value_of_op op (term_plain e left w sk_o j) (term_plain e right w sk_o j))) s
  term_plain e (t_eq mono left right) w s =
      λ j. at_skeleton (value_or_unit (value_of_eq (mono_in w mono) (term_plain e left w sk_o j) (term_plain e right w sk_o j))) s
  term_plain e (t_sel mono test on_true on_false) w s = λ j.
      at_skeleton
      (value_or_unit (value_of_sel (term_plain e test w sk_o j) (term_plain e on_true w sk_o j) (term_plain e on_false w sk_o j))) s
  term_plain e (t_at at term) w s = term_plain e term w s
  term_plain e (t_lam body) w (sk_arrow s t) = λ j d. term_plain e body (den_term s d ∷ w) t j
  term_plain e (t_lam_t body) w (sk_all s) = λ j t. term_plain e body (den_mono t ∷ w) s j
  term_plain e (t_do comp) w sk_c = comp_plain e comp w
  term_plain e _ w s = refl

  pub terms_plain : (e : HeadEntries) (terms : TermTrees) (w : Valuation) → terms_den e w (plain_terms terms) ≡ terms_den e w terms
  terms_plain e no_terms w = refl
  terms_plain e (more_terms first others) w = λ j. term_plain e first w sk_o j ∷ terms_plain e others w j

  pub head_plain : (e : HeadEntries) (term : TermTree) (w : Valuation) → head_den e w (plain_term term) ≡ head_den e w term
  head_plain e (t_var index) w = refl
  head_plain e (t_made number values) w = λ j. e.made number (terms_plain e values w j)
  head_plain e (t_app function argument) w = λ j. applied_entry (head_plain e function w j) (λ u. term_plain e argument w u j)
  head_plain e (t_inst function mono) w = λ j. instance_entry (head_plain e function w j) (mono_in w mono)
  head_plain e (t_at at term) w = head_plain e term w
  head_plain e (t_fix at fix) w = λ j.
      den_term (fix_skeleton_plain fix j)
      (recursion (fix_skeleton_plain fix j)
      (λ own. fix_plain e fix (den_term (fix_skeleton_plain fix j) own) w (fix_skeleton_plain fix j) j))
  head_plain e _ w = refl

  pub fix_plain : (e : HeadEntries) (fix : FixTree) (own : ValuationEntry) (w : Valuation)
      → (s : Skeleton)
      → fix_den e w own (plain_fix fix) s ≡ fix_den e w own fix s
  fix_plain e (x_param ty others) own w (sk_arrow s t) = λ j d. fix_plain e others own (den_term s d ∷ w) t j
  fix_plain e (x_body spec comp) own w sk_c = comp_plain e comp (own ∷ w)
  fix_plain e _ own w s = refl

  pub comp_plain : (e : HeadEntries) (comp : CompTree) (w : Valuation) → comp_den e w (plain_comp comp) ≡ comp_den e w comp
  comp_plain e (c_ret term) w = λ j n h cs. ended (term_plain e term w sk_o j) h cs
  comp_plain e (c_step step others) w = λ j n h cs. then_outcome (step_plain e step w j n h cs) (λ v k ds. comp_plain e others (den_term sk_o v ∷ w) j n k ds)

  pub step_plain : (e : HeadEntries) (step : StepTree) (w : Valuation) → step_den e w (plain_step step) ≡ step_den e w step
  step_plain e (s_run term mono) w = λ j n h cs. running_of_entry (head_plain e term w j) n h cs
  step_plain e (s_alloc mono value) w = λ j n h cs. alloc_outcome (term_plain e value w sk_o j) h cs
  step_plain e (s_get mono place) w = λ j n h cs. get_outcome (mono_in w mono) (term_plain e place w sk_o j) h cs
  step_plain e (s_set mono place value) w = λ j n h cs. set_outcome (mono_in w mono) (term_plain e place w sk_o j) (term_plain e value w sk_o j) h cs
  step_plain e (s_free mono place) w = λ j n h cs. free_outcome (mono_in w mono) (term_plain e place w sk_o j) h cs
  step_plain e (s_if mono test on_true on_false) w =
      λ j n h cs. branch_outcome (term_plain e test w sk_o j) (comp_plain e on_true w j n h cs) (comp_plain e on_false w j n h cs)
  step_plain e (s_claim formula) w = refl
