-- What canonical trees denote in a valuation. A term is read at a skeleton; a head with its arguments
-- denotes an entry, whose skeleton is that of the head's answer. A computation is run by fuel, and a
-- step takes no fuel of its own. A position says nothing.
use Rattle.std.specs.Prelude.{List, [], ◌∷◌, ◌++◌, slice_get, Option, Some, None}
use Rattle.htt_syntax.specs.Trees.{TermTree, FixTree, CompTree, StepTree, TermTrees, t_var, t_val, t_app, t_inst, t_lam}
use Rattle.htt_syntax.specs.Trees.{t_lam_t, t_do, t_fix, t_word, t_bool, t_loc, t_unit, t_pair, t_fst, t_snd, t_not}
use Rattle.htt_syntax.specs.Trees.{t_bin, t_eq, t_sel, t_made, t_at, x_param, x_body, c_ret, c_step, s_run, s_alloc}
use Rattle.htt_syntax.specs.Trees.{s_get, s_set, s_free, s_if, s_claim, no_terms, more_terms}
use Rattle.theory_values.specs.Values.{Value, v_word, v_bool, v_loc, v_unit, v_pair, value_of_op, value_of_not}
use Rattle.theory_values.specs.Values.{value_of_eq, value_of_sel, value_of_fst, value_of_snd}
use Rattle.theory_truth.specs.TermValue.{value_or_unit}
use Rattle.theory_canonical.specs.Skeletons.{Skeleton, sk_o, sk_c, sk_arrow, sk_all, skeleton}
use Rattle.theory_denotation.specs.Outcomes.{Running, ended, then_outcome, alloc_outcome, get_outcome, set_outcome}
use Rattle.theory_denotation.specs.Outcomes.{free_outcome, branch_outcome}
use Rattle.theory_denotation.specs.Valuations.{Domain, ValuationEntry, den_mono, den_term, Valuation, no_entry}
use Rattle.theory_denotation.specs.Valuations.{nothing_at, entry_at, value_of_entry, running_of_entry, applied_entry}
use Rattle.theory_denotation.specs.Valuations.{instance_entry, at_skeleton, mono_in, HeadEntries}
use Rattle.theory_denotation.specs.Recursion.{recursion}

-- The skeleton of a recursive function.
unfoldable pub fix_skeleton : FixTree → Skeleton
fix_skeleton (x_param ty others) = sk_arrow (skeleton ty) (fix_skeleton others)
fix_skeleton (x_body spec comp) = sk_c

unfoldable mutual
  pub term_den : HeadEntries → Valuation → TermTree → (s : Skeleton) → Domain s
  term_den e w (t_var index) s = at_skeleton (value_of_entry (entry_at w index)) s
  term_den e w (t_val number) s = at_skeleton (value_of_entry (e.vals number)) s
  term_den e w (t_made number values) s = at_skeleton (value_of_entry (e.made number (terms_den e w values))) s
  term_den e w (t_app function argument) s =
      at_skeleton (value_of_entry (applied_entry (head_den e w function) (term_den e w argument))) s
  term_den e w (t_inst function mono) s =
      at_skeleton (value_of_entry (instance_entry (head_den e w function) (mono_in w mono))) s
  term_den e w (t_word word) s = at_skeleton (v_word word) s
  term_den e w (t_bool truth) s = at_skeleton (v_bool truth) s
  term_den e w (t_loc place) s = at_skeleton (v_loc place) s
  term_den e w t_unit s = at_skeleton v_unit s
  term_den e w (t_pair left right) s = at_skeleton (v_pair (term_den e w left sk_o) (term_den e w right sk_o)) s
  term_den e w (t_fst pair) s = at_skeleton (value_or_unit (value_of_fst (term_den e w pair sk_o))) s
  term_den e w (t_snd pair) s = at_skeleton (value_or_unit (value_of_snd (term_den e w pair sk_o))) s
  term_den e w (t_not term) s = at_skeleton (value_or_unit (value_of_not (term_den e w term sk_o))) s
  term_den e w (t_bin op left right) s =
      at_skeleton (value_or_unit (value_of_op op (term_den e w left sk_o) (term_den e w right sk_o))) s
  term_den e w (t_eq mono left right) s =
      at_skeleton (value_or_unit (value_of_eq (mono_in w mono) (term_den e w left sk_o) (term_den e w right sk_o))) s
  term_den e w (t_sel mono test on_true on_false) s =
      at_skeleton
      (value_or_unit (value_of_sel (term_den e w test sk_o) (term_den e w on_true sk_o) (term_den e w on_false sk_o))) s
  term_den e w (t_at at term) s = term_den e w term s
  term_den e w (t_lam body) (sk_arrow s t) = λ d. term_den e (den_term s d ∷ w) body t
  term_den e w (t_lam_t body) (sk_all s) = λ t. term_den e (den_mono t ∷ w) body s
  term_den e w (t_do comp) sk_c = comp_den e w comp
  term_den e w _ s = nothing_at s

  pub terms_den : HeadEntries → Valuation → TermTrees → List Value
  terms_den e w no_terms = []
  terms_den e w (more_terms first others) = term_den e w first sk_o ∷ terms_den e w others

  pub head_den : HeadEntries → Valuation → TermTree → ValuationEntry
  head_den e w (t_var index) = entry_at w index
  head_den e w (t_val number) = e.vals number
  head_den e w (t_made number values) = e.made number (terms_den e w values)
  head_den e w (t_app function argument) = applied_entry (head_den e w function) (term_den e w argument)
  head_den e w (t_inst function mono) = instance_entry (head_den e w function) (mono_in w mono)
  head_den e w (t_at at term) = head_den e w term
  head_den e w (t_fix at fix) =
      den_term (fix_skeleton fix)
      (recursion (fix_skeleton fix) (λ own. fix_den e w (den_term (fix_skeleton fix) own) fix (fix_skeleton fix)))
  head_den e w _ = no_entry

  -- a recursive function from a parameter on, where its own entry stands inside all of them
  pub fix_den : HeadEntries → Valuation → ValuationEntry → FixTree → (s : Skeleton) → Domain s
  fix_den e w own (x_param ty others) (sk_arrow s t) = λ d. fix_den e (den_term s d ∷ w) own others t
  fix_den e w own (x_body spec comp) sk_c = comp_den e (own ∷ w) comp
  fix_den e w own _ s = nothing_at s

  pub comp_den : HeadEntries → Valuation → CompTree → Running
  comp_den e w (c_ret term) n h cs = ended (term_den e w term sk_o) h cs
  comp_den e w (c_step step others) n h cs =
      then_outcome (step_den e w step n h cs) (λ v k ds. comp_den e (den_term sk_o v ∷ w) others n k ds)

  pub step_den : HeadEntries → Valuation → StepTree → Running
  step_den e w (s_run term mono) n h cs = running_of_entry (head_den e w term) n h cs
  step_den e w (s_alloc mono value) n h cs = alloc_outcome (term_den e w value sk_o) h cs
  step_den e w (s_get mono place) n h cs = get_outcome (mono_in w mono) (term_den e w place sk_o) h cs
  step_den e w (s_set mono place value) n h cs =
      set_outcome (mono_in w mono) (term_den e w place sk_o) (term_den e w value sk_o) h cs
  step_den e w (s_free mono place) n h cs = free_outcome (mono_in w mono) (term_den e w place sk_o) h cs
  step_den e w (s_if mono test on_true on_false) n h cs =
      branch_outcome (term_den e w test sk_o) (comp_den e w on_true n h cs) (comp_den e w on_false n h cs)
  step_den e w (s_claim formula) n h cs = ended v_unit h cs

-- A value of a file: its canonical term and the skeleton of its type.
pub record ValTree : Type 0 where
  pub term : TermTree
  pub skeleton : Skeleton

abbrev pub entry_or_none : Option ValuationEntry → ValuationEntry
entry_or_none (Some x) = x
entry_or_none None = no_entry

-- The entries of the values so far, and no made function.
abbrev pub heads_of_entries : List ValuationEntry → HeadEntries
heads_of_entries known = record { vals = λ n. entry_or_none (slice_get known n); made = λ n values. no_entry }

abbrev pub val_entry : HeadEntries → ValTree → ValuationEntry
val_entry e v = den_term v.skeleton (term_den e [] v.term v.skeleton)

-- Each value of a file knows those before it. Its use takes no fuel, since it can't use itself.
abbrev pub entries_of_vals : List ValuationEntry → List ValTree → List ValuationEntry
entries_of_vals known [] = known
entries_of_vals known (v ∷ vs) = entries_of_vals (known ++ (val_entry (heads_of_entries known) v ∷ [])) vs

abbrev pub heads_of_vals : List ValTree → HeadEntries
heads_of_vals vs = heads_of_entries (entries_of_vals [] vs)
