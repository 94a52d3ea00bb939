-- Each substitution has at most one result.
use Rattle.std.proofs.Common.{◌≡◌, ℕ, zero, option_map, refl, ap}
use Rattle.htt_syntax.specs.Trees.{TyTree, TripleTree, TermTree, FixTree, CompTree, StepTree, FormulaTree, TermTrees, y_fun, y_all, y_hoare, triple, t_app}
use Rattle.htt_syntax.specs.Trees.{t_inst, t_lam, t_lam_t, t_do, t_fix, t_pair, t_fst, t_snd, t_not, t_bin, t_eq, t_sel, t_made, x_param, x_body, c_ret, c_step}
use Rattle.htt_syntax.specs.Trees.{s_run, s_alloc, s_get, s_set, s_free, s_if, f_and, f_or, f_imp, f_all_t, f_ex_t, f_all_h, f_ex_h, f_cell, f_block, f_eq}
use Rattle.htt_syntax.specs.Trees.{f_rec, more_terms}
use Rattle.theory_renaming.specs.Renaming.{rename_mono}
use Rattle.theory_canonical.specs.Skeletons.{Skeleton, sk_arrow, sk_all}
use Rattle.theory_canonical.specs.Folding.{folding}
use Rattle.theory_substitution.specs.Closing.{closing}
use Rattle.theory_substitution.specs.Monotypes.{put_mono_term}
use Rattle.theory_substitution.specs.Substitution.{Kept, Reduced, App, SubTerm, SubTerms, SubFix, SubComp, Bind, SubStep, SubTy, SubTriple, SubFormula, k_var}
use Rattle.theory_substitution.specs.Substitution.{k_val, k_made, k_fix, k_app, k_inst, r_var, r_app, r_inst, applied, u_kept, u_reduced, u_word, u_bool, u_loc}
use Rattle.theory_substitution.specs.Substitution.{u_unit, u_pair, u_fst, u_snd, u_not, u_bin, u_eq, u_sel, u_lam, u_lam_t, u_do, u_no_terms, u_more_terms}
use Rattle.theory_substitution.specs.Substitution.{u_x_param, u_x_body, u_ret, u_step, u_spliced, b_ret, b_step, u_run, u_s_alloc, u_s_get, u_s_set, u_s_free}
use Rattle.theory_substitution.specs.Substitution.{u_s_if, u_y_mono, u_y_fun, u_y_all, u_y_hoare, u_triple, u_f_tt, u_f_ff, u_f_and, u_f_or, u_f_imp, u_f_all_t}
use Rattle.theory_substitution.specs.Substitution.{u_f_ex_t, u_f_all_h, u_f_ex_h, u_f_emp, u_f_cell, u_f_block, u_f_join, u_f_same, u_f_eq, u_f_rec}

-- a head is x or another, never both
apart : {new : TermTree} {s left : Skeleton} {x : ℕ} {t r q : TermTree} → Kept new s x t r → Reduced new s x t q left → ⊥
apart (k_var e) (r_var f) = e f
apart (k_app k p) (r_app r q a) = apart k r
apart (k_inst k) (r_inst r) = apart k r
apart k_val r = elim r [ ]
apart (k_made p) r = elim r [ ]
apart (k_fix p) r = elim r [ ]

arrow_left : {s t u v : Skeleton} → sk_arrow s t ≡ sk_arrow u v → s ≡ u
arrow_left e = cc

arrow_right : {s t u v : Skeleton} → sk_arrow s t ≡ sk_arrow u v → t ≡ v
arrow_right e = cc

all_body : {s t : Skeleton} → sk_all s ≡ sk_all t → s ≡ t
all_body e = cc

lam_t_body : {t r : TermTree} → t_lam_t t ≡ t_lam_t r → t ≡ r
lam_t_body e = cc

do_comp : {e r : CompTree} → t_do e ≡ t_do r → e ≡ r
do_comp h = cc

moved : {f f' a a' r : TermTree} {s s' : Skeleton} → f ≡ f' → s ≡ s' → a ≡ a' → App f' s' a' r → App f s a r
moved {r = r} e g h d = rw (e, g, h) d

bound_moved : {c c' e e' r : CompTree} → c ≡ c' → e ≡ e' → Bind c' e' r → Bind c e r
bound_moved {r = r} g h d = rw (g, h) d

mutual
  pub kept_once : {new : TermTree} {s : Skeleton} {x : ℕ} {t r q : TermTree} → Kept new s x t r → Kept new s x t q → r ≡ q
  kept_once (k_var e) (k_var f) = refl
  kept_once k_val k_val = refl
  kept_once (k_made {number = number} p) (k_made q) = λ j. t_made number (terms_once p q j)
  kept_once (k_fix {at = at} p) (k_fix q) = λ j. t_fix at (fix_once p q j)
  kept_once (k_app k p) (k_app l q) = λ j. t_app (kept_once k l j) (term_once p q j)
  kept_once {x = x} (k_inst {mono = mono} k) (k_inst l) = λ j. t_inst (kept_once k l j) (rename_mono (closing x) mono)

  pub reduced_once : {new : TermTree} {s left left' : Skeleton} {x : ℕ} {t r q : TermTree}
      → Reduced new s x t r left
      → Reduced new s x t q left'
      → (r ≡ q) × (left ≡ left')
  reduced_once (r_var e) (r_var f) = (refl, refl)
  reduced_once (r_app r p a) (r_app r' p' a') =
      let h = reduced_once r r' in
      let e = term_once p p' in
      (app_once a (moved (h.0) (arrow_left (h.1)) e a'), arrow_right (h.1))
  reduced_once {x = x} (r_inst {mono = mono} r) (r_inst r') =
      let h = reduced_once r r' in
      (ap (put_mono_term (rename_mono (closing x) mono) zero) (lam_t_body (h.0)), all_body (h.1))

  pub app_once : {function argument result other : TermTree} {s : Skeleton} → App function s argument result → App function s argument other → result ≡ other
  app_once (applied p) (applied q) = term_once p q

  pub term_once : {new : TermTree} {s : Skeleton} {x : ℕ} {t r q : TermTree} → SubTerm new s x t r → SubTerm new s x t q → r ≡ q
  term_once (u_kept k) (u_kept l) = kept_once k l
  term_once (u_kept k) (u_reduced r) = absurd (apart k r)
  term_once (u_reduced r) (u_kept k) = absurd (apart k r)
  term_once (u_reduced r) (u_reduced r') = (reduced_once r r').0
  term_once u_word u_word = refl
  term_once u_word (u_kept k) = elim k [ ]
  term_once u_word (u_reduced r) = elim r [ ]
  term_once (u_kept k) u_word = elim k [ ]
  term_once (u_reduced r) u_word = elim r [ ]
  term_once u_bool u_bool = refl
  term_once u_bool (u_kept k) = elim k [ ]
  term_once u_bool (u_reduced r) = elim r [ ]
  term_once (u_kept k) u_bool = elim k [ ]
  term_once (u_reduced r) u_bool = elim r [ ]
  term_once u_loc u_loc = refl
  term_once u_loc (u_kept k) = elim k [ ]
  term_once u_loc (u_reduced r) = elim r [ ]
  term_once (u_kept k) u_loc = elim k [ ]
  term_once (u_reduced r) u_loc = elim r [ ]
  term_once u_unit u_unit = refl
  term_once u_unit (u_kept k) = elim k [ ]
  term_once u_unit (u_reduced r) = elim r [ ]
  term_once (u_kept k) u_unit = elim k [ ]
  term_once (u_reduced r) u_unit = elim r [ ]
  term_once (u_pair p0 p1) (u_pair q0 q1) = λ j. t_pair (term_once p0 q0 j) (term_once p1 q1 j)
  term_once (u_pair p0 p1) (u_kept k) = elim k [ ]
  term_once (u_pair p0 p1) (u_reduced r) = elim r [ ]
  term_once (u_kept k) (u_pair p0 p1) = elim k [ ]
  term_once (u_reduced r) (u_pair p0 p1) = elim r [ ]
  term_once (u_fst p0) (u_fst q0) = λ j. folding (t_fst (term_once p0 q0 j))
  term_once (u_fst p0) (u_kept k) = elim k [ ]
  term_once (u_fst p0) (u_reduced r) = elim r [ ]
  term_once (u_kept k) (u_fst p0) = elim k [ ]
  term_once (u_reduced r) (u_fst p0) = elim r [ ]
  term_once (u_snd p0) (u_snd q0) = λ j. folding (t_snd (term_once p0 q0 j))
  term_once (u_snd p0) (u_kept k) = elim k [ ]
  term_once (u_snd p0) (u_reduced r) = elim r [ ]
  term_once (u_kept k) (u_snd p0) = elim k [ ]
  term_once (u_reduced r) (u_snd p0) = elim r [ ]
  term_once (u_not p0) (u_not q0) = λ j. folding (t_not (term_once p0 q0 j))
  term_once (u_not p0) (u_kept k) = elim k [ ]
  term_once (u_not p0) (u_reduced r) = elim r [ ]
  term_once (u_kept k) (u_not p0) = elim k [ ]
  term_once (u_reduced r) (u_not p0) = elim r [ ]
  term_once (u_bin {op = op} p0 p1) (u_bin q0 q1) = λ j. folding (t_bin op (term_once p0 q0 j) (term_once p1 q1 j))
  term_once (u_bin p0 p1) (u_kept k) = elim k [ ]
  term_once (u_bin p0 p1) (u_reduced r) = elim r [ ]
  term_once (u_kept k) (u_bin p0 p1) = elim k [ ]
  term_once (u_reduced r) (u_bin p0 p1) = elim r [ ]
  term_once {x = x} (u_eq {mono = mono} p0 p1) (u_eq q0 q1) = λ j. folding (t_eq (rename_mono (closing x) mono) (term_once p0 q0 j) (term_once p1 q1 j))
  term_once (u_eq p0 p1) (u_kept k) = elim k [ ]
  term_once (u_eq p0 p1) (u_reduced r) = elim r [ ]
  term_once (u_kept k) (u_eq p0 p1) = elim k [ ]
  term_once (u_reduced r) (u_eq p0 p1) = elim r [ ]
  term_once {x = x} (u_sel {mono = mono} p0 p1 p2) (u_sel q0 q1 q2) =
      λ j. folding (t_sel (rename_mono (closing x) mono) (term_once p0 q0 j) (term_once p1 q1 j) (term_once p2 q2 j))
  term_once (u_sel p0 p1 p2) (u_kept k) = elim k [ ]
  term_once (u_sel p0 p1 p2) (u_reduced r) = elim r [ ]
  term_once (u_kept k) (u_sel p0 p1 p2) = elim k [ ]
  term_once (u_reduced r) (u_sel p0 p1 p2) = elim r [ ]
  term_once (u_lam p0) (u_lam q0) = λ j. t_lam (term_once p0 q0 j)
  term_once (u_lam p0) (u_kept k) = elim k [ ]
  term_once (u_lam p0) (u_reduced r) = elim r [ ]
  term_once (u_kept k) (u_lam p0) = elim k [ ]
  term_once (u_reduced r) (u_lam p0) = elim r [ ]
  term_once (u_lam_t p0) (u_lam_t q0) = λ j. t_lam_t (term_once p0 q0 j)
  term_once (u_lam_t p0) (u_kept k) = elim k [ ]
  term_once (u_lam_t p0) (u_reduced r) = elim r [ ]
  term_once (u_kept k) (u_lam_t p0) = elim k [ ]
  term_once (u_reduced r) (u_lam_t p0) = elim r [ ]
  term_once (u_do p0) (u_do q0) = λ j. t_do (comp_once p0 q0 j)
  term_once (u_do p0) (u_kept k) = elim k [ ]
  term_once (u_do p0) (u_reduced r) = elim r [ ]
  term_once (u_kept k) (u_do p0) = elim k [ ]
  term_once (u_reduced r) (u_do p0) = elim r [ ]

  pub terms_once : {new : TermTree} {s : Skeleton} {x : ℕ} {t r q : TermTrees} → SubTerms new s x t r → SubTerms new s x t q → r ≡ q
  terms_once u_no_terms u_no_terms = refl
  terms_once (u_more_terms p0 p1) (u_more_terms q0 q1) = λ j. more_terms (term_once p0 q0 j) (terms_once p1 q1 j)

  pub fix_once : {new : TermTree} {s : Skeleton} {x : ℕ} {t r q : FixTree} → SubFix new s x t r → SubFix new s x t q → r ≡ q
  fix_once (u_x_param p0 p1) (u_x_param q0 q1) = λ j. x_param (ty_once p0 q0 j) (fix_once p1 q1 j)
  fix_once (u_x_body p0 p1) (u_x_body q0 q1) = λ j. x_body (triple_once p0 q0 j) (comp_once p1 q1 j)

  pub comp_once : {new : TermTree} {s : Skeleton} {x : ℕ} {t r q : CompTree} → SubComp new s x t r → SubComp new s x t q → r ≡ q
  comp_once (u_ret p) (u_ret q) = λ j. c_ret (term_once p q j)
  comp_once (u_step p e) (u_step q f) = λ j. c_step (step_once p q j) (comp_once e f j)
  comp_once (u_step (u_run k) e) (u_spliced r f b) = absurd (apart k r)
  comp_once (u_spliced r f b) (u_step (u_run k) e) = absurd (apart k r)
  comp_once (u_spliced r e b) (u_spliced r' e' b') = bind_once b (bound_moved (do_comp ((reduced_once r r').0)) (comp_once e e') b')

  pub bind_once : {comp others r q : CompTree} → Bind comp others r → Bind comp others q → r ≡ q
  bind_once (b_ret p) (b_ret q) = comp_once p q
  bind_once (b_step {step = step} p) (b_step q) = λ j. c_step step (bind_once p q j)

  pub step_once : {new : TermTree} {s : Skeleton} {x : ℕ} {t r q : StepTree} → SubStep new s x t r → SubStep new s x t q → r ≡ q
  step_once {x = x} (u_run {mono = mono} k) (u_run l) = λ j. s_run (kept_once k l j) (option_map (rename_mono (closing x)) mono)
  step_once {x = x} (u_s_alloc {mono = mono} p0) (u_s_alloc q0) = λ j. s_alloc (rename_mono (closing x) mono) (term_once p0 q0 j)
  step_once {x = x} (u_s_get {mono = mono} p0) (u_s_get q0) = λ j. s_get (rename_mono (closing x) mono) (term_once p0 q0 j)
  step_once {x = x} (u_s_set {mono = mono} p0 p1) (u_s_set q0 q1) = λ j. s_set (rename_mono (closing x) mono) (term_once p0 q0 j) (term_once p1 q1 j)
  step_once {x = x} (u_s_free {mono = mono} p0) (u_s_free q0) = λ j. s_free (rename_mono (closing x) mono) (term_once p0 q0 j)
  step_once {x = x} (u_s_if {mono = mono} p0 p1 p2) (u_s_if q0 q1 q2) =
      λ j. s_if (rename_mono (closing x) mono) (term_once p0 q0 j) (comp_once p1 q1 j) (comp_once p2 q2 j)

  pub ty_once : {new : TermTree} {s : Skeleton} {x : ℕ} {t r q : TyTree} → SubTy new s x t r → SubTy new s x t q → r ≡ q
  ty_once u_y_mono u_y_mono = refl
  ty_once (u_y_fun p0 p1) (u_y_fun q0 q1) = λ j. y_fun (ty_once p0 q0 j) (ty_once p1 q1 j)
  ty_once (u_y_all p0) (u_y_all q0) = λ j. y_all (ty_once p0 q0 j)
  ty_once (u_y_hoare p0) (u_y_hoare q0) = λ j. y_hoare (triple_once p0 q0 j)

  pub triple_once : {new : TermTree} {s : Skeleton} {x : ℕ} {t r q : TripleTree} → SubTriple new s x t r → SubTriple new s x t q → r ≡ q
  triple_once {x = x} (u_triple {mono = mono} p0 p1) (u_triple q0 q1) = λ j. triple (formula_once p0 q0 j) (rename_mono (closing x) mono) (formula_once p1 q1 j)

  pub formula_once : {new : TermTree} {s : Skeleton} {x : ℕ} {t r q : FormulaTree} → SubFormula new s x t r → SubFormula new s x t q → r ≡ q
  formula_once u_f_tt u_f_tt = refl
  formula_once u_f_ff u_f_ff = refl
  formula_once (u_f_and p0 p1) (u_f_and q0 q1) = λ j. f_and (formula_once p0 q0 j) (formula_once p1 q1 j)
  formula_once (u_f_or p0 p1) (u_f_or q0 q1) = λ j. f_or (formula_once p0 q0 j) (formula_once p1 q1 j)
  formula_once (u_f_imp p0 p1) (u_f_imp q0 q1) = λ j. f_imp (formula_once p0 q0 j) (formula_once p1 q1 j)
  formula_once {x = x} (u_f_all_t {mono = mono} p0) (u_f_all_t q0) = λ j. f_all_t (rename_mono (closing x) mono) (formula_once p0 q0 j)
  formula_once {x = x} (u_f_ex_t {mono = mono} p0) (u_f_ex_t q0) = λ j. f_ex_t (rename_mono (closing x) mono) (formula_once p0 q0 j)
  formula_once (u_f_all_h p0) (u_f_all_h q0) = λ j. f_all_h (formula_once p0 q0 j)
  formula_once (u_f_ex_h p0) (u_f_ex_h q0) = λ j. f_ex_h (formula_once p0 q0 j)
  formula_once u_f_emp u_f_emp = refl
  formula_once {x = x} (u_f_cell {mono = mono} {heap = heap} p0 p1) (u_f_cell q0 q1) =
      λ j. f_cell (rename_mono (closing x) mono) (closing x heap) (term_once p0 q0 j) (term_once p1 q1 j)
  formula_once {x = x} (u_f_block {mono = mono} {heap = heap} p0) (u_f_block q0) =
      λ j. f_block (rename_mono (closing x) mono) (closing x heap) (term_once p0 q0 j)
  formula_once u_f_join u_f_join = refl
  formula_once u_f_same u_f_same = refl
  formula_once {x = x} (u_f_eq {mono = mono} p0 p1) (u_f_eq q0 q1) = λ j. f_eq (rename_mono (closing x) mono) (term_once p0 q0 j) (term_once p1 q1 j)
  formula_once {x = x} (u_f_rec {number = number} {heap = heap} p0 p1) (u_f_rec q0 q1) =
      λ j. f_rec number (closing x heap) (term_once p0 q0 j) (terms_once p1 q1 j)
