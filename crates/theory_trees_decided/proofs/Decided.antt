-- A tree is what its code comes back to, so equality of trees is decided.
use Rattle.std.proofs.Common.{◌≡◌, Bool, true, false, Option, Some, None, ◌⊎◌, inl, inr, refl, sym, ap, ◌∙◌}
use Rattle.std.proofs.lemmas.Bool.{cases_eq}
use Rattle.htt_syntax.specs.declared.mono.Op.{Op}
use Rattle.htt_syntax.specs.declared.mono.Op.TheVariants.{Add, Sub, Mul, And, Or, Xor, Shl, Shr, Lt}
use Rattle.htt_syntax.specs.Trees.{MonoTree, TyTree, TripleTree, TermTree, TermTrees, FixTree, CompTree, StepTree}
use Rattle.htt_syntax.specs.Trees.{FormulaTree, m_word, m_bool, m_loc, m_unit, m_pair, m_var, y_mono, y_fun, y_all}
use Rattle.htt_syntax.specs.Trees.{y_hoare, y_at, triple, t_var, t_val, t_def, t_app, t_inst, t_lam, t_lam_t, t_do}
use Rattle.htt_syntax.specs.Trees.{t_fix, t_word, t_bool, t_loc, t_unit, t_pair, t_fst, t_snd, t_not, t_bin, t_eq}
use Rattle.htt_syntax.specs.Trees.{t_sel, t_ann, t_made, t_at, no_terms, more_terms, x_param, x_body, c_ret}
use Rattle.htt_syntax.specs.Trees.{c_step, s_run, s_alloc, s_get, s_set, s_free, s_if, s_claim, f_tt, f_ff, f_and}
use Rattle.htt_syntax.specs.Trees.{f_or, f_imp, f_all_t, f_ex_t, f_all_h, f_ex_h, f_emp, f_cell, f_block, f_join}
use Rattle.htt_syntax.specs.Trees.{f_same, f_eq, f_at, f_rec}
use Rattle.theory_trees_decided.specs.Laws.{TreesAreDecided}
use Rattle.theory_trees_decided.proofs.Codes.{Code, leaf, fork, left, right, number_from, truth_code, truth_from}
use Rattle.theory_trees_decided.proofs.Codes.{op_code, op_from, option_code, option_from, mono_code, ty_code}
use Rattle.theory_trees_decided.proofs.Codes.{triple_code, term_code, terms_code, fix_code, comp_code, step_code}
use Rattle.theory_trees_decided.proofs.Codes.{formula_code, mono_from, ty_from, triple_from, term_from, terms_from}
use Rattle.theory_trees_decided.proofs.Codes.{fix_from, comp_from, step_from, formula_from}

truth_back : (x : Bool) → truth_from (truth_code x) ≡ x
unfolding truth_from truth_code
truth_back true = refl
truth_back false = refl

op_back : (x : Op) → op_from (op_code x) ≡ x
unfolding op_from op_code
op_back Add = refl
op_back Sub = refl
op_back Mul = refl
op_back And = refl
op_back Or = refl
op_back Xor = refl
op_back Shl = refl
op_back Shr = refl
op_back Lt = refl

pub mono_back : (x : MonoTree) → mono_from (mono_code x) ≡ x
unfolding mono_from mono_code number_from
mono_back m_word = refl
mono_back m_bool = refl
mono_back m_loc = refl
mono_back m_unit = refl
mono_back (m_pair a b) = λ j. m_pair (mono_back a j) (mono_back b j)
mono_back (m_var a) = refl

option_back : (x : Option MonoTree) → option_from (option_code x) ≡ x
unfolding option_from option_code
option_back None = refl
option_back (Some a) = λ j. Some (mono_back a j)

mutual
  unfolding number_from ty_from ty_code triple_from triple_code term_from term_code terms_from terms_code fix_from fix_code comp_from comp_code step_from step_code formula_from formula_code

  pub ty_back : (x : TyTree) → ty_from (ty_code x) ≡ x
  ty_back (y_mono a) = λ j. y_mono (mono_back a j)
  ty_back (y_fun a b) = λ j. y_fun (ty_back a j) (ty_back b j)
  ty_back (y_all a) = λ j. y_all (ty_back a j)
  ty_back (y_hoare a) = λ j. y_hoare (triple_back a j)
  ty_back (y_at a b) = λ j. y_at a (ty_back b j)

  pub triple_back : (x : TripleTree) → triple_from (triple_code x) ≡ x
  triple_back (triple a b c) = λ j. triple (formula_back a j) (mono_back b j) (formula_back c j)

  pub term_back : (x : TermTree) → term_from (term_code x) ≡ x
  term_back (t_var a) = refl
  term_back (t_val a) = refl
  term_back (t_def a) = refl
  term_back (t_app a b) = λ j. t_app (term_back a j) (term_back b j)
  term_back (t_inst a b) = λ j. t_inst (term_back a j) (mono_back b j)
  term_back (t_lam a) = λ j. t_lam (term_back a j)
  term_back (t_lam_t a) = λ j. t_lam_t (term_back a j)
  term_back (t_do a) = λ j. t_do (comp_back a j)
  term_back (t_fix a b) = λ j. t_fix a (fix_back b j)
  term_back (t_word a) = refl
  term_back (t_bool a) = λ j. t_bool (truth_back a j)
  term_back (t_loc a) = refl
  term_back t_unit = refl
  term_back (t_pair a b) = λ j. t_pair (term_back a j) (term_back b j)
  term_back (t_fst a) = λ j. t_fst (term_back a j)
  term_back (t_snd a) = λ j. t_snd (term_back a j)
  term_back (t_not a) = λ j. t_not (term_back a j)
  term_back (t_bin a b c) = λ j. t_bin (op_back a j) (term_back b j) (term_back c j)
  term_back (t_eq a b c) = λ j. t_eq (mono_back a j) (term_back b j) (term_back c j)
  term_back (t_sel a b c d) = λ j. t_sel (mono_back a j) (term_back b j) (term_back c j) (term_back d j)
  term_back (t_ann a b) = λ j. t_ann (term_back a j) (ty_back b j)
  term_back (t_made a b) = λ j. t_made a (terms_back b j)
  term_back (t_at a b) = λ j. t_at a (term_back b j)

  pub terms_back : (x : TermTrees) → terms_from (terms_code x) ≡ x
  terms_back no_terms = refl
  terms_back (more_terms a b) = λ j. more_terms (term_back a j) (terms_back b j)

  pub fix_back : (x : FixTree) → fix_from (fix_code x) ≡ x
  fix_back (x_param a b) = λ j. x_param (ty_back a j) (fix_back b j)
  fix_back (x_body a b) = λ j. x_body (triple_back a j) (comp_back b j)

  pub comp_back : (x : CompTree) → comp_from (comp_code x) ≡ x
  comp_back (c_ret a) = λ j. c_ret (term_back a j)
  comp_back (c_step a b) = λ j. c_step (step_back a j) (comp_back b j)

  pub step_back : (x : StepTree) → step_from (step_code x) ≡ x
  step_back (s_run a b) = λ j. s_run (term_back a j) (option_back b j)
  step_back (s_alloc a b) = λ j. s_alloc (mono_back a j) (term_back b j)
  step_back (s_get a b) = λ j. s_get (mono_back a j) (term_back b j)
  step_back (s_set a b c) = λ j. s_set (mono_back a j) (term_back b j) (term_back c j)
  step_back (s_free a b) = λ j. s_free (mono_back a j) (term_back b j)
  step_back (s_if a b c d) = λ j. s_if (mono_back a j) (term_back b j) (comp_back c j) (comp_back d j)
  step_back (s_claim a) = λ j. s_claim (formula_back a j)

  pub formula_back : (x : FormulaTree) → formula_from (formula_code x) ≡ x
  formula_back f_tt = refl
  formula_back f_ff = refl
  formula_back (f_and a b) = λ j. f_and (formula_back a j) (formula_back b j)
  formula_back (f_or a b) = λ j. f_or (formula_back a j) (formula_back b j)
  formula_back (f_imp a b) = λ j. f_imp (formula_back a j) (formula_back b j)
  formula_back (f_all_t a b) = λ j. f_all_t (mono_back a j) (formula_back b j)
  formula_back (f_ex_t a b) = λ j. f_ex_t (mono_back a j) (formula_back b j)
  formula_back (f_all_h a) = λ j. f_all_h (formula_back a j)
  formula_back (f_ex_h a) = λ j. f_ex_h (formula_back a j)
  formula_back (f_emp a) = refl
  formula_back (f_cell a b c d) = λ j. f_cell (mono_back a j) b (term_back c j) (term_back d j)
  formula_back (f_block a b c) = λ j. f_block (mono_back a j) b (term_back c j)
  formula_back (f_join a b c) = refl
  formula_back (f_same a b) = refl
  formula_back (f_eq a b c) = λ j. f_eq (mono_back a j) (term_back b j) (term_back c j)
  formula_back (f_at a b) = λ j. f_at a (formula_back b j)
  formula_back (f_rec a b c d) = λ j. f_rec a b (term_back c j) (terms_back d j)

-- equality of codes
code_decided : (a b : Code) → (a ≡ b) ⊎ (a ≡ b → ⊥)
code_decided (leaf n) (leaf m) = elim (cases_eq n m) [ inl q ↦ inl (ap leaf q) | inr d ↦ inr (λ q. d (cc)) ]
code_decided (fork a b) (fork c d) = elim (code_decided a c) [
  | inl q ↦ elim (code_decided b d) [ inl r ↦ inl (λ j. fork (q j) (r j)) | inr r ↦ inr (λ s. r (cc)) ]
  | inr q ↦ inr (λ s. q (cc))
]
code_decided (left a) (left b) = elim (code_decided a b) [ inl q ↦ inl (ap left q) | inr d ↦ inr (λ q. d (cc)) ]
code_decided (right a) (right b) = elim (code_decided a b) [ inl q ↦ inl (ap right q) | inr d ↦ inr (λ q. d (cc)) ]
code_decided (leaf n) (fork c d) = inr (λ q. cc)
code_decided (leaf n) (left c) = inr (λ q. cc)
code_decided (leaf n) (right c) = inr (λ q. cc)
code_decided (fork a b) (leaf m) = inr (λ q. cc)
code_decided (fork a b) (left c) = inr (λ q. cc)
code_decided (fork a b) (right c) = inr (λ q. cc)
code_decided (left a) (leaf m) = inr (λ q. cc)
code_decided (left a) (fork c d) = inr (λ q. cc)
code_decided (left a) (right c) = inr (λ q. cc)
code_decided (right a) (leaf m) = inr (λ q. cc)
code_decided (right a) (fork c d) = inr (λ q. cc)
code_decided (right a) (left c) = inr (λ q. cc)

-- what has codes that come back
by_codes : {A : Type 0} (code : A → Code) (from : Code → A)
    → ((x : A) → from (code x) ≡ x)
    → (a b : A)
    → (a ≡ b) ⊎ (a ≡ b → ⊥)
by_codes code from back a b = elim (code_decided (code a) (code b)) [
  | inl q ↦ inl (sym (back a) ∙ ap from q ∙ back b)
  | inr d ↦ inr (λ q. d (ap code q))
]

pub mono_decided : (a b : MonoTree) → (a ≡ b) ⊎ (a ≡ b → ⊥)
mono_decided = by_codes mono_code mono_from mono_back

pub term_decided : (a b : TermTree) → (a ≡ b) ⊎ (a ≡ b → ⊥)
term_decided = by_codes term_code term_from term_back

pub decided : TreesAreDecided
decided = record {
  monos = mono_decided;
  terms = term_decided;
  types = by_codes ty_code ty_from ty_back;
  computations = by_codes comp_code comp_from comp_back;
  formulas = by_codes formula_code formula_from formula_back;
}
