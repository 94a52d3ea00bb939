-- What each form of term and of formula is, a row for each.
use Rattle.std.proofs.Common.{◌≡◌, ℕ, refl}
use Rattle.std.specs.Prelude.{Bool}
use Rattle.htt_syntax.specs.declared.mono.Op.{Op}
use Rattle.htt_syntax.specs.Trees.{MonoTree, TyTree, TermTree, TermTrees, FixTree, CompTree, FormulaTree}
use Rattle.htt_syntax.specs.Trees.{t_app, t_inst, t_fst, t_snd, t_not, t_bin, t_lam, t_lam_t, t_do, t_fix, t_at, t_var, t_val, t_def, t_word, t_bool, t_loc, t_unit, t_pair, t_eq, t_sel, t_ann, t_made}
use Rattle.htt_syntax.specs.Trees.{f_and, f_or, f_imp, f_all_t, f_ex_t, f_all_h, f_ex_h, f_at, f_tt, f_ff, f_emp, f_cell, f_block, f_join, f_same, f_eq, f_rec}
use Rattle.theory_printing.specs.Brackets.{an_atom, an_application, a_prefixed, an_operation, a_binding, term_form, formula_form}

pub term_app : (K M : TermTree) → term_form (t_app K M) ≡ an_application
unfolding term_form
term_app K M = refl

pub term_inst : (K : TermTree) (t : MonoTree) → term_form (t_inst K t) ≡ an_application
unfolding term_form
term_inst K t = refl

pub term_fst : (M : TermTree) → term_form (t_fst M) ≡ a_prefixed
unfolding term_form
term_fst M = refl

pub term_snd : (M : TermTree) → term_form (t_snd M) ≡ a_prefixed
unfolding term_form
term_snd M = refl

pub term_not : (M : TermTree) → term_form (t_not M) ≡ a_prefixed
unfolding term_form
term_not M = refl

pub term_bin : (op : Op) (M N : TermTree) → term_form (t_bin op M N) ≡ an_operation
unfolding term_form
term_bin op M N = refl

pub term_lam : (M : TermTree) → term_form (t_lam M) ≡ a_binding
unfolding term_form
term_lam M = refl

pub term_lam_t : (M : TermTree) → term_form (t_lam_t M) ≡ a_binding
unfolding term_form
term_lam_t M = refl

pub term_do : (E : CompTree) → term_form (t_do E) ≡ a_binding
unfolding term_form
term_do E = refl

pub term_fix : (at : ℕ) (X : FixTree) → term_form (t_fix at X) ≡ a_binding
unfolding term_form
term_fix at X = refl

pub term_at : (at : ℕ) (M : TermTree) → term_form (t_at at M) ≡ term_form M
unfolding term_form
term_at at M = refl

pub term_var : (n : ℕ) → term_form (t_var n) ≡ an_atom
unfolding term_form
term_var n = refl

pub term_val : (n : ℕ) → term_form (t_val n) ≡ an_atom
unfolding term_form
term_val n = refl

pub term_def : (n : ℕ) → term_form (t_def n) ≡ an_atom
unfolding term_form
term_def n = refl

pub term_word : (n : ℕ) → term_form (t_word n) ≡ an_atom
unfolding term_form
term_word n = refl

pub term_bool : (b : Bool) → term_form (t_bool b) ≡ an_atom
unfolding term_form
term_bool b = refl

pub term_loc : (n : ℕ) → term_form (t_loc n) ≡ an_atom
unfolding term_form
term_loc n = refl

pub term_unit : term_form t_unit ≡ an_atom
unfolding term_form
term_unit = refl

pub term_pair : (M N : TermTree) → term_form (t_pair M N) ≡ an_atom
unfolding term_form
term_pair M N = refl

pub term_eq : (t : MonoTree) (M N : TermTree) → term_form (t_eq t M N) ≡ an_atom
unfolding term_form
term_eq t M N = refl

pub term_sel : (t : MonoTree) (B M N : TermTree) → term_form (t_sel t B M N) ≡ an_atom
unfolding term_form
term_sel t B M N = refl

pub term_ann : (M : TermTree) (A : TyTree) → term_form (t_ann M A) ≡ an_atom
unfolding term_form
term_ann M A = refl

pub term_made : (n : ℕ) (Ms : TermTrees) → term_form (t_made n Ms) ≡ an_atom
unfolding term_form
term_made n Ms = refl

pub ruleset term_forms = (
  term_app,
  term_inst,
  term_fst,
  term_snd,
  term_not,
  term_bin,
  term_lam,
  term_lam_t,
  term_do,
  term_fix,
  term_at,
  term_var,
  term_val,
  term_def,
  term_word,
  term_bool,
  term_loc,
  term_unit,
  term_pair,
  term_eq,
  term_sel,
  term_ann,
  term_made,
)

pub formula_and : (F G : FormulaTree) → formula_form (f_and F G) ≡ an_operation
unfolding formula_form
formula_and F G = refl

pub formula_or : (F G : FormulaTree) → formula_form (f_or F G) ≡ an_operation
unfolding formula_form
formula_or F G = refl

pub formula_imp : (F G : FormulaTree) → formula_form (f_imp F G) ≡ an_operation
unfolding formula_form
formula_imp F G = refl

pub formula_all_t : (t : MonoTree) (F : FormulaTree) → formula_form (f_all_t t F) ≡ a_binding
unfolding formula_form
formula_all_t t F = refl

pub formula_ex_t : (t : MonoTree) (F : FormulaTree) → formula_form (f_ex_t t F) ≡ a_binding
unfolding formula_form
formula_ex_t t F = refl

pub formula_all_h : (F : FormulaTree) → formula_form (f_all_h F) ≡ a_binding
unfolding formula_form
formula_all_h F = refl

pub formula_ex_h : (F : FormulaTree) → formula_form (f_ex_h F) ≡ a_binding
unfolding formula_form
formula_ex_h F = refl

pub formula_at : (at : ℕ) (F : FormulaTree) → formula_form (f_at at F) ≡ formula_form F
unfolding formula_form
formula_at at F = refl

pub formula_tt : formula_form f_tt ≡ an_atom
unfolding formula_form
formula_tt = refl

pub formula_ff : formula_form f_ff ≡ an_atom
unfolding formula_form
formula_ff = refl

pub formula_emp : (h : ℕ) → formula_form (f_emp h) ≡ an_atom
unfolding formula_form
formula_emp h = refl

pub formula_cell : (t : MonoTree) (h : ℕ) (M N : TermTree) → formula_form (f_cell t h M N) ≡ an_atom
unfolding formula_form
formula_cell t h M N = refl

pub formula_block : (t : MonoTree) (h : ℕ) (M : TermTree) → formula_form (f_block t h M) ≡ an_atom
unfolding formula_form
formula_block t h M = refl

pub formula_join : (h a b : ℕ) → formula_form (f_join h a b) ≡ an_atom
unfolding formula_form
formula_join h a b = refl

pub formula_same : (h k : ℕ) → formula_form (f_same h k) ≡ an_atom
unfolding formula_form
formula_same h k = refl

pub formula_eq : (t : MonoTree) (M N : TermTree) → formula_form (f_eq t M N) ≡ an_atom
unfolding formula_form
formula_eq t M N = refl

pub formula_rec : (p h : ℕ) (N : TermTree) (Ms : TermTrees) → formula_form (f_rec p h N Ms) ≡ an_atom
unfolding formula_form
formula_rec p h N Ms = refl

pub ruleset formula_forms = (
  formula_and,
  formula_or,
  formula_imp,
  formula_all_t,
  formula_ex_t,
  formula_all_h,
  formula_ex_h,
  formula_at,
  formula_tt,
  formula_ff,
  formula_emp,
  formula_cell,
  formula_block,
  formula_join,
  formula_same,
  formula_eq,
  formula_rec,
)
