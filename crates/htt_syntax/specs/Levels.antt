-- The tree of a value, one level at a time: an equation for each variant of each type.
use Rattle.std.specs.Prelude.{ℕ, Bool, List, [], ◌∷◌, ◌≡◌, refl, Option, option_map, ⊤}
use Rattle.std.proofs.Common.{ap}
use Rattle.htt_syntax.specs.declared.mono.Op.{Op}
use Rattle.htt_syntax.specs.declared.mono.Mono.{Mono}
use Rattle.htt_syntax.specs.declared.mono.Mono.TheVariants as vmono
use Rattle.htt_syntax.specs.declared.mono.Mono.TheBlock as mono_block
use Rattle.htt_syntax.specs.declared.tree.Formula.TheBlock as block
use Rattle.htt_syntax.specs.declared.tree.Ty.{Ty}
use Rattle.htt_syntax.specs.declared.tree.Ty.TheVariants as vty
use Rattle.htt_syntax.specs.declared.tree.Triple.{Triple}
use Rattle.htt_syntax.specs.declared.tree.Term.{Term}
use Rattle.htt_syntax.specs.declared.tree.Term.TheVariants as vterm
use Rattle.htt_syntax.specs.declared.tree.Fix.{Fix}
use Rattle.htt_syntax.specs.declared.tree.Comp.{Comp}
use Rattle.htt_syntax.specs.declared.tree.Step.{Step}
use Rattle.htt_syntax.specs.declared.tree.Step.TheVariants as vstep
use Rattle.htt_syntax.specs.declared.tree.Formula.{Formula}
use Rattle.htt_syntax.specs.declared.tree.Formula.TheVariants as vformula
use Rattle.htt_syntax.specs.Trees.{TripleTree, TermTree, FixTree, CompTree, TermTrees, m_word, m_bool, m_loc, m_unit}
use Rattle.htt_syntax.specs.Trees.{m_pair, m_var, y_mono, y_fun, y_all, y_hoare, y_at, t_var, t_val, t_def, t_app}
use Rattle.htt_syntax.specs.Trees.{t_inst, t_lam, t_lam_t, t_do, t_fix, t_word, t_bool, t_loc, t_unit, t_pair, t_fst}
use Rattle.htt_syntax.specs.Trees.{t_snd, t_not, t_bin, t_eq, t_sel, t_ann, t_made, t_at, s_run, s_alloc, s_get, s_set}
use Rattle.htt_syntax.specs.Trees.{s_free, s_if, s_claim, f_tt, f_ff, f_and, f_or, f_imp, f_all_t, f_ex_t, f_all_h}
use Rattle.htt_syntax.specs.Trees.{f_ex_h, f_emp, f_cell, f_block, f_join, f_same, f_eq, f_at, f_rec, triple, x_param}
use Rattle.htt_syntax.specs.Trees.{x_body, c_ret, c_step, no_terms, more_terms}
use Rattle.htt_syntax.specs.Views.{mono_tree, ty_tree, term_tree, step_tree, formula_tree, params_row, steps_row}
use Rattle.htt_syntax.specs.Views.{terms_row}

abbrev pub term_trees : List Term → TermTrees
term_trees [] = no_terms
term_trees (t ∷ ts) = more_terms (term_tree t) (term_trees ts)

-- the parameters, and what stands under them
abbrev pub params_tree : List Ty → FixTree → FixTree
params_tree [] rest = rest
params_tree (t ∷ ts) rest = x_param (ty_tree t) (params_tree ts rest)

-- the steps, and the result under them
abbrev pub steps_tree : List Step → TermTree → CompTree
steps_tree [] result = c_ret result
steps_tree (s ∷ ss) result = c_step (step_tree s) (steps_tree ss result)

unfoldable pub triple_tree : Triple → TripleTree
triple_tree t = triple (formula_tree t.pre) (mono_tree t.result) (formula_tree t.post)

unfoldable pub comp_tree : Comp → CompTree
comp_tree c = steps_tree c.steps (term_tree c.result)

unfoldable pub fix_tree : Fix → FixTree
fix_tree x = params_tree x.params (x_body (triple_tree x.triple) (comp_tree x.body))

-- All that the equations below compute with.
generated : Type 0
unfolding term_tree comp_tree triple_tree fix_tree mono_tree mono_block.hidden-the_row-Mono-0
    block.hidden-the_row-Formula-0 block.hidden-the_row-Term-3 block.hidden-the_row-Comp-4 block.hidden-the_row-Fix-6
    block.hidden-the_row-Ty-7 block.hidden-the_row-Triple-8 denote.Hole.Carrier.hidden
generated = ⊤

terms_row_is : (ts : List Term) → terms_row (block.hidden-the_row-Term-1 ts) ≡ term_trees ts
unfolding term_tree block.hidden-the_row-Term-1 denote.Hole.Carrier.hidden
terms_row_is [] = refl
terms_row_is (t ∷ ts) = ap (more_terms (term_tree t)) (terms_row_is ts)

params_row_is : (ts : List Ty) (rest : FixTree) → params_row (block.hidden-the_row-Ty-5 ts) rest ≡ params_tree ts rest
unfolding term_tree block.hidden-the_row-Ty-5 denote.Hole.Carrier.hidden
params_row_is [] rest = refl
params_row_is (t ∷ ts) rest = ap (x_param (ty_tree t)) (params_row_is ts rest)

steps_row_is : (ss : List Step) (result : TermTree)
    → steps_row (block.hidden-the_row-Step-2 ss) result ≡ steps_tree ss result
unfolding term_tree block.hidden-the_row-Step-2 denote.Hole.Carrier.hidden
steps_row_is [] result = refl
steps_row_is (s ∷ ss) result = ap (c_step (step_tree s)) (steps_row_is ss result)

pub mono_word : mono_tree vmono.Word ≡ m_word
unfolding generated
mono_word = refl

pub mono_bool : mono_tree vmono.Bool ≡ m_bool
unfolding generated
mono_bool = refl

pub mono_loc : mono_tree vmono.Loc ≡ m_loc
unfolding generated
mono_loc = refl

pub mono_unit : mono_tree vmono.Unit ≡ m_unit
unfolding generated
mono_unit = refl

pub mono_pair : (a b : Mono) → mono_tree (vmono.Pair a b) ≡ m_pair (mono_tree a) (mono_tree b)
unfolding generated
mono_pair a b = refl

pub mono_var : (a : ℕ) → mono_tree (vmono.Var a) ≡ m_var a
unfolding generated
mono_var a = refl

pub ty_mono : (a : Mono) → ty_tree (vty.Mono a) ≡ y_mono (mono_tree a)
unfolding generated
ty_mono a = refl

pub ty_fun : (a : Ty) (b : Ty) → ty_tree (vty.Fun a b) ≡ y_fun (ty_tree a) (ty_tree b)
unfolding generated
ty_fun a b = refl

pub ty_all : (a : Ty) → ty_tree (vty.All a) ≡ y_all (ty_tree a)
unfolding generated
ty_all a = refl

pub ty_hoare : (a : Triple) → ty_tree (vty.Hoare a) ≡ y_hoare (triple_tree a)
unfolding generated
ty_hoare a = refl

pub ty_at : (a : ℕ) (b : Ty) → ty_tree (vty.At a b) ≡ y_at a (ty_tree b)
unfolding generated
ty_at a b = refl

pub term_var : (a : ℕ) → term_tree (vterm.Var a) ≡ t_var a
unfolding generated
term_var a = refl

pub term_val : (a : ℕ) → term_tree (vterm.Val a) ≡ t_val a
unfolding generated
term_val a = refl

pub term_def : (a : ℕ) → term_tree (vterm.Def a) ≡ t_def a
unfolding generated
term_def a = refl

pub term_app : (a : Term) (b : Term) → term_tree (vterm.App a b) ≡ t_app (term_tree a) (term_tree b)
unfolding generated
term_app a b = refl

pub term_inst : (a : Term) (b : Mono) → term_tree (vterm.Inst a b) ≡ t_inst (term_tree a) (mono_tree b)
unfolding generated
term_inst a b = refl

pub term_lam : (a : Term) → term_tree (vterm.Lam a) ≡ t_lam (term_tree a)
unfolding generated
term_lam a = refl

pub term_lam_t : (a : Term) → term_tree (vterm.LamT a) ≡ t_lam_t (term_tree a)
unfolding generated
term_lam_t a = refl

pub term_do : (a : Comp) → term_tree (vterm.Do a) ≡ t_do (comp_tree a)
unfolding generated
term_do a = simp steps_row_is refl

pub term_fix : (a : Fix) → term_tree (vterm.Fix a) ≡ t_fix a.at (fix_tree a)
unfolding generated
term_fix a = λ j.
    t_fix a.at
    (params_row_is a.params (x_body (triple_tree a.triple) (steps_row_is a.body.steps (term_tree a.body.result) j)) j)

pub term_word : (a : ℕ) → term_tree (vterm.Word a) ≡ t_word a
unfolding generated
term_word a = refl

pub term_bool : (a : Bool) → term_tree (vterm.Bool a) ≡ t_bool a
unfolding generated
term_bool a = refl

pub term_loc : (a : ℕ) → term_tree (vterm.Loc a) ≡ t_loc a
unfolding generated
term_loc a = refl

pub term_unit : term_tree vterm.Unit ≡ t_unit
unfolding generated
term_unit = refl

pub term_pair : (a : Term) (b : Term) → term_tree (vterm.Pair a b) ≡ t_pair (term_tree a) (term_tree b)
unfolding generated
term_pair a b = refl

pub term_fst : (a : Term) → term_tree (vterm.Fst a) ≡ t_fst (term_tree a)
unfolding generated
term_fst a = refl

pub term_snd : (a : Term) → term_tree (vterm.Snd a) ≡ t_snd (term_tree a)
unfolding generated
term_snd a = refl

pub term_un : (a : Term) → term_tree (vterm.Un a) ≡ t_not (term_tree a)
unfolding generated
term_un a = refl

pub term_bin : (a : Op) (b : Term) (c : Term) → term_tree (vterm.Bin a b c) ≡ t_bin a (term_tree b) (term_tree c)
unfolding generated
term_bin a b c = refl

pub term_eq : (a : Mono) (b : Term) (c : Term)
    → term_tree (vterm.Eq a b c) ≡ t_eq (mono_tree a) (term_tree b) (term_tree c)
unfolding generated
term_eq a b c = refl

pub term_sel : (a : Mono) (b : Term) (c : Term) (e : Term)
    → term_tree (vterm.Sel a b c e) ≡ t_sel (mono_tree a) (term_tree b) (term_tree c) (term_tree e)
unfolding generated
term_sel a b c e = refl

pub term_ann : (a : Term) (b : Ty) → term_tree (vterm.Ann a b) ≡ t_ann (term_tree a) (ty_tree b)
unfolding generated
term_ann a b = refl

pub term_made : (a : ℕ) (b : List Term) → term_tree (vterm.Made a b) ≡ t_made a (term_trees b)
unfolding generated
term_made a b = simp terms_row_is refl

pub term_at : (a : ℕ) (b : Term) → term_tree (vterm.At a b) ≡ t_at a (term_tree b)
unfolding generated
term_at a b = refl

pub step_run : (a : Term) (b : Option Mono) → step_tree (vstep.Run a b) ≡ s_run (term_tree a) (option_map mono_tree b)
unfolding generated
step_run a b = refl

pub step_alloc : (a : Mono) (b : Term) → step_tree (vstep.Alloc a b) ≡ s_alloc (mono_tree a) (term_tree b)
unfolding generated
step_alloc a b = refl

pub step_get : (a : Mono) (b : Term) → step_tree (vstep.Get a b) ≡ s_get (mono_tree a) (term_tree b)
unfolding generated
step_get a b = refl

pub step_set : (a : Mono) (b : Term) (c : Term)
    → step_tree (vstep.Set a b c) ≡ s_set (mono_tree a) (term_tree b) (term_tree c)
unfolding generated
step_set a b c = refl

pub step_free : (a : Mono) (b : Term) → step_tree (vstep.Free a b) ≡ s_free (mono_tree a) (term_tree b)
unfolding generated
step_free a b = refl

pub step_if : (a : Mono) (b : Term) (c : Comp) (e : Comp)
    → step_tree (vstep.If a b c e) ≡ s_if (mono_tree a) (term_tree b) (comp_tree c) (comp_tree e)
unfolding generated
step_if a b c e = simp steps_row_is refl

pub step_claim : (a : Formula) → step_tree (vstep.Claim a) ≡ s_claim (formula_tree a)
unfolding generated
step_claim a = refl

pub formula_tt : formula_tree vformula.Tt ≡ f_tt
unfolding generated
formula_tt = refl

pub formula_ff : formula_tree vformula.Ff ≡ f_ff
unfolding generated
formula_ff = refl

pub formula_and : (a : Formula) (b : Formula)
    → formula_tree (vformula.And a b) ≡ f_and (formula_tree a) (formula_tree b)
unfolding generated
formula_and a b = refl

pub formula_or : (a : Formula) (b : Formula) → formula_tree (vformula.Or a b) ≡ f_or (formula_tree a) (formula_tree b)
unfolding generated
formula_or a b = refl

pub formula_imp : (a : Formula) (b : Formula)
    → formula_tree (vformula.Imp a b) ≡ f_imp (formula_tree a) (formula_tree b)
unfolding generated
formula_imp a b = refl

pub formula_all_t : (a : Mono) (b : Formula) → formula_tree (vformula.AllT a b) ≡ f_all_t (mono_tree a) (formula_tree b)
unfolding generated
formula_all_t a b = refl

pub formula_ex_t : (a : Mono) (b : Formula) → formula_tree (vformula.ExT a b) ≡ f_ex_t (mono_tree a) (formula_tree b)
unfolding generated
formula_ex_t a b = refl

pub formula_all_h : (a : Formula) → formula_tree (vformula.AllH a) ≡ f_all_h (formula_tree a)
unfolding generated
formula_all_h a = refl

pub formula_ex_h : (a : Formula) → formula_tree (vformula.ExH a) ≡ f_ex_h (formula_tree a)
unfolding generated
formula_ex_h a = refl

pub formula_emp : (a : ℕ) → formula_tree (vformula.Emp a) ≡ f_emp a
unfolding generated
formula_emp a = refl

pub formula_cell : (a : Mono) (b : ℕ) (c : Term) (e : Term)
    → formula_tree (vformula.Cell a b c e) ≡ f_cell (mono_tree a) b (term_tree c) (term_tree e)
unfolding generated
formula_cell a b c e = refl

pub formula_block : (a : Mono) (b : ℕ) (c : Term)
    → formula_tree (vformula.Block a b c) ≡ f_block (mono_tree a) b (term_tree c)
unfolding generated
formula_block a b c = refl

pub formula_join : (a : ℕ) (b : ℕ) (c : ℕ) → formula_tree (vformula.Join a b c) ≡ f_join a b c
unfolding generated
formula_join a b c = refl

pub formula_same : (a : ℕ) (b : ℕ) → formula_tree (vformula.Same a b) ≡ f_same a b
unfolding generated
formula_same a b = refl

pub formula_eq : (a : Mono) (b : Term) (c : Term)
    → formula_tree (vformula.Eq a b c) ≡ f_eq (mono_tree a) (term_tree b) (term_tree c)
unfolding generated
formula_eq a b c = refl

pub formula_at : (a : ℕ) (b : Formula) → formula_tree (vformula.At a b) ≡ f_at a (formula_tree b)
unfolding generated
formula_at a b = refl

pub formula_rec : (a : ℕ) (b : ℕ) (c : Term) (e : List Term)
    → formula_tree (vformula.Rec a b c e) ≡ f_rec a b (term_tree c) (term_trees e)
unfolding generated
formula_rec a b c e = simp terms_row_is refl

pub ruleset mono_levels = (mono_word, mono_bool, mono_loc, mono_unit, mono_pair, mono_var)

pub ruleset ty_levels = (ty_mono, ty_fun, ty_all, ty_hoare, ty_at)

pub ruleset term_levels = (
  term_var,
  term_val,
  term_def,
  term_app,
  term_inst,
  term_lam,
  term_lam_t,
  term_do,
  term_fix,
  term_word,
  term_bool,
  term_loc,
  term_unit,
  term_pair,
  term_fst,
  term_snd,
  term_un,
  term_bin,
  term_eq,
  term_sel,
  term_ann,
  term_made,
  term_at,
)

pub ruleset step_levels = (step_run, step_alloc, step_get, step_set, step_free, step_if, step_claim)

pub ruleset formula_levels = (
  formula_tt,
  formula_ff,
  formula_and,
  formula_or,
  formula_imp,
  formula_all_t,
  formula_ex_t,
  formula_all_h,
  formula_ex_h,
  formula_emp,
  formula_cell,
  formula_block,
  formula_join,
  formula_same,
  formula_eq,
  formula_at,
  formula_rec,
)
