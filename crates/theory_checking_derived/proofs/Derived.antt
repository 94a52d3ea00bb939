-- What a phrase gives is derived: by the phrase, each row by its rule.
use Rattle.std.proofs.Common.{ℕ, suc, true, false, List, [], ◌∷◌, ◌++◌, Ok, Option, Some, None, refl}
use Rattle.htt_syntax.specs.Trees.{MonoTree, TyTree, TripleTree, TermTree, FixTree, CompTree, StepTree, FormulaTree, TermTrees, m_word, m_bool, m_loc, m_pair, y_mono, y_fun, y_all}
use Rattle.htt_syntax.specs.Trees.{y_hoare, y_at, triple, t_var, t_val, t_def, t_app, t_inst, t_lam, t_lam_t, t_do, t_fix, t_word, t_bool, t_loc, t_unit}
use Rattle.htt_syntax.specs.Trees.{t_pair, t_fst, t_snd, t_not, t_bin, t_eq, t_sel, t_ann, t_made, t_at, x_param, x_body, c_ret, c_step, s_run, s_alloc}
use Rattle.htt_syntax.specs.Trees.{s_get, s_set, s_free, s_if, s_claim, f_tt, f_ff, f_and, f_or, f_imp, f_all_t, f_ex_t, f_all_h, f_ex_h, f_emp, f_cell}
use Rattle.htt_syntax.specs.Trees.{f_block, f_join, f_same, f_eq, f_at, f_rec, no_terms, more_terms}
use Rattle.theory_renaming.specs.Renaming.{rename_mono, rename_ty, rename_triple}
use Rattle.theory_states.specs.States.{branch, finish, merge, move_alloc, move_get, move_set, move_free, move_run, move_claim}
use Rattle.theory_typing.specs.Contexts.{en_mono, en_heap, en_term, Context, Environment}
use Rattle.theory_typing.specs.Typing.{Mode, in_program, in_formula, with_heaps, part_step, FormsTy, forms_mono, forms_fun, forms_all, forms_hoare, forms_ty_at}
use Rattle.theory_typing.specs.Typing.{FormsTriple, forms_triple, FormsFormula, forms_tt, forms_ff, forms_and, forms_or, forms_imp, forms_all_t, forms_ex_t}
use Rattle.theory_typing.specs.Typing.{forms_all_h, forms_ex_h, forms_emp, forms_cell, forms_block, forms_join, forms_same, forms_eq, forms_rec}
use Rattle.theory_typing.specs.Typing.{forms_formula_at, FitsAll, fits_none, fits_more, gives_var, gives_val, gives_def, gives_word, gives_bool, gives_loc}
use Rattle.theory_typing.specs.Typing.{gives_unit, gives_app, gives_inst, gives_ann, gives_pair, gives_fst, gives_snd, gives_bin, gives_not, gives_eq}
use Rattle.theory_typing.specs.Typing.{gives_sel, gives_fix, gives_at, fits_lam, fits_lam_t, fits_pair, fits_do, fits_at, FormsHeader, header_param}
use Rattle.theory_typing.specs.Typing.{header_body, FitsFix, fix_param, fix_body, Runs, runs_ret, runs_step, Moves, moves_alloc, moves_get, moves_set}
use Rattle.theory_typing.specs.Typing.{moves_free, moves_if, moves_claim}
use Rattle.theory_checking.specs.Stops.{goes_on, comes, holds, finds, makes}
use Rattle.theory_checking.specs.Results.{Typed, Fixed, Ran, Moved, Branched}
use Rattle.theory_checking.specs.Checking.{TyComesTo, TripleComesTo, FormulaComesTo, TermsComeTo, TermComesTo, HeaderComesTo, FixComesTo, RunsTo, StepComesTo}
use Rattle.theory_checking_derived.specs.Laws.{WhatComesIsDerived}
use Rattle.theory_checking_derived.proofs.Pieces.{came_to, Derived, agreed, gives_same, in_formula_fits, assembled, body_derived, run_derived, moved_on}
use Rattle.theory_checking_derived.proofs.Pieces.{branch_to}

mutual
  unfolding TyComesTo TripleComesTo FormulaComesTo TermsComeTo TermComesTo HeaderComesTo FixComesTo RunsTo StepComesTo

  pub ty_derived : (env : Environment) (g : Context) (at : ℕ) (A : TyTree) {R : TyTree} → TyComesTo env g at A (Ok R) → FormsTy env g A R
  ty_derived env g at (y_mono mono) (goes_on (goes_on (holds m) n) comes) = forms_mono m
  ty_derived env g at (y_fun argument answer) (goes_on a (goes_on h (goes_on b comes))) =
      forms_fun (ty_derived env g at argument a) (ty_derived env _ at answer b)
  ty_derived env g at (y_all ty) (goes_on h (goes_on a comes)) = forms_all (ty_derived env (en_mono ∷ g) at ty a)
  ty_derived env g at (y_hoare spec) (goes_on a comes) = forms_hoare (triple_derived env g at spec a)
  ty_derived env g at (y_at inner ty) a = forms_ty_at (ty_derived env g inner ty a)

  triple_derived : (env : Environment) (g : Context) (at : ℕ) (spec : TripleTree) {R : TripleTree}
      → TripleComesTo env g at spec (Ok R)
      → FormsTriple env g spec R
  triple_derived env g at (triple pre mono post) (goes_on h (goes_on a (goes_on (goes_on (holds m) n) (goes_on k (goes_on b comes))))) =
      forms_triple (formula_derived env (en_heap ∷ g) at pre a) m (formula_derived env (with_heaps (en_term (y_mono mono) ∷ g)) at post b)

  pub formula_derived : (env : Environment) (g : Context) (at : ℕ) (F : FormulaTree) {R : FormulaTree}
      → FormulaComesTo env g at F (Ok R)
      → FormsFormula env g F R
  formula_derived env g at f_tt comes = forms_tt
  formula_derived env g at f_ff comes = forms_ff
  formula_derived env g at (f_and left right) (goes_on a (goes_on b comes)) = forms_and (formula_derived env g at left a) (formula_derived env g at right b)
  formula_derived env g at (f_or left right) (goes_on a (goes_on b comes)) = forms_or (formula_derived env g at left a) (formula_derived env g at right b)
  formula_derived env g at (f_imp left right) (goes_on a (goes_on b comes)) = forms_imp (formula_derived env g at left a) (formula_derived env g at right b)
  formula_derived env g at (f_all_t mono body) (goes_on (goes_on (holds m) n) (goes_on h (goes_on a comes))) =
      forms_all_t m (formula_derived env (en_term (y_mono mono) ∷ g) at body a)
  formula_derived env g at (f_ex_t mono body) (goes_on (goes_on (holds m) n) (goes_on h (goes_on a comes))) =
      forms_ex_t m (formula_derived env (en_term (y_mono mono) ∷ g) at body a)
  formula_derived env g at (f_all_h body) (goes_on h (goes_on a comes)) = forms_all_h (formula_derived env (en_heap ∷ g) at body a)
  formula_derived env g at (f_ex_h body) (goes_on h (goes_on a comes)) = forms_ex_h (formula_derived env (en_heap ∷ g) at body a)
  formula_derived env g at (f_emp heap) (goes_on (holds i) comes) = forms_emp i
  formula_derived env g at (f_cell mono heap place value)
      (goes_on (goes_on (holds m) n) (goes_on (holds i) (goes_on {given = k} a (goes_on {given = l} b comes)))) =
      forms_cell m i (in_formula_fits (term_derived env in_formula g at place (Some (y_mono m_loc)) k a))
      (in_formula_fits (term_derived env in_formula g at value (Some (y_mono mono)) l b))
  formula_derived env g at (f_block mono heap place) (goes_on (goes_on (holds m) n) (goes_on (holds i) (goes_on {given = k} a comes))) =
      forms_block m i (in_formula_fits (term_derived env in_formula g at place (Some (y_mono m_loc)) k a))
  formula_derived env g at (f_join whole_heap left_heap right_heap) (goes_on (holds i) (goes_on (holds k) (goes_on (holds l) comes))) = forms_join i k l
  formula_derived env g at (f_same left_heap right_heap) (goes_on (holds i) (goes_on (holds k) comes)) = forms_same i k
  formula_derived env g at (f_eq mono first second) (goes_on (goes_on (holds m) n) (goes_on {given = k} a (goes_on {given = l} b comes))) =
      forms_eq m (in_formula_fits (term_derived env in_formula g at first (Some (y_mono mono)) k a))
      (in_formula_fits (term_derived env in_formula g at second (Some (y_mono mono)) l b))
  formula_derived env g at (f_rec number heap term terms)
      (goes_on (finds {given = r} l) (goes_on (holds i) (goes_on {given = k} a (goes_on (holds n) (goes_on b comes))))) =
      forms_rec l i (in_formula_fits (term_derived env in_formula g at term (Some (y_mono m_word)) k a)) n (terms_derived env g at terms r.params b)
  formula_derived env g at (f_at inner formula) a = forms_formula_at (formula_derived env g inner formula a)

  terms_derived : (env : Environment) (g : Context) (at : ℕ) (terms : TermTrees) (params : List MonoTree) {R : TermTrees}
      → TermsComeTo env g at terms params (Ok R)
      → FitsAll env g terms params R
  terms_derived env g at no_terms [] comes = fits_none
  terms_derived env g at no_terms (mono ∷ params) a = elim a [ ]
  terms_derived env g at (more_terms term terms) [] a = elim a [ ]
  terms_derived env g at (more_terms term terms) (mono ∷ params) (goes_on {given = k} a (goes_on b comes)) =
      fits_more (in_formula_fits (term_derived env in_formula g at term (Some (y_mono mono)) k a)) (terms_derived env g at terms params b)

  pub term_derived : (env : Environment) (m : Mode) (g : Context) (at : ℕ) (M : TermTree) (asked : Option TyTree) (r : Typed)
      → TermComesTo env m g at M asked (Ok r)
      → Derived env m g M asked r
  term_derived env m g at (t_var index) asked r (goes_on (goes_on (finds d) z) s) = agreed at asked r tt (gives_var d) z s
  term_derived env m g at (t_val number) asked r (goes_on (goes_on (finds d) z) s) = agreed at asked r tt (gives_val d) z s
  term_derived env m g at (t_def number) asked r (goes_on (goes_on (finds d) z) s) = agreed at asked r tt (gives_def d) z s
  term_derived env m g at (t_word word) asked r (goes_on (goes_on (makes d) z) s) = agreed at asked r tt (gives_word d) z s
  term_derived env m g at (t_bool truth) asked r (goes_on z s) = agreed at asked r tt gives_bool z s
  term_derived env m g at (t_loc place) asked r (goes_on (goes_on (makes d) z) s) = agreed at asked r tt (gives_loc d) z s
  term_derived env m g at t_unit asked r (goes_on z s) = agreed at asked r tt gives_unit z s
  term_derived env m g at (t_app function value) asked r
      (goes_on (goes_on {given = k} a (goes_on {given = f} (finds e) (goes_on {given = v} b (goes_on (goes_on (makes p) (goes_on w comes))
      (goes_on (makes i) (goes_on (goes_on (makes q) (goes_on x comes)) z)))))) s) =
      agreed at asked r tt
      (gives_app (gives_same (term_derived env m g at function None k a) e i) (term_derived env m g at value (Some (f.0)) v b) p q) z s
  term_derived env m g at (t_inst function mono) asked r
      (goes_on (goes_on {given = k} a (goes_on (finds e) (goes_on (goes_on (holds n) l) (goes_on w (goes_on (makes i) (goes_on x z)))))) s) =
      agreed at asked r tt (gives_inst (gives_same (term_derived env m g at function None k a) e i) n) z s
  term_derived env m g at (t_ann term ty) asked r (goes_on (goes_on {given = A} a (goes_on {given = v} b z)) s) =
      agreed at asked r tt (gives_ann (ty_derived env g at ty a) (term_derived env m g at term (Some A) v b)) z s
  term_derived env m g at (t_pair first second) None r
      (goes_on {given = k} a (goes_on (finds e) (goes_on {given = l} b (goes_on (finds f) (goes_on n comes))))) =
      gives_pair (gives_same (term_derived env m g at first None k a) e refl) (gives_same (term_derived env m g at second None l b) f refl)
  term_derived env m g at (t_pair first second) (Some (y_mono (m_pair left right))) r (goes_on {given = k} a (goes_on {given = l} b comes)) =
      fits_pair (term_derived env m g at first (Some (y_mono left)) k a) (term_derived env m g at second (Some (y_mono right)) l b)
  term_derived env m g at (t_pair first second) (Some _) r a = elim a [ ]
  term_derived env m g at (t_fst term) asked r (goes_on (goes_on {given = k} a (goes_on (finds e) z)) s) =
      agreed at asked r tt (gives_fst (gives_same (term_derived env m g at term None k a) e refl)) z s
  term_derived env m g at (t_snd term) asked r (goes_on (goes_on {given = k} a (goes_on (finds e) z)) s) =
      agreed at asked r tt (gives_snd (gives_same (term_derived env m g at term None k a) e refl)) z s
  term_derived env m g at (t_bin op first second) asked r (goes_on (goes_on {given = k} a (goes_on {given = l} b z)) s) =
      agreed at asked r tt
      (gives_bin (term_derived env m g at first (Some (y_mono m_word)) k a) (term_derived env m g at second (Some (y_mono m_word)) l b)) z s
  term_derived env m g at (t_not term) asked r (goes_on (goes_on {given = k} a z) s) =
      agreed at asked r tt (gives_not (term_derived env m g at term (Some (y_mono m_bool)) k a)) z s
  term_derived env m g at (t_eq mono first second) asked r
      (goes_on (goes_on (goes_on (holds n) x) (goes_on (holds i) (goes_on {given = k} a (goes_on {given = l} b z)))) s) =
      agreed at asked r tt
      (gives_eq n i (term_derived env m g at first (Some (y_mono mono)) k a) (term_derived env m g at second (Some (y_mono mono)) l b)) z s
  term_derived env m g at (t_sel mono first second third) asked r
      (goes_on (goes_on (goes_on (holds n) x) (goes_on {given = k} a (goes_on {given = l} b (goes_on {given = i} c z)))) s) =
      agreed at asked r tt
      (gives_sel n (term_derived env m g at first (Some (y_mono m_bool)) k a) (term_derived env m g at second (Some (y_mono mono)) l b)
      (term_derived env m g at third (Some (y_mono mono)) i c)) z s
  term_derived env in_formula g at (t_fix keyword fix) asked r a = elim a [ ]
  term_derived env in_program g at (t_fix keyword fix) asked r (goes_on (goes_on {given = A} a (goes_on {given = x} b z)) s) =
      agreed at asked r tt (gives_fix (header_derived env g at fix a) (fix_derived env g at A fix A x b)) z s
  term_derived env m g at (t_lam term) None r a = elim a [ ]
  term_derived env m g at (t_lam term) (Some (y_fun argument answer)) r (goes_on h (goes_on {given = k} a comes)) =
      fits_lam (term_derived env m (en_term argument ∷ g) at term (Some answer) k a)
  term_derived env m g at (t_lam term) (Some _) r a = elim a [ ]
  term_derived env m g at (t_lam_t term) None r a = elim a [ ]
  term_derived env m g at (t_lam_t term) (Some (y_all ty)) r (goes_on h (goes_on {given = k} a comes)) =
      fits_lam_t (term_derived env m (en_mono ∷ g) at term (Some ty) k a)
  term_derived env m g at (t_lam_t term) (Some _) r a = elim a [ ]
  term_derived env in_formula g at (t_do comp) asked r a = elim a [ ]
  term_derived env in_program g at (t_do comp) None r a = elim a [ ]
  term_derived env in_program g at (t_do comp) (Some (y_hoare spec)) r (goes_on {given = c} a comes) =
      fits_do (body_derived spec c (λ mono state. RunsTo env g at mono state comp) (λ mono state x d. runs_derived env g at mono state comp x d) a)
  term_derived env in_program g at (t_do comp) (Some _) r a = elim a [ ]
  term_derived env m g at (t_made number values) asked r a = elim a [ ]
  term_derived env m g at (t_at inner term) None r a = gives_at (term_derived env m g inner term None r a)
  term_derived env m g at (t_at inner term) (Some A) r a = fits_at (term_derived env m g inner term (Some A) r a)

  header_derived : (env : Environment) (g : Context) (at : ℕ) (fix : FixTree) {A : TyTree} → HeaderComesTo env g at fix (Ok A) → FormsHeader env g fix A
  header_derived env g at (x_param argument rest) (goes_on {given = A} a (goes_on h (goes_on b comes))) =
      header_param (ty_derived env g at argument a) (header_derived env (en_term A ∷ g) at rest b)
  header_derived env g at (x_body spec comp) (goes_on a comes) = header_body (triple_derived env g at spec a)

  fix_derived : (env : Environment) (g : Context) (at : ℕ) (whole : TyTree) (fix : FixTree) (A : TyTree) (x : Fixed)
      → FixComesTo env g at whole fix A (Ok x)
      → FitsFix env g whole fix A x.fix x.owed
  fix_derived env g at whole (x_param argument rest) (y_fun argument' answer) x (goes_on {given = y} a comes) =
      fix_param (fix_derived env (en_term argument' ∷ g) at (rename_ty suc whole) rest answer y a)
  fix_derived env g at whole (x_param argument rest) _ x a = elim a [ ]
  fix_derived env g at whole (x_body spec comp) (y_hoare spec') x (goes_on h (goes_on {given = c} a comes)) =
      fix_body (body_derived (rename_triple suc spec') c (λ mono state. RunsTo env (en_term whole ∷ g) at mono state comp)
      (λ mono state r d. runs_derived env (en_term whole ∷ g) at mono state comp r d) a)
  fix_derived env g at whole (x_body spec comp) _ x a = elim a [ ]

  pub runs_derived : (env : Environment) (g : Context) (at : ℕ) (mono : MonoTree) (state : FormulaTree) (comp : CompTree) (r : Ran)
      → RunsTo env g at mono state comp (Ok r)
      → Runs env g mono state comp r.end r.zs r.value r.parts r.owed
  runs_derived env g at mono state (c_ret term) r (goes_on {given = k} a comes) =
      runs_ret (term_derived env in_program g at term (Some (y_mono mono)) k a)
  runs_derived env g at mono state (c_step step others) r (goes_on {given = s} a (goes_on {given = q} b comes)) =
      runs_step (step_derived env g at state step s a)
      (runs_derived env (en_term (y_mono s.mono) ∷ g) at (rename_mono suc mono) s.next others q b)

  step_derived : (env : Environment) (g : Context) (at : ℕ) (state : FormulaTree) (step : StepTree) (s : Moved)
      → StepComesTo env g at state step (Ok s)
      → Moves env g state step s.mono s.next s.part s.owed
  step_derived env g at state (s_alloc mono value) s (goes_on (goes_on (holds m) n) (goes_on {given = k} a o)) =
      moved_on (move_alloc mono k.term) k.owed (moves_alloc m (term_derived env in_program g at value (Some (y_mono mono)) k a)) o
  step_derived env g at state (s_get mono place) s (goes_on (goes_on (holds m) n) (goes_on {given = k} a o)) =
      moved_on (move_get mono k.term) k.owed (moves_get m (term_derived env in_program g at place (Some (y_mono m_loc)) k a)) o
  step_derived env g at state (s_set mono place value) s (goes_on (goes_on (holds m) n) (goes_on {given = k} a (goes_on {given = l} b o))) =
      moved_on (move_set mono k.term l.term) (k.owed ++ l.owed)
      (moves_set m (term_derived env in_program g at place (Some (y_mono m_loc)) k a) (term_derived env in_program g at value (Some (y_mono mono)) l b)) o
  step_derived env g at state (s_free mono place) s (goes_on (goes_on (holds m) n) (goes_on {given = k} a o)) =
      moved_on (move_free mono k.term) k.owed (moves_free m (term_derived env in_program g at place (Some (y_mono m_loc)) k a)) o
  step_derived env g at state (s_run term given) s (goes_on {given = k} a (goes_on {given = spec} (finds e) (goes_on (makes f) o))) =
      moved_on (move_run spec) k.owed (run_derived spec (gives_same (term_derived env in_program g at term None k a) e f)) o
  step_derived env g at state (s_if mono test on_true on_false) s
      (goes_on (goes_on (holds m) n) (goes_on {given = k} a (goes_on {given = b} c (goes_on {given = d} e (goes_on h (goes_on w z)))))) =
      came_to (λ (x : Moved). Moves env g state (s_if mono test on_true on_false) x.mono x.next x.part x.owed)
      (branch_to g mono (branch state k.term true) (λ from. RunsTo env g at mono from on_true)
      (λ (y : Branched). Moves env g state (s_if mono test on_true on_false) mono (merge y.ending d.ending) (part_step (s_if mono k.term y.comp d.comp))
      (k.owed ++ y.owed ++ d.owed))
      (λ r E x l. branch_to g mono (branch state k.term false) (λ from. RunsTo env g at mono from on_false)
      (λ (y : Branched). Moves env g state (s_if mono test on_true on_false) mono (merge (finish r.end r.zs mono r.value) y.ending)
      (part_step (s_if mono k.term E y.comp)) (k.owed ++ r.owed ++ y.owed))
      (λ q F y o. moves_if m (term_derived env in_program g at test (Some (y_mono m_bool)) k a)
      (runs_derived env g at mono (branch state k.term true) on_true r x) (assembled r.parts r.value l)
      (runs_derived env g at mono (branch state k.term false) on_false q y) (assembled q.parts q.value o)) e) c) z
  step_derived env g at state (s_claim claim) s (goes_on k (goes_on {given = F} a o)) =
      moved_on (move_claim F) [] (moves_claim (formula_derived env (with_heaps g) at claim a)) o

pub what_comes_is_derived : WhatComesIsDerived
what_comes_is_derived = record {
  types = λ env g at A R d. ty_derived env g at A d;
  formulas = λ env g at F R d. formula_derived env g at F d;
  given = λ env m g at M k d. term_derived env m g at M None k d;
  fitting = λ env m g at M A k d. term_derived env m g at M (Some A) k d;
  bodies = λ env g at spec E c d.
      body_derived spec c (λ mono state. RunsTo env g at mono state E) (λ mono state r x. runs_derived env g at mono state E r x) d;
}
