-- What is derived reaches that, or a limit: by the derivation, each rule by its row.
use Rattle.std.proofs.Common.{◌≡◌, ℕ, List, [], Some, None, refl}
use Rattle.htt_syntax.specs.Trees.{MonoTree, TyTree, TripleTree, TermTree, FixTree, CompTree, StepTree, FormulaTree, TermTrees}
use Rattle.htt_syntax.specs.Trees.{triple, t_var, t_val, t_def, t_app, t_inst, t_lam, t_lam_t, t_do, t_fix, t_word, t_bool, t_loc, t_unit, t_pair}
use Rattle.htt_syntax.specs.Trees.{t_fst, t_snd, t_not, t_bin, t_eq, t_sel, t_ann, t_made, t_at}
use Rattle.theory_states.specs.States.{move_alloc, move_get, move_set, move_free, move_run, move_claim}
use Rattle.theory_typing.specs.Positions.{plain_ty}
use Rattle.theory_typing.specs.Contexts.{Context, Environment, Obligation}
use Rattle.theory_typing.specs.Typing.{Mode, in_program, in_formula, IsInferred, Part, FormsTy, forms_mono, forms_fun}
use Rattle.theory_typing.specs.Typing.{forms_all, forms_hoare, forms_ty_at, FormsTriple, forms_triple, FormsFormula, forms_tt, forms_ff, forms_and, forms_or}
use Rattle.theory_typing.specs.Typing.{forms_imp, forms_all_t, forms_ex_t, forms_all_h, forms_ex_h, forms_emp, forms_cell, forms_block, forms_join, forms_same}
use Rattle.theory_typing.specs.Typing.{forms_eq, forms_rec, forms_formula_at, FitsAll, fits_none, fits_more, Gives, gives_var, gives_val, gives_def, gives_word}
use Rattle.theory_typing.specs.Typing.{gives_bool, gives_loc, gives_unit, gives_app, gives_inst, gives_ann, gives_pair, gives_fst, gives_snd, gives_bin}
use Rattle.theory_typing.specs.Typing.{gives_not, gives_eq, gives_sel, gives_fix, gives_at, Fits, fits_lam, fits_lam_t, fits_pair, fits_do, fits_given, fits_at}
use Rattle.theory_typing.specs.Typing.{FormsHeader, header_param, header_body, FitsFix, fix_param, fix_body, FitsBody, fits_body, Runs, runs_ret, runs_step}
use Rattle.theory_typing.specs.Typing.{Moves, moves_alloc, moves_get, moves_set, moves_free, moves_run, moves_if, moves_claim}
use Rattle.theory_checking.specs.Results.{Typed, typed, fixed, computed, ran, moved, BodyComesTo}
use Rattle.theory_checking.specs.Checking.{TyComesTo, TripleComesTo, FormulaComesTo, TermsComeTo, TermComesTo, HeaderComesTo, FixComesTo, RunsTo, StepComesTo}
use Rattle.theory_checking_complete.specs.Reaching.{Reaches}
use Rattle.theory_checking_complete.proofs.Reached.{then_reaches, comes_reaches, needs_reaches, limit_reaches, finds_reaches, makes_reaches, mono_reaches}
use Rattle.theory_checking_complete.proofs.Reached.{state_reaches, within_reaches, puts_ty_reaches, puts_term_reaches, asked_reaches, refuses_reaches, goes_on_reaches}
use Rattle.theory_checking_complete.proofs.Reached.{assembles_reaches}

-- a phrase whose type is inferred fits what it gives
inferred_reaches : (env : Environment) (m : Mode) (g : Context) (at : ℕ) (M : TermTree) {k : Typed} (A : TyTree)
    → IsInferred M
    → plain_ty k.ty ≡ plain_ty A
    → Reaches (TermComesTo env m g at M None) k
    → Reaches (TermComesTo env m g at M (Some A)) (typed A k.term k.owed)
unfolding TermComesTo
inferred_reaches env m g at (t_var index) A i e f = asked_reaches at A e f
inferred_reaches env m g at (t_val number) A i e f = asked_reaches at A e f
inferred_reaches env m g at (t_def number) A i e f = asked_reaches at A e f
inferred_reaches env m g at (t_word word) A i e f = asked_reaches at A e f
inferred_reaches env m g at (t_bool truth) A i e f = asked_reaches at A e f
inferred_reaches env m g at (t_loc place) A i e f = asked_reaches at A e f
inferred_reaches env m g at t_unit A i e f = asked_reaches at A e f
inferred_reaches env m g at (t_app function value) A i e f = asked_reaches at A e f
inferred_reaches env m g at (t_inst function mono) A i e f = asked_reaches at A e f
inferred_reaches env m g at (t_ann term ty) A i e f = asked_reaches at A e f
inferred_reaches env m g at (t_fst term) A i e f = asked_reaches at A e f
inferred_reaches env m g at (t_snd term) A i e f = asked_reaches at A e f
inferred_reaches env m g at (t_bin op first second) A i e f = asked_reaches at A e f
inferred_reaches env m g at (t_not term) A i e f = asked_reaches at A e f
inferred_reaches env m g at (t_eq mono first second) A i e f = asked_reaches at A e f
inferred_reaches env m g at (t_sel mono first second third) A i e f = asked_reaches at A e f
inferred_reaches env in_formula g at (t_fix keyword fix) A i e f = refuses_reaches f
inferred_reaches env in_program g at (t_fix keyword fix) A i e f = asked_reaches at A e f
inferred_reaches env m g at (t_made number values) A i e f = refuses_reaches f
inferred_reaches env m g at (t_pair first second) A i e f = absurd i
inferred_reaches env m g at (t_lam term) A i e f = absurd i
inferred_reaches env m g at (t_lam_t term) A i e f = absurd i
inferred_reaches env m g at (t_do comp) A i e f = absurd i
inferred_reaches env m g at (t_at inner term) A i e f = absurd i

module _ (env : Environment) where
  mutual
    unfolding TyComesTo TripleComesTo FormulaComesTo TermsComeTo TermComesTo HeaderComesTo FixComesTo RunsTo StepComesTo

    pub ty_reaches : {g : Context} {A R : TyTree} (at : ℕ) → FormsTy env g A R → Reaches (TyComesTo env g at A) R
    ty_reaches at (forms_mono m) = then_reaches (mono_reaches m) comes_reaches
    ty_reaches at (forms_fun a b) = then_reaches (ty_reaches at a) (then_reaches limit_reaches (then_reaches (ty_reaches at b) comes_reaches))
    ty_reaches at (forms_all a) = then_reaches limit_reaches (then_reaches (ty_reaches at a) comes_reaches)
    ty_reaches at (forms_hoare a) = then_reaches (triple_reaches at a) comes_reaches
    ty_reaches at (forms_ty_at {at = inner} a) = ty_reaches inner a

    triple_reaches : {g : Context} {spec R : TripleTree} (at : ℕ) → FormsTriple env g spec R → Reaches (TripleComesTo env g at spec) R
    triple_reaches at (forms_triple a m b) =
        then_reaches limit_reaches (then_reaches (formula_reaches at a) (then_reaches (mono_reaches m)
        (then_reaches limit_reaches (then_reaches (formula_reaches at b) comes_reaches))))

    pub formula_reaches : {g : Context} {F R : FormulaTree} (at : ℕ) → FormsFormula env g F R → Reaches (FormulaComesTo env g at F) R
    formula_reaches at forms_tt = comes_reaches
    formula_reaches at forms_ff = comes_reaches
    formula_reaches at (forms_and a b) = then_reaches (formula_reaches at a) (then_reaches (formula_reaches at b) comes_reaches)
    formula_reaches at (forms_or a b) = then_reaches (formula_reaches at a) (then_reaches (formula_reaches at b) comes_reaches)
    formula_reaches at (forms_imp a b) = then_reaches (formula_reaches at a) (then_reaches (formula_reaches at b) comes_reaches)
    formula_reaches at (forms_all_t m a) = then_reaches (mono_reaches m) (then_reaches limit_reaches (then_reaches (formula_reaches at a) comes_reaches))
    formula_reaches at (forms_ex_t m a) = then_reaches (mono_reaches m) (then_reaches limit_reaches (then_reaches (formula_reaches at a) comes_reaches))
    formula_reaches at (forms_all_h a) = then_reaches limit_reaches (then_reaches (formula_reaches at a) comes_reaches)
    formula_reaches at (forms_ex_h a) = then_reaches limit_reaches (then_reaches (formula_reaches at a) comes_reaches)
    formula_reaches at (forms_emp i) = then_reaches (needs_reaches i) comes_reaches
    formula_reaches at (forms_cell m i a b) =
        then_reaches (mono_reaches m) (then_reaches (needs_reaches i) (then_reaches (fit_reaches at a) (then_reaches (fit_reaches at b) comes_reaches)))
    formula_reaches at (forms_block m i a) = then_reaches (mono_reaches m) (then_reaches (needs_reaches i) (then_reaches (fit_reaches at a) comes_reaches))
    formula_reaches at (forms_join i k l) = then_reaches (needs_reaches i) (then_reaches (needs_reaches k) (then_reaches (needs_reaches l) comes_reaches))
    formula_reaches at (forms_same i k) = then_reaches (needs_reaches i) (then_reaches (needs_reaches k) comes_reaches)
    formula_reaches at (forms_eq m a b) = then_reaches (mono_reaches m) (then_reaches (fit_reaches at a) (then_reaches (fit_reaches at b) comes_reaches))
    formula_reaches at (forms_rec {r = r} l i a n b) =
        then_reaches (finds_reaches r l) (then_reaches (needs_reaches i)
        (then_reaches (fit_reaches at a) (then_reaches (needs_reaches n) (then_reaches (terms_reach at b) comes_reaches))))
    formula_reaches at (forms_formula_at {at = inner} a) = formula_reaches inner a

    terms_reach : {g : Context} {terms R : TermTrees} {params : List MonoTree} (at : ℕ)
        → FitsAll env g terms params R
        → Reaches (TermsComeTo env g at terms params) R
    terms_reach at fits_none = comes_reaches
    terms_reach at (fits_more a b) = then_reaches (fit_reaches at a) (then_reaches (terms_reach at b) comes_reaches)

    pub give_reaches : {m : Mode} {g : Context} {M N : TermTree} {A : TyTree} {o : List Obligation} (at : ℕ)
        → Gives env m g M A N o
        → Reaches (TermComesTo env m g at M None) (typed A N o)
    give_reaches at (gives_var {ty = ty} d) = then_reaches (then_reaches (finds_reaches ty d) comes_reaches) comes_reaches
    give_reaches at (gives_val {ty = ty} d) = then_reaches (then_reaches (finds_reaches ty d) comes_reaches) comes_reaches
    give_reaches at (gives_def {definition = definition} d) =
        then_reaches (then_reaches (finds_reaches definition d) comes_reaches) comes_reaches
    give_reaches at (gives_word w) = then_reaches (then_reaches (makes_reaches tt w) comes_reaches) comes_reaches
    give_reaches at gives_bool = then_reaches comes_reaches comes_reaches
    give_reaches at (gives_loc w) = then_reaches (then_reaches (makes_reaches tt w) comes_reaches) comes_reaches
    give_reaches at gives_unit = then_reaches comes_reaches comes_reaches
    give_reaches at (gives_app {argument = argument} {answer = answer} {inner = inner} a b s t) =
        then_reaches (then_reaches (give_reaches at a) (then_reaches (finds_reaches (argument, answer) refl)
        (then_reaches (fit_reaches at b) (then_reaches (puts_ty_reaches s)
        (then_reaches (makes_reaches inner refl) (then_reaches (puts_term_reaches t) comes_reaches)))))) comes_reaches
    give_reaches at (gives_inst {ty = ty} {inner = inner} a d) =
        then_reaches (then_reaches (give_reaches at a) (then_reaches (finds_reaches ty refl)
        (then_reaches (mono_reaches d) (then_reaches (within_reaches _ _)
        (then_reaches (makes_reaches inner refl) (then_reaches (within_reaches _ _) comes_reaches)))))) comes_reaches
    give_reaches at (gives_ann a b) = then_reaches (then_reaches (ty_reaches at a) (then_reaches (fit_reaches at b) comes_reaches)) comes_reaches
    give_reaches at (gives_pair {left_mono = left} {right_mono = right} a b) =
        then_reaches (give_reaches at a) (then_reaches (finds_reaches left refl)
        (then_reaches (give_reaches at b) (then_reaches (finds_reaches right refl) (then_reaches limit_reaches comes_reaches))))
    give_reaches at (gives_fst {left_mono = left} {right_mono = right} a) =
        then_reaches (then_reaches (give_reaches at a) (then_reaches (finds_reaches (left, right) refl) comes_reaches)) comes_reaches
    give_reaches at (gives_snd {left_mono = left} {right_mono = right} a) =
        then_reaches (then_reaches (give_reaches at a) (then_reaches (finds_reaches (left, right) refl) comes_reaches)) comes_reaches
    give_reaches at (gives_bin a b) = then_reaches (then_reaches (fit_reaches at a) (then_reaches (fit_reaches at b) comes_reaches)) comes_reaches
    give_reaches at (gives_not a) = then_reaches (then_reaches (fit_reaches at a) comes_reaches) comes_reaches
    give_reaches at (gives_eq d i a b) =
        then_reaches (then_reaches (mono_reaches d)
        (then_reaches (needs_reaches i) (then_reaches (fit_reaches at a) (then_reaches (fit_reaches at b) comes_reaches)))) comes_reaches
    give_reaches at (gives_sel d a b c) =
        then_reaches (then_reaches (mono_reaches d)
        (then_reaches (fit_reaches at a) (then_reaches (fit_reaches at b) (then_reaches (fit_reaches at c) comes_reaches)))) comes_reaches
    give_reaches at (gives_fix a b) = then_reaches (then_reaches (header_reaches at a) (then_reaches (fix_reaches at b) comes_reaches)) comes_reaches
    give_reaches at (gives_at {at = inner} a) = give_reaches inner a

    pub fit_reaches : {m : Mode} {g : Context} {M N : TermTree} {A : TyTree} {o : List Obligation} (at : ℕ)
        → Fits env m g M A N o
        → Reaches (TermComesTo env m g at M (Some A)) (typed A N o)
    fit_reaches at (fits_lam a) = then_reaches limit_reaches (then_reaches (fit_reaches at a) comes_reaches)
    fit_reaches at (fits_lam_t a) = then_reaches limit_reaches (then_reaches (fit_reaches at a) comes_reaches)
    fit_reaches at (fits_pair a b) = then_reaches (fit_reaches at a) (then_reaches (fit_reaches at b) comes_reaches)
    fit_reaches at (fits_do a) = then_reaches (body_reaches at a) comes_reaches
    fit_reaches at (fits_given {term = M} {m = m} {g = g} {ty = A} i a e) = inferred_reaches env m g at M A i e (give_reaches at a)
    fit_reaches at (fits_at {at = inner} a) = fit_reaches inner a

    header_reaches : {g : Context} {fix : FixTree} {A : TyTree} (at : ℕ) → FormsHeader env g fix A → Reaches (HeaderComesTo env g at fix) A
    header_reaches at (header_param a b) = then_reaches (ty_reaches at a) (then_reaches limit_reaches (then_reaches (header_reaches at b) comes_reaches))
    header_reaches at (header_body a) = then_reaches (triple_reaches at a) comes_reaches

    fix_reaches : {g : Context} {whole A : TyTree} {fix R : FixTree} {o : List Obligation} (at : ℕ)
        → FitsFix env g whole fix A R o
        → Reaches (FixComesTo env g at whole fix A) (fixed R o)
    fix_reaches at (fix_param a) = then_reaches (fix_reaches at a) comes_reaches
    fix_reaches at (fix_body a) = then_reaches limit_reaches (then_reaches (body_reaches at a) comes_reaches)

    pub body_reaches : {g : Context} {spec : TripleTree} {E R : CompTree} {o : List Obligation} (at : ℕ)
        → FitsBody env g E spec R o
        → Reaches (BodyComesTo g spec (λ mono state. RunsTo env g at mono state E)) (computed R o)
    body_reaches at (fits_body a b) =
        then_reaches limit_reaches (then_reaches (state_reaches _) (then_reaches (runs_reach at a) (then_reaches limit_reaches
        (then_reaches (state_reaches _) (then_reaches (state_reaches _) (then_reaches (assembles_reaches b) comes_reaches))))))

    runs_reach : {g : Context} {mono : MonoTree} {state end : FormulaTree} {E : CompTree} {zs : List MonoTree} {value : TermTree}
        {parts : List Part} {o : List Obligation} (at : ℕ)
        → Runs env g mono state E end zs value parts o
        → Reaches (RunsTo env g at mono state E) (ran end zs value parts o)
    runs_reach at (runs_ret a) = then_reaches (fit_reaches at a) comes_reaches
    runs_reach at (runs_step a b) = then_reaches (step_reaches at a) (then_reaches (runs_reach at b) comes_reaches)

    step_reaches : {g : Context} {state next : FormulaTree} {step : StepTree} {mono : MonoTree} {part : Part} {o : List Obligation} (at : ℕ)
        → Moves env g state step mono next part o
        → Reaches (StepComesTo env g at state step) (moved mono next part o)
    step_reaches {g = g} {state = state} at (moves_alloc {mono = mono} {value' = value'} m a) =
        then_reaches (mono_reaches m) (then_reaches (fit_reaches at a) (goes_on_reaches g state (move_alloc mono value') _ _ _))
    step_reaches {g = g} {state = state} at (moves_get {mono = mono} {place' = place'} m a) =
        then_reaches (mono_reaches m) (then_reaches (fit_reaches at a) (goes_on_reaches g state (move_get mono place') _ _ _))
    step_reaches {g = g} {state = state} at (moves_set {mono = mono} {place' = place'} {value' = value'} m a b) =
        then_reaches (mono_reaches m) (then_reaches (fit_reaches at a) (then_reaches (fit_reaches at b) (goes_on_reaches g state (move_set mono place' value') _ _ _)))
    step_reaches {g = g} {state = state} at (moves_free {mono = mono} {place' = place'} m a) =
        then_reaches (mono_reaches m) (then_reaches (fit_reaches at a) (goes_on_reaches g state (move_free mono place') _ _ _))
    step_reaches {g = g} {state = state} at (moves_run {pre = pre} {mono = mono} {post = post} {comp = comp} a) =
        then_reaches (give_reaches at a) (then_reaches (finds_reaches (triple pre mono post) refl)
        (then_reaches (makes_reaches comp refl) (goes_on_reaches g state (move_run (triple pre mono post)) _ _ _)))
    step_reaches at (moves_if m a b c d e) =
        then_reaches (mono_reaches m) (then_reaches (fit_reaches at a)
        (then_reaches (then_reaches (state_reaches _) (then_reaches (runs_reach at b) (then_reaches limit_reaches
        (then_reaches (state_reaches _) (then_reaches (assembles_reaches c) comes_reaches)))))
        (then_reaches (then_reaches (state_reaches _) (then_reaches (runs_reach at d) (then_reaches limit_reaches
        (then_reaches (state_reaches _) (then_reaches (assembles_reaches e) comes_reaches)))))
        (then_reaches limit_reaches (then_reaches (state_reaches _) comes_reaches)))))
    step_reaches {g = g} {state = state} at (moves_claim {claim' = claim'} a) =
        then_reaches limit_reaches (then_reaches (formula_reaches at a) (goes_on_reaches g state (move_claim claim') _ _ []))
