-- What is typed where some declarations stand is typed where more stand.
use Rattle.std.proofs.Common.{List}
use Rattle.htt_syntax.specs.Trees.{MonoTree, TyTree, TripleTree, TermTree, FixTree, CompTree, StepTree, FormulaTree, TermTrees}
use Rattle.theory_typing.specs.Contexts.{Context, Environment, Obligation}
use Rattle.theory_typing.specs.Typing.{Mode, Part, FormsTy, FormsTriple, FormsFormula, FitsAll, Gives, Fits, FormsHeader, FitsFix, FitsBody, Runs}
use Rattle.theory_typing.specs.Typing.{Moves, forms_mono, forms_fun, forms_all, forms_hoare, forms_ty_at, forms_triple, forms_tt, forms_ff, forms_and}
use Rattle.theory_typing.specs.Typing.{forms_or, forms_imp, forms_all_t, forms_ex_t, forms_all_h, forms_ex_h, forms_emp, forms_cell, forms_block}
use Rattle.theory_typing.specs.Typing.{forms_join, forms_same, forms_eq, forms_rec, forms_formula_at, fits_none, fits_more, gives_var, gives_val}
use Rattle.theory_typing.specs.Typing.{gives_def, gives_word, gives_bool, gives_loc, gives_unit, gives_app, gives_inst, gives_ann, gives_pair}
use Rattle.theory_typing.specs.Typing.{gives_fst, gives_snd, gives_bin, gives_not, gives_eq, gives_sel, gives_fix, gives_at, fits_lam, fits_lam_t}
use Rattle.theory_typing.specs.Typing.{fits_pair, fits_do, fits_given, fits_at, header_param, header_body, fix_param, fix_body, fits_body, runs_ret}
use Rattle.theory_typing.specs.Typing.{runs_step, moves_alloc, moves_get, moves_set, moves_free, moves_run, moves_if, moves_claim}
use Rattle.theory_items.specs.Laws.{HasDeclarations, MoreKeepsTyping}

module _ {env more : Environment} (k : HasDeclarations env more) where
  mutual
    pub ty_more : {g : Context} {A R : TyTree} → FormsTy env g A R → FormsTy more g A R
    ty_more (forms_mono a) = forms_mono a
    ty_more (forms_fun a b) = forms_fun (ty_more a) (ty_more b)
    ty_more (forms_all a) = forms_all (ty_more a)
    ty_more (forms_hoare a) = forms_hoare (triple_more a)
    ty_more (forms_ty_at a) = forms_ty_at (ty_more a)

    pub triple_more : {g : Context} {spec R : TripleTree} → FormsTriple env g spec R → FormsTriple more g spec R
    triple_more (forms_triple a b c) = forms_triple (formula_more a) b (formula_more c)

    pub formula_more : {g : Context} {F R : FormulaTree} → FormsFormula env g F R → FormsFormula more g F R
    formula_more forms_tt = forms_tt
    formula_more forms_ff = forms_ff
    formula_more (forms_and a b) = forms_and (formula_more a) (formula_more b)
    formula_more (forms_or a b) = forms_or (formula_more a) (formula_more b)
    formula_more (forms_imp a b) = forms_imp (formula_more a) (formula_more b)
    formula_more (forms_all_t a b) = forms_all_t a (formula_more b)
    formula_more (forms_ex_t a b) = forms_ex_t a (formula_more b)
    formula_more (forms_all_h a) = forms_all_h (formula_more a)
    formula_more (forms_ex_h a) = forms_ex_h (formula_more a)
    formula_more (forms_emp a) = forms_emp a
    formula_more (forms_cell a b c d) = forms_cell a b (fit_more c) (fit_more d)
    formula_more (forms_block a b c) = forms_block a b (fit_more c)
    formula_more (forms_join a b c) = forms_join a b c
    formula_more (forms_same a b) = forms_same a b
    formula_more (forms_eq a b c) = forms_eq a (fit_more b) (fit_more c)
    formula_more (forms_rec {number = number} {r = r} a b c d e) = forms_rec (k.recs number r a) b (fit_more c) d (all_more e)
    formula_more (forms_formula_at a) = forms_formula_at (formula_more a)

    pub all_more : {g : Context} {Ms Ns : TermTrees} {params : List MonoTree} → FitsAll env g Ms params Ns → FitsAll more g Ms params Ns
    all_more fits_none = fits_none
    all_more (fits_more a b) = fits_more (fit_more a) (all_more b)

    pub given_more : {m : Mode} {g : Context} {M N : TermTree} {A : TyTree} {o : List Obligation} → Gives env m g M A N o → Gives more m g M A N o
    given_more (gives_var a) = gives_var a
    given_more (gives_val {number = number} {ty = ty} a) = gives_val (k.vals number ty a)
    given_more (gives_def {number = number} {definition = definition} a) = gives_def (k.defs number definition a)
    given_more (gives_word a) = gives_word a
    given_more gives_bool = gives_bool
    given_more (gives_loc a) = gives_loc a
    given_more gives_unit = gives_unit
    given_more (gives_app a b c d) = gives_app (given_more a) (fit_more b) c d
    given_more (gives_inst a b) = gives_inst (given_more a) b
    given_more (gives_ann a b) = gives_ann (ty_more a) (fit_more b)
    given_more (gives_pair a b) = gives_pair (given_more a) (given_more b)
    given_more (gives_fst a) = gives_fst (given_more a)
    given_more (gives_snd a) = gives_snd (given_more a)
    given_more (gives_bin a b) = gives_bin (fit_more a) (fit_more b)
    given_more (gives_not a) = gives_not (fit_more a)
    given_more (gives_eq a b c d) = gives_eq a b (fit_more c) (fit_more d)
    given_more (gives_sel a b c d) = gives_sel a (fit_more b) (fit_more c) (fit_more d)
    given_more (gives_fix a b) = gives_fix (header_more a) (fix_more b)
    given_more (gives_at a) = gives_at (given_more a)

    pub fit_more : {m : Mode} {g : Context} {M N : TermTree} {A : TyTree} {o : List Obligation} → Fits env m g M A N o → Fits more m g M A N o
    fit_more (fits_lam a) = fits_lam (fit_more a)
    fit_more (fits_lam_t a) = fits_lam_t (fit_more a)
    fit_more (fits_pair a b) = fits_pair (fit_more a) (fit_more b)
    fit_more (fits_do a) = fits_do (body_more a)
    fit_more (fits_given a b c) = fits_given a (given_more b) c
    fit_more (fits_at a) = fits_at (fit_more a)

    pub header_more : {g : Context} {fix : FixTree} {A : TyTree} → FormsHeader env g fix A → FormsHeader more g fix A
    header_more (header_param a b) = header_param (ty_more a) (header_more b)
    header_more (header_body a) = header_body (triple_more a)

    pub fix_more : {g : Context} {whole A : TyTree} {fix R : FixTree} {o : List Obligation} → FitsFix env g whole fix A R o → FitsFix more g whole fix A R o
    fix_more (fix_param a) = fix_param (fix_more a)
    fix_more (fix_body a) = fix_body (body_more a)

    pub body_more : {g : Context} {E R : CompTree} {spec : TripleTree} {o : List Obligation} → FitsBody env g E spec R o → FitsBody more g E spec R o
    body_more (fits_body a b) = fits_body (runs_more a) b

    pub runs_more : {g : Context} {t : MonoTree} {state end : FormulaTree} {E : CompTree} {zs : List MonoTree} {value : TermTree}
        {parts : List Part}
        {o : List Obligation}
        → Runs env g t state E end zs value parts o
        → Runs more g t state E end zs value parts o
    runs_more (runs_ret a) = runs_ret (fit_more a)
    runs_more (runs_step a b) = runs_step (moves_more a) (runs_more b)

    pub moves_more : {g : Context} {state next : FormulaTree} {step : StepTree} {t : MonoTree} {part : Part} {o : List Obligation}
        → Moves env g state step t next part o
        → Moves more g state step t next part o
    moves_more (moves_alloc a b) = moves_alloc a (fit_more b)
    moves_more (moves_get a b) = moves_get a (fit_more b)
    moves_more (moves_set a b c) = moves_set a (fit_more b) (fit_more c)
    moves_more (moves_free a b) = moves_free a (fit_more b)
    moves_more (moves_run a) = moves_run (given_more a)
    moves_more (moves_if a b c k d l) = moves_if a (fit_more b) (runs_more c) k (runs_more d) l
    moves_more (moves_claim a) = moves_claim (formula_more a)

pub more_keeps : MoreKeepsTyping
more_keeps = record {
  types = λ env more k g A R d. ty_more k d;
  formulas = λ env more k g F R d. formula_more k d;
  given = λ env more k m g M N A o d. given_more k d;
  fitting = λ env more k m g M N A o d. fit_more k d;
}
