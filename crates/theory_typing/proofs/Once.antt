-- A phrase has at most one type, one canonical form and one list of obligations. Each fact takes two
-- derivations of one phrase, whose contexts and expected types are equal.
use Rattle.std.proofs.Common.{◌≡◌, ℕ, zero, suc, List, [], ◌∷◌, ◌++◌, Option, Some, true, false, refl, sym, ap, ◌∙◌}
use Rattle.std.proofs.lemmas.Option.{same_Some}
use Rattle.htt_syntax.specs.Trees.{TyTree, TripleTree, TermTree, FixTree, CompTree, StepTree, FormulaTree, TermTrees, MonoTree, m_pair, y_mono, y_fun, y_all}
use Rattle.htt_syntax.specs.Trees.{y_hoare, triple, t_var, t_val, t_lam, t_lam_t, t_do, t_fix, t_pair, t_fst, t_snd, t_not, t_bin, t_eq, t_sel, t_unit, x_param}
use Rattle.htt_syntax.specs.Trees.{x_body, c_ret, c_step, s_alloc, s_get, s_set, s_free, s_if, f_and, f_or, f_imp, f_all_t, f_ex_t, f_all_h, f_ex_h, f_cell}
use Rattle.htt_syntax.specs.Trees.{f_block, f_eq, f_rec, more_terms}
use Rattle.theory_renaming.specs.Renaming.{rename_mono, rename_ty, rename_triple}
use Rattle.theory_truth.specs.Predicates.{RecTree}
use Rattle.theory_states.specs.States.{move_alloc, move_get, move_set, move_free, move_run, move_claim, start, owed, after, branch, finish, merge, last}
use Rattle.theory_canonical.specs.Skeletons.{Skeleton, sk_o, skeleton}
use Rattle.theory_canonical.specs.Folding.{folding}
use Rattle.theory_canonical.specs.Eta.{eta}
use Rattle.theory_substitution.specs.Monotypes.{put_mono_term, put_mono_ty}
use Rattle.theory_substitution.specs.Substitution.{SubTerm, SubTy, SubComp, Bind}
use Rattle.theory_substitution.proofs.Once.{term_once, ty_once, comp_once, bind_once}
use Rattle.theory_typing.specs.Contexts.{Context, Environment, Obligation, HasEntryType, type_here, type_there, en_mono, en_heap, en_term}
use Rattle.theory_typing.specs.Typing.{Mode, Part, part_step, part_comp, Joined, joined_step, joined_comp, joined_unit, with_heaps, owes, FormsTy, FormsTriple}
use Rattle.theory_typing.specs.Typing.{Assembled, assembled_end, assembled_part}
use Rattle.theory_typing.specs.Typing.{FormsFormula, FitsAll, Gives, Fits, FormsHeader, FitsFix, FitsBody, Runs, Moves, forms_mono, forms_fun, forms_all}
use Rattle.theory_typing.specs.Typing.{forms_hoare, forms_ty_at, forms_triple, forms_tt, forms_ff, forms_and, forms_or, forms_imp, forms_all_t, forms_ex_t}
use Rattle.theory_typing.specs.Typing.{forms_all_h, forms_ex_h, forms_emp, forms_cell, forms_block, forms_join, forms_same, forms_eq, forms_rec}
use Rattle.theory_typing.specs.Typing.{forms_formula_at, fits_none, fits_more, gives_var, gives_val, gives_def, gives_word, gives_bool, gives_loc, gives_unit}
use Rattle.theory_typing.specs.Typing.{gives_app, gives_inst, gives_ann, gives_pair, gives_fst, gives_snd, gives_bin, gives_not, gives_eq, gives_sel, gives_fix}
use Rattle.theory_typing.specs.Typing.{gives_at, fits_lam, fits_lam_t, fits_pair, fits_do, fits_given, fits_at, header_param, header_body, fix_param, fix_body}
use Rattle.theory_typing.specs.Typing.{fits_body, runs_ret, runs_step, moves_alloc, moves_get, moves_set, moves_free, moves_run, moves_if, moves_claim}

-- the parts of equal trees
pub fun_argument : {a b c d : TyTree} → y_fun a b ≡ y_fun c d → a ≡ c
fun_argument e = cc

pub fun_answer : {a b c d : TyTree} → y_fun a b ≡ y_fun c d → b ≡ d
fun_answer e = cc

pub all_body : {a b : TyTree} → y_all a ≡ y_all b → a ≡ b
all_body e = cc

pub hoare_spec : {a b : TripleTree} → y_hoare a ≡ y_hoare b → a ≡ b
hoare_spec e = cc

pub mono_of : {a b : MonoTree} → y_mono a ≡ y_mono b → a ≡ b
mono_of e = cc

pub pair_left : {a b c d : MonoTree} → m_pair a b ≡ m_pair c d → a ≡ c
pair_left e = cc

pub pair_right : {a b c d : MonoTree} → m_pair a b ≡ m_pair c d → b ≡ d
pair_right e = cc

pub lam_body : {a b : TermTree} → t_lam a ≡ t_lam b → a ≡ b
lam_body e = cc

pub lam_t_body : {a b : TermTree} → t_lam_t a ≡ t_lam_t b → a ≡ b
lam_t_body e = cc

pub do_comp : {a b : CompTree} → t_do a ≡ t_do b → a ≡ b
do_comp e = cc

spec_pre : {a c d f : FormulaTree} {b e : MonoTree} → triple a b c ≡ triple d e f → a ≡ d
spec_pre h = cc

spec_mono : {a c d f : FormulaTree} {b e : MonoTree} → triple a b c ≡ triple d e f → b ≡ e
spec_mono h = cc

spec_post : {a c d f : FormulaTree} {b e : MonoTree} → triple a b c ≡ triple d e f → c ≡ f
spec_post h = cc

first_of : {A : Type 0} {a b : A} {xs ys : List A} → a ∷ xs ≡ b ∷ ys → a ≡ b
first_of e = cc

others_of : {A : Type 0} {a b : A} {xs ys : List A} → a ∷ xs ≡ b ∷ ys → xs ≡ ys
others_of e = cc

part_is_step : {a b : StepTree} → part_step a ≡ part_step b → a ≡ b
part_is_step e = cc

part_is_comp : {a b : CompTree} → part_comp a ≡ part_comp b → a ≡ b
part_is_comp e = cc

entry_moved : {g h : Context} {n : ℕ} {ty : TyTree} → g ≡ h → HasEntryType h n ty → HasEntryType g n ty
entry_moved e d = rw e d

pub entry_once : {g : Context} {n : ℕ} {a b : TyTree} → HasEntryType g n a → HasEntryType g n b → a ≡ b
entry_once type_here type_here = refl
entry_once (type_there d) (type_there e) = ap (rename_ty suc) (entry_once d e)

pub found_once : {A : Type 0} {o : Option A} {x y : A} → o ≡ Some x → o ≡ Some y → x ≡ y
found_once {x = x} {y = y} p q = same_Some x y (sym p ∙ q)

sub_term_once : {n n' : TermTree} {s s' : Skeleton} {t t' r q : TermTree} → n ≡ n' → s ≡ s' → t ≡ t' → SubTerm n s zero t r → SubTerm n' s' zero t' q → r ≡ q
sub_term_once {q = q} a b c p d = term_once p (let h : SubTerm _ _ zero _ q = rw (a, b, c) d in h)

sub_ty_once : {n n' : TermTree} {s s' : Skeleton} {t t' r q : TyTree} → n ≡ n' → s ≡ s' → t ≡ t' → SubTy n s zero t r → SubTy n' s' zero t' q → r ≡ q
sub_ty_once {q = q} a b c p d = ty_once p (let h : SubTy _ _ zero _ q = rw (a, b, c) d in h)

sub_comp_once : {c c' r q : CompTree} → c ≡ c' → SubComp t_unit sk_o zero c r → SubComp t_unit sk_o zero c' q → r ≡ q
sub_comp_once {q = q} a p d = comp_once p (let h : SubComp t_unit sk_o zero _ q = rw a d in h)

bound_once : {c c' e e' r q : CompTree} → c ≡ c' → e ≡ e' → Bind c e r → Bind c' e' q → r ≡ q
bound_once {q = q} a b p d = bind_once p (let h : Bind _ _ q = rw (a, b) d in h)

joined_once : {p p' : Part} {c c' r q : CompTree} → p ≡ p' → c ≡ c' → Joined p c r → Joined p' c' q → r ≡ q
joined_once a b joined_step joined_step = λ j. c_step (part_is_step a j) (b j)
joined_once a b (joined_comp p) (joined_comp q) = bound_once (part_is_comp a) b p q
joined_once a b (joined_unit p) (joined_unit q) = sub_comp_once b p q
joined_once a b joined_step (joined_comp q) = cc
joined_once a b joined_step (joined_unit q) = cc
joined_once a b (joined_comp p) joined_step = cc
joined_once a b (joined_comp p) (joined_unit q) = cc
joined_once a b (joined_unit p) joined_step = cc
joined_once a b (joined_unit p) (joined_comp q) = cc

pub assembled_once : {ps qs : List Part} {v w : TermTree} {r q : CompTree} → ps ≡ qs → v ≡ w → Assembled ps v r → Assembled qs w q → r ≡ q
assembled_once a b assembled_end assembled_end = ap c_ret b
assembled_once a b (assembled_part p i) (assembled_part q k) = joined_once (first_of a) (assembled_once (others_of a) b p q) i k
assembled_once a b assembled_end (assembled_part q k) = cc
assembled_once a b (assembled_part p i) assembled_end = cc

module _ (env : Environment) where
  mutual
    pub ty_formed_once : {g h : Context} {t r q : TyTree} → g ≡ h → FormsTy env g t r → FormsTy env h t q → r ≡ q
    ty_formed_once e (forms_mono p) (forms_mono q) = refl
    ty_formed_once e (forms_fun a b) (forms_fun c d) =
        let x = ty_formed_once e a c in let y = ty_formed_once (λ j. en_term (x j) ∷ e j) b d in λ j. y_fun (x j) (y j)
    ty_formed_once e (forms_all a) (forms_all c) = let x = ty_formed_once (λ j. en_mono ∷ e j) a c in λ j. y_all (x j)
    ty_formed_once e (forms_hoare a) (forms_hoare c) = let x = spec_formed_once e a c in λ j. y_hoare (x j)
    ty_formed_once e (forms_ty_at a) (forms_ty_at c) = ty_formed_once e a c

    pub spec_formed_once : {g h : Context} {t r q : TripleTree} → g ≡ h → FormsTriple env g t r → FormsTriple env h t q → r ≡ q
    spec_formed_once e (forms_triple {mono = mono} a m b) (forms_triple c n d) =
        let x = formula_formed_once (λ j. en_heap ∷ e j) a c in
        let y = formula_formed_once (λ j. with_heaps (en_term (y_mono mono) ∷ e j)) b d in λ j. triple (x j) mono (y j)

    pub formula_formed_once : {g h : Context} {t r q : FormulaTree} → g ≡ h → FormsFormula env g t r → FormsFormula env h t q → r ≡ q
    formula_formed_once e forms_tt forms_tt = refl
    formula_formed_once e forms_ff forms_ff = refl
    formula_formed_once e (forms_and a b) (forms_and c d) = let x = formula_formed_once e a c in let y = formula_formed_once e b d in λ j. f_and (x j) (y j)
    formula_formed_once e (forms_or a b) (forms_or c d) = let x = formula_formed_once e a c in let y = formula_formed_once e b d in λ j. f_or (x j) (y j)
    formula_formed_once e (forms_imp a b) (forms_imp c d) = let x = formula_formed_once e a c in let y = formula_formed_once e b d in λ j. f_imp (x j) (y j)
    formula_formed_once e (forms_all_t {mono = mono} m a) (forms_all_t n c) =
        let x = formula_formed_once (λ j. en_term (y_mono mono) ∷ e j) a c in λ j. f_all_t mono (x j)
    formula_formed_once e (forms_ex_t {mono = mono} m a) (forms_ex_t n c) =
        let x = formula_formed_once (λ j. en_term (y_mono mono) ∷ e j) a c in λ j. f_ex_t mono (x j)
    formula_formed_once e (forms_all_h a) (forms_all_h c) = let x = formula_formed_once (λ j. en_heap ∷ e j) a c in λ j. f_all_h (x j)
    formula_formed_once e (forms_ex_h a) (forms_ex_h c) = let x = formula_formed_once (λ j. en_heap ∷ e j) a c in λ j. f_ex_h (x j)
    formula_formed_once e (forms_emp a) (forms_emp c) = refl
    formula_formed_once e (forms_cell {mono = mono} {heap = heap} m i a b) (forms_cell n k c d) =
        let x = (fits_once e refl a c).0 in let y = (fits_once e refl b d).0 in λ j. f_cell mono heap (x j) (y j)
    formula_formed_once e (forms_block {mono = mono} {heap = heap} m i a) (forms_block n k c) = let x = (fits_once e refl a c).0 in λ j. f_block mono heap (x j)
    formula_formed_once e (forms_join a b c) (forms_join d f i) = refl
    formula_formed_once e (forms_same a b) (forms_same c d) = refl
    formula_formed_once e (forms_eq {mono = mono} m a b) (forms_eq n c d) =
        let x = (fits_once e refl a c).0 in let y = (fits_once e refl b d).0 in λ j. f_eq mono (x j) (y j)
    formula_formed_once e (forms_rec {number = number} {heap = heap} l i a n b) (forms_rec m k c o d) =
        let x = (fits_once e refl a c).0 in
        let y = terms_fit_once e (ap (λ (r : RecTree). r.params) (found_once l m)) b d in λ j. f_rec number heap (x j) (y j)
    formula_formed_once e (forms_formula_at a) (forms_formula_at c) = formula_formed_once e a c

    pub terms_fit_once : {g h : Context} {t r q : TermTrees} {ms ns : List MonoTree} → g ≡ h → ms ≡ ns → FitsAll env g t ms r → FitsAll env h t ns q → r ≡ q
    terms_fit_once e f fits_none fits_none = refl
    terms_fit_once e f (fits_more a b) (fits_more c d) =
        let x = (fits_once e (ap y_mono (first_of f)) a c).0 in
        let y = terms_fit_once e (others_of f) b d in λ j. more_terms (x j) (y j)

    pub gives_once : {m : Mode} {g h : Context} {t : TermTree} {a b : TyTree} {r q : TermTree} {o p : List Obligation}
        → g ≡ h
        → Gives env m g t a r o
        → Gives env m h t b q p
        → (a ≡ b) × (r ≡ q) × (o ≡ p)
    gives_once e (gives_var {index = index} d) (gives_var f) = let x = entry_once d (entry_moved e f) in (x, ap (eta (t_var index)) x, refl)
    gives_once e (gives_val {number = number} d) (gives_val f) = let x = found_once d f in (x, (λ j. eta (t_val number) (x j)), refl)
    gives_once e (gives_def d) (gives_def f) = let x = found_once d f in ((λ j. (x j).0), (λ j. (x j).1), refl)
    gives_once e (gives_word i) (gives_word k) = (refl, refl, refl)
    gives_once e gives_bool gives_bool = (refl, refl, refl)
    gives_once e (gives_loc i) (gives_loc k) = (refl, refl, refl)
    gives_once e gives_unit gives_unit = (refl, refl, refl)
    gives_once e (gives_app k v s t) (gives_app k2 v2 s2 t2) =
        let x = gives_once e k k2 in
        let y = fits_once e (fun_argument x.0) v v2 in (
          sub_ty_once y.0 (ap skeleton (fun_argument x.0)) (fun_answer x.0) s s2,
          sub_term_once y.0 (ap skeleton (fun_argument x.0)) (lam_body x.1) t t2,
          λ j. x.2 j ++ y.1 j,
        )
    gives_once e (gives_inst {mono = mono} k f) (gives_inst k2 f2) =
        let x = gives_once e k k2 in (ap (put_mono_ty mono zero) (all_body x.0), ap (put_mono_term mono zero) (lam_t_body x.1), x.2)
    gives_once e (gives_ann a b) (gives_ann c d) = let x = ty_formed_once e a c in let y = fits_once e x b d in (x, y.0, y.1)
    gives_once e (gives_pair a b) (gives_pair c d) =
        let x = gives_once e a c in
        let y = gives_once e b d in
        ((λ j. y_mono (m_pair (mono_of x.0 j) (mono_of y.0 j))), (λ j. t_pair (x.1 j) (y.1 j)), λ j. x.2 j ++ y.2 j)
    gives_once e (gives_fst a) (gives_fst c) = let x = gives_once e a c in (ap y_mono (pair_left (mono_of x.0)), (λ j. folding (t_fst (x.1 j))), x.2)
    gives_once e (gives_snd a) (gives_snd c) = let x = gives_once e a c in (ap y_mono (pair_right (mono_of x.0)), (λ j. folding (t_snd (x.1 j))), x.2)
    gives_once e (gives_bin {op = op} a b) (gives_bin c d) =
        let x = fits_once e refl a c in
        let y = fits_once e refl b d in (refl, (λ j. folding (t_bin op (x.0 j) (y.0 j))), λ j. x.1 j ++ y.1 j)
    gives_once e (gives_not a) (gives_not c) = let x = fits_once e refl a c in (refl, (λ j. folding (t_not (x.0 j))), x.1)
    gives_once e (gives_eq {mono = mono} m i a b) (gives_eq n k c d) =
        let x = fits_once e refl a c in
        let y = fits_once e refl b d in (refl, (λ j. folding (t_eq mono (x.0 j) (y.0 j))), λ j. x.1 j ++ y.1 j)
    gives_once e (gives_sel {mono = mono} m a b c) (gives_sel n d f i) =
        let x = fits_once e refl a d in
        let y = fits_once e refl b f in
        let z = fits_once e refl c i in (refl, (λ j. folding (t_sel mono (x.0 j) (y.0 j) (z.0 j))), λ j. x.1 j ++ y.1 j ++ z.1 j)
    gives_once e (gives_fix {at = at} a b) (gives_fix c d) =
        let x = header_once e a c in let y = fix_once e x x b d in (x, (λ j. eta (t_fix at (y.0 j)) (x j)), y.1)
    gives_once e (gives_at a) (gives_at c) = gives_once e a c

    pub fits_once : {m : Mode} {g h : Context} {t : TermTree} {a b : TyTree} {r q : TermTree} {o p : List Obligation}
        → g ≡ h
        → a ≡ b
        → Fits env m g t a r o
        → Fits env m h t b q p
        → (r ≡ q) × (o ≡ p)
    fits_once e f (fits_lam a) (fits_lam c) = let x = fits_once (λ j. en_term (fun_argument f j) ∷ e j) (fun_answer f) a c in ((λ j. t_lam (x.0 j)), x.1)
    fits_once e f (fits_lam_t a) (fits_lam_t c) = let x = fits_once (λ j. en_mono ∷ e j) (all_body f) a c in ((λ j. t_lam_t (x.0 j)), x.1)
    fits_once e f (fits_pair a b) (fits_pair c d) =
        let x = fits_once e (ap y_mono (pair_left (mono_of f))) a c in
        let y = fits_once e (ap y_mono (pair_right (mono_of f))) b d in ((λ j. t_pair (x.0 j) (y.0 j)), λ j. x.1 j ++ y.1 j)
    fits_once e f (fits_do a) (fits_do c) = let x = body_once e (hoare_spec f) a c in ((λ j. t_do (x.0 j)), x.1)
    fits_once e f (fits_given i a s) (fits_given k c t) = let x = gives_once e a c in (x.1, x.2)
    fits_once e f (fits_at a) (fits_at c) = fits_once e f a c
    fits_once e f (fits_lam a) (fits_given i c s) = absurd i
    fits_once e f (fits_given i c s) (fits_lam a) = absurd i
    fits_once e f (fits_lam_t a) (fits_given i c s) = absurd i
    fits_once e f (fits_given i c s) (fits_lam_t a) = absurd i
    fits_once e f (fits_do a) (fits_given i c s) = absurd i
    fits_once e f (fits_given i c s) (fits_do a) = absurd i
    fits_once e f (fits_at a) (fits_given i c s) = absurd i
    fits_once e f (fits_given i c s) (fits_at a) = absurd i
    fits_once e f (fits_pair a b) (fits_given i c s) = absurd i
    fits_once e f (fits_given i c s) (fits_pair a b) = absurd i

    pub header_once : {g h : Context} {t : FixTree} {r q : TyTree} → g ≡ h → FormsHeader env g t r → FormsHeader env h t q → r ≡ q
    header_once e (header_param a b) (header_param c d) =
        let x = ty_formed_once e a c in let y = header_once (λ j. en_term (x j) ∷ e j) b d in λ j. y_fun (x j) (y j)
    header_once e (header_body a) (header_body c) = let x = spec_formed_once e a c in λ j. y_hoare (x j)

    pub fix_once : {g h : Context} {w v a b : TyTree} {t r q : FixTree} {o p : List Obligation}
        → g ≡ h
        → w ≡ v
        → a ≡ b
        → FitsFix env g w t a r o
        → FitsFix env h v t b q p
        → (r ≡ q) × (o ≡ p)
    fix_once e f i (fix_param a) (fix_param c) =
        let x = fix_once (λ j. en_term (fun_argument i j) ∷ e j) (ap (rename_ty suc) f) (fun_answer i) a c in
        ((λ j. x_param (fun_argument i j) (x.0 j)), x.1)
    fix_once e f i (fix_body a) (fix_body c) =
        let x = body_once (λ j. en_term (f j) ∷ e j) (ap (rename_triple suc) (hoare_spec i)) a c in
        ((λ j. x_body (hoare_spec i j) (x.0 j)), x.1)

    pub body_once : {g h : Context} {s u : TripleTree} {t r q : CompTree} {o p : List Obligation}
        → g ≡ h
        → s ≡ u
        → FitsBody env g t s r o
        → FitsBody env h t u q p
        → (r ≡ q) × (o ≡ p)
    body_once e f (fits_body a b) (fits_body c d) =
        let x = runs_once e (spec_mono f) (ap start (spec_pre f)) a c in (
          assembled_once x.3 x.2 b d,
          λ j.
              x.4 j ++ record {
                context = with_heaps (en_term (y_mono (spec_mono f j)) ∷ e j);
                goal = last (finish (x.0 j) (x.1 j) (spec_mono f j) (x.2 j)) (spec_post f j);
              } ∷ [],
        )

    pub runs_once : {g h : Context} {m n : MonoTree} {s u x y : FormulaTree} {t : CompTree} {zs ws : List MonoTree} {v w : TermTree}
        {r q : List Part} {o p : List Obligation}
        → g ≡ h
        → m ≡ n
        → s ≡ u
        → Runs env g m s t x zs v r o
        → Runs env h n u t y ws w q p
        → (x ≡ y) × (zs ≡ ws) × (v ≡ w) × (r ≡ q) × (o ≡ p)
    runs_once e f i (runs_ret a) (runs_ret c) = let x = fits_once e (ap y_mono f) a c in (i, refl, x.0, refl, x.1)
    runs_once e f i (runs_step a b) (runs_step a2 b2) =
        let x = moves_once e i a a2 in
        let y = runs_once (λ j. en_term (y_mono (x.0 j)) ∷ e j) (ap (rename_mono suc) f) x.1 b b2 in
        (y.0, (λ j. x.0 j ∷ y.1 j), y.2, (λ j. x.2 j ∷ y.3 j), λ j. x.3 j ++ y.4 j)

    pub moves_once : {g h : Context} {s u : FormulaTree} {t : StepTree} {m n : MonoTree} {x y : FormulaTree} {r q : Part}
        {o p : List Obligation}
        → g ≡ h
        → s ≡ u
        → Moves env g s t m x r o
        → Moves env h u t n y q p
        → (m ≡ n) × (x ≡ y) × (r ≡ q) × (o ≡ p)
    moves_once e i (moves_alloc {mono = mono} m a) (moves_alloc n c) =
        let x = fits_once e refl a c in (
          refl,
          (λ j. after (move_alloc mono (x.0 j)) (i j)),
          (λ j. part_step (s_alloc mono (x.0 j))),
          λ j. x.1 j ++ owes (e j) (owed (move_alloc mono (x.0 j)) (i j)),
        )
    moves_once e i (moves_get {mono = mono} m a) (moves_get n c) =
        let x = fits_once e refl a c in (
          refl,
          (λ j. after (move_get mono (x.0 j)) (i j)),
          (λ j. part_step (s_get mono (x.0 j))),
          λ j. x.1 j ++ owes (e j) (owed (move_get mono (x.0 j)) (i j)),
        )
    moves_once e i (moves_free {mono = mono} m a) (moves_free n c) =
        let x = fits_once e refl a c in (
          refl,
          (λ j. after (move_free mono (x.0 j)) (i j)),
          (λ j. part_step (s_free mono (x.0 j))),
          λ j. x.1 j ++ owes (e j) (owed (move_free mono (x.0 j)) (i j)),
        )
    moves_once e i (moves_set {mono = mono} m a b) (moves_set n c d) =
        let x = fits_once e refl a c in
        let y = fits_once e refl b d in (
          refl,
          (λ j. after (move_set mono (x.0 j) (y.0 j)) (i j)),
          (λ j. part_step (s_set mono (x.0 j) (y.0 j))),
          λ j. x.1 j ++ y.1 j ++ owes (e j) (owed (move_set mono (x.0 j) (y.0 j)) (i j)),
        )
    moves_once e i (moves_run a) (moves_run c) =
        let x = gives_once e a c in
        let s = hoare_spec x.0 in (
          spec_mono s,
          (λ j. after (move_run (triple (spec_pre s j) (spec_mono s j) (spec_post s j))) (i j)),
          (λ j. part_comp (do_comp x.1 j)),
          λ j. x.2 j ++ owes (e j) (owed (move_run (triple (spec_pre s j) (spec_mono s j) (spec_post s j))) (i j)),
        )
    moves_once e i (moves_if {mono = mono} m a b k c l) (moves_if n a2 b2 k2 c2 l2) =
        let x = fits_once e refl a a2 in
        let y = runs_once e refl (λ j. branch (i j) (x.0 j) true) b b2 in
        let z = runs_once e refl (λ j. branch (i j) (x.0 j) false) c c2 in (
          refl,
          (λ j. merge (finish (y.0 j) (y.1 j) mono (y.2 j)) (finish (z.0 j) (z.1 j) mono (z.2 j))),
          (λ j. part_step (s_if mono (x.0 j) (assembled_once y.3 y.2 k k2 j) (assembled_once z.3 z.2 l l2 j))),
          λ j. x.1 j ++ y.4 j ++ z.4 j,
        )
    moves_once e i (moves_claim a) (moves_claim c) =
        let x = formula_formed_once (λ j. with_heaps (e j)) a c in
        (refl, (λ j. after (move_claim (x j)) (i j)), refl, λ j. owes (e j) (owed (move_claim (x j)) (i j)))
