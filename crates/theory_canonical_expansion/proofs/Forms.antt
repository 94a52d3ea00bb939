-- The expansion by the form of the type, in which the argument's type is renamed and not the map kept.
use Rattle.std.proofs.Common.{ℕ, zero, suc, ◌+◌, ◌≡◌, refl, ap, sym, ◌∙◌, Some, arith}
use Rattle.htt_syntax.specs.Trees.{MonoTree, TyTree, TripleTree, TermTree, m_var, y_mono, y_fun, y_all, y_hoare, y_at, triple, t_var, t_app, t_inst, t_lam}
use Rattle.htt_syntax.specs.Trees.{t_lam_t, t_do, c_ret, c_step, s_run}
use Rattle.theory_renaming.specs.Renaming.{Map, lift, lifts, shifting, rename_ty, rename_term}
use Rattle.theory_renaming.proofs.Identity.{mono_stays}
use Rattle.theory_renaming.proofs.Composition.{mono_joins}
use Rattle.theory_canonical.specs.Eta.{expansion, eta}
use Rattle.theory_canonical_expansion.specs.Forms.{run_of, result_of, rungs}

lift_joins : (m k l : Map) → ((n : ℕ) → m (k n) ≡ l n) → (n : ℕ) → lift m (lift k n) ≡ lift l n
unfolding lift
lift_joins m k l h zero = refl
lift_joins m k l h (suc n) = ap suc (h n)

-- An expansion at a renamed type is the expansion at the type by both maps.
expansion_joins : (m k l : Map) → ((n : ℕ) → m (k n) ≡ l n) → (term : TermTree) (ty : TyTree) → expansion m term (rename_ty k ty) ≡ expansion l term ty
unfolding expansion rename_term
expansion_joins m k l h term (y_mono mono) = refl
expansion_joins m k l h term (y_fun argument answer) =
    let e = expansion_joins (λ n. suc (m n)) k (λ n. suc (l n)) (λ n. ap suc (h n)) (t_var zero) argument in
    (λ j. t_lam (expansion (lift m) (t_app (rename_term suc term) (e j)) (rename_ty (lift k) answer)))
    ∙ (λ j.
    t_lam (expansion_joins (lift m) (lift k) (lift l) (lift_joins m k l h)
    (t_app (rename_term suc term) (expansion (λ n. suc (l n)) (t_var zero) argument)) answer j))
expansion_joins m k l h term (y_all body) =
    λ j. t_lam_t (expansion_joins (lift m) (lift k) (lift l) (lift_joins m k l h) (t_inst (rename_term suc term) (m_var zero)) body j)
expansion_joins m k l h term (y_hoare (triple pre mono post)) = λ j. t_do (c_step (s_run term (Some (mono_joins m k l h mono j))) (c_ret (t_var zero)))
expansion_joins m k l h term (y_at at ty) = expansion_joins m k l h term ty

lift_stays : (n : ℕ) → lift (λ n. n) n ≡ n
unfolding lift
lift_stays zero = refl
lift_stays (suc n) = refl

under_one : lift (λ n. n) ≡ (λ n. n)
under_one = λ j n. lift_stays n j

one_more : (n : ℕ) → suc n ≡ shifting 0 1 n
unfolding lifts
one_more n = omega arith

pub one_past : suc ≡ shifting 0 1
one_past = λ j n. one_more n j

pub eta_mono : (term : TermTree) (mono : MonoTree) → eta term (y_mono mono) ≡ term
unfolding expansion
eta_mono term mono = refl

pub eta_fun : (term : TermTree) (argument answer : TyTree)
    → eta term (y_fun argument answer)
    ≡ t_lam (eta (t_app (rename_term (shifting 0 1) term) (eta (t_var 0) (rename_ty (shifting 0 1) argument))) answer)
unfolding expansion
eta_fun term argument answer =
    let e = sym (expansion_joins (λ n. n) (shifting 0 1) (λ n. suc n) (λ n. sym (one_more n)) (t_var zero) argument) in
    λ j. t_lam (expansion (under_one j) (t_app (rename_term (one_past j) term) (e j)) answer)

pub eta_all : (term : TermTree) (body : TyTree)
    → eta term (y_all body) ≡ t_lam_t (eta (t_inst (rename_term (shifting 0 1) term) (m_var 0)) body)
unfolding expansion
eta_all term body = λ j. t_lam_t (expansion (under_one j) (t_inst (rename_term (one_past j) term) (m_var zero)) body)

pub eta_hoare : (term : TermTree) (spec : TripleTree) → eta term (y_hoare spec) ≡ t_do (run_of term (result_of spec))
unfolding expansion
eta_hoare term (triple pre mono post) = λ j. t_do (run_of term (mono_stays (λ n. n) (λ n. refl) mono j))

pub eta_at : (term : TermTree) (at : ℕ) (ty : TyTree) → eta term (y_at at ty) ≡ eta term ty
unfolding expansion
eta_at term at ty = refl

pub ruleset eta_forms = (eta_mono, eta_fun, eta_all, eta_hoare, eta_at)

pub rungs_kept : (m : Map) (ty : TyTree) → rungs (rename_ty m ty) ≡ rungs ty
unfolding rungs rename_term
rungs_kept m (y_mono mono) = refl
rungs_kept m (y_fun argument answer) = λ j. suc (rungs_kept m argument j + rungs_kept (lift m) answer j)
rungs_kept m (y_all body) = λ j. suc (rungs_kept (lift m) body j)
rungs_kept m (y_hoare spec) = refl
rungs_kept m (y_at at ty) = λ j. suc (rungs_kept m ty j)
