-- The eta-expansion of a neutral term is canonical.
use Rattle.std.proofs.Common.{zero, suc, List, ◌∷◌, subst}
use Rattle.htt_syntax.specs.Trees.{TyTree, TermTree, t_var, t_app, t_inst, m_var}
use Rattle.theory_renaming.specs.Renaming.{Map, lift, rename_term}
use Rattle.theory_canonical.specs.Skeletons.{skeleton}
use Rattle.theory_canonical.specs.Contexts.{Standing, as_term, as_mono, here, there, Heads, KeepsStandings}
use Rattle.theory_canonical.specs.Canonical.{IsCanonical, IsNeutral, IsCanonicalTy, n_mono, n_fun, n_all, n_hoare, n_triple, n_neutral, n_lam, n_lam_t, n_do}
use Rattle.theory_canonical.specs.Canonical.{n_step, n_run, n_ret, e_var, e_app, e_inst, n_m_var}
use Rattle.theory_canonical.specs.Eta.{expansion}
use Rattle.theory_canonical.proofs.Renamed.{keeps_lift, keeps_suc, neutral_renamed, mono_renamed}

keeps_under : {m : Map} {g h : List Standing} (entry : Standing) → KeepsStandings m g h → KeepsStandings (λ n. suc (m n)) g (entry ∷ h)
keeps_under entry k = record { at = λ n found d. there (k.at n found d) }

pub expanded_canonical : {heads : Heads} {ty : TyTree} {m : Map} {g h : List Standing} (term : TermTree)
    → IsCanonicalTy heads g ty
    → KeepsStandings m g h
    → IsNeutral heads h term (skeleton ty)
    → IsCanonical heads h (expansion m term ty) (skeleton ty)
unfolding expansion skeleton
expanded_canonical term (n_mono d) k e = n_neutral e
expanded_canonical {m = m} {g = g} {h = h} term (n_fun {argument = argument} {answer = answer} {s = s} d q b) k e =
    let inner = as_term (skeleton argument) in
    let down : KeepsStandings (lift m) (as_term s ∷ g) (inner ∷ h) = subst (λ t. KeepsStandings (lift m) (as_term t ∷ g) (inner ∷ h)) q (keeps_lift inner k) in
    n_lam (expanded_canonical (t_app (rename_term suc term) (expansion (λ n. suc (m n)) (t_var zero) argument)) b down
    (e_app {s = skeleton argument} {t = skeleton answer} (neutral_renamed e (keeps_suc inner h))
    (expanded_canonical (t_var zero) d (keeps_under inner k) (e_var here))))
expanded_canonical {h = h} term (n_all {body = body} b) k e =
    n_lam_t (expanded_canonical (t_inst (rename_term suc term) (m_var zero)) b (keeps_lift as_mono k)
    (e_inst {s = skeleton body} (neutral_renamed e (keeps_suc as_mono h)) (n_m_var here)))
expanded_canonical term (n_hoare (n_triple p t q)) k e = n_do (n_step (n_run e (mono_renamed t k)) (n_ret (n_neutral (e_var here))))
