-- The eta-expansion of a neutral term at a type: functions of each argument that the type takes, down
-- to a monotype, where it stays, or to a computation, where it is run.
use Rattle.std.specs.Prelude.{zero, suc, Some}
use Rattle.htt_syntax.specs.Trees.{TyTree, TermTree, m_var, y_mono, y_fun, y_all, y_hoare, y_at, triple, t_var, t_app}
use Rattle.htt_syntax.specs.Trees.{t_inst, t_lam, t_lam_t, t_do, c_ret, c_step, s_run}
use Rattle.theory_renaming.specs.Renaming.{Map, lift, rename_mono, rename_term}

-- at the type that the map renames
unfoldable pub expansion : Map → TermTree → TyTree → TermTree
expansion m term (y_mono mono) = term
expansion m term (y_fun argument answer) =
    t_lam (expansion (lift m) (t_app (rename_term suc term) (expansion (λ n. suc (m n)) (t_var zero) argument)) answer)
expansion m term (y_all body) = t_lam_t (expansion (lift m) (t_inst (rename_term suc term) (m_var zero)) body)
expansion m term (y_hoare (triple pre mono post)) =
    t_do (c_step (s_run term (Some (rename_mono m mono))) (c_ret (t_var zero)))
expansion m term (y_at at ty) = expansion m term ty

abbrev pub eta : TermTree → TyTree → TermTree
eta term ty = expansion (λ n. n) term ty
