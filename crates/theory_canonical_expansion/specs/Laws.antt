-- The expansion of a neutral term at each form of type. Under a binder that the type has, the term goes past one more
-- entry, and so does the argument's type.
use Rattle.std.specs.Prelude.{◌≡◌, ℕ}
use Rattle.htt_syntax.specs.Trees.{MonoTree, TyTree, TripleTree, TermTree, m_var, y_mono, y_fun, y_all, y_hoare, y_at}
use Rattle.htt_syntax.specs.Trees.{t_var, t_app, t_inst, t_lam, t_lam_t, t_do}
use Rattle.theory_renaming.specs.Renaming.{Map, shifting, rename_ty, rename_term}
use Rattle.theory_canonical.specs.Eta.{eta}
use Rattle.theory_canonical_expansion.specs.Forms.{run_of, result_of, rungs}

pub record EtaByForms : Type 0 where
  pub at_mono : (term : TermTree) (mono : MonoTree) → eta term (y_mono mono) ≡ term
  pub at_fun : (term : TermTree) (argument answer : TyTree)
      → eta term (y_fun argument answer)
      ≡ t_lam
      (eta (t_app (rename_term (shifting 0 1) term) (eta (t_var 0) (rename_ty (shifting 0 1) argument))) answer)
  pub at_all : (term : TermTree) (body : TyTree)
      → eta term (y_all body) ≡ t_lam_t (eta (t_inst (rename_term (shifting 0 1) term) (m_var 0)) body)
  pub at_hoare : (term : TermTree) (spec : TripleTree) → eta term (y_hoare spec) ≡ t_do (run_of term (result_of spec))
  pub at_position : (term : TermTree) (at : ℕ) (ty : TyTree) → eta term (y_at at ty) ≡ eta term ty

-- Renaming keeps what an expansion goes down on.
abbrev pub RungsStay : Type 0
RungsStay = (m : Map) (ty : TyTree) → rungs (rename_ty m ty) ≡ rungs ty
