-- Each item keeps the definitions typed.
use Rattle.std.proofs.Common.{ℕ, List, [], ◌∷◌, length, sym, subst, inl, inr}
use Rattle.htt_syntax.specs.Trees.{TyTree, TermTree}
use Rattle.theory_truth.specs.Predicates.{RecTree}
use Rattle.theory_typing.specs.Contexts.{Environment, Obligation}
use Rattle.theory_typing.specs.Typing.{in_program, Fits}
use Rattle.theory_items.specs.Items.{ItemTree, Added, with_def, with_val, with_rec, with_added, Derives, derives_abbreviation, derives_pred, derives_def}
use Rattle.theory_items.specs.Items.{derives_val, derives_rec}
use Rattle.theory_items.specs.Definitions.{before_def, IsDefined, AreDefined}
use Rattle.theory_items.specs.Laws.{HasDeclarations, ItemsKeepDefined}
use Rattle.theory_items.proofs.Lists.{no_element, get_more, take_more, take_all, appended}
use Rattle.theory_items.proofs.MorePhrases.{fit_more}

more_defined : {env more : Environment} {d : TyTree × TermTree} → HasDeclarations env more → IsDefined env d → IsDefined more d
more_defined k d = record { written = d.written; owed = d.owed; fits = fit_more k d.fits }

-- an environment with these definitions
abbrev with_definitions : Environment → List (TyTree × TermTree) → Environment
with_definitions env defs = record { vals = env.vals; defs = defs; recs = env.recs }

itself : (env : Environment) → HasDeclarations env (with_definitions env env.defs)
itself env = record { vals = λ n x q. q; defs = λ n x q. q; recs = λ n x q. q }

val_more : (env : Environment) (ty : TyTree) (n : ℕ) → HasDeclarations (before_def env n) (before_def (with_val env ty) n)
val_more env ty n = record { vals = λ k x q. get_more env.vals (ty ∷ []) k x q; defs = λ k x q. q; recs = λ k x q. q }

rec_more : (env : Environment) (r : RecTree) (n : ℕ) → HasDeclarations (before_def env n) (before_def (with_rec env r) n)
rec_more env r n = record { vals = λ k x q. q; defs = λ k x q. q; recs = λ k x q. get_more env.recs (r ∷ []) k x q }

module _ (env : Environment) (known : AreDefined env) where
  def_kept : {written : TermTree} {owed : List Obligation} (ty : TyTree) (term : TermTree)
      → Fits env in_program [] written ty term owed
      → AreDefined (with_def env ty term)
  def_kept {written = written} {owed = owed} ty term fits = λ n u q. elim (appended env.defs (ty, term) n u q) [
    | inl f ↦ subst (λ (defs : List (TyTree × TermTree)). IsDefined (with_definitions env defs) u) (sym (take_more env.defs (ty, term) n u f)) (known n u f)
    | inr (p, f) ↦
        subst (λ (k : ℕ). IsDefined (before_def (with_def env ty term) k) u) (sym p)
        (subst (IsDefined (before_def (with_def env ty term) (length env.defs))) f
        (subst (λ (defs : List (TyTree × TermTree)). IsDefined (with_definitions env defs) (ty, term)) (sym (take_all env.defs (ty, term)))
        (more_defined (itself env) (record { written = written; owed = owed; fits = fits }))))
  ]

  val_kept : (ty : TyTree) → AreDefined (with_val env ty)
  val_kept ty = λ n u q. more_defined (val_more env ty n) (known n u q)

  rec_kept : (r : RecTree) → AreDefined (with_rec env r)
  rec_kept r = λ n u q. more_defined (rec_more env r n) (known n u q)

  kept : {item : ItemTree} {added : Added} {o : List Obligation} → Derives env [] item added o → AreDefined (with_added env added)
  kept (derives_abbreviation a) = known
  kept (derives_pred a b) = known
  kept (derives_def {ty' = ty'} {term' = term'} a b) = def_kept ty' term' b
  kept (derives_val {ty' = ty'} a ends b) = val_kept ty'
  kept (derives_rec {r = r} {at_zero = at_zero} {at_next = at_next} f a b i) =
      rec_kept (record { params = r.params; at_zero = at_zero; at_next = at_next })

pub items_keep_defined : ItemsKeepDefined
items_keep_defined = record {
  empty = λ n u q. absurd (no_element q);
  kept = λ env item added owed known d. kept env known d;
}
