-- What an item adds and owes is narrow, and so is the environment after it.
use Rattle.std.proofs.Common.{ℕ, List, [], ◌∷◌, All, Ok, Some, inl, inr, subst}
use Rattle.std.proofs.lemmas.List.Elements.{All-nil, All-cons, All-head, All-tail}
use Rattle.htt_syntax.specs.Trees.{MonoTree, TyTree, TermTree, y_mono, m_word}
use Rattle.theory_counts_monotypes.specs.Monotypes.{greatest_in_ty}
use Rattle.theory_truth.specs.Predicates.{RecTree}
use Rattle.theory_typing.specs.Contexts.{en_term, Context, Environment}
use Rattle.theory_typing.specs.Typing.{in_program}
use Rattle.theory_items.specs.Items.{with_params, ItemTree, i_abbreviation, i_pred, i_def, i_val, i_rec, Added, adds_nothing, adds_def, adds_val, adds_rec}
use Rattle.theory_items.specs.Items.{with_added, with_def, with_val, with_rec, zero_under, next_under}
use Rattle.theory_items.proofs.Lists.{appended}
use Rattle.theory_checking.specs.Stops.{goes_on, comes, holds}
use Rattle.theory_checking_items.specs.Items.{Checked, ClosedComeTo, ItemComesTo}
use Rattle.theory_checking_narrow.specs.Narrow.{IsNarrowMono, IsNarrowTy, IsNarrowTerm, IsNarrowContext, AreNarrow, IsNarrowEnvironment, IsNarrowAdded}
use Rattle.theory_checking_narrow.specs.Laws.{CheckedItemsAreNarrow}
use Rattle.theory_checking_narrow.proofs.Checked.{word_narrow, ty_narrow, formula_narrow, term_narrow}

closed_narrow : (g : Context) (at : ℕ) (ts : List MonoTree) → ClosedComeTo g at ts (Ok tt) → All IsNarrowMono ts
unfolding ClosedComeTo
closed_narrow g at [] a = All-nil IsNarrowMono
closed_narrow g at (t ∷ ts) (goes_on (goes_on m (holds n)) (goes_on k a)) =
    All-cons IsNarrowMono t ts n (closed_narrow (en_term (y_mono t) ∷ g) at ts a)

params_narrow : (g : Context) (ts : List MonoTree) → IsNarrowContext g → All IsNarrowMono ts → IsNarrowContext (with_params g ts)
unfolding greatest_in_ty
params_narrow g [] c p = c
params_narrow g (t ∷ ts) c p = params_narrow (en_term (y_mono t) ∷ g) ts (All-head IsNarrowMono t ts p, c) (All-tail IsNarrowMono t ts p)

module _ (env : Environment) (known : IsNarrowEnvironment env) where
  rec_added : (r : RecTree) → All IsNarrowMono r.params → IsNarrowEnvironment (with_rec env r)
  rec_added r p = record {
    val_types = known.val_types;
    def_types = known.def_types;
    def_terms = known.def_terms;
    rec_params = λ number other f. elim (appended env.recs r number other f) [
      | inl d ↦ known.rec_params number other d
      | inr (e, d) ↦ subst (λ (x : RecTree). All IsNarrowMono x.params) d p
    ];
  }

  val_added : (ty : TyTree) → IsNarrowTy ty → IsNarrowEnvironment (with_val env ty)
  val_added ty p = record {
    val_types = λ number other f. elim (appended env.vals ty number other f) [
      | inl d ↦ known.val_types number other d
      | inr (e, d) ↦ subst (λ (x : TyTree). IsNarrowTy x) d p
    ];
    def_types = known.def_types;
    def_terms = known.def_terms;
    rec_params = known.rec_params;
  }

  def_added : (ty : TyTree) (term : TermTree) → IsNarrowTy ty → IsNarrowTerm term → IsNarrowEnvironment (with_def env ty term)
  def_added ty term p q = record {
    val_types = known.val_types;
    def_types = λ number other f. elim (appended env.defs (ty, term) number other f) [
      | inl d ↦ known.def_types number other d
      | inr (e, d) ↦ subst (λ (x : TyTree × TermTree). IsNarrowTy (x.0)) d p
    ];
    def_terms = λ number other f. elim (appended env.defs (ty, term) number other f) [
      | inl d ↦ known.def_terms number other d
      | inr (e, d) ↦ subst (λ (x : TyTree × TermTree). IsNarrowTerm (x.1)) d q
    ];
    rec_params = known.rec_params;
  }

  next_narrow : (added : Added) → IsNarrowAdded added → IsNarrowEnvironment (with_added env added)
  next_narrow adds_nothing p = known
  next_narrow (adds_def ty term) p = def_added ty term p.0 p.1
  next_narrow (adds_val ty term) p = val_added ty p.0
  next_narrow (adds_rec r) p = rec_added r p.0

  added_narrow : (g : Context) (at : ℕ) (item : ItemTree) (c : Checked)
      → IsNarrowContext g
      → ItemComesTo env g at item (Ok c)
      → IsNarrowAdded c.added × AreNarrow c.owed
  added_narrow g at (i_abbreviation t) c n (goes_on a comes) = (tt, tt)
  added_narrow g at (i_pred m params body) c n (goes_on k (goes_on a (goes_on l (goes_on b comes)))) = (tt, tt)
  added_narrow g at (i_def ty term) c n (goes_on {given = A} a (goes_on {given = v} b comes)) =
      let p = ty_narrow env known g at ty A n a in
      let x = term_narrow env known in_program g at term (Some A) v n p b in
      ((p, x.term), x.owed)
  added_narrow g at (i_val ty term) c n (goes_on {given = A} a (goes_on e (goes_on {given = v} b comes))) =
      let p = ty_narrow env known g at ty A n a in
      let x = term_narrow env known in_program g at term (Some A) v n p b in
      ((p, x.term), x.owed)
  added_narrow g at (i_rec r) c n (goes_on a (goes_on k (goes_on {given = F} x (goes_on l (goes_on {given = G} y (goes_on i comes)))))) =
      let p = closed_narrow g at r.params a in (
        (
          p,
          (
            formula_narrow env known (zero_under g r.params) at r.at_zero F (tt, params_narrow g r.params n p) x,
            formula_narrow (with_rec env r) (rec_added r p) (next_under g r.params) at r.at_next G
                (tt, params_narrow (en_term (y_mono m_word) ∷ g) r.params (word_narrow, n) p) y,
          ),
        ),
        tt,
      )

pub checked_items_are_narrow : CheckedItemsAreNarrow
checked_items_are_narrow = record {
  added = λ env g known n at item c d. (added_narrow env known g at item c n d).0;
  owed = λ env g known n at item c d. (added_narrow env known g at item c n d).1;
  environment = λ env added known p. next_narrow env known added p;
}
