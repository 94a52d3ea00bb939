-- What is derived reaches that, or a limit: phrases, and items by the derivation; and nothing else, since a
-- phrase comes to one thing at most.
use Rattle.std.proofs.Common.{ℕ, zero, suc, List, [], ◌∷◌, All, length, Some, None, Err}
use Rattle.std.proofs.lemmas.List.Elements.{All-head, All-tail}
use Rattle.htt_syntax_words.specs.declared.words.Rule.{Rule}
use Rattle.htt_syntax.specs.Trees.{MonoTree, FormulaTree, y_mono}
use Rattle.theory_truth.specs.Atoms.{AtomsMeet}
use Rattle.theory_typing.specs.Contexts.{en_term, Context, Environment, Obligation, FormsMono}
use Rattle.theory_typing.specs.Typing.{FormsFormula, forms_tt, forms_ff, forms_and, forms_or, forms_imp, forms_all_t, forms_ex_t, forms_all_h}
use Rattle.theory_typing.specs.Typing.{forms_ex_h, forms_emp, forms_cell, forms_block, forms_join, forms_same, forms_eq, forms_rec, forms_formula_at}
use Rattle.theory_items.specs.Items.{ItemTree, Added, with_rec, OwnAtIndex, FormsParams, params_none, params_more, Derives, derives_abbreviation, derives_pred}
use Rattle.theory_items.specs.Items.{derives_def, derives_val, derives_rec}
use Rattle.theory_checking.specs.Stops.{refused}
use Rattle.theory_checking.proofs.Once.{checking_comes_to_one}
use Rattle.theory_checking_items.specs.Items.{checked, ParamsComeTo, ClosedComeTo, IndexComesTo, ItemComesTo}
use Rattle.theory_checking_items.proofs.Items.{items_come_to_one}
use Rattle.theory_checking_complete.specs.Reaching.{IsOrLimit, is_limit, Reaches}
use Rattle.theory_checking_complete.specs.Laws.{DerivedReaches, DerivedIsNotRefused, RefusedIsNotDerived}
use Rattle.theory_checking_complete.proofs.Reached.{only, then_reaches, comes_reaches, needs_reaches, limit_reaches, mono_reaches}
use Rattle.theory_checking_complete.proofs.Phrases.{ty_reaches, formula_reaches, give_reaches, fit_reaches, body_reaches}

params_reach : {g h : Context} {ts : List MonoTree} (at : ℕ) → FormsParams g ts h → Reaches (ParamsComeTo g at ts) h
unfolding ParamsComeTo
params_reach at params_none = comes_reaches
params_reach at (params_more m d) = then_reaches (mono_reaches m) (then_reaches limit_reaches (params_reach at d))

closed_reach : (g : Context) (at : ℕ) (ts : List MonoTree) → All (FormsMono []) ts → Reaches (ClosedComeTo g at ts) tt
unfolding ClosedComeTo
closed_reach g at [] d = comes_reaches
closed_reach g at (t ∷ ts) d =
    then_reaches (mono_reaches (All-head (FormsMono []) t ts d)) (then_reaches limit_reaches
    (closed_reach (en_term (y_mono t) ∷ g) at ts (All-tail (FormsMono []) t ts d)))

module _ (p params : ℕ) where
  index_reaches : {env : Environment} {g : Context} {F R : FormulaTree} (d at : ℕ)
      → FormsFormula env g F R
      → AtomsMeet (OwnAtIndex p params) d R
      → Reaches (IndexComesTo p params d at F R) tt
  unfolding IndexComesTo AtomsMeet
  index_reaches d at forms_tt a = comes_reaches
  index_reaches d at forms_ff a = comes_reaches
  index_reaches d at (forms_and x y) a = then_reaches (index_reaches d at x a.0) (index_reaches d at y a.1)
  index_reaches d at (forms_or x y) a = then_reaches (index_reaches d at x a.0) (index_reaches d at y a.1)
  index_reaches d at (forms_imp x y) a = then_reaches (index_reaches d at x a.0) (index_reaches d at y a.1)
  index_reaches d at (forms_all_t m x) a = index_reaches (suc d) at x a
  index_reaches d at (forms_ex_t m x) a = index_reaches (suc d) at x a
  index_reaches d at (forms_all_h x) a = index_reaches (suc d) at x a
  index_reaches d at (forms_ex_h x) a = index_reaches (suc d) at x a
  index_reaches d at (forms_emp i) a = comes_reaches
  index_reaches d at (forms_cell m i x y) a = comes_reaches
  index_reaches d at (forms_block m i x) a = comes_reaches
  index_reaches d at (forms_join i k l) a = comes_reaches
  index_reaches d at (forms_same i k) a = comes_reaches
  index_reaches d at (forms_eq m x y) a = comes_reaches
  index_reaches d at (forms_rec l i x n y) a = needs_reaches a
  index_reaches d at (forms_formula_at {at = inner} x) a = index_reaches d inner x a

item_reaches : (env : Environment) (g : Context) (at : ℕ) {item : ItemTree} {added : Added} {owed : List Obligation}
    → Derives env g item added owed
    → Reaches (ItemComesTo env g at item) (checked added owed)
item_reaches env g at (derives_abbreviation m) = then_reaches (mono_reaches m) comes_reaches
item_reaches env g at (derives_pred a b) =
    then_reaches limit_reaches (then_reaches (params_reach at a) (then_reaches limit_reaches (then_reaches (formula_reaches env at b) comes_reaches)))
item_reaches env g at (derives_def a b) = then_reaches (ty_reaches env at a) (then_reaches (fit_reaches env at b) comes_reaches)
item_reaches env g at (derives_val a e b) =
    then_reaches (ty_reaches env at a) (then_reaches (needs_reaches e) (then_reaches (fit_reaches env at b) comes_reaches))
item_reaches env g at (derives_rec {r = rec} f a b i) =
    then_reaches (closed_reach g at rec.params f) (then_reaches limit_reaches (then_reaches (formula_reaches env at a)
    (then_reaches limit_reaches (then_reaches (formula_reaches (with_rec env rec) at b)
    (then_reaches (index_reaches (length env.recs) (length rec.params) zero at b i) comes_reaches)))))

pub derived_reaches : DerivedReaches
derived_reaches = record {
  types = λ env g at A R d. ty_reaches env at d;
  formulas = λ env g at F R d. formula_reaches env at d;
  given = λ env m g at M N A o d. give_reaches env at d;
  fitting = λ env m g at M N A o d. fit_reaches env at d;
  bodies = λ env g at spec E R o d. body_reaches env at d;
  items = λ env g at item added owed d. item_reaches env g at d;
}

pub derived_is_not_refused : DerivedIsNotRefused
derived_is_not_refused = record {
  types = λ env g at A R r d. only (checking_comes_to_one.types env g at A) (ty_reaches env at d) r;
  formulas = λ env g at F R r d. only (checking_comes_to_one.formulas env g at F) (formula_reaches env at d) r;
  given = λ env m g at M N A o r d. only (checking_comes_to_one.terms env m g at M None) (give_reaches env at d) r;
  fitting = λ env m g at M N A o r d. only (checking_comes_to_one.terms env m g at M (Some A)) (fit_reaches env at d) r;
  bodies = λ env g at spec E R o r d. only (checking_comes_to_one.bodies env g at spec E) (body_reaches env at d) r;
  items = λ env g at item added owed r d. only (items_come_to_one env g at item) (item_reaches env g at d) r;
}

not_refused : {A : Type 0} {given : A} {rule : Rule} {byte : ℕ} → IsOrLimit given (Err (refused rule byte)) → ⊥
not_refused (is_limit l) = elim l [ ]

pub refused_is_not_derived : RefusedIsNotDerived
refused_is_not_derived = record {
  types = λ env g at A R rule byte d e. not_refused (derived_is_not_refused.types env g at A R (Err (refused rule byte)) e d);
  formulas = λ env g at F R rule byte d e. not_refused (derived_is_not_refused.formulas env g at F R (Err (refused rule byte)) e d);
  given = λ env m g at M N A o rule byte d e. not_refused (derived_is_not_refused.given env m g at M N A o (Err (refused rule byte)) e d);
  fitting = λ env m g at M N A o rule byte d e. not_refused (derived_is_not_refused.fitting env m g at M N A o (Err (refused rule byte)) e d);
  bodies = λ env g at spec E R o rule byte d e. not_refused (derived_is_not_refused.bodies env g at spec E R o (Err (refused rule byte)) e d);
  items = λ env g at item added owed rule byte d e. not_refused (derived_is_not_refused.items env g at item added owed (Err (refused rule byte)) e d);
}
