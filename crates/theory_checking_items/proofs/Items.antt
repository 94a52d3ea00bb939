-- Checked items: one result, which is derived.
use Rattle.std.proofs.Common.{ℕ, zero, suc, List, [], ◌∷◌, All, length, Ok, Some}
use Rattle.std.proofs.lemmas.List.Elements.{All-nil, All-cons}
use Rattle.htt_syntax.specs.Trees.{MonoTree, FormulaTree, y_mono, f_and, f_or, f_imp, f_all_t, f_ex_t, f_all_h, f_ex_h}
use Rattle.htt_syntax.specs.Trees.{f_at, f_rec}
use Rattle.theory_truth.specs.Atoms.{AtomsMeet}
use Rattle.theory_typing.specs.Contexts.{en_heap, en_term, Context, Environment, FormsMono}
use Rattle.theory_typing.specs.Typing.{in_program, FormsFormula, forms_tt, forms_ff, forms_and, forms_or, forms_imp, forms_all_t, forms_ex_t, forms_all_h}
use Rattle.theory_typing.specs.Typing.{forms_ex_h, forms_emp, forms_cell, forms_block, forms_join, forms_same, forms_eq, forms_rec, forms_formula_at}
use Rattle.theory_items.specs.Items.{i_abbreviation, i_pred, i_def, i_val, i_rec, with_monos, with_rec, zero_under, next_under, OwnAtIndex}
use Rattle.theory_items.specs.Items.{FormsParams, params_none, params_more, derives_abbreviation, derives_pred, derives_def, derives_val, derives_rec}
use Rattle.theory_checking.specs.Stops.{goes_on, comes, holds}
use Rattle.theory_checking.specs.Laws.{Once}
use Rattle.theory_checking.proofs.Chains.{then_once, comes_once, needs_once, mono_once}
use Rattle.theory_checking.proofs.Once.{ty_once, formula_once, term_once}
use Rattle.theory_checking_derived.proofs.Derived.{ty_derived, formula_derived, term_derived}
use Rattle.theory_checking_items.specs.Items.{ParamsComeTo, ClosedComeTo, IndexComesTo}
use Rattle.theory_checking_items.specs.Laws.{ItemsComeToOne, CheckedItemsDerive}

-- one result

params_once : (g : Context) (at : ℕ) (ts : List MonoTree) → Once (ParamsComeTo g at ts)
unfolding ParamsComeTo
params_once g at [] = comes_once
params_once g at (t ∷ ts) = then_once (mono_once g at t) (λ _. then_once needs_once (λ _. params_once (en_term (y_mono t) ∷ g) at ts))

closed_once : (g : Context) (at : ℕ) (ts : List MonoTree) → Once (ClosedComeTo g at ts)
unfolding ClosedComeTo
closed_once g at [] = comes_once
closed_once g at (t ∷ ts) = then_once (mono_once [] at t) (λ _. then_once needs_once (λ _. closed_once (en_term (y_mono t) ∷ g) at ts))

index_once : (p params d at : ℕ) (F R : FormulaTree) → Once (IndexComesTo p params d at F R)
unfolding IndexComesTo
index_once p params d at (f_and left right) (f_and left' right') = then_once (index_once p params d at left left') (λ _. index_once p params d at right right')
index_once p params d at (f_or left right) (f_or left' right') = then_once (index_once p params d at left left') (λ _. index_once p params d at right right')
index_once p params d at (f_imp left right) (f_imp left' right') = then_once (index_once p params d at left left') (λ _. index_once p params d at right right')
index_once p params d at (f_all_t mono body) (f_all_t mono' body') = index_once p params (suc d) at body body'
index_once p params d at (f_ex_t mono body) (f_ex_t mono' body') = index_once p params (suc d) at body body'
index_once p params d at (f_all_h body) (f_all_h body') = index_once p params (suc d) at body body'
index_once p params d at (f_ex_h body) (f_ex_h body') = index_once p params (suc d) at body body'
index_once p params d at (f_at inner formula) formula' = index_once p params d inner formula formula'
index_once p params d at (f_rec number heap place arguments) (f_rec number' heap' place' arguments') = needs_once
index_once p params d at _ _ = comes_once

pub items_come_to_one : ItemsComeToOne
items_come_to_one env g at (i_abbreviation t) = then_once (mono_once g at t) (λ _. comes_once)
items_come_to_one env g at (i_pred n params body) =
    then_once needs_once (λ _. then_once (params_once (with_monos n g) at params) (λ h. then_once needs_once (λ _.
    then_once (formula_once env (en_heap ∷ h) at body) (λ _. comes_once))))
items_come_to_one env g at (i_def ty term) =
    then_once (ty_once env g at ty) (λ ty'. then_once (term_once env in_program g at term (Some ty')) (λ _. comes_once))
items_come_to_one env g at (i_val ty term) =
    then_once (ty_once env g at ty) (λ ty'. then_once needs_once (λ _. then_once (term_once env in_program g at term (Some ty')) (λ _. comes_once)))
items_come_to_one env g at (i_rec r) =
    then_once (closed_once g at r.params) (λ _. then_once needs_once (λ _. then_once (formula_once env (zero_under g r.params) at r.at_zero) (λ _.
    then_once needs_once (λ _. then_once (formula_once (with_rec env r) (next_under g r.params) at r.at_next) (λ at_next.
    then_once (index_once (length env.recs) (length r.params) zero at r.at_next at_next) (λ _. comes_once))))))

-- what they come to is derived

params_derived : (g : Context) (at : ℕ) (ts : List MonoTree) {h : Context} → ParamsComeTo g at ts (Ok h) → FormsParams g ts h
unfolding ParamsComeTo
params_derived g at [] comes = params_none
params_derived g at (t ∷ ts) (goes_on (goes_on (holds m) n) (goes_on k a)) = params_more m (params_derived (en_term (y_mono t) ∷ g) at ts a)

closed_derived : (g : Context) (at : ℕ) (ts : List MonoTree) → ClosedComeTo g at ts (Ok tt) → All (FormsMono []) ts
unfolding ClosedComeTo
closed_derived g at [] a = All-nil (FormsMono [])
closed_derived g at (t ∷ ts) (goes_on (goes_on (holds m) n) (goes_on k a)) = All-cons (FormsMono []) t ts m (closed_derived (en_term (y_mono t) ∷ g) at ts a)

module _ (p params : ℕ) where
  index_derived : {env : Environment} {g : Context} {F R : FormulaTree} (d at : ℕ)
      → FormsFormula env g F R
      → IndexComesTo p params d at F R (Ok tt)
      → AtomsMeet (OwnAtIndex p params) d R
  unfolding IndexComesTo AtomsMeet
  index_derived d at forms_tt a = tt
  index_derived d at forms_ff a = tt
  index_derived d at (forms_and x y) (goes_on a b) = (index_derived d at x a, index_derived d at y b)
  index_derived d at (forms_or x y) (goes_on a b) = (index_derived d at x a, index_derived d at y b)
  index_derived d at (forms_imp x y) (goes_on a b) = (index_derived d at x a, index_derived d at y b)
  index_derived d at (forms_all_t m x) a = index_derived (suc d) at x a
  index_derived d at (forms_ex_t m x) a = index_derived (suc d) at x a
  index_derived d at (forms_all_h x) a = index_derived (suc d) at x a
  index_derived d at (forms_ex_h x) a = index_derived (suc d) at x a
  index_derived d at (forms_emp i) a = tt
  index_derived d at (forms_cell m i x y) a = tt
  index_derived d at (forms_block m i x) a = tt
  index_derived d at (forms_join i k l) a = tt
  index_derived d at (forms_same i k) a = tt
  index_derived d at (forms_eq m x y) a = tt
  index_derived d at (forms_rec l i x n y) (holds a) = a
  index_derived d at (forms_formula_at {at = inner} x) a = index_derived d inner x a

pub checked_items_derive : CheckedItemsDerive
checked_items_derive env g at (i_abbreviation t) c (goes_on (goes_on (holds m) n) comes) = derives_abbreviation m
checked_items_derive env g at (i_pred n params body) c (goes_on k (goes_on {given = h} a (goes_on l (goes_on b comes)))) =
    derives_pred (params_derived (with_monos n g) at params a) (formula_derived env (en_heap ∷ h) at body b)
checked_items_derive env g at (i_def ty term) c (goes_on {given = ty'} a (goes_on {given = v} b comes)) =
    derives_def (ty_derived env g at ty a) (term_derived env in_program g at term (Some ty') v b)
checked_items_derive env g at (i_val ty term) c (goes_on {given = ty'} a (goes_on (holds e) (goes_on {given = v} b comes))) =
    derives_val (ty_derived env g at ty a) e (term_derived env in_program g at term (Some ty') v b)
checked_items_derive env g at (i_rec r) c (goes_on a (goes_on k (goes_on x (goes_on l (goes_on y (goes_on i comes)))))) =
    let at_next = formula_derived (with_rec env r) (next_under g r.params) at r.at_next y in
    derives_rec (closed_derived g at r.params a) (formula_derived env (zero_under g r.params) at r.at_zero x) at_next
    (index_derived (length env.recs) (length r.params) zero at at_next i)
