-- With more fuel a term has the same value, where it had one or was a fault.
use Rattle.std.proofs.Common.{◌≡◌, ◌≢◌, ℕ, zero, suc, ◌+◌, refl, sym, ap, subst, arith, Option, Some, None}
use Rattle.std.specs.Prelude.{slice_get}
use Rattle.htt_syntax.specs.Trees.{MonoTree, TermTree, t_var, t_val, t_def, t_app, t_inst, t_lam, t_lam_t, t_do, t_fix, t_word, t_bool, t_loc, t_unit, t_pair}
use Rattle.htt_syntax.specs.Trees.{t_fst, t_snd, t_not, t_bin, t_eq, t_sel, t_ann, t_made, t_at, x_param, x_body}
use Rattle.theory_values.specs.Values.{v_pair, value_of_op, value_of_not, value_of_sel, value_of_fst, value_of_snd}
use Rattle.theory_meaning.specs.Closures.{RunValue, base, fun_of, all_of, do_of, fix_of, Env, nothing, with_mono, with_value, PureResult, gives, lacks_fuel}
use Rattle.theory_meaning.specs.Closures.{faults, Items, value_entry, closed_mono}
use Rattle.theory_meaning.specs.Meaning.{then_with, of_one, of_two, of_three, of_eq, Entering, item_result, application_result, instance_result, term_result}
use Rattle.theory_meaning.specs.Meaning.{inner_result, pure}

-- The second is the first, where that is no want of fuel.
abbrev pub Upto : PureResult → PureResult → Type 0
Upto (gives v) b = b ≡ gives v
Upto lacks_fuel b = Unit {0}
Upto faults b = b ≡ faults

pub upto_same : (a : PureResult) → Upto a a
upto_same (gives v) = refl
upto_same lacks_fuel = tt
upto_same faults = refl

pub upto_is : (a b : PureResult) → a ≢ lacks_fuel → Upto a b → b ≡ a
upto_is (gives v) b n p = p
upto_is lacks_fuel b n p = absurd (n refl)
upto_is faults b n p = p

upto_then : (a b : PureResult) (f g : RunValue → PureResult) → Upto a b → ((v : RunValue) → Upto (f v) (g v)) → Upto (then_with a f) (then_with b g)
upto_then (gives v) b f g p q = subst (λ (r : PureResult). Upto (f v) (then_with r g)) (sym p) (q v)
upto_then lacks_fuel b f g p q = tt
upto_then faults b f g p q = ap (λ (r : PureResult). then_with r g) p

pub record Grows (f g : Entering) : Type 0 where
  pub at : (e : Env) (term : TermTree) → Upto (f e term) (g e term)

item_upto : (f g : Entering) → Grows f g → (o : Option TermTree) → Upto (item_result f o) (item_result g o)
item_upto f g w (Some term) = w.at nothing term
item_upto f g w None = refl

applied_upto : (f g : Entering) → Grows f g → (u x : RunValue) → Upto (application_result f u x) (application_result g u x)
applied_upto f g w (fun_of e body) x = w.at (with_value x e) body
applied_upto f g w (fix_of own whole e (x_param ty rest)) x = refl
applied_upto f g w (fix_of own whole e (x_body spec comp)) x = refl
applied_upto f g w (base v) x = refl
applied_upto f g w (all_of e body) x = refl
applied_upto f g w (do_of e comp) x = refl

instanced_upto : (f g : Entering) → Grows f g → (u : RunValue) (t : Option MonoTree) → Upto (instance_result f u t) (instance_result g u t)
instanced_upto f g w (all_of e body) (Some t) = w.at (with_mono t e) body
instanced_upto f g w (all_of e body) None = refl
instanced_upto f g w (fun_of e body) t = refl
instanced_upto f g w (fix_of own whole e left) t = refl
instanced_upto f g w (base v) t = refl
instanced_upto f g w (do_of e comp) t = refl

pub evaluated_upto : (items : Items) (f g : Entering) → Grows f g → (e : Env) (term : TermTree) → Upto (term_result items f e term) (term_result items g e term)
evaluated_upto items f g w e (t_var index) = upto_same (value_entry e index)
evaluated_upto items f g w e (t_val number) = item_upto f g w (slice_get items.vals number)
evaluated_upto items f g w e (t_def number) = item_upto f g w (slice_get items.defs number)
evaluated_upto items f g w e (t_app function argument) =
    upto_then (term_result items f e function) (term_result items g e function) _ _ (evaluated_upto items f g w e function) (λ u.
    upto_then (term_result items f e argument) (term_result items g e argument) _ _ (evaluated_upto items f g w e argument)
    (λ x. applied_upto f g w u x))
evaluated_upto items f g w e (t_inst function mono) =
    upto_then (term_result items f e function) (term_result items g e function) _ _ (evaluated_upto items f g w e function)
    (λ u. instanced_upto f g w u (closed_mono e mono))
evaluated_upto items f g w e (t_lam body) = refl
evaluated_upto items f g w e (t_lam_t body) = refl
evaluated_upto items f g w e (t_do comp) = refl
evaluated_upto items f g w e (t_fix at fix) = refl
evaluated_upto items f g w e (t_word word) = refl
evaluated_upto items f g w e (t_bool truth) = refl
evaluated_upto items f g w e (t_loc place) = refl
evaluated_upto items f g w e t_unit = refl
evaluated_upto items f g w e (t_pair left right) =
    upto_then (term_result items f e left) (term_result items g e left) _ _ (evaluated_upto items f g w e left) (λ x.
    upto_then (term_result items f e right) (term_result items g e right) _ _ (evaluated_upto items f g w e right)
    (λ y. upto_same (of_two (λ a b. Some (v_pair a b)) x y)))
evaluated_upto items f g w e (t_fst pair) =
    upto_then (term_result items f e pair) (term_result items g e pair) _ _ (evaluated_upto items f g w e pair)
    (λ x. upto_same (of_one value_of_fst x))
evaluated_upto items f g w e (t_snd pair) =
    upto_then (term_result items f e pair) (term_result items g e pair) _ _ (evaluated_upto items f g w e pair)
    (λ x. upto_same (of_one value_of_snd x))
evaluated_upto items f g w e (t_not term) =
    upto_then (term_result items f e term) (term_result items g e term) _ _ (evaluated_upto items f g w e term)
    (λ x. upto_same (of_one value_of_not x))
evaluated_upto items f g w e (t_bin op left right) =
    upto_then (term_result items f e left) (term_result items g e left) _ _ (evaluated_upto items f g w e left) (λ x.
    upto_then (term_result items f e right) (term_result items g e right) _ _ (evaluated_upto items f g w e right)
    (λ y. upto_same (of_two (value_of_op op) x y)))
evaluated_upto items f g w e (t_eq mono left right) =
    upto_then (term_result items f e left) (term_result items g e left) _ _ (evaluated_upto items f g w e left) (λ x.
    upto_then (term_result items f e right) (term_result items g e right) _ _ (evaluated_upto items f g w e right)
    (λ y. upto_same (of_eq (closed_mono e mono) x y)))
evaluated_upto items f g w e (t_sel mono test on_true on_false) =
    upto_then (term_result items f e test) (term_result items g e test) _ _ (evaluated_upto items f g w e test) (λ b.
    upto_then (term_result items f e on_true) (term_result items g e on_true) _ _ (evaluated_upto items f g w e on_true) (λ x.
    upto_then (term_result items f e on_false) (term_result items g e on_false) _ _ (evaluated_upto items f g w e on_false)
    (λ y. upto_same (of_three value_of_sel b x y))))
evaluated_upto items f g w e (t_ann term ty) = evaluated_upto items f g w e term
evaluated_upto items f g w e (t_made number values) = refl
evaluated_upto items f g w e (t_at at term) = evaluated_upto items f g w e term

pub entered_grows : (items : Items) (n more : ℕ) → Grows (inner_result items n) (inner_result items (n + more))
entered_grows items zero more = record { at = λ e term. tt }
entered_grows items (suc n) more =
    let s : suc (n + more) ≡ suc n + more = omega arith in
    let w = entered_grows items n more in
    subst (λ (k : ℕ). Grows (inner_result items (suc n)) (inner_result items k)) s
    (record { at = λ e term. evaluated_upto items (inner_result items n) (inner_result items (n + more)) w e term })

pub pure_stays : (items : Items) (n more : ℕ) (e : Env) (term : TermTree)
    → pure items n e term ≢ lacks_fuel
    → pure items (n + more) e term ≡ pure items n e term
pure_stays items n more e term has =
    upto_is (pure items n e term) (pure items (n + more) e term) has
    (evaluated_upto items (inner_result items n) (inner_result items (n + more)) (entered_grows items n more) e term)
