-- The monotypes of what is passed, and of the result, by the shape of the head's type.
use Rattle.std.proofs.Common.{◌≡◌, ℕ, zero, suc, List, [], ◌∷◌, length, refl, sym, ap, ◌∙◌, subst}
use Rattle.htt_syntax.specs.Trees.{MonoTree, TyTree, TermTree, triple, m_word, m_bool, m_loc, m_unit, m_pair, m_var, y_fun, y_all, y_hoare}
use Rattle.theory_renaming.specs.Renaming.{rename_mono}
use Rattle.theory_substitution.specs.Monotypes.{Filling, next_filling, fill_mono}
use Rattle.theory_formed_shapes.specs.Shapes.{Shape, sh_mono, sh_fun, sh_all, sh_comp, shape_of, fill_shape, first_filled, dropping, Shapes}
use Rattle.theory_formed_shapes.specs.Formed.{FileShapes}
use Rattle.theory_formed_shapes.proofs.Fillings.{one_way}
use Rattle.theory_formed_shapes.proofs.Monos.{MonosFormed, mono_monos, fun_monos, all_monos, spec_monos}
use Rattle.theory_formed_canonical.specs.Laws.{bare}
use Rattle.theory_instances.specs.Calls.{Argument, of_term, of_mono, passed_count}
use Rattle.theory_instances.specs.Bodies.{filled_further, passed_monos, result_mono}
use Rattle.theory_instances_formed.specs.Formed.{IsFixedShape, FormedFixed, fixed_end, fixed_value, fixed_term, fixed_mono}
use Rattle.theory_instances_formed.proofs.Sites.{bare_filled}

further_dropped : (f : Filling) (s : Shape) → fill_shape f (fill_shape dropping s) ≡ fill_shape (filled_further f m_unit) s
unfolding fill_mono dropping
further_dropped f s = one_way dropping f (filled_further f m_unit) go s
  where
    go : (n : ℕ) → fill_mono f (dropping n) ≡ filled_further f m_unit n
    go zero = refl
    go (suc n) = refl

first_raised : (u t : MonoTree) → fill_mono (first_filled u) (rename_mono suc t) ≡ t
unfolding fill_mono first_filled rename_mono
first_raised u m_word = refl
first_raised u m_bool = refl
first_raised u m_loc = refl
first_raised u m_unit = refl
first_raised u (m_pair a b) = λ j. m_pair (first_raised u a j) (first_raised u b j)
first_raised u (m_var index) = refl

further_first : (f : Filling) (t : MonoTree) (s : Shape) → fill_shape (first_filled t) (fill_shape (next_filling f) s) ≡ fill_shape (filled_further f t) s
unfolding fill_mono next_filling first_filled
further_first f t s = one_way (next_filling f) (first_filled t) (filled_further f t) go s
  where
    go : (n : ℕ) → fill_mono (first_filled t) (next_filling f n) ≡ filled_further f t n
    go zero = refl
    go (suc n) = first_raised t (f n)

-- formed fixed arguments of a computation, of a function and of a family
comp_case : {file : FileShapes} {g : Shapes} {u : MonoTree} {fixed : List Argument} {ts : List MonoTree} {r : MonoTree}
    → FormedFixed file g (sh_comp u) fixed ts r
    → ([] ≡ ts) × (u ≡ r)
comp_case fixed_end = (refl, refl)

record ValueCase (file : FileShapes) (g : Shapes) (t : MonoTree) (s : Shape) (fixed : List Argument) (ts : List MonoTree) (r : MonoTree) : Type 0 where
  others : List MonoTree
  are : t ∷ others ≡ ts
  rest : FormedFixed file g s fixed others r

value_case : {file : FileShapes} {g : Shapes} {t : MonoTree} {s : Shape} {fixed : List Argument} {ts : List MonoTree} {r : MonoTree}
    → FormedFixed file g (sh_fun (sh_mono t) s) fixed ts r
    → ValueCase file g t s fixed ts r
value_case (fixed_value {ts = ts} d) = record { others = ts; are = refl; rest = d }
value_case (fixed_term i e d) = absurd i

record FixedCase (file : FileShapes) (g : Shapes) (s : Shape) (fixed : List Argument) (ts : List MonoTree) (r : MonoTree) : Type 0 where
  first : TermTree
  others : List Argument
  are : of_term first ∷ others ≡ fixed
  rest : FormedFixed file g s others ts r

fixed_case : {file : FileShapes} {g : Shapes} {a s : Shape} {fixed : List Argument} {ts : List MonoTree} {r : MonoTree}
    → IsFixedShape a
    → FormedFixed file g (sh_fun a s) fixed ts r
    → FixedCase file g s fixed ts r
fixed_case i (fixed_value d) = absurd i
fixed_case i (fixed_term {term = term} {fixed = fixed} k e d) = record { first = term; others = fixed; are = refl; rest = d }

record FamilyCase (file : FileShapes) (g : Shapes) (s : Shape) (fixed : List Argument) (ts : List MonoTree) (r : MonoTree) : Type 0 where
  first : MonoTree
  others : List Argument
  are : of_mono first ∷ others ≡ fixed
  rest : FormedFixed file g (fill_shape (first_filled first) s) others ts r

family_case : {file : FileShapes} {g : Shapes} {s : Shape} {fixed : List Argument} {ts : List MonoTree} {r : MonoTree}
    → FormedFixed file g (sh_all s) fixed ts r
    → FamilyCase file g s fixed ts r
family_case (fixed_mono {t = t} {fixed = fixed} m d) = record { first = t; others = fixed; are = refl; rest = d }

abbrev Tells : Filling → TyTree → List Argument → List MonoTree → MonoTree → Type 0
Tells f ty fixed ts r = (passed_monos f ty fixed ≡ ts) × (result_mono f ty fixed ≡ r)

module _ {file : FileShapes} {g : Shapes} where
  answer_given : (answer : TyTree) (f : Filling) {fixed : List Argument} {ts : List MonoTree} {r : MonoTree}
      → FormedFixed file g (fill_shape f (fill_shape dropping (shape_of answer))) fixed ts r
      → FormedFixed file g (fill_shape (filled_further f m_unit) (shape_of answer)) fixed ts r
  answer_given answer f {fixed = fixed} {ts = ts} {r = r} d = subst (λ s. FormedFixed file g s fixed ts r) (further_dropped f (shape_of answer)) d

  -- they tell the monotypes of what is passed, and that of the result
  pub monos_are : {c : Shapes} {ty : TyTree} (f : Filling) {fixed : List Argument} {ts : List MonoTree} {r : MonoTree}
      → MonosFormed c ty
      → FormedFixed file g (fill_shape f (shape_of ty)) fixed ts r
      → Tells f ty fixed ts r
  unfolding shape_of fill_shape
  monos_are f (mono_monos m) d = elim d [ ]
  monos_are f (spec_monos m) d = comp_case d
  monos_are f {fixed = fixed} {ts = ts} {r = r} (fun_monos {answer = answer} (mono_monos {t = t} m) e) d =
      let k = value_case d in
      let q = monos_are (filled_further f m_unit) e (answer_given answer f k.rest) in
      (ap (λ us. fill_mono f t ∷ us) (q.0) ∙ k.are, q.1)
  monos_are f {ts = ts} {r = r} (fun_monos {answer = answer} (fun_monos {argument = a} {answer = b} x y) e) d =
      let k = fixed_case tt d in
      subst (λ fixed. Tells f (y_fun (y_fun a b) answer) fixed ts r) k.are (monos_are (filled_further f m_unit) e (answer_given answer f k.rest))
  monos_are f {ts = ts} {r = r} (fun_monos {answer = answer} (all_monos {body = b} x) e) d =
      let k = fixed_case tt d in
      subst (λ fixed. Tells f (y_fun (y_all b) answer) fixed ts r) k.are (monos_are (filled_further f m_unit) e (answer_given answer f k.rest))
  monos_are f {ts = ts} {r = r} (fun_monos {answer = answer} (spec_monos {pre = pre} {post = post} {t = t} m) e) d =
      let k = fixed_case tt d in
      subst (λ fixed. Tells f (y_fun (y_hoare (triple pre t post)) answer) fixed ts r) k.are (monos_are (filled_further f m_unit) e (answer_given answer f k.rest))
  monos_are f {ts = ts} {r = r} (all_monos {body = body} e) d =
      let k = family_case d in
      subst (λ fixed. Tells f (y_all body) fixed ts r) k.are
      (monos_are (filled_further f k.first) e
      (subst (λ s. FormedFixed file g s k.others ts r) (further_first f k.first (shape_of body)) k.rest))

-- as many are passed as the skeleton says
pub count_is : {file : FileShapes} {g : Shapes} {s : Shape} {fixed : List Argument} {ts : List MonoTree} {r : MonoTree}
    → FormedFixed file g s fixed ts r
    → passed_count (bare s) ≡ length ts
unfolding bare
count_is fixed_end = refl
count_is (fixed_value d) = ap suc (count_is d)
count_is (fixed_term {a = sh_mono t} i e d) = absurd i
count_is (fixed_term {a = sh_fun a b} i e d) = count_is d
count_is (fixed_term {a = sh_all a} i e d) = count_is d
count_is (fixed_term {a = sh_comp t} i e d) = count_is d
count_is (fixed_mono {t = t} {s = s} m d) = ap passed_count (sym (bare_filled (first_filled t) s)) ∙ count_is d
