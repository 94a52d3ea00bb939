-- A call in a formed computation is a head with formed arguments; those that are fixed, renumbered, are the key's.
use Rattle.std.proofs.Common.{◌≡◌, zero, List, [], ◌∷◌, ◌++◌, map, flat_map, refl, sym, subst}
use Rattle.htt_syntax.specs.Trees.{MonoTree, TermTree}
use Rattle.theory_renaming.specs.Renaming.{Map, rename_term}
use Rattle.theory_canonical.specs.Skeletons.{Skeleton, sk_arrow, sk_all}
use Rattle.theory_substitution.specs.Monotypes.{Filling, next_filling}
use Rattle.theory_formed_shapes.specs.Shapes.{Shape, sh_mono, sh_fun, sh_all, sh_comp, fill_shape, first_filled, renaming_of, Shapes}
use Rattle.theory_formed_shapes.specs.Formed.{FileShapes, IsFormedMono, IsFormedTerm, IsFormedNeutral, w_var, w_val, w_made, w_fix, w_app, w_inst, IsClosedFile}
use Rattle.theory_formed_canonical.specs.Laws.{bare}
use Rattle.theory_instances.specs.Calls.{Argument, of_term, of_mono, rename_argument, head_of, arguments_of, fixed_of, passed_of}
use Rattle.theory_instances.specs.Occurrences.{met_in_term, met_in_argument}
use Rattle.theory_formed_met.specs.Laws.{CarriesEntry}
use Rattle.theory_formed_met.proofs.Occurring.{EachMet, both, term_by_met}
use Rattle.theory_instances_formed.specs.Formed.{values_shapes, FormedFixed, fixed_end, fixed_value, fixed_term, fixed_mono}
use Rattle.theory_instances_formed.proofs.Shapes.{IsClosedShape, closed_renamed, closed_argument, closed_answer, closed_instance, no_mono, no_heap, formed_closed}
use Rattle.theory_instances_formed.proofs.Shapes.{closed_formed}

-- arguments for a function of the first shape, which leave the second
pub data FormedArguments (file : FileShapes) (g : Shapes) : Shape → List Argument → Shape → Type 0 where
  arguments_none : {s : Shape} → FormedArguments file g s [] s
  arguments_term : {a s u : Shape} {term : TermTree} {others : List Argument}
      → IsFormedTerm file g term a
      → FormedArguments file g s others u
      → FormedArguments file g (sh_fun a s) (of_term term ∷ others) u
  arguments_mono : {s u : Shape} {t : MonoTree} {others : List Argument}
      → IsFormedMono g t
      → FormedArguments file g (fill_shape (first_filled t) s) others u
      → FormedArguments file g (sh_all s) (of_mono t ∷ others) u

-- one more argument, last
then_term : {file : FileShapes} {g : Shapes} {r a s : Shape} {arguments : List Argument} {term : TermTree}
    → FormedArguments file g r arguments (sh_fun a s)
    → IsFormedTerm file g term a
    → FormedArguments file g r (arguments ++ of_term term ∷ []) s
then_term arguments_none d = arguments_term d arguments_none
then_term (arguments_term e more) d = arguments_term e (then_term more d)
then_term (arguments_mono e more) d = arguments_mono e (then_term more d)

then_mono : {file : FileShapes} {g : Shapes} {r s : Shape} {arguments : List Argument} {t : MonoTree}
    → FormedArguments file g r arguments (sh_all s)
    → IsFormedMono g t
    → FormedArguments file g r (arguments ++ of_mono t ∷ []) (fill_shape (first_filled t) s)
then_mono arguments_none d = arguments_mono d arguments_none
then_mono (arguments_term e more) d = arguments_term e (then_mono more d)
then_mono (arguments_mono e more) d = arguments_mono e (then_mono more d)

pub record Spine (file : FileShapes) (g : Shapes) (term : TermTree) (s : Shape) : Type 0 where
  pub whole : Shape
  pub head : IsFormedNeutral file g (head_of term) whole
  pub arguments : FormedArguments file g whole (arguments_of term) s

pub spine_of : {file : FileShapes} {g : Shapes} {term : TermTree} {s : Shape} → IsFormedNeutral file g term s → Spine file g term s
unfolding head_of arguments_of
spine_of {s = s} (w_var d) = record { whole = s; head = w_var d; arguments = arguments_none }
spine_of {s = s} (w_val d) = record { whole = s; head = w_val d; arguments = arguments_none }
spine_of {s = s} (w_made d e) = record { whole = s; head = w_made d e; arguments = arguments_none }
spine_of {s = s} (w_fix d) = record { whole = s; head = w_fix d; arguments = arguments_none }
spine_of (w_app d e) = let r = spine_of d in record { whole = r.whole; head = r.head; arguments = then_term r.arguments e }
spine_of (w_inst d e) = let r = spine_of d in record { whole = r.whole; head = r.head; arguments = then_mono r.arguments e }

-- what is passed
pub data FormedPassed (file : FileShapes) (g : Shapes) : List TermTree → List MonoTree → Type 0 where
  passed_none : FormedPassed file g [] []
  passed_more : {term : TermTree} {others : List TermTree} {t : MonoTree} {ts : List MonoTree}
      → IsFormedTerm file g term (sh_mono t)
      → FormedPassed file g others ts
      → FormedPassed file g (term ∷ others) (t ∷ ts)

-- arguments of a computation, those that are fixed and those that are passed
pub record Parted (file : FileShapes) (g : Shapes) (s : Shape) (arguments : List Argument) (r : MonoTree) : Type 0 where
  pub monos : List MonoTree
  pub fixed : FormedFixed file g s (fixed_of (bare s) arguments) monos r
  pub passed : FormedPassed file g (passed_of (bare s) arguments) monos

pub bare_filled : (f : Filling) (s : Shape) → bare (fill_shape f s) ≡ bare s
unfolding bare fill_shape
bare_filled f (sh_mono t) = refl
bare_filled f (sh_fun a s) = λ j. sk_arrow (bare_filled f a j) (bare_filled f s j)
bare_filled f (sh_all s) = λ j. sk_all (bare_filled (next_filling f) s j)
bare_filled f (sh_comp t) = refl

parted_arrow : {file : FileShapes} {g : Shapes} (a s : Shape) {term : TermTree} {others : List Argument} {r : MonoTree}
    → IsFormedTerm file g term a
    → Parted file g s others r
    → Parted file g (sh_fun a s) (of_term term ∷ others) r
unfolding bare
parted_arrow (sh_mono t) s d p = record { monos = t ∷ p.monos; fixed = fixed_value p.fixed; passed = passed_more d p.passed }
parted_arrow (sh_fun a b) s d p = record { monos = p.monos; fixed = fixed_term tt d p.fixed; passed = p.passed }
parted_arrow (sh_all a) s d p = record { monos = p.monos; fixed = fixed_term tt d p.fixed; passed = p.passed }
parted_arrow (sh_comp t) s d p = record { monos = p.monos; fixed = fixed_term tt d p.fixed; passed = p.passed }

pub parted : {file : FileShapes} {g : Shapes} {s : Shape} {arguments : List Argument} {r : MonoTree}
    → FormedArguments file g s arguments (sh_comp r)
    → Parted file g s arguments r
unfolding bare
parted arguments_none = record { monos = []; fixed = fixed_end; passed = passed_none }
parted (arguments_term {a = a} {s = s} d more) = parted_arrow a s d (parted more)
parted {file = file} {g = g} {r = r} (arguments_mono {s = s} {t = t} {others = others} d more) =
    let p = parted more in
    let q = bare_filled (first_filled t) s in
    record {
      monos = p.monos;
      fixed = fixed_mono d (subst (λ (k : Skeleton). FormedFixed file g (fill_shape (first_filled t) s) (fixed_of k others) p.monos r) q p.fixed);
      passed = subst (λ (k : Skeleton). FormedPassed file g (passed_of k others) p.monos) q p.passed;
    }

-- ---- fixed arguments, renamed by a map that carries the entries of the variables that occur in them

pub fixed_carried : {file : FileShapes} (m : Map) (xs us : List MonoTree) {s : Shape} {fixed : List Argument} {ts : List MonoTree} {r : MonoTree}
    → IsClosedFile file
    → IsClosedShape s
    → FormedFixed file (values_shapes xs) s fixed ts r
    → EachMet (CarriesEntry m (values_shapes xs) (values_shapes us)) (flat_map met_in_argument fixed)
    → FormedFixed file (values_shapes us) s (map (rename_argument m) fixed) ts r
fixed_carried m xs us c k fixed_end e = fixed_end
fixed_carried m xs us c k (fixed_value f) e = fixed_value (fixed_carried m xs us c (closed_answer k) f e)
fixed_carried {file = file} m xs us c k (fixed_term {a = a} {term = term} {fixed = fixed} i d f) e =
    let b = both (CarriesEntry m (values_shapes xs) (values_shapes us)) (met_in_term zero [] term) (flat_map met_in_argument fixed) e in
    fixed_term i
    (subst (IsFormedTerm file (values_shapes us) (rename_term m term)) (closed_argument k (renaming_of m))
    (term_by_met c (λ n h. absurd (no_mono xs n h)) (λ n h. absurd (no_heap xs n h)) (b.0) d))
    (fixed_carried m xs us c (closed_answer k) f (b.1))
fixed_carried {file = file} m xs us {r = r} c k (fixed_mono {t = t} {s = s} {fixed = fixed} {ts = ts} d f) e =
    let closed = formed_closed xs d in
    subst (λ (u : MonoTree). FormedFixed file (values_shapes us) (sh_all s) (of_mono u ∷ map (rename_argument m) fixed) ts r)
    (sym (closed_renamed m closed))
    (fixed_mono (closed_formed (values_shapes us) closed) (fixed_carried m xs us c (closed_instance k closed) f e))
