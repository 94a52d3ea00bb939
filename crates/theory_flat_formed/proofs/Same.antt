-- Keys that are the same but for the bytes of recursive functions have the same parameters and results.
use Rattle.std.proofs.Common.{◌≡◌, ℕ, List, [], ◌∷◌, ◌++◌, map, reverse, refl, sym, ap, ◌∙◌, subst}
use Rattle.htt_syntax.specs.Trees.{MonoTree, TermTree, FixTree, y_fun, t_fix, x_param, x_body}
use Rattle.theory_typing.specs.Positions.{plain_ty, plain_term, plain_fix}
use Rattle.theory_formed_shapes.specs.Shapes.{Shape, shape_of, fill_shape, first_filled, Shapes}
use Rattle.theory_formed_shapes.specs.Formed.{FileShapes, IsFormedFix}
use Rattle.theory_formed_shapes.proofs.Monos.{formed_monos}
use Rattle.theory_formed_shapes.proofs.ShapesOf.{shape_plain}
use Rattle.theory_instances.specs.Calls.{Program, Argument, of_mono, fix_ty, ty_of_val, head_ty}
use Rattle.theory_instances.specs.Keys.{Key, plain_argument, IsSameKey}
use Rattle.theory_instances.specs.Bodies.{params_of, result_of}
use Rattle.theory_instances_formed.specs.Formed.{values_shapes, IsFormedProgram, FormedFixed, fixed_end, fixed_value, fixed_term, fixed_mono}
use Rattle.theory_instances_formed.specs.Formed.{IsFormedKey, formed_val, formed_fix}
use Rattle.theory_instances_formed.proofs.Bodies.{IsPlain, fix_ty_shape, fix_ty_formed}
use Rattle.theory_instances_formed.proofs.Taken.{Told, told}

-- ---- what fixed arguments tell of what is passed and of the result

abbrev SameTold : List MonoTree → MonoTree → List MonoTree → MonoTree → Type 0
SameTold ts r us u = (ts ≡ us) × (r ≡ u)

abbrev plain_arguments : List Argument → List Argument
plain_arguments fixed = map plain_argument fixed

abbrev tail_of : List Argument → List Argument
tail_of [] = []
tail_of (x ∷ xs) = xs

same_tail : {x y : Argument} {xs ys : List Argument} → x ∷ xs ≡ y ∷ ys → xs ≡ ys
same_tail q = ap tail_of q

first_mono : {t u : MonoTree} {xs ys : List Argument} → of_mono t ∷ xs ≡ of_mono u ∷ ys → t ≡ u
first_mono q = cc

module _ {file more : FileShapes} {g h : Shapes} where
  same_told : {s : Shape} {fixed others : List Argument} {ts us : List MonoTree} {r u : MonoTree}
      → FormedFixed file g s fixed ts r
      → FormedFixed more h s others us u
      → plain_arguments fixed ≡ plain_arguments others
      → SameTold ts r us u
  same_told fixed_end fixed_end q = (refl, refl)
  same_told (fixed_value {t = t} a) (fixed_value b) q = let k = same_told a b q in (ap (λ xs. t ∷ xs) (k.0), k.1)
  same_told (fixed_value a) (fixed_term i d b) q = absurd i
  same_told (fixed_term i d a) (fixed_value b) q = absurd i
  same_told (fixed_term i d a) (fixed_term j e b) q = same_told a b (same_tail q)
  same_told {us = us} {u = u} (fixed_mono {t = t} {s = s} m a) (fixed_mono {t = t'} {fixed = others} n b) q =
      same_told a (subst (λ x. FormedFixed more h (fill_shape (first_filled x) s) others us u) (sym (first_mono q)) b) (same_tail q)

  -- without families the shape tells all
  pub plain_told : {s : Shape} {fixed others : List Argument} {ts us : List MonoTree} {r u : MonoTree}
      → IsPlain s
      → FormedFixed file g s fixed ts r
      → FormedFixed more h s others us u
      → SameTold ts r us u
  plain_told k fixed_end fixed_end = (refl, refl)
  plain_told k (fixed_value {t = t} a) (fixed_value b) = let l = plain_told k a b in (ap (λ xs. t ∷ xs) (l.0), l.1)
  plain_told k (fixed_value a) (fixed_term i d b) = absurd i
  plain_told k (fixed_term i d a) (fixed_value b) = absurd i
  plain_told k (fixed_term i d a) (fixed_term j e b) = plain_told k a b
  plain_told k (fixed_mono m a) (fixed_mono n b) = absurd k

-- ---- the parts of a formed key

plain_fix_ty : (fix : FixTree) → fix_ty (plain_fix fix) ≡ plain_ty (fix_ty fix)
unfolding fix_ty plain_ty
plain_fix_ty (x_param ty others) = ap (y_fun (plain_ty ty)) (plain_fix_ty others)
plain_fix_ty (x_body spec comp) = refl

abbrev plain_shape : Program → TermTree → Shape
plain_shape p head = shape_of (head_ty p (plain_term head))

record KeyParts (file : FileShapes) (p : Program) (key : Key) : Type 0 where
  shape : Shape
  monos : List MonoTree
  result : MonoTree
  fixed : FormedFixed file (values_shapes key.captured) shape key.fixed monos result
  told : Told p key monos result
  is : shape ≡ plain_shape p key.head

-- the parameters of a recursive function's key
pub fix_told : {file : FileShapes} {p : Program} {key : Key} {at : ℕ} {fix : FixTree} {s : Shape} {ts : List MonoTree} {r : MonoTree}
    → key.head ≡ t_fix at fix
    → IsFormedFix file (values_shapes key.captured) s fix s
    → FormedFixed file (values_shapes key.captured) s key.fixed ts r
    → Told p key ts r
fix_told {file = file} {p = p} {key = key} {fix = fix} {ts = ts} {r = r} q d f =
    told p key (fix_ty fix) (ap (head_ty p) q) (formed_monos (fix_ty_formed d))
    (subst (λ a. FormedFixed file (values_shapes key.captured) a key.fixed ts r) (sym (fix_ty_shape d)) f)

module _ (recs : List (List MonoTree)) (p : Program) (program : IsFormedProgram recs p) where
  parts_of : {file : FileShapes} {key : Key} → IsFormedKey file p key → KeyParts file p key
  unfolding plain_term
  parts_of {key = key} (formed_val {n = n} {v = v} {ts = ts} {r = r} q found c d) = record {
    shape = shape_of v.ty;
    monos = ts;
    result = r;
    fixed = d;
    told = told p key v.ty (ap (head_ty p) q ∙ ap ty_of_val found) (formed_monos (program.types n v found)) d;
    is = sym (ap (plain_shape p) q ∙ ap (λ x. shape_of (ty_of_val x)) found);
  }
  parts_of {key = key} (formed_fix {fix = fix} {s = s} {ts = ts} {r = r} q d c f) = record {
    shape = s;
    monos = ts;
    result = r;
    fixed = f;
    told = fix_told q d f;
    is = sym (ap (plain_shape p) q ∙ ap shape_of (plain_fix_ty fix) ∙ shape_plain (fix_ty fix) ∙ fix_ty_shape d);
  }

  pub same_key : {file more : FileShapes} {known key : Key}
      → IsFormedKey file p known
      → IsFormedKey more p key
      → IsSameKey known key
      → (params_of p known ≡ params_of p key) × (result_of p known ≡ result_of p key)
  same_key {file = file} {more = more} {known = known} {key = key} a b same =
      let x = parts_of a in
      let y = parts_of b in
      let heads : plain_term known.head ≡ plain_term key.head = ap (λ (k : Key). k.head) same in
      let shapes : y.shape ≡ x.shape = y.is ∙ ap (λ h. shape_of (head_ty p h)) (sym heads) ∙ sym x.is in
      let captured : known.captured ≡ key.captured = ap (λ (k : Key). k.captured) same in
      let k = same_told x.fixed (subst (λ s. FormedFixed more (values_shapes key.captured) s key.fixed y.monos y.result) shapes y.fixed) (ap (λ (k : Key). k.fixed) same) in (
        x.told.params ∙ (λ j. reverse (k.0 j) ++ captured j) ∙ sym y.told.params,
        x.told.result ∙ k.1 ∙ sym y.told.result,
      )
