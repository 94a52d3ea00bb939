-- Walks of lists, gathered into the walk of the node that holds them.
use Rattle.std.proofs.Common.{ℕ, zero, suc, ◌+◌, ◌≡◌, refl, List, [], ◌∷◌, ◌++◌, map, length, ap, arith, take, subst, ◌≤◌, Option, Some, None, slice_get}
use Rattle.std.proofs.lemmas.List.{take_all}
use Rattle.htt_syntax.specs.Trees.{TermTree, TripleTree, CompTree, FixTree, more_terms, c_ret, c_step, x_param, x_body}
use Rattle.htt_syntax.specs.Views.{term_tree, ty_tree, step_tree}
use Rattle.htt_syntax.specs.Levels.{term_trees, params_tree, steps_tree}
use Rattle.htt_syntax.specs.declared.tree.Term.{Term}
use Rattle.htt_syntax.specs.declared.tree.Ty.{Ty}
use Rattle.htt_syntax.specs.declared.tree.Step.{Step}
use Rattle.htt_syntax_walk.specs.Walk.{Puts, walk_term, walk_terms, walk_ty, walk_triple, walk_fix, walk_step, walk_comp}
use Rattle.htt_syntax_walk.specs.Rising.{rising}

first : {A : Type 0} → A → List A → A
first other [] = other
first other (x ∷ xs) = x

rest : {A : Type 0} → List A → List A
rest [] = []
rest (x ∷ xs) = xs

-- Terms that all stand under the same binders.
terms_match : (p : Puts) (d : ℕ) (xs ys : List Term)
    → map term_tree ys ≡ map (λ x. walk_term p d (term_tree x)) xs
    → term_trees ys ≡ walk_terms p d (term_trees xs)
unfolding walk_term rest first
terms_match p d [] [] h = refl
terms_match p d (x ∷ xs) (y ∷ ys) h = λ j. more_terms (first (term_tree y) (h j)) (terms_match p d xs ys (λ i. rest (h i)) j)
terms_match p d [] (y ∷ ys) h = grind arith
terms_match p d (x ∷ xs) [] h = grind arith

pub terms_walked : (p : Puts) (d i : ℕ) (xs ys zs : List Term)
    → zs ≡ ys
    → map term_tree ys ≡ map (λ x. walk_term p d (term_tree x)) (take i xs)
    → length xs ≤ i
    → term_trees zs ≡ walk_terms p d (term_trees xs)
terms_walked p d i xs ys zs same h all =
    let whole : take i xs ≡ xs = take_all i xs all in
    rw same (terms_match p d xs ys (subst (λ ts. map term_tree ys ≡ map (λ x. walk_term p d (term_tree x)) ts) whole h))

-- One more of a row, of which each stands under those before it.
module _ {A B : Type 0} (view : A → B) (walk : ℕ → B → B) where
  row_grows : (d i : ℕ) (xs ys : List A) (x y : A) (inner : ℕ)
      → slice_get xs i ≡ Some x
      → map view ys ≡ rising walk d (map view (take i xs))
      → inner ≡ d + i
      → view y ≡ walk inner (view x)
      → map view (ys ++ y ∷ []) ≡ rising walk d (map view (take (suc i) xs))
  unfolding rising rest first
  row_grows d i [] ys x y inner at h e k = grind arith
  row_grows d zero (z ∷ xs) [] x y inner at h e k = grind arith
  row_grows d zero (z ∷ xs) (w ∷ ys) x y inner at h e k = grind arith
  row_grows d (suc i) (z ∷ xs) [] x y inner at h e k = grind arith
  row_grows d (suc i) (z ∷ xs) (w ∷ ys) x y inner at h e k =
      λ j. first (view w) (h j) ∷ row_grows (d + 1) i xs ys x y inner at (λ j. rest (h j)) (omega (arith, e)) k j

  pub row_starts : (d : ℕ) (ys : List A) → ys ≡ [] → map view ys ≡ rising walk d []
  unfolding rising
  row_starts d ys none = rw none refl

  pub row_continues : (d i : ℕ) (xs ys zs : List A) (x y : A) (inner : ℕ)
      → zs ≡ ys ++ y ∷ []
      → slice_get xs i ≡ Some x
      → map view ys ≡ rising walk d (map view (take i xs))
      → inner ≡ d + i
      → view y ≡ walk inner (view x)
      → map view zs ≡ rising walk d (map view (take (i + 1) xs))
  row_continues d i xs ys zs x y inner more at h e k =
      let next : suc i ≡ i + 1 = omega arith in
      rw more (subst (λ n. map view (ys ++ y ∷ []) ≡ rising walk d (map view (take n xs))) next (row_grows d i xs ys x y inner at h e k))

steps_match : (p : Puts) (d : ℕ) (xs ys : List Step) (result : TermTree) (inner : ℕ)
    → inner ≡ d + length xs
    → map step_tree ys ≡ rising (walk_step p) d (map step_tree xs)
    → steps_tree ys (walk_term p inner result) ≡ walk_comp p d (steps_tree xs result)
unfolding walk_term rising rest first
steps_match p d [] [] result inner e h = let same : inner ≡ d = omega (arith, e) in λ j. c_ret (walk_term p (same j) result)
steps_match p d (x ∷ xs) (y ∷ ys) result inner e h =
    λ j. c_step (first (step_tree y) (h j)) (steps_match p (d + 1) xs ys result inner (omega (arith, e)) (λ i. rest (h i)) j)
steps_match p d [] (y ∷ ys) result inner e h = grind arith
steps_match p d (x ∷ xs) [] result inner e h = grind arith

pub comp_walked : (p : Puts) (d : ℕ) (xs ys : List Step) (result result' : TermTree)
    → map step_tree ys ≡ rising (walk_step p) d (map step_tree xs)
    → result' ≡ walk_term p (d + length xs) result
    → steps_tree ys result' ≡ walk_comp p d (steps_tree xs result)
comp_walked p d xs ys result result' h k = rw k (steps_match p d xs ys result (d + length xs) refl h)

params_match : (p : Puts) (d : ℕ) (xs ys : List Ty) (body : FixTree) (inner : ℕ)
    → inner ≡ d + length xs
    → map ty_tree ys ≡ rising (walk_ty p) d (map ty_tree xs)
    → params_tree ys (walk_fix p inner body) ≡ walk_fix p d (params_tree xs body)
unfolding walk_term rising rest first
params_match p d [] [] body inner e h = let same : inner ≡ d = omega (arith, e) in λ j. walk_fix p (same j) body
params_match p d (x ∷ xs) (y ∷ ys) body inner e h =
    λ j. x_param (first (ty_tree y) (h j)) (params_match p (d + 1) xs ys body inner (omega (arith, e)) (λ i. rest (h i)) j)
params_match p d [] (y ∷ ys) body inner e h = grind arith
params_match p d (x ∷ xs) [] body inner e h = grind arith

pub fix_walked : (p : Puts) (d : ℕ) (xs ys : List Ty) (spec spec' : TripleTree) (comp comp' : CompTree)
    → map ty_tree ys ≡ rising (walk_ty p) d (map ty_tree xs)
    → spec' ≡ walk_triple p (d + length xs) spec
    → comp' ≡ walk_comp p (d + length xs + 1) comp
    → params_tree ys (x_body spec' comp') ≡ walk_fix p d (params_tree xs (x_body spec comp))
unfolding walk_term
fix_walked p d xs ys spec spec' comp comp' h k l = rw (k, l) (params_match p d xs ys (x_body spec comp) (d + length xs) refl h)
