-- Walks of the lists that a proof holds, gathered into the walk of the proof.
use Rattle.std.proofs.Common.{ℕ, zero, suc, ◌+◌, ◌≡◌, refl, List, [], ◌∷◌, ◌++◌, map, length, arith, take, subst, ◌≤◌, Option, Some, None, slice_get}
use Rattle.std.proofs.lemmas.List.{take_all}
use Rattle.htt_syntax.specs.Trees.{ProofTree, StmtTree, BlockTree, binders_of, b_then, b_end}
use Rattle.htt_syntax.specs.ProofViews.{stmt_tree}
use Rattle.htt_syntax.specs.ProofLevels.{stmts_tree}
use Rattle.htt_syntax.specs.declared.proof.Stmt.{Stmt}
use Rattle.htt_syntax_walk.specs.Walk.{Puts}
use Rattle.htt_syntax_walk.specs.WalkProof.{walk_proof, walk_stmt, walk_block}
use Rattle.htt_syntax_walk.specs.Descent.{walked_stmts, depth_after}

first : {A : Type 0} → A → List A → A
first other [] = other
first other (x ∷ xs) = x

rest : {A : Type 0} → List A → List A
rest [] = []
rest (x ∷ xs) = xs

-- Items that all stand under the same binders.
module _ {A B : Type 0} (view : A → B) (walk : B → B) where
  pub items_walked : (i : ℕ) (xs ys zs : List A)
      → zs ≡ ys
      → map view ys ≡ map walk (map view (take i xs))
      → length xs ≤ i
      → map view zs ≡ map walk (map view xs)
  items_walked i xs ys zs same h all = let whole : take i xs ≡ xs = take_all i xs all in rw same (subst (λ ts. map view ys ≡ map walk (map view ts)) whole h)

  item_grows : (i : ℕ) (xs ys : List A) (x y : A)
      → slice_get xs i ≡ Some x
      → map view ys ≡ map walk (map view (take i xs))
      → view y ≡ walk (view x)
      → map view (ys ++ y ∷ []) ≡ map walk (map view (take (suc i) xs))
  unfolding rest first
  item_grows i [] ys x y at h k = grind arith
  item_grows zero (z ∷ xs) [] x y at h k = grind arith
  item_grows zero (z ∷ xs) (w ∷ ys) x y at h k = grind arith
  item_grows (suc i) (z ∷ xs) [] x y at h k = grind arith
  item_grows (suc i) (z ∷ xs) (w ∷ ys) x y at h k = λ j. first (view w) (h j) ∷ item_grows i xs ys x y at (λ j. rest (h j)) k j

  pub items_continue : (i : ℕ) (xs ys zs : List A) (x y : A)
      → zs ≡ ys ++ y ∷ []
      → slice_get xs i ≡ Some x
      → map view ys ≡ map walk (map view (take i xs))
      → view y ≡ walk (view x)
      → map view zs ≡ map walk (map view (take (i + 1) xs))
  items_continue i xs ys zs x y more at h k =
      let next : suc i ≡ i + 1 = omega arith in
      rw more (subst (λ n. map view (ys ++ y ∷ []) ≡ map walk (map view (take n xs))) next (item_grows i xs ys x y at h k))

-- Statements, of which some add a variable.
pub depth_starts : (d : ℕ) → d ≡ depth_after d []
unfolding depth_after
depth_starts d = refl

depth_grows : (d i : ℕ) (xs : List Stmt) (x : Stmt)
    → slice_get xs i ≡ Some x
    → depth_after d (map stmt_tree (take i xs)) + binders_of (stmt_tree x) ≡ depth_after d (map stmt_tree (take (suc i) xs))
unfolding depth_after
depth_grows d i [] x at = grind arith
depth_grows d zero (z ∷ xs) x at = grind arith
depth_grows d (suc i) (z ∷ xs) x at = depth_grows (d + binders_of (stmt_tree z)) i xs x at

pub depth_continues : (d i : ℕ) (xs : List Stmt) (x : Stmt) (inner next : ℕ)
    → slice_get xs i ≡ Some x
    → inner ≡ depth_after d (map stmt_tree (take i xs))
    → next ≡ inner + binders_of (stmt_tree x)
    → next ≡ depth_after d (map stmt_tree (take (i + 1) xs))
depth_continues d i xs x inner next at e k =
    let after : suc i ≡ i + 1 = omega arith in
    rw k (rw e (subst
    (λ n. depth_after d (map stmt_tree (take i xs)) + binders_of (stmt_tree x) ≡ depth_after d (map stmt_tree (take n xs))) after
    (depth_grows d i xs x at)))

pub depth_ends : (d i : ℕ) (xs : List Stmt) (inner : ℕ)
    → inner ≡ depth_after d (map stmt_tree (take i xs))
    → length xs ≤ i
    → inner ≡ depth_after d (map stmt_tree xs)
depth_ends d i xs inner e all = let whole : take i xs ≡ xs = take_all i xs all in subst (λ ts. inner ≡ depth_after d (map stmt_tree ts)) whole e

module _ (p : Puts) where
  pub stmts_start : (d : ℕ) (ys : List Stmt) → ys ≡ [] → map stmt_tree ys ≡ walked_stmts p d []
  unfolding walked_stmts
  stmts_start d ys none = rw none refl

  stmts_grow : (d i : ℕ) (xs ys : List Stmt) (x y : Stmt) (inner : ℕ)
      → slice_get xs i ≡ Some x
      → map stmt_tree ys ≡ walked_stmts p d (map stmt_tree (take i xs))
      → inner ≡ depth_after d (map stmt_tree (take i xs))
      → stmt_tree y ≡ walk_stmt p inner (stmt_tree x)
      → map stmt_tree (ys ++ y ∷ []) ≡ walked_stmts p d (map stmt_tree (take (suc i) xs))
  unfolding walked_stmts depth_after rest first
  stmts_grow d i [] ys x y inner at h e k = grind arith
  stmts_grow d zero (z ∷ xs) [] x y inner at h e k = grind arith
  stmts_grow d zero (z ∷ xs) (w ∷ ys) x y inner at h e k = grind arith
  stmts_grow d (suc i) (z ∷ xs) [] x y inner at h e k = grind arith
  stmts_grow d (suc i) (z ∷ xs) (w ∷ ys) x y inner at h e k =
      λ j. first (stmt_tree w) (h j) ∷ stmts_grow (d + binders_of (stmt_tree z)) i xs ys x y inner at (λ j. rest (h j)) e k j

  pub stmts_continue : (d i : ℕ) (xs ys zs : List Stmt) (x y : Stmt) (inner : ℕ)
      → zs ≡ ys ++ y ∷ []
      → slice_get xs i ≡ Some x
      → map stmt_tree ys ≡ walked_stmts p d (map stmt_tree (take i xs))
      → inner ≡ depth_after d (map stmt_tree (take i xs))
      → stmt_tree y ≡ walk_stmt p inner (stmt_tree x)
      → map stmt_tree zs ≡ walked_stmts p d (map stmt_tree (take (i + 1) xs))
  stmts_continue d i xs ys zs x y inner more at h e k =
      let next : suc i ≡ i + 1 = omega arith in
      rw more (subst (λ n. map stmt_tree (ys ++ y ∷ []) ≡ walked_stmts p d (map stmt_tree (take n xs))) next
      (stmts_grow d i xs ys x y inner at h e k))

  pub stmts_end : (d i : ℕ) (xs ys zs : List Stmt)
      → zs ≡ ys
      → map stmt_tree ys ≡ walked_stmts p d (map stmt_tree (take i xs))
      → length xs ≤ i
      → map stmt_tree zs ≡ walked_stmts p d (map stmt_tree xs)
  stmts_end d i xs ys zs same h all =
      let whole : take i xs ≡ xs = take_all i xs all in
      rw same (subst (λ ts. map stmt_tree ys ≡ walked_stmts p d (map stmt_tree ts)) whole h)

  block_matches : (d : ℕ) (xs ys : List Stmt) (last : ProofTree)
      → map stmt_tree ys ≡ walked_stmts p d (map stmt_tree xs)
      → stmts_tree ys (walk_proof p (depth_after d (map stmt_tree xs)) last) ≡ walk_block p d (stmts_tree xs last)
  unfolding walk_proof walked_stmts depth_after rest first
  block_matches d [] [] last h = refl
  block_matches d (x ∷ xs) (y ∷ ys) last h =
      λ j. b_then (first (stmt_tree y) (h j)) (block_matches (d + binders_of (stmt_tree x)) xs ys last (λ i. rest (h i)) j)
  block_matches d [] (y ∷ ys) last h = grind arith
  block_matches d (x ∷ xs) [] last h = grind arith

  pub block_walked : (d : ℕ) (xs ys : List Stmt) (last last' : ProofTree)
      → map stmt_tree ys ≡ walked_stmts p d (map stmt_tree xs)
      → last' ≡ walk_proof p (depth_after d (map stmt_tree xs)) last
      → stmts_tree ys last' ≡ walk_block p d (stmts_tree xs last)
  block_walked d xs ys last last' h k = rw k (block_matches d xs ys last h)
