-- A node has the tree of its parts, where each part has one.
use Rattle.std.proofs.Common.{◌≡◌, ℕ, Some, Result, Ok, Err, refl, sym, ap, ◌∙◌, subst}
use Rattle.std.specs.Prelude.{IfOk}
use Rattle.htt_syntax.specs.declared.mono.Mono.{Mono}
use Rattle.htt_syntax.specs.declared.tree.Term.{Term}
use Rattle.htt_syntax.specs.declared.tree.Formula.{Formula}
use Rattle.htt_syntax.specs.declared.tree.Formula.TheVariants as vformula
use Rattle.htt_syntax.specs.Trees.{MonoTree, TermTree, FormulaTree, f_ex_t, f_cell, f_block, f_eq}
use Rattle.htt_syntax.specs.Views.{mono_tree, term_tree, formula_tree}
use Rattle.htt_syntax.specs.Levels.{formula_ex_t, formula_cell, formula_block, formula_eq}
use Rattle.sp_checker.specs.Made.{Makes, MakesMono, MakesTerm, MakesOwed}

module _ {E : Type 0} where
  holds : {T : Type 0} (r : Result T E) (x : T) (P : T → Type 0) → r ≡ Ok x → IfOk r P → P x
  holds {T} r x P is h = subst (λ (q : Result T E). IfOk q P) is h

  -- of a part that was moved into memory of its own
  through : (part moved : Result Formula E) (x : Formula) (f : FormulaTree)
      → IfOk moved (λ b. part ≡ Ok b)
      → moved ≡ Ok x
      → Makes part f
      → formula_tree x ≡ f
  through part moved x f h is made = holds part x (λ m. formula_tree m ≡ f) (holds moved x (λ b. part ≡ Ok b) is h) made

  pub as_tree : (r : Result Formula E) (f g : FormulaTree) → f ≡ g → Makes r f → Makes r g
  as_tree (Err e) f g same made = made
  as_tree (Ok m) f g same made = made ∙ same

  pub as_mono : (r : Result Mono E) (t u : MonoTree) → t ≡ u → MakesMono r t → MakesMono r u
  as_mono (Err e) t u same made = made
  as_mono (Ok m) t u same made = made ∙ same

  pub as_term : (r : Result Term E) (m n : TermTree) → m ≡ n → MakesTerm r m → MakesTerm r n
  as_term (Err e) m n same made = made
  as_term (Ok t) m n same made = made ∙ same

  pub some_owed : (r : Result Formula E) (f : FormulaTree) → Makes r f → MakesOwed r (Some f)
  some_owed (Err e) f made = made
  some_owed (Ok m) f made = ap Some made

  pub two_parts : (build : Formula → Formula → Formula) (tree : FormulaTree → FormulaTree → FormulaTree)
      → ((x y : Formula) → formula_tree (build x y) ≡ tree (formula_tree x) (formula_tree y))
      → (left right first second result : Result Formula E)
      → IfOk first (λ b. left ≡ Ok b)
      → IfOk second (λ b. right ≡ Ok b)
      → IfOk result (λ t. (x : Formula) × (y : Formula) × (first ≡ Ok x) × (second ≡ Ok y) × (t ≡ build x y))
      → (f g : FormulaTree)
      → Makes left f
      → Makes right g
      → Makes result (tree f g)
  two_parts build tree level left right first second (Err e) hl hr made f g a b = made
  two_parts build tree level left right first second (Ok t) hl hr made f g a b =
      let x = through left first made.0 f hl made.2 a in
      let y = through right second made.1 g hr made.3 b in
      ap formula_tree made.4 ∙ level made.0 made.1 ∙ (λ j. tree (x j) (y j))

  pub one_part : (build : Formula → Formula) (tree : FormulaTree → FormulaTree)
      → ((x : Formula) → formula_tree (build x) ≡ tree (formula_tree x))
      → (body moved result : Result Formula E)
      → IfOk moved (λ b. body ≡ Ok b)
      → IfOk result (λ t. (x : Formula) × (moved ≡ Ok x) × (t ≡ build x))
      → (f : FormulaTree)
      → Makes body f
      → Makes result (tree f)
  one_part build tree level body moved (Err e) h made f a = made
  one_part build tree level body moved (Ok t) h made f a =
      ap formula_tree made.2 ∙ level made.0 ∙ ap tree (through body moved made.0 f h made.1 a)

  pub value_part : (mono : Result Mono E) (body moved result : Result Formula E)
      → IfOk moved (λ b. body ≡ Ok b)
      → IfOk result (λ t. (x : Mono) × (y : Formula) × (mono ≡ Ok x) × (moved ≡ Ok y) × (t ≡ vformula.ExT x y))
      → (t : MonoTree) (f : FormulaTree)
      → MakesMono mono t
      → Makes body f
      → Makes result (f_ex_t t f)
  value_part mono body moved (Err e) h made t f a b = made
  value_part mono body moved (Ok r) h made t f a b =
      let x = holds mono made.0 (λ m. mono_tree m ≡ t) made.2 a in
      let y = through body moved made.1 f h made.3 b in
      ap formula_tree made.4 ∙ formula_ex_t made.0 made.1 ∙ (λ j. f_ex_t (x j) (y j))

  pub cell_parts : (mono : Result Mono E) (heap : ℕ) (at : Result ℕ E) (place value : Result Term E) (result : Result Formula E)
      → at ≡ Ok heap
      → IfOk result (λ t. (x : Mono) × (y : ℕ) × (z : Term) × (w : Term)
      × (mono ≡ Ok x) × (at ≡ Ok y) × (place ≡ Ok z) × (value ≡ Ok w) × (t ≡ vformula.Cell x y z w))
      → (t : MonoTree) (m n : TermTree)
      → MakesMono mono t
      → MakesTerm place m
      → MakesTerm value n
      → Makes result (f_cell t heap m n)
  cell_parts mono heap at place value (Err e) here made t m n a b c = made
  cell_parts mono heap at place value (Ok r) here made t m n a b c =
      let x = holds mono made.0 (λ q. mono_tree q ≡ t) made.4 a in
      let y : heap ≡ made.1 = holds at made.1 (λ q. heap ≡ q) made.5 (subst (λ (q : Result ℕ E). IfOk q (λ i. heap ≡ i)) (sym here) refl) in
      let z = holds place made.2 (λ q. term_tree q ≡ m) made.6 b in
      let w = holds value made.3 (λ q. term_tree q ≡ n) made.7 c in
      ap formula_tree made.8 ∙ formula_cell made.0 made.1 made.2 made.3 ∙ (λ j. f_cell (x j) (sym y j) (z j) (w j))

  pub block_parts : (mono : Result Mono E) (heap : ℕ) (at : Result ℕ E) (place : Result Term E) (result : Result Formula E)
      → at ≡ Ok heap
      → IfOk result (λ t. (x : Mono) × (y : ℕ) × (z : Term) × (mono ≡ Ok x) × (at ≡ Ok y) × (place ≡ Ok z) × (t ≡ vformula.Block x y z))
      → (t : MonoTree) (m : TermTree)
      → MakesMono mono t
      → MakesTerm place m
      → Makes result (f_block t heap m)
  block_parts mono heap at place (Err e) here made t m a b = made
  block_parts mono heap at place (Ok r) here made t m a b =
      let x = holds mono made.0 (λ q. mono_tree q ≡ t) made.3 a in
      let y : heap ≡ made.1 = holds at made.1 (λ q. heap ≡ q) made.4 (subst (λ (q : Result ℕ E). IfOk q (λ i. heap ≡ i)) (sym here) refl) in
      let z = holds place made.2 (λ q. term_tree q ≡ m) made.5 b in
      ap formula_tree made.6 ∙ formula_block made.0 made.1 made.2 ∙ (λ j. f_block (x j) (sym y j) (z j))

  pub equal_parts : (mono : Result Mono E) (left right : Result Term E) (result : Result Formula E)
      → IfOk result (λ t. (x : Mono) × (y : Term) × (z : Term) × (mono ≡ Ok x) × (left ≡ Ok y) × (right ≡ Ok z) × (t ≡ vformula.Eq x y z))
      → (t : MonoTree) (m n : TermTree)
      → MakesMono mono t
      → MakesTerm left m
      → MakesTerm right n
      → Makes result (f_eq t m n)
  equal_parts mono left right (Err e) made t m n a b c = made
  equal_parts mono left right (Ok r) made t m n a b c =
      let x = holds mono made.0 (λ q. mono_tree q ≡ t) made.3 a in
      let y = holds left made.1 (λ q. term_tree q ≡ m) made.4 b in
      let z = holds right made.2 (λ q. term_tree q ≡ n) made.5 c in
      ap formula_tree made.6 ∙ formula_eq made.0 made.1 made.2 ∙ (λ j. f_eq (x j) (y j) (z j))
