-- A term that was built has the tree of its parts; and a term that isn't computed is itself, folded.
use Rattle.std.proofs.Common.{◌≡◌, Some, None, Result, Ok, Err, sym, ap, ◌∙◌, subst, arith}
use Rattle.std.specs.Prelude.{IfOk}
use Rattle.htt_syntax.specs.declared.mono.Mono.{Mono}
use Rattle.htt_syntax.specs.declared.tree.Term.{Term}
use Rattle.htt_syntax.specs.declared.tree.Term.TheVariants as vterm
use Rattle.htt_syntax.specs.Trees.{TermTree, t_eq, t_sel}
use Rattle.htt_syntax.specs.Views.{mono_tree, term_tree}
use Rattle.htt_syntax.specs.Levels.{term_eq, term_sel}
use Rattle.theory_canonical.specs.Folding.{contractum, folding, or_itself}

pub computed : (t r : TermTree) → contractum t ≡ Some r → r ≡ folding t
computed t r is = sym (ap (λ o. or_itself o t) is)

pub itself : (t : TermTree) → contractum t ≡ None → t ≡ folding t
itself t is = sym (ap (λ o. or_itself o t) is)

module _ {E : Type 0} where
  ok_is : {T : Type 0} (x y : T) → (let one : Result T E = Ok x in one) ≡ Ok y → x ≡ y
  ok_is x y e = grind arith

  moved_is : {T : Type 0} (part : T) (moved : Result T E) (x : T) → IfOk moved (λ b. (let one : Result T E = Ok part in one) ≡ Ok b) → moved ≡ Ok x → part ≡ x
  moved_is {T} part moved x h is = ok_is part x (subst (λ (q : Result T E). IfOk q (λ b. (let one : Result T E = Ok part in one) ≡ Ok b)) is h)

  pub one_part : (build : Term → Term) (tree : TermTree → TermTree)
      → ((x : Term) → term_tree (build x) ≡ tree (term_tree x))
      → (part : Term) (moved result : Result Term E)
      → IfOk moved (λ b. (let one : Result Term E = Ok part in one) ≡ Ok b)
      → IfOk result (λ t. (x : Term) × (moved ≡ Ok x) × (t ≡ build x))
      → contractum (tree (term_tree part)) ≡ None
      → IfOk result (λ t. term_tree t ≡ folding (tree (term_tree part)))
  one_part build tree level part moved (Err e) h made stays = made
  one_part build tree level part moved (Ok t) h made stays =
      ap term_tree made.2 ∙ level made.0 ∙ ap (λ (x : Term). tree (term_tree x)) (sym (moved_is part moved made.0 h made.1))
      ∙ itself (tree (term_tree part)) stays

  pub two_parts : (build : Term → Term → Term) (tree : TermTree → TermTree → TermTree)
      → ((x y : Term) → term_tree (build x y) ≡ tree (term_tree x) (term_tree y))
      → (left right : Term) (first second result : Result Term E)
      → IfOk first (λ b. (let one : Result Term E = Ok left in one) ≡ Ok b)
      → IfOk second (λ b. (let one : Result Term E = Ok right in one) ≡ Ok b)
      → IfOk result (λ t. (x : Term) × (y : Term) × (first ≡ Ok x) × (second ≡ Ok y) × (t ≡ build x y))
      → contractum (tree (term_tree left) (term_tree right)) ≡ None
      → IfOk result (λ t. term_tree t ≡ folding (tree (term_tree left) (term_tree right)))
  two_parts build tree level left right first second (Err e) hl hr made stays = made
  two_parts build tree level left right first second (Ok t) hl hr made stays =
      let x = sym (moved_is left first made.0 hl made.2) in
      let y = sym (moved_is right second made.1 hr made.3) in
      ap term_tree made.4 ∙ level made.0 made.1 ∙ (λ j. tree (term_tree (x j)) (term_tree (y j)))
      ∙ itself (tree (term_tree left) (term_tree right)) stays

  pub eq_parts : (mono : Mono) (given : Result Mono E) (left right : Term) (first second result : Result Term E)
      → given ≡ Ok mono
      → IfOk first (λ b. (let one : Result Term E = Ok left in one) ≡ Ok b)
      → IfOk second (λ b. (let one : Result Term E = Ok right in one) ≡ Ok b)
      → IfOk result (λ t. (m : Mono) × (x : Term) × (y : Term) × (given ≡ Ok m) × (first ≡ Ok x) × (second ≡ Ok y) × (t ≡ vterm.Eq m x y))
      → contractum (t_eq (mono_tree mono) (term_tree left) (term_tree right)) ≡ None
      → IfOk result (λ t. term_tree t ≡ folding (t_eq (mono_tree mono) (term_tree left) (term_tree right)))
  eq_parts mono given left right first second (Err e) is hl hr made stays = made
  eq_parts mono given left right first second (Ok t) is hl hr made stays =
      let m = ok_is made.0 mono (sym made.3 ∙ is) in
      let x = sym (moved_is left first made.1 hl made.4) in
      let y = sym (moved_is right second made.2 hr made.5) in
      ap term_tree made.6 ∙ term_eq made.0 made.1 made.2 ∙ (λ j. t_eq (mono_tree (m j)) (term_tree (x j)) (term_tree (y j)))
      ∙ itself (t_eq (mono_tree mono) (term_tree left) (term_tree right)) stays

  pub sel_parts : (mono : Mono) (given : Result Mono E) (test left right : Term) (first second third result : Result Term E)
      → given ≡ Ok mono
      → IfOk first (λ b. (let one : Result Term E = Ok test in one) ≡ Ok b)
      → IfOk second (λ b. (let one : Result Term E = Ok left in one) ≡ Ok b)
      → IfOk third (λ b. (let one : Result Term E = Ok right in one) ≡ Ok b)
      → IfOk result (λ t. (m : Mono) × (x : Term) × (y : Term) × (z : Term)
      × (given ≡ Ok m) × (first ≡ Ok x) × (second ≡ Ok y) × (third ≡ Ok z) × (t ≡ vterm.Sel m x y z))
      → contractum (t_sel (mono_tree mono) (term_tree test) (term_tree left) (term_tree right)) ≡ None
      → IfOk result (λ t. term_tree t ≡ folding (t_sel (mono_tree mono) (term_tree test) (term_tree left) (term_tree right)))
  sel_parts mono given test left right first second third (Err e) is ht hy hn made stays = made
  sel_parts mono given test left right first second third (Ok t) is ht hy hn made stays =
      let m = ok_is made.0 mono (sym made.4 ∙ is) in
      let x = sym (moved_is test first made.1 ht made.5) in
      let y = sym (moved_is left second made.2 hy made.6) in
      let z = sym (moved_is right third made.3 hn made.7) in
      ap term_tree made.8 ∙ term_sel made.0 made.1 made.2 made.3
      ∙ (λ j. t_sel (mono_tree (m j)) (term_tree (x j)) (term_tree (y j)) (term_tree (z j)))
      ∙ itself (t_sel (mono_tree mono) (term_tree test) (term_tree left) (term_tree right)) stays
