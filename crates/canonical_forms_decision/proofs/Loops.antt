-- Lists of parts, each of which is looked at in turn.
use Rattle.std.proofs.Common.{◌≡◌, ℕ, zero, suc, ◌+◌, ◌-◌, ◌<◌, ◌≤◌, List, [], ◌∷◌, length, get_or, drop, Bool, true, false, ◌&&◌, refl, sym, ap, ◌∙◌, subst, arith}
use Rattle.std.proofs.lemmas.List.{drop_all, drop_more}
use Rattle.htt_syntax.specs.Trees.{TermTree, TripleTree, CompTree, FixTree, x_body}
use Rattle.htt_syntax.specs.Views.{term_tree, ty_tree, step_tree}
use Rattle.htt_syntax.specs.Levels.{term_trees, params_tree, steps_tree}
use Rattle.htt_syntax.specs.declared.tree.Term.{Term}
use Rattle.htt_syntax.specs.declared.tree.Ty.{Ty}
use Rattle.htt_syntax.specs.declared.tree.Step.{Step}
use Rattle.theory_canonical.specs.Skeletons.{Skeleton, sk_o, sk_c, sk_arrow, skeleton}
use Rattle.theory_canonical.specs.Contexts.{Standing, as_term, Heads}
use Rattle.theory_denotation.specs.Denotation.{fix_skeleton}
use Rattle.theory_canonical_decided.specs.Decision.{term_is_canonical, terms_are_canonical, ty_is_canonical, fix_is_canonical, step_is_canonical}
use Rattle.theory_canonical_decided.specs.Decision.{comp_is_canonical, triple_is_canonical}

assoc : (a b c : Bool) → (a && (b && c)) ≡ ((a && b) && c)
assoc true b c = refl
assoc false b c = refl

and_true : (a : Bool) → (a && true) ≡ a
and_true true = refl
and_true false = refl

pub drop_read : {X : Type 0} (xs : List X) (i : ℕ) (x : X) → i < length xs → x ≡ get_or xs i x → drop i xs ≡ x ∷ drop (i + 1) xs
drop_read xs i x below is = drop_more xs i x below ∙ ap (λ y. y ∷ drop (i + 1) xs) (sym is)

-- `ys` is what the code reads of `xs`
drop_there : {X : Type 0} (ys xs : List X) (i : ℕ) (x : X) → ys ≡ xs → i < length ys → x ≡ get_or ys i x → drop i xs ≡ x ∷ drop (i + 1) xs
drop_there ys xs i x same below is = subst (λ zs. drop i zs ≡ x ∷ drop (i + 1) zs) same (drop_read ys i x below is)

module _ (h : Heads) where
  pub terms_next : (g : List Standing) (i : ℕ) (xs : List Term) (x : Term) (all this new : Bool)
      → i < length xs
      → x ≡ get_or xs i x
      → this ≡ term_is_canonical h g (term_tree x) sk_o
      → new ≡ (all && this)
      → (all && terms_are_canonical h g (term_trees (drop i xs))) ≡ (new && terms_are_canonical h g (term_trees (drop (i + 1) xs)))
  unfolding term_is_canonical
  terms_next g i xs x all this new below at is more =
      let rest : Bool = terms_are_canonical h g (term_trees (drop (i + 1) xs)) in
      ap (λ ts. all && terms_are_canonical h g (term_trees ts)) (drop_read xs i x below at)
      ∙ ap (λ t. all && (t && rest)) (sym is)
      ∙ assoc all this rest
      ∙ ap (λ t. t && rest) (sym more)

  pub terms_end : (g : List Standing) (i : ℕ) (xs : List Term) (all : Bool)
      → length xs ≤ i
      → (all && terms_are_canonical h g (term_trees (drop i xs))) ≡ all
  unfolding term_is_canonical
  terms_end g i xs all past = ap (λ ts. all && terms_are_canonical h g (term_trees ts)) (drop_all i xs past) ∙ and_true all

  pub steps_next : (k : Heads) (g inner : List Standing) (i : ℕ) (ys xs : List Step) (x : Step) (result : TermTree) (all this new : Bool)
      → ys ≡ xs
      → k ≡ h
      → i < length ys
      → x ≡ get_or ys i x
      → this ≡ step_is_canonical k g (step_tree x)
      → new ≡ (all && this)
      → inner ≡ as_term sk_o ∷ g
      → (all && comp_is_canonical h g (steps_tree (drop i xs) result)) ≡ (new && comp_is_canonical h inner (steps_tree (drop (i + 1) xs) result))
  unfolding term_is_canonical
  steps_next k g inner i ys xs x result all this new read same below at is more under =
      let rest : List Standing → Bool = λ l. comp_is_canonical h l (steps_tree (drop (i + 1) xs) result) in
      ap (λ ts. all && comp_is_canonical h g (steps_tree ts result)) (drop_there ys xs i x read below at)
      ∙ ap (λ t. all && (t && rest (as_term sk_o ∷ g))) (ap (λ l. step_is_canonical l g (step_tree x)) (sym same) ∙ sym is)
      ∙ assoc all this (rest (as_term sk_o ∷ g))
      ∙ ap (λ t. t && rest (as_term sk_o ∷ g)) (sym more)
      ∙ ap (λ l. new && rest l) (sym under)

  pub steps_end : (k : Heads) (g : List Standing) (i : ℕ) (ys xs : List Step) (result : TermTree) (all last new : Bool)
      → ys ≡ xs
      → k ≡ h
      → length ys ≤ i
      → last ≡ term_is_canonical k g result sk_o
      → new ≡ (all && last)
      → (all && comp_is_canonical h g (steps_tree (drop i xs) result)) ≡ new
  unfolding term_is_canonical
  steps_end k g i ys xs result all last new read same past is more =
      ap (λ ts. all && comp_is_canonical h g (steps_tree ts result)) (subst (λ zs. drop i zs ≡ []) read (drop_all i ys past))
      ∙ ap (λ t. all && t) (ap (λ l. term_is_canonical l g result sk_o) (sym same) ∙ sym is)
      ∙ sym more

  pub params_next : (k : Heads) (g inner : List Standing) (w argument : Skeleton) (i : ℕ) (ys xs : List Ty) (x : Ty) (rest : FixTree) (all this new : Bool)
      → ys ≡ xs
      → k ≡ h
      → i < length ys
      → x ≡ get_or ys i x
      → this ≡ ty_is_canonical k g (ty_tree x)
      → new ≡ (all && this)
      → argument ≡ skeleton (ty_tree x)
      → inner ≡ as_term argument ∷ g
      → (all && fix_is_canonical h g w (params_tree (drop i xs) rest)) ≡ (new && fix_is_canonical h inner w (params_tree (drop (i + 1) xs) rest))
  unfolding term_is_canonical
  params_next k g inner w argument i ys xs x rest all this new read same below at is more from under =
      let others : List Standing → Bool = λ l. fix_is_canonical h l w (params_tree (drop (i + 1) xs) rest) in
      let here : List Standing = as_term (skeleton (ty_tree x)) ∷ g in
      ap (λ ts. all && fix_is_canonical h g w (params_tree ts rest)) (drop_there ys xs i x read below at)
      ∙ ap (λ t. all && (t && others here)) (ap (λ l. ty_is_canonical l g (ty_tree x)) (sym same) ∙ sym is)
      ∙ assoc all this (others here)
      ∙ ap (λ t. t && others here) (sym more)
      ∙ ap (λ l. new && others l) (sym (under ∙ ap (λ s. as_term s ∷ g) from))

  pub params_end : (k l : Heads) (g under : List Standing) (w : Skeleton) (i : ℕ) (ys xs : List Ty) (spec : TripleTree) (comp : CompTree) (all one other both new : Bool)
      → ys ≡ xs
      → k ≡ h
      → l ≡ h
      → length ys ≤ i
      → one ≡ triple_is_canonical k g spec
      → other ≡ comp_is_canonical l under comp
      → under ≡ as_term w ∷ g
      → both ≡ (one && other)
      → new ≡ (all && both)
      → (all && fix_is_canonical h g w (params_tree (drop i xs) (x_body spec comp))) ≡ new
  unfolding term_is_canonical
  params_end k l g under w i ys xs spec comp all one other both new read same too past is are below more most =
      ap (λ ts. all && fix_is_canonical h g w (params_tree ts (x_body spec comp))) (subst (λ zs. drop i zs ≡ []) read (drop_all i ys past))
      ∙ ap (λ t. all && (t && comp_is_canonical h (as_term w ∷ g) comp)) (ap (λ m. triple_is_canonical m g spec) (sym same) ∙ sym is)
      ∙ ap (λ t. all && (one && t))
      (ap (λ m. comp_is_canonical m (as_term w ∷ g) comp) (sym too) ∙ ap (λ m. comp_is_canonical l m comp) (sym below) ∙ sym are)
      ∙ ap (λ t. all && t) (sym more)
      ∙ sym most

-- The skeleton from a parameter on is the arrow from that parameter's.
pub skeleton_read : (i : ℕ) (ys xs : List Ty) (x : Ty) (rest : FixTree)
    → ys ≡ xs
    → i < length ys
    → x ≡ get_or ys i x
    → fix_skeleton (params_tree (drop i xs) rest) ≡ sk_arrow (skeleton (ty_tree x)) (fix_skeleton (params_tree (drop (i + 1) xs) rest))
unfolding fix_skeleton
skeleton_read i ys xs x rest read below at = ap (λ ts. fix_skeleton (params_tree ts rest)) (drop_there ys xs i x read below at)

pub skeleton_end : (i : ℕ) (ys xs : List Ty) (spec : TripleTree) (comp : CompTree)
    → ys ≡ xs
    → length ys ≤ i
    → fix_skeleton (params_tree (drop i xs) (x_body spec comp)) ≡ sk_c
unfolding fix_skeleton
skeleton_end i ys xs spec comp read past =
    ap (λ ts. fix_skeleton (params_tree ts (x_body spec comp))) (subst (λ zs. drop i zs ≡ []) read (drop_all i ys past))

pub skeleton_before : (left : ℕ) (ys xs : List Ty) (x : Ty) (rest : FixTree) (new old : Skeleton)
    → ys ≡ xs
    → 0 < left
    → left ≤ length xs
    → x ≡ get_or ys (left - 1) x
    → new ≡ sk_arrow (skeleton (ty_tree x)) old
    → old ≡ fix_skeleton (params_tree (drop left xs) rest)
    → (new ≡ fix_skeleton (params_tree (drop (left - 1) xs) rest)) × (left - 1 ≤ length xs)
skeleton_before left ys xs x rest new old read some fits at is have =
    let one : left - 1 + 1 ≡ left = omega (arith, some) in (
      is
          ∙ ap (sk_arrow (skeleton (ty_tree x))) (have ∙ ap (λ n. fix_skeleton (params_tree (drop n xs) rest)) (sym one))
          ∙ sym (skeleton_read (left - 1) ys xs x rest read (subst (λ zs. left - 1 < length zs) (sym read) (omega (arith, some, fits))) at),
      omega (arith, fits),
    )

arrow_argument : Skeleton → Skeleton
arrow_argument (sk_arrow s t) = s
arrow_argument _ = sk_o

arrow_answer : Skeleton → Skeleton
arrow_answer (sk_arrow s t) = t
arrow_answer _ = sk_o

pub argument_told : {a b s t : Skeleton} → sk_arrow a b ≡ sk_arrow s t → a ≡ s
unfolding arrow_argument
argument_told e = ap arrow_argument e

pub answer_told : {a b s t : Skeleton} → sk_arrow a b ≡ sk_arrow s t → b ≡ t
unfolding arrow_answer
answer_told e = ap arrow_answer e

pub whole_skeleton : (left : ℕ) (xs : List Ty) (rest : FixTree) (s : Skeleton)
    → left ≤ 0
    → s ≡ fix_skeleton (params_tree (drop left xs) rest)
    → s ≡ fix_skeleton (params_tree xs rest)
whole_skeleton zero xs rest s none have = have
whole_skeleton (suc left) xs rest s none have = absurd (omega (arith, none))
