-- What lists measure, member by member from the first on.
use Rattle.std.proofs.Common.{ℕ, ◌+◌, ◌≡◌, ◌≤◌, ◌<◌, ◌^◌, sym, List, ◌∷◌, length, get_or, drop, ap, ◌∙◌, arith}
use Rattle.std.proofs.lemmas.List.{drop_all, drop_more}
use Rattle.std.specs.Prelude.{max}
use Rattle.theory_saturation.specs.Saturation.{saturated}
use Rattle.htt_syntax.specs.Trees.{TermTree, FixTree}
use Rattle.htt_syntax.specs.Views.{term_tree, ty_tree, step_tree}
use Rattle.htt_syntax.specs.Levels.{term_trees, params_tree, steps_tree}
use Rattle.htt_syntax.specs.declared.tree.Term.{Term}
use Rattle.htt_syntax.specs.declared.tree.Ty.{Ty}
use Rattle.htt_syntax.specs.declared.tree.Step.{Step}
use Rattle.htt_syntax_walk.specs.Walk.{Puts, walk_term, walk_terms, walk_ty, walk_fix, walk_step, walk_comp}
use Rattle.htt_syntax_measure.specs.declared.size.Size.{Size}
use Rattle.htt_syntax_measure.specs.Measures.{told, nothing, beside, counted, term_measure, terms_measure, ty_measure}
use Rattle.htt_syntax_measure.specs.Measures.{step_measure, fix_measure, comp_measure}
use Rattle.htt_syntax_measure.proofs.MeasureLevels.{no_terms_measure, more_terms_measure, param_measure, bound_measure}
use Rattle.htt_syntax_measure.proofs.MeasureLevels.{ret_measure}

-- ---- trees side by side

assoc : (a b c : Size) → beside a (beside b c) ≡ beside (beside a b) c
unfolding beside
assoc a b c =
    let nodes : saturated (a.nodes + saturated (b.nodes + c.nodes)) ≡ saturated (saturated (a.nodes + b.nodes) + c.nodes) =
    omega arith in
    let depth : max a.depth (max b.depth c.depth) ≡ max (max a.depth b.depth) c.depth = omega arith in
    λ j. record { nodes = nodes j; depth = depth j }

beside_none : (n d : ℕ) → told n d ≡ beside nothing (told n d)
unfolding told beside nothing
beside_none n d =
    let nodes : saturated n ≡ saturated (0 + saturated n) = omega arith in
    let depth : saturated d ≡ max 0 (saturated d) = omega arith in
    λ j. record { nodes = nodes j; depth = depth j }

none_beside : (a : Size) → a.nodes < 2 ^ 64 → beside a nothing ≡ a
unfolding beside nothing
none_beside a few =
    let nodes : saturated (a.nodes + 0) ≡ a.nodes = omega (arith, few) in
    let depth : max a.depth 0 ≡ a.depth = omega arith in
    λ j. record { nodes = nodes j; depth = depth j }

pub few_nothing : (z : Size) → z ≡ nothing → z.nodes < 2 ^ 64
unfolding nothing
few_nothing z none = rw none (omega arith)

pub few_beside : (a b z : Size) → z ≡ beside a b → z.nodes < 2 ^ 64
unfolding beside
few_beside a b z is = rw is (omega arith)

drop_read : {X : Type 0} (xs : List X) (i : ℕ) (x : X) → i < length xs → x ≡ get_or xs i x → drop i xs ≡ x ∷ drop (i + 1) xs
drop_read xs i x below is = drop_more xs i x below ∙ ap (λ y. y ∷ drop (i + 1) xs) (sym is)

-- ---- terms

pub terms_start : (p : Puts) (d : ℕ) (xs : List Term) (z : Size) → z ≡ nothing
    → terms_measure (walk_terms p d (term_trees xs)) ≡ beside z (terms_measure (walk_terms p d (term_trees xs)))
unfolding terms_measure
terms_start p d xs z none = rw none (beside_none _ _)

pub terms_next : (p : Puts) (d i : ℕ) (xs : List Term) (x : Term) (total first more : Size)
    → i < length xs
    → x ≡ get_or xs i x
    → first ≡ term_measure (walk_term p d (term_tree x))
    → more ≡ beside total first
    → beside total (terms_measure (walk_terms p d (term_trees (drop i xs))))
    ≡ beside more (terms_measure (walk_terms p d (term_trees (drop (i + 1) xs))))
unfolding walk_term
terms_next p d i xs x total first more below at is grown =
    let rest : Size = terms_measure (walk_terms p d (term_trees (drop (i + 1) xs))) in
    ap (λ ts. beside total (terms_measure (walk_terms p d (term_trees ts)))) (drop_read xs i x below at)
    ∙ ap (beside total) (more_terms_measure (walk_term p d (term_tree x)) (walk_terms p d (term_trees (drop (i + 1) xs))))
    ∙ ap (λ a. beside total (beside a rest)) (sym is)
    ∙ assoc total first rest
    ∙ ap (λ a. beside a rest) (sym grown)

pub terms_end : (p : Puts) (d i : ℕ) (xs : List Term) (total : Size)
    → length xs ≤ i
    → total.nodes < 2 ^ 64
    → beside total (terms_measure (walk_terms p d (term_trees (drop i xs)))) ≡ total
unfolding walk_term
terms_end p d i xs total all few =
    ap (λ ts. beside total (terms_measure (walk_terms p d (term_trees ts)))) (drop_all i xs all)
    ∙ ap (beside total) no_terms_measure
    ∙ none_beside total few

-- ---- parameters

pub params_start : (p : Puts) (d : ℕ) (xs : List Ty) (rest : FixTree) (z : Size) → z ≡ nothing
    → fix_measure (walk_fix p d (params_tree xs rest)) ≡ beside z (fix_measure (walk_fix p (d + 0) (params_tree xs rest)))
unfolding fix_measure
params_start p d xs rest z none =
    let deep : d ≡ d + 0 = omega arith in
    rw none (beside_none _ _ ∙ ap (λ n. beside nothing (fix_measure (walk_fix p n (params_tree xs rest)))) deep)

pub params_next : (p : Puts) (d i : ℕ) (xs : List Ty) (x : Ty) (rest : FixTree) (total first more : Size)
    → i < length xs
    → x ≡ get_or xs i x
    → first ≡ ty_measure (walk_ty p (d + i) (ty_tree x))
    → more ≡ beside total first
    → beside total (fix_measure (walk_fix p (d + i) (params_tree (drop i xs) rest)))
    ≡ beside more (fix_measure (walk_fix p (d + (i + 1)) (params_tree (drop (i + 1) xs) rest)))
unfolding walk_term
params_next p d i xs x rest total first more below at is grown =
    let others : ℕ → Size = λ n. fix_measure (walk_fix p n (params_tree (drop (i + 1) xs) rest)) in
    let deep : (d + i) + 1 ≡ d + (i + 1) = omega arith in
    ap (λ ts. beside total (fix_measure (walk_fix p (d + i) (params_tree ts rest)))) (drop_read xs i x below at)
    ∙ ap (beside total) (param_measure (walk_ty p (d + i) (ty_tree x))
    (walk_fix p ((d + i) + 1) (params_tree (drop (i + 1) xs) rest)))
    ∙ ap (λ a. beside total (beside a (others ((d + i) + 1)))) (sym is)
    ∙ assoc total first (others ((d + i) + 1))
    ∙ ap (λ a. beside a (others ((d + i) + 1))) (sym grown)
    ∙ ap (λ n. beside more (others n)) deep

pub params_end : (p : Puts) (d i : ℕ) (xs : List Ty) (rest : FixTree) (total : Size)
    → length xs ≤ i
    → i ≤ length xs
    → beside total (fix_measure (walk_fix p (d + i) (params_tree (drop i xs) rest)))
    ≡ beside total (fix_measure (walk_fix p (d + length xs) rest))
params_end p d i xs rest total all within =
    let under : d + i ≡ d + length xs = omega (arith, all, within) in
    ap (λ ts. beside total (fix_measure (walk_fix p (d + i) (params_tree ts rest)))) (drop_all i xs all)
    ∙ ap (λ n. beside total (fix_measure (walk_fix p n rest))) under

-- ---- steps

pub steps_start : (p : Puts) (d : ℕ) (xs : List Step) (result : TermTree) (z : Size) → z ≡ nothing
    → comp_measure (walk_comp p d (steps_tree xs result))
    ≡ beside z (comp_measure (walk_comp p (d + 0) (steps_tree xs result)))
unfolding comp_measure
steps_start p d xs result z none =
    let deep : d ≡ d + 0 = omega arith in
    rw none (beside_none _ _ ∙ ap (λ n. beside nothing (comp_measure (walk_comp p n (steps_tree xs result)))) deep)

pub steps_next : (p : Puts) (d i : ℕ) (xs : List Step) (x : Step) (result : TermTree) (total first more : Size)
    → i < length xs
    → x ≡ get_or xs i x
    → first ≡ step_measure (walk_step p (d + i) (step_tree x))
    → more ≡ beside total first
    → beside total (comp_measure (walk_comp p (d + i) (steps_tree (drop i xs) result)))
    ≡ beside more (comp_measure (walk_comp p (d + (i + 1)) (steps_tree (drop (i + 1) xs) result)))
unfolding walk_term
steps_next p d i xs x result total first more below at is grown =
    let others : ℕ → Size = λ n. comp_measure (walk_comp p n (steps_tree (drop (i + 1) xs) result)) in
    let deep : (d + i) + 1 ≡ d + (i + 1) = omega arith in
    ap (λ ts. beside total (comp_measure (walk_comp p (d + i) (steps_tree ts result)))) (drop_read xs i x below at)
    ∙ ap (beside total) (bound_measure (walk_step p (d + i) (step_tree x))
    (walk_comp p ((d + i) + 1) (steps_tree (drop (i + 1) xs) result)))
    ∙ ap (λ a. beside total (beside a (others ((d + i) + 1)))) (sym is)
    ∙ assoc total first (others ((d + i) + 1))
    ∙ ap (λ a. beside a (others ((d + i) + 1))) (sym grown)
    ∙ ap (λ n. beside more (others n)) deep

pub steps_end : (p : Puts) (d i : ℕ) (xs : List Step) (result : TermTree) (total : Size)
    → length xs ≤ i
    → i ≤ length xs
    → beside total (comp_measure (walk_comp p (d + i) (steps_tree (drop i xs) result)))
    ≡ beside total (counted (term_measure (walk_term p (d + length xs) result)))
unfolding walk_term
steps_end p d i xs result total all within =
    let under : d + i ≡ d + length xs = omega (arith, all, within) in
    ap (λ ts. beside total (comp_measure (walk_comp p (d + i) (steps_tree ts result)))) (drop_all i xs all)
    ∙ ap (beside total) (ret_measure (walk_term p (d + i) result))
    ∙ ap (λ n. beside total (counted (term_measure (walk_term p n result)))) under
