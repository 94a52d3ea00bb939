-- Contexts of the code, entry by entry.
use Rattle.std.proofs.Common.{◌≡◌, ℕ, ◌-◌, ◌<◌, ◌≤◌, List, [], ◌∷◌, ◌++◌, length, map, reverse, take, get_or, slice_get, Bool, true, false, Some, None}
use Rattle.std.proofs.Common.{refl, sym, ap, ◌∙◌, subst, arith}
use Rattle.std.proofs.lemmas.List.{map-append, reverse-append, length-map, length-reverse, get_or-map, get_or-reverse, take_all}
use Rattle.std.proofs.lemmas.Option.{slice_get-get_or, slice_get_past}
use Rattle.theory_canonical.specs.Contexts.{standing_of}
use Rattle.theory_canonical_decided.specs.Standings.{told_if}
use Rattle.canonical_forms_skeletons.specs.declared.skeleton.Skeleton.{Skeleton}
use Rattle.canonical_forms_skeletons.specs.Views.{skeleton_tree}
use Rattle.canonical_forms_decision.specs.declared.context.Entry.{Entry}
use Rattle.canonical_forms_decision.specs.Views.{standing, innermost_first, given_standings}

pub one_more : (es : List Entry) (e : Entry) → innermost_first (es ++ e ∷ []) ≡ standing e ∷ innermost_first es
unfolding innermost_first
one_more es e = ap reverse (map-append standing es (e ∷ [])) ∙ reverse-append (map standing es) (standing e ∷ [])

pub given : (es : List Entry) (i : ℕ) (xs : List Skeleton)
    → map standing es ≡ map (λ s. standing_of (skeleton_tree s)) (take i xs)
    → length xs ≤ i
    → innermost_first es ≡ given_standings xs
unfolding innermost_first
given es i xs h all =
    let whole : take i xs ≡ xs = take_all i xs all in
    ap reverse (subst (λ (ys : List Skeleton). map standing es ≡ map (λ s. standing_of (skeleton_tree s)) ys) whole h)

pub entry_there : (es : List Entry) (i k : ℕ) (x : Entry)
    → i < length es
    → k ≡ length es - 1 - i
    → x ≡ get_or es k x
    → slice_get (innermost_first es) i ≡ Some (standing x)
unfolding innermost_first
entry_there es i k x l at e =
    let n : length (map standing es) ≡ length es = length-map es standing in
    let m : length (reverse (map standing es)) ≡ length es = length-reverse (map standing es) ∙ n in
    slice_get-get_or (reverse (map standing es)) i (standing x) (omega (arith, l, m))
    ∙ ap Some
    (get_or-reverse (map standing es) i (standing x) (omega (arith, l, n))
    ∙ ap (λ c. get_or (map standing es) (c - 1 - i) (standing x)) n
    ∙ ap (λ c. get_or (map standing es) c (standing x)) (sym at)
    ∙ get_or-map standing es k x (standing x) (omega (arith, l, at))
    ∙ ap standing (sym e))

pub entry_past : (es : List Entry) (i : ℕ) → length es ≤ i → slice_get (innermost_first es) i ≡ None
unfolding innermost_first
entry_past es i l =
    let n : length (map standing es) ≡ length es = length-map es standing in
    let m : length (reverse (map standing es)) ≡ length es = length-reverse (map standing es) ∙ n in
    slice_get_past (reverse (map standing es)) i (omega (arith, l, m))

pub val_there : (vals : List Skeleton) (n : ℕ) (x : Skeleton)
    → n < length vals
    → x ≡ get_or vals n x
    → slice_get (map skeleton_tree vals) n ≡ Some (skeleton_tree x)
val_there vals n x l e =
    let m : length (map skeleton_tree vals) ≡ length vals = length-map vals skeleton_tree in
    slice_get-get_or (map skeleton_tree vals) n (skeleton_tree x) (omega (arith, l, m))
    ∙ ap Some (get_or-map skeleton_tree vals n x (skeleton_tree x) l ∙ ap skeleton_tree (sym e))

pub val_past : (vals : List Skeleton) (n : ℕ) → length vals ≤ n → slice_get (map skeleton_tree vals) n ≡ None
val_past vals n l =
    let m : length (map skeleton_tree vals) ≡ length vals = length-map vals skeleton_tree in
    slice_get_past (map skeleton_tree vals) n (omega (arith, l, m))

pub made_by_none : (holds : Bool) → told_if holds None ≡ None
made_by_none true = refl
made_by_none false = refl
