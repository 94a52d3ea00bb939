-- Where in a list that has the innermost one last a variable finds what is put for it.
use Rattle.std.proofs.Common.{◌≡◌, ℕ, zero, suc, ◌+◌, ◌-◌, ◌^◌, ◌<◌, ◌≤◌, inl, inr, List, [], ◌∷◌, ◌++◌, length, map, get_or, refl, sym, ap, ◌∙◌, arith, subst}
use Rattle.std.proofs.Common.{Option, Some, None, slice_get}
use Rattle.std.specs.Prelude.{reverse, option_map, option_and_then, Result, IfOk}
use Rattle.std.proofs.lemmas.Option.{slice_get-get_or, slice_get_past, get_or_from_slice_get, slice_get-map}
use Rattle.std.proofs.lemmas.List.{get_or-reverse, length-reverse, length-map, map-append, reverse-append}
use Rattle.theory_saturation.specs.Saturation.{saturated}
use Rattle.theory_renaming.specs.Renaming.{lifts, shifting}
use Rattle.theory_text_sugar.specs.Putting as putting
use Rattle.htt_syntax.specs.declared.mono.Mono.{Mono}
use Rattle.htt_syntax.specs.declared.tree.Term.{Term}
use Rattle.htt_syntax.specs.Views.{mono_tree, term_tree}
use Rattle.theory_text_sugar.specs.Putting.{from_outside, put_for, mono_for, term_for, heap_for}
use Rattle.htt_resolve_sugar.specs.declared.puts.Put.{Put}
use Rattle.htt_resolve_sugar.specs.declared.measure.PutSize.{PutSize}
use Rattle.htt_resolve_sugar.specs.Views.{put_tree, puts_tree, put_size, Measures, IsMeasured, IsPlace}

outside_at : (d n m : ℕ) → n ≡ d + m → from_outside d n ≡ Some m
unfolding from_outside
outside_at zero n m e = ap Some (let same : n ≡ m = omega (arith, e) in same)
outside_at (suc d) zero m e = absurd (omega (arith, e))
outside_at (suc d) (suc n) m e = outside_at d n m (omega (arith, e))

inside_at : (d n : ℕ) → n < d → from_outside d n ≡ None
unfolding from_outside
inside_at zero n h = absurd (omega (arith, h))
inside_at (suc d) zero h = refl
inside_at (suc d) (suc n) h = inside_at d n (omega (arith, h))

-- a list turned round
turned : {X : Type 0} (xs : List X) (k m : ℕ) (x : X) → slice_get xs k ≡ Some x → suc (k + m) ≡ length xs → slice_get (reverse xs) m ≡ Some x
turned xs k m x at count =
    let below : m < length xs = omega (arith, count) in
    let place : length xs - 1 - m ≡ k = omega (arith, count) in
    slice_get-get_or (reverse xs) m x (subst (λ n. m < n) (sym (length-reverse xs)) below)
    ∙ ap Some (get_or-reverse xs m x below ∙ ap (λ i. get_or xs i x) place ∙ get_or_from_slice_get xs k x x at)

past_turned : {X : Type 0} (xs : List X) (m : ℕ) → length xs ≤ m → slice_get (reverse xs) m ≡ None
past_turned xs m h = slice_get_past (reverse xs) m (subst (λ n. n ≤ m) (sym (length-reverse xs)) h)

module _ (xs : List putting.Put) (index depth : ℕ) where
  found : (m : ℕ) (x : putting.Put) → index ≡ depth + m → slice_get xs m ≡ Some x → put_for xs depth index ≡ Some x
  found m x e at = ap (option_and_then (slice_get xs)) (outside_at depth index m e) ∙ at

  found_none : (m : ℕ) → index ≡ depth + m → slice_get xs m ≡ None → put_for xs depth index ≡ None
  found_none m e at = ap (option_and_then (slice_get xs)) (outside_at depth index m e) ∙ at

  own : index < depth → put_for xs depth index ≡ None
  own h = ap (option_and_then (slice_get xs)) (inside_at depth index h)

put_there : (all : List Put) (index depth place : ℕ) (x : Put)
    → IsPlace (length all) index depth (Some place)
    → slice_get all place ≡ Some x
    → put_for (puts_tree all) depth index ≡ Some (put_tree x)
unfolding puts_tree
put_there all index depth place x (below, is) at =
    let out : index ≡ depth + (index - depth) = omega (arith, below) in
    let count : suc (place + (index - depth)) ≡ length (map put_tree all) =
    (let n : suc (place + (index - depth)) ≡ length all = omega (arith, below, is) in n ∙ sym (length-map all put_tree)) in
    found (reverse (map put_tree all)) index depth (index - depth) (put_tree x) out
    (turned (map put_tree all) place (index - depth) (put_tree x) (slice_get-map put_tree all place ∙ ap (option_map put_tree) at) count)

put_none : (all : List Put) (index depth : ℕ)
    → IsPlace (length all) index depth None
    → put_for (puts_tree all) depth index ≡ None
unfolding puts_tree
put_none all index depth (inl h) = own (reverse (map put_tree all)) index depth h
put_none all index depth (inr h) =
    let out : index ≡ depth + (index - depth) = omega (arith, h) in
    let past : length (map put_tree all) ≤ index - depth = subst (λ n. n ≤ index - depth) (sym (length-map all put_tree)) (omega (arith, h)) in
    found_none (reverse (map put_tree all)) index depth (index - depth) out (past_turned (map put_tree all) (index - depth) past)

pub put_read : (all : List Put) (index depth place : ℕ) (other : Put)
    → IsPlace (length all) index depth (Some place)
    → Some (put_tree (get_or all place other)) ≡ put_for (puts_tree all) depth index
put_read all index depth place other (below, is) =
    let inside : place < length all = omega (arith, below, is) in
    sym (put_there all index depth place (get_or all place other) (below, is) (slice_get-get_or all place other inside))

pub put_missing : (all : List Put) (index depth : ℕ)
    → IsPlace (length all) index depth None
    → None ≡ put_for (puts_tree all) depth index
put_missing all index depth h = sym (put_none all index depth h)

pub ruleset puts = (put_read, put_missing)

pub put_more : (all more : List Put) (x : Put) → more ≡ all ++ x ∷ [] → puts_tree more ≡ put_tree x ∷ puts_tree all
unfolding puts_tree
put_more all more x is =
    ap (λ xs. reverse (map put_tree xs)) is
    ∙ ap reverse (map-append put_tree all (x ∷ []))
    ∙ reverse-append (map put_tree all) (put_tree x ∷ [])

pub heap_past : (depth heap past : ℕ) → past ≡ heap + depth → past ≡ shifting 0 depth heap
unfolding lifts
heap_past depth heap past h = h

-- what stands there for what is put, when it is found
pub term_found : {E : Type 0} (d n : ℕ) (found put : Option putting.Put) (r : Result Term E)
    → found ≡ put
    → IfOk r (λ t. term_tree t ≡ term_for d n found)
    → IfOk r (λ t. term_tree t ≡ term_for d n put)
term_found d n found put r is h = subst (λ x. IfOk r (λ t. term_tree t ≡ term_for d n x)) is h

pub mono_found : {E : Type 0} (d n : ℕ) (found put : Option putting.Put) (r : Result Mono E)
    → found ≡ put
    → IfOk r (λ t. mono_tree t ≡ mono_for d n found)
    → IfOk r (λ t. mono_tree t ≡ mono_for d n put)
mono_found d n found put r is h = subst (λ x. IfOk r (λ t. mono_tree t ≡ mono_for d n x)) is h

pub heap_found : {E : Type 0} (d n : ℕ) (found put : Option putting.Put) (r : Result ℕ E)
    → found ≡ put
    → IfOk r (λ h. h ≡ heap_for d n found)
    → IfOk r (λ h. h ≡ heap_for d n put)
heap_found d n found put r is h = subst (λ x. IfOk r (λ k. k ≡ heap_for d n x)) is h

-- ---- sizes

size_at : (all : List PutSize) (put : List putting.Put) (m : ℕ) (z : Option PutSize)
    → Measures all put
    → slice_get (reverse all) m ≡ z
    → option_map put_size (slice_get put m) ≡ z
unfolding Measures
size_at all put m z h at = sym (slice_get-map put_size put m) ∙ ap (λ xs. slice_get xs m) h ∙ at

size_there : (all : List PutSize) (index depth place : ℕ) (z : PutSize)
    → index < 2 ^ 32
    → IsPlace (length all) index depth (Some place)
    → slice_get all place ≡ Some z
    → (put : List putting.Put) (d : ℕ)
    → Measures all put
    → depth ≡ saturated d
    → IsMeasured (Some z) (put_for put d index)
size_there all index depth place z small (below, is) at put d h deep =
    let out : index ≡ d + (index - d) = omega (arith, small, below, deep) in
    let count : suc (place + (index - d)) ≡ length all = omega (arith, small, below, is, deep) in
    ap (λ o. option_map put_size (option_and_then (slice_get put) o)) (outside_at d index (index - d) out)
    ∙ size_at all put (index - d) (Some z) h (turned all place (index - d) z at count)

pub size_read : (all : List PutSize) (index depth place : ℕ) (other : PutSize)
    → index < 2 ^ 32
    → IsPlace (length all) index depth (Some place)
    → (put : List putting.Put) (d : ℕ)
    → Measures all put
    → depth ≡ saturated d
    → IsMeasured (Some (get_or all place other)) (put_for put d index)
size_read all index depth place other small (below, is) put d h deep =
    let inside : place < length all = omega (arith, below, is) in
    size_there all index depth place (get_or all place other) small (below, is) (slice_get-get_or all place other inside) put d h deep

pub size_missing : (all : List PutSize) (index depth : ℕ)
    → index < 2 ^ 32
    → IsPlace (length all) index depth None
    → (put : List putting.Put) (d : ℕ)
    → Measures all put
    → depth ≡ saturated d
    → IsMeasured None (put_for put d index)
size_missing all index depth small (inl within) put d h deep =
    let inner : index < d = omega (arith, small, within, deep) in
    ap (option_map put_size) (own put index d inner)
size_missing all index depth small (inr past) put d h deep =
    let out : index ≡ d + (index - d) = omega (arith, small, past, deep) in
    let beyond : length all ≤ index - d = omega (arith, small, past, deep) in
    ap (λ o. option_map put_size (option_and_then (slice_get put) o)) (outside_at d index (index - d) out)
    ∙ size_at all put (index - d) None h (past_turned all (index - d) beyond)

pub ruleset sizes = (size_read, size_missing)
