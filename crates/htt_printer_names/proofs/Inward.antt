-- Entries of the code, counted from the innermost one.
use Rattle.std.proofs.Common.{◌≡◌, ℕ, zero, suc, ◌+◌, ◌-◌, ◌<◌, ◌≤◌, List, [], ◌∷◌, ◌++◌, length, map, take, drop, get_or, refl, ap, ◌∙◌, arith, sym, append_assoc, length-drop}
use Rattle.std.proofs.lemmas.List.{map-append, reverse-append, take_more, length-reverse, length-map, get_or_default}
use Rattle.std.specs.Prelude.{Bool, true, false, Option, Some, None, reverse, slice_get, codes, decimal, ◌≢◌, if◌then◌else◌}
use Rattle.std.proofs.lemmas.Option.{slice_get_past}
use Rattle.theory_text_names.specs.Uses.{is_init, is_mem}
use Rattle.theory_printing.specs.Pieces.{bytes_of, name}
use Rattle.theory_text_names.specs.Scopes as scopes
use Rattle.theory_printing.specs.Names.{count_of, past, name_at, entry_of_sort, name_or_blank}
use Rattle.htt_resolve_scopes.specs.declared.local.Sort.{Sort}
use Rattle.htt_resolve_scopes.specs.declared.local.Sort.TheVariants as sorts
use mir.Val.{bool_byte}
use Rattle.htt_resolve_scopes.specs.Views.{sort_of}
use Rattle.htt_printer_names.specs.Views.{innermost_sorts, entry_at}

pub no_sorts : (entries : List Sort) → entries ≡ [] → innermost_sorts entries ≡ []
unfolding innermost_sorts
no_sorts entries none = ap (λ es. reverse (map sort_of es)) none

pub sorts_grow : (entries rest : List Sort) (sort : Sort) → entries ≡ rest ++ (sort ∷ []) → innermost_sorts entries ≡ sort_of sort ∷ innermost_sorts rest
unfolding innermost_sorts
sorts_grow entries rest sort is =
    ap (λ es. reverse (map sort_of es)) is
    ∙ ap reverse (map-append sort_of rest (sort ∷ []))
    ∙ reverse-append (map sort_of rest) (sort_of sort ∷ [])

pub sorts_length : (entries : List Sort) → length (innermost_sorts entries) ≡ length entries
unfolding innermost_sorts
sorts_length entries = length-reverse (map sort_of entries) ∙ length-map entries sort_of

-- ---- an entry by its index

split_at : (xs : List Sort) (p : ℕ) (d : Sort) → p < length xs → xs ≡ take p xs ++ (get_or xs p d ∷ drop (suc p) xs)
split_at [] p d below = grind arith
split_at (x ∷ xs) zero d below = refl
split_at (x ∷ xs) (suc p) d below = ap (λ ys. x ∷ ys) (split_at xs p d (omega (arith, below)))

sorts_split : (xs : List Sort) (p : ℕ) (x : Sort) → p < length xs → get_or xs p x ≡ x
    → innermost_sorts xs ≡ innermost_sorts (drop (suc p) xs) ++ (sort_of x ∷ innermost_sorts (take p xs))
unfolding innermost_sorts
sorts_split xs p x below there =
    ap (λ ys. reverse (map sort_of ys)) (split_at xs p x below)
    ∙ ap (λ y. reverse (map sort_of (take p xs ++ (y ∷ drop (suc p) xs)))) there
    ∙ ap reverse (map-append sort_of (take p xs) (x ∷ drop (suc p) xs))
    ∙ reverse-append (map sort_of (take p xs)) (sort_of x ∷ map sort_of (drop (suc p) xs))
    ∙ ap (λ ys. ys ++ reverse (map sort_of (take p xs))) (reverse-append (sort_of x ∷ []) (map sort_of (drop (suc p) xs)))
    ∙ append_assoc (reverse (map sort_of (drop (suc p) xs))) (sort_of x ∷ []) (reverse (map sort_of (take p xs)))

get_behind : {X : Type 0} (front back : List X) (x : X) → slice_get (front ++ x ∷ back) (length front) ≡ Some x
get_behind [] back x = refl
get_behind (y ∷ front) back x = get_behind front back x

take_front : {X : Type 0} (front back : List X) → take (length front) (front ++ back) ≡ front
take_front [] back = refl
take_front (y ∷ front) back = ap (λ ys. y ∷ ys) (take_front front back)

inside_length : (xs : List Sort) (p : ℕ) → length (innermost_sorts (drop (suc p) xs)) ≡ length xs - suc p
inside_length xs p = sorts_length (drop (suc p) xs) ∙ length-drop (suc p) xs

-- how an entry of this sort is spelled, by its position and the entries inside it
abbrev pub spelled : scopes.Sort → ℕ → List scopes.Sort → List ℕ
spelled scopes.the_init p inside = codes "init" ++ bytes_of (past (count_of is_init inside))
spelled scopes.the_mem p inside = codes "mem" ++ bytes_of (past (count_of is_mem inside))
spelled sort p inside = name_at sort p

spelled_there : (sort : scopes.Sort) (p index : ℕ) (entries inside : List scopes.Sort)
    → take index entries ≡ inside
    → length entries - suc index ≡ p
    → bytes_of (entry_of_sort (Some sort) index entries) ≡ spelled sort p inside
unfolding bytes_of entry_of_sort
spelled_there scopes.the_init p index entries inside is at = ap (λ ys. codes "init" ++ bytes_of (past (count_of is_init ys))) is
spelled_there scopes.the_mem p index entries inside is at = ap (λ ys. codes "mem" ++ bytes_of (past (count_of is_mem ys))) is
spelled_there scopes.a_mono p index entries inside is at = ap (name_at scopes.a_mono) at
spelled_there scopes.a_term p index entries inside is at = ap (name_at scopes.a_term) at
spelled_there scopes.a_heap p index entries inside is at = ap (name_at scopes.a_heap) at
spelled_there scopes.a_term_or_heap p index entries inside is at = ap (name_at scopes.a_term_or_heap) at
spelled_there scopes.a_hypothesis p index entries inside is at = ap (name_at scopes.a_hypothesis) at

pub entry_spelled : (xs : List Sort) (p : ℕ) (x : Sort) → p < length xs → get_or xs p x ≡ x
    → bytes_of (entry_at xs p) ≡ spelled (sort_of x) p (innermost_sorts (drop (p + 1) xs))
entry_spelled xs p x below there =
    let inside = innermost_sorts (drop (suc p) xs) in
    let outside = innermost_sorts (take p xs) in
    let is : innermost_sorts xs ≡ inside ++ (sort_of x ∷ outside) = sorts_split xs p x below there in
    let index : length xs - suc p ≡ length inside = sym (inside_length xs p) in
    let got : slice_get (innermost_sorts xs) (length xs - suc p) ≡ Some (sort_of x) =
    (λ j. slice_get (is j) (index j)) ∙ get_behind inside outside (sort_of x) in
    let taken : take (length xs - suc p) (innermost_sorts xs) ≡ inside =
    (λ j. take (index j) (is j)) ∙ take_front inside (sort_of x ∷ outside) in
    let one : suc p ≡ p + 1 = omega arith in
    let position : length (innermost_sorts xs) - suc (length xs - suc p) ≡ p =
    ap (λ n. n - suc (length xs - suc p)) (sorts_length xs) ∙ omega (arith, below) in
    ap (λ s. bytes_of (entry_of_sort s (length xs - suc p) (innermost_sorts xs))) got
    ∙ spelled_there (sort_of x) p (length xs - suc p) (innermost_sorts xs) inside taken position
    ∙ ap (λ n. spelled (sort_of x) p (innermost_sorts (drop n xs))) one

pub init_spelled : (xs : List Sort) (p : ℕ) (d : Sort) → p < length xs → get_or xs p d ≡ sorts.Init
    → bytes_of (entry_at xs p) ≡ codes "init" ++ bytes_of (past (count_of is_init (innermost_sorts (drop (p + 1) xs))))
init_spelled xs p d below is = entry_spelled xs p sorts.Init below (get_or_default xs p sorts.Init d below ∙ is)

pub mem_spelled : (xs : List Sort) (p : ℕ) (d : Sort) → p < length xs → get_or xs p d ≡ sorts.Mem
    → bytes_of (entry_at xs p) ≡ codes "mem" ++ bytes_of (past (count_of is_mem (innermost_sorts (drop (p + 1) xs))))
mem_spelled xs p d below is = entry_spelled xs p sorts.Mem below (get_or_default xs p sorts.Mem d below ∙ is)

named : (sort : Sort) (p : ℕ) (inside : List scopes.Sort) → (sort ≡ sorts.Init → ⊥) → (sort ≡ sorts.Mem → ⊥)
    → spelled (sort_of sort) p inside ≡ name_at (sort_of sort) p
named sorts.Mono p inside no_init no_mem = refl
named sorts.Term p inside no_init no_mem = refl
named sorts.Heap p inside no_init no_mem = refl
named sorts.TermOrHeap p inside no_init no_mem = refl
named sorts.Init p inside no_init no_mem = absurd (no_init refl)
named sorts.Mem p inside no_init no_mem = absurd (no_mem refl)
named sorts.Hypothesis p inside no_init no_mem = refl

pub named_spelled : (xs : List Sort) (p : ℕ) (d sort : Sort) → p < length xs → get_or xs p d ≡ sort
    → (get_or xs p d ≡ sorts.Init → ⊥)
    → (get_or xs p d ≡ sorts.Mem → ⊥)
    → bytes_of (entry_at xs p) ≡ name_at (sort_of sort) p
named_spelled xs p d sort below is no_init no_mem =
    entry_spelled xs p sort below (get_or_default xs p sort d below ∙ is)
    ∙ named sort p (innermost_sorts (drop (p + 1) xs)) (λ e. no_init (is ∙ e)) (λ e. no_mem (is ∙ e))

pub entry_inside : (xs : List Sort) (i p : ℕ) → i < length xs → p ≡ length xs - 1 - i
    → entry_at xs p ≡ entry_of_sort (slice_get (innermost_sorts xs) i) i (innermost_sorts xs)
entry_inside xs i p below is =
    let index : length xs - suc p ≡ i = omega (arith, below, is) in
    ap (λ n. entry_of_sort (slice_get (innermost_sorts xs) n) n (innermost_sorts xs)) index

pub entry_outside : (xs : List Sort) (i : ℕ) → length xs ≤ i
    → bytes_of (entry_of_sort (slice_get (innermost_sorts xs) i) i (innermost_sorts xs)) ≡ codes "_"
unfolding bytes_of entry_of_sort
entry_outside xs i past =
    let length_is = sorts_length xs in
    ap (λ s. bytes_of (entry_of_sort s i (innermost_sorts xs)))
    (slice_get_past (innermost_sorts xs) i (omega (arith, past, length_is)))

-- ---- counts

pub count_none : (is_kind : scopes.Sort → Bool) → 0 ≡ count_of is_kind (innermost_sorts [])
unfolding count_of innermost_sorts
count_none is_kind = refl

counted : (is_kind : scopes.Sort → Bool) (s : scopes.Sort) (ss : List scopes.Sort)
    → count_of is_kind (s ∷ ss) ≡ (if is_kind s then 1 else 0) + count_of is_kind ss
unfolding count_of
counted is_kind s ss = refl

pub count_grows : (is_kind : scopes.Sort → Bool) (xs : List Sort) (i : ℕ) (d : Sort)
    → i < length xs
    → count_of is_kind (innermost_sorts (take (i + 1) xs))
    ≡ (if is_kind (sort_of (get_or xs i d)) then 1 else 0) + count_of is_kind (innermost_sorts (take i xs))
count_grows is_kind xs i d below =
    ap (count_of is_kind) (sorts_grow (take (i + 1) xs) (take i xs) (get_or xs i d) (take_more xs i d below))
    ∙ counted is_kind (sort_of (get_or xs i d)) (innermost_sorts (take i xs))

byte_is : (b c : Bool) → b ≡ c → bool_byte b ≡ (if c then 1 else 0)
byte_is true c is = ap (λ x. if x then 1 else 0) is
byte_is false c is = ap (λ x. if x then 1 else 0) is

byte_small : (b : Bool) → bool_byte b ≤ 1
byte_small true = omega arith
byte_small false = omega arith

pub count_step : (is_kind : scopes.Sort → Bool) (xs : List Sort) (i count n : ℕ) (b : Bool) (d : Sort)
    → count ≡ count_of is_kind (innermost_sorts (take i xs))
    → count ≤ i
    → i < length xs
    → b ≡ is_kind (sort_of (get_or xs i d))
    → n ≡ bool_byte b
    → (count + n ≡ count_of is_kind (innermost_sorts (take (i + 1) xs))) × (count + n ≤ i + 1)
count_step is_kind xs i count n b d so_far within below is byte =
    let grows = count_grows is_kind xs i d below in
    let one = byte_is b (is_kind (sort_of (get_or xs i d))) is in
    let small = byte_small b in
    (omega (arith, grows, one, byte, so_far), omega (arith, small, byte, within))

-- ---- words

pub past_none : bytes_of (past 0) ≡ []
unfolding bytes_of
past_none = refl

pub past_some : (over : ℕ) → over ≢ 0 → bytes_of (past over) ≡ codes "^" ++ decimal over
unfolding bytes_of
past_some zero some = absurd (some refl)
past_some (suc n) some = refl

pub declared_is : (found : Option (List ℕ)) (name : List ℕ) → found ≡ Some name → bytes_of (name_or_blank found) ≡ name
unfolding bytes_of
declared_is found name is = ap (λ f. bytes_of (name_or_blank f)) is

pub undeclared_is : (found : Option (List ℕ)) → found ≡ None → bytes_of (name_or_blank found) ≡ codes "_"
unfolding bytes_of
undeclared_is found is = ap (λ f. bytes_of (name_or_blank f)) is

pub name_is : (bytes : List ℕ) → bytes_of (name bytes) ≡ bytes
unfolding bytes_of
name_is bytes = refl
