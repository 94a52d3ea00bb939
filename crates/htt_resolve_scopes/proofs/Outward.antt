-- Locals, taken from the innermost one outwards.
use Rattle.std.proofs.Common.{◌≡◌, ℕ, zero, suc, ◌+◌, ◌-◌, ◌<◌, ◌≤◌, List, [], ◌∷◌, ◌++◌, length, map, take, get_or, refl, ap, ◌∙◌, arith}
use Rattle.std.proofs.lemmas.List.{map-append, reverse-append, take_more}
use Rattle.std.specs.Prelude.{Bool, true, false, Option, Some, None, reverse, if◌then◌else◌}
use Rattle.theory_text_names.specs.Scopes as scopes
use Rattle.theory_text_names.specs.Scopes.{one_more, one_more_hypothesis, hypotheses, heap_past, with_local}
use Rattle.theory_text_names.specs.Scopes.{a_mono, a_term, a_heap, a_term_or_heap, the_init, the_mem, a_hypothesis}
use Rattle.theory_text_names.specs.Uses.{is_named, use_of, local_use, heap_outside, heap_or_outer}
use Rattle.htt_resolve_scopes.specs.declared.local.Local.{Local}
use Rattle.htt_resolve_scopes.specs.Views.{sort_of, name_of, local_tree, innermost_first}

pub innermost_last : (locals rest : List Local) (l : Local) → locals ≡ rest ++ (l ∷ []) → innermost_first locals ≡ local_tree l ∷ innermost_first rest
unfolding innermost_first
innermost_last locals rest l is =
    ap (λ ls. reverse (map local_tree ls)) is
    ∙ ap reverse (map-append local_tree rest (l ∷ []))
    ∙ reverse-append (map local_tree rest) (local_tree l ∷ [])

pub innermost_of : (locals : List Local) (k : ℕ) (d : Local)
    → 0 < k
    → k ≤ length locals
    → innermost_first (take k locals) ≡ local_tree (get_or locals (k - 1) d) ∷ innermost_first (take (k - 1) locals)
innermost_of locals k d some within =
    let is : k ≡ (k - 1) + 1 = omega (arith, some) in
    let below : k - 1 < length locals = omega (arith, some, within) in
    innermost_last (take k locals) (take (k - 1) locals) (get_or locals (k - 1) d) (ap (λ n. take n locals) is ∙ take_more locals (k - 1) d below)

pub innermost_empty : (locals : List Local) → locals ≡ [] → innermost_first locals ≡ []
unfolding innermost_first
innermost_empty locals none = ap (λ ls. reverse (map local_tree ls)) none

pub innermost_none : (locals : List Local) (k : ℕ) → k ≤ 0 → innermost_first (take k locals) ≡ []
innermost_none [] zero none = innermost_empty [] refl
innermost_none (l ∷ ls) zero none = innermost_empty [] refl
innermost_none locals (suc k) none = absurd (omega (arith, none))

-- under one more binder
pub entered : (text : List ℕ) (names : scopes.Names) (old more : List Local) (l : Local) (inner heap : Option ℕ)
    → more ≡ old ++ l ∷ []
    → inner ≡ heap_past (sort_of l.sort) heap
    → record { text = text; names = names; locals = innermost_first more; current = inner }
    ≡ with_local (name_of l) (sort_of l.sort) (record { text = text; names = names; locals = innermost_first old; current = heap })
entered text names old more l inner heap is past =
    let locals : innermost_first more ≡ local_tree l ∷ innermost_first old = innermost_last more old l is in
    λ j. record { text = text; names = names; locals = locals j; current = past j }

-- ---- a local of a name

pub local_end : (name : List ℕ) (n : ℕ) (locals : List scopes.Local) → locals ≡ [] → local_use name n locals ≡ None
unfolding local_use
local_end name n locals none = ap (local_use name n) none

local_step : (name : List ℕ) (n : ℕ) (l : scopes.Local) (ls : List scopes.Local) (named : Bool)
    → is_named name l.name ≡ named
    → local_use name n (l ∷ ls) ≡ (if named then Some (use_of l.sort n ls) else local_use name (one_more l.sort n) ls)
unfolding local_use
local_step name n l ls named is = ap (λ b. if b then Some (use_of l.sort n ls) else local_use name (one_more l.sort n) ls) is

pub local_here : (name : List ℕ) (n : ℕ) (locals : List scopes.Local) (l : scopes.Local) (ls : List scopes.Local)
    → locals ≡ l ∷ ls
    → is_named name l.name ≡ true
    → local_use name n locals ≡ Some (use_of l.sort n ls)
local_here name n locals l ls is named = ap (local_use name n) is ∙ local_step name n l ls true named

pub local_past : (name : List ℕ) (n : ℕ) (locals : List scopes.Local) (l : scopes.Local) (ls : List scopes.Local)
    → locals ≡ l ∷ ls
    → is_named name l.name ≡ false
    → local_use name n locals ≡ local_use name (one_more l.sort n) ls
local_past name n locals l ls is other = ap (local_use name n) is ∙ local_step name n l ls false other

-- ---- a heap with a word

pub heap_end : (is_kind : scopes.Sort → Bool) (over n : ℕ) (locals : List scopes.Local) → locals ≡ [] → heap_outside is_kind over n locals ≡ None
unfolding heap_outside
heap_end is_kind over n locals none = ap (heap_outside is_kind over n) none

heap_step : (is_kind : scopes.Sort → Bool) (over n : ℕ) (l : scopes.Local) (ls : List scopes.Local) →
    heap_outside is_kind over n (l ∷ ls) ≡
    heap_or_outer (is_kind l.sort) over n (λ left. heap_outside is_kind left (one_more l.sort n) ls)
unfolding heap_outside
heap_step is_kind over n l ls = refl

-- what one local tells, as the code finds it
pub heap_here : (is_kind : scopes.Sort → Bool) (over n : ℕ) (locals : List scopes.Local) (l : scopes.Local) (ls : List scopes.Local)
    → locals ≡ l ∷ ls
    → ((n : ℕ) (outer : ℕ → Option ℕ) → heap_or_outer (is_kind l.sort) over n outer ≡ Some n)
    → heap_outside is_kind over n locals ≡ Some n
heap_here is_kind over n locals l ls is here = ap (heap_outside is_kind over n) is ∙ heap_step is_kind over n l ls ∙ here n _

pub heap_outward : (is_kind : scopes.Sort → Bool) (over left n : ℕ) (locals : List scopes.Local) (l : scopes.Local) (ls : List scopes.Local)
    → locals ≡ l ∷ ls
    → ((n : ℕ) (outer : ℕ → Option ℕ) → heap_or_outer (is_kind l.sort) over n outer ≡ outer left)
    → heap_outside is_kind over n locals ≡ heap_outside is_kind left (one_more l.sort n) ls
heap_outward is_kind over left n locals l ls is past = ap (heap_outside is_kind over n) is ∙ heap_step is_kind over n l ls ∙ past n _

-- ---- hypotheses

pub hypotheses_end : (n : ℕ) (locals : List scopes.Local) → locals ≡ [] → n + hypotheses locals ≡ n
unfolding hypotheses
hypotheses_end n locals none = ap (λ ls. n + hypotheses ls) none ∙ omega arith

moved : (s : scopes.Sort) (n h : ℕ) → n + one_more_hypothesis s h ≡ one_more_hypothesis s n + h
moved a_mono n h = refl
moved a_term n h = refl
moved a_heap n h = refl
moved a_term_or_heap n h = refl
moved the_init n h = refl
moved the_mem n h = refl
moved a_hypothesis n h = omega arith

hypotheses_step : (l : scopes.Local) (ls : List scopes.Local) → hypotheses (l ∷ ls) ≡ one_more_hypothesis l.sort (hypotheses ls)
unfolding hypotheses
hypotheses_step l ls = refl

pub hypotheses_outward : (n : ℕ) (locals : List scopes.Local) (l : scopes.Local) (ls : List scopes.Local)
    → locals ≡ l ∷ ls
    → n + hypotheses locals ≡ one_more_hypothesis l.sort n + hypotheses ls
hypotheses_outward n locals l ls is =
    ap (λ ls. n + hypotheses ls) is ∙ ap (λ h. n + h) (hypotheses_step l ls) ∙ moved l.sort n (hypotheses ls)

-- ---- counts grow by one at most

pub at_most_one_more : (s : scopes.Sort) (n : ℕ) → one_more s n ≤ suc n
at_most_one_more a_mono n = omega arith
at_most_one_more a_term n = omega arith
at_most_one_more a_heap n = omega arith
at_most_one_more a_term_or_heap n = omega arith
at_most_one_more the_init n = omega arith
at_most_one_more the_mem n = omega arith
at_most_one_more a_hypothesis n = omega arith

pub at_most_one_hypothesis : (s : scopes.Sort) (n : ℕ) → one_more_hypothesis s n ≤ suc n
at_most_one_hypothesis a_mono n = omega arith
at_most_one_hypothesis a_term n = omega arith
at_most_one_hypothesis a_heap n = omega arith
at_most_one_hypothesis a_term_or_heap n = omega arith
at_most_one_hypothesis the_init n = omega arith
at_most_one_hypothesis the_mem n = omega arith
at_most_one_hypothesis a_hypothesis n = omega arith
