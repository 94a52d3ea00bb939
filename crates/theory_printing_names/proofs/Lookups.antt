-- The printed names stand for what they were printed for.
use Rattle.std.proofs.Common.{◌⊎◌, inl, inr, ◌≡◌, ℕ, zero, suc, ◌+◌, ◌-◌, ◌<◌, ◌^◌, ◌/◌, ◌%◌, List, [], ◌∷◌, length, take, drop, Bool, true, false}
use Rattle.std.proofs.Common.{◌&&◌, cond, refl, sym, ◌∙◌, ap, subst, arith}
use Rattle.std.specs.Prelude.{◌==◌, decimal, Option, Some, None, slice_get, bytes_eq}
use Rattle.std.specs.Fmt.{digits, digits_onto, digit_glyph}
use Rattle.std.specs.List.{list_all}
use Rattle.std.specs.Char.{is_ascii_digit}
use Rattle.std.proofs.lemmas.Fmt.{decimal_injective}
use Rattle.std.proofs.lemmas.Bool.{cases_eq}
use Rattle.std.proofs.lemmas.Slice.Eq.{bytes_eq-Decides}
use Rattle.theory_text_names.specs.Scopes.{Sort, a_mono, a_term, a_heap, a_term_or_heap, the_init, the_mem, a_hypothesis, Local, one_more, one_more_hypothesis}
use Rattle.theory_text_names.specs.Scopes.{hypotheses, is_reserved, is_sequent_letter}
use Rattle.theory_text_names.specs.Uses.{a_variable, the_hypothesis, is_named, use_of, local_use, heap_or_outer, heap_outside}
use Rattle.theory_printing.specs.Names.{name_at, hypothesis_name, count_of}
use Rattle.theory_printing_names.specs.Scopes as named
use Rattle.theory_printing_names.specs.Scopes.{AreNamed, named_none, named_entry, named_init, named_mem, named_hypothesis}
use Rattle.theory_printing_lexemes.proofs.Numbers.{decimal_digits}

-- ---- small facts

not_true : (t : Bool) → (t ≡ true → ⊥) → t ≡ false
not_true true h = absurd (h refl)
not_true false h = refl

some_same : {A : Type 0} {x y : A} → Some x ≡ Some y → x ≡ y
some_same {x = x} e = ap (λ o. from o x) e
  where
    from : {A : Type 0} → Option A → A → A
    from (Some y) x = y
    from None x = x

plus_zero : (n : ℕ) → n ≡ n + zero
plus_zero n = omega arith

plus_suc : (n m : ℕ) → suc n + m ≡ n + suc m
plus_suc n m = omega arith

zero_plus : (n : ℕ) → zero + n ≡ n
zero_plus n = omega arith

one_plus : (n : ℕ) → 1 + n ≡ suc n
one_plus n = omega arith

moved_in : (n index : ℕ) → suc n - suc (suc index) ≡ n - suc index
moved_in n index = omega arith

init_unnamed : (sort : Sort) → Some the_init ≡ Some sort → named.is_named sort ≡ true → ⊥
init_unnamed sort at is = let e = ap named.is_named (some_same at) in cc

mem_unnamed : (sort : Sort) → Some the_mem ≡ Some sort → named.is_named sort ≡ true → ⊥
mem_unnamed sort at is = let e = ap named.is_named (some_same at) in cc

-- ---- letters

abbrev letter : Sort → ℕ
letter a_mono = 97
letter a_heap = 104
letter _ = 120

spelled : (sort : Sort) (p : ℕ) → name_at sort p ≡ 95 ∷ letter sort ∷ decimal p
spelled a_mono p = refl
spelled a_heap p = refl
spelled a_term p = refl
spelled a_term_or_heap p = refl
spelled the_init p = refl
spelled the_mem p = refl
spelled a_hypothesis p = refl

not_u : (sort : Sort) → (letter sort == 117) ≡ false
not_u a_mono = refl
not_u a_heap = refl
not_u a_term = refl
not_u a_term_or_heap = refl
not_u the_init = refl
not_u the_mem = refl
not_u a_hypothesis = refl

no_u : (sort : Sort) → letter sort ≡ 117 → ⊥
no_u sort e = let same = subst (λ n. (n == 117) ≡ false) e (not_u sort) in cc

abbrev second : List ℕ → ℕ
second (b ∷ c ∷ rest) = c
second _ = 0

-- ---- names that differ

positions_same : (sort other : Sort) (p q : ℕ) → p < 2 ^ 64 → q < 2 ^ 64 → name_at sort p ≡ name_at other q → p ≡ q
positions_same sort other p q hp hq e =
    let whole = sym (spelled sort p) ∙ e ∙ spelled other q in
    decimal_injective p q hp hq (ap (λ bs. drop 2 bs) whole)

entry_is_no_hypothesis : (sort : Sort) (p n : ℕ) → name_at sort p ≡ hypothesis_name n → ⊥
entry_is_no_hypothesis sort p n e = no_u sort (ap second (sym (spelled sort p) ∙ e))

hypotheses_same : (m n : ℕ) → m < 2 ^ 64 → n < 2 ^ 64 → hypothesis_name m ≡ hypothesis_name n → m ≡ n
hypotheses_same m n hm hn e = decimal_injective m n hm hn (ap (λ bs. drop 2 bs) e)

same_name : (name : List ℕ) (other : Option (List ℕ)) → other ≡ Some name → is_named name other ≡ true
same_name name other e = subst (λ o. is_named name o ≡ true) (sym e) ((bytes_eq-Decides name name).1 refl)

other_name : (name own : List ℕ) (other : Option (List ℕ)) → other ≡ Some own → (own ≡ name → ⊥) → is_named name other ≡ false
other_name name own other e differ =
    subst (λ o. is_named name o ≡ false) (sym e) (not_true (bytes_eq own name) (λ t. differ ((bytes_eq-Decides own name).0 t)))

-- ---- one local

here : (name : List ℕ) (off : ℕ) (l : Local) (ls : List Local) → is_named name l.name ≡ true → local_use name off (l ∷ ls) ≡ Some (use_of l.sort off ls)
unfolding local_use
here name off l ls h = ap (λ t. cond t (Some (use_of l.sort off ls)) (local_use name (one_more l.sort off) ls)) h

there : (name : List ℕ) (off : ℕ) (l : Local) (ls : List Local)
    → is_named name l.name ≡ false
    → local_use name off (l ∷ ls) ≡ local_use name (one_more l.sort off) ls
unfolding local_use
there name off l ls h = ap (λ t. cond t (Some (use_of l.sort off ls)) (local_use name (one_more l.sort off) ls)) h

use_named : (sort : Sort) (off : ℕ) (ls : List Local) → named.is_named sort ≡ true → use_of sort off ls ≡ a_variable off sort
use_named a_mono off ls h = refl
use_named a_term off ls h = refl
use_named a_heap off ls h = refl
use_named a_term_or_heap off ls h = refl
use_named the_init off ls h = absurd (cc h)
use_named the_mem off ls h = absurd (cc h)
use_named a_hypothesis off ls h = absurd (cc h)

counted : (sort : Sort) (off : ℕ) → named.is_named sort ≡ true → one_more sort off ≡ suc off
counted a_mono off h = refl
counted a_term off h = refl
counted a_heap off h = refl
counted a_term_or_heap off h = refl
counted the_init off h = absurd (cc h)
counted the_mem off h = absurd (cc h)
counted a_hypothesis off h = absurd (cc h)

-- ---- entries by position

there_is : (sorts : List Sort) (index : ℕ) (sort : Sort) → slice_get sorts index ≡ Some sort → index < length sorts
there_is [] index sort e = absurd (cc e)
there_is (x ∷ sorts) zero sort e = omega arith
there_is (x ∷ sorts) (suc index) sort e = let below = there_is sorts index sort e in omega (arith, below)

pub entry_found : {ls : List Local} {sorts : List Sort} {n : ℕ} (index off : ℕ) (sort : Sort) (name : List ℕ)
    → AreNamed ls sorts n
    → slice_get sorts index ≡ Some sort
    → named.is_named sort ≡ true
    → length sorts < 2 ^ 64
    → name ≡ name_at sort (length sorts - suc index)
    → local_use name off ls ≡ Some (a_variable (off + index) sort)
entry_found index off sort name named_none at is few e = absurd (cc at)
entry_found zero off sort name (named_entry {locals} {sorts} {n} {name = own} {sort = other} h own_e rest) at is few e =
    let same : other ≡ sort = some_same at in
    let size : length sorts ≡ suc (length sorts) - suc zero = omega arith in
    let told : own ≡ Some name = own_e ∙ ap Some (ap (λ s. name_at s (length sorts)) same ∙ ap (name_at sort) size ∙ sym e) in
    here name off (record { name = own; sort = other }) locals (same_name name own told)
    ∙ ap Some (use_named other off locals h ∙ ap (a_variable off) same ∙ ap (λ m. a_variable m sort) (plus_zero off))
entry_found (suc index) off sort name (named_entry {locals} {sorts} {n} {name = own} {sort = other} h own_e rest) at is few e =
    let below = there_is sorts index sort at in
    let moved : name ≡ name_at sort (length sorts - suc index) = e ∙ ap (name_at sort) (moved_in (length sorts) index) in
    let differ : name_at other (length sorts) ≡ name → ⊥ =
    λ same.
    let p = positions_same other sort (length sorts) (length sorts - suc index) (omega (arith, few)) (omega (arith, few)) (same ∙ moved) in
    omega (arith, p, below) in
    there name off (record { name = own; sort = other }) locals (other_name name (name_at other (length sorts)) own own_e differ)
    ∙ ap (λ m. local_use name m locals) (counted other off h)
    ∙ entry_found index (suc off) sort name rest at is (omega (arith, few)) moved
    ∙ ap (λ m. Some (a_variable m sort)) (plus_suc off index)
entry_found zero off sort name (named_init rest) at is few e = absurd (init_unnamed sort at is)
entry_found (suc index) off sort name (named_init {locals} {sorts} rest) at is few e =
    there name off (record { name = None; sort = the_init }) locals refl
    ∙ entry_found index (suc off) sort name rest at is (omega (arith, few)) (e ∙ ap (name_at sort) (moved_in (length sorts) index))
    ∙ ap (λ m. Some (a_variable m sort)) (plus_suc off index)
entry_found zero off sort name (named_mem rest) at is few e = absurd (mem_unnamed sort at is)
entry_found (suc index) off sort name (named_mem {locals} {sorts} rest) at is few e =
    there name off (record { name = None; sort = the_mem }) locals refl
    ∙ entry_found index (suc off) sort name rest at is (omega (arith, few)) (e ∙ ap (name_at sort) (moved_in (length sorts) index))
    ∙ ap (λ m. Some (a_variable m sort)) (plus_suc off index)
entry_found index off sort name (named_hypothesis {locals} {sorts} {n} {name = own} own_e rest) at is few e =
    let differ : hypothesis_name n ≡ name → ⊥ = λ same. entry_is_no_hypothesis sort (length sorts - suc index) n (sym (same ∙ e)) in
    there name off (record { name = own; sort = a_hypothesis }) locals (other_name name (hypothesis_name n) own own_e differ)
    ∙ entry_found index off sort name rest at is few e

-- ---- heaps without names, past as many of their kind as stand inside

passes : (t : Bool) (c n : ℕ) (outer : ℕ → Option ℕ) → heap_or_outer t (cond t 1 0 + c) n outer ≡ outer c
passes true c n outer = ap (λ k. heap_or_outer true k n outer) (one_plus c)
passes false c n outer = ap (λ k. heap_or_outer false k n outer) (zero_plus c)

stops : (t : Bool) (n : ℕ) (outer : ℕ → Option ℕ) → t ≡ true → heap_or_outer t zero n outer ≡ Some n
stops t n outer h = ap (λ u. heap_or_outer u zero n outer) h

-- one local inside the heap that is sought
heap_past_local : (is_kind : Sort → Bool) (c off index : ℕ) (l : Local) (ls : List Local)
    → one_more l.sort off ≡ suc off
    → heap_outside is_kind c (suc off) ls ≡ Some (suc off + index)
    → heap_outside is_kind (cond (is_kind l.sort) 1 0 + c) off (l ∷ ls) ≡ Some (off + suc index)
unfolding heap_outside
heap_past_local is_kind c off index l ls one e =
    passes (is_kind l.sort) c off (λ left. heap_outside is_kind left (one_more l.sort off) ls)
    ∙ ap (λ m. heap_outside is_kind c m ls) one ∙ e ∙ ap Some (plus_suc off index)

heap_here : (is_kind : Sort → Bool) (off : ℕ) (l : Local) (ls : List Local) → is_kind l.sort ≡ true → heap_outside is_kind zero off (l ∷ ls) ≡ Some (off + zero)
unfolding heap_outside
heap_here is_kind off l ls h =
    stops (is_kind l.sort) off (λ left. heap_outside is_kind left (one_more l.sort off) ls) h ∙ ap Some (plus_zero off)

pub heap_found : {ls : List Local} {sorts : List Sort} {n : ℕ} (is_kind : Sort → Bool) (index off : ℕ) (sort : Sort)
    → is_kind a_hypothesis ≡ false
    → AreNamed ls sorts n
    → slice_get sorts index ≡ Some sort
    → is_kind sort ≡ true
    → heap_outside is_kind (count_of is_kind (take index sorts)) off ls ≡ Some (off + index)
unfolding heap_outside count_of
heap_found is_kind index off sort apart named_none at is = absurd (cc at)
heap_found is_kind zero off sort apart (named_entry {locals} {sorts} {n} {name = own} {sort = other} h own_e rest) at is =
    heap_here is_kind off (record { name = own; sort = other }) locals (ap is_kind (some_same at) ∙ is)
heap_found is_kind (suc index) off sort apart (named_entry {locals} {sorts} {n} {name = own} {sort = other} h own_e rest) at is =
    heap_past_local is_kind (count_of is_kind (take index sorts)) off index (record { name = own; sort = other }) locals (counted other off h)
    (heap_found is_kind index (suc off) sort apart rest at is)
heap_found is_kind zero off sort apart (named_init {locals} {sorts} rest) at is =
    heap_here is_kind off (record { name = None; sort = the_init }) locals (ap is_kind (some_same at) ∙ is)
heap_found is_kind (suc index) off sort apart (named_init {locals} {sorts} rest) at is =
    heap_past_local is_kind (count_of is_kind (take index sorts)) off index (record { name = None; sort = the_init }) locals refl
    (heap_found is_kind index (suc off) sort apart rest at is)
heap_found is_kind zero off sort apart (named_mem {locals} {sorts} rest) at is =
    heap_here is_kind off (record { name = None; sort = the_mem }) locals (ap is_kind (some_same at) ∙ is)
heap_found is_kind (suc index) off sort apart (named_mem {locals} {sorts} rest) at is =
    heap_past_local is_kind (count_of is_kind (take index sorts)) off index (record { name = None; sort = the_mem }) locals refl
    (heap_found is_kind index (suc off) sort apart rest at is)
heap_found is_kind index off sort apart (named_hypothesis {locals} {sorts} {n} {name = own} own_e rest) at is =
    ap (λ u. heap_or_outer u (count_of is_kind (take index sorts)) off (λ left. heap_outside is_kind left off locals)) apart
    ∙ heap_found is_kind index off sort apart rest at is

-- ---- hypotheses by number

hypotheses_counted : {ls : List Local} {sorts : List Sort} {n : ℕ} → AreNamed ls sorts n → hypotheses ls ≡ n
unfolding hypotheses
hypotheses_counted named_none = refl
hypotheses_counted (named_entry {locals} {sorts} {n} {name = own} {sort = other} h own_e rest) = none_more other (hypotheses locals) h ∙ hypotheses_counted rest
  where
    none_more : (sort : Sort) (n : ℕ) → named.is_named sort ≡ true → one_more_hypothesis sort n ≡ n
    none_more a_mono n h = refl
    none_more a_term n h = refl
    none_more a_heap n h = refl
    none_more a_term_or_heap n h = refl
    none_more the_init n h = refl
    none_more the_mem n h = refl
    none_more a_hypothesis n h = absurd (cc h)
hypotheses_counted (named_init rest) = hypotheses_counted rest
hypotheses_counted (named_mem rest) = hypotheses_counted rest
hypotheses_counted (named_hypothesis own_e rest) = ap suc (hypotheses_counted rest)

pub hypothesis_found : {ls : List Local} {sorts : List Sort} {n : ℕ} (number off : ℕ) (name : List ℕ)
    → AreNamed ls sorts n
    → number < n
    → n < 2 ^ 64
    → name ≡ hypothesis_name number
    → local_use name off ls ≡ Some (the_hypothesis number)
hypothesis_found number off name named_none below few e = absurd (omega (arith, below))
hypothesis_found number off name (named_entry {locals} {sorts} {n} {name = own} {sort = other} h own_e rest) below few e =
    there name off (record { name = own; sort = other }) locals
    (other_name name (name_at other (length sorts)) own own_e (λ same. entry_is_no_hypothesis other (length sorts) number (same ∙ e)))
    ∙ ap (λ m. local_use name m locals) (counted other off h)
    ∙ hypothesis_found number (suc off) name rest below few e
hypothesis_found number off name (named_init {locals} {sorts} rest) below few e =
    there name off (record { name = None; sort = the_init }) locals refl ∙ hypothesis_found number (suc off) name rest below few e
hypothesis_found number off name (named_mem {locals} {sorts} rest) below few e =
    there name off (record { name = None; sort = the_mem }) locals refl ∙ hypothesis_found number (suc off) name rest below few e
hypothesis_found number off name (named_hypothesis {locals} {sorts} {n} {name = own} own_e rest) below few e =
    by_number (cases_eq number n)
    (λ differ. hypothesis_found number off name rest (omega (arith, below, differ)) (omega (arith, few)) e)
  where
    by_number : (number ≡ n) ⊎ (number ≡ n → ⊥)
        → ((number ≡ n → ⊥) → local_use name off locals ≡ Some (the_hypothesis number))
        → local_use name off (record { name = own; sort = a_hypothesis } ∷ locals) ≡ Some (the_hypothesis number)
    by_number (inl same) further =
        here name off (record { name = own; sort = a_hypothesis }) locals (same_name name own (own_e ∙ ap Some (ap hypothesis_name (sym same) ∙ sym e)))
        ∙ ap (λ m. Some (the_hypothesis m)) (hypotheses_counted rest ∙ sym same)
    by_number (inr differ) further =
        there name off (record { name = own; sort = a_hypothesis }) locals
        (other_name name (hypothesis_name n) own own_e
        (λ same. differ (sym (hypotheses_same n number (omega (arith, few)) (omega (arith, few, below)) (same ∙ e)))))
        ∙ further differ

-- ---- names that may be declared

onto_some : (k n d : ℕ) (acc : List ℕ) → (first : ℕ) × (others : List ℕ) × (digits_onto k 10 false n (d ∷ acc) ≡ first ∷ others)
onto_some zero n d acc = (d, acc, refl)
onto_some (suc k) n d acc =
    by_cond (n / 10 == 0) (digit_glyph false (n % 10) ∷ d ∷ acc) (digits_onto k 10 false (n / 10) (digit_glyph false (n % 10) ∷ d ∷ acc))
    (digit_glyph false (n % 10), d ∷ acc, refl) (onto_some k (n / 10) (digit_glyph false (n % 10)) (d ∷ acc))
  where
    by_cond : (t : Bool) (x y : List ℕ)
        → ((first : ℕ) × (others : List ℕ) × (x ≡ first ∷ others))
        → ((first : ℕ) × (others : List ℕ) × (y ≡ first ∷ others))
        → (first : ℕ) × (others : List ℕ) × (cond t x y ≡ first ∷ others)
    by_cond true x y when unless = when
    by_cond false x y when unless = unless

decimal_some : (n : ℕ) → (first : ℕ) × (others : List ℕ) × (decimal n ≡ first ∷ others)
unfolding digits
decimal_some n =
    by_cond (n / 10 == 0) (digit_glyph false (n % 10) ∷ []) (digits_onto 63 10 false (n / 10) (digit_glyph false (n % 10) ∷ []))
    (digit_glyph false (n % 10), [], refl) (onto_some 63 (n / 10) (digit_glyph false (n % 10)) [])
  where
    by_cond : (t : Bool) (x y : List ℕ)
        → ((first : ℕ) × (others : List ℕ) × (x ≡ first ∷ others))
        → ((first : ℕ) × (others : List ℕ) × (y ≡ first ∷ others))
        → (first : ℕ) × (others : List ℕ) × (cond t x y ≡ first ∷ others)
    by_cond true x y when unless = when
    by_cond false x y when unless = unless

reserved : (c n : ℕ) → is_sequent_letter c ≡ true → is_reserved (95 ∷ c ∷ decimal n) ≡ true
reserved c n h =
    let some = decimal_some n in
    let all : list_all is_ascii_digit (some.0 ∷ some.1) ≡ true = subst (λ ds. list_all is_ascii_digit ds ≡ true) some.2 (decimal_digits n) in
    subst (λ ds. is_reserved (95 ∷ c ∷ ds) ≡ true) (sym some.2) (both (is_sequent_letter c) (list_all is_ascii_digit (some.0 ∷ some.1)) h all)
  where
    both : (a b : Bool) → a ≡ true → b ≡ true → (a && b) ≡ true
    both true b h k = k
    both false b h k = absurd (cc h)

letter_reserved : (sort : Sort) → is_sequent_letter (letter sort) ≡ true
letter_reserved a_mono = refl
letter_reserved a_heap = refl
letter_reserved a_term = refl
letter_reserved a_term_or_heap = refl
letter_reserved the_init = refl
letter_reserved the_mem = refl
letter_reserved a_hypothesis = refl

not_reserved : (own name : List ℕ) → is_reserved own ≡ true → is_reserved name ≡ false → own ≡ name → ⊥
not_reserved own name h k e = let t = ap is_reserved e in cc

pub none_found : {ls : List Local} {sorts : List Sort} {n : ℕ} (off : ℕ) (name : List ℕ)
    → AreNamed ls sorts n
    → is_reserved name ≡ false
    → local_use name off ls ≡ None
unfolding local_use
none_found off name named_none free = refl
none_found off name (named_entry {locals} {sorts} {n} {name = own} {sort = other} h own_e rest) free =
    let taken : is_reserved (name_at other (length sorts)) ≡ true =
    ap is_reserved (spelled other (length sorts)) ∙ reserved (letter other) (length sorts) (letter_reserved other) in
    there name off (record { name = own; sort = other }) locals
    (other_name name (name_at other (length sorts)) own own_e (not_reserved (name_at other (length sorts)) name taken free))
    ∙ none_found (one_more other off) name rest free
none_found off name (named_init {locals} rest) free = there name off (record { name = None; sort = the_init }) locals refl ∙ none_found (suc off) name rest free
none_found off name (named_mem {locals} rest) free = there name off (record { name = None; sort = the_mem }) locals refl ∙ none_found (suc off) name rest free
none_found off name (named_hypothesis {locals} {sorts} {n} {name = own} own_e rest) free =
    there name off (record { name = own; sort = a_hypothesis }) locals
    (other_name name (hypothesis_name n) own own_e (not_reserved (hypothesis_name n) name (reserved 117 n refl) free))
    ∙ none_found off name rest free
