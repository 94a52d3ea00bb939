-- A name in a sorted scope stands for something sorted.
use Rattle.std.specs.Prelude.{◌≡◌, ℕ, zero, suc, ◌+◌, Bool, true, false, if◌then◌else◌, List, [], ◌∷◌, length, Option, Some, None, IfSome}
use Rattle.std.proofs.Common.{refl, sym, ap, subst, arith}
use Rattle.htt_syntax.specs.Trees.{MonoTree}
use Rattle.htt_parser_trees.specs.declared.place.Span.{Span}
use Rattle.htt_parser_trees.specs.declared.mono.MonoName.{MonoName}
use Rattle.htt_parser_trees.specs.declared.mono.MonoName.TheVariants as mono_names
use Rattle.htt_parser_trees.specs.declared.tree.RawHeap.{RawHeap}
use Rattle.htt_parser_trees.specs.declared.tree.RawHeap.TheVariants as heaps
use Rattle.htt_parser_trees.specs.Trees as raw
use Rattle.theory_text_names.specs.Scopes.{Sort, a_mono, a_term, a_heap, a_term_or_heap, the_init, the_mem, a_hypothesis, Local, means_mono, means_pred}
use Rattle.theory_text_names.specs.Scopes.{means_def, means_val, Declared, Names, Scope, bytes_of, one_more, with_local, heap_past, at_heap, under_mem}
use Rattle.theory_text_names.specs.Scopes.{under_heaps}
use Rattle.theory_text_names.specs.Uses.{Use, a_variable, the_hypothesis, a_declared, is_named, use_of, local_use, declares, meaning_of, declared_use}
use Rattle.theory_text_names.specs.Uses.{first_some, use_at, mono_of_use, term_of_use, heap_of_use, pred_of_use, term_named, pred_named, is_init, is_mem}
use Rattle.theory_text_names.specs.Uses.{heap_or_outer, heap_outside, passed_over, heap_there, heap_comes, current_heap}
use Rattle.theory_text_sugar.specs.Sugar.{left_part, right_part}
use Rattle.theory_text.specs.Monotypes.{mono_name_comes, factor_comes, mono_comes, monos_come}
use Rattle.theory_text_scoped.specs.Sorted.{Sorts, HasSort, sort_here, sort_there, IsMono, IsHeap, may_be_mono, may_be_term, may_be_heap, SortedMono}
use Rattle.theory_text_scoped.specs.Sorted.{SortedTerm, sorted_m_word, sorted_m_bool, sorted_m_loc, sorted_m_unit, sorted_m_pair, sorted_m_var, sorted_t_var}
use Rattle.theory_text_scoped.specs.Sorted.{sorted_t_val, sorted_t_def}
use Rattle.theory_text_scoped.specs.Scopes.{with_sort, sorts_in, SortedPred, SortedMeaning, SortedDeclared, SortedNames, IsSortedScope}
use Rattle.theory_text_scoped.proofs.Binding.{Gives, gives, stops, if_bind}

-- ---- scopes

moved : (g : Sorts) (s : Sort) (heap : Option ℕ) → IfSome heap (IsHeap g) → IfSome (heap_past s heap) (IsHeap (with_sort s g))
moved g a_hypothesis heap h = h
moved g a_mono (Some i) h = sort_there h
moved g a_mono None h = tt
moved g a_term (Some i) h = sort_there h
moved g a_term None h = tt
moved g a_heap (Some i) h = sort_there h
moved g a_heap None h = tt
moved g a_term_or_heap (Some i) h = sort_there h
moved g a_term_or_heap None h = tt
moved g the_init (Some i) h = sort_there h
moved g the_init None h = tt
moved g the_mem (Some i) h = sort_there h
moved g the_mem None h = tt

pub under_fits : {name : Option (List ℕ)} {s : Scope} (sort : Sort) → IsSortedScope s → IsSortedScope (with_local name sort s)
unfolding sorts_in
under_fits {s = s} sort fits = record { names = fits.names; current = moved (sorts_in s.locals) sort s.current fits.current }

pub at_heap_fits : {s : Scope} {h : ℕ} → IsSortedScope s → IsHeap (sorts_in s.locals) h → IsSortedScope (at_heap s h)
at_heap_fits fits h = record { names = fits.names; current = h }

pub under_mem_fits : {s : Scope} → IsSortedScope s → IsSortedScope (under_mem s)
unfolding sorts_in
under_mem_fits fits = at_heap_fits (under_fits the_mem fits) (sort_here refl)

pub under_heaps_fits : {s : Scope} → IsSortedScope s → IsSortedScope (under_heaps s)
under_heaps_fits fits = under_mem_fits (under_fits the_init fits)

pub left_part_fits : {s : Scope} → IsSortedScope s → IsSortedScope (left_part s)
unfolding sorts_in
left_part_fits fits = at_heap_fits (under_fits a_heap (under_fits a_heap fits)) (sort_there (sort_here refl))

pub right_part_fits : {s : Scope} → IsSortedScope s → IsSortedScope (right_part s)
unfolding sorts_in
right_part_fits fits = at_heap_fits (under_fits a_heap (under_fits a_heap fits)) (sort_here refl)

-- ---- names

-- a context is so many entries and then this one
data Drops : ℕ → Sorts → Sorts → Type 0 where
  drops_none : {g : Sorts} → Drops zero g g
  drops_more : {n : ℕ} {g b : Sorts} {s : Sort} → Drops n g (s ∷ b) → Drops (suc n) g b

dropped : {may_be : Sort → Bool} {n : ℕ} {g b : Sorts} → Drops n g b → (i : ℕ) → HasSort may_be b i → HasSort may_be g (i + n)
dropped {may_be} {g = g} drops_none i x = let e : i + 0 ≡ i = omega arith in subst (λ k. HasSort may_be g k) (sym e) x
dropped {may_be} {g = g} (drops_more {n = n} d) i x =
    let e : i + suc n ≡ suc i + n = omega arith in subst (λ k. HasSort may_be g k) (sym e) (dropped d (suc i) (sort_there x))

first_of : {may_be : Sort → Bool} {n : ℕ} {g b : Sorts} {s : Sort} → Drops n g (s ∷ b) → may_be s ≡ true → HasSort may_be g n
first_of {may_be} {n} {g} d e = let moved : 0 + n ≡ n = omega arith in subst (λ k. HasSort may_be g k) moved (dropped d 0 (sort_here e))

past : (s : Sort) {n : ℕ} {g b : Sorts} → Drops n g (with_sort s b) → Drops (one_more s n) g b
past a_hypothesis d = d
past a_mono d = drops_more d
past a_term d = drops_more d
past a_heap d = drops_more d
past a_term_or_heap d = drops_more d
past the_init d = drops_more d
past the_mem d = drops_more d

abbrev pub SortedUse : Sorts → Option Use → Type 0
SortedUse g None = Unit {0}
SortedUse g (Some (a_variable i s)) = (may_be : Sort → Bool) → may_be s ≡ true → HasSort may_be g i
SortedUse g (Some (the_hypothesis number)) = Unit {0}
SortedUse g (Some (a_declared meaning)) = SortedMeaning meaning

used : (b : Sorts) (s : Sort) (n : ℕ) {g : Sorts} (ls : List Local) → Drops n g (with_sort s b) → SortedUse g (Some (use_of s n ls))
used b a_hypothesis n ls d = tt
used b a_mono n ls d = λ may_be e. first_of d e
used b a_term n ls d = λ may_be e. first_of d e
used b a_heap n ls d = λ may_be e. first_of d e
used b a_term_or_heap n ls d = λ may_be e. first_of d e
used b the_init n ls d = λ may_be e. first_of d e
used b the_mem n ls d = λ may_be e. first_of d e

either : (g : Sorts) (b : Bool) (one other : Option Use) → SortedUse g one → SortedUse g other → SortedUse g (if b then one else other)
either g true one other h k = h
either g false one other h k = k

local_sorted : (name : List ℕ) (n : ℕ) (ls : List Local) (g : Sorts) → Drops n g (sorts_in ls) → SortedUse g (local_use name n ls)
unfolding local_use sorts_in
local_sorted name n [] g d = tt
local_sorted name n (l ∷ ls) g d =
    either g (is_named name l.name) (Some (use_of l.sort n ls)) (local_use name (one_more l.sort n) ls) (used (sorts_in ls) l.sort n ls d)
    (local_sorted name (one_more l.sort n) ls g (past l.sort d))

meant : (g : Sorts) (d : Option Declared) → SortedDeclared d → SortedUse g (meaning_of d)
meant g None h = tt
meant g (Some d) h = h

declared_sorted : (name : List ℕ) (names : Names) (g : Sorts) → SortedNames names → SortedUse g (declared_use name names)
unfolding declared_use SortedNames
declared_sorted name [] g h = tt
declared_sorted name (d ∷ ds) g h = either g (declares name d) (meaning_of d) (declared_use name ds) (meant g d h.0) (declared_sorted name ds g h.1)

first_sorted : (g : Sorts) (one other : Option Use) → SortedUse g one → SortedUse g other → SortedUse g (first_some one other)
first_sorted g None other h k = k
first_sorted g (Some found) other h k = h

pub use_at_sorted : (s : Scope) → IsSortedScope s → (span : Span) → SortedUse (sorts_in s.locals) (use_at s span)
use_at_sorted s fits span =
    first_sorted (sorts_in s.locals) (local_use (bytes_of s.text span) 0 s.locals) (declared_use (bytes_of s.text span) s.names)
    (local_sorted (bytes_of s.text span) 0 s.locals (sorts_in s.locals) drops_none)
    (declared_sorted (bytes_of s.text span) s.names (sorts_in s.locals) fits.names)

-- ---- what a place needs

closed_mono : (g : Sorts) {b : Sorts} → b ≡ [] → {t : MonoTree} → SortedMono b t → SortedMono g t
closed_mono g e sorted_m_word = sorted_m_word
closed_mono g e sorted_m_bool = sorted_m_bool
closed_mono g e sorted_m_loc = sorted_m_loc
closed_mono g e sorted_m_unit = sorted_m_unit
closed_mono g e (sorted_m_pair h k) = sorted_m_pair (closed_mono g e h) (closed_mono g e k)
closed_mono g e (sorted_m_var {index = index} x) = absurd (no_variable (subst (λ b. IsMono b index) e x))
  where
    no_variable : {n : ℕ} → IsMono [] n → ⊥
    no_variable x = elim x [ ]

mono_used : (g : Sorts) (at : ℕ) (u : Option Use) → SortedUse g u → Gives (mono_of_use at u) (SortedMono g)
mono_used g at None h = stops
mono_used g at (Some (a_variable n a_mono)) h = gives (sorted_m_var (h may_be_mono refl))
mono_used g at (Some (a_declared (means_mono t))) h = gives (closed_mono g refl h)
mono_used g at (Some u) h = stops

term_used : (g : Sorts) (at : ℕ) (u : Option Use) → SortedUse g u → Gives (term_of_use at u) (SortedTerm g)
term_used g at None h = stops
term_used g at (Some (a_variable n a_term)) h = gives (sorted_t_var (h may_be_term refl))
term_used g at (Some (a_variable n a_term_or_heap)) h = gives (sorted_t_var (h may_be_term refl))
term_used g at (Some (a_declared (means_def number))) h = gives sorted_t_def
term_used g at (Some (a_declared (means_val number))) h = gives sorted_t_val
term_used g at (Some u) h = stops

heap_used : (g : Sorts) (at : ℕ) (u : Option Use) → SortedUse g u → Gives (heap_of_use at u) (IsHeap g)
heap_used g at None h = stops
heap_used g at (Some (a_variable n a_heap)) h = gives (h may_be_heap refl)
heap_used g at (Some (a_variable n a_term_or_heap)) h = gives (h may_be_heap refl)
heap_used g at (Some u) h = stops

pred_used : (g : Sorts) (at : ℕ) (u : Option Use) → SortedUse g u → Gives (pred_of_use at u) SortedPred
pred_used g at None h = stops
pred_used g at (Some (a_declared (means_pred p))) h = gives h
pred_used g at (Some u) h = stops

pub term_named_sorted : (s : Scope) → IsSortedScope s → (span : Span) → Gives (term_named s span) (SortedTerm (sorts_in s.locals))
term_named_sorted s fits span = term_used (sorts_in s.locals) span.from (use_at s span) (use_at_sorted s fits span)

pub pred_named_sorted : (s : Scope) → IsSortedScope s → (span : Span) → Gives (pred_named s span) SortedPred
pred_named_sorted s fits span = pred_used (sorts_in s.locals) span.from (use_at s span) (use_at_sorted s fits span)

-- ---- heaps

there : (g : Sorts) (at : ℕ) (heap : Option ℕ) → IfSome heap (IsHeap g) → Gives (heap_there at heap) (IsHeap g)
there g at None h = stops
there g at (Some heap) h = gives h

pub current_sorted : (s : Scope) → IsSortedScope s → (at : ℕ) → Gives (current_heap s at) (IsHeap (sorts_in s.locals))
current_sorted s fits at = there (sorts_in s.locals) at s.current fits.current

or_outer : (g : Sorts) (b : Bool) (over n : ℕ) (outer : ℕ → Option ℕ)
    → (b ≡ true → IsHeap g n)
    → ((k : ℕ) → IfSome (outer k) (IsHeap g))
    → IfSome (heap_or_outer b over n outer) (IsHeap g)
or_outer g true zero n outer h k = h refl
or_outer g true (suc fewer) n outer h k = k fewer
or_outer g false over n outer h k = k over

-- a local that is init or mem is an entry
entry : (kind : Sort → Bool)
    → ((s : Sort) → kind s ≡ true → may_be_heap s ≡ true)
    → (b : Sorts) (s : Sort) {n : ℕ} {g : Sorts}
    → Drops n g (with_sort s b)
    → kind s ≡ true
    → IsHeap g n
entry kind are b a_hypothesis d e = absurd (cc (are a_hypothesis e))
entry kind are b a_mono d e = first_of d (are a_mono e)
entry kind are b a_term d e = first_of d (are a_term e)
entry kind are b a_heap d e = first_of d (are a_heap e)
entry kind are b a_term_or_heap d e = first_of d (are a_term_or_heap e)
entry kind are b the_init d e = first_of d (are the_init e)
entry kind are b the_mem d e = first_of d (are the_mem e)

outside_sorted : (kind : Sort → Bool)
    → ((s : Sort) → kind s ≡ true → may_be_heap s ≡ true)
    → (over n : ℕ) (ls : List Local) (g : Sorts)
    → Drops n g (sorts_in ls)
    → IfSome (heap_outside kind over n ls) (IsHeap g)
unfolding heap_outside sorts_in
outside_sorted kind are over n [] g d = tt
outside_sorted kind are over n (l ∷ ls) g d =
    or_outer g (kind l.sort) over n (λ left. heap_outside kind left (one_more l.sort n) ls) (entry kind are (sorts_in ls) l.sort d)
    (λ k. outside_sorted kind are k (one_more l.sort n) ls g (past l.sort d))

init_is_heap : (s : Sort) → is_init s ≡ true → may_be_heap s ≡ true
init_is_heap the_init e = refl
init_is_heap a_hypothesis e = absurd (cc e)
init_is_heap a_mono e = absurd (cc e)
init_is_heap a_term e = absurd (cc e)
init_is_heap a_heap e = refl
init_is_heap a_term_or_heap e = refl
init_is_heap the_mem e = refl

mem_is_heap : (s : Sort) → is_mem s ≡ true → may_be_heap s ≡ true
mem_is_heap the_mem e = refl
mem_is_heap a_hypothesis e = absurd (cc e)
mem_is_heap a_mono e = absurd (cc e)
mem_is_heap a_term e = absurd (cc e)
mem_is_heap a_heap e = refl
mem_is_heap a_term_or_heap e = refl
mem_is_heap the_init e = refl

pub heap_sorted : (s : Scope) → IsSortedScope s → (heap : RawHeap) → Gives (heap_comes s heap) (IsHeap (sorts_in s.locals))
heap_sorted s fits (heaps.Name span) = heap_used (sorts_in s.locals) span.from (use_at s span) (use_at_sorted s fits span)
heap_sorted s fits (heaps.Init at over) =
    there (sorts_in s.locals) at (heap_outside is_init (passed_over over) 0 s.locals)
    (outside_sorted is_init init_is_heap (passed_over over) 0 s.locals (sorts_in s.locals) drops_none)
heap_sorted s fits (heaps.Mem at over) =
    there (sorts_in s.locals) at (heap_outside is_mem (passed_over over) 0 s.locals)
    (outside_sorted is_mem mem_is_heap (passed_over over) 0 s.locals (sorts_in s.locals) drops_none)

-- ---- monotypes

mono_name_sorted : (s : Scope) → IsSortedScope s → (name : MonoName) → Gives (mono_name_comes s name) (SortedMono (sorts_in s.locals))
mono_name_sorted s fits (mono_names.Word at) = gives sorted_m_word
mono_name_sorted s fits (mono_names.Bool at) = gives sorted_m_bool
mono_name_sorted s fits (mono_names.Loc at) = gives sorted_m_loc
mono_name_sorted s fits (mono_names.Unit at) = gives sorted_m_unit
mono_name_sorted s fits (mono_names.Name span) = mono_used (sorts_in s.locals) span.from (use_at s span) (use_at_sorted s fits span)

mutual
  unfolding mono_comes

  pub factor_sorted : (s : Scope) → IsSortedScope s → (t : raw.RawFactorTree) → Gives (factor_comes s t) (SortedMono (sorts_in s.locals))
  factor_sorted s fits (raw.m_name name) = mono_name_sorted s fits name
  factor_sorted s fits (raw.m_brackets at mono) = mono_sorted s fits mono

  pub mono_sorted : (s : Scope) → IsSortedScope s → (t : raw.RawMonoTree) → Gives (mono_comes s t) (SortedMono (sorts_in s.locals))
  mono_sorted s fits (raw.m_factor factor) = factor_sorted s fits factor
  mono_sorted s fits (raw.m_pair factor mono) =
      if_bind (factor_sorted s fits factor) (λ left h. if_bind (mono_sorted s fits mono) (λ right k. gives (sorted_m_pair h k)))

unfoldable pub AreSorted : Sorts → List MonoTree → Type 0
AreSorted g [] = Unit {0}
AreSorted g (t ∷ ts) = SortedMono g t × AreSorted g ts

pub monos_sorted : (s : Scope)
    → IsSortedScope s
    → (monos : List raw.RawMonoTree)
    → Gives (monos_come s monos) (λ ts. AreSorted (sorts_in s.locals) ts × (length ts ≡ length monos))
unfolding monos_come AreSorted
monos_sorted s fits [] = gives (tt, refl)
monos_sorted s fits (mono ∷ monos) = if_bind (mono_sorted s fits mono) (λ t h. if_bind (monos_sorted s fits monos) (λ ts k. gives ((h, k.0), ap suc k.1)))
