-- What a name stands for at the place where it is used: the innermost binder of that name, or else the declaration.
use Rattle.std.specs.Prelude.{ℕ, zero, suc, Bool, true, false, if◌then◌else◌, List, [], ◌∷◌, Option, Some, None, Result}
use Rattle.std.specs.Prelude.{Ok, Err, bytes_eq}
use Rattle.htt_syntax.specs.Trees.{MonoTree, TermTree, m_var, t_var, t_def, t_val}
use Rattle.htt_parser_trees.specs.declared.place.Span.{Span}
use Rattle.htt_parser_trees.specs.declared.tree.RawHeap.{RawHeap}
use Rattle.htt_parser_trees.specs.declared.tree.RawHeap.TheVariants as heaps
use Rattle.theory_text_names.specs.Stops.{Stop, unbound, wrong_sort}
use Rattle.theory_text_names.specs.Scopes.{Sort, a_mono, a_term, a_heap, a_term_or_heap, the_init, the_mem}
use Rattle.theory_text_names.specs.Scopes.{a_hypothesis, Local, PredTree, Meaning, means_mono, means_pred, means_rec}
use Rattle.theory_text_names.specs.Scopes.{means_def, means_val, Declared, Names, Scope, bytes_of, one_more, hypotheses}

-- A variable by its index with its sort; a hypothesis by its place in the list, the first one being 0; or what is
-- declared.
pub data Use : Type 0 where
  a_variable : ℕ → Sort → Use
  the_hypothesis : ℕ → Use
  a_declared : Meaning → Use

-- ---- looking a name up

abbrev pub is_named : List ℕ → Option (List ℕ) → Bool
is_named name None = false
is_named name (Some other) = bytes_eq other name

-- what a local is, with so many entries inside it, and those locals outside it
abbrev pub use_of : Sort → ℕ → List Local → Use
use_of a_hypothesis n outer = the_hypothesis (hypotheses outer)
use_of sort n outer = a_variable n sort

-- the innermost local of this name, with so many entries inside all of them
unfoldable pub local_use : List ℕ → ℕ → List Local → Option Use
local_use name n [] = None
local_use name n (l ∷ ls) =
    if is_named name l.name then Some (use_of l.sort n ls) else local_use name (one_more l.sort n) ls

abbrev pub declares : List ℕ → Option Declared → Bool
declares name None = false
declares name (Some d) = bytes_eq d.name name

abbrev pub meaning_of : Option Declared → Option Use
meaning_of None = None
meaning_of (Some d) = Some (a_declared d.meaning)

unfoldable pub declared_use : List ℕ → Names → Option Use
declared_use name [] = None
declared_use name (d ∷ ds) = if declares name d then meaning_of d else declared_use name ds

abbrev pub first_some : {A : Type 0} → Option A → Option A → Option A
first_some (Some x) other = Some x
first_some None other = other

abbrev pub use_at : Scope → Span → Option Use
use_at s span = first_some (local_use (bytes_of s.text span) 0 s.locals) (declared_use (bytes_of s.text span) s.names)

-- ---- what a place needs; the number is the byte of the name

abbrev pub mono_of_use : ℕ → Option Use → Result MonoTree Stop
mono_of_use at (Some (a_variable n a_mono)) = Ok (m_var n)
mono_of_use at (Some (a_declared (means_mono t))) = Ok t
mono_of_use at (Some _) = Err (wrong_sort at)
mono_of_use at None = Err (unbound at)

abbrev pub term_of_use : ℕ → Option Use → Result TermTree Stop
term_of_use at (Some (a_variable n a_term)) = Ok (t_var n)
term_of_use at (Some (a_variable n a_term_or_heap)) = Ok (t_var n)
term_of_use at (Some (a_declared (means_def number))) = Ok (t_def number)
term_of_use at (Some (a_declared (means_val number))) = Ok (t_val number)
term_of_use at (Some _) = Err (wrong_sort at)
term_of_use at None = Err (unbound at)

abbrev pub heap_of_use : ℕ → Option Use → Result ℕ Stop
heap_of_use at (Some (a_variable n a_heap)) = Ok n
heap_of_use at (Some (a_variable n a_term_or_heap)) = Ok n
heap_of_use at (Some _) = Err (wrong_sort at)
heap_of_use at None = Err (unbound at)

abbrev pub hypothesis_of_use : ℕ → Option Use → Result ℕ Stop
hypothesis_of_use at (Some (the_hypothesis number)) = Ok number
hypothesis_of_use at (Some _) = Err (wrong_sort at)
hypothesis_of_use at None = Err (unbound at)

abbrev pub pred_of_use : ℕ → Option Use → Result PredTree Stop
pred_of_use at (Some (a_declared (means_pred p))) = Ok p
pred_of_use at (Some _) = Err (wrong_sort at)
pred_of_use at None = Err (unbound at)

-- the number of a recursive predicate, and the count of its parameters
abbrev pub rec_of_use : ℕ → Option Use → Result (ℕ × ℕ) Stop
rec_of_use at (Some (a_declared (means_rec number params))) = Ok (number, params)
rec_of_use at (Some _) = Err (wrong_sort at)
rec_of_use at None = Err (unbound at)

abbrev pub mono_named : Scope → Span → Result MonoTree Stop
mono_named s span = mono_of_use span.from (use_at s span)

abbrev pub term_named : Scope → Span → Result TermTree Stop
term_named s span = term_of_use span.from (use_at s span)

abbrev pub heap_named : Scope → Span → Result ℕ Stop
heap_named s span = heap_of_use span.from (use_at s span)

abbrev pub hypothesis_named : Scope → Span → Result ℕ Stop
hypothesis_named s span = hypothesis_of_use span.from (use_at s span)

abbrev pub pred_named : Scope → Span → Result PredTree Stop
pred_named s span = pred_of_use span.from (use_at s span)

abbrev pub rec_named : Scope → Span → Result (ℕ × ℕ) Stop
rec_named s span = rec_of_use span.from (use_at s span)

-- ---- init and mem

abbrev pub is_init : Sort → Bool
is_init the_init = true
is_init _ = false

abbrev pub is_mem : Sort → Bool
is_mem the_mem = true
is_mem _ = false

-- a local of the kind or of another, inside so many others of the kind that are still to be passed over
abbrev pub heap_or_outer : Bool → ℕ → ℕ → (ℕ → Option ℕ) → Option ℕ
heap_or_outer true zero n outer = Some n
heap_or_outer true (suc fewer) n outer = outer fewer
heap_or_outer false over n outer = outer over

-- the heap of this kind that is reached past so many others of it, with so many entries inside all locals
unfoldable pub heap_outside : (Sort → Bool) → ℕ → ℕ → List Local → Option ℕ
heap_outside is_kind over n [] = None
heap_outside is_kind over n (l ∷ ls) =
    heap_or_outer (is_kind l.sort) over n (λ left. heap_outside is_kind left (one_more l.sort n) ls)

abbrev pub passed_over : Option ℕ → ℕ
passed_over None = 0
passed_over (Some n) = n

abbrev pub heap_there : ℕ → Option ℕ → Result ℕ Stop
heap_there at (Some heap) = Ok heap
heap_there at None = Err (wrong_sort at)

-- A heap: a name, or `init` or `mem` with the number of such binders that it passes over.
abbrev pub heap_comes : Scope → RawHeap → Result ℕ Stop
heap_comes s (heaps.Name span) = heap_named s span
heap_comes s (heaps.Init at over) = heap_there at (heap_outside is_init (passed_over over) 0 s.locals)
heap_comes s (heaps.Mem at over) = heap_there at (heap_outside is_mem (passed_over over) 0 s.locals)

-- The current heap, for a sugar that begins at this byte.
abbrev pub current_heap : Scope → ℕ → Result ℕ Stop
current_heap s at = heap_there at s.current
