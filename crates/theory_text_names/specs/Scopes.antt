-- Scopes: the names that stand at a place of a text, and what each of them stands for.
use Rattle.std.specs.Prelude.{ℕ, zero, suc, Bool, false, ◌&&◌, ◌||◌, ◌==◌, List, [], ◌∷◌, ◌++◌, length, Option, Some}
use Rattle.std.specs.Prelude.{None, option_map, slice_range, codes, decimal}
use Rattle.std.specs.List.{list_all}
use Rattle.std.specs.Char.{is_ascii_digit}
use Rattle.std.specs.Str.{byte}
use Rattle.htt_syntax.specs.Trees.{MonoTree, FormulaTree}
use Rattle.htt_parser_trees.specs.declared.place.Span.{Span}
use Rattle.htt_parser_trees.specs.declared.place.Binder.{Binder}
use Rattle.htt_parser_trees.specs.declared.place.Binder.TheVariants as binders

-- ---- what names stand for

-- What a binder adds: an entry of a context, which is a monotype, a term or a heap; or a hypothesis of a proof.
-- An entry that a proof adds is a term or a heap, and the proof rules tell which. The heaps init and mem have
-- words in place of names.
pub data Sort : Type 0 where
  a_mono a_term a_heap a_term_or_heap the_init the_mem a_hypothesis : Sort

pub record Local : Type 0 where
  pub name : Option (List ℕ)
  pub sort : Sort

-- A predicate: how many monotypes it takes; its parameters, each under the monotypes and the parameters before
-- it; and its body, under all of them and then the heap mem.
pub record PredTree : Type 0 where
  pub monos : ℕ
  pub params : List MonoTree
  pub body : FormulaTree

-- What a declared name stands for: a closed monotype; a predicate; the recursive predicate with this number,
-- and the count of its parameters; the definition or the value with this number.
pub data Meaning : Type 0 where
  means_mono : MonoTree → Meaning
  means_pred : PredTree → Meaning
  means_rec : ℕ → ℕ → Meaning
  means_def means_val : ℕ → Meaning

pub record Declared : Type 0 where
  pub name : List ℕ
  pub meaning : Meaning

-- What the declarations of a file declare, in order. A proof declares no name.
abbrev pub Names : Type 0
Names = List (Option Declared)

-- A place of a text: the text, the declared names that are visible there, the names of the binders around it,
-- the innermost first, and the current heap, if there is one, by its index.
pub record Scope : Type 0 where
  pub text : List ℕ
  pub names : Names
  pub locals : List Local
  pub current : Option ℕ

-- ---- names and their bytes

abbrev pub bytes_of : List ℕ → Span → List ℕ
bytes_of text span = slice_range text span.from span.to

abbrev pub binder_name : List ℕ → Binder → Option (List ℕ)
binder_name text (binders.Name span) = Some (bytes_of text span)
binder_name text binders.Blank = None

-- `_x`, `_a`, `_h` and `_u` before digits may not be declared: they name what stands in a sequent
abbrev pub is_sequent_letter : ℕ → Bool
is_sequent_letter b = b == byte "x" || b == byte "a" || b == byte "h" || b == byte "u"

abbrev pub is_reserved : List ℕ → Bool
is_reserved (under ∷ letter ∷ digit ∷ digits) =
    under == byte "_" && is_sequent_letter letter && list_all is_ascii_digit (digit ∷ digits)
is_reserved _ = false

-- ---- counts

-- the count of entries, where what has this sort was added to so many
abbrev pub one_more : Sort → ℕ → ℕ
one_more a_hypothesis n = n
one_more _ n = suc n

-- the count of hypotheses likewise
abbrev pub one_more_hypothesis : Sort → ℕ → ℕ
one_more_hypothesis a_hypothesis n = suc n
one_more_hypothesis _ n = n

unfoldable pub hypotheses : List Local → ℕ
hypotheses [] = zero
hypotheses (l ∷ ls) = one_more_hypothesis l.sort (hypotheses ls)

-- ---- binders

-- the current heap from under what was added
abbrev pub heap_past : Sort → Option ℕ → Option ℕ
heap_past a_hypothesis heap = heap
heap_past _ heap = option_map suc heap

abbrev pub with_local : Option (List ℕ) → Sort → Scope → Scope
with_local name sort s =
    record {
      text = s.text;
      names = s.names;
      locals = record { name = name; sort = sort } ∷ s.locals;
      current = heap_past sort s.current;
    }

abbrev pub under : Scope → Binder → Sort → Scope
under s b sort = with_local (binder_name s.text b) sort s

abbrev pub under_name : Scope → Span → Sort → Scope
under_name s span sort = with_local (Some (bytes_of s.text span)) sort s

abbrev pub under_hypothesis : Scope → Span → Scope
under_hypothesis s span = under_name s span a_hypothesis

abbrev pub at_heap : Scope → ℕ → Scope
at_heap s heap = record { text = s.text; names = s.names; locals = s.locals; current = Some heap }

-- a precondition and the body of a predicate: under mem, which is the current heap
abbrev pub under_mem : Scope → Scope
under_mem s = at_heap (with_local None the_mem s) 0

-- a claim, and a postcondition under its result: under init and mem, and mem is the current heap
abbrev pub under_heaps : Scope → Scope
under_heaps s = under_mem (with_local None the_init s)

-- ---- where a text and a sequent begin

-- a declaration behind those that declare these names
abbrev pub at_top : List ℕ → Names → Scope
at_top text names = record { text = text; names = names; locals = []; current = None }

-- the entry of a sequent's context at a position, the outermost being 0: `_a0`, `_x0` or `_h0`
abbrev pub entry_name : Sort → ℕ → Option (List ℕ)
entry_name a_mono position = Some (codes "_a" ++ decimal position)
entry_name a_term position = Some (codes "_x" ++ decimal position)
entry_name a_heap position = Some (codes "_h" ++ decimal position)
entry_name _ position = None

-- the entries of a context, the innermost first
unfoldable pub entry_locals : List Sort → List Local
entry_locals [] = []
entry_locals (sort ∷ sorts) = record { name = entry_name sort (length sorts); sort = sort } ∷ entry_locals sorts

-- so many hypotheses: `_u0` and so on
unfoldable pub hypothesis_locals : ℕ → List Local
hypothesis_locals zero = []
hypothesis_locals (suc n) =
    record { name = Some (codes "_u" ++ decimal n); sort = a_hypothesis } ∷ hypothesis_locals n

-- a sequent whose context has these entries, the innermost first, and with so many hypotheses
abbrev pub in_sequent : List ℕ → Names → List Sort → ℕ → Scope
in_sequent text names sorts hyps =
    record { text = text; names = names; locals = hypothesis_locals hyps ++ entry_locals sorts; current = None }
