-- Printed entries, values and predicates are read as they were printed, and what binders add is named as it was.
use Rattle.std.proofs.Common.{◌≡◌, ℕ, zero, suc, ◌+◌, ◌-◌, ◌<◌, ◌^◌, List, [], ◌∷◌, length, take, Bool, true, false, refl, sym, ◌∙◌, ap, subst, arith}
use Rattle.std.specs.Prelude.{Option, Some, None, Result, Ok, Err, slice_get}
use Rattle.htt_lexer_tokens.specs.declared.tokens.Keyword.TheVariants.{InitWord, MemWord}
use Rattle.htt_lexer_tokens.specs.declared.tokens.Sign.TheVariants.{CaretSign}
use Rattle.htt_parser_trees.specs.declared.place.Span.{Span}
use Rattle.htt_parser_trees.specs.declared.mono.MonoName.TheVariants as mono_names
use Rattle.htt_parser_trees.specs.declared.tree.RawHeap.{RawHeap}
use Rattle.htt_parser_trees.specs.declared.tree.RawHeap.TheVariants as heaps
use Rattle.htt_parser_trees.specs.Trees as raw
use Rattle.htt_syntax.specs.Trees.{TermTree, m_var, t_var, t_val, t_at}
use Rattle.theory_grammar.specs.Marks as marks
use Rattle.theory_grammar.specs.Marks.{Mark, ◌⨟◌, span_of}
use Rattle.theory_grammar.specs.Grammar as grammar
use Rattle.theory_text_names.specs.Stops.{Stop, ◌>>=◌}
use Rattle.theory_text_names.specs.Scopes.{Sort, a_mono, a_term, a_heap, a_term_or_heap, the_init, the_mem, a_hypothesis, Scope, bytes_of, under_name}
use Rattle.theory_text_names.specs.Scopes.{under_hypothesis, is_reserved, means_val, means_rec}
use Rattle.theory_text_names.specs.Scopes as scopes
use Rattle.theory_text_names.specs.Uses.{Use, a_variable, the_hypothesis, a_declared, local_use, declared_use, first_some, use_at, mono_of_use, term_of_use}
use Rattle.theory_text_names.specs.Uses.{heap_of_use, hypothesis_of_use}
use Rattle.theory_text_names.specs.Uses.{rec_of_use, mono_named, term_named, heap_named, hypothesis_named, rec_named, is_init, is_mem, heap_comes, heap_there}
use Rattle.theory_text_names.specs.Uses.{heap_outside}
use Rattle.theory_text.specs.Monotypes.{factor_comes}
use Rattle.theory_text.specs.Phrases.{atom_comes}
use Rattle.theory_printing.specs.Pieces.{Printed, one, ◌▹◌, a_word, nothing, marks_of}
use Rattle.theory_printing.specs.Names.{PrintScope, with_entry, with_hypothesis, under_mem, under_heaps, name_at, hypothesis_name, count_of, past}
use Rattle.theory_printing.specs.Names.{entry_of_sort, entry, name_or_blank, val_name, rec_name}
use Rattle.theory_printing_tokens.specs.Spoken.{Spoken, NameToken}
use Rattle.theory_printing_conditions.specs.Conditions.{IsMonoEntry, IsTermEntry, IsHeapEntry, StandsForMono, StandsForTerm, StandsForHeap, IsHypothesis, HasName}
use Rattle.theory_printing_forms.specs.Readings.{MeetsPrinted, Reads, ReadsFactor, ReadsAtom}
use Rattle.theory_printing_forms.specs.Said.{said_term}
use Rattle.theory_printing_names.specs.Scopes.{HasPrintedNames}
use Rattle.theory_printing_names.proofs.Named.{use_found, declared_found, printed_names}
use Rattle.theory_printing_forms.proofs.Meets.{go, goes_sign, goes_word_at, ends_number, ends_word_at, ends_name}
use Rattle.theory_printing_forms.proofs.Forms.{bind}

-- ---- entries

mono_of_sort : {s : PrintScope} {counts : List ℕ} {r : Scope} (l index : ℕ) (o : Option Sort)
    → HasPrintedNames s counts r
    → slice_get s.entries index ≡ o
    → StandsForMono o
    → length s.entries < 2 ^ 64
    → (v : Spoken r.text (entry_of_sort o index s.entries))
    → ReadsFactor r l (entry_of_sort o index s.entries) v (m_var index)
unfolding entry_of_sort grammar.mono factor_comes
mono_of_sort l index None n at h few v = absurd h
mono_of_sort {s} {counts} {r} l index (Some a_mono) n at h few v =
    record {
      tree = raw.m_name (mono_names.Name (span_of v.token));
      meets = ends_name r.text l (name_at a_mono (length s.entries - suc index)) v;
      given = m_var index;
      comes = ap (mono_of_use v.token.from) (use_found index a_mono (span_of v.token) n at refl few v.bytes);
      same = refl;
    }
mono_of_sort l index (Some a_term) n at h few v = absurd h
mono_of_sort l index (Some a_heap) n at h few v = absurd h
mono_of_sort l index (Some a_term_or_heap) n at h few v = absurd h
mono_of_sort l index (Some the_init) n at h few v = absurd h
mono_of_sort l index (Some the_mem) n at h few v = absurd h
mono_of_sort l index (Some a_hypothesis) n at h few v = absurd h

pub mono_entry : {s : PrintScope} {counts : List ℕ} {r : Scope} (l index : ℕ)
    → HasPrintedNames s counts r
    → IsMonoEntry s index
    → (v : Spoken r.text (entry s index))
    → ReadsFactor r l (entry s index) v (m_var index)
mono_entry {s} l index n h v = mono_of_sort l index (slice_get s.entries index) n refl h.0 h.1 v

term_of_sort : {s : PrintScope} {counts : List ℕ} {r : Scope} (l index : ℕ) (o : Option Sort)
    → HasPrintedNames s counts r
    → slice_get s.entries index ≡ o
    → StandsForTerm o
    → length s.entries < 2 ^ 64
    → (v : Spoken r.text (entry_of_sort o index s.entries))
    → ReadsAtom r l (entry_of_sort o index s.entries) v (t_var index)
unfolding entry_of_sort grammar.term atom_comes said_term
term_of_sort l index None n at h few v = absurd h
term_of_sort {s} {counts} {r} l index (Some a_term) n at h few v =
    record {
      tree = raw.a_name (span_of v.token);
      meets = ends_name r.text l (name_at a_term (length s.entries - suc index)) v;
      given = t_at v.token.from (t_var index);
      comes = bind _ (ap (term_of_use v.token.from) (use_found index a_term (span_of v.token) n at refl few v.bytes)) refl;
      same = refl;
    }
term_of_sort {s} {counts} {r} l index (Some a_term_or_heap) n at h few v =
    record {
      tree = raw.a_name (span_of v.token);
      meets = ends_name r.text l (name_at a_term_or_heap (length s.entries - suc index)) v;
      given = t_at v.token.from (t_var index);
      comes = bind _ (ap (term_of_use v.token.from) (use_found index a_term_or_heap (span_of v.token) n at refl few v.bytes)) refl;
      same = refl;
    }
term_of_sort l index (Some a_mono) n at h few v = absurd h
term_of_sort l index (Some a_heap) n at h few v = absurd h
term_of_sort l index (Some the_init) n at h few v = absurd h
term_of_sort l index (Some the_mem) n at h few v = absurd h
term_of_sort l index (Some a_hypothesis) n at h few v = absurd h

pub term_entry : {s : PrintScope} {counts : List ℕ} {r : Scope} (l index : ℕ)
    → HasPrintedNames s counts r
    → IsTermEntry s index
    → (v : Spoken r.text (entry s index))
    → ReadsAtom r l (entry s index) v (t_var index)
term_entry {s} l index n h v = term_of_sort l index (slice_get s.entries index) n refl h.0 h.1 v

-- ---- heaps

pub record ReadsHeap (r : Scope) (l : ℕ) (p : Printed) (v : Spoken r.text p) (index : ℕ) : Type 0 where
  pub tree : RawHeap
  pub meets : MeetsPrinted r.text l p v (grammar.heap l tree)
  pub comes : heap_comes r tree ≡ Ok index

init_past : {r : Scope} (l index n : ℕ) (v : Spoken r.text (one (a_word InitWord) ▹ past n))
    → heap_outside is_init n zero r.locals ≡ Some index
    → ReadsHeap r l (one (a_word InitWord) ▹ past n) v index
unfolding ◌⨟◌ marks_of
init_past {r} l index zero v e =
    record {
      tree = heaps.Init v.0.token.from None;
      meets = record { meets = (ends_word_at r.text l InitWord v.0).meets };
      comes = ap (heap_there v.0.token.from) e;
    }
init_past {r} l index (suc n) v e =
    record {
      tree = heaps.Init v.0.token.from (Some (suc n));
      meets = go (goes_word_at r.text l InitWord v.0) (go (goes_sign r.text l CaretSign v.1.0) (ends_number r.text l (suc n) v.1.1));
      comes = ap (heap_there v.0.token.from) e;
    }

mem_past : {r : Scope} (l index n : ℕ) (v : Spoken r.text (one (a_word MemWord) ▹ past n))
    → heap_outside is_mem n zero r.locals ≡ Some index
    → ReadsHeap r l (one (a_word MemWord) ▹ past n) v index
unfolding ◌⨟◌ marks_of
mem_past {r} l index zero v e =
    record {
      tree = heaps.Mem v.0.token.from None;
      meets = record { meets = (ends_word_at r.text l MemWord v.0).meets };
      comes = ap (heap_there v.0.token.from) e;
    }
mem_past {r} l index (suc n) v e =
    record {
      tree = heaps.Mem v.0.token.from (Some (suc n));
      meets = go (goes_word_at r.text l MemWord v.0) (go (goes_sign r.text l CaretSign v.1.0) (ends_number r.text l (suc n) v.1.1));
      comes = ap (heap_there v.0.token.from) e;
    }

heap_of_sort : {s : PrintScope} {counts : List ℕ} {r : Scope} (l index : ℕ) (o : Option Sort)
    → HasPrintedNames s counts r
    → slice_get s.entries index ≡ o
    → StandsForHeap o
    → length s.entries < 2 ^ 64
    → (v : Spoken r.text (entry_of_sort o index s.entries))
    → ReadsHeap r l (entry_of_sort o index s.entries) v index
unfolding entry_of_sort
heap_of_sort l index None n at h few v = absurd h
heap_of_sort {s} {counts} {r} l index (Some a_heap) n at h few v =
    record {
      tree = heaps.Name (span_of v.token);
      meets = ends_name r.text l (name_at a_heap (length s.entries - suc index)) v;
      comes = ap (heap_of_use v.token.from) (use_found index a_heap (span_of v.token) n at refl few v.bytes);
    }
heap_of_sort {s} {counts} {r} l index (Some a_term_or_heap) n at h few v =
    record {
      tree = heaps.Name (span_of v.token);
      meets = ends_name r.text l (name_at a_term_or_heap (length s.entries - suc index)) v;
      comes = ap (heap_of_use v.token.from) (use_found index a_term_or_heap (span_of v.token) n at refl few v.bytes);
    }
heap_of_sort {s} {counts} {r} l index (Some the_init) n at h few v =
    init_past l index (count_of is_init (take index s.entries)) v (printed_names.init s counts r index n at)
heap_of_sort {s} {counts} {r} l index (Some the_mem) n at h few v =
    mem_past l index (count_of is_mem (take index s.entries)) v (printed_names.mem s counts r index n at)
heap_of_sort l index (Some a_mono) n at h few v = absurd h
heap_of_sort l index (Some a_term) n at h few v = absurd h
heap_of_sort l index (Some a_hypothesis) n at h few v = absurd h

pub heap_entry : {s : PrintScope} {counts : List ℕ} {r : Scope} (l index : ℕ)
    → HasPrintedNames s counts r
    → IsHeapEntry s index
    → (v : Spoken r.text (entry s index))
    → ReadsHeap r l (entry s index) v index
heap_entry {s} l index n h v = heap_of_sort l index (slice_get s.entries index) n refl h.0 h.1 v

-- ---- values, predicates, hypotheses

value_named : {s : PrintScope} {counts : List ℕ} {r : Scope} (l number : ℕ) (o : Option (List ℕ))
    → HasPrintedNames s counts r
    → slice_get s.vals number ≡ o
    → HasName o
    → (v : Spoken r.text (name_or_blank o))
    → ReadsAtom r l (name_or_blank o) v (t_val number)
unfolding grammar.term atom_comes said_term
value_named l number None n at h v = absurd h
value_named {s} {counts} {r} l number (Some name) n at h v =
    record {
      tree = raw.a_name (span_of v.token);
      meets = ends_name r.text l name v;
      given = t_at v.token.from (t_val number);
      comes = bind _ (ap (term_of_use v.token.from) (declared_found name (span_of v.token) n h.1 v.bytes ∙ n.declared.vals number name at)) refl;
      same = refl;
    }

pub value : {s : PrintScope} {counts : List ℕ} {r : Scope} (l number : ℕ)
    → HasPrintedNames s counts r
    → HasName (slice_get s.vals number)
    → (v : Spoken r.text (val_name s number))
    → ReadsAtom r l (val_name s number) v (t_val number)
value {s} l number n h v = value_named l number (slice_get s.vals number) n refl h v

-- the name of a recursive predicate, and how many parameters this has
pub record ReadsRec (r : Scope) (counts : List ℕ) (l : ℕ) (p : Printed) (v : Spoken r.text p) (number : ℕ) : Type 0 where
  pub span : Span
  pub meets : MeetsPrinted r.text l p v (marks.name l span)
  pub params : ℕ
  pub counted : slice_get counts number ≡ Some params
  pub comes : rec_named r span ≡ Ok (number, params)

rec_of_name : {s : PrintScope} {counts : List ℕ} {r : Scope} (l number : ℕ) (o : Option (List ℕ))
    → HasPrintedNames s counts r
    → slice_get s.recs number ≡ o
    → HasName o
    → (v : Spoken r.text (name_or_blank o))
    → ReadsRec r counts l (name_or_blank o) v number
rec_of_name l number None n at h v = absurd h
rec_of_name {s} {counts} {r} l number (Some name) n at h v =
    let found = n.declared.recs number name at in
    record {
      span = span_of v.token;
      meets = ends_name r.text l name v;
      params = found.0;
      counted = found.1;
      comes = ap (rec_of_use v.token.from) (declared_found name (span_of v.token) n h.1 v.bytes ∙ found.2);
    }

pub predicate : {s : PrintScope} {counts : List ℕ} {r : Scope} (l number : ℕ)
    → HasPrintedNames s counts r
    → HasName (slice_get s.recs number)
    → (v : Spoken r.text (rec_name s number))
    → ReadsRec r counts l (rec_name s number) v number
predicate {s} l number n h v = rec_of_name l number (slice_get s.recs number) n refl h v
