-- Short forms for raw trees that are written out.
use Rattle.std.specs.Prelude.{ℕ, List, Result, Ok, Err}
use Rattle.htt_parser_trees.specs.declared.place.Span.{Span}
use Rattle.htt_parser_trees.specs.declared.place.Binder.{Binder}
use Rattle.htt_parser_trees.specs.declared.place.Binder.TheVariants as binders
use Rattle.htt_parser_trees.specs.declared.mono.MonoName.TheVariants as mono_names
use Rattle.htt_parser_trees.specs.Trees as raw
use Rattle.theory_text_names.specs.Stops.{Stop}
use Rattle.theory_text_items.specs.Items.{FileItem, Resolved}

-- a name by its first byte and the one behind it
abbrev pub sp : ℕ → ℕ → Span
sp from to = record { from = from; to = to }

abbrev pub named : ℕ → ℕ → Binder
named from to = binders.Name (sp from to)

-- phrases of one part
abbrev pub word_at : ℕ → raw.RawMonoTree
word_at at = raw.m_factor (raw.m_name (mono_names.Word at))

abbrev pub one_rel : raw.RawAtomTree → raw.RawRelTree
one_rel a = raw.r_sum (raw.s_sum (raw.x_prod (raw.l_apply a raw.no_parts) raw.x_end) raw.s_end)

abbrev pub one_term : raw.RawAtomTree → raw.RawTermTree
one_term a = raw.t_rel (one_rel a)

abbrev pub one_formula : raw.RawFatomTree → raw.RawFormulaTree
one_formula f = raw.f_disj (raw.d_conj (raw.j_star (raw.k_fatom f)))

abbrev pub items_of : Result Resolved Stop → Result (List FileItem) Stop
items_of (Ok file) = Ok file.items
items_of (Err stop) = Err stop
