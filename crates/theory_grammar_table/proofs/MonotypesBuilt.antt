-- From the rows of the table to a tree: monotypes.
use Rattle.std.proofs.Common.{inl, inr, [], ◌∷◌, refl}
use Rattle.std.specs.Prelude.{Some, None}
use Rattle.htt_parser_trees.specs.declared.place.Binder.TheVariants as binders
use Rattle.htt_parser_trees.specs.declared.mono.MonoName.TheVariants as mono_names
use Rattle.htt_parser_trees.specs.declared.tree.RawHeap.TheVariants as heaps
use Rattle.htt_parser_trees.specs.Trees.{m_name, m_brackets, m_factor, m_pair}
use Rattle.htt_parser_table.specs.declared.symbols.Nonterminal.TheVariants.{Binder, MonoName, HeapNumber, Heap, Factor, Mono, MonoInBrackets, MonosAfter, Monos}
use Rattle.theory_grammar.specs.Marks.{span_of, each_after}
use Rattle.theory_grammar.specs.Grammar
use Rattle.theory_grammar_table.proofs.Takes.{nothing, join, alone, up_to, regrouped, fit}
use Rattle.theory_grammar_table.proofs.Phrased.{Built, AllBuilt}

binder_0 : Built Binder 0
unfolding Grammar.mono each_after
binder_0 ts us (t0, v0, e0, i0, e) = (binders.Name (span_of t0), λ l k. up_to e (alone e0 (fit i0 tt refl)))

binder_1 : Built Binder 1
unfolding Grammar.mono each_after
binder_1 ts us (t0, v0, e0, i0, e) = (binders.Blank, λ l k. up_to e (alone e0 (fit i0 tt tt)))

pub binder_built : AllBuilt Binder
binder_built ts us (inl w) = binder_0 ts us w
binder_built ts us (inr (inl w)) = binder_1 ts us w
binder_built ts us (inr (inr w)) = absurd w

mono_name_0 : Built MonoName 0
unfolding Grammar.mono each_after
mono_name_0 ts us (t0, v0, e0, i0, e) = (mono_names.Word t0.from, λ l k. up_to e (alone e0 (fit i0 refl tt)))

mono_name_1 : Built MonoName 1
unfolding Grammar.mono each_after
mono_name_1 ts us (t0, v0, e0, i0, e) = (mono_names.Bool t0.from, λ l k. up_to e (alone e0 (fit i0 refl tt)))

mono_name_2 : Built MonoName 2
unfolding Grammar.mono each_after
mono_name_2 ts us (t0, v0, e0, i0, e) = (mono_names.Loc t0.from, λ l k. up_to e (alone e0 (fit i0 refl tt)))

mono_name_3 : Built MonoName 3
unfolding Grammar.mono each_after
mono_name_3 ts us (t0, v0, e0, i0, e) = (mono_names.Unit t0.from, λ l k. up_to e (alone e0 (fit i0 refl tt)))

mono_name_4 : Built MonoName 4
unfolding Grammar.mono each_after
mono_name_4 ts us (t0, v0, e0, i0, e) = (mono_names.Name (span_of t0), λ l k. up_to e (alone e0 (fit i0 tt refl)))

pub mono_name_built : AllBuilt MonoName
mono_name_built ts us (inl w) = mono_name_0 ts us w
mono_name_built ts us (inr (inl w)) = mono_name_1 ts us w
mono_name_built ts us (inr (inr (inl w))) = mono_name_2 ts us w
mono_name_built ts us (inr (inr (inr (inl w)))) = mono_name_3 ts us w
mono_name_built ts us (inr (inr (inr (inr (inl w))))) = mono_name_4 ts us w
mono_name_built ts us (inr (inr (inr (inr (inr w))))) = absurd w

heap_number_0 : Built HeapNumber 0
unfolding Grammar.mono each_after
heap_number_0 ts us e = (None, λ l k. nothing e)

heap_number_1 : Built HeapNumber 1
unfolding Grammar.mono each_after
heap_number_1 ts us (t0, v0, e0, i0, (t1, v1, e1, i1, e)) = (Some i1.0, λ l k. join (alone e0 (fit i0 tt tt)) (up_to e (alone e1 (fit i1.1 tt tt))))

pub heap_number_built : AllBuilt HeapNumber
heap_number_built ts us (inl w) = heap_number_0 ts us w
heap_number_built ts us (inr (inl w)) = heap_number_1 ts us w
heap_number_built ts us (inr (inr w)) = absurd w

heap_0 : Built Heap 0
unfolding Grammar.mono each_after
heap_0 ts us (t0, v0, e0, i0, e) = (heaps.Name (span_of t0), λ l k. up_to e (alone e0 (fit i0 tt refl)))

heap_1 : Built Heap 1
unfolding Grammar.mono each_after
heap_1 ts us (t0, v0, e0, i0, (v1, (x1, r1), e)) = (heaps.Init t0.from x1, λ l k. join (alone e0 (fit i0 refl tt)) (up_to e (r1 _ 0)))

heap_2 : Built Heap 2
unfolding Grammar.mono each_after
heap_2 ts us (t0, v0, e0, i0, (v1, (x1, r1), e)) = (heaps.Mem t0.from x1, λ l k. join (alone e0 (fit i0 refl tt)) (up_to e (r1 _ 0)))

pub heap_built : AllBuilt Heap
heap_built ts us (inl w) = heap_0 ts us w
heap_built ts us (inr (inl w)) = heap_1 ts us w
heap_built ts us (inr (inr (inl w))) = heap_2 ts us w
heap_built ts us (inr (inr (inr w))) = absurd w

factor_0 : Built Factor 0
unfolding Grammar.mono each_after
factor_0 ts us (v0, (x0, r0), e) = (m_name x0, λ l k. up_to e (r0 _ 0))

factor_1 : Built Factor 1
unfolding Grammar.mono each_after
factor_1 ts us (t0, v0, e0, i0, (v1, (x1, r1), (t2, v2, e2, i2, e))) =
    (m_brackets t0.from x1, λ l k. join (alone e0 (fit i0 refl tt)) (join (r1 _ 0) (up_to e (alone e2 (fit i2 tt tt)))))

pub factor_built : AllBuilt Factor
factor_built ts us (inl w) = factor_0 ts us w
factor_built ts us (inr (inl w)) = factor_1 ts us w
factor_built ts us (inr (inr w)) = absurd w

mono_0 : Built Mono 0
unfolding Grammar.mono each_after
mono_0 ts us (v0, (x0, r0), e) = (m_factor x0, λ l k. up_to e (r0 _ 0))

mono_1 : Built Mono 1
unfolding Grammar.mono each_after
mono_1 ts us (v0, (x0, r0), (t1, v1, e1, i1, (v2, (x2, r2), e))) = (m_pair x0 x2, λ l k. join (r0 _ 0) (join (alone e1 (fit i1 tt tt)) (up_to e (r2 _ 0))))

pub mono_built : AllBuilt Mono
mono_built ts us (inl w) = mono_0 ts us w
mono_built ts us (inr (inl w)) = mono_1 ts us w
mono_built ts us (inr (inr w)) = absurd w

mono_in_brackets_0 : Built MonoInBrackets 0
unfolding Grammar.mono each_after
mono_in_brackets_0 ts us (t0, v0, e0, i0, (v1, (x1, r1), (t2, v2, e2, i2, e))) =
    (x1, λ l k. join (alone e0 (fit i0 tt tt)) (join (r1 _ 0) (up_to e (alone e2 (fit i2 tt tt)))))

pub mono_in_brackets_built : AllBuilt MonoInBrackets
mono_in_brackets_built ts us (inl w) = mono_in_brackets_0 ts us w
mono_in_brackets_built ts us (inr w) = absurd w

monos_after_0 : Built MonosAfter 0
unfolding Grammar.mono each_after
monos_after_0 ts us e = ([], λ l k. nothing e)

monos_after_1 : Built MonosAfter 1
unfolding Grammar.mono each_after
monos_after_1 ts us (t0, v0, e0, i0, (v1, (x1, r1), (v2, (x2, r2), e))) = (x1 ∷ x2, λ l k. join (alone e0 (fit i0 tt tt)) (join (r1 _ 0) (up_to e (r2 _ 0))))

pub monos_after_built : AllBuilt MonosAfter
monos_after_built ts us (inl w) = monos_after_0 ts us w
monos_after_built ts us (inr (inl w)) = monos_after_1 ts us w
monos_after_built ts us (inr (inr w)) = absurd w

monos_0 : Built Monos 0
unfolding Grammar.mono each_after
monos_0 ts us e = ([], λ l k. nothing e)

monos_1 : Built Monos 1
unfolding Grammar.mono each_after
monos_1 ts us (t0, v0, e0, i0, (v1, (x1, r1), (v2, (x2, r2), (t3, v3, e3, i3, e)))) =
    (x1 ∷ x2, λ l k. join (alone e0 (fit i0 tt tt)) (regrouped _ _ _ (join (r1 _ 0) (join (r2 _ 0) (up_to e (alone e3 (fit i3 tt tt)))))))

pub monos_built : AllBuilt Monos
monos_built ts us (inl w) = monos_0 ts us w
monos_built ts us (inr (inl w)) = monos_1 ts us w
monos_built ts us (inr (inr w)) = absurd w
