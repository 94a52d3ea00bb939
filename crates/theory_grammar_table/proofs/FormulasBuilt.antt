-- From the rows of the table to a tree: formulas.
use Rattle.std.proofs.Common.{inl, inr, refl}
use Rattle.htt_parser_trees.specs.Trees.{f_all, f_ex, f_disj, f_implies, over_mono, over_heap, d_conj, d_or, j_star, j_and, k_fatom, k_times, g_tt, g_ff, g_emp}
use Rattle.htt_parser_trees.specs.Trees.{g_brackets, g_at_heap, g_emp_of, g_same, g_join, g_cell, g_block, g_use, g_use_at, g_use_at_heap, g_eq, g_points}
use Rattle.htt_parser_trees.specs.Trees.{g_points_any, no_terms, more_terms}
use Rattle.htt_parser_table.specs.declared.symbols.Nonterminal.TheVariants.{Formula, Sort, Disjunction, Conjunction, Separation, FormulaAtom, Terms, TermsAfter}
use Rattle.theory_grammar.specs.Marks.{span_of}
use Rattle.theory_grammar.specs.Grammar
use Rattle.theory_grammar_table.proofs.Takes.{nothing, join, alone, up_to, fit}
use Rattle.theory_grammar_table.proofs.Phrased.{Built, AllBuilt}

formula_0 : Built Formula 0
unfolding Grammar.term
formula_0 ts us (t0, v0, e0, i0, (v1, (x1, r1), (t2, v2, e2, i2, (v3, (x3, r3), (t4, v4, e4, i4, (v5, (x5, r5), e)))))) = (
  f_all t0.from x1 x3 x5,
  λ l k.
      join (alone e0 (fit i0 refl tt))
      (join (r1 _ 0) (join (alone e2 (fit i2 tt tt)) (join (r3 _ 0) (join (alone e4 (fit i4 tt tt)) (up_to e (r5 _ 0)))))),
)

formula_1 : Built Formula 1
unfolding Grammar.term
formula_1 ts us (t0, v0, e0, i0, (v1, (x1, r1), (t2, v2, e2, i2, (v3, (x3, r3), (t4, v4, e4, i4, (v5, (x5, r5), e)))))) = (
  f_ex t0.from x1 x3 x5,
  λ l k.
      join (alone e0 (fit i0 refl tt))
      (join (r1 _ 0) (join (alone e2 (fit i2 tt tt)) (join (r3 _ 0) (join (alone e4 (fit i4 tt tt)) (up_to e (r5 _ 0)))))),
)

formula_2 : Built Formula 2
unfolding Grammar.term
formula_2 ts us (v0, (x0, r0), e) = (f_disj x0, λ l k. up_to e (r0 _ 0))

formula_3 : Built Formula 3
unfolding Grammar.term
formula_3 ts us (v0, (x0, r0), (t1, v1, e1, i1, (v2, (x2, r2), e))) =
    (f_implies x0 x2, λ l k. join (r0 _ 0) (join (alone e1 (fit i1 tt tt)) (up_to e (r2 _ 0))))

pub formula_built : AllBuilt Formula
formula_built ts us (inl w) = formula_0 ts us w
formula_built ts us (inr (inl w)) = formula_1 ts us w
formula_built ts us (inr (inr (inl w))) = formula_2 ts us w
formula_built ts us (inr (inr (inr (inl w)))) = formula_3 ts us w
formula_built ts us (inr (inr (inr (inr w)))) = absurd w

sort_0 : Built Sort 0
unfolding Grammar.term
sort_0 ts us (v0, (x0, r0), e) = (over_mono x0, λ l k. up_to e (r0 _ 0))

sort_1 : Built Sort 1
unfolding Grammar.term
sort_1 ts us (t0, v0, e0, i0, e) = (over_heap, λ l k. up_to e (alone e0 (fit i0 tt tt)))

pub sort_built : AllBuilt Sort
sort_built ts us (inl w) = sort_0 ts us w
sort_built ts us (inr (inl w)) = sort_1 ts us w
sort_built ts us (inr (inr w)) = absurd w

disjunction_0 : Built Disjunction 0
unfolding Grammar.term
disjunction_0 ts us (v0, (x0, r0), e) = (d_conj x0, λ l k. up_to e (r0 _ 0))

disjunction_1 : Built Disjunction 1
unfolding Grammar.term
disjunction_1 ts us (v0, (x0, r0), (t1, v1, e1, i1, (v2, (x2, r2), e))) = (d_or x0 x2, λ l k. join (r0 _ 0) (join (alone e1 (fit i1 tt tt)) (up_to e (r2 _ 0))))

pub disjunction_built : AllBuilt Disjunction
disjunction_built ts us (inl w) = disjunction_0 ts us w
disjunction_built ts us (inr (inl w)) = disjunction_1 ts us w
disjunction_built ts us (inr (inr w)) = absurd w

conjunction_0 : Built Conjunction 0
unfolding Grammar.term
conjunction_0 ts us (v0, (x0, r0), e) = (j_star x0, λ l k. up_to e (r0 _ 0))

conjunction_1 : Built Conjunction 1
unfolding Grammar.term
conjunction_1 ts us (v0, (x0, r0), (t1, v1, e1, i1, (v2, (x2, r2), e))) =
    (j_and x0 x2, λ l k. join (r0 _ 0) (join (alone e1 (fit i1 tt tt)) (up_to e (r2 _ 0))))

pub conjunction_built : AllBuilt Conjunction
conjunction_built ts us (inl w) = conjunction_0 ts us w
conjunction_built ts us (inr (inl w)) = conjunction_1 ts us w
conjunction_built ts us (inr (inr w)) = absurd w

separation_0 : Built Separation 0
unfolding Grammar.term
separation_0 ts us (v0, (x0, r0), e) = (k_fatom x0, λ l k. up_to e (r0 _ 0))

separation_1 : Built Separation 1
unfolding Grammar.term
separation_1 ts us (v0, (x0, r0), (t1, v1, e1, i1, (v2, (x2, r2), e))) =
    (k_times x0 x2, λ l k. join (r0 _ 0) (join (alone e1 (fit i1 tt tt)) (up_to e (r2 _ 0))))

pub separation_built : AllBuilt Separation
separation_built ts us (inl w) = separation_0 ts us w
separation_built ts us (inr (inl w)) = separation_1 ts us w
separation_built ts us (inr (inr w)) = absurd w

formula_atom_0 : Built FormulaAtom 0
unfolding Grammar.term
formula_atom_0 ts us (t0, v0, e0, i0, e) = (g_tt t0.from, λ l k. up_to e (alone e0 (fit i0 refl tt)))

formula_atom_1 : Built FormulaAtom 1
unfolding Grammar.term
formula_atom_1 ts us (t0, v0, e0, i0, e) = (g_ff t0.from, λ l k. up_to e (alone e0 (fit i0 refl tt)))

formula_atom_2 : Built FormulaAtom 2
unfolding Grammar.term
formula_atom_2 ts us (t0, v0, e0, i0, e) = (g_emp t0.from, λ l k. up_to e (alone e0 (fit i0 refl tt)))

formula_atom_3 : Built FormulaAtom 3
unfolding Grammar.term
formula_atom_3 ts us (t0, v0, e0, i0, (v1, (x1, r1), (t2, v2, e2, i2, e))) =
    (g_brackets t0.from x1, λ l k. join (alone e0 (fit i0 refl tt)) (join (r1 _ 0) (up_to e (alone e2 (fit i2 tt tt)))))

formula_atom_4 : Built FormulaAtom 4
unfolding Grammar.term
formula_atom_4 ts us (t0, v0, e0, i0, (v1, (x1, r1), (t2, v2, e2, i2, (v3, (x3, r3), (t4, v4, e4, i4, e))))) = (
  g_at_heap t0.from x1 x3,
  λ l k.
      join (alone e0 (fit i0 refl tt)) (join (r1 _ 0) (join (alone e2 (fit i2 tt tt)) (join (r3 _ 0) (up_to e (alone e4 (fit i4 tt tt)))))),
)

formula_atom_5 : Built FormulaAtom 5
unfolding Grammar.term
formula_atom_5 ts us (t0, v0, e0, i0, (t1, v1, e1, i1, (v2, (x2, r2), (t3, v3, e3, i3, e)))) = (
  g_emp_of t0.from x2,
  λ l k. join (alone e0 (fit i0 refl tt)) (join (alone e1 (fit i1 tt tt)) (join (r2 _ 0) (up_to e (alone e3 (fit i3 tt tt))))),
)

formula_atom_6 : Built FormulaAtom 6
unfolding Grammar.term
formula_atom_6 ts us (t0, v0, e0, i0, (t1, v1, e1, i1, (v2, (x2, r2), (t3, v3, e3, i3, (v4, (x4, r4), (t5, v5, e5, i5, e)))))) = (
  g_same t0.from x2 x4,
  λ l k.
      join (alone e0 (fit i0 refl tt))
      (join (alone e1 (fit i1 tt tt)) (join (r2 _ 0) (join (alone e3 (fit i3 tt tt)) (join (r4 _ 0) (up_to e (alone e5 (fit i5 tt tt))))))),
)

formula_atom_7 : Built FormulaAtom 7
unfolding Grammar.term
formula_atom_7 ts us (
  t0,
  v0,
  e0,
  i0,
  (t1, v1, e1, i1, (v2, (x2, r2), (t3, v3, e3, i3, (v4, (x4, r4), (t5, v5, e5, i5, (v6, (x6, r6), (t7, v7, e7, i7, e))))))),
) = (
  g_join t0.from x2 x4 x6,
  λ l k.
      join (alone e0 (fit i0 refl tt))
      (join (alone e1 (fit i1 tt tt))
      (join (r2 _ 0) (join (alone e3 (fit i3 tt tt))
      (join (r4 _ 0) (join (alone e5 (fit i5 tt tt)) (join (r6 _ 0) (up_to e (alone e7 (fit i7 tt tt))))))))),
)

formula_atom_8 : Built FormulaAtom 8
unfolding Grammar.term
formula_atom_8 ts us (
  t0,
  v0,
  e0,
  i0,
  (v1, (x1, r1), (t2, v2, e2, i2, (v3, (x3, r3), (t4, v4, e4, i4, (v5, (x5, r5), (t6, v6, e6, i6, (v7, (x7, r7), (t8, v8, e8, i8, e)))))))),
) = (
  g_cell t0.from x1 x3 x5 x7,
  λ l k.
      join (alone e0 (fit i0 refl tt))
      (join (r1 _ 0) (join (alone e2 (fit i2 tt tt))
      (join (r3 _ 0) (join (alone e4 (fit i4 tt tt))
      (join (r5 _ 0) (join (alone e6 (fit i6 tt tt)) (join (r7 _ 0) (up_to e (alone e8 (fit i8 tt tt)))))))))),
)

formula_atom_9 : Built FormulaAtom 9
unfolding Grammar.term
formula_atom_9 ts us
    (t0, v0, e0, i0, (v1, (x1, r1), (t2, v2, e2, i2, (v3, (x3, r3), (t4, v4, e4, i4, (v5, (x5, r5), (t6, v6, e6, i6, e))))))) = (
      g_block t0.from x1 x3 x5,
      λ l k.
          join (alone e0 (fit i0 refl tt))
          (join (r1 _ 0) (join (alone e2 (fit i2 tt tt))
          (join (r3 _ 0) (join (alone e4 (fit i4 tt tt)) (join (r5 _ 0) (up_to e (alone e6 (fit i6 tt tt)))))))),
    )

formula_atom_10 : Built FormulaAtom 10
unfolding Grammar.term
formula_atom_10 ts us (t0, v0, e0, i0, (t1, v1, e1, i1, (v2, (x2, r2), (t3, v3, e3, i3, (v4, (x4, r4), (t5, v5, e5, i5, e)))))) = (
  g_use t0.from (span_of t1) x2 x4,
  λ l k.
      join (alone e0 (fit i0 refl tt))
      (join (alone e1 (fit i1 tt refl))
      (join (r2 _ 0) (join (alone e3 (fit i3 tt tt)) (join (r4 _ 0) (up_to e (alone e5 (fit i5 tt tt))))))),
)

formula_atom_11 : Built FormulaAtom 11
unfolding Grammar.term
formula_atom_11 ts us
    (t0, v0, e0, i0, (t1, v1, e1, i1, (t2, v2, e2, i2, (v3, (x3, r3), (t4, v4, e4, i4, (v5, (x5, r5), (t6, v6, e6, i6, e))))))) = (
      g_use_at t0.from (span_of t1) x3 x5,
      λ l k.
          join (alone e0 (fit i0 refl tt))
          (join (alone e1 (fit i1 tt refl))
          (join (alone e2 (fit i2 tt tt))
          (join (r3 _ 0) (join (alone e4 (fit i4 tt tt)) (join (r5 _ 0) (up_to e (alone e6 (fit i6 tt tt)))))))),
    )

formula_atom_12 : Built FormulaAtom 12
unfolding Grammar.term
formula_atom_12 ts us (
  t0,
  v0,
  e0,
  i0,
  (
    t1,
    v1,
    e1,
    i1,
    (t2, v2, e2, i2, (v3, (x3, r3), (t4, v4, e4, i4, (v5, (x5, r5), (t6, v6, e6, i6, (v7, (x7, r7), (t8, v8, e8, i8, e))))))),
  ),
) = (
  g_use_at_heap t0.from (span_of t1) x3 x5 x7,
  λ l k.
      join (alone e0 (fit i0 refl tt))
      (join (alone e1 (fit i1 tt refl))
      (join (alone e2 (fit i2 tt tt))
      (join (r3 _ 0) (join (alone e4 (fit i4 tt tt))
      (join (r5 _ 0) (join (alone e6 (fit i6 tt tt)) (join (r7 _ 0) (up_to e (alone e8 (fit i8 tt tt)))))))))),
)

formula_atom_13 : Built FormulaAtom 13
unfolding Grammar.term
formula_atom_13 ts us (v0, (x0, r0), (t1, v1, e1, i1, (v2, (x2, r2), (v3, (x3, r3), e)))) =
    (g_eq x0 x2 x3, λ l k. join (r0 _ 0) (join (alone e1 (fit i1 tt tt)) (join (r2 _ 0) (up_to e (r3 _ 0)))))

formula_atom_14 : Built FormulaAtom 14
unfolding Grammar.term
formula_atom_14 ts us (v0, (x0, r0), (t1, v1, e1, i1, (v2, (x2, r2), (v3, (x3, r3), e)))) =
    (g_points x0 x2 x3, λ l k. join (r0 _ 0) (join (alone e1 (fit i1 tt tt)) (join (r2 _ 0) (up_to e (r3 _ 0)))))

formula_atom_15 : Built FormulaAtom 15
unfolding Grammar.term
formula_atom_15 ts us (v0, (x0, r0), (t1, v1, e1, i1, (v2, (x2, r2), (t3, v3, e3, i3, e)))) =
    (g_points_any x0 x2, λ l k. join (r0 _ 0) (join (alone e1 (fit i1 tt tt)) (join (r2 _ 0) (up_to e (alone e3 (fit i3 tt tt))))))

pub formula_atom_built : AllBuilt FormulaAtom
formula_atom_built ts us (inl w) = formula_atom_0 ts us w
formula_atom_built ts us (inr (inl w)) = formula_atom_1 ts us w
formula_atom_built ts us (inr (inr (inl w))) = formula_atom_2 ts us w
formula_atom_built ts us (inr (inr (inr (inl w)))) = formula_atom_3 ts us w
formula_atom_built ts us (inr (inr (inr (inr (inl w))))) = formula_atom_4 ts us w
formula_atom_built ts us (inr (inr (inr (inr (inr (inl w)))))) = formula_atom_5 ts us w
formula_atom_built ts us (inr (inr (inr (inr (inr (inr (inl w))))))) = formula_atom_6 ts us w
formula_atom_built ts us (inr (inr (inr (inr (inr (inr (inr (inl w)))))))) = formula_atom_7 ts us w
formula_atom_built ts us (inr (inr (inr (inr (inr (inr (inr (inr (inl w))))))))) = formula_atom_8 ts us w
formula_atom_built ts us (inr (inr (inr (inr (inr (inr (inr (inr (inr (inl w)))))))))) = formula_atom_9 ts us w
formula_atom_built ts us (inr (inr (inr (inr (inr (inr (inr (inr (inr (inr (inl w))))))))))) = formula_atom_10 ts us w
formula_atom_built ts us (inr (inr (inr (inr (inr (inr (inr (inr (inr (inr (inr (inl w)))))))))))) = formula_atom_11 ts us w
formula_atom_built ts us (inr (inr (inr (inr (inr (inr (inr (inr (inr (inr (inr (inr (inl w))))))))))))) = formula_atom_12 ts us w
formula_atom_built ts us (inr (inr (inr (inr (inr (inr (inr (inr (inr (inr (inr (inr (inr (inl w)))))))))))))) = formula_atom_13 ts us w
formula_atom_built ts us (inr (inr (inr (inr (inr (inr (inr (inr (inr (inr (inr (inr (inr (inr (inl w))))))))))))))) = formula_atom_14 ts us w
formula_atom_built ts us (inr (inr (inr (inr (inr (inr (inr (inr (inr (inr (inr (inr (inr (inr (inr (inl w)))))))))))))))) = formula_atom_15 ts us w
formula_atom_built ts us (inr (inr (inr (inr (inr (inr (inr (inr (inr (inr (inr (inr (inr (inr (inr (inr w)))))))))))))))) = absurd w

terms_0 : Built Terms 0
unfolding Grammar.term
terms_0 ts us e = (no_terms, λ l k. nothing e)

terms_1 : Built Terms 1
unfolding Grammar.term
terms_1 ts us (v0, (x0, r0), (v1, (x1, r1), e)) = (more_terms x0 x1, λ l k. join (r0 _ 0) (up_to e (r1 _ 0)))

pub terms_built : AllBuilt Terms
terms_built ts us (inl w) = terms_0 ts us w
terms_built ts us (inr (inl w)) = terms_1 ts us w
terms_built ts us (inr (inr w)) = absurd w

terms_after_0 : Built TermsAfter 0
unfolding Grammar.term
terms_after_0 ts us e = (no_terms, λ l k. nothing e)

terms_after_1 : Built TermsAfter 1
unfolding Grammar.term
terms_after_1 ts us (t0, v0, e0, i0, (v1, (x1, r1), (v2, (x2, r2), e))) =
    (more_terms x1 x2, λ l k. join (alone e0 (fit i0 tt tt)) (join (r1 _ 0) (up_to e (r2 _ 0))))

pub terms_after_built : AllBuilt TermsAfter
terms_after_built ts us (inl w) = terms_after_0 ts us w
terms_after_built ts us (inr (inl w)) = terms_after_1 ts us w
terms_after_built ts us (inr (inr w)) = absurd w
