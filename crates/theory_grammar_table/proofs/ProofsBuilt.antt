-- From the rows of the table to a tree: proofs.
use Rattle.std.proofs.Common.{inl, inr, [], ◌∷◌, refl}
use Rattle.htt_parser_trees.specs.declared.proof.UnaryRule.TheVariants as unary_rules
use Rattle.htt_parser_trees.specs.Trees.{arg_heap, arg_term, motive_of, p_end, p_step, b_intro, b_gen, b_open, b_have, e_name, e_trivial, e_refl, e_unary}
use Rattle.htt_parser_trees.specs.Trees.{e_both, e_give, e_app, e_inst, e_case, e_rewrite, e_induct, e_split, e_axiom, e_unfold, e_lem, e_the, no_proofs}
use Rattle.htt_parser_trees.specs.Trees.{more_proofs}
use Rattle.htt_parser_table.specs.declared.symbols.Nonterminal.TheVariants.{UnaryRule, Argument, Arguments, ArgumentsAfter, Motive, Proof, Statement, End}
use Rattle.htt_parser_table.specs.declared.symbols.Nonterminal.TheVariants.{ProofsAfter}
use Rattle.theory_grammar.specs.Marks.{span_of, each_after}
use Rattle.theory_grammar.specs.Grammar
use Rattle.theory_grammar_table.proofs.Takes.{nothing, join, alone, up_to, renumbered, regrouped, fit}
use Rattle.theory_grammar_table.proofs.Operands.{arguments_numbered}
use Rattle.theory_grammar_table.proofs.Phrased.{Built, AllBuilt}

unary_rule_0 : Built UnaryRule 0
unfolding Grammar.proof each_after
unary_rule_0 ts us (t0, v0, e0, i0, e) = ((t0.from, unary_rules.First), λ l k. up_to e (alone e0 (fit i0 refl tt)))

unary_rule_1 : Built UnaryRule 1
unfolding Grammar.proof each_after
unary_rule_1 ts us (t0, v0, e0, i0, e) = ((t0.from, unary_rules.Second), λ l k. up_to e (alone e0 (fit i0 refl tt)))

unary_rule_2 : Built UnaryRule 2
unfolding Grammar.proof each_after
unary_rule_2 ts us (t0, v0, e0, i0, e) = ((t0.from, unary_rules.Left), λ l k. up_to e (alone e0 (fit i0 refl tt)))

unary_rule_3 : Built UnaryRule 3
unfolding Grammar.proof each_after
unary_rule_3 ts us (t0, v0, e0, i0, e) = ((t0.from, unary_rules.Right), λ l k. up_to e (alone e0 (fit i0 refl tt)))

unary_rule_4 : Built UnaryRule 4
unfolding Grammar.proof each_after
unary_rule_4 ts us (t0, v0, e0, i0, e) = ((t0.from, unary_rules.Absurd), λ l k. up_to e (alone e0 (fit i0 refl tt)))

pub unary_rule_built : AllBuilt UnaryRule
unary_rule_built ts us (inl w) = unary_rule_0 ts us w
unary_rule_built ts us (inr (inl w)) = unary_rule_1 ts us w
unary_rule_built ts us (inr (inr (inl w))) = unary_rule_2 ts us w
unary_rule_built ts us (inr (inr (inr (inl w)))) = unary_rule_3 ts us w
unary_rule_built ts us (inr (inr (inr (inr (inl w))))) = unary_rule_4 ts us w
unary_rule_built ts us (inr (inr (inr (inr (inr w))))) = absurd w

argument_0 : Built Argument 0
unfolding Grammar.proof each_after
argument_0 ts us (t0, v0, e0, i0, (v1, (x1, r1), e)) = (arg_heap t0.from x1, λ l k. join (alone e0 (fit i0 refl tt)) (up_to e (r1 _ 0)))

argument_1 : Built Argument 1
unfolding Grammar.proof each_after
argument_1 ts us (v0, (x0, r0), e) = (arg_term x0, λ l k. up_to e (r0 _ 0))

pub argument_built : AllBuilt Argument
argument_built ts us (inl w) = argument_0 ts us w
argument_built ts us (inr (inl w)) = argument_1 ts us w
argument_built ts us (inr (inr w)) = absurd w

arguments_after_0 : Built ArgumentsAfter 0
unfolding Grammar.proof each_after
arguments_after_0 ts us e = ([], λ l k. nothing e)

arguments_after_1 : Built ArgumentsAfter 1
unfolding Grammar.proof each_after
arguments_after_1 ts us (t0, v0, e0, i0, (v1, (x1, r1), (v2, (x2, r2), e))) =
    (x1 ∷ x2, λ l k. join (alone e0 (fit i0 tt tt)) (join (r1 _ 0) (up_to e (r2 _ 0))))

pub arguments_after_built : AllBuilt ArgumentsAfter
arguments_after_built ts us (inl w) = arguments_after_0 ts us w
arguments_after_built ts us (inr (inl w)) = arguments_after_1 ts us w
arguments_after_built ts us (inr (inr w)) = absurd w

arguments_0 : Built Arguments 0
unfolding Grammar.proof each_after
arguments_0 ts us e = ([], λ l k. nothing e)

arguments_1 : Built Arguments 1
unfolding Grammar.proof each_after
arguments_1 ts us (v0, (x0, r0), (v1, (x1, r1), e)) = (x0 ∷ x1, λ l k. join (r0 _ 0) (up_to e (r1 _ 0)))

pub arguments_built : AllBuilt Arguments
arguments_built ts us (inl w) = arguments_0 ts us w
arguments_built ts us (inr (inl w)) = arguments_1 ts us w
arguments_built ts us (inr (inr w)) = absurd w

motive_0 : Built Motive 0
unfolding Grammar.proof each_after
motive_0 ts us (v0, (x0, r0), (t1, v1, e1, i1, (t2, v2, e2, i2, (v3, (x3, r3), (t4, v4, e4, i4, e))))) = (
  motive_of x0 x3,
  λ l k.
      join (r0 _ 0) (join (alone e1 (fit i1 tt tt)) (join (alone e2 (fit i2 tt tt)) (join (r3 _ 0) (up_to e (alone e4 (fit i4 tt tt)))))),
)

pub motive_built : AllBuilt Motive
motive_built ts us (inl w) = motive_0 ts us w
motive_built ts us (inr w) = absurd w

proof_0 : Built Proof 0
unfolding Grammar.proof each_after
proof_0 ts us (v0, (x0, r0), e) = (p_end x0, λ l k. up_to e (r0 _ 0))

proof_1 : Built Proof 1
unfolding Grammar.proof each_after
proof_1 ts us (v0, (x0, r0), (v1, (x1, r1), e)) = (p_step x0 x1, λ l k. join (r0 _ 0) (up_to e (r1 _ 0)))

pub proof_built : AllBuilt Proof
proof_built ts us (inl w) = proof_0 ts us w
proof_built ts us (inr (inl w)) = proof_1 ts us w
proof_built ts us (inr (inr w)) = absurd w

statement_0 : Built Statement 0
unfolding Grammar.proof each_after
statement_0 ts us (t0, v0, e0, i0, (t1, v1, e1, i1, (t2, v2, e2, i2, e))) = (
  b_intro t0.from (span_of t1),
  λ l k. join (alone e0 (fit i0 refl tt)) (join (alone e1 (fit i1 tt refl)) (up_to e (alone e2 (fit i2 tt tt)))),
)

statement_1 : Built Statement 1
unfolding Grammar.proof each_after
statement_1 ts us (t0, v0, e0, i0, (v1, (x1, r1), (t2, v2, e2, i2, e))) =
    (b_gen t0.from x1, λ l k. join (alone e0 (fit i0 refl tt)) (join (r1 _ 0) (up_to e (alone e2 (fit i2 tt tt)))))

statement_2 : Built Statement 2
unfolding Grammar.proof each_after
statement_2 ts us (t0, v0, e0, i0, (v1, (x1, r1), (t2, v2, e2, i2, (t3, v3, e3, i3, (v4, (x4, r4), (t5, v5, e5, i5, e)))))) = (
  b_open t0.from x1 (span_of t2) x4,
  λ l k.
      join (alone e0 (fit i0 refl tt))
      (join (r1 _ 0)
      (join (alone e2 (fit i2 tt refl)) (join (alone e3 (fit i3 tt tt)) (join (r4 _ 0) (up_to e (alone e5 (fit i5 tt tt))))))),
)

statement_3 : Built Statement 3
unfolding Grammar.proof each_after
statement_3 ts us (
  t0,
  v0,
  e0,
  i0,
  (
    t1,
    v1,
    e1,
    i1,
    (t2, v2, e2, i2, (t3, v3, e3, i3, (v4, (x4, r4), (t5, v5, e5, i5, (t6, v6, e6, i6, (v7, (x7, r7), (t8, v8, e8, i8, e))))))),
  ),
) = (
  b_have t0.from (span_of t1) x4 x7,
  λ l k.
      join (alone e0 (fit i0 refl tt))
      (join (alone e1 (fit i1 tt refl))
      (join (alone e2 (fit i2 tt tt))
      (join (alone e3 (fit i3 tt tt))
      (join (r4 _ 0)
      (join (alone e5 (fit i5 tt tt)) (join (alone e6 (fit i6 tt tt)) (join (r7 _ 0) (up_to e (alone e8 (fit i8 tt tt)))))))))),
)

pub statement_built : AllBuilt Statement
statement_built ts us (inl w) = statement_0 ts us w
statement_built ts us (inr (inl w)) = statement_1 ts us w
statement_built ts us (inr (inr (inl w))) = statement_2 ts us w
statement_built ts us (inr (inr (inr (inl w)))) = statement_3 ts us w
statement_built ts us (inr (inr (inr (inr w)))) = absurd w

end_0 : Built End 0
unfolding Grammar.proof each_after
end_0 ts us (t0, v0, e0, i0, e) = (e_name (span_of t0), λ l k. up_to e (alone e0 (fit i0 tt refl)))

end_1 : Built End 1
unfolding Grammar.proof each_after
end_1 ts us (t0, v0, e0, i0, e) = (e_trivial t0.from, λ l k. up_to e (alone e0 (fit i0 refl tt)))

end_2 : Built End 2
unfolding Grammar.proof each_after
end_2 ts us (t0, v0, e0, i0, e) = (e_refl t0.from, λ l k. up_to e (alone e0 (fit i0 refl tt)))

end_3 : Built End 3
unfolding Grammar.proof each_after
end_3 ts us (v0, (x0, r0), (t1, v1, e1, i1, (v2, (x2, r2), (t3, v3, e3, i3, e)))) =
    (e_unary x0.0 x0.1 x2, λ l k. join (r0 _ 0) (join (alone e1 (fit i1 tt tt)) (join (r2 _ 0) (up_to e (alone e3 (fit i3 tt tt))))))

end_4 : Built End 4
unfolding Grammar.proof each_after
end_4 ts us (t0, v0, e0, i0, (t1, v1, e1, i1, (v2, (x2, r2), (t3, v3, e3, i3, (v4, (x4, r4), (t5, v5, e5, i5, e)))))) = (
  e_both t0.from x2 x4,
  λ l k.
      join (alone e0 (fit i0 refl tt))
      (join (alone e1 (fit i1 tt tt)) (join (r2 _ 0) (join (alone e3 (fit i3 tt tt)) (join (r4 _ 0) (up_to e (alone e5 (fit i5 tt tt))))))),
)

end_5 : Built End 5
unfolding Grammar.proof each_after
end_5 ts us (t0, v0, e0, i0, (t1, v1, e1, i1, (v2, (x2, r2), (t3, v3, e3, i3, (v4, (x4, r4), (t5, v5, e5, i5, e)))))) = (
  e_give t0.from x2 x4,
  λ l k.
      join (alone e0 (fit i0 refl tt))
      (join (alone e1 (fit i1 tt tt)) (join (r2 _ 0) (join (alone e3 (fit i3 tt tt)) (join (r4 _ 0) (up_to e (alone e5 (fit i5 tt tt))))))),
)

end_6 : Built End 6
unfolding Grammar.proof each_after
end_6 ts us (t0, v0, e0, i0, (t1, v1, e1, i1, (v2, (x2, r2), (t3, v3, e3, i3, (v4, (x4, r4), (v5, (x5, r5), (t6, v6, e6, i6, e))))))) = (
  e_app t0.from x2 x4 x5,
  λ l k.
      join (alone e0 (fit i0 refl tt))
      (join (alone e1 (fit i1 tt tt))
      (join (r2 _ 0) (join (alone e3 (fit i3 tt tt)) (join (renumbered _ (r4 _ 0)) (join (r5 _ _) (up_to e (alone e6 (fit i6 tt tt)))))))),
)

end_7 : Built End 7
unfolding Grammar.proof each_after
end_7 ts us (t0, v0, e0, i0, (t1, v1, e1, i1, (v2, (x2, r2), (t3, v3, e3, i3, (v4, (x4, r4), (v5, (x5, r5), (t6, v6, e6, i6, e))))))) = (
  e_inst t0.from x2 x4 x5,
  λ l k.
      join (alone e0 (fit i0 refl tt))
      (join (alone e1 (fit i1 tt tt))
      (join (r2 _ 0) (join (alone e3 (fit i3 tt tt))
      (join (renumbered _ (r4 _ 0)) (join (arguments_numbered _ _ x5 (r5 _ 0)) (up_to e (alone e6 (fit i6 tt tt)))))))),
)

end_8 : Built End 8
unfolding Grammar.proof each_after
end_8 ts us (
  t0,
  v0,
  e0,
  i0,
  (
    t1,
    v1,
    e1,
    i1,
    (
      v2,
      (x2, r2),
      (
        t3,
        v3,
        e3,
        i3,
        (
          t4,
          v4,
          e4,
          i4,
          (
            t5,
            v5,
            e5,
            i5,
            (v6, (x6, r6), (t7, v7, e7, i7, (t8, v8, e8, i8, (t9, v9, e9, i9, (v10, (x10, r10), (t11, v11, e11, i11, e)))))),
          ),
        ),
      ),
    ),
  ),
) = (
  e_case t0.from x2 (span_of t4) x6 (span_of t8) x10,
  λ l k.
      join (alone e0 (fit i0 refl tt))
      (join (alone e1 (fit i1 tt tt))
      (join (r2 _ 0) (join (alone e3 (fit i3 tt tt))
      (join (alone e4 (fit i4 tt refl))
      (join (alone e5 (fit i5 tt tt))
      (join (r6 _ 0) (join (alone e7 (fit i7 tt tt))
      (join (alone e8 (fit i8 tt refl)) (join (alone e9 (fit i9 tt tt)) (join (r10 _ 0) (up_to e (alone e11 (fit i11 tt tt))))))))))))),
)

end_9 : Built End 9
unfolding Grammar.proof each_after
end_9 ts us (
  t0,
  v0,
  e0,
  i0,
  (t1, v1, e1, i1, (v2, (x2, r2), (t3, v3, e3, i3, (v4, (x4, r4), (t5, v5, e5, i5, (v6, (x6, r6), (t7, v7, e7, i7, e))))))),
) = (
  e_rewrite t0.from x2 x4 x6,
  λ l k.
      join (alone e0 (fit i0 refl tt))
      (join (alone e1 (fit i1 tt tt))
      (join (r2 _ 0) (join (alone e3 (fit i3 tt tt))
      (join (r4 _ 0) (join (alone e5 (fit i5 tt tt)) (join (r6 _ 0) (up_to e (alone e7 (fit i7 tt tt))))))))),
)

end_10 : Built End 10
unfolding Grammar.proof each_after
end_10 ts us (
  t0,
  v0,
  e0,
  i0,
  (
    t1,
    v1,
    e1,
    i1,
    (
      v2,
      (x2, r2),
      (
        t3,
        v3,
        e3,
        i3,
        (
          v4,
          (x4, r4),
          (
            t5,
            v5,
            e5,
            i5,
            (
              v6,
              (x6, r6),
              (
                t7,
                v7,
                e7,
                i7,
                (v8, (x8, r8), (t9, v9, e9, i9, (t10, v10, e10, i10, (t11, v11, e11, i11, (v12, (x12, r12), (t13, v13, e13, i13, e)))))),
              ),
            ),
          ),
        ),
      ),
    ),
  ),
) = (
  e_induct t0.from x2 x4 x6 x8 (span_of t9) (span_of t10) x12,
  λ l k.
      join (alone e0 (fit i0 refl tt))
      (join (alone e1 (fit i1 tt tt))
      (join (r2 _ 0) (join (alone e3 (fit i3 tt tt))
      (join (r4 _ 0) (join (alone e5 (fit i5 tt tt))
      (join (r6 _ 0) (join (alone e7 (fit i7 tt tt))
      (join (r8 _ 0) (join (alone e9 (fit i9 tt refl))
      (join (alone e10 (fit i10 tt refl))
      (join (alone e11 (fit i11 tt tt)) (join (r12 _ 0) (up_to e (alone e13 (fit i13 tt tt))))))))))))))),
)

end_11 : Built End 11
unfolding Grammar.proof each_after
end_11 ts us (
  t0,
  v0,
  e0,
  i0,
  (
    t1,
    v1,
    e1,
    i1,
    (
      v2,
      (x2, r2),
      (t3, v3, e3, i3, (v4, (x4, r4), (t5, v5, e5, i5, (v6, (x6, r6), (t7, v7, e7, i7, (v8, (x8, r8), (t9, v9, e9, i9, e))))))),
    ),
  ),
) = (
  e_split t0.from x2 x4 x6 x8,
  λ l k.
      join (alone e0 (fit i0 refl tt))
      (join (alone e1 (fit i1 tt tt))
      (join (r2 _ 0) (join (alone e3 (fit i3 tt tt))
      (join (r4 _ 0) (join (alone e5 (fit i5 tt tt))
      (join (r6 _ 0) (join (alone e7 (fit i7 tt tt)) (join (r8 _ 0) (up_to e (alone e9 (fit i9 tt tt))))))))))),
)

end_12 : Built End 12
unfolding Grammar.proof each_after
end_12 ts us (t0, v0, e0, i0, (t1, v1, e1, i1, (v2, (x2, r2), (t3, v3, e3, i3, (v4, (x4, r4), (t5, v5, e5, i5, e)))))) = (
  e_axiom t0.from (span_of t1) x2 x4,
  λ l k.
      join (alone e0 (fit i0 refl tt))
      (join (alone e1 (fit i1 tt refl))
      (join (r2 _ 0) (join (alone e3 (fit i3 tt tt)) (join (r4 _ 0) (up_to e (alone e5 (fit i5 tt tt))))))),
)

end_13 : Built End 13
unfolding Grammar.proof each_after
end_13 ts us (
  t0,
  v0,
  e0,
  i0,
  (t1, v1, e1, i1, (t2, v2, e2, i2, (t3, v3, e3, i3, (t4, v4, e4, i4, (v5, (x5, r5), (v6, (x6, r6), (t7, v7, e7, i7, e))))))),
) = (
  e_unfold t0.from (span_of t1) i3.0 x5 x6,
  λ l k.
      join (alone e0 (fit i0 refl tt))
      (join (alone e1 (fit i1 tt refl))
      (join (alone e2 (fit i2 tt tt))
      (join (alone e3 (fit i3.1 tt tt))
      (join (alone e4 (fit i4 tt tt)) (regrouped _ _ _ (join (r5 _ 0) (join (r6 _ 0) (up_to e (alone e7 (fit i7 tt tt)))))))))),
)

end_14 : Built End 14
unfolding Grammar.proof each_after
end_14 ts us (t0, v0, e0, i0, (t1, v1, e1, i1, (v2, (x2, r2), (t3, v3, e3, i3, e)))) = (
  e_lem t0.from x2,
  λ l k. join (alone e0 (fit i0 refl tt)) (join (alone e1 (fit i1 tt tt)) (join (r2 _ 0) (up_to e (alone e3 (fit i3 tt tt))))),
)

end_15 : Built End 15
unfolding Grammar.proof each_after
end_15 ts us (t0, v0, e0, i0, (t1, v1, e1, i1, (v2, (x2, r2), (t3, v3, e3, i3, (t4, v4, e4, i4, (v5, (x5, r5), (t6, v6, e6, i6, e))))))) = (
  e_the t0.from x2 x5,
  λ l k.
      join (alone e0 (fit i0 refl tt))
      (join (alone e1 (fit i1 tt tt))
      (join (r2 _ 0)
      (join (alone e3 (fit i3 tt tt)) (join (alone e4 (fit i4 tt tt)) (join (r5 _ 0) (up_to e (alone e6 (fit i6 tt tt)))))))),
)

pub end_built : AllBuilt End
end_built ts us (inl w) = end_0 ts us w
end_built ts us (inr (inl w)) = end_1 ts us w
end_built ts us (inr (inr (inl w))) = end_2 ts us w
end_built ts us (inr (inr (inr (inl w)))) = end_3 ts us w
end_built ts us (inr (inr (inr (inr (inl w))))) = end_4 ts us w
end_built ts us (inr (inr (inr (inr (inr (inl w)))))) = end_5 ts us w
end_built ts us (inr (inr (inr (inr (inr (inr (inl w))))))) = end_6 ts us w
end_built ts us (inr (inr (inr (inr (inr (inr (inr (inl w)))))))) = end_7 ts us w
end_built ts us (inr (inr (inr (inr (inr (inr (inr (inr (inl w))))))))) = end_8 ts us w
end_built ts us (inr (inr (inr (inr (inr (inr (inr (inr (inr (inl w)))))))))) = end_9 ts us w
end_built ts us (inr (inr (inr (inr (inr (inr (inr (inr (inr (inr (inl w))))))))))) = end_10 ts us w
end_built ts us (inr (inr (inr (inr (inr (inr (inr (inr (inr (inr (inr (inl w)))))))))))) = end_11 ts us w
end_built ts us (inr (inr (inr (inr (inr (inr (inr (inr (inr (inr (inr (inr (inl w))))))))))))) = end_12 ts us w
end_built ts us (inr (inr (inr (inr (inr (inr (inr (inr (inr (inr (inr (inr (inr (inl w)))))))))))))) = end_13 ts us w
end_built ts us (inr (inr (inr (inr (inr (inr (inr (inr (inr (inr (inr (inr (inr (inr (inl w))))))))))))))) = end_14 ts us w
end_built ts us (inr (inr (inr (inr (inr (inr (inr (inr (inr (inr (inr (inr (inr (inr (inr (inl w)))))))))))))))) = end_15 ts us w
end_built ts us (inr (inr (inr (inr (inr (inr (inr (inr (inr (inr (inr (inr (inr (inr (inr (inr w)))))))))))))))) = absurd w

proofs_after_0 : Built ProofsAfter 0
unfolding Grammar.proof each_after
proofs_after_0 ts us e = (no_proofs, λ l k. nothing e)

proofs_after_1 : Built ProofsAfter 1
unfolding Grammar.proof each_after
proofs_after_1 ts us (t0, v0, e0, i0, (v1, (x1, r1), (v2, (x2, r2), e))) =
    (more_proofs x1 x2, λ l k. join (alone e0 (fit i0 tt tt)) (join (renumbered _ (r1 _ 0)) (up_to e (r2 _ _))))

pub proofs_after_built : AllBuilt ProofsAfter
proofs_after_built ts us (inl w) = proofs_after_0 ts us w
proofs_after_built ts us (inr (inl w)) = proofs_after_1 ts us w
proofs_after_built ts us (inr (inr w)) = absurd w
