-- From the rows of the table to a tree: files.
use Rattle.std.proofs.Common.{inl, inr, [], ◌∷◌, refl}
use Rattle.htt_parser_trees.specs.Trees.{mono_param, body_auto, body_proof, decl_type, decl_pred, decl_induct, decl_def, decl_val, decl_proof}
use Rattle.htt_parser_table.specs.declared.symbols.Nonterminal.TheVariants.{NamesAfter, Names, MonoParameter, MonoParametersAfter, MonoParameters, Body}
use Rattle.htt_parser_table.specs.declared.symbols.Nonterminal.TheVariants.{Declaration, File}
use Rattle.theory_grammar.specs.Marks.{span_of, each_after}
use Rattle.theory_grammar_table.proofs.Takes.{nothing, join, alone, up_to, regrouped, skipped, fit}
use Rattle.theory_grammar_table.proofs.Phrased.{Built, AllBuilt}

names_after_0 : Built NamesAfter 0
unfolding each_after
names_after_0 ts us e = ([], λ l k. nothing e)

names_after_1 : Built NamesAfter 1
unfolding each_after
names_after_1 ts us (t0, v0, e0, i0, (t1, v1, e1, i1, (v2, (x2, r2), e))) =
    ((span_of t1) ∷ x2, λ l k. join (alone e0 (fit i0 tt tt)) (join (alone e1 (fit i1 tt refl)) (up_to e (r2 0 0))))

pub names_after_built : AllBuilt NamesAfter
names_after_built ts us (inl w) = names_after_0 ts us w
names_after_built ts us (inr (inl w)) = names_after_1 ts us w
names_after_built ts us (inr (inr w)) = absurd w

names_0 : Built Names 0
unfolding each_after
names_0 ts us e = ([], λ l k. nothing e)

names_1 : Built Names 1
unfolding each_after
names_1 ts us (t0, v0, e0, i0, (t1, v1, e1, i1, (v2, (x2, r2), (t3, v3, e3, i3, e)))) = (
  (span_of t1) ∷ x2,
  λ l k.
      join (alone e0 (fit i0 tt tt))
      (regrouped _ _ _ (join (alone e1 (fit i1 tt refl)) (join (r2 0 0) (up_to e (alone e3 (fit i3 tt tt)))))),
)

pub names_built : AllBuilt Names
names_built ts us (inl w) = names_0 ts us w
names_built ts us (inr (inl w)) = names_1 ts us w
names_built ts us (inr (inr w)) = absurd w

mono_parameter_0 : Built MonoParameter 0
unfolding each_after
mono_parameter_0 ts us (t0, v0, e0, i0, (t1, v1, e1, i1, (v2, (x2, r2), e))) =
    (mono_param (span_of t0) x2, λ l k. join (alone e0 (fit i0 tt refl)) (join (alone e1 (fit i1 tt tt)) (up_to e (r2 _ 0))))

pub mono_parameter_built : AllBuilt MonoParameter
mono_parameter_built ts us (inl w) = mono_parameter_0 ts us w
mono_parameter_built ts us (inr w) = absurd w

mono_parameters_after_0 : Built MonoParametersAfter 0
unfolding each_after
mono_parameters_after_0 ts us e = ([], λ l k. nothing e)

mono_parameters_after_1 : Built MonoParametersAfter 1
unfolding each_after
mono_parameters_after_1 ts us (t0, v0, e0, i0, (v1, (x1, r1), (v2, (x2, r2), e))) =
    (x1 ∷ x2, λ l k. join (alone e0 (fit i0 tt tt)) (join (r1 0 0) (up_to e (r2 0 0))))

pub mono_parameters_after_built : AllBuilt MonoParametersAfter
mono_parameters_after_built ts us (inl w) = mono_parameters_after_0 ts us w
mono_parameters_after_built ts us (inr (inl w)) = mono_parameters_after_1 ts us w
mono_parameters_after_built ts us (inr (inr w)) = absurd w

mono_parameters_0 : Built MonoParameters 0
unfolding each_after
mono_parameters_0 ts us (t0, v0, e0, i0, (t1, v1, e1, i1, e)) = ([], λ l k. join (alone e0 (fit i0 tt tt)) (skipped (up_to e (alone e1 (fit i1 tt tt)))))

mono_parameters_1 : Built MonoParameters 1
unfolding each_after
mono_parameters_1 ts us (t0, v0, e0, i0, (v1, (x1, r1), (v2, (x2, r2), (t3, v3, e3, i3, e)))) =
    (x1 ∷ x2, λ l k. join (alone e0 (fit i0 tt tt)) (regrouped _ _ _ (join (r1 0 0) (join (r2 0 0) (up_to e (alone e3 (fit i3 tt tt)))))))

pub mono_parameters_built : AllBuilt MonoParameters
mono_parameters_built ts us (inl w) = mono_parameters_0 ts us w
mono_parameters_built ts us (inr (inl w)) = mono_parameters_1 ts us w
mono_parameters_built ts us (inr (inr w)) = absurd w

body_0 : Built Body 0
unfolding each_after
body_0 ts us (t0, v0, e0, i0, e) = (body_auto t0.from, λ l k. up_to e (alone e0 (fit i0 refl tt)))

body_1 : Built Body 1
unfolding each_after
body_1 ts us (v0, (x0, r0), e) = (body_proof x0, λ l k. up_to e (r0 _ 0))

pub body_built : AllBuilt Body
body_built ts us (inl w) = body_0 ts us w
body_built ts us (inr (inl w)) = body_1 ts us w
body_built ts us (inr (inr w)) = absurd w

declaration_0 : Built Declaration 0
unfolding each_after
declaration_0 ts us (t0, v0, e0, i0, (t1, v1, e1, i1, (t2, v2, e2, i2, (v3, (x3, r3), e)))) = (
  decl_type (span_of t1) x3,
  λ l k. join (alone e0 (fit i0 tt tt)) (join (alone e1 (fit i1 tt refl)) (join (alone e2 (fit i2 tt tt)) (up_to e (r3 _ 0)))),
)

declaration_1 : Built Declaration 1
unfolding each_after
declaration_1 ts us (t0, v0, e0, i0, (t1, v1, e1, i1, (v2, (x2, r2), (v3, (x3, r3), (t4, v4, e4, i4, (v5, (x5, r5), e)))))) = (
  decl_pred (span_of t1) x2 x3 x5,
  λ l k.
      join (alone e0 (fit i0 tt tt))
      (join (alone e1 (fit i1 tt refl)) (join (r2 0 0) (join (r3 0 0) (join (alone e4 (fit i4 tt tt)) (up_to e (r5 _ 0)))))),
)

declaration_2 : Built Declaration 2
unfolding each_after
declaration_2 ts us (
  t0,
  v0,
  e0,
  i0,
  (
    t1,
    v1,
    e1,
    i1,
    (
      t2,
      v2,
      e2,
      i2,
      (
        v3,
        (x3, r3),
        (
          v4,
          (x4, r4),
          (
            t5,
            v5,
            e5,
            i5,
            (t6, v6, e6, i6, (v7, (x7, r7), (t8, v8, e8, i8, (t9, v9, e9, i9, (v10, (x10, r10), (t11, v11, e11, i11, e)))))),
          ),
        ),
      ),
    ),
  ),
) = (
  decl_induct (span_of t1) x3 x4 x7 x10,
  λ l k.
      join (alone e0 (fit i0 tt tt))
      (join (alone e1 (fit i1 tt refl))
      (join (alone e2 (fit i2 tt tt))
      (join (r3 _ 0) (join (r4 0 0)
      (join (alone e5 (fit i5 tt tt))
      (join (alone e6 (fit i6 tt tt))
      (join (r7 _ 0)
      (join (alone e8 (fit i8 tt tt)) (join (alone e9 (fit i9 tt tt)) (join (r10 _ 0) (up_to e (alone e11 (fit i11 tt tt))))))))))))),
)

declaration_3 : Built Declaration 3
unfolding each_after
declaration_3 ts us (t0, v0, e0, i0, (t1, v1, e1, i1, (t2, v2, e2, i2, (v3, (x3, r3), (t4, v4, e4, i4, (v5, (x5, r5), e)))))) = (
  decl_def (span_of t1) x3 x5,
  λ l k.
      join (alone e0 (fit i0 tt tt))
      (join (alone e1 (fit i1 tt refl))
      (join (alone e2 (fit i2 tt tt)) (join (r3 _ 0) (join (alone e4 (fit i4 tt tt)) (up_to e (r5 _ 0)))))),
)

declaration_4 : Built Declaration 4
unfolding each_after
declaration_4 ts us (t0, v0, e0, i0, (t1, v1, e1, i1, (t2, v2, e2, i2, (v3, (x3, r3), (t4, v4, e4, i4, (v5, (x5, r5), e)))))) = (
  decl_val (span_of t1) x3 x5,
  λ l k.
      join (alone e0 (fit i0 tt tt))
      (join (alone e1 (fit i1 tt refl))
      (join (alone e2 (fit i2 tt tt)) (join (r3 _ 0) (join (alone e4 (fit i4 tt tt)) (up_to e (r5 _ 0)))))),
)

declaration_5 : Built Declaration 5
unfolding each_after
declaration_5 ts us (t0, v0, e0, i0, (t1, v1, e1, i1, (t2, v2, e2, i2, (t3, v3, e3, i3, (t4, v4, e4, i4, (v5, (x5, r5), e)))))) = (
  decl_proof t0.from (span_of t1) i3.0 x5,
  λ l k.
      join (alone e0 (fit i0 refl tt))
      (join (alone e1 (fit i1 tt refl))
      (join (alone e2 (fit i2 tt tt)) (join (alone e3 (fit i3.1 tt tt)) (join (alone e4 (fit i4 tt tt)) (up_to e (r5 0 0)))))),
)

pub declaration_built : AllBuilt Declaration
declaration_built ts us (inl w) = declaration_0 ts us w
declaration_built ts us (inr (inl w)) = declaration_1 ts us w
declaration_built ts us (inr (inr (inl w))) = declaration_2 ts us w
declaration_built ts us (inr (inr (inr (inl w)))) = declaration_3 ts us w
declaration_built ts us (inr (inr (inr (inr (inl w))))) = declaration_4 ts us w
declaration_built ts us (inr (inr (inr (inr (inr (inl w)))))) = declaration_5 ts us w
declaration_built ts us (inr (inr (inr (inr (inr (inr w)))))) = absurd w

file_0 : Built File 0
unfolding each_after
file_0 ts us e = ([], λ l k. nothing e)

file_1 : Built File 1
unfolding each_after
file_1 ts us (v0, (x0, r0), (v1, (x1, r1), e)) = (x0 ∷ x1, λ l k. join (r0 0 0) (up_to e (r1 0 0)))

pub file_built : AllBuilt File
file_built ts us (inl w) = file_0 ts us w
file_built ts us (inr (inl w)) = file_1 ts us w
file_built ts us (inr (inr w)) = absurd w
