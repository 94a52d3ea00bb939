-- From the rows of the table to a tree: terms.
use Rattle.std.proofs.Common.{inl, inr, refl}
use Rattle.htt_parser_trees.specs.Trees.{plus, minus, bar, caret}
use Rattle.htt_parser_trees.specs.Trees.{times, ampersand, shift_left, shift_right}
use Rattle.htt_parser_trees.specs.declared.tree.UnaryWord.TheVariants as unary_words
use Rattle.htt_parser_trees.specs.Trees.{y_fun, y_all, y_hoare, y_mono, triple_of, t_fun, t_fun_mono, t_do, t_fix, t_rel, no_params, more_params, r_sum, r_less}
use Rattle.htt_parser_trees.specs.Trees.{s_sum, s_end, s_more, x_prod, x_end, x_more, l_unary, l_apply, no_parts, atom_part, mono_part, a_name, a_number}
use Rattle.htt_parser_trees.specs.Trees.{a_true, a_false, a_null, a_place, a_eq, a_sel, a_unit, a_brackets, a_pair, a_annotated, c_ret, c_step, s_alloc, s_get}
use Rattle.htt_parser_trees.specs.Trees.{s_set, s_free, s_if, s_claim, s_run}
use Rattle.htt_parser_table.specs.declared.symbols.Nonterminal.TheVariants.{SumSign, ProductSign, UnaryWord, TypePhrase, Triple, Term, Parameters, Relation}
use Rattle.htt_parser_table.specs.declared.symbols.Nonterminal.TheVariants.{Sum, SumRest, Product, ProductRest, Application, Parts, Atom, Comp, Step}
use Rattle.theory_grammar.specs.Marks.{span_of}
use Rattle.theory_grammar.specs.Grammar
use Rattle.theory_grammar_table.proofs.Takes.{nothing, join, alone, up_to, renumbered, fit}
use Rattle.theory_grammar_table.proofs.Phrased.{Built, AllBuilt}

sum_sign_0 : Built SumSign 0
unfolding Grammar.term
sum_sign_0 ts us (t0, v0, e0, i0, e) = (plus, λ l k. up_to e (alone e0 (fit i0 tt tt)))

sum_sign_1 : Built SumSign 1
unfolding Grammar.term
sum_sign_1 ts us (t0, v0, e0, i0, e) = (minus, λ l k. up_to e (alone e0 (fit i0 tt tt)))

sum_sign_2 : Built SumSign 2
unfolding Grammar.term
sum_sign_2 ts us (t0, v0, e0, i0, e) = (bar, λ l k. up_to e (alone e0 (fit i0 tt tt)))

sum_sign_3 : Built SumSign 3
unfolding Grammar.term
sum_sign_3 ts us (t0, v0, e0, i0, e) = (caret, λ l k. up_to e (alone e0 (fit i0 tt tt)))

pub sum_sign_built : AllBuilt SumSign
sum_sign_built ts us (inl w) = sum_sign_0 ts us w
sum_sign_built ts us (inr (inl w)) = sum_sign_1 ts us w
sum_sign_built ts us (inr (inr (inl w))) = sum_sign_2 ts us w
sum_sign_built ts us (inr (inr (inr (inl w)))) = sum_sign_3 ts us w
sum_sign_built ts us (inr (inr (inr (inr w)))) = absurd w

product_sign_0 : Built ProductSign 0
unfolding Grammar.term
product_sign_0 ts us (t0, v0, e0, i0, e) = (times, λ l k. up_to e (alone e0 (fit i0 tt tt)))

product_sign_1 : Built ProductSign 1
unfolding Grammar.term
product_sign_1 ts us (t0, v0, e0, i0, e) = (ampersand, λ l k. up_to e (alone e0 (fit i0 tt tt)))

product_sign_2 : Built ProductSign 2
unfolding Grammar.term
product_sign_2 ts us (t0, v0, e0, i0, e) = (shift_left, λ l k. up_to e (alone e0 (fit i0 tt tt)))

product_sign_3 : Built ProductSign 3
unfolding Grammar.term
product_sign_3 ts us (t0, v0, e0, i0, e) = (shift_right, λ l k. up_to e (alone e0 (fit i0 tt tt)))

pub product_sign_built : AllBuilt ProductSign
product_sign_built ts us (inl w) = product_sign_0 ts us w
product_sign_built ts us (inr (inl w)) = product_sign_1 ts us w
product_sign_built ts us (inr (inr (inl w))) = product_sign_2 ts us w
product_sign_built ts us (inr (inr (inr (inl w)))) = product_sign_3 ts us w
product_sign_built ts us (inr (inr (inr (inr w)))) = absurd w

unary_word_0 : Built UnaryWord 0
unfolding Grammar.term
unary_word_0 ts us (t0, v0, e0, i0, e) = ((t0.from, unary_words.Fst), λ l k. up_to e (alone e0 (fit i0 refl tt)))

unary_word_1 : Built UnaryWord 1
unfolding Grammar.term
unary_word_1 ts us (t0, v0, e0, i0, e) = ((t0.from, unary_words.Snd), λ l k. up_to e (alone e0 (fit i0 refl tt)))

unary_word_2 : Built UnaryWord 2
unfolding Grammar.term
unary_word_2 ts us (t0, v0, e0, i0, e) = ((t0.from, unary_words.Not), λ l k. up_to e (alone e0 (fit i0 refl tt)))

pub unary_word_built : AllBuilt UnaryWord
unary_word_built ts us (inl w) = unary_word_0 ts us w
unary_word_built ts us (inr (inl w)) = unary_word_1 ts us w
unary_word_built ts us (inr (inr (inl w))) = unary_word_2 ts us w
unary_word_built ts us (inr (inr (inr w))) = absurd w

type_phrase_0 : Built TypePhrase 0
unfolding Grammar.term
type_phrase_0 ts us
    (t0, v0, e0, i0, (v1, (x1, r1), (t2, v2, e2, i2, (v3, (x3, r3), (t4, v4, e4, i4, (t5, v5, e5, i5, (v6, (x6, r6), e))))))) = (
      y_fun t0.from x1 x3 x6,
      λ l k.
          join (alone e0 (fit i0 refl tt))
          (join (r1 _ 0) (join (alone e2 (fit i2 tt tt))
          (join (r3 _ 0) (join (alone e4 (fit i4 tt tt)) (join (alone e5 (fit i5 tt tt)) (up_to e (r6 _ 0))))))),
    )

type_phrase_1 : Built TypePhrase 1
unfolding Grammar.term
type_phrase_1 ts us (t0, v0, e0, i0, (t1, v1, e1, i1, (t2, v2, e2, i2, (t3, v3, e3, i3, (v4, (x4, r4), e))))) = (
  y_all t0.from (span_of t1) x4,
  λ l k.
      join (alone e0 (fit i0 refl tt))
      (join (alone e1 (fit i1 tt refl)) (join (alone e2 (fit i2 tt tt)) (join (alone e3 (fit i3 tt tt)) (up_to e (r4 _ 0))))),
)

type_phrase_2 : Built TypePhrase 2
unfolding Grammar.term
type_phrase_2 ts us (t0, v0, e0, i0, (v1, (x1, r1), e)) = (y_hoare t0.from x1, λ l k. join (alone e0 (fit i0 refl tt)) (up_to e (r1 _ 0)))

type_phrase_3 : Built TypePhrase 3
unfolding Grammar.term
type_phrase_3 ts us (v0, (x0, r0), e) = (y_mono x0, λ l k. up_to e (r0 _ 0))

pub type_phrase_built : AllBuilt TypePhrase
type_phrase_built ts us (inl w) = type_phrase_0 ts us w
type_phrase_built ts us (inr (inl w)) = type_phrase_1 ts us w
type_phrase_built ts us (inr (inr (inl w))) = type_phrase_2 ts us w
type_phrase_built ts us (inr (inr (inr (inl w)))) = type_phrase_3 ts us w
type_phrase_built ts us (inr (inr (inr (inr w)))) = absurd w

triple_0 : Built Triple 0
unfolding Grammar.term
triple_0 ts us (
  v0,
  (x0, r0),
  (t1, v1, e1, i1, (v2, (x2, r2), (t3, v3, e3, i3, (v4, (x4, r4), (t5, v5, e5, i5, (v6, (x6, r6), (t7, v7, e7, i7, e))))))),
) = (
  triple_of x0 x2 x4 x6,
  λ l k.
      join (r0 _ 0) (join (alone e1 (fit i1 tt tt))
      (join (r2 _ 0) (join (alone e3 (fit i3 tt tt))
      (join (r4 _ 0) (join (alone e5 (fit i5 tt tt)) (join (r6 _ 0) (up_to e (alone e7 (fit i7 tt tt))))))))),
)

pub triple_built : AllBuilt Triple
triple_built ts us (inl w) = triple_0 ts us w
triple_built ts us (inr w) = absurd w

term_0 : Built Term 0
unfolding Grammar.term
term_0 ts us (t0, v0, e0, i0, (v1, (x1, r1), (t2, v2, e2, i2, (v3, (x3, r3), e)))) =
    (t_fun t0.from x1 x3, λ l k. join (alone e0 (fit i0 refl tt)) (join (r1 _ 0) (join (alone e2 (fit i2 tt tt)) (up_to e (r3 _ 0)))))

term_1 : Built Term 1
unfolding Grammar.term
term_1 ts us (t0, v0, e0, i0, (t1, v1, e1, i1, (t2, v2, e2, i2, (t3, v3, e3, i3, (t4, v4, e4, i4, (v5, (x5, r5), e)))))) = (
  t_fun_mono t0.from (span_of t2) x5,
  λ l k.
      join (alone e0 (fit i0 refl tt))
      (join (alone e1 (fit i1 tt tt))
      (join (alone e2 (fit i2 tt refl)) (join (alone e3 (fit i3 tt tt)) (join (alone e4 (fit i4 tt tt)) (up_to e (r5 _ 0)))))),
)

term_2 : Built Term 2
unfolding Grammar.term
term_2 ts us (t0, v0, e0, i0, (v1, (x1, r1), e)) = (t_do t0.from x1, λ l k. join (alone e0 (fit i0 refl tt)) (up_to e (r1 _ 0)))

term_3 : Built Term 3
unfolding Grammar.term
term_3 ts us (
  t0,
  v0,
  e0,
  i0,
  (t1, v1, e1, i1, (v2, (x2, r2), (t3, v3, e3, i3, (t4, v4, e4, i4, (v5, (x5, r5), (t6, v6, e6, i6, (v7, (x7, r7), e))))))),
) = (
  t_fix t0.from (span_of t1) x2 x5 x7,
  λ l k.
      join (alone e0 (fit i0 refl tt))
      (join (alone e1 (fit i1 tt refl))
      (join (r2 _ 0) (join (alone e3 (fit i3 tt tt))
      (join (alone e4 (fit i4 tt tt)) (join (r5 _ 0) (join (alone e6 (fit i6 tt tt)) (up_to e (r7 _ 0)))))))),
)

term_4 : Built Term 4
unfolding Grammar.term
term_4 ts us (v0, (x0, r0), e) = (t_rel x0, λ l k. up_to e (r0 _ 0))

pub term_built : AllBuilt Term
term_built ts us (inl w) = term_0 ts us w
term_built ts us (inr (inl w)) = term_1 ts us w
term_built ts us (inr (inr (inl w))) = term_2 ts us w
term_built ts us (inr (inr (inr (inl w)))) = term_3 ts us w
term_built ts us (inr (inr (inr (inr (inl w))))) = term_4 ts us w
term_built ts us (inr (inr (inr (inr (inr w))))) = absurd w

parameters_0 : Built Parameters 0
unfolding Grammar.term
parameters_0 ts us e = (no_params, λ l k. nothing e)

parameters_1 : Built Parameters 1
unfolding Grammar.term
parameters_1 ts us (t0, v0, e0, i0, (v1, (x1, r1), (t2, v2, e2, i2, (v3, (x3, r3), (t4, v4, e4, i4, (v5, (x5, r5), e)))))) = (
  more_params x1 x3 x5,
  λ l k.
      join (alone e0 (fit i0 tt tt))
      (join (r1 _ 0) (join (alone e2 (fit i2 tt tt)) (join (r3 _ 0) (join (alone e4 (fit i4 tt tt)) (up_to e (r5 _ 0)))))),
)

pub parameters_built : AllBuilt Parameters
parameters_built ts us (inl w) = parameters_0 ts us w
parameters_built ts us (inr (inl w)) = parameters_1 ts us w
parameters_built ts us (inr (inr w)) = absurd w

relation_0 : Built Relation 0
unfolding Grammar.term
relation_0 ts us (v0, (x0, r0), e) = (r_sum x0, λ l k. up_to e (r0 _ 0))

relation_1 : Built Relation 1
unfolding Grammar.term
relation_1 ts us (v0, (x0, r0), (t1, v1, e1, i1, (v2, (x2, r2), e))) = (r_less x0 x2, λ l k. join (r0 _ 0) (join (alone e1 (fit i1 tt tt)) (up_to e (r2 _ 0))))

pub relation_built : AllBuilt Relation
relation_built ts us (inl w) = relation_0 ts us w
relation_built ts us (inr (inl w)) = relation_1 ts us w
relation_built ts us (inr (inr w)) = absurd w

sum_0 : Built Sum 0
unfolding Grammar.term
sum_0 ts us (v0, (x0, r0), (v1, (x1, r1), e)) = (s_sum x0 x1, λ l k. join (r0 _ 0) (up_to e (r1 _ _)))

pub sum_built : AllBuilt Sum
sum_built ts us (inl w) = sum_0 ts us w
sum_built ts us (inr w) = absurd w

sum_rest_0 : Built SumRest 0
unfolding Grammar.term
sum_rest_0 ts us e = (s_end, λ l k. nothing e)

sum_rest_1 : Built SumRest 1
unfolding Grammar.term
sum_rest_1 ts us (v0, (x0, r0), (v1, (x1, r1), (v2, (x2, r2), e))) = (s_more x0 x1 x2, λ l k. join (r0 _ 0) (join (renumbered _ (r1 _ 0)) (up_to e (r2 _ _))))

pub sum_rest_built : AllBuilt SumRest
sum_rest_built ts us (inl w) = sum_rest_0 ts us w
sum_rest_built ts us (inr (inl w)) = sum_rest_1 ts us w
sum_rest_built ts us (inr (inr w)) = absurd w

product_0 : Built Product 0
unfolding Grammar.term
product_0 ts us (v0, (x0, r0), (v1, (x1, r1), e)) = (x_prod x0 x1, λ l k. join (r0 _ 0) (up_to e (r1 _ _)))

pub product_built : AllBuilt Product
product_built ts us (inl w) = product_0 ts us w
product_built ts us (inr w) = absurd w

product_rest_0 : Built ProductRest 0
unfolding Grammar.term
product_rest_0 ts us e = (x_end, λ l k. nothing e)

product_rest_1 : Built ProductRest 1
unfolding Grammar.term
product_rest_1 ts us (v0, (x0, r0), (v1, (x1, r1), (v2, (x2, r2), e))) =
    (x_more x0 x1 x2, λ l k. join (r0 _ 0) (join (renumbered _ (r1 _ 0)) (up_to e (r2 _ _))))

pub product_rest_built : AllBuilt ProductRest
product_rest_built ts us (inl w) = product_rest_0 ts us w
product_rest_built ts us (inr (inl w)) = product_rest_1 ts us w
product_rest_built ts us (inr (inr w)) = absurd w

application_0 : Built Application 0
unfolding Grammar.term
application_0 ts us (v0, (x0, r0), (v1, (x1, r1), e)) = (l_unary x0.0 x0.1 x1, λ l k. join (r0 _ 0) (up_to e (r1 _ 0)))

application_1 : Built Application 1
unfolding Grammar.term
application_1 ts us (v0, (x0, r0), (v1, (x1, r1), e)) = (l_apply x0 x1, λ l k. join (r0 _ 0) (up_to e (r1 _ _)))

pub application_built : AllBuilt Application
application_built ts us (inl w) = application_0 ts us w
application_built ts us (inr (inl w)) = application_1 ts us w
application_built ts us (inr (inr w)) = absurd w

parts_0 : Built Parts 0
unfolding Grammar.term
parts_0 ts us e = (no_parts, λ l k. nothing e)

parts_1 : Built Parts 1
unfolding Grammar.term
parts_1 ts us (v0, (x0, r0), (v1, (x1, r1), e)) = (atom_part x0 x1, λ l k. join (renumbered _ (r0 _ 0)) (up_to e (r1 _ _)))

parts_2 : Built Parts 2
unfolding Grammar.term
parts_2 ts us (t0, v0, e0, i0, (v1, (x1, r1), (t2, v2, e2, i2, (v3, (x3, r3), e)))) = (
  mono_part x1 x3,
  λ l k. join (alone e0 (fit i0 tt tt)) (join (renumbered _ (r1 _ 0)) (join (alone e2 (fit i2 tt tt)) (up_to e (r3 _ _)))),
)

pub parts_built : AllBuilt Parts
parts_built ts us (inl w) = parts_0 ts us w
parts_built ts us (inr (inl w)) = parts_1 ts us w
parts_built ts us (inr (inr (inl w))) = parts_2 ts us w
parts_built ts us (inr (inr (inr w))) = absurd w

atom_0 : Built Atom 0
unfolding Grammar.term
atom_0 ts us (t0, v0, e0, i0, e) = (a_name (span_of t0), λ l k. up_to e (alone e0 (fit i0 tt refl)))

atom_1 : Built Atom 1
unfolding Grammar.term
atom_1 ts us (t0, v0, e0, i0, e) = (a_number t0.from i0.0, λ l k. up_to e (alone e0 (fit i0.1 refl tt)))

atom_2 : Built Atom 2
unfolding Grammar.term
atom_2 ts us (t0, v0, e0, i0, e) = (a_true t0.from, λ l k. up_to e (alone e0 (fit i0 refl tt)))

atom_3 : Built Atom 3
unfolding Grammar.term
atom_3 ts us (t0, v0, e0, i0, e) = (a_false t0.from, λ l k. up_to e (alone e0 (fit i0 refl tt)))

atom_4 : Built Atom 4
unfolding Grammar.term
atom_4 ts us (t0, v0, e0, i0, e) = (a_null t0.from, λ l k. up_to e (alone e0 (fit i0 refl tt)))

atom_5 : Built Atom 5
unfolding Grammar.term
atom_5 ts us (t0, v0, e0, i0, (t1, v1, e1, i1, e)) = (a_place t0.from i1.0, λ l k. join (alone e0 (fit i0 refl tt)) (up_to e (alone e1 (fit i1.1 tt tt))))

atom_6 : Built Atom 6
unfolding Grammar.term
atom_6 ts us (t0, v0, e0, i0, (v1, (x1, r1), (t2, v2, e2, i2, (v3, (x3, r3), (t4, v4, e4, i4, (v5, (x5, r5), (t6, v6, e6, i6, e))))))) = (
  a_eq t0.from x1 x3 x5,
  λ l k.
      join (alone e0 (fit i0 refl tt))
      (join (r1 _ 0) (join (alone e2 (fit i2 tt tt))
      (join (r3 _ 0) (join (alone e4 (fit i4 tt tt)) (join (r5 _ 0) (up_to e (alone e6 (fit i6 tt tt)))))))),
)

atom_7 : Built Atom 7
unfolding Grammar.term
atom_7 ts us (
  t0,
  v0,
  e0,
  i0,
  (v1, (x1, r1), (t2, v2, e2, i2, (v3, (x3, r3), (t4, v4, e4, i4, (v5, (x5, r5), (t6, v6, e6, i6, (v7, (x7, r7), (t8, v8, e8, i8, e)))))))),
) = (
  a_sel t0.from x1 x3 x5 x7,
  λ l k.
      join (alone e0 (fit i0 refl tt))
      (join (r1 _ 0) (join (alone e2 (fit i2 tt tt))
      (join (r3 _ 0) (join (alone e4 (fit i4 tt tt))
      (join (r5 _ 0) (join (alone e6 (fit i6 tt tt)) (join (r7 _ 0) (up_to e (alone e8 (fit i8 tt tt)))))))))),
)

atom_8 : Built Atom 8
unfolding Grammar.term
atom_8 ts us (t0, v0, e0, i0, (t1, v1, e1, i1, e)) = (a_unit t0.from, λ l k. join (alone e0 (fit i0 refl tt)) (up_to e (alone e1 (fit i1 tt tt))))

atom_9 : Built Atom 9
unfolding Grammar.term
atom_9 ts us (t0, v0, e0, i0, (v1, (x1, r1), (t2, v2, e2, i2, e))) =
    (a_brackets t0.from x1, λ l k. join (alone e0 (fit i0 refl tt)) (join (r1 _ 0) (up_to e (alone e2 (fit i2 tt tt)))))

atom_10 : Built Atom 10
unfolding Grammar.term
atom_10 ts us (t0, v0, e0, i0, (v1, (x1, r1), (t2, v2, e2, i2, (v3, (x3, r3), (t4, v4, e4, i4, e))))) = (
  a_pair t0.from x1 x3,
  λ l k.
      join (alone e0 (fit i0 refl tt)) (join (r1 _ 0) (join (alone e2 (fit i2 tt tt)) (join (r3 _ 0) (up_to e (alone e4 (fit i4 tt tt)))))),
)

atom_11 : Built Atom 11
unfolding Grammar.term
atom_11 ts us (t0, v0, e0, i0, (v1, (x1, r1), (t2, v2, e2, i2, (v3, (x3, r3), (t4, v4, e4, i4, e))))) = (
  a_annotated t0.from x1 x3,
  λ l k.
      join (alone e0 (fit i0 refl tt)) (join (r1 _ 0) (join (alone e2 (fit i2 tt tt)) (join (r3 _ 0) (up_to e (alone e4 (fit i4 tt tt)))))),
)

pub atom_built : AllBuilt Atom
atom_built ts us (inl w) = atom_0 ts us w
atom_built ts us (inr (inl w)) = atom_1 ts us w
atom_built ts us (inr (inr (inl w))) = atom_2 ts us w
atom_built ts us (inr (inr (inr (inl w)))) = atom_3 ts us w
atom_built ts us (inr (inr (inr (inr (inl w))))) = atom_4 ts us w
atom_built ts us (inr (inr (inr (inr (inr (inl w)))))) = atom_5 ts us w
atom_built ts us (inr (inr (inr (inr (inr (inr (inl w))))))) = atom_6 ts us w
atom_built ts us (inr (inr (inr (inr (inr (inr (inr (inl w)))))))) = atom_7 ts us w
atom_built ts us (inr (inr (inr (inr (inr (inr (inr (inr (inl w))))))))) = atom_8 ts us w
atom_built ts us (inr (inr (inr (inr (inr (inr (inr (inr (inr (inl w)))))))))) = atom_9 ts us w
atom_built ts us (inr (inr (inr (inr (inr (inr (inr (inr (inr (inr (inl w))))))))))) = atom_10 ts us w
atom_built ts us (inr (inr (inr (inr (inr (inr (inr (inr (inr (inr (inr (inl w)))))))))))) = atom_11 ts us w
atom_built ts us (inr (inr (inr (inr (inr (inr (inr (inr (inr (inr (inr (inr w)))))))))))) = absurd w

comp_0 : Built Comp 0
unfolding Grammar.term
comp_0 ts us (t0, v0, e0, i0, (v1, (x1, r1), e)) = (c_ret x1, λ l k. join (alone e0 (fit i0 tt tt)) (up_to e (r1 _ 0)))

comp_1 : Built Comp 1
unfolding Grammar.term
comp_1 ts us (v0, (x0, r0), (t1, v1, e1, i1, (v2, (x2, r2), (t3, v3, e3, i3, (v4, (x4, r4), e))))) = (
  c_step x0 x2 x4,
  λ l k. join (r0 _ 0) (join (alone e1 (fit i1 tt tt)) (join (r2 _ 0) (join (alone e3 (fit i3 tt tt)) (up_to e (r4 _ 0))))),
)

pub comp_built : AllBuilt Comp
comp_built ts us (inl w) = comp_0 ts us w
comp_built ts us (inr (inl w)) = comp_1 ts us w
comp_built ts us (inr (inr w)) = absurd w

step_0 : Built Step 0
unfolding Grammar.term
step_0 ts us (t0, v0, e0, i0, (v1, (x1, r1), (v2, (x2, r2), e))) = (s_alloc x1 x2, λ l k. join (alone e0 (fit i0 tt tt)) (join (r1 _ 0) (up_to e (r2 _ 0))))

step_1 : Built Step 1
unfolding Grammar.term
step_1 ts us (t0, v0, e0, i0, (v1, (x1, r1), (v2, (x2, r2), e))) = (s_get x1 x2, λ l k. join (alone e0 (fit i0 tt tt)) (join (r1 _ 0) (up_to e (r2 _ 0))))

step_2 : Built Step 2
unfolding Grammar.term
step_2 ts us (t0, v0, e0, i0, (v1, (x1, r1), (v2, (x2, r2), (v3, (x3, r3), e)))) =
    (s_set x1 x2 x3, λ l k. join (alone e0 (fit i0 tt tt)) (join (r1 _ 0) (join (r2 _ 0) (up_to e (r3 _ 0)))))

step_3 : Built Step 3
unfolding Grammar.term
step_3 ts us (t0, v0, e0, i0, (v1, (x1, r1), (v2, (x2, r2), e))) = (s_free x1 x2, λ l k. join (alone e0 (fit i0 tt tt)) (join (r1 _ 0) (up_to e (r2 _ 0))))

step_4 : Built Step 4
unfolding Grammar.term
step_4 ts us (
  t0,
  v0,
  e0,
  i0,
  (v1, (x1, r1), (v2, (x2, r2), (t3, v3, e3, i3, (v4, (x4, r4), (t5, v5, e5, i5, (t6, v6, e6, i6, (v7, (x7, r7), (t8, v8, e8, i8, e)))))))),
) = (
  s_if x1 x2 x4 x7,
  λ l k.
      join (alone e0 (fit i0 tt tt))
      (join (r1 _ 0) (join (r2 _ 0)
      (join (alone e3 (fit i3 tt tt))
      (join (r4 _ 0)
      (join (alone e5 (fit i5 tt tt)) (join (alone e6 (fit i6 tt tt)) (join (r7 _ 0) (up_to e (alone e8 (fit i8 tt tt)))))))))),
)

step_5 : Built Step 5
unfolding Grammar.term
step_5 ts us (t0, v0, e0, i0, (t1, v1, e1, i1, (v2, (x2, r2), (t3, v3, e3, i3, e)))) =
    (s_claim x2, λ l k. join (alone e0 (fit i0 tt tt)) (join (alone e1 (fit i1 tt tt)) (join (r2 _ 0) (up_to e (alone e3 (fit i3 tt tt))))))

step_6 : Built Step 6
unfolding Grammar.term
step_6 ts us (v0, (x0, r0), e) = (s_run x0, λ l k. up_to e (r0 _ 0))

pub step_built : AllBuilt Step
step_built ts us (inl w) = step_0 ts us w
step_built ts us (inr (inl w)) = step_1 ts us w
step_built ts us (inr (inr (inl w))) = step_2 ts us w
step_built ts us (inr (inr (inr (inl w)))) = step_3 ts us w
step_built ts us (inr (inr (inr (inr (inl w))))) = step_4 ts us w
step_built ts us (inr (inr (inr (inr (inr (inl w)))))) = step_5 ts us w
step_built ts us (inr (inr (inr (inr (inr (inr (inl w))))))) = step_6 ts us w
step_built ts us (inr (inr (inr (inr (inr (inr (inr w))))))) = absurd w
