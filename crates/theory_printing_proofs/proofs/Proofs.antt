-- Printed proofs are read as they were printed: a row for each form.
use Rattle.std.proofs.Common.{ℕ, suc, List, [], ◌∷◌, length, refl}
use Rattle.htt_lexer_tokens.specs.declared.tokens.Keyword.TheVariants.{IntroWord, GenWord, HaveWord, OpenWord}
use Rattle.htt_lexer_tokens.specs.declared.tokens.Keyword.TheVariants.{BothWord, LeftWord, RightWord, GiveWord}
use Rattle.htt_lexer_tokens.specs.declared.tokens.Keyword.TheVariants.{TrivialWord, ReflWord, AbsurdWord, CaseWord}
use Rattle.htt_lexer_tokens.specs.declared.tokens.Keyword.TheVariants.{RewriteWord, InductWord, SplitWord, FirstWord}
use Rattle.htt_lexer_tokens.specs.declared.tokens.Keyword.TheVariants.{SecondWord, AppWord, InstWord, AxiomWord}
use Rattle.htt_lexer_tokens.specs.declared.tokens.Keyword.TheVariants.{LemWord, TheWord}
use Rattle.htt_lexer_tokens.specs.declared.tokens.Sign.TheVariants.{OpenParenSign, CloseParenSign, OpenBracketSign}
use Rattle.htt_lexer_tokens.specs.declared.tokens.Sign.TheVariants.{CloseBracketSign, ColonSign, DotSign, EqualSign}
use Rattle.htt_syntax.specs.Trees.{ProofTree, StmtTree, BlockTree, p_hyp, p_trivial, p_refl, p_first, p_second}
use Rattle.htt_syntax.specs.Trees.{p_left, p_right, p_absurd, p_both, p_give, p_app, p_inst, p_case, p_rewrite}
use Rattle.htt_syntax.specs.Trees.{p_induct, p_split, p_axiom, p_lem, p_the, p_block, p_at, p_unfold, d_intro, d_gen}
use Rattle.htt_syntax.specs.Trees.{d_have, d_open, d_at, b_then, b_end}
use Rattle.htt_parser_trees.specs.declared.place.Binder.TheVariants as binders
use Rattle.htt_parser_trees.specs.declared.proof.UnaryRule.TheVariants as rules
use Rattle.htt_parser_trees.specs.Trees as raw
use Rattle.theory_grammar.specs.Marks.{◌⨟◌, span_of}
use Rattle.theory_grammar.specs.Grammar as grammar
use Rattle.theory_text_names.specs.Scopes.{a_term_or_heap, Scope, bytes_of}
use Rattle.theory_text.specs.Proofs as texts
use Rattle.theory_text.specs.Proofs.{args_come, inst_at, proof_comes}
use Rattle.theory_printing.specs.Pieces.{marks_of}
use Rattle.theory_printing.specs.Names.{PrintScope, name_at, hypothesis_name, with_hypothesis}
use Rattle.theory_printing.specs.Brackets.{term_form, formula_form}
use Rattle.theory_printing.specs.Proofs.{more_args, after_stmt, proof, block, stmt}
use Rattle.theory_printing_conditions.specs.Conditions.{HasTextArgs, HasTextProof, HasTextBlock, HasTextStmt}
use Rattle.theory_printing_conditions.specs.Conditions.{is_block}
use Rattle.theory_printing_tokens.specs.Spoken.{Spoken}
use Rattle.theory_printing_forms.specs.Said.{said_proof, said_block}
use Rattle.theory_printing_names.specs.Scopes.{HasPrintedNames}
use Rattle.theory_printing_forms.proofs.Meets.{go, goes_then, goes, deep, numbered, goes_space, goes_sign}
use Rattle.theory_printing_forms.proofs.Meets.{goes_word_at, goes_number, goes_name, goes_between, goes_comma}
use Rattle.theory_printing_forms.proofs.Meets.{ends_sign, ends_word_at, ends_name, ends_semicolon}
use Rattle.theory_printing_forms.proofs.Forms.{bind, any_term, any_formula}
use Rattle.theory_printing_names.proofs.Named.{under_entry, under_new_hypothesis, hypothesis_read}
use Rattle.theory_printing_forms.proofs.Leaves.{predicate}
use Rattle.theory_printing_phrases.proofs.Phrases.{read_term, read_formula}
use Rattle.theory_printing_proofs.proofs.Readings.{ReadsBlock, ProofRead, ReadsStmt, same_stmt, there, any_proof, as_end}
use Rattle.theory_printing_proofs.proofs.Readings.{end_of_block}
use Rattle.theory_printing_proofs.proofs.Lists.{read_monos, read_arg, read_more_args, read_args, read_motive}

mutual
  unfolding marks_of proof more_args HasTextProof HasTextArgs is_block said_proof after_stmt grammar.proof proof_comes args_come inst_at ◌⨟◌

  pub read_proof : {s : PrintScope} {counts : List ℕ} {r : Scope}
      → HasPrintedNames s counts r
      → (p : ProofTree)
      → HasTextProof counts s p
      → (l : ℕ) (v : Spoken r.text (proof s p))
      → ProofRead r l (proof s p) v (said_proof p) (is_block p)
  read_proof {s} {counts} {r} names (p_hyp number) has l v =
      record {
        natural = record {
          tree = raw.e_name (span_of v.token);
          meets = ends_name r.text l (hypothesis_name number) v;
          given = p_at v.token.from (p_hyp number);
          comes = bind _ (hypothesis_read number (span_of v.token) names has v.bytes) refl;
          same = refl;
        };
      }
  read_proof {s} {counts} {r} names p_trivial has l v =
      record {
        natural = record {
          tree = raw.e_trivial v.token.from;
          meets = ends_word_at r.text l TrivialWord v;
          given = p_at v.token.from p_trivial;
          comes = refl;
          same = refl;
        };
      }
  read_proof {s} {counts} {r} names p_refl has l v =
      record {
        natural = record {
          tree = raw.e_refl v.token.from;
          meets = ends_word_at r.text l ReflWord v;
          given = p_at v.token.from p_refl;
          comes = refl;
          same = refl;
        };
      }
  read_proof {s} {counts} {r} names (p_first p) has l v =
      let first = any_proof (is_block p) (read_proof names p has (suc l) v.1.1.0) in
      record {
        natural = record {
          tree = raw.e_unary v.0.token.from rules.First first.tree;
          meets =
              go (goes_word_at r.text l FirstWord v.0)
              (go (goes_sign r.text l OpenParenSign v.1.0) (go (goes (deep (first.meets))) (ends_sign r.text l CloseParenSign v.1.1.1)));
          given = p_at v.0.token.from (p_first first.given);
          comes = bind _ first.comes refl;
          same = λ i. p_first (first.same i);
        };
      }
  read_proof {s} {counts} {r} names (p_second p) has l v =
      let first = any_proof (is_block p) (read_proof names p has (suc l) v.1.1.0) in
      record {
        natural = record {
          tree = raw.e_unary v.0.token.from rules.Second first.tree;
          meets =
              go (goes_word_at r.text l SecondWord v.0)
              (go (goes_sign r.text l OpenParenSign v.1.0) (go (goes (deep (first.meets))) (ends_sign r.text l CloseParenSign v.1.1.1)));
          given = p_at v.0.token.from (p_second first.given);
          comes = bind _ first.comes refl;
          same = λ i. p_second (first.same i);
        };
      }
  read_proof {s} {counts} {r} names (p_left p) has l v =
      let first = any_proof (is_block p) (read_proof names p has (suc l) v.1.1.0) in
      record {
        natural = record {
          tree = raw.e_unary v.0.token.from rules.Left first.tree;
          meets =
              go (goes_word_at r.text l LeftWord v.0)
              (go (goes_sign r.text l OpenParenSign v.1.0) (go (goes (deep (first.meets))) (ends_sign r.text l CloseParenSign v.1.1.1)));
          given = p_at v.0.token.from (p_left first.given);
          comes = bind _ first.comes refl;
          same = λ i. p_left (first.same i);
        };
      }
  read_proof {s} {counts} {r} names (p_right p) has l v =
      let first = any_proof (is_block p) (read_proof names p has (suc l) v.1.1.0) in
      record {
        natural = record {
          tree = raw.e_unary v.0.token.from rules.Right first.tree;
          meets =
              go (goes_word_at r.text l RightWord v.0)
              (go (goes_sign r.text l OpenParenSign v.1.0) (go (goes (deep (first.meets))) (ends_sign r.text l CloseParenSign v.1.1.1)));
          given = p_at v.0.token.from (p_right first.given);
          comes = bind _ first.comes refl;
          same = λ i. p_right (first.same i);
        };
      }
  read_proof {s} {counts} {r} names (p_absurd p) has l v =
      let first = any_proof (is_block p) (read_proof names p has (suc l) v.1.1.0) in
      record {
        natural = record {
          tree = raw.e_unary v.0.token.from rules.Absurd first.tree;
          meets =
              go (goes_word_at r.text l AbsurdWord v.0)
              (go (goes_sign r.text l OpenParenSign v.1.0) (go (goes (deep (first.meets))) (ends_sign r.text l CloseParenSign v.1.1.1)));
          given = p_at v.0.token.from (p_absurd first.given);
          comes = bind _ first.comes refl;
          same = λ i. p_absurd (first.same i);
        };
      }
  read_proof {s} {counts} {r} names (p_both p q) has l v =
      let first = any_proof (is_block p) (read_proof names p has.0 (suc l) v.1.1.0.0) in
      let second = any_proof (is_block q) (read_proof names q has.1 (suc l) v.1.1.0.1.1) in
      record {
        natural = record {
          tree = raw.e_both v.0.token.from first.tree second.tree;
          meets =
              go (goes_word_at r.text l BothWord v.0)
              (go (goes_sign r.text l OpenParenSign v.1.0)
              (go (goes_then (goes (deep (first.meets))) (goes_then (goes_comma r.text l v.1.1.0.1.0) (goes (deep (second.meets)))))
              (ends_sign r.text l CloseParenSign v.1.1.1)));
          given = p_at v.0.token.from (p_both first.given second.given);
          comes = bind _ first.comes (bind _ second.comes refl);
          same = λ i. p_both (first.same i) (second.same i);
        };
      }
  read_proof {s} {counts} {r} names (p_give a p) has l v =
      let left_heap = read_arg names a has.0 l v.1.1.0.0 in
      let first = any_proof (is_block p) (read_proof names p has.1 (suc l) v.1.1.0.1.1) in
      record {
        natural = record {
          tree = raw.e_give v.0.token.from left_heap.tree first.tree;
          meets =
              go (goes_word_at r.text l GiveWord v.0)
              (go (goes_sign r.text l OpenParenSign v.1.0)
              (go (goes_then (goes (left_heap.meets)) (goes_then (goes_comma r.text l v.1.1.0.1.0) (goes (deep (first.meets)))))
              (ends_sign r.text l CloseParenSign v.1.1.1)));
          given = p_at v.0.token.from (p_give left_heap.given first.given);
          comes = bind _ left_heap.comes (bind _ first.comes refl);
          same = λ i. p_give (left_heap.same i) (first.same i);
        };
      }
  read_proof {s} {counts} {r} names (p_app p q) has l v =
      let first = any_proof (is_block p) (read_proof names p has.0 (suc l) v.1.1.0.0) in
      let second = any_proof (is_block q) (read_proof names q has.1 (suc l) v.1.1.0.1.1) in
      record {
        natural = record {
          tree = raw.e_app v.0.token.from first.tree second.tree raw.no_proofs;
          meets =
              go (goes_word_at r.text l AppWord v.0)
              (go (goes_sign r.text l OpenParenSign v.1.0)
              (go
              (goes_then (goes (deep (first.meets))) (goes_then (goes_comma r.text l v.1.1.0.1.0) (goes (numbered 2 (deep (second.meets))))))
              (ends_sign r.text l CloseParenSign v.1.1.1)));
          given = p_at v.0.token.from (p_app first.given second.given);
          comes = bind _ first.comes (bind _ second.comes refl);
          same = λ i. p_app (first.same i) (second.same i);
        };
      }
  read_proof {s} {counts} {r} names (p_inst p a) has l v =
      let first = any_proof (is_block p) (read_proof names p has.0 (suc l) v.1.1.0.0) in
      let left_heap = read_arg names a has.1 l v.1.1.0.1.1 in
      record {
        natural = record {
          tree = raw.e_inst v.0.token.from first.tree left_heap.tree [];
          meets =
              go (goes_word_at r.text l InstWord v.0)
              (go (goes_sign r.text l OpenParenSign v.1.0)
              (go (goes_then (goes (deep (first.meets))) (goes_then (goes_comma r.text l v.1.1.0.1.0) (goes (numbered 2 (left_heap.meets)))))
              (ends_sign r.text l CloseParenSign v.1.1.1)));
          given = p_at v.0.token.from (p_inst first.given left_heap.given);
          comes = bind _ first.comes (bind _ left_heap.comes (bind _ refl refl));
          same = λ i. p_inst (first.same i) (left_heap.same i);
        };
      }
  read_proof {s} {counts} {r} names (p_case p q o) has l v =
      let first = any_proof (is_block p) (read_proof names p has.0 (suc l) v.1.1.0.0) in
      let second =
      any_proof (is_block q)
      (read_proof (under_new_hypothesis (span_of v.1.1.0.1.1.0.token) v.1.1.0.1.1.0.bytes names) q has.1 (suc l) v.1.1.0.1.1.1.1.0) in
      let third =
      any_proof (is_block o) (read_proof (under_new_hypothesis (span_of v.1.1.0.1.1.1.1.1.1.0.token) v.1.1.0.1.1.1.1.1.1.0.bytes names) o
      has.2 (suc l) v.1.1.0.1.1.1.1.1.1.1.1) in
      record {
        natural = record {
          tree = raw.e_case v.0.token.from first.tree (span_of v.1.1.0.1.1.0.token) second.tree (span_of v.1.1.0.1.1.1.1.1.1.0.token) third.tree;
          meets =
              go (goes_word_at r.text l CaseWord v.0)
              (go (goes_sign r.text l OpenParenSign v.1.0)
              (go (goes_then (goes (deep (first.meets)))
              (goes_then (goes_comma r.text l v.1.1.0.1.0)
              (goes_then (goes_name r.text l (hypothesis_name s.hypotheses) v.1.1.0.1.1.0)
              (goes_then (goes_between r.text l DotSign v.1.1.0.1.1.1.0)
              (goes_then (goes (deep (second.meets)))
              (goes_then (goes_comma r.text l v.1.1.0.1.1.1.1.1.0)
              (goes_then (goes_name r.text l (hypothesis_name s.hypotheses) v.1.1.0.1.1.1.1.1.1.0)
              (goes_then (goes_between r.text l DotSign v.1.1.0.1.1.1.1.1.1.1.0) (goes (deep (third.meets)))))))))))
              (ends_sign r.text l CloseParenSign v.1.1.1)));
          given = p_at v.0.token.from (p_case first.given second.given third.given);
          comes = bind _ first.comes (bind _ second.comes (bind _ third.comes refl));
          same = λ i. p_case (first.same i) (second.same i) (third.same i);
        };
      }
  read_proof {s} {counts} {r} names (p_rewrite p C q) has l v =
      let first = any_proof (is_block p) (read_proof names p has.0 (suc l) v.1.1.0.0) in
      let motive_read = read_motive names C has.1 l v.1.1.0.1.1.0 in
      let second = any_proof (is_block q) (read_proof names q has.2 (suc l) v.1.1.0.1.1.1.1) in
      record {
        natural = record {
          tree = raw.e_rewrite v.0.token.from first.tree motive_read.tree second.tree;
          meets =
              go (goes_word_at r.text l RewriteWord v.0)
              (go (goes_sign r.text l OpenParenSign v.1.0)
              (go (goes_then (goes (deep (first.meets)))
              (goes_then (goes_comma r.text l v.1.1.0.1.0)
              (goes_then (goes (motive_read.meets)) (goes_then (goes_comma r.text l v.1.1.0.1.1.1.0) (goes (deep (second.meets)))))))
              (ends_sign r.text l CloseParenSign v.1.1.1)));
          given = p_at v.0.token.from (p_rewrite first.given motive_read.given second.given);
          comes = bind _ first.comes (bind _ motive_read.comes (bind _ second.comes refl));
          same = λ i. p_rewrite (first.same i) (motive_read.same i) (second.same i);
        };
      }
  read_proof {s} {counts} {r} names (p_induct C M p q) has l v =
      let motive_read = read_motive names C has.0 l v.1.1.0.0 in
      let m = any_term (term_form M) (read_term names M has.1 (suc l) v.1.1.0.1.1.0) in
      let first = any_proof (is_block p) (read_proof names p has.2 (suc l) v.1.1.0.1.1.1.1.0) in
      let second =
      any_proof (is_block q) (read_proof
      (under_new_hypothesis (span_of v.1.1.0.1.1.1.1.1.1.1.1.1.1.0.token) v.1.1.0.1.1.1.1.1.1.1.1.1.1.0.bytes
      (under_new_hypothesis (span_of v.1.1.0.1.1.1.1.1.1.1.1.0.token) v.1.1.0.1.1.1.1.1.1.1.1.0.bytes
      (under_entry a_term_or_heap (span_of v.1.1.0.1.1.1.1.1.1.0.token) refl v.1.1.0.1.1.1.1.1.1.0.bytes names))) q has.3 (suc l)
      v.1.1.0.1.1.1.1.1.1.1.1.1.1.1.1) in
      record {
        natural = record {
          tree =
              raw.e_induct v.0.token.from motive_read.tree m.tree first.tree (binders.Name (span_of v.1.1.0.1.1.1.1.1.1.0.token))
              (span_of v.1.1.0.1.1.1.1.1.1.1.1.0.token) (span_of v.1.1.0.1.1.1.1.1.1.1.1.1.1.0.token) second.tree;
          meets =
              go (goes_word_at r.text l InductWord v.0)
              (go (goes_sign r.text l OpenParenSign v.1.0)
              (go (goes_then (goes (motive_read.meets))
              (goes_then (goes_comma r.text l v.1.1.0.1.0)
              (goes_then (goes (deep (m.meets)))
              (goes_then (goes_comma r.text l v.1.1.0.1.1.1.0)
              (goes_then (goes (deep (first.meets)))
              (goes_then (goes_comma r.text l v.1.1.0.1.1.1.1.1.0)
              (goes_then (goes_name r.text l (name_at a_term_or_heap (length s.entries)) v.1.1.0.1.1.1.1.1.1.0)
              (goes_then (goes_space r.text l v.1.1.0.1.1.1.1.1.1.1.0)
              (goes_then (goes_name r.text l (hypothesis_name s.hypotheses) v.1.1.0.1.1.1.1.1.1.1.1.0)
              (goes_then (goes_space r.text l v.1.1.0.1.1.1.1.1.1.1.1.1.0)
              (goes_then (goes_name r.text l (hypothesis_name (with_hypothesis s).hypotheses) v.1.1.0.1.1.1.1.1.1.1.1.1.1.0)
              (goes_then (goes_between r.text l DotSign v.1.1.0.1.1.1.1.1.1.1.1.1.1.1.0) (goes (deep (second.meets)))))))))))))))
              (ends_sign r.text l CloseParenSign v.1.1.1)));
          given = p_at v.0.token.from (p_induct motive_read.given m.given first.given second.given);
          comes = bind _ motive_read.comes (bind _ m.comes (bind _ first.comes (bind _ second.comes refl)));
          same = λ i. p_induct (motive_read.same i) (m.same i) (first.same i) (second.same i);
        };
      }
  read_proof {s} {counts} {r} names (p_split C M p q) has l v =
      let motive_read = read_motive names C has.0 l v.1.1.0.0 in
      let m = any_term (term_form M) (read_term names M has.1 (suc l) v.1.1.0.1.1.0) in
      let first = any_proof (is_block p) (read_proof names p has.2 (suc l) v.1.1.0.1.1.1.1.0) in
      let second = any_proof (is_block q) (read_proof names q has.3 (suc l) v.1.1.0.1.1.1.1.1.1) in
      record {
        natural = record {
          tree = raw.e_split v.0.token.from motive_read.tree m.tree first.tree second.tree;
          meets =
              go (goes_word_at r.text l SplitWord v.0)
              (go (goes_sign r.text l OpenParenSign v.1.0)
              (go (goes_then (goes (motive_read.meets))
              (goes_then (goes_comma r.text l v.1.1.0.1.0)
              (goes_then (goes (deep (m.meets)))
              (goes_then (goes_comma r.text l v.1.1.0.1.1.1.0)
              (goes_then (goes (deep (first.meets))) (goes_then (goes_comma r.text l v.1.1.0.1.1.1.1.1.0) (goes (deep (second.meets)))))))))
              (ends_sign r.text l CloseParenSign v.1.1.1)));
          given = p_at v.0.token.from (p_split motive_read.given m.given first.given second.given);
          comes = bind _ motive_read.comes (bind _ m.comes (bind _ first.comes (bind _ second.comes refl)));
          same = λ i. p_split (motive_read.same i) (m.same i) (first.same i) (second.same i);
        };
      }
  read_proof {s} {counts} {r} names (p_axiom c ts more) has l v =
      let ts = read_monos names ts has.1 l v.1.1.1.0 in
      let arguments = read_args names more has.2 l v.1.1.1.1.1.0 in
      record {
        natural = record {
          tree = raw.e_axiom v.0.token.from (span_of v.1.1.0.token) ts.tree arguments.tree;
          meets =
              go (goes_word_at r.text l AxiomWord v.0)
              (go (goes_space r.text l v.1.0)
              (go (goes_name r.text l c v.1.1.0)
              (go (goes (ts.meets)) (go (goes_sign r.text l OpenParenSign v.1.1.1.1.0)
              (go (goes (arguments.meets)) (ends_sign r.text l CloseParenSign v.1.1.1.1.1.1))))));
          given = p_at v.0.token.from (p_axiom (bytes_of r.text (span_of v.1.1.0.token)) ts.given arguments.given);
          comes = bind _ ts.comes (bind _ arguments.comes refl);
          same = λ i. p_axiom (v.1.1.0.bytes i) (ts.same i) (arguments.same i);
        };
      }
  read_proof {s} {counts} {r} names (p_unfold number at_next []) has l v =
      absurd has.2
  read_proof {s} {counts} {r} names (p_unfold number at_next (a ∷ others)) has l v =
      let rec = predicate l number names has.0 v.1.1.0 in
      let first = read_arg names a has.3.0 l v.1.1.1.1.1.1.0.0 in
      let rest = read_more_args names others has.3.1 l v.1.1.1.1.1.1.0.1 in
      record {
        natural = record {
          tree = raw.e_unfold v.0.token.from rec.span at_next first.tree rest.tree;
          meets =
              go (goes_word_at r.text l AxiomWord v.0)
              (go (goes_space r.text l v.1.0)
              (go (goes rec.meets) (go (goes_sign r.text l DotSign v.1.1.1.0) (go (goes_number r.text l at_next v.1.1.1.1.0)
              (go (goes_sign r.text l OpenParenSign v.1.1.1.1.1.0)
              (go (goes (go (goes first.meets) rest.meets)) (ends_sign r.text l CloseParenSign v.1.1.1.1.1.1.1)))))));
          given = p_at v.0.token.from (p_unfold number at_next (first.given ∷ rest.given));
          comes = bind _ rec.comes (bind _ first.comes (bind _ rest.comes refl));
          same = λ i. p_unfold number at_next (first.same i ∷ rest.same i);
        };
      }
  read_proof {s} {counts} {r} names (p_lem F) has l v =
      let f = any_formula (formula_form F) (read_formula names F has (suc l) v.1.1.0) in
      record {
        natural = record {
          tree = raw.e_lem v.0.token.from f.tree;
          meets =
              go (goes_word_at r.text l LemWord v.0)
              (go (goes_sign r.text l OpenBracketSign v.1.0) (go (goes (deep (f.meets))) (ends_sign r.text l CloseBracketSign v.1.1.1)));
          given = p_at v.0.token.from (p_lem f.given);
          comes = bind _ f.comes refl;
          same = λ i. p_lem (f.same i);
        };
      }
  read_proof {s} {counts} {r} names (p_the F p) has l v =
      let f = any_formula (formula_form F) (read_formula names F has.0 (suc l) v.1.0.1.0) in
      let first = any_proof (is_block p) (read_proof names p has.1 (suc l) v.1.1.1.0) in
      record {
        natural = record {
          tree = raw.e_the v.0.token.from f.tree first.tree;
          meets =
              go (goes_word_at r.text l TheWord v.0)
              (go (goes_then (goes_sign r.text l OpenBracketSign v.1.0.0)
              (goes_then (goes (deep (f.meets))) (goes_sign r.text l CloseBracketSign v.1.0.1.1)))
              (go (goes_sign r.text l OpenParenSign v.1.1.0) (go (goes (deep (first.meets))) (ends_sign r.text l CloseParenSign v.1.1.1.1))));
          given = p_at v.0.token.from (p_the f.given first.given);
          comes = bind _ f.comes (bind _ first.comes refl);
          same = λ i. p_the (f.same i) (first.same i);
        };
      }
  read_proof {s} {counts} {r} names (p_block (b_then d b)) has l v =
      let first = read_stmt names d has.1.0 l v.0 in
      let rest = read_block first.names b has.1.1 l v.1 in
      record {
        natural = record {
          tree = raw.p_step first.tree rest.tree;
          meets = go (goes first.meets) rest.meets;
          given = p_block (b_then first.given rest.given);
          comes = bind _ first.comes (bind _ (there rest.tree first.is rest.comes) refl);
          same = λ i. p_block (b_then (first.same i) (rest.same i));
        };
      }
  read_proof {s} {counts} {r} names (p_block (b_end p)) has l v =
      absurd has.0
  read_proof {s} {counts} {r} names (p_at at p) has l v =
      read_proof names p has l v

  read_block : {s : PrintScope} {counts : List ℕ} {r : Scope}
      → HasPrintedNames s counts r
      → (b : BlockTree)
      → HasTextBlock counts s b
      → (l : ℕ) (v : Spoken r.text (block s b))
      → ReadsBlock r l (block s b) v (said_block b)
  read_block {s} {counts} {r} names (b_then d b) has l v =
      let first = read_stmt names d has.0 l v.0 in
      let rest = read_block first.names b has.1 l v.1 in
      record {
        tree = raw.p_step first.tree rest.tree;
        meets = go (goes first.meets) rest.meets;
        given = b_then first.given rest.given;
        comes = bind _ first.comes (bind _ (there rest.tree first.is rest.comes) refl);
        same = λ i. b_then (first.same i) (rest.same i);
      }
  read_block {s} {counts} {r} names (b_end p) has l v =
      end_of_block r (as_end has.0 (read_proof names p has.1 l v))

  read_stmt : {s : PrintScope} {counts : List ℕ} {r : Scope}
      → HasPrintedNames s counts r
      → (d : StmtTree)
      → HasTextStmt counts s d
      → (l : ℕ) (v : Spoken r.text (stmt s d))
      → ReadsStmt s counts r l d (stmt s d) v
  read_stmt {s} {counts} {r} names d_intro has l v =
      record {
        tree = raw.b_intro v.0.token.from (span_of v.1.1.0.token);
        meets =
            go (goes_word_at r.text l IntroWord v.0)
            (go (goes_space r.text l v.1.0)
            (go (goes_name r.text l (hypothesis_name s.hypotheses) v.1.1.0) (ends_semicolon r.text l v.1.1.1)));
        given = d_at v.0.token.from d_intro;
        comes = refl;
        same = refl;
        locals = (texts.after_stmt r (raw.b_intro v.0.token.from (span_of v.1.1.0.token))).locals;
        current = (texts.after_stmt r (raw.b_intro v.0.token.from (span_of v.1.1.0.token))).current;
        is = refl;
        names = under_new_hypothesis (span_of v.1.1.0.token) v.1.1.0.bytes names;
      }
  read_stmt {s} {counts} {r} names d_gen has l v =
      record {
        tree = raw.b_gen v.0.token.from (binders.Name (span_of v.1.1.0.token));
        meets =
            go (goes_word_at r.text l GenWord v.0)
            (go (goes_space r.text l v.1.0)
            (go (goes_name r.text l (name_at a_term_or_heap (length s.entries)) v.1.1.0) (ends_semicolon r.text l v.1.1.1)));
        given = d_at v.0.token.from d_gen;
        comes = refl;
        same = refl;
        locals = (texts.after_stmt r (raw.b_gen v.0.token.from (binders.Name (span_of v.1.1.0.token)))).locals;
        current = (texts.after_stmt r (raw.b_gen v.0.token.from (binders.Name (span_of v.1.1.0.token)))).current;
        is = refl;
        names = under_entry a_term_or_heap (span_of v.1.1.0.token) refl v.1.1.0.bytes names;
      }
  read_stmt {s} {counts} {r} names (d_have F p) has l v =
      let f = any_formula (formula_form F) (read_formula names F has.0 (suc l) v.1.1.1.1.0.1.0) in
      let first = any_proof (is_block p) (read_proof names p has.1 (suc l) v.1.1.1.1.1.1.0) in
      record {
        tree = raw.b_have v.0.token.from (span_of v.1.1.0.token) f.tree first.tree;
        meets =
            go (goes_word_at r.text l HaveWord v.0)
            (go (goes_space r.text l v.1.0)
            (go (goes_name r.text l (hypothesis_name s.hypotheses) v.1.1.0)
            (go (goes_between r.text l ColonSign v.1.1.1.0)
            (go (goes_then (goes_sign r.text l OpenBracketSign v.1.1.1.1.0.0)
            (goes_then (goes (deep (f.meets))) (goes_sign r.text l CloseBracketSign v.1.1.1.1.0.1.1)))
            (go (goes_between r.text l EqualSign v.1.1.1.1.1.0)
            (go (goes (deep (first.meets))) (ends_semicolon r.text l v.1.1.1.1.1.1.1)))))));
        given = d_at v.0.token.from (d_have f.given first.given);
        comes = bind _ f.comes (bind _ first.comes refl);
        same = λ i. d_have (f.same i) (first.same i);
        locals = (texts.after_stmt r (raw.b_have v.0.token.from (span_of v.1.1.0.token) f.tree first.tree)).locals;
        current = (texts.after_stmt r (raw.b_have v.0.token.from (span_of v.1.1.0.token) f.tree first.tree)).current;
        is = refl;
        names = under_new_hypothesis (span_of v.1.1.0.token) v.1.1.0.bytes names;
      }
  read_stmt {s} {counts} {r} names (d_open p) has l v =
      let first = any_proof (is_block p) (read_proof names p has (suc l) v.1.1.1.1.1.1.0) in
      record {
        tree = raw.b_open v.0.token.from (binders.Name (span_of v.1.1.0.token)) (span_of v.1.1.1.1.0.token) first.tree;
        meets =
            go (goes_word_at r.text l OpenWord v.0)
            (go (goes_space r.text l v.1.0)
            (go (goes_name r.text l (name_at a_term_or_heap (length s.entries)) v.1.1.0)
            (go (goes_space r.text l v.1.1.1.0)
            (go (goes_name r.text l (hypothesis_name s.hypotheses) v.1.1.1.1.0)
            (go (goes_between r.text l EqualSign v.1.1.1.1.1.0)
            (go (goes (deep (first.meets))) (ends_semicolon r.text l v.1.1.1.1.1.1.1)))))));
        given = d_at v.0.token.from (d_open first.given);
        comes = bind _ first.comes refl;
        same = λ i. d_open (first.same i);
        locals = (texts.after_stmt r (raw.b_open v.0.token.from (binders.Name (span_of v.1.1.0.token)) (span_of v.1.1.1.1.0.token) first.tree)).locals;
        current = (texts.after_stmt r (raw.b_open v.0.token.from (binders.Name (span_of v.1.1.0.token)) (span_of v.1.1.1.1.0.token) first.tree)).current;
        is = refl;
        names =
            under_new_hypothesis (span_of v.1.1.1.1.0.token) v.1.1.1.1.0.bytes
            (under_entry a_term_or_heap (span_of v.1.1.0.token) refl v.1.1.0.bytes names);
      }
  read_stmt {s} {counts} {r} names (d_at at d) has l v =
      same_stmt (read_stmt names d has l v)
