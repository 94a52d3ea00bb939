-- Printed types, terms, computations and formulas are read as they were printed: a row for each form.
use Rattle.std.proofs.Common.{◌≡◌, ℕ, zero, suc, ◌+◌, List, [], ◌∷◌, ◌++◌, length, true, false, refl, sym, ◌∙◌, ap, subst}
use Rattle.std.specs.Prelude.{None}
use Rattle.htt_lexer_tokens.specs.declared.tokens.Keyword.TheVariants.{WordWord, BoolWord, LocWord, UnitWord, HeapWord, FunWord, DoWord, FixWord, RetWord}
use Rattle.htt_lexer_tokens.specs.declared.tokens.Keyword.TheVariants.{AllocWord}
use Rattle.htt_lexer_tokens.specs.declared.tokens.Keyword.TheVariants.{GetWord, SetWord, FreeWord, IfWord, ClaimWord, TrueWord, FalseWord, FstWord, SndWord}
use Rattle.htt_lexer_tokens.specs.declared.tokens.Keyword.TheVariants.{NotWord}
use Rattle.htt_lexer_tokens.specs.declared.tokens.Keyword.TheVariants.{EqWord, SelWord, TtWord, FfWord, AllWord, ExWord, CapitalEmpWord, CellWord, BlockWord}
use Rattle.htt_lexer_tokens.specs.declared.tokens.Keyword.TheVariants.{JoinWord, SameWord}
use Rattle.htt_lexer_tokens.specs.declared.tokens.Sign.TheVariants.{OpenParenSign, CloseParenSign, OpenBracketSign, CloseBracketSign, OpenBraceSign}
use Rattle.htt_lexer_tokens.specs.declared.tokens.Sign.TheVariants.{CloseBraceSign}
use Rattle.htt_lexer_tokens.specs.declared.tokens.Sign.TheVariants.{ColonSign, DotSign, EqualSign, ImpliesSign, ArrowSign, LeftArrowSign, StarSign, AndSign}
use Rattle.htt_lexer_tokens.specs.declared.tokens.Sign.TheVariants.{OrSign, AtSign, BangSign, SemicolonSign}
use Rattle.htt_syntax.specs.Trees.{MonoTree, TyTree, TripleTree, TermTree, FixTree, CompTree, StepTree, FormulaTree, TermTrees, m_word, m_bool, m_loc, m_unit}
use Rattle.htt_syntax.specs.Trees.{m_pair, m_var}
use Rattle.htt_syntax.specs.Trees.{y_mono, y_fun, y_all, y_hoare, y_at, triple, t_var, t_val, t_def, t_app, t_inst, t_lam, t_lam_t, t_do, t_fix, t_word, t_bool}
use Rattle.htt_syntax.specs.Trees.{t_loc}
use Rattle.htt_syntax.specs.Trees.{t_unit, t_pair, t_fst, t_snd, t_not, t_bin, t_eq, t_sel, t_ann, t_made, t_at, x_param, x_body, c_ret, c_step, s_run, s_alloc}
use Rattle.htt_syntax.specs.Trees.{s_get}
use Rattle.htt_syntax.specs.Trees.{s_set, s_free, s_if, s_claim, f_tt, f_ff, f_and, f_or, f_imp, f_all_t, f_ex_t, f_all_h, f_ex_h, f_emp, f_cell, f_block}
use Rattle.htt_syntax.specs.Trees.{f_join}
use Rattle.htt_syntax.specs.Trees.{f_same, f_eq, f_at, f_rec, no_terms, more_terms}
use Rattle.htt_parser_trees.specs.declared.place.Span.{Span}
use Rattle.htt_parser_trees.specs.declared.place.Binder.TheVariants as binders
use Rattle.htt_parser_trees.specs.declared.mono.MonoName.TheVariants as mono_names
use Rattle.htt_parser_trees.specs.declared.tree.UnaryWord.TheVariants as unary_words
use Rattle.htt_parser_trees.specs.Trees as raw
use Rattle.theory_grammar.specs.Marks as marks
use Rattle.theory_grammar.specs.Marks.{◌⨟◌, span_of}
use Rattle.theory_grammar.specs.Grammar as grammar
use Rattle.theory_text_names.specs.Scopes.{a_mono, a_term, a_heap, Scope, bytes_of, under_name}
use Rattle.theory_text.specs.Bytes.{byte_of_mono, byte_of_fatom, byte_of_rel}
use Rattle.theory_text.specs.Monotypes.{factor_comes, mono_comes}
use Rattle.theory_text.specs.Phrases.{term_comes, count_of}
use Rattle.theory_printing.specs.Pieces.{marks_of}
use Rattle.theory_printing.specs.Names.{PrintScope, name_at}
use Rattle.theory_printing.specs.Brackets.{mono_form, term_form, formula_form}
use Rattle.theory_printing.specs.Phrases.{mono, arguments_of, under_params, ty, spec, term, fix, comp, step, formula, arguments, more_arguments, op_sign}
use Rattle.theory_printing_conditions.specs.Conditions.{terms_in, HasTextMono, HasTextTy, HasTextSpec, HasTextTerm, HasTextFix, HasTextComp, HasTextStep}
use Rattle.theory_printing_conditions.specs.Conditions.{HasTextFormula, HasTextTerms}
use Rattle.theory_printing_tokens.specs.Spoken.{Spoken}
use Rattle.theory_printing_forms.specs.Readings.{MonoRead, TermRead, FormulaRead, ReadsTy}
use Rattle.theory_printing_forms.specs.Said.{said_ty, said_triple, said_term, said_fix, said_comp, said_step, said_formula, said_terms}
use Rattle.theory_printing_names.specs.Scopes.{HasPrintedNames}
use Rattle.theory_printing_forms.proofs.Meets.{go, goes_then, goes, deep, numbered, goes_space, goes_sign, goes_sign_at, goes_word, goes_word_at, goes_name}
use Rattle.theory_printing_forms.proofs.Meets.{goes_between, goes_comma}
use Rattle.theory_printing_forms.proofs.Meets.{ends_sign, ends_word_at, ends_number_at}
use Rattle.theory_printing_forms.proofs.Forms.{bind, any_mono, factor_at, any_term, atom_at, head_at, run_at, side_at}
use Rattle.theory_printing_forms.proofs.Forms.{any_formula, fatom_at}
use Rattle.theory_printing_names.proofs.Named.{under_entry, under_own_mem, under_own_heaps}
use Rattle.theory_printing_forms.proofs.Leaves.{mono_entry, term_entry, heap_entry, value, predicate}
use Rattle.theory_printing_forms.proofs.Chains.{ReadsSpec, ReadsFix, ReadsComp, ReadsStep, ReadsTerms, place_read, operation, applied, instantiated}
use Rattle.theory_printing_forms.proofs.Chains.{regrouped, no_terms_meet, right_number, some_same}

pub read_mono : {s : PrintScope} {counts : List ℕ} {r : Scope}
    → HasPrintedNames s counts r
    → (t : MonoTree)
    → HasTextMono counts s t
    → (l : ℕ) (v : Spoken r.text (mono s t))
    → MonoRead r l (mono s t) v t (mono_form t)
unfolding marks_of mono HasTextMono grammar.mono mono_comes ◌⨟◌
read_mono {s} {counts} {r} names m_word has l v = record {
  natural = record {
    tree = raw.m_name (mono_names.Word v.token.from);
    meets = ends_word_at r.text l WordWord v;
    given = m_word;
    comes = refl;
    same = refl;
  };
}
read_mono {s} {counts} {r} names m_bool has l v = record {
  natural = record {
    tree = raw.m_name (mono_names.Bool v.token.from);
    meets = ends_word_at r.text l BoolWord v;
    given = m_bool;
    comes = refl;
    same = refl;
  };
}
read_mono {s} {counts} {r} names m_loc has l v = record {
  natural = record {
    tree = raw.m_name (mono_names.Loc v.token.from);
    meets = ends_word_at r.text l LocWord v;
    given = m_loc;
    comes = refl;
    same = refl;
  };
}
read_mono {s} {counts} {r} names m_unit has l v = record {
  natural = record {
    tree = raw.m_name (mono_names.Unit v.token.from);
    meets = ends_word_at r.text l UnitWord v;
    given = m_unit;
    comes = refl;
    same = refl;
  };
}
read_mono {s} {counts} {r} names (m_pair t u) has l v =
    let left = factor_at (mono_form t) (λ w. read_mono names t has.0 l w) v.0 in
    let right = factor_at (mono_form u) (λ w. read_mono names u has.1 (suc l) w) v.1.1 in
    record {
      natural = record {
        tree = raw.m_pair left.tree (raw.m_factor right.tree);
        meets = go (goes left.meets) (go (goes_between r.text l StarSign v.1.0) (deep right.meets));
        given = m_pair left.given right.given;
        comes = bind _ left.comes (bind _ right.comes refl);
        same = λ i. m_pair (left.same i) (right.same i);
      };
    }
read_mono names (m_var index) has l v = record { natural = mono_entry l index names has v }

mutual
  unfolding marks_of term HasTextTerm terms_in count_of arguments_of term_form formula_form under_params said_term grammar.mono grammar.term mono_comes term_comes ◌⨟◌

  pub read_ty : {s : PrintScope} {counts : List ℕ} {r : Scope}
      → HasPrintedNames s counts r
      → (A : TyTree)
      → HasTextTy counts s A
      → (l : ℕ) (v : Spoken r.text (ty s A))
      → ReadsTy r l (ty s A) v (said_ty A)
  read_ty {s} {counts} {r} names (y_mono t) has l v =
      let mono_read = any_mono (mono_form t) (read_mono names t has l v) in
      record {
        tree = raw.y_mono mono_read.tree;
        meets = mono_read.meets;
        given = y_at (byte_of_mono mono_read.tree) (y_mono mono_read.given);
        comes = bind _ mono_read.comes refl;
        same = λ i. y_mono (mono_read.same i);
      }
  read_ty {s} {counts} {r} names (y_fun A B) has l v =
      let argument = read_ty names A has.0 (suc l) v.0.1.0.1.1 in
      let answer = read_ty (under_entry a_term (span_of v.0.1.0.0.token) refl v.0.1.0.0.bytes names) B has.1 (suc l) v.1.1 in
      record {
        tree = raw.y_fun v.0.0.token.from (binders.Name (span_of v.0.1.0.0.token)) argument.tree answer.tree;
        meets =
            go (goes_then (goes_sign_at r.text l OpenParenSign v.0.0)
            (goes_then (goes_then (goes_name r.text l (name_at a_term (length s.entries)) v.0.1.0.0)
            (goes_then (goes_between r.text l ColonSign v.0.1.0.1.0) (goes (deep (argument.meets)))))
            (goes_sign r.text l CloseParenSign v.0.1.1))) (go (goes_between r.text l ArrowSign v.1.0) (deep (answer.meets)));
        given = y_at v.0.0.token.from (y_fun argument.given answer.given);
        comes = bind _ argument.comes (bind _ answer.comes refl);
        same = λ i. y_fun (argument.same i) (answer.same i);
      }
  read_ty {s} {counts} {r} names (y_all B) has l v =
      let answer = read_ty (under_entry a_mono (span_of v.0.1.0.token) refl v.0.1.0.bytes names) B has (suc l) v.1.1 in
      record {
        tree = raw.y_all v.0.0.token.from (span_of v.0.1.0.token) answer.tree;
        meets =
            go (goes_then (goes_sign_at r.text l OpenBracketSign v.0.0)
            (goes_then (goes_name r.text l (name_at a_mono (length s.entries)) v.0.1.0) (goes_sign r.text l CloseBracketSign v.0.1.1)))
            (go (goes_between r.text l ArrowSign v.1.0) (deep (answer.meets)));
        given = y_at v.0.0.token.from (y_all answer.given);
        comes = bind _ answer.comes refl;
        same = λ i. y_all (answer.same i);
      }
  read_ty {s} {counts} {r} names (y_hoare T) has l v =
      let t = read_spec names T has l v in
      record {
        tree = raw.y_hoare t.at t.tree;
        meets = t.meets_at;
        given = y_at t.at (y_hoare t.given);
        comes = bind _ t.comes refl;
        same = λ i. y_hoare (t.same i);
      }
  read_ty {s} {counts} {r} names (y_at at A) has l v =
      read_ty names A has l v

  read_spec : {s : PrintScope} {counts : List ℕ} {r : Scope}
      → HasPrintedNames s counts r
      → (T : TripleTree)
      → HasTextSpec counts s T
      → (l : ℕ) (v : Spoken r.text (spec s T))
      → ReadsSpec r l (spec s T) v (said_triple T)
  read_spec {s} {counts} {r} names (triple P t Q) has l v =
      let pre = any_formula (formula_form P) (read_formula (under_own_mem names) P has.0 (suc l) v.0.1.0) in
      let mono = any_mono (mono_form t) (read_mono names t has.1 l v.1.1.0.1.1) in
      let result = v.1.1.0.0 in
      let post =
      any_formula (formula_form Q)
      (read_formula (under_own_heaps (under_entry a_term (span_of result.token) refl result.bytes names)) Q has.2 (suc l) v.1.1.1.1.1.0) in
      let bound_meets =
      goes_then (goes_name r.text l (name_at a_term (length s.entries)) result)
      (goes_then (goes_between r.text l ColonSign v.1.1.0.1.0) (goes mono.meets)) in
      let post_meets = go (goes_sign r.text l OpenBraceSign v.1.1.1.1.0) (go (goes (deep post.meets)) (ends_sign r.text l CloseBraceSign v.1.1.1.1.1.1)) in
      let behind = go (goes_space r.text l v.1.0) (go bound_meets (go (goes_space r.text l v.1.1.1.0) post_meets)) in
      record {
        at = v.0.0.token.from;
        tree = raw.triple_of pre.tree (binders.Name (span_of result.token)) mono.tree post.tree;
        meets_at =
            go (goes_then (goes_sign_at r.text l OpenBraceSign v.0.0)
            (goes_then (goes (deep pre.meets)) (goes_sign r.text l CloseBraceSign v.0.1.1))) behind;
        meets = go (goes_then (goes_sign r.text l OpenBraceSign v.0.0) (goes_then (goes (deep pre.meets)) (goes_sign r.text l CloseBraceSign v.0.1.1))) behind;
        given = triple pre.given mono.given post.given;
        comes = bind _ pre.comes (bind _ mono.comes (bind _ post.comes refl));
        same = λ i. triple (pre.same i) (mono.same i) (post.same i);
      }

  pub read_term : {s : PrintScope} {counts : List ℕ} {r : Scope}
      → HasPrintedNames s counts r
      → (M : TermTree)
      → HasTextTerm counts s M
      → (l : ℕ) (v : Spoken r.text (term s M))
      → TermRead r l (term s M) v (said_term M) (arguments_of M) (term_form M)
  read_term {s} {counts} {r} names (t_var index) has l v =
      record { natural = (term_entry l index names has v, refl) }
  read_term {s} {counts} {r} names (t_val number) has l v =
      record { natural = (value l number names has v, refl) }
  read_term {s} {counts} {r} names (t_app K M) has l v =
      let head = head_at (term_form K) l (λ k w. read_term names K has.0 k w) v.0 in
      let argument = atom_at (term_form M) l (λ k w. read_term names M has.1 k w) v.1.1 in
      record { natural = applied head argument v.1.0 }
  read_term {s} {counts} {r} names (t_inst K t) has l v =
      let head = head_at (term_form K) l (λ k w. read_term names K has.0 k w) v.0 in
      let mono = any_mono (mono_form t) (read_mono names t has.1 l v.1.1.1.0) in
      record { natural = instantiated head v.1.0 v.1.1.0 mono v.1.1.1.1 }
  read_term {s} {counts} {r} names (t_lam M) has l v =
      let m = any_term (term_form M) (read_term (under_entry a_term (span_of v.1.1.0.token) refl v.1.1.0.bytes names) M has (suc l) v.1.1.1.1) in
      record {
        natural = (
          record {
            tree = raw.t_fun v.0.token.from (binders.Name (span_of v.1.1.0.token)) m.tree;
            meets =
                go (goes_word_at r.text l FunWord v.0)
                (go (goes_space r.text l v.1.0)
                (go (goes_name r.text l (name_at a_term (length s.entries)) v.1.1.0)
                (go (goes_between r.text l DotSign v.1.1.1.0) (deep (m.meets)))));
            given = t_at v.0.token.from (t_lam m.given);
            comes = bind _ m.comes refl;
            same = λ i. t_lam (m.same i);
          },
          refl,
        );
      }
  read_term {s} {counts} {r} names (t_lam_t M) has l v =
      let m = any_term (term_form M) (read_term (under_entry a_mono (span_of v.1.1.0.1.0.token) refl v.1.1.0.1.0.bytes names) M has (suc l) v.1.1.1.1) in
      record {
        natural = (
          record {
            tree = raw.t_fun_mono v.0.token.from (span_of v.1.1.0.1.0.token) m.tree;
            meets =
                go (goes_word_at r.text l FunWord v.0)
                (go (goes_space r.text l v.1.0)
                (go (goes_then (goes_sign r.text l OpenBracketSign v.1.1.0.0)
                (goes_then (goes_name r.text l (name_at a_mono (length s.entries)) v.1.1.0.1.0)
                (goes_sign r.text l CloseBracketSign v.1.1.0.1.1))) (go (goes_between r.text l DotSign v.1.1.1.0) (deep (m.meets)))));
            given = t_at v.0.token.from (t_lam_t m.given);
            comes = bind _ m.comes refl;
            same = λ i. t_lam_t (m.same i);
          },
          refl,
        );
      }
  read_term {s} {counts} {r} names (t_do E) has l v =
      let body = read_comp names E has (suc l) v.1.1 in
      record {
        natural = (
          record {
            tree = raw.t_do v.0.token.from body.tree;
            meets = go (goes_word_at r.text l DoWord v.0) (go (goes_space r.text l v.1.0) (deep (body.meets)));
            given = t_at v.0.token.from (t_do body.given);
            comes = bind _ body.comes refl;
            same = λ i. t_do (body.same i);
          },
          refl,
        );
      }
  read_term {s} {counts} {r} names (t_fix at X) has l v =
      let name = v.1.1.0 in
      let x = read_fix names X has (span_of name.token) name.bytes l v.1.1.1 in
      record {
        natural = (
          record {
            tree = raw.t_fix v.0.token.from (span_of name.token) x.params x.spec x.body;
            meets =
                go (goes_word_at r.text l FixWord v.0)
                (go (goes_space r.text l v.1.0) (go (goes_name r.text l (name_at a_term (length (under_params X s).entries)) name) x.meets));
            given = t_at v.0.token.from (t_fix v.0.token.from x.given);
            comes = bind _ x.comes refl;
            same = λ i. t_fix 0 (x.same i);
          },
          refl,
        );
      }
  read_term {s} {counts} {r} names (t_word n) has l v =
      record {
        natural = (
          record {
            tree = raw.a_number v.token.from n;
            meets = ends_number_at r.text l n v;
            given = t_at v.token.from (t_word n);
            comes = refl;
            same = refl;
          },
          refl,
        );
      }
  read_term {s} {counts} {r} names (t_bool true) has l v =
      record {
        natural = (
          record {
            tree = raw.a_true v.token.from;
            meets = ends_word_at r.text l TrueWord v;
            given = t_at v.token.from (t_bool true);
            comes = refl;
            same = refl;
          },
          refl,
        );
      }
  read_term {s} {counts} {r} names (t_bool false) has l v =
      record {
        natural = (
          record {
            tree = raw.a_false v.token.from;
            meets = ends_word_at r.text l FalseWord v;
            given = t_at v.token.from (t_bool false);
            comes = refl;
            same = refl;
          },
          refl,
        );
      }
  read_term {s} {counts} {r} names (t_loc n) has l v =
      record { natural = (place_read r l n v, refl) }
  read_term {s} {counts} {r} names t_unit has l v =
      record {
        natural = (
          record {
            tree = raw.a_unit v.0.token.from;
            meets = go (goes_sign_at r.text l OpenParenSign v.0) (ends_sign r.text l CloseParenSign v.1);
            given = t_at v.0.token.from t_unit;
            comes = refl;
            same = refl;
          },
          refl,
        );
      }
  read_term {s} {counts} {r} names (t_pair M N) has l v =
      let m = any_term (term_form M) (read_term names M has.0 (suc l) v.1.0.0) in
      let other = any_term (term_form N) (read_term names N has.1 (suc l) v.1.0.1.1) in
      record {
        natural = (
          record {
            tree = raw.a_pair v.0.token.from m.tree other.tree;
            meets =
                go (goes_sign_at r.text l OpenParenSign v.0)
                (go (goes_then (goes (deep (m.meets))) (goes_then (goes_comma r.text l v.1.0.1.0) (goes (deep (other.meets)))))
                (ends_sign r.text l CloseParenSign v.1.1));
            given = t_at v.0.token.from (t_pair m.given other.given);
            comes = bind _ m.comes (bind _ other.comes refl);
            same = λ i. t_pair (m.same i) (other.same i);
          },
          refl,
        );
      }
  read_term {s} {counts} {r} names (t_fst M) has l v =
      let m = atom_at (term_form M) l (λ k w. read_term names M has k w) v.1.1 in
      record {
        natural = (
          record {
            tree = raw.l_unary v.0.token.from unary_words.Fst m.tree;
            meets = go (goes_word_at r.text l FstWord v.0) (go (goes_space r.text l v.1.0) (m.meets));
            given = t_at v.0.token.from (t_fst m.given);
            comes = bind _ m.comes refl;
            same = λ i. t_fst (m.same i);
          },
          refl,
        );
      }
  read_term {s} {counts} {r} names (t_snd M) has l v =
      let m = atom_at (term_form M) l (λ k w. read_term names M has k w) v.1.1 in
      record {
        natural = (
          record {
            tree = raw.l_unary v.0.token.from unary_words.Snd m.tree;
            meets = go (goes_word_at r.text l SndWord v.0) (go (goes_space r.text l v.1.0) (m.meets));
            given = t_at v.0.token.from (t_snd m.given);
            comes = bind _ m.comes refl;
            same = λ i. t_snd (m.same i);
          },
          refl,
        );
      }
  read_term {s} {counts} {r} names (t_not M) has l v =
      let m = atom_at (term_form M) l (λ k w. read_term names M has k w) v.1.1 in
      record {
        natural = (
          record {
            tree = raw.l_unary v.0.token.from unary_words.Not m.tree;
            meets = go (goes_word_at r.text l NotWord v.0) (go (goes_space r.text l v.1.0) (m.meets));
            given = t_at v.0.token.from (t_not m.given);
            comes = bind _ m.comes refl;
            same = λ i. t_not (m.same i);
          },
          refl,
        );
      }
  read_term {s} {counts} {r} names (t_bin op M N) has l v =
      record {
        natural = (
          operation r op (λ k w. atom_at (term_form M) k (λ j u. read_term names M has.0 j u) w)
              (λ k w. atom_at (term_form N) k (λ j u. read_term names N has.1 j u) w) l v,
          refl,
        );
      }
  read_term {s} {counts} {r} names (t_eq t M N) has l v =
      let mono_read = any_mono (mono_form t) (read_mono names t has.0 l v.1.0.1.0) in
      let m = any_term (term_form M) (read_term names M has.1 (suc l) v.1.1.1.0.0) in
      let other = any_term (term_form N) (read_term names N has.2 (suc l) v.1.1.1.0.1.1) in
      record {
        natural = (
          record {
            tree = raw.a_eq v.0.token.from mono_read.tree m.tree other.tree;
            meets =
                go (goes_word_at r.text l EqWord v.0)
                (go (goes (go (goes_sign r.text l OpenBracketSign v.1.0.0)
                (go (goes mono_read.meets) (ends_sign r.text l CloseBracketSign v.1.0.1.1))))
                (go (goes_sign r.text l OpenParenSign v.1.1.0)
                (go (goes_then (goes (deep (m.meets))) (goes_then (goes_comma r.text l v.1.1.1.0.1.0) (goes (deep (other.meets)))))
                (ends_sign r.text l CloseParenSign v.1.1.1.1))));
            given = t_at v.0.token.from (t_eq mono_read.given m.given other.given);
            comes = bind _ mono_read.comes (bind _ m.comes (bind _ other.comes refl));
            same = λ i. t_eq (mono_read.same i) (m.same i) (other.same i);
          },
          refl,
        );
      }
  read_term {s} {counts} {r} names (t_sel t B M N) has l v =
      let mono_read = any_mono (mono_form t) (read_mono names t has.0 l v.1.0.1.0) in
      let answer = any_term (term_form B) (read_term names B has.1 (suc l) v.1.1.1.0.0) in
      let m = any_term (term_form M) (read_term names M has.2 (suc l) v.1.1.1.0.1.1.0) in
      let other = any_term (term_form N) (read_term names N has.3 (suc l) v.1.1.1.0.1.1.1.1) in
      record {
        natural = (
          record {
            tree = raw.a_sel v.0.token.from mono_read.tree answer.tree m.tree other.tree;
            meets =
                go (goes_word_at r.text l SelWord v.0)
                (go (goes (go (goes_sign r.text l OpenBracketSign v.1.0.0)
                (go (goes mono_read.meets) (ends_sign r.text l CloseBracketSign v.1.0.1.1))))
                (go (goes_sign r.text l OpenParenSign v.1.1.0)
                (go (goes_then (goes (deep (answer.meets)))
                (goes_then (goes_comma r.text l v.1.1.1.0.1.0)
                (goes_then (goes (deep (m.meets))) (goes_then (goes_comma r.text l v.1.1.1.0.1.1.1.0) (goes (deep (other.meets)))))))
                (ends_sign r.text l CloseParenSign v.1.1.1.1))));
            given = t_at v.0.token.from (t_sel mono_read.given answer.given m.given other.given);
            comes = bind _ mono_read.comes (bind _ answer.comes (bind _ m.comes (bind _ other.comes refl)));
            same = λ i. t_sel (mono_read.same i) (answer.same i) (m.same i) (other.same i);
          },
          refl,
        );
      }
  read_term {s} {counts} {r} names (t_ann M A) has l v =
      let m = any_term (term_form M) (read_term names M has.0 (suc l) v.1.0.0) in
      let argument = read_ty names A has.1 (suc l) v.1.0.1.1 in
      record {
        natural = (
          record {
            tree = raw.a_annotated v.0.token.from m.tree argument.tree;
            meets =
                go (goes_sign_at r.text l OpenParenSign v.0)
                (go (goes_then (goes (deep (m.meets))) (goes_then (goes_between r.text l ColonSign v.1.0.1.0) (goes (deep (argument.meets)))))
                (ends_sign r.text l CloseParenSign v.1.1));
            given = t_at v.0.token.from (t_ann m.given argument.given);
            comes = bind _ m.comes (bind _ argument.comes refl);
            same = λ i. t_ann (m.same i) (argument.same i);
          },
          refl,
        );
      }
  read_term {s} {counts} {r} names (t_at at M) has l v =
      read_term names M has l v
  read_term {s} {counts} {r} names (t_def number) has l v =
      absurd has
  read_term {s} {counts} {r} names (t_made number captured) has l v =
      absurd has

  read_fix : {s : PrintScope} {counts : List ℕ} {r : Scope}
      → HasPrintedNames s counts r
      → (X : FixTree)
      → HasTextFix counts s X
      → (name : Span)
      → bytes_of r.text name ≡ name_at a_term (length (under_params X s).entries)
      → (l : ℕ) (v : Spoken r.text (fix s X))
      → ReadsFix r l name (fix s X) v (said_fix X)
  read_fix {s} {counts} {r} names (x_param A X) has name e l v =
      let param = v.1.0.1.0.0 in
      let a = read_ty names A has.0 (suc l) v.1.0.1.0.1.1 in
      let x = read_fix (under_entry a_term (span_of param.token) refl param.bytes names) X has.1 name e l v.1.1 in
      let bound_meets =
      goes_then (goes_name r.text l (name_at a_term (length s.entries)) param)
      (goes_then (goes_between r.text l ColonSign v.1.0.1.0.1.0) (goes (deep a.meets))) in
      let bracketed = goes_then (goes_sign r.text l OpenParenSign v.1.0.0) (goes_then bound_meets (goes_sign r.text l CloseParenSign v.1.0.1.1)) in
      record {
        params = raw.more_params (binders.Name (span_of param.token)) a.tree x.params;
        spec = x.spec;
        body = x.body;
        meets =
            regrouped (marks.sign l OpenParenSign) (marks.name l (span_of param.token)) (marks.sign l ColonSign) (grammar.ty (suc l) a.tree)
            (marks.sign l CloseParenSign) (grammar.params l x.params) _ (go (goes_space r.text l v.0) (go bracketed x.meets));
        given = x_param a.given x.given;
        comes = bind _ a.comes (bind _ x.comes refl);
        same = λ i. x_param (a.same i) (x.same i);
      }
  read_fix {s} {counts} {r} names (x_body T E) has name e l v =
      let t = read_spec names T has.0 l v.1.0 in
      let body = read_comp (under_entry a_term name refl e names) E has.1 (suc l) v.1.1.1 in
      record {
        params = raw.no_params;
        spec = t.tree;
        body = body.tree;
        meets = (go (goes_between r.text l ColonSign v.0) (go (goes t.meets) (go (goes_between r.text l DotSign v.1.1.0) (deep body.meets))));
        given = x_body t.given body.given;
        comes = bind _ t.comes (bind _ body.comes refl);
        same = λ i. x_body (t.same i) (body.same i);
      }

  read_comp : {s : PrintScope} {counts : List ℕ} {r : Scope}
      → HasPrintedNames s counts r
      → (E : CompTree)
      → HasTextComp counts s E
      → (l : ℕ) (v : Spoken r.text (comp s E))
      → ReadsComp r l (comp s E) v (said_comp E)
  read_comp {s} {counts} {r} names (c_ret M) has l v =
      let m = any_term (term_form M) (read_term names M has (suc l) v.1.1) in
      record {
        tree = raw.c_ret m.tree;
        meets = go (goes_word r.text l RetWord v.0) (go (goes_space r.text l v.1.0) (deep (m.meets)));
        given = c_ret m.given;
        comes = bind _ m.comes refl;
        same = λ i. c_ret (m.same i);
      }
  read_comp {s} {counts} {r} names (c_step S E) has l v =
      let step_read = read_step names S has.0 l v.1.1.0 in
      let body = read_comp (under_entry a_term (span_of v.0.token) refl v.0.bytes names) E has.1 l v.1.1.1.1.1 in
      record {
        tree = raw.c_step (binders.Name (span_of v.0.token)) step_read.tree body.tree;
        meets =
            go (goes_name r.text l (name_at a_term (length s.entries)) v.0)
            (go (goes_between r.text l LeftArrowSign v.1.0)
            (go (goes (step_read.meets))
            (go (goes_sign r.text l SemicolonSign v.1.1.1.0) (go (goes_space r.text l v.1.1.1.1.0) (body.meets)))));
        given = c_step step_read.given body.given;
        comes = bind _ step_read.comes (bind _ body.comes refl);
        same = λ i. c_step (step_read.same i) (body.same i);
      }

  read_step : {s : PrintScope} {counts : List ℕ} {r : Scope}
      → HasPrintedNames s counts r
      → (S : StepTree)
      → HasTextStep counts s S
      → (l : ℕ) (v : Spoken r.text (step s S))
      → ReadsStep r l (step s S) v (said_step S)
  read_step {s} {counts} {r} names (s_run K t) has l v =
      let head = run_at (term_form K) l (λ k w. read_term names K has k w) v in
      record {
        tree = raw.s_run head.tree;
        meets = head.meets;
        given = s_run head.given None;
        comes = bind _ head.comes refl;
        same = λ i. s_run (head.same i) None;
      }
  read_step {s} {counts} {r} names (s_alloc t M) has l v =
      let mono_read = any_mono (mono_form t) (read_mono names t has.0 l v.1.0.1.0) in
      let m = atom_at (term_form M) l (λ k w. read_term names M has.1 k w) v.1.1.1 in
      record {
        tree = raw.s_alloc mono_read.tree m.tree;
        meets =
            go (goes_word r.text l AllocWord v.0)
            (go (goes (go (goes_sign r.text l OpenBracketSign v.1.0.0)
            (go (goes mono_read.meets) (ends_sign r.text l CloseBracketSign v.1.0.1.1))))
            (go (goes_space r.text l v.1.1.0) (m.meets)));
        given = s_alloc mono_read.given m.given;
        comes = bind _ mono_read.comes (bind _ m.comes refl);
        same = λ i. s_alloc (mono_read.same i) (m.same i);
      }
  read_step {s} {counts} {r} names (s_get t M) has l v =
      let mono_read = any_mono (mono_form t) (read_mono names t has.0 l v.1.0.1.0) in
      let m = atom_at (term_form M) l (λ k w. read_term names M has.1 k w) v.1.1.1 in
      record {
        tree = raw.s_get mono_read.tree m.tree;
        meets =
            go (goes_word r.text l GetWord v.0)
            (go (goes (go (goes_sign r.text l OpenBracketSign v.1.0.0)
            (go (goes mono_read.meets) (ends_sign r.text l CloseBracketSign v.1.0.1.1))))
            (go (goes_space r.text l v.1.1.0) (m.meets)));
        given = s_get mono_read.given m.given;
        comes = bind _ mono_read.comes (bind _ m.comes refl);
        same = λ i. s_get (mono_read.same i) (m.same i);
      }
  read_step {s} {counts} {r} names (s_set t M N) has l v =
      let mono_read = any_mono (mono_form t) (read_mono names t has.0 l v.1.0.1.0) in
      let m = atom_at (term_form M) l (λ k w. read_term names M has.1 k w) v.1.1.1.0 in
      let other = atom_at (term_form N) l (λ k w. read_term names N has.2 k w) v.1.1.1.1.1 in
      record {
        tree = raw.s_set mono_read.tree m.tree other.tree;
        meets =
            go (goes_word r.text l SetWord v.0)
            (go (goes (go (goes_sign r.text l OpenBracketSign v.1.0.0)
            (go (goes mono_read.meets) (ends_sign r.text l CloseBracketSign v.1.0.1.1))))
            (go (goes_space r.text l v.1.1.0) (go (goes (m.meets)) (go (goes_space r.text l v.1.1.1.1.0) (other.meets)))));
        given = s_set mono_read.given m.given other.given;
        comes = bind _ mono_read.comes (bind _ m.comes (bind _ other.comes refl));
        same = λ i. s_set (mono_read.same i) (m.same i) (other.same i);
      }
  read_step {s} {counts} {r} names (s_free t M) has l v =
      let mono_read = any_mono (mono_form t) (read_mono names t has.0 l v.1.0.1.0) in
      let m = atom_at (term_form M) l (λ k w. read_term names M has.1 k w) v.1.1.1 in
      record {
        tree = raw.s_free mono_read.tree m.tree;
        meets =
            go (goes_word r.text l FreeWord v.0)
            (go (goes (go (goes_sign r.text l OpenBracketSign v.1.0.0)
            (go (goes mono_read.meets) (ends_sign r.text l CloseBracketSign v.1.0.1.1))))
            (go (goes_space r.text l v.1.1.0) (m.meets)));
        given = s_free mono_read.given m.given;
        comes = bind _ mono_read.comes (bind _ m.comes refl);
        same = λ i. s_free (mono_read.same i) (m.same i);
      }
  read_step {s} {counts} {r} names (s_if t B E E') has l v =
      let mono_read = any_mono (mono_form t) (read_mono names t has.0 l v.1.1.0.1.0) in
      let answer = atom_at (term_form B) l (λ k w. read_term names B has.1 k w) v.1.1.1.1.0 in
      let body = read_comp names E has.2 (suc l) v.1.1.1.1.1.1.0.1.0.1.0 in
      let other_body = read_comp names E' has.3 (suc l) v.1.1.1.1.1.1.1.1.1.0.1.0 in
      record {
        tree = raw.s_if mono_read.tree answer.tree body.tree other_body.tree;
        meets =
            go (goes_word r.text l IfWord v.0)
            (go (goes_space r.text l v.1.0)
            (go (goes (go (goes_sign r.text l OpenBracketSign v.1.1.0.0)
            (go (goes mono_read.meets) (ends_sign r.text l CloseBracketSign v.1.1.0.1.1))))
            (go (goes_space r.text l v.1.1.1.0)
            (go (goes (answer.meets))
            (go (goes_space r.text l v.1.1.1.1.1.0)
            (go (goes_then (goes_sign r.text l OpenBraceSign v.1.1.1.1.1.1.0.0)
            (goes_then (goes_then (goes_space r.text l v.1.1.1.1.1.1.0.1.0.0)
            (goes_then (goes (deep (body.meets))) (goes_space r.text l v.1.1.1.1.1.1.0.1.0.1.1)))
            (goes_sign r.text l CloseBraceSign v.1.1.1.1.1.1.0.1.1)))
            (go (goes_space r.text l v.1.1.1.1.1.1.1.0)
            (go (goes_sign r.text l OpenBraceSign v.1.1.1.1.1.1.1.1.0)
            (go (goes_then (goes_space r.text l v.1.1.1.1.1.1.1.1.1.0.0)
            (goes_then (goes (deep (other_body.meets))) (goes_space r.text l v.1.1.1.1.1.1.1.1.1.0.1.1)))
            (ends_sign r.text l CloseBraceSign v.1.1.1.1.1.1.1.1.1.1))))))))));
        given = s_if mono_read.given answer.given body.given other_body.given;
        comes = bind _ mono_read.comes (bind _ answer.comes (bind _ body.comes (bind _ other_body.comes refl)));
        same = λ i. s_if (mono_read.same i) (answer.same i) (body.same i) (other_body.same i);
      }
  read_step {s} {counts} {r} names (s_claim F) has l v =
      let f = any_formula (formula_form F) (read_formula (under_own_heaps names) F has (suc l) v.1.1.1.0) in
      record {
        tree = raw.s_claim f.tree;
        meets =
            go (goes_word r.text l ClaimWord v.0)
            (go (goes_space r.text l v.1.0)
            (go (goes_sign r.text l OpenBraceSign v.1.1.0) (go (goes (deep (f.meets))) (ends_sign r.text l CloseBraceSign v.1.1.1.1))));
        given = s_claim f.given;
        comes = bind _ f.comes refl;
        same = λ i. s_claim (f.same i);
      }

  pub read_formula : {s : PrintScope} {counts : List ℕ} {r : Scope}
      → HasPrintedNames s counts r
      → (F : FormulaTree)
      → HasTextFormula counts s F
      → (l : ℕ) (v : Spoken r.text (formula s F))
      → FormulaRead r l (formula s F) v (said_formula F) (formula_form F)
  read_formula {s} {counts} {r} names f_tt has l v =
      record {
        natural = record {
          tree = raw.g_tt v.token.from;
          meets = ends_word_at r.text l TtWord v;
          given = f_at v.token.from f_tt;
          comes = refl;
          same = refl;
        };
      }
  read_formula {s} {counts} {r} names f_ff has l v =
      record {
        natural = record {
          tree = raw.g_ff v.token.from;
          meets = ends_word_at r.text l FfWord v;
          given = f_at v.token.from f_ff;
          comes = refl;
          same = refl;
        };
      }
  read_formula {s} {counts} {r} names (f_and F G) has l v =
      let f = fatom_at (formula_form F) l (λ k w. read_formula names F has.0 k w) v.0 in
      let g = fatom_at (formula_form G) (suc l) (λ k w. read_formula names G has.1 k w) v.1.1 in
      record {
        natural = record {
          tree = raw.f_disj (raw.d_conj (raw.j_and (raw.k_fatom f.tree) (raw.j_star (raw.k_fatom g.tree))));
          meets = go (goes (f.meets)) (go (goes_between r.text l AndSign v.1.0) (deep (g.meets)));
          given = f_at (byte_of_fatom f.tree) (f_and f.given g.given);
          comes = bind _ f.comes (bind _ g.comes refl);
          same = λ i. f_and (f.same i) (g.same i);
        };
      }
  read_formula {s} {counts} {r} names (f_or F G) has l v =
      let f = fatom_at (formula_form F) l (λ k w. read_formula names F has.0 k w) v.0 in
      let g = fatom_at (formula_form G) (suc l) (λ k w. read_formula names G has.1 k w) v.1.1 in
      record {
        natural = record {
          tree = raw.f_disj (raw.d_or (raw.j_star (raw.k_fatom f.tree)) (raw.d_conj (raw.j_star (raw.k_fatom g.tree))));
          meets = go (goes (f.meets)) (go (goes_between r.text l OrSign v.1.0) (deep (g.meets)));
          given = f_at (byte_of_fatom f.tree) (f_or f.given g.given);
          comes = bind _ f.comes (bind _ g.comes refl);
          same = λ i. f_or (f.same i) (g.same i);
        };
      }
  read_formula {s} {counts} {r} names (f_imp F G) has l v =
      let f = fatom_at (formula_form F) l (λ k w. read_formula names F has.0 k w) v.0 in
      let g = fatom_at (formula_form G) (suc l) (λ k w. read_formula names G has.1 k w) v.1.1 in
      record {
        natural = record {
          tree = raw.f_implies (raw.d_conj (raw.j_star (raw.k_fatom f.tree))) (raw.f_disj (raw.d_conj (raw.j_star (raw.k_fatom g.tree))));
          meets = go (goes (f.meets)) (go (goes_between r.text l ImpliesSign v.1.0) (deep (g.meets)));
          given = f_at (byte_of_fatom f.tree) (f_imp f.given g.given);
          comes = bind _ f.comes (bind _ g.comes refl);
          same = λ i. f_imp (f.same i) (g.same i);
        };
      }
  read_formula {s} {counts} {r} names (f_all_t t F) has l v =
      let mono_read = any_mono (mono_form t) (read_mono names t has.0 l v.1.1.0.1.1) in
      let f = any_formula (formula_form F) (read_formula (under_entry a_term (span_of v.1.1.0.0.token) refl v.1.1.0.0.bytes names) F has.1 (suc l) v.1.1.1.1) in
      record {
        natural = record {
          tree = raw.f_all v.0.token.from (binders.Name (span_of v.1.1.0.0.token)) (raw.over_mono mono_read.tree) f.tree;
          meets =
              go (goes_word_at r.text l AllWord v.0)
              (go (goes_space r.text l v.1.0)
              (go (goes_then (goes_name r.text l (name_at a_term (length s.entries)) v.1.1.0.0)
              (goes_then (goes_between r.text l ColonSign v.1.1.0.1.0) (goes (mono_read.meets))))
              (go (goes_between r.text l DotSign v.1.1.1.0) (deep (f.meets)))));
          given = f_at v.0.token.from (f_all_t mono_read.given f.given);
          comes = bind _ mono_read.comes (bind _ f.comes refl);
          same = λ i. f_all_t (mono_read.same i) (f.same i);
        };
      }
  read_formula {s} {counts} {r} names (f_ex_t t F) has l v =
      let mono_read = any_mono (mono_form t) (read_mono names t has.0 l v.1.1.0.1.1) in
      let f = any_formula (formula_form F) (read_formula (under_entry a_term (span_of v.1.1.0.0.token) refl v.1.1.0.0.bytes names) F has.1 (suc l) v.1.1.1.1) in
      record {
        natural = record {
          tree = raw.f_ex v.0.token.from (binders.Name (span_of v.1.1.0.0.token)) (raw.over_mono mono_read.tree) f.tree;
          meets =
              go (goes_word_at r.text l ExWord v.0)
              (go (goes_space r.text l v.1.0)
              (go (goes_then (goes_name r.text l (name_at a_term (length s.entries)) v.1.1.0.0)
              (goes_then (goes_between r.text l ColonSign v.1.1.0.1.0) (goes (mono_read.meets))))
              (go (goes_between r.text l DotSign v.1.1.1.0) (deep (f.meets)))));
          given = f_at v.0.token.from (f_ex_t mono_read.given f.given);
          comes = bind _ mono_read.comes (bind _ f.comes refl);
          same = λ i. f_ex_t (mono_read.same i) (f.same i);
        };
      }
  read_formula {s} {counts} {r} names (f_all_h F) has l v =
      let f = any_formula (formula_form F) (read_formula (under_entry a_heap (span_of v.1.1.0.0.token) refl v.1.1.0.0.bytes names) F has (suc l) v.1.1.1.1) in
      record {
        natural = record {
          tree = raw.f_all v.0.token.from (binders.Name (span_of v.1.1.0.0.token)) raw.over_heap f.tree;
          meets =
              go (goes_word_at r.text l AllWord v.0)
              (go (goes_space r.text l v.1.0)
              (go (goes_then (goes_name r.text l (name_at a_heap (length s.entries)) v.1.1.0.0)
              (goes_then (goes_between r.text l ColonSign v.1.1.0.1.0) (goes_word r.text l HeapWord v.1.1.0.1.1)))
              (go (goes_between r.text l DotSign v.1.1.1.0) (deep (f.meets)))));
          given = f_at v.0.token.from (f_all_h f.given);
          comes = bind _ f.comes refl;
          same = λ i. f_all_h (f.same i);
        };
      }
  read_formula {s} {counts} {r} names (f_ex_h F) has l v =
      let f = any_formula (formula_form F) (read_formula (under_entry a_heap (span_of v.1.1.0.0.token) refl v.1.1.0.0.bytes names) F has (suc l) v.1.1.1.1) in
      record {
        natural = record {
          tree = raw.f_ex v.0.token.from (binders.Name (span_of v.1.1.0.0.token)) raw.over_heap f.tree;
          meets =
              go (goes_word_at r.text l ExWord v.0)
              (go (goes_space r.text l v.1.0)
              (go (goes_then (goes_name r.text l (name_at a_heap (length s.entries)) v.1.1.0.0)
              (goes_then (goes_between r.text l ColonSign v.1.1.0.1.0) (goes_word r.text l HeapWord v.1.1.0.1.1)))
              (go (goes_between r.text l DotSign v.1.1.1.0) (deep (f.meets)))));
          given = f_at v.0.token.from (f_ex_h f.given);
          comes = bind _ f.comes refl;
          same = λ i. f_ex_h (f.same i);
        };
      }
  read_formula {s} {counts} {r} names (f_emp h) has l v =
      let heap = heap_entry l h names has v.1.1.0 in
      record {
        natural = record {
          tree = raw.g_emp_of v.0.token.from heap.tree;
          meets =
              go (goes_word_at r.text l CapitalEmpWord v.0)
              (go (goes_sign r.text l OpenParenSign v.1.0) (go (goes (heap.meets)) (ends_sign r.text l CloseParenSign v.1.1.1)));
          given = f_at v.0.token.from (f_emp h);
          comes = bind _ heap.comes refl;
          same = λ i. f_emp h;
        };
      }
  read_formula {s} {counts} {r} names (f_cell t h M N) has l v =
      let mono_read = any_mono (mono_form t) (read_mono names t has.0 l v.1.0.1.0) in
      let heap = heap_entry l h names has.1 v.1.1.1.0.0 in
      let m = any_term (term_form M) (read_term names M has.2 (suc l) v.1.1.1.0.1.1.0) in
      let other = any_term (term_form N) (read_term names N has.3 (suc l) v.1.1.1.0.1.1.1.1) in
      record {
        natural = record {
          tree = raw.g_cell v.0.token.from mono_read.tree heap.tree m.tree other.tree;
          meets =
              go (goes_word_at r.text l CellWord v.0)
              (go (goes (go (goes_sign r.text l OpenBracketSign v.1.0.0)
              (go (goes mono_read.meets) (ends_sign r.text l CloseBracketSign v.1.0.1.1))))
              (go (goes_sign r.text l OpenParenSign v.1.1.0)
              (go (goes_then (goes (heap.meets))
              (goes_then (goes_comma r.text l v.1.1.1.0.1.0)
              (goes_then (goes (deep (m.meets))) (goes_then (goes_comma r.text l v.1.1.1.0.1.1.1.0) (goes (deep (other.meets)))))))
              (ends_sign r.text l CloseParenSign v.1.1.1.1))));
          given = f_at v.0.token.from (f_cell mono_read.given h m.given other.given);
          comes = bind _ mono_read.comes (bind _ heap.comes (bind _ m.comes (bind _ other.comes refl)));
          same = λ i. f_cell (mono_read.same i) h (m.same i) (other.same i);
        };
      }
  read_formula {s} {counts} {r} names (f_block t h M) has l v =
      let mono_read = any_mono (mono_form t) (read_mono names t has.0 l v.1.0.1.0) in
      let heap = heap_entry l h names has.1 v.1.1.1.0.0 in
      let m = any_term (term_form M) (read_term names M has.2 (suc l) v.1.1.1.0.1.1) in
      record {
        natural = record {
          tree = raw.g_block v.0.token.from mono_read.tree heap.tree m.tree;
          meets =
              go (goes_word_at r.text l BlockWord v.0)
              (go (goes (go (goes_sign r.text l OpenBracketSign v.1.0.0)
              (go (goes mono_read.meets) (ends_sign r.text l CloseBracketSign v.1.0.1.1))))
              (go (goes_sign r.text l OpenParenSign v.1.1.0)
              (go (goes_then (goes (heap.meets)) (goes_then (goes_comma r.text l v.1.1.1.0.1.0) (goes (deep (m.meets)))))
              (ends_sign r.text l CloseParenSign v.1.1.1.1))));
          given = f_at v.0.token.from (f_block mono_read.given h m.given);
          comes = bind _ mono_read.comes (bind _ heap.comes (bind _ m.comes refl));
          same = λ i. f_block (mono_read.same i) h (m.same i);
        };
      }
  read_formula {s} {counts} {r} names (f_join h a b) has l v =
      let heap = heap_entry l h names has.0 v.1.1.0.0 in
      let left_heap = heap_entry l a names has.1 v.1.1.0.1.1.0 in
      let right_heap = heap_entry l b names has.2 v.1.1.0.1.1.1.1 in
      record {
        natural = record {
          tree = raw.g_join v.0.token.from heap.tree left_heap.tree right_heap.tree;
          meets =
              go (goes_word_at r.text l JoinWord v.0)
              (go (goes_sign r.text l OpenParenSign v.1.0)
              (go (goes_then (goes (heap.meets))
              (goes_then (goes_comma r.text l v.1.1.0.1.0)
              (goes_then (goes (left_heap.meets)) (goes_then (goes_comma r.text l v.1.1.0.1.1.1.0) (goes (right_heap.meets))))))
              (ends_sign r.text l CloseParenSign v.1.1.1)));
          given = f_at v.0.token.from (f_join h a b);
          comes = bind _ heap.comes (bind _ left_heap.comes (bind _ right_heap.comes refl));
          same = λ i. f_join h a b;
        };
      }
  read_formula {s} {counts} {r} names (f_same h k) has l v =
      let heap = heap_entry l h names has.0 v.1.1.0.0 in
      let right_heap = heap_entry l k names has.1 v.1.1.0.1.1 in
      record {
        natural = record {
          tree = raw.g_same v.0.token.from heap.tree right_heap.tree;
          meets =
              go (goes_word_at r.text l SameWord v.0)
              (go (goes_sign r.text l OpenParenSign v.1.0)
              (go (goes_then (goes (heap.meets)) (goes_then (goes_comma r.text l v.1.1.0.1.0) (goes (right_heap.meets))))
              (ends_sign r.text l CloseParenSign v.1.1.1)));
          given = f_at v.0.token.from (f_same h k);
          comes = bind _ heap.comes (bind _ right_heap.comes refl);
          same = λ i. f_same h k;
        };
      }
  read_formula {s} {counts} {r} names (f_eq t M N) has l v =
      let m = side_at (term_form M) l (λ k w. read_term names M has.0 k w) v.0 in
      let mono_read = any_mono (mono_form t) (read_mono names t has.1 l v.1.1.1.0.1.0) in
      let other = side_at (term_form N) l (λ k w. read_term names N has.2 k w) v.1.1.1.1.1 in
      record {
        natural = record {
          tree = raw.g_eq m.tree mono_read.tree other.tree;
          meets =
              go (goes (m.meets)) (go (goes_space r.text l v.1.0)
              (go (goes_sign r.text l EqualSign v.1.1.0)
              (go (goes (go (goes_sign r.text l OpenBracketSign v.1.1.1.0.0)
              (go (goes mono_read.meets) (ends_sign r.text l CloseBracketSign v.1.1.1.0.1.1))))
              (go (goes_space r.text l v.1.1.1.1.0) (other.meets)))));
          given = f_at (byte_of_rel m.tree) (f_eq mono_read.given m.given other.given);
          comes = bind _ m.comes (bind _ mono_read.comes (bind _ other.comes refl));
          same = λ i. f_eq (mono_read.same i) (m.same i) (other.same i);
        };
      }
  read_formula {s} {counts} {r} names (f_at at F) has l v =
      read_formula names F has l v
  read_formula {s} {counts} {r} names (f_rec p h N Ms) has l v =
      let rec = predicate l p names has.0 v.1.0 in
      let heap = heap_entry l h names has.1 v.1.1.1.0 in
      let n = any_term (term_form N) (read_term names N has.2 (suc l) v.1.1.1.1.1.0.0) in
      let terms = read_arguments names Ms has.3 l v.1.1.1.1.1.0.1.1 in
      let fits = right_number v.0.token.from (terms.count ∙ some_same (sym has.4 ∙ rec.counted)) in
      let inside = goes_then (goes (deep n.meets)) (goes_then (goes_sign r.text l SemicolonSign v.1.1.1.1.1.0.1.0) (goes terms.meets)) in
      record {
        natural = record {
          tree = raw.g_use_at_heap v.0.token.from rec.span heap.tree n.tree terms.tree;
          meets =
              go (goes_sign_at r.text l BangSign v.0)
              (go (goes rec.meets) (go (goes_sign r.text l AtSign v.1.1.0)
              (go (goes heap.meets)
              (go (goes_sign r.text l OpenParenSign v.1.1.1.1.0) (go inside (ends_sign r.text l CloseParenSign v.1.1.1.1.1.1))))));
          given = f_at v.0.token.from (f_rec p h n.given terms.given);
          comes = bind _ rec.comes (bind _ fits (bind _ heap.comes (bind _ n.comes (bind _ terms.comes refl))));
          same = λ i. f_rec p h (n.same i) (terms.same i);
        };
      }

  read_arguments : {s : PrintScope} {counts : List ℕ} {r : Scope}
      → HasPrintedNames s counts r
      → (Ms : TermTrees)
      → HasTextTerms counts s Ms
      → (l : ℕ) (v : Spoken r.text (arguments s Ms))
      → ReadsTerms grammar.terms r l (arguments s Ms) v (said_terms Ms) (terms_in Ms)
  read_arguments {s} {counts} {r} names no_terms has l v =
      record { tree = raw.no_terms; meets = no_terms_meet v; count = refl; given = no_terms; comes = refl; same = refl }
  read_arguments {s} {counts} {r} names (more_terms M Ms) has l v =
      let m = any_term (term_form M) (read_term names M has.0 (suc l) v.1.0) in
      let others = read_more_arguments names Ms has.1 l v.1.1 in
      record {
        tree = raw.more_terms m.tree others.tree;
        meets = go (goes_space r.text l v.0) (go (goes (deep m.meets)) others.meets);
        count = ap suc others.count;
        given = more_terms m.given others.given;
        comes = bind _ m.comes (bind _ others.comes refl);
        same = λ i. more_terms (m.same i) (others.same i);
      }

  read_more_arguments : {s : PrintScope} {counts : List ℕ} {r : Scope}
      → HasPrintedNames s counts r
      → (Ms : TermTrees)
      → HasTextTerms counts s Ms
      → (l : ℕ) (v : Spoken r.text (more_arguments s Ms))
      → ReadsTerms grammar.terms_after r l (more_arguments s Ms) v (said_terms Ms) (terms_in Ms)
  read_more_arguments {s} {counts} {r} names no_terms has l v =
      record { tree = raw.no_terms; meets = no_terms_meet v; count = refl; given = no_terms; comes = refl; same = refl }
  read_more_arguments {s} {counts} {r} names (more_terms M Ms) has l v =
      let m = any_term (term_form M) (read_term names M has.0 (suc l) v.1.0) in
      let others = read_more_arguments names Ms has.1 l v.1.1 in
      record {
        tree = raw.more_terms m.tree others.tree;
        meets = go (goes_comma r.text l v.0) (go (goes (deep m.meets)) others.meets);
        count = ap suc others.count;
        given = more_terms m.given others.given;
        comes = bind _ m.comes (bind _ others.comes refl);
        same = λ i. more_terms (m.same i) (others.same i);
      }
