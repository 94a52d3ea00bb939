-- What is printed of proofs is read as it was printed: a row for each form.
use Rattle.std.proofs.Common.{◌≡◌, ℕ, List, [], ◌∷◌, ◌++◌, true, refl}
use Rattle.std.specs.Prelude.{slice_get}
use Rattle.htt_lexer_tokens.specs.declared.tokens.Keyword.TheVariants.{IntroWord, GenWord, HaveWord, OpenWord, BothWord, LeftWord, RightWord, GiveWord}
use Rattle.htt_lexer_tokens.specs.declared.tokens.Keyword.TheVariants.{TrivialWord}
use Rattle.htt_lexer_tokens.specs.declared.tokens.Keyword.TheVariants.{ReflWord, AbsurdWord, CaseWord, RewriteWord, InductWord, SplitWord, FirstWord}
use Rattle.htt_lexer_tokens.specs.declared.tokens.Keyword.TheVariants.{SecondWord}
use Rattle.htt_lexer_tokens.specs.declared.tokens.Keyword.TheVariants.{AppWord, InstWord, AxiomWord, LemWord, TheWord}
use Rattle.htt_lexer_tokens.specs.declared.tokens.Sign.TheVariants.{OpenParenSign, CloseParenSign, OpenBracketSign, CloseBracketSign, ColonSign, DotSign}
use Rattle.htt_lexer_tokens.specs.declared.tokens.Sign.TheVariants.{EqualSign, AtSign}
use Rattle.htt_syntax.specs.Trees.{MonoTree, FormulaTree, ArgTree, ProofTree, StmtTree, BlockTree, a_heap, a_term, p_hyp, p_trivial, p_refl, p_first, p_second}
use Rattle.htt_syntax.specs.Trees.{p_left}
use Rattle.htt_syntax.specs.Trees.{p_right, p_absurd, p_both, p_give, p_app, p_inst, p_case, p_rewrite, p_induct, p_split, p_axiom, p_lem, p_the, p_block, p_at}
use Rattle.htt_syntax.specs.Trees.{p_unfold}
use Rattle.htt_syntax.specs.Trees.{d_intro, d_gen, d_have, d_open, d_at, b_then, b_end}
use Rattle.theory_text_names.specs.Scopes.{a_term_or_heap}
use Rattle.theory_printing.specs.Pieces.{◌▹◌, bytes_of, in_parens}
use Rattle.theory_printing.specs.Names.{PrintScope, with_entry, with_hypothesis}
use Rattle.theory_printing.specs.Proofs.{more_monos, monos, arg, more_args, args, motive, after_stmt, under_next, proof, block, stmt}
use Rattle.theory_printing_conditions.specs.Conditions.{HasTextFormula, HasTextMonos, HasTextArg, HasTextArgs, HasTextProof, HasTextBlock, HasTextStmt}
use Rattle.theory_printing_tokens.proofs.Lexing.{Lexes, in_turn, lex_nothing, lex_space}
use Rattle.theory_printing_lexemes.specs.Follows.{ends}
use Rattle.theory_printing_tokens.proofs.Leaves.{LexesPhrase, phrase_then, deep_phrase, numbered_phrase, lex_word, lex_sign, lex_number, lex_name, lex_between}
use Rattle.theory_printing_tokens.proofs.Leaves.{lex_comma, lex_semicolon}
use Rattle.theory_printing_tokens.proofs.Leaves.{lex_new, lex_hypothesis, lex_name_or_blank, lex_heap_entry}
use Rattle.theory_printing_tokens.proofs.Phrases.{lex_mono, lex_term, lex_formula}

ends_monos : (s : PrintScope) (ts : List MonoTree) (rest : List ℕ) → ends rest ≡ true → ends (bytes_of (more_monos s ts) ++ rest) ≡ true
unfolding bytes_of more_monos
ends_monos s [] rest e = e
ends_monos s (t ∷ ts) rest e = refl

ends_args : (s : PrintScope) (more : List ArgTree) (rest : List ℕ) → ends rest ≡ true → ends (bytes_of (more_args s more) ++ rest) ≡ true
unfolding bytes_of more_args
ends_args s [] rest e = e
ends_args s (a ∷ more) rest e = refl

pub lex_more_monos : (counts : List ℕ) (s : PrintScope) (ts : List MonoTree) → HasTextMonos counts s ts → LexesPhrase (more_monos s ts)
unfolding bytes_of more_monos HasTextMonos
lex_more_monos counts s [] has rest e = lex_nothing
lex_more_monos counts s (t ∷ ts) has rest e =
    in_turn (lex_comma) (phrase_then (lex_mono counts s t has.0) (ends_monos s ts _ e) (lex_more_monos counts s ts has.1 _ e))

pub lex_monos : (counts : List ℕ) (s : PrintScope) (ts : List MonoTree) → HasTextMonos counts s ts → LexesPhrase (monos s ts)
unfolding bytes_of HasTextMonos
lex_monos counts s [] has rest e = lex_nothing
lex_monos counts s (t ∷ ts) has rest e =
    in_turn (lex_sign OpenBracketSign refl)
    (in_turn (phrase_then (lex_mono counts s t has.0) (ends_monos s ts _ refl) (lex_more_monos counts s ts has.1 _ refl))
    (lex_sign CloseBracketSign refl))

pub lex_arg : (counts : List ℕ) (s : PrintScope) (a : ArgTree) → HasTextArg counts s a → LexesPhrase (arg s a)
unfolding bytes_of
lex_arg counts s (a_heap h) has rest e = in_turn (lex_sign AtSign refl) (lex_heap_entry s h has _ e)
lex_arg counts s (a_term M) has rest e = deep_phrase (lex_term counts s M has) _ e

pub lex_more_args : (counts : List ℕ) (s : PrintScope) (args : List ArgTree) → HasTextArgs counts s args → LexesPhrase (more_args s args)
unfolding bytes_of more_args HasTextArgs
lex_more_args counts s [] has rest e = lex_nothing
lex_more_args counts s (a ∷ others) has rest e =
    in_turn (lex_comma) (phrase_then (lex_arg counts s a has.0) (ends_args s others _ e) (lex_more_args counts s others has.1 _ e))

pub lex_args : (counts : List ℕ) (s : PrintScope) (more : List ArgTree) → HasTextArgs counts s more → LexesPhrase (args s more)
unfolding bytes_of HasTextArgs
lex_args counts s [] has rest e = lex_nothing
lex_args counts s (a ∷ others) has rest e = phrase_then (lex_arg counts s a has.0) (ends_args s others _ e) (lex_more_args counts s others has.1 _ e)

pub lex_motive : (counts : List ℕ) (s : PrintScope) (C : FormulaTree) → HasTextFormula counts (with_entry a_term_or_heap s) C → LexesPhrase (motive s C)
unfolding bytes_of
lex_motive counts s C has rest e =
    phrase_then (lex_new a_term_or_heap s) refl
    (in_turn (lex_between DotSign refl)
    (in_turn (lex_sign OpenBracketSign refl)
    (phrase_then (deep_phrase (lex_formula counts (with_entry a_term_or_heap s) C has)) refl (lex_sign CloseBracketSign refl))))

ends_before_args : (s : PrintScope) (ts : List MonoTree) (more : List ArgTree) (rest : List ℕ)
    → ends (bytes_of (monos s ts ▹ in_parens (args s more)) ++ rest) ≡ true
unfolding bytes_of
ends_before_args s [] more rest = refl
ends_before_args s (t ∷ ts) more rest = refl

mutual
  unfolding bytes_of proof HasTextProof

  pub lex_proof : (counts : List ℕ) (s : PrintScope) (p : ProofTree) → HasTextProof counts s p → LexesPhrase (proof s p)
  lex_proof counts s (p_hyp number) has rest e = lex_hypothesis number _ e
  lex_proof counts s p_trivial has rest e = lex_word TrivialWord _ e
  lex_proof counts s p_refl has rest e = lex_word ReflWord _ e
  lex_proof counts s (p_first p) has rest e =
      phrase_then (lex_word FirstWord) refl
      (in_turn (lex_sign OpenParenSign refl) (phrase_then (deep_phrase (lex_proof counts s p has)) refl (lex_sign CloseParenSign refl)))
  lex_proof counts s (p_second p) has rest e =
      phrase_then (lex_word SecondWord) refl
      (in_turn (lex_sign OpenParenSign refl) (phrase_then (deep_phrase (lex_proof counts s p has)) refl (lex_sign CloseParenSign refl)))
  lex_proof counts s (p_left p) has rest e =
      phrase_then (lex_word LeftWord) refl
      (in_turn (lex_sign OpenParenSign refl) (phrase_then (deep_phrase (lex_proof counts s p has)) refl (lex_sign CloseParenSign refl)))
  lex_proof counts s (p_right p) has rest e =
      phrase_then (lex_word RightWord) refl
      (in_turn (lex_sign OpenParenSign refl) (phrase_then (deep_phrase (lex_proof counts s p has)) refl (lex_sign CloseParenSign refl)))
  lex_proof counts s (p_absurd p) has rest e =
      phrase_then (lex_word AbsurdWord) refl
      (in_turn (lex_sign OpenParenSign refl) (phrase_then (deep_phrase (lex_proof counts s p has)) refl (lex_sign CloseParenSign refl)))
  lex_proof counts s (p_both p q) has rest e =
      phrase_then (lex_word BothWord) refl
      (in_turn (lex_sign OpenParenSign refl)
      (in_turn
      (phrase_then (deep_phrase (lex_proof counts s p has.0)) refl (in_turn (lex_comma) (deep_phrase (lex_proof counts s q has.1) _ refl)))
      (lex_sign CloseParenSign refl)))
  lex_proof counts s (p_give a p) has rest e =
      phrase_then (lex_word GiveWord) refl
      (in_turn (lex_sign OpenParenSign refl)
      (in_turn (phrase_then (lex_arg counts s a has.0) refl (in_turn (lex_comma) (deep_phrase (lex_proof counts s p has.1) _ refl)))
      (lex_sign CloseParenSign refl)))
  lex_proof counts s (p_app p q) has rest e =
      phrase_then (lex_word AppWord) refl
      (in_turn (lex_sign OpenParenSign refl)
      (in_turn (phrase_then (deep_phrase (lex_proof counts s p has.0)) refl
      (in_turn (lex_comma) (numbered_phrase (deep_phrase (lex_proof counts s q has.1)) _ refl))) (lex_sign CloseParenSign refl)))
  lex_proof counts s (p_inst p a) has rest e =
      phrase_then (lex_word InstWord) refl
      (in_turn (lex_sign OpenParenSign refl)
      (in_turn (phrase_then (deep_phrase (lex_proof counts s p has.0)) refl
      (in_turn (lex_comma) (numbered_phrase (lex_arg counts s a has.1) _ refl))) (lex_sign CloseParenSign refl)))
  lex_proof counts s (p_case p q r) has rest e =
      phrase_then (lex_word CaseWord) refl
      (in_turn (lex_sign OpenParenSign refl)
      (in_turn (phrase_then (deep_phrase (lex_proof counts s p has.0)) refl
      (in_turn (lex_comma) (phrase_then (lex_hypothesis s.hypotheses) refl
      (in_turn (lex_between DotSign refl)
      (phrase_then (deep_phrase (lex_proof counts (with_hypothesis s) q has.1)) refl
      (in_turn (lex_comma) (phrase_then (lex_hypothesis s.hypotheses) refl
      (in_turn (lex_between DotSign refl) (deep_phrase (lex_proof counts (with_hypothesis s) r has.2) _ refl)))))))))
      (lex_sign CloseParenSign refl)))
  lex_proof counts s (p_rewrite p C q) has rest e =
      phrase_then (lex_word RewriteWord) refl
      (in_turn (lex_sign OpenParenSign refl)
      (in_turn (phrase_then (deep_phrase (lex_proof counts s p has.0)) refl
      (in_turn (lex_comma)
      (phrase_then (lex_motive counts s C has.1) refl (in_turn (lex_comma) (deep_phrase (lex_proof counts s q has.2) _ refl)))))
      (lex_sign CloseParenSign refl)))
  lex_proof counts s (p_induct C M p q) has rest e =
      phrase_then (lex_word InductWord) refl
      (in_turn (lex_sign OpenParenSign refl)
      (in_turn (phrase_then (lex_motive counts s C has.0) refl
      (in_turn (lex_comma) (phrase_then (deep_phrase (lex_term counts s M has.1)) refl
      (in_turn (lex_comma) (phrase_then (deep_phrase (lex_proof counts s p has.2)) refl
      (in_turn (lex_comma) (phrase_then (lex_new a_term_or_heap s) refl
      (in_turn (lex_space) (phrase_then (lex_hypothesis s.hypotheses) refl
      (in_turn (lex_space) (phrase_then (lex_hypothesis (with_hypothesis s).hypotheses) refl
      (in_turn (lex_between DotSign refl) (deep_phrase (lex_proof counts (under_next s) q has.3) _ refl)))))))))))))
      (lex_sign CloseParenSign refl)))
  lex_proof counts s (p_split C M p q) has rest e =
      phrase_then (lex_word SplitWord) refl
      (in_turn (lex_sign OpenParenSign refl)
      (in_turn (phrase_then (lex_motive counts s C has.0) refl
      (in_turn (lex_comma) (phrase_then (deep_phrase (lex_term counts s M has.1)) refl
      (in_turn (lex_comma) (phrase_then (deep_phrase (lex_proof counts s p has.2)) refl
      (in_turn (lex_comma) (deep_phrase (lex_proof counts s q has.3) _ refl))))))) (lex_sign CloseParenSign refl)))
  lex_proof counts s (p_axiom c ts more) has rest e =
      phrase_then (lex_word AxiomWord) refl
      (in_turn (lex_space) (phrase_then (lex_name c has.0) (ends_before_args s ts more _)
      (phrase_then (lex_monos counts s ts has.1) refl
      (in_turn (lex_sign OpenParenSign refl) (phrase_then (lex_args counts s more has.2) refl (lex_sign CloseParenSign refl))))))
  lex_proof counts s (p_unfold number at_next more) has rest e =
      phrase_then (lex_word AxiomWord) refl
      (in_turn (lex_space) (phrase_then (lex_name_or_blank (slice_get s.recs number) has.0) refl
      (in_turn (lex_sign DotSign refl)
      (phrase_then (lex_number at_next has.1) refl
      (in_turn (lex_sign OpenParenSign refl) (phrase_then (lex_args counts s more has.3) refl (lex_sign CloseParenSign refl)))))))
  lex_proof counts s (p_lem F) has rest e =
      phrase_then (lex_word LemWord) refl
      (in_turn (lex_sign OpenBracketSign refl)
      (phrase_then (deep_phrase (lex_formula counts s F has)) refl (lex_sign CloseBracketSign refl)))
  lex_proof counts s (p_the F p) has rest e =
      phrase_then (lex_word TheWord) refl
      (in_turn (in_turn (lex_sign OpenBracketSign refl)
      (phrase_then (deep_phrase (lex_formula counts s F has.0)) refl (lex_sign CloseBracketSign refl)))
      (in_turn (lex_sign OpenParenSign refl) (phrase_then (deep_phrase (lex_proof counts s p has.1)) refl (lex_sign CloseParenSign refl))))
  lex_proof counts s (p_block b) has rest e = lex_block counts s b has.1 _ e
  lex_proof counts s (p_at at p) has rest e = lex_proof counts s p has _ e

  pub lex_block : (counts : List ℕ) (s : PrintScope) (b : BlockTree) → HasTextBlock counts s b → LexesPhrase (block s b)
  lex_block counts s (b_then d b) has rest e = in_turn (lex_stmt counts s d has.0 _) (lex_block counts (after_stmt d s) b has.1 _ e)
  lex_block counts s (b_end p) has rest e = lex_proof counts s p has.1 _ e

  pub lex_stmt : (counts : List ℕ) (s : PrintScope) (d : StmtTree) → HasTextStmt counts s d → (rest : List ℕ) → Lexes (stmt s d) rest
  lex_stmt counts s d_intro has rest =
      phrase_then (lex_word IntroWord) refl (in_turn (lex_space) (phrase_then (lex_hypothesis s.hypotheses) refl (lex_semicolon)))
  lex_stmt counts s d_gen has rest = phrase_then (lex_word GenWord) refl (in_turn (lex_space) (phrase_then (lex_new a_term_or_heap s) refl (lex_semicolon)))
  lex_stmt counts s (d_have F p) has rest =
      phrase_then (lex_word HaveWord) refl
      (in_turn (lex_space) (phrase_then (lex_hypothesis s.hypotheses) refl
      (in_turn (lex_between ColonSign refl)
      (in_turn (in_turn (lex_sign OpenBracketSign refl)
      (phrase_then (deep_phrase (lex_formula counts s F has.0)) refl (lex_sign CloseBracketSign refl)))
      (in_turn (lex_between EqualSign refl) (phrase_then (deep_phrase (lex_proof counts s p has.1)) refl (lex_semicolon)))))))
  lex_stmt counts s (d_open p) has rest =
      phrase_then (lex_word OpenWord) refl
      (in_turn (lex_space) (phrase_then (lex_new a_term_or_heap s) refl
      (in_turn (lex_space) (phrase_then (lex_hypothesis s.hypotheses) refl
      (in_turn (lex_between EqualSign refl) (phrase_then (deep_phrase (lex_proof counts s p has)) refl (lex_semicolon)))))))
  lex_stmt counts s (d_at at d) has rest = lex_stmt counts s d has _
