-- What is printed of types, terms, computations and formulas is read as it was printed: a row for each form.
use Rattle.std.proofs.Common.{◌≡◌, ℕ, List, ◌++◌, true, false, refl}
use Rattle.std.specs.Prelude.{slice_get}
use Rattle.htt_lexer_tokens.specs.declared.tokens.Keyword.TheVariants.{WordWord, BoolWord, LocWord, UnitWord, HeapWord, FunWord, DoWord, FixWord, RetWord}
use Rattle.htt_lexer_tokens.specs.declared.tokens.Keyword.TheVariants.{AllocWord}
use Rattle.htt_lexer_tokens.specs.declared.tokens.Keyword.TheVariants.{GetWord, SetWord, FreeWord, IfWord, ClaimWord, TrueWord, FalseWord, FstWord, SndWord}
use Rattle.htt_lexer_tokens.specs.declared.tokens.Keyword.TheVariants.{NotWord}
use Rattle.htt_lexer_tokens.specs.declared.tokens.Keyword.TheVariants.{EqWord, SelWord, TtWord, FfWord, AllWord, ExWord, CapitalEmpWord, CellWord, BlockWord}
use Rattle.htt_lexer_tokens.specs.declared.tokens.Keyword.TheVariants.{JoinWord, SameWord}
use Rattle.htt_lexer_tokens.specs.declared.tokens.Sign.TheVariants.{OpenParenSign, CloseParenSign, OpenBracketSign, CloseBracketSign, OpenBraceSign}
use Rattle.htt_lexer_tokens.specs.declared.tokens.Sign.TheVariants.{CloseBraceSign}
use Rattle.htt_lexer_tokens.specs.declared.tokens.Sign.TheVariants.{ColonSign, DotSign, EqualSign, ImpliesSign, ArrowSign, LeftArrowSign, StarSign, AndSign}
use Rattle.htt_lexer_tokens.specs.declared.tokens.Sign.TheVariants.{OrSign, AtSign, BangSign, SemicolonSign}
use Rattle.htt_syntax.specs.Trees.{MonoTree, TyTree, TripleTree, TermTree, FixTree, CompTree, StepTree, FormulaTree, TermTrees, m_word, m_bool, m_loc, m_unit}
use Rattle.htt_syntax.specs.Trees.{m_pair, m_var}
use Rattle.htt_syntax.specs.Trees.{y_mono, y_fun, y_all, y_hoare, y_at, triple, t_var, t_val, t_def, t_app, t_inst, t_lam, t_lam_t, t_do, t_fix, t_word, t_bool}
use Rattle.htt_syntax.specs.Trees.{t_loc}
use Rattle.htt_syntax.specs.Trees.{t_unit, t_pair, t_fst, t_snd, t_not, t_bin, t_eq, t_sel, t_ann, t_made, t_at, x_param, x_body, c_ret, c_step, s_run, s_alloc}
use Rattle.htt_syntax.specs.Trees.{s_get}
use Rattle.htt_syntax.specs.Trees.{s_set, s_free, s_if, s_claim, f_tt, f_ff, f_and, f_or, f_imp, f_all_t, f_ex_t, f_all_h, f_ex_h, f_emp, f_cell, f_block}
use Rattle.htt_syntax.specs.Trees.{f_join}
use Rattle.htt_syntax.specs.Trees.{f_same, f_eq, f_at, f_rec, no_terms, more_terms}
use Rattle.theory_text_names.specs.Scopes.{a_mono, a_term, a_heap}
use Rattle.theory_printing.specs.Pieces.{bytes_of}
use Rattle.theory_printing.specs.Names.{PrintScope, with_entry, under_mem, under_heaps}
use Rattle.theory_printing.specs.Brackets.{an_operand, a_side, a_run, a_head, needs_brackets, mono_form, term_form, formula_form}
use Rattle.theory_printing.specs.Phrases.{mono, under_params, ty, spec, term, fix, comp, step, formula, arguments, more_arguments}
use Rattle.theory_printing_conditions.specs.Conditions.{HasTextMono, HasTextTy, HasTextSpec, HasTextTerm, HasTextFix, HasTextComp, HasTextStep, HasTextFormula}
use Rattle.theory_printing_conditions.specs.Conditions.{HasTextTerms}
use Rattle.theory_printing_tokens.proofs.Lexing.{in_turn, lex_nothing, lex_space}
use Rattle.theory_printing_lexemes.specs.Follows.{ends}
use Rattle.theory_printing_tokens.proofs.Leaves.{LexesPhrase, phrase_then, deep_phrase, numbered_phrase, lex_word, lex_sign, lex_number, lex_between, lex_comma}
use Rattle.theory_printing_tokens.proofs.Leaves.{lex_between_op, lex_right_of}
use Rattle.theory_printing_tokens.proofs.Leaves.{lex_place, lex_mono_in, lex_term_in, lex_formula_in, lex_new, lex_name_or_blank, lex_mono_entry}
use Rattle.theory_printing_tokens.proofs.Leaves.{lex_term_entry, lex_heap_entry}

pub lex_mono : (counts : List ℕ) (s : PrintScope) (t : MonoTree) → HasTextMono counts s t → LexesPhrase (mono s t)
unfolding bytes_of mono HasTextMono
lex_mono counts s m_word has rest e = lex_word WordWord _ e
lex_mono counts s m_bool has rest e = lex_word BoolWord _ e
lex_mono counts s m_loc has rest e = lex_word LocWord _ e
lex_mono counts s m_unit has rest e = lex_word UnitWord _ e
lex_mono counts s (m_pair t u) has rest e =
    phrase_then (lex_mono_in (needs_brackets an_operand (mono_form t)) (lex_mono counts s t has.0)) refl
    (in_turn (lex_between StarSign refl)
    (deep_phrase (lex_mono_in (needs_brackets an_operand (mono_form u)) (lex_mono counts s u has.1)) _ e))
lex_mono counts s (m_var index) has rest e = lex_mono_entry s index has _ e

-- ---- what may follow a term, and the name of a recursive function

ends_arguments : (s : PrintScope) (Ms : TermTrees) (rest : List ℕ) → ends rest ≡ true → ends (bytes_of (more_arguments s Ms) ++ rest) ≡ true
unfolding bytes_of more_arguments
ends_arguments s no_terms rest e = e
ends_arguments s (more_terms M Ms) rest e = refl

ends_fix : (s : PrintScope) (X : FixTree) (rest : List ℕ) → ends (bytes_of (fix s X) ++ rest) ≡ true
unfolding bytes_of fix
ends_fix s (x_param A X) rest = refl
ends_fix s (x_body T E) rest = refl

mutual
  unfolding bytes_of term HasTextTerm

  pub lex_ty : (counts : List ℕ) (s : PrintScope) (A : TyTree) → HasTextTy counts s A → LexesPhrase (ty s A)
  lex_ty counts s (y_mono t) has rest e = lex_mono counts s t has _ e
  lex_ty counts s (y_fun A B) has rest e =
      in_turn (in_turn (lex_sign OpenParenSign refl)
      (in_turn (phrase_then (lex_new a_term s) refl (in_turn (lex_between ColonSign refl) (deep_phrase (lex_ty counts s A has.0) _ refl)))
      (lex_sign CloseParenSign refl)))
      (in_turn (lex_between ArrowSign refl) (deep_phrase (lex_ty counts (with_entry a_term s) B has.1) _ e))
  lex_ty counts s (y_all B) has rest e =
      in_turn (in_turn (lex_sign OpenBracketSign refl) (phrase_then (lex_new a_mono s) refl (lex_sign CloseBracketSign refl)))
      (in_turn (lex_between ArrowSign refl) (deep_phrase (lex_ty counts (with_entry a_mono s) B has) _ e))
  lex_ty counts s (y_hoare T) has rest e = lex_spec counts s T has _ e
  lex_ty counts s (y_at at A) has rest e = lex_ty counts s A has _ e

  pub lex_spec : (counts : List ℕ) (s : PrintScope) (T : TripleTree) → HasTextSpec counts s T → LexesPhrase (spec s T)
  lex_spec counts s (triple P t Q) has rest e =
      in_turn (in_turn (lex_sign OpenBraceSign refl)
      (phrase_then (deep_phrase (lex_formula counts (under_mem s) P has.0)) refl (lex_sign CloseBraceSign refl)))
      (in_turn (lex_space) (in_turn
      (phrase_then (lex_new a_term s) refl (in_turn (lex_between ColonSign refl) (lex_mono counts s t has.1 _ refl)))
      (in_turn (lex_space) (in_turn (lex_sign OpenBraceSign refl)
      (phrase_then (deep_phrase (lex_formula counts (under_heaps (with_entry a_term s)) Q has.2)) refl (lex_sign CloseBraceSign refl))))))

  pub lex_term : (counts : List ℕ) (s : PrintScope) (M : TermTree) → HasTextTerm counts s M → LexesPhrase (term s M)
  lex_term counts s (t_var index) has rest e = lex_term_entry s index has _ e
  lex_term counts s (t_val number) has rest e = lex_name_or_blank (slice_get s.vals number) has _ e
  lex_term counts s (t_app K M) has rest e =
      phrase_then (lex_term_in (needs_brackets a_head (term_form K)) (lex_term counts s K has.0)) refl
      (in_turn (lex_space) (numbered_phrase (lex_term_in (needs_brackets an_operand (term_form M)) (lex_term counts s M has.1)) _ e))
  lex_term counts s (t_inst K t) has rest e =
      phrase_then (lex_term_in (needs_brackets a_head (term_form K)) (lex_term counts s K has.0)) refl
      (in_turn (lex_space) (in_turn (lex_sign OpenBracketSign refl)
      (phrase_then (numbered_phrase (lex_mono counts s t has.1)) refl (lex_sign CloseBracketSign refl))))
  lex_term counts s (t_lam M) has rest e =
      phrase_then (lex_word FunWord) refl
      (in_turn (lex_space) (phrase_then (lex_new a_term s) refl
      (in_turn (lex_between DotSign refl) (deep_phrase (lex_term counts (with_entry a_term s) M has) _ e))))
  lex_term counts s (t_lam_t M) has rest e =
      phrase_then (lex_word FunWord) refl
      (in_turn (lex_space) (in_turn
      (in_turn (lex_sign OpenBracketSign refl) (phrase_then (lex_new a_mono s) refl (lex_sign CloseBracketSign refl)))
      (in_turn (lex_between DotSign refl) (deep_phrase (lex_term counts (with_entry a_mono s) M has) _ e))))
  lex_term counts s (t_do E) has rest e = phrase_then (lex_word DoWord) refl (in_turn (lex_space) (deep_phrase (lex_comp counts s E has) _ e))
  lex_term counts s (t_fix at X) has rest e =
      phrase_then (lex_word FixWord) refl
      (in_turn (lex_space) (phrase_then (lex_new a_term (under_params X s)) (ends_fix s X _) (lex_fix counts s X has _ e)))
  lex_term counts s (t_word n) has rest e = lex_number n has _ e
  lex_term counts s (t_bool true) has rest e = lex_word TrueWord _ e
  lex_term counts s (t_bool false) has rest e = lex_word FalseWord _ e
  lex_term counts s (t_loc n) has rest e = lex_place n has _ e
  lex_term counts s t_unit has rest e = in_turn (lex_sign OpenParenSign refl) (lex_sign CloseParenSign refl)
  lex_term counts s (t_pair M N) has rest e =
      in_turn (lex_sign OpenParenSign refl)
      (in_turn
      (phrase_then (deep_phrase (lex_term counts s M has.0)) refl (in_turn (lex_comma) (deep_phrase (lex_term counts s N has.1) _ refl)))
      (lex_sign CloseParenSign refl))
  lex_term counts s (t_fst M) has rest e =
      phrase_then (lex_word FstWord) refl
      (in_turn (lex_space) (lex_term_in (needs_brackets an_operand (term_form M)) (lex_term counts s M has) _ e))
  lex_term counts s (t_snd M) has rest e =
      phrase_then (lex_word SndWord) refl
      (in_turn (lex_space) (lex_term_in (needs_brackets an_operand (term_form M)) (lex_term counts s M has) _ e))
  lex_term counts s (t_not M) has rest e =
      phrase_then (lex_word NotWord) refl
      (in_turn (lex_space) (lex_term_in (needs_brackets an_operand (term_form M)) (lex_term counts s M has) _ e))
  lex_term counts s (t_bin op M N) has rest e =
      phrase_then (lex_term_in (needs_brackets an_operand (term_form M)) (lex_term counts s M has.0)) refl
      (in_turn (lex_between_op op)
      (lex_right_of op (lex_term_in (needs_brackets an_operand (term_form N)) (lex_term counts s N has.1)) _ e))
  lex_term counts s (t_eq t M N) has rest e =
      phrase_then (lex_word EqWord) refl
      (in_turn (in_turn (lex_sign OpenBracketSign refl) (phrase_then (lex_mono counts s t has.0) refl (lex_sign CloseBracketSign refl)))
      (in_turn (lex_sign OpenParenSign refl)
      (in_turn
      (phrase_then (deep_phrase (lex_term counts s M has.1)) refl (in_turn (lex_comma) (deep_phrase (lex_term counts s N has.2) _ refl)))
      (lex_sign CloseParenSign refl))))
  lex_term counts s (t_sel t B M N) has rest e =
      phrase_then (lex_word SelWord) refl
      (in_turn (in_turn (lex_sign OpenBracketSign refl) (phrase_then (lex_mono counts s t has.0) refl (lex_sign CloseBracketSign refl)))
      (in_turn (lex_sign OpenParenSign refl)
      (in_turn (phrase_then (deep_phrase (lex_term counts s B has.1)) refl
      (in_turn (lex_comma)
      (phrase_then (deep_phrase (lex_term counts s M has.2)) refl (in_turn (lex_comma) (deep_phrase (lex_term counts s N has.3) _ refl)))))
      (lex_sign CloseParenSign refl))))
  lex_term counts s (t_ann M A) has rest e =
      in_turn (lex_sign OpenParenSign refl)
      (in_turn (phrase_then (deep_phrase (lex_term counts s M has.0)) refl
      (in_turn (lex_between ColonSign refl) (deep_phrase (lex_ty counts s A has.1) _ refl))) (lex_sign CloseParenSign refl))
  lex_term counts s (t_at at M) has rest e = lex_term counts s M has _ e
  lex_term counts s (t_def number) has rest e = absurd has
  lex_term counts s (t_made number captured) has rest e = absurd has

  pub lex_fix : (counts : List ℕ) (s : PrintScope) (X : FixTree) → HasTextFix counts s X → LexesPhrase (fix s X)
  lex_fix counts s (x_param A X) has rest e =
      in_turn (lex_space) (in_turn
      (in_turn (lex_sign OpenParenSign refl)
      (in_turn (phrase_then (lex_new a_term s) refl (in_turn (lex_between ColonSign refl) (deep_phrase (lex_ty counts s A has.0) _ refl)))
      (lex_sign CloseParenSign refl))) (lex_fix counts (with_entry a_term s) X has.1 _ e))
  lex_fix counts s (x_body T E) has rest e =
      in_turn (lex_between ColonSign refl)
      (phrase_then (lex_spec counts s T has.0) refl
      (in_turn (lex_between DotSign refl) (deep_phrase (lex_comp counts (with_entry a_term s) E has.1) _ e)))

  pub lex_comp : (counts : List ℕ) (s : PrintScope) (E : CompTree) → HasTextComp counts s E → LexesPhrase (comp s E)
  lex_comp counts s (c_ret M) has rest e = phrase_then (lex_word RetWord) refl (in_turn (lex_space) (deep_phrase (lex_term counts s M has) _ e))
  lex_comp counts s (c_step S E) has rest e =
      phrase_then (lex_new a_term s) refl
      (in_turn (lex_between LeftArrowSign refl)
      (phrase_then (lex_step counts s S has.0) refl
      (in_turn (lex_sign SemicolonSign refl) (in_turn (lex_space) (lex_comp counts (with_entry a_term s) E has.1 _ e)))))

  pub lex_step : (counts : List ℕ) (s : PrintScope) (S : StepTree) → HasTextStep counts s S → LexesPhrase (step s S)
  lex_step counts s (s_run K t) has rest e = lex_term_in (needs_brackets a_run (term_form K)) (lex_term counts s K has) _ e
  lex_step counts s (s_alloc t M) has rest e =
      phrase_then (lex_word AllocWord) refl
      (in_turn (in_turn (lex_sign OpenBracketSign refl) (phrase_then (lex_mono counts s t has.0) refl (lex_sign CloseBracketSign refl)))
      (in_turn (lex_space) (lex_term_in (needs_brackets an_operand (term_form M)) (lex_term counts s M has.1) _ e)))
  lex_step counts s (s_get t M) has rest e =
      phrase_then (lex_word GetWord) refl
      (in_turn (in_turn (lex_sign OpenBracketSign refl) (phrase_then (lex_mono counts s t has.0) refl (lex_sign CloseBracketSign refl)))
      (in_turn (lex_space) (lex_term_in (needs_brackets an_operand (term_form M)) (lex_term counts s M has.1) _ e)))
  lex_step counts s (s_set t M N) has rest e =
      phrase_then (lex_word SetWord) refl
      (in_turn (in_turn (lex_sign OpenBracketSign refl) (phrase_then (lex_mono counts s t has.0) refl (lex_sign CloseBracketSign refl)))
      (in_turn (lex_space) (phrase_then (lex_term_in (needs_brackets an_operand (term_form M)) (lex_term counts s M has.1)) refl
      (in_turn (lex_space) (lex_term_in (needs_brackets an_operand (term_form N)) (lex_term counts s N has.2) _ e)))))
  lex_step counts s (s_free t M) has rest e =
      phrase_then (lex_word FreeWord) refl
      (in_turn (in_turn (lex_sign OpenBracketSign refl) (phrase_then (lex_mono counts s t has.0) refl (lex_sign CloseBracketSign refl)))
      (in_turn (lex_space) (lex_term_in (needs_brackets an_operand (term_form M)) (lex_term counts s M has.1) _ e)))
  lex_step counts s (s_if t B E E') has rest e =
      phrase_then (lex_word IfWord) refl
      (in_turn (lex_space) (in_turn
      (in_turn (lex_sign OpenBracketSign refl) (phrase_then (lex_mono counts s t has.0) refl (lex_sign CloseBracketSign refl)))
      (in_turn (lex_space) (phrase_then (lex_term_in (needs_brackets an_operand (term_form B)) (lex_term counts s B has.1)) refl
      (in_turn (lex_space) (in_turn
      (in_turn (lex_sign OpenBraceSign refl)
      (in_turn (in_turn (lex_space) (phrase_then (deep_phrase (lex_comp counts s E has.2)) refl (lex_space)))
      (lex_sign CloseBraceSign refl)))
      (in_turn (lex_space) (in_turn (lex_sign OpenBraceSign refl)
      (in_turn (in_turn (lex_space) (phrase_then (deep_phrase (lex_comp counts s E' has.3)) refl (lex_space)))
      (lex_sign CloseBraceSign refl))))))))))
  lex_step counts s (s_claim F) has rest e =
      phrase_then (lex_word ClaimWord) refl
      (in_turn (lex_space) (in_turn (lex_sign OpenBraceSign refl)
      (phrase_then (deep_phrase (lex_formula counts (under_heaps s) F has)) refl (lex_sign CloseBraceSign refl))))

  pub lex_formula : (counts : List ℕ) (s : PrintScope) (F : FormulaTree) → HasTextFormula counts s F → LexesPhrase (formula s F)
  lex_formula counts s f_tt has rest e = lex_word TtWord _ e
  lex_formula counts s f_ff has rest e = lex_word FfWord _ e
  lex_formula counts s (f_and F G) has rest e =
      phrase_then (lex_formula_in (needs_brackets an_operand (formula_form F)) (lex_formula counts s F has.0)) refl
      (in_turn (lex_between AndSign refl)
      (deep_phrase (lex_formula_in (needs_brackets an_operand (formula_form G)) (lex_formula counts s G has.1)) _ e))
  lex_formula counts s (f_or F G) has rest e =
      phrase_then (lex_formula_in (needs_brackets an_operand (formula_form F)) (lex_formula counts s F has.0)) refl
      (in_turn (lex_between OrSign refl)
      (deep_phrase (lex_formula_in (needs_brackets an_operand (formula_form G)) (lex_formula counts s G has.1)) _ e))
  lex_formula counts s (f_imp F G) has rest e =
      phrase_then (lex_formula_in (needs_brackets an_operand (formula_form F)) (lex_formula counts s F has.0)) refl
      (in_turn (lex_between ImpliesSign refl)
      (deep_phrase (lex_formula_in (needs_brackets an_operand (formula_form G)) (lex_formula counts s G has.1)) _ e))
  lex_formula counts s (f_all_t t F) has rest e =
      phrase_then (lex_word AllWord) refl
      (in_turn (lex_space) (in_turn
      (phrase_then (lex_new a_term s) refl (in_turn (lex_between ColonSign refl) (lex_mono counts s t has.0 _ refl)))
      (in_turn (lex_between DotSign refl) (deep_phrase (lex_formula counts (with_entry a_term s) F has.1) _ e))))
  lex_formula counts s (f_ex_t t F) has rest e =
      phrase_then (lex_word ExWord) refl
      (in_turn (lex_space) (in_turn
      (phrase_then (lex_new a_term s) refl (in_turn (lex_between ColonSign refl) (lex_mono counts s t has.0 _ refl)))
      (in_turn (lex_between DotSign refl) (deep_phrase (lex_formula counts (with_entry a_term s) F has.1) _ e))))
  lex_formula counts s (f_all_h F) has rest e =
      phrase_then (lex_word AllWord) refl
      (in_turn (lex_space) (in_turn (phrase_then (lex_new a_heap s) refl (in_turn (lex_between ColonSign refl) (lex_word HeapWord _ refl)))
      (in_turn (lex_between DotSign refl) (deep_phrase (lex_formula counts (with_entry a_heap s) F has) _ e))))
  lex_formula counts s (f_ex_h F) has rest e =
      phrase_then (lex_word ExWord) refl
      (in_turn (lex_space) (in_turn (phrase_then (lex_new a_heap s) refl (in_turn (lex_between ColonSign refl) (lex_word HeapWord _ refl)))
      (in_turn (lex_between DotSign refl) (deep_phrase (lex_formula counts (with_entry a_heap s) F has) _ e))))
  lex_formula counts s (f_emp h) has rest e =
      phrase_then (lex_word CapitalEmpWord) refl
      (in_turn (lex_sign OpenParenSign refl) (phrase_then (lex_heap_entry s h has) refl (lex_sign CloseParenSign refl)))
  lex_formula counts s (f_cell t h M N) has rest e =
      phrase_then (lex_word CellWord) refl
      (in_turn (in_turn (lex_sign OpenBracketSign refl) (phrase_then (lex_mono counts s t has.0) refl (lex_sign CloseBracketSign refl)))
      (in_turn (lex_sign OpenParenSign refl)
      (in_turn (phrase_then (lex_heap_entry s h has.1) refl
      (in_turn (lex_comma)
      (phrase_then (deep_phrase (lex_term counts s M has.2)) refl (in_turn (lex_comma) (deep_phrase (lex_term counts s N has.3) _ refl)))))
      (lex_sign CloseParenSign refl))))
  lex_formula counts s (f_block t h M) has rest e =
      phrase_then (lex_word BlockWord) refl
      (in_turn (in_turn (lex_sign OpenBracketSign refl) (phrase_then (lex_mono counts s t has.0) refl (lex_sign CloseBracketSign refl)))
      (in_turn (lex_sign OpenParenSign refl)
      (in_turn (phrase_then (lex_heap_entry s h has.1) refl (in_turn (lex_comma) (deep_phrase (lex_term counts s M has.2) _ refl)))
      (lex_sign CloseParenSign refl))))
  lex_formula counts s (f_join h a b) has rest e =
      phrase_then (lex_word JoinWord) refl
      (in_turn (lex_sign OpenParenSign refl)
      (in_turn (phrase_then (lex_heap_entry s h has.0) refl
      (in_turn (lex_comma) (phrase_then (lex_heap_entry s a has.1) refl (in_turn (lex_comma) (lex_heap_entry s b has.2 _ refl)))))
      (lex_sign CloseParenSign refl)))
  lex_formula counts s (f_same h k) has rest e =
      phrase_then (lex_word SameWord) refl
      (in_turn (lex_sign OpenParenSign refl)
      (in_turn (phrase_then (lex_heap_entry s h has.0) refl (in_turn (lex_comma) (lex_heap_entry s k has.1 _ refl)))
      (lex_sign CloseParenSign refl)))
  lex_formula counts s (f_eq t M N) has rest e =
      phrase_then (lex_term_in (needs_brackets a_side (term_form M)) (lex_term counts s M has.0)) refl
      (in_turn (lex_space) (in_turn (lex_sign EqualSign refl)
      (in_turn (in_turn (lex_sign OpenBracketSign refl) (phrase_then (lex_mono counts s t has.1) refl (lex_sign CloseBracketSign refl)))
      (in_turn (lex_space) (lex_term_in (needs_brackets a_side (term_form N)) (lex_term counts s N has.2) _ e)))))
  lex_formula counts s (f_at at F) has rest e = lex_formula counts s F has _ e
  lex_formula counts s (f_rec p h N Ms) has rest e =
      in_turn (lex_sign BangSign refl)
      (phrase_then (lex_name_or_blank (slice_get s.recs p) has.0) refl
      (in_turn (lex_sign AtSign refl)
      (phrase_then (lex_heap_entry s h has.1) refl
      (in_turn (lex_sign OpenParenSign refl)
      (in_turn (phrase_then (deep_phrase (lex_term counts s N has.2)) refl
      (in_turn (lex_sign SemicolonSign refl) (lex_arguments counts s Ms has.3 _ refl))) (lex_sign CloseParenSign refl))))))

  pub lex_arguments : (counts : List ℕ) (s : PrintScope) (Ms : TermTrees) → HasTextTerms counts s Ms → LexesPhrase (arguments s Ms)
  lex_arguments counts s no_terms has rest e = lex_nothing
  lex_arguments counts s (more_terms M Ms) has rest e =
      in_turn (lex_space)
      (phrase_then (deep_phrase (lex_term counts s M has.0)) (ends_arguments s Ms _ e) (lex_more_arguments counts s Ms has.1 _ e))

  pub lex_more_arguments : (counts : List ℕ) (s : PrintScope) (Ms : TermTrees) → HasTextTerms counts s Ms → LexesPhrase (more_arguments s Ms)
  lex_more_arguments counts s no_terms has rest e = lex_nothing
  lex_more_arguments counts s (more_terms M Ms) has rest e =
      in_turn (lex_comma)
      (phrase_then (deep_phrase (lex_term counts s M has.0)) (ends_arguments s Ms _ e) (lex_more_arguments counts s Ms has.1 _ e))
