-- What is printed of monotypes, types, terms, computations and formulas: a row for each form.
use Rattle.std.specs.Prelude.{ℕ, zero, suc, ◌+◌, true, false, List, [], ◌∷◌}
use Rattle.htt_lexer_tokens.specs.declared.tokens.Keyword.{Keyword}
use Rattle.htt_lexer_tokens.specs.declared.tokens.Keyword.TheVariants.{WordWord, BoolWord, LocWord, UnitWord, HeapWord}
use Rattle.htt_lexer_tokens.specs.declared.tokens.Keyword.TheVariants.{FunWord, DoWord, FixWord, RetWord, AllocWord}
use Rattle.htt_lexer_tokens.specs.declared.tokens.Keyword.TheVariants.{GetWord, SetWord, FreeWord, IfWord, ClaimWord}
use Rattle.htt_lexer_tokens.specs.declared.tokens.Keyword.TheVariants.{TrueWord, FalseWord, NullWord, PlaceWord}
use Rattle.htt_lexer_tokens.specs.declared.tokens.Keyword.TheVariants.{FstWord, SndWord, NotWord, EqWord, SelWord}
use Rattle.htt_lexer_tokens.specs.declared.tokens.Keyword.TheVariants.{TtWord, FfWord, AllWord, ExWord, CapitalEmpWord}
use Rattle.htt_lexer_tokens.specs.declared.tokens.Keyword.TheVariants.{CellWord, BlockWord, JoinWord, SameWord}
use Rattle.htt_lexer_tokens.specs.declared.tokens.Sign.{Sign}
use Rattle.htt_lexer_tokens.specs.declared.tokens.Sign.TheVariants.{OpenParenSign, CloseParenSign, ColonSign, DotSign}
use Rattle.htt_lexer_tokens.specs.declared.tokens.Sign.TheVariants.{EqualSign, ImpliesSign, ArrowSign, LeftArrowSign}
use Rattle.htt_lexer_tokens.specs.declared.tokens.Sign.TheVariants.{UnderscoreSign, PlusSign, MinusSign, StarSign}
use Rattle.htt_lexer_tokens.specs.declared.tokens.Sign.TheVariants.{AmpersandSign, BarSign, CaretSign, ShiftLeftSign}
use Rattle.htt_lexer_tokens.specs.declared.tokens.Sign.TheVariants.{ShiftRightSign, LessSign, AndSign, OrSign, AtSign}
use Rattle.htt_lexer_tokens.specs.declared.tokens.Sign.TheVariants.{BangSign, SemicolonSign}
use Rattle.htt_syntax.specs.declared.mono.Op.{Op}
use Rattle.htt_syntax.specs.declared.mono.Op.TheVariants.{Add, Sub, Mul, And, Or, Xor, Shl, Shr, Lt}
use Rattle.htt_syntax.specs.Trees.{MonoTree, TyTree, TripleTree, TermTree, FixTree, CompTree, StepTree, FormulaTree}
use Rattle.htt_syntax.specs.Trees.{TermTrees, m_word, m_bool, m_loc, m_unit, m_pair, m_var, y_mono, y_fun, y_all}
use Rattle.htt_syntax.specs.Trees.{y_hoare, y_at, triple, t_var, t_val, t_def, t_app, t_inst, t_lam, t_lam_t, t_do}
use Rattle.htt_syntax.specs.Trees.{t_fix, t_word, t_bool, t_loc, t_unit, t_pair, t_fst, t_snd, t_not, t_bin, t_eq}
use Rattle.htt_syntax.specs.Trees.{t_sel, t_ann, t_made, t_at, x_param, x_body, c_ret, c_step, s_run, s_alloc, s_get}
use Rattle.htt_syntax.specs.Trees.{s_set, s_free, s_if, s_claim, f_tt, f_ff, f_and, f_or, f_imp, f_all_t, f_ex_t}
use Rattle.htt_syntax.specs.Trees.{f_all_h, f_ex_h, f_emp, f_cell, f_block, f_join, f_same, f_eq, f_at, f_rec, no_terms}
use Rattle.htt_syntax.specs.Trees.{more_terms}
use Rattle.theory_text_names.specs.Scopes.{Sort, a_mono, a_term, a_heap}
use Rattle.theory_printing.specs.Pieces.{Printed, nothing, ◌▹◌, deeper, operand, space, word, sign, number, between}
use Rattle.theory_printing.specs.Pieces.{comma, in_parens, in_brackets, in_braces}
use Rattle.theory_printing.specs.Names.{PrintScope, with_entry, under_mem, under_heaps, new_name, entry, val_name}
use Rattle.theory_printing.specs.Names.{rec_name}
use Rattle.theory_printing.specs.Brackets.{a_side, an_operand, a_run, a_head, mono_in, term_in, formula_in}

-- ---- monotypes

unfoldable pub mono : PrintScope → MonoTree → Printed
mono s m_word = word WordWord
mono s m_bool = word BoolWord
mono s m_loc = word LocWord
mono s m_unit = word UnitWord
mono s (m_pair t u) =
    mono_in an_operand t (mono s t) ▹ between StarSign ▹ deeper (mono_in an_operand u (mono s u))
mono s (m_var index) = entry s index

-- ---- words and signs

abbrev pub op_sign : Op → Sign
op_sign Add = PlusSign
op_sign Sub = MinusSign
op_sign Mul = StarSign
op_sign And = AmpersandSign
op_sign Or = BarSign
op_sign Xor = CaretSign
op_sign Shl = ShiftLeftSign
op_sign Shr = ShiftRightSign
op_sign Lt = LessSign

-- the right operand of `<` is no operand of a chain
abbrev pub right_of : Op → Printed → Printed
right_of Lt printed = printed
right_of op printed = operand 2 printed

unfoldable pub literal_place : ℕ → Printed
literal_place zero = word NullWord
literal_place (suc n) = word PlaceWord ▹ space ▹ number (suc n)

-- how many arguments a head has
unfoldable pub arguments_of : TermTree → ℕ
arguments_of (t_app function argument) = suc (arguments_of function)
arguments_of (t_inst function mono) = suc (arguments_of function)
arguments_of (t_at at term) = arguments_of term
arguments_of _ = zero

-- under the parameters of a recursive function
unfoldable pub under_params : FixTree → PrintScope → PrintScope
under_params (x_param ty others) s = under_params others (with_entry a_term s)
under_params (x_body spec comp) s = s

-- what a binder adds, with what it stands for
abbrev pub bound : Sort → PrintScope → Printed → Printed
bound sort s of_what = new_name sort s ▹ between ColonSign ▹ of_what

unfoldable mutual
  -- ---- types

  pub ty : PrintScope → TyTree → Printed
  ty s (y_mono t) = mono s t
  ty s (y_fun A B) =
      in_parens (bound a_term s (deeper (ty s A))) ▹ between ArrowSign ▹ deeper (ty (with_entry a_term s) B)
  ty s (y_all B) = in_brackets (new_name a_mono s) ▹ between ArrowSign ▹ deeper (ty (with_entry a_mono s) B)
  ty s (y_hoare T) = spec s T
  ty s (y_at at A) = ty s A

  pub spec : PrintScope → TripleTree → Printed
  spec s (triple P t Q) =
      in_braces (deeper (formula (under_mem s) P)) ▹ space ▹ bound a_term s (mono s t) ▹ space ▹
      in_braces (deeper (formula (under_heaps (with_entry a_term s)) Q))

  -- ---- terms

  pub term : PrintScope → TermTree → Printed
  term s (t_var index) = entry s index
  term s (t_val number) = val_name s number
  term s (t_app K M) =
      term_in a_head K (term s K) ▹ space ▹ operand (2 + arguments_of K) (term_in an_operand M (term s M))
  term s (t_inst K t) =
      term_in a_head K (term s K) ▹ space ▹ in_brackets (operand (2 + arguments_of K) (mono s t))
  term s (t_lam M) =
      word FunWord ▹ space ▹ new_name a_term s ▹ between DotSign ▹ deeper (term (with_entry a_term s) M)
  term s (t_lam_t M) =
      word FunWord ▹ space ▹ in_brackets (new_name a_mono s) ▹ between DotSign ▹
      deeper (term (with_entry a_mono s) M)
  term s (t_do E) = word DoWord ▹ space ▹ deeper (comp s E)
  -- the function is named first, and its position is behind the parameters
  term s (t_fix at X) = word FixWord ▹ space ▹ new_name a_term (under_params X s) ▹ fix s X
  term s (t_word n) = number n
  term s (t_bool true) = word TrueWord
  term s (t_bool false) = word FalseWord
  term s (t_loc n) = literal_place n
  term s t_unit = sign OpenParenSign ▹ sign CloseParenSign
  term s (t_pair M N) = in_parens (deeper (term s M) ▹ comma ▹ deeper (term s N))
  term s (t_fst M) = word FstWord ▹ space ▹ term_in an_operand M (term s M)
  term s (t_snd M) = word SndWord ▹ space ▹ term_in an_operand M (term s M)
  term s (t_not M) = word NotWord ▹ space ▹ term_in an_operand M (term s M)
  term s (t_bin op M N) =
      term_in an_operand M (term s M) ▹ between (op_sign op) ▹ right_of op (term_in an_operand N (term s N))
  term s (t_eq t M N) =
      word EqWord ▹ in_brackets (mono s t) ▹ in_parens (deeper (term s M) ▹ comma ▹ deeper (term s N))
  term s (t_sel t B M N) =
      word SelWord ▹ in_brackets (mono s t) ▹
      in_parens (deeper (term s B) ▹ comma ▹ deeper (term s M) ▹ comma ▹ deeper (term s N))
  term s (t_ann M A) = in_parens (deeper (term s M) ▹ between ColonSign ▹ deeper (ty s A))
  term s (t_at at M) = term s M
  -- a definition and a made function have no text
  term s (t_def number) = sign UnderscoreSign
  term s (t_made number captured) = sign UnderscoreSign

  -- behind the function's name: each parameter, then the triple and the computation
  pub fix : PrintScope → FixTree → Printed
  fix s (x_param A X) = space ▹ in_parens (bound a_term s (deeper (ty s A))) ▹ fix (with_entry a_term s) X
  fix s (x_body T E) =
      between ColonSign ▹ spec s T ▹ between DotSign ▹ deeper (comp (with_entry a_term s) E)

  -- ---- computations

  pub comp : PrintScope → CompTree → Printed
  comp s (c_ret M) = word RetWord ▹ space ▹ deeper (term s M)
  comp s (c_step S E) =
      new_name a_term s ▹ between LeftArrowSign ▹ step s S ▹ sign SemicolonSign ▹ space ▹
      comp (with_entry a_term s) E

  pub step : PrintScope → StepTree → Printed
  step s (s_run K t) = term_in a_run K (term s K)
  step s (s_alloc t M) = word AllocWord ▹ in_brackets (mono s t) ▹ space ▹ term_in an_operand M (term s M)
  step s (s_get t M) = word GetWord ▹ in_brackets (mono s t) ▹ space ▹ term_in an_operand M (term s M)
  step s (s_set t M N) =
      word SetWord ▹ in_brackets (mono s t) ▹ space ▹ term_in an_operand M (term s M) ▹ space ▹
      term_in an_operand N (term s N)
  step s (s_free t M) = word FreeWord ▹ in_brackets (mono s t) ▹ space ▹ term_in an_operand M (term s M)
  step s (s_if t B E E') =
      word IfWord ▹ space ▹ in_brackets (mono s t) ▹ space ▹ term_in an_operand B (term s B) ▹ space ▹
      in_braces (space ▹ deeper (comp s E) ▹ space) ▹ space ▹ in_braces (space ▹ deeper (comp s E') ▹ space)
  step s (s_claim F) = word ClaimWord ▹ space ▹ in_braces (deeper (formula (under_heaps s) F))

  -- ---- formulas

  pub formula : PrintScope → FormulaTree → Printed
  formula s f_tt = word TtWord
  formula s f_ff = word FfWord
  formula s (f_and F G) =
      formula_in an_operand F (formula s F) ▹ between AndSign ▹ deeper (formula_in an_operand G (formula s G))
  formula s (f_or F G) =
      formula_in an_operand F (formula s F) ▹ between OrSign ▹ deeper (formula_in an_operand G (formula s G))
  formula s (f_imp F G) =
      formula_in an_operand F (formula s F) ▹ between ImpliesSign ▹ deeper (formula_in an_operand G (formula s G))
  formula s (f_all_t t F) =
      word AllWord ▹ space ▹ bound a_term s (mono s t) ▹ between DotSign ▹ deeper (formula (with_entry a_term s) F)
  formula s (f_ex_t t F) =
      word ExWord ▹ space ▹ bound a_term s (mono s t) ▹ between DotSign ▹ deeper (formula (with_entry a_term s) F)
  formula s (f_all_h F) =
      word AllWord ▹ space ▹ bound a_heap s (word HeapWord) ▹ between DotSign ▹
      deeper (formula (with_entry a_heap s) F)
  formula s (f_ex_h F) =
      word ExWord ▹ space ▹ bound a_heap s (word HeapWord) ▹ between DotSign ▹
      deeper (formula (with_entry a_heap s) F)
  formula s (f_emp h) = word CapitalEmpWord ▹ in_parens (entry s h)
  formula s (f_cell t h M N) =
      word CellWord ▹ in_brackets (mono s t) ▹
      in_parens (entry s h ▹ comma ▹ deeper (term s M) ▹ comma ▹ deeper (term s N))
  formula s (f_block t h M) =
      word BlockWord ▹ in_brackets (mono s t) ▹ in_parens (entry s h ▹ comma ▹ deeper (term s M))
  formula s (f_join h a b) =
      word JoinWord ▹ in_parens (entry s h ▹ comma ▹ entry s a ▹ comma ▹ entry s b)
  formula s (f_same h k) = word SameWord ▹ in_parens (entry s h ▹ comma ▹ entry s k)
  formula s (f_eq t M N) =
      term_in a_side M (term s M) ▹ space ▹ sign EqualSign ▹ in_brackets (mono s t) ▹ space ▹
      term_in a_side N (term s N)
  formula s (f_at at F) = formula s F
  formula s (f_rec p h N Ms) =
      sign BangSign ▹ rec_name s p ▹ sign AtSign ▹ entry s h ▹
      in_parens (deeper (term s N) ▹ sign SemicolonSign ▹ arguments s Ms)

  -- behind the semicolon: the first term after a space, and each further one after a comma
  pub arguments : PrintScope → TermTrees → Printed
  arguments s no_terms = nothing
  arguments s (more_terms M Ms) = space ▹ deeper (term s M) ▹ more_arguments s Ms

  pub more_arguments : PrintScope → TermTrees → Printed
  more_arguments s no_terms = nothing
  more_arguments s (more_terms M Ms) = comma ▹ deeper (term s M) ▹ more_arguments s Ms
