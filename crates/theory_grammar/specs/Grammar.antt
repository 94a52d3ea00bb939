-- The grammar: of which tokens each phrase is made. A production is an equation; `⨟` is read as
-- "and then". The number before a part is the level at which it stands: a part at `suc l` is one
-- level deeper than the phrase round it. `numbered n` counts the operands of a chain.
use Rattle.std.specs.Prelude.{ℕ, suc, List, [], ◌∷◌, Option, Some, None}
use Rattle.htt_lexer_tokens.specs.declared.tokens.Keyword.{Keyword}
use Rattle.htt_lexer_tokens.specs.declared.tokens.Keyword.TheVariants.{TypeWord, PredWord, DefWord, ValWord, ProofWord}
use Rattle.htt_lexer_tokens.specs.declared.tokens.Keyword.TheVariants.{AutoWord, WordWord, BoolWord, LocWord, UnitWord}
use Rattle.htt_lexer_tokens.specs.declared.tokens.Keyword.TheVariants.{HeapWord, FunWord, DoWord, FixWord, RetWord}
use Rattle.htt_lexer_tokens.specs.declared.tokens.Keyword.TheVariants.{AllocWord, GetWord, SetWord, FreeWord, IfWord}
use Rattle.htt_lexer_tokens.specs.declared.tokens.Keyword.TheVariants.{ClaimWord, TrueWord, FalseWord, NullWord}
use Rattle.htt_lexer_tokens.specs.declared.tokens.Keyword.TheVariants.{PlaceWord, FstWord, SndWord, NotWord, EqWord}
use Rattle.htt_lexer_tokens.specs.declared.tokens.Keyword.TheVariants.{SelWord, EmpWord, TtWord, FfWord, AllWord}
use Rattle.htt_lexer_tokens.specs.declared.tokens.Keyword.TheVariants.{ExWord, CapitalEmpWord, CellWord, BlockWord}
use Rattle.htt_lexer_tokens.specs.declared.tokens.Keyword.TheVariants.{JoinWord, SameWord, InitWord, MemWord, IntroWord}
use Rattle.htt_lexer_tokens.specs.declared.tokens.Keyword.TheVariants.{GenWord, HaveWord, OpenWord, BothWord, LeftWord}
use Rattle.htt_lexer_tokens.specs.declared.tokens.Keyword.TheVariants.{RightWord, GiveWord, TrivialWord, ReflWord}
use Rattle.htt_lexer_tokens.specs.declared.tokens.Keyword.TheVariants.{AbsurdWord, CaseWord, RewriteWord, InductWord}
use Rattle.htt_lexer_tokens.specs.declared.tokens.Keyword.TheVariants.{SplitWord, FirstWord, SecondWord, AppWord}
use Rattle.htt_lexer_tokens.specs.declared.tokens.Keyword.TheVariants.{InstWord, AxiomWord, LemWord, TheWord}
use Rattle.htt_lexer_tokens.specs.declared.tokens.Sign.{Sign}
use Rattle.htt_lexer_tokens.specs.declared.tokens.Sign.TheVariants.{OpenParenSign, CloseParenSign, OpenBracketSign}
use Rattle.htt_lexer_tokens.specs.declared.tokens.Sign.TheVariants.{CloseBracketSign, OpenBraceSign, CloseBraceSign}
use Rattle.htt_lexer_tokens.specs.declared.tokens.Sign.TheVariants.{CommaSign, SemicolonSign, ColonSign, DotSign}
use Rattle.htt_lexer_tokens.specs.declared.tokens.Sign.TheVariants.{EqualSign, ImpliesSign, ArrowSign, LeftArrowSign}
use Rattle.htt_lexer_tokens.specs.declared.tokens.Sign.TheVariants.{PointsToSign, UnderscoreSign, PlusSign, MinusSign}
use Rattle.htt_lexer_tokens.specs.declared.tokens.Sign.TheVariants.{StarSign, AmpersandSign, BarSign, CaretSign}
use Rattle.htt_lexer_tokens.specs.declared.tokens.Sign.TheVariants.{ShiftLeftSign, ShiftRightSign, LessSign}
use Rattle.htt_lexer_tokens.specs.declared.tokens.Sign.TheVariants.{DoubleStarSign, AndSign, OrSign, AtSign, BangSign}
use Rattle.htt_parser_trees.specs.declared.place.Span.{Span}
use Rattle.htt_parser_trees.specs.declared.place.Binder.{Binder}
use Rattle.htt_parser_trees.specs.declared.place.Binder.TheVariants as binders
use Rattle.htt_parser_trees.specs.declared.mono.MonoName.{MonoName}
use Rattle.htt_parser_trees.specs.declared.mono.MonoName.TheVariants as mono_names
use Rattle.htt_parser_trees.specs.declared.tree.UnaryWord.{UnaryWord}
use Rattle.htt_parser_trees.specs.declared.tree.UnaryWord.TheVariants as unary_words
use Rattle.htt_parser_trees.specs.declared.tree.RawHeap.{RawHeap}
use Rattle.htt_parser_trees.specs.declared.tree.RawHeap.TheVariants as heaps
use Rattle.htt_parser_trees.specs.declared.proof.UnaryRule.{UnaryRule}
use Rattle.htt_parser_trees.specs.declared.proof.UnaryRule.TheVariants as unary_rules
use Rattle.htt_parser_trees.specs.Trees.{ProdSign, SumSign, ampersand, bar, caret, minus, plus, shift_left, shift_right}
use Rattle.htt_parser_trees.specs.Trees.{times, RawFactorTree, RawMonoTree, m_name, m_brackets, m_factor, m_pair}
use Rattle.htt_parser_trees.specs.Trees.{RawTyTree, RawTripleTree, RawTermTree, RawParamTrees, RawRelTree, RawSumTree}
use Rattle.htt_parser_trees.specs.Trees.{RawSumRestTree, RawProdTree, RawProdRestTree, RawApplTree, RawPartTrees}
use Rattle.htt_parser_trees.specs.Trees.{RawAtomTree, RawCompTree, RawStepTree, RawFormulaTree, RawSortTree}
use Rattle.htt_parser_trees.specs.Trees.{RawDisjTree, RawConjTree, RawStarTree, RawFatomTree, RawTermTrees, y_fun}
use Rattle.htt_parser_trees.specs.Trees.{y_all, y_hoare, y_mono, triple_of, t_fun, t_fun_mono, t_do, t_fix, t_rel}
use Rattle.htt_parser_trees.specs.Trees.{no_params, more_params, r_sum, r_less, s_sum, s_end, s_more, x_prod, x_end}
use Rattle.htt_parser_trees.specs.Trees.{x_more, l_unary, l_apply, no_parts, atom_part, mono_part, a_name, a_number}
use Rattle.htt_parser_trees.specs.Trees.{a_true, a_false, a_null, a_place, a_eq, a_sel, a_unit, a_brackets, a_pair}
use Rattle.htt_parser_trees.specs.Trees.{a_annotated, c_ret, c_step, s_alloc, s_get, s_set, s_free, s_if, s_claim}
use Rattle.htt_parser_trees.specs.Trees.{s_run, f_all, f_ex, f_disj, f_implies, over_mono, over_heap, d_conj, d_or}
use Rattle.htt_parser_trees.specs.Trees.{j_star, j_and, k_fatom, k_times, g_tt, g_ff, g_emp, g_brackets, g_at_heap}
use Rattle.htt_parser_trees.specs.Trees.{g_emp_of, g_same, g_join, g_cell, g_block, g_use, g_use_at, g_use_at_heap}
use Rattle.htt_parser_trees.specs.Trees.{g_eq, g_points, g_points_any, no_terms, more_terms, RawArgTree, arg_heap}
use Rattle.htt_parser_trees.specs.Trees.{arg_term, RawMotiveTree, motive_of, RawProofTree, RawStmtTree, RawEndTree}
use Rattle.htt_parser_trees.specs.Trees.{RawProofTrees, p_end, p_step, b_intro, b_gen, b_open, b_have, e_name}
use Rattle.htt_parser_trees.specs.Trees.{e_trivial, e_refl, e_unary, e_both, e_give, e_app, e_inst, e_case, e_rewrite}
use Rattle.htt_parser_trees.specs.Trees.{e_induct, e_split, e_axiom, e_unfold, e_lem, e_the, no_proofs, more_proofs}
use Rattle.htt_parser_trees.specs.Trees.{RawMonoParamTree, mono_param, RawBodyTree, body_auto, body_proof, RawDeclTree}
use Rattle.htt_parser_trees.specs.Trees.{decl_type, decl_pred, decl_induct, decl_def, decl_val, decl_proof}
use Rattle.theory_grammar.specs.Marks.{Mark, sign, word, name, number, sign_at, word_at, number_at, ◌⨟◌, numbered}
use Rattle.theory_grammar.specs.Marks.{separated}

-- ---- words and signs

abbrev pub binder : ℕ → Binder → List Mark
binder l (binders.Name span) = name l span
binder l binders.Blank = sign l UnderscoreSign

abbrev pub mono_name : ℕ → MonoName → List Mark
mono_name l (mono_names.Word at) = word_at l WordWord at
mono_name l (mono_names.Bool at) = word_at l BoolWord at
mono_name l (mono_names.Loc at) = word_at l LocWord at
mono_name l (mono_names.Unit at) = word_at l UnitWord at
mono_name l (mono_names.Name span) = name l span

abbrev pub sum_sign : SumSign → Sign
sum_sign plus = PlusSign
sum_sign minus = MinusSign
sum_sign bar = BarSign
sum_sign caret = CaretSign

abbrev pub prod_sign : ProdSign → Sign
prod_sign times = StarSign
prod_sign ampersand = AmpersandSign
prod_sign shift_left = ShiftLeftSign
prod_sign shift_right = ShiftRightSign

abbrev pub unary_word : UnaryWord → Keyword
unary_word unary_words.Fst = FstWord
unary_word unary_words.Snd = SndWord
unary_word unary_words.Not = NotWord

abbrev pub unary_rule : UnaryRule → Keyword
unary_rule unary_rules.First = FirstWord
unary_rule unary_rules.Second = SecondWord
unary_rule unary_rules.Left = LeftWord
unary_rule unary_rules.Right = RightWord
unary_rule unary_rules.Absurd = AbsurdWord

-- ---- heaps: a name, or `init` or `mem` with or without a number

abbrev pub over : ℕ → Option ℕ → List Mark
over l None = []
over l (Some n) = sign l CaretSign ⨟ number l n

abbrev pub heap : ℕ → RawHeap → List Mark
heap l (heaps.Name span) = name l span
heap l (heaps.Init at n) = word_at l InitWord at ⨟ over l n
heap l (heaps.Mem at n) = word_at l MemWord at ⨟ over l n

-- ---- monotypes

unfoldable mutual
  pub factor : ℕ → RawFactorTree → List Mark
  factor l (m_name n) = mono_name l n
  factor l (m_brackets at m) = sign_at l OpenParenSign at ⨟ mono l m ⨟ sign l CloseParenSign

  pub mono : ℕ → RawMonoTree → List Mark
  mono l (m_factor f) = factor l f
  mono l (m_pair f m) = factor l f ⨟ sign l StarSign ⨟ mono (suc l) m

-- monotypes in square brackets, which are missing where there are none
abbrev pub monos : ℕ → List RawMonoTree → List Mark
monos l [] = []
monos l (m ∷ ms) = sign l OpenBracketSign ⨟ separated (sign l CommaSign) (mono l) (m ∷ ms) ⨟ sign l CloseBracketSign

abbrev pub in_brackets : ℕ → RawMonoTree → List Mark
in_brackets l m = sign l OpenBracketSign ⨟ mono l m ⨟ sign l CloseBracketSign

-- ---- types, terms, computations and formulas

unfoldable mutual
  pub ty : ℕ → RawTyTree → List Mark
  ty l (y_fun at b a c) =
      sign_at l OpenParenSign at ⨟ binder l b ⨟ sign l ColonSign ⨟ ty (suc l) a ⨟ sign l CloseParenSign ⨟
      sign l ArrowSign ⨟ ty (suc l) c
  ty l (y_all at span c) =
      sign_at l OpenBracketSign at ⨟ name l span ⨟ sign l CloseBracketSign ⨟ sign l ArrowSign ⨟ ty (suc l) c
  ty l (y_hoare at t) = sign_at l OpenBraceSign at ⨟ triple l t
  ty l (y_mono m) = mono l m

  -- what follows the first brace of a triple
  pub triple : ℕ → RawTripleTree → List Mark
  triple l (triple_of p b m q) =
      formula (suc l) p ⨟ sign l CloseBraceSign ⨟ binder l b ⨟ sign l ColonSign ⨟ mono l m ⨟ sign l OpenBraceSign ⨟
      formula (suc l) q ⨟ sign l CloseBraceSign

  pub term : ℕ → RawTermTree → List Mark
  term l (t_fun at b m) = word_at l FunWord at ⨟ binder l b ⨟ sign l DotSign ⨟ term (suc l) m
  term l (t_fun_mono at span m) =
      word_at l FunWord at ⨟ sign l OpenBracketSign ⨟ name l span ⨟ sign l CloseBracketSign ⨟ sign l DotSign ⨟
      term (suc l) m
  term l (t_do at e) = word_at l DoWord at ⨟ comp (suc l) e
  term l (t_fix at span ps t e) =
      word_at l FixWord at ⨟ name l span ⨟ params l ps ⨟ sign l ColonSign ⨟ sign l OpenBraceSign ⨟ triple l t ⨟
      sign l DotSign ⨟ comp (suc l) e
  term l (t_rel r) = rel l r

  pub params : ℕ → RawParamTrees → List Mark
  params l no_params = []
  params l (more_params b a ps) =
      sign l OpenParenSign ⨟ binder l b ⨟ sign l ColonSign ⨟ ty (suc l) a ⨟ sign l CloseParenSign ⨟ params l ps

  pub rel : ℕ → RawRelTree → List Mark
  rel l (r_sum s) = sum l s
  rel l (r_less s r) = sum l s ⨟ sign l LessSign ⨟ sum l r

  pub sum : ℕ → RawSumTree → List Mark
  sum l (s_sum p rest) = prod l p ⨟ sum_rest l 2 rest

  pub sum_rest : ℕ → ℕ → RawSumRestTree → List Mark
  sum_rest l n s_end = []
  sum_rest l n (s_more s p rest) = sign l (sum_sign s) ⨟ numbered n (prod l p) ⨟ sum_rest l (suc n) rest

  pub prod : ℕ → RawProdTree → List Mark
  prod l (x_prod k rest) = appl l k ⨟ prod_rest l 2 rest

  pub prod_rest : ℕ → ℕ → RawProdRestTree → List Mark
  prod_rest l n x_end = []
  prod_rest l n (x_more s k rest) = sign l (prod_sign s) ⨟ numbered n (appl l k) ⨟ prod_rest l (suc n) rest

  pub appl : ℕ → RawApplTree → List Mark
  appl l (l_unary at w a) = word_at l (unary_word w) at ⨟ atom l a
  appl l (l_apply a ps) = atom l a ⨟ parts l 2 ps

  pub parts : ℕ → ℕ → RawPartTrees → List Mark
  parts l n no_parts = []
  parts l n (atom_part a ps) = numbered n (atom l a) ⨟ parts l (suc n) ps
  parts l n (mono_part m ps) =
      sign l OpenBracketSign ⨟ numbered n (mono l m) ⨟ sign l CloseBracketSign ⨟ parts l (suc n) ps

  pub atom : ℕ → RawAtomTree → List Mark
  atom l (a_name span) = name l span
  atom l (a_number at n) = number_at l n at
  atom l (a_true at) = word_at l TrueWord at
  atom l (a_false at) = word_at l FalseWord at
  atom l (a_null at) = word_at l NullWord at
  atom l (a_place at n) = word_at l PlaceWord at ⨟ number l n
  atom l (a_eq at t m n) =
      word_at l EqWord at ⨟ in_brackets l t ⨟ sign l OpenParenSign ⨟ term (suc l) m ⨟ sign l CommaSign ⨟
      term (suc l) n ⨟ sign l CloseParenSign
  atom l (a_sel at t b m n) =
      word_at l SelWord at ⨟ in_brackets l t ⨟ sign l OpenParenSign ⨟ term (suc l) b ⨟ sign l CommaSign ⨟
      term (suc l) m ⨟ sign l CommaSign ⨟ term (suc l) n ⨟ sign l CloseParenSign
  atom l (a_unit at) = sign_at l OpenParenSign at ⨟ sign l CloseParenSign
  atom l (a_brackets at m) = sign_at l OpenParenSign at ⨟ term (suc l) m ⨟ sign l CloseParenSign
  atom l (a_pair at m n) =
      sign_at l OpenParenSign at ⨟ term (suc l) m ⨟ sign l CommaSign ⨟ term (suc l) n ⨟ sign l CloseParenSign
  atom l (a_annotated at m a) =
      sign_at l OpenParenSign at ⨟ term (suc l) m ⨟ sign l ColonSign ⨟ ty (suc l) a ⨟ sign l CloseParenSign

  pub comp : ℕ → RawCompTree → List Mark
  comp l (c_ret m) = word l RetWord ⨟ term (suc l) m
  comp l (c_step b s e) = binder l b ⨟ sign l LeftArrowSign ⨟ step l s ⨟ sign l SemicolonSign ⨟ comp l e

  pub step : ℕ → RawStepTree → List Mark
  step l (s_alloc t a) = word l AllocWord ⨟ in_brackets l t ⨟ atom l a
  step l (s_get t a) = word l GetWord ⨟ in_brackets l t ⨟ atom l a
  step l (s_set t a b) = word l SetWord ⨟ in_brackets l t ⨟ atom l a ⨟ atom l b
  step l (s_free t a) = word l FreeWord ⨟ in_brackets l t ⨟ atom l a
  step l (s_if t a e f) =
      word l IfWord ⨟ in_brackets l t ⨟ atom l a ⨟ sign l OpenBraceSign ⨟ comp (suc l) e ⨟ sign l CloseBraceSign ⨟
      sign l OpenBraceSign ⨟ comp (suc l) f ⨟ sign l CloseBraceSign
  step l (s_claim p) = word l ClaimWord ⨟ sign l OpenBraceSign ⨟ formula (suc l) p ⨟ sign l CloseBraceSign
  step l (s_run k) = appl l k

  pub formula : ℕ → RawFormulaTree → List Mark
  formula l (f_all at b s p) =
      word_at l AllWord at ⨟ binder l b ⨟ sign l ColonSign ⨟ sort l s ⨟ sign l DotSign ⨟ formula (suc l) p
  formula l (f_ex at b s p) =
      word_at l ExWord at ⨟ binder l b ⨟ sign l ColonSign ⨟ sort l s ⨟ sign l DotSign ⨟ formula (suc l) p
  formula l (f_disj d) = disj l d
  formula l (f_implies d p) = disj l d ⨟ sign l ImpliesSign ⨟ formula (suc l) p

  pub sort : ℕ → RawSortTree → List Mark
  sort l (over_mono m) = mono l m
  sort l over_heap = word l HeapWord

  pub disj : ℕ → RawDisjTree → List Mark
  disj l (d_conj c) = conj l c
  disj l (d_or c d) = conj l c ⨟ sign l OrSign ⨟ disj (suc l) d

  pub conj : ℕ → RawConjTree → List Mark
  conj l (j_star s) = star l s
  conj l (j_and s c) = star l s ⨟ sign l AndSign ⨟ conj (suc l) c

  pub star : ℕ → RawStarTree → List Mark
  star l (k_fatom f) = fatom l f
  star l (k_times f s) = fatom l f ⨟ sign l DoubleStarSign ⨟ star (suc l) s

  pub fatom : ℕ → RawFatomTree → List Mark
  fatom l (g_tt at) = word_at l TtWord at
  fatom l (g_ff at) = word_at l FfWord at
  fatom l (g_emp at) = word_at l EmpWord at
  fatom l (g_brackets at p) = sign_at l OpenBracketSign at ⨟ formula (suc l) p ⨟ sign l CloseBracketSign
  fatom l (g_at_heap at h p) =
      sign_at l AtSign at ⨟ heap l h ⨟ sign l OpenBracketSign ⨟ formula (suc l) p ⨟ sign l CloseBracketSign
  fatom l (g_emp_of at h) = word_at l CapitalEmpWord at ⨟ sign l OpenParenSign ⨟ heap l h ⨟ sign l CloseParenSign
  fatom l (g_same at h k) =
      word_at l SameWord at ⨟ sign l OpenParenSign ⨟ heap l h ⨟ sign l CommaSign ⨟ heap l k ⨟ sign l CloseParenSign
  fatom l (g_join at h j k) =
      word_at l JoinWord at ⨟ sign l OpenParenSign ⨟ heap l h ⨟ sign l CommaSign ⨟ heap l j ⨟ sign l CommaSign ⨟
      heap l k ⨟ sign l CloseParenSign
  fatom l (g_cell at t h m n) =
      word_at l CellWord at ⨟ in_brackets l t ⨟ sign l OpenParenSign ⨟ heap l h ⨟ sign l CommaSign ⨟ term (suc l) m ⨟
      sign l CommaSign ⨟ term (suc l) n ⨟ sign l CloseParenSign
  fatom l (g_block at t h m) =
      word_at l BlockWord at ⨟ in_brackets l t ⨟ sign l OpenParenSign ⨟ heap l h ⨟ sign l CommaSign ⨟ term (suc l) m ⨟
      sign l CloseParenSign
  fatom l (g_use at span ts ms) =
      sign_at l BangSign at ⨟ name l span ⨟ monos l ts ⨟ sign l OpenParenSign ⨟ terms l ms ⨟ sign l CloseParenSign
  fatom l (g_use_at at span m ms) =
      sign_at l BangSign at ⨟ name l span ⨟ sign l OpenParenSign ⨟ term (suc l) m ⨟ sign l SemicolonSign ⨟ terms l ms ⨟
      sign l CloseParenSign
  fatom l (g_use_at_heap at span h m ms) =
      sign_at l BangSign at ⨟ name l span ⨟ sign l AtSign ⨟ heap l h ⨟ sign l OpenParenSign ⨟ term (suc l) m ⨟
      sign l SemicolonSign ⨟ terms l ms ⨟ sign l CloseParenSign
  fatom l (g_eq m t n) = rel l m ⨟ sign l EqualSign ⨟ in_brackets l t ⨟ rel l n
  fatom l (g_points m t n) = rel l m ⨟ sign l PointsToSign ⨟ in_brackets l t ⨟ rel l n
  fatom l (g_points_any m t) = rel l m ⨟ sign l PointsToSign ⨟ in_brackets l t ⨟ sign l UnderscoreSign

  -- terms with a comma between two
  pub terms : ℕ → RawTermTrees → List Mark
  terms l no_terms = []
  terms l (more_terms m ms) = term (suc l) m ⨟ terms_after l ms

  pub terms_after : ℕ → RawTermTrees → List Mark
  terms_after l no_terms = []
  terms_after l (more_terms m ms) = sign l CommaSign ⨟ term (suc l) m ⨟ terms_after l ms

-- ---- proofs

abbrev pub arg : ℕ → RawArgTree → List Mark
arg l (arg_heap at h) = sign_at l AtSign at ⨟ heap l h
arg l (arg_term m) = term (suc l) m

abbrev pub args : ℕ → List RawArgTree → List Mark
args l as' = separated (sign l CommaSign) (arg l) as'

abbrev pub motive : ℕ → RawMotiveTree → List Mark
motive l (motive_of b p) =
    binder l b ⨟ sign l DotSign ⨟ sign l OpenBracketSign ⨟ formula (suc l) p ⨟ sign l CloseBracketSign

-- further arguments of `inst`, each an operand of its chain
abbrev pub args_after : ℕ → ℕ → List RawArgTree → List Mark
args_after l n [] = []
args_after l n (a ∷ rest) = sign l CommaSign ⨟ numbered n (arg l a) ⨟ args_after l (suc n) rest

unfoldable mutual
  pub proof : ℕ → RawProofTree → List Mark
  proof l (p_end e) = ending l e
  proof l (p_step s p) = stmt l s ⨟ proof l p

  pub stmt : ℕ → RawStmtTree → List Mark
  stmt l (b_intro at u) = word_at l IntroWord at ⨟ name l u ⨟ sign l SemicolonSign
  stmt l (b_gen at b) = word_at l GenWord at ⨟ binder l b ⨟ sign l SemicolonSign
  stmt l (b_open at b u p) =
      word_at l OpenWord at ⨟ binder l b ⨟ name l u ⨟ sign l EqualSign ⨟ proof (suc l) p ⨟ sign l SemicolonSign
  stmt l (b_have at u f p) =
      word_at l HaveWord at ⨟ name l u ⨟ sign l ColonSign ⨟ sign l OpenBracketSign ⨟ formula (suc l) f ⨟
      sign l CloseBracketSign ⨟ sign l EqualSign ⨟ proof (suc l) p ⨟ sign l SemicolonSign

  pub ending : ℕ → RawEndTree → List Mark
  ending l (e_name u) = name l u
  ending l (e_trivial at) = word_at l TrivialWord at
  ending l (e_refl at) = word_at l ReflWord at
  ending l (e_unary at w p) =
      word_at l (unary_rule w) at ⨟ sign l OpenParenSign ⨟ proof (suc l) p ⨟ sign l CloseParenSign
  ending l (e_both at p q) =
      word_at l BothWord at ⨟ sign l OpenParenSign ⨟ proof (suc l) p ⨟ sign l CommaSign ⨟ proof (suc l) q ⨟
      sign l CloseParenSign
  ending l (e_give at a p) =
      word_at l GiveWord at ⨟ sign l OpenParenSign ⨟ arg l a ⨟ sign l CommaSign ⨟ proof (suc l) p ⨟
      sign l CloseParenSign
  ending l (e_app at p q qs) =
      word_at l AppWord at ⨟ sign l OpenParenSign ⨟ proof (suc l) p ⨟ sign l CommaSign ⨟ numbered 2 (proof (suc l) q) ⨟
      proofs_after l 3 qs ⨟ sign l CloseParenSign
  ending l (e_inst at p a more) =
      word_at l InstWord at ⨟ sign l OpenParenSign ⨟ proof (suc l) p ⨟ sign l CommaSign ⨟ numbered 2 (arg l a) ⨟
      args_after l 3 more ⨟ sign l CloseParenSign
  ending l (e_case at p u q v r) =
      word_at l CaseWord at ⨟ sign l OpenParenSign ⨟ proof (suc l) p ⨟ sign l CommaSign ⨟ name l u ⨟ sign l DotSign ⨟
      proof (suc l) q ⨟ sign l CommaSign ⨟ name l v ⨟ sign l DotSign ⨟ proof (suc l) r ⨟ sign l CloseParenSign
  ending l (e_rewrite at p c q) =
      word_at l RewriteWord at ⨟ sign l OpenParenSign ⨟ proof (suc l) p ⨟ sign l CommaSign ⨟ motive l c ⨟
      sign l CommaSign ⨟ proof (suc l) q ⨟ sign l CloseParenSign
  ending l (e_induct at c m p b u v q) =
      word_at l InductWord at ⨟ sign l OpenParenSign ⨟ motive l c ⨟ sign l CommaSign ⨟ term (suc l) m ⨟
      sign l CommaSign ⨟ proof (suc l) p ⨟ sign l CommaSign ⨟ binder l b ⨟ name l u ⨟ name l v ⨟ sign l DotSign ⨟
      proof (suc l) q ⨟ sign l CloseParenSign
  ending l (e_split at c m p q) =
      word_at l SplitWord at ⨟ sign l OpenParenSign ⨟ motive l c ⨟ sign l CommaSign ⨟ term (suc l) m ⨟
      sign l CommaSign ⨟ proof (suc l) p ⨟ sign l CommaSign ⨟ proof (suc l) q ⨟ sign l CloseParenSign
  ending l (e_axiom at c ts more) =
      word_at l AxiomWord at ⨟ name l c ⨟ monos l ts ⨟ sign l OpenParenSign ⨟ args l more ⨟ sign l CloseParenSign
  ending l (e_unfold at c n a more) =
      word_at l AxiomWord at ⨟ name l c ⨟ sign l DotSign ⨟ number l n ⨟ sign l OpenParenSign ⨟ args l (a ∷ more) ⨟
      sign l CloseParenSign
  ending l (e_lem at f) = word_at l LemWord at ⨟ sign l OpenBracketSign ⨟ formula (suc l) f ⨟ sign l CloseBracketSign
  ending l (e_the at f p) =
      word_at l TheWord at ⨟ sign l OpenBracketSign ⨟ formula (suc l) f ⨟ sign l CloseBracketSign ⨟
      sign l OpenParenSign ⨟ proof (suc l) p ⨟ sign l CloseParenSign

  -- further proofs of `app`, each an operand of its chain
  pub proofs_after : ℕ → ℕ → RawProofTrees → List Mark
  proofs_after l n no_proofs = []
  proofs_after l n (more_proofs p ps) = sign l CommaSign ⨟ numbered n (proof (suc l) p) ⨟ proofs_after l (suc n) ps

-- ---- declarations, which are no phrases: what stands in them directly has level 1

abbrev pub mono_parameter : RawMonoParamTree → List Mark
mono_parameter (mono_param span m) = name 0 span ⨟ sign 0 ColonSign ⨟ mono 1 m

abbrev pub names : List Span → List Mark
names [] = []
names (span ∷ spans) =
    sign 0 OpenBracketSign ⨟ separated (sign 0 CommaSign) (name 0) (span ∷ spans) ⨟ sign 0 CloseBracketSign

abbrev pub mono_parameters : List RawMonoParamTree → List Mark
mono_parameters ps = sign 0 OpenParenSign ⨟ separated (sign 0 CommaSign) mono_parameter ps ⨟ sign 0 CloseParenSign

abbrev pub body : RawBodyTree → List Mark
body (body_auto at) = word_at 0 AutoWord at
body (body_proof p) = proof 1 p

abbrev pub decl : RawDeclTree → List Mark
decl (decl_type span m) = word 0 TypeWord ⨟ name 0 span ⨟ sign 0 EqualSign ⨟ mono 1 m
decl (decl_pred span as' ps f) =
    word 0 PredWord ⨟ name 0 span ⨟ names as' ⨟ mono_parameters ps ⨟ sign 0 EqualSign ⨟ formula 1 f
decl (decl_induct span b ps f g) =
    word 0 PredWord ⨟ name 0 span ⨟ word 0 InductWord ⨟ binder 0 b ⨟ mono_parameters ps ⨟ sign 0 EqualSign ⨟
    sign 0 OpenBraceSign ⨟ formula 1 f ⨟ sign 0 CloseBraceSign ⨟ sign 0 OpenBraceSign ⨟ formula 1 g ⨟
    sign 0 CloseBraceSign
decl (decl_def span a m) = word 0 DefWord ⨟ name 0 span ⨟ sign 0 ColonSign ⨟ ty 1 a ⨟ sign 0 EqualSign ⨟ term 1 m
decl (decl_val span a m) = word 0 ValWord ⨟ name 0 span ⨟ sign 0 ColonSign ⨟ ty 1 a ⨟ sign 0 EqualSign ⨟ term 1 m
decl (decl_proof at span n b) =
    word_at 0 ProofWord at ⨟ name 0 span ⨟ sign 0 DotSign ⨟ number 0 n ⨟ sign 0 EqualSign ⨟ body b

abbrev pub file : List RawDeclTree → List Mark
file [] = []
file (d ∷ ds) = decl d ⨟ file ds
