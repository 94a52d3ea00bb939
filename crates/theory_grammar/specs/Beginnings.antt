-- With which tokens phrases begin, and which tokens go on with one that could also end.
use Rattle.htt_parser_trees.specs.Trees.{ProdSign, SumSign, ampersand, bar, caret, minus, plus, shift_left, shift_right}
use Rattle.htt_parser_trees.specs.Trees.{times}
use Rattle.std.specs.Prelude.{Bool, true, false, ◌||◌, Option, Some, None}
use Rattle.htt_lexer_tokens.specs.declared.tokens.Kind.{Kind}
use Rattle.htt_lexer_tokens.specs.declared.tokens.Kind.TheVariants.{Name, Number, Keyword, Sign}
use Rattle.htt_lexer_tokens.specs.declared.tokens.Keyword.TheVariants.{TypeWord, PredWord, DefWord, ValWord, ProofWord}
use Rattle.htt_lexer_tokens.specs.declared.tokens.Keyword.TheVariants.{WordWord, BoolWord, LocWord, UnitWord, FunWord}
use Rattle.htt_lexer_tokens.specs.declared.tokens.Keyword.TheVariants.{DoWord, FixWord, RetWord, TrueWord, FalseWord}
use Rattle.htt_lexer_tokens.specs.declared.tokens.Keyword.TheVariants.{NullWord, PlaceWord, FstWord, SndWord, NotWord}
use Rattle.htt_lexer_tokens.specs.declared.tokens.Keyword.TheVariants.{EqWord, SelWord, EmpWord, TtWord, FfWord}
use Rattle.htt_lexer_tokens.specs.declared.tokens.Keyword.TheVariants.{AllWord, ExWord, CapitalEmpWord, CellWord}
use Rattle.htt_lexer_tokens.specs.declared.tokens.Keyword.TheVariants.{BlockWord, JoinWord, SameWord, IntroWord}
use Rattle.htt_lexer_tokens.specs.declared.tokens.Keyword.TheVariants.{GenWord, HaveWord, OpenWord, BothWord, LeftWord}
use Rattle.htt_lexer_tokens.specs.declared.tokens.Keyword.TheVariants.{RightWord, GiveWord, TrivialWord, ReflWord}
use Rattle.htt_lexer_tokens.specs.declared.tokens.Keyword.TheVariants.{AbsurdWord, CaseWord, RewriteWord, InductWord}
use Rattle.htt_lexer_tokens.specs.declared.tokens.Keyword.TheVariants.{SplitWord, FirstWord, SecondWord, AppWord}
use Rattle.htt_lexer_tokens.specs.declared.tokens.Keyword.TheVariants.{InstWord, AxiomWord, LemWord, TheWord}
use Rattle.htt_lexer_tokens.specs.declared.tokens.Sign.TheVariants.{OpenParenSign, OpenBracketSign, OpenBraceSign}
use Rattle.htt_lexer_tokens.specs.declared.tokens.Sign.TheVariants.{CommaSign, ImpliesSign, UnderscoreSign, PlusSign}
use Rattle.htt_lexer_tokens.specs.declared.tokens.Sign.TheVariants.{MinusSign, StarSign, AmpersandSign, BarSign}
use Rattle.htt_lexer_tokens.specs.declared.tokens.Sign.TheVariants.{CaretSign, ShiftLeftSign, ShiftRightSign, LessSign}
use Rattle.htt_lexer_tokens.specs.declared.tokens.Sign.TheVariants.{DoubleStarSign, AndSign, OrSign, AtSign, BangSign}
use Rattle.theory_grammar.specs.Readers.{same_kind}

-- ---- beginnings

abbrev pub begins_binder : Kind → Bool
begins_binder Name = true
begins_binder (Sign UnderscoreSign) = true
begins_binder _ = false

abbrev pub begins_mono : Kind → Bool
begins_mono Name = true
begins_mono (Keyword WordWord) = true
begins_mono (Keyword BoolWord) = true
begins_mono (Keyword LocWord) = true
begins_mono (Keyword UnitWord) = true
begins_mono (Sign OpenParenSign) = true
begins_mono _ = false

abbrev pub begins_mono_name : Kind → Bool
begins_mono_name Name = true
begins_mono_name (Keyword WordWord) = true
begins_mono_name (Keyword BoolWord) = true
begins_mono_name (Keyword LocWord) = true
begins_mono_name (Keyword UnitWord) = true
begins_mono_name _ = false

abbrev pub begins_ty : Kind → Bool
begins_ty (Sign OpenBracketSign) = true
begins_ty (Sign OpenBraceSign) = true
begins_ty k = begins_mono k

abbrev pub begins_atom : Kind → Bool
begins_atom Name = true
begins_atom (Number n) = true
begins_atom (Keyword TrueWord) = true
begins_atom (Keyword FalseWord) = true
begins_atom (Keyword NullWord) = true
begins_atom (Keyword PlaceWord) = true
begins_atom (Keyword EqWord) = true
begins_atom (Keyword SelWord) = true
begins_atom (Sign OpenParenSign) = true
begins_atom _ = false

abbrev pub begins_appl : Kind → Bool
begins_appl (Keyword FstWord) = true
begins_appl (Keyword SndWord) = true
begins_appl (Keyword NotWord) = true
begins_appl k = begins_atom k

abbrev pub begins_term : Kind → Bool
begins_term (Keyword FunWord) = true
begins_term (Keyword DoWord) = true
begins_term (Keyword FixWord) = true
begins_term k = begins_appl k

abbrev pub begins_comp : Kind → Bool
begins_comp (Keyword RetWord) = true
begins_comp k = begins_binder k

abbrev pub begins_fatom : Kind → Bool
begins_fatom (Keyword TtWord) = true
begins_fatom (Keyword FfWord) = true
begins_fatom (Keyword EmpWord) = true
begins_fatom (Keyword CapitalEmpWord) = true
begins_fatom (Keyword SameWord) = true
begins_fatom (Keyword JoinWord) = true
begins_fatom (Keyword CellWord) = true
begins_fatom (Keyword BlockWord) = true
begins_fatom (Sign OpenBracketSign) = true
begins_fatom (Sign AtSign) = true
begins_fatom (Sign BangSign) = true
begins_fatom k = begins_appl k

abbrev pub begins_formula : Kind → Bool
begins_formula (Keyword AllWord) = true
begins_formula (Keyword ExWord) = true
begins_formula k = begins_fatom k

abbrev pub begins_arg : Kind → Bool
begins_arg (Sign AtSign) = true
begins_arg k = begins_term k

abbrev pub begins_stmt : Kind → Bool
begins_stmt (Keyword IntroWord) = true
begins_stmt (Keyword GenWord) = true
begins_stmt (Keyword OpenWord) = true
begins_stmt (Keyword HaveWord) = true
begins_stmt _ = false

abbrev pub begins_end : Kind → Bool
begins_end Name = true
begins_end (Keyword TrivialWord) = true
begins_end (Keyword ReflWord) = true
begins_end (Keyword FirstWord) = true
begins_end (Keyword SecondWord) = true
begins_end (Keyword LeftWord) = true
begins_end (Keyword RightWord) = true
begins_end (Keyword AbsurdWord) = true
begins_end (Keyword BothWord) = true
begins_end (Keyword GiveWord) = true
begins_end (Keyword AppWord) = true
begins_end (Keyword InstWord) = true
begins_end (Keyword CaseWord) = true
begins_end (Keyword RewriteWord) = true
begins_end (Keyword InductWord) = true
begins_end (Keyword SplitWord) = true
begins_end (Keyword AxiomWord) = true
begins_end (Keyword LemWord) = true
begins_end (Keyword TheWord) = true
begins_end _ = false

abbrev pub begins_proof : Kind → Bool
begins_proof k = begins_stmt k || begins_end k

abbrev pub begins_decl : Kind → Bool
begins_decl (Keyword TypeWord) = true
begins_decl (Keyword PredWord) = true
begins_decl (Keyword DefWord) = true
begins_decl (Keyword ValWord) = true
begins_decl (Keyword ProofWord) = true
begins_decl _ = false

-- ---- the operator that a token is, if it is one

abbrev pub sum_sign_of : Kind → Option SumSign
sum_sign_of (Sign PlusSign) = Some plus
sum_sign_of (Sign MinusSign) = Some minus
sum_sign_of (Sign BarSign) = Some bar
sum_sign_of (Sign CaretSign) = Some caret
sum_sign_of _ = None

abbrev pub prod_sign_of : Kind → Option ProdSign
prod_sign_of (Sign StarSign) = Some times
prod_sign_of (Sign AmpersandSign) = Some ampersand
prod_sign_of (Sign ShiftLeftSign) = Some shift_left
prod_sign_of (Sign ShiftRightSign) = Some shift_right
prod_sign_of _ = None

abbrev pub is_some : {A : Type 0} → Option A → Bool
is_some None = false
is_some (Some x) = true

-- ---- the tokens that go on with a phrase

abbrev pub never : Kind → Bool
never k = false

abbrev pub goes_on_heap : Kind → Bool
goes_on_heap k = same_kind k (Sign CaretSign)

abbrev pub goes_on_mono : Kind → Bool
goes_on_mono k = same_kind k (Sign StarSign)

abbrev pub goes_on_list : Kind → Bool
goes_on_list k = same_kind k (Sign CommaSign)

abbrev pub goes_on_params : Kind → Bool
goes_on_params k = same_kind k (Sign OpenParenSign)

abbrev pub goes_on_appl : Kind → Bool
goes_on_appl k = same_kind k (Sign OpenBracketSign) || begins_atom k

abbrev pub goes_on_prod : Kind → Bool
goes_on_prod k = is_some (prod_sign_of k) || goes_on_appl k

abbrev pub goes_on_sum : Kind → Bool
goes_on_sum k = is_some (sum_sign_of k) || goes_on_prod k

abbrev pub goes_on_rel : Kind → Bool
goes_on_rel k = same_kind k (Sign LessSign) || goes_on_sum k

abbrev pub goes_on_star : Kind → Bool
goes_on_star k = same_kind k (Sign DoubleStarSign) || goes_on_rel k

abbrev pub goes_on_conj : Kind → Bool
goes_on_conj k = same_kind k (Sign AndSign) || goes_on_star k

abbrev pub goes_on_disj : Kind → Bool
goes_on_disj k = same_kind k (Sign OrSign) || goes_on_conj k

abbrev pub goes_on_formula : Kind → Bool
goes_on_formula k = same_kind k (Sign ImpliesSign) || goes_on_disj k
