-- The readers of types, terms, computations and formulas. Each takes the readers of the phrases one
-- level deeper.
use Rattle.std.specs.Prelude.{ℕ, zero, suc, List, [], ◌∷◌, Bool, false, ◌&&◌, ◌||◌, Option, Some, None, cond}
use Rattle.htt_lexer_tokens.specs.declared.tokens.Kind.{Kind}
use Rattle.htt_lexer_tokens.specs.declared.tokens.Kind.TheVariants.{Name, Number, Keyword, Sign}
use Rattle.htt_lexer_tokens.specs.declared.tokens.Token.{Token}
use Rattle.htt_lexer_tokens.specs.declared.tokens.Keyword.TheVariants.{WordWord, BoolWord, LocWord, UnitWord, HeapWord}
use Rattle.htt_lexer_tokens.specs.declared.tokens.Keyword.TheVariants.{FunWord, DoWord, FixWord, RetWord, AllocWord}
use Rattle.htt_lexer_tokens.specs.declared.tokens.Keyword.TheVariants.{GetWord, SetWord, FreeWord, IfWord, ClaimWord}
use Rattle.htt_lexer_tokens.specs.declared.tokens.Keyword.TheVariants.{TrueWord, FalseWord, NullWord, PlaceWord}
use Rattle.htt_lexer_tokens.specs.declared.tokens.Keyword.TheVariants.{FstWord, SndWord, NotWord, EqWord, SelWord}
use Rattle.htt_lexer_tokens.specs.declared.tokens.Keyword.TheVariants.{EmpWord, TtWord, FfWord, AllWord, ExWord}
use Rattle.htt_lexer_tokens.specs.declared.tokens.Keyword.TheVariants.{CapitalEmpWord, CellWord, BlockWord, JoinWord}
use Rattle.htt_lexer_tokens.specs.declared.tokens.Keyword.TheVariants.{SameWord, InitWord, MemWord}
use Rattle.htt_lexer_tokens.specs.declared.tokens.Sign.TheVariants.{OpenParenSign, CloseParenSign, OpenBracketSign}
use Rattle.htt_lexer_tokens.specs.declared.tokens.Sign.TheVariants.{CloseBracketSign, OpenBraceSign, CloseBraceSign}
use Rattle.htt_lexer_tokens.specs.declared.tokens.Sign.TheVariants.{CommaSign, SemicolonSign, ColonSign, DotSign}
use Rattle.htt_lexer_tokens.specs.declared.tokens.Sign.TheVariants.{EqualSign, ImpliesSign, ArrowSign, LeftArrowSign}
use Rattle.htt_lexer_tokens.specs.declared.tokens.Sign.TheVariants.{PointsToSign, UnderscoreSign, StarSign, CaretSign}
use Rattle.htt_lexer_tokens.specs.declared.tokens.Sign.TheVariants.{LessSign, DoubleStarSign, AndSign, OrSign, AtSign}
use Rattle.htt_lexer_tokens.specs.declared.tokens.Sign.TheVariants.{BangSign}
use Rattle.htt_parser_trees.specs.declared.place.Span.{Span}
use Rattle.htt_parser_trees.specs.declared.place.Binder.{Binder}
use Rattle.htt_parser_trees.specs.declared.place.Binder.TheVariants as binders
use Rattle.htt_parser_trees.specs.declared.mono.MonoName.{MonoName}
use Rattle.htt_parser_trees.specs.declared.mono.MonoName.TheVariants as mono_names
use Rattle.htt_parser_trees.specs.declared.tree.UnaryWord.{UnaryWord}
use Rattle.htt_parser_trees.specs.declared.tree.UnaryWord.TheVariants as unary_words
use Rattle.htt_parser_trees.specs.declared.tree.RawHeap.{RawHeap}
use Rattle.htt_parser_trees.specs.declared.tree.RawHeap.TheVariants as heaps
use Rattle.htt_parser_trees.specs.Trees.{with_right, ProdSign, SumSign, RawMonoTree, m_name, m_brackets, RawTyTree}
use Rattle.htt_parser_trees.specs.Trees.{RawTripleTree, RawTermTree, RawParamTrees, RawRelTree, RawSumTree}
use Rattle.htt_parser_trees.specs.Trees.{RawSumRestTree, RawProdTree, RawProdRestTree, RawApplTree, RawPartTrees}
use Rattle.htt_parser_trees.specs.Trees.{RawAtomTree, RawCompTree, RawStepTree, RawFormulaTree, RawSortTree}
use Rattle.htt_parser_trees.specs.Trees.{RawDisjTree, RawConjTree, RawStarTree, RawFatomTree, RawTermTrees}
use Rattle.htt_parser_trees.specs.Trees.{RawProofTree, y_fun, y_all, y_hoare, y_mono, triple_of, t_fun, t_fun_mono}
use Rattle.htt_parser_trees.specs.Trees.{t_do, t_fix, t_rel, no_params, more_params, r_sum, r_less, s_sum, s_end}
use Rattle.htt_parser_trees.specs.Trees.{s_more, x_prod, x_end, x_more, l_unary, l_apply, no_parts, atom_part}
use Rattle.htt_parser_trees.specs.Trees.{mono_part, a_name, a_number, a_true, a_false, a_null, a_place, a_eq, a_sel}
use Rattle.htt_parser_trees.specs.Trees.{a_unit, a_brackets, a_pair, a_annotated, c_ret, c_step, s_alloc, s_get, s_set}
use Rattle.htt_parser_trees.specs.Trees.{s_free, s_if, s_claim, s_run, f_all, f_ex, f_disj, f_implies, over_mono}
use Rattle.htt_parser_trees.specs.Trees.{over_heap, d_conj, d_or, j_star, j_and, k_fatom, k_times, g_tt, g_ff, g_emp}
use Rattle.htt_parser_trees.specs.Trees.{g_brackets, g_at_heap, g_emp_of, g_same, g_join, g_cell, g_block, g_use}
use Rattle.htt_parser_trees.specs.Trees.{g_use_at, g_use_at_heap, g_eq, g_points, g_points_any, no_terms, more_terms}
use Rattle.theory_grammar.specs.Readers.{Reader, too_long, give, ◌>>=◌, refuse, stop, either, first_is, if_first}
use Rattle.theory_grammar.specs.Readers.{measured, same_kind, that, token, after_commas}
use Rattle.theory_grammar.specs.Beginnings.{begins_mono, begins_atom, begins_appl, sum_sign_of, prod_sign_of}

-- how the phrases one level deeper are read, and how many operands a chain may have after the first
pub record Deeper : Type 0 where
  pub further : ℕ
  pub ty : Reader RawTyTree
  pub term : Reader RawTermTree
  pub comp : Reader RawCompTree
  pub formula : Reader RawFormulaTree
  pub disj : Reader RawDisjTree
  pub conj : Reader RawConjTree
  pub star : Reader RawStarTree
  pub mono : Reader RawMonoTree
  pub proof : Reader RawProofTree

-- ---- words and heaps

abbrev pub binder_case : Kind → Option (Span → Reader Binder)
binder_case Name = Some (λ s. give (binders.Name s))
binder_case (Sign UnderscoreSign) = Some (λ s. give binders.Blank)
binder_case _ = None

unfoldable pub a_binder : Reader Binder
a_binder = either binder_case stop

abbrev pub name_case : Kind → Option (Span → Reader Span)
name_case Name = Some (λ s. give s)
name_case _ = None

unfoldable pub a_name_there : Reader Span
a_name_there = either name_case stop

abbrev pub number_case : Kind → Option (Span → Reader ℕ)
number_case (Number n) = Some (λ s. give n)
number_case _ = None

unfoldable pub a_number_there : Reader ℕ
a_number_there = either number_case stop

unfoldable pub over_there : Reader (Option ℕ)
over_there = either (that (Sign CaretSign) (a_number_there >>= (λ n. give (Some n)))) (give None)

abbrev pub init_on : ℕ → Reader RawHeap
init_on at = over_there >>= (λ n. give (heaps.Init at n))

abbrev pub mem_on : ℕ → Reader RawHeap
mem_on at = over_there >>= (λ n. give (heaps.Mem at n))

abbrev pub heap_case : Kind → Option (Span → Reader RawHeap)
heap_case Name = Some (λ s. give (heaps.Name s))
heap_case (Keyword InitWord) = Some (λ s. init_on s.from)
heap_case (Keyword MemWord) = Some (λ s. mem_on s.from)
heap_case _ = None

unfoldable pub a_heap : Reader RawHeap
a_heap = either heap_case stop

-- ---- monotypes

-- what stands at the right of a factor
unfoldable pub mono_right : Deeper → Reader (Option RawMonoTree)
mono_right d = either (that (Sign StarSign) (d.mono >>= (λ m. give (Some m)))) (give None)

-- the brackets that are open, from the innermost, are closed one after the other
unfoldable pub mono_closes : Deeper → List ℕ → RawMonoTree → Reader RawMonoTree
mono_closes d [] m = give m
mono_closes d (at ∷ opens) m =
    token (Sign CloseParenSign) >>= (λ _. mono_right d >>= (λ r. mono_closes d opens (with_right (m_brackets at m) r)))

abbrev pub mono_name_case : Kind → Option (Span → Reader MonoName)
mono_name_case Name = Some (λ s. give (mono_names.Name s))
mono_name_case (Keyword WordWord) = Some (λ s. give (mono_names.Word s.from))
mono_name_case (Keyword BoolWord) = Some (λ s. give (mono_names.Bool s.from))
mono_name_case (Keyword LocWord) = Some (λ s. give (mono_names.Loc s.from))
mono_name_case (Keyword UnitWord) = Some (λ s. give (mono_names.Unit s.from))
mono_name_case _ = None

unfoldable pub mono_inside : Deeper → List ℕ → Reader RawMonoTree
mono_inside d opens =
    either mono_name_case stop >>= (λ n. mono_right d >>= (λ r. mono_closes d opens (with_right (m_name n) r)))

-- opens brackets, at most as many as there are tokens
abbrev pub mono_case : (List ℕ → Reader RawMonoTree) → List ℕ → Kind → Option (Span → Reader RawMonoTree)
mono_case next opens (Sign OpenParenSign) = Some (λ s. next (s.from ∷ opens))
mono_case next opens _ = None

unfoldable pub mono_opens : Deeper → ℕ → List ℕ → Reader RawMonoTree
mono_opens d zero opens = stop
mono_opens d (suc n) opens = either (mono_case (mono_opens d n) opens) (mono_inside d opens)

unfoldable pub mono_reader : Deeper → Reader RawMonoTree
mono_reader d = measured (λ n. mono_opens d n [])

unfoldable pub bracketed : Deeper → Reader RawMonoTree
bracketed d =
    token (Sign OpenBracketSign) >>= (λ _. mono_reader d >>= (λ m. token (Sign CloseBracketSign) >>= (λ _. give m)))

unfoldable pub more_monos : Deeper → Reader (List RawMonoTree)
more_monos d = measured (after_commas (Sign CommaSign) (mono_reader d))

-- ---- terms

-- a comma and a term, and so on
unfoldable pub terms_on : Deeper → ℕ → Reader RawTermTrees
terms_on d zero = give no_terms
terms_on d (suc n) =
    either (that (Sign CommaSign) (d.term >>= (λ m. terms_on d n >>= (λ ms. give (more_terms m ms))))) (give no_terms)

abbrev pub is_close : Kind → Bool
is_close k = same_kind k (Sign CloseParenSign)

-- terms before a closing bracket
unfoldable pub terms_there : Deeper → Reader RawTermTrees
terms_there d =
    if_first is_close (give no_terms) (d.term >>= (λ m. measured (terms_on d) >>= (λ ms. give (more_terms m ms))))

abbrev pub pair_on : Deeper → ℕ → RawTermTree → Reader RawAtomTree
pair_on d at m = d.term >>= (λ n. token (Sign CloseParenSign) >>= (λ _. give (a_pair at m n)))

abbrev pub annotated_on : Deeper → ℕ → RawTermTree → Reader RawAtomTree
annotated_on d at m = d.ty >>= (λ a. token (Sign CloseParenSign) >>= (λ _. give (a_annotated at m a)))

abbrev pub bracket_case : Deeper → ℕ → RawTermTree → Kind → Option (Span → Reader RawAtomTree)
bracket_case d at m (Sign CloseParenSign) = Some (λ _. give (a_brackets at m))
bracket_case d at m (Sign CommaSign) = Some (λ _. pair_on d at m)
bracket_case d at m (Sign ColonSign) = Some (λ _. annotated_on d at m)
bracket_case d at m _ = None

abbrev pub place_on : ℕ → Reader RawAtomTree
place_on at = a_number_there >>= (λ n. give (a_place at n))

abbrev pub equality_on : Deeper → ℕ → Reader RawAtomTree
equality_on d at = bracketed d >>= (λ t.
    token (Sign OpenParenSign) >>= (λ _.
    d.term >>= (λ m.
    token (Sign CommaSign) >>= (λ _.
    d.term >>= (λ n.
    token (Sign CloseParenSign) >>= (λ _.
    give (a_eq at t m n)))))))

abbrev pub selection_on : Deeper → ℕ → Reader RawAtomTree
selection_on d at = bracketed d >>= (λ t.
    token (Sign OpenParenSign) >>= (λ _.
    d.term >>= (λ b.
    token (Sign CommaSign) >>= (λ _.
    d.term >>= (λ m.
    token (Sign CommaSign) >>= (λ _.
    d.term >>= (λ n.
    token (Sign CloseParenSign) >>= (λ _.
    give (a_sel at t b m n)))))))))

abbrev pub bracket_on : Deeper → ℕ → Reader RawAtomTree
bracket_on d at =
    either (that (Sign CloseParenSign) (give (a_unit at))) (d.term >>= (λ m. either (bracket_case d at m) stop))

abbrev pub atom_case : Deeper → Kind → Option (Span → Reader RawAtomTree)
atom_case d Name = Some (λ s. give (a_name s))
atom_case d (Number n) = Some (λ s. give (a_number s.from n))
atom_case d (Keyword TrueWord) = Some (λ s. give (a_true s.from))
atom_case d (Keyword FalseWord) = Some (λ s. give (a_false s.from))
atom_case d (Keyword NullWord) = Some (λ s. give (a_null s.from))
atom_case d (Keyword PlaceWord) = Some (λ s. place_on s.from)
atom_case d (Keyword EqWord) = Some (λ s. equality_on d s.from)
atom_case d (Keyword SelWord) = Some (λ s. selection_on d s.from)
atom_case d (Sign OpenParenSign) = Some (λ s. bracket_on d s.from)
atom_case d _ = None

unfoldable pub atom_reader : Deeper → Reader RawAtomTree
atom_reader d = either (atom_case d) stop

abbrev pub part_case : Deeper → Reader RawPartTrees → Kind → Option (Span → Reader RawPartTrees)
part_case d next (Sign OpenBracketSign) =
    Some (λ _. mono_reader d >>= (λ m. token (Sign CloseBracketSign) >>= (λ _. next >>= (λ ps. give (mono_part m ps)))))
part_case d next _ = None

abbrev pub no_part_case : Kind → Option (Span → Reader RawPartTrees)
no_part_case (Sign OpenBracketSign) = Some (λ _. refuse too_long begins_mono)
no_part_case _ = None

-- the further parts of an application, at most so many
unfoldable pub parts_on : Deeper → ℕ → Reader RawPartTrees
parts_on d zero = either no_part_case (if_first begins_atom (refuse too_long begins_atom) (give no_parts))
parts_on d (suc n) =
    either (part_case d (parts_on d n))
    (if_first begins_atom (atom_reader d >>= (λ a. parts_on d n >>= (λ ps. give (atom_part a ps)))) (give no_parts))

abbrev pub unary_on : Deeper → UnaryWord → ℕ → Reader RawApplTree
unary_on d w at = atom_reader d >>= (λ a. give (l_unary at w a))

abbrev pub unary_case : Deeper → Kind → Option (Span → Reader RawApplTree)
unary_case d (Keyword FstWord) = Some (λ s. unary_on d unary_words.Fst s.from)
unary_case d (Keyword SndWord) = Some (λ s. unary_on d unary_words.Snd s.from)
unary_case d (Keyword NotWord) = Some (λ s. unary_on d unary_words.Not s.from)
unary_case d _ = None

abbrev pub apply_on : Deeper → Reader RawApplTree
apply_on d = atom_reader d >>= (λ a. parts_on d d.further >>= (λ ps. give (l_apply a ps)))

unfoldable pub appl_reader : Deeper → Reader RawApplTree
appl_reader d = either (unary_case d) (apply_on d)

abbrev pub on_prod_sign : (ProdSign → Reader RawProdRestTree) → Option ProdSign → Option (Span → Reader RawProdRestTree)
on_prod_sign next None = None
on_prod_sign next (Some s) = Some (λ _. next s)

unfoldable pub prod_on : Deeper → ℕ → Reader RawProdRestTree
prod_on d zero = either (λ k. on_prod_sign (λ s. refuse too_long begins_appl) (prod_sign_of k)) (give x_end)
prod_on d (suc n) =
    either (λ k.
    on_prod_sign (λ s. appl_reader d >>= (λ a. prod_on d n >>= (λ rest. give (x_more s a rest)))) (prod_sign_of k))
    (give x_end)

unfoldable pub prod_reader : Deeper → Reader RawProdTree
prod_reader d = appl_reader d >>= (λ a. prod_on d d.further >>= (λ rest. give (x_prod a rest)))

abbrev pub on_sum_sign : (SumSign → Reader RawSumRestTree) → Option SumSign → Option (Span → Reader RawSumRestTree)
on_sum_sign next None = None
on_sum_sign next (Some s) = Some (λ _. next s)

unfoldable pub sum_on : Deeper → ℕ → Reader RawSumRestTree
sum_on d zero = either (λ k. on_sum_sign (λ s. refuse too_long begins_appl) (sum_sign_of k)) (give s_end)
sum_on d (suc n) =
    either
    (λ k. on_sum_sign (λ s. prod_reader d >>= (λ p. sum_on d n >>= (λ rest. give (s_more s p rest)))) (sum_sign_of k))
    (give s_end)

unfoldable pub sum_reader : Deeper → Reader RawSumTree
sum_reader d = prod_reader d >>= (λ p. sum_on d d.further >>= (λ rest. give (s_sum p rest)))

unfoldable pub rel_reader : Deeper → Reader RawRelTree
rel_reader d =
    sum_reader d >>= (λ s. either (that (Sign LessSign) (sum_reader d >>= (λ r. give (r_less s r)))) (give (r_sum s)))

-- what follows the first brace of a triple
unfoldable pub triple_reader : Deeper → Reader RawTripleTree
triple_reader d = d.formula >>= (λ p.
    token (Sign CloseBraceSign) >>= (λ _.
    a_binder >>= (λ b.
    token (Sign ColonSign) >>= (λ _.
    mono_reader d >>= (λ m.
    token (Sign OpenBraceSign) >>= (λ _.
    d.formula >>= (λ q.
    token (Sign CloseBraceSign) >>= (λ _.
    give (triple_of p b m q)))))))))

unfoldable pub params_on : Deeper → ℕ → Reader RawParamTrees
params_on d zero = give no_params
params_on d (suc n) =
    either (that (Sign OpenParenSign)
    (a_binder >>= (λ b.
    token (Sign ColonSign) >>= (λ _.
    d.ty >>= (λ a.
    token (Sign CloseParenSign) >>= (λ _.
    params_on d n >>= (λ ps.
    give (more_params b a ps)))))))) (give no_params)

abbrev pub fun_mono_on : Deeper → ℕ → Reader RawTermTree
fun_mono_on d at = a_name_there >>= (λ a.
    token (Sign CloseBracketSign) >>= (λ _.
    token (Sign DotSign) >>= (λ _.
    d.term >>= (λ m.
    give (t_fun_mono at a m)))))

abbrev pub fun_binder_on : Deeper → ℕ → Reader RawTermTree
fun_binder_on d at = a_binder >>= (λ b. token (Sign DotSign) >>= (λ _. d.term >>= (λ m. give (t_fun at b m))))

abbrev pub fun_on : Deeper → ℕ → Reader RawTermTree
fun_on d at = either (that (Sign OpenBracketSign) (fun_mono_on d at)) (fun_binder_on d at)

abbrev pub do_on : Deeper → ℕ → Reader RawTermTree
do_on d at = d.comp >>= (λ e. give (t_do at e))

abbrev pub fix_on : Deeper → ℕ → Reader RawTermTree
fix_on d at = a_name_there >>= (λ f.
    measured (params_on d) >>= (λ ps.
    token (Sign ColonSign) >>= (λ _.
    token (Sign OpenBraceSign) >>= (λ _.
    triple_reader d >>= (λ t.
    token (Sign DotSign) >>= (λ _.
    d.comp >>= (λ e.
    give (t_fix at f ps t e))))))))

abbrev pub term_case : Deeper → Kind → Option (Span → Reader RawTermTree)
term_case d (Keyword FunWord) = Some (λ s. fun_on d s.from)
term_case d (Keyword DoWord) = Some (λ s. do_on d s.from)
term_case d (Keyword FixWord) = Some (λ s. fix_on d s.from)
term_case d _ = None

abbrev pub rel_term_on : Deeper → Reader RawTermTree
rel_term_on d = rel_reader d >>= (λ r. give (t_rel r))

unfoldable pub term_reader : Deeper → Reader RawTermTree
term_reader d = either (term_case d) (rel_term_on d)

-- ---- types

-- a type that begins with `(` and `_`, or with `(`, a name and `:`, is that of a function
abbrev pub is_colon : Kind → Bool
is_colon k = same_kind k (Sign ColonSign)

abbrev pub function_binder : List Token → Bool
function_binder [] = false
function_binder (b ∷ tokens) =
    same_kind b.kind (Sign UnderscoreSign) || (same_kind b.kind Name && first_is is_colon tokens)

abbrev pub starts_function : List Token → Bool
starts_function [] = false
starts_function (a ∷ tokens) = same_kind a.kind (Sign OpenParenSign) && function_binder tokens

abbrev pub function_on : Deeper → ℕ → Reader RawTyTree
function_on d at = a_binder >>= (λ b.
    token (Sign ColonSign) >>= (λ _.
    d.ty >>= (λ a.
    token (Sign CloseParenSign) >>= (λ _.
    token (Sign ArrowSign) >>= (λ _.
    d.ty >>= (λ c.
    give (y_fun at b a c)))))))

abbrev pub function_case : Deeper → Kind → Option (Span → Reader RawTyTree)
function_case d (Sign OpenParenSign) = Some (λ s. function_on d s.from)
function_case d _ = None

abbrev pub all_on : Deeper → ℕ → Reader RawTyTree
all_on d at = a_name_there >>= (λ a.
    token (Sign CloseBracketSign) >>= (λ _.
    token (Sign ArrowSign) >>= (λ _.
    d.ty >>= (λ c.
    give (y_all at a c)))))

abbrev pub hoare_on : Deeper → ℕ → Reader RawTyTree
hoare_on d at = triple_reader d >>= (λ t. give (y_hoare at t))

abbrev pub ty_case : Deeper → Kind → Option (Span → Reader RawTyTree)
ty_case d (Sign OpenBracketSign) = Some (λ s. all_on d s.from)
ty_case d (Sign OpenBraceSign) = Some (λ s. hoare_on d s.from)
ty_case d _ = None

abbrev pub mono_ty_on : Deeper → Reader RawTyTree
mono_ty_on d = mono_reader d >>= (λ m. give (y_mono m))

unfoldable pub ty_reader : Deeper → Reader RawTyTree
ty_reader d tokens =
    cond (starts_function tokens) (either (function_case d) stop tokens) (either (ty_case d) (mono_ty_on d) tokens)

-- ---- computations

abbrev pub alloc_on : Deeper → Reader RawStepTree
alloc_on d = bracketed d >>= (λ t. atom_reader d >>= (λ a. give (s_alloc t a)))

abbrev pub get_on : Deeper → Reader RawStepTree
get_on d = bracketed d >>= (λ t. atom_reader d >>= (λ a. give (s_get t a)))

abbrev pub set_on : Deeper → Reader RawStepTree
set_on d = bracketed d >>= (λ t. atom_reader d >>= (λ a. atom_reader d >>= (λ b. give (s_set t a b))))

abbrev pub free_on : Deeper → Reader RawStepTree
free_on d = bracketed d >>= (λ t. atom_reader d >>= (λ a. give (s_free t a)))

abbrev pub if_on : Deeper → Reader RawStepTree
if_on d = bracketed d >>= (λ t.
    atom_reader d >>= (λ a.
    token (Sign OpenBraceSign) >>= (λ _.
    d.comp >>= (λ e.
    token (Sign CloseBraceSign) >>= (λ _.
    token (Sign OpenBraceSign) >>= (λ _.
    d.comp >>= (λ f.
    token (Sign CloseBraceSign) >>= (λ _.
    give (s_if t a e f)))))))))

abbrev pub claim_on : Deeper → Reader RawStepTree
claim_on d =
    token (Sign OpenBraceSign) >>= (λ _. d.formula >>= (λ p. token (Sign CloseBraceSign) >>= (λ _. give (s_claim p))))

abbrev pub step_case : Deeper → Kind → Option (Span → Reader RawStepTree)
step_case d (Keyword AllocWord) = Some (λ _. alloc_on d)
step_case d (Keyword GetWord) = Some (λ _. get_on d)
step_case d (Keyword SetWord) = Some (λ _. set_on d)
step_case d (Keyword FreeWord) = Some (λ _. free_on d)
step_case d (Keyword IfWord) = Some (λ _. if_on d)
step_case d (Keyword ClaimWord) = Some (λ _. claim_on d)
step_case d _ = None

abbrev pub run_on : Deeper → Reader RawStepTree
run_on d = appl_reader d >>= (λ a. give (s_run a))

unfoldable pub step_reader : Deeper → Reader RawStepTree
step_reader d = either (step_case d) (run_on d)

unfoldable pub comp_on : Deeper → ℕ → Reader RawCompTree
comp_on d zero = stop
comp_on d (suc n) =
    either (that (Keyword RetWord) (d.term >>= (λ m. give (c_ret m))))
    (a_binder >>= (λ b.
    token (Sign LeftArrowSign) >>= (λ _.
    step_reader d >>= (λ s.
    token (Sign SemicolonSign) >>= (λ _.
    comp_on d n >>= (λ e.
    give (c_step b s e)))))))

unfoldable pub comp_reader : Deeper → Reader RawCompTree
comp_reader d = measured (comp_on d)

-- ---- formulas

unfoldable pub sort_reader : Deeper → Reader RawSortTree
sort_reader d = either (that (Keyword HeapWord) (give over_heap)) (mono_reader d >>= (λ m. give (over_mono m)))

unfoldable pub quantified : Deeper → (Binder → RawSortTree → RawFormulaTree → RawFormulaTree) → Reader RawFormulaTree
quantified d make = a_binder >>= (λ b.
    token (Sign ColonSign) >>= (λ _.
    sort_reader d >>= (λ s.
    token (Sign DotSign) >>= (λ _.
    d.formula >>= (λ p.
    give (make b s p))))))

abbrev pub use_at_on : Deeper → ℕ → Span → RawTermTree → Reader RawFatomTree
use_at_on d at p m = terms_there d >>= (λ ms. token (Sign CloseParenSign) >>= (λ _. give (g_use_at at p m ms)))

abbrev pub use_terms_on : Deeper → ℕ → Span → RawTermTree → Reader RawFatomTree
use_terms_on d at p m = d.term >>= (λ n.
    measured (terms_on d) >>= (λ ms.
    token (Sign CloseParenSign) >>= (λ _.
    give (g_use at p [] (more_terms m (more_terms n ms))))))

abbrev pub argument_case : Deeper → ℕ → Span → RawTermTree → Kind → Option (Span → Reader RawFatomTree)
argument_case d at p m (Sign SemicolonSign) = Some (λ _. use_at_on d at p m)
argument_case d at p m (Sign CommaSign) = Some (λ _. use_terms_on d at p m)
argument_case d at p m (Sign CloseParenSign) = Some (λ _. give (g_use at p [] (more_terms m no_terms)))
argument_case d at p m _ = None

abbrev pub use_monos_on : Deeper → ℕ → Span → Reader RawFatomTree
use_monos_on d at p = mono_reader d >>= (λ t.
    more_monos d >>= (λ ts.
    token (Sign CloseBracketSign) >>= (λ _.
    token (Sign OpenParenSign) >>= (λ _.
    terms_there d >>= (λ ms.
    token (Sign CloseParenSign) >>= (λ _.
    give (g_use at p (t ∷ ts) ms)))))))

abbrev pub use_at_heap_on : Deeper → ℕ → Span → Reader RawFatomTree
use_at_heap_on d at p = a_heap >>= (λ h.
    token (Sign OpenParenSign) >>= (λ _.
    d.term >>= (λ m.
    token (Sign SemicolonSign) >>= (λ _.
    terms_there d >>= (λ ms.
    token (Sign CloseParenSign) >>= (λ _.
    give (g_use_at_heap at p h m ms)))))))

abbrev pub use_plain_on : Deeper → ℕ → Span → Reader RawFatomTree
use_plain_on d at p =
    either (that (Sign CloseParenSign) (give (g_use at p [] no_terms)))
    (d.term >>= (λ m. either (argument_case d at p m) stop))

abbrev pub use_case : Deeper → ℕ → Span → Kind → Option (Span → Reader RawFatomTree)
use_case d at p (Sign OpenBracketSign) = Some (λ _. use_monos_on d at p)
use_case d at p (Sign AtSign) = Some (λ _. use_at_heap_on d at p)
use_case d at p (Sign OpenParenSign) = Some (λ _. use_plain_on d at p)
use_case d at p _ = None

abbrev pub emp_of_on : ℕ → Reader RawFatomTree
emp_of_on at =
    token (Sign OpenParenSign) >>= (λ _. a_heap >>= (λ h. token (Sign CloseParenSign) >>= (λ _. give (g_emp_of at h))))

abbrev pub same_on : ℕ → Reader RawFatomTree
same_on at = token (Sign OpenParenSign) >>= (λ _.
    a_heap >>= (λ h.
    token (Sign CommaSign) >>= (λ _.
    a_heap >>= (λ k.
    token (Sign CloseParenSign) >>= (λ _.
    give (g_same at h k))))))

abbrev pub join_on : ℕ → Reader RawFatomTree
join_on at = token (Sign OpenParenSign) >>= (λ _.
    a_heap >>= (λ h.
    token (Sign CommaSign) >>= (λ _.
    a_heap >>= (λ j.
    token (Sign CommaSign) >>= (λ _.
    a_heap >>= (λ k.
    token (Sign CloseParenSign) >>= (λ _.
    give (g_join at h j k))))))))

abbrev pub cell_on : Deeper → ℕ → Reader RawFatomTree
cell_on d at = bracketed d >>= (λ t.
    token (Sign OpenParenSign) >>= (λ _.
    a_heap >>= (λ h.
    token (Sign CommaSign) >>= (λ _.
    d.term >>= (λ m.
    token (Sign CommaSign) >>= (λ _.
    d.term >>= (λ n.
    token (Sign CloseParenSign) >>= (λ _.
    give (g_cell at t h m n)))))))))

abbrev pub block_on : Deeper → ℕ → Reader RawFatomTree
block_on d at = bracketed d >>= (λ t.
    token (Sign OpenParenSign) >>= (λ _.
    a_heap >>= (λ h.
    token (Sign CommaSign) >>= (λ _.
    d.term >>= (λ m.
    token (Sign CloseParenSign) >>= (λ _.
    give (g_block at t h m)))))))

abbrev pub in_brackets_on : Deeper → ℕ → Reader RawFatomTree
in_brackets_on d at = d.formula >>= (λ p. token (Sign CloseBracketSign) >>= (λ _. give (g_brackets at p)))

abbrev pub at_heap_on : Deeper → ℕ → Reader RawFatomTree
at_heap_on d at = a_heap >>= (λ h.
    token (Sign OpenBracketSign) >>= (λ _.
    d.formula >>= (λ p.
    token (Sign CloseBracketSign) >>= (λ _.
    give (g_at_heap at h p)))))

abbrev pub use_on : Deeper → ℕ → Reader RawFatomTree
use_on d at = a_name_there >>= (λ p. either (use_case d at p) stop)

abbrev pub fatom_case : Deeper → Kind → Option (Span → Reader RawFatomTree)
fatom_case d (Keyword TtWord) = Some (λ s. give (g_tt s.from))
fatom_case d (Keyword FfWord) = Some (λ s. give (g_ff s.from))
fatom_case d (Keyword EmpWord) = Some (λ s. give (g_emp s.from))
fatom_case d (Keyword CapitalEmpWord) = Some (λ s. emp_of_on s.from)
fatom_case d (Keyword SameWord) = Some (λ s. same_on s.from)
fatom_case d (Keyword JoinWord) = Some (λ s. join_on s.from)
fatom_case d (Keyword CellWord) = Some (λ s. cell_on d s.from)
fatom_case d (Keyword BlockWord) = Some (λ s. block_on d s.from)
fatom_case d (Sign OpenBracketSign) = Some (λ s. in_brackets_on d s.from)
fatom_case d (Sign AtSign) = Some (λ s. at_heap_on d s.from)
fatom_case d (Sign BangSign) = Some (λ s. use_on d s.from)
fatom_case d _ = None

abbrev pub equal_on : Deeper → RawRelTree → Reader RawFatomTree
equal_on d m = bracketed d >>= (λ t. rel_reader d >>= (λ n. give (g_eq m t n)))

abbrev pub points_on : Deeper → RawRelTree → Reader RawFatomTree
points_on d m = bracketed d >>= (λ t.
    either (that (Sign UnderscoreSign) (give (g_points_any m t))) (rel_reader d >>= (λ n. give (g_points m t n))))

abbrev pub relation_case : Deeper → RawRelTree → Kind → Option (Span → Reader RawFatomTree)
relation_case d m (Sign EqualSign) = Some (λ _. equal_on d m)
relation_case d m (Sign PointsToSign) = Some (λ _. points_on d m)
relation_case d m _ = None

abbrev pub relation_on : Deeper → Reader RawFatomTree
relation_on d = rel_reader d >>= (λ m. either (relation_case d m) stop)

unfoldable pub fatom_reader : Deeper → Reader RawFatomTree
fatom_reader d = either (fatom_case d) (relation_on d)

unfoldable pub star_reader : Deeper → Reader RawStarTree
star_reader d = fatom_reader d >>= (λ f.
    either (that (Sign DoubleStarSign) (d.star >>= (λ s. give (k_times f s)))) (give (k_fatom f)))

unfoldable pub conj_reader : Deeper → Reader RawConjTree
conj_reader d =
    star_reader d >>= (λ s. either (that (Sign AndSign) (d.conj >>= (λ c. give (j_and s c)))) (give (j_star s)))

unfoldable pub disj_reader : Deeper → Reader RawDisjTree
disj_reader d =
    conj_reader d >>= (λ c. either (that (Sign OrSign) (d.disj >>= (λ e. give (d_or c e)))) (give (d_conj c)))

abbrev pub quantifier_case : Deeper → Kind → Option (Span → Reader RawFormulaTree)
quantifier_case d (Keyword AllWord) = Some (λ s. quantified d (f_all s.from))
quantifier_case d (Keyword ExWord) = Some (λ s. quantified d (f_ex s.from))
quantifier_case d _ = None

abbrev pub implication_on : Deeper → Reader RawFormulaTree
implication_on d = disj_reader d >>= (λ e.
    either (that (Sign ImpliesSign) (d.formula >>= (λ p. give (f_implies e p)))) (give (f_disj e)))

unfoldable pub formula_reader : Deeper → Reader RawFormulaTree
formula_reader d = either (quantifier_case d) (implication_on d)
