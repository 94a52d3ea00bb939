-- For each token with which a phrase can begin, a small tree that begins with it.
use Rattle.std.proofs.Common.{◌≡◌, ℕ, suc, List, [], ◌∷◌, ◌++◌, refl, sym, ◌∙◌, ap, append-nil}
use Rattle.std.specs.Prelude.{Bool, true, false, ◌&&◌, Option, Some, None}
use Rattle.htt_lexer_tokens.specs.declared.tokens.Kind.{Kind}
use Rattle.htt_lexer_tokens.specs.declared.tokens.Kind.TheVariants.{Name, Number, Keyword, Sign}
use Rattle.htt_lexer_tokens.specs.declared.tokens.Token.{Token}
use Rattle.htt_lexer_tokens.specs.declared.tokens.Keyword.TheVariants.{TypeWord, PredWord, DefWord, ValWord, ProofWord, WordWord, BoolWord, LocWord, UnitWord}
use Rattle.htt_lexer_tokens.specs.declared.tokens.Keyword.TheVariants.{FunWord, DoWord, FixWord, RetWord, TrueWord, FalseWord, NullWord, PlaceWord, FstWord}
use Rattle.htt_lexer_tokens.specs.declared.tokens.Keyword.TheVariants.{SndWord, NotWord, EqWord, SelWord, EmpWord, TtWord, FfWord, AllWord, ExWord}
use Rattle.htt_lexer_tokens.specs.declared.tokens.Keyword.TheVariants.{CapitalEmpWord, CellWord, BlockWord, JoinWord, SameWord, IntroWord, GenWord, HaveWord}
use Rattle.htt_lexer_tokens.specs.declared.tokens.Keyword.TheVariants.{OpenWord, BothWord, LeftWord, RightWord, GiveWord, TrivialWord, ReflWord, AbsurdWord}
use Rattle.htt_lexer_tokens.specs.declared.tokens.Keyword.TheVariants.{CaseWord, RewriteWord, InductWord, SplitWord, FirstWord, SecondWord, AppWord, InstWord}
use Rattle.htt_lexer_tokens.specs.declared.tokens.Keyword.TheVariants.{AxiomWord, LemWord, TheWord}
use Rattle.htt_lexer_tokens.specs.declared.tokens.Sign.TheVariants.{OpenParenSign, OpenBracketSign, OpenBraceSign, PointsToSign, UnderscoreSign, AtSign}
use Rattle.htt_lexer_tokens.specs.declared.tokens.Sign.TheVariants.{BangSign}
use Rattle.htt_parser_trees.specs.declared.place.Span.{Span}
use Rattle.htt_parser_trees.specs.declared.place.Binder.TheVariants as binders
use Rattle.htt_parser_trees.specs.declared.mono.MonoName.TheVariants as mono_names
use Rattle.htt_parser_trees.specs.declared.tree.UnaryWord.TheVariants as unary_words
use Rattle.htt_parser_trees.specs.declared.tree.RawHeap.{RawHeap}
use Rattle.htt_parser_trees.specs.declared.tree.RawHeap.TheVariants as heaps
use Rattle.htt_parser_trees.specs.declared.proof.UnaryRule.TheVariants as unary_rules
use Rattle.htt_parser_trees.specs.Trees.{RawMonoTree, m_name, m_brackets, m_factor, RawTripleTree, RawTermTree, RawAtomTree, RawCompTree, RawStepTree}
use Rattle.htt_parser_trees.specs.Trees.{RawFormulaTree, RawFatomTree, y_all, y_hoare, y_mono, triple_of, t_fun, t_do, t_fix, t_rel, no_params, r_sum, s_sum}
use Rattle.htt_parser_trees.specs.Trees.{s_end, x_prod, x_end, l_unary, l_apply, no_parts, a_name, a_number, a_true, a_false, a_null, a_place, a_eq, a_sel}
use Rattle.htt_parser_trees.specs.Trees.{a_unit, c_ret, c_step, s_run, f_all, f_ex, f_disj, over_heap, d_conj, j_star, k_fatom, g_tt, g_ff, g_emp, g_brackets}
use Rattle.htt_parser_trees.specs.Trees.{g_at_heap, g_emp_of, g_same, g_join, g_cell, g_block, g_use, g_points_any, no_terms, arg_heap, arg_term, RawMotiveTree}
use Rattle.htt_parser_trees.specs.Trees.{motive_of, RawProofTree, p_end, p_step, b_intro, b_gen, b_open, b_have, e_name, e_trivial, e_refl, e_unary, e_both}
use Rattle.htt_parser_trees.specs.Trees.{e_give, e_app, e_inst, e_case, e_rewrite, e_induct, e_split, e_axiom, e_lem, e_the, no_proofs, body_auto, decl_type}
use Rattle.htt_parser_trees.specs.Trees.{decl_pred, decl_def, decl_val, decl_proof}
use Rattle.theory_grammar.specs.Marks.{Mark, Given, AllFit, ◌⨟◌, sign}
use Rattle.theory_grammar.specs.Grammar
use Rattle.theory_grammar.specs.Beginnings.{begins_mono, begins_ty, begins_atom, begins_appl, begins_term, begins_comp, begins_fatom, begins_formula}
use Rattle.theory_grammar.specs.Beginnings.{begins_arg, begins_end, begins_proof, begins_decl}
use Rattle.theory_reading_completions.proofs.Halts.{Start, fit_both}

-- ---- tokens for marks

-- a mark that has a byte has no span
is_clear : Option ℕ → Option Span → Bool
is_clear (Some at) (Some span) = false
is_clear _ _ = true

pub all_clear : List Mark → Bool
all_clear [] = true
all_clear (m ∷ ms) = is_clear m.at m.span && all_clear ms

place : Option ℕ → Option Span → Span
place (Some at) span = record { from = at; to = at }
place None (Some span) = span
place None None = record { from = 0; to = 0 }

pub tokens_of : List Mark → List Token
tokens_of [] = []
tokens_of (m ∷ ms) = record { kind = m.kind; from = (place m.at m.span).from; to = (place m.at m.span).to } ∷ tokens_of ms

at_place : (at : Option ℕ) (span : Option Span) → Given at (place at span).from
unfolding place
at_place (Some at) span = refl
at_place None span = tt

there_place : (at : Option ℕ) (span : Option Span) → is_clear at span ≡ true → Given span (place at span)
unfolding place is_clear
there_place (Some at) (Some span) h = absurd (let no : false ≡ true = h in cc)
there_place None (Some span) h = refl
there_place _ None h = tt

one_and : (a b : Bool) → (a && b) ≡ true → a ≡ true
one_and true b h = refl
one_and false b h = h

other_and : (a b : Bool) → (a && b) ≡ true → b ≡ true
other_and true b h = h
other_and false b h = absurd (let no : false ≡ true = h in cc)

pub clear_fit : (ms : List Mark) → all_clear ms ≡ true → AllFit (tokens_of ms) ms
unfolding all_clear tokens_of
clear_fit [] h = tt
clear_fit (m ∷ ms) h = (
  record { kind = refl; at = at_place m.at m.span; span = there_place m.at m.span (one_and (is_clear m.at m.span) (all_clear ms) h) },
  clear_fit ms (other_and (is_clear m.at m.span) (all_clear ms) h),
)

start : {A : Type 0} {marks : A → List Mark} {l : ℕ} {k : Kind} {s : Span} (tree : A) (mark : Mark) (others : List Mark)
    → marks tree ≡ mark ∷ others
    → k ≡ mark.kind
    → Given mark.at s.from
    → Given mark.span s
    → mark.level ≡ l
    → all_clear others ≡ true
    → Start marks l k s
start tree mark others whole same at there deep clear = record {
  tree = tree;
  mark = mark;
  others = others;
  tokens = tokens_of others;
  whole = whole;
  same = same;
  at = at;
  there = there;
  deep = deep;
  fit = clear_fit others clear;
}

-- a larger tree that begins with the smaller one
start_with : {A B : Type 0} {marks : A → List Mark} {ms : B → List Mark} {l : ℕ} {k : Kind} {s : Span} (make : A → B) (after : List Mark)
    → all_clear after ≡ true
    → ((x : A) → ms (make x) ≡ marks x ++ after)
    → Start marks l k s
    → Start ms l k s
start_with make after clear same small = record {
  tree = make small.tree;
  mark = small.mark;
  others = small.others ++ after;
  tokens = small.tokens ++ tokens_of after;
  whole = same small.tree ∙ ap (λ ns. ns ++ after) small.whole;
  same = small.same;
  at = small.at;
  there = small.there;
  deep = small.deep;
  fit = fit_both small.tokens (tokens_of after) small.others after small.fit (clear_fit after clear);
}

-- ---- small trees

pub the_span : Span
the_span = record { from = 0; to = 0 }

the_mono : RawMonoTree
the_mono = m_factor (m_name (mono_names.Word 0))

of_atom : RawAtomTree → RawTermTree
of_atom a = t_rel (r_sum (s_sum (x_prod (l_apply a no_parts) x_end) s_end))

the_term : RawTermTree
the_term = of_atom (a_true 0)

of_fatom : RawFatomTree → RawFormulaTree
of_fatom g = f_disj (d_conj (j_star (k_fatom g)))

the_formula : RawFormulaTree
the_formula = of_fatom (g_tt 0)

the_heap : RawHeap
the_heap = heaps.Name the_span

the_triple : RawTripleTree
the_triple = triple_of the_formula binders.Blank the_mono the_formula

the_comp : RawCompTree
the_comp = c_ret the_term

the_step : RawStepTree
the_step = s_run (l_apply (a_true 0) no_parts)

the_proof : RawProofTree
the_proof = p_end (e_trivial 0)

the_motive : RawMotiveTree
the_motive = motive_of binders.Blank the_formula

-- ---- monotypes and types

pub starts_mono : (l : ℕ) (k : Kind) (s : Span) → begins_mono k ≡ true → Start (Grammar.mono l) l k s
unfolding Grammar.mono ◌⨟◌ all_clear is_clear the_mono
starts_mono l Name s h = start (m_factor (m_name (mono_names.Name s))) _ _ refl refl tt refl refl refl
starts_mono l (Keyword WordWord) s h = start (m_factor (m_name (mono_names.Word s.from))) _ _ refl refl refl tt refl refl
starts_mono l (Keyword BoolWord) s h = start (m_factor (m_name (mono_names.Bool s.from))) _ _ refl refl refl tt refl refl
starts_mono l (Keyword LocWord) s h = start (m_factor (m_name (mono_names.Loc s.from))) _ _ refl refl refl tt refl refl
starts_mono l (Keyword UnitWord) s h = start (m_factor (m_name (mono_names.Unit s.from))) _ _ refl refl refl tt refl refl
starts_mono l (Sign OpenParenSign) s h = start (m_factor (m_brackets s.from the_mono)) _ _ refl refl refl tt refl refl
starts_mono l _ s h = absurd (let no : false ≡ true = h in cc)

pub starts_ty : (l : ℕ) (k : Kind) (s : Span) → begins_ty k ≡ true → Start (Grammar.ty l) l k s
unfolding Grammar.ty Grammar.mono ◌⨟◌ all_clear is_clear the_mono the_triple the_formula of_fatom the_span
starts_ty l (Sign OpenBracketSign) s h = start (y_all s.from the_span (y_mono the_mono)) _ _ refl refl refl tt refl refl
starts_ty l (Sign OpenBraceSign) s h = start (y_hoare s.from the_triple) _ _ refl refl refl tt refl refl
starts_ty l k s h = start_with y_mono [] refl (λ m. sym (append-nil (Grammar.mono l m))) (starts_mono l k s h)

-- ---- terms and computations

pub starts_atom : (l : ℕ) (k : Kind) (s : Span) → begins_atom k ≡ true → Start (Grammar.atom l) l k s
unfolding Grammar.atom Grammar.mono ◌⨟◌ all_clear is_clear the_mono the_term of_atom
starts_atom l Name s h = start (a_name s) _ _ refl refl tt refl refl refl
starts_atom l (Number v) s h = start (a_number s.from v) _ _ refl refl refl tt refl refl
starts_atom l (Keyword TrueWord) s h = start (a_true s.from) _ _ refl refl refl tt refl refl
starts_atom l (Keyword FalseWord) s h = start (a_false s.from) _ _ refl refl refl tt refl refl
starts_atom l (Keyword NullWord) s h = start (a_null s.from) _ _ refl refl refl tt refl refl
starts_atom l (Keyword PlaceWord) s h = start (a_place s.from 0) _ _ refl refl refl tt refl refl
starts_atom l (Keyword EqWord) s h = start (a_eq s.from the_mono the_term the_term) _ _ refl refl refl tt refl refl
starts_atom l (Keyword SelWord) s h = start (a_sel s.from the_mono the_term the_term the_term) _ _ refl refl refl tt refl refl
starts_atom l (Sign OpenParenSign) s h = start (a_unit s.from) _ _ refl refl refl tt refl refl
starts_atom l _ s h = absurd (let no : false ≡ true = h in cc)

pub starts_appl : (l : ℕ) (k : Kind) (s : Span) → begins_appl k ≡ true → Start (Grammar.appl l) l k s
unfolding Grammar.atom ◌⨟◌ all_clear is_clear
starts_appl l (Keyword FstWord) s h = start (l_unary s.from unary_words.Fst (a_true 0)) _ _ refl refl refl tt refl refl
starts_appl l (Keyword SndWord) s h = start (l_unary s.from unary_words.Snd (a_true 0)) _ _ refl refl refl tt refl refl
starts_appl l (Keyword NotWord) s h = start (l_unary s.from unary_words.Not (a_true 0)) _ _ refl refl refl tt refl refl
starts_appl l k s h = start_with (λ a. l_apply a no_parts) [] refl (λ a. refl) (starts_atom l k s h)

pub starts_prod : (l : ℕ) (k : Kind) (s : Span) → begins_appl k ≡ true → Start (Grammar.prod l) l k s
unfolding Grammar.atom ◌⨟◌ all_clear
starts_prod l k s h = start_with (λ a. x_prod a x_end) [] refl (λ a. refl) (starts_appl l k s h)

starts_rel : (l : ℕ) (k : Kind) (s : Span) → begins_appl k ≡ true → Start (λ p. Grammar.rel l (r_sum (s_sum p s_end))) l k s
unfolding Grammar.atom ◌⨟◌ all_clear
starts_rel l k s h = start_with (λ p. p) [] refl (λ p. refl) (starts_prod l k s h)

pub starts_term : (l : ℕ) (k : Kind) (s : Span) → begins_term k ≡ true → Start (Grammar.term l) l k s
unfolding Grammar.term Grammar.mono ◌⨟◌ all_clear is_clear the_mono the_term of_atom the_comp the_triple the_formula of_fatom the_span
starts_term l (Keyword FunWord) s h = start (t_fun s.from binders.Blank the_term) _ _ refl refl refl tt refl refl
starts_term l (Keyword DoWord) s h = start (t_do s.from the_comp) _ _ refl refl refl tt refl refl
starts_term l (Keyword FixWord) s h = start (t_fix s.from the_span no_params the_triple the_comp) _ _ refl refl refl tt refl refl
starts_term l k s h = start_with (λ p. t_rel (r_sum (s_sum p s_end))) [] refl (λ p. refl) (starts_prod l k s h)

pub starts_comp : (l : ℕ) (k : Kind) (s : Span) → begins_comp k ≡ true → Start (Grammar.comp l) l k s
unfolding Grammar.comp ◌⨟◌ all_clear is_clear the_term of_atom the_comp the_step
starts_comp l (Keyword RetWord) s h = start the_comp _ _ refl refl tt tt refl refl
starts_comp l Name s h = start (c_step (binders.Name s) the_step the_comp) _ _ refl refl tt refl refl refl
starts_comp l (Sign UnderscoreSign) s h = start (c_step binders.Blank the_step the_comp) _ _ refl refl tt tt refl refl
starts_comp l _ s h = absurd (let no : false ≡ true = h in cc)

-- ---- formulas

pub starts_fatom : (l : ℕ) (k : Kind) (s : Span) → begins_fatom k ≡ true → Start (Grammar.fatom l) l k s
unfolding Grammar.fatom Grammar.mono ◌⨟◌ all_clear is_clear the_mono the_term of_atom the_formula of_fatom the_heap the_span
starts_fatom l (Keyword TtWord) s h = start (g_tt s.from) _ _ refl refl refl tt refl refl
starts_fatom l (Keyword FfWord) s h = start (g_ff s.from) _ _ refl refl refl tt refl refl
starts_fatom l (Keyword EmpWord) s h = start (g_emp s.from) _ _ refl refl refl tt refl refl
starts_fatom l (Keyword CapitalEmpWord) s h = start (g_emp_of s.from the_heap) _ _ refl refl refl tt refl refl
starts_fatom l (Keyword SameWord) s h = start (g_same s.from the_heap the_heap) _ _ refl refl refl tt refl refl
starts_fatom l (Keyword JoinWord) s h = start (g_join s.from the_heap the_heap the_heap) _ _ refl refl refl tt refl refl
starts_fatom l (Keyword CellWord) s h = start (g_cell s.from the_mono the_heap the_term the_term) _ _ refl refl refl tt refl refl
starts_fatom l (Keyword BlockWord) s h = start (g_block s.from the_mono the_heap the_term) _ _ refl refl refl tt refl refl
starts_fatom l (Sign OpenBracketSign) s h = start (g_brackets s.from the_formula) _ _ refl refl refl tt refl refl
starts_fatom l (Sign AtSign) s h = start (g_at_heap s.from the_heap the_formula) _ _ refl refl refl tt refl refl
starts_fatom l (Sign BangSign) s h = start (g_use s.from the_span [] no_terms) _ _ refl refl refl tt refl refl
starts_fatom l k s h =
    start_with (λ p. g_points_any (r_sum (s_sum p s_end)) the_mono)
    (sign l PointsToSign ++ (Grammar.in_brackets l the_mono ++ sign l UnderscoreSign)) refl (λ p. refl) (starts_rel l k s h)

pub starts_star : (l : ℕ) (k : Kind) (s : Span) → begins_fatom k ≡ true → Start (Grammar.star l) l k s
unfolding Grammar.fatom all_clear
starts_star l k s h = start_with k_fatom [] refl (λ g. sym (append-nil (Grammar.fatom l g))) (starts_fatom l k s h)

pub starts_conj : (l : ℕ) (k : Kind) (s : Span) → begins_fatom k ≡ true → Start (Grammar.conj l) l k s
unfolding Grammar.fatom all_clear
starts_conj l k s h = start_with j_star [] refl (λ g. sym (append-nil (Grammar.star l g))) (starts_star l k s h)

pub starts_disj : (l : ℕ) (k : Kind) (s : Span) → begins_fatom k ≡ true → Start (Grammar.disj l) l k s
unfolding Grammar.fatom all_clear
starts_disj l k s h = start_with d_conj [] refl (λ g. sym (append-nil (Grammar.conj l g))) (starts_conj l k s h)

pub starts_formula : (l : ℕ) (k : Kind) (s : Span) → begins_formula k ≡ true → Start (Grammar.formula l) l k s
unfolding Grammar.formula ◌⨟◌ all_clear is_clear the_formula of_fatom
starts_formula l (Keyword AllWord) s h = start (f_all s.from binders.Blank over_heap the_formula) _ _ refl refl refl tt refl refl
starts_formula l (Keyword ExWord) s h = start (f_ex s.from binders.Blank over_heap the_formula) _ _ refl refl refl tt refl refl
starts_formula l k s h = start_with f_disj [] refl (λ g. sym (append-nil (Grammar.disj l g))) (starts_disj l k s h)

-- ---- proofs

-- an argument that is a term is a phrase, and begins one level deeper
pub starts_arg : (l : ℕ) (k : Kind) (s : Span) → begins_arg k ≡ true → (n : ℕ) × Start (Grammar.arg l) n k s
unfolding ◌⨟◌ all_clear is_clear the_heap the_span
starts_arg l (Sign AtSign) s h = (l, start (arg_heap s.from the_heap) _ _ refl refl refl tt refl refl)
starts_arg l k s h = (suc l, start_with arg_term [] refl (λ m. sym (append-nil (Grammar.term (suc l) m))) (starts_term (suc l) k s h))

starts_end : (l : ℕ) (k : Kind) (s : Span) → begins_end k ≡ true → Start (Grammar.ending l) l k s
unfolding Grammar.ending Grammar.term ◌⨟◌ all_clear is_clear the_term of_atom the_formula of_fatom the_span the_proof the_motive
starts_end l Name s h = start (e_name s) _ _ refl refl tt refl refl refl
starts_end l (Keyword TrivialWord) s h = start (e_trivial s.from) _ _ refl refl refl tt refl refl
starts_end l (Keyword ReflWord) s h = start (e_refl s.from) _ _ refl refl refl tt refl refl
starts_end l (Keyword FirstWord) s h = start (e_unary s.from unary_rules.First the_proof) _ _ refl refl refl tt refl refl
starts_end l (Keyword SecondWord) s h = start (e_unary s.from unary_rules.Second the_proof) _ _ refl refl refl tt refl refl
starts_end l (Keyword LeftWord) s h = start (e_unary s.from unary_rules.Left the_proof) _ _ refl refl refl tt refl refl
starts_end l (Keyword RightWord) s h = start (e_unary s.from unary_rules.Right the_proof) _ _ refl refl refl tt refl refl
starts_end l (Keyword AbsurdWord) s h = start (e_unary s.from unary_rules.Absurd the_proof) _ _ refl refl refl tt refl refl
starts_end l (Keyword BothWord) s h = start (e_both s.from the_proof the_proof) _ _ refl refl refl tt refl refl
starts_end l (Keyword GiveWord) s h = start (e_give s.from (arg_term the_term) the_proof) _ _ refl refl refl tt refl refl
starts_end l (Keyword AppWord) s h = start (e_app s.from the_proof the_proof no_proofs) _ _ refl refl refl tt refl refl
starts_end l (Keyword InstWord) s h = start (e_inst s.from the_proof (arg_term the_term) []) _ _ refl refl refl tt refl refl
starts_end l (Keyword CaseWord) s h = start (e_case s.from the_proof the_span the_proof the_span the_proof) _ _ refl refl refl tt refl refl
starts_end l (Keyword RewriteWord) s h = start (e_rewrite s.from the_proof the_motive the_proof) _ _ refl refl refl tt refl refl
starts_end l (Keyword InductWord) s h =
    start (e_induct s.from the_motive the_term the_proof binders.Blank the_span the_span the_proof) _ _ refl refl refl tt refl refl
starts_end l (Keyword SplitWord) s h = start (e_split s.from the_motive the_term the_proof the_proof) _ _ refl refl refl tt refl refl
starts_end l (Keyword AxiomWord) s h = start (e_axiom s.from the_span [] []) _ _ refl refl refl tt refl refl
starts_end l (Keyword LemWord) s h = start (e_lem s.from the_formula) _ _ refl refl refl tt refl refl
starts_end l (Keyword TheWord) s h = start (e_the s.from the_formula the_proof) _ _ refl refl refl tt refl refl
starts_end l _ s h = absurd (let no : false ≡ true = h in cc)

pub starts_proof : (l : ℕ) (k : Kind) (s : Span) → begins_proof k ≡ true → Start (Grammar.proof l) l k s
unfolding Grammar.proof Grammar.formula ◌⨟◌ all_clear is_clear the_formula of_fatom the_span the_proof
starts_proof l (Keyword IntroWord) s h = start (p_step (b_intro s.from the_span) the_proof) _ _ refl refl refl tt refl refl
starts_proof l (Keyword GenWord) s h = start (p_step (b_gen s.from binders.Blank) the_proof) _ _ refl refl refl tt refl refl
starts_proof l (Keyword OpenWord) s h = start (p_step (b_open s.from binders.Blank the_span the_proof) the_proof) _ _ refl refl refl tt refl refl
starts_proof l (Keyword HaveWord) s h = start (p_step (b_have s.from the_span the_formula the_proof) the_proof) _ _ refl refl refl tt refl refl
starts_proof l k s h = start_with p_end [] refl (λ e. sym (append-nil (Grammar.ending l e))) (starts_end l k s h)

-- ---- declarations

pub starts_decl : (k : Kind) (s : Span) → begins_decl k ≡ true → Start Grammar.decl 0 k s
unfolding Grammar.term Grammar.mono ◌⨟◌ all_clear is_clear the_mono the_term of_atom the_formula of_fatom the_span
starts_decl (Keyword TypeWord) s h = start (decl_type the_span the_mono) _ _ refl refl tt tt refl refl
starts_decl (Keyword PredWord) s h = start (decl_pred the_span [] [] the_formula) _ _ refl refl tt tt refl refl
starts_decl (Keyword DefWord) s h = start (decl_def the_span (y_mono the_mono) the_term) _ _ refl refl tt tt refl refl
starts_decl (Keyword ValWord) s h = start (decl_val the_span (y_mono the_mono) the_term) _ _ refl refl tt tt refl refl
starts_decl (Keyword ProofWord) s h = start (decl_proof s.from the_span 0 (body_auto 0)) _ _ refl refl refl tt refl refl
starts_decl _ s h = absurd (let no : false ≡ true = h in cc)
