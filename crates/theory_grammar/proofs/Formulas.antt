-- The readers of types and formulas get what is spelled.
use Rattle.std.proofs.Common.{◌≡◌, ℕ, suc, List, [], ◌∷◌, refl, ◌∙◌, ap}
use Rattle.std.specs.Prelude.{Bool, true, false, ◌&&◌, ◌||◌, None, cond}
use Rattle.htt_lexer_tokens.specs.declared.tokens.Kind.{Kind}
use Rattle.htt_lexer_tokens.specs.declared.tokens.Kind.TheVariants.{Name, Keyword, Sign}
use Rattle.htt_lexer_tokens.specs.declared.tokens.Token.{Token}
use Rattle.htt_lexer_tokens.specs.declared.tokens.Keyword.TheVariants.{HeapWord, EmpWord, TtWord, FfWord, AllWord, ExWord, CapitalEmpWord, CellWord, BlockWord}
use Rattle.htt_lexer_tokens.specs.declared.tokens.Keyword.TheVariants.{JoinWord, SameWord}
use Rattle.htt_lexer_tokens.specs.declared.tokens.Sign.TheVariants.{OpenParenSign, CloseParenSign, OpenBracketSign, ColonSign, DotSign, ImpliesSign}
use Rattle.htt_lexer_tokens.specs.declared.tokens.Sign.TheVariants.{UnderscoreSign, StarSign, DoubleStarSign, AndSign, OrSign, AtSign, BangSign}
use Rattle.htt_parser_trees.specs.declared.place.Binder.{Binder}
use Rattle.htt_parser_trees.specs.declared.place.Binder.TheVariants as binders
use Rattle.htt_parser_trees.specs.declared.mono.MonoName.{MonoName}
use Rattle.htt_parser_trees.specs.declared.mono.MonoName.TheVariants as mono_names
use Rattle.htt_parser_trees.specs.Trees.{RawMonoTree, m_name, m_brackets, m_factor, m_pair, RawTyTree, RawTermTrees, RawRelTree, RawFormulaTree, RawSortTree}
use Rattle.htt_parser_trees.specs.Trees.{RawDisjTree, RawConjTree, RawStarTree, RawFatomTree, y_fun, y_all, y_hoare, y_mono, f_all, f_ex, f_disj, f_implies}
use Rattle.htt_parser_trees.specs.Trees.{over_mono, over_heap, d_conj, d_or, j_star, j_and, k_fatom, k_times, g_tt, g_ff, g_emp, g_brackets, g_at_heap}
use Rattle.htt_parser_trees.specs.Trees.{g_emp_of, g_same, g_join, g_cell, g_block, g_use, g_use_at, g_use_at_heap, g_eq, g_points, g_points_any, no_terms}
use Rattle.htt_parser_trees.specs.Trees.{more_terms}
use Rattle.theory_grammar.specs.Marks.{Mark, Limits, ◌⨟◌, sign, sign_at}
use Rattle.theory_grammar.specs.Grammar
use Rattle.theory_grammar.specs.Readers.{give, ◌>>=◌, stop, either, first_is, that, same_kind}
use Rattle.theory_grammar.specs.Beginnings.{begins_mono, begins_mono_name, begins_appl, begins_fatom, goes_on_mono, goes_on_rel, goes_on_star, goes_on_conj}
use Rattle.theory_grammar.specs.Beginnings.{goes_on_disj, goes_on_formula}
use Rattle.theory_grammar.specs.Phrases.{Deeper, mono_reader, is_colon, function_binder, starts_function, function_case, ty_case, ty_reader, sort_reader}
use Rattle.theory_grammar.specs.Phrases.{quantified, argument_case, fatom_case, fatom_reader, star_reader, conj_reader, disj_reader, quantifier_case}
use Rattle.theory_grammar.specs.Phrases.{formula_reader}
use Rattle.theory_grammar.proofs.Spells.{Spells, Leads, leads_of, leads_then, split, first_token}
use Rattle.theory_grammar.proofs.Gets.{Gets, giving, then, then_any, until, until_last, then_nothing, last, taken, taken_at, taken_alone, passed, ended}
use Rattle.theory_grammar.proofs.Gets.{or_left, or_right, regroup, regroup_in, empty_gone, nothing_first, that_not, skip, skip_last}
use Rattle.theory_grammar.proofs.Opens.{opens_mono, opens_rel, opens_disj}
use Rattle.theory_grammar.proofs.Monotypes.{Knows, binder_gets, name_gets, heap_gets, mono_gets, bracketed_gets, more_monos_get, monos_stop, leads_mono_name}
use Rattle.theory_grammar.proofs.Monotypes.{leads_mark}
use Rattle.theory_grammar.proofs.Terms.{not_that, no_type_sign, term_leads, before_close, more_terms_get, after_close, terms_close, rel_gets, triple_gets}

-- ---- types

-- what begins with a bracket, a binder and a colon is the type of a function
function_starts : (lim : Limits) (l : ℕ) (b : Binder) (m o : Mark) (ns : List Mark) (ts rest : List Token)
    → m.kind ≡ Sign OpenParenSign
    → o.kind ≡ Sign ColonSign
    → Spells lim ((m ∷ []) ⨟ (Grammar.binder l b ⨟ ((o ∷ []) ⨟ ns))) ts rest
    → starts_function ts ≡ true
unfolding ◌⨟◌
function_starts lim l (binders.Name x) m o ns ts rest first third s =
    ap starts_function (s.2 ∙ ap (λ us. s.0 ∷ us) (s.5.2 ∙ ap (λ us. s.5.0 ∷ us) s.5.5.2))
    ∙ (λ i.
    same_kind ((s.3.kind ∙ first) i) (Sign OpenParenSign) &&
    (same_kind (s.5.3.kind i) (Sign UnderscoreSign) ||
    (same_kind (s.5.3.kind i) Name && same_kind ((s.5.5.3.kind ∙ third) i) (Sign ColonSign))))
function_starts lim l binders.Blank m o ns ts rest first third s =
    ap starts_function (s.2 ∙ ap (λ us. s.0 ∷ us) (s.5.2 ∙ ap (λ us. s.5.0 ∷ us) s.5.5.2))
    ∙ (λ i.
    same_kind ((s.3.kind ∙ first) i) (Sign OpenParenSign) &&
    (same_kind (s.5.3.kind i) (Sign UnderscoreSign) ||
    (same_kind (s.5.3.kind i) Name && same_kind ((s.5.5.3.kind ∙ third) i) (Sign ColonSign))))

and_false : (b c : Bool) → c ≡ false → (b && c) ≡ false
and_false true c h = h
and_false false c h = refl

false_and : (b c : Bool) → b ≡ false → (b && c) ≡ false
false_and true c h = absurd (let no : true ≡ false = h in cc)
false_and false c h = refl

or_false : (b c : Bool) → b ≡ false → c ≡ false → (b || c) ≡ false
or_false true c h e = h
or_false false c h e = e

no_binder : (k : Kind) (colon : Bool)
    → same_kind k (Sign UnderscoreSign) ≡ false
    → colon ≡ false
    → (same_kind k (Sign UnderscoreSign) || (same_kind k Name && colon)) ≡ false
no_binder k colon h e = or_false (same_kind k (Sign UnderscoreSign)) (same_kind k Name && colon) h (and_false (same_kind k Name) colon e)

-- what follows the name that stands first in brackets
ends_name : Kind → Bool
ends_name (Sign CloseParenSign) = true
ends_name (Sign StarSign) = true
ends_name _ = false

name_no_colon : (k : Kind) → ends_name k ≡ true → is_colon k ≡ false
unfolding ends_name
name_no_colon (Sign ColonSign) h = absurd (let no : false ≡ true = h in cc)
name_no_colon _ h = refl

first_no_colon : (ts : List Token) → first_is ends_name ts ≡ true → first_is is_colon ts ≡ false
first_no_colon [] h = refl
first_no_colon (t ∷ ts) h = name_no_colon t.kind h

is_open : Kind → Bool
is_open k = same_kind k (Sign OpenParenSign)

open_no_binder : (k : Kind) (colon : Bool) → is_open k ≡ true → (same_kind k (Sign UnderscoreSign) || (same_kind k Name && colon)) ≡ false
unfolding is_open
open_no_binder Name colon h = absurd (let no : false ≡ true = h in cc)
open_no_binder (Sign UnderscoreSign) colon h = absurd (let no : false ≡ true = h in cc)
open_no_binder _ colon h = refl

name_no_open : (k : Kind) → begins_mono_name k ≡ true → same_kind k (Sign OpenParenSign) ≡ false
name_no_open (Sign OpenParenSign) h = absurd (let no : false ≡ true = h in cc)
name_no_open _ h = refl

bracket_first : (ts : List Token) → first_is is_open ts ≡ true → function_binder ts ≡ false
bracket_first [] h = refl
bracket_first (t ∷ ts) h = open_no_binder t.kind (first_is is_colon ts) h

name_first : (ts : List Token) → first_is begins_mono_name ts ≡ true → starts_function ts ≡ false
name_first [] h = refl
name_first (t ∷ ts) h = false_and (same_kind t.kind (Sign OpenParenSign)) (function_binder ts) (name_no_open t.kind h)

one_name : (lim : Limits) (l : ℕ) (x : MonoName) (ts mid : List Token)
    → Spells lim (Grammar.mono_name l x) ts mid
    → (t : Token) × (ts ≡ t ∷ mid) × (same_kind t.kind (Sign UnderscoreSign) ≡ false)
one_name lim l (mono_names.Word at) ts mid s = (s.0, s.2 ∙ ap (λ us. s.0 ∷ us) s.5, ap (λ k. same_kind k (Sign UnderscoreSign)) s.3.kind)
one_name lim l (mono_names.Bool at) ts mid s = (s.0, s.2 ∙ ap (λ us. s.0 ∷ us) s.5, ap (λ k. same_kind k (Sign UnderscoreSign)) s.3.kind)
one_name lim l (mono_names.Loc at) ts mid s = (s.0, s.2 ∙ ap (λ us. s.0 ∷ us) s.5, ap (λ k. same_kind k (Sign UnderscoreSign)) s.3.kind)
one_name lim l (mono_names.Unit at) ts mid s = (s.0, s.2 ∙ ap (λ us. s.0 ∷ us) s.5, ap (λ k. same_kind k (Sign UnderscoreSign)) s.3.kind)
one_name lim l (mono_names.Name span) ts mid s = (s.0, s.2 ∙ ap (λ us. s.0 ∷ us) s.5, ap (λ k. same_kind k (Sign UnderscoreSign)) s.3.kind)

-- no colon follows the binder with which brackets seem to begin
inside_no_colon : (lim : Limits) (l : ℕ) (m : RawMonoTree) (ns : List Mark) (ts rest : List Token)
    → Leads ends_name ns
    → Spells lim (Grammar.mono l m ⨟ ns) ts rest
    → function_binder ts ≡ false
unfolding Grammar.mono ends_name is_open
inside_no_colon lim l (m_factor (m_name x)) ns ts rest leads s =
    let parts = split lim (Grammar.mono_name l x) ns ts rest s in
    let one = one_name lim l x ts parts.0 parts.1 in
    ap function_binder one.1
    ∙ no_binder one.0.kind (first_is is_colon parts.0) one.2
    (first_no_colon parts.0 (first_token lim ends_name ns parts.0 rest leads parts.2))
inside_no_colon lim l (m_pair (m_name x) r) ns ts rest leads s =
    let whole = split lim (Grammar.mono_name l x ⨟ (sign l StarSign ⨟ Grammar.mono (suc l) r)) ns ts rest s in
    let parts = split lim (Grammar.mono_name l x) (sign l StarSign ⨟ Grammar.mono (suc l) r) ts whole.0 whole.1 in
    let one = one_name lim l x ts parts.0 parts.1 in
    ap function_binder one.1
    ∙ no_binder one.0.kind (first_is is_colon parts.0) one.2
    (first_no_colon parts.0
    (first_token lim ends_name (sign l StarSign ⨟ Grammar.mono (suc l) r) parts.0 whole.0 (leads_mark ends_name _ _ refl) parts.2))
inside_no_colon lim l (m_factor (m_brackets at m)) ns ts rest leads s =
    bracket_first ts (first_token lim is_open _ ts rest (leads_then is_open _ ns (leads_mark is_open _ _ refl)) s)
inside_no_colon lim l (m_pair (m_brackets at m) r) ns ts rest leads s =
    bracket_first ts (first_token lim is_open _ ts rest (leads_then is_open _ ns (leads_then is_open _ _ (leads_mark is_open _ _ refl))) s)

bracketed_no_function : (lim : Limits) (l at : ℕ) (m : RawMonoTree) (ts rest : List Token)
    → Spells lim (sign_at l OpenParenSign at ⨟ (Grammar.mono l m ⨟ sign l CloseParenSign)) ts rest
    → starts_function ts ≡ false
unfolding ◌⨟◌ ends_name
bracketed_no_function lim l at m ts rest s =
    ap starts_function s.2
    ∙ and_false (same_kind s.0.kind (Sign OpenParenSign)) (function_binder s.1)
    (inside_no_colon lim l m (sign l CloseParenSign) s.1 rest refl s.5)

-- a monotype isn't taken for the type of a function
mono_no_function : (lim : Limits) (l : ℕ) (m : RawMonoTree) (ts rest : List Token) → Spells lim (Grammar.mono l m) ts rest → starts_function ts ≡ false
unfolding Grammar.mono
mono_no_function lim l (m_factor (m_name x)) ts rest s =
    name_first ts (first_token lim begins_mono_name (Grammar.mono_name l x) ts rest (leads_mono_name l x) s)
mono_no_function lim l (m_pair (m_name x) r) ts rest s =
    name_first ts
    (first_token lim begins_mono_name _ ts rest (leads_then begins_mono_name (Grammar.mono_name l x) _ (leads_mono_name l x)) s)
mono_no_function lim l (m_factor (m_brackets at m)) ts rest s = bracketed_no_function lim l at m ts rest s
mono_no_function lim l (m_pair (m_brackets at m) r) ts rest s =
    let parts = split lim (sign_at l OpenParenSign at ⨟ (Grammar.mono l m ⨟ sign l CloseParenSign)) (sign l StarSign ⨟ Grammar.mono (suc l) r) ts rest s in
    bracketed_no_function lim l at m ts parts.0 parts.1

-- by what the first tokens say
of_function : {lim : Limits} {c : Kind → Bool} {n : ℕ} {ms : List Mark} {x : RawTyTree} (d : Deeper)
    → ((ts rest : List Token) → Spells lim ms ts rest → starts_function ts ≡ true)
    → Gets lim c n (either (function_case d) stop) ms x
    → Gets lim c n (ty_reader d) ms x
unfolding ty_reader
of_function d starts gets = record {
  reads = λ ts rest short s stops.
      ap (λ b. cond b (either (function_case d) stop ts) (either (ty_case d) (mono_reader d >>= (λ m. give (y_mono m))) ts))
      (starts ts rest s)
      ∙ gets.reads ts rest short s stops;
}

of_other : {lim : Limits} {c : Kind → Bool} {n : ℕ} {ms : List Mark} {x : RawTyTree} (d : Deeper)
    → ((ts rest : List Token) → Spells lim ms ts rest → starts_function ts ≡ false)
    → Gets lim c n (either (ty_case d) (mono_reader d >>= (λ m. give (y_mono m)))) ms x
    → Gets lim c n (ty_reader d) ms x
unfolding ty_reader
of_other d starts gets = record {
  reads = λ ts rest short s stops.
      ap (λ b. cond b (either (function_case d) stop ts) (either (ty_case d) (mono_reader d >>= (λ m. give (y_mono m))) ts))
      (starts ts rest s)
      ∙ gets.reads ts rest short s stops;
}

other_first : (lim : Limits) (m : Mark) (ns : List Mark) (ts rest : List Token)
    → same_kind m.kind (Sign OpenParenSign) ≡ false
    → Spells lim ((m ∷ []) ⨟ ns) ts rest
    → starts_function ts ≡ false
unfolding ◌⨟◌
other_first lim m ns ts rest other s =
    ap starts_function s.2
    ∙ false_and (same_kind s.0.kind (Sign OpenParenSign)) (function_binder s.1)
    (ap (λ k. same_kind k (Sign OpenParenSign)) s.3.kind ∙ other)

-- ---- which first tokens are not chosen

no_fatom_word : (d : Deeper) (k : Kind) → begins_appl k ≡ true → fatom_case d k ≡ None
no_fatom_word d (Keyword TtWord) h = absurd (let no : false ≡ true = h in cc)
no_fatom_word d (Keyword FfWord) h = absurd (let no : false ≡ true = h in cc)
no_fatom_word d (Keyword EmpWord) h = absurd (let no : false ≡ true = h in cc)
no_fatom_word d (Keyword CapitalEmpWord) h = absurd (let no : false ≡ true = h in cc)
no_fatom_word d (Keyword SameWord) h = absurd (let no : false ≡ true = h in cc)
no_fatom_word d (Keyword JoinWord) h = absurd (let no : false ≡ true = h in cc)
no_fatom_word d (Keyword CellWord) h = absurd (let no : false ≡ true = h in cc)
no_fatom_word d (Keyword BlockWord) h = absurd (let no : false ≡ true = h in cc)
no_fatom_word d (Sign OpenBracketSign) h = absurd (let no : false ≡ true = h in cc)
no_fatom_word d (Sign AtSign) h = absurd (let no : false ≡ true = h in cc)
no_fatom_word d (Sign BangSign) h = absurd (let no : false ≡ true = h in cc)
no_fatom_word d _ h = refl

no_underscore : (k : Kind) → begins_appl k ≡ true → same_kind k (Sign UnderscoreSign) ≡ false
no_underscore (Sign UnderscoreSign) h = absurd (let no : false ≡ true = h in cc)
no_underscore _ h = refl

no_heap_word : (k : Kind) → begins_mono k ≡ true → same_kind k (Keyword HeapWord) ≡ false
no_heap_word (Keyword HeapWord) h = absurd (let no : false ≡ true = h in cc)
no_heap_word _ h = refl

no_quantifier : (d : Deeper) (k : Kind) → begins_fatom k ≡ true → quantifier_case d k ≡ None
no_quantifier d (Keyword AllWord) h = absurd (let no : false ≡ true = h in cc)
no_quantifier d (Keyword ExWord) h = absurd (let no : false ≡ true = h in cc)
no_quantifier d _ h = refl

module _ {lim : Limits} (d : Deeper) (l : ℕ) (know : Knows lim d (suc l)) where
  pub ty_gets : {n : ℕ} (a : RawTyTree) → Gets lim goes_on_mono n (ty_reader d) (Grammar.ty l a) a
  unfolding Grammar.ty
  ty_gets (y_fun at b a c) = of_function d (λ ts rest s. function_starts lim l b _ _ _ ts rest refl refl s)
      (taken_at (λ x. y_fun x b a c) _ _ _ _ _ _ refl (λ s.
      then_any _ (binder_gets l b)
      (skip _ _ _ refl (until _ _ _ refl (know.ty a) (skip _ _ _ refl (skip _ _ _ refl (last (y_fun s.from b a) (know.ty c))))))))
  ty_gets (y_all at a c) = of_other d (λ ts rest s. other_first lim _ _ ts rest refl s)
      (taken_at (λ x. y_all x a c) _ _ _ _ _ _ refl (λ s. then_any _ (name_gets l a) (skip _ _ _ refl (skip _ _ _ refl (last (y_all s.from a) (know.ty c))))))
  ty_gets (y_hoare at t) = of_other d (λ ts rest s. other_first lim _ _ ts rest refl s)
      (taken_at (λ x. y_hoare x t) _ _ _ _ _ _ refl (λ s. last (y_hoare s.from) (triple_gets d l know t)))
  ty_gets (y_mono m) = of_other d (λ ts rest s. mono_no_function lim l m ts rest s)
      (passed begins_mono (leads_of begins_mono l (Grammar.mono l m) (opens_mono l m)) (no_type_sign d) (last y_mono (mono_gets d l know m)))

  -- ---- atoms of formulas

  rel_leads : (r : RawRelTree) (ns : List Mark) → Leads begins_appl (Grammar.rel l r ⨟ ns)
  rel_leads r ns = leads_then begins_appl (Grammar.rel l r) ns (leads_of begins_appl l (Grammar.rel l r) (opens_rel l r))

  -- a use of a predicate without monotypes, behind the first bracket
  plain_use : {c : Kind → Bool} {n : ℕ} (at : ℕ) (p : _) (ms : RawTermTrees)
      → Gets lim c n
      (either (that (Sign CloseParenSign) (give (g_use at p [] no_terms))) (d.term >>= (λ m. either (argument_case d at p m) stop)))
      (Grammar.terms l ms ⨟ sign l CloseParenSign) (g_use at p [] ms)
  unfolding Grammar.terms
  plain_use at p no_terms = nothing_first _ (taken_alone _ _ refl (λ there e span. refl))
  plain_use at p (more_terms m no_terms) =
      empty_gone _ _
      (before_close d l know _ (term_leads d l know m _) (until_last _ refl (know.term m) (taken_alone _ _ refl (λ there e span. refl))))
  plain_use at p (more_terms m (more_terms k ms)) =
      regroup _ _ _ (regroup_in _ _ _ _ (before_close d l know _ (term_leads d l know m _) (until _ _ _ refl (know.term m) (taken _ _ _ refl (λ there e span.
      regroup _ _ _ (then _ (know.term k) (λ mid rest s stops. after_close d l know ms mid rest s)
      (until_last _ refl (more_terms_get d l know ms) (skip_last _ refl))))))))

  pub fatom_gets : {n : ℕ} (f : RawFatomTree) → Gets lim goes_on_rel n (fatom_reader d) (Grammar.fatom l f) f
  unfolding Grammar.fatom fatom_reader
  fatom_gets (g_tt at) = taken_alone _ _ refl (λ there e span. ap g_tt e)
  fatom_gets (g_ff at) = taken_alone _ _ refl (λ there e span. ap g_ff e)
  fatom_gets (g_emp at) = taken_alone _ _ refl (λ there e span. ap g_emp e)
  fatom_gets (g_brackets at p) = taken_at (λ a. g_brackets a p) _ _ _ _ _ _ refl (λ s. until_last _ refl (know.formula p) (skip_last _ refl))
  fatom_gets (g_at_heap at h p) =
      taken_at (λ a. g_at_heap a h p) _ _ _ _ _ _ refl
      (λ s. until _ _ _ refl (heap_gets l h) (skip _ _ _ refl (until_last _ refl (know.formula p) (skip_last _ refl))))
  fatom_gets (g_emp_of at h) = taken_at (λ a. g_emp_of a h) _ _ _ _ _ _ refl (λ s. skip _ _ _ refl (until_last _ refl (heap_gets l h) (skip_last _ refl)))
  fatom_gets (g_same at h k) =
      taken_at (λ a. g_same a h k) _ _ _ _ _ _ refl
      (λ s. skip _ _ _ refl (until _ _ _ refl (heap_gets l h) (skip _ _ _ refl (until_last _ refl (heap_gets l k) (skip_last _ refl)))))
  fatom_gets (g_join at h j k) =
      taken_at (λ a. g_join a h j k) _ _ _ _ _ _ refl (λ s.
      skip _ _ _ refl (until _ _ _ refl (heap_gets l h)
      (skip _ _ _ refl (until _ _ _ refl (heap_gets l j) (skip _ _ _ refl (until_last _ refl (heap_gets l k) (skip_last _ refl)))))))
  fatom_gets (g_cell at t h m k) =
      taken_at (λ a. g_cell a t h m k) _ _ _ _ _ _ refl (λ s.
      then_any _ (bracketed_gets d l know t)
      (skip _ _ _ refl (until _ _ _ refl (heap_gets l h)
      (skip _ _ _ refl (until _ _ _ refl (know.term m) (skip _ _ _ refl (until_last _ refl (know.term k) (skip_last _ refl))))))))
  fatom_gets (g_block at t h m) =
      taken_at (λ a. g_block a t h m) _ _ _ _ _ _ refl (λ s.
      then_any _ (bracketed_gets d l know t)
      (skip _ _ _ refl (until _ _ _ refl (heap_gets l h) (skip _ _ _ refl (until_last _ refl (know.term m) (skip_last _ refl))))))
  fatom_gets (g_use at p [] ms) =
      taken_at (λ a. g_use a p [] ms) _ _ _ _ _ _ refl
      (λ s. then_any _ (name_gets l p) (nothing_first _ (taken _ _ _ refl (λ there e span. plain_use s.from p ms))))
  fatom_gets (g_use at p (t ∷ ts) ms) =
      taken_at (λ a. g_use a p (t ∷ ts) ms) _ _ _ _ _ _ refl
      (λ s. then_any _ (name_gets l p) (regroup _ _ _ (taken _ _ _ refl (λ there e span. regroup _ _ _ (regroup _ _ _
      (then _ (mono_gets d l know t) (λ mid rest told stops. monos_stop d l know _ _ refl ts mid rest told)
      (until _ _ _ refl (more_monos_get d l know ts)
      (skip _ _ _ refl (skip _ _ _ refl (terms_close d l know (g_use s.from p (t ∷ ts)) ms))))))))))
  fatom_gets (g_use_at at p m ms) =
      taken_at (λ a. g_use_at a p m ms) _ _ _ _ _ _ refl (λ s.
      then_any _ (name_gets l p)
      (taken _ _ _ refl (λ there e span.
      before_close d l know _ (term_leads d l know m _)
      (until _ _ _ refl (know.term m) (taken _ _ _ refl (λ here o told. terms_close d l know (g_use_at s.from p m) ms))))))
  fatom_gets (g_use_at_heap at p h m ms) =
      taken_at (λ a. g_use_at_heap a p h m ms) _ _ _ _ _ _ refl (λ s.
      then_any _ (name_gets l p)
      (taken _ _ _ refl (λ there e span.
      until _ _ _ refl (heap_gets l h)
      (skip _ _ _ refl (until _ _ _ refl (know.term m) (skip _ _ _ refl (terms_close d l know (g_use_at_heap s.from p h m) ms)))))))
  fatom_gets (g_eq m t k) =
      passed begins_appl (rel_leads m _) (no_fatom_word d)
      (until _ _ _ refl (rel_gets d l know m)
      (taken _ _ _ refl (λ there e span. then_any _ (bracketed_gets d l know t) (last (g_eq m t) (rel_gets d l know k)))))
  fatom_gets (g_points m t k) =
      passed begins_appl (rel_leads m _) (no_fatom_word d)
      (until _ _ _ refl (rel_gets d l know m) (taken _ _ _ refl (λ there e span. then_any _ (bracketed_gets d l know t)
      (passed begins_appl (leads_of begins_appl l (Grammar.rel l k) (opens_rel l k))
      (not_that begins_appl (Sign UnderscoreSign) _ no_underscore) (last (g_points m t) (rel_gets d l know k))))))
  fatom_gets (g_points_any m t) =
      passed begins_appl (rel_leads m _) (no_fatom_word d)
      (until _ _ _ refl (rel_gets d l know m)
      (taken _ _ _ refl (λ there e span. then_any _ (bracketed_gets d l know t) (taken_alone _ _ refl (λ here o told. refl)))))

  -- ---- connectives

  pub star_gets : {n : ℕ} (s : RawStarTree) → Gets lim goes_on_star n (star_reader d) (Grammar.star l s) s
  unfolding Grammar.star star_reader
  star_gets (k_fatom f) =
      then_nothing _ (λ k h. or_right (same_kind k (Sign DoubleStarSign)) (goes_on_rel k) h) (fatom_gets f)
      (ended (λ k h. that_not k (Sign DoubleStarSign) _ (or_left (same_kind k (Sign DoubleStarSign)) (goes_on_rel k) h)) giving)
  star_gets (k_times f s) = until _ _ _ refl (fatom_gets f) (taken _ _ _ refl (λ there e span. last (k_times f) (know.star s)))

  pub conj_gets : {n : ℕ} (c : RawConjTree) → Gets lim goes_on_conj n (conj_reader d) (Grammar.conj l c) c
  unfolding Grammar.conj conj_reader
  conj_gets (j_star s) =
      then_nothing _ (λ k h. or_right (same_kind k (Sign AndSign)) (goes_on_star k) h) (star_gets s)
      (ended (λ k h. that_not k (Sign AndSign) _ (or_left (same_kind k (Sign AndSign)) (goes_on_star k) h)) giving)
  conj_gets (j_and s c) = until _ _ _ refl (star_gets s) (taken _ _ _ refl (λ there e span. last (j_and s) (know.conj c)))

  pub disj_gets : {n : ℕ} (e : RawDisjTree) → Gets lim goes_on_disj n (disj_reader d) (Grammar.disj l e) e
  unfolding Grammar.disj disj_reader
  disj_gets (d_conj c) =
      then_nothing _ (λ k h. or_right (same_kind k (Sign OrSign)) (goes_on_conj k) h) (conj_gets c)
      (ended (λ k h. that_not k (Sign OrSign) _ (or_left (same_kind k (Sign OrSign)) (goes_on_conj k) h)) giving)
  disj_gets (d_or c e) = until _ _ _ refl (conj_gets c) (taken _ _ _ refl (λ there o span. last (d_or c) (know.disj e)))

  sort_gets : {n : ℕ} (s : RawSortTree) → Gets lim goes_on_mono n (sort_reader d) (Grammar.sort l s) s
  unfolding Grammar.sort sort_reader
  sort_gets (over_mono m) =
      passed begins_mono (leads_of begins_mono l (Grammar.mono l m) (opens_mono l m))
      (not_that begins_mono (Keyword HeapWord) _ no_heap_word) (last over_mono (mono_gets d l know m))
  sort_gets over_heap = taken_alone _ _ refl (λ there e span. refl)

  quantified_gets : {n : ℕ} (make : Binder → RawSortTree → RawFormulaTree → RawFormulaTree) (b : Binder) (s : RawSortTree)
      (p : RawFormulaTree)
      → Gets lim goes_on_formula n (quantified d make)
      (Grammar.binder l b ⨟ (sign l ColonSign ⨟ (Grammar.sort l s ⨟ (sign l DotSign ⨟ Grammar.formula (suc l) p)))) (make b s p)
  unfolding quantified
  quantified_gets make b s p =
      then_any _ (binder_gets l b) (skip _ _ _ refl (until _ _ _ refl (sort_gets s) (skip _ _ _ refl (last (make b s) (know.formula p)))))

  pub formula_gets : {n : ℕ} (f : RawFormulaTree) → Gets lim goes_on_formula n (formula_reader d) (Grammar.formula l f) f
  unfolding Grammar.formula formula_reader
  formula_gets (f_all at b s p) = taken_at (λ a. f_all a b s p) _ _ _ _ _ _ refl (λ there. quantified_gets (f_all there.from) b s p)
  formula_gets (f_ex at b s p) = taken_at (λ a. f_ex a b s p) _ _ _ _ _ _ refl (λ there. quantified_gets (f_ex there.from) b s p)
  formula_gets (f_disj e) = passed begins_fatom (leads_of begins_fatom l (Grammar.disj l e) (opens_disj l e)) (no_quantifier d)
      (then_nothing _ (λ k h. or_right (same_kind k (Sign ImpliesSign)) (goes_on_disj k) h) (disj_gets e)
      (ended (λ k h. that_not k (Sign ImpliesSign) _ (or_left (same_kind k (Sign ImpliesSign)) (goes_on_disj k) h)) giving))
  formula_gets (f_implies e p) =
      passed begins_fatom (leads_then begins_fatom (Grammar.disj l e) _ (leads_of begins_fatom l (Grammar.disj l e) (opens_disj l e)))
      (no_quantifier d)
      (until _ _ _ refl (disj_gets e) (taken _ _ _ refl (λ there o span. last (f_implies e) (know.formula p))))
