-- The readers at every level, and those of declarations and files, get what is spelled.
use Rattle.std.proofs.Common.{◌≡◌, ℕ, zero, suc, ◌+◌, ◌<◌, ◌≤◌, List, [], ◌∷◌, length, refl, sym, ap, subst, arith}
use Rattle.std.specs.Prelude.{Bool, true, false, not, None}
use Rattle.htt_lexer_tokens.specs.declared.tokens.Kind.{Kind}
use Rattle.htt_lexer_tokens.specs.declared.tokens.Kind.TheVariants.{Name, Keyword, Sign}
use Rattle.htt_lexer_tokens.specs.declared.tokens.Token.{Token}
use Rattle.htt_lexer_tokens.specs.declared.tokens.Keyword.TheVariants.{TypeWord, PredWord, DefWord, ValWord, ProofWord, AutoWord, InductWord}
use Rattle.htt_lexer_tokens.specs.declared.tokens.Sign.TheVariants.{OpenParenSign, CloseParenSign, OpenBracketSign, CommaSign, EqualSign, ColonSign}
use Rattle.htt_parser_trees.specs.declared.place.Span.{Span}
use Rattle.htt_parser_trees.specs.Trees.{RawTyTree, RawTermTree, RawFormulaTree, RawMonoParamTree, mono_param, RawBodyTree, body_auto, body_proof, RawDeclTree}
use Rattle.htt_parser_trees.specs.Trees.{decl_type, decl_pred, decl_induct, decl_def, decl_val, decl_proof}
use Rattle.theory_grammar.specs.Marks.{Limits, ◌⨟◌, sign, name, separated}
use Rattle.theory_grammar.specs.Grammar
use Rattle.theory_grammar.specs.Readers.{measured, give, ◌>>=◌, first_is, if_first, same_kind, after_commas}
use Rattle.theory_grammar.specs.Beginnings.{begins_mono, begins_ty, begins_term, begins_comp, begins_fatom, begins_formula, begins_proof, begins_decl, never}
use Rattle.theory_grammar.specs.Beginnings.{goes_on_mono, goes_on_rel, goes_on_formula}
use Rattle.theory_grammar.specs.Phrases.{Deeper, a_name_there, is_close}
use Rattle.theory_grammar.specs.Reading.{deeper, mono_parameter_reader, mono_parameters_reader, pred_on, induct_on, pred_case, body_case, body_reader, typed_on}
use Rattle.theory_grammar.specs.Reading.{decl_reader, any_token, file_on}
use Rattle.theory_grammar.proofs.Spells.{Spells, Stops, Leads, leads_of, leads_then, leads_wider, first_token}
use Rattle.theory_grammar.proofs.Gets.{Gets, then, then_any, until, until_last, last, less_going, taken, taken_at, taken_alone, passed, first_yes, first_no}
use Rattle.theory_grammar.proofs.Gets.{first_ended, closed_now, too_deep_here, stops_less, regroup, nothing_first, skip, skip_last}
use Rattle.theory_grammar.proofs.Opens.{opens_ty, opens_term, opens_comp, opens_formula, opens_disj, opens_conj, opens_star, opens_mono, opens_proof}
use Rattle.theory_grammar.proofs.Monotypes.{Knows, binder_gets, name_gets, number_gets, mono_gets, list_goes_on, before_more, more_get}
use Rattle.theory_grammar.proofs.Terms.{term_gets, comp_gets}
use Rattle.theory_grammar.proofs.Formulas.{ty_gets, formula_gets, disj_gets, conj_gets, star_gets}
use Rattle.theory_grammar.proofs.Proofs.{proof_gets}

-- ---- every level

pub knows : (lim : Limits) (further n l : ℕ) → lim.chain ≤ suc further → lim.nesting < n + l → Knows lim (deeper further n) l
unfolding deeper
knows lim further zero l chain past =
    let deep : lim.nesting < l = omega (arith, past) in
    record {
      further = chain;
      ty = λ a. too_deep_here begins_ty l deep (opens_ty l a);
      term = λ m. too_deep_here begins_term l deep (opens_term l m);
      comp = λ e. too_deep_here begins_comp l deep (opens_comp l e);
      formula = λ f. too_deep_here begins_formula l deep (opens_formula l f);
      disj = λ e. too_deep_here begins_fatom l deep (opens_disj l e);
      conj = λ c. too_deep_here begins_fatom l deep (opens_conj l c);
      star = λ s. too_deep_here begins_fatom l deep (opens_star l s);
      mono = λ m. too_deep_here begins_mono l deep (opens_mono l m);
      proof = λ p. too_deep_here begins_proof l deep (opens_proof l p);
    }
knows lim further (suc n) l chain past =
    let next : Knows lim (deeper further n) (suc l) = knows lim further n (suc l) chain (grind (arith, past)) in
    let d = deeper further n in
    record {
      further = next.further;
      ty = λ a. ty_gets d l next a;
      term = λ m. term_gets d l next m;
      comp = λ e. comp_gets d l next e;
      formula = λ f. formula_gets d l next f;
      disj = λ e. disj_gets d l next e;
      conj = λ c. conj_gets d l next c;
      star = λ s. star_gets d l next s;
      mono = λ m. mono_gets d l next m;
      proof = λ p. proof_gets d l next p;
    }

-- ---- declarations

-- a declaration ends where another begins
not_decl : Kind → Bool
not_decl k = not (begins_decl k)

decl_ends_formula : (k : Kind) → not_decl k ≡ false → goes_on_formula k ≡ false
unfolding not_decl
decl_ends_formula (Keyword TypeWord) h = refl
decl_ends_formula (Keyword PredWord) h = refl
decl_ends_formula (Keyword DefWord) h = refl
decl_ends_formula (Keyword ValWord) h = refl
decl_ends_formula (Keyword ProofWord) h = refl
decl_ends_formula _ h = absurd (let no : true ≡ false = h in cc)

decl_ends_term : (k : Kind) → not_decl k ≡ false → goes_on_rel k ≡ false
unfolding not_decl
decl_ends_term (Keyword TypeWord) h = refl
decl_ends_term (Keyword PredWord) h = refl
decl_ends_term (Keyword DefWord) h = refl
decl_ends_term (Keyword ValWord) h = refl
decl_ends_term (Keyword ProofWord) h = refl
decl_ends_term _ h = absurd (let no : true ≡ false = h in cc)

decl_ends_mono : (k : Kind) → not_decl k ≡ false → goes_on_mono k ≡ false
unfolding not_decl
decl_ends_mono (Keyword TypeWord) h = refl
decl_ends_mono (Keyword PredWord) h = refl
decl_ends_mono (Keyword DefWord) h = refl
decl_ends_mono (Keyword ValWord) h = refl
decl_ends_mono (Keyword ProofWord) h = refl
decl_ends_mono _ h = absurd (let no : true ≡ false = h in cc)

decl_stops : (ts : List Token) → first_is begins_decl ts ≡ true → Stops not_decl ts
unfolding not_decl
decl_stops [] h = tt
decl_stops (t ∷ ts) h = ap not h

begins_name : Kind → Bool
begins_name Name = true
begins_name _ = false

name_no_close : (k : Kind) → begins_name k ≡ true → is_close k ≡ false
unfolding begins_name
name_no_close (Sign CloseParenSign) h = absurd (let no : false ≡ true = h in cc)
name_no_close _ h = refl

is_open : Kind → Bool
is_open k = same_kind k (Sign OpenParenSign)

open_no_pred_case : (d : Deeper) (x : Span) (k : Kind) → is_open k ≡ true → pred_case d x k ≡ None
unfolding is_open
open_no_pred_case d x (Keyword InductWord) h = absurd (let no : false ≡ true = h in cc)
open_no_pred_case d x (Sign OpenBracketSign) h = absurd (let no : false ≡ true = h in cc)
open_no_pred_case d x _ h = refl

proof_no_auto : (k : Kind) → begins_proof k ≡ true → body_case k ≡ None
proof_no_auto (Keyword AutoWord) h = absurd (let no : false ≡ true = h in cc)
proof_no_auto _ h = refl

module _ {lim : Limits} (d : Deeper) (know : Knows lim d 1) where
  mono_parameter_gets : {n : ℕ} (p : RawMonoParamTree) → Gets lim goes_on_mono n (mono_parameter_reader d) (Grammar.mono_parameter p) p
  unfolding mono_parameter_reader
  mono_parameter_gets (mono_param x m) = then_any _ (name_gets 0 x) (skip _ _ _ refl (last (mono_param x) (know.mono m)))

  leads_mono_parameter : (p : RawMonoParamTree) → Leads begins_name (Grammar.mono_parameter p)
  unfolding begins_name ◌⨟◌
  leads_mono_parameter (mono_param x m) = refl

  some_parameters_get : {n : ℕ} (p : RawMonoParamTree) (ps : List RawMonoParamTree)
      → Gets lim (list_goes_on goes_on_mono) n
      (if_first is_close (give [])
      (mono_parameter_reader d >>= (λ p. measured (after_commas (Sign CommaSign) (mono_parameter_reader d)) >>= (λ ps. give (p ∷ ps)))))
      (separated (sign 0 CommaSign) Grammar.mono_parameter (p ∷ ps)) (p ∷ ps)
  some_parameters_get p ps = first_no _ begins_name (leads_then begins_name (Grammar.mono_parameter p) _ (leads_mono_parameter p)) name_no_close
      (then _ (mono_parameter_gets p) (λ mid rest s stops.
      before_more goes_on_mono 0 (mono_parameter_reader d) Grammar.mono_parameter refl (λ n x. mono_parameter_gets x) ps mid rest s stops)
      (last (λ others. p ∷ others) (more_get goes_on_mono 0 (mono_parameter_reader d) Grammar.mono_parameter refl (λ n x. mono_parameter_gets x) ps)))

  mono_parameters_get : {c : Kind → Bool} {n : ℕ} (ps : List RawMonoParamTree) → Gets lim c n (mono_parameters_reader d) (Grammar.mono_parameters ps) ps
  unfolding mono_parameters_reader
  mono_parameters_get [] = skip _ _ _ refl (closed_now _ [] _ _ _ refl (skip_last _ refl))
  mono_parameters_get (p ∷ ps) = skip _ _ _ refl (until_last _ refl (some_parameters_get p ps) (skip_last _ refl))

  pred_on_gets : {n : ℕ} (x : Span) (xs : List Span) (ps : List RawMonoParamTree) (f : RawFormulaTree)
      → Gets lim not_decl n (pred_on d x xs) (Grammar.mono_parameters ps ⨟ (sign 0 EqualSign ⨟ Grammar.formula 1 f)) (decl_pred x xs ps f)
  unfolding pred_on
  pred_on_gets x xs ps f = then_any _ (mono_parameters_get ps) (skip _ _ _ refl (last (decl_pred x xs ps) (less_going decl_ends_formula (know.formula f))))

  leads_parameters : (ps : List RawMonoParamTree) (ns : _) → Leads is_open (Grammar.mono_parameters ps ⨟ ns)
  unfolding is_open ◌⨟◌
  leads_parameters ps ns = refl

  typed_gets : {n : ℕ} (make : Span → RawTyTree → RawTermTree → RawDeclTree) (x : Span) (a : RawTyTree) (m : RawTermTree)
      → Gets lim not_decl n (typed_on d make) (name 0 x ⨟ (sign 0 ColonSign ⨟ (Grammar.ty 1 a ⨟ (sign 0 EqualSign ⨟ Grammar.term 1 m))))
      (make x a m)
  unfolding typed_on
  typed_gets make x a m =
      then_any _ (name_gets 0 x)
      (skip _ _ _ refl (until _ _ _ refl (know.ty a) (skip _ _ _ refl (last (make x a) (less_going decl_ends_term (know.term m))))))

  body_gets : {n : ℕ} (b : RawBodyTree) → Gets lim not_decl n (body_reader d) (Grammar.body b) b
  unfolding body_reader
  body_gets (body_auto at) = taken_alone _ _ refl (λ there e span. ap body_auto e)
  body_gets (body_proof p) = passed begins_proof (leads_of begins_proof 1 (Grammar.proof 1 p) (opens_proof 1 p)) proof_no_auto (last body_proof (know.proof p))

  decl_gets : {n : ℕ} (x : RawDeclTree) → Gets lim not_decl n (decl_reader d) (Grammar.decl x) x
  unfolding decl_reader induct_on
  decl_gets (decl_type x m) =
      taken _ _ _ refl
      (λ there e span. then_any _ (name_gets 0 x) (skip _ _ _ refl (last (decl_type x) (less_going decl_ends_mono (know.mono m)))))
  decl_gets (decl_pred x [] ps f) =
      taken _ _ _ refl (λ there e span.
      then_any _ (name_gets 0 x)
      (nothing_first _ (passed is_open (leads_parameters ps _) (open_no_pred_case d x) (pred_on_gets x [] ps f))))
  decl_gets (decl_pred x (a ∷ xs) ps f) =
      taken _ _ _ refl
      (λ there e span. then_any _ (name_gets 0 x) (regroup _ _ _ (taken _ _ _ refl (λ here o told. regroup _ _ _ (regroup _ _ _
      (then_any _ (name_gets 0 a)
      (until _ _ _ refl (more_get never 0 a_name_there (name 0) refl (λ n y. name_gets 0 y) xs)
      (skip _ _ _ refl (pred_on_gets x (a ∷ xs) ps f)))))))))
  decl_gets (decl_induct x b ps f g) = taken _ _ _ refl (λ there e span. then_any _ (name_gets 0 x) (taken _ _ _ refl (λ here o told.
      then_any _ (binder_gets 0 b)
      (then_any _ (mono_parameters_get ps)
      (skip _ _ _ refl (skip _ _ _ refl
      (until _ _ _ refl (know.formula f) (skip _ _ _ refl (skip _ _ _ refl (until_last _ refl (know.formula g) (skip_last _ refl)))))))))))
  decl_gets (decl_def x a m) = taken _ _ _ refl (λ there e span. typed_gets decl_def x a m)
  decl_gets (decl_val x a m) = taken _ _ _ refl (λ there e span. typed_gets decl_val x a m)
  decl_gets (decl_proof at x v b) =
      taken_at (λ a. decl_proof a x v b) _ _ _ _ _ _ refl (λ s.
      then_any _ (name_gets 0 x)
      (skip _ _ _ refl (then_any _ (number_gets 0 v) (skip _ _ _ refl (last (decl_proof s.from x v) (body_gets b))))))

  leads_decl : (x : RawDeclTree) → Leads begins_decl (Grammar.decl x)
  unfolding ◌⨟◌
  leads_decl (decl_type x m) = refl
  leads_decl _ = refl

  -- ---- files

  any_first : (k : Kind) → begins_decl k ≡ true → any_token k ≡ true
  any_first k h = refl

  file_before : (ds : _) (mid rest : List Token) → Spells lim (Grammar.file ds) mid rest → Stops any_token rest → Stops not_decl mid
  unfolding not_decl
  file_before [] mid rest s stops = subst (Stops not_decl) (sym s) (stops_less any_token not_decl rest (λ k h. absurd (let no : true ≡ false = h in cc)) stops)
  file_before (x ∷ ds) mid rest s stops =
      decl_stops mid (first_token lim begins_decl _ mid rest (leads_then begins_decl (Grammar.decl x) (Grammar.file ds) (leads_decl x)) s)

  pub file_gets : {n : ℕ} (m : ℕ) (ds : _) → length ds ≤ m → Gets lim any_token n (file_on d m) (Grammar.file ds) ds
  unfolding file_on
  file_gets zero [] few = first_ended _ (λ k h. h)
  file_gets zero (x ∷ ds) few = absurd (omega (arith, few))
  file_gets (suc m) [] few = first_ended _ (λ k h. h)
  file_gets (suc m) (x ∷ ds) few =
      first_yes _ any_token
      (leads_then any_token (Grammar.decl x) _ (leads_wider begins_decl any_token (Grammar.decl x) any_first (leads_decl x)))
      (then _ (decl_gets x) (file_before ds) (last (λ others. x ∷ others) (file_gets m ds (grind (arith, few)))))
