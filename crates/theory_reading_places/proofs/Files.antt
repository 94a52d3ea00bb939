-- The readers at every level, and those of declarations and files, follow one another.
use Rattle.std.proofs.Common.{◌≡◌, ℕ, zero, suc, ◌≤◌, List, [], ◌∷◌, refl, sym, subst, arith}
use Rattle.htt_lexer_tokens.specs.declared.tokens.Kind.{Kind}
use Rattle.htt_lexer_tokens.specs.declared.tokens.Kind.TheVariants.{Keyword, Sign}
use Rattle.htt_lexer_tokens.specs.declared.tokens.Keyword.TheVariants.{TypeWord, PredWord, DefWord, ValWord, ProofWord, AutoWord, InductWord}
use Rattle.htt_lexer_tokens.specs.declared.tokens.Sign.TheVariants.{OpenBracketSign, CommaSign}
use Rattle.htt_parser_trees.specs.declared.place.Span.{Span}
use Rattle.htt_parser_trees.specs.Trees.{RawTyTree, RawTermTree, RawDeclTree}
use Rattle.theory_grammar.specs.Readers.{measured, give, ◌>>=◌, if_first, after_commas, too_nested, too_many}
use Rattle.theory_grammar.specs.Phrases.{Deeper, is_close}
use Rattle.theory_grammar.specs.Reading.{at_level, deeper, mono_parameter_reader, mono_parameters_reader, pred_on, induct_on, pred_case, body_case, body_reader}
use Rattle.theory_grammar.specs.Reading.{typed_on, decl_case, decl_reader, file_on}
use Rattle.theory_reading_places.proofs.Follows.{Greater, in_none, in_chains, in_levels, in_all, Kept, Follows, Both, follow_give, follow_stop, follow_refuse}
use Rattle.theory_reading_places.proofs.Follows.{follow_then, follow_either, follow_skip, follow_first}
use Rattle.theory_reading_places.proofs.Refuses.{refuses_then, follow_refused}
use Rattle.theory_reading_places.proofs.Words.{Refused, Follow, Chain, chain_less, chain_none, binder_follows, name_follows, number_follows, mono_follows}
use Rattle.theory_reading_places.proofs.Words.{more_follow}
use Rattle.theory_reading_places.proofs.Refusing.{refused, decl_refuses}
use Rattle.theory_reading_places.proofs.Terms.{term_follows, comp_follows, ty_follows}
use Rattle.theory_reading_places.proofs.Formulas.{formula_follows, disj_follows, conj_follows, star_follows}
use Rattle.theory_reading_places.proofs.Proofs.{proof_follows}

one_level : {b : Greater} (d d' : Deeper) → Refused (at_level d') → Follow b d d' → Follow b (at_level d) (at_level d')
one_level d d' refused trust = record {
  further = trust.further;
  refused = refused;
  ty = ty_follows d d' trust;
  term = term_follows d d' trust;
  comp = comp_follows d d' trust;
  formula = formula_follows d d' trust;
  disj = disj_follows d d' trust;
  conj = conj_follows d d' trust;
  star = star_follows d d' trust;
  mono = mono_follows d d' trust;
  proof = proof_follows d d' trust;
}

same_further : (more m : ℕ) → (deeper more m).further ≡ more
unfolding deeper
same_further more zero = refl
same_further more (suc m) = same_further more m

-- how many levels may be entered here, and there
abbrev pub Levels : Greater → ℕ → ℕ → Type 0
Levels in_none n m = n ≡ m
Levels in_chains n m = n ≡ m
Levels _ n m = n ≤ m

levels_less : (b : Greater) (n m : ℕ) → Levels b (suc n) (suc m) → Levels b n m
levels_less in_none n m h = omega (arith, h)
levels_less in_chains n m h = omega (arith, h)
levels_less _ n m h = omega (arith, h)

levels_none : (b : Greater) (n : ℕ) → Levels b (suc n) zero → ⊥
levels_none in_none n h = omega (arith, h)
levels_none in_chains n h = omega (arith, h)
levels_none _ n h = omega (arith, h)

-- only greater limits let more levels be entered
levels_more : (b : Greater) (m : ℕ) → Levels b zero (suc m) → Kept b too_nested → ⊥
levels_more in_none m h kept = omega (arith, h)
levels_more in_chains m h kept = omega (arith, h)
levels_more _ m h kept = kept

-- where the second may read as deep and as far, or deeper, or further
pub follow_limits : (b : Greater) (further more n m : ℕ) → Chain b further more → Levels b n m → Follow b (deeper further n) (deeper more m)
unfolding deeper
follow_limits b further more zero zero wide deep = record {
  further = wide;
  refused = refused more zero;
  ty = follow_refuse _ _;
  term = follow_refuse _ _;
  comp = follow_refuse _ _;
  formula = follow_refuse _ _;
  disj = follow_refuse _ _;
  conj = follow_refuse _ _;
  star = follow_refuse _ _;
  mono = follow_refuse _ _;
  proof = follow_refuse _ _;
}
follow_limits b further more zero (suc m) wide deep =
    let refused' = refused more (suc m) in
    let not_kept = levels_more b m deep in
    record {
      further = subst (λ x. Chain b further x) (sym (same_further more (suc m))) wide;
      refused = refused';
      ty = follow_refused _ _ not_kept refused'.ty;
      term = follow_refused _ _ not_kept refused'.term;
      comp = follow_refused _ _ not_kept refused'.comp;
      formula = follow_refused _ _ not_kept refused'.formula;
      disj = follow_refused _ _ not_kept refused'.disj;
      conj = follow_refused _ _ not_kept refused'.conj;
      star = follow_refused _ _ not_kept refused'.star;
      mono = follow_refused _ _ not_kept refused'.mono;
      proof = follow_refused _ _ not_kept refused'.proof;
    }
follow_limits b further more (suc n) zero wide deep = absurd (levels_none b n deep)
follow_limits b further more (suc n) (suc m) wide deep =
    one_level (deeper further n) (deeper more m) (refused more (suc m)) (follow_limits b further more n m wide (levels_less b n m deep))

pub follow_self : (further n : ℕ) → Follow in_none (deeper further n) (deeper further n)
follow_self further n = follow_limits in_none further further n n refl refl

pub follow_greater : (further more n m : ℕ) → further ≤ more → n ≤ m → Follow in_all (deeper further n) (deeper more m)
follow_greater = follow_limits in_all

past_last : (b : Greater) (j : ℕ) → Chain b zero (suc j) → Kept b too_many → ⊥
past_last in_none j h kept = omega (arith, h)
past_last in_levels j h kept = omega (arith, h)
past_last _ j h kept = kept

module _ {b : Greater} (d d' : Deeper) (trust : Follow b d d') where
  pub mono_parameter_follows : {i j : ℕ} → Follows b i j (mono_parameter_reader d) (mono_parameter_reader d')
  unfolding mono_parameter_reader
  mono_parameter_follows = follow_then name_follows (λ x. follow_skip _ (λ _. follow_then trust.mono (λ z. follow_give _)))

  pub some_parameters_follow : {i j : ℕ}
      → Follows b i j (if_first is_close (give [])
      (mono_parameter_reader d >>= (λ p. measured (after_commas (Sign CommaSign) (mono_parameter_reader d)) >>= (λ ps. give (p ∷ ps)))))
      (if_first is_close (give [])
      (mono_parameter_reader d' >>= (λ p. measured (after_commas (Sign CommaSign) (mono_parameter_reader d')) >>= (λ ps. give (p ∷ ps)))))
  some_parameters_follow =
      follow_first _ (follow_give _)
      (follow_then mono_parameter_follows (λ p. follow_then (more_follow _ _ (λ i j. mono_parameter_follows)) (λ ps. follow_give _)))

  pub mono_parameters_follow : {i j : ℕ} → Follows b i j (mono_parameters_reader d) (mono_parameters_reader d')
  unfolding mono_parameters_reader
  mono_parameters_follow = follow_skip _ (λ _. follow_then some_parameters_follow (λ ps. follow_skip _ (λ _. follow_give _)))

  pub pred_follows : {i j : ℕ} (x : Span) (xs : List Span) → Follows b i j (pred_on d x xs) (pred_on d' x xs)
  unfolding pred_on
  pred_follows x xs = follow_then mono_parameters_follow (λ ps. follow_skip _ (λ _. follow_then trust.formula (λ f. follow_give _)))

  pub induct_follows : {i j : ℕ} (x : Span) → Follows b i j (induct_on d x) (induct_on d' x)
  unfolding induct_on
  induct_follows x =
      follow_then binder_follows (λ y.
      follow_then mono_parameters_follow (λ ps.
      follow_skip _ (λ _.
      follow_skip _ (λ _.
      follow_then trust.formula
      (λ f. follow_skip _ (λ _. follow_skip _ (λ _. follow_then trust.formula (λ g. follow_skip _ (λ _. follow_give _)))))))))

  pred_cases : (i j : ℕ) (x : Span) (k : Kind) (s : Span) → Both b i j s (pred_case d x k) (pred_case d' x k)
  pred_cases i j x (Keyword InductWord) s = induct_follows x
  pred_cases i j x (Sign OpenBracketSign) s =
      follow_then name_follows
      (λ a. follow_then (more_follow _ _ (λ i j. name_follows)) (λ xs. follow_skip _ (λ _. pred_follows x (a ∷ xs))))
  pred_cases i j x _ s = tt

  body_cases : (i j : ℕ) (k : Kind) (s : Span) → Both b i j s (body_case k) (body_case k)
  body_cases i j (Keyword AutoWord) s = follow_give _
  body_cases i j _ s = tt

  pub body_follows : {i j : ℕ} → Follows b i j (body_reader d) (body_reader d')
  unfolding body_reader
  body_follows = follow_either _ _ (body_cases _ _) (follow_then trust.proof (λ z. follow_give _))

  pub typed_follows : {i j : ℕ} (make : Span → RawTyTree → RawTermTree → RawDeclTree) → Follows b i j (typed_on d make) (typed_on d' make)
  unfolding typed_on
  typed_follows make =
      follow_then name_follows
      (λ x. follow_skip _ (λ _. follow_then trust.ty (λ a. follow_skip _ (λ _. follow_then trust.term (λ m. follow_give _)))))

  decl_cases : (i j : ℕ) (k : Kind) (s : Span) → Both b i j s (decl_case d k) (decl_case d' k)
  decl_cases i j (Keyword TypeWord) s = follow_then name_follows (λ x. follow_skip _ (λ _. follow_then trust.mono (λ z. follow_give _)))
  decl_cases i j (Keyword PredWord) s = follow_then name_follows (λ x. follow_either _ _ (pred_cases _ _ x) (pred_follows x []))
  decl_cases i j (Keyword DefWord) s = typed_follows _
  decl_cases i j (Keyword ValWord) s = typed_follows _
  decl_cases i j (Keyword ProofWord) s =
      follow_then name_follows
      (λ x. follow_skip _ (λ _. follow_then number_follows (λ v. follow_skip _ (λ _. follow_then body_follows (λ z. follow_give _)))))
  decl_cases i j _ s = tt

  pub decl_follows : {i j : ℕ} → Follows b i j (decl_reader d) (decl_reader d')
  unfolding decl_reader
  decl_follows = follow_either _ _ (decl_cases _ _) follow_stop

  pub file_follows : {i j : ℕ} (k l : ℕ) → Chain b k l → Follows b i j (file_on d k) (file_on d' l)
  unfolding file_on
  file_follows zero zero h = follow_first _ (follow_refuse _ _) (follow_give _)
  file_follows zero (suc l) h = follow_first _ (follow_refused _ _ (past_last b l h) (refuses_then _ (decl_refuses d'))) (follow_give _)
  file_follows (suc k) zero h = absurd (chain_none b k h)
  file_follows (suc k) (suc l) h =
      follow_first _ (follow_then decl_follows (λ x. follow_then (file_follows k l (chain_less b k l h)) (λ xs. follow_give _)))
      (follow_give _)
