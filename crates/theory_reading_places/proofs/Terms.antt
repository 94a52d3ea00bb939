-- The readers of terms, types and computations follow one another.
use Rattle.std.proofs.Common.{◌≡◌, ℕ, zero, suc, List, ◌++◌, refl, sym, ◌∙◌, subst}
use Rattle.std.specs.Prelude.{Ok, Option, Some, None, Err, [], ◌∷◌}
use Rattle.htt_lexer_tokens.specs.declared.tokens.Kind.{Kind}
use Rattle.htt_lexer_tokens.specs.declared.tokens.Kind.TheVariants.{Name, Number, Keyword, Sign}
use Rattle.htt_lexer_tokens.specs.declared.tokens.Token.{Token}
use Rattle.htt_lexer_tokens.specs.declared.tokens.Keyword.TheVariants.{FunWord, DoWord, FixWord, AllocWord, GetWord, SetWord, FreeWord, IfWord, ClaimWord}
use Rattle.htt_lexer_tokens.specs.declared.tokens.Keyword.TheVariants.{TrueWord, FalseWord, NullWord, PlaceWord, FstWord, SndWord, NotWord, EqWord, SelWord}
use Rattle.htt_lexer_tokens.specs.declared.tokens.Sign.TheVariants.{OpenParenSign, CloseParenSign, OpenBracketSign, OpenBraceSign, CommaSign, ColonSign}
use Rattle.htt_lexer_tokens.specs.declared.tokens.Sign.TheVariants.{UnderscoreSign}
use Rattle.htt_parser_trees.specs.declared.place.Span.{Span}
use Rattle.htt_parser_trees.specs.declared.place.Binder.{Binder}
use Rattle.htt_parser_trees.specs.declared.place.Binder.TheVariants as binders
use Rattle.htt_parser_trees.specs.Trees.{ProdSign, SumSign, RawTermTree, RawSumRestTree, RawProdRestTree, RawPartTrees, no_terms, no_params}
use Rattle.theory_grammar.specs.Readers.{Reader, measured, give, ◌>>=◌, stop, either, expected, too_long}
use Rattle.theory_grammar.specs.Beginnings.{sum_sign_of, prod_sign_of}
use Rattle.theory_grammar.specs.Phrases.{Deeper, terms_on, terms_there, bracket_case, atom_case, atom_reader, part_case, no_part_case, parts_on, unary_case}
use Rattle.theory_grammar.specs.Phrases.{appl_reader, on_prod_sign, prod_on, prod_reader, on_sum_sign, sum_on, sum_reader, rel_reader, triple_reader, params_on}
use Rattle.theory_grammar.specs.Phrases.{term_case, term_reader, ty_reader, step_case, step_reader, comp_on, comp_reader, a_binder}
use Rattle.theory_reading_places.proofs.Follows.{Greater, Kept, Answers, Follows, Both, follow_give, follow_stop, follow_refuse, follow_then, follow_either}
use Rattle.theory_reading_places.proofs.Follows.{follow_eaten, follow_that, follow_that_less, follow_skip, follow_first, follow_measured}
use Rattle.theory_reading_places.proofs.Refuses.{refuses_then, follow_refused}
use Rattle.theory_reading_places.proofs.Words.{Follow, Chain, chain_less, chain_none, chain_more, binder_cases, binder_follows, name_follows, number_follows}
use Rattle.theory_reading_places.proofs.Words.{mono_follows, right_follows, closes_follows, opens_follow, bracketed_follows, mono_refuses}
use Rattle.theory_reading_places.proofs.Types.{behind_colon, open_case, stepwise_case, stepwise, by_steps}
use Rattle.theory_reading_places.proofs.Refusing.{atom_refuses, appl_refuses, prod_refuses}

-- where there are no more tokens
no_terms_more : (p : Deeper) (k : ℕ) → terms_on p k [] ≡ Ok (no_terms, [])
unfolding terms_on either give
no_terms_more p zero = refl
no_terms_more p (suc k) = refl

no_params_more : (p : Deeper) (k : ℕ) → params_on p k [] ≡ Ok (no_params, [])
unfolding params_on either give
no_params_more p zero = refl
no_params_more p (suc k) = refl

no_comp_more : (p : Deeper) (k : ℕ) → comp_on p k [] ≡ Err (record { why = expected; rest = [] })
unfolding comp_on either ◌>>=◌ a_binder stop
no_comp_more p zero = refl
no_comp_more p (suc k) = refl

-- a reader that answers the same as one that follows
follow_same : {A : Type 0} {b : Greater} {n m : ℕ} (r q r' q' : Reader A)
    → ((us : List Token) → r us ≡ r' us)
    → ((us : List Token) → q us ≡ q' us)
    → Follows b n m r' q'
    → Follows b n m r q
follow_same {b = b} {m = m} r q r' q' one other follows = record {
  answers = λ us short.
      let got = subst (λ o. Answers b m q' us o) (sym (one us)) (follows.answers us short) in
      record { before = got.before; parts = got.parts; same = λ ts alike fits claimed. other (got.before ++ ts) ∙ got.same ts alike fits claimed };
}

of_prod_sign : {b : Greater} {i j : ℕ} (next other : ProdSign → Reader RawProdRestTree)
    → ((o : ProdSign) → Follows b i j (next o) (other o))
    → (s : Span) (o : Option ProdSign)
    → Both b i j s (on_prod_sign next o) (on_prod_sign other o)
of_prod_sign next other follows s None = tt
of_prod_sign next other follows s (Some o) = follows o

of_sum_sign : {b : Greater} {i j : ℕ} (next other : SumSign → Reader RawSumRestTree)
    → ((o : SumSign) → Follows b i j (next o) (other o))
    → (s : Span) (o : Option SumSign)
    → Both b i j s (on_sum_sign next o) (on_sum_sign other o)
of_sum_sign next other follows s None = tt
of_sum_sign next other follows s (Some o) = follows o

module _ {b : Greater} (d d' : Deeper) (trust : Follow b d d') where
  -- ---- lists of terms

  terms_turn : (k j : ℕ)
      → ((i : Unit {0}) → Follows b k j (terms_on d k) (terms_on d' j))
      → (i : Unit {0})
      → Follows b (suc k) (suc j) (terms_on d (suc k)) (terms_on d' (suc j))
  unfolding terms_on
  terms_turn k j next i = follow_that_less _ (follow_then trust.term (λ m. follow_then (next tt) (λ ms. follow_give _))) (follow_give _)

  pub more_terms_follow : {i j : ℕ} → Follows b i j (measured (terms_on d)) (measured (terms_on d'))
  more_terms_follow =
      follow_measured (λ (i : Unit {0}) k. terms_on d k) (λ i k. terms_on d' k) (Ok (no_terms, [])) refl refl (λ i k. no_terms_more d k)
      (λ i k. no_terms_more d' k) terms_turn tt

  pub terms_follow : {i j : ℕ} → Follows b i j (terms_there d) (terms_there d')
  unfolding terms_there
  terms_follow = follow_first _ (follow_give _) (follow_then trust.term (λ m. follow_then more_terms_follow (λ ms. follow_give _)))

  -- ---- atoms

  bracket_cases : (i j at : ℕ) (m : RawTermTree) (k : Kind) (s : Span) → Both b i j s (bracket_case d at m k) (bracket_case d' at m k)
  bracket_cases i j at m (Sign CloseParenSign) s = follow_give _
  bracket_cases i j at m (Sign CommaSign) s = follow_then trust.term (λ n. follow_skip _ (λ _. follow_give _))
  bracket_cases i j at m (Sign ColonSign) s = follow_then trust.ty (λ a. follow_skip _ (λ _. follow_give _))
  bracket_cases i j at m _ s = tt

  atom_cases : (i j : ℕ) (k : Kind) (s : Span) → Both b i j s (atom_case d k) (atom_case d' k)
  atom_cases i j Name s = follow_give _
  atom_cases i j (Number v) s = follow_give _
  atom_cases i j (Keyword TrueWord) s = follow_give _
  atom_cases i j (Keyword FalseWord) s = follow_give _
  atom_cases i j (Keyword NullWord) s = follow_give _
  atom_cases i j (Keyword PlaceWord) s = follow_then number_follows (λ z. follow_give _)
  atom_cases i j (Keyword EqWord) s =
      follow_then (bracketed_follows d d' trust) (λ t.
      follow_skip _
      (λ _. follow_then trust.term (λ m. follow_skip _ (λ _. follow_then trust.term (λ n. follow_skip _ (λ _. follow_give _))))))
  atom_cases i j (Keyword SelWord) s =
      follow_then (bracketed_follows d d' trust) (λ t.
      follow_skip _ (λ _.
      follow_then trust.term (λ b.
      follow_skip _
      (λ _. follow_then trust.term (λ m. follow_skip _ (λ _. follow_then trust.term (λ n. follow_skip _ (λ _. follow_give _))))))))
  atom_cases i j (Sign OpenParenSign) s =
      follow_that _ (follow_give _) (follow_then trust.term (λ m. follow_either _ _ (bracket_cases _ _ s.from m) follow_stop))
  atom_cases i j _ s = tt

  pub atom_follows : {i j : ℕ} → Follows b i j (atom_reader d) (atom_reader d')
  unfolding atom_reader
  atom_follows = follow_either _ _ (atom_cases _ _) follow_stop

  -- ---- chains

  no_part_cases : (i j : ℕ) (k : Kind) (s : Span) → Both b i j s (no_part_case k) (no_part_case k)
  no_part_cases i j (Sign OpenBracketSign) s = follow_refuse _ _
  no_part_cases i j _ s = tt

  past_part_cases : (i j : ℕ) (next : Reader RawPartTrees) → (Kept b too_long → ⊥) → (k : Kind) (s : Span) → Both b i j s (no_part_case k) (part_case d' next k)
  past_part_cases i j next not (Sign OpenBracketSign) s = follow_refused _ _ not (refuses_then _ (mono_refuses d'))
  past_part_cases i j next not _ s = tt

  part_cases : (i j : ℕ) (next other : Reader RawPartTrees)
      → Follows b i j next other
      → (k : Kind) (s : Span)
      → Both b i j s (part_case d next k) (part_case d' other k)
  part_cases i j next other more (Sign OpenBracketSign) s =
      follow_then (mono_follows d d' trust) (λ m. follow_skip _ (λ _. follow_then more (λ ps. follow_give _)))
  part_cases i j next other more _ s = tt

  pub parts_follow : {i j : ℕ} (k l : ℕ) → Chain b k l → Follows b i j (parts_on d k) (parts_on d' l)
  unfolding parts_on
  parts_follow zero zero h = follow_either _ _ (no_part_cases _ _) (follow_first _ (follow_refuse _ _) (follow_give _))
  parts_follow zero (suc l) h =
      follow_either _ _ (past_part_cases _ _ (parts_on d' l) (chain_more b l h))
      (follow_first _ (follow_refused _ _ (chain_more b l h) (refuses_then _ (atom_refuses d'))) (follow_give _))
  parts_follow (suc k) zero h = absurd (chain_none b k h)
  parts_follow (suc k) (suc l) h =
      follow_either _ _ (part_cases _ _ (parts_on d k) (parts_on d' l) (parts_follow k l (chain_less b k l h)))
      (follow_first _ (follow_then atom_follows (λ a. follow_then (parts_follow k l (chain_less b k l h)) (λ ps. follow_give _)))
      (follow_give _))

  unary_cases : (i j : ℕ) (k : Kind) (s : Span) → Both b i j s (unary_case d k) (unary_case d' k)
  unary_cases i j (Keyword FstWord) s = follow_then atom_follows (λ z. follow_give _)
  unary_cases i j (Keyword SndWord) s = follow_then atom_follows (λ z. follow_give _)
  unary_cases i j (Keyword NotWord) s = follow_then atom_follows (λ z. follow_give _)
  unary_cases i j _ s = tt

  pub appl_follows : {i j : ℕ} → Follows b i j (appl_reader d) (appl_reader d')
  unfolding appl_reader
  appl_follows =
      follow_either _ _ (unary_cases _ _)
      (follow_then atom_follows (λ a. follow_then (parts_follow d.further d'.further trust.further) (λ ps. follow_give _)))

  pub prod_rest_follows : {i j : ℕ} (k l : ℕ) → Chain b k l → Follows b i j (prod_on d k) (prod_on d' l)
  unfolding prod_on
  prod_rest_follows zero zero h = follow_either _ _ (λ k s. of_prod_sign _ _ (λ o. follow_refuse _ _) s (prod_sign_of k)) (follow_give _)
  prod_rest_follows zero (suc l) h =
      follow_either _ _
      (λ k s. of_prod_sign _ _ (λ o. follow_refused _ _ (chain_more b l h) (refuses_then _ (appl_refuses d'))) s (prod_sign_of k))
      (follow_give _)
  prod_rest_follows (suc k) zero h = absurd (chain_none b k h)
  prod_rest_follows (suc k) (suc l) h =
      follow_either _ _ (λ x s.
      of_prod_sign _ _
      (λ o. follow_then appl_follows (λ a. follow_then (prod_rest_follows k l (chain_less b k l h)) (λ rest. follow_give _))) s
      (prod_sign_of x)) (follow_give _)

  pub prod_follows : {i j : ℕ} → Follows b i j (prod_reader d) (prod_reader d')
  unfolding prod_reader
  prod_follows = follow_then appl_follows (λ a. follow_then (prod_rest_follows d.further d'.further trust.further) (λ rest. follow_give _))

  pub sum_rest_follows : {i j : ℕ} (k l : ℕ) → Chain b k l → Follows b i j (sum_on d k) (sum_on d' l)
  unfolding sum_on
  sum_rest_follows zero zero h = follow_either _ _ (λ k s. of_sum_sign _ _ (λ o. follow_refuse _ _) s (sum_sign_of k)) (follow_give _)
  sum_rest_follows zero (suc l) h =
      follow_either _ _
      (λ k s. of_sum_sign _ _ (λ o. follow_refused _ _ (chain_more b l h) (refuses_then _ (prod_refuses d'))) s (sum_sign_of k))
      (follow_give _)
  sum_rest_follows (suc k) zero h = absurd (chain_none b k h)
  sum_rest_follows (suc k) (suc l) h =
      follow_either _ _ (λ x s.
      of_sum_sign _ _ (λ o. follow_then prod_follows (λ a. follow_then (sum_rest_follows k l (chain_less b k l h)) (λ rest. follow_give _)))
      s (sum_sign_of x)) (follow_give _)

  pub sum_follows : {i j : ℕ} → Follows b i j (sum_reader d) (sum_reader d')
  unfolding sum_reader
  sum_follows = follow_then prod_follows (λ p. follow_then (sum_rest_follows d.further d'.further trust.further) (λ rest. follow_give _))

  pub rel_follows : {i j : ℕ} → Follows b i j (rel_reader d) (rel_reader d')
  unfolding rel_reader
  rel_follows = follow_then sum_follows (λ s. follow_that _ (follow_then sum_follows (λ r. follow_give _)) (follow_give _))

  -- ---- triples and terms

  pub triple_follows : {i j : ℕ} → Follows b i j (triple_reader d) (triple_reader d')
  unfolding triple_reader
  triple_follows =
      follow_then trust.formula (λ p.
      follow_skip _ (λ _.
      follow_then binder_follows (λ b.
      follow_skip _ (λ _.
      follow_then (mono_follows d d' trust)
      (λ m. follow_skip _ (λ _. follow_then trust.formula (λ q. follow_skip _ (λ _. follow_give _))))))))

  params_turn : (k j : ℕ)
      → ((i : Unit {0}) → Follows b k j (params_on d k) (params_on d' j))
      → (i : Unit {0})
      → Follows b (suc k) (suc j) (params_on d (suc k)) (params_on d' (suc j))
  unfolding params_on
  params_turn k j next i =
      follow_that_less _ (follow_then binder_follows
      (λ b. follow_skip _ (λ _. follow_then trust.ty (λ a. follow_skip _ (λ _. follow_then (next tt) (λ ps. follow_give _))))))
      (follow_give _)

  pub more_params_follow : {i j : ℕ} → Follows b i j (measured (params_on d)) (measured (params_on d'))
  more_params_follow =
      follow_measured (λ (i : Unit {0}) k. params_on d k) (λ i k. params_on d' k) (Ok (no_params, [])) refl refl (λ i k. no_params_more d k)
      (λ i k. no_params_more d' k) params_turn tt

  term_cases : (i j : ℕ) (k : Kind) (s : Span) → Both b i j s (term_case d k) (term_case d' k)
  term_cases i j (Keyword FunWord) s =
      follow_that _ (follow_then name_follows (λ a. follow_skip _ (λ _. follow_skip _ (λ _. follow_then trust.term (λ z. follow_give _)))))
      (follow_then binder_follows (λ b. follow_skip _ (λ _. follow_then trust.term (λ z. follow_give _))))
  term_cases i j (Keyword DoWord) s = follow_then trust.comp (λ z. follow_give _)
  term_cases i j (Keyword FixWord) s =
      follow_then name_follows (λ f.
      follow_then more_params_follow (λ ps.
      follow_skip _
      (λ _. follow_skip _ (λ _. follow_then triple_follows (λ t. follow_skip _ (λ _. follow_then trust.comp (λ z. follow_give _)))))))
  term_cases i j _ s = tt

  pub term_follows : {i j : ℕ} → Follows b i j (term_reader d) (term_reader d')
  unfolding term_reader
  term_follows = follow_either _ _ (term_cases _ _) (follow_then rel_follows (λ r. follow_give _))

  -- ---- computations

  step_cases : (i j : ℕ) (k : Kind) (s : Span) → Both b i j s (step_case d k) (step_case d' k)
  step_cases i j (Keyword AllocWord) s = follow_then (bracketed_follows d d' trust) (λ t. follow_then atom_follows (λ z. follow_give _))
  step_cases i j (Keyword GetWord) s = follow_then (bracketed_follows d d' trust) (λ t. follow_then atom_follows (λ z. follow_give _))
  step_cases i j (Keyword SetWord) s =
      follow_then (bracketed_follows d d' trust) (λ t. follow_then atom_follows (λ a. follow_then atom_follows (λ z. follow_give _)))
  step_cases i j (Keyword FreeWord) s = follow_then (bracketed_follows d d' trust) (λ t. follow_then atom_follows (λ z. follow_give _))
  step_cases i j (Keyword IfWord) s =
      follow_then (bracketed_follows d d' trust) (λ t.
      follow_then atom_follows (λ a.
      follow_skip _ (λ _.
      follow_then trust.comp
      (λ e. follow_skip _ (λ _. follow_skip _ (λ _. follow_then trust.comp (λ f. follow_skip _ (λ _. follow_give _))))))))
  step_cases i j (Keyword ClaimWord) s = follow_skip _ (λ _. follow_then trust.formula (λ p. follow_skip _ (λ _. follow_give _)))
  step_cases i j _ s = tt

  pub step_follows : {i j : ℕ} → Follows b i j (step_reader d) (step_reader d')
  unfolding step_reader
  step_follows = follow_either _ _ (step_cases _ _) (follow_then appl_follows (λ a. follow_give _))

  comp_turn : (k j : ℕ)
      → ((i : Unit {0}) → Follows b k j (comp_on d k) (comp_on d' j))
      → (i : Unit {0})
      → Follows b (suc k) (suc j) (comp_on d (suc k)) (comp_on d' (suc j))
  unfolding comp_on a_binder
  comp_turn k j next i =
      follow_that_less _ (follow_then trust.term (λ m. follow_give _))
      (follow_eaten _ _ (binder_cases _ _ _)
      (λ x. follow_skip _ (λ _. follow_then step_follows (λ s. follow_skip _ (λ _. follow_then (next tt) (λ e. follow_give _))))))

  pub comp_follows : {i j : ℕ} → Follows b i j (comp_reader d) (comp_reader d')
  unfolding comp_reader
  comp_follows =
      follow_measured (λ (i : Unit {0}) k. comp_on d k) (λ i k. comp_on d' k) (Err (record { why = expected; rest = [] })) refl refl
      (λ i k. no_comp_more d k) (λ i k. no_comp_more d' k) comp_turn tt

  -- ---- types

  pub behind_colon_follows : {i j : ℕ} (at : ℕ) (x : Binder) → Follows b i j (behind_colon d at x) (behind_colon d' at x)
  behind_colon_follows at x = follow_then trust.ty (λ a. follow_skip _ (λ _. follow_skip _ (λ _. follow_then trust.ty (λ c. follow_give _))))

  open_cases : (i j at : ℕ) (k : Kind) (s : Span) → Both b i j s (open_case d at k) (open_case d' at k)
  open_cases i j at (Sign UnderscoreSign) s = follow_skip _ (λ _. behind_colon_follows at binders.Blank)
  open_cases i j at Name s =
      follow_that _ (behind_colon_follows at (binders.Name s))
      (follow_then (follow_then (right_follows d d' trust) (λ r. closes_follows d d' trust (at ∷ []) _)) (λ m. follow_give _))
  open_cases i j at _ s = tt

  stepwise_cases : (i j : ℕ) (k : Kind) (s : Span) → Both b i j s (stepwise_case d k) (stepwise_case d' k)
  stepwise_cases i j (Sign OpenParenSign) s =
      follow_either _ _ (open_cases _ _ s.from) (follow_then (opens_follow d d' trust (s.from ∷ [])) (λ m. follow_give _))
  stepwise_cases i j (Sign OpenBracketSign) s =
      follow_then name_follows (λ a. follow_skip _ (λ _. follow_skip _ (λ _. follow_then trust.ty (λ z. follow_give _))))
  stepwise_cases i j (Sign OpenBraceSign) s = follow_then triple_follows (λ z. follow_give _)
  stepwise_cases i j _ s = tt

  pub ty_follows : {i j : ℕ} → Follows b i j (ty_reader d) (ty_reader d')
  ty_follows =
      follow_same (ty_reader d) (ty_reader d') (stepwise d) (stepwise d') (by_steps d) (by_steps d')
      (follow_either _ _ (stepwise_cases _ _) (follow_then (mono_follows d d' trust) (λ m. follow_give _)))
