-- The reader of types looks up to three tokens ahead. Here it is a reader that takes one token after
-- the other.
use Rattle.std.proofs.Common.{◌≡◌, ℕ, List, [], ◌∷◌, refl, ◌∙◌}
use Rattle.std.specs.Prelude.{true, false, Option, Some, None}
use Rattle.htt_lexer_tokens.specs.declared.tokens.Kind.{Kind}
use Rattle.htt_lexer_tokens.specs.declared.tokens.Kind.TheVariants.{Name, Sign}
use Rattle.htt_lexer_tokens.specs.declared.tokens.Token.{Token}
use Rattle.htt_lexer_tokens.specs.declared.tokens.Sign.TheVariants.{OpenParenSign, CloseParenSign, OpenBracketSign, OpenBraceSign, ColonSign, ArrowSign}
use Rattle.htt_lexer_tokens.specs.declared.tokens.Sign.TheVariants.{UnderscoreSign}
use Rattle.htt_parser_trees.specs.declared.place.Span.{Span}
use Rattle.htt_parser_trees.specs.declared.place.Binder.{Binder}
use Rattle.htt_parser_trees.specs.declared.place.Binder.TheVariants as binders
use Rattle.htt_parser_trees.specs.declared.mono.MonoName.TheVariants as mono_names
use Rattle.htt_parser_trees.specs.Trees.{with_right, m_name, RawTyTree, y_fun, y_mono}
use Rattle.theory_grammar.specs.Readers.{Reader, measured, give, ◌>>=◌, stop, either, that, token}
use Rattle.theory_grammar.specs.Beginnings.{begins_mono, begins_ty}
use Rattle.theory_grammar.specs.Phrases.{Deeper, a_binder, mono_right, mono_closes, mono_inside, mono_opens, mono_reader, ty_case, ty_reader}
use Rattle.theory_reading_places.proofs.Refuses.{Refuses, refuses_then, refuses_either, refuses_wider}
use Rattle.theory_reading_places.proofs.Words.{mono_refuses}

-- ---- behind `(`

-- behind the colon
abbrev pub behind_colon : Deeper → ℕ → Binder → Reader RawTyTree
behind_colon d at b = d.ty >>= (λ a. token (Sign CloseParenSign) >>= (λ _. token (Sign ArrowSign) >>= (λ _. d.ty >>= (λ c. give (y_fun at b a c)))))

-- behind a name: a function, or a monotype
abbrev pub behind_name : Deeper → ℕ → Span → Reader RawTyTree
behind_name d at x =
    either (that (Sign ColonSign) (behind_colon d at (binders.Name x)))
    ((mono_right d >>= (λ r. mono_closes d (at ∷ []) (with_right (m_name (mono_names.Name x)) r))) >>= (λ m. give (y_mono m)))

abbrev pub open_case : Deeper → ℕ → Kind → Option (Span → Reader RawTyTree)
open_case d at (Sign UnderscoreSign) = Some (λ _. token (Sign ColonSign) >>= (λ _. behind_colon d at binders.Blank))
open_case d at Name = Some (λ x. behind_name d at x)
open_case d at _ = None

abbrev pub behind_open : Deeper → ℕ → Reader RawTyTree
behind_open d at = either (open_case d at) (measured (λ n. mono_opens d n (at ∷ [])) >>= (λ m. give (y_mono m)))

abbrev pub stepwise_case : Deeper → Kind → Option (Span → Reader RawTyTree)
stepwise_case d (Sign OpenParenSign) = Some (λ s. behind_open d s.from)
stepwise_case d k = ty_case d k

abbrev pub stepwise : Deeper → Reader RawTyTree
stepwise d = either (stepwise_case d) (mono_reader d >>= (λ m. give (y_mono m)))

-- ---- it is the same reader

a_token : Kind → ℕ → ℕ → Token
a_token k from to = record { kind = k; from = from; to = to }

after_name : (d : Deeper) (at to from' to' : ℕ) (k : Kind) (from'' to'' : ℕ) (us : List Token)
    → ty_reader d (a_token (Sign OpenParenSign) at to ∷ a_token Name from' to' ∷ a_token k from'' to'' ∷ us)
    ≡ stepwise d (a_token (Sign OpenParenSign) at to ∷ a_token Name from' to' ∷ a_token k from'' to'' ∷ us)
unfolding a_token ty_reader either mono_reader measured mono_opens mono_inside ◌>>=◌ give stop a_binder token
after_name d at to from' to' (Sign ColonSign) from'' to'' us = refl
after_name d at to from' to' _ from'' to'' us = refl

after_open : (d : Deeper) (at to : ℕ) (k : Kind) (from' to' : ℕ) (us : List Token)
    → ty_reader d (a_token (Sign OpenParenSign) at to ∷ a_token k from' to' ∷ us)
    ≡ stepwise d (a_token (Sign OpenParenSign) at to ∷ a_token k from' to' ∷ us)
unfolding a_token ty_reader either mono_reader measured mono_opens mono_inside ◌>>=◌ give stop a_binder token
after_open d at to (Sign UnderscoreSign) from' to' us = refl
after_open d at to Name from' to' [] = refl
after_open d at to Name from' to' (u ∷ us) = after_name d at to from' to' u.kind u.from u.to us
after_open d at to _ from' to' us = refl

at_first : (d : Deeper) (k : Kind) (from to : ℕ) (us : List Token) → ty_reader d (a_token k from to ∷ us) ≡ stepwise d (a_token k from to ∷ us)
unfolding a_token ty_reader either mono_reader measured mono_opens mono_inside ◌>>=◌ give stop
at_first d (Sign OpenParenSign) from to [] = refl
at_first d (Sign OpenParenSign) from to (u ∷ us) = after_open d from to u.kind u.from u.to us
at_first d _ from to us = refl

pub by_steps : (d : Deeper) (us : List Token) → ty_reader d us ≡ stepwise d us
unfolding a_token ty_reader either
by_steps d [] = refl
by_steps d (t ∷ us) = at_first d t.kind t.from t.to us

-- ---- what begins no type is refused

no_ty : (d : Deeper) (k : Kind) → begins_ty k ≡ false → stepwise_case d k ≡ None
no_ty d (Sign OpenParenSign) h = absurd (let no : true ≡ false = h in cc)
no_ty d (Sign OpenBracketSign) h = absurd (let no : true ≡ false = h in cc)
no_ty d (Sign OpenBraceSign) h = absurd (let no : true ≡ false = h in cc)
no_ty d _ h = refl

no_ty_no_mono : (k : Kind) → begins_ty k ≡ false → begins_mono k ≡ false
no_ty_no_mono (Sign OpenBracketSign) h = refl
no_ty_no_mono (Sign OpenBraceSign) h = refl
no_ty_no_mono _ h = h

pub ty_refuses : (d : Deeper) → Refuses begins_ty (ty_reader d)
ty_refuses d =
    let again : Refuses begins_ty (stepwise d) = refuses_either _ (no_ty d) (refuses_then _ (refuses_wider no_ty_no_mono (mono_refuses d))) in
    record { refuses = λ ts h. by_steps d ts ∙ again.refuses ts h }
