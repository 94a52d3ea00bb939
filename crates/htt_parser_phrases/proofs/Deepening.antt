-- What is wanted one level deeper, where a level is left and where none is.
use Rattle.std.proofs.Common.{◌≡◌, ℕ, zero, suc, ◌-◌, List, drop, refl, ap, ◌∙◌, subst, arith}
use Rattle.std.specs.Prelude.{Bool, Result, cond}
use Rattle.htt_lexer_tokens.specs.declared.tokens.Kind.{Kind}
use Rattle.htt_lexer_tokens.specs.declared.tokens.Token.{Token}
use Rattle.theory_grammar.specs.Readers.{too_nested, ◌>>=◌, give, refuse, first_is, Reader}
use Rattle.theory_grammar.specs.Beginnings.{begins_ty, begins_term, begins_comp, begins_formula, begins_fatom}
use Rattle.theory_grammar.specs.Reading.{deeper, at_level}
use Rattle.htt_parser_words.specs.declared.cursor.Reason.TheVariants.{Expected, TooNested}
use Rattle.htt_parser_words.specs.declared.cursor.Halted.{Halted}
use Rattle.htt_parser_words.specs.declared.cursor.Halted.TheVariants as halts
use Rattle.htt_parser_words.specs.Results.{StopsAs}
use Rattle.htt_parser_words.proofs.Monotypes.{err_along}
use Rattle.htt_parser_words.proofs.Steps.{after_err, refuse_stops}
use Rattle.htt_parser_levels.specs.declared.found.Wanted.{Wanted}
use Rattle.htt_parser_levels.specs.declared.found.Wanted.TheVariants as wanted
use Rattle.htt_parser_levels.specs.Levels.{FoundTree, wanted_at}
use Rattle.htt_parser_phrases.specs.Wanted.{begins_wanted}

none_left : (what : Wanted) (ts : List Token) (at : ℕ) (e : Halted)
    → e ≡ halts.At (cond (first_is (begins_wanted what) (drop at ts)) TooNested Expected) at
    → StopsAs ts e (wanted_at (deeper 63 0) what (drop at ts))
unfolding deeper ◌>>=◌
none_left wanted.Type ts at e h = after_err _ _ _ _ (refuse_stops _ ts too_nested begins_ty TooNested at e refl h)
none_left wanted.Term ts at e h = after_err _ _ _ _ (refuse_stops _ ts too_nested begins_term TooNested at e refl h)
none_left wanted.Computation ts at e h = after_err _ _ _ _ (refuse_stops _ ts too_nested begins_comp TooNested at e refl h)
none_left wanted.Formula ts at e h = after_err _ _ _ _ (refuse_stops _ ts too_nested begins_formula TooNested at e refl h)
none_left wanted.Disjunction ts at e h = after_err _ _ _ _ (refuse_stops _ ts too_nested begins_fatom TooNested at e refl h)
none_left wanted.Conjunction ts at e h = after_err _ _ _ _ (refuse_stops _ ts too_nested begins_fatom TooNested at e refl h)
none_left wanted.Star ts at e h = after_err _ _ _ _ (refuse_stops _ ts too_nested begins_fatom TooNested at e refl h)

-- a phrase is refused where no level is left, for its depth if it begins there
pub refused_deeper : (what : Wanted) (ts : List Token) (at left : ℕ) (test : Kind → Bool) (e : Halted)
    → left ≡ 0
    → test ≡ begins_wanted what
    → e ≡ halts.At (cond (first_is test (drop at ts)) TooNested Expected) at
    → StopsAs ts e (wanted_at (deeper 63 left) what (drop at ts))
refused_deeper what ts at left test e none same h =
    err_along _ _ _ _ (ap (λ n. wanted_at (deeper 63 n) what (drop at ts)) none)
    (none_left what ts at e (subst (λ t. e ≡ halts.At (cond (first_is t (drop at ts)) TooNested Expected) at) same h))

next_level : (n : ℕ) → deeper 63 (suc n) ≡ at_level (deeper 63 n)
unfolding deeper
next_level n = refl

-- where a level is left, it is read at the next one
pub wanted_deeper : (what : Wanted) (left : ℕ) (us : List Token)
    → (left ≡ 0 → ⊥)
    → wanted_at (deeper 63 left) what us ≡ wanted_at (at_level (deeper 63 (left - 1))) what us
wanted_deeper what left us some =
    let more : left ≡ suc (left - 1) = omega (arith, some) in
    ap (λ n. wanted_at (deeper 63 n) what us) more ∙ ap (λ d. wanted_at d what us) (next_level (left - 1))
