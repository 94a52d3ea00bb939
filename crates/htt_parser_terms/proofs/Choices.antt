-- Arguments, types and steps, beside what a function tests.
use Rattle.std.proofs.Common.{◌≡◌, ℕ, suc, ◌+◌, ◌-◌, List, drop, sym, ap, subst}
use Rattle.std.specs.Prelude.{true, false, Result, Ok, Err, IsErrAnd, cond}
use Rattle.htt_lexer_tokens.specs.declared.tokens.Kind.TheVariants.{Keyword}
use Rattle.htt_lexer_tokens.specs.declared.tokens.Keyword.TheVariants.{RetWord}
use Rattle.htt_lexer_tokens.specs.declared.tokens.Token.{Token}
use Rattle.htt_parser_trees.specs.Trees.{c_ret, no_terms, more_terms}
use Rattle.theory_grammar.specs.Readers.{Reader, Halt, give, ◌>>=◌, stop, either, first_is, measured, same_kind}
use Rattle.theory_grammar.specs.Phrases.{Deeper, is_close, terms_on, terms_there, starts_function, function_case, ty_case, mono_ty_on, ty_reader, comp_on}
use Rattle.htt_parser_words.specs.declared.cursor.Halted.{Halted}
use Rattle.htt_parser_words.specs.Results.{StopsAs}
use Rattle.htt_parser_words.proofs.Steps.{that_first, that_other}
use Rattle.htt_parser_terms.specs.Steps.{step_on, GivesNext}
use Rattle.htt_parser_levels.proofs.Choices.{if_first_yes, if_first_no}

-- ---- terms before a closing bracket

pub terms_none : (d : Deeper) (us : List Token) → first_is is_close us ≡ true → terms_there d us ≡ Ok (no_terms, us)
unfolding terms_there give
terms_none d us h = if_first_yes is_close _ _ us h

pub terms_some : (d : Deeper) (us : List Token)
    → first_is is_close us ≡ false
    → terms_there d us ≡ (d.term >>= (λ m. measured (terms_on d) >>= (λ ms. give (more_terms m ms)))) us
unfolding terms_there
terms_some d us h = if_first_no is_close _ _ us h

-- ---- types

pub ty_function : (d : Deeper) (us : List Token) → starts_function us ≡ true → ty_reader d us ≡ either (function_case d) stop us
unfolding ty_reader
ty_function d us h = ap (λ b. cond b (either (function_case d) stop us) (either (ty_case d) (mono_ty_on d) us)) h

pub ty_other : (d : Deeper) (us : List Token) → starts_function us ≡ false → ty_reader d us ≡ either (ty_case d) (mono_ty_on d) us
unfolding ty_reader
ty_other d us h = ap (λ b. cond b (either (function_case d) stop us) (either (ty_case d) (mono_ty_on d) us)) h

-- ---- steps

pub stopped_next : {X T : Type 0} (ts : List Token) (put : X → T → T) (r : Result (X × ℕ) Halted) (e : Halted)
    (told : Result (T × List Token) Halt) (next : Reader T)
    → IsErrAnd r (λ h. h ≡ e)
    → StopsAs ts e told
    → GivesNext ts put r told next
stopped_next ts put (Ok x) e told next h s = absurd h
stopped_next ts put (Err x) e told next h s = subst (λ w. StopsAs ts w told) (sym h) s

pub comp_ret : (d : Deeper) (n : ℕ) (ts : List Token) (at : ℕ)
    → first_is (λ q. same_kind q (Keyword RetWord)) (drop at ts) ≡ true
    → comp_on d (suc n) (drop at ts) ≡ (d.term >>= (λ m. give (c_ret m))) (drop (at + 1) ts)
unfolding comp_on
comp_ret d n ts at h = that_first ts at (Keyword RetWord) _ _ h

pub comp_step : (d : Deeper) (n : ℕ) (us : List Token)
    → first_is (λ q. same_kind q (Keyword RetWord)) us ≡ false
    → comp_on d (suc n) us ≡ step_on d (comp_on d n) us
unfolding comp_on
comp_step d n us h = that_other us (Keyword RetWord) _ _ h
