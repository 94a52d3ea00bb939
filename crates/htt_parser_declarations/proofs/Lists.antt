-- Names and parameters with commas between them.
use Rattle.std.proofs.Common.{◌≡◌, ℕ, ◌-◌, List, [], ◌∷◌, drop, length, refl, sym, ◌∙◌, ap, length-drop}
use Rattle.std.specs.Prelude.{Bool, true, false, Result, Ok, Err, cond}
use Rattle.htt_lexer_tokens.specs.declared.tokens.Kind.TheVariants.{Sign}
use Rattle.htt_lexer_tokens.specs.declared.tokens.Sign.TheVariants.{CommaSign, CloseParenSign, CloseBracketSign}
use Rattle.htt_lexer_tokens.specs.declared.tokens.Token.{Token}
use Rattle.htt_parser_trees.specs.declared.place.Span.{Span}
use Rattle.htt_parser_trees.specs.declared.decl.RawMonoParam.{RawMonoParam}
use Rattle.htt_parser_trees.specs.Trees.{onto, RawDeclTree, RawMonoParamTree}
use Rattle.theory_grammar.specs.Readers.{Reader, Halt, give, then_read, ◌>>=◌, if_first, measured, token, after_commas, first_is, same_kind}
use Rattle.theory_grammar.specs.Phrases.{Deeper, a_name_there}
use Rattle.theory_grammar.specs.Reading.{mono_parameter_reader, pred_on, pred_names_on}
use Rattle.htt_parser_words.specs.Results.{mapped}
use Rattle.htt_parser_words.proofs.Monotypes.{bind_ok}
use Rattle.htt_parser_declarations.specs.Parts.{put_name, put_param, names_at, more_parameters_at, parameters_there}

pub names_begin : (us ts : List Token) (at : ℕ) (x : Span) (items : List Span)
    → a_name_there us ≡ Ok (x, drop at ts)
    → items ≡ x ∷ []
    → names_at us ≡ mapped (onto put_name items) (after_commas (Sign CommaSign) a_name_there (length ts - at) (drop at ts))
unfolding ◌>>=◌ give measured
names_begin us ts at x items e is =
    ap (λ o. then_read o (λ y. measured (after_commas (Sign CommaSign) a_name_there) >>= (λ ys. give (y ∷ ys)))) e
    ∙ ap (λ n. mapped (λ xs. x ∷ xs) (after_commas (Sign CommaSign) a_name_there n (drop at ts))) (length-drop at ts)
    ∙ ap (λ ys. mapped (onto put_name ys) (after_commas (Sign CommaSign) a_name_there (length ts - at) (drop at ts))) (sym is)

pub onto_names : (xs : List Span) → onto put_name xs [] ≡ xs
onto_names [] = refl
onto_names (x ∷ xs) = ap (λ ys. x ∷ ys) (onto_names xs)

-- names, read as a list
pub names_then : {B : Type 0} (k : List Span → Reader B) (us : List Token)
    → (a_name_there >>= (λ x. measured (after_commas (Sign CommaSign) a_name_there) >>= (λ xs. k (x ∷ xs)))) us ≡ then_read (names_at us) k
unfolding ◌>>=◌ give
names_then k us = by_first k (a_name_there us)
  where
    by_rest : {B : Type 0} (k : List Span → Reader B) (x : Span) (o : Result (List Span × List Token) Halt)
        → then_read o (λ xs. k (x ∷ xs)) ≡ then_read (then_read o (λ xs. give (x ∷ xs))) k
    by_rest k x (Ok read) = refl
    by_rest k x (Err halt) = refl

    by_first : {B : Type 0} (k : List Span → Reader B) (o : Result (Span × List Token) Halt)
        → then_read o (λ x. measured (after_commas (Sign CommaSign) a_name_there) >>= (λ xs. k (x ∷ xs)))
        ≡ then_read (then_read o (λ x. measured (after_commas (Sign CommaSign) a_name_there) >>= (λ xs. give (x ∷ xs)))) k
    by_first k (Ok read) = by_rest k read.0 (measured (after_commas (Sign CommaSign) a_name_there) read.1)
    by_first k (Err halt) = refl

-- a predicate behind the names of its monotypes
unfoldable pub names_rest : Deeper → Span → List Span → Reader RawDeclTree
names_rest d name xs = token (Sign CloseBracketSign) >>= (λ _. pred_on d name xs)

pub names_is : (d : Deeper) (name : Span) (us : List Token) → pred_names_on d name us ≡ then_read (names_at us) (names_rest d name)
unfolding names_rest
names_is d name us = names_then (names_rest d name) us

pub more_begin : (d : Deeper) (ts : List Token) (at : ℕ) (items : List RawMonoParam)
    → mapped (onto put_param items) (more_parameters_at d (drop at ts))
    ≡ mapped (onto put_param items) (after_commas (Sign CommaSign) (mono_parameter_reader d) (length ts - at) (drop at ts))
unfolding measured
more_begin d ts at items = ap (λ n. mapped (onto put_param items) (after_commas (Sign CommaSign) (mono_parameter_reader d) n (drop at ts))) (length-drop at ts)

pub there_none : (d : Deeper) (us : List Token) → first_is (λ k. same_kind k (Sign CloseParenSign)) us ≡ true → parameters_there d us ≡ Ok ([], us)
unfolding if_first give
there_none d us h = ap (λ b. cond b (Ok ([], us)) ((mono_parameter_reader d >>= (λ p. more_parameters_at d >>= (λ ps. give (p ∷ ps)))) us)) h

pub there_next : (d : Deeper) (us : List Token)
    → first_is (λ k. same_kind k (Sign CloseParenSign)) us ≡ false
    → parameters_there d us ≡ (mono_parameter_reader d >>= (λ p. more_parameters_at d >>= (λ ps. give (p ∷ ps)))) us
unfolding if_first give
there_next d us h = ap (λ b. cond b (Ok ([], us)) ((mono_parameter_reader d >>= (λ p. more_parameters_at d >>= (λ ps. give (p ∷ ps)))) us)) h

pub there_some : (d : Deeper) (us rest : List Token) (p : RawMonoParamTree)
    → first_is (λ k. same_kind k (Sign CloseParenSign)) us ≡ false
    → mono_parameter_reader d us ≡ Ok (p, rest)
    → parameters_there d us ≡ mapped (λ more. p ∷ more) (more_parameters_at d rest)
unfolding if_first ◌>>=◌ give
there_some d us rest p h e =
    ap (λ b. cond b (Ok ([], us)) ((mono_parameter_reader d >>= (λ q. more_parameters_at d >>= (λ ps. give (q ∷ ps)))) us)) h
    ∙ bind_ok (mono_parameter_reader d) _ us rest p e
