-- Arguments with commas between them.
use Rattle.std.proofs.Common.{◌≡◌, ℕ, ◌-◌, List, [], ◌∷◌, drop, length, refl, sym, ◌∙◌, ap, length-drop}
use Rattle.std.specs.Prelude.{Bool, true, false, Result, Ok, Err}
use Rattle.htt_lexer_tokens.specs.declared.tokens.Kind.TheVariants.{Sign}
use Rattle.htt_lexer_tokens.specs.declared.tokens.Sign.TheVariants.{CommaSign, OpenParenSign, CloseParenSign, CloseBracketSign}
use Rattle.htt_lexer_tokens.specs.declared.tokens.Token.{Token}
use Rattle.htt_parser_trees.specs.declared.place.Span.{Span}
use Rattle.htt_parser_trees.specs.declared.proof.RawArg.{RawArg}
use Rattle.htt_parser_trees.specs.Trees.{onto, RawArgTree, RawEndTree, RawMonoTree, e_axiom}
use Rattle.theory_grammar.specs.Readers.{Reader, Halt, give, then_read, ◌>>=◌, measured, token, after_commas, first_is, same_kind}
use Rattle.theory_grammar.specs.Phrases.{Deeper, mono_reader, more_monos}
use Rattle.theory_grammar.specs.Reading.{arg_reader, args_there, more_args, axiom_monos_on}
use Rattle.htt_parser_words.specs.Results.{mapped}
use Rattle.htt_parser_words.specs.Lists.{monos_at}
use Rattle.htt_parser_words.proofs.Monotypes.{bind_ok}
use Rattle.htt_parser_proofs.specs.Parts.{put_arg}
use Rattle.htt_parser_levels.proofs.Choices.{if_first_yes, if_first_no}

pub more_begin : (d : Deeper) (ts : List Token) (at : ℕ) (items : List RawArg)
    → mapped (onto put_arg items) (more_args d (drop at ts))
    ≡ mapped (onto put_arg items) (after_commas (Sign CommaSign) (arg_reader d) (length ts - at) (drop at ts))
unfolding more_args measured
more_begin d ts at items = ap (λ n. mapped (onto put_arg items) (after_commas (Sign CommaSign) (arg_reader d) n (drop at ts))) (length-drop at ts)

pub onto_none : {X T : Type 0} (put : X → T → T) (items : List X) (told : Result (T × List Token) Halt) → items ≡ [] → mapped (onto put items) told ≡ told
unfolding give
onto_none put items (Ok read) none = ap (λ xs. Ok (onto put xs read.0, read.1)) none
onto_none put items (Err halt) none = refl

pub there_none : (d : Deeper) (us : List Token) → first_is (λ k. same_kind k (Sign CloseParenSign)) us ≡ true → args_there d us ≡ Ok ([], us)
unfolding args_there give
there_none d us h = if_first_yes (λ k. same_kind k (Sign CloseParenSign)) _ _ us h

pub there_some : (d : Deeper) (us rest : List Token) (a : RawArgTree)
    → first_is (λ k. same_kind k (Sign CloseParenSign)) us ≡ false
    → arg_reader d us ≡ Ok (a, rest)
    → args_there d us ≡ mapped (λ more. a ∷ more) (more_args d rest)
unfolding args_there ◌>>=◌
there_some d us rest a h e = if_first_no (λ k. same_kind k (Sign CloseParenSign)) _ _ us h ∙ bind_ok (arg_reader d) _ us rest a e

-- monotypes, read as a list
pub monos_then : {B : Type 0} (d : Deeper) (k : List RawMonoTree → Reader B) (us : List Token)
    → (mono_reader d >>= (λ t. more_monos d >>= (λ ts. k (t ∷ ts)))) us ≡ then_read (monos_at d us) k
unfolding ◌>>=◌ give
monos_then d k us = by_first d k (mono_reader d us)
  where
    by_rest : {B : Type 0} (k : List RawMonoTree → Reader B) (m : RawMonoTree) (o : Result (List RawMonoTree × List Token) Halt)
        → then_read o (λ ts. k (m ∷ ts)) ≡ then_read (then_read o (λ ts. give (m ∷ ts))) k
    by_rest k m (Ok read) = refl
    by_rest k m (Err halt) = refl

    by_first : {B : Type 0} (d : Deeper) (k : List RawMonoTree → Reader B) (o : Result (RawMonoTree × List Token) Halt)
        → then_read o (λ t. more_monos d >>= (λ ts. k (t ∷ ts))) ≡ then_read (then_read o (λ t. more_monos d >>= (λ ts. give (t ∷ ts)))) k
    by_first d k (Ok read) = by_rest k read.0 (more_monos d read.1)
    by_first d k (Err halt) = refl

-- an axiom behind its monotypes
unfoldable pub axiom_rest : Deeper → ℕ → Span → List RawMonoTree → Reader RawEndTree
axiom_rest d at c ts = token (Sign CloseBracketSign) >>= (λ _.
    token (Sign OpenParenSign) >>= (λ _.
    args_there d >>= (λ more.
    token (Sign CloseParenSign) >>= (λ _.
    give (e_axiom at c ts more)))))

pub axiom_is : (d : Deeper) (at : ℕ) (c : Span) (us : List Token) → axiom_monos_on d at c us ≡ then_read (monos_at d us) (axiom_rest d at c)
unfolding axiom_rest
axiom_is d at c us = monos_then d (axiom_rest d at c) us
