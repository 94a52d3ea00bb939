-- The further operands of `inst` and `app`, one by one.
use Rattle.std.proofs.Common.{◌≡◌, ℕ, zero, suc, ◌+◌, List, [], ◌∷◌, drop, refl, ap, ◌∙◌}
use Rattle.std.specs.Prelude.{true, false, Result, Ok}
use Rattle.htt_lexer_tokens.specs.declared.tokens.Kind.TheVariants.{Sign}
use Rattle.htt_lexer_tokens.specs.declared.tokens.Sign.TheVariants.{CommaSign}
use Rattle.htt_lexer_tokens.specs.declared.tokens.Token.{Token}
use Rattle.htt_parser_trees.specs.Trees.{RawArgTree, RawProofTree, no_proofs, more_proofs}
use Rattle.theory_grammar.specs.Readers.{Reader, too_long, give, ◌>>=◌, refuse, first_is, same_kind}
use Rattle.theory_grammar.specs.Beginnings.{begins_arg, begins_proof}
use Rattle.theory_grammar.specs.Phrases.{Deeper}
use Rattle.theory_grammar.specs.Reading.{arg_reader, args_on, proofs_on}
use Rattle.htt_parser_words.specs.declared.cursor.Halted.{Halted}
use Rattle.htt_parser_words.specs.Results.{StopsAs, mapped}
use Rattle.htt_parser_words.proofs.Steps.{that_first, that_other}
use Rattle.htt_parser_words.proofs.Monotypes.{bind_ok, bind_err, err_along}

abbrev pub comma_at : List Token → Type 0
comma_at us = first_is (λ k. same_kind k (Sign CommaSign)) us ≡ true

-- ---- arguments

pub args_none : (d : Deeper) (n : ℕ) (us : List Token) → first_is (λ k. same_kind k (Sign CommaSign)) us ≡ false → args_on d n us ≡ Ok ([], us)
unfolding args_on give
args_none d zero us h = that_other us (Sign CommaSign) _ _ h
args_none d (suc n) us h = that_other us (Sign CommaSign) _ _ h

pub args_full : (d : Deeper) (n : ℕ) (ts : List Token) (at : ℕ)
    → n ≡ 0
    → comma_at (drop at ts)
    → args_on d n (drop at ts) ≡ refuse too_long begins_arg (drop (at + 1) ts)
unfolding args_on
args_full d n ts at none h = ap (λ m. args_on d m (drop at ts)) none ∙ that_first ts at (Sign CommaSign) _ _ h

args_next : (d : Deeper) (n m : ℕ) (ts : List Token) (at : ℕ)
    → n ≡ suc m
    → comma_at (drop at ts)
    → args_on d n (drop at ts) ≡ (arg_reader d >>= (λ a. args_on d m >>= (λ more. give (a ∷ more)))) (drop (at + 1) ts)
unfolding args_on
args_next d n m ts at some h = ap (λ l. args_on d l (drop at ts)) some ∙ that_first ts at (Sign CommaSign) _ _ h

pub args_read : (d : Deeper) (n m : ℕ) (ts : List Token) (at : ℕ) (a : RawArgTree) (rest : List Token)
    → n ≡ suc m
    → comma_at (drop at ts)
    → arg_reader d (drop (at + 1) ts) ≡ Ok (a, rest)
    → args_on d n (drop at ts) ≡ mapped (λ more. a ∷ more) (args_on d m rest)
unfolding ◌>>=◌
args_read d n m ts at a rest some h e = args_next d n m ts at some h ∙ bind_ok (arg_reader d) _ _ _ _ e

pub args_halt : (d : Deeper) (n m : ℕ) (ts : List Token) (at : ℕ) (e : Halted)
    → n ≡ suc m
    → comma_at (drop at ts)
    → StopsAs ts e (arg_reader d (drop (at + 1) ts))
    → StopsAs ts e (args_on d n (drop at ts))
args_halt d n m ts at e some h s = err_along _ e _ _ (args_next d n m ts at some h) (bind_err _ (arg_reader d) _ _ e s)

-- ---- proofs

pub proofs_none : (d : Deeper) (n : ℕ) (us : List Token) → first_is (λ k. same_kind k (Sign CommaSign)) us ≡ false → proofs_on d n us ≡ Ok (no_proofs, us)
unfolding proofs_on give
proofs_none d zero us h = that_other us (Sign CommaSign) _ _ h
proofs_none d (suc n) us h = that_other us (Sign CommaSign) _ _ h

pub proofs_full : (d : Deeper) (n : ℕ) (ts : List Token) (at : ℕ)
    → n ≡ 0
    → comma_at (drop at ts)
    → proofs_on d n (drop at ts) ≡ refuse too_long begins_proof (drop (at + 1) ts)
unfolding proofs_on
proofs_full d n ts at none h = ap (λ m. proofs_on d m (drop at ts)) none ∙ that_first ts at (Sign CommaSign) _ _ h

proofs_next : (d : Deeper) (n m : ℕ) (ts : List Token) (at : ℕ)
    → n ≡ suc m
    → comma_at (drop at ts)
    → proofs_on d n (drop at ts) ≡ (d.proof >>= (λ p. proofs_on d m >>= (λ more. give (more_proofs p more)))) (drop (at + 1) ts)
unfolding proofs_on
proofs_next d n m ts at some h = ap (λ l. proofs_on d l (drop at ts)) some ∙ that_first ts at (Sign CommaSign) _ _ h

pub proofs_read : (d : Deeper) (n m : ℕ) (ts : List Token) (at : ℕ) (p : RawProofTree) (rest : List Token)
    → n ≡ suc m
    → comma_at (drop at ts)
    → d.proof (drop (at + 1) ts) ≡ Ok (p, rest)
    → proofs_on d n (drop at ts) ≡ mapped (λ more. more_proofs p more) (proofs_on d m rest)
unfolding ◌>>=◌
proofs_read d n m ts at p rest some h e = proofs_next d n m ts at some h ∙ bind_ok d.proof _ _ _ _ e

pub proofs_halt : (d : Deeper) (n m : ℕ) (ts : List Token) (at : ℕ) (e : Halted)
    → n ≡ suc m
    → comma_at (drop at ts)
    → StopsAs ts e (d.proof (drop (at + 1) ts))
    → StopsAs ts e (proofs_on d n (drop at ts))
proofs_halt d n m ts at e some h s = err_along _ e _ _ (proofs_next d n m ts at some h) (bind_err _ d.proof _ _ e s)
