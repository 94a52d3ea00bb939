-- The declarations of a text, one by one.
use Rattle.std.proofs.Common.{◌≡◌, ℕ, zero, suc, List, [], ◌∷◌, drop, ap, sym, ◌∙◌}
use Rattle.std.specs.Prelude.{Bool, true, false, Result, Ok, cond}
use Rattle.htt_lexer_tokens.specs.declared.tokens.Token.{Token}
use Rattle.htt_parser_trees.specs.Trees.{RawDeclTree}
use Rattle.theory_grammar.specs.Readers.{Reader, too_many, give, ◌>>=◌, if_first, first_is, refuse}
use Rattle.theory_grammar.specs.Beginnings.{begins_decl}
use Rattle.theory_grammar.specs.Phrases.{Deeper}
use Rattle.theory_grammar.specs.Reading.{decl_reader, file_on, any_token}
use Rattle.htt_parser_words.specs.declared.cursor.Halted.{Halted}
use Rattle.htt_parser_words.specs.Results.{StopsAs, mapped}
use Rattle.htt_parser_words.proofs.Monotypes.{bind_ok, bind_err, err_along}

pub file_none : (d : Deeper) (n : ℕ) (us : List Token) → us ≡ [] → file_on d n us ≡ Ok ([], us)
unfolding file_on if_first give
file_none d zero us h = ap (λ us. cond (first_is any_token us) (refuse too_many begins_decl us) (Ok ([], us))) h ∙ ap (λ us. Ok ([], us)) (sym h)
file_none d (suc n) us h =
    ap (λ us. cond (first_is any_token us) ((decl_reader d >>= (λ x. file_on d n >>= (λ xs. give (x ∷ xs)))) us) (Ok ([], us))) h
    ∙ ap (λ us. Ok ([], us)) (sym h)

pub file_full : (d : Deeper) (n : ℕ) (us rest : List Token) (t : Token) → n ≡ 0 → us ≡ t ∷ rest → file_on d n us ≡ refuse too_many begins_decl us
unfolding file_on if_first
file_full d n us rest t none h = ap (λ m. file_on d m us) none ∙ ap (λ b. cond b (refuse too_many begins_decl us) (give [] us)) (ap (first_is any_token) h)

file_next : (d : Deeper) (n m : ℕ) (us rest : List Token) (t : Token)
    → n ≡ suc m
    → us ≡ t ∷ rest
    → file_on d n us ≡ (decl_reader d >>= (λ x. file_on d m >>= (λ xs. give (x ∷ xs)))) us
unfolding file_on if_first
file_next d n m us rest t some h =
    ap (λ l. file_on d l us) some
    ∙ ap (λ b. cond b ((decl_reader d >>= (λ x. file_on d m >>= (λ xs. give (x ∷ xs)))) us) (give [] us)) (ap (first_is any_token) h)

pub file_read : (d : Deeper) (n m : ℕ) (us rest after_it : List Token) (t : Token) (x : RawDeclTree)
    → n ≡ suc m
    → us ≡ t ∷ rest
    → decl_reader d us ≡ Ok (x, after_it)
    → file_on d n us ≡ mapped (λ xs. x ∷ xs) (file_on d m after_it)
unfolding ◌>>=◌
file_read d n m us rest after_it t x some h e = file_next d n m us rest t some h ∙ bind_ok (decl_reader d) _ us after_it x e

pub file_halt : (d : Deeper) (n m : ℕ) (ts us rest : List Token) (t : Token) (e : Halted)
    → n ≡ suc m
    → us ≡ t ∷ rest
    → StopsAs ts e (decl_reader d us)
    → StopsAs ts e (file_on d n us)
file_halt d n m ts us rest t e some h s = err_along ts e _ _ (file_next d n m us rest t some h) (bind_err ts (decl_reader d) _ us e s)
