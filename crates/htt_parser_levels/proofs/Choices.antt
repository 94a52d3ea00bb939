-- What is read by a test of the first token.
use Rattle.std.proofs.Common.{◌≡◌, List, ap}
use Rattle.std.specs.Prelude.{Bool, true, false, cond}
use Rattle.htt_lexer_tokens.specs.declared.tokens.Kind.{Kind}
use Rattle.htt_lexer_tokens.specs.declared.tokens.Token.{Token}
use Rattle.theory_grammar.specs.Readers.{Reader, first_is, if_first}

pub if_first_yes : {A : Type 0} (test : Kind → Bool) (x y : Reader A) (us : List Token) → first_is test us ≡ true → if_first test x y us ≡ x us
unfolding if_first
if_first_yes test x y us h = ap (λ b. cond b (x us) (y us)) h

pub if_first_no : {A : Type 0} (test : Kind → Bool) (x y : Reader A) (us : List Token) → first_is test us ≡ false → if_first test x y us ≡ y us
unfolding if_first
if_first_no test x y us h = ap (λ b. cond b (x us) (y us)) h
