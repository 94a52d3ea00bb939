-- What a function answers where a part of it stopped, and where it goes on.
use Rattle.std.proofs.Common.{◌≡◌, ℕ, zero, suc, ◌+◌, List, [], ◌∷◌, drop, refl, ap, sym, ◌∙◌, subst, arith}
use Rattle.std.specs.Prelude.{Bool, true, false, Option, Some, None, Result, Ok, Err, IsErrAnd, cond, if◌then◌else◌}
use Rattle.htt_lexer_tokens.specs.declared.tokens.Kind.{Kind}
use Rattle.htt_lexer_tokens.specs.declared.tokens.Token.{Token}
use Rattle.theory_grammar.specs.Readers.{Reader, Halt, Why, expected, give, then_read, ◌>>=◌, refuse, refused, chosen, either, that, first_is, stop, same_kind}
use Rattle.htt_parser_words.specs.declared.cursor.Reason.{Reason}
use Rattle.htt_parser_words.specs.declared.cursor.Reason.TheVariants.{Expected}
use Rattle.htt_parser_words.specs.declared.cursor.Halted.{Halted}
use Rattle.htt_parser_words.specs.declared.cursor.Halted.TheVariants as halts
use Rattle.htt_parser_words.specs.Results.{why_of, StopsAs, Gives, GivesMore}

pub stopped : {X Y : Type 0} (ts : List Token) (view : X → Y) (r : Result (X × ℕ) Halted) (e : Halted) (told : Result (Y × List Token) Halt)
    → IsErrAnd r (λ h. h ≡ e)
    → StopsAs ts e told
    → Gives ts view r told
stopped ts view (Ok x) e told h s = absurd h
stopped ts view (Err x) e told h s = subst (λ w. StopsAs ts w told) (sym h) s

pub after_err : {A B : Type 0} (ts : List Token) (e : Halted) (o : Result (A × List Token) Halt) (k : A → Reader B)
    → StopsAs ts e o
    → StopsAs ts e (then_read o k)
after_err ts (halts.At reason at) o k h = ap (λ p. then_read p k) h
after_err ts halts.NoMemory o k h = tt

-- ---- the first token

pub next_of : (ts : List Token) (i : ℕ) (t : Token) (rest : List Token) → drop i ts ≡ t ∷ rest → rest ≡ drop (suc i) ts
next_of ts zero t rest h = ap (drop 1) (sym h)
next_of [] (suc i) t rest h = cc
next_of (x ∷ ts) (suc i) t rest h = next_of ts i t rest h

taken_there : {A : Type 0} (k : Kind) (x y : Reader A) (t : Token) (us : List Token) → same_kind t.kind k ≡ true → either (that k x) y (t ∷ us) ≡ x us
unfolding either
taken_there k x y t us h = ap (λ b. chosen (cond b (Some (λ _. x)) None) y t us) h

pub that_first : {A : Type 0} (ts : List Token) (i : ℕ) (k : Kind) (x y : Reader A)
    → first_is (λ q. same_kind q k) (drop i ts) ≡ true
    → either (that k x) y (drop i ts) ≡ x (drop (i + 1) ts)
that_first ts i k x y h = by_head ts i k x y (drop i ts) refl h
  where
    by_head : {A : Type 0} (ts : List Token) (i : ℕ) (k : Kind) (x y : Reader A) (us : List Token)
        → drop i ts ≡ us
        → first_is (λ q. same_kind q k) us ≡ true
        → either (that k x) y us ≡ x (drop (i + 1) ts)
    by_head ts i k x y [] is h = absurd (let no : false ≡ true = h in cc)
    by_head ts i k x y (t ∷ us) is h =
        let next : suc i ≡ i + 1 = omega arith in
        taken_there k x y t us h ∙ ap x (next_of ts i t us is ∙ ap (λ n. drop n ts) next)

pub that_other : {A : Type 0} (us : List Token) (k : Kind) (x y : Reader A) → first_is (λ q. same_kind q k) us ≡ false → either (that k x) y us ≡ y us
unfolding either
that_other [] k x y h = refl
that_other (t ∷ us) k x y h = ap (λ b. chosen (cond b (Some (λ _. x)) None) y t us) h

refused_is : (reason : Reason) (test : Kind → Bool) (us : List Token) → refused (why_of reason) test us ≡ why_of (cond (first_is test us) reason Expected)
refused_is reason test [] = refl
refused_is reason test (t ∷ us) = by_test reason (test t.kind)
  where
    by_test : (reason : Reason) (b : Bool) → (if b then why_of reason else expected) ≡ why_of (cond b reason Expected)
    by_test reason true = refl
    by_test reason false = refl

pub refuse_stops : (A : Type 0) (ts : List Token) (why : Why) (test : Kind → Bool) (reason : Reason) (at : ℕ) (e : Halted)
    → why_of reason ≡ why
    → e ≡ halts.At (cond (first_is test (drop at ts)) reason Expected) at
    → StopsAs ts e (refuse {A = A} why test (drop at ts))
unfolding refuse
refuse_stops A ts why test reason at e same is =
    subst (λ h. StopsAs ts h (refuse {A = A} why test (drop at ts))) (sym is)
    (ap (λ w. Err (record { why = w; rest = drop at ts }))
    (ap (λ w. refused w test (drop at ts)) (sym same) ∙ refused_is reason test (drop at ts)))

-- opens what one reads after the other
unfoldable pub reading : Type 0
unfolding ◌>>=◌ give
reading = ℕ

pub stopped_more : {X T : Type 0} (ts : List Token) (put : X → T → T) (nothing : T) (r : Result (Option (X × ℕ)) Halted) (e : Halted)
    (now rest : Reader T) (at : ℕ)
    → IsErrAnd r (λ h. h ≡ e)
    → StopsAs ts e (now (drop at ts))
    → GivesMore ts put nothing r now rest at
stopped_more ts put nothing (Ok x) e now rest at h s = absurd h
stopped_more ts put nothing (Err x) e now rest at h s = subst (λ w. StopsAs ts w (now (drop at ts))) (sym h) s

-- opens what a choice by the first token reads
unfoldable pub choosing : Type 0
unfolding either stop give
choosing = ℕ

pub ruleset steps = (stopped, stopped_more, after_err, that_first, that_other, refuse_stops)
