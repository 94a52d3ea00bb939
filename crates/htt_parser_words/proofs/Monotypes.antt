-- How a monotype is read, step by step, beside what the functions answer.
use Rattle.std.proofs.Common.{◌≡◌, ℕ, suc, List, [], ◌∷◌, ◌++◌, length, reverse, refl, sym, ◌∙◌, ap}
use Rattle.std.specs.Prelude.{Bool, true, false, Some, None, Result, Ok, Err, cond}
use Rattle.htt_lexer_tokens.specs.declared.tokens.Kind.{Kind}
use Rattle.htt_lexer_tokens.specs.declared.tokens.Kind.TheVariants.{Name, Number, Keyword, Sign}
use Rattle.htt_lexer_tokens.specs.declared.tokens.Sign.TheVariants.{OpenParenSign, CloseParenSign, StarSign}
use Rattle.htt_lexer_tokens.specs.declared.tokens.Token.{Token}
use Rattle.htt_parser_trees.specs.declared.mono.RawBracket.{RawBracket}
use Rattle.htt_parser_trees.specs.MonoViews.{raw_bracket_tree}
use Rattle.htt_parser_trees.specs.MonoLevels.{raw_brackets_tree}
use Rattle.std.proofs.lemmas.List.{reverse-append}
use Rattle.htt_parser_trees.specs.Trees.{RawMonoTree, m_name, m_brackets, with_right}
use Rattle.theory_grammar.specs.Readers.{Reader, Halt, too_nested, give, then_read, ◌>>=◌, stop, refuse, chosen, either, measured, same_kind, that, token}
use Rattle.theory_grammar.specs.Beginnings.{begins_mono}
use Rattle.theory_grammar.specs.Phrases.{Deeper, mono_right, mono_closes, mono_name_case, mono_inside, mono_opens, mono_case, mono_reader}
use Rattle.theory_grammar.specs.Reading.{deeper}
use Rattle.htt_parser_words.specs.declared.cursor.Halted.{Halted}
use Rattle.htt_parser_words.specs.declared.cursor.Halted.TheVariants as halts
use Rattle.htt_parser_words.specs.Results.{StopsAs, Gives}
use Rattle.htt_parser_words.specs.Brackets.{opened}

-- ---- one after the other

pub bind_ok : {A B : Type 0} (r : Reader A) (k : A → Reader B) (us rest : List Token) (x : A) → r us ≡ Ok (x, rest) → (r >>= k) us ≡ k x rest
unfolding ◌>>=◌
bind_ok r k us rest x e = ap (λ o. then_read o k) e

pub bind_err : {A B : Type 0} (ts : List Token) (r : Reader A) (k : A → Reader B) (us : List Token) (e : Halted)
    → StopsAs ts e (r us)
    → StopsAs ts e ((r >>= k) us)
unfolding ◌>>=◌
bind_err ts r k us (halts.At reason at) h = ap (λ o. then_read o k) h
bind_err ts r k us halts.NoMemory h = tt

pub err_along : {A : Type 0} (ts : List Token) (e : Halted) (o p : Result (A × List Token) Halt) → p ≡ o → StopsAs ts e o → StopsAs ts e p
err_along ts (halts.At reason at) o p same h = same ∙ h
err_along ts halts.NoMemory o p same h = tt

-- ---- the levels

pub deeper_none : (deeper 63 0).mono ≡ refuse too_nested begins_mono
unfolding deeper
deeper_none = refl

pub deeper_some : (n : ℕ) → (deeper 63 (suc n)).mono ≡ mono_reader (deeper 63 n)
unfolding deeper
deeper_some n = refl

-- ---- brackets that open

no_bracket : (d : Deeper) (next : List ℕ → Reader RawMonoTree) (opens : List ℕ) (t : Token) (us : List Token) (k : Kind)
    → same_kind k (Sign OpenParenSign) ≡ false
    → chosen (mono_case next opens k) (mono_inside d opens) t us ≡ mono_inside d opens (t ∷ us)
no_bracket d next opens t us (Sign OpenParenSign) h = absurd (let no : true ≡ false = h in cc)
no_bracket d next opens t us _ h = refl

a_bracket : (d : Deeper) (next : List ℕ → Reader RawMonoTree) (opens : List ℕ) (t : Token) (us : List Token) (k : Kind)
    → same_kind k (Sign OpenParenSign) ≡ true
    → chosen (mono_case next opens k) (mono_inside d opens) t us ≡ next (t.from ∷ opens) us
a_bracket d next opens t us (Sign OpenParenSign) h = refl
a_bracket d next opens t us Name h = absurd (let no : false ≡ true = h in cc)
a_bracket d next opens t us (Number n) h = absurd (let no : false ≡ true = h in cc)
a_bracket d next opens t us (Keyword w) h = absurd (let no : false ≡ true = h in cc)
a_bracket d next opens t us (Sign _) h = absurd (let no : false ≡ true = h in cc)

inside_opens : (d : Deeper) (opens : List ℕ) (us : List Token) → mono_opens d (length us) opens us ≡ mono_inside d (opened opens us).0 (opened opens us).1
unfolding mono_opens opened mono_inside either stop ◌>>=◌
inside_opens d opens [] = refl
inside_opens d opens (t ∷ us) = by_test d opens t us (inside_opens d (t.from ∷ opens) us) (same_kind t.kind (Sign OpenParenSign)) refl
  where
    by_test : (d : Deeper) (opens : List ℕ) (t : Token) (us : List Token)
        → mono_opens d (length us) (t.from ∷ opens) us ≡ mono_inside d (opened (t.from ∷ opens) us).0 (opened (t.from ∷ opens) us).1
        → (b : Bool)
        → same_kind t.kind (Sign OpenParenSign) ≡ b
        → chosen (mono_case (λ os. mono_opens d (length us) os) opens t.kind) (mono_inside d opens) t us
        ≡ mono_inside d (cond b (opened (t.from ∷ opens) us) (opens, t ∷ us)).0 (cond b (opened (t.from ∷ opens) us) (opens, t ∷ us)).1
    by_test d opens t us next true h = a_bracket d (λ os. mono_opens d (length us) os) opens t us t.kind h ∙ next
    by_test d opens t us next false h = no_bracket d (λ os. mono_opens d (length us) os) opens t us t.kind h

pub at_inside : (d : Deeper) (us : List Token) → mono_reader d us ≡ mono_inside d (opened [] us).0 (opened [] us).1
unfolding mono_reader measured
at_inside d us = inside_opens d [] us

pub inside_is : (d : Deeper) (opens : List ℕ) (us : List Token)
    → mono_inside d opens us
    ≡ (either mono_name_case stop >>= (λ n. mono_right d >>= (λ r. mono_closes d opens (with_right (m_name n) r)))) us
unfolding mono_inside
inside_is d opens us = refl

-- ---- what stands at the right

pub right_star : (d : Deeper) (us : List Token) (t : Token) (rest : List Token)
    → us ≡ t ∷ rest
    → same_kind t.kind (Sign StarSign) ≡ true
    → mono_right d us ≡ (d.mono >>= (λ m. give (Some m))) rest
unfolding mono_right either
right_star d us t rest there same =
    ap (either (that (Sign StarSign) (d.mono >>= (λ m. give (Some m)))) (give None)) there
    ∙ ap (λ b. chosen (cond b (Some (λ _. d.mono >>= (λ m. give (Some m)))) None) (give None) t rest) same

pub right_other : (d : Deeper) (us : List Token) (t : Token) (rest : List Token)
    → us ≡ t ∷ rest
    → same_kind t.kind (Sign StarSign) ≡ false
    → mono_right d us ≡ Ok (None, us)
unfolding mono_right either give
right_other d us t rest there other =
    ap (either (that (Sign StarSign) (d.mono >>= (λ m. give (Some m)))) (give None)) there
    ∙ ap (λ b. chosen (cond b (Some (λ _. d.mono >>= (λ m. give (Some m)))) None) (give None) t rest) other
    ∙ ap (λ vs. Ok (None, vs)) (sym there)

pub right_end : (d : Deeper) (us : List Token) → us ≡ [] → mono_right d us ≡ Ok (None, us)
unfolding mono_right either give
right_end d us end = ap (either (that (Sign StarSign) (d.mono >>= (λ m. give (Some m)))) (give None)) end ∙ ap (λ vs. Ok (None, vs)) (sym end)

pub given : {A : Type 0} (x : A) (us : List Token) → give x us ≡ Ok (x, us)
unfolding give
given x us = refl

-- ---- brackets that close

pub closes_open : (d : Deeper) (opens : List ℕ) (at : ℕ) (m : RawMonoTree) (us : List Token)
    → mono_closes d (reverse (opens ++ at ∷ [])) m us
    ≡ (token (Sign CloseParenSign) >>= (λ _. mono_right d >>= (λ r. mono_closes d (reverse opens) (with_right (m_brackets at m) r)))) us
unfolding mono_closes
closes_open d opens at m us = ap (λ os. mono_closes d os m us) (reverse-append opens (at ∷ []))

pub closes_none : (d : Deeper) (m : RawMonoTree) (us : List Token) → mono_closes d (reverse []) m us ≡ Ok (m, us)
unfolding mono_closes give
closes_none d m us = refl

pub brackets_last : (bs : List RawBracket) (b : RawBracket) (m : RawMonoTree) → raw_brackets_tree (bs ++ b ∷ []) m ≡ raw_bracket_tree b (raw_brackets_tree bs m)
brackets_last [] b m = refl
brackets_last (x ∷ bs) b m = brackets_last bs b (raw_bracket_tree x m)

pub gives_along : {Y B : Type 0} (ts : List Token) (view : Y → B) (r : Result (Y × ℕ) Halted) (o p : Result (B × List Token) Halt)
    → p ≡ o
    → Gives ts view r o
    → Gives ts view r p
gives_along ts view (Ok read) o p same h = same ∙ h
gives_along ts view (Err e) o p same h = err_along ts e o p same h
