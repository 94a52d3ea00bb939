-- The parts and the operands that follow, beside what a function tests.
use Rattle.std.proofs.Common.{◌≡◌, ℕ, zero, suc, ◌+◌, ◌-◌, ◌<◌, List, [], ◌∷◌, drop, refl, ◌∙◌, ap, arith}
use Rattle.std.specs.Prelude.{true, false, Option, Some, None, Result, Ok, Err}
use Rattle.htt_lexer_tokens.specs.declared.tokens.Kind.{Kind}
use Rattle.htt_lexer_tokens.specs.declared.tokens.Kind.TheVariants.{Name, Number, Keyword, Sign}
use Rattle.htt_lexer_tokens.specs.declared.tokens.Sign.TheVariants.{OpenBracketSign, CloseBracketSign}
use Rattle.htt_lexer_tokens.specs.declared.tokens.Token.{Token}
use Rattle.htt_parser_trees.specs.Trees.{l_apply, x_prod, s_sum, RawPartTrees, no_parts, atom_part, mono_part, ProdSign, SumSign, RawProdRestTree}
use Rattle.htt_parser_trees.specs.Trees.{RawSumRestTree, x_end, x_more, s_end, s_more}
use Rattle.theory_grammar.specs.Readers.{Reader, too_long, give, then_read, ◌>>=◌, stop, refuse, chosen, either, first_is, same_kind, that, token}
use Rattle.theory_grammar.specs.Beginnings.{begins_mono, begins_atom, begins_appl, prod_sign_of, sum_sign_of}
use Rattle.theory_grammar.specs.Phrases.{Deeper, mono_reader, atom_reader, part_case, no_part_case, parts_on, appl_reader, prod_reader, on_prod_sign, prod_on}
use Rattle.theory_grammar.specs.Phrases.{on_sum_sign, sum_on, apply_on, sum_reader}
use Rattle.theory_grammar.specs.Reading.{deeper}
use Rattle.htt_parser_words.specs.declared.cursor.Halted.{Halted}
use Rattle.htt_parser_words.specs.Results.{GivesMore}
use Rattle.htt_parser_words.proofs.Monotypes.{err_along}
use Rattle.htt_parser_words.proofs.Steps.{next_of}
use Rattle.htt_parser_operands.specs.Signs.{first_sign}
use Rattle.htt_parser_operands.specs.Parts.{mono_part_on, mono_after_on, atom_part_on}
use Rattle.htt_parser_levels.proofs.Choices.{if_first_yes, if_first_no}

-- a reader that does the same here
pub more_along : {X T : Type 0} (ts : List Token) (put : X → T → T) (nothing : T) (r : Result (Option (X × ℕ)) Halted)
    (now other rest : Reader T) (at : ℕ)
    → now (drop at ts) ≡ other (drop at ts)
    → GivesMore ts put nothing r other rest at
    → GivesMore ts put nothing r now rest at
more_along ts put nothing (Ok None) now other rest at same h = same ∙ h
more_along ts put nothing (Ok (Some read)) now other rest at same h = same ∙ h
more_along ts put nothing (Err e) now other rest at same h = err_along ts e _ _ same h

-- ---- what a head is applied to

bracket_zero : (d : Deeper) (t : Token) (us : List Token) (k : Kind) (other : Reader RawPartTrees)
    → same_kind k (Sign OpenBracketSign) ≡ true
    → chosen (no_part_case k) other t us
    ≡ then_read (chosen (that (Sign OpenBracketSign) (give {A = Unit {0}} tt) k) stop t us) (λ _. refuse too_long begins_mono)
unfolding give
bracket_zero d t us (Sign OpenBracketSign) other h = refl
bracket_zero d t us Name other h = absurd (let no : false ≡ true = h in cc)
bracket_zero d t us (Number n) other h = absurd (let no : false ≡ true = h in cc)
bracket_zero d t us (Keyword w) other h = absurd (let no : false ≡ true = h in cc)
bracket_zero d t us (Sign _) other h = absurd (let no : false ≡ true = h in cc)

bracket_suc : (d : Deeper) (next : Reader RawPartTrees) (t : Token) (us : List Token) (k : Kind) (other : Reader RawPartTrees)
    → same_kind k (Sign OpenBracketSign) ≡ true
    → chosen (part_case d next k) other t us
    ≡ then_read (chosen (that (Sign OpenBracketSign) (give {A = Unit {0}} tt) k) stop t us)
    (λ _. mono_reader d >>= (λ m. token (Sign CloseBracketSign) >>= (λ _. next >>= (λ ps. give (mono_part m ps)))))
unfolding give
bracket_suc d next t us (Sign OpenBracketSign) other h = refl
bracket_suc d next t us Name other h = absurd (let no : false ≡ true = h in cc)
bracket_suc d next t us (Number n) other h = absurd (let no : false ≡ true = h in cc)
bracket_suc d next t us (Keyword w) other h = absurd (let no : false ≡ true = h in cc)
bracket_suc d next t us (Sign _) other h = absurd (let no : false ≡ true = h in cc)

no_bracket_zero : (t : Token) (us : List Token) (k : Kind) (other : Reader RawPartTrees)
    → same_kind k (Sign OpenBracketSign) ≡ false
    → chosen (no_part_case k) other t us ≡ other (t ∷ us)
no_bracket_zero t us (Sign OpenBracketSign) other h = absurd (let no : true ≡ false = h in cc)
no_bracket_zero t us _ other h = refl

no_bracket_suc : (d : Deeper) (next : Reader RawPartTrees) (t : Token) (us : List Token) (k : Kind) (other : Reader RawPartTrees)
    → same_kind k (Sign OpenBracketSign) ≡ false
    → chosen (part_case d next k) other t us ≡ other (t ∷ us)
no_bracket_suc d next t us (Sign OpenBracketSign) other h = absurd (let no : true ≡ false = h in cc)
no_bracket_suc d next t us _ other h = refl

pub parts_bracket : (d : Deeper) (n : ℕ) (us : List Token)
    → first_is (λ q. same_kind q (Sign OpenBracketSign)) us ≡ true
    → parts_on d n us ≡ mono_part_on d n us
unfolding parts_on either token ◌>>=◌
parts_bracket d n [] h = absurd (let no : false ≡ true = h in cc)
parts_bracket d zero (t ∷ us) h = bracket_zero d t us t.kind _ h
parts_bracket d (suc n) (t ∷ us) h = bracket_suc d (parts_on d n) t us t.kind _ h

pub parts_atom : (d : Deeper) (n : ℕ) (us : List Token)
    → first_is (λ q. same_kind q (Sign OpenBracketSign)) us ≡ false
    → first_is begins_atom us ≡ true
    → parts_on d n us ≡ atom_part_on d n us
unfolding parts_on either
parts_atom d n [] h begins = absurd (let no : false ≡ true = begins in cc)
parts_atom d zero (t ∷ us) h begins = no_bracket_zero t us t.kind _ h ∙ if_first_yes begins_atom _ _ (t ∷ us) begins
parts_atom d (suc n) (t ∷ us) h begins = no_bracket_suc d (parts_on d n) t us t.kind _ h ∙ if_first_yes begins_atom _ _ (t ∷ us) begins

pub parts_none : (d : Deeper) (n : ℕ) (us : List Token)
    → first_is (λ q. same_kind q (Sign OpenBracketSign)) us ≡ false
    → first_is begins_atom us ≡ false
    → parts_on d n us ≡ Ok (no_parts, us)
unfolding parts_on either give
parts_none d zero [] h begins = if_first_no begins_atom _ _ [] begins
parts_none d (suc n) [] h begins = if_first_no begins_atom _ _ [] begins
parts_none d zero (t ∷ us) h begins = no_bracket_zero t us t.kind _ h ∙ if_first_no begins_atom _ _ (t ∷ us) begins
parts_none d (suc n) (t ∷ us) h begins = no_bracket_suc d (parts_on d n) t us t.kind _ h ∙ if_first_no begins_atom _ _ (t ∷ us) begins

pub mono_after_zero : (d : Deeper) (room : ℕ) (us : List Token) → room ≡ 0 → mono_after_on d room us ≡ refuse too_long begins_mono us
mono_after_zero d zero us h = refl
mono_after_zero d (suc n) us h = absurd (omega (arith, h))

pub mono_after_some : (d : Deeper) (room : ℕ) (us : List Token)
    → 0 < room
    → mono_after_on d room us
    ≡ (mono_reader d >>= (λ m. token (Sign CloseBracketSign) >>= (λ _. parts_on d (room - 1) >>= (λ ps. give (mono_part m ps))))) us
mono_after_some d zero us h = absurd (omega (arith, h))
mono_after_some d (suc n) us h =
    let less : n ≡ suc n - 1 = omega arith in
    ap (λ m. (mono_reader d >>= (λ t. token (Sign CloseBracketSign) >>= (λ _. parts_on d m >>= (λ ps. give (mono_part t ps))))) us) less

pub atom_part_zero : (d : Deeper) (room : ℕ) (us : List Token) → room ≡ 0 → atom_part_on d room us ≡ refuse too_long begins_atom us
atom_part_zero d zero us h = refl
atom_part_zero d (suc n) us h = absurd (omega (arith, h))

pub atom_part_some : (d : Deeper) (room : ℕ) (us : List Token)
    → 0 < room
    → atom_part_on d room us ≡ (atom_reader d >>= (λ a. parts_on d (room - 1) >>= (λ ps. give (atom_part a ps)))) us
atom_part_some d zero us h = absurd (omega (arith, h))
atom_part_some d (suc n) us h =
    let less : n ≡ suc n - 1 = omega arith in
    ap (λ m. (atom_reader d >>= (λ a. parts_on d m >>= (λ ps. give (atom_part a ps)))) us) less

-- ---- further operands

no_prod_sign : (f : ProdSign → Reader RawProdRestTree) (other : Reader RawProdRestTree) (t : Token) (us : List Token) (o : Option ProdSign)
    → o ≡ None
    → chosen (on_prod_sign f o) other t us ≡ other (t ∷ us)
no_prod_sign f other t us None h = refl
no_prod_sign f other t us (Some s) h = cc

no_sum_sign : (f : SumSign → Reader RawSumRestTree) (other : Reader RawSumRestTree) (t : Token) (us : List Token) (o : Option SumSign)
    → o ≡ None
    → chosen (on_sum_sign f o) other t us ≡ other (t ∷ us)
no_sum_sign f other t us None h = refl
no_sum_sign f other t us (Some s) h = cc

next_place : (ts : List Token) (i : ℕ) (t : Token) (rest : List Token) → drop i ts ≡ t ∷ rest → rest ≡ drop (i + 1) ts
next_place ts i t rest h =
    let next : suc i ≡ i + 1 = omega arith in
    next_of ts i t rest h ∙ ap (λ n. drop n ts) next

pub prod_none : (d : Deeper) (n : ℕ) (us : List Token) → first_sign prod_sign_of us ≡ None → prod_on d n us ≡ Ok (x_end, us)
unfolding prod_on either give
prod_none d zero [] h = refl
prod_none d (suc n) [] h = refl
prod_none d zero (t ∷ us) h = no_prod_sign _ (give x_end) t us (prod_sign_of t.kind) h
prod_none d (suc n) (t ∷ us) h = no_prod_sign _ (give x_end) t us (prod_sign_of t.kind) h

prod_full_head : (d : Deeper) (ts : List Token) (at : ℕ) (s : ProdSign) (us : List Token)
    → drop at ts ≡ us
    → first_sign prod_sign_of us ≡ Some s
    → prod_on d 0 us ≡ refuse too_long begins_appl (drop (at + 1) ts)
unfolding prod_on either
prod_full_head d ts at s [] is h = cc
prod_full_head d ts at s (t ∷ us) is h =
    ap (λ o. chosen (on_prod_sign (λ _. refuse too_long begins_appl) o) (give x_end) t us) h
    ∙ ap (refuse too_long begins_appl) (next_place ts at t us is)

pub prod_full : (d : Deeper) (room : ℕ) (ts : List Token) (at : ℕ) (s : ProdSign)
    → first_sign prod_sign_of (drop at ts) ≡ Some s
    → room ≡ 0
    → prod_on d room (drop at ts) ≡ refuse too_long begins_appl (drop (at + 1) ts)
prod_full d (suc n) ts at s h none = absurd (omega (arith, none))
prod_full d zero ts at s h none = prod_full_head d ts at s (drop at ts) refl h

prod_more_head : (d : Deeper) (n : ℕ) (ts : List Token) (at : ℕ) (s : ProdSign) (us : List Token)
    → drop at ts ≡ us
    → first_sign prod_sign_of us ≡ Some s
    → prod_on d (suc n) us ≡ (appl_reader d >>= (λ a. prod_on d n >>= (λ rest. give (x_more s a rest)))) (drop (at + 1) ts)
unfolding prod_on either
prod_more_head d n ts at s [] is h = cc
prod_more_head d n ts at s (t ∷ us) is h =
    ap (λ o. chosen (on_prod_sign (λ z. appl_reader d >>= (λ a. prod_on d n >>= (λ rest. give (x_more z a rest)))) o) (give x_end) t us) h
    ∙ ap (appl_reader d >>= (λ a. prod_on d n >>= (λ rest. give (x_more s a rest)))) (next_place ts at t us is)

pub prod_more : (d : Deeper) (room : ℕ) (ts : List Token) (at : ℕ) (s : ProdSign)
    → first_sign prod_sign_of (drop at ts) ≡ Some s
    → 0 < room
    → prod_on d room (drop at ts) ≡ (appl_reader d >>= (λ a. prod_on d (room - 1) >>= (λ rest. give (x_more s a rest)))) (drop (at + 1) ts)
prod_more d zero ts at s h some = absurd (omega (arith, some))
prod_more d (suc n) ts at s h some =
    let less : n ≡ suc n - 1 = omega arith in
    prod_more_head d n ts at s (drop at ts) refl h
    ∙ ap (λ m. (appl_reader d >>= (λ a. prod_on d m >>= (λ rest. give (x_more s a rest)))) (drop (at + 1) ts)) less

pub sum_none : (d : Deeper) (n : ℕ) (us : List Token) → first_sign sum_sign_of us ≡ None → sum_on d n us ≡ Ok (s_end, us)
unfolding sum_on either give
sum_none d zero [] h = refl
sum_none d (suc n) [] h = refl
sum_none d zero (t ∷ us) h = no_sum_sign _ (give s_end) t us (sum_sign_of t.kind) h
sum_none d (suc n) (t ∷ us) h = no_sum_sign _ (give s_end) t us (sum_sign_of t.kind) h

sum_full_head : (d : Deeper) (ts : List Token) (at : ℕ) (s : SumSign) (us : List Token)
    → drop at ts ≡ us
    → first_sign sum_sign_of us ≡ Some s
    → sum_on d 0 us ≡ refuse too_long begins_appl (drop (at + 1) ts)
unfolding sum_on either
sum_full_head d ts at s [] is h = cc
sum_full_head d ts at s (t ∷ us) is h =
    ap (λ o. chosen (on_sum_sign (λ _. refuse too_long begins_appl) o) (give s_end) t us) h
    ∙ ap (refuse too_long begins_appl) (next_place ts at t us is)

pub sum_full : (d : Deeper) (room : ℕ) (ts : List Token) (at : ℕ) (s : SumSign)
    → first_sign sum_sign_of (drop at ts) ≡ Some s
    → room ≡ 0
    → sum_on d room (drop at ts) ≡ refuse too_long begins_appl (drop (at + 1) ts)
sum_full d (suc n) ts at s h none = absurd (omega (arith, none))
sum_full d zero ts at s h none = sum_full_head d ts at s (drop at ts) refl h

sum_more_head : (d : Deeper) (n : ℕ) (ts : List Token) (at : ℕ) (s : SumSign) (us : List Token)
    → drop at ts ≡ us
    → first_sign sum_sign_of us ≡ Some s
    → sum_on d (suc n) us ≡ (prod_reader d >>= (λ p. sum_on d n >>= (λ rest. give (s_more s p rest)))) (drop (at + 1) ts)
unfolding sum_on either
sum_more_head d n ts at s [] is h = cc
sum_more_head d n ts at s (t ∷ us) is h =
    ap (λ o. chosen (on_sum_sign (λ z. prod_reader d >>= (λ p. sum_on d n >>= (λ rest. give (s_more z p rest)))) o) (give s_end) t us) h
    ∙ ap (prod_reader d >>= (λ p. sum_on d n >>= (λ rest. give (s_more s p rest)))) (next_place ts at t us is)

pub sum_more : (d : Deeper) (room : ℕ) (ts : List Token) (at : ℕ) (s : SumSign)
    → first_sign sum_sign_of (drop at ts) ≡ Some s
    → 0 < room
    → sum_on d room (drop at ts) ≡ (prod_reader d >>= (λ p. sum_on d (room - 1) >>= (λ rest. give (s_more s p rest)))) (drop (at + 1) ts)
sum_more d zero ts at s h some = absurd (omega (arith, some))
sum_more d (suc n) ts at s h some =
    let less : n ≡ suc n - 1 = omega arith in
    sum_more_head d n ts at s (drop at ts) refl h ∙ ap (λ m. (prod_reader d >>= (λ p. sum_on d m >>= (λ rest. give (s_more s p rest)))) (drop (at + 1) ts)) less

-- ---- the levels

pub further_is : (left : ℕ) → (deeper 63 left).further ≡ 63
unfolding deeper
further_is zero = refl
further_is (suc n) = further_is n

-- ---- chains of at most 64 operands

pub apply_is : (left : ℕ) (us : List Token)
    → apply_on (deeper 63 left) us
    ≡ (atom_reader (deeper 63 left) >>= (λ a. parts_on (deeper 63 left) 63 >>= (λ ps. give (l_apply a ps)))) us
apply_is left us = ap (λ n. (atom_reader (deeper 63 left) >>= (λ a. parts_on (deeper 63 left) n >>= (λ ps. give (l_apply a ps)))) us) (further_is left)

pub prod_is : (left : ℕ) (us : List Token)
    → prod_reader (deeper 63 left) us
    ≡ (appl_reader (deeper 63 left) >>= (λ a. prod_on (deeper 63 left) 63 >>= (λ rest. give (x_prod a rest)))) us
unfolding prod_reader
prod_is left us = ap (λ n. (appl_reader (deeper 63 left) >>= (λ a. prod_on (deeper 63 left) n >>= (λ rest. give (x_prod a rest)))) us) (further_is left)

pub sum_is : (left : ℕ) (us : List Token)
    → sum_reader (deeper 63 left) us
    ≡ (prod_reader (deeper 63 left) >>= (λ p. sum_on (deeper 63 left) 63 >>= (λ rest. give (s_sum p rest)))) us
unfolding sum_reader
sum_is left us = ap (λ n. (prod_reader (deeper 63 left) >>= (λ p. sum_on (deeper 63 left) n >>= (λ rest. give (s_sum p rest)))) us) (further_is left)
