-- Stops at a limit at every level, and in declarations and files.
use Rattle.htt_lexer_tokens.specs.declared.tokens.Kind.{Kind}
use Rattle.htt_lexer_tokens.specs.declared.tokens.Kind.TheVariants.{Keyword, Sign}
use Rattle.htt_lexer_tokens.specs.declared.tokens.Keyword.TheVariants.{TypeWord, PredWord, DefWord, ValWord, ProofWord, AutoWord, InductWord}
use Rattle.htt_lexer_tokens.specs.declared.tokens.Sign.TheVariants.{OpenParenSign, CloseParenSign, OpenBracketSign, CloseBracketSign, OpenBraceSign}
use Rattle.htt_lexer_tokens.specs.declared.tokens.Sign.TheVariants.{CloseBraceSign, CommaSign, ColonSign, DotSign, EqualSign}
use Rattle.htt_parser_trees.specs.declared.place.Span.{Span}
use Rattle.htt_parser_trees.specs.Trees.{RawTyTree, RawTermTree, mono_param, body_proof, RawDeclTree, decl_type, decl_pred, decl_def, decl_val, decl_proof}
use Rattle.theory_grammar.specs.Marks.{Mark, Limits, ◌⨟◌, sign, word, name, separated, each_after}
use Rattle.theory_grammar.specs.Grammar
use Rattle.theory_grammar.specs.Readers.{measured, give, ◌>>=◌, if_first, after_commas}
use Rattle.theory_grammar.specs.Phrases.{Deeper, a_name_there, is_close}
use Rattle.theory_grammar.specs.Reading.{deeper, mono_parameter_reader, mono_parameters_reader, pred_on, induct_on, pred_case, body_case, body_reader, typed_on}
use Rattle.theory_grammar.specs.Reading.{decl_case, decl_reader, file_on}
use Rattle.std.proofs.Common.{◌≡◌, ℕ, zero, suc, ◌+◌, ◌<◌, ◌≤◌, List, [], ◌∷◌, ◌++◌, refl, sym, ap, arith}
use Rattle.theory_reading.proofs.Tells.{list_in_brackets}
use Rattle.theory_reading.proofs.Words.{Trusts, Stands}
use Rattle.theory_reading_limits.proofs.Bars.{Bars, Barred, Case, same_ok, bars_then, bars_last, bars_give, bars_stop, bars_refuse, bars_reround, bars_either}
use Rattle.theory_reading_limits.proofs.Bars.{bars_first, bars_deep, bars_many}
use Rattle.theory_reading_limits.proofs.Words.{Bar, at_word, a_word, a_sign', skip, binder_barred, name_barred, number_barred, more_barred, mono_barred}
use Rattle.theory_grammar.specs.Beginnings.{begins_mono, begins_ty, begins_term, begins_comp, begins_fatom, begins_formula, begins_proof}
use Rattle.theory_grammar.proofs.Opens.{opens_ty, opens_term, opens_comp, opens_formula, opens_disj, opens_conj, opens_star, opens_mono, opens_proof}
use Rattle.theory_reading.proofs.Files as told_here
use Rattle.theory_reading_places.proofs.Follows.{in_all}
use Rattle.theory_reading_places.proofs.Words.{Follow, Chain, chain_less, chain_none}
use Rattle.theory_reading_places.proofs.Words as words
use Rattle.theory_reading_places.proofs.Files.{follow_greater}
use Rattle.theory_reading_places.proofs.Files as places
use Rattle.theory_reading_limits.proofs.Terms.{ty_barred, term_barred, comp_barred}
use Rattle.theory_reading_limits.proofs.Formulas.{formula_barred, disj_barred, conj_barred, star_barred}
use Rattle.theory_reading_limits.proofs.Proofs.{proof_barred}

pub bar : (lim : Limits) (further more n m l : ℕ)
    → suc further ≡ lim.chain
    → n + l ≡ suc lim.nesting
    → further ≤ more
    → n ≤ m
    → Bar lim (deeper further n) (deeper more m) l
unfolding deeper
bar lim further more zero m l chain room wide deep =
    let trust : Trusts lim (deeper further zero) l = told_here.trusts lim further zero l (omega (arith, chain)) (omega (arith, room)) in
    let follow : Follow in_all (deeper further zero) (deeper more m) = follow_greater further more zero m wide deep in
    let past : lim.nesting < l = omega (arith, room) in
    record {
      trust = trust;
      follow = follow;
      further = chain;
      ty = record { tells = trust.ty; same = same_ok (λ i k. follow.ty); bars = bars_deep begins_ty l past (opens_ty l) };
      term = record { tells = trust.term; same = same_ok (λ i k. follow.term); bars = bars_deep begins_term l past (opens_term l) };
      comp = record { tells = trust.comp; same = same_ok (λ i k. follow.comp); bars = bars_deep begins_comp l past (opens_comp l) };
      formula = record { tells = trust.formula; same = same_ok (λ i k. follow.formula); bars = bars_deep begins_formula l past (opens_formula l) };
      disj = record { tells = trust.disj; same = same_ok (λ i k. follow.disj); bars = bars_deep begins_fatom l past (opens_disj l) };
      conj = record { tells = trust.conj; same = same_ok (λ i k. follow.conj); bars = bars_deep begins_fatom l past (opens_conj l) };
      star = record { tells = trust.star; same = same_ok (λ i k. follow.star); bars = bars_deep begins_fatom l past (opens_star l) };
      mono = record { tells = trust.mono; same = same_ok (λ i k. follow.mono); bars = bars_deep begins_mono l past (opens_mono l) };
      proof = record { tells = trust.proof; same = same_ok (λ i k. follow.proof); bars = bars_deep begins_proof l past (opens_proof l) };
    }
bar lim further more (suc n) zero l chain room wide deep = absurd (let no : ⊥ = omega (arith, deep) in no)
bar lim further more (suc n) (suc m) l chain room wide deep =
    let next : Bar lim (deeper further n) (deeper more m) (suc l) = bar lim further more n m (suc l) chain (grind (arith, room)) wide (omega (arith, deep)) in
    let here : Stands lim l = record { level = omega (arith, room); chain = omega (arith, chain) } in
    let d = deeper further n in
    let d' = deeper more m in
    record {
      trust = told_here.trusts lim further (suc n) l (omega (arith, chain)) (omega (arith, room));
      follow = follow_greater further more (suc n) (suc m) wide deep;
      further = next.further;
      ty = ty_barred d d' l here next;
      term = term_barred d d' l here next;
      comp = comp_barred d d' l here next;
      formula = formula_barred d d' l here next;
      disj = disj_barred d d' l here next;
      conj = conj_barred d d' l here next;
      star = star_barred d d' l here next;
      mono = mono_barred d d' l here next;
      proof = proof_barred d d' l here next;
    }

module _ {lim : Limits} (d d' : Deeper) (here : Stands lim 0) (trust : Bar lim d d' 1) where
  mono_parameter_barred : Barred lim (mono_parameter_reader d) (mono_parameter_reader d') Grammar.mono_parameter
  unfolding mono_parameter_reader ◌⨟◌
  mono_parameter_barred = record {
    tells = told_here.mono_parameter_tells d here trust.trust;
    same = same_ok (λ n m. places.mono_parameter_follows d d' trust.follow);
    bars = bars_then (name_barred 0 here) (λ x. skip 0 here ColonSign (λ _. bars_last (mono_param x) trust.mono.bars (λ m. refl)));
  }

  some_parameters_barred :
      Barred lim (if_first is_close (give [])
      (mono_parameter_reader d >>= (λ p. measured (after_commas (Sign CommaSign) (mono_parameter_reader d)) >>= (λ ps. give (p ∷ ps)))))
      (if_first is_close (give [])
      (mono_parameter_reader d' >>= (λ p. measured (after_commas (Sign CommaSign) (mono_parameter_reader d')) >>= (λ ps. give (p ∷ ps)))))
      (separated (sign 0 CommaSign) Grammar.mono_parameter)
  some_parameters_barred = record {
    tells = told_here.some_parameters_tell d here trust.trust;
    same = same_ok (λ n m. places.some_parameters_follow d d' trust.follow);
    bars =
        bars_first _ (bars_give _ refl)
        (bars_then mono_parameter_barred (λ p.
        bars_last (λ ps. p ∷ ps) (more_barred 0 here (mono_parameter_reader d) (mono_parameter_reader d') Grammar.mono_parameter
        (λ n m. places.mono_parameter_follows d d' trust.follow) mono_parameter_barred).bars (λ ps. refl)));
  }

  mono_parameters_barred : Barred lim (mono_parameters_reader d) (mono_parameters_reader d') Grammar.mono_parameters
  unfolding mono_parameters_reader ◌⨟◌
  mono_parameters_barred = record {
    tells = told_here.mono_parameters_tell d here trust.trust;
    same = same_ok (λ n m. places.mono_parameters_follow d d' trust.follow);
    bars = skip 0 here OpenParenSign (λ _. bars_then some_parameters_barred (λ ps. skip 0 here CloseParenSign (λ _. bars_give ps refl)));
  }

  pred_bars : (x : Span) (xs : List Span)
      → Bars lim (λ ns. word 0 PredWord ⨟ (name 0 x ⨟ (Grammar.names xs ⨟ ns))) (pred_on d x xs) (pred_on d' x xs) Grammar.decl
  unfolding pred_on ◌⨟◌
  pred_bars x xs = bars_then mono_parameters_barred (λ ps. skip 0 here EqualSign (λ _. bars_last (decl_pred x xs ps) trust.formula.bars (λ f. refl)))

  induct_bars : (x : Span) → Bars lim (λ ns. word 0 PredWord ⨟ (name 0 x ⨟ (word 0 InductWord ⨟ ns))) (induct_on d x) (induct_on d' x) Grammar.decl
  unfolding induct_on ◌⨟◌
  induct_bars x =
      bars_then (binder_barred 0 here) (λ b.
      bars_then mono_parameters_barred (λ ps.
      skip 0 here EqualSign (λ _.
      skip 0 here OpenBraceSign (λ _.
      bars_then trust.formula (λ f.
      skip 0 here CloseBraceSign
      (λ _. skip 0 here OpenBraceSign (λ _. bars_then trust.formula (λ g. skip 0 here CloseBraceSign (λ _. bars_give _ refl)))))))))

  pred_case_bars : (x : Span) (k : Kind) (s : Span) → Case lim (λ ns. word 0 PredWord ⨟ (name 0 x ⨟ ns)) Grammar.decl k s (pred_case d x k) (pred_case d' x k)
  unfolding ◌⨟◌
  pred_case_bars x (Keyword InductWord) s = a_word 0 here InductWord s (induct_bars x)
  pred_case_bars x (Sign OpenBracketSign) s =
      a_sign' 0 here OpenBracketSign s
      (bars_then (name_barred 0 here) (λ a.
      bars_then (more_barred 0 here a_name_there a_name_there (name 0) (λ n m. words.name_follows) (name_barred 0 here)) (λ xs.
      skip 0 here CloseBracketSign (λ _.
      bars_reround _ _ (λ ns.
      ap (λ ms. word 0 PredWord ++ (name 0 x ++ (sign 0 OpenBracketSign ++ ms)))
      (sym (list_in_brackets (name 0 a) (each_after (sign 0 CommaSign) (name 0) xs) (sign 0 CloseBracketSign) ns)))
      (pred_bars x (a ∷ xs))))))
  pred_case_bars x _ s = tt

  body_bars : (k : Kind) (s : Span) → Case lim (λ ns. ns) Grammar.body k s (body_case k) (body_case k)
  unfolding ◌⨟◌
  body_bars (Keyword AutoWord) s = at_word 0 here AutoWord s (bars_give _ refl)
  body_bars _ s = tt

  body_barred : Barred lim (body_reader d) (body_reader d') Grammar.body
  unfolding body_reader
  body_barred = record {
    tells = told_here.body_tells d here trust.trust;
    same = same_ok (λ n m. places.body_follows d d' trust.follow);
    bars = bars_either _ _ body_bars (bars_last body_proof trust.proof.bars (λ p. refl));
  }

  typed_bars : (round : List Mark → List Mark) (make : Span → RawTyTree → RawTermTree → RawDeclTree)
      → ((x : Span) (a : RawTyTree) (m : RawTermTree) →
      round (name 0 x ⨟ (sign 0 ColonSign ⨟ (Grammar.ty 1 a ⨟ (sign 0 EqualSign ⨟ Grammar.term 1 m)))) ≡ Grammar.decl (make x a m))
      → Bars lim round (typed_on d make) (typed_on d' make) Grammar.decl
  unfolding typed_on
  typed_bars round make same =
      bars_then (name_barred 0 here) (λ x.
      skip 0 here ColonSign
      (λ _. bars_then trust.ty (λ a. skip 0 here EqualSign (λ _. bars_last (make x a) trust.term.bars (λ m. same x a m)))))

  decl_bars : (k : Kind) (s : Span) → Case lim (λ ns. ns) Grammar.decl k s (decl_case d k) (decl_case d' k)
  unfolding ◌⨟◌
  decl_bars (Keyword TypeWord) s =
      a_word 0 here TypeWord s
      (bars_then (name_barred 0 here) (λ x. skip 0 here EqualSign (λ _. bars_last (decl_type x) trust.mono.bars (λ m. refl))))
  decl_bars (Keyword PredWord) s = a_word 0 here PredWord s (bars_then (name_barred 0 here) (λ x. bars_either _ _ (pred_case_bars x) (pred_bars x [])))
  decl_bars (Keyword DefWord) s = a_word 0 here DefWord s (typed_bars (λ ns. word 0 DefWord ⨟ ns) decl_def (λ x a m. refl))
  decl_bars (Keyword ValWord) s = a_word 0 here ValWord s (typed_bars (λ ns. word 0 ValWord ⨟ ns) decl_val (λ x a m. refl))
  decl_bars (Keyword ProofWord) s =
      at_word 0 here ProofWord s
      (bars_then (name_barred 0 here) (λ x.
      skip 0 here DotSign (λ _.
      bars_then (number_barred 0 here) (λ v. skip 0 here EqualSign (λ _. bars_last (decl_proof s.from x v) body_barred.bars (λ b. refl))))))
  decl_bars _ s = tt

  decl_barred : Barred lim (decl_reader d) (decl_reader d') Grammar.decl
  unfolding decl_reader
  decl_barred = record {
    tells = told_here.decl_tells d here trust.trust;
    same = same_ok (λ n m. places.decl_follows d d' trust.follow);
    bars = bars_either _ _ decl_bars bars_stop;
  }

  pub file_bars : (m j : ℕ) → Chain in_all m j → Bars lim (λ ns. ns) (file_on d m) (file_on d' j) Grammar.file
  unfolding file_on
  file_bars zero zero chain = bars_first _ (bars_refuse _ _) (bars_give _ refl)
  file_bars zero (suc j) chain = bars_first _ (bars_many _) (bars_give _ refl)
  file_bars (suc m) zero chain = absurd (chain_none in_all m chain)
  file_bars (suc m) (suc j) chain =
      bars_first _ (bars_then decl_barred (λ x. bars_last (λ xs. x ∷ xs) (file_bars m j (chain_less in_all m j chain)) (λ xs. refl)))
      (bars_give _ refl)
