-- The readers at every level, and those of declarations and files, tell the truth.
use Rattle.std.proofs.Common.{◌≡◌, ℕ, zero, suc, ◌+◌, ◌≤◌, List, [], ◌∷◌, ◌++◌, refl, sym, ap, arith}
use Rattle.htt_lexer_tokens.specs.declared.tokens.Kind.{Kind}
use Rattle.htt_lexer_tokens.specs.declared.tokens.Kind.TheVariants.{Keyword, Sign}
use Rattle.htt_lexer_tokens.specs.declared.tokens.Keyword.TheVariants.{TypeWord, PredWord, DefWord, ValWord, ProofWord, AutoWord, InductWord}
use Rattle.htt_lexer_tokens.specs.declared.tokens.Sign.TheVariants.{OpenParenSign, CloseParenSign, OpenBracketSign, CloseBracketSign, OpenBraceSign}
use Rattle.htt_lexer_tokens.specs.declared.tokens.Sign.TheVariants.{CloseBraceSign, CommaSign, ColonSign, DotSign, EqualSign}
use Rattle.htt_parser_trees.specs.declared.place.Span.{Span}
use Rattle.htt_parser_trees.specs.Trees.{RawTyTree, RawTermTree, mono_param, body_proof, RawDeclTree, decl_type, decl_pred, decl_def, decl_val, decl_proof}
use Rattle.theory_grammar.specs.Marks.{Mark, Limits, ◌⨟◌, sign, word, name, separated, each_after}
use Rattle.theory_grammar.specs.Grammar
use Rattle.theory_grammar.specs.Readers.{measured, give, ◌>>=◌, if_first, after_commas}
use Rattle.theory_grammar.specs.Phrases.{Deeper, a_name_there, is_close}
use Rattle.theory_reading.proofs.Tells.{Tells, Told, alone, told_then, told_last, told_give, told_stop, told_refuse, Case, told_either, told_first}
use Rattle.theory_reading.proofs.Tells.{list_in_brackets, reround}
use Rattle.theory_grammar.specs.Reading.{deeper, mono_parameter_reader, mono_parameters_reader, pred_on, induct_on, pred_case, body_case, body_reader, typed_on}
use Rattle.theory_grammar.specs.Reading.{decl_case, decl_reader, file_on}
use Rattle.theory_reading.proofs.Words.{Trusts, Stands, at_word, a_word, a_sign', skip, binder_tells, name_tells, number_tells, more_tell, mono_tells}
use Rattle.theory_reading.proofs.Terms.{ty_tells, term_tells, comp_tells}
use Rattle.theory_reading.proofs.Formulas.{formula_tells, disj_tells, conj_tells, star_tells}
use Rattle.theory_reading.proofs.Proofs.{proof_tells}

pub trusts : (lim : Limits) (further n l : ℕ) → suc further ≤ lim.chain → n + l ≤ suc lim.nesting → Trusts lim (deeper further n) l
unfolding deeper
trusts lim further zero l chain room = record {
  further = chain;
  ty = alone (told_refuse _ _);
  term = alone (told_refuse _ _);
  comp = alone (told_refuse _ _);
  formula = alone (told_refuse _ _);
  disj = alone (told_refuse _ _);
  conj = alone (told_refuse _ _);
  star = alone (told_refuse _ _);
  mono = alone (told_refuse _ _);
  proof = alone (told_refuse _ _);
}
trusts lim further (suc n) l chain room =
    let next : Trusts lim (deeper further n) (suc l) = trusts lim further n (suc l) chain (grind (arith, room)) in
    let here : Stands lim l = record { level = omega (arith, room); chain = omega (arith, chain) } in
    let d = deeper further n in
    record {
      further = next.further;
      ty = ty_tells d l here next;
      term = term_tells d l here next;
      comp = comp_tells d l here next;
      formula = formula_tells d l here next;
      disj = disj_tells d l here next;
      conj = conj_tells d l here next;
      star = star_tells d l here next;
      mono = mono_tells d l here next;
      proof = proof_tells d l here next;
    }

module _ {lim : Limits} (d : Deeper) (here : Stands lim 0) (trust : Trusts lim d 1) where
  pub mono_parameter_tells : Tells lim (mono_parameter_reader d) Grammar.mono_parameter
  unfolding mono_parameter_reader ◌⨟◌
  mono_parameter_tells = alone (told_then _ (name_tells 0 here) (λ x. skip 0 here ColonSign _ (told_last (mono_param x) trust.mono (λ m. refl))))

  pub some_parameters_tell :
      Tells lim (if_first is_close (give [])
      (mono_parameter_reader d >>= (λ p. measured (after_commas (Sign CommaSign) (mono_parameter_reader d)) >>= (λ ps. give (p ∷ ps)))))
      (separated (sign 0 CommaSign) Grammar.mono_parameter)
  some_parameters_tell =
      alone (told_first _ (told_give _ refl)
      (told_then _ mono_parameter_tells (λ p.
      told_last (λ ps. p ∷ ps) (more_tell 0 here (mono_parameter_reader d) Grammar.mono_parameter mono_parameter_tells) (λ ps. refl))))

  pub mono_parameters_tell : Tells lim (mono_parameters_reader d) Grammar.mono_parameters
  unfolding mono_parameters_reader ◌⨟◌
  mono_parameters_tell = alone (skip 0 here OpenParenSign _ (told_then _ some_parameters_tell (λ ps. skip 0 here CloseParenSign _ (told_give ps refl))))

  pred_told : (x : Span) (xs : List Span) → Told lim (λ ns. word 0 PredWord ⨟ (name 0 x ⨟ (Grammar.names xs ⨟ ns))) (pred_on d x xs) Grammar.decl
  unfolding pred_on ◌⨟◌
  pred_told x xs = told_then _ mono_parameters_tell (λ ps. skip 0 here EqualSign _ (told_last (decl_pred x xs ps) trust.formula (λ f. refl)))

  induct_told : (x : Span) → Told lim (λ ns. word 0 PredWord ⨟ (name 0 x ⨟ (word 0 InductWord ⨟ ns))) (induct_on d x) Grammar.decl
  unfolding induct_on ◌⨟◌
  induct_told x =
      told_then _ (binder_tells 0 here) (λ b.
      told_then _ mono_parameters_tell (λ ps.
      skip 0 here EqualSign _ (skip 0 here OpenBraceSign _
      (told_then _ trust.formula (λ f.
      skip 0 here CloseBraceSign _
      (skip 0 here OpenBraceSign _ (told_then _ trust.formula (λ g. skip 0 here CloseBraceSign _ (told_give _ refl)))))))))

  pred_case_told : (x : Span) (k : Kind) (s : Span) → Case lim (λ ns. word 0 PredWord ⨟ (name 0 x ⨟ ns)) Grammar.decl k s (pred_case d x k)
  unfolding ◌⨟◌
  pred_case_told x (Keyword InductWord) s = a_word 0 here InductWord s _ (induct_told x)
  pred_case_told x (Sign OpenBracketSign) s =
      a_sign' 0 here OpenBracketSign s _
      (told_then _ (name_tells 0 here)
      (λ a. told_then _ (more_tell 0 here a_name_there (name 0) (name_tells 0 here)) (λ xs. skip 0 here CloseBracketSign _
      (reround _ _ (λ ns.
      ap (λ ms. word 0 PredWord ++ (name 0 x ++ (sign 0 OpenBracketSign ++ ms)))
      (sym (list_in_brackets (name 0 a) (each_after (sign 0 CommaSign) (name 0) xs) (sign 0 CloseBracketSign) ns)))
      (pred_told x (a ∷ xs))))))
  pred_case_told x _ s = tt

  body_told : (k : Kind) (s : Span) → Case lim (λ ns. ns) Grammar.body k s (body_case k)
  unfolding ◌⨟◌
  body_told (Keyword AutoWord) s = at_word 0 here AutoWord s _ (told_give _ refl)
  body_told _ s = tt

  pub body_tells : Tells lim (body_reader d) Grammar.body
  unfolding body_reader
  body_tells = alone (told_either _ body_told (told_last body_proof trust.proof (λ p. refl)))

  typed_told : (round : List Mark → List Mark) (make : Span → RawTyTree → RawTermTree → RawDeclTree)
      → ((x : Span) (a : RawTyTree) (m : RawTermTree) →
      round (name 0 x ⨟ (sign 0 ColonSign ⨟ (Grammar.ty 1 a ⨟ (sign 0 EqualSign ⨟ Grammar.term 1 m)))) ≡ Grammar.decl (make x a m))
      → Told lim round (typed_on d make) Grammar.decl
  unfolding typed_on
  typed_told round make same =
      told_then _ (name_tells 0 here) (λ x.
      skip 0 here ColonSign _ (told_then _ trust.ty (λ a. skip 0 here EqualSign _ (told_last (make x a) trust.term (λ m. same x a m)))))

  decl_told : (k : Kind) (s : Span) → Case lim (λ ns. ns) Grammar.decl k s (decl_case d k)
  unfolding ◌⨟◌
  decl_told (Keyword TypeWord) s =
      a_word 0 here TypeWord s _
      (told_then _ (name_tells 0 here) (λ x. skip 0 here EqualSign _ (told_last (decl_type x) trust.mono (λ m. refl))))
  decl_told (Keyword PredWord) s = a_word 0 here PredWord s _ (told_then _ (name_tells 0 here) (λ x. told_either _ (pred_case_told x) (pred_told x [])))
  decl_told (Keyword DefWord) s = a_word 0 here DefWord s _ (typed_told (λ ns. word 0 DefWord ⨟ ns) decl_def (λ x a m. refl))
  decl_told (Keyword ValWord) s = a_word 0 here ValWord s _ (typed_told (λ ns. word 0 ValWord ⨟ ns) decl_val (λ x a m. refl))
  decl_told (Keyword ProofWord) s =
      at_word 0 here ProofWord s _
      (told_then _ (name_tells 0 here) (λ x.
      skip 0 here DotSign _
      (told_then _ (number_tells 0 here) (λ v. skip 0 here EqualSign _ (told_last (decl_proof s.from x v) body_tells (λ b. refl))))))
  decl_told _ s = tt

  pub decl_tells : Tells lim (decl_reader d) Grammar.decl
  unfolding decl_reader
  decl_tells = alone (told_either _ decl_told told_stop)

  pub file_tells : (m : ℕ) → Tells lim (file_on d m) Grammar.file
  unfolding file_on
  file_tells zero = alone (told_first _ (told_refuse _ _) (told_give _ refl))
  file_tells (suc m) = alone (told_first _ (told_then _ decl_tells (λ x. told_last (λ xs. x ∷ xs) (file_tells m) (λ xs. refl))) (told_give _ refl))
