-- The readers of proofs tell the truth.
use Rattle.std.proofs.Common.{◌≡◌, ℕ, zero, suc, ◌+◌, ◌≤◌, List, [], ◌∷◌, ◌++◌, refl, sym, ap, arith, append_assoc}
use Rattle.htt_lexer_tokens.specs.declared.tokens.Kind.{Kind}
use Rattle.htt_lexer_tokens.specs.declared.tokens.Kind.TheVariants.{Name, Keyword, Sign}
use Rattle.htt_lexer_tokens.specs.declared.tokens.Keyword.TheVariants.{IntroWord, GenWord, HaveWord, OpenWord, BothWord, LeftWord, RightWord, GiveWord}
use Rattle.htt_lexer_tokens.specs.declared.tokens.Keyword.TheVariants.{TrivialWord, ReflWord, AbsurdWord, CaseWord, RewriteWord, InductWord, SplitWord}
use Rattle.htt_lexer_tokens.specs.declared.tokens.Keyword.TheVariants.{FirstWord, SecondWord, AppWord, InstWord, AxiomWord, LemWord, TheWord}
use Rattle.htt_lexer_tokens.specs.declared.tokens.Sign.TheVariants.{OpenParenSign, CloseParenSign, OpenBracketSign, CloseBracketSign, CommaSign, SemicolonSign}
use Rattle.htt_lexer_tokens.specs.declared.tokens.Sign.TheVariants.{ColonSign, DotSign, EqualSign, AtSign}
use Rattle.htt_parser_trees.specs.declared.place.Span.{Span}
use Rattle.htt_parser_trees.specs.declared.proof.UnaryRule.{UnaryRule}
use Rattle.htt_parser_trees.specs.declared.proof.UnaryRule.TheVariants as unary_rules
use Rattle.htt_parser_trees.specs.Trees.{RawArgTree, arg_heap, arg_term, RawProofTree, RawEndTree, p_end, p_step, e_axiom, more_proofs}
use Rattle.theory_grammar.specs.Marks.{Mark, Limits, ◌⨟◌, sign, name, number, word_at, each_after}
use Rattle.theory_grammar.specs.Grammar
use Rattle.theory_grammar.specs.Readers.{give, ◌>>=◌, token}
use Rattle.theory_grammar.specs.Phrases.{Deeper}
use Rattle.theory_reading.proofs.Tells.{Tells, Told, alone, told_then, told_last, told_give, told_stop, told_refuse, Case, told_either, told_first}
use Rattle.theory_reading.proofs.Tells.{tells_measured, list_in_brackets}
use Rattle.theory_grammar.specs.Reading.{arg_case, arg_reader, more_args, args_there, motive_reader, args_on, proofs_on, app_more, inst_more, unary_reader}
use Rattle.theory_grammar.specs.Reading.{axiom_case, end_case, end_reader, stmt_case, stmt_reader, proof_on, proof_reader}
use Rattle.theory_reading.proofs.Words.{Trusts, Stands, numbered_tells, at_word, at_sign, a_sign', a_name', or_sign, skip, binder_tells, name_tells}
use Rattle.theory_reading.proofs.Words.{number_tells, heap_tells, more_tell, mono_tells, more_monos_tell}
use Rattle.theory_reading.proofs.Terms.{chain_next, chain_now}

module _ {lim : Limits} (d : Deeper) (l : ℕ) (here : Stands lim l) (trust : Trusts lim d (suc l)) where
  arg_told : (k : Kind) (s : Span) → Case lim (λ ns. ns) (Grammar.arg l) k s (arg_case k)
  arg_told (Sign AtSign) s = at_sign l here AtSign s _ (told_last (arg_heap s.from) (heap_tells l here) (λ h. refl))
  arg_told _ s = tt

  pub arg_tells : Tells lim (arg_reader d) (Grammar.arg l)
  unfolding arg_reader
  arg_tells = alone (told_either _ arg_told (told_last arg_term trust.term (λ m. refl)))

  pub more_args_tell : Tells lim (more_args d) (each_after (sign l CommaSign) (Grammar.arg l))
  unfolding more_args
  more_args_tell = more_tell l here (arg_reader d) (Grammar.arg l) arg_tells

  pub args_tell : Tells lim (args_there d) (Grammar.args l)
  unfolding args_there
  args_tell = alone (told_first _ (told_give _ refl) (told_then _ arg_tells (λ a. told_last (λ more. a ∷ more) more_args_tell (λ more. refl))))

  pub motive_tells : Tells lim (motive_reader d) (Grammar.motive l)
  unfolding motive_reader ◌⨟◌
  motive_tells =
      alone (told_then _ (binder_tells l here) (λ b.
      skip l here DotSign _
      (skip l here OpenBracketSign _ (told_then _ trust.formula (λ f. skip l here CloseBracketSign _ (told_give _ refl))))))

  pub args_on_tell : (m k : ℕ) → k + m ≤ suc lim.chain → Tells lim (args_on d m) (Grammar.args_after l k)
  unfolding args_on ◌⨟◌
  args_on_tell zero k room = alone (or_sign l here CommaSign _ _ (told_refuse _ _) (told_give _ refl))
  args_on_tell (suc m) k room =
      alone (or_sign l here CommaSign _ _
      (told_then _ (numbered_tells k (chain_now k m lim.chain room) arg_tells)
      (λ a. told_last (λ more. a ∷ more) (args_on_tell m (suc k) (chain_next k m lim.chain room)) (λ more. refl))) (told_give _ refl))

  pub proofs_on_tell : (m k : ℕ) → k + m ≤ suc lim.chain → Tells lim (proofs_on d m) (Grammar.proofs_after l k)
  unfolding proofs_on Grammar.proof ◌⨟◌
  proofs_on_tell zero k room = alone (or_sign l here CommaSign _ _ (told_refuse _ _) (told_give _ refl))
  proofs_on_tell (suc m) k room =
      alone (or_sign l here CommaSign _ _
      (told_then _ (numbered_tells k (chain_now k m lim.chain room) trust.proof)
      (λ a. told_last (more_proofs a) (proofs_on_tell m (suc k) (chain_next k m lim.chain room)) (λ more. refl))) (told_give _ refl))

  all_room : 2 + d.further ≤ suc lim.chain
  all_room = let h = trust.further in omega (arith, h)

  app_told : (m at : ℕ)
      → 2 + m ≤ suc lim.chain
      → (p : RawProofTree)
      → Told lim (λ ns. word_at l AppWord at ⨟ (sign l OpenParenSign ⨟ (Grammar.proof (suc l) p ⨟ (sign l CommaSign ⨟ ns))))
      (app_more d at m p) (Grammar.ending l)
  unfolding app_more Grammar.proof ◌⨟◌
  app_told zero at room p = told_refuse _ _
  app_told (suc m) at room p =
      told_then _ (numbered_tells 2 (chain_now 2 m lim.chain room) trust.proof)
      (λ q. told_then _ (proofs_on_tell m 3 (chain_next 2 m lim.chain room)) (λ qs. skip l here CloseParenSign _ (told_give _ refl)))

  inst_told : (m at : ℕ)
      → 2 + m ≤ suc lim.chain
      → (p : RawProofTree)
      → Told lim (λ ns. word_at l InstWord at ⨟ (sign l OpenParenSign ⨟ (Grammar.proof (suc l) p ⨟ (sign l CommaSign ⨟ ns))))
      (inst_more d at m p) (Grammar.ending l)
  unfolding inst_more Grammar.proof ◌⨟◌
  inst_told zero at room p = told_refuse _ _
  inst_told (suc m) at room p =
      told_then _ (numbered_tells 2 (chain_now 2 m lim.chain room) arg_tells)
      (λ q. told_then _ (args_on_tell m 3 (chain_next 2 m lim.chain room)) (λ qs. skip l here CloseParenSign _ (told_give _ refl)))

  unary_told : (at : ℕ) (w : UnaryRule) → Told lim (λ ns. word_at l (Grammar.unary_rule w) at ⨟ ns) (unary_reader d at w) (Grammar.ending l)
  unfolding unary_reader Grammar.proof ◌⨟◌
  unary_told at w = skip l here OpenParenSign _ (told_then _ trust.proof (λ p. skip l here CloseParenSign _ (told_give _ refl)))

  args_then : {round : List Mark → List Mark} (make : List RawArgTree → RawEndTree)
      → ((more : List RawArgTree) → round (Grammar.args l more ⨟ sign l CloseParenSign) ≡ Grammar.ending l (make more))
      → Told lim round (args_there d >>= (λ more. token (Sign CloseParenSign) >>= (λ _. give (make more)))) (Grammar.ending l)
  unfolding ◌⨟◌
  args_then make same = told_then _ args_tell (λ more. skip l here CloseParenSign _ (told_give _ (same more)))

  axiom_told : (at : ℕ) (x : Span) (k : Kind) (s : Span)
      → Case lim (λ ns. word_at l AxiomWord at ⨟ (name l x ⨟ ns)) (Grammar.ending l) k s (axiom_case d at x k)
  unfolding Grammar.proof ◌⨟◌
  axiom_told at x (Sign DotSign) s =
      a_sign' l here DotSign s _
      (told_then _ (number_tells l here) (λ v.
      skip l here OpenParenSign _ (told_then _ arg_tells (λ a. told_then _ more_args_tell (λ more. skip l here CloseParenSign _ (told_give _
      (ap (λ ns. word_at l AxiomWord at ++ (name l x ++ (sign l DotSign ++ (number l v ++ (sign l OpenParenSign ++ ns)))))
      (sym (append_assoc (Grammar.arg l a) (each_after (sign l CommaSign) (Grammar.arg l) more) (sign l CloseParenSign))))))))))
  axiom_told at x (Sign OpenBracketSign) s =
      a_sign' l here OpenBracketSign s _
      (told_then _ (mono_tells d l here trust) (λ t.
      told_then _ (more_monos_tell d l here trust)
      (λ ts. skip l here CloseBracketSign _ (skip l here OpenParenSign _ (args_then (e_axiom at x (t ∷ ts)) (λ more.
      ap (λ ns. word_at l AxiomWord at ++ (name l x ++ (sign l OpenBracketSign ++ ns)))
      (list_in_brackets (Grammar.mono l t) (each_after (sign l CommaSign) (Grammar.mono l) ts) (sign l CloseBracketSign)
      (sign l OpenParenSign ++ (Grammar.args l more ++ sign l CloseParenSign)))))))))
  axiom_told at x (Sign OpenParenSign) s = a_sign' l here OpenParenSign s _ (args_then (e_axiom at x []) (λ more. refl))
  axiom_told at x _ s = tt

  end_told : (k : Kind) (s : Span) → Case lim (λ ns. ns) (Grammar.ending l) k s (end_case d k)
  unfolding Grammar.proof ◌⨟◌
  end_told Name s = a_name' l here s _ (told_give _ refl)
  end_told (Keyword TrivialWord) s = at_word l here TrivialWord s _ (told_give _ refl)
  end_told (Keyword ReflWord) s = at_word l here ReflWord s _ (told_give _ refl)
  end_told (Keyword FirstWord) s = at_word l here FirstWord s _ (unary_told s.from unary_rules.First)
  end_told (Keyword SecondWord) s = at_word l here SecondWord s _ (unary_told s.from unary_rules.Second)
  end_told (Keyword LeftWord) s = at_word l here LeftWord s _ (unary_told s.from unary_rules.Left)
  end_told (Keyword RightWord) s = at_word l here RightWord s _ (unary_told s.from unary_rules.Right)
  end_told (Keyword AbsurdWord) s = at_word l here AbsurdWord s _ (unary_told s.from unary_rules.Absurd)
  end_told (Keyword BothWord) s =
      at_word l here BothWord s _
      (skip l here OpenParenSign _
      (told_then _ trust.proof
      (λ p. skip l here CommaSign _ (told_then _ trust.proof (λ q. skip l here CloseParenSign _ (told_give _ refl))))))
  end_told (Keyword GiveWord) s =
      at_word l here GiveWord s _
      (skip l here OpenParenSign _
      (told_then _ arg_tells
      (λ a. skip l here CommaSign _ (told_then _ trust.proof (λ q. skip l here CloseParenSign _ (told_give _ refl))))))
  end_told (Keyword AppWord) s =
      at_word l here AppWord s _
      (skip l here OpenParenSign _ (told_then _ trust.proof (λ p. skip l here CommaSign _ (app_told d.further s.from all_room p))))
  end_told (Keyword InstWord) s =
      at_word l here InstWord s _
      (skip l here OpenParenSign _ (told_then _ trust.proof (λ p. skip l here CommaSign _ (inst_told d.further s.from all_room p))))
  end_told (Keyword CaseWord) s =
      at_word l here CaseWord s _
      (skip l here OpenParenSign _
      (told_then _ trust.proof (λ p.
      skip l here CommaSign _ (told_then _ (name_tells l here) (λ u.
      skip l here DotSign _ (told_then _ trust.proof (λ q.
      skip l here CommaSign _ (told_then _ (name_tells l here)
      (λ v. skip l here DotSign _ (told_then _ trust.proof (λ r. skip l here CloseParenSign _ (told_give _ refl))))))))))))
  end_told (Keyword RewriteWord) s =
      at_word l here RewriteWord s _
      (skip l here OpenParenSign _
      (told_then _ trust.proof (λ p.
      skip l here CommaSign _ (told_then _ motive_tells
      (λ m. skip l here CommaSign _ (told_then _ trust.proof (λ q. skip l here CloseParenSign _ (told_give _ refl))))))))
  end_told (Keyword InductWord) s =
      at_word l here InductWord s _
      (skip l here OpenParenSign _
      (told_then _ motive_tells (λ m.
      skip l here CommaSign _ (told_then _ trust.term (λ t.
      skip l here CommaSign _ (told_then _ trust.proof (λ p.
      skip l here CommaSign _ (told_then _ (binder_tells l here) (λ b.
      told_then _ (name_tells l here) (λ u.
      told_then _ (name_tells l here)
      (λ v. skip l here DotSign _ (told_then _ trust.proof (λ q. skip l here CloseParenSign _ (told_give _ refl))))))))))))))
  end_told (Keyword SplitWord) s =
      at_word l here SplitWord s _
      (skip l here OpenParenSign _
      (told_then _ motive_tells (λ m.
      skip l here CommaSign _ (told_then _ trust.term (λ t.
      skip l here CommaSign _ (told_then _ trust.proof
      (λ p. skip l here CommaSign _ (told_then _ trust.proof (λ q. skip l here CloseParenSign _ (told_give _ refl))))))))))
  end_told (Keyword AxiomWord) s = at_word l here AxiomWord s _ (told_then _ (name_tells l here) (λ x. told_either _ (axiom_told s.from x) told_stop))
  end_told (Keyword LemWord) s =
      at_word l here LemWord s _
      (skip l here OpenBracketSign _ (told_then _ trust.formula (λ f. skip l here CloseBracketSign _ (told_give _ refl))))
  end_told (Keyword TheWord) s =
      at_word l here TheWord s _
      (skip l here OpenBracketSign _
      (told_then _ trust.formula (λ f.
      skip l here CloseBracketSign _
      (skip l here OpenParenSign _ (told_then _ trust.proof (λ p. skip l here CloseParenSign _ (told_give _ refl)))))))
  end_told _ s = tt

  stmt_told : (k : Kind) (s : Span) → Case lim (λ ns. ns) (Grammar.stmt l) k s (stmt_case d k)
  unfolding Grammar.proof ◌⨟◌
  stmt_told (Keyword IntroWord) s = at_word l here IntroWord s _ (told_then _ (name_tells l here) (λ u. skip l here SemicolonSign _ (told_give _ refl)))
  stmt_told (Keyword GenWord) s = at_word l here GenWord s _ (told_then _ (binder_tells l here) (λ b. skip l here SemicolonSign _ (told_give _ refl)))
  stmt_told (Keyword OpenWord) s =
      at_word l here OpenWord s _
      (told_then _ (binder_tells l here) (λ b.
      told_then _ (name_tells l here)
      (λ u. skip l here EqualSign _ (told_then _ trust.proof (λ p. skip l here SemicolonSign _ (told_give _ refl))))))
  stmt_told (Keyword HaveWord) s =
      at_word l here HaveWord s _
      (told_then _ (name_tells l here) (λ u.
      skip l here ColonSign _ (skip l here OpenBracketSign _
      (told_then _ trust.formula (λ f.
      skip l here CloseBracketSign _
      (skip l here EqualSign _ (told_then _ trust.proof (λ p. skip l here SemicolonSign _ (told_give _ refl)))))))))
  stmt_told _ s = tt

  pub end_tells : Tells lim (end_reader d) (Grammar.ending l)
  unfolding end_reader
  end_tells = alone (told_either _ end_told told_stop)

  pub stmt_tells : Tells lim (stmt_reader d) (Grammar.stmt l)
  unfolding stmt_reader
  stmt_tells = alone (told_either _ stmt_told told_stop)

  pub proof_on_tells : (n : ℕ) → Tells lim (proof_on d n) (Grammar.proof l)
  unfolding proof_on Grammar.proof
  proof_on_tells zero = alone told_stop
  proof_on_tells (suc n) =
      alone (told_first _ (told_then _ stmt_tells (λ s. told_last (p_step s) (proof_on_tells n) (λ p. refl)))
      (told_last p_end end_tells (λ e. refl)))

  pub proof_tells : Tells lim (proof_reader d) (Grammar.proof l)
  unfolding proof_reader
  proof_tells = tells_measured (λ n. proof_on_tells n)
