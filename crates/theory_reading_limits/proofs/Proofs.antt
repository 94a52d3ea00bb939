-- Stops at a limit in proofs.
use Rattle.htt_lexer_tokens.specs.declared.tokens.Kind.{Kind}
use Rattle.htt_lexer_tokens.specs.declared.tokens.Kind.TheVariants.{Name, Keyword, Sign}
use Rattle.htt_lexer_tokens.specs.declared.tokens.Keyword.TheVariants.{IntroWord, GenWord, HaveWord, OpenWord, BothWord, LeftWord, RightWord, GiveWord}
use Rattle.htt_lexer_tokens.specs.declared.tokens.Keyword.TheVariants.{TrivialWord, ReflWord, AbsurdWord, CaseWord, RewriteWord, InductWord, SplitWord}
use Rattle.htt_lexer_tokens.specs.declared.tokens.Keyword.TheVariants.{FirstWord, SecondWord, AppWord, InstWord, AxiomWord, LemWord, TheWord}
use Rattle.htt_lexer_tokens.specs.declared.tokens.Sign.TheVariants.{OpenParenSign, CloseParenSign, OpenBracketSign, CloseBracketSign, CommaSign, SemicolonSign}
use Rattle.htt_lexer_tokens.specs.declared.tokens.Sign.TheVariants.{ColonSign, DotSign, EqualSign, AtSign}
use Rattle.htt_parser_trees.specs.declared.place.Span.{Span}
use Rattle.htt_parser_trees.specs.declared.proof.UnaryRule.{UnaryRule}
use Rattle.htt_parser_trees.specs.declared.proof.UnaryRule.TheVariants as unary_rules
use Rattle.htt_parser_trees.specs.Trees.{RawArgTree, arg_heap, arg_term, RawProofTree, RawEndTree, p_end, p_step, e_axiom, more_proofs, e_app, e_inst}
use Rattle.theory_grammar.specs.Marks.{Mark, Limits, ◌⨟◌, sign, name, number, word_at, each_after}
use Rattle.theory_grammar.specs.Grammar
use Rattle.theory_grammar.specs.Readers.{give, ◌>>=◌, token}
use Rattle.theory_grammar.specs.Phrases.{Deeper}
use Rattle.theory_grammar.specs.Reading.{arg_case, arg_reader, more_args, args_there, motive_reader, args_on, proofs_on, app_more, inst_more, unary_reader}
use Rattle.theory_grammar.specs.Reading.{axiom_case, end_case, end_reader, stmt_case, stmt_reader, proof_on, proof_reader}
use Rattle.std.proofs.Common.{◌≡◌, ℕ, zero, suc, ◌+◌, List, [], ◌∷◌, ◌++◌, refl, sym, ap, arith, append_assoc}
use Rattle.theory_reading.proofs.Tells.{list_in_brackets}
use Rattle.theory_reading.proofs.Words.{Stands}
use Rattle.theory_reading_limits.proofs.Bars.{Bars, Barred, Case, same_ok, forms_then, forms_last, forms_give, bars_then, bars_last, bars_give, bars_stop}
use Rattle.theory_reading_limits.proofs.Bars.{bars_refuse, bars_either, bars_first, bars_measured, bars_past}
use Rattle.theory_reading_limits.proofs.Words.{Bar, numbered_barred, at_word, at_sign, a_sign', a_name', or_sign, skip, binder_barred, name_barred}
use Rattle.theory_reading_limits.proofs.Words.{number_barred, heap_barred, more_barred, mono_barred, more_monos_barred}
use Rattle.theory_grammar.specs.Beginnings.{begins_arg, begins_proof}
use Rattle.theory_grammar.proofs.Spells.{Begins, begins_of}
use Rattle.theory_grammar.proofs.Opens.{opens_proof, opens_operand}
use Rattle.theory_reading.proofs.Proofs as told_here
use Rattle.theory_reading_places.proofs.Follows.{in_all}
use Rattle.theory_reading_places.proofs.Words.{Chain, chain_less, chain_none}
use Rattle.theory_reading_places.proofs.Proofs as places
use Rattle.theory_reading_limits.proofs.Terms.{chain_next, chain_now, at_most, none_left}

module _ {lim : Limits} (d d' : Deeper) (l : ℕ) (here : Stands lim l) (trust : Bar lim d d' (suc l)) where
  arg_bars : (k : Kind) (s : Span) → Case lim (λ ns. ns) (Grammar.arg l) k s (arg_case k) (arg_case k)
  arg_bars (Sign AtSign) s = at_sign l here AtSign s (bars_last (arg_heap s.from) (heap_barred l here).bars (λ h. refl))
  arg_bars _ s = tt

  arg_barred : Barred lim (arg_reader d) (arg_reader d') (Grammar.arg l)
  unfolding arg_reader
  arg_barred = record {
    tells = told_here.arg_tells d l here trust.trust;
    same = same_ok (λ n m. places.arg_follows d d' trust.follow);
    bars = bars_either _ _ arg_bars (bars_last arg_term trust.term.bars (λ m. refl));
  }

  more_args_barred : Barred lim (more_args d) (more_args d') (each_after (sign l CommaSign) (Grammar.arg l))
  unfolding more_args
  more_args_barred = more_barred l here (arg_reader d) (arg_reader d') (Grammar.arg l) (λ n m. places.arg_follows d d' trust.follow) arg_barred

  args_barred : Barred lim (args_there d) (args_there d') (Grammar.args l)
  unfolding args_there
  args_barred = record {
    tells = told_here.args_tell d l here trust.trust;
    same = same_ok (λ n m. places.args_follow d d' trust.follow);
    bars = bars_first _ (bars_give _ refl) (bars_then arg_barred (λ a. bars_last (λ more. a ∷ more) more_args_barred.bars (λ more. refl)));
  }

  motive_barred : Barred lim (motive_reader d) (motive_reader d') (Grammar.motive l)
  unfolding motive_reader ◌⨟◌
  motive_barred = record {
    tells = told_here.motive_tells d l here trust.trust;
    same = same_ok (λ n m. places.motive_follows d d' trust.follow);
    bars =
        bars_then (binder_barred l here) (λ b.
        skip l here DotSign
        (λ _. skip l here OpenBracketSign (λ _. bars_then trust.formula (λ f. skip l here CloseBracketSign (λ _. bars_give _ refl)))));
  }

  args_on_bars : (m j k : ℕ) → Chain in_all m j → k + m ≡ suc lim.chain → Bars lim (λ ns. ns) (args_on d m) (args_on d' j) (Grammar.args_after l k)
  unfolding args_on ◌⨟◌
  args_on_bars zero zero k chain room = or_sign l here CommaSign (bars_refuse _ _) (bars_give _ refl)
  args_on_bars zero (suc j) k chain room =
      or_sign l here CommaSign (bars_past (arg_reader d') begins_arg (Grammar.arg l) k (none_left k lim.chain room) (opens_operand l)
      (λ a. forms_last (args_on d' j) (Grammar.args_after l (suc k)) (λ more. a ∷ more) (λ more. refl))) (bars_give _ refl)
  args_on_bars (suc m) zero k chain room = absurd (chain_none in_all m chain)
  args_on_bars (suc m) (suc j) k chain room =
      or_sign l here CommaSign (bars_then
      (numbered_barred begins_arg k (chain_now k m lim.chain room) here.chain (opens_operand l) arg_barred) (λ a.
      bars_last (λ more. a ∷ more) (args_on_bars m j (suc k) (chain_less in_all m j chain) (chain_next k m lim.chain room)) (λ more. refl)))
      (bars_give _ refl)

  opens_next : (p : RawProofTree) → Begins begins_proof (Grammar.proof (suc l) p)
  opens_next p = begins_of begins_proof (suc l) (Grammar.proof (suc l) p) (opens_proof (suc l) p)

  proofs_on_bars : (m j k : ℕ) → Chain in_all m j → k + m ≡ suc lim.chain → Bars lim (λ ns. ns) (proofs_on d m) (proofs_on d' j) (Grammar.proofs_after l k)
  unfolding proofs_on Grammar.proof ◌⨟◌
  proofs_on_bars zero zero k chain room = or_sign l here CommaSign (bars_refuse _ _) (bars_give _ refl)
  proofs_on_bars zero (suc j) k chain room =
      or_sign l here CommaSign (bars_past d'.proof begins_proof (Grammar.proof (suc l)) k (none_left k lim.chain room) opens_next
      (λ p. forms_last (proofs_on d' j) (Grammar.proofs_after l (suc k)) (more_proofs p) (λ more. refl))) (bars_give _ refl)
  proofs_on_bars (suc m) zero k chain room = absurd (chain_none in_all m chain)
  proofs_on_bars (suc m) (suc j) k chain room =
      or_sign l here CommaSign (bars_then (numbered_barred begins_proof k (chain_now k m lim.chain room) here.chain opens_next trust.proof)
      (λ a.
      bars_last (more_proofs a) (proofs_on_bars m j (suc k) (chain_less in_all m j chain) (chain_next k m lim.chain room)) (λ more. refl)))
      (bars_give _ refl)

  all_room : 2 + d.further ≡ suc lim.chain
  all_room = let h = trust.further in omega (arith, h)

  app_bars : (m j at : ℕ)
      → Chain in_all m j
      → 2 + m ≡ suc lim.chain
      → (p : RawProofTree)
      → Bars lim (λ ns. word_at l AppWord at ⨟ (sign l OpenParenSign ⨟ (Grammar.proof (suc l) p ⨟ (sign l CommaSign ⨟ ns))))
      (app_more d at m p) (app_more d' at j p) (Grammar.ending l)
  unfolding app_more Grammar.proof ◌⨟◌
  app_bars zero zero at chain room p = bars_refuse _ _
  app_bars zero (suc j) at chain room p =
      bars_past d'.proof begins_proof (Grammar.proof (suc l)) 2 (none_left 2 lim.chain room) opens_next (λ q.
      forms_then (proofs_on d' j) (Grammar.proofs_after l 3)
      (λ qs. forms_then _ (λ _. sign l CloseParenSign) (λ _. forms_give (e_app at p q qs) refl)))
  app_bars (suc m) zero at chain room p = absurd (chain_none in_all m chain)
  app_bars (suc m) (suc j) at chain room p =
      bars_then (numbered_barred begins_proof 2 (chain_now 2 m lim.chain room) here.chain opens_next trust.proof) (λ q.
      bars_then (record {
        tells = told_here.proofs_on_tell d l here trust.trust m 3 (at_most 3 m lim.chain (chain_next 2 m lim.chain room));
        same = same_ok (λ i k. places.proofs_on_follow d d' trust.follow m j (chain_less in_all m j chain));
        bars = proofs_on_bars m j 3 (chain_less in_all m j chain) (chain_next 2 m lim.chain room);
      }) (λ qs. skip l here CloseParenSign (λ _. bars_give _ refl)))

  inst_bars : (m j at : ℕ)
      → Chain in_all m j
      → 2 + m ≡ suc lim.chain
      → (p : RawProofTree)
      → Bars lim (λ ns. word_at l InstWord at ⨟ (sign l OpenParenSign ⨟ (Grammar.proof (suc l) p ⨟ (sign l CommaSign ⨟ ns))))
      (inst_more d at m p) (inst_more d' at j p) (Grammar.ending l)
  unfolding inst_more Grammar.proof ◌⨟◌
  inst_bars zero zero at chain room p = bars_refuse _ _
  inst_bars zero (suc j) at chain room p =
      bars_past (arg_reader d') begins_arg (Grammar.arg l) 2 (none_left 2 lim.chain room) (opens_operand l) (λ a.
      forms_then (args_on d' j) (Grammar.args_after l 3)
      (λ more. forms_then _ (λ _. sign l CloseParenSign) (λ _. forms_give (e_inst at p a more) refl)))
  inst_bars (suc m) zero at chain room p = absurd (chain_none in_all m chain)
  inst_bars (suc m) (suc j) at chain room p =
      bars_then (numbered_barred begins_arg 2 (chain_now 2 m lim.chain room) here.chain (opens_operand l) arg_barred) (λ a.
      bars_then (record {
        tells = told_here.args_on_tell d l here trust.trust m 3 (at_most 3 m lim.chain (chain_next 2 m lim.chain room));
        same = same_ok (λ i k. places.args_on_follow d d' trust.follow m j (chain_less in_all m j chain));
        bars = args_on_bars m j 3 (chain_less in_all m j chain) (chain_next 2 m lim.chain room);
      }) (λ more. skip l here CloseParenSign (λ _. bars_give _ refl)))

  unary_bars : (at : ℕ) (w : UnaryRule)
      → Bars lim (λ ns. word_at l (Grammar.unary_rule w) at ⨟ ns) (unary_reader d at w) (unary_reader d' at w) (Grammar.ending l)
  unfolding unary_reader Grammar.proof ◌⨟◌
  unary_bars at w = skip l here OpenParenSign (λ _. bars_then trust.proof (λ p. skip l here CloseParenSign (λ _. bars_give _ refl)))

  args_then : {round : List Mark → List Mark} (make : List RawArgTree → RawEndTree)
      → ((more : List RawArgTree) → round (Grammar.args l more ⨟ sign l CloseParenSign) ≡ Grammar.ending l (make more))
      → Bars lim round (args_there d >>= (λ more. token (Sign CloseParenSign) >>= (λ _. give (make more))))
      (args_there d' >>= (λ more. token (Sign CloseParenSign) >>= (λ _. give (make more)))) (Grammar.ending l)
  unfolding ◌⨟◌
  args_then make same = bars_then args_barred (λ more. skip l here CloseParenSign (λ _. bars_give _ (same more)))

  axiom_bars : (at : ℕ) (x : Span) (k : Kind) (s : Span)
      → Case lim (λ ns. word_at l AxiomWord at ⨟ (name l x ⨟ ns)) (Grammar.ending l) k s (axiom_case d at x k) (axiom_case d' at x k)
  unfolding Grammar.proof ◌⨟◌
  axiom_bars at x (Sign DotSign) s =
      a_sign' l here DotSign s (bars_then (number_barred l here) (λ v.
      skip l here OpenParenSign (λ _.
      bars_then arg_barred (λ a.
      bars_then more_args_barred (λ more.
      skip l here CloseParenSign (λ _.
      bars_give _ (ap (λ ns. word_at l AxiomWord at ++ (name l x ++ (sign l DotSign ++ (number l v ++ (sign l OpenParenSign ++ ns)))))
      (sym (append_assoc (Grammar.arg l a) (each_after (sign l CommaSign) (Grammar.arg l) more) (sign l CloseParenSign))))))))))
  axiom_bars at x (Sign OpenBracketSign) s =
      a_sign' l here OpenBracketSign s
      (bars_then (mono_barred d d' l here trust) (λ t.
      bars_then (more_monos_barred d d' l here trust) (λ ts.
      skip l here CloseBracketSign (λ _.
      skip l here OpenParenSign (λ _.
      args_then (e_axiom at x (t ∷ ts)) (λ more.
      ap (λ ns. word_at l AxiomWord at ++ (name l x ++ (sign l OpenBracketSign ++ ns)))
      (list_in_brackets (Grammar.mono l t) (each_after (sign l CommaSign) (Grammar.mono l) ts) (sign l CloseBracketSign)
      (sign l OpenParenSign ++ (Grammar.args l more ++ sign l CloseParenSign)))))))))
  axiom_bars at x (Sign OpenParenSign) s = a_sign' l here OpenParenSign s (args_then (e_axiom at x []) (λ more. refl))
  axiom_bars at x _ s = tt

  end_bars : (k : Kind) (s : Span) → Case lim (λ ns. ns) (Grammar.ending l) k s (end_case d k) (end_case d' k)
  unfolding Grammar.proof ◌⨟◌
  end_bars Name s = a_name' l here s (bars_give _ refl)
  end_bars (Keyword TrivialWord) s = at_word l here TrivialWord s (bars_give _ refl)
  end_bars (Keyword ReflWord) s = at_word l here ReflWord s (bars_give _ refl)
  end_bars (Keyword FirstWord) s = at_word l here FirstWord s (unary_bars s.from unary_rules.First)
  end_bars (Keyword SecondWord) s = at_word l here SecondWord s (unary_bars s.from unary_rules.Second)
  end_bars (Keyword LeftWord) s = at_word l here LeftWord s (unary_bars s.from unary_rules.Left)
  end_bars (Keyword RightWord) s = at_word l here RightWord s (unary_bars s.from unary_rules.Right)
  end_bars (Keyword AbsurdWord) s = at_word l here AbsurdWord s (unary_bars s.from unary_rules.Absurd)
  end_bars (Keyword BothWord) s =
      at_word l here BothWord s
      (skip l here OpenParenSign (λ _.
      bars_then trust.proof
      (λ p. skip l here CommaSign (λ _. bars_then trust.proof (λ q. skip l here CloseParenSign (λ _. bars_give _ refl))))))
  end_bars (Keyword GiveWord) s =
      at_word l here GiveWord s
      (skip l here OpenParenSign (λ _.
      bars_then arg_barred
      (λ a. skip l here CommaSign (λ _. bars_then trust.proof (λ q. skip l here CloseParenSign (λ _. bars_give _ refl))))))
  end_bars (Keyword AppWord) s =
      at_word l here AppWord s (skip l here OpenParenSign
      (λ _. bars_then trust.proof (λ p. skip l here CommaSign (λ _. app_bars d.further d'.further s.from trust.follow.further all_room p))))
  end_bars (Keyword InstWord) s =
      at_word l here InstWord s
      (skip l here OpenParenSign (λ _.
      bars_then trust.proof (λ p. skip l here CommaSign (λ _. inst_bars d.further d'.further s.from trust.follow.further all_room p))))
  end_bars (Keyword CaseWord) s =
      at_word l here CaseWord s
      (skip l here OpenParenSign (λ _.
      bars_then trust.proof (λ p.
      skip l here CommaSign (λ _.
      bars_then (name_barred l here) (λ u.
      skip l here DotSign (λ _.
      bars_then trust.proof (λ q.
      skip l here CommaSign (λ _.
      bars_then (name_barred l here)
      (λ v. skip l here DotSign (λ _. bars_then trust.proof (λ r. skip l here CloseParenSign (λ _. bars_give _ refl))))))))))))
  end_bars (Keyword RewriteWord) s =
      at_word l here RewriteWord s
      (skip l here OpenParenSign (λ _.
      bars_then trust.proof (λ p.
      skip l here CommaSign (λ _.
      bars_then motive_barred
      (λ m. skip l here CommaSign (λ _. bars_then trust.proof (λ q. skip l here CloseParenSign (λ _. bars_give _ refl))))))))
  end_bars (Keyword InductWord) s =
      at_word l here InductWord s
      (skip l here OpenParenSign (λ _.
      bars_then motive_barred (λ m.
      skip l here CommaSign (λ _.
      bars_then trust.term (λ t.
      skip l here CommaSign (λ _.
      bars_then trust.proof (λ p.
      skip l here CommaSign (λ _.
      bars_then (binder_barred l here) (λ b.
      bars_then (name_barred l here) (λ u.
      bars_then (name_barred l here)
      (λ v. skip l here DotSign (λ _. bars_then trust.proof (λ q. skip l here CloseParenSign (λ _. bars_give _ refl))))))))))))))
  end_bars (Keyword SplitWord) s =
      at_word l here SplitWord s
      (skip l here OpenParenSign (λ _.
      bars_then motive_barred (λ m.
      skip l here CommaSign (λ _.
      bars_then trust.term (λ t.
      skip l here CommaSign (λ _.
      bars_then trust.proof
      (λ p. skip l here CommaSign (λ _. bars_then trust.proof (λ q. skip l here CloseParenSign (λ _. bars_give _ refl))))))))))
  end_bars (Keyword AxiomWord) s = at_word l here AxiomWord s (bars_then (name_barred l here) (λ x. bars_either _ _ (axiom_bars s.from x) bars_stop))
  end_bars (Keyword LemWord) s =
      at_word l here LemWord s
      (skip l here OpenBracketSign (λ _. bars_then trust.formula (λ f. skip l here CloseBracketSign (λ _. bars_give _ refl))))
  end_bars (Keyword TheWord) s =
      at_word l here TheWord s (skip l here OpenBracketSign (λ _.
      bars_then trust.formula (λ f.
      skip l here CloseBracketSign
      (λ _. skip l here OpenParenSign (λ _. bars_then trust.proof (λ p. skip l here CloseParenSign (λ _. bars_give _ refl)))))))
  end_bars _ s = tt

  stmt_bars : (k : Kind) (s : Span) → Case lim (λ ns. ns) (Grammar.stmt l) k s (stmt_case d k) (stmt_case d' k)
  unfolding Grammar.proof ◌⨟◌
  stmt_bars (Keyword IntroWord) s = at_word l here IntroWord s (bars_then (name_barred l here) (λ u. skip l here SemicolonSign (λ _. bars_give _ refl)))
  stmt_bars (Keyword GenWord) s = at_word l here GenWord s (bars_then (binder_barred l here) (λ b. skip l here SemicolonSign (λ _. bars_give _ refl)))
  stmt_bars (Keyword OpenWord) s =
      at_word l here OpenWord s
      (bars_then (binder_barred l here) (λ b.
      bars_then (name_barred l here)
      (λ u. skip l here EqualSign (λ _. bars_then trust.proof (λ p. skip l here SemicolonSign (λ _. bars_give _ refl))))))
  stmt_bars (Keyword HaveWord) s =
      at_word l here HaveWord s
      (bars_then (name_barred l here) (λ u.
      skip l here ColonSign (λ _.
      skip l here OpenBracketSign (λ _.
      bars_then trust.formula (λ f.
      skip l here CloseBracketSign
      (λ _. skip l here EqualSign (λ _. bars_then trust.proof (λ p. skip l here SemicolonSign (λ _. bars_give _ refl)))))))))
  stmt_bars _ s = tt

  stmt_barred : Barred lim (stmt_reader d) (stmt_reader d') (Grammar.stmt l)
  unfolding stmt_reader
  stmt_barred = record {
    tells = told_here.stmt_tells d l here trust.trust;
    same = same_ok (λ n m. places.stmt_follows d d' trust.follow);
    bars = bars_either _ _ stmt_bars bars_stop;
  }

  end_barred : Barred lim (end_reader d) (end_reader d') (Grammar.ending l)
  unfolding end_reader
  end_barred = record {
    tells = told_here.end_tells d l here trust.trust;
    same = same_ok (λ n m. places.end_follows d d' trust.follow);
    bars = bars_either _ _ end_bars bars_stop;
  }

  proof_on_bars : (n : ℕ) → Bars lim (λ ns. ns) (proof_on d n) (proof_on d' n) (Grammar.proof l)
  unfolding proof_on Grammar.proof
  proof_on_bars zero = bars_stop
  proof_on_bars (suc n) =
      bars_first _ (bars_then stmt_barred (λ s. bars_last (p_step s) (proof_on_bars n) (λ p. refl)))
      (bars_last p_end end_barred.bars (λ e. refl))

  pub proof_barred : Barred lim (proof_reader d) (proof_reader d') (Grammar.proof l)
  unfolding proof_reader
  proof_barred = record {
    tells = told_here.proof_tells d l here trust.trust;
    same = same_ok (λ n m. places.proof_follows d d' trust.follow);
    bars = bars_measured (λ n. proof_on_bars n);
  }
