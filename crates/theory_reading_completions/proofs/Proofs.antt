-- The readers of proofs stop behind what begins some tree.
use Rattle.std.proofs.Common.{◌≡◌, ℕ, zero, suc, ◌+◌, List, [], ◌∷◌, ◌++◌, refl, sym, ap, arith, append_assoc}
use Rattle.htt_lexer_tokens.specs.declared.tokens.Kind.{Kind}
use Rattle.htt_lexer_tokens.specs.declared.tokens.Kind.TheVariants.{Name, Keyword, Sign}
use Rattle.htt_lexer_tokens.specs.declared.tokens.Keyword.TheVariants.{IntroWord, GenWord, HaveWord, OpenWord, BothWord, LeftWord, RightWord, GiveWord}
use Rattle.htt_lexer_tokens.specs.declared.tokens.Keyword.TheVariants.{TrivialWord, ReflWord, AbsurdWord, CaseWord, RewriteWord, InductWord, SplitWord}
use Rattle.htt_lexer_tokens.specs.declared.tokens.Keyword.TheVariants.{FirstWord, SecondWord, AppWord, InstWord, AxiomWord, LemWord, TheWord}
use Rattle.htt_lexer_tokens.specs.declared.tokens.Sign.TheVariants.{OpenParenSign, CloseParenSign, OpenBracketSign, CloseBracketSign, CommaSign, SemicolonSign}
use Rattle.htt_lexer_tokens.specs.declared.tokens.Sign.TheVariants.{ColonSign, DotSign, EqualSign, AtSign}
use Rattle.htt_parser_trees.specs.declared.place.Span.{Span}
use Rattle.htt_parser_trees.specs.declared.proof.UnaryRule.{UnaryRule}
use Rattle.htt_parser_trees.specs.declared.proof.UnaryRule.TheVariants as unary_rules
use Rattle.htt_parser_trees.specs.Trees.{RawArgTree, arg_heap, arg_term, RawProofTree, RawEndTree, p_end, p_step, e_axiom, more_proofs, no_proofs, e_app}
use Rattle.htt_parser_trees.specs.Trees.{e_inst}
use Rattle.theory_grammar.specs.Marks.{Mark, Limits, ◌⨟◌, sign, name, number, word_at, each_after}
use Rattle.theory_grammar.specs.Grammar
use Rattle.theory_grammar.specs.Readers.{give, ◌>>=◌, token}
use Rattle.theory_grammar.specs.Phrases.{Deeper}
use Rattle.theory_grammar.specs.Reading.{arg_case, arg_reader, more_args, args_there, motive_reader, args_on, proofs_on, app_more, inst_more, unary_reader}
use Rattle.theory_grammar.specs.Reading.{axiom_case, end_case, end_reader, stmt_case, stmt_reader, proof_on, proof_reader}
use Rattle.theory_reading.proofs.Words.{Stands}
use Rattle.theory_reading.proofs.Tells.{list_in_brackets}
use Rattle.theory_reading_completions.proofs.Halts.{Halts, Ends, Case, halts_then, halts_last, halts_give, halts_stop, halts_either, halts_choice, halts_first}
use Rattle.theory_reading_completions.proofs.Halts.{ends_measured, whole_start, halts_past}
use Rattle.theory_reading_completions.proofs.Words.{Ending, numbered_ends, at_word, at_sign, a_sign', a_name', or_sign, skip, binder_ends, name_ends}
use Rattle.theory_reading_completions.proofs.Words.{number_ends, heap_ends, more_end, mono_ends, more_monos_end}
use Rattle.theory_grammar.specs.Beginnings.{begins_arg, begins_proof}
use Rattle.theory_grammar.proofs.Spells.{begins_of}
use Rattle.theory_grammar.proofs.Opens.{opens_proof, opens_operand}
use Rattle.theory_reading.proofs.Proofs as proofs
use Rattle.theory_reading_completions.proofs.Starts.{the_span, starts_arg, starts_proof}
use Rattle.theory_reading_completions.proofs.Terms.{chain_next, chain_now, at_most, none_left}

module _ {lim : Limits} (d : Deeper) (l : ℕ) (here : Stands lim l) (trust : Ending lim d (suc l)) where
  arg_halts : (k : Kind) (s : Span) → Case lim (λ ns. ns) (Grammar.arg l) k s (arg_case k)
  arg_halts (Sign AtSign) s = at_sign l here AtSign s _ (halts_last (arg_heap s.from) (heap_ends l here) (λ h. refl))
  arg_halts _ s = tt

  pub arg_ends : Ends lim (arg_reader d) (Grammar.arg l)
  unfolding arg_reader
  arg_ends = record { tells = proofs.arg_tells d l here trust.trust; halts = halts_either _ arg_halts (halts_last arg_term trust.term (λ m. refl)) }

  pub more_args_end : Ends lim (more_args d) (each_after (sign l CommaSign) (Grammar.arg l))
  unfolding more_args
  more_args_end = more_end l here (arg_reader d) (Grammar.arg l) arg_ends

  pub args_end : Ends lim (args_there d) (Grammar.args l)
  unfolding args_there
  args_end = record {
    tells = proofs.args_tell d l here trust.trust;
    halts = halts_first _ (halts_give _ refl) (halts_then _ arg_ends (λ a. halts_last (λ more. a ∷ more) more_args_end (λ more. refl)));
  }

  pub motive_ends : Ends lim (motive_reader d) (Grammar.motive l)
  unfolding motive_reader ◌⨟◌
  motive_ends = record {
    tells = proofs.motive_tells d l here trust.trust;
    halts =
        halts_then _ (binder_ends l here) (λ b.
        skip l here DotSign _
        (skip l here OpenBracketSign _ (halts_then _ trust.formula (λ f. skip l here CloseBracketSign _ (halts_give _ refl)))));
  }

  pub args_on_end : (m k : ℕ) → k + m ≡ suc lim.chain → Ends lim (args_on d m) (Grammar.args_after l k)
  unfolding args_on ◌⨟◌
  args_on_end zero k room = record {
    tells = proofs.args_on_tell d l here trust.trust zero k (at_most k 0 lim.chain room);
    halts =
        or_sign l here CommaSign _ _
        (halts_past begins_arg Name the_span refl k (none_left k lim.chain room) (starts_arg l) (λ a. a ∷ []) [] [] tt (λ a. refl))
        (halts_give _ refl);
  }
  args_on_end (suc m) k room = record {
    tells = proofs.args_on_tell d l here trust.trust (suc m) k (at_most k (suc m) lim.chain room);
    halts =
        or_sign l here CommaSign _ _
        (halts_then _ (numbered_ends begins_arg k (chain_now k m lim.chain room) here.chain (opens_operand l) arg_ends)
        (λ a. halts_last (λ more. a ∷ more) (args_on_end m (suc k) (chain_next k m lim.chain room)) (λ more. refl))) (halts_give _ refl);
  }

  pub proofs_on_end : (m k : ℕ) → k + m ≡ suc lim.chain → Ends lim (proofs_on d m) (Grammar.proofs_after l k)
  unfolding proofs_on Grammar.proof ◌⨟◌
  proofs_on_end zero k room = record {
    tells = proofs.proofs_on_tell d l here trust.trust zero k (at_most k 0 lim.chain room);
    halts =
        or_sign l here CommaSign _ _
        (halts_past begins_proof Name the_span refl k (none_left k lim.chain room) (λ x s h. (suc l, starts_proof (suc l) x s h))
        (λ p. more_proofs p no_proofs) [] [] tt (λ p. refl)) (halts_give _ refl);
  }
  proofs_on_end (suc m) k room = record {
    tells = proofs.proofs_on_tell d l here trust.trust (suc m) k (at_most k (suc m) lim.chain room);
    halts =
        or_sign l here CommaSign _ _
        (halts_then _ (numbered_ends begins_proof k (chain_now k m lim.chain room) here.chain
        (λ x. begins_of begins_proof (suc l) (Grammar.proof (suc l) x) (opens_proof (suc l) x)) trust.proof)
        (λ a. halts_last (more_proofs a) (proofs_on_end m (suc k) (chain_next k m lim.chain room)) (λ more. refl))) (halts_give _ refl);
  }

  all_room : 2 + d.further ≡ suc lim.chain
  all_room = let h = trust.further in omega (arith, h)

  app_halts : (m at : ℕ)
      → 2 + m ≡ suc lim.chain
      → (p : RawProofTree)
      → Halts lim (λ ns. word_at l AppWord at ⨟ (sign l OpenParenSign ⨟ (Grammar.proof (suc l) p ⨟ (sign l CommaSign ⨟ ns))))
      (app_more d at m p) (Grammar.ending l)
  unfolding app_more Grammar.proof ◌⨟◌
  app_halts zero at room p =
      halts_past begins_proof Name the_span refl 2 (none_left 2 lim.chain room) (λ x s h. (suc l, starts_proof (suc l) x s h))
      (λ q. e_app at p q no_proofs) (sign l CloseParenSign) (record { kind = Sign CloseParenSign; from = 0; to = 0 } ∷ [])
      (record { kind = refl; at = tt; span = tt }, tt) (λ q. refl)
  app_halts (suc m) at room p =
      halts_then _ (numbered_ends begins_proof 2 (chain_now 2 m lim.chain room) here.chain
      (λ x. begins_of begins_proof (suc l) (Grammar.proof (suc l) x) (opens_proof (suc l) x)) trust.proof)
      (λ q. halts_then _ (proofs_on_end m 3 (chain_next 2 m lim.chain room)) (λ qs. skip l here CloseParenSign _ (halts_give _ refl)))

  inst_halts : (m at : ℕ)
      → 2 + m ≡ suc lim.chain
      → (p : RawProofTree)
      → Halts lim (λ ns. word_at l InstWord at ⨟ (sign l OpenParenSign ⨟ (Grammar.proof (suc l) p ⨟ (sign l CommaSign ⨟ ns))))
      (inst_more d at m p) (Grammar.ending l)
  unfolding inst_more Grammar.proof ◌⨟◌
  inst_halts zero at room p =
      halts_past begins_arg Name the_span refl 2 (none_left 2 lim.chain room) (starts_arg l) (λ a. e_inst at p a []) (sign l CloseParenSign)
      (record { kind = Sign CloseParenSign; from = 0; to = 0 } ∷ []) (record { kind = refl; at = tt; span = tt }, tt) (λ a. refl)
  inst_halts (suc m) at room p =
      halts_then _ (numbered_ends begins_arg 2 (chain_now 2 m lim.chain room) here.chain (opens_operand l) arg_ends)
      (λ q. halts_then _ (args_on_end m 3 (chain_next 2 m lim.chain room)) (λ qs. skip l here CloseParenSign _ (halts_give _ refl)))

  unary_halts : (at : ℕ) (w : UnaryRule) → Halts lim (λ ns. word_at l (Grammar.unary_rule w) at ⨟ ns) (unary_reader d at w) (Grammar.ending l)
  unfolding unary_reader Grammar.proof ◌⨟◌
  unary_halts at w = skip l here OpenParenSign _ (halts_then _ trust.proof (λ p. skip l here CloseParenSign _ (halts_give _ refl)))

  args_then : {round : List Mark → List Mark} (make : List RawArgTree → RawEndTree)
      → ((more : List RawArgTree) → round (Grammar.args l more ⨟ sign l CloseParenSign) ≡ Grammar.ending l (make more))
      → Halts lim round (args_there d >>= (λ more. token (Sign CloseParenSign) >>= (λ _. give (make more)))) (Grammar.ending l)
  unfolding ◌⨟◌
  args_then make same = halts_then _ args_end (λ more. skip l here CloseParenSign _ (halts_give _ (same more)))

  axiom_halts : (at : ℕ) (x : Span) (k : Kind) (s : Span)
      → Case lim (λ ns. word_at l AxiomWord at ⨟ (name l x ⨟ ns)) (Grammar.ending l) k s (axiom_case d at x k)
  unfolding Grammar.proof ◌⨟◌
  axiom_halts at x (Sign DotSign) s =
      a_sign' l here DotSign s _
      (halts_then _ (number_ends l here) (λ v.
      skip l here OpenParenSign _
      (halts_then _ arg_ends (λ a.
      halts_then _ more_args_end (λ more.
      skip l here CloseParenSign _
      (halts_give _ (ap (λ ns. word_at l AxiomWord at ++ (name l x ++ (sign l DotSign ++ (number l v ++ (sign l OpenParenSign ++ ns)))))
      (sym (append_assoc (Grammar.arg l a) (each_after (sign l CommaSign) (Grammar.arg l) more) (sign l CloseParenSign))))))))))
  axiom_halts at x (Sign OpenBracketSign) s =
      a_sign' l here OpenBracketSign s _
      (halts_then _ (mono_ends d l here trust) (λ t.
      halts_then _ (more_monos_end d l here trust) (λ ts.
      skip l here CloseBracketSign _
      (skip l here OpenParenSign _
      (args_then (e_axiom at x (t ∷ ts)) (λ more.
      ap (λ ns. word_at l AxiomWord at ++ (name l x ++ (sign l OpenBracketSign ++ ns)))
      (list_in_brackets (Grammar.mono l t) (each_after (sign l CommaSign) (Grammar.mono l) ts) (sign l CloseBracketSign)
      (sign l OpenParenSign ++ (Grammar.args l more ++ sign l CloseParenSign)))))))))
  axiom_halts at x (Sign OpenParenSign) s = a_sign' l here OpenParenSign s _ (args_then (e_axiom at x []) (λ more. refl))
  axiom_halts at x _ s = tt

  end_halts : (k : Kind) (s : Span) → Case lim (λ ns. ns) (Grammar.ending l) k s (end_case d k)
  unfolding Grammar.proof ◌⨟◌
  end_halts Name s = a_name' l here s _ (halts_give _ refl)
  end_halts (Keyword TrivialWord) s = at_word l here TrivialWord s _ (halts_give _ refl)
  end_halts (Keyword ReflWord) s = at_word l here ReflWord s _ (halts_give _ refl)
  end_halts (Keyword FirstWord) s = at_word l here FirstWord s _ (unary_halts s.from unary_rules.First)
  end_halts (Keyword SecondWord) s = at_word l here SecondWord s _ (unary_halts s.from unary_rules.Second)
  end_halts (Keyword LeftWord) s = at_word l here LeftWord s _ (unary_halts s.from unary_rules.Left)
  end_halts (Keyword RightWord) s = at_word l here RightWord s _ (unary_halts s.from unary_rules.Right)
  end_halts (Keyword AbsurdWord) s = at_word l here AbsurdWord s _ (unary_halts s.from unary_rules.Absurd)
  end_halts (Keyword BothWord) s =
      at_word l here BothWord s _
      (skip l here OpenParenSign _
      (halts_then _ trust.proof
      (λ p. skip l here CommaSign _ (halts_then _ trust.proof (λ q. skip l here CloseParenSign _ (halts_give _ refl))))))
  end_halts (Keyword GiveWord) s =
      at_word l here GiveWord s _
      (skip l here OpenParenSign _
      (halts_then _ arg_ends
      (λ a. skip l here CommaSign _ (halts_then _ trust.proof (λ q. skip l here CloseParenSign _ (halts_give _ refl))))))
  end_halts (Keyword AppWord) s =
      at_word l here AppWord s _
      (skip l here OpenParenSign _ (halts_then _ trust.proof (λ p. skip l here CommaSign _ (app_halts d.further s.from all_room p))))
  end_halts (Keyword InstWord) s =
      at_word l here InstWord s _
      (skip l here OpenParenSign _ (halts_then _ trust.proof (λ p. skip l here CommaSign _ (inst_halts d.further s.from all_room p))))
  end_halts (Keyword CaseWord) s =
      at_word l here CaseWord s _
      (skip l here OpenParenSign _
      (halts_then _ trust.proof (λ p.
      skip l here CommaSign _ (halts_then _ (name_ends l here) (λ u.
      skip l here DotSign _ (halts_then _ trust.proof (λ q.
      skip l here CommaSign _ (halts_then _ (name_ends l here)
      (λ v. skip l here DotSign _ (halts_then _ trust.proof (λ r. skip l here CloseParenSign _ (halts_give _ refl))))))))))))
  end_halts (Keyword RewriteWord) s =
      at_word l here RewriteWord s _
      (skip l here OpenParenSign _
      (halts_then _ trust.proof (λ p.
      skip l here CommaSign _ (halts_then _ motive_ends
      (λ m. skip l here CommaSign _ (halts_then _ trust.proof (λ q. skip l here CloseParenSign _ (halts_give _ refl))))))))
  end_halts (Keyword InductWord) s =
      at_word l here InductWord s _
      (skip l here OpenParenSign _
      (halts_then _ motive_ends (λ m.
      skip l here CommaSign _ (halts_then _ trust.term (λ t.
      skip l here CommaSign _ (halts_then _ trust.proof (λ p.
      skip l here CommaSign _ (halts_then _ (binder_ends l here) (λ b.
      halts_then _ (name_ends l here) (λ u.
      halts_then _ (name_ends l here)
      (λ v. skip l here DotSign _ (halts_then _ trust.proof (λ q. skip l here CloseParenSign _ (halts_give _ refl))))))))))))))
  end_halts (Keyword SplitWord) s =
      at_word l here SplitWord s _
      (skip l here OpenParenSign _
      (halts_then _ motive_ends (λ m.
      skip l here CommaSign _ (halts_then _ trust.term (λ t.
      skip l here CommaSign _ (halts_then _ trust.proof
      (λ p. skip l here CommaSign _ (halts_then _ trust.proof (λ q. skip l here CloseParenSign _ (halts_give _ refl))))))))))
  end_halts (Keyword AxiomWord) s =
      at_word l here AxiomWord s _
      (halts_then _ (name_ends l here) (λ x. halts_choice _ (axiom_halts s.from x (Sign OpenParenSign) the_span) (axiom_halts s.from x)))
  end_halts (Keyword LemWord) s =
      at_word l here LemWord s _
      (skip l here OpenBracketSign _ (halts_then _ trust.formula (λ f. skip l here CloseBracketSign _ (halts_give _ refl))))
  end_halts (Keyword TheWord) s =
      at_word l here TheWord s _
      (skip l here OpenBracketSign _
      (halts_then _ trust.formula (λ f.
      skip l here CloseBracketSign _
      (skip l here OpenParenSign _ (halts_then _ trust.proof (λ p. skip l here CloseParenSign _ (halts_give _ refl)))))))
  end_halts _ s = tt

  stmt_halts : (k : Kind) (s : Span) → Case lim (λ ns. ns) (Grammar.stmt l) k s (stmt_case d k)
  unfolding Grammar.proof ◌⨟◌
  stmt_halts (Keyword IntroWord) s = at_word l here IntroWord s _ (halts_then _ (name_ends l here) (λ u. skip l here SemicolonSign _ (halts_give _ refl)))
  stmt_halts (Keyword GenWord) s = at_word l here GenWord s _ (halts_then _ (binder_ends l here) (λ b. skip l here SemicolonSign _ (halts_give _ refl)))
  stmt_halts (Keyword OpenWord) s =
      at_word l here OpenWord s _
      (halts_then _ (binder_ends l here) (λ b.
      halts_then _ (name_ends l here)
      (λ u. skip l here EqualSign _ (halts_then _ trust.proof (λ p. skip l here SemicolonSign _ (halts_give _ refl))))))
  stmt_halts (Keyword HaveWord) s =
      at_word l here HaveWord s _
      (halts_then _ (name_ends l here) (λ u.
      skip l here ColonSign _ (skip l here OpenBracketSign _
      (halts_then _ trust.formula (λ f.
      skip l here CloseBracketSign _
      (skip l here EqualSign _ (halts_then _ trust.proof (λ p. skip l here SemicolonSign _ (halts_give _ refl)))))))))
  stmt_halts _ s = tt

  pub end_ends : Ends lim (end_reader d) (Grammar.ending l)
  unfolding end_reader
  end_ends = record { tells = proofs.end_tells d l here trust.trust; halts = halts_choice _ (end_halts (Keyword TrivialWord) the_span) end_halts }

  pub stmt_ends : Ends lim (stmt_reader d) (Grammar.stmt l)
  unfolding stmt_reader
  stmt_ends = record { tells = proofs.stmt_tells d l here trust.trust; halts = halts_choice _ (stmt_halts (Keyword IntroWord) the_span) stmt_halts }

  pub proof_on_ends : (n : ℕ) → Ends lim (proof_on d n) (Grammar.proof l)
  unfolding proof_on Grammar.proof
  proof_on_ends zero = record {
    tells = proofs.proof_on_tells d l here trust.trust zero;
    halts = halts_stop (whole_start (starts_proof l (Keyword TrivialWord) the_span refl));
  }
  proof_on_ends (suc n) = record {
    tells = proofs.proof_on_tells d l here trust.trust (suc n);
    halts =
        halts_first _ (halts_then _ stmt_ends (λ s. halts_last (p_step s) (proof_on_ends n) (λ p. refl)))
        (halts_last p_end end_ends (λ e. refl));
  }

  pub proof_ends : Ends lim (proof_reader d) (Grammar.proof l)
  unfolding proof_reader
  proof_ends = ends_measured (λ n. proof_on_ends n)
