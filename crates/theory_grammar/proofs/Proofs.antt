-- The readers of proofs get what is spelled.
use Rattle.std.proofs.Common.{◌≡◌, ℕ, lit≤, zero, suc, ◌+◌, ◌<◌, ◌≤◌, List, [], ◌∷◌, refl, sym, ap, subst, arith}
use Rattle.std.specs.Prelude.{Bool, true, false, None}
use Rattle.htt_lexer_tokens.specs.declared.tokens.Kind.{Kind}
use Rattle.htt_lexer_tokens.specs.declared.tokens.Kind.TheVariants.{Keyword, Sign}
use Rattle.htt_lexer_tokens.specs.declared.tokens.Token.{Token}
use Rattle.htt_lexer_tokens.specs.declared.tokens.Keyword.TheVariants.{IntroWord, GenWord, HaveWord, OpenWord}
use Rattle.htt_lexer_tokens.specs.declared.tokens.Sign.TheVariants.{OpenParenSign, CloseParenSign, CommaSign, CaretSign, AtSign}
use Rattle.htt_parser_trees.specs.declared.proof.UnaryRule.{UnaryRule}
use Rattle.htt_parser_trees.specs.declared.proof.UnaryRule.TheVariants as unary_rules
use Rattle.htt_parser_trees.specs.Trees.{RawArgTree, arg_heap, arg_term, RawMotiveTree, motive_of, RawProofTree, RawStmtTree, RawEndTree, RawProofTrees, p_end}
use Rattle.htt_parser_trees.specs.Trees.{p_step, b_intro, b_gen, b_open, b_have, e_name, e_trivial, e_refl, e_unary, e_both, e_give, e_app, e_inst, e_case}
use Rattle.htt_parser_trees.specs.Trees.{e_rewrite, e_induct, e_split, e_axiom, e_unfold, e_lem, e_the, no_proofs, more_proofs}
use Rattle.theory_grammar.specs.Marks.{Limits, ◌⨟◌, sign, numbered, each_after}
use Rattle.theory_grammar.specs.Grammar
use Rattle.theory_grammar.specs.Readers.{give, ◌>>=◌, same_kind, token}
use Rattle.theory_grammar.specs.Beginnings.{begins_term, begins_arg, begins_stmt, begins_end, begins_proof, goes_on_heap, goes_on_rel, goes_on_list}
use Rattle.theory_grammar.specs.Phrases.{Deeper, is_close}
use Rattle.theory_grammar.specs.Reading.{arg_case, arg_reader, more_args, args_there, motive_reader, args_on, proofs_on, app_more, inst_more, unary_reader}
use Rattle.theory_grammar.specs.Reading.{end_reader, stmt_reader, proof_on, proof_reader}
use Rattle.theory_grammar.proofs.Spells.{Spells, Stops, Leads, leads_of, leads_then, leads_wider, leads_length, begins_of}
use Rattle.theory_grammar.proofs.Gets.{Gets, giving, then, then_any, then_less, until, until_last, last, less_going, taken, taken_at, taken_alone, passed}
use Rattle.theory_grammar.proofs.Gets.{ended, first_yes, first_no, closed_now, measuring, no_room, operand, past_last, never_stops, stops_less, or_left}
use Rattle.theory_grammar.proofs.Gets.{or_right, regroup, nothing_first, that_not, skip, skip_last}
use Rattle.theory_grammar.proofs.Opens.{opens_term, opens_operand, opens_stmt, opens_end, opens_proof, term_begins_arg}
use Rattle.theory_grammar.proofs.Monotypes.{Knows, binder_gets, name_gets, number_gets, heap_gets, mono_gets, more_monos_get, monos_stop, list_goes_on}
use Rattle.theory_grammar.proofs.Monotypes.{before_more, each_stops_last, more_get, leads_mark, stops_at}

-- ---- which first tokens are not chosen

no_at : (k : Kind) → begins_term k ≡ true → arg_case k ≡ None
no_at (Sign AtSign) h = absurd (let no : false ≡ true = h in cc)
no_at _ h = refl

arg_no_close : (k : Kind) → begins_arg k ≡ true → is_close k ≡ false
arg_no_close (Sign CloseParenSign) h = absurd (let no : false ≡ true = h in cc)
arg_no_close _ h = refl

end_no_stmt : (k : Kind) → begins_end k ≡ true → begins_stmt k ≡ false
end_no_stmt (Keyword IntroWord) h = absurd (let no : false ≡ true = h in cc)
end_no_stmt (Keyword GenWord) h = absurd (let no : false ≡ true = h in cc)
end_no_stmt (Keyword OpenWord) h = absurd (let no : false ≡ true = h in cc)
end_no_stmt (Keyword HaveWord) h = absurd (let no : false ≡ true = h in cc)
end_no_stmt _ h = refl

rel_no_caret : (k : Kind) → goes_on_rel k ≡ false → goes_on_heap k ≡ false
rel_no_caret (Sign CaretSign) h = absurd (let no : true ≡ false = h in cc)
rel_no_caret _ h = refl

module _ {lim : Limits} (d : Deeper) (l : ℕ) (know : Knows lim d (suc l)) where
  -- ---- arguments

  arg_leads : (a : RawArgTree) → Leads begins_arg (Grammar.arg l a)
  arg_leads (arg_heap at h) = leads_mark begins_arg _ _ refl
  arg_leads (arg_term m) =
      leads_wider begins_term begins_arg (Grammar.term (suc l) m) term_begins_arg
      (leads_of begins_term (suc l) (Grammar.term (suc l) m) (opens_term (suc l) m))

  arg_gets : {n : ℕ} (a : RawArgTree) → Gets lim goes_on_rel n (arg_reader d) (Grammar.arg l a) a
  unfolding arg_reader
  arg_gets (arg_heap at h) = taken_at (λ a. arg_heap a h) _ _ _ _ _ _ refl (λ s. last (arg_heap s.from) (less_going rel_no_caret (heap_gets l h)))
  arg_gets (arg_term m) = passed begins_term (leads_of begins_term (suc l) (Grammar.term (suc l) m) (opens_term (suc l) m)) no_at (last arg_term (know.term m))

  more_args_get : {n : ℕ} (xs : List RawArgTree) → Gets lim (list_goes_on goes_on_rel) n (more_args d) (each_after (sign l CommaSign) (Grammar.arg l) xs) xs
  unfolding more_args
  more_args_get xs = more_get goes_on_rel l (arg_reader d) (Grammar.arg l) refl (λ n a. arg_gets a) xs

  some_args_get : {n : ℕ} (a : RawArgTree) (more : List RawArgTree)
      → Gets lim (list_goes_on goes_on_rel) n (args_there d) (Grammar.arg l a ⨟ each_after (sign l CommaSign) (Grammar.arg l) more)
      (a ∷ more)
  unfolding args_there
  some_args_get a more = first_no _ begins_arg (leads_then begins_arg (Grammar.arg l a) _ (arg_leads a)) arg_no_close
      (then _ (arg_gets a)
      (λ mid rest s stops. before_more goes_on_rel l (arg_reader d) (Grammar.arg l) refl (λ n x. arg_gets x) more mid rest s stops)
      (last (λ others. a ∷ others) (more_args_get more)))

  -- arguments, and the closing bracket after them
  args_close : {A : Type 0} {c : Kind → Bool} {n : ℕ} (make : List RawArgTree → A) (xs : List RawArgTree)
      → Gets lim c n (args_there d >>= (λ others. token (Sign CloseParenSign) >>= (λ _. give (make others))))
      (Grammar.args l xs ⨟ sign l CloseParenSign) (make xs)
  unfolding args_there
  args_close make [] = closed_now _ [] _ _ _ refl (skip_last _ refl)
  args_close make (a ∷ more) = until_last _ refl (some_args_get a more) (skip_last _ refl)

  args_stop : (k : ℕ) (more : List RawArgTree) (mid rest : List Token)
      → Spells lim (Grammar.args_after l k more) mid rest
      → Stops (list_goes_on goes_on_rel) rest
      → Stops goes_on_rel mid
  args_stop k [] mid rest s stops =
      subst (Stops goes_on_rel) (sym s)
      (stops_less (list_goes_on goes_on_rel) goes_on_rel rest (λ j h. or_right (same_kind j (Sign CommaSign)) (goes_on_rel j) h) stops)
  args_stop k (a ∷ more) mid rest s stops = stops_at goes_on_rel lim _ _ mid rest refl s

  args_stop_last : (k : ℕ) (more : List RawArgTree) (mid rest : List Token)
      → Spells lim (Grammar.args_after l k more ⨟ sign l CloseParenSign) mid rest
      → Stops goes_on_rel mid
  unfolding ◌⨟◌
  args_stop_last k [] mid rest s = subst (Stops goes_on_rel) (sym s.2) (ap goes_on_rel s.3.kind)
  args_stop_last k (a ∷ more) mid rest s = subst (Stops goes_on_rel) (sym s.2) (ap goes_on_rel s.3.kind)

  args_on_get : {n : ℕ} (m k : ℕ)
      → lim.chain < k + m
      → 1 ≤ k
      → (more : List RawArgTree)
      → Gets lim (list_goes_on goes_on_rel) n (args_on d m) (Grammar.args_after l k more) more
  unfolding args_on
  args_on_get zero k past one [] = ended (λ j h. that_not j (Sign CommaSign) _ (or_left (same_kind j (Sign CommaSign)) (goes_on_rel j) h)) giving
  args_on_get zero k past one (a ∷ more) =
      taken _ _ _ refl (λ there e span. past_last (Grammar.arg l a) _ begins_arg k (omega (arith, past)) (opens_operand l a))
  args_on_get (suc m) k past one [] = ended (λ j h. that_not j (Sign CommaSign) _ (or_left (same_kind j (Sign CommaSign)) (goes_on_rel j) h)) giving
  args_on_get (suc m) k past one (a ∷ more) = taken _ _ _ refl (λ there e span.
      then _ (operand begins_arg k one (opens_operand l a) (arg_gets a)) (args_stop (suc k) more)
      (last (λ others. a ∷ others) (args_on_get m (suc k) (grind (arith, past)) (omega arith) more)))

  proofs_on_get : {n : ℕ} (m k : ℕ)
      → lim.chain < k + m
      → 1 ≤ k
      → (more : RawProofTrees)
      → Gets lim goes_on_list n (proofs_on d m) (Grammar.proofs_after l k more) more
  unfolding Grammar.proof proofs_on
  proofs_on_get zero k past one no_proofs = ended (λ j h. that_not j (Sign CommaSign) _ h) giving
  proofs_on_get zero k past one (more_proofs p more) =
      taken _ _ _ refl (λ there e span.
      past_last (Grammar.proof (suc l) p) _ begins_proof k (omega (arith, past))
      (begins_of begins_proof (suc l) (Grammar.proof (suc l) p) (opens_proof (suc l) p)))
  proofs_on_get (suc m) k past one no_proofs = ended (λ j h. that_not j (Sign CommaSign) _ h) giving
  proofs_on_get (suc m) k past one (more_proofs p more) = taken _ _ _ refl (λ there e span.
      then_any _
      (operand begins_proof k one (begins_of begins_proof (suc l) (Grammar.proof (suc l) p) (opens_proof (suc l) p)) (know.proof p))
      (last (more_proofs p) (proofs_on_get m (suc k) (grind (arith, past)) (omega arith) more)))

  two_operands : lim.chain < 2 + d.further
  two_operands = let h = know.further in omega (arith, h)

  -- ---- ends

  motive_gets : {c : Kind → Bool} {n : ℕ} (m : RawMotiveTree) → Gets lim c n (motive_reader d) (Grammar.motive l m) m
  unfolding motive_reader
  motive_gets (motive_of b f) = then_any _ (binder_gets l b) (skip _ _ _ refl (skip _ _ _ refl (until_last _ refl (know.formula f) (skip_last _ refl))))

  app_gets : {c : Kind → Bool} {n : ℕ} (m at : ℕ)
      → lim.chain < 2 + m
      → (p q : RawProofTree) (qs : RawProofTrees)
      → Gets lim c n (app_more d at m p) (numbered 2 (Grammar.proof (suc l) q) ⨟ (Grammar.proofs_after l 3 qs ⨟ sign l CloseParenSign))
      (e_app at p q qs)
  unfolding app_more
  app_gets zero at past p q qs =
      past_last (Grammar.proof (suc l) q) _ begins_proof 2 (omega (arith, past))
      (begins_of begins_proof (suc l) (Grammar.proof (suc l) q) (opens_proof (suc l) q))
  app_gets (suc m) at past p q qs =
      then_any _
      (operand begins_proof 2 (lit≤ tt) (begins_of begins_proof (suc l) (Grammar.proof (suc l) q) (opens_proof (suc l) q)) (know.proof q))
      (until_last _ refl (proofs_on_get m 3 (grind (arith, past)) (lit≤ tt) qs) (skip_last _ refl))

  inst_gets : {c : Kind → Bool} {n : ℕ} (m at : ℕ)
      → lim.chain < 2 + m
      → (p : RawProofTree) (a : RawArgTree) (more : List RawArgTree)
      → Gets lim c n (inst_more d at m p) (numbered 2 (Grammar.arg l a) ⨟ (Grammar.args_after l 3 more ⨟ sign l CloseParenSign))
      (e_inst at p a more)
  unfolding inst_more
  inst_gets zero at past p a more = past_last (Grammar.arg l a) _ begins_arg 2 (omega (arith, past)) (opens_operand l a)
  inst_gets (suc m) at past p a more =
      then _ (operand begins_arg 2 (lit≤ tt) (opens_operand l a) (arg_gets a)) (λ mid rest s stops. args_stop_last 3 more mid rest s)
      (until_last _ refl (args_on_get m 3 (grind (arith, past)) (lit≤ tt) more) (skip_last _ refl))

  unary_gets : {c : Kind → Bool} {n : ℕ} (at : ℕ) (w : UnaryRule) (p : RawProofTree)
      → Gets lim c n (unary_reader d at w) (sign l OpenParenSign ⨟ (Grammar.proof (suc l) p ⨟ sign l CloseParenSign)) (e_unary at w p)
  unfolding unary_reader
  unary_gets at w p = skip _ _ _ refl (then_any _ (know.proof p) (skip_last _ refl))

  end_gets : {c : Kind → Bool} {n : ℕ} (e : RawEndTree) → Gets lim c n (end_reader d) (Grammar.ending l e) e
  unfolding Grammar.ending end_reader
  end_gets (e_name u) = taken_alone _ _ refl (λ there e span. ap e_name span)
  end_gets (e_trivial at) = taken_alone _ _ refl (λ there e span. ap e_trivial e)
  end_gets (e_refl at) = taken_alone _ _ refl (λ there e span. ap e_refl e)
  end_gets (e_unary at unary_rules.First p) = taken_at (λ a. e_unary a unary_rules.First p) _ _ _ _ _ _ refl (λ s. unary_gets s.from unary_rules.First p)
  end_gets (e_unary at unary_rules.Second p) = taken_at (λ a. e_unary a unary_rules.Second p) _ _ _ _ _ _ refl (λ s. unary_gets s.from unary_rules.Second p)
  end_gets (e_unary at unary_rules.Left p) = taken_at (λ a. e_unary a unary_rules.Left p) _ _ _ _ _ _ refl (λ s. unary_gets s.from unary_rules.Left p)
  end_gets (e_unary at unary_rules.Right p) = taken_at (λ a. e_unary a unary_rules.Right p) _ _ _ _ _ _ refl (λ s. unary_gets s.from unary_rules.Right p)
  end_gets (e_unary at unary_rules.Absurd p) = taken_at (λ a. e_unary a unary_rules.Absurd p) _ _ _ _ _ _ refl (λ s. unary_gets s.from unary_rules.Absurd p)
  end_gets (e_both at p q) =
      taken_at (λ a. e_both a p q) _ _ _ _ _ _ refl
      (λ s. skip _ _ _ refl (then_any _ (know.proof p) (skip _ _ _ refl (then_any _ (know.proof q) (skip_last _ refl)))))
  end_gets (e_give at a p) =
      taken_at (λ b. e_give b a p) _ _ _ _ _ _ refl
      (λ s. skip _ _ _ refl (until _ _ _ refl (arg_gets a) (skip _ _ _ refl (then_any _ (know.proof p) (skip_last _ refl)))))
  end_gets (e_app at p q qs) =
      taken_at (λ a. e_app a p q qs) _ _ _ _ _ _ refl
      (λ s. skip _ _ _ refl (then_any _ (know.proof p) (skip _ _ _ refl (app_gets d.further s.from two_operands p q qs))))
  end_gets (e_inst at p a more) =
      taken_at (λ b. e_inst b p a more) _ _ _ _ _ _ refl
      (λ s. skip _ _ _ refl (then_any _ (know.proof p) (skip _ _ _ refl (inst_gets d.further s.from two_operands p a more))))
  end_gets (e_case at p u q v r) =
      taken_at (λ a. e_case a p u q v r) _ _ _ _ _ _ refl (λ s.
      skip _ _ _ refl (then_any _ (know.proof p)
      (skip _ _ _ refl (then_any _ (name_gets l u)
      (skip _ _ _ refl (then_any _ (know.proof q)
      (skip _ _ _ refl (then_any _ (name_gets l v) (skip _ _ _ refl (then_any _ (know.proof r) (skip_last _ refl)))))))))))
  end_gets (e_rewrite at p m q) =
      taken_at (λ a. e_rewrite a p m q) _ _ _ _ _ _ refl (λ s.
      skip _ _ _ refl (then_any _ (know.proof p)
      (skip _ _ _ refl (then_any _ (motive_gets m) (skip _ _ _ refl (then_any _ (know.proof q) (skip_last _ refl)))))))
  end_gets (e_induct at m t p b u v q) =
      taken_at (λ a. e_induct a m t p b u v q) _ _ _ _ _ _ refl (λ s.
      skip _ _ _ refl (then_any _ (motive_gets m)
      (skip _ _ _ refl (until _ _ _ refl (know.term t)
      (skip _ _ _ refl (then_any _ (know.proof p)
      (skip _ _ _ refl (then_any _ (binder_gets l b)
      (then_any _ (name_gets l u) (then_any _ (name_gets l v) (skip _ _ _ refl (then_any _ (know.proof q) (skip_last _ refl)))))))))))))
  end_gets (e_split at m t p q) =
      taken_at (λ a. e_split a m t p q) _ _ _ _ _ _ refl (λ s.
      skip _ _ _ refl (then_any _ (motive_gets m)
      (skip _ _ _ refl (until _ _ _ refl (know.term t)
      (skip _ _ _ refl (then_any _ (know.proof p) (skip _ _ _ refl (then_any _ (know.proof q) (skip_last _ refl)))))))))
  end_gets (e_axiom at x [] more) =
      taken_at (λ a. e_axiom a x [] more) _ _ _ _ _ _ refl
      (λ s. then_any _ (name_gets l x) (nothing_first _ (taken _ _ _ refl (λ there e span. args_close (e_axiom s.from x []) more))))
  end_gets (e_axiom at x (t ∷ ts) more) =
      taken_at (λ a. e_axiom a x (t ∷ ts) more) _ _ _ _ _ _ refl
      (λ s. then_any _ (name_gets l x) (regroup _ _ _ (taken _ _ _ refl (λ there e span. regroup _ _ _ (regroup _ _ _
      (then _ (mono_gets d l know t) (λ mid rest told stops. monos_stop d l know _ _ refl ts mid rest told)
      (until _ _ _ refl (more_monos_get d l know ts)
      (skip _ _ _ refl (skip _ _ _ refl (args_close (e_axiom s.from x (t ∷ ts)) more))))))))))
  end_gets (e_unfold at x v a more) =
      taken_at (λ b. e_unfold b x v a more) _ _ _ _ _ _ refl
      (λ s. then_any _ (name_gets l x) (taken _ _ _ refl (λ there e span. then_any _ (number_gets l v) (skip _ _ _ refl (regroup _ _ _
      (then _ (arg_gets a) (λ mid rest told stops.
      each_stops_last goes_on_rel l (arg_reader d) (Grammar.arg l) refl (λ n y. arg_gets y) _ refl more mid rest told)
      (until_last _ refl (more_args_get more) (skip_last _ refl))))))))
  end_gets (e_lem at f) = taken_at (λ a. e_lem a f) _ _ _ _ _ _ refl (λ s. skip _ _ _ refl (until_last _ refl (know.formula f) (skip_last _ refl)))
  end_gets (e_the at f p) =
      taken_at (λ a. e_the a f p) _ _ _ _ _ _ refl (λ s.
      skip _ _ _ refl
      (until _ _ _ refl (know.formula f) (skip _ _ _ refl (skip _ _ _ refl (then_any _ (know.proof p) (skip_last _ refl))))))

  -- ---- statements

  stmt_gets : {c : Kind → Bool} {n : ℕ} (s : RawStmtTree) → Gets lim c n (stmt_reader d) (Grammar.stmt l s) s
  unfolding Grammar.stmt stmt_reader
  stmt_gets (b_intro at u) = taken_at (λ a. b_intro a u) _ _ _ _ _ _ refl (λ s. then_any _ (name_gets l u) (skip_last _ refl))
  stmt_gets (b_gen at b) = taken_at (λ a. b_gen a b) _ _ _ _ _ _ refl (λ s. then_any _ (binder_gets l b) (skip_last _ refl))
  stmt_gets (b_open at b u p) =
      taken_at (λ a. b_open a b u p) _ _ _ _ _ _ refl
      (λ s. then_any _ (binder_gets l b) (then_any _ (name_gets l u) (skip _ _ _ refl (then_any _ (know.proof p) (skip_last _ refl)))))
  stmt_gets (b_have at u f p) =
      taken_at (λ a. b_have a u f p) _ _ _ _ _ _ refl (λ s.
      then_any _ (name_gets l u)
      (skip _ _ _ refl (skip _ _ _ refl
      (until _ _ _ refl (know.formula f) (skip _ _ _ refl (skip _ _ _ refl (then_any _ (know.proof p) (skip_last _ refl))))))))

  proof_get : {c : Kind → Bool} (n : ℕ) (p : RawProofTree) → Gets lim c n (proof_on d n) (Grammar.proof l p) p
  unfolding Grammar.proof proof_on
  proof_get zero p = no_room begins_proof (leads_of begins_proof l (Grammar.proof l p) (opens_proof l p))
  proof_get (suc n) (p_end e) = first_no _ begins_end (leads_of begins_end l (Grammar.ending l e) (opens_end l e)) end_no_stmt (last p_end (end_gets e))
  proof_get (suc n) (p_step s p) =
      let leads = leads_of begins_stmt l (Grammar.stmt l s) (opens_stmt l s) in
      first_yes _ begins_stmt (leads_then begins_stmt (Grammar.stmt l s) _ leads)
      (then_less _ (leads_length begins_stmt (Grammar.stmt l s) leads) (stmt_gets s) (λ mid rest told stops. never_stops mid) (last (p_step s) (proof_get n p)))

  pub proof_gets : {c : Kind → Bool} {n : ℕ} (p : RawProofTree) → Gets lim c n (proof_reader d) (Grammar.proof l p) p
  unfolding proof_reader
  proof_gets p = measuring (λ k. proof_get k p)
