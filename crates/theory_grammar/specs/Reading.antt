-- The readers of proofs and declarations, and the readers of all phrases at a level.
use Rattle.std.specs.Prelude.{Bool, true, ℕ, zero, suc, List, [], ◌∷◌, Option, Some, None}
use Rattle.htt_lexer_tokens.specs.declared.tokens.Kind.{Kind}
use Rattle.htt_lexer_tokens.specs.declared.tokens.Kind.TheVariants.{Name, Keyword, Sign}
use Rattle.htt_lexer_tokens.specs.declared.tokens.Keyword.TheVariants.{TypeWord, PredWord, DefWord, ValWord, ProofWord}
use Rattle.htt_lexer_tokens.specs.declared.tokens.Keyword.TheVariants.{AutoWord, IntroWord, GenWord, HaveWord, OpenWord}
use Rattle.htt_lexer_tokens.specs.declared.tokens.Keyword.TheVariants.{BothWord, LeftWord, RightWord, GiveWord}
use Rattle.htt_lexer_tokens.specs.declared.tokens.Keyword.TheVariants.{TrivialWord, ReflWord, AbsurdWord, CaseWord}
use Rattle.htt_lexer_tokens.specs.declared.tokens.Keyword.TheVariants.{RewriteWord, InductWord, SplitWord, FirstWord}
use Rattle.htt_lexer_tokens.specs.declared.tokens.Keyword.TheVariants.{SecondWord, AppWord, InstWord, AxiomWord}
use Rattle.htt_lexer_tokens.specs.declared.tokens.Keyword.TheVariants.{LemWord, TheWord}
use Rattle.htt_lexer_tokens.specs.declared.tokens.Sign.TheVariants.{OpenParenSign, CloseParenSign, OpenBracketSign}
use Rattle.htt_lexer_tokens.specs.declared.tokens.Sign.TheVariants.{CloseBracketSign, OpenBraceSign, CloseBraceSign}
use Rattle.htt_lexer_tokens.specs.declared.tokens.Sign.TheVariants.{CommaSign, SemicolonSign, ColonSign, DotSign}
use Rattle.htt_lexer_tokens.specs.declared.tokens.Sign.TheVariants.{EqualSign, AtSign}
use Rattle.htt_parser_trees.specs.declared.place.Span.{Span}
use Rattle.htt_parser_trees.specs.declared.proof.UnaryRule.{UnaryRule}
use Rattle.htt_parser_trees.specs.declared.proof.UnaryRule.TheVariants as unary_rules
use Rattle.htt_parser_trees.specs.Trees.{RawTyTree, RawTermTree, RawArgTree, arg_heap, arg_term, RawMotiveTree}
use Rattle.htt_parser_trees.specs.Trees.{motive_of, RawProofTree, RawStmtTree, RawEndTree, RawProofTrees, p_end, p_step}
use Rattle.htt_parser_trees.specs.Trees.{b_intro, b_gen, b_open, b_have, e_name, e_trivial, e_refl, e_unary, e_both}
use Rattle.htt_parser_trees.specs.Trees.{e_give, e_app, e_inst, e_case, e_rewrite, e_induct, e_split, e_axiom, e_unfold}
use Rattle.htt_parser_trees.specs.Trees.{e_lem, e_the, no_proofs, more_proofs, RawMonoParamTree, mono_param}
use Rattle.htt_parser_trees.specs.Trees.{RawBodyTree, body_auto, body_proof, RawDeclTree, decl_type, decl_pred}
use Rattle.htt_parser_trees.specs.Trees.{decl_induct, decl_def, decl_val, decl_proof}
use Rattle.theory_grammar.specs.Readers.{Reader, too_nested, too_long, too_many, give, ◌>>=◌, refuse, stop, either}
use Rattle.theory_grammar.specs.Readers.{if_first, measured, that, token, after_commas}
use Rattle.theory_grammar.specs.Beginnings.{begins_mono, begins_ty, begins_term, begins_comp, begins_fatom}
use Rattle.theory_grammar.specs.Beginnings.{begins_formula, begins_arg, begins_stmt, begins_proof, begins_decl}
use Rattle.theory_grammar.specs.Phrases.{Deeper, a_binder, a_name_there, a_number_there, a_heap, mono_reader}
use Rattle.theory_grammar.specs.Phrases.{more_monos, is_close, ty_reader, term_reader, comp_reader, formula_reader}
use Rattle.theory_grammar.specs.Phrases.{disj_reader, conj_reader, star_reader}

-- ---- proofs

abbrev pub heap_arg_on : ℕ → Reader RawArgTree
heap_arg_on at = a_heap >>= (λ h. give (arg_heap at h))

abbrev pub arg_case : Kind → Option (Span → Reader RawArgTree)
arg_case (Sign AtSign) = Some (λ s. heap_arg_on s.from)
arg_case _ = None

unfoldable pub arg_reader : Deeper → Reader RawArgTree
arg_reader d = either arg_case (d.term >>= (λ m. give (arg_term m)))

unfoldable pub more_args : Deeper → Reader (List RawArgTree)
more_args d = measured (after_commas (Sign CommaSign) (arg_reader d))

-- arguments before a closing bracket
unfoldable pub args_there : Deeper → Reader (List RawArgTree)
args_there d = if_first is_close (give []) (arg_reader d >>= (λ a. more_args d >>= (λ more. give (a ∷ more))))

unfoldable pub motive_reader : Deeper → Reader RawMotiveTree
motive_reader d = a_binder >>= (λ b.
    token (Sign DotSign) >>= (λ _.
    token (Sign OpenBracketSign) >>= (λ _.
    d.formula >>= (λ f.
    token (Sign CloseBracketSign) >>= (λ _.
    give (motive_of b f))))))

-- further arguments of `inst` and `app`, at most so many
unfoldable pub args_on : Deeper → ℕ → Reader (List RawArgTree)
args_on d zero = either (that (Sign CommaSign) (refuse too_long begins_arg)) (give [])
args_on d (suc n) =
    either (that (Sign CommaSign) (arg_reader d >>= (λ a. args_on d n >>= (λ more. give (a ∷ more))))) (give [])

unfoldable pub proofs_on : Deeper → ℕ → Reader RawProofTrees
proofs_on d zero = either (that (Sign CommaSign) (refuse too_long begins_proof)) (give no_proofs)
proofs_on d (suc n) =
    either (that (Sign CommaSign) (d.proof >>= (λ p. proofs_on d n >>= (λ more. give (more_proofs p more)))))
    (give no_proofs)

unfoldable pub app_more : Deeper → ℕ → ℕ → RawProofTree → Reader RawEndTree
app_more d at zero p = refuse too_long begins_proof
app_more d at (suc n) p =
    d.proof >>= (λ q. proofs_on d n >>= (λ qs. token (Sign CloseParenSign) >>= (λ _. give (e_app at p q qs))))

unfoldable pub inst_more : Deeper → ℕ → ℕ → RawProofTree → Reader RawEndTree
inst_more d at zero p = refuse too_long begins_arg
inst_more d at (suc n) p =
    arg_reader d >>= (λ a. args_on d n >>= (λ more. token (Sign CloseParenSign) >>= (λ _. give (e_inst at p a more))))

unfoldable pub unary_reader : Deeper → ℕ → UnaryRule → Reader RawEndTree
unary_reader d at w = token (Sign OpenParenSign) >>= (λ _.
    d.proof >>= (λ p.
    token (Sign CloseParenSign) >>= (λ _.
    give (e_unary at w p))))

abbrev pub unfold_on : Deeper → ℕ → Span → Reader RawEndTree
unfold_on d at c = a_number_there >>= (λ n.
    token (Sign OpenParenSign) >>= (λ _.
    arg_reader d >>= (λ a.
    more_args d >>= (λ more.
    token (Sign CloseParenSign) >>= (λ _.
    give (e_unfold at c n a more))))))

abbrev pub axiom_monos_on : Deeper → ℕ → Span → Reader RawEndTree
axiom_monos_on d at c = mono_reader d >>= (λ t.
    more_monos d >>= (λ ts.
    token (Sign CloseBracketSign) >>= (λ _.
    token (Sign OpenParenSign) >>= (λ _.
    args_there d >>= (λ more.
    token (Sign CloseParenSign) >>= (λ _.
    give (e_axiom at c (t ∷ ts) more)))))))

abbrev pub axiom_plain_on : Deeper → ℕ → Span → Reader RawEndTree
axiom_plain_on d at c = args_there d >>= (λ more. token (Sign CloseParenSign) >>= (λ _. give (e_axiom at c [] more)))

abbrev pub axiom_case : Deeper → ℕ → Span → Kind → Option (Span → Reader RawEndTree)
axiom_case d at c (Sign DotSign) = Some (λ _. unfold_on d at c)
axiom_case d at c (Sign OpenBracketSign) = Some (λ _. axiom_monos_on d at c)
axiom_case d at c (Sign OpenParenSign) = Some (λ _. axiom_plain_on d at c)
axiom_case d at c _ = None

abbrev pub both_on : Deeper → ℕ → Reader RawEndTree
both_on d at = token (Sign OpenParenSign) >>= (λ _.
    d.proof >>= (λ p.
    token (Sign CommaSign) >>= (λ _.
    d.proof >>= (λ q.
    token (Sign CloseParenSign) >>= (λ _.
    give (e_both at p q))))))

abbrev pub give_on : Deeper → ℕ → Reader RawEndTree
give_on d at = token (Sign OpenParenSign) >>= (λ _.
    arg_reader d >>= (λ a.
    token (Sign CommaSign) >>= (λ _.
    d.proof >>= (λ p.
    token (Sign CloseParenSign) >>= (λ _.
    give (e_give at a p))))))

abbrev pub app_on : Deeper → ℕ → Reader RawEndTree
app_on d at =
    token (Sign OpenParenSign) >>= (λ _. d.proof >>= (λ p. token (Sign CommaSign) >>= (λ _. app_more d at d.further p)))

abbrev pub inst_on : Deeper → ℕ → Reader RawEndTree
inst_on d at = token (Sign OpenParenSign) >>= (λ _.
    d.proof >>= (λ p.
    token (Sign CommaSign) >>= (λ _.
    inst_more d at d.further p)))

abbrev pub case_on : Deeper → ℕ → Reader RawEndTree
case_on d at = token (Sign OpenParenSign) >>= (λ _.
    d.proof >>= (λ p.
    token (Sign CommaSign) >>= (λ _.
    a_name_there >>= (λ u.
    token (Sign DotSign) >>= (λ _.
    d.proof >>= (λ q.
    token (Sign CommaSign) >>= (λ _.
    a_name_there >>= (λ v.
    token (Sign DotSign) >>= (λ _.
    d.proof >>= (λ r.
    token (Sign CloseParenSign) >>= (λ _.
    give (e_case at p u q v r))))))))))))

abbrev pub rewrite_on : Deeper → ℕ → Reader RawEndTree
rewrite_on d at = token (Sign OpenParenSign) >>= (λ _.
    d.proof >>= (λ p.
    token (Sign CommaSign) >>= (λ _.
    motive_reader d >>= (λ c.
    token (Sign CommaSign) >>= (λ _.
    d.proof >>= (λ q.
    token (Sign CloseParenSign) >>= (λ _.
    give (e_rewrite at p c q))))))))

abbrev pub induct_end_on : Deeper → ℕ → Reader RawEndTree
induct_end_on d at = token (Sign OpenParenSign) >>= (λ _.
    motive_reader d >>= (λ c.
    token (Sign CommaSign) >>= (λ _.
    d.term >>= (λ m.
    token (Sign CommaSign) >>= (λ _.
    d.proof >>= (λ p.
    token (Sign CommaSign) >>= (λ _.
    a_binder >>= (λ b.
    a_name_there >>= (λ u.
    a_name_there >>= (λ v.
    token (Sign DotSign) >>= (λ _.
    d.proof >>= (λ q.
    token (Sign CloseParenSign) >>= (λ _.
    give (e_induct at c m p b u v q))))))))))))))

abbrev pub split_on : Deeper → ℕ → Reader RawEndTree
split_on d at = token (Sign OpenParenSign) >>= (λ _.
    motive_reader d >>= (λ c.
    token (Sign CommaSign) >>= (λ _.
    d.term >>= (λ m.
    token (Sign CommaSign) >>= (λ _.
    d.proof >>= (λ p.
    token (Sign CommaSign) >>= (λ _.
    d.proof >>= (λ q.
    token (Sign CloseParenSign) >>= (λ _.
    give (e_split at c m p q))))))))))

abbrev pub axiom_on : Deeper → ℕ → Reader RawEndTree
axiom_on d at = a_name_there >>= (λ c. either (axiom_case d at c) stop)

abbrev pub lem_on : Deeper → ℕ → Reader RawEndTree
lem_on d at = token (Sign OpenBracketSign) >>= (λ _.
    d.formula >>= (λ f.
    token (Sign CloseBracketSign) >>= (λ _.
    give (e_lem at f))))

abbrev pub the_on : Deeper → ℕ → Reader RawEndTree
the_on d at = token (Sign OpenBracketSign) >>= (λ _.
    d.formula >>= (λ f.
    token (Sign CloseBracketSign) >>= (λ _.
    token (Sign OpenParenSign) >>= (λ _.
    d.proof >>= (λ p.
    token (Sign CloseParenSign) >>= (λ _.
    give (e_the at f p)))))))

abbrev pub end_case : Deeper → Kind → Option (Span → Reader RawEndTree)
end_case d Name = Some (λ s. give (e_name s))
end_case d (Keyword TrivialWord) = Some (λ s. give (e_trivial s.from))
end_case d (Keyword ReflWord) = Some (λ s. give (e_refl s.from))
end_case d (Keyword FirstWord) = Some (λ s. unary_reader d s.from unary_rules.First)
end_case d (Keyword SecondWord) = Some (λ s. unary_reader d s.from unary_rules.Second)
end_case d (Keyword LeftWord) = Some (λ s. unary_reader d s.from unary_rules.Left)
end_case d (Keyword RightWord) = Some (λ s. unary_reader d s.from unary_rules.Right)
end_case d (Keyword AbsurdWord) = Some (λ s. unary_reader d s.from unary_rules.Absurd)
end_case d (Keyword BothWord) = Some (λ s. both_on d s.from)
end_case d (Keyword GiveWord) = Some (λ s. give_on d s.from)
end_case d (Keyword AppWord) = Some (λ s. app_on d s.from)
end_case d (Keyword InstWord) = Some (λ s. inst_on d s.from)
end_case d (Keyword CaseWord) = Some (λ s. case_on d s.from)
end_case d (Keyword RewriteWord) = Some (λ s. rewrite_on d s.from)
end_case d (Keyword InductWord) = Some (λ s. induct_end_on d s.from)
end_case d (Keyword SplitWord) = Some (λ s. split_on d s.from)
end_case d (Keyword AxiomWord) = Some (λ s. axiom_on d s.from)
end_case d (Keyword LemWord) = Some (λ s. lem_on d s.from)
end_case d (Keyword TheWord) = Some (λ s. the_on d s.from)
end_case d _ = None

unfoldable pub end_reader : Deeper → Reader RawEndTree
end_reader d = either (end_case d) stop

abbrev pub intro_on : ℕ → Reader RawStmtTree
intro_on at = a_name_there >>= (λ u. token (Sign SemicolonSign) >>= (λ _. give (b_intro at u)))

abbrev pub gen_on : ℕ → Reader RawStmtTree
gen_on at = a_binder >>= (λ b. token (Sign SemicolonSign) >>= (λ _. give (b_gen at b)))

abbrev pub open_on : Deeper → ℕ → Reader RawStmtTree
open_on d at = a_binder >>= (λ b.
    a_name_there >>= (λ u.
    token (Sign EqualSign) >>= (λ _.
    d.proof >>= (λ p.
    token (Sign SemicolonSign) >>= (λ _.
    give (b_open at b u p))))))

abbrev pub have_on : Deeper → ℕ → Reader RawStmtTree
have_on d at = a_name_there >>= (λ u.
    token (Sign ColonSign) >>= (λ _.
    token (Sign OpenBracketSign) >>= (λ _.
    d.formula >>= (λ f.
    token (Sign CloseBracketSign) >>= (λ _.
    token (Sign EqualSign) >>= (λ _.
    d.proof >>= (λ p.
    token (Sign SemicolonSign) >>= (λ _.
    give (b_have at u f p)))))))))

abbrev pub stmt_case : Deeper → Kind → Option (Span → Reader RawStmtTree)
stmt_case d (Keyword IntroWord) = Some (λ s. intro_on s.from)
stmt_case d (Keyword GenWord) = Some (λ s. gen_on s.from)
stmt_case d (Keyword OpenWord) = Some (λ s. open_on d s.from)
stmt_case d (Keyword HaveWord) = Some (λ s. have_on d s.from)
stmt_case d _ = None

unfoldable pub stmt_reader : Deeper → Reader RawStmtTree
stmt_reader d = either (stmt_case d) stop

unfoldable pub proof_on : Deeper → ℕ → Reader RawProofTree
proof_on d zero = stop
proof_on d (suc n) =
    if_first begins_stmt (stmt_reader d >>= (λ s. proof_on d n >>= (λ p. give (p_step s p))))
    (end_reader d >>= (λ e. give (p_end e)))

unfoldable pub proof_reader : Deeper → Reader RawProofTree
proof_reader d = measured (proof_on d)

-- ---- the levels

-- the phrases at a level, by those one level deeper
abbrev pub at_level : Deeper → Deeper
at_level d = record {
  further = d.further;
  ty = ty_reader d;
  term = term_reader d;
  comp = comp_reader d;
  formula = formula_reader d;
  disj = disj_reader d;
  conj = conj_reader d;
  star = star_reader d;
  mono = mono_reader d;
  proof = proof_reader d;
}

-- no phrase is read past the last level
abbrev pub too_deep : ℕ → Deeper
too_deep further = record {
  further = further;
  ty = refuse too_nested begins_ty;
  term = refuse too_nested begins_term;
  comp = refuse too_nested begins_comp;
  formula = refuse too_nested begins_formula;
  disj = refuse too_nested begins_fatom;
  conj = refuse too_nested begins_fatom;
  star = refuse too_nested begins_fatom;
  mono = refuse too_nested begins_mono;
  proof = refuse too_nested begins_proof;
}

-- the readers where so many levels are left
unfoldable pub deeper : ℕ → ℕ → Deeper
deeper further zero = too_deep further
deeper further (suc n) = at_level (deeper further n)

-- ---- declarations, by the readers of what has level 1

unfoldable pub mono_parameter_reader : Deeper → Reader RawMonoParamTree
mono_parameter_reader d =
    a_name_there >>= (λ x. token (Sign ColonSign) >>= (λ _. d.mono >>= (λ m. give (mono_param x m))))

-- parameters before a closing bracket, and this
unfoldable pub mono_parameters_reader : Deeper → Reader (List RawMonoParamTree)
mono_parameters_reader d = token (Sign OpenParenSign) >>= (λ _.
    if_first is_close (give [])
    (mono_parameter_reader d >>= (λ p.
    measured (after_commas (Sign CommaSign) (mono_parameter_reader d)) >>= (λ ps.
    give (p ∷ ps)))) >>= (λ ps.
    token (Sign CloseParenSign) >>= (λ _.
    give ps)))

unfoldable pub pred_on : Deeper → Span → List Span → Reader RawDeclTree
pred_on d name names = mono_parameters_reader d >>= (λ ps.
    token (Sign EqualSign) >>= (λ _.
    d.formula >>= (λ f.
    give (decl_pred name names ps f))))

unfoldable pub induct_on : Deeper → Span → Reader RawDeclTree
induct_on d name = a_binder >>= (λ b.
    mono_parameters_reader d >>= (λ ps.
    token (Sign EqualSign) >>= (λ _.
    token (Sign OpenBraceSign) >>= (λ _.
    d.formula >>= (λ f.
    token (Sign CloseBraceSign) >>= (λ _.
    token (Sign OpenBraceSign) >>= (λ _.
    d.formula >>= (λ g.
    token (Sign CloseBraceSign) >>= (λ _.
    give (decl_induct name b ps f g))))))))))

abbrev pub pred_names_on : Deeper → Span → Reader RawDeclTree
pred_names_on d name = a_name_there >>= (λ a.
    measured (after_commas (Sign CommaSign) a_name_there) >>= (λ as'.
    token (Sign CloseBracketSign) >>= (λ _.
    pred_on d name (a ∷ as'))))

abbrev pub pred_case : Deeper → Span → Kind → Option (Span → Reader RawDeclTree)
pred_case d name (Keyword InductWord) = Some (λ _. induct_on d name)
pred_case d name (Sign OpenBracketSign) = Some (λ _. pred_names_on d name)
pred_case d name _ = None

abbrev pub body_case : Kind → Option (Span → Reader RawBodyTree)
body_case (Keyword AutoWord) = Some (λ s. give (body_auto s.from))
body_case _ = None

unfoldable pub body_reader : Deeper → Reader RawBodyTree
body_reader d = either body_case (d.proof >>= (λ p. give (body_proof p)))

unfoldable pub typed_on : Deeper → (Span → RawTyTree → RawTermTree → RawDeclTree) → Reader RawDeclTree
typed_on d make = a_name_there >>= (λ x.
    token (Sign ColonSign) >>= (λ _.
    d.ty >>= (λ a.
    token (Sign EqualSign) >>= (λ _.
    d.term >>= (λ m.
    give (make x a m))))))

abbrev pub type_on : Deeper → Reader RawDeclTree
type_on d = a_name_there >>= (λ x. token (Sign EqualSign) >>= (λ _. d.mono >>= (λ m. give (decl_type x m))))

abbrev pub pred_decl_on : Deeper → Reader RawDeclTree
pred_decl_on d = a_name_there >>= (λ x. either (pred_case d x) (pred_on d x []))

abbrev pub proof_decl_on : Deeper → ℕ → Reader RawDeclTree
proof_decl_on d at = a_name_there >>= (λ x.
    token (Sign DotSign) >>= (λ _.
    a_number_there >>= (λ n.
    token (Sign EqualSign) >>= (λ _.
    body_reader d >>= (λ b.
    give (decl_proof at x n b))))))

abbrev pub decl_case : Deeper → Kind → Option (Span → Reader RawDeclTree)
decl_case d (Keyword TypeWord) = Some (λ _. type_on d)
decl_case d (Keyword PredWord) = Some (λ _. pred_decl_on d)
decl_case d (Keyword DefWord) = Some (λ _. typed_on d decl_def)
decl_case d (Keyword ValWord) = Some (λ _. typed_on d decl_val)
decl_case d (Keyword ProofWord) = Some (λ s. proof_decl_on d s.from)
decl_case d _ = None

unfoldable pub decl_reader : Deeper → Reader RawDeclTree
decl_reader d = either (decl_case d) stop

abbrev pub any_token : Kind → Bool
any_token k = true

-- declarations to the end of the tokens, at most so many
unfoldable pub file_on : Deeper → ℕ → Reader (List RawDeclTree)
file_on d zero = if_first any_token (refuse too_many begins_decl) (give [])
file_on d (suc n) = if_first any_token (decl_reader d >>= (λ x. file_on d n >>= (λ xs. give (x ∷ xs)))) (give [])
