-- With which token each phrase begins, at the phrase's own level.
use Rattle.std.proofs.Common.{◌≡◌, ℕ, suc, refl}
use Rattle.std.specs.Prelude.{Bool, true, false, ◌||◌}
use Rattle.htt_lexer_tokens.specs.declared.tokens.Kind.{Kind}
use Rattle.htt_lexer_tokens.specs.declared.tokens.Kind.TheVariants.{Keyword, Sign}
use Rattle.htt_lexer_tokens.specs.declared.tokens.Keyword.TheVariants.{FunWord, DoWord, FixWord, RetWord, FstWord, SndWord, NotWord, EmpWord, TtWord, FfWord}
use Rattle.htt_lexer_tokens.specs.declared.tokens.Keyword.TheVariants.{AllWord, ExWord, CapitalEmpWord, CellWord, BlockWord, JoinWord, SameWord}
use Rattle.htt_lexer_tokens.specs.declared.tokens.Sign.TheVariants.{OpenBracketSign, OpenBraceSign, AtSign, BangSign}
use Rattle.htt_parser_trees.specs.declared.place.Binder.{Binder}
use Rattle.htt_parser_trees.specs.declared.place.Binder.TheVariants as binders
use Rattle.htt_parser_trees.specs.declared.mono.MonoName.{MonoName}
use Rattle.htt_parser_trees.specs.declared.mono.MonoName.TheVariants as mono_names
use Rattle.htt_parser_trees.specs.declared.tree.UnaryWord.{UnaryWord}
use Rattle.htt_parser_trees.specs.declared.tree.UnaryWord.TheVariants as unary_words
use Rattle.htt_parser_trees.specs.declared.proof.UnaryRule.{UnaryRule}
use Rattle.htt_parser_trees.specs.declared.proof.UnaryRule.TheVariants as unary_rules
use Rattle.htt_parser_trees.specs.Trees.{RawFactorTree, RawMonoTree, m_name, m_brackets, m_factor, m_pair, RawTyTree, RawTermTree, RawRelTree, RawSumTree}
use Rattle.htt_parser_trees.specs.Trees.{RawProdTree, RawApplTree, RawAtomTree, RawCompTree, RawFormulaTree, RawDisjTree, RawConjTree, RawStarTree}
use Rattle.htt_parser_trees.specs.Trees.{RawFatomTree, y_fun, y_all, y_hoare, y_mono, t_rel, r_sum, r_less, s_sum, x_prod, l_unary, l_apply, a_name, c_ret}
use Rattle.htt_parser_trees.specs.Trees.{c_step, f_all, f_ex, f_disj, f_implies, d_conj, d_or, j_star, j_and, k_fatom, k_times, g_eq, g_points, g_points_any}
use Rattle.htt_parser_trees.specs.Trees.{RawArgTree, arg_heap, arg_term, RawProofTree, RawStmtTree, RawEndTree, p_end, p_step, b_intro, e_unary}
use Rattle.theory_grammar.specs.Marks.{◌⨟◌}
use Rattle.theory_grammar.specs.Grammar
use Rattle.theory_grammar.specs.Beginnings.{begins_binder, begins_mono, begins_ty, begins_atom, begins_appl, begins_term, begins_comp, begins_fatom}
use Rattle.theory_grammar.specs.Beginnings.{begins_formula, begins_arg, begins_stmt, begins_end, begins_proof}
use Rattle.theory_grammar.proofs.Spells.{Opens, Begins, begins_of, opens_then, opens_wider}

pub opens_binder : (l : ℕ) (b : Binder) → Opens begins_binder l (Grammar.binder l b)
opens_binder l (binders.Name s) = (refl, refl, refl)
opens_binder l binders.Blank = (refl, refl, refl)

pub opens_mono_name : (l : ℕ) (n : MonoName) → Opens begins_mono l (Grammar.mono_name l n)
opens_mono_name l (mono_names.Word at) = (refl, refl, refl)
opens_mono_name l _ = (refl, refl, refl)

pub opens_factor : (l : ℕ) (f : RawFactorTree) → Opens begins_mono l (Grammar.factor l f)
unfolding Grammar.factor ◌⨟◌
opens_factor l (m_name n) = opens_mono_name l n
opens_factor l (m_brackets at m) = (refl, refl, refl)

pub opens_mono : (l : ℕ) (m : RawMonoTree) → Opens begins_mono l (Grammar.mono l m)
unfolding Grammar.factor
opens_mono l (m_factor f) = opens_factor l f
opens_mono l (m_pair f m) = opens_then begins_mono l (Grammar.factor l f) _ (opens_factor l f)

mono_begins_ty : (k : Kind) → begins_mono k ≡ true → begins_ty k ≡ true
mono_begins_ty (Sign OpenBracketSign) h = refl
mono_begins_ty (Sign OpenBraceSign) h = refl
mono_begins_ty _ h = h

pub opens_ty : (l : ℕ) (a : RawTyTree) → Opens begins_ty l (Grammar.ty l a)
unfolding Grammar.ty ◌⨟◌
opens_ty l (y_fun at b a c) = (refl, refl, refl)
opens_ty l (y_all at s c) = (refl, refl, refl)
opens_ty l (y_hoare at t) = (refl, refl, refl)
opens_ty l (y_mono m) = opens_wider begins_mono begins_ty l (Grammar.mono l m) mono_begins_ty (opens_mono l m)

pub opens_atom : (l : ℕ) (a : RawAtomTree) → Opens begins_atom l (Grammar.atom l a)
unfolding Grammar.atom ◌⨟◌
opens_atom l (a_name s) = (refl, refl, refl)
opens_atom l _ = (refl, refl, refl)

atom_begins_appl : (k : Kind) → begins_atom k ≡ true → begins_appl k ≡ true
atom_begins_appl (Keyword FstWord) h = refl
atom_begins_appl (Keyword SndWord) h = refl
atom_begins_appl (Keyword NotWord) h = refl
atom_begins_appl _ h = h

pub opens_unary_word : (w : UnaryWord) → begins_appl (Keyword (Grammar.unary_word w)) ≡ true
opens_unary_word unary_words.Fst = refl
opens_unary_word unary_words.Snd = refl
opens_unary_word unary_words.Not = refl

pub opens_appl : (l : ℕ) (a : RawApplTree) → Opens begins_appl l (Grammar.appl l a)
unfolding Grammar.atom ◌⨟◌
opens_appl l (l_unary at w a) = (opens_unary_word w, refl, refl)
opens_appl l (l_apply a ps) =
    opens_then begins_appl l (Grammar.atom l a) _
    (opens_wider begins_atom begins_appl l (Grammar.atom l a) atom_begins_appl (opens_atom l a))

pub opens_prod : (l : ℕ) (p : RawProdTree) → Opens begins_appl l (Grammar.prod l p)
unfolding Grammar.atom
opens_prod l (x_prod a rest) = opens_then begins_appl l (Grammar.appl l a) _ (opens_appl l a)

pub opens_sum : (l : ℕ) (s : RawSumTree) → Opens begins_appl l (Grammar.sum l s)
unfolding Grammar.atom
opens_sum l (s_sum p rest) = opens_then begins_appl l (Grammar.prod l p) _ (opens_prod l p)

pub opens_rel : (l : ℕ) (r : RawRelTree) → Opens begins_appl l (Grammar.rel l r)
unfolding Grammar.atom
opens_rel l (r_sum s) = opens_sum l s
opens_rel l (r_less s r) = opens_then begins_appl l (Grammar.sum l s) _ (opens_sum l s)

appl_begins_term : (k : Kind) → begins_appl k ≡ true → begins_term k ≡ true
appl_begins_term (Keyword FunWord) h = refl
appl_begins_term (Keyword DoWord) h = refl
appl_begins_term (Keyword FixWord) h = refl
appl_begins_term _ h = h

pub opens_term : (l : ℕ) (m : RawTermTree) → Opens begins_term l (Grammar.term l m)
unfolding Grammar.atom ◌⨟◌
opens_term l (t_rel r) = opens_wider begins_appl begins_term l (Grammar.rel l r) appl_begins_term (opens_rel l r)
opens_term l _ = (refl, refl, refl)

binder_begins_comp : (k : Kind) → begins_binder k ≡ true → begins_comp k ≡ true
binder_begins_comp (Keyword RetWord) h = refl
binder_begins_comp _ h = h

pub opens_comp : (l : ℕ) (e : RawCompTree) → Opens begins_comp l (Grammar.comp l e)
unfolding Grammar.atom ◌⨟◌
opens_comp l (c_ret m) = (refl, refl, refl)
opens_comp l (c_step b s e) =
    opens_then begins_comp l (Grammar.binder l b) _
    (opens_wider begins_binder begins_comp l (Grammar.binder l b) binder_begins_comp (opens_binder l b))

appl_begins_fatom : (k : Kind) → begins_appl k ≡ true → begins_fatom k ≡ true
appl_begins_fatom (Keyword TtWord) h = refl
appl_begins_fatom (Keyword FfWord) h = refl
appl_begins_fatom (Keyword EmpWord) h = refl
appl_begins_fatom (Keyword CapitalEmpWord) h = refl
appl_begins_fatom (Keyword SameWord) h = refl
appl_begins_fatom (Keyword JoinWord) h = refl
appl_begins_fatom (Keyword CellWord) h = refl
appl_begins_fatom (Keyword BlockWord) h = refl
appl_begins_fatom (Sign OpenBracketSign) h = refl
appl_begins_fatom (Sign AtSign) h = refl
appl_begins_fatom (Sign BangSign) h = refl
appl_begins_fatom _ h = h

rel_begins_fatom : (l : ℕ) (r : RawRelTree) → Opens begins_fatom l (Grammar.rel l r)
rel_begins_fatom l r = opens_wider begins_appl begins_fatom l (Grammar.rel l r) appl_begins_fatom (opens_rel l r)

pub opens_fatom : (l : ℕ) (f : RawFatomTree) → Opens begins_fatom l (Grammar.fatom l f)
unfolding Grammar.atom ◌⨟◌
opens_fatom l (g_eq m t n) = opens_then begins_fatom l (Grammar.rel l m) _ (rel_begins_fatom l m)
opens_fatom l (g_points m t n) = opens_then begins_fatom l (Grammar.rel l m) _ (rel_begins_fatom l m)
opens_fatom l (g_points_any m t) = opens_then begins_fatom l (Grammar.rel l m) _ (rel_begins_fatom l m)
opens_fatom l _ = (refl, refl, refl)

pub opens_star : (l : ℕ) (s : RawStarTree) → Opens begins_fatom l (Grammar.star l s)
unfolding Grammar.atom
opens_star l (k_fatom f) = opens_fatom l f
opens_star l (k_times f s) = opens_then begins_fatom l (Grammar.fatom l f) _ (opens_fatom l f)

pub opens_conj : (l : ℕ) (c : RawConjTree) → Opens begins_fatom l (Grammar.conj l c)
unfolding Grammar.atom
opens_conj l (j_star s) = opens_star l s
opens_conj l (j_and s c) = opens_then begins_fatom l (Grammar.star l s) _ (opens_star l s)

pub opens_disj : (l : ℕ) (d : RawDisjTree) → Opens begins_fatom l (Grammar.disj l d)
unfolding Grammar.atom
opens_disj l (d_conj c) = opens_conj l c
opens_disj l (d_or c d) = opens_then begins_fatom l (Grammar.conj l c) _ (opens_conj l c)

fatom_begins_formula : (k : Kind) → begins_fatom k ≡ true → begins_formula k ≡ true
fatom_begins_formula (Keyword AllWord) h = refl
fatom_begins_formula (Keyword ExWord) h = refl
fatom_begins_formula _ h = h

pub opens_formula : (l : ℕ) (f : RawFormulaTree) → Opens begins_formula l (Grammar.formula l f)
unfolding Grammar.atom ◌⨟◌
opens_formula l (f_all at b s f) = (refl, refl, refl)
opens_formula l (f_ex at b s f) = (refl, refl, refl)
opens_formula l (f_disj d) = opens_wider begins_fatom begins_formula l (Grammar.disj l d) fatom_begins_formula (opens_disj l d)
opens_formula l (f_implies d f) =
    opens_then begins_formula l (Grammar.disj l d) _
    (opens_wider begins_fatom begins_formula l (Grammar.disj l d) fatom_begins_formula (opens_disj l d))

pub term_begins_arg : (k : Kind) → begins_term k ≡ true → begins_arg k ≡ true
term_begins_arg (Sign AtSign) h = refl
term_begins_arg _ h = h

-- an argument that is a term is a phrase, and begins one level deeper
pub opens_operand : (l : ℕ) (a : RawArgTree) → Begins begins_arg (Grammar.arg l a)
unfolding ◌⨟◌
opens_operand l (arg_heap at h) = (refl, refl)
opens_operand l (arg_term m) =
    begins_of begins_arg (suc l) (Grammar.term (suc l) m)
    (opens_wider begins_term begins_arg (suc l) (Grammar.term (suc l) m) term_begins_arg (opens_term (suc l) m))

pub opens_stmt : (l : ℕ) (s : RawStmtTree) → Opens begins_stmt l (Grammar.stmt l s)
unfolding Grammar.stmt ◌⨟◌
opens_stmt l (b_intro at u) = (refl, refl, refl)
opens_stmt l _ = (refl, refl, refl)

pub opens_unary_rule : (w : UnaryRule) → begins_end (Keyword (Grammar.unary_rule w)) ≡ true
opens_unary_rule unary_rules.First = refl
opens_unary_rule unary_rules.Second = refl
opens_unary_rule unary_rules.Left = refl
opens_unary_rule unary_rules.Right = refl
opens_unary_rule unary_rules.Absurd = refl

pub opens_end : (l : ℕ) (e : RawEndTree) → Opens begins_end l (Grammar.ending l e)
unfolding Grammar.ending ◌⨟◌
opens_end l (e_unary at w p) = (opens_unary_rule w, refl, refl)
opens_end l _ = (refl, refl, refl)

or_one : (a b : Bool) → a ≡ true → (a || b) ≡ true
or_one true b h = refl
or_one false b h = absurd (let no : false ≡ true = h in cc)

or_other : (a b : Bool) → b ≡ true → (a || b) ≡ true
or_other true b h = refl
or_other false b h = h

pub opens_proof : (l : ℕ) (p : RawProofTree) → Opens begins_proof l (Grammar.proof l p)
unfolding Grammar.proof
opens_proof l (p_end e) = opens_wider begins_end begins_proof l (Grammar.ending l e) (λ k h. or_other (begins_stmt k) (begins_end k) h) (opens_end l e)
opens_proof l (p_step s p) =
    opens_then begins_proof l (Grammar.stmt l s) _
    (opens_wider begins_stmt begins_proof l (Grammar.stmt l s) (λ k h. or_one (begins_stmt k) (begins_end k) h) (opens_stmt l s))
