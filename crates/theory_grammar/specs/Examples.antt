-- Worked examples of the grammar: the kinds of a tree's tokens, the levels at which they stand, and
-- the operands that they begin.
use Rattle.std.specs.Prelude.{◌≡◌, ℕ, ◌+◌, List, [], ◌∷◌, map}
use Rattle.htt_lexer_tokens.specs.declared.tokens.Kind.{Kind}
use Rattle.htt_lexer_tokens.specs.declared.tokens.Kind.TheVariants.{Name, Number, Keyword, Sign}
use Rattle.htt_lexer_tokens.specs.declared.tokens.Token.{Token}
use Rattle.htt_lexer_tokens.specs.declared.tokens.Keyword.TheVariants.{DefWord, WordWord}
use Rattle.htt_lexer_tokens.specs.declared.tokens.Sign.TheVariants.{OpenParenSign, CloseParenSign, OpenBracketSign}
use Rattle.htt_lexer_tokens.specs.declared.tokens.Sign.TheVariants.{CloseBracketSign, SemicolonSign, ColonSign}
use Rattle.htt_lexer_tokens.specs.declared.tokens.Sign.TheVariants.{EqualSign, PlusSign, StarSign, BangSign}
use Rattle.htt_parser_trees.specs.declared.place.Span.{Span}
use Rattle.htt_parser_trees.specs.declared.mono.MonoName.TheVariants as mono_names
use Rattle.htt_parser_trees.specs.Trees.{plus, times, RawMonoTree, m_name, m_brackets, m_factor, m_pair, RawTermTree}
use Rattle.htt_parser_trees.specs.Trees.{t_rel, r_sum, s_sum, s_end, s_more, x_prod, x_end, x_more, l_apply, no_parts}
use Rattle.htt_parser_trees.specs.Trees.{atom_part, mono_part, RawAtomTree, a_name, a_number, a_brackets}
use Rattle.htt_parser_trees.specs.Trees.{RawFormulaTree, f_disj, f_implies, d_conj, j_star, j_and, k_fatom, g_tt}
use Rattle.htt_parser_trees.specs.Trees.{g_use_at, no_terms, RawProofTree, p_end, e_name, e_app, no_proofs, more_proofs}
use Rattle.htt_parser_trees.specs.Trees.{RawDeclTree, decl_def, y_mono}
use Rattle.theory_grammar.specs.Marks.{Mark}
use Rattle.theory_grammar.specs.Grammar.{mono, term, formula, proof, file}
use Rattle.theory_grammar.specs.Derivations.{IsFile}

abbrev pub kinds_of : List Mark → List Kind
kinds_of marks = map (λ mark. mark.kind) marks

abbrev pub levels_of : List Mark → List ℕ
levels_of marks = map (λ mark. mark.level) marks

abbrev pub operands_of : List Mark → List ℕ
operands_of marks = map (λ mark. mark.operand) marks

abbrev pub of_atom : RawAtomTree → RawTermTree
of_atom a = t_rel (r_sum (s_sum (x_prod (l_apply a no_parts) x_end) s_end))

abbrev pub at_byte : ℕ → Span
at_byte n = record { from = n; to = n + 1 }

-- ((word))
abbrev pub in_two_brackets : RawMonoTree
in_two_brackets = m_factor (m_brackets 0 (m_factor (m_brackets 1 (m_factor (m_name (mono_names.Word 2))))))

-- word * bool * loc
abbrev pub three_factors : RawMonoTree
three_factors =
    m_pair (m_name (mono_names.Word 0)) (m_pair (m_name (mono_names.Bool 7)) (m_factor (m_name (mono_names.Loc 14))))

-- ((1))
abbrev pub one_in_brackets : RawTermTree
one_in_brackets = of_atom (a_brackets 0 (of_atom (a_brackets 1 (of_atom (a_number 2 1)))))

-- f x [word] + 1 * 2
abbrev pub chains : RawTermTree
chains =
    t_rel (r_sum (s_sum
    (x_prod (l_apply (a_name (at_byte 0))
    (atom_part (a_name (at_byte 2)) (mono_part (m_factor (m_name (mono_names.Word 5))) no_parts))) x_end)
    (s_more plus (x_prod (l_apply (a_number 13 1) no_parts) (x_more times (l_apply (a_number 17 2) no_parts) x_end))
    s_end)))

abbrev pub of_tt : ℕ → RawFormulaTree
of_tt at = f_disj (d_conj (j_star (k_fatom (g_tt at))))

-- tt /\ tt => tt
abbrev pub connected : RawFormulaTree
connected = f_implies (d_conj (j_and (k_fatom (g_tt 0)) (j_star (k_fatom (g_tt 6))))) (of_tt 12)

-- !p(1;)
abbrev pub used : RawFormulaTree
used = f_disj (d_conj (j_star (k_fatom (g_use_at 0 (at_byte 1) (of_atom (a_number 3 1)) no_terms))))

-- app(u, v, w)
abbrev pub applied : RawProofTree
applied =
    p_end (e_app 0 (p_end (e_name (at_byte 4))) (p_end (e_name (at_byte 7)))
    (more_proofs (p_end (e_name (at_byte 10))) no_proofs))

-- def x : word = 1
abbrev pub one_def : List RawDeclTree
one_def = decl_def (at_byte 4) (y_mono (m_factor (m_name (mono_names.Word 8)))) (of_atom (a_number 15 1)) ∷ []

abbrev pub def_tokens : List Token
def_tokens =
    record { kind = Keyword DefWord; from = 0; to = 3 } ∷ record { kind = Name; from = 4; to = 5 }
    ∷ record { kind = Sign ColonSign; from = 6; to = 7 } ∷ record { kind = Keyword WordWord; from = 8; to = 12 }
    ∷ record { kind = Sign EqualSign; from = 13; to = 14 } ∷ record { kind = Number 1; from = 15; to = 16 } ∷ []

-- brackets of monotypes raise no level, the right operand of a product does
pub record Monotypes : Type 0 where
  pub bracket_kinds : kinds_of (mono 1 in_two_brackets)
      ≡ Sign OpenParenSign ∷ Sign OpenParenSign ∷ Keyword WordWord ∷ Sign CloseParenSign ∷ Sign CloseParenSign ∷ []
  pub bracket_levels : levels_of (mono 1 in_two_brackets) ≡ 1 ∷ 1 ∷ 1 ∷ 1 ∷ 1 ∷ []
  pub product_levels : levels_of (mono 1 three_factors) ≡ 1 ∷ 1 ∷ 2 ∷ 2 ∷ 3 ∷ []

pub record Terms : Type 0 where
  pub bracket_levels : levels_of (term 1 one_in_brackets) ≡ 1 ∷ 2 ∷ 3 ∷ 2 ∷ 1 ∷ []
  pub chain_kinds : kinds_of (term 1 chains)
      ≡ Name ∷ Name ∷ Sign OpenBracketSign ∷ Keyword WordWord ∷ Sign CloseBracketSign ∷ Sign PlusSign ∷ Number 1 ∷
      Sign StarSign ∷ Number 2 ∷ []
  pub chain_levels : levels_of (term 1 chains) ≡ 1 ∷ 1 ∷ 1 ∷ 1 ∷ 1 ∷ 1 ∷ 1 ∷ 1 ∷ 1 ∷ []
  pub chain_operands : operands_of (term 1 chains) ≡ 1 ∷ 2 ∷ 1 ∷ 3 ∷ 1 ∷ 1 ∷ 2 ∷ 1 ∷ 2 ∷ []

pub record Formulas : Type 0 where
  pub levels : levels_of (formula 1 connected) ≡ 1 ∷ 1 ∷ 2 ∷ 1 ∷ 2 ∷ []
  pub kinds : kinds_of (formula 1 used)
      ≡ Sign BangSign ∷ Name ∷ Sign OpenParenSign ∷ Number 1 ∷ Sign SemicolonSign ∷ Sign CloseParenSign ∷ []

pub record Proofs : Type 0 where
  pub levels : levels_of (proof 1 applied) ≡ 1 ∷ 1 ∷ 2 ∷ 1 ∷ 2 ∷ 1 ∷ 2 ∷ 1 ∷ []
  pub operands : operands_of (proof 1 applied) ≡ 1 ∷ 1 ∷ 1 ∷ 1 ∷ 2 ∷ 1 ∷ 3 ∷ 1 ∷ []

pub record Files : Type 0 where
  pub derives : IsFile def_tokens one_def
  pub levels : levels_of (file one_def) ≡ 0 ∷ 0 ∷ 0 ∷ 1 ∷ 0 ∷ 1 ∷ []
