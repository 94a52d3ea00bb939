-- The declarations of the form, and what they say.
use Rattle.std.specs.Prelude.{◌≡◌, ℕ, ◌≤◌, List, [], ◌∷◌, Option, Some, None, length, slice_range, codes}
use Rattle.htt_parser_trees.specs.declared.place.Span.{Span}
use Rattle.htt_parser_trees.specs.declared.place.Binder.TheVariants as binders
use Rattle.htt_parser_trees.specs.declared.mono.MonoName.TheVariants as mono_names
use Rattle.htt_parser_trees.specs.declared.proof.UnaryRule.TheVariants as rules
use Rattle.htt_parser_trees.specs.Trees.{RawMonoTree, m_factor, m_name, RawTyTree, y_hoare, triple_of, RawTermTree}
use Rattle.htt_parser_trees.specs.Trees.{t_do, t_rel, RawRelTree, r_sum, s_sum, RawSumRestTree, s_end, s_more, plus}
use Rattle.htt_parser_trees.specs.Trees.{RawProdTree, x_prod, x_end, l_apply, no_parts, RawAtomTree, a_name, a_number}
use Rattle.htt_parser_trees.specs.Trees.{c_ret, RawFormulaTree, f_disj, d_conj, j_star, k_fatom, RawFatomTree, g_tt}
use Rattle.htt_parser_trees.specs.Trees.{g_eq, RawProofTree, p_end, p_step, b_intro, e_name, e_unary, body_proof}
use Rattle.htt_parser_trees.specs.Trees.{RawDeclTree, decl_val, decl_proof}
use Rattle.htt_top_one_form.specs.declared.form.Form.{Form}

-- the bytes of the text at this span are those of the word
pub record IsNamed (text : List ℕ) (span : Span) (word : List ℕ) : Type 0 where
  pub ordered : span.from ≤ span.to
  pub within : span.to ≤ length text
  pub bytes : slice_range text span.from span.to ≡ word

-- ---- phrases of one part

abbrev pub lone_prod : RawAtomTree → RawProdTree
lone_prod a = x_prod (l_apply a no_parts) x_end

abbrev pub lone_rel : RawAtomTree → RawRelTree
lone_rel a = r_sum (s_sum (lone_prod a) s_end)

abbrev pub lone_formula : RawFatomTree → RawFormulaTree
lone_formula f = f_disj (d_conj (j_star (k_fatom f)))

abbrev pub the_word : ℕ → RawMonoTree
the_word at = m_factor (m_name (mono_names.Word at))

-- [+ b], with the first byte of the number
abbrev pub addend : ℕ → Option ℕ → RawSumRestTree
addend at None = s_end
addend at (Some b) = s_more plus (lone_prod (a_number at b)) s_end

-- ---- the declarations, for some spans of names and some places of words

-- {tt} x : word {x =[word] claim}
pub record IsClaim (text : List ℕ) (ty : RawTyTree) (claim : ℕ) : Type 0 where
  pub result : Span
  pub claimed : Span
  pub at : ℕ
  pub tt_at : ℕ
  pub word_at : ℕ
  pub sort_at : ℕ
  pub number_at : ℕ
  pub tree : ty
      ≡ y_hoare at (triple_of (lone_formula (g_tt tt_at)) (binders.Name result) (the_word word_at)
      (lone_formula (g_eq (lone_rel (a_name claimed)) (the_word sort_at) (lone_rel (a_number number_at claim)))))
  pub result_named : IsNamed text result (codes "x")
  pub claimed_named : IsNamed text claimed (codes "x")

-- do ret left [+ right]
pub record IsReturned (term : RawTermTree) (left : ℕ) (right : Option ℕ) : Type 0 where
  pub at : ℕ
  pub left_at : ℕ
  pub right_at : ℕ
  pub tree : term ≡ t_do at (c_ret (t_rel (r_sum (s_sum (lone_prod (a_number left_at left)) (addend right_at right)))))

-- intro u; second(u)
pub record IsProved (text : List ℕ) (proof : RawProofTree) (place : ℕ) : Type 0 where
  pub at : ℕ
  pub bound : Span
  pub used : Span
  pub tree : proof ≡ p_step (b_intro at bound) (p_end (e_unary place rules.Second (p_end (e_name used))))
  pub bound_named : IsNamed text bound (codes "u")
  pub used_named : IsNamed text used (codes "u")

-- val main : .. = ..   proof main.1 = ..
pub record IsForm (text : List ℕ) (decls : List RawDeclTree) (form : Form) : Type 0 where
  pub main : Span
  pub proved : Span
  pub at : ℕ
  pub ty : RawTyTree
  pub term : RawTermTree
  pub proof : RawProofTree
  pub trees : decls ≡ decl_val main ty term ∷ decl_proof at proved 1 (body_proof proof) ∷ []
  pub main_named : IsNamed text main (codes "main")
  pub proved_named : IsNamed text proved (codes "main")
  pub claim : IsClaim text ty form.claimed
  pub returned : IsReturned term form.left form.right
  pub proves : IsProved text proof form.place

-- declarations say one thing at most
abbrev pub OneFormOfDeclarations : Type 0
OneFormOfDeclarations =
    (text : List ℕ) (decls : List RawDeclTree) (form other : Form)
    → IsForm text decls form
    → IsForm text decls other
    → form ≡ other
