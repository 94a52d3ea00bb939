-- A worked example: declarations of a short text, and what they say.
use Rattle.std.specs.Prelude.{ℕ, [], ◌∷◌, Some, codes}
use Rattle.htt_parser_trees.specs.declared.place.Span.{Span}
use Rattle.htt_parser_trees.specs.declared.place.Binder.TheVariants as binders
use Rattle.htt_parser_trees.specs.declared.mono.MonoName.TheVariants as mono_names
use Rattle.htt_parser_trees.specs.declared.proof.UnaryRule.TheVariants as rules
use Rattle.htt_parser_trees.specs.Trees.{m_factor, m_name, y_hoare, triple_of, t_do, t_rel, r_sum, s_sum, s_end, s_more}
use Rattle.htt_parser_trees.specs.Trees.{plus, x_prod, x_end, l_apply, no_parts, a_name, a_number, c_ret, f_disj}
use Rattle.htt_parser_trees.specs.Trees.{d_conj, j_star, k_fatom, g_tt, g_eq, p_end, p_step, b_intro, e_name, e_unary}
use Rattle.htt_parser_trees.specs.Trees.{body_proof, decl_val, decl_proof}
use Rattle.htt_top_one_form.specs.Form.{IsForm}

abbrev pub span : ℕ → ℕ → Span
span from to = record { from = from; to = to }

-- in the text `main x u` the names stand at 0, 5 and 7; all words are said to stand at 9, but for `second`
abbrev pub ExampleForm : Type 0
ExampleForm =
    IsForm (codes "main x u") (
    decl_val (span 0 4)
    (y_hoare 9 (triple_of (f_disj (d_conj (j_star (k_fatom (g_tt 9))))) (binders.Name (span 5 6))
    (m_factor (m_name (mono_names.Word 9)))
    (f_disj (d_conj (j_star (k_fatom (g_eq
    (r_sum (s_sum (x_prod (l_apply (a_name (span 5 6)) no_parts) x_end) s_end))
    (m_factor (m_name (mono_names.Word 9)))
    (r_sum (s_sum (x_prod (l_apply (a_number 9 5) no_parts) x_end) s_end)))))))))
    (t_do 9 (c_ret (t_rel (r_sum
    (s_sum (x_prod (l_apply (a_number 9 2) no_parts) x_end)
    (s_more plus (x_prod (l_apply (a_number 9 3) no_parts) x_end) s_end)))))) ∷
    decl_proof 9 (span 0 4) 1
    (body_proof (p_step (b_intro 9 (span 7 8)) (p_end (e_unary 12 rules.Second (p_end (e_name (span 7 8))))))) ∷ []
    ) (record { claimed = 5; left = 2; right = Some 3; place = 12 })
