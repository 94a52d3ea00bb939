-- The declarations compared with those of the form, one level of a tree after the other.
use Rattle.std.specs.Prelude.{ℕ, List, [], ◌∷◌, Bool, true, false, ◌&&◌, ◌==◌, Option, Some, None, if◌then◌else◌}
use Rattle.std.specs.Prelude.{length, nat_le, slice_range, codes}
use Rattle.std.specs.Str.{bytes_eq}
use Rattle.htt_parser_trees.specs.declared.place.Span.{Span}
use Rattle.htt_parser_trees.specs.declared.place.Binder.{Binder}
use Rattle.htt_parser_trees.specs.declared.place.Binder.TheVariants as binders
use Rattle.htt_parser_trees.specs.declared.mono.MonoName.{MonoName}
use Rattle.htt_parser_trees.specs.declared.mono.MonoName.TheVariants as mono_names
use Rattle.htt_parser_trees.specs.declared.proof.UnaryRule.{UnaryRule}
use Rattle.htt_parser_trees.specs.declared.proof.UnaryRule.TheVariants as rules
use Rattle.htt_parser_trees.specs.Trees.{RawMonoTree, m_factor, m_name, RawTyTree, y_hoare, RawTripleTree, triple_of}
use Rattle.htt_parser_trees.specs.Trees.{RawTermTree, t_do, t_rel, RawRelTree, r_sum, RawSumTree, s_sum, RawSumRestTree}
use Rattle.htt_parser_trees.specs.Trees.{s_end, s_more, plus, RawProdTree, x_prod, x_end, RawApplTree, l_apply}
use Rattle.htt_parser_trees.specs.Trees.{no_parts, RawAtomTree, a_name, a_number, RawCompTree, c_ret, RawFormulaTree}
use Rattle.htt_parser_trees.specs.Trees.{f_disj, RawDisjTree, d_conj, RawConjTree, j_star, RawStarTree, k_fatom}
use Rattle.htt_parser_trees.specs.Trees.{RawFatomTree, g_tt, g_eq, RawProofTree, p_end, p_step, RawStmtTree, b_intro}
use Rattle.htt_parser_trees.specs.Trees.{RawEndTree, e_name, e_unary, RawBodyTree, body_proof, RawDeclTree, decl_val}
use Rattle.htt_parser_trees.specs.Trees.{decl_proof}
use Rattle.htt_top_one_form.specs.declared.terms.Operand.{Operand}
use Rattle.htt_top_one_form.specs.declared.terms.Operand.TheVariants as operands
use Rattle.htt_top_one_form.specs.declared.terms.Returned.{Returned}
use Rattle.htt_top_one_form.specs.declared.formulas.Claim.{Claim}
use Rattle.htt_top_one_form.specs.declared.formulas.Claim.TheVariants as claims
use Rattle.htt_top_one_form.specs.declared.form.Program.{Program}
use Rattle.htt_top_one_form.specs.declared.form.Form.{Form}

infixl 10 ◌>>=◌
abbrev pub ◌>>=◌ : {A B : Type 0} → Option A → (A → Option B) → Option B
None >>= f = None
(Some x) >>= f = f x

-- a value where a test is passed
abbrev pub where_true : {A : Type 0} → Bool → Option A → Option A
where_true test told = if test then told else None

abbrev pub span_reads : List ℕ → Span → List ℕ → Bool
span_reads text span word =
    nat_le span.from span.to && nat_le span.to (length text) && bytes_eq (slice_range text span.from span.to) word

-- ---- terms

unfoldable pub atom_operand : RawAtomTree → Option Operand
atom_operand (a_name x) = Some (operands.Name x)
atom_operand (a_number at n) = Some (operands.Number n)
atom_operand _ = None

unfoldable pub appl_operand : RawApplTree → Option Operand
appl_operand (l_apply a no_parts) = atom_operand a
appl_operand _ = None

unfoldable pub prod_operand : RawProdTree → Option Operand
prod_operand (x_prod a x_end) = appl_operand a
prod_operand _ = None

unfoldable pub rel_operand : RawRelTree → Option Operand
rel_operand (r_sum (s_sum p s_end)) = prod_operand p
rel_operand _ = None

abbrev pub operand_number : Option Operand → Option ℕ
operand_number (Some (operands.Number n)) = Some n
operand_number _ = None

abbrev pub number_in : RawProdTree → Option ℕ
number_in p = operand_number (prod_operand p)

-- the number that the first operand adds
unfoldable pub added : RawSumRestTree → Option ℕ
added (s_more plus p r) = number_in p
added _ = None

abbrev pub some_addend : Option ℕ → Option (Option ℕ)
some_addend None = None
some_addend (Some n) = Some (Some n)

unfoldable pub addend_of : RawSumRestTree → Option (Option ℕ)
addend_of s_end = Some None
addend_of (s_more sign p s_end) = some_addend (added (s_more sign p s_end))
addend_of _ = None

abbrev pub both_numbers : Option ℕ → Option (Option ℕ) → Option Returned
both_numbers (Some left) (Some right) = Some (record { left = left; right = right })
both_numbers _ _ = None

unfoldable pub sum_returned : RawSumTree → Option Returned
sum_returned (s_sum p r) = both_numbers (number_in p) (addend_of r)

unfoldable pub rel_returned : RawRelTree → Option Returned
rel_returned (r_sum s) = sum_returned s
rel_returned _ = None

unfoldable pub term_returned : RawTermTree → Option Returned
term_returned (t_rel r) = rel_returned r
term_returned _ = None

unfoldable pub comp_returned : RawCompTree → Option Returned
comp_returned (c_ret m) = term_returned m
comp_returned _ = None

unfoldable pub what_returned : RawTermTree → Option Returned
what_returned (t_do at c) = comp_returned c
what_returned _ = None

-- ---- formulas and types

abbrev pub is_word_name : MonoName → Bool
is_word_name (mono_names.Word at) = true
is_word_name _ = false

abbrev pub is_nothing : Option RawMonoTree → Bool
is_nothing None = true
is_nothing (Some m) = false

unfoldable pub is_word : RawMonoTree → Bool
is_word (m_factor (m_name x)) = is_word_name x
is_word _ = false

abbrev pub equal_claim : List ℕ → Option Operand → Option Operand → Option Claim
equal_claim text (Some (operands.Name x)) (Some (operands.Number n)) =
    where_true (span_reads text x (codes "x")) (Some (claims.Result n))
equal_claim text _ _ = None

abbrev pub equation : List ℕ → RawRelTree → RawRelTree → Option Claim
equation text left right = equal_claim text (rel_operand left) (rel_operand right)

unfoldable pub fatom_claim : List ℕ → RawFatomTree → Option Claim
fatom_claim text (g_tt at) = Some claims.Nothing
fatom_claim text (g_eq left m right) = where_true (is_word m) (equation text left right)
fatom_claim text _ = None

unfoldable pub star_claim : List ℕ → RawStarTree → Option Claim
star_claim text (k_fatom f) = fatom_claim text f
star_claim text _ = None

unfoldable pub conj_claim : List ℕ → RawConjTree → Option Claim
conj_claim text (j_star s) = star_claim text s
conj_claim text _ = None

unfoldable pub disj_claim : List ℕ → RawDisjTree → Option Claim
disj_claim text (d_conj c) = conj_claim text c
disj_claim text _ = None

unfoldable pub formula_claim : List ℕ → RawFormulaTree → Option Claim
formula_claim text (f_disj d) = disj_claim text d
formula_claim text _ = None

abbrev pub binds : List ℕ → Binder → List ℕ → Bool
binds text (binders.Name x) word = span_reads text x word
binds text binders.Blank word = false

abbrev pub both_claims : Option Claim → Option Claim → Option ℕ
both_claims (Some claims.Nothing) (Some (claims.Result n)) = Some n
both_claims _ _ = None

unfoldable pub triple_claim : List ℕ → RawTripleTree → Option ℕ
triple_claim text (triple_of pre x m post) =
    where_true (binds text x (codes "x") && is_word m) (both_claims (formula_claim text pre) (formula_claim text post))

unfoldable pub claimed : List ℕ → RawTyTree → Option ℕ
claimed text (y_hoare at t) = triple_claim text t
claimed text _ = None

-- ---- proofs

unfoldable pub is_name_end : List ℕ → RawEndTree → Bool
is_name_end text (e_name u) = span_reads text u (codes "u")
is_name_end text _ = false

unfoldable pub is_hypothesis : List ℕ → RawProofTree → Bool
is_hypothesis text (p_end e) = is_name_end text e
is_hypothesis text _ = false

abbrev pub is_second : UnaryRule → Bool
is_second rules.Second = true
is_second _ = false

unfoldable pub end_place : List ℕ → RawEndTree → Option ℕ
end_place text (e_unary at rule p) = where_true (is_second rule && is_hypothesis text p) (Some at)
end_place text _ = None

unfoldable pub introduces : List ℕ → RawStmtTree → Bool
introduces text (b_intro at u) = span_reads text u (codes "u")
introduces text _ = false

unfoldable pub proof_place : List ℕ → RawProofTree → Option ℕ
proof_place text (p_step s (p_end e)) = where_true (introduces text s) (end_place text e)
proof_place text _ = None

abbrev pub body_place : List ℕ → RawBodyTree → Option ℕ
body_place text (body_proof p) = proof_place text p
body_place text _ = None

-- ---- declarations

abbrev pub program_of : List ℕ → RawDeclTree → Option Program
program_of text (decl_val main a m) = where_true (span_reads text main (codes "main")) (do
  claim ← claimed text a
  returned ← what_returned m
  Some (record { claimed = claim; returned = returned }))
program_of text _ = None

abbrev pub proved : List ℕ → RawDeclTree → Option ℕ
proved text (decl_proof at main n b) = where_true (n == 1 && span_reads text main (codes "main")) (body_place text b)
proved text _ = None

abbrev pub form_in : List ℕ → List RawDeclTree → Option Form
form_in text (first ∷ second ∷ []) = do
  program ← program_of text first
  place ← proved text second
  Some (record {
    claimed = program.claimed;
    left = program.returned.left;
    right = program.returned.right;
    place = place;
  })
form_in text _ = None
