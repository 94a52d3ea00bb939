-- No operand is deeper than the tokens before it: declarations and files.
use Rattle.std.proofs.Common.{ℕ, List, [], ◌∷◌, refl}
use Rattle.htt_parser_trees.specs.declared.place.Span.{Span}
use Rattle.htt_parser_trees.specs.Trees.{RawMonoParamTree, mono_param, RawBodyTree, body_auto, body_proof, RawDeclTree, decl_type, decl_pred, decl_induct}
use Rattle.htt_parser_trees.specs.Trees.{decl_def, decl_val, decl_proof}
use Rattle.theory_grammar.specs.Marks.{name}
use Rattle.theory_grammar.specs.Grammar
use Rattle.theory_grammar_chains.proofs.Even.{Even, none, one, alone, sub, separated_even}
use Rattle.theory_grammar_chains.proofs.Monotypes.{binder_even, mono_even}
use Rattle.theory_grammar_chains.proofs.Terms.{ty_even, term_even, formula_even}
use Rattle.theory_grammar_chains.proofs.Proofs.{proof_even}

name_even : {n : ℕ} (span : Span) → Even n (name 0 span)
name_even span = alone refl

pub names_even : {n : ℕ} (x : List Span) → Even n (Grammar.names x)
names_even [] = none
names_even (s1 ∷ x2) = one _ refl (sub (separated_even _ refl name_even (s1 ∷ x2)) (alone refl))

pub mono_parameter_even : {n : ℕ} (x : RawMonoParamTree) → Even n (Grammar.mono_parameter x)
mono_parameter_even (mono_param s0 x2) = one _ refl (one _ refl (mono_even _ x2))

pub mono_parameters_even : {n : ℕ} (x : List RawMonoParamTree) → Even n (Grammar.mono_parameters x)
mono_parameters_even x = one _ refl (sub (separated_even _ refl mono_parameter_even x) (alone refl))

pub body_even : {n : ℕ} (x : RawBodyTree) → Even n (Grammar.body x)
body_even (body_auto a0) = alone refl
body_even (body_proof x0) = proof_even _ x0

pub decl_even : {n : ℕ} (x : RawDeclTree) → Even n (Grammar.decl x)
decl_even (decl_type s1 x3) = one _ refl (one _ refl (one _ refl (mono_even _ x3)))
decl_even (decl_pred s1 x2 x3 x5) = one _ refl (one _ refl (sub (names_even x2) (sub (mono_parameters_even x3) (one _ refl (formula_even _ x5)))))
decl_even (decl_induct s1 x3 x4 x7 x10) =
    one _ refl (one _ refl (one _ refl
    (sub (binder_even _ x3) (sub (mono_parameters_even x4)
    (one _ refl (one _ refl (sub (formula_even _ x7) (one _ refl (one _ refl (sub (formula_even _ x10) (alone refl)))))))))))
decl_even (decl_def s1 x3 x5) = one _ refl (one _ refl (one _ refl (sub (ty_even _ x3) (one _ refl (term_even _ x5)))))
decl_even (decl_val s1 x3 x5) = one _ refl (one _ refl (one _ refl (sub (ty_even _ x3) (one _ refl (term_even _ x5)))))
decl_even (decl_proof a0 s1 n3 x5) = one _ refl (one _ refl (one _ refl (one _ refl (one _ refl (body_even x5)))))

pub file_even : {n : ℕ} (x : List RawDeclTree) → Even n (Grammar.file x)
file_even [] = none
file_even (x0 ∷ x1) = sub (decl_even x0) (file_even x1)
