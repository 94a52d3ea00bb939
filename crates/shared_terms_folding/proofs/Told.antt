-- What a row's term is folded to, by what is seen of its parts.
use Rattle.std.proofs.Common.{◌≡◌, Bool, List, Option, Some, None, refl, ap, ◌∙◌}
use Rattle.htt_syntax.specs.Trees.{TermTree, t_bool}
use Rattle.theory_canonical.specs.Folding.{contractum}
use Rattle.shared_terms_rows.specs.declared.form.Form.{Form}
use Rattle.shared_terms_rows.specs.declared.form.Form.TheVariants as form
use Rattle.shared_terms_rows.specs.declared.form.MonoForm.TheVariants as mono
use Rattle.shared_terms_rows.specs.declared.form.TermForm.TheVariants as term
use Rattle.shared_terms_rows.specs.declared.operation.Operation.{Operation}
use Rattle.shared_terms_rows.specs.declared.row.Row.{Row}
use Rattle.shared_terms_rows.specs.Parts.{Part, as_mono, as_term, build, build_mono, op_of}
use Rattle.shared_terms_rows.specs.Rows.{at, node, RowIs}
use Rattle.shared_terms_folding.specs.declared.shape.Shape.{Shape}
use Rattle.shared_terms_folding.specs.declared.shape.Shape.TheVariants as shapes
use Rattle.shared_terms_folding.specs.Shapes.{shape_of, shape_in, folded_bin, folded_not, folded_eq, folded_fst, folded_snd, folded_sel}
use Rattle.shared_terms_folding.specs.Folded.{equal_by}
use Rattle.shared_terms_folding.proofs.Folds.{fst_folds, snd_folds, not_folds, sel_folds, bin_folds, eq_folds}
use Rattle.shared_terms_folding.proofs.Rows.{fst_node, snd_node, not_node, bin_node, eq_node, sel_node}

module _ (parts : List Part) (row : Row) where
  pub fst_told : (a : Shape)
      → row.form ≡ form.Term term.Fst
      → shape_of (as_term (at parts row.first)) ≡ shape_in parts a
      → contractum (as_term (node parts row)) ≡ folded_fst (shape_in parts a)
  fst_told a e s = ap contractum (fst_node parts row e) ∙ fst_folds (as_term (at parts row.first)) ∙ ap folded_fst s

  pub snd_told : (a : Shape)
      → row.form ≡ form.Term term.Snd
      → shape_of (as_term (at parts row.first)) ≡ shape_in parts a
      → contractum (as_term (node parts row)) ≡ folded_snd (shape_in parts a)
  snd_told a e s = ap contractum (snd_node parts row e) ∙ snd_folds (as_term (at parts row.first)) ∙ ap folded_snd s

  pub not_told : (a : Shape)
      → row.form ≡ form.Term term.Un
      → shape_of (as_term (at parts row.first)) ≡ shape_in parts a
      → contractum (as_term (node parts row)) ≡ folded_not (shape_in parts a)
  not_told a e s = ap contractum (not_node parts row e) ∙ not_folds (as_term (at parts row.first)) ∙ ap folded_not s

  pub bin_told : (operation : Operation) (a b : Shape)
      → row.form ≡ form.Term (term.Bin operation)
      → shape_of (as_term (at parts row.first)) ≡ shape_in parts a
      → shape_of (as_term (at parts row.second)) ≡ shape_in parts b
      → contractum (as_term (node parts row)) ≡ folded_bin (op_of operation) (shape_in parts a) (shape_in parts b)
  bin_told operation a b e s t =
      ap contractum (bin_node parts row operation e)
      ∙ bin_folds (op_of operation) (as_term (at parts row.first)) (as_term (at parts row.second))
      ∙ (λ j. folded_bin (op_of operation) (s j) (t j))

  pub sel_told : (a : Shape)
      → row.form ≡ form.Term term.Sel
      → shape_of (as_term (at parts row.second)) ≡ shape_in parts a
      → contractum (as_term (node parts row))
      ≡ folded_sel (shape_in parts a) (as_term (at parts row.third)) (as_term (at parts row.fourth))
  sel_told a e s =
      ap contractum (sel_node parts row e)
      ∙ sel_folds (as_mono (at parts row.first)) (as_term (at parts row.second)) (as_term (at parts row.third)) (as_term (at parts row.fourth))
      ∙ (λ j. folded_sel (s j) (as_term (at parts row.third)) (as_term (at parts row.fourth)))

-- literals of a monotype, by its form
abbrev pub boolean : Option Bool → Option TermTree
boolean (Some truth) = Some (t_bool truth)
boolean None = None

equal_told : (parts : List Part) (f : Form) (p q r t : Part) (a b : Shape)
    → folded_eq (as_mono (build f p q r t)) (shape_in parts a) (shape_in parts b) ≡ boolean (equal_by f a b)
unfolding build build_mono
equal_told parts (form.Mono mono.Word) p q r t (shapes.Word x) (shapes.Word y) = refl
equal_told parts (form.Mono mono.Word) p q r t (shapes.Word x) (shapes.Bool y) = refl
equal_told parts (form.Mono mono.Word) p q r t (shapes.Word x) (shapes.Loc y) = refl
equal_told parts (form.Mono mono.Word) p q r t (shapes.Word x) (shapes.Pair y w) = refl
equal_told parts (form.Mono mono.Word) p q r t (shapes.Word x) shapes.Other = refl
equal_told parts (form.Mono mono.Word) p q r t (shapes.Bool x) b = refl
equal_told parts (form.Mono mono.Word) p q r t (shapes.Loc x) b = refl
equal_told parts (form.Mono mono.Word) p q r t (shapes.Pair x z) b = refl
equal_told parts (form.Mono mono.Word) p q r t shapes.Other b = refl
equal_told parts (form.Mono mono.Bool) p q r t (shapes.Word x) b = refl
equal_told parts (form.Mono mono.Bool) p q r t (shapes.Bool x) (shapes.Word y) = refl
equal_told parts (form.Mono mono.Bool) p q r t (shapes.Bool x) (shapes.Bool y) = refl
equal_told parts (form.Mono mono.Bool) p q r t (shapes.Bool x) (shapes.Loc y) = refl
equal_told parts (form.Mono mono.Bool) p q r t (shapes.Bool x) (shapes.Pair y w) = refl
equal_told parts (form.Mono mono.Bool) p q r t (shapes.Bool x) shapes.Other = refl
equal_told parts (form.Mono mono.Bool) p q r t (shapes.Loc x) b = refl
equal_told parts (form.Mono mono.Bool) p q r t (shapes.Pair x z) b = refl
equal_told parts (form.Mono mono.Bool) p q r t shapes.Other b = refl
equal_told parts (form.Mono mono.Loc) p q r t (shapes.Word x) b = refl
equal_told parts (form.Mono mono.Loc) p q r t (shapes.Bool x) b = refl
equal_told parts (form.Mono mono.Loc) p q r t (shapes.Loc x) (shapes.Word y) = refl
equal_told parts (form.Mono mono.Loc) p q r t (shapes.Loc x) (shapes.Bool y) = refl
equal_told parts (form.Mono mono.Loc) p q r t (shapes.Loc x) (shapes.Loc y) = refl
equal_told parts (form.Mono mono.Loc) p q r t (shapes.Loc x) (shapes.Pair y w) = refl
equal_told parts (form.Mono mono.Loc) p q r t (shapes.Loc x) shapes.Other = refl
equal_told parts (form.Mono mono.Loc) p q r t (shapes.Pair x z) b = refl
equal_told parts (form.Mono mono.Loc) p q r t shapes.Other b = refl
equal_told parts (form.Mono mono.Unit) p q r t a b = refl
equal_told parts (form.Mono mono.Pair) p q r t a b = refl
equal_told parts (form.Mono (mono.Var index)) p q r t a b = refl
equal_told parts (form.Skeleton f) p q r t a b = refl
equal_told parts (form.Ty f) p q r t a b = refl
equal_told parts form.Triple p q r t a b = refl
equal_told parts (form.Term f) p q r t a b = refl
equal_told parts form.NoTerms p q r t a b = refl
equal_told parts form.MoreTerms p q r t a b = refl
equal_told parts (form.Fix f) p q r t a b = refl
equal_told parts (form.Comp f) p q r t a b = refl
equal_told parts (form.Step f) p q r t a b = refl
equal_told parts (form.Formula f) p q r t a b = refl

pub eq_told : (parts : List Part) (row kind : Row) (a b : Shape)
    → row.form ≡ form.Term term.Eq
    → RowIs parts row.first kind
    → shape_of (as_term (at parts row.second)) ≡ shape_in parts a
    → shape_of (as_term (at parts row.third)) ≡ shape_in parts b
    → contractum (as_term (node parts row)) ≡ boolean (equal_by kind.form a b)
eq_told parts row kind a b e h s t =
    ap contractum (eq_node parts row e)
    ∙ eq_folds (as_mono (at parts row.first)) (as_term (at parts row.second)) (as_term (at parts row.third))
    ∙ (λ j. folded_eq (as_mono (h.tree j)) (s j) (t j))
    ∙ equal_told parts kind.form _ _ _ _ a b
