-- Declarations are read as a form exactly where they are those of the form, and so of one form at most.
use Rattle.std.proofs.Common.{◌≡◌, ℕ, List, [], ◌∷◌, refl, sym, ◌∙◌, ap, subst, arith}
use Rattle.std.specs.Prelude.{None, Some, Option, Bool, true, false, ◌&&◌, ◌==◌, codes, IfSome, IsNone}
use Rattle.std.proofs.lemmas.Bool.Decides.{nat_tests}
use Rattle.htt_parser_trees.specs.declared.place.Span.{Span}
use Rattle.htt_parser_trees.specs.Trees.{RawTyTree, RawTermTree, RawProofTree, RawBodyTree, body_auto, body_proof, RawDeclTree, decl_type, decl_pred}
use Rattle.htt_parser_trees.specs.Trees.{decl_induct, decl_def, decl_val, decl_proof}
use Rattle.htt_top_one_form.specs.declared.terms.Returned.{Returned}
use Rattle.htt_top_one_form.specs.declared.form.Program.{Program}
use Rattle.htt_top_one_form.specs.declared.form.Form.{Form}
use Rattle.htt_top_one_form.specs.Form.{IsNamed, IsClaim, IsReturned, IsProved, IsForm, OneFormOfDeclarations}
use Rattle.htt_top_one_form.specs.Matching.{◌>>=◌, where_true, span_reads, what_returned, claimed, body_place, program_of, proved, form_in}
use Rattle.htt_top_one_form.proofs.ReadTerms.{none_is, is_returned, returned_told}
use Rattle.htt_top_one_form.proofs.ReadClaims.{where_is, both, named_is, named_told, is_claim, claim_told, is_proved, proof_told}

-- ---- one value after the other

bound_is : {A B : Type 0} (o : Option A) (f : A → Option B) (y : B) → (o >>= f) ≡ Some y → (x : A) × (o ≡ Some x) × (f x ≡ Some y)
bound_is None f y e = absurd (none_is e)
bound_is (Some x) f y e = (x, refl, e)

same_value : {A : Type 0} (x y : A) → Some x ≡ Some y → x ≡ y
same_value x y e = cc

-- ---- what is read is of the form

record IsProgram (text : List ℕ) (decl : RawDeclTree) (p : Program) : Type 0 where
  pub main : Span
  pub ty : RawTyTree
  pub term : RawTermTree
  pub tree : decl ≡ decl_val main ty term
  pub named : IsNamed text main (codes "main")
  pub claim : IsClaim text ty p.claimed
  pub returned : IsReturned term p.returned.left p.returned.right

program_is : (text : List ℕ) (d : RawDeclTree) (p : Program) → program_of text d ≡ Some p → IsProgram text d p
program_is text (decl_val main a m) p e =
    let h = where_is (span_reads text main (codes "main")) _ p e in
    let c = bound_is (claimed text a) _ p h.1 in
    let r = bound_is (what_returned m) _ p c.2 in
    let same = same_value (record { claimed = c.0; returned = r.0 }) p r.2 in
    record {
      main = main;
      ty = a;
      term = m;
      tree = refl;
      named = named_is text main (codes "main") h.0;
      claim = is_claim text a p.claimed (c.1 ∙ ap (λ (q : Program). Some q.claimed) same);
      returned = is_returned m p.returned (r.1 ∙ ap (λ (q : Program). Some q.returned) same);
    }
program_is text (decl_type x m) p e = absurd (none_is e)
program_is text (decl_pred x xs ps f) p e = absurd (none_is e)
program_is text (decl_induct x b ps f g) p e = absurd (none_is e)
program_is text (decl_def x a m) p e = absurd (none_is e)
program_is text (decl_proof at x n b) p e = absurd (none_is e)

body_is : (text : List ℕ) (b : RawBodyTree) (n : ℕ) → body_place text b ≡ Some n → (p : RawProofTree) × (b ≡ body_proof p) × IsProved text p n
body_is text (body_proof p) n e = (p, refl, is_proved text p n e)
body_is text (body_auto at) n e = absurd (none_is e)

record IsProofOf (text : List ℕ) (decl : RawDeclTree) (place : ℕ) : Type 0 where
  pub at : ℕ
  pub name : Span
  pub proof : RawProofTree
  pub tree : decl ≡ decl_proof at name 1 (body_proof proof)
  pub named : IsNamed text name (codes "main")
  pub proves : IsProved text proof place

is_one : (n : ℕ) → (n == 1) ≡ true → n ≡ 1
is_one n e = grind (arith, nat_tests, e)

proof_is : (text : List ℕ) (d : RawDeclTree) (n : ℕ) → proved text d ≡ Some n → IsProofOf text d n
proof_is text (decl_proof at x k b) n e =
    let h = where_is (k == 1 && span_reads text x (codes "main")) (body_place text b) n e in
    let t = both (k == 1) (span_reads text x (codes "main")) h.0 in
    let p = body_is text b n h.1 in
    record { at = at; name = x; proof = p.0; tree = λ j. decl_proof at x (is_one k t.0 j) (p.1 j); named = named_is text x (codes "main") t.1; proves = p.2 }
proof_is text (decl_type x m) n e = absurd (none_is e)
proof_is text (decl_pred x xs ps f) n e = absurd (none_is e)
proof_is text (decl_induct x b ps f g) n e = absurd (none_is e)
proof_is text (decl_def x a m) n e = absurd (none_is e)
proof_is text (decl_val x a m) n e = absurd (none_is e)

abbrev form_with : Program → ℕ → Form
form_with p place = record { claimed = p.claimed; left = p.returned.left; right = p.returned.right; place = place }

form_with_is : (text : List ℕ) (d e : RawDeclTree) (p : Program) (place : ℕ)
    → IsProgram text d p
    → IsProofOf text e place
    → IsForm text (d ∷ e ∷ []) (form_with p place)
form_with_is text d e p place is of = record {
  main = is.main;
  proved = of.name;
  at = of.at;
  ty = is.ty;
  term = is.term;
  proof = of.proof;
  trees = λ j. is.tree j ∷ of.tree j ∷ [];
  main_named = is.named;
  proved_named = of.named;
  claim = is.claim;
  returned = is.returned;
  proves = of.proves;
}

pub form_is : (text : List ℕ) (decls : List RawDeclTree) (f : Form) → form_in text decls ≡ Some f → IsForm text decls f
form_is text (d ∷ e ∷ []) f h =
    let p = bound_is (program_of text d) _ f h in
    let n = bound_is (proved text e) _ f p.2 in
    subst (IsForm text (d ∷ e ∷ [])) (same_value (form_with p.0 n.0) f n.2)
    (form_with_is text d e p.0 n.0 (program_is text d p.0 p.1) (proof_is text e n.0 n.1))
form_is text [] f h = absurd (none_is h)
form_is text (d ∷ []) f h = absurd (none_is h)
form_is text (d ∷ e ∷ g ∷ ds) f h = absurd (none_is h)

-- ---- and what is of the form is read

abbrev assembled : Bool → Option ℕ → Option Returned → Bool → Option ℕ → Option Form
assembled main claim returned proof place = do
  program ← where_true main (do
    c ← claim
    r ← returned
    Some (record { claimed = c; returned = r }))
  at ← where_true (true && proof) place
  Some (form_with program at)

pub form_told : (text : List ℕ) (decls : List RawDeclTree) (f : Form) → IsForm text decls f → form_in text decls ≡ Some f
form_told text decls f is =
    ap (form_in text) is.trees
    ∙ (λ j.
    assembled (named_told text is.main (codes "main") is.main_named j) (claim_told text is.ty f.claimed is.claim j)
    (returned_told is.term f.left f.right is.returned j) (named_told text is.proved (codes "main") is.proved_named j)
    (proof_told text is.proof f.place is.proves j))

pub one_form : OneFormOfDeclarations
one_form text decls f g is other = same_value f g (sym (form_told text decls f is) ∙ form_told text decls g other)

-- ---- an answer and its absence

pub some_is : (text : List ℕ) (decls : List RawDeclTree) (o : Option Form) → o ≡ form_in text decls → IfSome o (λ f. IsForm text decls f)
some_is text decls None e = tt
some_is text decls (Some f) e = form_is text decls f (sym e)

pub none_told : (text : List ℕ) (decls : List RawDeclTree) (o : Option Form) → o ≡ form_in text decls → IsNone o → (f : Form) → IsForm text decls f → ⊥
none_told text decls o e none f is = no_some o f none (e ∙ form_told text decls f is)
  where
    true_is : true ≡ false → ⊥
    true_is e = cc

    no_some : (o : Option Form) (f : Form) → IsNone o → o ≡ Some f → ⊥
    no_some None f none h = none_is h
    no_some (Some g) f none h = true_is none
