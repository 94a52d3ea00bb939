-- Rows of forms that aren't folded.
use Rattle.std.proofs.Common.{◌≡◌, List, Bool, true, false, None, refl, arith}
use Rattle.theory_canonical.specs.Folding.{contractum}
use Rattle.shared_terms_rows.specs.declared.form.Form.{Form}
use Rattle.shared_terms_rows.specs.declared.form.Form.TheVariants as form
use Rattle.shared_terms_rows.specs.declared.form.TermForm.TheVariants as term
use Rattle.shared_terms_rows.specs.declared.row.Row.{Row}
use Rattle.shared_terms_rows.specs.Parts.{Part, as_term, build, build_term}
use Rattle.shared_terms_rows.specs.Rows.{node}

abbrev pub is_folded : Form → Bool
is_folded (form.Term term.Fst) = true
is_folded (form.Term term.Snd) = true
is_folded (form.Term term.Un) = true
is_folded (form.Term (term.Bin op)) = true
is_folded (form.Term term.Eq) = true
is_folded (form.Term term.Sel) = true
is_folded other = false

stays : (f : Form) (a b c d : Part) → is_folded f ≡ false → contractum (as_term (build f a b c d)) ≡ None
unfolding build build_term contractum
stays (form.Term (term.Var index)) a b c d e = refl
stays (form.Term (term.Val number)) a b c d e = refl
stays (form.Term (term.Def number)) a b c d e = refl
stays (form.Term term.App) a b c d e = refl
stays (form.Term term.Inst) a b c d e = refl
stays (form.Term term.Lam) a b c d e = refl
stays (form.Term term.LamT) a b c d e = refl
stays (form.Term term.Do) a b c d e = refl
stays (form.Term (term.Fix at)) a b c d e = refl
stays (form.Term (term.Word word)) a b c d e = refl
stays (form.Term (term.Bool truth)) a b c d e = refl
stays (form.Term (term.Loc place)) a b c d e = refl
stays (form.Term term.Unit) a b c d e = refl
stays (form.Term term.Pair) a b c d e = refl
stays (form.Term term.Fst) a b c d e = absurd (grind arith)
stays (form.Term term.Snd) a b c d e = absurd (grind arith)
stays (form.Term term.Un) a b c d e = absurd (grind arith)
stays (form.Term (term.Bin op)) a b c d e = absurd (grind arith)
stays (form.Term term.Eq) a b c d e = absurd (grind arith)
stays (form.Term term.Sel) a b c d e = absurd (grind arith)
stays (form.Term term.Ann) a b c d e = refl
stays (form.Term (term.Made number)) a b c d e = refl
stays (form.Term (term.At at)) a b c d e = refl
stays (form.Skeleton f) a b c d e = refl
stays (form.Mono f) a b c d e = refl
stays (form.Ty f) a b c d e = refl
stays form.Triple a b c d e = refl
stays form.NoTerms a b c d e = refl
stays form.MoreTerms a b c d e = refl
stays (form.Fix f) a b c d e = refl
stays (form.Comp f) a b c d e = refl
stays (form.Step f) a b c d e = refl
stays (form.Formula f) a b c d e = refl

pub other_told : (parts : List Part) (row : Row) → is_folded row.form ≡ false → contractum (as_term (node parts row)) ≡ None
other_told parts row e = stays row.form _ _ _ _ e
