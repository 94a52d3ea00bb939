-- The tree of a form is of the form's kind.
use Rattle.std.proofs.Common.{◌≡◌, refl, true, nat_eq, arith}
use Rattle.shared_terms_rows.specs.declared.form.Form.{Form}
use Rattle.shared_terms_rows.specs.declared.form.Form.TheVariants as form
use Rattle.shared_terms_rows.specs.declared.form.Kind.{Kind}
use Rattle.shared_terms_rows.specs.declared.form.Kind.TheVariants as kinds
use Rattle.shared_terms_rows.specs.Rows.{number}
use Rattle.shared_terms_rows.specs.Parts.{Part, kind_of, build}
use Rattle.shared_terms_rows.specs.Forms.{kind}

pub kind_built : (f : Form) (a b c d : Part) → kind_of (build f a b c d) ≡ kind f
unfolding build kind
kind_built (form.Skeleton f) a b c d = refl
kind_built (form.Mono f) a b c d = refl
kind_built (form.Ty f) a b c d = refl
kind_built (form.Term f) a b c d = refl
kind_built (form.Fix f) a b c d = refl
kind_built (form.Comp f) a b c d = refl
kind_built (form.Step f) a b c d = refl
kind_built (form.Formula f) a b c d = refl
kind_built form.Triple a b c d = refl
kind_built form.NoTerms a b c d = refl
kind_built form.MoreTerms a b c d = refl

-- The number of a kind tells it.
pub kind_told : (a b : Kind) → nat_eq (number a) (number b) ≡ true → a ≡ b
kind_told kinds.Skeleton kinds.Skeleton e = refl
kind_told kinds.Skeleton kinds.Mono e = absurd (grind arith)
kind_told kinds.Skeleton kinds.Ty e = absurd (grind arith)
kind_told kinds.Skeleton kinds.Triple e = absurd (grind arith)
kind_told kinds.Skeleton kinds.Term e = absurd (grind arith)
kind_told kinds.Skeleton kinds.Terms e = absurd (grind arith)
kind_told kinds.Skeleton kinds.Fix e = absurd (grind arith)
kind_told kinds.Skeleton kinds.Comp e = absurd (grind arith)
kind_told kinds.Skeleton kinds.Step e = absurd (grind arith)
kind_told kinds.Skeleton kinds.Formula e = absurd (grind arith)
kind_told kinds.Mono kinds.Skeleton e = absurd (grind arith)
kind_told kinds.Mono kinds.Mono e = refl
kind_told kinds.Mono kinds.Ty e = absurd (grind arith)
kind_told kinds.Mono kinds.Triple e = absurd (grind arith)
kind_told kinds.Mono kinds.Term e = absurd (grind arith)
kind_told kinds.Mono kinds.Terms e = absurd (grind arith)
kind_told kinds.Mono kinds.Fix e = absurd (grind arith)
kind_told kinds.Mono kinds.Comp e = absurd (grind arith)
kind_told kinds.Mono kinds.Step e = absurd (grind arith)
kind_told kinds.Mono kinds.Formula e = absurd (grind arith)
kind_told kinds.Ty kinds.Skeleton e = absurd (grind arith)
kind_told kinds.Ty kinds.Mono e = absurd (grind arith)
kind_told kinds.Ty kinds.Ty e = refl
kind_told kinds.Ty kinds.Triple e = absurd (grind arith)
kind_told kinds.Ty kinds.Term e = absurd (grind arith)
kind_told kinds.Ty kinds.Terms e = absurd (grind arith)
kind_told kinds.Ty kinds.Fix e = absurd (grind arith)
kind_told kinds.Ty kinds.Comp e = absurd (grind arith)
kind_told kinds.Ty kinds.Step e = absurd (grind arith)
kind_told kinds.Ty kinds.Formula e = absurd (grind arith)
kind_told kinds.Triple kinds.Skeleton e = absurd (grind arith)
kind_told kinds.Triple kinds.Mono e = absurd (grind arith)
kind_told kinds.Triple kinds.Ty e = absurd (grind arith)
kind_told kinds.Triple kinds.Triple e = refl
kind_told kinds.Triple kinds.Term e = absurd (grind arith)
kind_told kinds.Triple kinds.Terms e = absurd (grind arith)
kind_told kinds.Triple kinds.Fix e = absurd (grind arith)
kind_told kinds.Triple kinds.Comp e = absurd (grind arith)
kind_told kinds.Triple kinds.Step e = absurd (grind arith)
kind_told kinds.Triple kinds.Formula e = absurd (grind arith)
kind_told kinds.Term kinds.Skeleton e = absurd (grind arith)
kind_told kinds.Term kinds.Mono e = absurd (grind arith)
kind_told kinds.Term kinds.Ty e = absurd (grind arith)
kind_told kinds.Term kinds.Triple e = absurd (grind arith)
kind_told kinds.Term kinds.Term e = refl
kind_told kinds.Term kinds.Terms e = absurd (grind arith)
kind_told kinds.Term kinds.Fix e = absurd (grind arith)
kind_told kinds.Term kinds.Comp e = absurd (grind arith)
kind_told kinds.Term kinds.Step e = absurd (grind arith)
kind_told kinds.Term kinds.Formula e = absurd (grind arith)
kind_told kinds.Terms kinds.Skeleton e = absurd (grind arith)
kind_told kinds.Terms kinds.Mono e = absurd (grind arith)
kind_told kinds.Terms kinds.Ty e = absurd (grind arith)
kind_told kinds.Terms kinds.Triple e = absurd (grind arith)
kind_told kinds.Terms kinds.Term e = absurd (grind arith)
kind_told kinds.Terms kinds.Terms e = refl
kind_told kinds.Terms kinds.Fix e = absurd (grind arith)
kind_told kinds.Terms kinds.Comp e = absurd (grind arith)
kind_told kinds.Terms kinds.Step e = absurd (grind arith)
kind_told kinds.Terms kinds.Formula e = absurd (grind arith)
kind_told kinds.Fix kinds.Skeleton e = absurd (grind arith)
kind_told kinds.Fix kinds.Mono e = absurd (grind arith)
kind_told kinds.Fix kinds.Ty e = absurd (grind arith)
kind_told kinds.Fix kinds.Triple e = absurd (grind arith)
kind_told kinds.Fix kinds.Term e = absurd (grind arith)
kind_told kinds.Fix kinds.Terms e = absurd (grind arith)
kind_told kinds.Fix kinds.Fix e = refl
kind_told kinds.Fix kinds.Comp e = absurd (grind arith)
kind_told kinds.Fix kinds.Step e = absurd (grind arith)
kind_told kinds.Fix kinds.Formula e = absurd (grind arith)
kind_told kinds.Comp kinds.Skeleton e = absurd (grind arith)
kind_told kinds.Comp kinds.Mono e = absurd (grind arith)
kind_told kinds.Comp kinds.Ty e = absurd (grind arith)
kind_told kinds.Comp kinds.Triple e = absurd (grind arith)
kind_told kinds.Comp kinds.Term e = absurd (grind arith)
kind_told kinds.Comp kinds.Terms e = absurd (grind arith)
kind_told kinds.Comp kinds.Fix e = absurd (grind arith)
kind_told kinds.Comp kinds.Comp e = refl
kind_told kinds.Comp kinds.Step e = absurd (grind arith)
kind_told kinds.Comp kinds.Formula e = absurd (grind arith)
kind_told kinds.Step kinds.Skeleton e = absurd (grind arith)
kind_told kinds.Step kinds.Mono e = absurd (grind arith)
kind_told kinds.Step kinds.Ty e = absurd (grind arith)
kind_told kinds.Step kinds.Triple e = absurd (grind arith)
kind_told kinds.Step kinds.Term e = absurd (grind arith)
kind_told kinds.Step kinds.Terms e = absurd (grind arith)
kind_told kinds.Step kinds.Fix e = absurd (grind arith)
kind_told kinds.Step kinds.Comp e = absurd (grind arith)
kind_told kinds.Step kinds.Step e = refl
kind_told kinds.Step kinds.Formula e = absurd (grind arith)
kind_told kinds.Formula kinds.Skeleton e = absurd (grind arith)
kind_told kinds.Formula kinds.Mono e = absurd (grind arith)
kind_told kinds.Formula kinds.Ty e = absurd (grind arith)
kind_told kinds.Formula kinds.Triple e = absurd (grind arith)
kind_told kinds.Formula kinds.Term e = absurd (grind arith)
kind_told kinds.Formula kinds.Terms e = absurd (grind arith)
kind_told kinds.Formula kinds.Fix e = absurd (grind arith)
kind_told kinds.Formula kinds.Comp e = absurd (grind arith)
kind_told kinds.Formula kinds.Step e = absurd (grind arith)
kind_told kinds.Formula kinds.Formula e = refl
