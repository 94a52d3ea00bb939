-- Entries of valuations: what is applied at one skeleton alone, and what stands where one more is put in.
use Rattle.std.proofs.Common.{◌≡◌, ◌≢◌, ℕ, zero, suc, refl, sym, ap, ◌∙◌}
use Rattle.theory_renaming.specs.Renaming.{lift}
use Rattle.theory_canonical.specs.Skeletons.{Skeleton, sk_arrow}
use Rattle.theory_substitution.specs.Closing.{closing}
use Rattle.htt_syntax.specs.Trees.{FixTree}
use Rattle.theory_denotation.specs.Valuations.{Domain, ValuationEntry, den_term, Valuation, entry_at, applied_entry, HeadEntries}
use Rattle.theory_denotation.specs.Recursion.{recursion}
use Rattle.theory_denotation.specs.Denotation.{fix_den}
use Rattle.theory_denotation.specs.Valued.{IsOf}
use Rattle.theory_denotation_renaming.specs.Insertion.{InsertedEntry, entry_here, entry_next}

-- a function looks at its argument at one skeleton alone
pub applied_same : {x y : ValuationEntry} {s t : Skeleton} (d c : (u : Skeleton) → Domain u)
    → IsOf (sk_arrow s t) x
    → y ≡ x
    → c s ≡ d s
    → applied_entry y c ≡ applied_entry x d
applied_same {t = t} d c o q p = ap (λ v. applied_entry v c) (q ∙ o.is) ∙ (λ j. den_term t (o.of (p j))) ∙ sym (ap (λ v. applied_entry v d) o.is)

-- the entry of a recursive function of a skeleton
abbrev pub fix_entry : HeadEntries → Valuation → FixTree → Skeleton → ValuationEntry
fix_entry e w fix s = den_term s (recursion s (λ own. fix_den e w (den_term s own) fix s))

pub entry_beside : {x : ℕ} {entry : ValuationEntry} {w w' : Valuation} → InsertedEntry x entry w w' → (n : ℕ) → n ≢ x → entry_at w (closing x n) ≡ entry_at w' n
unfolding closing lift
entry_beside entry_here zero other = absurd (other refl)
entry_beside entry_here (suc n) other = refl
entry_beside (entry_next i) zero other = refl
entry_beside (entry_next i) (suc n) other = entry_beside i n (λ q. other (ap suc q))

pub entry_put : {x : ℕ} {entry : ValuationEntry} {w w' : Valuation} → InsertedEntry x entry w w' → entry_at w' x ≡ entry
entry_put entry_here = refl
entry_put (entry_next i) = entry_put i
