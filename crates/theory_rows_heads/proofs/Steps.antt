-- A run step stays or is replaced by the steps of what it comes to run; other steps stay; and computations are bound by
-- the first one's last step.
use Rattle.std.proofs.Common.{◌≡◌, ℕ, zero, suc, false, Option, Some, None, option_map, refl, arith}
use Rattle.htt_syntax.specs.Trees.{MonoTree, TermTree, CompTree, StepTree, t_do, c_ret, c_step, s_run}
use Rattle.theory_renaming.specs.Renaming.{lift, rename_mono, rename_comp}
use Rattle.theory_canonical.specs.Skeletons.{Skeleton, sk_o, sk_c}
use Rattle.theory_substitution.specs.Closing.{closing, up}
use Rattle.theory_substitution.specs.Substitution.{SubComp, SubStep, Bind, u_step, u_spliced, u_run, b_ret, b_step}
use Rattle.theory_substitution.proofs.Once.{reduced_once, comp_once}
use Rattle.theory_rows_heads.specs.Heads.{SubHead, stays, gives, is_run}
use Rattle.theory_rows_heads.specs.Laws.{RunParts, Spliced, StepParts}
use Rattle.theory_rows_heads.proofs.Heads.{never_both}

pub run_has_parts : {new : TermTree} {s : Skeleton} {x : ℕ} {term : TermTree} {mono : Option MonoTree} {others r : CompTree}
    → SubComp new s x (c_step (s_run term mono) others) r
    → RunParts new s x term others
run_has_parts (u_step {others' = rest} (u_run {term' = head} h) p) =
    record { head = head; left = None; of_term = stays h; rest = rest; of_others = p }
run_has_parts (u_spliced {comp = comp} {others' = rest} h p b) =
    record { head = t_do comp; left = Some sk_c; of_term = gives h; rest = rest; of_others = p }

pub run_stays : {new : TermTree} {s : Skeleton} {x : ℕ} {term head : TermTree} {mono : Option MonoTree}
    → SubHead new s x term head None
    → SubStep new s x (s_run term mono) (s_run head (option_map (rename_mono (closing x)) mono))
run_stays (stays h) = u_run h

pub run_gives : {new : TermTree} {s : Skeleton} {x : ℕ} {term : TermTree} {mono : Option MonoTree} {comp others rest r : CompTree}
    → SubHead new s x term (t_do comp) (Some sk_c)
    → SubComp (up new) s (suc x) others rest
    → Bind comp rest r
    → SubComp new s x (c_step (s_run term mono) others) r
run_gives (gives h) p b = u_spliced h p b

spliced : {head : TermTree} {l : Skeleton} {comp rest rest' r : CompTree}
    → head ≡ t_do comp
    → l ≡ sk_c
    → rest ≡ rest'
    → Bind comp rest' r
    → Spliced head l rest r
spliced {comp = comp} {r = r} e h g b = record { comp = comp; skeleton = h; computation = e; bound = rw g b }

pub run_is_spliced : {new : TermTree} {s left : Skeleton} {x : ℕ} {term head : TermTree} {mono : Option MonoTree}
    {others rest r : CompTree}
    → SubComp new s x (c_step (s_run term mono) others) r
    → SubHead new s x term head (Some left)
    → SubComp (up new) s (suc x) others rest
    → Spliced head left rest r
run_is_spliced (u_step (u_run h) p) (gives m) q = absurd (never_both h m)
run_is_spliced (u_spliced h p b) (gives m) q =
    let e = reduced_once m h in
    spliced (e.0) (e.1) (comp_once q p) b

pub step_has_parts : {new : TermTree} {s : Skeleton} {x : ℕ} {step : StepTree} {others r : CompTree}
    → is_run step ≡ false
    → SubComp new s x (c_step step others) r
    → StepParts new s x step others
unfolding is_run
step_has_parts e (u_step {step' = first} {others' = rest} a p) = record { first = first; of_step = a; rest = rest; of_others = p }
step_has_parts e (u_spliced h p b) = absurd (grind arith)

pub bound_result : {term : TermTree} {others r : CompTree} → Bind (c_ret term) others r → SubComp term sk_o zero others r
bound_result (b_ret p) = p

pub bound_step : {step : StepTree} {comp others r : CompTree}
    → Bind (c_step step comp) others r
    → (rest : CompTree) × (r ≡ c_step step rest) × Bind comp (rename_comp (lift suc) others) rest
bound_step (b_step {result = rest} b) = (rest, refl, b)
