-- The parts of a derivation that a row of premises comes to.
use Rattle.std.proofs.Common.{◌≡◌, ℕ, List, [], ◌∷◌, ◌++◌, Result, Ok, Option, Some, None, refl, subst}
use Rattle.htt_syntax.specs.Trees.{MonoTree, TyTree, TripleTree, TermTree, CompTree, StepTree, FormulaTree, y_hoare, triple, t_do, s_run}
use Rattle.theory_states.specs.States.{Move, move_run, owed, after, start, finish}
use Rattle.theory_typing.specs.Contexts.{Context, Environment, Obligation}
use Rattle.theory_typing.specs.Typing.{Mode, in_program, in_formula, IsInferred, Part, part_step, part_comp, part_unit, joined_step, joined_comp, joined_unit}
use Rattle.theory_typing.specs.Typing.{Assembled, assembled_end, assembled_part, owes, Gives, gives_var, gives_val, gives_def, gives_word, gives_bool}
use Rattle.theory_typing.specs.Typing.{gives_loc, gives_unit, gives_app, gives_inst, gives_ann, gives_pair, gives_fst, gives_snd, gives_bin, gives_not}
use Rattle.theory_typing.specs.Typing.{gives_eq, gives_sel, gives_fix, gives_at, Fits, fits_lam, fits_lam_t, fits_pair, fits_do, fits_given, fits_at}
use Rattle.theory_typing.specs.Typing.{FitsBody, fits_body, Runs, Moves, moves_run}
use Rattle.theory_checking.specs.Stops.{Stop, goes_on, Comes, comes, holds, makes}
use Rattle.theory_checking.specs.Results.{Typed, Computed, Ran, Moved, Branched, branched, Agrees, GoesOn, AssemblesTo, BodyComesTo, BranchComesTo}
use Rattle.theory_checking.specs.Checking.{result_of}

-- what holds of a thing holds of what comes of it
pub came_to : {A : Type 0} (P : A → Type 0) {k s : A} → P k → Comes k (Ok s) → P s
came_to P d comes = d

-- what a term has come to: it gives its type, or it fits the one that was asked
abbrev pub Derived : Environment → Mode → Context → TermTree → Option TyTree → Typed → Type 0
Derived env m g M None k = Gives env m g M k.ty k.term k.owed
Derived env m g M (Some A) k = Fits env m g M A k.term k.owed

-- a phrase whose type is inferred comes to what it gives, which agrees with what is asked
pub agreed : {env : Environment} {m : Mode} {g : Context} {M : TermTree} {k z : Typed} (at : ℕ) (asked : Option TyTree) (r : Typed)
    → IsInferred M
    → Gives env m g M k.ty k.term k.owed
    → Comes k (Ok z)
    → Agrees at asked z (Ok r)
    → Derived env m g M asked r
agreed at None r i d comes comes = d
agreed at (Some A) r i d comes (goes_on (holds e) comes) = fits_given i d e

-- a term that gives a type gives the same one
pub gives_same : {env : Environment} {m : Mode} {g : Context} {M N R : TermTree} {A B : TyTree} {o : List Obligation}
    → Gives env m g M A N o
    → A ≡ B
    → N ≡ R
    → Gives env m g M B R o
gives_same {env = env} {m = m} {g = g} {M = M} {N = N} {B = B} {o = o} d p q =
    subst (λ (T : TermTree). Gives env m g M B T o) q (subst (λ (T : TyTree). Gives env m g M T N o) p d)

-- what is written in a formula owes nothing
not_program : {m : Mode} → m ≡ in_formula → m ≡ in_program → ⊥
not_program p q = cc

mutual
  gives_nothing : {env : Environment} {m : Mode} {g : Context} {M N : TermTree} {A : TyTree} {o : List Obligation}
      → m ≡ in_formula
      → Gives env m g M A N o
      → o ≡ []
  gives_nothing f (gives_var d) = refl
  gives_nothing f (gives_val d) = refl
  gives_nothing f (gives_def d) = refl
  gives_nothing f (gives_word d) = refl
  gives_nothing f gives_bool = refl
  gives_nothing f (gives_loc d) = refl
  gives_nothing f gives_unit = refl
  gives_nothing f (gives_app a b s t) = let x = gives_nothing f a in let y = fits_nothing f b in λ j. x j ++ y j
  gives_nothing f (gives_inst a d) = gives_nothing f a
  gives_nothing f (gives_ann a b) = fits_nothing f b
  gives_nothing f (gives_pair a b) = let x = gives_nothing f a in let y = gives_nothing f b in λ j. x j ++ y j
  gives_nothing f (gives_fst a) = gives_nothing f a
  gives_nothing f (gives_snd a) = gives_nothing f a
  gives_nothing f (gives_bin a b) = let x = fits_nothing f a in let y = fits_nothing f b in λ j. x j ++ y j
  gives_nothing f (gives_not a) = fits_nothing f a
  gives_nothing f (gives_eq d i a b) = let x = fits_nothing f a in let y = fits_nothing f b in λ j. x j ++ y j
  gives_nothing f (gives_sel d a b c) = let x = fits_nothing f a in let y = fits_nothing f b in let z = fits_nothing f c in λ j. x j ++ y j ++ z j
  gives_nothing f (gives_fix a b) = absurd (not_program f refl)
  gives_nothing f (gives_at a) = gives_nothing f a

  fits_nothing : {env : Environment} {m : Mode} {g : Context} {M N : TermTree} {A : TyTree} {o : List Obligation}
      → m ≡ in_formula
      → Fits env m g M A N o
      → o ≡ []
  fits_nothing f (fits_lam a) = fits_nothing f a
  fits_nothing f (fits_lam_t a) = fits_nothing f a
  fits_nothing f (fits_pair a b) = let x = fits_nothing f a in let y = fits_nothing f b in λ j. x j ++ y j
  fits_nothing f (fits_do a) = absurd (not_program f refl)
  fits_nothing f (fits_given i a e) = gives_nothing f a
  fits_nothing f (fits_at a) = fits_nothing f a

pub in_formula_fits : {env : Environment} {g : Context} {M N : TermTree} {A : TyTree} {o : List Obligation}
    → Fits env in_formula g M A N o
    → Fits env in_formula g M A N []
in_formula_fits {env = env} {g = g} {M = M} {N = N} {A = A} d = subst (λ (p : List Obligation). Fits env in_formula g M A N p) (fits_nothing refl d) d

pub assembled : (parts : List Part) (value : TermTree) {E : CompTree} → AssemblesTo parts value (Ok E) → Assembled parts value E
unfolding AssemblesTo
assembled [] value comes = assembled_end
assembled (part_step step ∷ parts) value (goes_on a comes) = assembled_part (assembled parts value a) joined_step
assembled (part_comp comp ∷ parts) value (goes_on a (goes_on (makes b) (goes_on w comes))) = assembled_part (assembled parts value a) (joined_comp b)
assembled (part_unit ∷ parts) value (goes_on a (goes_on (makes b) (goes_on w comes))) = assembled_part (assembled parts value a) (joined_unit b)

pub body_derived : {env : Environment} {g : Context} {E : CompTree} (spec : TripleTree) (c : Computed)
    (Row : MonoTree → FormulaTree → Result Ran Stop → Type 0)
    → ((mono : MonoTree) (state : FormulaTree) (r : Ran) → Row mono state (Ok r) → Runs env g mono state E r.end r.zs r.value r.parts r.owed)
    → BodyComesTo g spec Row (Ok c)
    → FitsBody env g E spec c.comp c.owed
body_derived (triple pre mono post) c Row f (goes_on a (goes_on b (goes_on {given = r} d (goes_on h (goes_on k (goes_on l (goes_on n comes))))))) =
    fits_body (f mono (start pre) r d) (assembled r.parts r.value n)

pub run_derived : {env : Environment} {g : Context} {state : FormulaTree} {K : TermTree} {given : Option MonoTree} {E : CompTree}
    {o : List Obligation} (spec : TripleTree)
    → Gives env in_program g K (y_hoare spec) (t_do E) o
    → Moves env g state (s_run K given) (result_of spec) (after (move_run spec) state) (part_comp E) (o ++ owes g (owed (move_run spec) state))
run_derived (triple pre mono post) d = moves_run d

-- a step goes on to its next state
pub moved_on : {env : Environment} {g : Context} {state : FormulaTree} {step : StepTree} {mono : MonoTree} {part : Part} {s : Moved}
    (move : Move) (o : List Obligation)
    → Moves env g state step mono (after move state) part (o ++ owes g (owed move state))
    → GoesOn g state move mono part o (Ok s)
    → Moves env g state step s.mono s.next s.part s.owed
moved_on {env = env} {g = g} {state = state} {step = step} move o d (goes_on a (goes_on h (goes_on b z))) =
    came_to (λ (s : Moved). Moves env g state step s.mono s.next s.part s.owed) d z

-- a branch: its run, and the computation that it becomes
pub branch_to : (g : Context) (mono : MonoTree) (from : FormulaTree) (Row : FormulaTree → Result Ran Stop → Type 0) (P : Branched → Type 0)
    {b : Branched}
    → ((r : Ran) (E : CompTree) → Row from (Ok r) → AssemblesTo r.parts r.value (Ok E) → P (branched (finish r.end r.zs mono r.value) E r.owed))
    → BranchComesTo g mono from Row (Ok b)
    → P b
branch_to g mono from Row P f (goes_on w (goes_on {given = r} d (goes_on h (goes_on e (goes_on {given = E} c z))))) = came_to P (f r E d c) z
