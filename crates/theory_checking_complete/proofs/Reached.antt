-- Rows of premises that hold reach what they give.
use Rattle.std.proofs.Common.{◌≡◌, ℕ, ◌≤◌, List, ◌++◌, Result, Option, Some, None, subst, ⊎_elim, arith}
use Rattle.std.proofs.lemmas.Bool.{cases_lt}
use Rattle.htt_syntax_words.specs.declared.words.Rule.{Rule}
use Rattle.htt_syntax_words.specs.declared.words.Which.{Which}
use Rattle.htt_syntax.specs.Trees.{MonoTree, TyTree, TermTree, CompTree, FormulaTree, t_unit}
use Rattle.theory_canonical.specs.Skeletons.{Skeleton, sk_o}
use Rattle.theory_substitution.specs.Substitution.{SubTerm, SubTy, SubComp, Bind}
use Rattle.theory_states.specs.States.{Move, owed, after}
use Rattle.theory_typing.specs.Positions.{plain_ty}
use Rattle.theory_typing.specs.Contexts.{Context, FormsMono, Obligation}
use Rattle.theory_typing.specs.Typing.{Part, joined_step, joined_comp, joined_unit, Assembled, assembled_end, assembled_part, owes}
use Rattle.theory_checking.specs.Stops.{Stop, refused, passed, Then, stops, goes_on, Comes, comes, Refuses, refuses, Needs, holds, fails, Finds, finds}
use Rattle.theory_checking.specs.Stops.{Makes, makes}
use Rattle.theory_checking.specs.Limits.{MonoComesTo, StateIsWithin, OwedIsWithin, ResultIsWithin, PutsInTy, PutsInTerm, RunsBefore, DropsClaim}
use Rattle.theory_checking.specs.Results.{Typed, typed, moved, Inferred, GoesOn, AssemblesTo}
use Rattle.theory_checking.specs.Laws.{Once}
use Rattle.theory_checking_complete.specs.Reaching.{limit, IsOrLimit, is_given, is_limit, Reaches, reaches}

-- what comes to one result at most comes to nothing else
pub only : {A : Type 0} {Row : Result A Stop → Type 0} {given : A} → Once Row → Reaches Row given → (r : Result A Stop) → Row r → IsOrLimit given r
only {given = given} f (reaches {result = q} d i) r x = subst (λ c. IsOrLimit given c) (f q r d x) i

pub then_reaches : {A B : Type 0} {first : Result A Stop → Type 0} {others : A → Result B Stop → Type 0} {given : A} {result : B}
    → Reaches first given
    → Reaches (others given) result
    → Reaches (Then first others) result
then_reaches (reaches d is_given) (reaches x i) = reaches (goes_on d x) i
then_reaches (reaches d (is_limit l)) e = reaches (stops d) (is_limit l)

pub comes_reaches : {A : Type 0} {given : A} → Reaches (Comes given) given
comes_reaches = reaches comes is_given

pub needs_reaches : {premise : Type 0} {stop : Stop} → premise → Reaches (Needs premise stop) tt
needs_reaches p = reaches (holds p) is_given

pub limit_reaches : {a b : ℕ} {which : Which} → Reaches (Needs (a ≤ b) (passed which)) tt
limit_reaches {a = a} {b = b} =
    ⊎_elim (λ l. reaches (fails (λ p. omega (arith, l, p))) (is_limit limit)) (λ p. reaches (holds p) is_given) (cases_lt b a)

pub finds_reaches : {A : Type 0} {found : A → Type 0} {stop : Stop} (given : A) → found given → Reaches (Finds found stop) given
finds_reaches given d = reaches (finds d) is_given

pub makes_reaches : {A : Type 0} {made : A → Type 0} (given : A) → made given → Reaches (Makes made) given
makes_reaches given d = reaches (makes d) is_given

pub mono_reaches : {g : Context} {at : ℕ} {t : MonoTree} → FormsMono g t → Reaches (MonoComesTo g at t) tt
mono_reaches d = then_reaches (needs_reaches d) limit_reaches

pub state_reaches : (F : FormulaTree) → Reaches (StateIsWithin F) tt
state_reaches F = then_reaches limit_reaches limit_reaches

owed_reaches : (F : Option FormulaTree) → Reaches (OwedIsWithin F) tt
owed_reaches None = comes_reaches
owed_reaches (Some F) = state_reaches F

pub within_reaches : (nodes greatest : ℕ) → Reaches (ResultIsWithin nodes greatest) tt
within_reaches nodes greatest = then_reaches limit_reaches limit_reaches

pub puts_ty_reaches : {new : TermTree} {s : Skeleton} {A R : TyTree} → SubTy new s 0 A R → Reaches (PutsInTy new s A) R
puts_ty_reaches d = then_reaches (makes_reaches _ d) (then_reaches (within_reaches _ _) comes_reaches)

pub puts_term_reaches : {new : TermTree} {s : Skeleton} {M R : TermTree} → SubTerm new s 0 M R → Reaches (PutsInTerm new s M) R
puts_term_reaches d = then_reaches (makes_reaches _ d) (then_reaches (within_reaches _ _) comes_reaches)

before_reaches : {E others R : CompTree} → Bind E others R → Reaches (RunsBefore E others) R
before_reaches d = then_reaches (makes_reaches _ d) (then_reaches (within_reaches _ _) comes_reaches)

drops_reaches : {others R : CompTree} → SubComp t_unit sk_o 0 others R → Reaches (DropsClaim others) R
drops_reaches d = then_reaches (makes_reaches _ d) (then_reaches (within_reaches _ _) comes_reaches)

-- a phrase whose type is inferred fits what it gives
pub asked_reaches : {Row : Result Typed Stop → Type 0} {k : Typed} (at : ℕ) (A : TyTree)
    → plain_ty k.ty ≡ plain_ty A
    → Reaches (Inferred at None Row) k
    → Reaches (Inferred at (Some A) Row) (typed A k.term k.owed)
asked_reaches at A e (reaches (goes_on d comes) is_given) = reaches (goes_on d (goes_on (holds e) comes)) is_given
asked_reaches at A e (reaches (stops d) (is_limit l)) = reaches (stops d) (is_limit l)
asked_reaches at A e (reaches (goes_on d x) (is_limit l)) = elim x [ ]

-- a row that refuses reaches nothing
pub refuses_reaches : {A : Type 0} {given other : A} {rule : Rule} {at : ℕ}
    → Reaches (Refuses (refused rule at)) given
    → Reaches (Refuses (refused rule at)) other
refuses_reaches (reaches refuses (is_limit l)) = elim l [ ]

pub goes_on_reaches : (g : Context) (state : FormulaTree) (move : Move) (mono : MonoTree) (part : Part) (terms_owed : List Obligation)
    → Reaches (GoesOn g state move mono part terms_owed) (moved mono (after move state) part (terms_owed ++ owes g (owed move state)))
goes_on_reaches g state move mono part terms_owed =
    then_reaches (owed_reaches (owed move state)) (then_reaches limit_reaches (then_reaches (state_reaches _) comes_reaches))

pub assembles_reaches : {parts : List Part} {value : TermTree} {E : CompTree} → Assembled parts value E → Reaches (AssemblesTo parts value) E
unfolding AssemblesTo
assembles_reaches assembled_end = comes_reaches
assembles_reaches (assembled_part d joined_step) = then_reaches (assembles_reaches d) comes_reaches
assembles_reaches (assembled_part d (joined_comp b)) = then_reaches (assembles_reaches d) (before_reaches b)
assembles_reaches (assembled_part d (joined_unit b)) = then_reaches (assembles_reaches d) (drops_reaches b)
