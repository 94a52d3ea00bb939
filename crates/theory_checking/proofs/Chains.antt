-- Rows of premises come to one result at most where each premise does.
use Rattle.std.proofs.Common.{◌≡◌, ℕ, List, [], ◌∷◌, Result, Ok, Err, Option, Some, None, refl, ap, subst}
use Rattle.htt_syntax.specs.Trees.{MonoTree, TyTree, TripleTree, TermTree, CompTree, FormulaTree, triple}
use Rattle.theory_states.specs.States.{Move, owed, start}
use Rattle.theory_canonical.specs.Skeletons.{Skeleton}
use Rattle.theory_substitution.proofs.Once.{ty_once as sub_ty_once, term_once as sub_term_once, comp_once as sub_comp_once, bind_once}
use Rattle.theory_typing.specs.Contexts.{Context, Obligation}
use Rattle.theory_typing.specs.Typing.{Part, part_step, part_comp, part_unit}
use Rattle.theory_checking.specs.Stops.{Stop, Then, stops, goes_on, Comes, comes, Refuses, refuses, Needs, holds, fails, Finds, finds, finds_none, Makes, makes}
use Rattle.theory_checking.specs.Limits.{MonoComesTo, StateIsWithin, OwedIsWithin, ResultIsWithin, PutsInTy, PutsInTerm, RunsBefore, DropsClaim}
use Rattle.theory_checking.specs.Results.{Typed, Ran, Agrees, GoesOn, AssemblesTo, BodyComesTo, BranchComesTo}
use Rattle.theory_checking.specs.Laws.{Once}

-- the stop of a result, and what it gives, where it has one
unfoldable pub stop_of : {A : Type 0} → Stop → Result A Stop → Stop
stop_of other (Err stop) = stop
stop_of other (Ok given) = other

unfoldable pub given_of : {A : Type 0} → A → Result A Stop → A
given_of other (Err stop) = other
given_of other (Ok given) = given

pub not_both : {A : Type 0} {given : A} {stop : Stop} (r : Result A Stop) → r ≡ Ok given → r ≡ Err stop → ⊥
not_both r p q = cc

pub then_once : {A B : Type 0} {first : Result A Stop → Type 0} {others : A → Result B Stop → Type 0}
    → Once first
    → ((given : A) → Once (others given))
    → Once (Then first others)
unfolding stop_of given_of
then_once f g r q (stops {stop = s} d) (stops {stop = t} e) = ap (λ x. Err (stop_of s x)) (f (Err s) (Err t) d e)
then_once {others = others} f g r q (goes_on {given = a} d x) (goes_on {given = b} e y) =
    g b r q (subst (λ c. others c r) (ap (given_of a) (f (Ok a) (Ok b) d e)) x) y
then_once f g r q (stops {stop = s} d) (goes_on {given = b} e y) = absurd (not_both (Ok b) refl (f (Ok b) (Err s) e d))
then_once f g r q (goes_on {given = a} d x) (stops {stop = t} e) = absurd (not_both (Ok a) refl (f (Ok a) (Err t) d e))

pub comes_once : {A : Type 0} {given : A} → Once (Comes given)
comes_once r q comes comes = refl

pub refuses_once : {A : Type 0} {stop : Stop} → Once (Refuses {A = A} stop)
refuses_once r q refuses refuses = refl

pub needs_once : {premise : Type 0} {stop : Stop} → Once (Needs premise stop)
needs_once r q (holds d) (holds e) = refl
needs_once r q (fails d) (fails e) = refl
needs_once r q (holds d) (fails e) = absurd (e d)
needs_once r q (fails d) (holds e) = absurd (d e)

pub finds_once : {A : Type 0} {found : A → Type 0} {stop : Stop} → ((a b : A) → found a → found b → a ≡ b) → Once (Finds found stop)
finds_once f r q (finds {given = a} d) (finds {given = b} e) = ap Ok (f a b d e)
finds_once f r q (finds_none d) (finds_none e) = refl
finds_once f r q (finds {given = a} d) (finds_none e) = absurd (e a d)
finds_once f r q (finds_none d) (finds {given = b} e) = absurd (d b e)

pub makes_once : {A : Type 0} {made : A → Type 0} → ((a b : A) → made a → made b → a ≡ b) → Once (Makes made)
makes_once f r q (makes {given = a} d) (makes {given = b} e) = ap Ok (f a b d e)

pub mono_once : (g : Context) (at : ℕ) (t : MonoTree) → Once (MonoComesTo g at t)
mono_once g at t = then_once needs_once (λ given. needs_once)

pub state_once : (F : FormulaTree) → Once (StateIsWithin F)
state_once F = then_once needs_once (λ given. needs_once)

owed_once : (F : Option FormulaTree) → Once (OwedIsWithin F)
owed_once None = comes_once
owed_once (Some F) = state_once F

pub within_once : (nodes greatest : ℕ) → Once (ResultIsWithin nodes greatest)
within_once nodes greatest = then_once needs_once (λ given. needs_once)

pub puts_ty_once : (new : TermTree) (s : Skeleton) (A : TyTree) → Once (PutsInTy new s A)
puts_ty_once new s A = then_once (makes_once (λ a b d e. sub_ty_once d e)) (λ result. then_once (within_once _ _) (λ given. comes_once))

pub puts_term_once : (new : TermTree) (s : Skeleton) (M : TermTree) → Once (PutsInTerm new s M)
puts_term_once new s M = then_once (makes_once (λ a b d e. sub_term_once d e)) (λ result. then_once (within_once _ _) (λ given. comes_once))

before_once : (E others : CompTree) → Once (RunsBefore E others)
before_once E others = then_once (makes_once (λ a b d e. bind_once d e)) (λ result. then_once (within_once _ _) (λ given. comes_once))

drops_once : (others : CompTree) → Once (DropsClaim others)
drops_once others = then_once (makes_once (λ a b d e. sub_comp_once d e)) (λ result. then_once (within_once _ _) (λ given. comes_once))

pub agrees_once : (at : ℕ) (asked : Option TyTree) (given : Typed) → Once (Agrees at asked given)
agrees_once at None given = comes_once
agrees_once at (Some ty) given = then_once needs_once (λ same. comes_once)

pub goes_on_once : (g : Context) (state : FormulaTree) (move : Move) (mono : MonoTree) (part : Part) (terms_owed : List Obligation)
    → Once (GoesOn g state move mono part terms_owed)
goes_on_once g state move mono part terms_owed =
    then_once (owed_once (owed move state)) (λ a. then_once needs_once (λ b. then_once (state_once _) (λ c. comes_once)))

pub assembles_once : (parts : List Part) (value : TermTree) → Once (AssemblesTo parts value)
unfolding AssemblesTo
assembles_once [] value = comes_once
assembles_once (part_step step ∷ parts) value = then_once (assembles_once parts value) (λ others. comes_once)
assembles_once (part_comp comp ∷ parts) value = then_once (assembles_once parts value) (λ others. before_once comp others)
assembles_once (part_unit ∷ parts) value = then_once (assembles_once parts value) (λ others. drops_once others)

pub body_once : (g : Context) (spec : TripleTree) (Runs : MonoTree → FormulaTree → Result Ran Stop → Type 0)
    → ((mono : MonoTree) (state : FormulaTree) → Once (Runs mono state))
    → Once (BodyComesTo g spec Runs)
body_once g (triple pre mono post) Runs f =
    then_once needs_once (λ a. then_once (state_once (start pre)) (λ b. then_once (f mono (start pre)) (λ r.
    then_once needs_once (λ c. then_once (state_once _) (λ d. then_once (state_once _) (λ e.
    then_once (assembles_once r.parts r.value) (λ comp. comes_once)))))))

pub branch_once : (g : Context) (mono : MonoTree) (from : FormulaTree) (Runs : FormulaTree → Result Ran Stop → Type 0)
    → ((state : FormulaTree) → Once (Runs state))
    → Once (BranchComesTo g mono from Runs)
branch_once g mono from Runs f =
    then_once (state_once from) (λ a. then_once (f from) (λ r.
    then_once needs_once (λ b. then_once (state_once _) (λ c. then_once (assembles_once r.parts r.value) (λ comp. comes_once)))))
