-- From the answer for a signature to the answer for the axiom that has it.
use Rattle.std.proofs.Common.{◌≡◌, List}
use Rattle.std.specs.Prelude.{Result, Ok, Err, None, MatchResult}
use Rattle.htt_syntax.specs.Trees.{MonoTree}
use Rattle.theory_logic_axioms.specs.Names.{AxiomName, pair_eta}
use Rattle.theory_logic_axioms.specs.Table.{ArgSort, signature, argument_sorts, SideCondition}
use Rattle.logic_axioms_shapes.specs.declared.sort.AxiomStop.{AxiomStop}
use Rattle.logic_axioms_shapes.specs.declared.sort.AxiomStop.TheVariants.{BadInstance, MonoTooLarge, TooLarge, NoMemory}
use Rattle.logic_axioms_shapes.specs.Answers.{IsShape, Stops, IsShapeAt, StopsAt, IsPairShape, StopsPair, made_pair}

pub answered : {A : Type 0} (see : A → List ArgSort) (name : AxiomName) (monos : List MonoTree) (r : Result A AxiomStop)
    → made_pair name monos ≡ None
    → MatchResult r (λ a. IsShapeAt (signature name) monos (see a)) (StopsAt (signature name) monos)
    → MatchResult r (λ a. IsShape name monos (see a)) (Stops name monos)
unfolding argument_sorts SideCondition
answered see name monos (Ok a) none (many, condition) =
    record { takes = record { as_many = many; side_condition = condition }; narrow = rw none tt }
answered see name monos (Err BadInstance) none h = λ sorts taken. h sorts (taken.as_many, taken.side_condition)
answered see name monos (Err MonoTooLarge) none h = absurd h
answered see name monos (Err TooLarge) none h = h
answered see name monos (Err NoMemory) none h = tt

pub paired : {A : Type 0} (see : A → List ArgSort) (monos : List MonoTree) (r : Result A AxiomStop)
    → MatchResult r (λ a. IsPairShape monos (see a)) (StopsPair monos)
    → MatchResult r (λ a. IsShape pair_eta monos (see a)) (Stops pair_eta monos)
unfolding argument_sorts SideCondition
paired see monos (Ok a) ((many, condition), narrow) =
    record { takes = record { as_many = many; side_condition = condition }; narrow = narrow }
paired see monos (Err BadInstance) h = λ sorts taken. h sorts (taken.as_many, taken.side_condition)
paired see monos (Err MonoTooLarge) h = h
paired see monos (Err TooLarge) h = h
paired see monos (Err NoMemory) h = tt
