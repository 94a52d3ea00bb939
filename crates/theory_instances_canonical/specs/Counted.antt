-- What a value denotes where each use of it takes one unit of fuel, as a call of its instance does.
use Rattle.std.specs.Prelude.{[]}
use Rattle.theory_canonical.specs.Skeletons.{skeleton}
use Rattle.theory_denotation.specs.Valuations.{ValuationEntry, den_term, HeadEntries}
use Rattle.theory_denotation.specs.Recursion.{entered}
use Rattle.theory_denotation.specs.Denotation.{term_den}
use Rattle.theory_instances.specs.Calls.{ProgramVal}

abbrev pub counted_entry : HeadEntries → ProgramVal → ValuationEntry
counted_entry e v = den_term (skeleton v.ty) (entered (skeleton v.ty) (term_den e [] v.term (skeleton v.ty)))
