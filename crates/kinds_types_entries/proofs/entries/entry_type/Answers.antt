use Rattle.htt_syntax.specs.Views.{ty_tree}
use Rattle.theory_views.specs.Contexts.{context_of}
use Rattle.theory_checking.specs.Stops.{finds_none}
use Rattle.kinds_types_entries.proofs.Standing.{term_comes, term_false}
use Rattle.kinds_types_entries.proofs.entries.entry_type.Goals as goal

pub returns-in-Some : goal.returns-in-Some
returns-in-Some c =
    record {
      comes = term_comes (context_of c.args.entries.now) c.args.index c.args.at (ty_tree c.in-Some.ty.now) c.from_inside.result c.in-Some.ensures.stands
          c.from_inside.ensures.seen c.from_inside.ensures.memory;
    }

pub returns-in-None : goal.returns-in-None
returns-in-None c = record { comes = finds_none (term_false (context_of c.args.entries.now) c.args.index c.in-None.ensures.stands) }
