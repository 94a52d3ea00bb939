use Rattle.htt_syntax.specs.Views.{mono_tree}
use Rattle.theory_views.specs.Contexts.{context_of}
use Rattle.theory_checking.specs.Stops.{stops, fails}
use Rattle.kinds_types_entries.proofs.MonotypeLevels.{formed_comes}
use Rattle.kinds_types_entries.proofs.monotypes.monotype.Goals as goal

pub returns-then-is_formed : goal.returns-then-is_formed
returns-then-is_formed c =
    record {
      comes = formed_comes (context_of c.args.entries.now) c.args.at (mono_tree c.args.mono.now) c.narrow.result c.if-is_formed.ensures.formed
          c.narrow.ensures.comes;
    }

pub returns-else-is_formed : goal.returns-else-is_formed
returns-else-is_formed c = record { comes = stops (fails c.if-is_formed.ensures.not_formed) }
