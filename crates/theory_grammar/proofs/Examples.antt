-- The worked examples, by computing.
use Rattle.std.proofs.Common.{refl}
use Rattle.theory_grammar.specs.Marks.{◌⨟◌}
use Rattle.theory_grammar.specs.Grammar
use Rattle.theory_grammar.specs.Examples.{Monotypes, Terms, Formulas, Proofs, Files}

pub monotypes : Monotypes
unfolding Grammar.mono ◌⨟◌
monotypes = record { bracket_kinds = refl; bracket_levels = refl; product_levels = refl }

pub terms : Terms
unfolding Grammar.mono Grammar.term ◌⨟◌
terms = record { bracket_levels = refl; chain_kinds = refl; chain_levels = refl; chain_operands = refl }

pub formulas : Formulas
unfolding Grammar.mono Grammar.term ◌⨟◌
formulas = record { levels = refl; kinds = refl }

pub proofs : Proofs
unfolding Grammar.term Grammar.proof ◌⨟◌
proofs = record { levels = refl; operands = refl }

pub files : Files
unfolding Grammar.mono Grammar.term Grammar.proof ◌⨟◌
files = record {
  derives = (
    record { kind = refl; at = tt; span = tt },
    (
      record { kind = refl; at = tt; span = refl },
      (
        record { kind = refl; at = tt; span = tt },
        (
          record { kind = refl; at = refl; span = tt },
          (record { kind = refl; at = tt; span = tt }, (record { kind = refl; at = refl; span = tt }, tt)),
        ),
      ),
    ),
  );
  levels = refl;
}
