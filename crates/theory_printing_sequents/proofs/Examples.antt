-- The printed sequents, by computing.
use Rattle.std.proofs.Common.{refl}
use Rattle.std.specs.Fmt.{digits}
use Rattle.theory_printing.specs.Pieces.{bytes_of}
use Rattle.theory_printing.specs.Names.{count_of, entry_of_sort}
use Rattle.theory_printing.specs.Brackets.{needs_brackets, term_form, formula_form}
use Rattle.theory_printing.specs.Phrases.{mono, term}
use Rattle.theory_printing_sequents.specs.Sequents.{entry_lines, hypothesis_lines}
use Rattle.theory_printing_sequents.specs.Examples.{SequentExamples}

pub examples : SequentExamples
unfolding digits bytes_of count_of entry_of_sort needs_brackets term_form formula_form mono term entry_lines hypothesis_lines
examples = record { obligation = refl; with_hypotheses = refl }
