use Rattle.std.proofs.Common.{◌∙◌, arith}
use Rattle.word_loader_format.proofs.Numbers.{number_at-below}
use Rattle.word_loader.proofs.FieldLemmas.{number_at-cut}
use Rattle.word_loader.proofs.fields.number_at.Goals as goal

pub returns-clause-value : goal.returns-clause-value
returns-clause-value c =
    c.number_of.ensures.value
    ∙ number_at-cut c.args.file.now c.args.at c.args.width c.min.result c.min-2.result c.min.ensures c.min-2.ensures

pub returns-clause-below : goal.returns-clause-below
returns-clause-below c =
    rw (
      c.number_of.ensures.value,
      number_at-cut c.args.file.now c.args.at c.args.width c.min.result c.min-2.result c.min.ensures c.min-2.ensures,
    ) (number_at-below c.args.file.now c.args.at c.args.width (λ i. omega (arith, c.type_inv.file i)))
