use Rattle.std.proofs.Common.{arith}
use Rattle.word_loader.proofs.FieldLemmas.{rest_small, number-none, number-cells}
use Rattle.word_loader.proofs.fields.+number_of.Goals as goal

pub overflow_mul-result : goal.overflow_mul-result
overflow_mul-result t c = omega (arith, rest_small c.args.bytes.now c.number_of.result c.requires c.number_of.ensures.below)

pub overflow_add-result : goal.overflow_add-result
overflow_add-result t c = omega (arith, rest_small c.args.bytes.now c.number_of.result c.requires c.number_of.ensures.below, c.type_inv.bytes 0, c.from.ensures)

pub returns-in-empty-clause-value : goal.returns-in-empty-clause-value
returns-in-empty-clause-value t c = number-none c.args.bytes.now c.in-empty.len_below

pub returns-in-len1-up-clause-value : goal.returns-in-len1-up-clause-value
returns-in-len1-up-clause-value t c =
    number-cells c.args.bytes.now c.from.result c.number_of.result c.in-len1-up.len_at_least c.from.ensures c.number_of.ensures.value
