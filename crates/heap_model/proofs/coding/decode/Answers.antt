use Rattle.std.proofs.Common.{sym, arith}
use Rattle.htt_syntax.specs.Views.{mono_tree}
use Rattle.heap_model.specs.Views.{value_tree}
use Rattle.heap_model.proofs.FrontLemmas.{none_of_front, none_of_more, some_of_front}
use Rattle.heap_model.proofs.coding.decode.Goals as goal

pub returns-in_default : goal.returns-in_default
returns-in_default c =
    let n = rw c.in_default.is at c.in_ok-front.ensures.front in
    record { value = sym (none_of_front (mono_tree c.args.t.now) c.args.words.now n) }

pub returns-then-front-words : goal.returns-then-front-words
returns-then-front-words c =
    let f = rw c.in-Some.is at c.in_ok-front.ensures.front in
    record { value = sym (none_of_more (mono_tree c.args.t.now) c.args.words.now (λ e. omega (arith, e, f.1, c.if-front-words.true))) }

pub returns : goal.returns
returns c =
    let f = rw c.in-Some.is at c.in_ok-front.ensures.front in
    record {
      value =
          sym (some_of_front (mono_tree c.args.t.now) c.args.words.now (value_tree c.in-Some.front.value) f.0
          (omega (arith, f.1, f.2, c.if-front-words.false)));
    }
