use Rattle.std.proofs.Common.{Some, refl, sym, ap, ◌∙◌, arith, subst}
use Rattle.htt_syntax.specs.Trees.{MonoTree, m_pair}
use Rattle.htt_syntax.specs.Views.{mono_tree}
use Rattle.htt_syntax.specs.Levels.{mono_word, mono_bool, mono_loc, mono_unit, mono_pair, mono_var}
use Rattle.theory_values.specs.Values.{width}
use Rattle.heap_model.specs.Fronts.{front_value, IsFront}
use Rattle.heap_model.specs.Levels.{value_unit}
use Rattle.heap_model.specs.Views.{value_tree}
use Rattle.heap_model.proofs.FrontLemmas.{no_first, pair_refused, pair_read}
use Rattle.heap_model.proofs.decoding.+front_of.Goals as goal

pub returns-in-Word : goal.returns-in-Word
returns-in-Word t c = record {
  front =
      subst (λ (m : MonoTree). IsFront m c.args.words.now c.word_front.result) (sym (ap mono_tree c.in-Word.is ∙ mono_word))
      c.word_front.ensures;
}

pub returns-in-Bool : goal.returns-in-Bool
returns-in-Bool t c = record {
  front =
      subst (λ (m : MonoTree). IsFront m c.args.words.now c.bool_front.result) (sym (ap mono_tree c.in-Bool.is ∙ mono_bool))
      c.bool_front.ensures;
}

pub returns-in-Loc : goal.returns-in-Loc
returns-in-Loc t c = record {
  front =
      subst (λ (m : MonoTree). IsFront m c.args.words.now c.place_front.result) (sym (ap mono_tree c.in-Loc.is ∙ mono_loc))
      c.place_front.ensures;
}

pub returns-in-Unit : goal.returns-in-Unit
returns-in-Unit t c = let e = ap mono_tree c.in-Unit.is ∙ mono_unit in record { front = rw e (ap Some (sym value_unit), refl, omega arith) }

pub returns-in-Var : goal.returns-in-Var
returns-in-Var t c = let e = ap mono_tree c.in-Var.is ∙ mono_var c.in-Var.field-0 in record { front = rw e refl }

pub returns-in_default : goal.returns-in_default
returns-in_default t c =
    let p = ap mono_tree c.in-Pair.is ∙ mono_pair c.in-Pair.first c.in-Pair.second in
    let n = rw c.in_default.is at c.in_ok-left-in-Pair.ensures.front in
    record {
      front =
          rw p (no_first (mono_tree c.in-Pair.first) (mono_tree c.in-Pair.second) c.args.words.now
          (ap (λ m. front_value (mono_tree m) c.args.words.now) (sym c.get.ensures) ∙ n));
    }

pub returns-in_default-2 : goal.returns-in_default-2
returns-in_default-2 t c =
    let a = ap mono_tree (sym c.get.ensures) in
    let b = ap mono_tree (sym c.get-in-Pair.ensures) in
    let p = ap mono_tree c.in-Pair.is ∙ mono_pair c.in-Pair.first c.in-Pair.second ∙ (λ j. m_pair (a j) (b j)) in
    let left = rw c.in-Some.is at c.in_ok-left-in-Pair.ensures.front in
    let n = rw c.in_default-2.is at c.in_ok-right-in-Pair.ensures.front in
    record {
      front =
          ap (λ m. front_value m c.args.words.now) p
          ∙ pair_refused (mono_tree c.get.result.now) (mono_tree c.get-in-Pair.result.now) c.args.words.now c.in-Some.left.len left.1 n;
    }

pub returns-in_ok-value-in-Pair : goal.returns-in_ok-value-in-Pair
returns-in_ok-value-in-Pair t c =
    let a = ap mono_tree (sym c.get.ensures) in
    let b = ap mono_tree (sym c.get-in-Pair.ensures) in
    let p = ap mono_tree c.in-Pair.is ∙ mono_pair c.in-Pair.first c.in-Pair.second ∙ (λ j. m_pair (a j) (b j)) in
    let left = rw c.in-Some.is at c.in_ok-left-in-Pair.ensures.front in
    let right = rw c.in-Some-2.is at c.in_ok-right-in-Pair.ensures.front in
    let made =
    pair_read (mono_tree c.get.result.now) (mono_tree c.get-in-Pair.result.now) c.args.words.now c.in-Some.left.len c.in-Some-2.right.len
    (value_tree c.in-Some.left.value) (value_tree c.in-Some-2.right.value) (value_tree c.in_ok-value-in-Pair.value) left.0 left.1 left.2
    right.0 right.1 right.2 c.in_ok-value-in-Pair.ensures in
    record {
      front = (ap (λ m. front_value m c.args.words.now) p ∙ made.0, made.1 ∙ sym (ap width p), omega (arith, ap width p, made.2));
    }
