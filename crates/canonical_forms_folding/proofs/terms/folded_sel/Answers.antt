use Rattle.std.proofs.Common.{Bool, Option, Some, Ok, refl, sym, ap, ◌∙◌}
use Rattle.htt_syntax.specs.Trees.{t_sel}
use Rattle.htt_syntax.specs.Views.{mono_tree, term_tree}
use Rattle.canonical_forms_folding.proofs.Folds.{sel_folds, chosen}
use Rattle.canonical_forms_folding.proofs.Built.{computed, sel_parts}
use Rattle.canonical_forms_folding.proofs.terms.folded_sel.Goals as goal

pub returns-in-Some-true : goal.returns-in-Some-true
returns-in-Some-true c =
    let m = mono_tree c.args.mono in
    let t = term_tree c.args.test in
    let x = term_tree c.args.on_true in
    let y = term_tree c.args.on_false in
    let truth = sym c.in-Some-true.ensures.truth ∙ ap Some c.in-Some-true.field-0-test in
    record { folded = computed (t_sel m t x y) x (sel_folds m t x y ∙ ap (λ (o : Option Bool). chosen o x y) truth) }

pub returns-in-Some-false : goal.returns-in-Some-false
returns-in-Some-false c =
    let m = mono_tree c.args.mono in
    let t = term_tree c.args.test in
    let x = term_tree c.args.on_true in
    let y = term_tree c.args.on_false in
    let truth = sym c.in-Some-false.ensures.truth ∙ ap Some c.in-Some-false.field-0-test in
    record { folded = computed (t_sel m t x y) y (sel_folds m t x y ∙ ap (λ (o : Option Bool). chosen o x y) truth) }

pub returns : goal.returns
returns c =
    let x = term_tree c.args.on_true in
    let y = term_tree c.args.on_false in
    let stays = sel_folds (mono_tree c.args.mono) (term_tree c.args.test) x y ∙ ap (λ (o : Option Bool). chosen o x y) (sym c.in-None.ensures.truth) in
    record {
      folded = sel_parts c.args.mono (Ok c.args.mono) c.args.test c.args.on_true c.args.on_false c.boxed.result c.boxed-in-None.result
          c.boxed-in-None-2.result c.term_sel.result refl c.boxed.ensures.same_value c.boxed-in-None.ensures.same_value c.boxed-in-None-2.ensures.same_value
          c.term_sel.ensures.made stays;
    }
