use Rattle.std.proofs.Common.{◌≡◌, suc, ap, ◌∙◌, arith}
use Rattle.htt_syntax.specs.Trees.{t_var}
use Rattle.htt_syntax.specs.Views.{mono_tree, term_tree, formula_tree}
use Rattle.htt_syntax.specs.Levels.{term_var}
use Rattle.theory_states.specs.States.{ending}
use Rattle.sp_checker.proofs.Made.{as_tree, as_mono, as_term}
use Rattle.sp_checker.proofs.EndMaps.{state_within, mono_far, term_shift}
use Rattle.sp_checker.proofs.ends.ending.Goals as goal

pub returns : goal.returns
unfolding ending
returns c =
    let j = c.args.count in
    let far = c.in_ok-past.past in
    let over = c.in_ok-past.ensures.sum in
    let two = c.in_ok-result.ensures.sum in
    let place : c.in_ok-result.result ≡ suc (suc j) = omega (arith, two) in
    let list = c.deref.ensures.value ∙ c.in_ok-to.ensures.list in
    let state = as_tree c.rename_past.result _ _ (state_within j far c.deref.result.now (formula_tree c.args.state.now) list over) c.rename_past.ensures.renamed in
    let mono = as_mono c.mono_past.result _ _ (mono_far j far (mono_tree c.args.mono.now) over) c.mono_past.ensures.past in
    let value = as_term c.shift_term-value.result _ _ (term_shift j 3 (term_tree c.args.value.now)) c.shift_term-value.ensures.shifted in
    let is = c.equal-is.ensures.made _ _ _ mono (term_var c.in_ok-result.result ∙ ap t_var place) value in
    record { state = c.and.ensures.made _ _ state is }
