use Rattle.std.proofs.Common.{arith, sym, ◌∙◌}
use Rattle.shared_terms_table.proofs.Lists.{extends_trans, row_kept}
use Rattle.theory_substitution.specs.Closing.{closing}
use Rattle.shared_terms_renaming.specs.Known.{RenamesBy}
use Rattle.shared_terms_renaming.specs.Maps.{map_of}
use Rattle.shared_terms_filling.specs.Filled.{stood, Fills}
use Rattle.shared_terms_renaming.proofs.Slots.{ok_map}
use Rattle.shared_terms_filling.proofs.Grows.{mono_kept, slot_kept}
use Rattle.shared_terms_filling.proofs.Slots.{fills_row, filled_row, row_fitting, variable_filled, variable_stays}
use Rattle.shared_terms_filling.proofs.work.FillWork.+fill.Goals as goal

pub fill_anew-returns-then-index-task-clause-filled : goal.fill_anew-returns-then-index-task-clause-filled
fill_anew-returns-then-index-task-clause-filled t c =
    variable_filled c.in-Some.index c.requires.mono c.row-row.ensures.row (sym c.variable_of.ensures.variable ∙ c.in-Some.is) (omega (arith, c.if-index-task.true))

pub fill_anew-returns-else-index-task-clause-filled : goal.fill_anew-returns-else-index-task-clause-filled
unfolding map_of
fill_anew-returns-else-index-task-clause-filled t c =
    ok_map c.rename.result (λ r. RenamesBy (stood c.rename.new.self) (closing c.args.task.index) c.args.task.place r)
    (λ r. Fills (stood c.rename.new.self) c.args.task r)
    (λ r m.
    variable_stays {task = c.args.task} c.in-Some.index (mono_kept c.rename.ensures.kept c.requires.mono)
    (row_kept c.rename.ensures.kept c.row-row.ensures.row) (sym c.variable_of.ensures.variable ∙ c.in-Some.is)
    (λ e. absurd (omega (arith, c.if-index-task.false, e))) m) c.rename.ensures.renamed

pub fill_slots-fold-requires-clause-fitting : goal.fill_slots-fold-requires-clause-fitting
unfolding map_of
fill_slots-fold-requires-clause-fitting t c =
    let y = c.fill_slot-4.ensures.kept in
    let x = extends_trans c.fill_slot-3.ensures.kept y in
    let w = extends_trans c.fill_slot-2.ensures.kept x in
    let v = extends_trans c.fill_slot.ensures.kept w in
    let m = mono_kept c.fill_slot.ensures.kept c.requires.mono in
    let n = mono_kept c.fill_slot-2.ensures.kept m in
    let o = mono_kept c.fill_slot-3.ensures.kept n in
    row_fitting
    (fills_row {task = c.args.task} _ _ _ _ _ c.slots_of-slots.ensures.slots c.in_ok-form.ensures.form (slot_kept w c.args.task _ _ _ m c.in_ok-first.ensures.filled)
    (slot_kept x c.args.task _ _ _ n c.in_ok-second.ensures.filled) (slot_kept y c.args.task _ _ _ o c.in_ok-third.ensures.filled)
    c.in_ok-fourth.ensures.filled) ((row_kept v c.requires.row).fitting)

pub fill_slots-returns-clause-filled : goal.fill_slots-returns-clause-filled
unfolding map_of
fill_slots-returns-clause-filled t c =
    let y = c.fill_slot-4.ensures.kept in
    let x = extends_trans c.fill_slot-3.ensures.kept y in
    let w = extends_trans c.fill_slot-2.ensures.kept x in
    let v = extends_trans c.fill_slot.ensures.kept w in
    let m = mono_kept c.fill_slot.ensures.kept c.requires.mono in
    let n = mono_kept c.fill_slot-2.ensures.kept m in
    let o = mono_kept c.fill_slot-3.ensures.kept n in
    let p = mono_kept c.fill_slot-4.ensures.kept o in
    let rows =
    fills_row {task = c.args.task} _ _ _ _ _ c.slots_of-slots.ensures.slots c.in_ok-form.ensures.form (slot_kept w c.args.task _ _ _ m c.in_ok-first.ensures.filled)
    (slot_kept x c.args.task _ _ _ n c.in_ok-second.ensures.filled) (slot_kept y c.args.task _ _ _ o c.in_ok-third.ensures.filled)
    c.in_ok-fourth.ensures.filled
    in
    ok_map c.fold.result _ (λ r. Fills (stood c.fold.new.self) c.args.task r) (λ r s. filled_row c.fold.ensures.kept p c.requires.form (row_kept v c.requires.row) rows s) c.fold.ensures.folded
