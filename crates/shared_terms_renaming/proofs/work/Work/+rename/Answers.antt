use Rattle.shared_terms_table.proofs.Lists.{extends_trans, row_kept}
use Rattle.shared_terms_renaming.proofs.Grows.{slot_kept}
use Rattle.shared_terms_renaming.proofs.Slots.{renamed_row, renames_row, row_fitting, ok_map}
use Rattle.shared_terms_renaming.proofs.work.Work.+rename.Goals as goal

pub rename_anew-push-requires-clause-fitting : goal.rename_anew-push-requires-clause-fitting
rename_anew-push-requires-clause-fitting t c =
    let y = c.rename_slot-4.ensures.kept in
    let x = extends_trans c.rename_slot-3.ensures.kept y in
    let w = extends_trans c.rename_slot-2.ensures.kept x in
    let v = extends_trans c.rename_slot.ensures.kept w in
    row_fitting
    (renames_row _ _ _ _ _ c.slots_of-slots.ensures.slots c.in_ok-form.ensures.form (slot_kept w _ _ _ _ c.in_ok-first.ensures.renamed)
    (slot_kept x _ _ _ _ c.in_ok-second.ensures.renamed) (slot_kept y _ _ _ _ c.in_ok-third.ensures.renamed)
    c.in_ok-fourth.ensures.renamed)
    ((row_kept v c.row-row.ensures.row).fitting)

pub rename_anew-returns-clause-renamed : goal.rename_anew-returns-clause-renamed
rename_anew-returns-clause-renamed t c =
    let z = c.push.ensures.kept in
    let y = extends_trans c.rename_slot-4.ensures.kept z in
    let x = extends_trans c.rename_slot-3.ensures.kept y in
    let w = extends_trans c.rename_slot-2.ensures.kept x in
    let v = extends_trans c.rename_slot.ensures.kept w in
    ok_map _ _ _
    (λ r m. renamed_row (row_kept v c.row-row.ensures.row)
    (renames_row _ _ _ _ _ c.slots_of-slots.ensures.slots c.in_ok-form.ensures.form (slot_kept w _ _ _ _ c.in_ok-first.ensures.renamed)
    (slot_kept x _ _ _ _ c.in_ok-second.ensures.renamed) (slot_kept y _ _ _ _ c.in_ok-third.ensures.renamed)
    (slot_kept z _ _ _ _ c.in_ok-fourth.ensures.renamed)) m) c.push.ensures.made
