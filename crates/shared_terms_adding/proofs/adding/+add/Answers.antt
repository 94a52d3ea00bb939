use Rattle.std.proofs.Common.{ap, arith}
use Rattle.shared_terms_table.specs.View.{parts_of}
use Rattle.shared_terms_table.proofs.Lists.{extends_trans}
use Rattle.shared_terms_rows.specs.declared.row.Row.{Row}
use Rattle.shared_terms_adding.specs.Views.{part_of, part_in}
use Rattle.shared_terms_adding.proofs.Rank.{rank_in, first_less, second_less, third_less, fourth_less}
use Rattle.shared_terms_adding.proofs.Growth.{Placed, grows_trans, grows_first, grows_second, grows_third, grows_fourth, grows_last, slot_extends, slot_kept, slot_told, slot_grown, placed_kept, row_behind, row_fits, stands_ok}
use Rattle.shared_terms_adding.proofs.adding.+add.Goals as goal

pub add-add_slot-requires : goal.add-add_slot-requires
add-add_slot-requires t c = (omega (arith, c.decreases, first_less (part_of c.args.tree), ap rank_in c.first.ensures.first), tt)

pub add-returns-in_err-first-clause-grows : goal.add-returns-in_err-first-clause-grows
add-returns-in_err-first-clause-grows t c =
    let g0 = grows_first (slot_grown (parts_of c.args.table.now) (parts_of c.add_slot.new.table) c.first.ensures.first c.add_slot.ensures.grows) in
    g0

pub add-add_slot-requires-2 : goal.add-add_slot-requires-2
add-add_slot-requires-2 t c = (omega (arith, c.decreases, second_less (part_of c.args.tree), ap rank_in c.second.ensures.second), tt)

pub add-returns-in_err-second-clause-grows : goal.add-returns-in_err-second-clause-grows
add-returns-in_err-second-clause-grows t c =
    let g0 = grows_first (slot_grown (parts_of c.args.table.now) (parts_of c.add_slot.new.table) c.first.ensures.first c.add_slot.ensures.grows) in
    let g1 = grows_second (slot_grown (parts_of c.add_slot.new.table) (parts_of c.add_slot-2.new.table) c.second.ensures.second c.add_slot-2.ensures.grows) in
    grows_trans g0 g1

pub add-add_slot-requires-3 : goal.add-add_slot-requires-3
add-add_slot-requires-3 t c = (omega (arith, c.decreases, third_less (part_of c.args.tree), ap rank_in c.third.ensures.third), tt)

pub add-returns-in_err-third-clause-grows : goal.add-returns-in_err-third-clause-grows
add-returns-in_err-third-clause-grows t c =
    let g0 = grows_first (slot_grown (parts_of c.args.table.now) (parts_of c.add_slot.new.table) c.first.ensures.first c.add_slot.ensures.grows) in
    let g1 = grows_second (slot_grown (parts_of c.add_slot.new.table) (parts_of c.add_slot-2.new.table) c.second.ensures.second c.add_slot-2.ensures.grows) in
    let g2 = grows_third (slot_grown (parts_of c.add_slot-2.new.table) (parts_of c.add_slot-3.new.table) c.third.ensures.third c.add_slot-3.ensures.grows) in
    grows_trans (grows_trans g0 g1) g2

pub add-add_slot-requires-4 : goal.add-add_slot-requires-4
add-add_slot-requires-4 t c = (omega (arith, c.decreases, fourth_less (part_of c.args.tree), ap rank_in c.fourth.ensures.fourth), tt)

pub add-returns-in_err-fourth-clause-grows : goal.add-returns-in_err-fourth-clause-grows
add-returns-in_err-fourth-clause-grows t c =
    let g0 = grows_first (slot_grown (parts_of c.args.table.now) (parts_of c.add_slot.new.table) c.first.ensures.first c.add_slot.ensures.grows) in
    let g1 = grows_second (slot_grown (parts_of c.add_slot.new.table) (parts_of c.add_slot-2.new.table) c.second.ensures.second c.add_slot-2.ensures.grows) in
    let g2 = grows_third (slot_grown (parts_of c.add_slot-2.new.table) (parts_of c.add_slot-3.new.table) c.third.ensures.third c.add_slot-3.ensures.grows) in
    let g3 = grows_fourth (slot_grown (parts_of c.add_slot-3.new.table) (parts_of c.add_slot-4.new.table) c.fourth.ensures.fourth c.add_slot-4.ensures.grows) in
    grows_trans (grows_trans (grows_trans g0 g1) g2) g3

pub add-push-requires-clause-behind : goal.add-push-requires-clause-behind
add-push-requires-clause-behind t c =
    let x4 = slot_extends (part_in c.fourth.result) c.add_slot-4.ensures.grows in
    let x3 = extends_trans (slot_extends (part_in c.third.result) c.add_slot-3.ensures.grows) x4 in
    let x2 = extends_trans (slot_extends (part_in c.second.result) c.add_slot-2.ensures.grows) x3 in
    let parts = parts_of c.add_slot-4.new.table in
    let p = part_of c.args.tree in
    let row : Row = record { form = c.form.result; first = c.in_ok-first.first; second = c.in_ok-second.second; third = c.in_ok-third.third; fourth = c.in_ok-fourth.fourth } in
    let h : Placed parts p row = record {
      form = c.form.ensures.form;
      first = slot_told parts row.first c.first.ensures.first (slot_kept (part_in c.first.result) row.first x2 c.in_ok-first.ensures.stands);
      second = slot_told parts row.second c.second.ensures.second (slot_kept (part_in c.second.result) row.second x3 c.in_ok-second.ensures.stands);
      third = slot_told parts row.third c.third.ensures.third (slot_kept (part_in c.third.result) row.third x4 c.in_ok-third.ensures.stands);
      fourth = slot_told parts row.fourth c.fourth.ensures.fourth c.in_ok-fourth.ensures.stands;
    } in
    row_behind h

pub add-push-requires-clause-fitting : goal.add-push-requires-clause-fitting
add-push-requires-clause-fitting t c =
    let x4 = slot_extends (part_in c.fourth.result) c.add_slot-4.ensures.grows in
    let x3 = extends_trans (slot_extends (part_in c.third.result) c.add_slot-3.ensures.grows) x4 in
    let x2 = extends_trans (slot_extends (part_in c.second.result) c.add_slot-2.ensures.grows) x3 in
    let parts = parts_of c.add_slot-4.new.table in
    let p = part_of c.args.tree in
    let row : Row = record { form = c.form.result; first = c.in_ok-first.first; second = c.in_ok-second.second; third = c.in_ok-third.third; fourth = c.in_ok-fourth.fourth } in
    let h : Placed parts p row = record {
      form = c.form.ensures.form;
      first = slot_told parts row.first c.first.ensures.first (slot_kept (part_in c.first.result) row.first x2 c.in_ok-first.ensures.stands);
      second = slot_told parts row.second c.second.ensures.second (slot_kept (part_in c.second.result) row.second x3 c.in_ok-second.ensures.stands);
      third = slot_told parts row.third c.third.ensures.third (slot_kept (part_in c.third.result) row.third x4 c.in_ok-third.ensures.stands);
      fourth = slot_told parts row.fourth c.fourth.ensures.fourth c.in_ok-fourth.ensures.stands;
    } in
    row_fits h

pub add-returns-clause-stands : goal.add-returns-clause-stands
add-returns-clause-stands t c =
    let x4 = slot_extends (part_in c.fourth.result) c.add_slot-4.ensures.grows in
    let x3 = extends_trans (slot_extends (part_in c.third.result) c.add_slot-3.ensures.grows) x4 in
    let x2 = extends_trans (slot_extends (part_in c.second.result) c.add_slot-2.ensures.grows) x3 in
    let parts = parts_of c.add_slot-4.new.table in
    let p = part_of c.args.tree in
    let row : Row = record { form = c.form.result; first = c.in_ok-first.first; second = c.in_ok-second.second; third = c.in_ok-third.third; fourth = c.in_ok-fourth.fourth } in
    let h : Placed parts p row = record {
      form = c.form.ensures.form;
      first = slot_told parts row.first c.first.ensures.first (slot_kept (part_in c.first.result) row.first x2 c.in_ok-first.ensures.stands);
      second = slot_told parts row.second c.second.ensures.second (slot_kept (part_in c.second.result) row.second x3 c.in_ok-second.ensures.stands);
      third = slot_told parts row.third c.third.ensures.third (slot_kept (part_in c.third.result) row.third x4 c.in_ok-third.ensures.stands);
      fourth = slot_told parts row.fourth c.fourth.ensures.fourth c.in_ok-fourth.ensures.stands;
    } in
    stands_ok c.push.result (parts_of c.push.new.self) (placed_kept c.push.ensures.kept h) c.push.ensures.made

pub add-returns-clause-grows : goal.add-returns-clause-grows
add-returns-clause-grows t c =
    let x4 = slot_extends (part_in c.fourth.result) c.add_slot-4.ensures.grows in
    let x3 = extends_trans (slot_extends (part_in c.third.result) c.add_slot-3.ensures.grows) x4 in
    let x2 = extends_trans (slot_extends (part_in c.second.result) c.add_slot-2.ensures.grows) x3 in
    let parts = parts_of c.add_slot-4.new.table in
    let p = part_of c.args.tree in
    let row : Row = record { form = c.form.result; first = c.in_ok-first.first; second = c.in_ok-second.second; third = c.in_ok-third.third; fourth = c.in_ok-fourth.fourth } in
    let h : Placed parts p row = record {
      form = c.form.ensures.form;
      first = slot_told parts row.first c.first.ensures.first (slot_kept (part_in c.first.result) row.first x2 c.in_ok-first.ensures.stands);
      second = slot_told parts row.second c.second.ensures.second (slot_kept (part_in c.second.result) row.second x3 c.in_ok-second.ensures.stands);
      third = slot_told parts row.third c.third.ensures.third (slot_kept (part_in c.third.result) row.third x4 c.in_ok-third.ensures.stands);
      fourth = slot_told parts row.fourth c.fourth.ensures.fourth c.in_ok-fourth.ensures.stands;
    } in
    let g0 = grows_first (slot_grown (parts_of c.args.table.now) (parts_of c.add_slot.new.table) c.first.ensures.first c.add_slot.ensures.grows) in
    let g1 = grows_second (slot_grown (parts_of c.add_slot.new.table) (parts_of c.add_slot-2.new.table) c.second.ensures.second c.add_slot-2.ensures.grows) in
    let g2 = grows_third (slot_grown (parts_of c.add_slot-2.new.table) (parts_of c.add_slot-3.new.table) c.third.ensures.third c.add_slot-3.ensures.grows) in
    let g3 = grows_fourth (slot_grown (parts_of c.add_slot-3.new.table) (parts_of c.add_slot-4.new.table) c.fourth.ensures.fourth c.add_slot-4.ensures.grows) in
    grows_trans (grows_trans (grows_trans (grows_trans g0 g1) g2) g3) (grows_last h c.push.ensures.appends)

pub add_slot-add-requires : goal.add_slot-add-requires
unfolding rank_in
add_slot-add-requires t c = (omega (arith, c.decreases, ap (λ s. rank_in (part_in s)) c.in-Some.is), tt)
