use Rattle.std.proofs.Common.{refl, ap, ◌∙◌, subst, true, false, Some}
use Rattle.std.proofs.lemmas.Option.{slice_get_within}
use Rattle.obligations.specs.declared.row.State.{State}
use Rattle.obligations.specs.Rows.{ChangesTo}
use Rattle.obligations.specs.Tables.{rows_of}
use Rattle.obligations.proofs.Places.{stands_as}
use Rattle.obligations.proofs.table.Table.claim.Goals as goal

pub returns-then-not-is_free : goal.returns-then-not-is_free
returns-then-not-is_free c =
    let state = c.is_free.ensures.free ∙ ap Some c.if-not-is_free.true in
    let stands = stands_as false c.args.target c.args.number (rows_of c.args.self.now) c.in-Some.row c.in-Some.ensures.found state in
    record { claimed = ((c.in-Some.row, stands), refl) }

pub change-requires : goal.change-requires
change-requires c =
    let there = c.in-Some.ensures.found in
    record { is_row = slice_get_within (rows_of c.args.self.now) c.in-Some.row there.0 there.1 }

pub returns : goal.returns
returns c =
    let rows = rows_of c.args.self.now in
    let state = c.is_free.ensures.free ∙ ap Some c.if-not-is_free.false in
    let stands = stands_as true c.args.target c.args.number rows c.in-Some.row c.in-Some.ensures.found state in
    let changed = subst (λ (s : State). ChangesTo s c.in-Some.row rows (rows_of c.change.new.self)) c.claimed_as.ensures.state c.change.ensures.changed in
    record { claimed = (stands, changed) }
