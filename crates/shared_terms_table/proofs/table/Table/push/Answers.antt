use Rattle.std.proofs.Common.{ap, sym, ◌∙◌, Some}
use Rattle.shared_terms_table.specs.View.{parts_of}
use Rattle.shared_terms_table.proofs.Facts.{put_result, put_backward, put_fitting, put_extends, put_appends, row_is}
use Rattle.shared_terms_table.proofs.Equal.{row_same}
use Rattle.shared_terms_table.proofs.Once.{once, put_once}
use Rattle.shared_terms_table.proofs.table.Table.push.Goals as goal

pub invariant_of-self : goal.invariant_of-self
unfolding parts_of
invariant_of-self c =
    let e = c.insert_full.ensures in
    let p = put_result c.insert_full.result _ _ c.args.row e.keys e.err in
    record {
      backward = put_backward _ _ c.args.row p c.args.self.now.backward c.requires.behind;
      fitting = put_fitting _ _ c.args.row p c.args.self.now.backward c.args.self.now.fitting c.requires.behind c.requires.fitting;
      once = put_once _ _ c.args.row p c.args.self.now.once;
    }

pub returns-in_err-place-clause-appends : goal.returns-in_err-place-clause-appends
unfolding parts_of
returns-in_err-place-clause-appends c =
    let e = c.insert_full.ensures in
    put_appends _ _ c.args.row (put_result c.insert_full.result _ _ c.args.row e.keys e.err)

pub returns-in_err-place-clause-kept : goal.returns-in_err-place-clause-kept
unfolding parts_of
returns-in_err-place-clause-kept c =
    let e = c.insert_full.ensures in
    put_extends _ _ c.args.row (put_result c.insert_full.result _ _ c.args.row e.keys e.err)

pub returns-clause-made : goal.returns-clause-made
unfolding parts_of
returns-clause-made c =
    let e = c.insert_full.ensures in
    let h = c.in_ok-place.ensures.stored in
    let p = put_result c.insert_full.result _ _ c.args.row e.keys e.err in
    row_is _ c.args.row c.in_ok-place.place (put_backward _ _ c.args.row p c.args.self.now.backward c.requires.behind)
    (put_fitting _ _ c.args.row p c.args.self.now.backward c.args.self.now.fitting c.requires.behind c.requires.fitting)
    (h.1 ∙ ap Some (sym (row_same _ _ h.2)))

pub returns-clause-appends : goal.returns-clause-appends
unfolding parts_of
returns-clause-appends c =
    let e = c.insert_full.ensures in
    put_appends _ _ c.args.row (put_result c.insert_full.result _ _ c.args.row e.keys e.err)

pub returns-clause-kept : goal.returns-clause-kept
unfolding parts_of
returns-clause-kept c =
    let e = c.insert_full.ensures in
    put_extends _ _ c.args.row (put_result c.insert_full.result _ _ c.args.row e.keys e.err)

pub returns-in_err-place-clause-once : goal.returns-in_err-place-clause-once
unfolding parts_of
returns-in_err-place-clause-once c =
    let e = c.insert_full.ensures in
    let p = put_result c.insert_full.result _ _ c.args.row e.keys e.err in
    once _ (put_backward _ _ c.args.row p c.args.self.now.backward c.requires.behind)
    (put_fitting _ _ c.args.row p c.args.self.now.backward c.args.self.now.fitting c.requires.behind c.requires.fitting)
    (put_once _ _ c.args.row p c.args.self.now.once)

pub returns-clause-once : goal.returns-clause-once
unfolding parts_of
returns-clause-once c =
    let e = c.insert_full.ensures in
    let p = put_result c.insert_full.result _ _ c.args.row e.keys e.err in
    once _ (put_backward _ _ c.args.row p c.args.self.now.backward c.requires.behind)
    (put_fitting _ _ c.args.row p c.args.self.now.backward c.args.self.now.fitting c.requires.behind c.requires.fitting)
    (put_once _ _ c.args.row p c.args.self.now.once)
