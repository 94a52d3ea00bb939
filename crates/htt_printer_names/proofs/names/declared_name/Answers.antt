use Rattle.std.proofs.Common.{refl, sym, ◌∙◌, length}
use Rattle.std.proofs.lemmas.Option.{slice_get_past, slice_get_read}
use Rattle.htt_printer_names.proofs.Inward.{declared_is, undeclared_is}
use Rattle.htt_printer_names.proofs.names.declared_name.Goals as goal

pub returns-in-Some : goal.returns-in-Some
returns-in-Some c =
    c.as_slice.ensures.same_items ∙
    sym
    (declared_is _ c.in-Some.name.now
    (slice_get_read c.args.names.now (length c.args.names.now) c.args.number c.in-Some.name.now refl
    c.in-Some.ensures.lookup.3.0 c.in-Some.ensures.lookup.1))

pub returns-in-None : goal.returns-in-None
returns-in-None c = sym (undeclared_is _ (slice_get_past c.args.names.now c.args.number c.in-None.ensures.lookup.3))
