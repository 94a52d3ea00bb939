use Rattle.std.proofs.Common.{arith}
use Rattle.shared_terms_renaming.specs.Known.{held}
use Rattle.shared_terms_renaming.proofs.Slots.{ok_map}
use Rattle.shared_terms_rows.specs.Rows.{node}
use Rattle.shared_terms_folding.proofs.Stood.{leaf_bound, leaf_fits, literal_slots, literal_stands, place_stands}
use Rattle.shared_terms_folding.proofs.fold.Goals as goal

pub push-requires-in-Literal-clause-behind : goal.push-requires-in-Literal-clause-behind
push-requires-in-Literal-clause-behind c =
    let e = leaf_bound c.in-Literal.form (literal_slots (c.in-Literal.ensures.told)) in
    omega (arith, e)

pub push-requires-in-Literal-clause-fitting : goal.push-requires-in-Literal-clause-fitting
push-requires-in-Literal-clause-fitting c = leaf_fits (held c.args.work.now) c.in-Literal.form (literal_slots (c.in-Literal.ensures.told))

pub returns-in-Place-clause-folded : goal.returns-in-Place-clause-folded
returns-in-Place-clause-folded c = place_stands (node (held c.args.work.now) c.args.row) (c.in-Place.ensures.told)

pub returns-in-Literal-clause-folded : goal.returns-in-Literal-clause-folded
returns-in-Literal-clause-folded c =
    ok_map _ _ _ (λ r m. literal_stands (node (held c.args.work.now) c.args.row) (c.in-Literal.ensures.told) m) c.push-in-Literal.ensures.made
