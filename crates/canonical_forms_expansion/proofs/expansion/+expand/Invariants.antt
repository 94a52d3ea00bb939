use Rattle.std.proofs.Common.{◌+◌, ◌*◌}
use Rattle.htt_syntax.specs.Views.{ty_tree}
use Rattle.theory_canonical_expansion.specs.Forms.{rungs}
use Rattle.canonical_forms_expansion.proofs.expansion.+expand.Given as goal

abbrev pub decreases-expand_at : goal.decreases-expand_at
decreases-expand_at l = 2 * rungs (ty_tree l.ty.now)

-- the argument's type is shifted, which keeps its forms
abbrev pub decreases-applied : goal.decreases-applied
decreases-applied l = 2 * rungs (ty_tree l.argument.now) + 1
