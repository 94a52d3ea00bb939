-- The limits on the nodes and the depth of trees, whose sugar is expanded.
use Rattle.std.specs.Prelude.{ℕ, Bool, nat_le, if◌then◌else◌, List, [], ◌∷◌, ◌++◌, map, Result, Ok, Err}
use Rattle.std.specs.List.{list_all}
use Rattle.htt_syntax.specs.Trees.{MonoTree, TyTree, TermTree, FormulaTree, ProofTree}
use Rattle.theory_items.specs.Items.{i_abbreviation, i_pred, i_def, i_val, i_rec}
use Rattle.theory_counts.specs.Nodes.{nodes_mono, nodes_ty, nodes_term, nodes_formula, nodes_proof}
use Rattle.theory_counts.specs.Depth.{depth_mono, depth_ty, depth_term, depth_formula, depth_proof}
use Rattle.theory_text_names.specs.Stops.{Stop, too_large, too_deep, ◌>>=◌}
use Rattle.theory_text_items.specs.Items.{FileItem, an_item, a_proof}

pub record Size : Type 0 where
  pub nodes : ℕ
  pub depth : ℕ

abbrev pub mono_size : MonoTree → Size
mono_size t = record { nodes = nodes_mono t; depth = depth_mono t }

abbrev pub ty_size : TyTree → Size
ty_size A = record { nodes = nodes_ty A; depth = depth_ty A }

abbrev pub term_size : TermTree → Size
term_size M = record { nodes = nodes_term M; depth = depth_term M }

abbrev pub formula_size : FormulaTree → Size
formula_size F = record { nodes = nodes_formula F; depth = depth_formula F }

abbrev pub proof_size : ProofTree → Size
proof_size p = record { nodes = nodes_proof p; depth = depth_proof p }

-- the trees of a declaration, each by itself; those of a proof are tested when it is looked at
abbrev pub sizes_of : FileItem → List Size
sizes_of (an_item (i_abbreviation t)) = mono_size t ∷ []
sizes_of (an_item (i_pred monos params body)) = map mono_size params ++ formula_size body ∷ []
sizes_of (an_item (i_def ty term)) = ty_size ty ∷ term_size term ∷ []
sizes_of (an_item (i_val ty term)) = ty_size ty ∷ term_size term ∷ []
sizes_of (an_item (i_rec r)) = map mono_size r.params ++ formula_size r.at_zero ∷ formula_size r.at_next ∷ []
sizes_of (a_proof target number) = []

-- at most 1,000,000 nodes, and 1,000 on a path down
abbrev pub few_nodes : Size → Bool
few_nodes z = nat_le z.nodes 1_000_000

abbrev pub is_flat : Size → Bool
is_flat z = nat_le z.depth 1_000

-- of trees the nodes of all come before the depth of any
abbrev pub are_within : List Size → Result (Unit {0}) Stop
are_within sizes =
    if list_all few_nodes sizes then (if list_all is_flat sizes then Ok tt else Err too_deep) else Err too_large

-- of declarations the first one decides
unfoldable pub items_within : List FileItem → Result (Unit {0}) Stop
items_within [] = Ok tt
items_within (item ∷ items) = do
  fits ← are_within (sizes_of item)
  items_within items
