-- Statements in a row, of which some add a variable for those after them.
use Rattle.std.specs.Prelude.{ℕ, ◌+◌, List, [], ◌∷◌}
use Rattle.htt_syntax.specs.Trees.{StmtTree, binders_of}
use Rattle.htt_syntax_walk.specs.Walk.{Puts}
use Rattle.htt_syntax_walk.specs.WalkProof.{walk_stmt}

-- What the walk makes of each, where the first stands under so many binders.
unfoldable pub walked_stmts : Puts → ℕ → List StmtTree → List StmtTree
walked_stmts p d [] = []
walked_stmts p d (first ∷ others) = walk_stmt p d first ∷ walked_stmts p (d + binders_of first) others

-- The binders around what follows the statements.
unfoldable pub depth_after : ℕ → List StmtTree → ℕ
depth_after d [] = d
depth_after d (first ∷ others) = depth_after (d + binders_of first) others
