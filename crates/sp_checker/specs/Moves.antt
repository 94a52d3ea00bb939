-- A move of the code as the definitions of states speak of it.
use Rattle.htt_syntax.specs.Views.{mono_tree, term_tree, formula_tree}
use Rattle.htt_syntax.specs.Levels.{triple_tree}
use Rattle.theory_states.specs.States.{move_alloc, move_get, move_set, move_free, move_run, move_claim}
use Rattle.theory_states.specs.States as states
use Rattle.sp_checker.specs.declared.moves.Move.{Move}
use Rattle.sp_checker.specs.declared.moves.Move.TheVariants as moves

abbrev pub move_tree : Move → states.Move
move_tree (moves.Alloc t n) = move_alloc (mono_tree t) (term_tree n)
move_tree (moves.Get t m) = move_get (mono_tree t) (term_tree m)
move_tree (moves.Set t m n) = move_set (mono_tree t) (term_tree m) (term_tree n)
move_tree (moves.Free t m) = move_free (mono_tree t) (term_tree m)
move_tree (moves.Run spec) = move_run (triple_tree spec)
move_tree (moves.Claim f) = move_claim (formula_tree f)
