-- Which answers of the calls that resolve are right.
use Rattle.std.specs.Prelude.{ℕ, List, length, Result}
use Rattle.htt_syntax.specs.declared.tree.Formula.{Formula}
use Rattle.htt_syntax.specs.declared.proof.Proof.{Proof}
use Rattle.htt_syntax.specs.declared.sequent.Sequent.{Sequent}
use Rattle.htt_syntax.specs.Views.{formula_tree}
use Rattle.htt_syntax.specs.ProofViews.{proof_tree}
use Rattle.htt_parser_trees.specs.Trees as raw
use Rattle.theory_text_items.specs.Resolving.{file_comes, sequent_formula_comes, sequent_proof_comes}
use Rattle.theory_views.specs.Contexts.{context_of}
use Rattle.htt_resolve_names.specs.declared.names.Names.{Names}
use Rattle.htt_resolve_names.specs.declared.stop.NameStop.{NameStop}
use Rattle.htt_resolve_names.specs.Views.{names_tree}
use Rattle.htt_resolve_names.specs.Answers.{Answers}
use Rattle.htt_resolve_items.specs.declared.item.Resolved.{Resolved}
use Rattle.htt_resolve_items.specs.Views.{resolved_tree}

-- `resolve` of the declarations of a text
abbrev pub Resolves : List ℕ → List raw.RawDeclTree → Result Resolved NameStop → Type 0
Resolves text decls answer = Answers resolved_tree answer (file_comes text decls)

-- `resolve_formula` and `resolve_proof` in a sequent, where the first `visible` items are visible
abbrev pub ResolvesFormula : List ℕ → raw.RawFormulaTree → Names → ℕ → Sequent → Result Formula NameStop → Type 0
ResolvesFormula text formula names visible s answer =
    Answers formula_tree answer
    (sequent_formula_comes text (names_tree names) visible (context_of s.context) (length s.hyps) formula)

abbrev pub ResolvesProof : List ℕ → raw.RawProofTree → Names → ℕ → Sequent → Result Proof NameStop → Type 0
ResolvesProof text proof names visible s answer =
    Answers proof_tree answer
    (sequent_proof_comes text (names_tree names) visible (context_of s.context) (length s.hyps) proof)
