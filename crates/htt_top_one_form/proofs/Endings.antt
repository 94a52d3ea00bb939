-- Proofs compared with that of the form, one variant of a tree at a time.
use Rattle.std.proofs.Common.{◌≡◌, ℕ, List, [], ◌∷◌, length, refl, ap, ◌<◌, arith}
use Rattle.std.specs.Prelude.{None, Some, false, ◌&&◌, ◌==◌, codes}
use Rattle.htt_parser_trees.specs.declared.place.Span.{Span}
use Rattle.htt_parser_trees.specs.declared.proof.UnaryRule.{UnaryRule}
use Rattle.htt_parser_trees.specs.declared.proof.RawProof.{RawProof}
use Rattle.htt_parser_trees.specs.declared.proof.RawStmt.{RawStmt}
use Rattle.htt_parser_trees.specs.declared.proof.RawStmt as stmt
use Rattle.htt_parser_trees.specs.declared.proof.RawStmt.TheVariants as vstmt
use Rattle.htt_parser_trees.specs.declared.proof.RawEnd.{RawEnd}
use Rattle.htt_parser_trees.specs.declared.proof.RawEnd as end
use Rattle.htt_parser_trees.specs.declared.proof.RawEnd.TheVariants as vend
use Rattle.htt_parser_trees.specs.declared.proof.RawEnd.TheBlock as block
use Rattle.htt_parser_trees.specs.declared.proof.RawEnd.TheBlock.{end_of-RawProof, more_of-RawProof}
use Rattle.htt_parser_trees.specs.Trees.{RawEndTree, p_end}
use Rattle.htt_parser_trees.specs.ProofViews.{raw_end_tree, raw_stmt_tree}
use Rattle.htt_parser_trees.specs.ProofLevels.{raw_end_name, raw_end_unary, raw_stmt_intro, raw_proof_tree, raw_stmts_tree}
use Rattle.htt_top_one_form.proofs.Lists.{some_left, by_statements}
use Rattle.htt_top_one_form.specs.Matching.{where_true, span_reads, is_name_end, is_hypothesis, is_second, end_place, introduces, proof_place}

-- ---- the hypothesis alone

pub name_matched : (text : List ℕ) (x : Span) → is_name_end text (raw_end_tree (vend.Name x)) ≡ span_reads text x (codes "u")
unfolding is_name_end
name_matched text x = ap (is_name_end text) (raw_end_name x)

pub no_name : (text : List ℕ) (e : RawEnd) → ((x : Span) → e ≡ vend.Name x → ⊥) → false ≡ is_name_end text (raw_end_tree e)
unfolding raw_stmt_tree is_name_end
no_name text (end.Name x1) n = absurd (n x1 refl)
no_name text (end.Trivial x1) n = refl
no_name text (end.Refl x1) n = refl
no_name text (end.Unary' x1 x2 _ (more_of-RawProof _ x3 x4 end_of-RawProof)) n = refl
no_name text (end.Both' x1 _ (more_of-RawProof _ x2 x3 end_of-RawProof) _ (more_of-RawProof _ x4 x5 end_of-RawProof)) n = refl
no_name text (end.Give' x1 x2 _ (more_of-RawProof _ x3 x4 end_of-RawProof)) n = refl
no_name text (end.App' x1 _ (more_of-RawProof _ x2 x3 end_of-RawProof) _ (more_of-RawProof _ x4 x5 end_of-RawProof) _ x6) n = refl
no_name text (end.Inst' x1 _ (more_of-RawProof _ x2 x3 end_of-RawProof) x4 x5) n = refl
no_name text (end.Case' x1 _ (more_of-RawProof _ x2 x3 end_of-RawProof) x4 _ (more_of-RawProof _ x5 x6 end_of-RawProof) x7 _
    (more_of-RawProof _ x8 x9 end_of-RawProof)) n = refl
no_name text (end.Rewrite' x1 _ (more_of-RawProof _ x2 x3 end_of-RawProof) x4 _ (more_of-RawProof _ x5 x6 end_of-RawProof)) n = refl
no_name text (end.Induct' x1 x2 x3 _ (more_of-RawProof _ x4 x5 end_of-RawProof) x6 x7 x8 _ (more_of-RawProof _ x9 x10 end_of-RawProof)) n = refl
no_name text (end.Split' x1 x2 x3 _ (more_of-RawProof _ x4 x5 end_of-RawProof) _ (more_of-RawProof _ x6 x7 end_of-RawProof)) n = refl
no_name text (end.Axiom x1 x2 x3 x4) n = refl
no_name text (end.Unfold x1 x2 x3 x4 x5) n = refl
no_name text (end.Lem x1 x2) n = refl
no_name text (end.The' x1 x2 _ (more_of-RawProof _ x3 x4 end_of-RawProof)) n = refl

pub ruleset name_ends = (name_matched, no_name)

without_statements : (text : List ℕ) (xs : List RawStmt) (e : RawEndTree)
    → is_hypothesis text (raw_stmts_tree xs (p_end e)) ≡ (length xs == 0 && is_name_end text e)
unfolding is_hypothesis
without_statements text [] e = refl
without_statements text (x ∷ xs) e = ap (λ b. b && is_name_end text e) (some_left x xs)

pub hypothesis_matched : (text : List ℕ) (p : RawProof)
    → is_hypothesis text (raw_proof_tree p) ≡ (length p.statements == 0 && is_name_end text (raw_end_tree p.end))
unfolding raw_proof_tree
hypothesis_matched text p = without_statements text p.statements (raw_end_tree p.end)

-- ---- the rule

pub unary_matched : (text : List ℕ) (at : ℕ) (rule : UnaryRule) (p : RawProof)
    → end_place text (raw_end_tree (vend.Unary at rule p)) ≡ where_true (is_second rule && is_hypothesis text (raw_proof_tree p)) (Some at)
unfolding end_place
unary_matched text at rule p = ap (end_place text) (raw_end_unary at rule p)

pub no_unary : (text : List ℕ) (e : RawEnd)
    → ((at : ℕ) (rule : UnaryRule) (p : RawProof) → e ≡ vend.Unary at rule p → ⊥)
    → None ≡ end_place text (raw_end_tree e)
unfolding raw_stmt_tree end_place block.hidden-the_row-RawProof-1 block.hidden-the_row-RawStmt-0 block.shape-the_row-RawStmt-0 denote.Hole.Carrier.hidden
no_unary text (end.Name x1) n = refl
no_unary text (end.Trivial x1) n = refl
no_unary text (end.Refl x1) n = refl
no_unary text (end.Unary' x1 x2 _ (more_of-RawProof a x3 x4 end_of-RawProof)) n =
    by_statements (λ s r.
    ((at : ℕ) (rule : UnaryRule) (p : RawProof) → end.Unary' x1 x2 tt (more_of-RawProof s r x4 end_of-RawProof) ≡ vend.Unary at rule p → ⊥)
    → None ≡ end_place text (raw_end_tree (end.Unary' x1 x2 tt (more_of-RawProof s r x4 end_of-RawProof))))
    (λ xs m. absurd (m x1 x2 (record { statements = xs; end = x4 }) refl)) a x3 n
no_unary text (end.Both' x1 _ (more_of-RawProof _ x2 x3 end_of-RawProof) _ (more_of-RawProof _ x4 x5 end_of-RawProof)) n = refl
no_unary text (end.Give' x1 x2 _ (more_of-RawProof _ x3 x4 end_of-RawProof)) n = refl
no_unary text (end.App' x1 _ (more_of-RawProof _ x2 x3 end_of-RawProof) _ (more_of-RawProof _ x4 x5 end_of-RawProof) _ x6) n = refl
no_unary text (end.Inst' x1 _ (more_of-RawProof _ x2 x3 end_of-RawProof) x4 x5) n = refl
no_unary text (end.Case' x1 _ (more_of-RawProof _ x2 x3 end_of-RawProof) x4 _ (more_of-RawProof _ x5 x6 end_of-RawProof) x7 _
    (more_of-RawProof _ x8 x9 end_of-RawProof)) n = refl
no_unary text (end.Rewrite' x1 _ (more_of-RawProof _ x2 x3 end_of-RawProof) x4 _ (more_of-RawProof _ x5 x6 end_of-RawProof)) n = refl
no_unary text (end.Induct' x1 x2 x3 _ (more_of-RawProof _ x4 x5 end_of-RawProof) x6 x7 x8 _ (more_of-RawProof _ x9 x10 end_of-RawProof)) n = refl
no_unary text (end.Split' x1 x2 x3 _ (more_of-RawProof _ x4 x5 end_of-RawProof) _ (more_of-RawProof _ x6 x7 end_of-RawProof)) n = refl
no_unary text (end.Axiom x1 x2 x3 x4) n = refl
no_unary text (end.Unfold x1 x2 x3 x4 x5) n = refl
no_unary text (end.Lem x1 x2) n = refl
no_unary text (end.The' x1 x2 _ (more_of-RawProof _ x3 x4 end_of-RawProof)) n = refl

pub ruleset unary_ends = (unary_matched, no_unary)

-- ---- the statement

pub intro_matched : (text : List ℕ) (at : ℕ) (x : Span) → introduces text (raw_stmt_tree (vstmt.Intro at x)) ≡ span_reads text x (codes "u")
unfolding introduces
intro_matched text at x = ap (introduces text) (raw_stmt_intro at x)

pub no_intro : (text : List ℕ) (s : RawStmt) → ((at : ℕ) (x : Span) → s ≡ vstmt.Intro at x → ⊥) → false ≡ introduces text (raw_stmt_tree s)
unfolding raw_stmt_tree introduces
no_intro text (stmt.Intro x1 x2) n = absurd (n x1 x2 refl)
no_intro text (stmt.Gen x1 x2) n = refl
no_intro text (stmt.Open' x1 x2 x3 _ x4 x5) n = refl
no_intro text (stmt.Have' x1 x2 x3 _ x4 x5) n = refl

pub ruleset statements = (intro_matched, no_intro)

pub none_there : (text : List ℕ) (xs : List RawStmt) (e : RawEndTree) → length xs < 1 → proof_place text (raw_stmts_tree xs (p_end e)) ≡ None
unfolding proof_place
none_there text [] e few = refl
none_there text (x ∷ xs) e few = absurd (omega arith)

pub some_there : (text : List ℕ) (s : RawStmt) (xs : List RawStmt) (e : RawEndTree)
    → proof_place text (raw_stmts_tree (s ∷ xs) (p_end e))
    ≡ where_true (length xs == 0 && introduces text (raw_stmt_tree s)) (end_place text e)
unfolding proof_place
some_there text s [] e = refl
some_there text s (x ∷ xs) e = ap (λ b. where_true (b && introduces text (raw_stmt_tree s)) (end_place text e)) (some_left x xs)

pub ruleset lists = (none_there, some_there)
