-- Proofs one level deeper, and the statements of a proof one by one.
use Rattle.std.proofs.Common.{◌≡◌, ℕ, zero, suc, ◌+◌, ◌-◌, ◌<◌, ◌≤◌, List, [], drop, length, refl, sym, ◌∙◌, ap, arith, length-drop}
use Rattle.std.specs.Prelude.{Bool, true, false, Result, Ok, Err}
use Rattle.htt_lexer_tokens.specs.declared.tokens.Token.{Token}
use Rattle.htt_parser_trees.specs.declared.proof.RawStmt.{RawStmt}
use Rattle.htt_parser_trees.specs.Trees.{onto, RawProofTree, RawStmtTree, p_step}
use Rattle.theory_grammar.specs.Readers.{Halt, expected, too_nested, ◌>>=◌, measured, refuse, stop, first_is}
use Rattle.theory_grammar.specs.Beginnings.{begins_proof, begins_stmt}
use Rattle.theory_grammar.specs.Phrases.{Deeper}
use Rattle.theory_grammar.specs.Reading.{deeper, proof_reader, proof_on, stmt_reader}
use Rattle.htt_parser_words.specs.declared.cursor.Halted.{Halted}
use Rattle.htt_parser_words.specs.Results.{StopsAs, mapped}
use Rattle.htt_parser_words.proofs.Monotypes.{bind_ok, bind_err, err_along}
use Rattle.htt_parser_proofs.specs.Parts.{put_stmt, ended_at}
use Rattle.htt_parser_levels.proofs.Choices.{if_first_yes, if_first_no}
use Rattle.htt_parser_proofs.proofs.Lists.{onto_none}

pub proof_none : (deeper 63 0).proof ≡ refuse too_nested begins_proof
unfolding deeper
proof_none = refl

pub proof_some : (n : ℕ) → (deeper 63 (suc n)).proof ≡ proof_reader (deeper 63 n)
unfolding deeper
proof_some n = refl

pub proof_begin : (d : Deeper) (ts : List Token) (at : ℕ) (items : List RawStmt)
    → items ≡ []
    → proof_reader d (drop at ts) ≡ mapped (onto put_stmt items) (proof_on d (length ts - at) (drop at ts))
unfolding proof_reader measured
proof_begin d ts at items none = ap (λ n. proof_on d n (drop at ts)) (length-drop at ts) ∙ sym (onto_none put_stmt items _ none)

pub step_read : (d : Deeper) (n : ℕ) (us rest : List Token) (s : RawStmtTree)
    → first_is begins_stmt us ≡ true
    → stmt_reader d us ≡ Ok (s, rest)
    → proof_on d (suc n) us ≡ mapped (λ p. p_step s p) (proof_on d n rest)
unfolding proof_on ◌>>=◌
step_read d n us rest s h e = if_first_yes begins_stmt _ _ us h ∙ bind_ok (stmt_reader d) _ us rest s e

pub step_halt : (d : Deeper) (n : ℕ) (ts us : List Token) (e : Halted)
    → first_is begins_stmt us ≡ true
    → StopsAs ts e (stmt_reader d us)
    → StopsAs ts e (proof_on d (suc n) us)
unfolding proof_on
step_halt d n ts us e h s = err_along ts e _ _ (if_first_yes begins_stmt _ _ us h) (bind_err ts (stmt_reader d) _ us e s)

-- no statement more
pub proof_ends : (d : Deeper) (ts : List Token) (at end counter : ℕ) (items : List RawStmt) (told : Result (RawProofTree × List Token) Halt)
    → counter < end
    → told ≡ mapped (onto put_stmt items) (proof_on d (end - counter) (drop at ts))
    → first_is begins_stmt (drop at ts) ≡ false
    → told ≡ mapped (onto put_stmt items) (ended_at d (drop at ts))
unfolding proof_on
proof_ends d ts at end counter items told below so_far h =
    let left : end - counter ≡ suc (end - suc counter) = omega (arith, below) in
    so_far
    ∙ ap (λ n. mapped (onto put_stmt items) (proof_on d n (drop at ts))) left
    ∙ ap (mapped (onto put_stmt items)) (if_first_no begins_stmt _ _ (drop at ts) h)

-- no token more
pub proof_over : (d : Deeper) (ts : List Token) (at end counter : ℕ) (items : List RawStmt) (told : Result (RawProofTree × List Token) Halt)
    → end ≤ counter
    → told ≡ mapped (onto put_stmt items) (proof_on d (end - counter) (drop at ts))
    → told ≡ Err (record { why = expected; rest = drop at ts })
unfolding proof_on stop
proof_over d ts at end counter items told over so_far =
    let none : end - counter ≡ 0 = omega (arith, over) in
    so_far ∙ ap (λ n. mapped (onto put_stmt items) (proof_on d n (drop at ts))) none
