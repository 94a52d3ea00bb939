use Rattle.std.proofs.Common.{◌≡◌, sym, subst, rules, arith, [], ◌∷◌, ◌++◌, ◌-◌, ◌+◌, ◌<◌}
use Rattle.std.specs.Prelude.{Ok, Option}
use Rattle.htt_parser_trees.specs.Trees.{no_proofs}
use Rattle.theory_grammar.specs.Reading.{deeper, proofs_on}
use Rattle.htt_parser_words.specs.Results.{HasRoom}
use Rattle.htt_parser_words.proofs.Steps.{stopped}
use Rattle.htt_parser_words.proofs.Loops.{chain_more, chain_ends, chain_stops}
use Rattle.htt_parser_proofs.specs.Parts.{put_proof}
use Rattle.htt_parser_proofs.proofs.Lists.{onto_none}
use Rattle.htt_parser_proofs.proofs.level.ProofLevel.further_proofs.Goals as goal

pub returns-in_err-proof : goal.returns-in_err-proof
returns-in_err-proof g c =
    stopped _ _ _ _ _ c.from_residual.ensures.1 (chain_stops _ _ put_proof c.loop-proofs.proofs.items _ _ c.loop-proofs.invariant c.in_err-proof.ensures.gives)

pub loop-proofs-init : goal.loop-proofs-init
loop-proofs-init g c = sym (onto_none put_proof _ _ c.new-proofs.ensures.items)

pub loop-proofs-smaller : goal.loop-proofs-smaller
loop-proofs-smaller g c =
    let some : 0 < c.loop-proofs.room = subst (λ (q : Option _). HasRoom (Ok q) c.loop-proofs.room) c.in-Some.is c.in_ok-proof.ensures.room in
    omega arith

pub loop-proofs-preserved : goal.loop-proofs-preserved
loop-proofs-preserved g c =
    let pushed : c.push.new.self.items ≡ c.loop-proofs.proofs.items ++ c.in-Some.proof ∷ [] = search rules in
    chain_more _ put_proof no_proofs (proofs_on (deeper 63 c.args.self.now.left)) _ _ _ _ _ _ _ _ c.loop-proofs.invariant
    c.in_ok-proof.ensures.gives c.in-Some.is pushed

pub returns : goal.returns
returns g c =
    chain_ends _ put_proof no_proofs (proofs_on (deeper 63 c.args.self.now.left)) _ c.loop-proofs.proofs.items _ _ c.loop-proofs.at
    c.loop-proofs.invariant c.in_ok-proof.ensures.gives (search rules)
