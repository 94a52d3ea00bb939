use Rattle.std.proofs.Common.{◌≡◌, ◌-◌, ◌<◌, ◌∙◌, ◌++◌, [], ◌∷◌, ap, sym, subst, ℕ, drop, rules, arith}
use Rattle.std.specs.Prelude.{Ok, Option}
use Rattle.htt_parser_trees.specs.DeclViews.{raw_decl_tree}
use Rattle.theory_grammar.specs.Reading.{file_on, deeper}
use Rattle.htt_parser_words.specs.Results.{HasRoom}
use Rattle.htt_parser_words.proofs.Steps.{stopped}
use Rattle.htt_parser_words.proofs.Loops.{chain_more, chain_ends, chain_stops, onto_map}
use Rattle.htt_parser_declarations.specs.Parts.{put_decl}
use Rattle.htt_parser_proofs.proofs.Lists.{onto_none}
use Rattle.htt_parser_declarations.proofs.declarations.Declarations.declarations.Goals as goal

pub returns-in_err-declaration : goal.returns-in_err-declaration
returns-in_err-declaration c =
    stopped _ _ _ _ _ c.from_residual.ensures.1
    (chain_stops _ _ put_decl c.loop-declarations.declarations.items _ _ c.loop-declarations.invariant c.in_err-declaration.ensures.gives)

pub loop-declarations-init : goal.loop-declarations-init
loop-declarations-init c = sym (onto_none put_decl _ _ c.new-declarations.ensures.items)

pub loop-declarations-smaller : goal.loop-declarations-smaller
loop-declarations-smaller c =
    let some : 0 < c.loop-declarations.room = subst (λ (q : Option _). HasRoom (Ok q) c.loop-declarations.room) c.in-Some.is c.in_ok-declaration.ensures.room in
    omega arith

pub loop-declarations-preserved : goal.loop-declarations-preserved
loop-declarations-preserved c =
    let pushed : c.push.new.self.items ≡ c.loop-declarations.declarations.items ++ c.in-Some.declaration ∷ [] = search rules in
    chain_more _ put_decl [] (file_on (deeper 63 256)) _ _ _ _ _ _ _ _ c.loop-declarations.invariant c.in_ok-declaration.ensures.gives c.in-Some.is pushed

pub returns : goal.returns
returns c =
    let us = drop c.loop-declarations.at c.args.self.now.proofs.phrases.cursor.tokens.now in
    chain_ends _ put_decl [] (file_on (deeper 63 256)) _ c.loop-declarations.declarations.items _ _ c.loop-declarations.at
    c.loop-declarations.invariant c.in_ok-declaration.ensures.gives (search rules)
    ∙ ap (λ xs. Ok (xs, us)) (onto_map raw_decl_tree c.loop-declarations.declarations.items)
