use Rattle.std.proofs.Common.{◌≡◌, refl, ◌∙◌, ap, sym, rules, arith, reverse, drop, [], ◌∷◌, ◌++◌, true, false, ◌-◌, suc}
use Rattle.std.proofs.lemmas.Result.{err_from_is_err_and}
use Rattle.std.specs.Prelude.{Ok}
use Rattle.htt_lexer_tokens.specs.declared.tokens.Kind.TheVariants.{Sign}
use Rattle.htt_lexer_tokens.specs.declared.tokens.Sign.TheVariants.{CloseParenSign, StarSign}
use Rattle.htt_parser_trees.specs.declared.mono.RawRight.TheVariants as vright
use Rattle.htt_parser_trees.specs.Trees.{m_name, with_right}
use Rattle.htt_parser_trees.specs.MonoViews.{raw_right_tree}
use Rattle.htt_parser_trees.specs.MonoLevels.{raw_mono_tree, raw_brackets_tree, raw_right_times, raw_right_nothing}
use Rattle.theory_grammar.specs.Readers.{token, same_kind, either, stop, too_nested}
use Rattle.theory_grammar.specs.Beginnings.{begins_mono}
use Rattle.htt_parser_words.specs.declared.cursor.Reason.TheVariants.{TooNested}
use Rattle.htt_parser_words.proofs.Steps.{refuse_stops}
use Rattle.theory_grammar.specs.Phrases.{mono_right, mono_closes, mono_name_case, mono_inside}
use Rattle.theory_grammar.specs.Reading.{deeper}
use Rattle.htt_parser_words.proofs.Monotypes.{bind_ok, bind_err, err_along, gives_along, deeper_none, deeper_some, at_inside, inside_is, right_star}
use Rattle.htt_parser_words.proofs.Monotypes.{right_other, right_end, given, closes_open, closes_none, brackets_last}
use Rattle.htt_parser_words.proofs.cursor.Cursor.+mono.Goals as goal
use Rattle.htt_parser_words.proofs.cursor.Cursor.+mono.Goals.{mono_right-in_default-via-in-Some+else-eq, mono_right-in_default-via-in_default}

pub closes-returns-in_err-next : goal.closes-returns-in_err-next
closes-returns-in_err-next n c = λ m.
    let d = deeper 63 c.args.left in
    let popped : c.loop-open.opens.items ≡ c.pop.new.self.items ++ c.in-Some.open ∷ [] = search rules in
    let us = drop c.loop-open.at c.args.self.now.tokens.now in
    let step =
    c.loop-open.invariant m
    ∙ ap (λ os. mono_closes d (reverse os) (raw_brackets_tree c.loop-open.brackets.items m) us) popped
    ∙ closes_open d c.pop.new.self.items c.in-Some.open (raw_brackets_tree c.loop-open.brackets.items m) us in
    let p = err_from_is_err_and c.from_residual.result c.from_residual.ensures.1 in
    rw (p.1, p.2) (err_along _ _ _ _ step (bind_err _ (token (Sign CloseParenSign)) _ us _ c.in_err-next.ensures))

pub closes-returns-in_err-right : goal.closes-returns-in_err-right
closes-returns-in_err-right n c = λ m.
    let d = deeper 63 c.args.left in
    let popped : c.loop-open.opens.items ≡ c.pop.new.self.items ++ c.in-Some.open ∷ [] = search rules in
    let us = drop c.loop-open.at c.args.self.now.tokens.now in
    let step =
    c.loop-open.invariant m
    ∙ ap (λ os. mono_closes d (reverse os) (raw_brackets_tree c.loop-open.brackets.items m) us) popped
    ∙ closes_open d c.pop.new.self.items c.in-Some.open (raw_brackets_tree c.loop-open.brackets.items m) us
    ∙ bind_ok (token (Sign CloseParenSign)) _ us _ tt c.in_ok-next.ensures in
    let p = err_from_is_err_and c.from_residual-in_err-right.result c.from_residual-in_err-right.ensures.1 in
    rw (p.1, p.2) (err_along _ _ _ _ step (bind_err _ (mono_right d) _ _ _ c.in_err-right.ensures))

pub closes-loop-open-preserved : goal.closes-loop-open-preserved
closes-loop-open-preserved n c = λ m.
    let d = deeper 63 c.args.left in
    let popped : c.loop-open.opens.items ≡ c.pop.new.self.items ++ c.in-Some.open ∷ [] = search rules in
    let pushed : c.push.new.self.items ≡ c.loop-open.brackets.items ++ c.bracket.result ∷ [] = search rules in
    let us = drop c.loop-open.at c.args.self.now.tokens.now in
    let m' = raw_brackets_tree c.loop-open.brackets.items m in
    let tree = sym (ap (λ bs. raw_brackets_tree bs m) pushed ∙ brackets_last c.loop-open.brackets.items c.bracket.result m ∙ c.bracket.ensures m') in
    c.loop-open.invariant m ∙ ap (λ os. mono_closes d (reverse os) m' us) popped ∙ closes_open d c.pop.new.self.items c.in-Some.open m' us
    ∙ bind_ok (token (Sign CloseParenSign)) _ us _ tt c.in_ok-next.ensures ∙ bind_ok (mono_right d) _ _ _ _ c.in_ok-right.ensures
    ∙ ap (λ t. mono_closes d (reverse c.pop.new.self.items) t (drop c.in_ok-right.next c.args.self.now.tokens.now)) tree

pub closes-returns : goal.closes-returns
closes-returns n c = λ m.
    let d = deeper 63 c.args.left in
    let empty : c.loop-open.opens.items ≡ [] = search rules in
    let us = drop c.loop-open.at c.args.self.now.tokens.now in
    let m' = raw_brackets_tree c.loop-open.brackets.items m in
    c.loop-open.invariant m ∙ ap (λ os. mono_closes d (reverse os) m' us) empty ∙ closes_none d m' us

pub deeper_mono-returns-then-left-eq0 : goal.deeper_mono-returns-then-left-eq0
deeper_mono-returns-then-left-eq0 n c =
    let us = drop c.args.at c.args.self.now.tokens.now in
    err_along _ _ _ _ (ap (λ n. (deeper 63 n).mono us) c.if-left-eq0.true ∙ ap (λ r. r us) deeper_none)
    (refuse_stops _ c.args.self.now.tokens.now too_nested begins_mono TooNested c.args.at _ refl c.refuse.ensures)

pub deeper_mono-returns-else-left-eq0 : goal.deeper_mono-returns-else-left-eq0
deeper_mono-returns-else-left-eq0 n c =
    let us = drop c.args.at c.args.self.now.tokens.now in
    let some : c.args.left ≡ suc (c.args.left - 1) = omega (arith, c.if-left-eq0.false) in
    gives_along _ _ _ _ _ (ap (λ n. (deeper 63 n).mono us) some ∙ ap (λ r. r us) (deeper_some (c.args.left - 1))) c.mono.ensures

pub mono-returns-in_err-name : goal.mono-returns-in_err-name
mono-returns-in_err-name n c =
    let d = deeper 63 c.args.left in
    let inside = at_inside d (drop c.args.at c.args.self.now.tokens.now) ∙ ap (λ p. mono_inside d p.0 p.1) (sym c.in_ok-opens.ensures) ∙ inside_is d _ _ in
    let p = err_from_is_err_and c.from_residual-in_err-name.result c.from_residual-in_err-name.ensures.1 in
    rw (p.1, p.2) (err_along _ _ _ _ inside (bind_err _ (either mono_name_case stop) _ _ _ c.in_err-name.ensures))

pub mono-returns-in_err-right : goal.mono-returns-in_err-right
mono-returns-in_err-right n c =
    let d = deeper 63 c.args.left in
    let inside =
    at_inside d (drop c.args.at c.args.self.now.tokens.now)
    ∙ ap (λ p. mono_inside d p.0 p.1) (sym c.in_ok-opens.ensures)
    ∙ inside_is d _ _
    ∙ bind_ok (either mono_name_case stop) _ _ _ _ c.in_ok-name.ensures in
    let p = err_from_is_err_and c.from_residual-in_err-right.result c.from_residual-in_err-right.ensures.1 in
    rw (p.1, p.2) (err_along _ _ _ _ inside (bind_err _ (mono_right d) _ _ _ c.in_err-right.ensures))

pub mono-returns-in_err-brackets : goal.mono-returns-in_err-brackets
mono-returns-in_err-brackets n c =
    let d = deeper 63 c.args.left in
    let inside =
    at_inside d (drop c.args.at c.args.self.now.tokens.now)
    ∙ ap (λ p. mono_inside d p.0 p.1) (sym c.in_ok-opens.ensures)
    ∙ inside_is d _ _
    ∙ bind_ok (either mono_name_case stop) _ _ _ _ c.in_ok-name.ensures
    ∙ bind_ok (mono_right d) _ _ _ _ c.in_ok-right.ensures in
    let p = err_from_is_err_and c.from_residual-in_err-brackets.result c.from_residual-in_err-brackets.ensures.1 in
    rw (p.1, p.2)
    (err_along _ _ _ _ inside (c.in_err-brackets.ensures (with_right (m_name c.in_ok-name.name) (raw_right_tree c.in_ok-right.right))))

pub mono-returns : goal.mono-returns
unfolding raw_mono_tree
mono-returns n c =
    let d = deeper 63 c.args.left in
    let tree = with_right (m_name c.in_ok-name.name) (raw_right_tree c.in_ok-right.right) in
    let inside =
    at_inside d (drop c.args.at c.args.self.now.tokens.now)
    ∙ ap (λ p. mono_inside d p.0 p.1) (sym c.in_ok-opens.ensures)
    ∙ inside_is d _ _
    ∙ bind_ok (either mono_name_case stop) _ _ _ _ c.in_ok-name.ensures
    ∙ bind_ok (mono_right d) _ _ _ _ c.in_ok-right.ensures in
    inside
    ∙ c.in_ok-brackets.ensures tree
    ∙ ap (λ bs. Ok (raw_brackets_tree bs tree, drop c.in_ok-brackets.at c.args.self.now.tokens.now)) (sym c.of.ensures.same_items)

pub mono_right-returns-in_err-mono-in-Some : goal.mono_right-returns-in_err-mono-in-Some
mono_right-returns-in_err-mono-in-Some n c =
    let d = deeper 63 c.args.left in
    let same : same_kind c.in-Some.token.kind (Sign StarSign) ≡ true = search rules in
    let p = err_from_is_err_and c.from_residual.result c.from_residual.ensures.1 in
    rw (p.1, p.2)
    (err_along _ _ _ _ (right_star d _ c.in-Some.token _ c.in-Some.ensures.is same) (bind_err _ d.mono _ _ _ c.in_err-mono-in-Some.ensures))

pub mono_right-returns-in_ok-new-in-Some : goal.mono_right-returns-in_ok-new-in-Some
mono_right-returns-in_ok-new-in-Some n c =
    let d = deeper 63 c.args.left in
    let same : same_kind c.in-Some.token.kind (Sign StarSign) ≡ true = search rules in
    let boxed : c.in_ok-new-in-Some.field-0 ≡ c.in_ok-mono-in-Some.mono = search rules in
    right_star d _ c.in-Some.token _ c.in-Some.ensures.is same ∙ bind_ok d.mono _ _ _ _ c.in_ok-mono-in-Some.ensures ∙ given _ _
    ∙ ap (λ r. Ok (r, drop c.in_ok-mono-in-Some.at c.args.self.now.tokens.now))
    (sym (ap (λ x. raw_right_tree (vright.Times x)) boxed ∙ raw_right_times c.in_ok-mono-in-Some.mono))

pub mono_right-returns-in_default : goal.mono_right-returns-in_default
mono_right-returns-in_default n c =
    let d = deeper 63 c.args.left in
    let us = drop c.args.at c.args.self.now.tokens.now in
    elim c.in_default.branch [
      | mono_right-in_default-via-in-Some+else-eq w ↦
          let other : same_kind w.in-Some.token.kind (Sign StarSign) ≡ false = search rules in
          right_other d us w.in-Some.token _ w.in-Some.ensures.is other ∙ ap (λ r. Ok (r, us)) (sym raw_right_nothing)
      | mono_right-in_default-via-in_default w ↦ right_end d us w.in_default.ensures.is ∙ ap (λ r. Ok (r, us)) (sym raw_right_nothing)
    ]
