use Rattle.std.proofs.Common.{ap, sym, ◌∙◌}
use Rattle.htt_parser_trees.specs.Trees.{m_brackets, with_right}
use Rattle.htt_parser_trees.specs.MonoViews.{raw_right_tree}
use Rattle.htt_parser_trees.specs.MonoLevels.{raw_right_nothing, raw_right_times, raw_bracket_alone, raw_bracket_times}
use Rattle.htt_parser_words.proofs.mono.bracket.Goals as goal

pub returns-in-Nothing : goal.returns-in-Nothing
returns-in-Nothing c = λ m.
    raw_bracket_alone c.args.at m ∙ ap (with_right (m_brackets c.args.at m)) (sym (ap raw_right_tree c.in-Nothing.is ∙ raw_right_nothing))

pub returns-in-Times : goal.returns-in-Times
returns-in-Times c = λ m.
    raw_bracket_times c.args.at c.in-Times.mono m
    ∙ ap (with_right (m_brackets c.args.at m)) (sym (ap raw_right_tree c.in-Times.is ∙ raw_right_times c.in-Times.mono))
