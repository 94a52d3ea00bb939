use Rattle.std.proofs.Common.{◌∙◌, rules}
use Rattle.shared_terms_folding.proofs.Seen.{word_seen, bool_seen, loc_seen, pair_seen, pair_terms, row_seen}
use Rattle.shared_terms_folding.proofs.reading.shape_at.Goals as goal

pub returns-in-Term-Word-clause-seen : goal.returns-in-Term-Word-clause-seen
returns-in-Term-Word-clause-seen c =
    word_seen c.in-Term-Word.word c.row-row.ensures.row (search (rules, c.in-Term-Word.is, c.in-Term-Word.field-0-is))

pub returns-in-Term-Bool-clause-seen : goal.returns-in-Term-Bool-clause-seen
returns-in-Term-Bool-clause-seen c =
    bool_seen c.in-Term-Bool.truth c.row-row.ensures.row (search (rules, c.in-Term-Bool.is, c.in-Term-Bool.field-0-is))

pub returns-in-Term-Loc-clause-seen : goal.returns-in-Term-Loc-clause-seen
returns-in-Term-Loc-clause-seen c =
    loc_seen c.in-Term-Loc.place c.row-row.ensures.row (search (rules, c.in-Term-Loc.is, c.in-Term-Loc.field-0-is))

pub returns-in-Term-Pair-clause-seen : goal.returns-in-Term-Pair-clause-seen
returns-in-Term-Pair-clause-seen c = pair_seen c.row-row.ensures.row (search (rules, c.in-Term-Pair.is, c.in-Term-Pair.field-0-is))

pub returns-in-Term-Pair-clause-terms : goal.returns-in-Term-Pair-clause-terms
returns-in-Term-Pair-clause-terms c =
    pair_terms c.requires.within c.row-row.ensures.row (search (rules, c.in-Term-Pair.is, c.in-Term-Pair.field-0-is))

pub returns-in_default : goal.returns-in_default
returns-in_default c = record { seen = row_seen c.row-row.ensures.row ∙ search (rules, c.in_default.is); terms = tt }

pub returns-in_default-2 : goal.returns-in_default-2
returns-in_default-2 c = record { seen = row_seen c.row-row.ensures.row ∙ search (rules, c.in_default); terms = tt }
