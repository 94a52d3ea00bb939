-- Where a reader stops at a limit and another reads on, the other's tree is past the limit there.
use Rattle.std.proofs.Common.{◌≡◌, ℕ, ◌≤◌, List, [], ◌∷◌, ◌++◌, refl, ◌∙◌, ap, subst, arith}
use Rattle.std.specs.Prelude.{Err}
use Rattle.htt_lexer_tokens.specs.declared.tokens.Token.{Token}
use Rattle.theory_grammar.specs.Marks.{Mark, Limits, AllFit, AllWithin}
use Rattle.theory_grammar.specs.Readers.{Reader}
use Rattle.theory_grammar.specs.Reading.{deeper}
use Rattle.theory_grammar.proofs.Spells.{Spells}
use Rattle.theory_reading_limits.specs.Laws.{limits_of, StopsPast, MonoStopsPast, FormulaStopsPast, ProofStopsPast, FileStopsPast}
use Rattle.theory_reading_limits.proofs.Bars.{Barrier, Held, Bars}
use Rattle.theory_reading_limits.proofs.Words.{Bar}
use Rattle.theory_reading_limits.proofs.Files.{bar, file_bars}

-- ---- what was read, as tokens

pub record Parts (lim : Limits) (ms : List Mark) (ts rest : List Token) : Type 0 where
  pub before : List Token
  pub parts : ts ≡ before ++ rest
  pub fit : AllFit before ms
  pub within : AllWithin lim ms

pub parts_of : (lim : Limits) (ms : List Mark) (ts rest : List Token) → Spells lim ms ts rest → Parts lim ms ts rest
parts_of lim [] ts rest s = record { before = []; parts = s; fit = tt; within = tt }
parts_of lim (m ∷ ms) ts rest s =
    let others = parts_of lim ms s.1 rest s.5 in
    record { before = s.0 ∷ others.before; parts = s.2 ∙ ap (λ us. s.0 ∷ us) others.parts; fit = (s.3, others.fit); within = (s.4, others.within) }

pub stops_past : {A : Type 0} {lim : Limits} {r q : Reader A} {marks : A → List Mark} → Bars lim (λ ns. ns) r q marks → StopsPast lim marks r q
stops_past {lim = lim} {r = r} {q = q} {marks = marks} bars tokens halt tree rest stops limit reads =
    let held : Held lim marks tokens (r tokens) (q tokens) = bars.held tokens tokens (λ ns end s. s) (λ a b. refl) in
    let there : Held lim marks tokens (Err halt) (q tokens) = subst (λ o. Held lim marks tokens o (q tokens)) stops held in
    let barrier : Barrier lim marks tokens halt tree = subst (λ o. Held lim marks tokens (Err halt) o) reads there limit in
    let p = parts_of lim barrier.first tokens halt.rest barrier.spelled in
    record {
      before = p.before;
      first = barrier.first;
      mark = barrier.mark;
      others = barrier.others;
      parts = p.parts;
      fit = p.fit;
      whole = barrier.whole;
      past = barrier.over;
    }

outer : (further more n m : ℕ) → further ≤ more → n ≤ m → Bar (limits_of further n) (deeper further n) (deeper more m) 1
outer further more n m wide deep = bar (limits_of further n) further more n m 1 refl (omega arith) wide deep

pub mono_stops_past : MonoStopsPast
mono_stops_past further more n m wide deep = stops_past (outer further more n m wide deep).mono.bars

pub formula_stops_past : FormulaStopsPast
formula_stops_past further more n m wide deep = stops_past (outer further more n m wide deep).formula.bars

pub proof_stops_past : ProofStopsPast
proof_stops_past further more n m wide deep = stops_past (outer further more n m wide deep).proof.bars

pub file_stops_past : FileStopsPast
file_stops_past count many few further more n m wide deep =
    stops_past (file_bars (deeper further n) (deeper more m) (record { level = omega arith; chain = omega arith })
    (outer further more n m wide deep) count many few)
