-- Moves bring parts side by side to a new place.
use Rattle.std.proofs.Common.{◌≡◌, ◌≤◌, ℕ, ◌+◌, List, ◌++◌, length, take, Some, slice_get, refl, ap, ◌∙◌, arith}
use Rattle.word_loader_code.specs.declared.code.Function.{Function}
use Rattle.word_loader_code.specs.declared.code.Instr.TheVariants.{Mov}
use Rattle.word_loader_code.specs.Machine.{words_at, with_words}
use Rattle.theory_emission.specs.Terms.{moves, width_of_parts}
use Rattle.theory_emitted_words.specs.Frames.{FrameSite, InstrsAt}
use Rattle.theory_emitted_words.proofs.Words.{written, agree_less, agreeing, side_by_side}
use Rattle.theory_emitted_words.proofs.Steps.{steps}
use Rattle.theory_emitted_terms.specs.Held.{PartsAt, parts_none, parts_more, Goes}
use Rattle.theory_emitted_terms.proofs.Held.{goes_none, goes_on, goes_to, goes_writing}

pub record Moved (a : FrameSite) (at : ℕ) (locals : List ℕ) (d : ℕ) (parts : List (ℕ × ℕ)) (words : List ℕ) : Type 0 where
  pub after : List ℕ
  pub goes : Goes a at locals d (at + length (moves d parts)) after
  pub holds : words_at after d (width_of_parts parts) ≡ words

module _ (a : FrameSite) (f : Function) (there : slice_get a.code.functions a.number ≡ Some f) (old : List ℕ) (next : ℕ) where
  -- from locals that agree with the old ones below the next free local
  pub moved : {parts : List (ℕ × ℕ)} {words : List ℕ}
      → PartsAt old next parts words
      → (at d : ℕ) (locals : List ℕ)
      → take next locals ≡ take next old
      → next ≤ d
      → d + width_of_parts parts ≤ length locals
      → InstrsAt f.body at (moves d parts)
      → Moved a at locals d parts words
  moved parts_none at d locals same less within stand = record { after = locals; goes = goes_none (omega arith); holds = refl }
  moved (parts_more {part = part} {words = ws} {parts = parts} q n b p) at d locals same less within stand =
      let ms = words_at locals (part.0) (part.1) in
      let are : ms ≡ ws = agreeing old locals next (part.0) (part.1) same b ∙ q in
      let long : length ms ≡ part.1 = ap length are ∙ n in
      let made = with_words locals d ms in
      let g : Goes a at locals d (at + 1) made =
      goes_writing d ms (goes_none (omega arith)) (steps a f at locals (Mov d (part.0) (part.1)) there stand.0) (omega arith) (omega (arith, long, within)) in
      let r =
      moved p (at + 1) (d + part.1) made (agree_less locals made d next g.keeps less ∙ same) (omega (arith, less)) (omega (arith, within, g.long)) stand.1 in
      let front : words_at r.after d (part.1) ≡ ws =
      agreeing made r.after (d + part.1) d (part.1) r.goes.keeps (omega arith) ∙ written locals d ms (part.1) long (omega (arith, within)) ∙ are in
      record {
        after = r.after;
        goes = goes_to (omega arith) (goes_on g r.goes (omega arith));
        holds = side_by_side r.after d (part.1) (width_of_parts parts) ∙ (λ j. front j ++ r.holds j);
      }
