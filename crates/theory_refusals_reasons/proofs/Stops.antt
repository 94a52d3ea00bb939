-- Where reading stops at a limit, no tree goes on with the token past the other limit: with this one
-- as great as the tree needs, reading would stop there as before, though the tree is within both.
use Rattle.std.proofs.Common.{◌≡◌, ℕ, zero, suc, ◌+◌, ◌<◌, ◌≤◌, List, [], ◌∷◌, ◌++◌, length, refl, sym, ◌∙◌, subst, arith, append_assoc}
use Rattle.std.specs.Prelude.{Bool, Ok, Err}
use Rattle.htt_lexer_tokens.specs.declared.tokens.Kind.{Kind}
use Rattle.htt_lexer_tokens.specs.declared.tokens.Token.{Token}
use Rattle.theory_grammar.specs.Marks.{Mark, Limits, IsWithin, AllFit, AllWithin}
use Rattle.theory_grammar.specs.Derivations.{the_limits}
use Rattle.theory_grammar.specs.Readers.{Reader, Why, too_nested, too_long}
use Rattle.theory_grammar.specs.Phrases.{Deeper}
use Rattle.theory_grammar.specs.Reading.{deeper}
use Rattle.theory_grammar.proofs.Spells.{spelled}
use Rattle.theory_grammar.proofs.Gets.{Gets}
use Rattle.theory_grammar.proofs.Monotypes.{Knows}
use Rattle.theory_grammar.proofs.One.{levels, operands}
use Rattle.theory_reading.specs.Laws.{outermost}
use Rattle.theory_reading.proofs.Words.{Stands}
use Rattle.theory_grammar_chains.specs.Operands.{AtMost, OperandsStandNoDeeper}
use Rattle.theory_reading_places.proofs.Follows.{Greater, in_chains, in_levels, Kept, Answers, Follows}
use Rattle.theory_reading_places.proofs.Words.{Follow}
use Rattle.theory_reading_places.proofs.Files.{follow_limits}
use Rattle.theory_reading_places.proofs.Laws.{answers_alike}
use Rattle.theory_reading_completions.proofs.Halts.{fit_both}
use Rattle.theory_reading_limits.specs.Limits.{IsLimit}
use Rattle.theory_reading_limits.proofs.Bars.{Bars}
use Rattle.theory_reading_limits.proofs.Words.{Bar}
use Rattle.theory_reading_limits.proofs.Files.{bar}
use Rattle.theory_refusals.specs.Refusals.{GoesPast, IsTooDeep, IsTooFar}
use Rattle.theory_refusals.proofs.Places.{wider, widest, knows_widest, all_within, not_past, fit_whole}

-- ---- the mark at which a tree goes past a limit

at_most : (n : ℕ) (first : List Mark) → AllWithin the_limits first → 256 ≤ n → AtMost n first
at_most n [] within great = tt
at_most n (m ∷ first) within great = (let low = within.0.level in omega (arith, low, great), at_most n first within.1 great)

one_within : (lim : Limits) (first others : List Mark) (m : Mark) → AllWithin lim (first ++ (m ∷ others)) → IsWithin lim m
one_within lim [] others m within = within.0
one_within lim (f ∷ first) others m within = one_within lim first others m within.1

both_within : (lim : Limits) (first : List Mark) (m : Mark)
    → AllWithin the_limits first
    → 256 ≤ lim.nesting
    → 64 ≤ lim.chain
    → IsWithin lim m
    → AllWithin lim (first ++ (m ∷ []))
both_within lim [] m within deep far last = (last, tt)
both_within lim (f ∷ first) m within deep far last = (
  record { level = let low = within.0.level in omega (arith, low, deep); operand = let few = within.0.operand in omega (arith, few, far) },
  both_within lim first m within.1 deep far last,
)

-- ---- with one limit as great as a tree needs

abbrev further_of : List Mark → ℕ
further_of ms = 63 + operands ms

abbrev nesting_of : List Mark → ℕ
nesting_of ms = 256 + levels ms

module _ {A : Type 0} (read : Deeper → Reader A) (full : A → Deeper → Reader A) (marks : A → List Mark) (c : Kind → Bool)
    (gets : (y : A) (lim : Limits) (d : Deeper) → Knows lim d 1 → (n : ℕ) → Gets lim c n (full y d) (marks y) y)
    (follows : (b : Greater) (d e : Deeper) → Follow b d e → (n m : ℕ) → Follows b n m (read d) (read e))
    (barred : (y : A) (lim : Limits) (d e : Deeper) → Stands lim 0 → Bar lim d e 1 → Bars lim (λ ns. ns) (read d) (full y e) marks)
    (no_deeper : OperandsStandNoDeeper marks) where
  reads_wide : (tokens : List Token) (y : A) → AllFit tokens (marks y) → full y (widest (marks y)) tokens ≡ Ok (y, [])
  reads_wide tokens y fit =
      (gets y (wider (marks y)) (widest (marks y)) (knows_widest (marks y)) (length tokens)).reads tokens [] (omega arith)
      (spelled (wider (marks y)) tokens (marks y) fit (all_within (marks y))) tt

  module _ (before : List Token) (t : Token) (more : List Token) (why : Why) (limit : IsLimit why)
      (stops : read outermost (before ++ (t ∷ more)) ≡ Err (record { why = why; rest = t ∷ more })) where
    -- what reading with greater limits answers to the tree's own tokens
    stops_there : (b : Greater) (d : Deeper)
        → Kept b why
        → Follow b outermost d
        → (other : List Token)
        → read d (before ++ (t ∷ other)) ≡ Err (record { why = why; rest = t ∷ other })
    stops_there b d kept follow other =
        let got : Answers b (length (before ++ (t ∷ other))) (read d) (before ++ (t ∷ more)) (Err (record { why = why; rest = t ∷ more })) =
        subst (λ o. Answers b (length (before ++ (t ∷ other))) (read d) (before ++ (t ∷ more)) o) stops
        ((follows b outermost d follow (length (before ++ (t ∷ more))) (length (before ++ (t ∷ other)))).answers (before ++ (t ∷ more))
        (omega arith)) in
        answers_alike got before (t ∷ other) refl refl (omega arith) kept

    is_past : {past : Limits → Mark → Type 0} (b : Greater) (lim : Limits) (d : Deeper)
        → Kept b why
        → Follow b outermost d
        → Stands lim 0
        → 256 ≤ lim.nesting
        → 64 ≤ lim.chain
        → (goes : GoesPast the_limits past marks before t)
        → Bar lim d (widest (marks goes.tree)) 1
        → IsWithin lim goes.mark
        → ⊥
    is_past b lim d kept follow stands deep far goes bar within =
        let y = goes.tree in
        let all = goes.first ++ (goes.mark ∷ []) in
        let whole : marks y ≡ all ++ goes.others = goes.whole ∙ sym (append_assoc goes.first (goes.mark ∷ []) goes.others) in
        let fit : AllFit (before ++ (t ∷ goes.more)) (marks y) =
        fit_whole before (t ∷ goes.more) goes.first (goes.mark ∷ goes.others) (marks y) goes.whole goes.fit (goes.next, goes.goes_on) in
        not_past (barred y lim d (widest (marks y)) stands bar) before t goes.more why limit (stops_there b d kept follow goes.more) y
        (reads_wide (before ++ (t ∷ goes.more)) y fit) all goes.others whole
        (fit_both before (t ∷ []) goes.first (goes.mark ∷ []) goes.fit (goes.next, tt)) (both_within lim goes.first goes.mark goes.within deep far within)

  -- where reading stops as too deep
  pub not_too_far : (before : List Token) (t : Token) (more : List Token)
      → read outermost (before ++ (t ∷ more)) ≡ Err (record { why = too_nested; rest = t ∷ more })
      → GoesPast the_limits IsTooFar marks before t
      → ⊥
  not_too_far before t more stops goes =
      let ms = marks goes.tree in
      let f = further_of ms in
      let lim : Limits = record { nesting = 256; chain = suc f } in
      let d = deeper f 256 in
      let needs = one_within (wider ms) goes.first goes.others goes.mark (subst (λ ns. AllWithin (wider ms) ns) goes.whole (all_within ms)) in
      let few = needs.operand in
      let more' = goes.past in
      let low = no_deeper goes.tree goes.first goes.others goes.mark 256 goes.whole (at_most 256 goes.first goes.within (omega arith)) (omega (arith, more')) in
      is_past before t more too_nested tt stops in_chains lim d tt (follow_limits in_chains 63 f 256 256 (omega arith) refl)
      (record { level = omega arith; chain = omega arith }) (omega arith) (omega arith) goes
      (bar lim f (wider ms).chain 256 (wider ms).nesting 1 refl refl (omega arith) (omega arith)) (record { level = low; operand = omega (arith, few) })

  -- where it stops for a chain that is too long
  pub not_too_deep : (before : List Token) (t : Token) (more : List Token)
      → read outermost (before ++ (t ∷ more)) ≡ Err (record { why = too_long; rest = t ∷ more })
      → GoesPast the_limits IsTooDeep marks before t
      → ⊥
  not_too_deep before t more stops goes =
      let ms = marks goes.tree in
      let n = nesting_of ms in
      let lim : Limits = record { nesting = n; chain = 64 } in
      let d = deeper 63 n in
      let needs = one_within (wider ms) goes.first goes.others goes.mark (subst (λ ns. AllWithin (wider ms) ns) goes.whole (all_within ms)) in
      let low = needs.level in
      is_past before t more too_long tt stops in_levels lim d tt (follow_limits in_levels 63 63 256 n refl (omega arith))
      (record { level = omega arith; chain = omega arith }) (omega arith) (omega arith) goes
      (bar lim 63 (wider ms).chain n (wider ms).nesting 1 refl (omega arith) (omega arith) (omega arith)) (record {
        level = omega (arith, low);
        operand =
            few goes.mark.operand goes.past (λ more.
            no_deeper goes.tree goes.first goes.others goes.mark 256 goes.whole (at_most 256 goes.first goes.within (omega arith)) more);
      })
    where
      few : (n : ℕ) {level : ℕ} → 256 < level → (1 < n → level ≤ 256) → n ≤ 64
      few zero deep low = omega arith
      few (suc zero) deep low = omega arith
      few (suc (suc n)) deep low = absurd (let no = low (omega arith) in omega (arith, no, deep))
