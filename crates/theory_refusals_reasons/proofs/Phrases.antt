-- Monotypes, formulas and proofs: no two refusals are right.
use Rattle.std.proofs.Common.{◌≡◌, ℕ, List, [], ◌∷◌, ◌++◌, refl, sym, ◌∙◌, ap, subst}
use Rattle.std.specs.Prelude.{Bool, Result, Ok, Err}
use Rattle.std.proofs.lemmas.List.{append_cancel_right}
use Rattle.htt_lexer_tokens.specs.declared.tokens.Kind.{Kind}
use Rattle.htt_lexer_tokens.specs.declared.tokens.Token.{Token}
use Rattle.theory_grammar.specs.Marks.{Mark, Limits, AllFit, AllWithin}
use Rattle.theory_grammar.specs.Grammar
use Rattle.theory_grammar.specs.Derivations.{the_limits}
use Rattle.theory_grammar.specs.Beginnings.{never}
use Rattle.theory_grammar.specs.Readers.{Reader, Halt, Why, expected, too_nested, too_long, too_many}
use Rattle.theory_grammar.specs.Phrases.{Deeper}
use Rattle.theory_grammar.proofs.Gets.{Gets}
use Rattle.theory_grammar.proofs.Monotypes.{Knows}
use Rattle.theory_reading.specs.Laws.{outermost}
use Rattle.theory_reading.proofs.Laws.{mono_is_derived, formula_is_derived, proof_is_derived}
use Rattle.theory_grammar_chains.specs.Operands.{OperandsStandNoDeeper}
use Rattle.theory_grammar_chains.proofs.Laws.{in_monotypes, in_formulas, in_proofs}
use Rattle.theory_reading_places.proofs.Follows.{Greater, Follows}
use Rattle.theory_reading_places.proofs.Words.{Follow}
use Rattle.theory_reading_limits.proofs.Bars.{Bars}
use Rattle.theory_reading_limits.proofs.Words.{Bar}
use Rattle.theory_refusals.specs.Refusals.{Begins, GoesPast, IsTooDeep, IsTooFar, NoneGoesOn, NoneWithin, IsRight, Refusal}
use Rattle.theory_refusals.specs.Laws.{OnePlace, NotDerived, nothing_left, to_end}
use Rattle.theory_refusals.proofs.Places.{one_more, fit_whole}
use Rattle.theory_refusals.proofs.Phrases.{whole_mono_is_refused, whole_formula_is_refused, whole_proof_is_refused}
use Rattle.theory_refusals.proofs.One.{mono_has_one_place, formula_has_one_place, proof_has_one_place, mono_is_not_derived, formula_is_not_derived}
use Rattle.theory_refusals.proofs.One.{proof_is_not_derived}
use Rattle.theory_refusals_reasons.specs.Laws.{OneRefusal, MonoHasOneRefusal, FormulaHasOneRefusal, ProofHasOneRefusal}
use Rattle.theory_refusals_reasons.proofs.Stops.{not_too_far, not_too_deep}

-- what goes past a limit begins a tree
pub begins_past : {A : Type 0} {lim : Limits} {past : Limits → Mark → Type 0} {marks : A → List Mark} {before : List Token} {t : Token}
    → GoesPast lim past marks before t
    → Begins marks (before ++ (t ∷ []))
begins_past {marks = marks} {before = before} {t = t} goes = record {
  tree = goes.tree;
  more = goes.more;
  fit =
      subst (λ ts. AllFit ts (marks goes.tree)) (sym (one_more before t goes.more))
      (fit_whole before (t ∷ goes.more) goes.first (goes.mark ∷ goes.others) (marks goes.tree) goes.whole goes.fit
      (goes.next, goes.goes_on));
}

-- a reader that is refused at a limit stops there itself
pub stops_itself : {A : Type 0} (o : Result (A × List Token) Halt) (halt : Halt) → to_end o ≡ Err halt → (halt.why ≡ expected → ⊥) → o ≡ Err halt
stops_itself {A = A} (Ok read) halt e limit = by_rest read.0 read.1 e
  where
    by_rest : (tree : A) (rest : List Token) → nothing_left tree rest ≡ Err halt → ◌≡◌ {A = Result (A × List Token) Halt} (Ok (tree, rest)) (Err halt)
    by_rest tree [] e = cc
    by_rest tree (u ∷ us) e = absurd (limit (let same : record { why = expected; rest = u ∷ us } ≡ halt = cc in ap (λ h. h.why) (sym same)))
stops_itself (Err halted) halt e limit = let same : halted ≡ halt = cc in ap (λ h. Err h) same

pub same_halt : (halt other : Halt) → halt.why ≡ other.why → halt.rest ≡ other.rest → halt ≡ other
same_halt halt other why rest = ap (λ w. record { why = w; rest = halt.rest }) why ∙ ap (λ ts. record { why = other.why; rest = ts }) rest

module _ {A : Type 0} (read : Deeper → Reader A) (marks : A → List Mark) (c : Kind → Bool)
    (gets : (y : A) (lim : Limits) (d : Deeper) → Knows lim d 1 → (n : ℕ) → Gets lim c n (read d) (marks y) y)
    (follows : (b : Greater) (d e : Deeper) → Follow b d e → (n m : ℕ) → Follows b n m (read d) (read e))
    (barred : (lim : Limits) (d e : Deeper) → Bar lim d e 1 → Bars lim (λ ns. ns) (read d) (read e) marks)
    (no_deeper : OperandsStandNoDeeper marks)
    (derived : (tokens : List Token) (tree : A) → read outermost tokens ≡ Ok (tree, []) →
    AllFit tokens (marks tree) × AllWithin the_limits (marks tree))
    (refused : (tokens : List Token) (halt : Halt) → to_end (read outermost tokens) ≡ Err halt → Refusal marks tokens halt)
    (place : OnePlace marks) (absent : NotDerived marks) where
  far_here : (before : List Token) (t : Token) (more : List Token)
      → read outermost (before ++ (t ∷ more)) ≡ Err (record { why = too_nested; rest = t ∷ more })
      → GoesPast the_limits IsTooFar marks before t
      → ⊥
  far_here = not_too_far read (λ y. read) marks c gets follows (λ y lim d e stands bar. barred lim d e bar) no_deeper

  deep_here : (before : List Token) (t : Token) (more : List Token)
      → read outermost (before ++ (t ∷ more)) ≡ Err (record { why = too_long; rest = t ∷ more })
      → GoesPast the_limits IsTooDeep marks before t
      → ⊥
  deep_here = not_too_deep read (λ y. read) marks c gets follows (λ y lim d e stands bar. barred lim d e bar) no_deeper

  module _ (before : List Token) (t : Token) (nest : GoesPast the_limits IsTooDeep marks before t)
      (far : GoesPast the_limits IsTooFar marks before t) (none : NoneWithin the_limits marks before t) where
    abbrev tokens : List Token
    tokens = before ++ (t ∷ nest.more)

    deep : Refusal marks tokens (record { why = too_nested; rest = t ∷ nest.more })
    deep = record { before = before; parts = refl; right = (nest, none) }

    by_why : (why : Why) (rest : List Token)
        → rest ≡ t ∷ nest.more
        → IsRight the_limits marks before why rest
        → ((why ≡ expected → ⊥) → read outermost tokens ≡ Err (record { why = why; rest = rest }))
        → ⊥
    by_why expected rest is right stops = (subst (λ ts. NoneGoesOn marks before ts) is right.1) (begins_past nest)
    by_why too_nested rest is right stops =
        far_here before t nest.more
        (stops (λ e. let no : too_nested ≡ expected = e in cc) ∙ ap (λ ts. Err (record { why = too_nested; rest = ts })) is) far
    by_why too_long rest is right stops =
        deep_here before t nest.more
        (stops (λ e. let no : too_long ≡ expected = e in cc) ∙ ap (λ ts. Err (record { why = too_long; rest = ts })) is) nest
    by_why too_many rest is right stops = right

    by_refusal : (halt : Halt) → to_end (read outermost tokens) ≡ Err halt → Refusal marks tokens halt → ⊥
    by_refusal halt e r =
        let is : halt.rest ≡ t ∷ nest.more = place tokens halt (record { why = too_nested; rest = t ∷ nest.more }) r deep in
        let same : r.before ≡ before = append_cancel_right r.before before (t ∷ nest.more) (sym (r.parts ∙ ap (λ ts. r.before ++ ts) is)) in
        by_why halt.why halt.rest is (subst (λ ts. IsRight the_limits marks ts halt.why halt.rest) same r.right)
        (λ limit. stops_itself (read outermost tokens) halt e limit)

    by_answer : (o : Result A Halt) → to_end (read outermost tokens) ≡ o → ⊥
    by_answer (Err halt) e = by_refusal halt e (refused tokens halt e)
    by_answer (Ok tree) e = by_read (read outermost tokens) refl e
      where
        by_read : (o : Result (A × List Token) Halt) → read outermost tokens ≡ o → to_end o ≡ Ok tree → ⊥
        by_read (Ok got) is e = by_rest got.0 got.1 is e
          where
            by_rest : (x : A) (rest : List Token) → read outermost tokens ≡ Ok (x, rest) → nothing_left x rest ≡ Ok tree → ⊥
            by_rest x [] is e = let found = derived tokens x is in absent tokens (record { why = too_nested; rest = t ∷ nest.more }) x deep found.0 found.1
            by_rest x (u ∷ us) is e = cc
        by_read (Err halt) is e = cc

    clash : ⊥
    clash = by_answer (to_end (read outermost tokens)) refl

  same_why : (before : List Token) (why other : Why) (rest : List Token)
      → IsRight the_limits marks before why rest
      → IsRight the_limits marks before other rest
      → why ≡ other
  same_why before expected expected rest one two = refl
  same_why before too_nested too_nested rest one two = refl
  same_why before too_long too_long rest one two = refl
  same_why before expected too_nested [] one two = absurd two
  same_why before expected too_nested (t ∷ rest) one two = absurd (one.1 (begins_past two.0))
  same_why before expected too_long [] one two = absurd two
  same_why before expected too_long (t ∷ rest) one two = absurd (one.1 (begins_past two.0))
  same_why before too_nested expected [] one two = absurd one
  same_why before too_nested expected (t ∷ rest) one two = absurd (two.1 (begins_past one.0))
  same_why before too_long expected [] one two = absurd one
  same_why before too_long expected (t ∷ rest) one two = absurd (two.1 (begins_past one.0))
  same_why before too_nested too_long [] one two = absurd one
  same_why before too_nested too_long (t ∷ rest) one two = absurd (clash before t one.0 two.0 one.1)
  same_why before too_long too_nested [] one two = absurd one
  same_why before too_long too_nested (t ∷ rest) one two = absurd (clash before t two.0 one.0 one.1)
  same_why before too_many other rest one two = absurd one
  same_why before why too_many rest one two = absurd two

  one_refusal : OneRefusal marks
  one_refusal tokens halt other one two =
      let rest : halt.rest ≡ other.rest = place tokens halt other one two in
      let same : two.before ≡ one.before = append_cancel_right two.before one.before halt.rest (ap (λ ts. two.before ++ ts) rest ∙ sym two.parts ∙ one.parts) in
      let right : IsRight the_limits marks one.before other.why halt.rest =
      subst (λ ts. IsRight the_limits marks one.before other.why ts) (sym rest)
      (subst (λ ts. IsRight the_limits marks ts other.why other.rest) same two.right) in
      same_halt halt other (same_why one.before halt.why other.why halt.rest one.right right) rest

pub mono_has_one_refusal : MonoHasOneRefusal
mono_has_one_refusal =
    one_refusal (λ d. d.mono) (Grammar.mono 1) _ (λ y lim d know n. know.mono y) (λ b d e follow n m. follow.mono)
    (λ lim d e bar. bar.mono.bars) in_monotypes mono_is_derived whole_mono_is_refused mono_has_one_place mono_is_not_derived

pub formula_has_one_refusal : FormulaHasOneRefusal
formula_has_one_refusal =
    one_refusal (λ d. d.formula) (Grammar.formula 1) _ (λ y lim d know n. know.formula y) (λ b d e follow n m. follow.formula)
    (λ lim d e bar. bar.formula.bars) in_formulas formula_is_derived whole_formula_is_refused formula_has_one_place formula_is_not_derived

pub proof_has_one_refusal : ProofHasOneRefusal
proof_has_one_refusal =
    one_refusal (λ d. d.proof) (Grammar.proof 1) never (λ y lim d know n. know.proof y) (λ b d e follow n m. follow.proof)
    (λ lim d e bar. bar.proof.bars) in_proofs proof_is_derived whole_proof_is_refused proof_has_one_place proof_is_not_derived
