-- Monotypes, formulas and proofs: each refusal is right.
use Rattle.std.proofs.Common.{◌≡◌, ℕ, List, [], ◌∷◌, ◌++◌, length, refl, sym, subst, arith, append-nil}
use Rattle.std.specs.Prelude.{Bool, Result, Ok, Err}
use Rattle.htt_lexer_tokens.specs.declared.tokens.Kind.{Kind}
use Rattle.htt_lexer_tokens.specs.declared.tokens.Token.{Token}
use Rattle.theory_grammar.specs.Marks.{Mark, Limits, FitsMark, AllFit, AllWithin}
use Rattle.theory_grammar.specs.Grammar
use Rattle.theory_grammar.specs.Derivations.{the_limits}
use Rattle.theory_grammar.specs.Beginnings.{never}
use Rattle.theory_grammar.specs.Readers.{Reader, Halt, Why, expected, too_nested, too_long}
use Rattle.theory_grammar.specs.Phrases.{Deeper}
use Rattle.theory_grammar.proofs.Spells.{spelled}
use Rattle.theory_grammar.proofs.Gets.{Gets}
use Rattle.theory_grammar.proofs.Monotypes.{Knows}
use Rattle.theory_reading.specs.Laws.{outermost}
use Rattle.theory_reading_places.specs.Alike.{Alike}
use Rattle.theory_reading_places.proofs.Follows.{Greater, in_none, in_all, Kept, Answers, Follows}
use Rattle.theory_reading_places.proofs.Words.{Follow}
use Rattle.theory_reading_completions.proofs.Halts.{Completion, Past, Ends, Stopped}
use Rattle.theory_reading_completions.proofs.Words.{Ending}
use Rattle.theory_reading_limits.proofs.Bars.{Bars}
use Rattle.theory_reading_limits.proofs.Words.{Bar}
use Rattle.theory_reading_places.proofs.Laws.{kept_same, answers_alike}
use Rattle.theory_reading_limits.specs.Limits.{IsLimit}
use Rattle.theory_reading_limits.proofs.Laws.{parts_of}
use Rattle.theory_refusals.specs.Refusals.{NoneGoesOn, NoneWithin, IsRight, Refusal, Ended}
use Rattle.theory_refusals.specs.Laws.{MonoIsRefused, FormulaIsRefused, ProofIsRefused, MonoIsEnded, FormulaIsEnded, ProofIsEnded, nothing_left, to_end}
use Rattle.theory_refusals.specs.Laws.{WholeMonoIsRefused, WholeFormulaIsRefused, WholeProofIsRefused}
use Rattle.theory_refusals.proofs.Places.{clash, clash_ended, one_more, wider, widest, knows_widest, all_within, follow_widest, follow_outermost}
use Rattle.theory_refusals.proofs.Places.{ending_outermost, bar_widest, not_past, fit_whole}

module _ {A : Type 0} (read : Deeper → Reader A) (marks : A → List Mark) (c : Kind → Bool)
    (gets : (lim : Limits) (d : Deeper) → Knows lim d 1 → (n : ℕ) (x : A) → Gets lim c n (read d) (marks x) x)
    (follows : (b : Greater) (d e : Deeper) → Follow b d e → (n m : ℕ) → Follows b n m (read d) (read e))
    (ends : (lim : Limits) (d : Deeper) → Ending lim d 1 → Ends lim (read d) marks)
    (barred : (d : Deeper) → Bar the_limits outermost d 1 → Bars the_limits (λ ns. ns) (read outermost) (read d) marks) where
  outer : Ends the_limits (read outermost) marks
  outer = ends the_limits outermost ending_outermost

  answers : (b : Greater) (d : Deeper)
      → Follow b outermost d
      → (m : ℕ) (tokens : List Token) (o : Result (A × List Token) Halt)
      → read outermost tokens ≡ o
      → Answers b m (read d) tokens o
  answers b d follow m tokens o e = subst (λ p. Answers b m (read d) tokens p) e ((follows b outermost d follow (length tokens) m).answers tokens (omega arith))

  reads_wide : (tokens : List Token) (y : A) → AllFit tokens (marks y) → read (widest (marks y)) tokens ≡ Ok (y, [])
  reads_wide tokens y fit =
      (gets (wider (marks y)) (widest (marks y)) (knows_widest (marks y)) (length tokens) y).reads tokens [] (omega arith)
      (spelled (wider (marks y)) tokens (marks y) fit (all_within (marks y))) tt

  module _ (tokens : List Token) (halt : Halt) (e : read outermost tokens ≡ Err halt) (before : List Token) (parts : tokens ≡ before ++ halt.rest) where
    none_alike : halt.why ≡ expected → (other : List Token) → Alike halt.rest other → (y : A) → AllFit (before ++ other) (marks y) → ⊥
    none_alike is other alike y fit =
        clash (answers in_all (widest (marks y)) (follow_widest (marks y)) (length (before ++ other)) tokens (Err halt) e) before other
        parts alike (omega arith) (subst (λ w. Kept in_all w) (sym is) tt) y (reads_wide (before ++ other) y fit)

    none_goes_on : halt.why ≡ expected → (rest : List Token) → halt.rest ≡ rest → NoneGoesOn marks before rest
    none_goes_on is [] at_end = λ y fit.
        none_alike is [] (subst (λ ts. Alike ts []) (sym at_end) tt) y (subst (λ ts. AllFit ts (marks y)) (sym (append-nil before)) fit)
    none_goes_on is (t ∷ rest) there = λ begins.
        none_alike is (t ∷ begins.more) (subst (λ ts. Alike ts (t ∷ begins.more)) (sym there) refl) begins.tree
        (subst (λ ts. AllFit ts (marks begins.tree)) (one_more before t begins.more) begins.fit)

    none_within : IsLimit halt.why → (t : Token) (rest : List Token) → halt.rest ≡ t ∷ rest → NoneWithin the_limits marks before t
    none_within limit t rest there begins =
        let y = begins.tree in
        let us = before ++ (t ∷ begins.more) in
        let fit : AllFit us (marks y) =
        subst (λ ts. AllFit ts (marks y)) (one_more before t begins.more)
        (fit_whole (before ++ (t ∷ [])) begins.more begins.first begins.others (marks y) begins.whole begins.fit begins.goes_on) in
        not_past (barred (widest (marks y)) (bar_widest (marks y))) before t begins.more halt.why limit
        (answers_alike (answers in_none outermost follow_outermost (length us) tokens (Err halt) e) before (t ∷ begins.more) parts
        (subst (λ ts. Alike ts (t ∷ begins.more)) (sym there) refl) (omega arith) (kept_same halt.why))
        y (reads_wide us y fit) begins.first begins.others begins.whole begins.fit begins.within

    is_right : (why : Why) (rest more : List Token) (others : List Mark) (tree : A) (first : List Mark)
        → marks tree ≡ first ++ others
        → AllFit before first
        → AllWithin the_limits first
        → AllFit more others
        → halt.why ≡ why
        → halt.rest ≡ rest
        → Past the_limits why rest more others
        → IsRight the_limits marks before why rest
    is_right expected rest more others tree first whole fit within goes_on is there past = (
      record { tree = tree; first = first; others = others; more = more; whole = whole; fit = fit; within = within; goes_on = goes_on },
      none_goes_on is rest there,
    )
    is_right too_nested (t ∷ rest) (u ∷ more) (m ∷ others) tree first whole fit within goes_on is there past = (
      record {
        tree = tree;
        first = first;
        mark = m;
        others = others;
        more = more;
        whole = whole;
        fit = fit;
        within = within;
        next = subst (λ x. FitsMark x m) past.0 goes_on.0;
        past = past.1;
        goes_on = goes_on.1;
      },
      none_within (subst IsLimit (sym is) tt) t rest there,
    )
    is_right too_long (t ∷ rest) (u ∷ more) (m ∷ others) tree first whole fit within goes_on is there past = (
      record {
        tree = tree;
        first = first;
        mark = m;
        others = others;
        more = more;
        whole = whole;
        fit = fit;
        within = within;
        next = subst (λ x. FitsMark x m) past.0 goes_on.0;
        past = past.1;
        goes_on = goes_on.1;
      },
      none_within (subst IsLimit (sym is) tt) t rest there,
    )
    is_right _ rest more others tree first whole fit within goes_on is there past = absurd past

  refusal : (tokens : List Token) (halt : Halt) → read outermost tokens ≡ Err halt → Refusal marks tokens halt
  refusal tokens halt e =
      let stop : Completion the_limits marks tokens halt =
      subst (λ o. Stopped the_limits marks tokens o) e (outer.halts.halted tokens tokens (λ ns end s. s) (λ a b. refl)) in
      let p = parts_of the_limits stop.first tokens halt.rest stop.spelled in
      record {
        before = p.before;
        parts = p.parts;
        right =
            is_right tokens halt e p.before p.parts halt.why halt.rest stop.tokens stop.others stop.tree stop.first stop.whole p.fit
            p.within stop.fit refl refl stop.past;
      }

  ended : (tokens : List Token) (tree : A) (token : Token) (rest : List Token)
      → read outermost tokens ≡ Ok (tree, token ∷ rest)
      → Ended (λ y. AllWithin the_limits (marks y)) marks tokens tree token rest
  ended tokens tree token rest e =
      let p = parts_of the_limits (marks tree) tokens (token ∷ rest) (outer.tells.tells tokens tree (token ∷ rest) e) in
      record {
        before = p.before;
        parts = p.parts;
        derived = p.fit;
        within = p.within;
        none = λ begins.
            clash_ended (answers in_all (widest (marks begins.tree)) (follow_widest (marks begins.tree))
            (length (p.before ++ (token ∷ begins.more))) tokens (Ok (tree, token ∷ rest)) e) p.before begins.more p.parts (omega arith)
            begins.tree
            (reads_wide (p.before ++ (token ∷ begins.more)) begins.tree
            (subst (λ ts. AllFit ts (marks begins.tree)) (one_more p.before token begins.more) begins.fit));
      }

  of_ended : (tokens : List Token) (tree : A) (token : Token) (rest : List Token)
      → Ended (λ y. AllWithin the_limits (marks y)) marks tokens tree token rest
      → Refusal marks tokens (record { why = expected; rest = token ∷ rest })
  of_ended tokens tree token rest end = record {
    before = end.before;
    parts = end.parts;
    right = (
      record {
        tree = tree;
        first = marks tree;
        others = [];
        more = [];
        whole = sym (append-nil (marks tree));
        fit = end.derived;
        within = end.within;
        goes_on = tt;
      },
      end.none,
    );
  }

  whole_refusal : (tokens : List Token) (halt : Halt) → to_end (read outermost tokens) ≡ Err halt → Refusal marks tokens halt
  whole_refusal tokens halt e = by_answer (read outermost tokens) refl e
    where
      by_rest : (tree : A) (rest : List Token) → read outermost tokens ≡ Ok (tree, rest) → nothing_left tree rest ≡ Err halt → Refusal marks tokens halt
      by_rest tree [] is e = cc
      by_rest tree (token ∷ rest) is e =
          let same : record { why = expected; rest = token ∷ rest } ≡ halt = cc in
          subst (λ h. Refusal marks tokens h) same (of_ended tokens tree token rest (ended tokens tree token rest is))

      by_answer : (o : Result (A × List Token) Halt) → read outermost tokens ≡ o → to_end o ≡ Err halt → Refusal marks tokens halt
      by_answer (Ok read) is e = by_rest read.0 read.1 is e
      by_answer (Err halted) is e =
          let same : halted ≡ halt = cc in
          subst (λ h. Refusal marks tokens h) same (refusal tokens halted is)

-- ---- the productions

pub mono_is_refused : MonoIsRefused
mono_is_refused =
    refusal (λ d. d.mono) (Grammar.mono 1) _ (λ lim d know n x. know.mono x) (λ b d e follow n m. follow.mono) (λ lim d ending. ending.mono)
    (λ d bar. bar.mono.bars)

pub formula_is_refused : FormulaIsRefused
formula_is_refused =
    refusal (λ d. d.formula) (Grammar.formula 1) _ (λ lim d know n x. know.formula x) (λ b d e follow n m. follow.formula)
    (λ lim d ending. ending.formula) (λ d bar. bar.formula.bars)

pub proof_is_refused : ProofIsRefused
proof_is_refused =
    refusal (λ d. d.proof) (Grammar.proof 1) never (λ lim d know n x. know.proof x) (λ b d e follow n m. follow.proof)
    (λ lim d ending. ending.proof) (λ d bar. bar.proof.bars)

pub mono_is_ended : MonoIsEnded
mono_is_ended =
    ended (λ d. d.mono) (Grammar.mono 1) _ (λ lim d know n x. know.mono x) (λ b d e follow n m. follow.mono) (λ lim d ending. ending.mono)
    (λ d bar. bar.mono.bars)

pub formula_is_ended : FormulaIsEnded
formula_is_ended =
    ended (λ d. d.formula) (Grammar.formula 1) _ (λ lim d know n x. know.formula x) (λ b d e follow n m. follow.formula)
    (λ lim d ending. ending.formula) (λ d bar. bar.formula.bars)

pub proof_is_ended : ProofIsEnded
proof_is_ended =
    ended (λ d. d.proof) (Grammar.proof 1) never (λ lim d know n x. know.proof x) (λ b d e follow n m. follow.proof)
    (λ lim d ending. ending.proof) (λ d bar. bar.proof.bars)

pub whole_mono_is_refused : WholeMonoIsRefused
whole_mono_is_refused =
    whole_refusal (λ d. d.mono) (Grammar.mono 1) _ (λ lim d know n x. know.mono x) (λ b d e follow n m. follow.mono)
    (λ lim d ending. ending.mono) (λ d bar. bar.mono.bars)

pub whole_formula_is_refused : WholeFormulaIsRefused
whole_formula_is_refused =
    whole_refusal (λ d. d.formula) (Grammar.formula 1) _ (λ lim d know n x. know.formula x) (λ b d e follow n m. follow.formula)
    (λ lim d ending. ending.formula) (λ d bar. bar.formula.bars)

pub whole_proof_is_refused : WholeProofIsRefused
whole_proof_is_refused =
    whole_refusal (λ d. d.proof) (Grammar.proof 1) never (λ lim d know n x. know.proof x) (λ b d e follow n m. follow.proof)
    (λ lim d ending. ending.proof) (λ d bar. bar.proof.bars)
