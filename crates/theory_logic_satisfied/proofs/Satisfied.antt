-- What is proved is true in every context, rule by rule.
use Rattle.std.proofs.Common.{ℕ, List, [], ◌∷◌, refl, inl, inr, ⊎_elim}
use Rattle.htt_syntax.specs.Trees.{FormulaTree, ProofTree, BlockTree, m_word, m_bool, t_var}
use Rattle.theory_values.specs.Values.{v_word, is_word, IsWord}
use Rattle.theory_truth.specs.Truth.{NotNot}
use Rattle.theory_truth.specs.Predicates.{recs_of}
use Rattle.theory_canonical.specs.Skeletons.{sk_o, skeleton}
use Rattle.theory_canonical.specs.Contexts.{as_heap, as_term}
use Rattle.theory_canonical.specs.Canonical.{n_m_word, n_m_bool, n_word, n_bool, IsCanonicalFormula, n_ff}
use Rattle.theory_typing.specs.Contexts.{Context, Environment}
use Rattle.theory_typing.specs.Typing.{FormsFormula}
use Rattle.theory_typing_canonical.specs.Environments.{standings, heads_of}
use Rattle.theory_typing_canonical.proofs.Entries.{heap_stands}
use Rattle.theory_typing_canonical.proofs.Typed.{formed_formula}
use Rattle.theory_logic_axioms_true.specs.WordLaws.{IsBelow}
use Rattle.theory_logic_rules.specs.Sequents.{below_greatest}
use Rattle.theory_logic_rules.specs.Rules.{Infers, Proves, ProvesBlock, infers_hyp, infers_first, infers_second, infers_app, infers_inst_term, infers_inst_heap}
use Rattle.theory_logic_rules.specs.Rules.{infers_axiom, infers_lem, infers_the, infers_at_zero, infers_at_next, infers_at, proves_both, proves_left}
use Rattle.theory_logic_rules.specs.Rules.{proves_right, proves_give_term, proves_give_heap, proves_trivial, proves_refl_term, proves_refl_heap, proves_absurd}
use Rattle.theory_logic_rules.specs.Rules.{proves_case, proves_rewrite_term, proves_rewrite_heap, proves_induct, proves_split, proves_inferred, proves_block}
use Rattle.theory_logic_rules.specs.Rules.{proves_at, block_end, block_intro, block_gen_term, block_gen_heap, block_have, block_open_term, block_open_heap}
use Rattle.theory_logic_rules.specs.Rules.{block_at}
use Rattle.theory_logic_true.proofs.Scenes.{each_at}
use Rattle.theory_denotation.specs.Valuations.{den_heap, den_term, Valuation, heap_in, HeadEntries}
use Rattle.theory_denotation.specs.Denotation.{term_den}
use Rattle.theory_denotation.specs.Satisfaction.{Satisfies}
use Rattle.theory_denotation.proofs.Classical.{classical}
use Rattle.theory_logic_axioms_satisfied.proofs.Satisfied.{satisfied}
use Rattle.theory_denotation_shapes.proofs.Given.{context_valued, heap_shaped_at}
use Rattle.theory_logic_unfoldings_satisfied.specs.Entries.{Setting}
use Rattle.theory_logic_unfoldings_satisfied.proofs.Fitting.{heap_of, value_of, form_of, args_denote}
use Rattle.theory_logic_unfoldings_satisfied.proofs.Unfolded.{unfoldings, word_in}
use Rattle.theory_logic_satisfied.specs.Laws.{AreCanonical, AreSatisfied, InferredIsSatisfied, ProvedIsSatisfied}
use Rattle.theory_logic_satisfied.proofs.Forms.{and_parts, or_parts, imp_parts, all_parts, ex_parts, all_heap_part, ex_heap_part, equal_parts, same_parts}
use Rattle.theory_logic_satisfied.proofs.Forms.{put_formed, heap_formed, raised_formed, motive_formed, heap_motive_formed, next_motive_formed}
use Rattle.theory_logic_satisfied.proofs.Forms.{next_word_formed, below_formed, first_formed, infers_formed}
use Rattle.theory_logic_satisfied.proofs.Scenes.{Scene, with_more, with_hypothesis, with_value, with_heap, lower}
use Rattle.theory_logic_satisfied.proofs.Rules.{Valued, same_value, same_to, same_from, put_in, take_out, heap_put, heap_taken, rewritten, rewritten_heap}
use Rattle.theory_logic_satisfied.proofs.Rules.{below_is_true, by_induction, at_each_truth, at_value}

stable : (env : Environment) (e : HeadEntries) (w : Valuation) (F : FormulaTree)
    → NotNot (Satisfies (recs_of env.recs) e w F)
    → Satisfies (recs_of env.recs) e w F
stable env e w F n = classical env.recs e w F n

module _ {env : Environment} {e : HeadEntries} {g : Context} {hs : List FormulaTree} {w : Valuation} (s : Scene env e g hs w) where
  formed_in : {p : ProofTree} {F : FormulaTree} → Infers env g hs p F → IsCanonicalFormula (heads_of env) (standings g) F
  formed_in p = infers_formed p s.around.environment s.around.context s.formed

  written : {F F' : FormulaTree} → FormsFormula env g F F' → IsCanonicalFormula (heads_of env) (standings g) F'
  written p = formed_formula env s.around.environment.canonical s.around.context p

  valued : Valued (heads_of env) e (standings g) w
  valued = record { heads_valued = s.around.heads; context_valued = context_valued s.around.valuation }

mutual
  unfolding Satisfies skeleton

  pub infers_true : {env : Environment} {e : HeadEntries} {g : Context} {hs : List FormulaTree} {p : ProofTree} {F : FormulaTree}
      → Infers env g hs p F
      → {w : Valuation}
      → Scene env e g hs w
      → Satisfies (recs_of env.recs) e w F
  infers_true {env = env} {e = e} {hs = hs} (infers_hyp {number = number} {F = F} q) {w = w} s = each_at (Satisfies (recs_of env.recs) e w) hs number F q s.true
  infers_true (infers_first p) s = (infers_true p s).0
  infers_true (infers_second p) s = (infers_true p s).1
  infers_true (infers_app p q) s = infers_true p s (proves_true q s (imp_parts (formed_in s p)).0)
  infers_true {env = env} {e = e} (infers_inst_term {m' = m'} {t = t} p d u) {w = w} s =
      put_in (recs_of env.recs) (valued s) u (form_of t s.around.environment s.around.context d) (all_parts (formed_in s p)).1
      (infers_true p s (term_den e w m' sk_o) (value_of t s.around d))
  infers_true {env = env} {e = e} (infers_inst_heap {h = h} {F = F} p i) {w = w} s =
      heap_put (recs_of env.recs) e w h F (heap_of s.around i).0 (infers_true p s (heap_in w h) (heap_of s.around i).1)
  infers_true {env = env} {e = e}
      (infers_axiom axiom_name {monos = monos} {sorts = sorts} {arguments' = values} {F = F} text m shaped side sorted fits row) {w = w} s =
      satisfied env.recs e w axiom_name monos sorts values shaped (args_denote s.around fits) F
      (record { side_condition = side; row = row })
  infers_true {env = env} {e = e} (infers_lem {F' = F'} p) {w = w} s = λ deny. deny (inr (λ f. deny (inl f)))
  infers_true (infers_the p q) s = proves_true q s (written s p)
  infers_true {env = env} {e = e} {g = g}
      (infers_at_zero {number = number} {r = r} {h = h} {arguments = args} {values = values} {F = F} q sorted fits put) {w = w} s =
      unfoldings.at_zero env e g w s.around number r q h args values fits F put
  infers_true {env = env} {e = e} {g = g}
      (infers_at_next {number = number} {r = r} {h = h} {m = m} {arguments = args} {values = values} {F = F} q sorted fits put) {w = w} s =
      unfoldings.at_next env e g w s.around number r q h m args values fits F put
  infers_true (infers_at p) s = infers_true p s

  pub proves_true : {env : Environment} {e : HeadEntries} {g : Context} {hs : List FormulaTree} {p : ProofTree} {G : FormulaTree}
      → Proves env g hs p G
      → {w : Valuation}
      → Scene env e g hs w
      → IsCanonicalFormula (heads_of env) (standings g) G
      → Satisfies (recs_of env.recs) e w G
  proves_true (proves_both p q) s d = (proves_true p s (and_parts d).0, proves_true q s (and_parts d).1)
  proves_true (proves_left p) s d = λ deny. deny (inl (proves_true p s (or_parts d).0))
  proves_true (proves_right p) s d = λ deny. deny (inr (proves_true p s (or_parts d).1))
  proves_true {env = env} {e = e} (proves_give_term {m' = m'} {t = t} m u p) {w = w} s d =
      let c = form_of t s.around.environment s.around.context m in
      λ deny.
      deny (
        term_den e w m' sk_o,
        value_of t s.around m,
        take_out (recs_of env.recs) (valued s) u c (ex_parts d).1 (proves_true p s (put_formed u c (ex_parts d).1)),
      )
  proves_true {env = env} {e = e} (proves_give_heap {h = h} {F = F} i p) {w = w} s d =
      λ deny.
      deny (
        heap_in w h,
        (heap_of s.around i).1,
        heap_taken (recs_of env.recs) e w h F (heap_of s.around i).0 (proves_true p s (heap_formed F (heap_stands i) (ex_heap_part d))),
      )
  proves_true proves_trivial s d = tt
  proves_true {e = e} (proves_refl_term {m = m} {n = n} q) {w = w} s d = same_value e w m n q
  proves_true proves_refl_heap s d = record { each = λ l. refl }
  proves_true (proves_absurd p) s d = absurd (proves_true p s n_ff)
  proves_true {env = env} {e = e} (proves_case {A = A} {B = B} {G = G} p q r) {w = w} s d =
      let parts = or_parts (formed_in s p) in
      stable env e w G (λ deny.
      infers_true p s (λ x.
      ⊎_elim (λ a. deny (proves_true q (with_hypothesis A s parts.0 a) d)) (λ b. deny (proves_true r (with_hypothesis B s parts.1 b) d)) x))
  proves_true {env = env} {e = e} (proves_rewrite_term {t = t} {m = m} {n = n} {G = G} p c u same v q) {w = w} s d =
      let parts = equal_parts (formed_in s p) in
      let motive = motive_formed t s.around.environment s.around.context parts.0 c in
      rewritten (recs_of env.recs) G (valued s) (infers_true p s) parts.1 parts.2 u same v motive (proves_true q s (put_formed v parts.1 motive))
  proves_true {env = env} {e = e} (proves_rewrite_heap {h = h} {k = k} {C' = C'} {G = G} p c same q) {w = w} s d =
      let parts = same_parts (formed_in s p) in
      rewritten_heap (recs_of env.recs) e w h k C' G (infers_true p s) (heap_shaped_at s.around.valuation parts.0).0
      (heap_shaped_at s.around.valuation parts.1).0 same
      (proves_true q s (heap_formed C' parts.0 (heap_motive_formed s.around.environment s.around.context c)))
  proves_true {env = env} {e = e} {g = g}
      (proves_induct {m' = m'} {C' = C'} {at_word = at_word} {at_zero = at_zero} {at_next = at_next} {G = G} c m u same z p n q) {w = w} s d
      =
      let motive = motive_formed m_word s.around.environment s.around.context n_m_word c in
      let form = form_of m_word s.around.environment s.around.context m in
      let a = word_in (value_of m_word s.around m) in
      let R = recs_of env.recs in
      let base = proves_true p s (put_formed z n_word motive) in
      let step : (y : ℕ) → IsWord y → IsBelow y 18446744073709551615 → Satisfies R e (den_term sk_o (v_word y) ∷ w) C' →
      Satisfies R e (den_term sk_o (v_word y) ∷ w) at_next = λ y word below h.
      proves_true q (with_more (below_greatest (t_var 0) ∷ C' ∷ []) (with_value m_word (v_word y) s n_m_word (is_word word))
      (below_formed (t_var 0) first_formed, (motive, tt)) (below_is_true R e y w below, (h, tt)))
      (put_formed n next_word_formed (next_motive_formed (standings g) C' motive)) in
      at_value R G a.0 a.2 (valued s) same u form motive (by_induction R C' at_zero at_next (valued s) motive z base n step a.0 a.1)
  proves_true {env = env} {e = e}
      (proves_split {m' = m'} {C' = C'} {at_term = at_term} {at_true = at_true} {at_false = at_false} {G = G} c m u same t p f q) {w = w} s
      d =
      let motive = motive_formed m_bool s.around.environment s.around.context n_m_bool c in
      let form = form_of m_bool s.around.environment s.around.context m in
      let R = recs_of env.recs in
      let first = proves_true p s (put_formed t n_bool motive) in
      let second = proves_true q s (put_formed f n_bool motive) in
      same_from R e w G at_term same
      (put_in R (valued s) u form motive
      (at_each_truth R C' (valued s) motive t first f second (term_den e w m' sk_o) (value_of m_bool s.around m)))
  proves_true {env = env} {e = e} (proves_inferred {F = F} {G = G} p same) {w = w} s d = same_to (recs_of env.recs) e w F G same (infers_true p s)
  proves_true (proves_block p) s d = block_true p s d
  proves_true (proves_at p) s d = proves_true p s d

  pub block_true : {env : Environment} {e : HeadEntries} {g : Context} {hs : List FormulaTree} {block : BlockTree} {G : FormulaTree}
      → ProvesBlock env g hs block G
      → {w : Valuation}
      → Scene env e g hs w
      → IsCanonicalFormula (heads_of env) (standings g) G
      → Satisfies (recs_of env.recs) e w G
  block_true (block_end p) s d = proves_true p s d
  block_true (block_intro {A = A} p) s d = λ a. block_true p (with_hypothesis A s (imp_parts d).0 a) (imp_parts d).1
  block_true (block_gen_term {t = t} p) s d = λ v typed. block_true p (with_value t v s (all_parts d).0 typed) (all_parts d).1
  block_true (block_gen_heap p) s d = λ h is. block_true p (with_heap h s is) (all_heap_part d)
  block_true (block_have {F' = F'} c p q) s d = let formed = written s c in block_true q (with_hypothesis F' s formed (proves_true p s formed)) d
  block_true {env = env} {e = e} (block_open_term {t = t} {F = F} {G = G} p q) {w = w} s d =
      let parts = ex_parts (formed_in s p) in
      stable env e w G (λ deny.
      infers_true p s (λ x.
      deny (lower (recs_of env.recs) e (den_term sk_o x.0) w G
      (block_true q (with_hypothesis F (with_value t x.0 s parts.0 x.1) parts.1 x.2) (raised_formed (as_term sk_o) G d)))))
  block_true {env = env} {e = e} (block_open_heap {F = F} {G = G} p q) {w = w} s d =
      let part = ex_heap_part (formed_in s p) in
      stable env e w G (λ deny.
      infers_true p s (λ x.
      deny (lower (recs_of env.recs) e (den_heap x.0) w G
      (block_true q (with_hypothesis F (with_heap x.0 s x.1) part x.2) (raised_formed as_heap G d)))))
  block_true (block_at p) s d = block_true p s d

scene : {env : Environment} {e : HeadEntries} {g : Context} {hs : List FormulaTree} {w : Valuation}
    → Setting env e g w
    → AreCanonical env g hs
    → AreSatisfied env e w hs
    → Scene env e g hs w
scene a d t = record { around = a; formed = d; true = t }

pub inferred : InferredIsSatisfied
inferred env e g w a hs d t p F i = infers_true i (scene a d t)

pub proved : ProvedIsSatisfied
proved = record {
  from_hypotheses = λ env e g w a hs goal d c p i t. proves_true i (scene a d t) c;
  alone = λ env e g w a goal c p i. proves_true i (scene a tt tt) c;
}
