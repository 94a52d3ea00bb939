-- Types and proofs that say something are those of the form.
use Rattle.std.proofs.Common.{◌≡◌, ℕ, List, length, refl, ◌∙◌, ap, arith}
use Rattle.std.specs.Prelude.{None, Some, Option, Bool, true, false, ◌&&◌, nat_le, slice_range, codes}
use Rattle.std.specs.Str.{bytes_eq}
use Rattle.std.proofs.lemmas.Bool.Decides.{nat_tests}
use Rattle.std.proofs.lemmas.Slice.Eq.{bytes_eq-Decides}
use Rattle.htt_parser_trees.specs.declared.place.Span.{Span}
use Rattle.htt_parser_trees.specs.declared.place.Binder.{Binder}
use Rattle.htt_parser_trees.specs.declared.place.Binder.TheVariants as binders
use Rattle.htt_parser_trees.specs.declared.mono.MonoName.TheVariants as mono_names
use Rattle.htt_parser_trees.specs.declared.proof.UnaryRule.{UnaryRule}
use Rattle.htt_parser_trees.specs.declared.proof.UnaryRule.TheVariants as rules
use Rattle.htt_parser_trees.specs.Trees.{RawMonoTree, m_factor, m_pair, m_name, m_brackets, RawTyTree, y_fun, y_all, y_hoare, y_mono, triple_of, a_name}
use Rattle.htt_parser_trees.specs.Trees.{a_number, RawFormulaTree, f_all, f_ex, f_disj, f_implies, d_conj, d_or, j_star, j_and, k_fatom, k_times, RawFatomTree}
use Rattle.htt_parser_trees.specs.Trees.{RawProofTree, p_end, p_step, RawStmtTree, b_intro, b_gen, b_open, b_have, RawEndTree, g_tt, g_ff, g_emp, g_brackets}
use Rattle.htt_parser_trees.specs.Trees.{g_at_heap, g_emp_of, g_same, g_join, g_cell, g_block, g_use, g_use_at, g_use_at_heap, g_eq, g_points, g_points_any}
use Rattle.htt_parser_trees.specs.Trees.{e_name, e_trivial, e_refl, e_unary, e_both, e_give, e_app, e_inst, e_case, e_rewrite, e_induct, e_split, e_axiom}
use Rattle.htt_parser_trees.specs.Trees.{e_unfold, e_lem, e_the}
use Rattle.htt_top_one_form.specs.declared.terms.Operand.{Operand}
use Rattle.htt_top_one_form.specs.declared.terms.Operand.TheVariants as operand
use Rattle.htt_top_one_form.specs.declared.formulas.Claim.{Claim}
use Rattle.htt_top_one_form.specs.declared.formulas.Claim.TheVariants as claims
use Rattle.htt_top_one_form.specs.Form.{IsNamed, lone_rel, lone_formula, the_word, IsClaim, IsProved}
use Rattle.htt_top_one_form.specs.Matching.{where_true, span_reads, atom_operand, appl_operand, prod_operand, rel_operand, is_word, equal_claim, equation}
use Rattle.htt_top_one_form.specs.Matching.{fatom_claim, star_claim, conj_claim, disj_claim, formula_claim, binds, both_claims, triple_claim, claimed}
use Rattle.htt_top_one_form.specs.Matching.{is_name_end, is_hypothesis, is_second, end_place, introduces, proof_place}
use Rattle.htt_top_one_form.proofs.ReadTerms.{none_is, rel_is_name, rel_is_number}

-- ---- tests

false_is : false ≡ true → ⊥
false_is e = cc

pub both : (a b : Bool) → (a && b) ≡ true → (a ≡ true) × (b ≡ true)
both true true e = (refl, refl)
both true false e = absurd (false_is e)
both false b e = absurd (false_is e)

pub where_is : {A : Type 0} (b : Bool) (o : Option A) (x : A) → where_true b o ≡ Some x → (b ≡ true) × (o ≡ Some x)
where_is true o x e = (refl, e)
where_is false o x e = absurd (none_is e)

pub named_is : (text : List ℕ) (x : Span) (word : List ℕ) → span_reads text x word ≡ true → IsNamed text x word
named_is text x word e =
    let h = both (nat_le x.from x.to && nat_le x.to (length text)) (bytes_eq (slice_range text x.from x.to) word) e in
    let k = both (nat_le x.from x.to) (nat_le x.to (length text)) h.0 in
    record {
      ordered = grind (arith, nat_tests, k.0);
      within = grind (arith, nat_tests, k.1);
      bytes = (bytes_eq-Decides (slice_range text x.from x.to) word).0 h.1;
    }

pub named_told : (text : List ℕ) (x : Span) (word : List ℕ) → IsNamed text x word → span_reads text x word ≡ true
named_told text x word is =
    let low : nat_le x.from x.to ≡ true = grind (arith, nat_tests, is.ordered) in
    let high : nat_le x.to (length text) ≡ true = grind (arith, nat_tests, is.within) in
    let same : bytes_eq (slice_range text x.from x.to) word ≡ true = (bytes_eq-Decides (slice_range text x.from x.to) word).1 is.bytes in
    λ j. (low j && high j) && same j

-- ---- claims

is_the_word : (m : RawMonoTree) → is_word m ≡ true → (at : ℕ) × (m ≡ the_word at)
unfolding is_word
is_the_word (m_factor (m_name (mono_names.Word at))) e = (at, refl)
is_the_word (m_factor (m_name (mono_names.Bool at))) e = absurd (false_is e)
is_the_word (m_factor (m_name (mono_names.Loc at))) e = absurd (false_is e)
is_the_word (m_factor (m_name (mono_names.Unit at))) e = absurd (false_is e)
is_the_word (m_factor (m_name (mono_names.Name x))) e = absurd (false_is e)
is_the_word (m_factor (m_brackets at m)) e = absurd (false_is e)
is_the_word (m_pair f m) e = absurd (false_is e)

nothing_is_no_result : (n : ℕ) → Some claims.Nothing ≡ Some (claims.Result n) → ⊥
nothing_is_no_result n e = cc

result_is_something : (n : ℕ) → Some (claims.Result n) ≡ Some claims.Nothing → ⊥
result_is_something n e = cc

same_result : (m n : ℕ) → Some (claims.Result m) ≡ Some (claims.Result n) → m ≡ n
same_result m n e = cc

record IsEqual (text : List ℕ) (l r : Option Operand) (c : Claim) : Type 0 where
  pub name : Span
  pub number : ℕ
  pub left : l ≡ Some (operand.Name name)
  pub right : r ≡ Some (operand.Number number)
  pub named : span_reads text name (codes "x") ≡ true
  pub says : Some (claims.Result number) ≡ Some c

is_equal : (text : List ℕ) (l r : Option Operand) (c : Claim) → equal_claim text l r ≡ Some c → IsEqual text l r c
is_equal text None r c e = absurd (none_is e)
is_equal text (Some (operand.Number n)) r c e = absurd (none_is e)
is_equal text (Some (operand.Name x)) None c e = absurd (none_is e)
is_equal text (Some (operand.Name x)) (Some (operand.Name y)) c e = absurd (none_is e)
is_equal text (Some (operand.Name x)) (Some (operand.Number n)) c e =
    let h = where_is (span_reads text x (codes "x")) (Some (claims.Result n)) c e in
    record { name = x; number = n; left = refl; right = refl; named = h.0; says = h.1 }

is_true_fatom : (text : List ℕ) (f : RawFatomTree) → fatom_claim text f ≡ Some claims.Nothing → (at : ℕ) × (f ≡ g_tt at)
unfolding fatom_claim
is_true_fatom text (g_tt at) e = (at, refl)
is_true_fatom text (g_eq l m r) e =
    let h = where_is (is_word m) (equation text l r) claims.Nothing e in
    let k = is_equal text (rel_operand l) (rel_operand r) claims.Nothing h.1 in
    absurd (result_is_something k.number k.says)
is_true_fatom text (g_ff at) e = absurd (none_is e)
is_true_fatom text (g_emp at) e = absurd (none_is e)
is_true_fatom text (g_brackets at f) e = absurd (none_is e)
is_true_fatom text (g_at_heap at h f) e = absurd (none_is e)
is_true_fatom text (g_emp_of at h) e = absurd (none_is e)
is_true_fatom text (g_same at g h) e = absurd (none_is e)
is_true_fatom text (g_join at g h k) e = absurd (none_is e)
is_true_fatom text (g_cell at m h t u) e = absurd (none_is e)
is_true_fatom text (g_block at m h t) e = absurd (none_is e)
is_true_fatom text (g_use at x ms ts) e = absurd (none_is e)
is_true_fatom text (g_use_at at x t ts) e = absurd (none_is e)
is_true_fatom text (g_use_at_heap at x h t ts) e = absurd (none_is e)
is_true_fatom text (g_points l m r) e = absurd (none_is e)
is_true_fatom text (g_points_any l m) e = absurd (none_is e)

record IsEquation (text : List ℕ) (f : RawFatomTree) (n : ℕ) : Type 0 where
  pub name : Span
  pub sort_at : ℕ
  pub number_at : ℕ
  pub tree : f ≡ g_eq (lone_rel (a_name name)) (the_word sort_at) (lone_rel (a_number number_at n))
  pub named : IsNamed text name (codes "x")

is_equation : (text : List ℕ) (f : RawFatomTree) (n : ℕ) → fatom_claim text f ≡ Some (claims.Result n) → IsEquation text f n
unfolding fatom_claim
is_equation text (g_tt at) n e = absurd (nothing_is_no_result n e)
is_equation text (g_eq l m r) n e =
    let h = where_is (is_word m) (equation text l r) (claims.Result n) e in
    let w = is_the_word m h.0 in
    let k = is_equal text (rel_operand l) (rel_operand r) (claims.Result n) h.1 in
    let a = rel_is_name l k.name k.left in
    let b = rel_is_number r n (k.right ∙ ap (λ i. Some (operand.Number i)) (same_result k.number n k.says)) in
    record { name = k.name; sort_at = w.0; number_at = b.0; tree = λ j. g_eq (a j) (w.1 j) (b.1 j); named = named_is text k.name (codes "x") k.named }
is_equation text (g_ff at) n e = absurd (none_is e)
is_equation text (g_emp at) n e = absurd (none_is e)
is_equation text (g_brackets at f) n e = absurd (none_is e)
is_equation text (g_at_heap at h f) n e = absurd (none_is e)
is_equation text (g_emp_of at h) n e = absurd (none_is e)
is_equation text (g_same at g h) n e = absurd (none_is e)
is_equation text (g_join at g h k) n e = absurd (none_is e)
is_equation text (g_cell at m h t u) n e = absurd (none_is e)
is_equation text (g_block at m h t) n e = absurd (none_is e)
is_equation text (g_use at x ms ts) n e = absurd (none_is e)
is_equation text (g_use_at at x t ts) n e = absurd (none_is e)
is_equation text (g_use_at_heap at x h t ts) n e = absurd (none_is e)
is_equation text (g_points l m r) n e = absurd (none_is e)
is_equation text (g_points_any l m) n e = absurd (none_is e)

pub record LoneFormula (text : List ℕ) (f : RawFormulaTree) (c : Claim) : Type 0 where
  pub fatom : RawFatomTree
  pub whole : f ≡ lone_formula fatom
  pub said : fatom_claim text fatom ≡ Some c

formula_alone : (text : List ℕ) (f : RawFormulaTree) (c : Claim) → formula_claim text f ≡ Some c → LoneFormula text f c
unfolding formula_claim disj_claim conj_claim star_claim
formula_alone text (f_disj (d_conj (j_star (k_fatom f)))) c e = record { fatom = f; whole = refl; said = e }
formula_alone text (f_disj (d_conj (j_star (k_times f s)))) c e = absurd (none_is e)
formula_alone text (f_disj (d_conj (j_and s j))) c e = absurd (none_is e)
formula_alone text (f_disj (d_or j d)) c e = absurd (none_is e)
formula_alone text (f_all at b s f) c e = absurd (none_is e)
formula_alone text (f_ex at b s f) c e = absurd (none_is e)
formula_alone text (f_implies d f) c e = absurd (none_is e)

told_claims : (p q : Option Claim) (n : ℕ) → both_claims p q ≡ Some n → (p ≡ Some claims.Nothing) × (q ≡ Some (claims.Result n))
told_claims None q n e = absurd (none_is e)
told_claims (Some (claims.Result m)) q n e = absurd (none_is e)
told_claims (Some claims.Nothing) None n e = absurd (none_is e)
told_claims (Some claims.Nothing) (Some claims.Nothing) n e = absurd (none_is e)
told_claims (Some claims.Nothing) (Some (claims.Result m)) n e = (refl, ap (λ (o : Option ℕ). by_number o) e)
  where
    by_number : Option ℕ → Option Claim
    by_number None = None
    by_number (Some k) = Some (claims.Result k)

bound_is : (text : List ℕ) (b : Binder) (word : List ℕ) → binds text b word ≡ true → (x : Span) × (b ≡ binders.Name x) × IsNamed text x word
bound_is text (binders.Name x) word e = (x, refl, named_is text x word e)
bound_is text binders.Blank word e = absurd (false_is e)

pub is_claim : (text : List ℕ) (a : RawTyTree) (n : ℕ) → claimed text a ≡ Some n → IsClaim text a n
unfolding claimed triple_claim
is_claim text (y_hoare at (triple_of pre b m post)) n e =
    let h = where_is (binds text b (codes "x") && is_word m) (both_claims (formula_claim text pre) (formula_claim text post)) n e in
    let t = both (binds text b (codes "x")) (is_word m) h.0 in
    let x = bound_is text b (codes "x") t.0 in
    let w = is_the_word m t.1 in
    let c = told_claims (formula_claim text pre) (formula_claim text post) n h.1 in
    let p = formula_alone text pre claims.Nothing c.0 in
    let q = formula_alone text post (claims.Result n) c.1 in
    let u = is_true_fatom text p.fatom p.said in
    let v = is_equation text q.fatom n q.said in
    record {
      result = x.0;
      claimed = v.name;
      at = at;
      tt_at = u.0;
      word_at = w.0;
      sort_at = v.sort_at;
      number_at = v.number_at;
      tree = λ j. y_hoare at (triple_of ((p.whole ∙ ap lone_formula u.1) j) (x.1 j) (w.1 j) ((q.whole ∙ ap lone_formula v.tree) j));
      result_named = x.2;
      claimed_named = v.named;
    }
is_claim text (y_fun at b a c) n e = absurd (none_is e)
is_claim text (y_all at x a) n e = absurd (none_is e)
is_claim text (y_mono m) n e = absurd (none_is e)

-- ---- proofs

pub is_named_end : (text : List ℕ) (e : RawEndTree) → is_name_end text e ≡ true → (x : Span) × (e ≡ e_name x) × IsNamed text x (codes "u")
unfolding is_name_end
is_named_end text (e_name x) e = (x, refl, named_is text x (codes "u") e)
is_named_end text (e_trivial at) e = absurd (false_is e)
is_named_end text (e_refl at) e = absurd (false_is e)
is_named_end text (e_unary at rule p) e = absurd (false_is e)
is_named_end text (e_both at p q) e = absurd (false_is e)
is_named_end text (e_give at a p) e = absurd (false_is e)
is_named_end text (e_app at p q ps) e = absurd (false_is e)
is_named_end text (e_inst at p a args) e = absurd (false_is e)
is_named_end text (e_case at p x q y r) e = absurd (false_is e)
is_named_end text (e_rewrite at p m q) e = absurd (false_is e)
is_named_end text (e_induct at m t p b x y q) e = absurd (false_is e)
is_named_end text (e_split at m t p q) e = absurd (false_is e)
is_named_end text (e_axiom at x ms args) e = absurd (false_is e)
is_named_end text (e_unfold at x k a args) e = absurd (false_is e)
is_named_end text (e_lem at f) e = absurd (false_is e)
is_named_end text (e_the at f p) e = absurd (false_is e)

is_used : (text : List ℕ) (p : RawProofTree) → is_hypothesis text p ≡ true → (x : Span) × (p ≡ p_end (e_name x)) × IsNamed text x (codes "u")
unfolding is_hypothesis
is_used text (p_end f) e = let h = is_named_end text f e in (h.0, ap p_end h.1, h.2)
is_used text (p_step s p) e = absurd (false_is e)

is_the_rule : (rule : UnaryRule) → is_second rule ≡ true → rule ≡ rules.Second
is_the_rule rules.Second e = refl
is_the_rule rules.First e = absurd (false_is e)
is_the_rule rules.Left e = absurd (false_is e)
is_the_rule rules.Right e = absurd (false_is e)
is_the_rule rules.Absurd e = absurd (false_is e)

same_place : (m n : ℕ) → Some m ≡ Some n → m ≡ n
same_place m n e = cc

is_end : (text : List ℕ) (e : RawEndTree) (n : ℕ)
    → end_place text e ≡ Some n
    → (x : Span) × (e ≡ e_unary n rules.Second (p_end (e_name x))) × IsNamed text x (codes "u")
unfolding end_place
is_end text (e_unary at rule p) n e =
    let h = where_is (is_second rule && is_hypothesis text p) (Some at) n e in
    let t = both (is_second rule) (is_hypothesis text p) h.0 in
    let u = is_used text p t.1 in
    (u.0, (λ j. e_unary (same_place at n h.1 j) (is_the_rule rule t.0 j) (u.1 j)), u.2)
is_end text (e_name x) n e = absurd (none_is e)
is_end text (e_trivial at) n e = absurd (none_is e)
is_end text (e_refl at) n e = absurd (none_is e)
is_end text (e_both at p q) n e = absurd (none_is e)
is_end text (e_give at a p) n e = absurd (none_is e)
is_end text (e_app at p q ps) n e = absurd (none_is e)
is_end text (e_inst at p a args) n e = absurd (none_is e)
is_end text (e_case at p x q y r) n e = absurd (none_is e)
is_end text (e_rewrite at p m q) n e = absurd (none_is e)
is_end text (e_induct at m t p b x y q) n e = absurd (none_is e)
is_end text (e_split at m t p q) n e = absurd (none_is e)
is_end text (e_axiom at x ms args) n e = absurd (none_is e)
is_end text (e_unfold at x k a args) n e = absurd (none_is e)
is_end text (e_lem at f) n e = absurd (none_is e)
is_end text (e_the at f p) n e = absurd (none_is e)

is_introduced : (text : List ℕ) (s : RawStmtTree) → introduces text s ≡ true → (at : ℕ) × (x : Span) × (s ≡ b_intro at x) × IsNamed text x (codes "u")
unfolding introduces
is_introduced text (b_intro at x) e = (at, x, refl, named_is text x (codes "u") e)
is_introduced text (b_gen at b) e = absurd (false_is e)
is_introduced text (b_open at b x p) e = absurd (false_is e)
is_introduced text (b_have at x f p) e = absurd (false_is e)

pub is_proved : (text : List ℕ) (p : RawProofTree) (n : ℕ) → proof_place text p ≡ Some n → IsProved text p n
unfolding proof_place
is_proved text (p_step s (p_end f)) n e =
    let h = where_is (introduces text s) (end_place text f) n e in
    let i = is_introduced text s h.0 in
    let k = is_end text f n h.1 in
    record { at = i.0; bound = i.1; used = k.0; tree = λ j. p_step (i.2 j) (p_end (k.1 j)); bound_named = i.3; used_named = k.2 }
is_proved text (p_step s (p_step t p)) n e = absurd (none_is e)
is_proved text (p_end f) n e = absurd (none_is e)

-- ---- and the form's own say it

abbrev by_tests : Bool → Bool → ℕ → Option ℕ
by_tests b c n = where_true (b && true) (both_claims (Some claims.Nothing) (where_true true (where_true c (Some (claims.Result n)))))

pub claim_told : (text : List ℕ) (a : RawTyTree) (n : ℕ) → IsClaim text a n → claimed text a ≡ Some n
unfolding claimed triple_claim formula_claim disj_claim conj_claim star_claim fatom_claim is_word rel_operand prod_operand appl_operand atom_operand
claim_told text a n is =
    ap (claimed text) is.tree
    ∙ (λ j. by_tests (named_told text is.result (codes "x") is.result_named j) (named_told text is.claimed (codes "x") is.claimed_named j) n)

pub proof_told : (text : List ℕ) (p : RawProofTree) (n : ℕ) → IsProved text p n → proof_place text p ≡ Some n
unfolding proof_place introduces end_place is_hypothesis is_name_end
proof_told text p n is =
    ap (proof_place text) is.tree
    ∙ (λ j.
    where_true (named_told text is.bound (codes "u") is.bound_named j)
    (where_true (true && named_told text is.used (codes "u") is.used_named j) (Some n)))
