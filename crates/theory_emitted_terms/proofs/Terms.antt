-- The emitted code of terms.
use Rattle.std.proofs.Common.{◌≡◌, ◌≤◌, ℕ, ◌+◌, List, [], ◌∷◌, ◌++◌, length, map, true, false, Some, slice_get, refl, sym, ap, ◌∙◌, subst, arith}
use Rattle.std.proofs.Common.{nat_eq, if◌then◌else◌, append-nil}
use Rattle.htt_syntax.specs.Trees.{MonoTree, TermTree, m_pair, t_snd}
use Rattle.theory_values.specs.Values.{Value, v_pair, width, encoding}
use Rattle.theory_truth.specs.Worlds.{th_value}
use Rattle.theory_truth.specs.TermValue.{term_value}
use Rattle.word_loader_code.specs.declared.code.Function.{Function}
use Rattle.word_loader_code.specs.declared.code.Instr.{Instr}
use Rattle.word_loader_code.specs.declared.code.Instr.TheVariants.{Const, Op, Sel}
use Rattle.word_loader_code.specs.Machine.{words_at, local_at, operation_result}
use Rattle.word_loader_code.specs.Valid.{not_number}
use Rattle.theory_flat.specs.Reading.{value_in}
use Rattle.theory_emission.specs.Terms.{Held, mono_of_term, width_of_term, first_of_pair, second_of_pair, number_of_op, eq_number, emit_term, emit_terms, Emitted, constant}
use Rattle.theory_emission.specs.Terms.{moves, width_of_parts, operation, paired}
use Rattle.theory_emitted_words.specs.Frames.{FrameSite, InstrsAt}
use Rattle.theory_emitted_words.proofs.Steps.{stand_first, stand_second, steps}
use Rattle.theory_emitted_terms.specs.Layouts.{HasLayout, lays_word, lays_bool, lays_loc, lays_unit, lays_pair, lay_none, lay_more}
use Rattle.theory_flat_typed.specs.Typed.{HasMonotype, typed_var, typed_word, typed_bool, typed_loc, typed_unit, typed_pair, typed_fst, typed_snd, typed_not, typed_bin, typed_eq}
use Rattle.theory_flat_typed.specs.Typed.{typed_sel, HaveMonotypes, typed_none, typed_more}
use Rattle.theory_emitted_terms.specs.Held.{ValueAt, ValuesAt, PartsAt, parts_none, parts_more, Brings, BringsAll}
use Rattle.theory_emitted_terms.specs.Laws.{TermsAreEmitted}
use Rattle.theory_emitted_terms.proofs.Values.{typed_layout, layout_width, Computed, op_wide, op_done, eq_done, not_done, sel_done}
use Rattle.theory_emitted_terms.proofs.Held.{hold_on, hold_all_on, found, found_mono, first_part, second_part, goes_none, goes_on, goes_to, end_of, at_new, Both, both}
use Rattle.theory_emitted_terms.proofs.Moves.{moved}

-- no local is given twice
pub grows : {monos : List MonoTree} {term : TermTree} {mono : MonoTree} → HasMonotype monos term mono → (g : List Held) (next : ℕ) → next ≤ (emit_term g next term).next
unfolding emit_term
grows (typed_var q) g next = omega arith
grows (typed_word l) g next = omega arith
grows (typed_bool {truth = true}) g next = omega arith
grows (typed_bool {truth = false}) g next = omega arith
grows (typed_loc l) g next = omega arith
grows typed_unit g next = omega arith
grows (typed_pair {left = left} p q) g next = omega (arith, grows p g next, grows q g (emit_term g next left).next)
grows (typed_fst p) g next = grows p g next
grows (typed_snd p) g next = grows p g next
grows (typed_not p) g next = omega (arith, grows p g next)
grows (typed_bin {left = left} p q) g next = omega (arith, grows p g next, grows q g (emit_term g next left).next)
grows (typed_eq {left = left} c p q) g next = omega (arith, grows p g next, grows q g (emit_term g next left).next)
grows (typed_sel {test = test} {on_true = on_true} k p q r) g next =
    let c = emit_term g next test in
    omega (arith, grows p g next, grows q g c.next, grows r g (emit_term g c.next on_true).next)

pub all_grow : {monos : List MonoTree} {terms : List TermTree} {params : List MonoTree} → HaveMonotypes monos terms params → (g : List Held) (next : ℕ) → next ≤ (emit_terms g next terms).next
unfolding emit_terms
all_grow typed_none g next = omega arith
all_grow (typed_more {term = term} p r) g next = omega (arith, grows p g next, all_grow r g (emit_term g next term).next)

-- emission finds the monotype
pub finds : {locals : List ℕ} {next : ℕ} {g : List Held} {vs : List Value} {monos : List MonoTree} {term : TermTree} {mono : MonoTree}
    → ValuesAt locals next g vs monos
    → HasMonotype monos term mono
    → mono_of_term g term ≡ mono
finds h (typed_var {index = index} q) = found_mono h index q
finds h (typed_word l) = refl
finds h typed_bool = refl
finds h (typed_loc l) = refl
finds h typed_unit = refl
finds h (typed_pair p q) = λ j. m_pair (finds h p j) (finds h q j)
finds h (typed_fst p) = ap first_of_pair (finds h p)
finds h (typed_snd p) = ap second_of_pair (finds h p)
finds h (typed_not p) = refl
finds h (typed_bin p q) = refl
finds h (typed_eq c p q) = refl
finds h (typed_sel k p q r) = refl

module _ (a : FrameSite) (f : Function) (there : slice_get a.code.functions a.number ≡ Some f) (g : List Held) (vs : List Value) (monos : List MonoTree) where
  -- the code of a term of the monotype brings its value
  abbrev Emits : TermTree → MonoTree → Type 0
  Emits term mono =
      (at : ℕ) (locals : List ℕ) (next : ℕ)
      → ValuesAt locals next g vs monos
      → InstrsAt f.body at (emit_term g next term).instrs
      → (emit_term g next term).next ≤ length locals
      → Brings a at locals next (emit_term g next term) (value_in vs term) mono

  last_stands : (at : ℕ) (front : List Instr) (i : Instr) → InstrsAt f.body at (front ++ i ∷ []) → slice_get f.body (at + length front) ≡ Some i
  last_stands at front i stand = (stand_second f.body at front (i ∷ []) stand).0

  brings_constant : {v : Value} {mono : MonoTree} (word : ℕ)
      → HasLayout v mono
      → word ∷ [] ≡ encoding v
      → width mono ≡ 1
      → (at : ℕ) (locals : List ℕ) (next : ℕ)
      → InstrsAt f.body at (Const next word ∷ [])
      → next + 1 ≤ length locals
      → Brings a at locals next (constant next word) v mono
  brings_constant word layout is wide at locals next stand within =
      at_new [] (Const next word) next 1 (word ∷ []) (goes_none (omega arith))
      (steps a f (at + 0) locals (Const next word) there (last_stands at [] (Const next word) stand)) layout is wide (omega arith) within

  pub two : {t u : MonoTree} (left right : TermTree)
      → HasMonotype monos right u
      → Emits left t
      → Emits right u
      → (at : ℕ) (locals : List ℕ) (next : ℕ)
      → ValuesAt locals next g vs monos
      → InstrsAt f.body at ((emit_term g next left).instrs ++ (emit_term g (emit_term g next left).next right).instrs)
      → (emit_term g (emit_term g next left).next right).next ≤ length locals
      → Both a at locals next (emit_term g next left) (emit_term g (emit_term g next left).next right) (value_in vs left) (value_in vs right) t u
  two left right q l r at locals next h stand within =
      let ea = emit_term g next left in
      let eb = emit_term g ea.next right in
      let ra = l at locals next h (stand_first f.body at ea.instrs eb.instrs stand) (omega (arith, grows q g ea.next, within)) in
      both ra
      (r (at + length ea.instrs) ra.after ea.next (hold_all_on h ra.goes.keeps ra.grows) (stand_second f.body at ea.instrs eb.instrs stand)
      (omega (arith, within, ra.goes.long)))

  brings_computed : {at : ℕ} {locals : List ℕ} {next : ℕ} {x y v : Value} {t u mono : MonoTree} (number : ℕ) (ea eb : Emitted)
      → (b : Both a at locals next ea eb x y t u)
      → Computed (operation_result number (local_at b.after ea.place) (local_at b.after eb.place)) v mono
      → width mono ≡ 1
      → InstrsAt f.body at (operation number ea eb).instrs
      → eb.next + 1 ≤ length locals
      → Brings a at locals next (operation number ea eb) v mono
  brings_computed {at = at} number ea eb b c wide stand within =
      let front = ea.instrs ++ eb.instrs in
      let i = Op eb.next number ea.place eb.place in
      at_new front i eb.next 1 (operation_result number (local_at b.after ea.place) (local_at b.after eb.place) ∷ []) b.goes
      (steps a f (at + length front) b.after i there (last_stands at front i stand)) c.layout c.words wide b.grows within

  brings_pair : {at : ℕ} {locals : List ℕ} {next : ℕ} {x y : Value} {t u : MonoTree} (ea eb : Emitted) (m n : ℕ)
      → Both a at locals next ea eb x y t u
      → m ≡ width t
      → n ≡ width u
      → InstrsAt f.body at (paired ea m eb n).instrs
      → eb.next + (m + n) ≤ length locals
      → Brings a at locals next (paired ea m eb n) (v_pair x y) (m_pair t u)
  brings_pair {at = at} {x = x} {y = y} {t = t} {u = u} ea eb m n b left right stand within =
      let parts : List (ℕ × ℕ) = (ea.place, m) ∷ (eb.place, n) ∷ [] in
      let front = ea.instrs ++ eb.instrs in
      let held : PartsAt b.after eb.next parts (encoding x ++ (encoding y ++ [])) =
      parts_more (ap (λ k. words_at b.after ea.place k) left ∙ b.left.words) (layout_width b.left.layout ∙ sym left) (omega (arith, left, b.left.below))
      (parts_more (ap (λ k. words_at b.after eb.place k) right ∙ b.right.words) (layout_width b.right.layout ∙ sym right)
      (omega (arith, right, b.right.below)) parts_none) in
      let wide : width_of_parts parts ≡ width t + width u = omega (arith, left, right) in
      let r =
      moved a f there b.after eb.next held (at + length front) eb.next b.after refl (omega arith) (omega (arith, within, b.goes.long))
      (stand_second f.body at front (moves eb.next parts) stand) in
      record {
        after = r.after;
        goes = goes_to (end_of at front (moves eb.next parts)) (goes_on b.goes r.goes b.grows);
        holds = record {
          layout = lays_pair b.left.layout b.right.layout;
          words = ap (λ k. words_at r.after eb.next k) (sym wide) ∙ r.holds ∙ ap (λ l. encoding x ++ l) (append-nil (encoding y));
          below = omega (arith, left, right);
        };
        grows = omega (arith, b.grows);
      }

  pub emitted : {term : TermTree} {mono : MonoTree} → HasMonotype monos term mono → Emits term mono
  unfolding emit_term term_value
  emitted (typed_var {index = index} q) at locals next h stand within =
      record { after = locals; goes = goes_none (omega arith); holds = found h index q; grows = omega arith }
  emitted (typed_word {word = word} l) at locals next h stand within = brings_constant word lays_word refl refl at locals next stand within
  emitted (typed_bool {truth = true}) at locals next h stand within = brings_constant 1 lays_bool refl refl at locals next stand within
  emitted (typed_bool {truth = false}) at locals next h stand within = brings_constant 0 lays_bool refl refl at locals next stand within
  emitted (typed_loc {place = place} l) at locals next h stand within = brings_constant place lays_loc refl refl at locals next stand within
  emitted typed_unit at locals next h stand within =
      record {
        after = locals;
        goes = goes_none (omega arith);
        holds = record { layout = lays_unit; words = refl; below = omega arith };
        grows = omega arith;
      }
  emitted (typed_pair {left = left} {right = right} {t = t} {u = u} p q) at locals next h stand within =
      let ea = emit_term g next left in
      let eb = emit_term g ea.next right in
      let parts = moves eb.next ((ea.place, width_of_term g left) ∷ (eb.place, width_of_term g right) ∷ []) in
      let b = two left right q (emitted p) (emitted q) at locals next h (stand_first f.body at (ea.instrs ++ eb.instrs) parts stand) (omega (arith, within)) in
      brings_pair ea eb (width_of_term g left) (width_of_term g right) b (ap width (finds h p)) (ap width (finds h q)) stand within
  emitted (typed_fst {pair = pair} p) at locals next h stand within =
      let e = emit_term g next pair in
      let r = emitted p at locals next h stand within in
      record {
        after = r.after;
        goes = r.goes;
        holds = first_part r.holds.layout r.after e.next e.place r.holds.words r.holds.below;
        grows = r.grows;
      }
  emitted (typed_snd {pair = pair} {t = t} {u = u} p) at locals next h stand within =
      let e = emit_term g next pair in
      let r = emitted p at locals next h stand within in
      let wide : width t ≡ width (first_of_pair (mono_of_term g pair)) = sym (ap (λ m. width (first_of_pair m)) (finds h p)) in
      record {
        after = r.after;
        goes = r.goes;
        holds = subst (λ n. ValueAt r.after e.next (e.place + n) (value_in vs (t_snd pair)) u) wide
            (second_part r.holds.layout r.after e.next e.place r.holds.words r.holds.below);
        grows = r.grows;
      }
  emitted (typed_not {term = term} p) at locals next h stand within =
      let e = emit_term g next term in
      let i = Op e.next not_number e.place e.place in
      let r = emitted p at locals next h (stand_first f.body at e.instrs (i ∷ []) stand) (omega (arith, within)) in
      let c = not_done r.after e.place r.holds.layout r.holds.words in
      at_new e.instrs i e.next 1 (operation_result not_number (local_at r.after e.place) (local_at r.after e.place) ∷ []) r.goes
      (steps a f (at + length e.instrs) r.after i there (last_stands at e.instrs i stand)) c.layout c.words refl r.grows within
  emitted (typed_bin {op = op} {left = left} {right = right} p q) at locals next h stand within =
      let ea = emit_term g next left in
      let eb = emit_term g ea.next right in
      let i = Op eb.next (number_of_op op) ea.place eb.place in
      let b = two left right q (emitted p) (emitted q) at locals next h (stand_first f.body at (ea.instrs ++ eb.instrs) (i ∷ []) stand) (omega (arith, within)) in
      brings_computed (number_of_op op) ea eb b
      (op_done b.after ea.place eb.place op b.left.layout b.right.layout b.left.words b.right.words) (op_wide op) stand within
  emitted (typed_eq {left = left} {right = right} c p q) at locals next h stand within =
      let ea = emit_term g next left in
      let eb = emit_term g ea.next right in
      let i = Op eb.next eq_number ea.place eb.place in
      let b = two left right q (emitted p) (emitted q) at locals next h (stand_first f.body at (ea.instrs ++ eb.instrs) (i ∷ []) stand) (omega (arith, within)) in
      brings_computed eq_number ea eb b
      (eq_done b.after ea.place eb.place (map th_value vs) c b.left.layout b.right.layout b.left.words b.right.words) refl stand within
  emitted (typed_sel {t = mono} {test = test} {on_true = on_true} {on_false = on_false} k p q r) at locals next h stand within =
      let ec = emit_term g next test in
      let ea = emit_term g ec.next on_true in
      let eb = emit_term g ea.next on_false in
      let rest = ea.instrs ++ eb.instrs in
      let i = Sel eb.next ec.place ea.place eb.place (width mono) in
      let front = stand_first f.body at (ec.instrs ++ rest) (i ∷ []) stand in
      let room = grows q g ec.next in
      let more = grows r g ea.next in
      let c = emitted p at locals next h (stand_first f.body at ec.instrs rest front) (omega (arith, within, room, more)) in
      let b =
      two on_true on_false r (emitted q) (emitted r) (at + length ec.instrs) c.after ec.next (hold_all_on h c.goes.keeps c.grows) (stand_second f.body at ec.instrs rest front)
      (omega (arith, within, c.goes.long)) in
      let hc = hold_on c.holds b.goes.keeps b.grows in
      let ys = words_at b.after ea.place (width mono) in
      let zs = words_at b.after eb.place (width mono) in
      let d = sel_done b.after ec.place ys zs hc.layout b.left.layout b.right.layout hc.words b.left.words b.right.words in
      at_new (ec.instrs ++ rest) i eb.next (width mono) (if nat_eq (local_at b.after ec.place) 0 then zs else ys)
      (goes_to (end_of at ec.instrs rest) (goes_on c.goes b.goes c.grows))
      (steps a f (at + length (ec.instrs ++ rest)) b.after i there (last_stands at (ec.instrs ++ rest) i stand)) d.layout d.words_are refl
      (omega (arith, c.grows, b.grows)) within

  pub emitted_all : {terms : List TermTree} {params : List MonoTree}
      → HaveMonotypes monos terms params
      → (at : ℕ) (locals : List ℕ) (next : ℕ)
      → ValuesAt locals next g vs monos
      → InstrsAt f.body at (emit_terms g next terms).instrs
      → (emit_terms g next terms).next ≤ length locals
      → BringsAll a at locals next (emit_terms g next terms) (map (value_in vs) terms) params
  unfolding emit_terms
  emitted_all typed_none at locals next h stand within =
      record { after = locals; goes = goes_none (omega arith); layouts = lay_none; parts = parts_none; widths = refl; grows = omega arith }
  emitted_all (typed_more {term = term} {others = terms} {t = mono} p r) at locals next h stand within =
      let e = emit_term g next term in
      let es = emit_terms g e.next terms in
      let room = all_grow r g e.next in
      let first = emitted p at locals next h (stand_first f.body at e.instrs es.instrs stand) (omega (arith, room, within)) in
      let rest =
      emitted_all r (at + length e.instrs) first.after e.next (hold_all_on h first.goes.keeps first.grows) (stand_second f.body at e.instrs es.instrs stand)
      (omega (arith, within, first.goes.long)) in
      let here = hold_on first.holds rest.goes.keeps rest.grows in
      let wide : width_of_term g term ≡ width mono = ap width (finds h p) in
      record {
        after = rest.after;
        goes = goes_to (end_of at e.instrs es.instrs) (goes_on first.goes rest.goes first.grows);
        layouts = lay_more first.holds.layout rest.layouts;
        parts = parts_more (ap (λ k. words_at rest.after e.place k) wide ∙ here.words) (layout_width here.layout ∙ sym wide)
            (omega (arith, wide, here.below)) rest.parts;
        widths = λ j. wide j + rest.widths j;
        grows = omega (arith, first.grows, rest.grows);
      }

pub emitted_terms : TermsAreEmitted
emitted_terms = record {
  typed = λ v mono p. typed_layout p;
  terms = λ a f g vs monos term mono at locals next there p h stand within. emitted a f there g vs monos p at locals next h stand within;
  lists = λ a f g vs monos terms params at locals next there p h stand within. emitted_all a f there g vs monos p at locals next h stand within;
}
