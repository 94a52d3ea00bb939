-- Emitted terms: each has its place, and its instructions are good.
use Rattle.std.proofs.Common.{◌≡◌, ◌≤◌, ℕ, ◌+◌, List, [], ◌∷◌, ◌++◌, All, true, false, refl, ap, arith}
use Rattle.std.proofs.lemmas.List.Elements.{All-nil}
use Rattle.htt_syntax.specs.declared.mono.Op.{Op as Operation}
use Rattle.htt_syntax.specs.declared.mono.Op.TheVariants as ops
use Rattle.htt_syntax.specs.Trees.{MonoTree, TermTree, m_word, m_bool, m_pair}
use Rattle.theory_values.specs.Values.{width, op_mono}
use Rattle.word_loader_code.specs.declared.code.Code.{Code}
use Rattle.word_loader_code.specs.declared.code.Function.{Function}
use Rattle.word_loader_code.specs.declared.code.Instr.TheVariants.{Const, Mov, Op, Sel}
use Rattle.word_loader_code.specs.Valid.{not_number, IsOperation}
use Rattle.theory_flat_typed.specs.Typed.{HasMonotype, HaveMonotypes, typed_var, typed_word, typed_bool, typed_loc, typed_unit, typed_pair, typed_fst, typed_snd}
use Rattle.theory_flat_typed.specs.Typed.{typed_not, typed_bin, typed_eq, typed_sel, typed_none, typed_more}
use Rattle.theory_emission.specs.Terms.{Held, first_of_pair, second_of_pair, mono_of_term, width_of_term, number_of_op, eq_number, Emitted, operation}
use Rattle.theory_emission.specs.Terms.{paired, selected, emit_term, EmittedTerms, emit_terms, moves, width_of_parts}
use Rattle.theory_emission.specs.Bodies.{width_of_monos}
use Rattle.theory_emission_valid.proofs.Standing.{IsGood, one_good, more_good, both_good, AreBelow, below_more, monos_of, held_is, held_below, Stands}

-- the monotype that emission finds is the term's
pub mono_found : (g : List Held) {term : TermTree} {t : MonoTree} → HasMonotype (monos_of g) term t → mono_of_term g term ≡ t
mono_found g (typed_var {index = index} {t = t} q) = held_is g index t q
mono_found g (typed_word q) = refl
mono_found g typed_bool = refl
mono_found g (typed_loc q) = refl
mono_found g typed_unit = refl
mono_found g (typed_pair a b) = λ j. m_pair (mono_found g a j) (mono_found g b j)
mono_found g (typed_fst a) = ap first_of_pair (mono_found g a)
mono_found g (typed_snd a) = ap second_of_pair (mono_found g a)
mono_found g (typed_not a) = refl
mono_found g (typed_bin a b) = refl
mono_found g (typed_eq c a b) = refl
mono_found g (typed_sel c a b d) = refl

pub width_found : (g : List Held) {term : TermTree} {t : MonoTree} → HasMonotype (monos_of g) term t → width_of_term g term ≡ width t
width_found g a = ap width (mono_found g a)

op_width : (op : Operation) → width (op_mono op) ≡ 1
op_width ops.Add = refl
op_width ops.Sub = refl
op_width ops.Mul = refl
op_width ops.And = refl
op_width ops.Or = refl
op_width ops.Xor = refl
op_width ops.Shl = refl
op_width ops.Shr = refl
op_width ops.Lt = refl

op_number : (op : Operation) → number_of_op op ≤ 8
op_number ops.Add = omega arith
op_number ops.Sub = omega arith
op_number ops.Mul = omega arith
op_number ops.And = omega arith
op_number ops.Or = omega arith
op_number ops.Xor = omega arith
op_number ops.Shl = omega arith
op_number ops.Shr = omega arith
op_number ops.Lt = omega arith

-- an operation of two places
two_places : (number a b : ℕ) → number ≤ 9 → IsOperation number a b
two_places number a b l = record { known = omega (arith, l); one_place = λ q. absurd (omega (arith, l, q)) }

module _ (code : Code) (f : Function) where
  -- an operation on places that are there
  operated : (next number : ℕ) (t u v : MonoTree) (a b : Emitted)
      → number ≤ 9
      → width v ≡ 1
      → Stands code f next t a
      → Stands code f a.next u b
      → Stands code f next v (operation number a b)
  operated next number t u v a b l one s r =
      let a_grows = s.grows in
      let b_grows = r.grows in
      let a_room = s.room in
      let b_room = r.room in
      record {
        grows = omega (arith, a_grows, b_grows);
        room = omega (arith, one);
        good = λ within.
            both_good code f (a.instrs ++ b.instrs) (Op b.next number a.place b.place ∷ [])
            (both_good code f a.instrs b.instrs (s.good (omega (arith, within, b_grows))) (r.good (omega (arith, within))))
            (one_good code f (Op b.next number a.place b.place)
            (omega (arith, within), two_places number a.place b.place l, omega (arith, within, a_room, b_grows), omega (arith, within, b_room)) tt);
      }

  pub term_stands : (g : List Held) (next : ℕ) {term : TermTree} {t : MonoTree}
      → AreBelow next g
      → HasMonotype (monos_of g) term t
      → Stands code f next t (emit_term g next term)
  unfolding emit_term
  term_stands g next b (typed_var {index = index} {t = t} q) =
      record { grows = omega arith; room = held_below g index next t b q; good = λ within. All-nil (IsGood code f) }
  term_stands g next b (typed_word {word = word} q) =
      record { grows = omega arith; room = omega arith; good = λ within. one_good code f (Const next word) within q }
  term_stands g next b (typed_bool {truth = true}) =
      record { grows = omega arith; room = omega arith; good = λ within. one_good code f (Const next 1) within (omega arith) }
  term_stands g next b (typed_bool {truth = false}) =
      record { grows = omega arith; room = omega arith; good = λ within. one_good code f (Const next 0) within (omega arith) }
  term_stands g next b (typed_loc {place = place} q) =
      record { grows = omega arith; room = omega arith; good = λ within. one_good code f (Const next place) within q }
  term_stands g next b typed_unit = record { grows = omega arith; room = omega arith; good = λ within. All-nil (IsGood code f) }
  term_stands g next b (typed_pair {left = left} {right = right} {t = t} {u = u} x y) =
      let e = emit_term g next left in
      let s = term_stands g next b x in
      let r = term_stands g e.next (below_more next e.next g s.grows b) y in
      pair e (emit_term g e.next right) (width_of_term g left) (width_of_term g right) (width_found g x) (width_found g y) s r
    where
      pair : (e k : Emitted) (first second : ℕ)
          → first ≡ width t
          → second ≡ width u
          → Stands code f next t e
          → Stands code f e.next u k
          → Stands code f next (m_pair t u) (paired e first k second)
      pair e k first second p q s r =
          let e_grows = s.grows in
          let k_grows = r.grows in
          let e_room = s.room in
          let k_room = r.room in
          record {
            grows = omega (arith, e_grows, k_grows);
            room = omega (arith, p, q);
            good = λ within.
                both_good code f (e.instrs ++ k.instrs) (Mov k.next e.place first ∷ Mov (k.next + first) k.place second ∷ [])
                (both_good code f e.instrs k.instrs (s.good (omega (arith, within, k_grows))) (r.good (omega (arith, within))))
                (more_good code f (Mov k.next e.place first) (Mov (k.next + first) k.place second ∷ [])
                (omega (arith, within), omega (arith, within, e_room, k_grows, p)) tt
                (one_good code f (Mov (k.next + first) k.place second) (omega (arith, within), omega (arith, within, k_room, q)) tt));
          }
  term_stands g next b (typed_fst {pair = pair} {t = t} {u = u} x) =
      let s = term_stands g next b x in
      let room = s.room in
      record { grows = s.grows; room = omega (arith, room); good = s.good }
  term_stands g next b (typed_snd {pair = pair} {t = t} {u = u} x) =
      let s = term_stands g next b x in
      let room = s.room in
      let q : width (first_of_pair (mono_of_term g pair)) ≡ width t = ap (λ m. width (first_of_pair m)) (mono_found g x) in
      record { grows = s.grows; room = omega (arith, room, q); good = s.good }
  term_stands g next b (typed_not {term = term} x) =
      let s = term_stands g next b x in
      let e = emit_term g next term in
      let grows = s.grows in
      let room = s.room in
      record {
        grows = omega (arith, grows);
        room = omega arith;
        good = λ within.
            both_good code f e.instrs (Op e.next not_number e.place e.place ∷ []) (s.good (omega (arith, within)))
            (one_good code f (Op e.next not_number e.place e.place)
            (omega (arith, within), record { known = omega arith; one_place = λ q. refl }, omega (arith, within, room), omega (arith, within, room)) tt);
      }
  term_stands g next b (typed_bin {op = op} {left = left} {right = right} x y) =
      let e = emit_term g next left in
      let s = term_stands g next b x in
      let l = op_number op in
      operated next (number_of_op op) m_word m_word (op_mono op) e (emit_term g e.next right) (omega (arith, l)) (op_width op) s
      (term_stands g e.next (below_more next e.next g s.grows b) y)
  term_stands g next b (typed_eq {t = t} {left = left} {right = right} c x y) =
      let e = emit_term g next left in
      let s = term_stands g next b x in
      operated next eq_number t t m_bool e (emit_term g e.next right) (omega arith) refl s
      (term_stands g e.next (below_more next e.next g s.grows b) y)
  term_stands g next b (typed_sel {t = t} {test = test} {on_true = on_true} {on_false = on_false} closed x y z) =
      let c = emit_term g next test in
      let r = term_stands g next b x in
      let k = emit_term g c.next on_true in
      let s = term_stands g c.next (below_more next c.next g r.grows b) y in
      let below = below_more c.next k.next g s.grows (below_more next c.next g r.grows b) in
      select c k (emit_term g k.next on_false) r s (term_stands g k.next below z)
    where
      select : (c x y : Emitted)
          → Stands code f next m_bool c
          → Stands code f c.next t x
          → Stands code f x.next t y
          → Stands code f next t (selected (width t) c x y)
      select c x y r s k =
          let c_grows = r.grows in
          let x_grows = s.grows in
          let y_grows = k.grows in
          let c_room = r.room in
          let x_room = s.room in
          let y_room = k.room in
          record {
            grows = omega (arith, c_grows, x_grows, y_grows);
            room = omega arith;
            good = λ within.
                both_good code f (c.instrs ++ (x.instrs ++ y.instrs)) (Sel y.next c.place x.place y.place (width t) ∷ [])
                (both_good code f c.instrs (x.instrs ++ y.instrs) (r.good (omega (arith, within, x_grows, y_grows)))
                (both_good code f x.instrs y.instrs (s.good (omega (arith, within, y_grows))) (k.good (omega (arith, within)))))
                (one_good code f (Sel y.next c.place x.place y.place (width t)) (
                  omega (arith, within),
                  omega (arith, within, c_room, x_grows, y_grows),
                  omega (arith, within, x_room, y_grows),
                  omega (arith, within, y_room),
                ) tt);
          }

-- ---- terms in order

abbrev pub PartsBelow : ℕ → List (ℕ × ℕ) → Type 0
PartsBelow next [] = Unit {0}
PartsBelow next (part ∷ others) = (part.0 + part.1 ≤ next) × PartsBelow next others

parts_more : (next more : ℕ) (parts : List (ℕ × ℕ)) → next ≤ more → PartsBelow next parts → PartsBelow more parts
parts_more next more [] l b = tt
parts_more next more (part ∷ others) l b = let here = b.0 in (omega (arith, l, here), parts_more next more others l (b.1))

pub record StandAll (code : Code) (f : Function) (next : ℕ) (ts : List MonoTree) (e : EmittedTerms) : Type 0 where
  pub grows : next ≤ e.next
  pub room : PartsBelow e.next e.parts
  pub widths : width_of_parts e.parts ≡ width_of_monos ts
  pub good : e.next ≤ f.locals → All (IsGood code f) e.instrs

module _ (code : Code) (f : Function) where
  pub terms_stand : (g : List Held) (next : ℕ) {terms : List TermTree} {ts : List MonoTree}
      → AreBelow next g
      → HaveMonotypes (monos_of g) terms ts
      → StandAll code f next ts (emit_terms g next terms)
  unfolding emit_terms
  terms_stand g next b typed_none = record { grows = omega arith; room = tt; widths = refl; good = λ within. All-nil (IsGood code f) }
  terms_stand g next b (typed_more {term = term} {others = others} {t = t} {ts = ts} x y) =
      let e = emit_term g next term in
      let s = term_stands code f g next b x in
      let k = emit_terms g e.next others in
      let r = terms_stand g e.next (below_more next e.next g s.grows b) y in
      let e_grows = s.grows in
      let k_grows = r.grows in
      let e_room = s.room in
      let p = width_found g x in
      let q = r.widths in
      record {
        grows = omega (arith, e_grows, k_grows);
        room = (omega (arith, e_room, k_grows, p), r.room);
        widths = omega (arith, p, q);
        good = λ within. both_good code f e.instrs k.instrs (s.good (omega (arith, within, k_grows))) (r.good within);
      }

  -- parts that are moved side by side
  pub moves_good : (next d : ℕ) (parts : List (ℕ × ℕ))
      → PartsBelow next parts
      → next ≤ f.locals
      → d + width_of_parts parts ≤ f.locals
      → All (IsGood code f) (moves d parts)
  moves_good next d [] b l within = All-nil (IsGood code f)
  moves_good next d (part ∷ others) b l within =
      let here = b.0 in
      more_good code f (Mov d (part.0) (part.1)) (moves (d + part.1) others) (omega (arith, within), omega (arith, here, l)) tt
      (moves_good next (d + part.1) others (b.1) l (omega (arith, within)))
