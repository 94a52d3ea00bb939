-- Tests and their branches.
use Rattle.std.proofs.Common.{◌≡◌, ◌≤◌, ℕ, suc, ◌+◌, List, [], ◌∷◌, ◌++◌, length, take, Bool, true, false, nat_eq, if◌then◌else◌}
use Rattle.std.proofs.Common.{sym, ap, ◌∙◌, subst, arith, length-append}
use Rattle.htt_syntax.specs.Trees.{MonoTree, TermTree, m_bool}
use Rattle.theory_values.specs.Values.{Value, v_bool, width, encoding}
use Rattle.theory_values.specs.Heaps.{Heap}
use Rattle.theory_denotation.specs.Outcomes.{Outcome, ended, branch_outcome}
use Rattle.word_loader_code.specs.declared.code.Instr.{Instr}
use Rattle.word_loader_code.specs.declared.code.Instr.TheVariants.{Mov, Jump, Jz}
use Rattle.word_loader_code.specs.Machine.{Machine, local_at, words_at, with_words}
use Rattle.theory_flat.specs.Flat.{FlatTree, flat_if}
use Rattle.theory_flat.specs.Reading.{value_in, flat_outcome}
use Rattle.theory_emission.specs.Terms.{Held, Emitted, emit_term}
use Rattle.theory_emission.specs.Bodies.{is_held, is_tail}
use Rattle.theory_emission.specs.Bodies.{tested, first_branch, second_branch, step_end, joined, emit_flat}
use Rattle.theory_emitted_words.specs.Frames.{machine_at, Leads, InstrsAt}
use Rattle.theory_emitted_words.proofs.Words.{one, agree_less}
use Rattle.theory_emitted_words.proofs.Steps.{leads_one, leads_on, stand_first, stand_second, steps}
use Rattle.theory_flat_typed.specs.Typed.{HasMonotype}
use Rattle.theory_emitted_terms.specs.Held.{ValuesAt}
use Rattle.theory_emitted_terms.proofs.Held.{hold_all_on}
use Rattle.theory_emitted_terms.proofs.Terms.{emitted}
use Rattle.theory_flat_typed.specs.Typed.{IsTyped}
use Rattle.theory_emitted_bodies.specs.Comes.{ComesTo}
use Rattle.theory_emitted_bodies.proofs.Grows.{flat_grows}
use Rattle.theory_emitted_bodies.proofs.Comes.{comes_after, comes_through}
use Rattle.theory_emitted_bodies.proofs.Steps.{Landing, last_stands, lands_new}
use Rattle.theory_emitted_bodies.proofs.Endings.{a_bool}
use Rattle.theory_emitted_bodies.proofs.Frames.{Within, code, base, here, FlatComes, StepComes, LastComes}

module _ (own : Within) where
  -- a test, and then one of two branches
  record Tested (at : ℕ) (locals : List ℕ) (next : ℕ) (h : Heap) (cs : List ℕ) (c : Emitted) (target : ℕ) (v : Value) : Type 0 where
    after : List ℕ
    truth : Bool
    is : v ≡ v_bool truth
    leads : Leads (code own) (machine_at (here own h cs) at locals) (if truth then machine_at (here own h cs) (first_branch at c) after else machine_at (here own h cs) target after)
    keeps : take next after ≡ take next locals
    long : length after ≡ length locals
    grows : next ≤ c.next

  test_goes : {test : TermTree} {monos : List MonoTree}
      → HasMonotype monos test m_bool
      → (g : List Held) (vs : List Value) (at : ℕ) (locals : List ℕ) (next : ℕ) (h : Heap) (cs : List ℕ) (target : ℕ)
      → ValuesAt locals next g vs monos
      → InstrsAt own.f.body at (tested (emit_term g next test) target)
      → (emit_term g next test).next ≤ length locals
      → Tested at locals next h cs (emit_term g next test) target (value_in vs test)
  test_goes {test = test} {monos = monos} p g vs at locals next h cs target hold stand within =
      let c = emit_term g next test in
      let i = Jz c.place target in
      let r = emitted (here own h cs) own.f own.there g vs monos p at locals next hold (stand_first own.f.body at c.instrs (i ∷ []) stand) within in
      let s = steps (here own h cs) own.f (at + length c.instrs) r.after i own.there (last_stands own.f.body at c.instrs i stand) in
      let b = a_bool r.holds.layout in
      record {
        after = r.after;
        truth = b.0;
        is = b.1;
        leads = leads_on r.goes.leads (leads_one (s ∙ jumps (b.0) r.after (r.holds.words ∙ ap encoding (b.1))));
        keeps = r.goes.keeps;
        long = r.goes.long;
        grows = r.grows;
      }
    where
      jumps : (b : Bool) (l : List ℕ)
          → words_at l (emit_term g next test).place 1 ≡ encoding (v_bool b)
          → (if nat_eq (local_at l (emit_term g next test).place) 0 then machine_at (here own h cs) target l
          else machine_at (here own h cs) (at + length (emit_term g next test).instrs + 1) l)
          ≡ (if b then machine_at (here own h cs) (first_branch at (emit_term g next test)) l else machine_at (here own h cs) target l)
      jumps true l q =
          ap (λ k. if nat_eq k 0 then machine_at (here own h cs) target l else machine_at (here own h cs) (at + length (emit_term g next test).instrs + 1) l)
          (one l (emit_term g next test).place 1 q)
      jumps false l q =
          ap (λ k. if nat_eq k 0 then machine_at (here own h cs) target l else machine_at (here own h cs) (at + length (emit_term g next test).instrs + 1) l)
          (one l (emit_term g next test).place 0 q)

  branches : {Ends : Value → Heap → List ℕ → Machine → Type 0} {m x y : Machine} {v : Value} {o p : Outcome} (b : Bool)
      → v ≡ v_bool b
      → Leads (code own) m (if b then x else y)
      → ComesTo (code own) (suc own.fuel) Ends x o
      → ComesTo (code own) (suc own.fuel) Ends y p
      → ComesTo (code own) (suc own.fuel) Ends m (branch_outcome v o p)
  branches {Ends = Ends} {m = m} {o = o} {p = p} true q l c d = subst (λ v. ComesTo (code own) (suc own.fuel) Ends m (branch_outcome v o p)) (sym q) (comes_after l c)
  branches {Ends = Ends} {m = m} {o = o} {p = p} false q l c d = subst (λ v. ComesTo (code own) (suc own.fuel) Ends m (branch_outcome v o p)) (sym q) (comes_after l d)

  stand_to : (at other : ℕ) (is : List Instr) → at ≡ other → InstrsAt own.f.body at is → InstrsAt own.f.body other is
  stand_to at other is q s = subst (λ k. InstrsAt own.f.body k is) q s

  pub last_if : {monos : List MonoTree} {mono : MonoTree} {test : TermTree} {on_true on_false : FlatTree}
      → HasMonotype monos test m_bool
      → IsTyped own.instances monos on_true mono
      → IsTyped own.instances monos on_false mono
      → FlatComes own on_true monos mono
      → FlatComes own on_false monos mono
      → LastComes own (flat_if mono test on_true on_false) monos mono
  unfolding emit_flat flat_outcome
  last_if {test = test} {on_true = on_true} {on_false = on_false} p q r x y ends fits g vs at locals next h cs hold stand within =
      let c = emit_term g next test in
      let a = emit_flat own.instances is_tail g c.next (first_branch at c) on_true in
      let target = second_branch at c a 0 in
      let b = emit_flat own.instances is_tail g a.next target on_false in
      let ga = flat_grows q is_tail g c.next (first_branch at c) in
      let gb = flat_grows r is_tail g a.next target in
      let test_code = tested c target in
      let t = test_goes p g vs at locals next h cs target hold (stand_first own.f.body at test_code (a.instrs ++ b.instrs) stand) (omega (arith, ga, gb, within)) in
      let long = length-append c.instrs (Jz c.place target ∷ []) in
      let both = stand_to (at + length test_code) (first_branch at c) (a.instrs ++ b.instrs) (omega (arith, long)) (stand_second own.f.body at test_code (a.instrs ++ b.instrs) stand) in
      branches t.truth t.is t.leads
      (x is_tail fits g vs (first_branch at c) t.after c.next h cs (hold_all_on hold t.keeps t.grows) (stand_first own.f.body (first_branch at c) a.instrs b.instrs both)
      (omega (arith, gb, within, t.long)))
      (y is_tail fits g vs target t.after a.next h cs (hold_all_on hold t.keeps (omega (arith, t.grows, ga)))
      (stand_to (first_branch at c + length a.instrs) target b.instrs (omega arith) (stand_second own.f.body (first_branch at c) a.instrs b.instrs both)) (omega (arith, within, t.long)))

  pub if_step : {monos : List MonoTree} {mono : MonoTree} {test : TermTree} {on_true on_false : FlatTree}
      → HasMonotype monos test m_bool
      → IsTyped own.instances monos on_true mono
      → IsTyped own.instances monos on_false mono
      → FlatComes own on_true monos mono
      → FlatComes own on_false monos mono
      → StepComes own (flat_if mono test on_true on_false) monos mono
  unfolding emit_flat flat_outcome
  if_step {mono = mono} {test = test} {on_true = on_true} {on_false = on_false} p q r x y g vs at locals next h cs hold stand within =
      let c = emit_term g next test in
      let d = c.next in
      let w = width mono in
      let a = emit_flat own.instances is_held g (c.next + w) (first_branch at c) on_true in
      let target = second_branch at c a 2 in
      let b = emit_flat own.instances is_held g a.next target on_false in
      let last = step_end at c a b in
      let ga = flat_grows q is_held g (c.next + w) (first_branch at c) in
      let gb = flat_grows r is_held g a.next target in
      let test_code = tested c target in
      let first_move = Mov d a.place w in
      let jump = Jump last in
      let second_move = Mov d b.place w in
      let second_code = b.instrs ++ second_move ∷ [] in
      let branch_code = a.instrs ++ first_move ∷ jump ∷ second_code in
      let t = test_goes p g vs at locals next h cs target hold (stand_first own.f.body at test_code branch_code stand) (omega (arith, ga, gb, within)) in
      let l1 = length-append c.instrs (Jz c.place target ∷ []) in
      let l2 = length-append test_code branch_code in
      let l3 = length-append a.instrs (first_move ∷ jump ∷ second_code) in
      let l4 = length-append b.instrs (second_move ∷ []) in
      let s1 = stand_to (at + length test_code) (first_branch at c) branch_code (omega (arith, l1)) (stand_second own.f.body at test_code branch_code stand) in
      let s2 = stand_second own.f.body (first_branch at c) a.instrs (first_move ∷ jump ∷ second_code) s1 in
      let s3 = stand_to (first_branch at c + length a.instrs + 1 + 1) target second_code (omega arith) (s2.1.1) in
      let whole : last ≡ at + length (test_code ++ branch_code) = omega (arith, l1, l2, l3, l4) in
      let from_true =
      comes_through (flat_outcome own.call vs on_true h cs)
      (x is_held tt g vs (first_branch at c) t.after (c.next + w) h cs (hold_all_on hold t.keeps (omega (arith, t.grows)))
      (stand_first own.f.body (first_branch at c) a.instrs (first_move ∷ jump ∷ second_code) s1) (omega (arith, gb, within, t.long)))
      (λ v h' cs' m z.
      let at_move = first_branch at c + length a.instrs in
      let moved_to = with_words z.after d (words_at z.after a.place w) in
      let move = steps (here own h' cs') own.f at_move z.after first_move own.there (s2.0) in
      let leave = steps (here own h' cs') own.f (at_move + 1) moved_to jump own.there (s2.1.0) in
      subst (λ k. ComesTo (code own) (suc own.fuel) (Landing (base own) at locals next (joined at d c w a b) mono) k (ended v h' cs')) (sym z.there)
      (lands_new (base own) (suc own.fuel) z.after d (words_at z.after a.place w) (leads_on (leads_one move) (leads_one leave))
      (agree_less t.after z.after (c.next + w) next z.keeps (omega (arith, t.grows)) ∙ t.keeps) (z.long ∙ t.long) z.holds.layout z.holds.words (omega (arith, t.grows))
      (omega (arith, ga, gb, within)) (omega (arith, ga, gb)) whole)) in
      let from_false =
      comes_through (flat_outcome own.call vs on_false h cs)
      (y is_held tt g vs target t.after a.next h cs (hold_all_on hold t.keeps (omega (arith, t.grows, ga)))
      (stand_first own.f.body target b.instrs (second_move ∷ []) s3) (omega (arith, within, t.long)))
      (λ v h' cs' m z.
      let at_move = target + length b.instrs in
      let move = steps (here own h' cs') own.f at_move z.after second_move own.there (last_stands own.f.body target b.instrs second_move s3) in
      subst (λ k. ComesTo (code own) (suc own.fuel) (Landing (base own) at locals next (joined at d c w a b) mono) k (ended v h' cs')) (sym z.there)
      (lands_new (base own) (suc own.fuel) z.after d (words_at z.after b.place w) (leads_one move)
      (agree_less t.after z.after a.next next z.keeps (omega (arith, t.grows, ga)) ∙ t.keeps) (z.long ∙ t.long) z.holds.layout z.holds.words (omega (arith, t.grows))
      (omega (arith, ga, gb, within)) (omega (arith, ga, gb)) whole)) in
      branches t.truth t.is t.leads from_true from_false
