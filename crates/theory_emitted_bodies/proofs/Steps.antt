-- Steps on a heap, and the test of an `if`.
use Rattle.std.proofs.Common.{◌≡◌, ◌≤◌, ℕ, ◌+◌, List, [], ◌∷◌, ◌++◌, length, take, Bool, true, false, nat_eq, if◌then◌else◌, Option, Some, None}
use Rattle.std.proofs.Common.{slice_get, refl, sym, ap, ◌∙◌, subst, arith, length-append}
use Rattle.std.proofs.lemmas.Bool.Decides.{nat_tests}
use Rattle.htt_syntax.specs.Trees.{MonoTree, TermTree, m_loc, m_unit}
use Rattle.htt_syntax_words.specs.declared.words.Kind.{Kind}
use Rattle.htt_syntax_words.specs.declared.words.Kind.TheVariants as kind
use Rattle.theory_values.specs.Values.{Value, v_loc, v_unit, HasType, width, encoding, value_of_words}
use Rattle.theory_values.specs.Heaps.{Heap, Block, with_block, without_block}
use Rattle.theory_values.proofs.Decoding.{decodes}
use Rattle.theory_meaning.specs.Meaning.{block_value, is_as_wide}
use Rattle.theory_denotation.specs.Outcomes.{ended, asking, wrong, alloc_outcome, value_outcome, get_outcome, set_outcome, free_outcome}
use Rattle.word_loader_code.specs.declared.code.Function.{Function}
use Rattle.word_loader_code.specs.declared.code.Instr.{Instr}
use Rattle.word_loader_code.specs.declared.code.Instr.TheVariants.{Alloc, Get, Set, Free}
use Rattle.word_loader_code.specs.Machine.{Machine, faulted, asking as machine_asking, is_fresh, words_at, with_words, with_choice, at_block}
use Rattle.theory_machine.proofs.Words.{length-with_words}
use Rattle.theory_flat.specs.Reading.{value_in}
use Rattle.theory_emission.specs.Terms.{Held, Emitted, emit_term}
use Rattle.theory_emission.specs.Bodies.{allocated, read, written, released}
use Rattle.theory_emitted_words.specs.Frames.{FrameSite, machine_at, Leads, InstrsAt}
use Rattle.theory_emitted_words.proofs.Words.{one, before}
use Rattle.theory_emitted_words.proofs.Words as words
use Rattle.theory_emitted_words.proofs.Steps.{leads_one, leads_on, stand_first, stand_second, steps}
use Rattle.theory_emitted_terms.specs.Layouts.{HasLayout, lays_loc, lays_unit}
use Rattle.theory_flat_typed.specs.Typed.{HasMonotype}
use Rattle.theory_emitted_terms.specs.Held.{ValueAt, ValuesAt}
use Rattle.theory_emitted_terms.proofs.Values.{typed_layout, layout_width}
use Rattle.theory_emitted_terms.proofs.Terms.{emitted, two}
use Rattle.theory_emitted_bodies.specs.Comes.{ComesTo}
use Rattle.theory_emitted_bodies.proofs.Comes.{comes_ended, comes_asking, comes_wrong}

abbrev pub around : FrameSite → Heap → List ℕ → FrameSite
around a h choices = record { code = a.code; number = a.number; heap = h; stack = a.stack; choices = choices }

-- the frame goes on at this place, and holds the value
pub record Lands (a : FrameSite) (end : ℕ) (locals : List ℕ) (next limit place : ℕ) (mono : MonoTree) (v : Value) (h : Heap) (choices : List ℕ) (m : Machine) : Type 0 where
  pub after : List ℕ
  pub there : m ≡ machine_at (around a h choices) end after
  pub keeps : take next after ≡ take next locals
  pub long : length after ≡ length locals
  pub holds : ValueAt after limit place v mono

nat_same : (n k : ℕ) → n ≡ k → nat_eq n k ≡ true
nat_same n k q = grind (arith, nat_tests)

pub a_loc : {v : Value} → HasLayout v m_loc → (l : ℕ) × (v ≡ v_loc l)
a_loc (lays_loc {n = n}) = (n, refl)

pub last_stands : (body : List Instr) (at : ℕ) (front : List Instr) (i : Instr) → InstrsAt body at (front ++ i ∷ []) → slice_get body (at + length front) ≡ Some i
last_stands body at front i stand = (stand_second body at front (i ∷ []) stand).0

pub one_more : (at : ℕ) (front : List Instr) (i : Instr) → at + length front + 1 ≡ at + length (front ++ i ∷ [])
one_more at front i = let r = length-append front (i ∷ []) in omega (arith, r)

module _ (a : FrameSite) (n : ℕ) (m : Machine) (Ends : Value → Heap → List ℕ → Machine → Type 0) (h : Heap) where
  -- a choice
  chosen : (cs : List ℕ) (v : Value) (go : ℕ → List ℕ → Machine)
      → Leads a.code m (with_choice h cs go)
      → ((l : ℕ) (left : List ℕ) → Leads a.code m (go l left) → ComesTo a.code n Ends m (ended (v_loc l) (with_block h l (encoding v)) left))
      → ComesTo a.code n Ends m (alloc_outcome v h cs)
  chosen [] v go q f = comes_asking q
  chosen (l ∷ left) v go q f = by (is_fresh h l) q
    where
      by : (b : Bool)
          → Leads a.code m (if b then go l left else machine_asking)
          → ComesTo a.code n Ends m (if b then ended (v_loc l) (with_block h l (encoding v)) left else asking)
      by true q = f l left q
      by false q = comes_asking q

  -- a block that holds a value
  fetched : (kind : Kind) (l : ℕ) (o : Option Block) (mono : MonoTree) (cs : List ℕ) (go : Block → Machine)
      → Leads a.code m (at_block kind l o (width mono) go)
      → ((u : Value) (block : Block) → HasType u mono → encoding u ≡ block → Leads a.code m (go block) → ComesTo a.code n Ends m (ended u h cs))
      → ComesTo a.code n Ends m (value_outcome (block_value (Some mono) o) h cs)
  fetched kind l None mono cs go q f = comes_wrong
  fetched kind l (Some block) mono cs go q f = by (value_of_words mono block) refl
    where
      by : (o : Option Value) → value_of_words mono block ≡ o → ComesTo a.code n Ends m (value_outcome o h cs)
      by None e = comes_wrong
      by (Some u) e =
          let d = decodes mono block u e in
          let long : length block ≡ width mono = ap length (sym d.encoded) ∙ layout_width (typed_layout d.typed) in
          f u block d.typed d.encoded
          (subst (λ (b : Bool). Leads a.code m (if b then go block else faulted kind l)) (nat_same (length block) (width mono) long) q)

  -- a block that is as wide
  as_wide : (kind : Kind) (l : ℕ) (o : Option Block) (mono : MonoTree) (cs : List ℕ) (k : Heap) (go : Machine)
      → Leads a.code m (at_block kind l o (width mono) (λ block. go))
      → (Leads a.code m go → ComesTo a.code n Ends m (ended v_unit k cs))
      → ComesTo a.code n Ends m (if is_as_wide (Some mono) o then ended v_unit k cs else wrong)
  as_wide kind l None mono cs k go q f = comes_wrong
  as_wide kind l (Some block) mono cs k go q f = by (nat_eq (length block) (width mono)) q
    where
      by : (b : Bool) → Leads a.code m (if b then go else faulted kind l) → ComesTo a.code n Ends m (if b then ended v_unit k cs else wrong)
      by true q = f q
      by false q = comes_wrong

-- the words of a value, written at a new place
pub new_lands : (a : FrameSite) {m : Machine} {locals : List ℕ} {next limit end last : ℕ} {v : Value} {mono : MonoTree} {h : Heap} {cs : List ℕ} (between : List ℕ) (d : ℕ) (ws : List ℕ)
    → m ≡ machine_at (around a h cs) end (with_words between d ws)
    → take next between ≡ take next locals
    → length between ≡ length locals
    → HasLayout v mono
    → ws ≡ encoding v
    → next ≤ d
    → d + width mono ≤ length locals
    → d + width mono ≤ limit
    → end ≡ last
    → Lands a last locals next limit d mono v h cs m
new_lands a {next = next} {last = last} {mono = mono} {h = h} {cs = cs} between d ws there keeps long layout is less within below q =
    let wide : length ws ≡ width mono = ap length is ∙ layout_width layout in
    record {
      after = with_words between d ws;
      there = there ∙ ap (λ k. machine_at (around a h cs) k (with_words between d ws)) q;
      keeps = before between d ws next less (omega (arith, within, long)) ∙ keeps;
      long = length-with_words between d ws (omega (arith, within, long, wide)) ∙ long;
      holds = record { layout = layout; words = words.written between d ws (width mono) wide (omega (arith, within, long)) ∙ is; below = below };
    }

module _ (a : FrameSite) (n : ℕ) where
  pub lands_new : {m : Machine} {locals : List ℕ} {next limit end last : ℕ} {v : Value} {mono : MonoTree} {h : Heap} {cs : List ℕ} (between : List ℕ) (d : ℕ) (ws : List ℕ)
      → Leads a.code m (machine_at (around a h cs) end (with_words between d ws))
      → take next between ≡ take next locals
      → length between ≡ length locals
      → HasLayout v mono
      → ws ≡ encoding v
      → next ≤ d
      → d + width mono ≤ length locals
      → d + width mono ≤ limit
      → end ≡ last
      → ComesTo a.code n (Lands a last locals next limit d mono) m (ended v h cs)
  lands_new between d ws l keeps long layout is less within below q = comes_ended l (new_lands a between d ws refl keeps long layout is less within below q)

  -- steps that write nothing, and have ()
  lands_same : {m : Machine} {locals : List ℕ} {next limit end last : ℕ} {h : Heap} {cs : List ℕ} (after : List ℕ) (d : ℕ)
      → Leads a.code m (machine_at (around a h cs) end after)
      → take next after ≡ take next locals
      → length after ≡ length locals
      → d ≤ limit
      → end ≡ last
      → ComesTo a.code n (Lands a last locals next limit d m_unit) m (ended v_unit h cs)
  lands_same {h = h} {cs = cs} after d l keeps long less q =
      comes_ended l
      (record {
        after = after;
        there = ap (λ k. machine_at (around a h cs) k after) q;
        keeps = keeps;
        long = long;
        holds = record { layout = lays_unit; words = refl; below = omega (arith, less) };
      })

-- where the value of emitted steps stands
abbrev pub Landing : FrameSite → ℕ → List ℕ → ℕ → Emitted → MonoTree → Value → Heap → List ℕ → Machine → Type 0
Landing a at locals next e mono = Lands a (at + length e.instrs) locals next e.next e.place mono

module _ (a : FrameSite) (f : Function) (there : slice_get a.code.functions a.number ≡ Some f) (g : List Held) (vs : List Value) (monos : List MonoTree) (n : ℕ)
    (at : ℕ) (locals : List ℕ) (next : ℕ) (h : Heap) (cs : List ℕ) (hold : ValuesAt locals next g vs monos) where
  pub alloc_comes : {value : TermTree} {mono : MonoTree}
      → HasMonotype monos value mono
      → InstrsAt f.body at (allocated (emit_term g next value) (width mono)).instrs
      → (allocated (emit_term g next value) (width mono)).next ≤ length locals
      → ComesTo a.code n (Landing a at locals next (allocated (emit_term g next value) (width mono)) m_loc) (machine_at (around a h cs) at locals)
      (alloc_outcome (value_in vs value) h cs)
  alloc_comes {value = value} {mono = mono} p stand within =
      let e = emit_term g next value in
      let i = Alloc e.next e.place (width mono) in
      let r = emitted (around a h cs) f there g vs monos p at locals next hold (stand_first f.body at e.instrs (i ∷ []) stand) (omega (arith, within)) in
      let s = steps (around a h cs) f (at + length e.instrs) r.after i there (last_stands f.body at e.instrs i stand) in
      let go : ℕ → List ℕ → Machine = λ l left.
      machine_at (around a (with_block h l (words_at r.after e.place (width mono))) left) (at + length e.instrs + 1) (with_words r.after e.next (l ∷ [])) in
      chosen a n (machine_at (around a h cs) at locals) (Landing a at locals next (allocated e (width mono)) m_loc) h cs (value_in vs value) go (leads_on r.goes.leads (leads_one s))
      (λ l left q.
      lands_new a n r.after e.next (l ∷ [])
      (subst (λ b. Leads a.code (machine_at (around a h cs) at locals)
      (machine_at (around a (with_block h l b) left) (at + length e.instrs + 1) (with_words r.after e.next (l ∷ [])))) r.holds.words q)
      r.goes.keeps r.goes.long lays_loc refl r.grows within (omega arith) (one_more at e.instrs i))

  pub get_comes : {place : TermTree} (mono : MonoTree)
      → HasMonotype monos place m_loc
      → InstrsAt f.body at (read (emit_term g next place) (width mono)).instrs
      → (read (emit_term g next place) (width mono)).next ≤ length locals
      → ComesTo a.code n (Landing a at locals next (read (emit_term g next place) (width mono)) mono) (machine_at (around a h cs) at locals)
      (get_outcome mono (value_in vs place) h cs)
  get_comes {place = place} mono p stand within =
      let e = emit_term g next place in
      let i = Get e.next e.place (width mono) in
      let r = emitted (around a h cs) f there g vs monos p at locals next hold (stand_first f.body at e.instrs (i ∷ []) stand) (omega (arith, within)) in
      let s = steps (around a h cs) f (at + length e.instrs) r.after i there (last_stands f.body at e.instrs i stand) in
      let go : Block → Machine = λ block. machine_at (around a h cs) (at + length e.instrs + 1) (with_words r.after e.next block) in
      let l = a_loc r.holds.layout in
      let is = one r.after e.place (l.0) (r.holds.words ∙ ap encoding (l.1)) in
      let q = leads_on r.goes.leads (leads_one (s ∙ ap (λ k. at_block kind.Get k (h k) (width mono) go) is)) in
      subst (λ v. ComesTo a.code n (Landing a at locals next (read e (width mono)) mono) (machine_at (around a h cs) at locals) (get_outcome mono v h cs)) (sym (l.1))
      (fetched a n (machine_at (around a h cs) at locals) (Landing a at locals next (read e (width mono)) mono) h kind.Get (l.0) (h (l.0)) mono cs go q
      (λ u block t encoded q.
      lands_new a n r.after e.next block q r.goes.keeps r.goes.long (typed_layout t) (sym encoded) r.grows within (omega arith) (one_more at e.instrs i)))

  pub set_comes : {place value : TermTree} {mono : MonoTree}
      → HasMonotype monos place m_loc
      → HasMonotype monos value mono
      → InstrsAt f.body at (written (emit_term g next place) (emit_term g (emit_term g next place).next value) (width mono)).instrs
      → (written (emit_term g next place) (emit_term g (emit_term g next place).next value) (width mono)).next ≤ length locals
      → ComesTo a.code n (Landing a at locals next (written (emit_term g next place) (emit_term g (emit_term g next place).next value) (width mono)) m_unit)
      (machine_at (around a h cs) at locals) (set_outcome mono (value_in vs place) (value_in vs value) h cs)
  set_comes {place = place} {value = value} {mono = mono} p w stand within =
      let ep = emit_term g next place in
      let ev = emit_term g ep.next value in
      let front = ep.instrs ++ ev.instrs in
      let i = Set ep.place ev.place (width mono) in
      let b =
      two (around a h cs) f there g vs monos place value w (emitted (around a h cs) f there g vs monos p) (emitted (around a h cs) f there g vs monos w) at locals next hold
      (stand_first f.body at front (i ∷ []) stand) (omega (arith, within)) in
      let s = steps (around a h cs) f (at + length front) b.after i there (last_stands f.body at front i stand) in
      let l = a_loc b.left.layout in
      let is = one b.after ep.place (l.0) (b.left.words ∙ ap encoding (l.1)) in
      let go : Heap → Machine = λ k. machine_at (around a k cs) (at + length front + 1) b.after in
      let q =
      leads_on b.goes.leads (leads_one
      (s ∙ (λ j. at_block kind.Set (is j) (h (is j)) (width mono) (λ block. go (with_block h (is j) (b.right.words j)))))) in
      subst (λ v. ComesTo a.code n (Landing a at locals next (written ep ev (width mono)) m_unit) (machine_at (around a h cs) at locals)
      (set_outcome mono v (value_in vs value) h cs)) (sym (l.1))
      (as_wide a n (machine_at (around a h cs) at locals) (Landing a at locals next (written ep ev (width mono)) m_unit) h kind.Set (l.0) (h (l.0)) mono cs (with_block h (l.0) (encoding (value_in vs value))) (go (with_block h (l.0) (encoding (value_in vs value)))) q
      (λ q. lands_same a n b.after ev.next q b.goes.keeps b.goes.long (omega arith) (one_more at front i)))

  pub free_comes : {place : TermTree} (mono : MonoTree)
      → HasMonotype monos place m_loc
      → InstrsAt f.body at (released (emit_term g next place) (width mono)).instrs
      → (released (emit_term g next place) (width mono)).next ≤ length locals
      → ComesTo a.code n (Landing a at locals next (released (emit_term g next place) (width mono)) m_unit) (machine_at (around a h cs) at locals)
      (free_outcome mono (value_in vs place) h cs)
  free_comes {place = place} mono p stand within =
      let e = emit_term g next place in
      let i = Free e.place (width mono) in
      let r = emitted (around a h cs) f there g vs monos p at locals next hold (stand_first f.body at e.instrs (i ∷ []) stand) (omega (arith, within)) in
      let s = steps (around a h cs) f (at + length e.instrs) r.after i there (last_stands f.body at e.instrs i stand) in
      let l = a_loc r.holds.layout in
      let is = one r.after e.place (l.0) (r.holds.words ∙ ap encoding (l.1)) in
      let go : Heap → Machine = λ k. machine_at (around a k cs) (at + length e.instrs + 1) r.after in
      let q = leads_on r.goes.leads (leads_one (s ∙ ap (λ k. at_block kind.Free k (h k) (width mono) (λ block. go (without_block h k))) is)) in
      subst (λ v. ComesTo a.code n (Landing a at locals next (released e (width mono)) m_unit) (machine_at (around a h cs) at locals) (free_outcome mono v h cs)) (sym (l.1))
      (as_wide a n (machine_at (around a h cs) at locals) (Landing a at locals next (released e (width mono)) m_unit) h kind.Free (l.0) (h (l.0)) mono cs (without_block h (l.0)) (go (without_block h (l.0))) q
      (λ q. lands_same a n r.after e.next q r.goes.keeps r.goes.long (omega arith) (one_more at e.instrs i)))
