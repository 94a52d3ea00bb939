-- The end of a tree, and calls.
use Rattle.std.proofs.Common.{◌≡◌, ◌≤◌, ℕ, suc, ◌+◌, List, [], ◌∷◌, ◌++◌, length, map}
use Rattle.std.proofs.Common.{Some, slice_get, refl, sym, ap, ◌∙◌, arith}
use Rattle.htt_syntax.specs.Trees.{MonoTree, TermTree}
use Rattle.theory_values.specs.Values.{Value, width, encoding}
use Rattle.theory_values.specs.Heaps.{Heap}
use Rattle.theory_denotation.specs.Outcomes.{ended}
use Rattle.word_loader_code.specs.declared.code.Instr.TheVariants.{Call, Ret, Tail}
use Rattle.word_loader_code.specs.Machine.{above, with_top, going, words_at, entered_frame, returned}
use Rattle.theory_flat.specs.Flat.{flat_ret, flat_call, Instance}
use Rattle.theory_flat.specs.Reading.{value_in, flat_outcome}
use Rattle.theory_emission.specs.Terms.{Held, EmittedTerms, emit_term, emit_terms, moves, width_of_parts}
use Rattle.theory_emission.specs.Bodies.{is_held, is_returned, is_tail, result_in}
use Rattle.theory_emission.specs.Bodies.{emit_flat}
use Rattle.theory_emission.specs.Bodies.{width_of_monos, emit_instance}
use Rattle.theory_emitted_words.specs.Frames.{frame_at, machine_at, InstrsAt}
use Rattle.theory_emitted_words.proofs.Steps.{called_from, replaced_by, leads_one, leads_on, stand_first, stand_second, steps, returns}
use Rattle.theory_emitted_terms.specs.Layouts.{HaveLayouts, encodings}
use Rattle.theory_flat_typed.specs.Typed.{HasMonotype, HaveMonotypes}
use Rattle.theory_emitted_terms.specs.Held.{ValuesAt, Goes}
use Rattle.theory_emitted_terms.proofs.Held.{goes_on, goes_to, end_of}
use Rattle.theory_emitted_terms.proofs.Moves.{moved}
use Rattle.theory_emitted_terms.proofs.Terms.{emitted, emitted_all}
use Rattle.theory_emitted_bodies.specs.Comes.{ComesTo, Returns}
use Rattle.theory_emitted_bodies.proofs.Comes.{comes_after, comes_step, comes_ended, comes_as}
use Rattle.theory_emitted_bodies.proofs.Steps.{last_stands, one_more, new_lands}
use Rattle.theory_emitted_bodies.proofs.Endings.{function_there}
use Rattle.theory_emitted_bodies.proofs.Frames.{Within, code, base, here, FlatComes, StepComes, LastComes}

module _ (own : Within) where
  -- the end of a tree
  returned_comes : {term : TermTree} {mono : MonoTree} {monos : List MonoTree}
      → HasMonotype monos term mono
      → width mono ≡ own.f.result
      → (g : List Held) (vs : List Value) (at : ℕ) (locals : List ℕ) (next : ℕ) (h : Heap) (cs : List ℕ)
      → ValuesAt locals next g vs monos
      → InstrsAt own.f.body at ((emit_term g next term).instrs ++ Ret (emit_term g next term).place ∷ [])
      → (emit_term g next term).next ≤ length locals
      → ComesTo (code own) (suc own.fuel) (Returns own.stack mono) (machine_at (here own h cs) at locals) (ended (value_in vs term) h cs)
  returned_comes {term = term} {mono = mono} {monos = monos} p fits g vs at locals next h cs hold stand within =
      let e = emit_term g next term in
      let i = Ret e.place in
      let r = emitted (here own h cs) own.f own.there g vs monos p at locals next hold (stand_first own.f.body at e.instrs (i ∷ []) stand) within in
      let s = steps (here own h cs) own.f (at + length e.instrs) r.after i own.there (last_stands own.f.body at e.instrs i stand) in
      comes_ended (leads_on r.goes.leads (leads_one s))
      (record {
        layout = r.holds.layout;
        there = ap (λ (l : List ℕ). returned h own.stack l cs) (ap (λ k. words_at r.after e.place k) (sym fits) ∙ r.holds.words);
      })

  pub ret_comes : {term : TermTree} {mono : MonoTree} {monos : List MonoTree} → HasMonotype monos term mono → FlatComes own (flat_ret term) monos mono
  unfolding emit_flat flat_outcome
  ret_comes {monos = monos} p is_held fits g vs at locals next h cs hold stand within =
      let r = emitted (here own h cs) own.f own.there g vs monos p at locals next hold stand within in
      comes_ended r.goes.leads (record { after = r.after; there = refl; keeps = r.goes.keeps; long = r.goes.long; holds = r.holds })
  ret_comes p is_returned fits g vs at locals next h cs hold stand within = returned_comes p fits g vs at locals next h cs hold stand within
  ret_comes p is_tail fits g vs at locals next h cs hold stand within = returned_comes p fits g vs at locals next h cs hold stand within

  -- the parameters of a call, side by side in a new block
  record Passed (at : ℕ) (locals : List ℕ) (next : ℕ) (h : Heap) (cs : List ℕ) (e : EmittedTerms) (us : List Value) (types : List MonoTree) : Type 0 where
    after : List ℕ
    goes : Goes (here own h cs) at locals next (at + length (e.instrs ++ moves e.next e.parts)) after
    layouts : HaveLayouts us types
    words : words_at after e.next (width_of_monos types) ≡ encodings us
    grows : next ≤ e.next

  passed : {params : List TermTree} {monos types : List MonoTree}
      → HaveMonotypes monos params types
      → (g : List Held) (vs : List Value) (at : ℕ) (locals : List ℕ) (next : ℕ) (h : Heap) (cs : List ℕ)
      → ValuesAt locals next g vs monos
      → InstrsAt own.f.body at ((emit_terms g next params).instrs ++ moves (emit_terms g next params).next (emit_terms g next params).parts)
      → (emit_terms g next params).next + width_of_parts (emit_terms g next params).parts ≤ length locals
      → Passed at locals next h cs (emit_terms g next params) (map (value_in vs) params) types
  passed {params = params} {monos = monos} {types = types} p g vs at locals next h cs hold stand within =
      let e = emit_terms g next params in
      let ms = moves e.next e.parts in
      let r = emitted_all (here own h cs) own.f own.there g vs monos p at locals next hold (stand_first own.f.body at e.instrs ms stand) (omega (arith, within)) in
      let s =
      moved (here own h cs) own.f own.there r.after e.next r.parts (at + length e.instrs) e.next r.after refl (omega arith) (omega (arith, within, r.goes.long))
      (stand_second own.f.body at e.instrs ms stand) in
      record {
        after = s.after;
        goes = goes_to (end_of at e.instrs ms) (goes_on r.goes s.goes r.grows);
        layouts = r.layouts;
        words = ap (λ k. words_at s.after e.next k) (sym r.widths) ∙ s.holds;
        grows = r.grows;
      }

  pub last_call : {monos : List MonoTree} (callee : ℕ) {params : List TermTree} {instance : Instance}
      → slice_get own.instances callee ≡ Some instance
      → HaveMonotypes monos params instance.params
      → LastComes own (flat_call callee params) monos instance.result
  unfolding emit_flat flat_outcome
  last_call callee {params = params} {instance = instance} q p ends fits g vs at locals next h cs hold stand within =
      let e = emit_terms g next params in
      let front = e.instrs ++ moves e.next e.parts in
      let i = Tail callee e.next in
      let k = emit_instance own.instances own.ending instance in
      let us = map (value_in vs) params in
      let r = passed p g vs at locals next h cs hold (stand_first own.f.body at front (i ∷ []) stand) (omega (arith, within)) in
      let s = steps (here own h cs) own.f (at + length front) r.after i own.there (last_stands own.f.body at front i stand) in
      let goes =
      s ∙ ap (λ o. replaced_by (here own h cs) r.after o callee e.next) (function_there own.instances own.version own.ending callee instance q)
      ∙ ap (λ (l : List ℕ). going h (with_top own.stack (entered_frame callee k l)) cs) r.words in
      comes_after r.goes.leads (comes_step goes (own.calls callee instance us h own.stack cs q r.layouts))

  pub call_step : {monos : List MonoTree} (callee : ℕ) {params : List TermTree} {instance : Instance}
      → slice_get own.instances callee ≡ Some instance
      → HaveMonotypes monos params instance.params
      → StepComes own (flat_call callee params) monos instance.result
  unfolding emit_flat flat_outcome
  call_step callee {params = params} {instance = instance} q p g vs at locals next h cs hold stand within =
      let e = emit_terms g next params in
      let front = e.instrs ++ moves e.next e.parts in
      let d = e.next + width_of_parts e.parts in
      let i = Call callee e.next d in
      let k = emit_instance own.instances own.ending instance in
      let us = map (value_in vs) params in
      let wide : width (result_in (slice_get own.instances callee)) ≡ width instance.result = ap (λ o. width (result_in o)) q in
      let r = passed p g vs at locals next h cs hold (stand_first own.f.body at front (i ∷ []) stand) (omega (arith, within)) in
      let end = at + length front + 1 in
      let waits = with_top own.stack (frame_at (here own h cs) end r.after) in
      let s = steps (here own h cs) own.f (at + length front) r.after i own.there (last_stands own.f.body at front i stand) in
      let goes =
      s ∙ ap (λ o. called_from (here own h cs) end r.after o callee e.next d) (function_there own.instances own.version own.ending callee instance q)
      ∙ ap (λ (l : List ℕ). going h (above (entered_frame callee k l) d waits) cs) r.words in
      let on = above (entered_frame callee k (encodings us)) d waits in
      comes_as (own.call callee us h cs)
      (λ v h' cs' m ret.
      new_lands (base own) r.after d (encoding v) (ret.there ∙ returns (here own h' cs') (entered_frame callee k (encodings us)) d end r.after (encoding v)) r.goes.keeps r.goes.long
      ret.layout refl (omega (arith, r.grows)) (omega (arith, within, wide)) (omega (arith, wide)) (one_more at front i))
      (comes_after r.goes.leads (comes_step goes (own.calls callee instance us h on cs q r.layouts)))
