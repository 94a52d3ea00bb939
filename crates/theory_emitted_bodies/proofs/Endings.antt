-- How trees end, and what gives back the result of a step.
use Rattle.std.proofs.Common.{◌≡◌, ◌≤◌, ℕ, zero, ◌+◌, List, ◌∷◌, length, take, Bool, true, false}
use Rattle.std.proofs.Common.{Some, slice_get, refl, sym, ap, ◌∙◌}
use Rattle.std.specs.Prelude.{option_map}
use Rattle.std.proofs.lemmas.Option.{slice_get-map, same_Some}
use Rattle.htt_syntax.specs.Trees.{MonoTree, m_bool}
use Rattle.theory_values.specs.Values.{Value, v_bool, width}
use Rattle.theory_values.specs.Heaps.{Heap}
use Rattle.theory_truth.specs.TermValue.{term_value}
use Rattle.theory_denotation.specs.Outcomes.{ended}
use Rattle.word_loader_code.specs.declared.code.Function.{Function}
use Rattle.word_loader_code.specs.Machine.{Machine}
use Rattle.theory_flat.specs.Flat.{FlatTree, FlatStepTree, Instance}
use Rattle.theory_flat.specs.Reading.{Calling, flat_outcome}
use Rattle.theory_emission.specs.Terms.{Emitted}
use Rattle.theory_emission.specs.Bodies.{Ending, is_held, is_returned, is_tail, gives_back, result_in, flat_mono}
use Rattle.theory_emission.specs.Bodies.{in_row}
use Rattle.theory_emission.specs.Bodies.{emit_instance}
use Rattle.theory_emission.specs.Codes.{code_ended_by}
use Rattle.theory_emitted_words.specs.Frames.{FrameSite, machine_at}
use Rattle.theory_emitted_words.proofs.Words.{agree_less}
use Rattle.theory_emitted_terms.specs.Layouts.{HasLayout, lays_bool}
use Rattle.theory_flat_typed.specs.Typed.{typed_var}
use Rattle.theory_emitted_terms.proofs.Held.{end_of}
use Rattle.theory_emitted_terms.proofs.Terms.{emitted}
use Rattle.theory_flat_typed.specs.Typed.{IsTyped, typed_ret, typed_step, IsTypedStep, typed_call, typed_alloc, typed_get, typed_set}
use Rattle.theory_flat_typed.specs.Typed.{typed_free, typed_if}
use Rattle.theory_emitted_bodies.specs.Comes.{Returns}
use Rattle.theory_emitted_bodies.specs.Laws.{LeavesFrame}
use Rattle.theory_emitted_bodies.proofs.Steps.{around, Landing}

pub true_or_false : true ≡ false → ⊥
true_or_false q = cc

-- emission finds the monotype that a step binds
pub finds_bound : {instances : List Instance} {monos : List MonoTree} {step : FlatStepTree} {mono : MonoTree} → IsTypedStep instances monos step mono → flat_mono instances step ≡ mono
finds_bound (typed_call q p) = ap result_in q
finds_bound (typed_alloc k p) = refl
finds_bound (typed_get k p) = refl
finds_bound (typed_set k p q) = refl
finds_bound (typed_free k p) = refl
finds_bound (typed_if k p q r) = refl

-- a function of the code
pub function_there : (instances : List Instance) (version : ℕ) (ending : Ending) (number : ℕ) (instance : Instance)
    → slice_get instances number ≡ Some instance
    → slice_get (code_ended_by version ending instances).functions number ≡ Some (emit_instance instances ending instance)
function_there instances version ending number instance q =
    slice_get-map (emit_instance instances ending) instances number ∙ ap (option_map (emit_instance instances ending)) q

-- how a tree ends: its value is held at the place, behind its instructions; or it is returned
abbrev pub EndsAs : Ending → FrameSite → ℕ → List ℕ → ℕ → Emitted → MonoTree → Value → Heap → List ℕ → Machine → Type 0
EndsAs is_held a at locals next e mono = Landing a at locals next e mono
EndsAs ending a at locals next e mono = Returns a.stack mono

-- what is returned is as wide as the function's result
abbrev pub FitsResult : Ending → Function → MonoTree → Type 0
FitsResult is_held f mono = Unit {0}
FitsResult ending f mono = width mono ≡ f.result

-- after a step, the rest ends as the whole does
pub ends_on : (e : Ending) (a : FrameSite) (at : ℕ) (locals between : List ℕ) (next : ℕ) (first rest : Emitted) (mono : MonoTree) (v : Value) (h : Heap) (cs : List ℕ) (m : Machine)
    → take next between ≡ take next locals
    → length between ≡ length locals
    → next ≤ first.next
    → EndsAs e a (at + length first.instrs) between first.next rest mono v h cs m
    → EndsAs e a at locals next (in_row first rest) mono v h cs m
ends_on is_held a at locals between next first rest mono v h cs m keeps long less r =
    record {
      after = r.after;
      there = r.there ∙ ap (λ n. machine_at (around a h cs) n r.after) (end_of at first.instrs rest.instrs);
      keeps = agree_less between r.after first.next next r.keeps less ∙ keeps;
      long = r.long ∙ long;
      holds = r.holds;
    }
ends_on is_returned a at locals between next first rest mono v h cs m keeps long less r = r
ends_on is_tail a at locals between next first rest mono v h cs m keeps long less r = r

-- a tree whose end is left
pub leaving : (e : Ending) → LeavesFrame e → (a : FrameSite) (at : ℕ) (locals : List ℕ) (next : ℕ) (emitted : Emitted) (mono : MonoTree) (v : Value) (h : Heap) (cs : List ℕ) (m : Machine)
    → EndsAs e a at locals next emitted mono v h cs m
    → Returns a.stack mono v h cs m
leaving is_held l a at locals next emitted mono v h cs m r = absurd l
leaving is_returned l a at locals next emitted mono v h cs m r = r
leaving is_tail l a at locals next emitted mono v h cs m r = r

pub fits_leaving : (e : Ending) (f : Function) (mono : MonoTree) → width mono ≡ f.result → FitsResult e f mono
fits_leaving is_held f mono q = tt
fits_leaving is_returned f mono q = q
fits_leaving is_tail f mono q = q

-- what gives back the result of a step has its monotype and its value
pub gives_mono : {instances : List Instance} {monos : List MonoTree} {flat : FlatTree} {bound mono : MonoTree}
    → IsTyped instances (bound ∷ monos) flat mono
    → gives_back flat ≡ true
    → bound ≡ mono
gives_mono {bound = bound} {mono = mono} (typed_ret (typed_var {index = zero} q)) g = same_Some bound mono q
gives_mono (typed_ret p) g = absurd (true_or_false (sym g))
gives_mono (typed_step s r) g = absurd (true_or_false (sym g))

pub gives_value : {instances : List Instance} {monos : List MonoTree} {flat : FlatTree} {mono : MonoTree} (call : Calling) (v : Value) (vs : List Value) (h : Heap) (cs : List ℕ)
    → IsTyped instances monos flat mono
    → gives_back flat ≡ true
    → flat_outcome call (v ∷ vs) flat h cs ≡ ended v h cs
unfolding flat_outcome term_value
gives_value call v vs h cs (typed_ret (typed_var {index = zero} q)) g = refl
gives_value call v vs h cs (typed_ret p) g = absurd (true_or_false (sym g))
gives_value call v vs h cs (typed_step s r) g = absurd (true_or_false (sym g))

pub a_bool : {v : Value} → HasLayout v m_bool → (b : Bool) × (v ≡ v_bool b)
a_bool (lays_bool {b = b}) = (b, refl)
