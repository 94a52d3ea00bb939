-- Where a body runs: the code of a list, a frame of one of its functions, and what calls come to. And what it is
-- for a tree or a step to come to what it does.
use Rattle.std.proofs.Common.{◌≡◌, ◌≤◌, ℕ, suc, List, [], length, true}
use Rattle.std.proofs.Common.{Some, slice_get}
use Rattle.htt_syntax.specs.Trees.{MonoTree}
use Rattle.theory_values.specs.Values.{Value, width}
use Rattle.theory_values.specs.Heaps.{Heap, empty_heap}
use Rattle.word_loader_code.specs.declared.code.Code.{Code}
use Rattle.word_loader_code.specs.declared.code.Function.{Function}
use Rattle.word_loader_code.specs.Machine.{Stack, step}
use Rattle.theory_flat.specs.Flat.{FlatTree, FlatStepTree, Instance}
use Rattle.theory_flat.specs.Reading.{Calling, flat_outcome, flat_step_outcome}
use Rattle.theory_emission.specs.Terms.{Held}
use Rattle.theory_emission.specs.Bodies.{Ending, may_end}
use Rattle.theory_emission.specs.Bodies.{emit_flat, emit_last, emit_step}
use Rattle.theory_emission.specs.Bodies.{emit_instance}
use Rattle.theory_emission.specs.Codes.{code_ended_by}
use Rattle.theory_emitted_words.specs.Frames.{FrameSite, machine_at, InstrsAt}
use Rattle.theory_emitted_terms.specs.Layouts.{HaveLayouts}
use Rattle.theory_emitted_terms.specs.Held.{ValuesAt}
use Rattle.theory_emitted_bodies.specs.Comes.{ComesTo, Returns, entered_for}
use Rattle.theory_emitted_bodies.proofs.Steps.{around, Landing}
use Rattle.theory_emitted_bodies.proofs.Endings.{EndsAs, FitsResult}

-- calls of instances come to what they are to, with so much fuel
abbrev pub Calls : List Instance → ℕ → Ending → ℕ → Calling → Type 0
Calls instances version ending n call =
    (number : ℕ) (instance : Instance) (vs : List Value) (h : Heap) (stack : Stack) (cs : List ℕ)
    → slice_get instances number ≡ Some instance
    → HaveLayouts vs instance.params
    → ComesTo (code_ended_by version ending instances) n (Returns stack instance.result)
    (entered_for number (emit_instance instances ending instance) vs h stack cs) (call number vs h cs)

-- the list and how its bodies end; the fuel and the calls; and the frame: its function with its number, and the stack
pub record Within : Type 0 where
  pub instances : List Instance
  pub version : ℕ
  pub ending : Ending
  pub fuel : ℕ
  pub call : Calling
  pub calls : Calls instances version ending fuel call
  pub number : ℕ
  pub f : Function
  pub stack : Stack
  pub there : slice_get (code_ended_by version ending instances).functions number ≡ Some f

abbrev pub code : Within → Code
code own = code_ended_by own.version own.ending own.instances

-- what is around the frame, whose heap and choices change
abbrev pub base : Within → FrameSite
base own = record { code = code own; number = own.number; heap = empty_heap; stack = own.stack; choices = [] }

abbrev pub here : Within → Heap → List ℕ → FrameSite
here own h cs = around (base own) h cs

abbrev pub FlatComes : Within → FlatTree → List MonoTree → MonoTree → Type 0
FlatComes own flat monos mono =
    (e : Ending)
    → FitsResult e own.f mono
    → (g : List Held) (vs : List Value) (at : ℕ) (locals : List ℕ) (next : ℕ) (h : Heap) (cs : List ℕ)
    → ValuesAt locals next g vs monos
    → InstrsAt own.f.body at (emit_flat own.instances e g next at flat).instrs
    → (emit_flat own.instances e g next at flat).next ≤ length locals
    → ComesTo (code own) (suc own.fuel) (EndsAs e (base own) at locals next (emit_flat own.instances e g next at flat) mono) (machine_at (here own h cs) at locals)
    (flat_outcome own.call vs flat h cs)

abbrev pub StepComes : Within → FlatStepTree → List MonoTree → MonoTree → Type 0
StepComes own step monos mono =
    (g : List Held) (vs : List Value) (at : ℕ) (locals : List ℕ) (next : ℕ) (h : Heap) (cs : List ℕ)
    → ValuesAt locals next g vs monos
    → InstrsAt own.f.body at (emit_step own.instances g next at step).instrs
    → (emit_step own.instances g next at step).next ≤ length locals
    → ComesTo (code own) (suc own.fuel) (Landing (base own) at locals next (emit_step own.instances g next at step) mono) (machine_at (here own h cs) at locals)
    (flat_step_outcome own.call vs step h cs)

abbrev pub LastComes : Within → FlatStepTree → List MonoTree → MonoTree → Type 0
LastComes own step monos mono =
    may_end step ≡ true
    → width mono ≡ own.f.result
    → (g : List Held) (vs : List Value) (at : ℕ) (locals : List ℕ) (next : ℕ) (h : Heap) (cs : List ℕ)
    → ValuesAt locals next g vs monos
    → InstrsAt own.f.body at (emit_last own.instances g next at step).instrs
    → (emit_last own.instances g next at step).next ≤ length locals
    → ComesTo (code own) (suc own.fuel) (Returns own.stack mono) (machine_at (here own h cs) at locals) (flat_step_outcome own.call vs step h cs)
