-- A stack as plain data: its frames, each with the place for its result, over the bottom frame.
use Rattle.std.specs.Prelude.{ℕ, ◌≡◌, List, [], ◌∷◌, refl}
use Rattle.std.proofs.Common.{ap}
use Rattle.std.specs.Coded.{Coded, code_by, coded×, coded_ℕ, coded_list}
use Rattle.word_loader_code.specs.Machine.{Frame, Stack, bottom, above}

abbrev pub frame_code : Coded Frame
frame_code =
    code_by (List ℕ × (ℕ × ℕ)) (coded× (coded_list coded_ℕ) (coded× coded_ℕ coded_ℕ))
    (λ f. (f.locals, (f.function, f.next))) (λ p. record { function = p.1.0; next = p.1.1; locals = p.0 }) (λ _. refl)

abbrev pub frames_above : Stack → List (ℕ × Frame)
frames_above (bottom frame) = []
frames_above (above frame d below) = (d, frame) ∷ frames_above below

abbrev pub bottom_frame : Stack → Frame
bottom_frame (bottom frame) = frame
bottom_frame (above frame d below) = bottom_frame below

abbrev pub stacked : List (ℕ × Frame) → Frame → Stack
stacked [] frame = bottom frame
stacked (f ∷ frames) frame = above f.1 f.0 (stacked frames frame)

pub stacked-frames_above : (stack : Stack) → stacked (frames_above stack) (bottom_frame stack) ≡ stack
stacked-frames_above (bottom frame) = refl
stacked-frames_above (above frame d below) = ap (above frame d) (stacked-frames_above below)

abbrev pub stack_code : Coded Stack
stack_code =
    code_by (List (ℕ × Frame) × Frame) (coded× (coded_list (coded× coded_ℕ frame_code)) frame_code)
    (λ s. (frames_above s, bottom_frame s)) (λ p. stacked p.0 p.1) stacked-frames_above
