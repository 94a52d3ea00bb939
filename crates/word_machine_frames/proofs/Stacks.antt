-- What the two vectors stand for after each operation.
use Rattle.std.proofs.Common.{ℕ, ◌≡◌, ◌+◌, ◌≤◌, List, [], ◌∷◌, ◌++◌, length, take, drop, sym, ap, ◌∙◌, refl, arith, reverse}
use Rattle.std.proofs.lemmas.List.{length-take-le, length-drop, reverse-append}
use Rattle.word_loader_code.specs.Machine.{Frame, Stack, above, top, with_top, goes_on, with_words}
use Rattle.word_machine_frames.specs.declared.frames.Activation.{Activation}
use Rattle.word_machine_frames.specs.Stacks.{locals_of, written, frame_total, total_below}
use Rattle.word_machine_frames.specs.Activations.{frame_of, stack_of, StandInOrder}
use Rattle.word_machine_frames.proofs.Parts.{take-with_words, drop-with_words}

pub start_within : (end start : ℕ) (below : List Activation) → StandInOrder end start below → start ≤ end
unfolding StandInOrder
start_within end start [] h = omega arith
start_within end start (b ∷ below) h = h.0

pub order_within : (end other start : ℕ) (below : List Activation) → StandInOrder end start below → start ≤ other → StandInOrder other start below
unfolding StandInOrder
order_within end other start [] h within = h
order_within end other start (b ∷ below) h within = (within, h.1)

pub top-stack_of : (words : List ℕ) (a : Activation) (below : List Activation) → top (stack_of words a below) ≡ frame_of a (drop a.start words)
unfolding stack_of
top-stack_of words a [] = refl
top-stack_of words a (b ∷ below) = refl

-- other words from the start of the top frame on, and the same before it
pub with_top-stack_of : (words words' : List ℕ) (a : Activation) (function next : ℕ) (below : List Activation)
    → take a.start words' ≡ take a.start words
    → stack_of words' (record a { function = function; next = next }) below
    ≡ with_top (stack_of words a below) (record { function = function; next = next; locals = drop a.start words' })
unfolding stack_of
with_top-stack_of words words' a function next [] same = refl
with_top-stack_of words words' a function next (b ∷ below) same =
    ap (λ (front : List ℕ). above (record { function = function; next = next; locals = drop a.start words' }) a.place (stack_of front b below)) same

pub goes_on-stack_of : (words words' : List ℕ) (a : Activation) (next : ℕ) (below : List Activation) (stack : Stack)
    → stack_of words a below ≡ stack
    → take a.start words' ≡ take a.start words
    → stack_of words' (record a { next = next }) below ≡ goes_on stack next (drop a.start words')
goes_on-stack_of words words' a next below stack is same =
    let whole = with_top-stack_of words words' a a.function next below same in
    let here : record (top stack) { next = next; locals = drop a.start words' } ≡ record { function = a.function; next = next; locals = drop a.start words' } =
    ap (λ (frame : Frame). record frame { next = next; locals = drop a.start words' }) (ap top (sym is) ∙ top-stack_of words a below) in
    whole ∙ (ap (λ (s : Stack). with_top s (record { function = a.function; next = next; locals = drop a.start words' })) is ∙ ap (with_top stack) (sym here))

pub top-view : (words : List ℕ) (a : Activation) (below : List Activation) (stack : Stack)
    → stack_of words a below ≡ stack
    → top stack ≡ frame_of a (drop a.start words)
top-view words a below stack is = ap top (sym is) ∙ top-stack_of words a below

pub locals-view : (words : List ℕ) (a : Activation) (below : List Activation) (stack : Stack)
    → stack_of words a below ≡ stack
    → locals_of stack ≡ drop a.start words
locals-view words a below stack is = ap (λ (frame : Frame). frame.locals) (top-view words a below stack is)

-- words written among the locals
pub written-stack_of : (words words' : List ℕ) (a : Activation) (below : List Activation) (stack : Stack) (place : ℕ) (ws : List ℕ)
    → stack_of words a below ≡ stack
    → a.start ≤ length words
    → words' ≡ with_words words (a.start + place) ws
    → stack_of words' (record a { next = a.next + 1 }) below ≡ written stack place ws
written-stack_of words words' a below stack place ws is within e =
    let front : take a.start words' ≡ take a.start words = ap (take a.start) e ∙ take-with_words a.start words place ws within in
    let back : drop a.start words' ≡ with_words (locals_of stack) place ws =
    ap (drop a.start) e
    ∙
    (drop-with_words a.start words place ws within ∙ ap (λ (l : List ℕ). with_words l place ws) (sym (locals-view words a below stack is)))
    in
    let next : (top stack).next ≡ a.next = ap (λ (frame : Frame). frame.next) (top-view words a below stack is) in
    goes_on-stack_of words words' a (a.next + 1) below stack is front
    ∙ (ap (goes_on stack (a.next + 1)) back ∙ ap (λ (n : ℕ). goes_on stack (n + 1) (with_words (locals_of stack) place ws)) (sym next))

-- the start and the locals of the top frame together are all words
pub room : (words : List ℕ) (a : Activation) (below : List Activation) (stack : Stack)
    → stack_of words a below ≡ stack
    → StandInOrder (length words) a.start below
    → a.start + length (locals_of stack) ≡ length words
room words a below stack is order =
    let within = start_within (length words) a.start below order in
    rw (locals-view words a below stack is) (omega (arith, length-drop a.start words))

pub frame_total-stack_of : (words : List ℕ) (a : Activation) (below : List Activation)
    → StandInOrder (length words) a.start below
    → frame_total (stack_of words a below) ≡ length words + length below + 1
unfolding stack_of StandInOrder frame_total
frame_total-stack_of words a [] order = rw order (omega arith)
frame_total-stack_of words a (b ∷ below) order =
    let front : length (take a.start words) ≡ a.start = length-take-le a.start words order.0 in
    let less : StandInOrder (length (take a.start words)) b.start below = rw front order.1 in
    rw (frame_total-stack_of (take a.start words) b below less, front) (omega (arith, length-drop a.start words))

pub total_below-stack_of : (words : List ℕ) (a : Activation) (below : List Activation)
    → StandInOrder (length words) a.start below
    → total_below (stack_of words a below) ≡ a.start + length below
unfolding stack_of StandInOrder
total_below-stack_of words a [] order = rw order refl
total_below-stack_of words a (b ∷ below) order =
    let front : length (take a.start words) ≡ a.start = length-take-le a.start words order.0 in
    let less : StandInOrder (length (take a.start words)) b.start below = rw front order.1 in
    rw (frame_total-stack_of (take a.start words) b below less, front) (omega arith)

-- an activation that is pushed onto the others stands nearest
pub reverse_pushed : (below now : List Activation) (a : Activation) → now ≡ below ++ a ∷ [] → reverse now ≡ a ∷ reverse below
reverse_pushed below now a e = ap reverse e ∙ reverse-append below (a ∷ [])
