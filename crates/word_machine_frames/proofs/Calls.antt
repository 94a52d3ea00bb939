-- What the two vectors stand for after a call, a tail call and a return.
use Rattle.std.proofs.Common.{ℕ, ◌≡◌, ◌+◌, ◌≤◌, List, [], ◌∷◌, ◌++◌, length, take, drop, sym, ap, ◌∙◌, refl, subst, arith, true, false}
use Rattle.std.proofs.lemmas.List.{length-append, length-take-le, length-drop, take_at, drop_at}
use Rattle.word_loader_code.specs.Machine.{Frame, Stack, above, top, with_top, goes_on, with_words}
use Rattle.word_machine_frames.specs.declared.frames.Activation.{Activation}
use Rattle.word_machine_frames.specs.Stacks.{locals_of, ResultFits, ReturnsTo}
use Rattle.word_machine_frames.specs.Activations.{frame_of, stack_of, StandInOrder}
use Rattle.word_machine_frames.proofs.Parts.{take-with_words, drop-with_words}
use Rattle.word_machine_frames.proofs.Stacks.{start_within, order_within, top-stack_of, top-view, locals-view, with_top-stack_of, goes_on-stack_of}

abbrev pub activation : ℕ → ℕ → ℕ → ℕ → Activation
activation function next start place = record { function = function; next = next; start = start; place = place }

pub called-stack_of : (words words' ls : List ℕ) (a : Activation) (below : List Activation) (stack : Stack) (g d : ℕ)
    → stack_of words a below ≡ stack
    → words' ≡ words ++ ls
    → stack_of words' (activation g 0 (length words) d) (record a { next = a.next + 1 } ∷ below)
    ≡ above (record { function = g; next = 0; locals = ls }) d (goes_on stack ((top stack).next + 1) (locals_of stack))
unfolding stack_of
called-stack_of words words' ls a below stack g d is longer =
    let front : take (length words) words' ≡ words = rw longer (take_at words ls (length words) refl) in
    let back : drop (length words) words' ≡ ls = rw longer (drop_at words ls (length words) refl) in
    let next : (top stack).next ≡ a.next = ap (λ (frame : Frame). frame.next) (top-view words a below stack is) in
    let caller : stack_of words (record a { next = a.next + 1 }) below ≡ goes_on stack ((top stack).next + 1) (locals_of stack) =
    rw next (goes_on-stack_of words words a (a.next + 1) below stack is refl ∙ ap (goes_on stack (a.next + 1)) (sym (locals-view words a below stack is))) in
    ap (λ (l : List ℕ).
    above (record { function = g; next = 0; locals = l }) d (stack_of (take (length words) words') (record a { next = a.next + 1 }) below))
    back
    ∙ (ap (λ (l : List ℕ). above (record { function = g; next = 0; locals = ls }) d (stack_of l (record a { next = a.next + 1 }) below)) front
    ∙ ap (above (record { function = g; next = 0; locals = ls }) d) caller)

pub called_in_order : (words words' ls : List ℕ) (a b : Activation) (below : List Activation)
    → StandInOrder (length words) a.start below
    → words' ≡ words ++ ls
    → b.start ≡ a.start
    → StandInOrder (length words') (length words) (b ∷ below)
unfolding StandInOrder
called_in_order words words' ls a b below order longer same = (rw longer (omega (arith, length-append words ls)), rw same order)

-- the top frame's words alone are others
pub replaced-stack_of : (words words' ls : List ℕ) (a : Activation) (g n : ℕ) (below : List Activation) (stack : Stack)
    → stack_of words a below ≡ stack
    → a.start ≤ length words
    → words' ≡ take a.start words ++ ls
    → stack_of words' (record a { function = g; next = n }) below ≡ with_top stack (record { function = g; next = n; locals = ls })
replaced-stack_of words words' ls a g n below stack is within e =
    let short : length (take a.start words) ≡ a.start = length-take-le a.start words within in
    let front : take a.start words' ≡ take a.start words = rw e (take_at (take a.start words) ls a.start short) in
    let back : drop a.start words' ≡ ls = rw e (drop_at (take a.start words) ls a.start short) in
    with_top-stack_of words words' a g n below front
    ∙ (ap (λ (s : Stack). with_top s (record { function = g; next = n; locals = drop a.start words' })) is
    ∙ ap (λ (l : List ℕ). with_top stack (record { function = g; next = n; locals = l })) back)

pub kept-stack_of : (words words' ls : List ℕ) (a : Activation) (below : List Activation) (stack : Stack)
    → stack_of words a below ≡ stack
    → a.start ≤ length words
    → words' ≡ take a.start words ++ ls
    → stack_of words' a below ≡ goes_on stack (top stack).next ls
kept-stack_of words words' ls a below stack is within e =
    let here : frame_of a ls ≡ record (top stack) { locals = ls } =
    ap (λ (frame : Frame). record frame { locals = ls }) (sym (top-view words a below stack is)) in
    replaced-stack_of words words' ls a a.function a.next below stack is within e ∙ ap (with_top stack) here

pub replaced_in_order : (words words' ls : List ℕ) (start : ℕ) (below : List Activation)
    → StandInOrder (length words) start below
    → words' ≡ take start words ++ ls
    → StandInOrder (length words') start below
replaced_in_order words words' ls start below order e =
    let within = start_within (length words) start below order in
    order_within (length words) (length words') start below order (rw e (omega (arith, length-append (take start words) ls, length-take-le start words within)))

-- a return to the frame below
pub room_below : (words : List ℕ) (a caller : Activation) (below : List Activation) (stack : Stack) (n : ℕ)
    → stack_of words a (caller ∷ below) ≡ stack
    → StandInOrder (length words) a.start (caller ∷ below)
    → ResultFits stack n
    → caller.start + a.place + n ≤ a.start
unfolding stack_of StandInOrder
room_below words a caller below stack n is order fits =
    let here : ResultFits (stack_of words a (caller ∷ below)) n = subst (λ (s : Stack). ResultFits s n) (sym is) fits in
    let locals = ap length (ap (λ (frame : Frame). frame.locals) (top-stack_of (take a.start words) caller below)) in
    let within = start_within a.start caller.start below order.1 in
    omega (arith, here, locals, length-drop caller.start (take a.start words), length-take-le a.start words order.0)

pub popped-stack_of : (words words' ws : List ℕ) (a caller : Activation) (below : List Activation) (stack : Stack)
    → stack_of words a (caller ∷ below) ≡ stack
    → StandInOrder (length words) a.start (caller ∷ below)
    → words' ≡ with_words (take a.start words) (caller.start + a.place) ws
    → ReturnsTo stack ws (stack_of words' caller below) true
unfolding stack_of StandInOrder
popped-stack_of words words' ws a caller below stack is order e =
    let front : List ℕ = take a.start words in
    let rest : Stack = stack_of front caller below in
    let long : length front ≡ a.start = length-take-le a.start words order.0 in
    let within : caller.start ≤ length front = rw long (start_within a.start caller.start below order.1) in
    let kept : take caller.start words' ≡ take caller.start front = rw e (take-with_words caller.start front a.place ws within) in
    let back : drop caller.start words' ≡ with_words (locals_of rest) a.place ws =
    rw e (drop-with_words caller.start front a.place ws within
    ∙ ap (λ (l : List ℕ). with_words l a.place ws) (sym (locals-view front caller below rest refl))) in
    let next : (top rest).next ≡ caller.next = ap (λ (frame : Frame). frame.next) (top-stack_of front caller below) in
    let after : stack_of words' caller below ≡ goes_on rest (top rest).next (with_words (locals_of rest) a.place ws) =
    rw next (goes_on-stack_of front words' caller caller.next below rest refl kept ∙ ap (goes_on rest caller.next) back) in
    subst (λ (s : Stack). ReturnsTo s ws (stack_of words' caller below) true) is (refl, after)

pub not_popped-stack_of : (words ws : List ℕ) (a : Activation) (stack after : Stack)
    → stack_of words a [] ≡ stack
    → after ≡ stack
    → ReturnsTo stack ws after false
unfolding stack_of
not_popped-stack_of words ws a stack after is same = rw same (subst (λ (s : Stack). ReturnsTo s ws s false) is (refl, refl))

pub order_below : (end other : ℕ) (start : ℕ) (caller : Activation) (below : List Activation)
    → StandInOrder end start (caller ∷ below)
    → other ≡ start
    → StandInOrder other caller.start below
unfolding StandInOrder
order_below end other start caller below order same = rw same order.1
