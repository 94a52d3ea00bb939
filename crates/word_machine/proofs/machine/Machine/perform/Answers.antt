use Rattle.std.proofs.Common.{◌∷◌, arith}
use Rattle.word_loader_code.specs.declared.code.Instr.TheVariants.{Const, Mov, Op, Sel, Alloc, Get, Set, Free, Jz, Call, Ret, Tail}
use Rattle.theory_machine.proofs.Standing.{standing_at}
use Rattle.word_machine.proofs.Room.{next_fits, named_within, callee_at, result_fits, called-at, replaced-at}
use Rattle.word_machine.proofs.machine.Machine.perform.Goals as goal

pub set_word-requires-clause-next : goal.set_word-requires-clause-next
set_word-requires-clause-next c =
    let s =
    standing_at c.args.code.now c.args.self.now.frames c.args.function.now (Const c.in-Const.d c.in-Const.v) c.requires.valid
    c.requires.fits c.requires.function (rw c.in-Const.is at c.requires.instr) in
    next_fits _ _ _ _ c.requires.valid s (λ x. x)

pub set_word-requires-clause-within : goal.set_word-requires-clause-within
set_word-requires-clause-within c =
    let s =
    standing_at c.args.code.now c.args.self.now.frames c.args.function.now (Const c.in-Const.d c.in-Const.v) c.requires.valid
    c.requires.fits c.requires.function (rw c.in-Const.is at c.requires.instr) in
    omega (arith, s.valid, s.locals)

pub move_words-requires-clause-next : goal.move_words-requires-clause-next
move_words-requires-clause-next c =
    let s =
    standing_at c.args.code.now c.args.self.now.frames c.args.function.now (Mov c.in-Mov.d c.in-Mov.s c.in-Mov.n) c.requires.valid
    c.requires.fits c.requires.function (rw c.in-Mov.is at c.requires.instr) in
    next_fits _ _ _ _ c.requires.valid s (λ x. x)

pub move_words-requires-clause-read : goal.move_words-requires-clause-read
move_words-requires-clause-read c =
    let s =
    standing_at c.args.code.now c.args.self.now.frames c.args.function.now (Mov c.in-Mov.d c.in-Mov.s c.in-Mov.n) c.requires.valid
    c.requires.fits c.requires.function (rw c.in-Mov.is at c.requires.instr) in
    omega (arith, s.valid, s.locals)

pub move_words-requires-clause-within : goal.move_words-requires-clause-within
move_words-requires-clause-within c =
    let s =
    standing_at c.args.code.now c.args.self.now.frames c.args.function.now (Mov c.in-Mov.d c.in-Mov.s c.in-Mov.n) c.requires.valid
    c.requires.fits c.requires.function (rw c.in-Mov.is at c.requires.instr) in
    omega (arith, s.valid, s.locals)

pub put_result-requires-clause-next : goal.put_result-requires-clause-next
put_result-requires-clause-next c =
    let s =
    standing_at c.args.code.now c.args.self.now.frames c.args.function.now (Op c.in-Op.d c.in-Op.o c.in-Op.a c.in-Op.b) c.requires.valid
    c.requires.fits c.requires.function (rw c.in-Op.is at c.requires.instr) in
    next_fits _ _ _ _ c.requires.valid s (λ x. x)

pub put_result-requires-clause-within : goal.put_result-requires-clause-within
put_result-requires-clause-within c =
    let s =
    standing_at c.args.code.now c.args.self.now.frames c.args.function.now (Op c.in-Op.d c.in-Op.o c.in-Op.a c.in-Op.b) c.requires.valid
    c.requires.fits c.requires.function (rw c.in-Op.is at c.requires.instr) in
    omega (arith, s.valid, s.locals)

pub put_result-requires-clause-left : goal.put_result-requires-clause-left
put_result-requires-clause-left c =
    let s =
    standing_at c.args.code.now c.args.self.now.frames c.args.function.now (Op c.in-Op.d c.in-Op.o c.in-Op.a c.in-Op.b) c.requires.valid
    c.requires.fits c.requires.function (rw c.in-Op.is at c.requires.instr) in
    omega (arith, s.valid, s.locals)

pub put_result-requires-clause-right : goal.put_result-requires-clause-right
put_result-requires-clause-right c =
    let s =
    standing_at c.args.code.now c.args.self.now.frames c.args.function.now (Op c.in-Op.d c.in-Op.o c.in-Op.a c.in-Op.b) c.requires.valid
    c.requires.fits c.requires.function (rw c.in-Op.is at c.requires.instr) in
    omega (arith, s.valid, s.locals)

pub move_either-requires-clause-next : goal.move_either-requires-clause-next
move_either-requires-clause-next c =
    let s =
    standing_at c.args.code.now c.args.self.now.frames c.args.function.now (Sel c.in-Sel.d c.in-Sel.c c.in-Sel.a c.in-Sel.b c.in-Sel.n)
    c.requires.valid c.requires.fits c.requires.function (rw c.in-Sel.is at c.requires.instr) in
    next_fits _ _ _ _ c.requires.valid s (λ x. x)

pub move_either-requires-clause-test : goal.move_either-requires-clause-test
move_either-requires-clause-test c =
    let s =
    standing_at c.args.code.now c.args.self.now.frames c.args.function.now (Sel c.in-Sel.d c.in-Sel.c c.in-Sel.a c.in-Sel.b c.in-Sel.n)
    c.requires.valid c.requires.fits c.requires.function (rw c.in-Sel.is at c.requires.instr) in
    omega (arith, s.valid, s.locals)

pub move_either-requires-clause-within : goal.move_either-requires-clause-within
move_either-requires-clause-within c =
    let s =
    standing_at c.args.code.now c.args.self.now.frames c.args.function.now (Sel c.in-Sel.d c.in-Sel.c c.in-Sel.a c.in-Sel.b c.in-Sel.n)
    c.requires.valid c.requires.fits c.requires.function (rw c.in-Sel.is at c.requires.instr) in
    omega (arith, s.valid, s.locals)

pub move_either-requires-clause-first : goal.move_either-requires-clause-first
move_either-requires-clause-first c =
    let s =
    standing_at c.args.code.now c.args.self.now.frames c.args.function.now (Sel c.in-Sel.d c.in-Sel.c c.in-Sel.a c.in-Sel.b c.in-Sel.n)
    c.requires.valid c.requires.fits c.requires.function (rw c.in-Sel.is at c.requires.instr) in
    omega (arith, s.valid, s.locals)

pub move_either-requires-clause-second : goal.move_either-requires-clause-second
move_either-requires-clause-second c =
    let s =
    standing_at c.args.code.now c.args.self.now.frames c.args.function.now (Sel c.in-Sel.d c.in-Sel.c c.in-Sel.a c.in-Sel.b c.in-Sel.n)
    c.requires.valid c.requires.fits c.requires.function (rw c.in-Sel.is at c.requires.instr) in
    omega (arith, s.valid, s.locals)

pub put_block-requires-clause-next : goal.put_block-requires-clause-next
put_block-requires-clause-next c =
    let s =
    standing_at c.args.code.now c.args.self.now.frames c.args.function.now (Alloc c.in-Alloc.d c.in-Alloc.s c.in-Alloc.n) c.requires.valid
    c.requires.fits c.requires.function (rw c.in-Alloc.is at c.requires.instr) in
    next_fits _ _ _ _ c.requires.valid s (λ x. x)

pub put_block-requires-clause-written : goal.put_block-requires-clause-written
put_block-requires-clause-written c =
    let s =
    standing_at c.args.code.now c.args.self.now.frames c.args.function.now (Alloc c.in-Alloc.d c.in-Alloc.s c.in-Alloc.n) c.requires.valid
    c.requires.fits c.requires.function (rw c.in-Alloc.is at c.requires.instr) in
    omega (arith, s.valid, s.locals)

pub put_block-requires-clause-read : goal.put_block-requires-clause-read
put_block-requires-clause-read c =
    let s =
    standing_at c.args.code.now c.args.self.now.frames c.args.function.now (Alloc c.in-Alloc.d c.in-Alloc.s c.in-Alloc.n) c.requires.valid
    c.requires.fits c.requires.function (rw c.in-Alloc.is at c.requires.instr) in
    omega (arith, s.valid, s.locals)

pub get_block-requires-clause-next : goal.get_block-requires-clause-next
get_block-requires-clause-next c =
    let s =
    standing_at c.args.code.now c.args.self.now.frames c.args.function.now (Get c.in-Get.d c.in-Get.p c.in-Get.n) c.requires.valid
    c.requires.fits c.requires.function (rw c.in-Get.is at c.requires.instr) in
    next_fits _ _ _ _ c.requires.valid s (λ x. x)

pub get_block-requires-clause-location : goal.get_block-requires-clause-location
get_block-requires-clause-location c =
    let s =
    standing_at c.args.code.now c.args.self.now.frames c.args.function.now (Get c.in-Get.d c.in-Get.p c.in-Get.n) c.requires.valid
    c.requires.fits c.requires.function (rw c.in-Get.is at c.requires.instr) in
    omega (arith, s.valid, s.locals)

pub get_block-requires-clause-written : goal.get_block-requires-clause-written
get_block-requires-clause-written c =
    let s =
    standing_at c.args.code.now c.args.self.now.frames c.args.function.now (Get c.in-Get.d c.in-Get.p c.in-Get.n) c.requires.valid
    c.requires.fits c.requires.function (rw c.in-Get.is at c.requires.instr) in
    omega (arith, s.valid, s.locals)

pub set_block-requires-clause-next : goal.set_block-requires-clause-next
set_block-requires-clause-next c =
    let s =
    standing_at c.args.code.now c.args.self.now.frames c.args.function.now (Set c.in-Set.p c.in-Set.s c.in-Set.n) c.requires.valid
    c.requires.fits c.requires.function (rw c.in-Set.is at c.requires.instr) in
    next_fits _ _ _ _ c.requires.valid s (λ x. x)

pub set_block-requires-clause-location : goal.set_block-requires-clause-location
set_block-requires-clause-location c =
    let s =
    standing_at c.args.code.now c.args.self.now.frames c.args.function.now (Set c.in-Set.p c.in-Set.s c.in-Set.n) c.requires.valid
    c.requires.fits c.requires.function (rw c.in-Set.is at c.requires.instr) in
    omega (arith, s.valid, s.locals)

pub set_block-requires-clause-read : goal.set_block-requires-clause-read
set_block-requires-clause-read c =
    let s =
    standing_at c.args.code.now c.args.self.now.frames c.args.function.now (Set c.in-Set.p c.in-Set.s c.in-Set.n) c.requires.valid
    c.requires.fits c.requires.function (rw c.in-Set.is at c.requires.instr) in
    omega (arith, s.valid, s.locals)

pub free_block-requires-clause-next : goal.free_block-requires-clause-next
free_block-requires-clause-next c =
    let s =
    standing_at c.args.code.now c.args.self.now.frames c.args.function.now (Free c.in-Free.p c.in-Free.n) c.requires.valid c.requires.fits
    c.requires.function (rw c.in-Free.is at c.requires.instr) in
    next_fits _ _ _ _ c.requires.valid s (λ x. x)

pub free_block-requires-clause-location : goal.free_block-requires-clause-location
free_block-requires-clause-location c =
    let s =
    standing_at c.args.code.now c.args.self.now.frames c.args.function.now (Free c.in-Free.p c.in-Free.n) c.requires.valid c.requires.fits
    c.requires.function (rw c.in-Free.is at c.requires.instr) in
    omega (arith, s.valid, s.locals)

pub jump_on_zero-requires-clause-next : goal.jump_on_zero-requires-clause-next
jump_on_zero-requires-clause-next c =
    let s =
    standing_at c.args.code.now c.args.self.now.frames c.args.function.now (Jz c.in-Jz.c c.in-Jz.target) c.requires.valid c.requires.fits
    c.requires.function (rw c.in-Jz.is at c.requires.instr) in
    next_fits _ _ _ _ c.requires.valid s (λ x. x)

pub jump_on_zero-requires-clause-within : goal.jump_on_zero-requires-clause-within
jump_on_zero-requires-clause-within c =
    let s =
    standing_at c.args.code.now c.args.self.now.frames c.args.function.now (Jz c.in-Jz.c c.in-Jz.target) c.requires.valid c.requires.fits
    c.requires.function (rw c.in-Jz.is at c.requires.instr) in
    omega (arith, s.valid, s.locals)

pub bounds-as_slice-g : goal.bounds-as_slice-g
bounds-as_slice-g c =
    let s =
    standing_at c.args.code.now c.args.self.now.frames c.args.function.now (Call c.in-Call.g c.in-Call.a c.in-Call.d) c.requires.valid
    c.requires.fits c.requires.function (rw c.in-Call.is at c.requires.instr) in
    rw c.as_slice.ensures.same_items (named_within c.args.code.now c.args.function.now c.in-Call.g c.in-Call.a s.valid.0)

pub call-requires-clause-next : goal.call-requires-clause-next
call-requires-clause-next c =
    let s =
    standing_at c.args.code.now c.args.self.now.frames c.args.function.now (Call c.in-Call.g c.in-Call.a c.in-Call.d) c.requires.valid
    c.requires.fits c.requires.function (rw c.in-Call.is at c.requires.instr) in
    next_fits _ _ _ _ c.requires.valid s (λ x. x)

pub call-requires-clause-params : goal.call-requires-clause-params
call-requires-clause-params c =
    let s =
    standing_at c.args.code.now c.args.self.now.frames c.args.function.now (Call c.in-Call.g c.in-Call.a c.in-Call.d) c.requires.valid
    c.requires.fits c.requires.function (rw c.in-Call.is at c.requires.instr) in
    let read = rw c.as_slice.ensures.same_items at c.index-as_slice-g.is in
    let k = callee_at c.args.code.now c.args.function.now c.in-Call.g c.in-Call.a c.index-as_slice-g.result c.requires.valid s.valid.0 read in
    k.params

pub call-requires-clause-read : goal.call-requires-clause-read
call-requires-clause-read c =
    let s =
    standing_at c.args.code.now c.args.self.now.frames c.args.function.now (Call c.in-Call.g c.in-Call.a c.in-Call.d) c.requires.valid
    c.requires.fits c.requires.function (rw c.in-Call.is at c.requires.instr) in
    let read = rw c.as_slice.ensures.same_items at c.index-as_slice-g.is in
    let k = callee_at c.args.code.now c.args.function.now c.in-Call.g c.in-Call.a c.index-as_slice-g.result c.requires.valid s.valid.0 read in
    omega (arith, k.read, s.locals)

pub return_words-requires-clause-read : goal.return_words-requires-clause-read
return_words-requires-clause-read c =
    let s =
    standing_at c.args.code.now c.args.self.now.frames c.args.function.now (Ret c.in-Ret.s) c.requires.valid c.requires.fits
    c.requires.function (rw c.in-Ret.is at c.requires.instr) in
    omega (arith, s.valid, s.locals)

pub return_words-requires-clause-fits : goal.return_words-requires-clause-fits
return_words-requires-clause-fits c = result_fits c.args.code.now c.args.self.now.frames c.args.function.now c.requires.fits c.requires.function

pub bounds-as_slice-g-in-Tail : goal.bounds-as_slice-g-in-Tail
bounds-as_slice-g-in-Tail c =
    let s =
    standing_at c.args.code.now c.args.self.now.frames c.args.function.now (Tail c.in-Tail.g c.in-Tail.a) c.requires.valid c.requires.fits
    c.requires.function (rw c.in-Tail.is at c.requires.instr) in
    rw c.as_slice-in-Tail.ensures.same_items (named_within c.args.code.now c.args.function.now c.in-Tail.g c.in-Tail.a s.valid.1)

pub tail-requires-clause-params : goal.tail-requires-clause-params
tail-requires-clause-params c =
    let s =
    standing_at c.args.code.now c.args.self.now.frames c.args.function.now (Tail c.in-Tail.g c.in-Tail.a) c.requires.valid c.requires.fits
    c.requires.function (rw c.in-Tail.is at c.requires.instr) in
    let read = rw c.as_slice-in-Tail.ensures.same_items at c.index-as_slice-g-in-Tail.is in
    let k = callee_at c.args.code.now c.args.function.now c.in-Tail.g c.in-Tail.a c.index-as_slice-g-in-Tail.result c.requires.valid s.valid.1 read in
    k.params

pub tail-requires-clause-read : goal.tail-requires-clause-read
tail-requires-clause-read c =
    let s =
    standing_at c.args.code.now c.args.self.now.frames c.args.function.now (Tail c.in-Tail.g c.in-Tail.a) c.requires.valid c.requires.fits
    c.requires.function (rw c.in-Tail.is at c.requires.instr) in
    let read = rw c.as_slice-in-Tail.ensures.same_items at c.index-as_slice-g-in-Tail.is in
    let k = callee_at c.args.code.now c.args.function.now c.in-Tail.g c.in-Tail.a c.index-as_slice-g-in-Tail.result c.requires.valid s.valid.1 read in
    omega (arith, k.read, s.locals)

pub returns-in-Get-clause-performs : goal.returns-in-Get-clause-performs
returns-in-Get-clause-performs c = λ rest. rw c.in-Get.is (c.get_block.ensures (c.args.fresh ∷ rest))

pub returns-in-Set-clause-performs : goal.returns-in-Set-clause-performs
returns-in-Set-clause-performs c = λ rest. rw c.in-Set.is (c.set_block.ensures (c.args.fresh ∷ rest))

pub returns-in-Free-clause-performs : goal.returns-in-Free-clause-performs
returns-in-Free-clause-performs c = λ rest. rw c.in-Free.is (c.free_block.ensures (c.args.fresh ∷ rest))

pub returns-in_ok-call-in-Call-clause-performs : goal.returns-in_ok-call-in-Call-clause-performs
returns-in_ok-call-in-Call-clause-performs c =
    let s =
    standing_at c.args.code.now c.args.self.now.frames c.args.function.now (Call c.in-Call.g c.in-Call.a c.in-Call.d) c.requires.valid
    c.requires.fits c.requires.function (rw c.in-Call.is at c.requires.instr) in
    let read = rw c.as_slice.ensures.same_items at c.index-as_slice-g.is in
    let k = callee_at c.args.code.now c.args.function.now c.in-Call.g c.in-Call.a c.index-as_slice-g.result c.requires.valid s.valid.0 read in
    λ rest. rw c.in-Call.is (called-at c.args.code.now c.args.function.now _ _ _ _ _ _ _ _ k.there c.in_ok-call-in-Call.ensures.called)

pub returns-in_ok-tail-in-Tail-clause-performs : goal.returns-in_ok-tail-in-Tail-clause-performs
returns-in_ok-tail-in-Tail-clause-performs c =
    let s =
    standing_at c.args.code.now c.args.self.now.frames c.args.function.now (Tail c.in-Tail.g c.in-Tail.a) c.requires.valid c.requires.fits
    c.requires.function (rw c.in-Tail.is at c.requires.instr) in
    let read = rw c.as_slice-in-Tail.ensures.same_items at c.index-as_slice-g-in-Tail.is in
    let k = callee_at c.args.code.now c.args.function.now c.in-Tail.g c.in-Tail.a c.index-as_slice-g-in-Tail.result c.requires.valid s.valid.1 read in
    λ rest. rw c.in-Tail.is (replaced-at c.args.code.now c.args.function.now _ _ _ _ _ _ _ k.there c.in_ok-tail-in-Tail.ensures.replaced)
