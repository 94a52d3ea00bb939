-- Operands in an array of five.
use Rattle.std.proofs.Common.{◌≡◌, ℕ, suc, ◌+◌, ◌-◌, ◌<◌, ◌≤◌, List, [], ◌∷◌, ◌++◌, length, get_or, take, set, replicate, refl, sym, ap, ◌∙◌, arith}
use Rattle.std.proofs.Common.{append_assoc}
use Rattle.std.proofs.lemmas.List.{take_more, take_all, set_at, length-take}
use Rattle.word_loader_format.specs.declared.table.Operand.{Operand}
use Rattle.word_loader_format.specs.Numbers.{number_in_file}
use Rattle.word_loader_format.specs.Table.{width_of}
use Rattle.word_loader_format.specs.Rows.{numbers_at, width_all}
use Rattle.word_loader.specs.Parts.{padded}

pub width_all-append : (xs ys : List Operand) → width_all (xs ++ ys) ≡ width_all xs + width_all ys
width_all-append [] ys = omega arith
width_all-append (x ∷ xs) ys = omega (arith, width_all-append xs ys)

numbers_at-append : (file : List ℕ) (at : ℕ) (xs ys : List Operand)
    → numbers_at file at (xs ++ ys) ≡ numbers_at file at xs ++ numbers_at file (at + width_all xs) ys
unfolding numbers_at
numbers_at-append file at [] ys = ap (λ a. numbers_at file a ys) (omega arith)
numbers_at-append file at (x ∷ xs) ys =
    ap (λ t. number_in_file file at (width_of x) ∷ t)
    (numbers_at-append file (at + width_of x) xs ys ∙ ap (λ a. numbers_at file (at + width_of x) xs ++ numbers_at file a ys) (omega arith))

pub length-numbers_at : (file : List ℕ) (at : ℕ) (xs : List Operand) → length (numbers_at file at xs) ≡ length xs
unfolding numbers_at
length-numbers_at file at [] = refl
length-numbers_at file at (x ∷ xs) = ap suc (length-numbers_at file (at + width_of x) xs)

pub no_numbers : (file : List ℕ) (at : ℕ) → ◌≡◌ {A = List ℕ} (0 ∷ 0 ∷ 0 ∷ 0 ∷ 0 ∷ []) (numbers_at file at [] ++ 0 ∷ 0 ∷ 0 ∷ 0 ∷ 0 ∷ [])
unfolding numbers_at
no_numbers file at = refl

pub next_width : (ops : List Operand) (i : ℕ) (d : Operand) (place at w : ℕ)
    → i < length ops
    → place ≡ at + width_all (take i ops)
    → w ≡ width_of (get_or ops i d)
    → place + w ≡ at + width_all (take (i + 1) ops)
next_width ops i d place at w h e f =
    let more : width_all (take (i + 1) ops) ≡ width_all (take i ops) + width_all (get_or ops i d ∷ []) =
    ap width_all (take_more ops i d h) ∙ width_all-append (take i ops) (get_or ops i d ∷ []) in
    omega (arith, more, e, f)

one_number : (file : List ℕ) (at : ℕ) (op : Operand) → numbers_at file at (op ∷ []) ≡ number_in_file file at (width_of op) ∷ []
unfolding numbers_at
one_number file at op = refl

zeros : (i : ℕ) → i < 5 → replicate {A = ℕ} (5 - i) 0 ≡ 0 ∷ replicate (5 - (i + 1)) 0
zeros i h = let e : 5 - i ≡ suc (5 - (i + 1)) = omega (arith, h) in ap (λ n. replicate {A = ℕ} n 0) e

pub next_number : (file : List ℕ) (at : ℕ) (ops : List Operand) (i : ℕ) (d : Operand) (numbers : List ℕ) (place w n : ℕ)
    → length ops ≤ 5
    → i < length ops
    → numbers ≡ numbers_at file at (take i ops) ++ replicate (5 - i) 0
    → place ≡ at + width_all (take i ops)
    → w ≡ width_of (get_or ops i d)
    → n ≡ number_in_file file place w
    → set numbers i n ≡ numbers_at file at (take (i + 1) ops) ++ replicate (5 - (i + 1)) 0
next_number file at ops i d numbers place w n few h made here width value =
    let front : List ℕ = numbers_at file at (take i ops) in
    let op : Operand = get_or ops i d in
    let back : List ℕ = replicate (5 - (i + 1)) 0 in
    let len : length front ≡ i = length-numbers_at file at (take i ops) ∙ omega (arith, length-take i ops) in
    let last : numbers_at file (at + width_all (take i ops)) (op ∷ []) ≡ n ∷ [] =
    one_number file (at + width_all (take i ops)) op
    ∙ ap (λ v. v ∷ []) (ap (λ a. number_in_file file a (width_of op)) (sym here) ∙ ap (number_in_file file place) (sym width) ∙ sym value)
    in
    let more : numbers_at file at (take (i + 1) ops) ≡ front ++ n ∷ [] =
    ap (numbers_at file at) (take_more ops i d h) ∙ numbers_at-append file at (take i ops) (op ∷ []) ∙ ap (λ t. front ++ t) last in
    ap (λ t. set t i n) (made ∙ ap (λ t. front ++ t) (zeros i (omega (arith, h, few))))
    ∙ set_at front 0 back n i len
    ∙ sym (append_assoc front (n ∷ []) back)
    ∙ ap (λ t. t ++ back) (sym more)

pub all_numbers : (file : List ℕ) (at : ℕ) (ops : List Operand) (i : ℕ) (numbers : List ℕ)
    → i ≤ length ops
    → length ops ≤ i
    → numbers ≡ numbers_at file at (take i ops) ++ replicate (5 - i) 0
    → numbers ≡ padded (numbers_at file at ops)
all_numbers file at ops i numbers h k made =
    let all : take i ops ≡ ops = take_all i ops k in
    let size : i ≡ length (numbers_at file at ops) = omega (arith, h, k, length-numbers_at file at ops) in
    made ∙ ap (λ t. numbers_at file at t ++ replicate (5 - i) 0) all ∙ ap (λ n. numbers_at file at ops ++ replicate (5 - n) 0) size
