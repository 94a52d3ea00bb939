-- Fields that stand in a file: which numbers are read where fields were written, and which bytes stand where numbers
-- are read.
use Rattle.std.proofs.Common.{◌≡◌, ℕ, ◌+◌, ◌≤◌, List, [], ◌∷◌, ◌++◌, length, take, drop, refl, sym, ap, ◌∙◌, subst, arith, append_assoc}
use Rattle.std.proofs.Math.Seq.{take-add}
use Rattle.std.specs.List.{flat_map, AllByRecursion}
use Rattle.std.proofs.lemmas.List.{take_at, drop_at, length-append, length-drop, length-take-le, drop-drop}
use Rattle.word_loader_format.specs.Numbers.{little_endian, number_written, number_in_file}
use Rattle.word_loader_format.specs.Layout.{Field, field_bytes, FitsField}
use Rattle.word_loader_format.specs.Laws.{AreBytes}
use Rattle.word_loader_format.proofs.Numbers.{AreBytes-drop, AreBytes-take, length-little_endian, number-little_endian, little_endian-number}

-- these fields stand in the file from a place on
abbrev pub Stand : List ℕ → ℕ → List Field → Type 0
Stand file at [] = Unit {0}
Stand file at (f ∷ fs) = (at + f.width ≤ length file) × ((number_in_file file at f.width ≡ f.value) × Stand file (at + f.width) fs)

abbrev pub width_sum : List Field → ℕ
width_sum [] = 0
width_sum (f ∷ fs) = f.width + width_sum fs

pub width_sum-append : (xs ys : List Field) → width_sum (xs ++ ys) ≡ width_sum xs + width_sum ys
width_sum-append [] ys = omega arith
width_sum-append (x ∷ xs) ys = omega (arith, width_sum-append xs ys)

pub stand_both : (file : List ℕ) (at : ℕ) (xs ys : List Field) → Stand file at xs → Stand file (at + width_sum xs) ys → Stand file at (xs ++ ys)
stand_both file at [] ys s t = subst (λ (a : ℕ). Stand file a ys) (omega arith) t
stand_both file at (x ∷ xs) ys s t =
    let there : at + (x.width + width_sum xs) ≡ at + x.width + width_sum xs = omega arith in
    (s.0, (s.1.0, stand_both file (at + x.width) xs ys s.1.1 (subst (λ (a : ℕ). Stand file a ys) there t)))

pub stand_left : (file : List ℕ) (at : ℕ) (xs ys : List Field) → Stand file at (xs ++ ys) → Stand file at xs
stand_left file at [] ys s = tt
stand_left file at (x ∷ xs) ys s = (s.0, (s.1.0, stand_left file (at + x.width) xs ys s.1.1))

pub stand_right : (file : List ℕ) (at : ℕ) (xs ys : List Field) → Stand file at (xs ++ ys) → Stand file (at + width_sum xs) ys
stand_right file at [] ys s = subst (λ (a : ℕ). Stand file a ys) (omega arith) s
stand_right file at (x ∷ xs) ys s =
    let there : at + x.width + width_sum xs ≡ at + (x.width + width_sum xs) = omega arith in
    subst (λ (a : ℕ). Stand file a ys) there (stand_right file (at + x.width) xs ys s.1.1)

pub stand_within : (file : List ℕ) (at : ℕ) (fs : List Field) → at ≤ length file → Stand file at fs → at + width_sum fs ≤ length file
stand_within file at [] h s = omega (arith, h)
stand_within file at (f ∷ fs) h s = omega (arith, stand_within file (at + f.width) fs s.0 s.1.1)

-- what was written stands there
pub written_stands : (file : List ℕ) (at : ℕ) (fs : List Field) (rest : List ℕ)
    → at ≤ length file
    → drop at file ≡ flat_map field_bytes fs ++ rest
    → AllByRecursion FitsField fs
    → Stand file at fs
unfolding number_in_file
written_stands file at [] rest h e within = tt
written_stands file at (f ∷ fs) rest h e within =
    let others : List ℕ = flat_map field_bytes fs ++ rest in
    let e2 : drop at file ≡ field_bytes f ++ others = e ∙ append_assoc (field_bytes f) (flat_map field_bytes fs) rest in
    let len : length (field_bytes f) ≡ f.width = length-little_endian f.width f.value in
    let sum : length (drop at file) ≡ f.width + length others = ap length e2 ∙ length-append (field_bytes f) others ∙ ap (λ n. n + length others) len in
    let room : at + f.width ≤ length file = omega (arith, sum, length-drop at file, h) in
    let read : number_written (take f.width (drop at file)) ≡ f.value =
    ap (λ t. number_written (take f.width t)) e2
    ∙ ap number_written (take_at (field_bytes f) others f.width len)
    ∙ number-little_endian f.width f.value within.0 in
    let next : drop (at + f.width) file ≡ others = sym (drop-drop f.width at file) ∙ ap (drop f.width) e2 ∙ drop_at (field_bytes f) others f.width len in
    (room, (read, written_stands file (at + f.width) fs rest room next within.1))

-- what stands there was written
pub standing_is_written : (file : List ℕ) (at : ℕ) (fs : List Field)
    → AreBytes file
    → Stand file at fs
    → take (width_sum fs) (drop at file) ≡ flat_map field_bytes fs
unfolding number_in_file
standing_is_written file at [] bytes s = refl
standing_is_written file at (f ∷ fs) bytes s =
    let front : List ℕ = take f.width (drop at file) in
    let len : length front ≡ f.width = length-take-le f.width (drop at file) (omega (arith, length-drop at file, s.0)) in
    let first : front ≡ field_bytes f =
    sym (little_endian-number front (AreBytes-take f.width (drop at file) (AreBytes-drop at file bytes)))
    ∙ ap (λ n. little_endian n (number_written front)) len
    ∙ ap (little_endian f.width) s.1.0 in
    take-add f.width (width_sum fs) (drop at file) ∙ ap (λ t. t ++ take (width_sum fs) (drop f.width (drop at file))) first
    ∙ ap (λ t. field_bytes f ++ take (width_sum fs) t) (drop-drop f.width at file)
    ∙ ap (λ t. field_bytes f ++ t) (standing_is_written file (at + f.width) fs bytes s.1.1)
