-- Tests that are all met, and the first one that isn't.
use Rattle.std.proofs.Common.{◌≡◌, Bool, true, false, cond, List, [], ◌∷◌, ◌++◌, Result, Ok, Err, refl}
use Rattle.word_loader_format.specs.declared.rows.Fault.{Fault}
use Rattle.word_loader_format.specs.Rows.{Test, checked}

abbrev pub AreMet : List Test → Type 0
AreMet [] = Unit {0}
AreMet (test ∷ tests) = (test.holds ≡ true) × AreMet tests

guard : (b : Bool) (r : Result (Unit {0}) Fault) (f : Fault) → cond b r (Err f) ≡ Ok tt → (b ≡ true) × (r ≡ Ok tt)
guard true r f e = (refl, e)
guard false r f e = absurd cc

pub met_from_ok : (tests : List Test) → checked tests ≡ Ok tt → AreMet tests
met_from_ok [] e = tt
met_from_ok (test ∷ tests) e = let g = guard test.holds (checked tests) _ e in (g.0, met_from_ok tests g.1)

pub ok_from_met : (tests : List Test) → AreMet tests → checked tests ≡ Ok tt
ok_from_met [] m = refl
ok_from_met (test ∷ tests) m = rw m.0 (ok_from_met tests m.1)

pub met_both : (xs ys : List Test) → AreMet xs → AreMet ys → AreMet (xs ++ ys)
met_both [] ys m n = n
met_both (x ∷ xs) ys m n = (m.0, met_both xs ys m.1 n)

pub met_left : (xs ys : List Test) → AreMet (xs ++ ys) → AreMet xs
met_left [] ys m = tt
met_left (x ∷ xs) ys m = (m.0, met_left xs ys m.1)

pub met_right : (xs ys : List Test) → AreMet (xs ++ ys) → AreMet ys
met_right [] ys m = m
met_right (x ∷ xs) ys m = met_right xs ys m.1

-- the first that isn't met is the first of the front, or where that is met, of the rest
pub checked_after : (xs ys : List Test) → checked xs ≡ Ok tt → checked (xs ++ ys) ≡ checked ys
checked_after [] ys e = refl
checked_after (x ∷ xs) ys e = let m = met_from_ok (x ∷ xs) e in rw m.0 (checked_after xs ys (ok_from_met xs m.1))

same_fault : (b : Bool) (r s : Result (Unit {0}) Fault) (f g : Fault) → (r ≡ Err f → s ≡ Err f) → cond b r (Err g) ≡ Err f → cond b s (Err g) ≡ Err f
same_fault true r s f g h e = h e
same_fault false r s f g h e = e

pub checked_before : (xs ys : List Test) (f : Fault) → checked xs ≡ Err f → checked (xs ++ ys) ≡ Err f
checked_before [] ys f e = absurd cc
checked_before (x ∷ xs) ys f e = same_fault x.holds (checked xs) (checked (xs ++ ys)) f _ (checked_before xs ys f) e
