-- Elements of lists, tests of them, and what begins at a place of a list.
use Rattle.std.proofs.Common.{◌≡◌, ℕ, zero, suc, ◌≤◌, ◌<◌, ◌⊎◌, inl, inr, List, [], ◌∷◌, ◌++◌, length, map, drop, refl, ap, ◌∙◌, arith}
use Rattle.std.specs.Prelude.{Bool, true, false, ◌&&◌, ◌||◌}
use Rattle.std.specs.List.{list_any}
use Rattle.htt_parser_recogniser.specs.Rounds.{Has}

pub decide : (b : Bool) → (b ≡ true) ⊎ (b ≡ false)
decide true = inl refl
decide false = inr refl

pub both : (a b : Bool) → (a && b) ≡ true → (a ≡ true) × (b ≡ true)
both true b h = (refl, h)
both false b h = absurd (let no : false ≡ true = h in cc)

pub in_left : {A : Type 0} (xs ys : List A) (x : A) → Has xs x → Has (xs ++ ys) x
in_left [] ys x h = absurd h
in_left (z ∷ xs) ys x (inl e) = inl e
in_left (z ∷ xs) ys x (inr h) = inr (in_left xs ys x h)

pub in_right : {A : Type 0} (xs ys : List A) (x : A) → Has ys x → Has (xs ++ ys) x
in_right [] ys x h = h
in_right (z ∷ xs) ys x h = inr (in_right xs ys x h)

pub in_either : {A : Type 0} (xs ys : List A) (x : A) → Has (xs ++ ys) x → Has xs x ⊎ Has ys x
in_either [] ys x h = inr h
in_either (z ∷ xs) ys x (inl e) = inl (inl e)
in_either (z ∷ xs) ys x (inr h) = elim (in_either xs ys x h) [ inl a ↦ inl (inr a) | inr b ↦ inr b ]

pub in_map : {A B : Type 0} (f : A → B) (xs : List A) (x : A) → Has xs x → Has (map f xs) (f x)
in_map f [] x h = absurd h
in_map f (z ∷ xs) x (inl e) = inl (ap f e)
in_map f (z ∷ xs) x (inr h) = inr (in_map f xs x h)

pub or_true : (b : Bool) → (b || true) ≡ true
or_true true = refl
or_true false = refl

pub any_there : {A : Type 0} (p : A → Bool) (xs : List A) (x : A) → Has xs x → p x ≡ true → list_any p xs ≡ true
any_there p [] x h is = absurd h
any_there p (z ∷ xs) x (inl e) is = ap (λ b. b || list_any p xs) (ap p e ∙ is)
any_there p (z ∷ xs) x (inr h) is = ap (λ b. p z || b) (any_there p xs x h is) ∙ or_true (p z)

some_first : {A : Type 0} (p : A → Bool) (z : A) (xs : List A) (b : Bool)
    → p z ≡ b
    → (b || list_any p xs) ≡ true
    → (list_any p xs ≡ true → (x : A) × Has xs x × (p x ≡ true))
    → (x : A) × Has (z ∷ xs) x × (p x ≡ true)
some_first p z xs true is h rest = (z, inl refl, is)
some_first p z xs false is h rest = let found = rest h in (found.0, inr found.1, found.2)

pub some_there : {A : Type 0} (p : A → Bool) (xs : List A) → list_any p xs ≡ true → (x : A) × Has xs x × (p x ≡ true)
some_there p [] h = absurd (let no : false ≡ true = h in cc)
some_there p (z ∷ xs) h = some_first p z xs (p z) refl h (some_there p xs)

-- what begins at a place
pub begins_at : {A : Type 0} (xs : List A) (i : ℕ) (x : A) (rest : List A) → x ∷ rest ≡ drop i xs → (suc i ≤ length xs) × (rest ≡ drop (suc i) xs)
begins_at [] zero x rest e = absurd (let h = ap length e in grind (arith, h))
begins_at [] (suc i) x rest e = absurd (let h = ap length e in grind (arith, h))
begins_at (y ∷ xs) zero x rest e = (omega arith, ap (drop 1) e)
begins_at (y ∷ xs) (suc i) x rest e = let h = begins_at xs i x rest e in (let k = h.0 in omega (arith, k), h.1)

pub below_or_same : (a b : ℕ) → a < suc b → (a < b) ⊎ (a ≡ b)
below_or_same zero zero h = inr refl
below_or_same zero (suc b) h = inl (omega arith)
below_or_same (suc a) zero h = absurd (omega (arith, h))
below_or_same (suc a) (suc b) h = elim (below_or_same a b (omega (arith, h))) [ inl less ↦ inl (omega (arith, less)) | inr same ↦ inr (ap suc same) ]
