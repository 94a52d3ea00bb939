-- Variables in order, and their monotypes.
use Rattle.std.proofs.Common.{◌≡◌, ℕ, zero, suc, ◌+◌, List, [], ◌∷◌, ◌++◌, length, map, reverse, All, Some, slice_get, refl, sym, ap, ◌∙◌, subst, arith}
use Rattle.std.proofs.lemmas.List.{reverse-append}
use Rattle.htt_syntax.specs.Trees.{MonoTree, TermTree, t_var}
use Rattle.theory_renaming.specs.Renaming.{lifts, shifting, rename_term}
use Rattle.theory_values.specs.Values.{IsClosed}
use Rattle.theory_formed_shapes.specs.Shapes.{sh_mono, Shapes, HasShape}
use Rattle.theory_formed_shapes.specs.Formed.{FileShapes, IsFormedTerms, z_no_terms, z_more_terms, z_neutral, w_var}
use Rattle.theory_instances.specs.Calls.{variables, terms_from}
use Rattle.theory_instances_formed.specs.Formed.{values_shapes}
use Rattle.theory_instances_formed.proofs.Shapes.{values_get}
use Rattle.theory_instances_formed.proofs.Sites.{FormedPassed, passed_none, passed_more}

-- each index is of its monotype
abbrev pub Stand : Shapes → List ℕ → List MonoTree → Type 0
Stand g [] [] = Unit {0}
Stand g (n ∷ ns) (t ∷ ts) = HasShape g n (sh_mono t) × Stand g ns ts
Stand g [] (t ∷ ts) = ⊥
Stand g (n ∷ ns) [] = ⊥

stand_append : (g : Shapes) (ns ms : List ℕ) (ts us : List MonoTree) → Stand g ns ts → Stand g ms us → Stand g (ns ++ ms) (ts ++ us)
stand_append g [] ms [] us a b = b
stand_append g [] ms (t ∷ ts) us a b = absurd a
stand_append g (n ∷ ns) ms [] us a b = absurd a
stand_append g (n ∷ ns) ms (t ∷ ts) us a b = (a.0, stand_append g ns ms ts us (a.1) b)

pub reverse_cons : {A : Type 0} (x : A) (xs : List A) → reverse (x ∷ xs) ≡ reverse xs ++ x ∷ []
reverse_cons x xs = reverse-append (x ∷ []) xs

pub stand_reverse : (g : Shapes) (ns : List ℕ) (ts : List MonoTree) → Stand g ns ts → Stand g (reverse ns) (reverse ts)
stand_reverse g [] [] a = tt
stand_reverse g [] (t ∷ ts) a = absurd a
stand_reverse g (n ∷ ns) [] a = absurd a
stand_reverse g (n ∷ ns) (t ∷ ts) a =
    subst (λ (ms : List ℕ). Stand g ms (reverse (t ∷ ts))) (sym (reverse_cons n ns))
    (subst (λ (us : List MonoTree). Stand g (reverse ns ++ n ∷ []) us) (sym (reverse_cons t ts))
    (stand_append g (reverse ns) (n ∷ []) (reverse ts) (t ∷ []) (stand_reverse g ns ts (a.1)) (a.0, tt)))

-- so many indices from one on
abbrev pub from : ℕ → ℕ → List ℕ
from i zero = []
from i (suc n) = i ∷ from (suc i) n

from_last : (i n : ℕ) → from i (suc n) ≡ from i n ++ (i + n) ∷ []
from_last i zero = let q : i ≡ i + 0 = omega arith in ap (λ k. k ∷ []) q
from_last i (suc n) = let q : suc i + n ≡ i + suc n = omega arith in ap (λ ks. i ∷ ks) (from_last (suc i) n ∙ ap (λ k. from (suc i) n ++ k ∷ []) q)

abbrev vars : List ℕ → List TermTree
vars ns = map t_var ns

reversed_last : {A : Type 0} (xs : List A) (x : A) → reverse (xs ++ x ∷ []) ≡ x ∷ reverse xs
reversed_last [] x = refl
reversed_last (y ∷ xs) x = reverse_cons y (xs ++ x ∷ []) ∙ ap (λ ys. ys ++ y ∷ []) (reversed_last xs x) ∙ ap (λ ys. x ∷ ys) (sym (reverse_cons y xs))

pub variables_are : (n : ℕ) → variables n ≡ vars (reverse (from zero n))
variables_are zero = refl
variables_are (suc n) =
    let q : 0 + n ≡ n = omega arith in
    ap (λ ts. t_var n ∷ ts) (variables_are n) ∙ ap (λ k. t_var k ∷ vars (reverse (from zero n))) (sym q)
    ∙ ap vars (sym (ap reverse (from_last zero n) ∙ reversed_last (from zero n) (0 + n)))

-- past so many more
shifted_vars : (k : ℕ) (ns : List ℕ) → map (rename_term (shifting zero k)) (vars ns) ≡ vars (map (λ n. n + k) ns)
unfolding rename_term lifts
shifted_vars k [] = refl
shifted_vars k (n ∷ ns) = ap (λ ts. t_var (n + k) ∷ ts) (shifted_vars k ns)

map_append : {A B : Type 0} (f : A → B) (xs ys : List A) → map f (xs ++ ys) ≡ map f xs ++ map f ys
map_append f [] ys = refl
map_append f (x ∷ xs) ys = ap (λ zs. f x ∷ zs) (map_append f xs ys)

map_reverse : {A B : Type 0} (f : A → B) (xs : List A) → map f (reverse xs) ≡ reverse (map f xs)
map_reverse f [] = refl
map_reverse f (x ∷ xs) =
    ap (map f) (reverse_cons x xs) ∙ map_append f (reverse xs) (x ∷ []) ∙ ap (λ ys. ys ++ f x ∷ []) (map_reverse f xs) ∙ sym (reverse_cons (f x) (map f xs))

shifted_from : (k i n : ℕ) → map (λ m. m + k) (from i n) ≡ from (i + k) n
shifted_from k i zero = refl
shifted_from k i (suc n) = let q : suc i + k ≡ suc (i + k) = omega arith in ap (λ ks. (i + k) ∷ ks) (shifted_from k (suc i) n ∙ ap (λ j. from j n) q)

pub variables_past : (k n : ℕ) → map (rename_term (shifting zero k)) (variables n) ≡ vars (reverse (from k n))
variables_past k n =
    let q : 0 + k ≡ k = omega arith in
    ap (map (rename_term (shifting zero k))) (variables_are n) ∙ shifted_vars k (reverse (from zero n))
    ∙ ap vars (map_reverse (λ m. m + k) (from zero n) ∙ ap reverse (shifted_from k zero n ∙ ap (λ j. from j n) q))

-- the variables of a context of values, from an index on
after_some : {A : Type 0} (xs ys : List A) (n : ℕ) → slice_get (xs ++ ys) (n + length xs) ≡ slice_get ys n
after_some [] ys n = let q : n + 0 ≡ n = omega arith in ap (slice_get ys) q
after_some (x ∷ xs) ys n = let q : n + suc (length xs) ≡ suc (n + length xs) = omega arith in ap (slice_get (x ∷ (xs ++ ys))) q ∙ after_some xs ys n

pub past_some : {A : Type 0} (xs ys : List A) (k n : ℕ) → k ≡ length xs → slice_get (xs ++ ys) (n + k) ≡ slice_get ys n
past_some xs ys k n q = ap (λ j. slice_get (xs ++ ys) (n + j)) q ∙ after_some xs ys n

stand_within : (whole : List MonoTree) → All IsClosed whole → (i : ℕ) (ts : List MonoTree)
    → ((n : ℕ) (t : MonoTree) → slice_get ts n ≡ Some t → slice_get whole (n + i) ≡ Some t)
    → Stand (values_shapes whole) (from i (length ts)) ts
stand_within whole c i [] there = tt
stand_within whole c i (t ∷ ts) there =
    let q : 0 + i ≡ i = omega arith in (
      values_get whole i t c (subst (λ k. slice_get whole k ≡ Some t) q (there zero t refl)),
      stand_within whole c (suc i) ts (λ n u r.
          let p : suc n + i ≡ n + suc i = omega arith in subst (λ k. slice_get whole k ≡ Some u) p (there (suc n) u r)),
    )

front_get : {A : Type 0} (xs ys : List A) (n : ℕ) (x : A) → slice_get xs n ≡ Some x → slice_get (xs ++ ys) n ≡ Some x
front_get [] ys n x q = absurd (cc)
front_get (y ∷ xs) ys zero x q = q
front_get (y ∷ xs) ys (suc n) x q = front_get xs ys n x q

-- of two parts, the first and the second
pub front_stands : (ts us : List MonoTree) → All IsClosed (ts ++ us) → Stand (values_shapes (ts ++ us)) (from zero (length ts)) ts
front_stands ts us c =
    stand_within (ts ++ us) c zero ts (λ n t q.
    let p : n ≡ n + 0 = omega arith in subst (λ k. slice_get (ts ++ us) k ≡ Some t) p (front_get ts us n t q))

pub back_stands : (ts us : List MonoTree) (k : ℕ) → k ≡ length ts → All IsClosed (ts ++ us) → Stand (values_shapes (ts ++ us)) (from k (length us)) us
back_stands ts us k e c = stand_within (ts ++ us) c k us (λ n t q. past_some ts us k n e ∙ q)

-- these variables as terms
pub stand_terms : {file : FileShapes} (g : Shapes) (ns : List ℕ) (ts : List MonoTree) → Stand g ns ts → IsFormedTerms file g (terms_from (vars ns)) ts
stand_terms g [] [] a = z_no_terms
stand_terms g [] (t ∷ ts) a = absurd a
stand_terms g (n ∷ ns) [] a = absurd a
stand_terms g (n ∷ ns) (t ∷ ts) a = z_more_terms (z_neutral (w_var (a.0))) (stand_terms g ns ts (a.1))

pub stand_passed : {file : FileShapes} (g : Shapes) (ns : List ℕ) (ts : List MonoTree) → Stand g ns ts → FormedPassed file g (vars ns) ts
stand_passed g [] [] a = passed_none
stand_passed g [] (t ∷ ts) a = absurd a
stand_passed g (n ∷ ns) [] a = absurd a
stand_passed g (n ∷ ns) (t ∷ ts) a = passed_more (z_neutral (w_var (a.0))) (stand_passed g ns ts (a.1))
