-- In a table in order each value and each recursive predicate is found by its name, with its number.
use Rattle.std.proofs.Common.{◌≡◌, ℕ, zero, suc, ◌+◌, List, [], ◌∷◌, ◌++◌, Bool, true, false, cond, refl, sym, ◌∙◌, ap, subst, arith, append_assoc}
use Rattle.std.specs.Prelude.{if◌then◌else◌, map, Option, Some, None, option_map, slice_get, bytes_eq}
use Rattle.std.proofs.Math.Nat.{add-zero, zero-add}
use Rattle.std.proofs.lemmas.List.Sums.{sum_by-append}
use Rattle.std.proofs.lemmas.Option.{slice_get-map}
use Rattle.std.proofs.lemmas.Slice.Eq.{bytes_eq-Decides}
use Rattle.theory_text_names.specs.Scopes.{Sort, Meaning, means_mono, means_pred, means_rec, means_def, means_val, Declared, Names}
use Rattle.theory_text_names.specs.Uses.{Use, a_declared, declared_use}
use Rattle.theory_text_items.specs.Declarations.{a_value, a_recursion, declares_such, how_many}
use Rattle.theory_printing_names.specs.Scopes.{AreDeclared}
use Rattle.theory_printing_declared.specs.Tables.{those_in, params_of, vals_in, recs_in, counts_in, IsNumbered, IsNext, AreInOrder}
use Rattle.theory_printing_declared.specs.Laws.{scope_with}

-- ---- looking a name up in a table

-- behind a table in which it isn't
pub found_after : (name : List ℕ) (before after : Names) → declared_use name before ≡ None → declared_use name (before ++ after) ≡ declared_use name after
unfolding declared_use
found_after name [] after h = refl
found_after name (None ∷ ds) after h = found_after name ds after h
found_after name (Some d ∷ ds) after h =
    passed (bytes_eq d.name name) (declared_use name ds) (declared_use name (ds ++ after)) h (λ k. found_after name ds after k)
  where
    passed : (b : Bool) (x y : Option Use)
        → (if b then Some (a_declared d.meaning) else x) ≡ None
        → (x ≡ None → y ≡ declared_use name after)
        → (if b then Some (a_declared d.meaning) else y) ≡ declared_use name after
    passed true x y h k = absurd (cc h)
    passed false x y h k = k h

-- where it stands first
pub found_first : (d : Declared) (ds : Names) → declared_use d.name (Some d ∷ ds) ≡ Some (a_declared d.meaning)
unfolding declared_use
found_first d ds =
    ap (λ b. if b then Some (a_declared d.meaning) else declared_use d.name ds) ((bytes_eq-Decides d.name d.name).1 refl)

-- past another one
pub found_past : (name : List ℕ) (d : Declared) (ds : Names) → bytes_eq d.name name ≡ false → declared_use name (Some d ∷ ds) ≡ declared_use name ds
unfolding declared_use
found_past name d ds h = ap (λ b. if b then Some (a_declared d.meaning) else declared_use name ds) h

-- ---- numbers

abbrev number_of : Meaning → ℕ
number_of (means_val number) = number
number_of (means_rec number params) = number
number_of _ = zero

-- meanings of this kind are numbered by how many of it come before
abbrev NumbersItsOwn : (Meaning → Bool) → Type 0
NumbersItsOwn such = (before : Names) (m : Meaning) → such m ≡ true → IsNumbered before m → number_of m ≡ how_many such before

values_numbered : NumbersItsOwn a_value
values_numbered before (means_val number) is next = next
values_numbered before (means_rec number params) is next = absurd (cc is)
values_numbered before (means_mono t) is next = absurd (cc is)
values_numbered before (means_pred p) is next = absurd (cc is)
values_numbered before (means_def number) is next = absurd (cc is)

recursions_numbered : NumbersItsOwn a_recursion
recursions_numbered before (means_rec number params) is next = next
recursions_numbered before (means_val number) is next = absurd (cc is)
recursions_numbered before (means_mono t) is next = absurd (cc is)
recursions_numbered before (means_pred p) is next = absurd (cc is)
recursions_numbered before (means_def number) is next = absurd (cc is)

a_value_is : (m : Meaning) → a_value m ≡ true → m ≡ means_val (number_of m)
a_value_is (means_val number) is = refl
a_value_is (means_rec number params) is = absurd (cc is)
a_value_is (means_mono t) is = absurd (cc is)
a_value_is (means_pred p) is = absurd (cc is)
a_value_is (means_def number) is = absurd (cc is)

a_recursion_is : (m : Meaning) → a_recursion m ≡ true → m ≡ means_rec (number_of m) (params_of m)
a_recursion_is (means_rec number params) is = refl
a_recursion_is (means_val number) is = absurd (cc is)
a_recursion_is (means_mono t) is = absurd (cc is)
a_recursion_is (means_pred p) is = absurd (cc is)
a_recursion_is (means_def number) is = absurd (cc is)

one_further : (such : Meaning → Bool) (before : Names) (d : Option Declared) (n : ℕ)
    → declares_such such d ≡ true
    → how_many such (before ++ d ∷ []) + n ≡ how_many such before + suc n
one_further such before d n is =
    let counted : how_many such (before ++ d ∷ []) ≡ how_many such before + (0 + cond (declares_such such d) 1 0) =
    sum_by-append (λ x. cond (declares_such such x) 1 0) before (d ∷ []) in
    let one : ◌≡◌ {A = ℕ} (cond (declares_such such d) 1 0) 1 = ap (λ b. cond b 1 0) is in
    omega (arith, counted, one)

none_further : (such : Meaning → Bool) (before : Names) (d : Option Declared) (n : ℕ)
    → declares_such such d ≡ false
    → how_many such (before ++ d ∷ []) + n ≡ how_many such before + n
none_further such before d n is =
    let counted : how_many such (before ++ d ∷ []) ≡ how_many such before + (0 + cond (declares_such such d) 1 0) =
    sum_by-append (λ x. cond (declares_such such x) 1 0) before (d ∷ []) in
    let none : ◌≡◌ {A = ℕ} (cond (declares_such such d) 1 0) 0 = ap (λ b. cond b 1 0) is in
    omega (arith, counted, none)

-- ---- each one of a kind stands in the table for what it means

record Stands (such : Meaning → Bool) (names : Names) (number : ℕ) (d : Declared) : Type 0 where
  is_such : such d.meaning ≡ true
  number_is : number_of d.meaning ≡ number
  found : declared_use d.name names ≡ Some (a_declared d.meaning)

-- in the rest of a table, from this number on
abbrev StandFrom : (Meaning → Bool) → Names → ℕ → Names → Type 0
StandFrom such names from rest = (n : ℕ) (d : Declared) → slice_get (those_in such rest) n ≡ Some d → Stands such names (from + n) d

regrouped : {such : Meaning → Bool} {number other : ℕ} {d : Declared} (before ds : Names) (first : Option Declared)
    → Stands such ((before ++ first ∷ []) ++ ds) number d
    → number ≡ other
    → Stands such (before ++ first ∷ ds) other d
regrouped {d = d} before ds first h e =
    record {
      is_such = h.is_such;
      number_is = h.number_is ∙ e;
      found = subst (λ names. declared_use d.name names ≡ Some (a_declared d.meaning)) (append_assoc before (first ∷ []) ds) h.found;
    }

-- behind one more, which is of the kind or not
behind : (such : Meaning → Bool) (before ds : Names) (first : Declared) (b : Bool)
    → NumbersItsOwn such
    → such first.meaning ≡ b
    → IsNext before (Some first)
    → StandFrom such ((before ++ Some first ∷ []) ++ ds) (how_many such (before ++ Some first ∷ [])) ds
    → (n : ℕ) (d : Declared)
    → slice_get ((if b then first ∷ [] else []) ++ those_in such ds) n ≡ Some d
    → Stands such (before ++ Some first ∷ ds) (how_many such before + n) d
behind such before ds first true numbered is next others zero d at =
    let own : Stands such (before ++ Some first ∷ ds) (how_many such before + zero) first = record {
      is_such = is;
      number_is = numbered before first.meaning is next.1 ∙ sym (add-zero (how_many such before));
      found = found_after first.name before (Some first ∷ ds) next.0 ∙ found_first first ds;
    } in
    let same : first ≡ d = cc at in
    subst (λ x. Stands such (before ++ Some first ∷ ds) (how_many such before + zero) x) same own
behind such before ds first true numbered is next others (suc n) d at =
    regrouped before ds (Some first) (others n d at) (one_further such before (Some first) n is)
behind such before ds first false numbered is next others n d at =
    regrouped before ds (Some first) (others n d at) (none_further such before (Some first) n is)

all_stand : (such : Meaning → Bool) → NumbersItsOwn such → (rest before : Names) → AreInOrder before rest → StandFrom such (before ++ rest) (how_many such before) rest
unfolding those_in AreInOrder
all_stand such numbered [] before order n d at = absurd (cc at)
all_stand such numbered (None ∷ ds) before order n d at =
    regrouped before ds None (all_stand such numbered ds (before ++ None ∷ []) order.1 n d at) (none_further such before None n refl)
all_stand such numbered (Some first ∷ ds) before order n d at =
    behind such before ds first (such first.meaning) numbered refl order.0
    (λ m x e. all_stand such numbered ds (before ++ Some first ∷ []) order.1 m x e) n d at

-- ---- by their names

-- an item of a list that is mapped
record MappedFrom {A B : Type 0} (f : A → B) (xs : List A) (n : ℕ) (y : B) : Type 0 where
  item : A
  at : slice_get xs n ≡ Some item
  is : f item ≡ y

mapped_from : {A B : Type 0} (f : A → B) (xs : List A) (n : ℕ) (y : B) → slice_get (map f xs) n ≡ Some y → MappedFrom f xs n y
mapped_from {A} f xs n y e = from (slice_get xs n) refl (sym (slice_get-map f xs n) ∙ e)
  where
    from : (o : Option A) → slice_get xs n ≡ o → option_map f o ≡ Some y → MappedFrom f xs n y
    from None at h = absurd (cc h)
    from (Some x) at h = record { item = x; at = at; is = cc h }

val_found : (names : Names)
    → AreInOrder [] names
    → (number : ℕ) (name : List ℕ)
    → slice_get (vals_in names) number ≡ Some name
    → declared_use name names ≡ Some (a_declared (means_val number))
val_found names order number name e =
    let h = mapped_from (λ d. d.name) (those_in a_value names) number name e in
    let s = all_stand a_value values_numbered names [] order number h.item h.at in
    let numbered : number_of h.item.meaning ≡ number = s.number_is ∙ zero-add number in
    subst (λ x. declared_use x names ≡ Some (a_declared (means_val number))) h.is
    (s.found ∙ ap (λ m. Some (a_declared m)) (a_value_is h.item.meaning s.is_such ∙ ap means_val numbered))

rec_found : (names : Names)
    → AreInOrder [] names
    → (number : ℕ) (name : List ℕ)
    → slice_get (recs_in names) number ≡ Some name
    → (params : ℕ)
    × (slice_get (counts_in names) number ≡ Some params)
    × (declared_use name names ≡ Some (a_declared (means_rec number params)))
rec_found names order number name e =
    let h = mapped_from (λ d. d.name) (those_in a_recursion names) number name e in
    let s = all_stand a_recursion recursions_numbered names [] order number h.item h.at in
    let numbered : number_of h.item.meaning ≡ number = s.number_is ∙ zero-add number in (
      params_of h.item.meaning,
      slice_get-map (λ d. params_of d.meaning) (those_in a_recursion names) number ∙ ap (option_map (λ d. params_of d.meaning)) h.at,
      subst (λ x. declared_use x names ≡ Some (a_declared (means_rec number (params_of h.item.meaning)))) h.is
          (s.found
          ∙ ap (λ m. Some (a_declared m))
          (a_recursion_is h.item.meaning s.is_such ∙ ap (λ n. means_rec n (params_of h.item.meaning)) numbered)),
    )

pub declared_in_order : (entries : List Sort) (hypotheses : ℕ) (names : Names)
    → AreInOrder [] names
    → AreDeclared (scope_with entries hypotheses (vals_in names) (recs_in names)) (counts_in names) names
declared_in_order entries hypotheses names order = record { vals = val_found names order; recs = rec_found names order }
