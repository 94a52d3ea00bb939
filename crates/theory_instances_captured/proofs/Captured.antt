-- The variables of a key are numbered by its captured variables, and so are those of all keys of a list.
use Rattle.std.proofs.Common.{◌≡◌, ◌<◌, ℕ, zero, suc, List, [], ◌∷◌, ◌++◌, length, map, flat_map, All, Bool, true, false, nat_eq, if◌then◌else◌, Some, None, slice_get}
use Rattle.std.proofs.Common.{refl, sym, subst, arith}
use Rattle.std.proofs.lemmas.List.{length-map}
use Rattle.std.proofs.lemmas.List.Elements.{All-nil, All-cons, All-head, All-tail, All-same}
use Rattle.std.proofs.lemmas.Option.{same_Some}
use Rattle.htt_syntax.specs.Trees.{MonoTree, TermTree, t_val, t_fix}
use Rattle.theory_canonical.specs.Skeletons.{skeleton}
use Rattle.theory_instances.specs.Calls.{Program, Argument, head_of, arguments_of, fixed_of, head_ty, Site, sites_of}
use Rattle.theory_instances.specs.Keys.{Key, is_among, met_after, variables_met, captured_of, number_in, mono_at, key_of, keys_of_head, keys_of_site}
use Rattle.theory_instances.specs.Occurrences.{met_in_term}
use Rattle.theory_instances.specs.Lists.{Meets, meets_none, meets_known, meets_new, Taken, TakesAll, takes_end, takes_next, main_key}
use Rattle.theory_instances_captured.specs.Laws.{MeetsOnlyCaptured, KeysMeetOnlyCaptured}
use Rattle.theory_instances_captured.proofs.Moved.{key_moved}

-- a variable has a number below the count of the captured ones
abbrev Numbered : List ℕ → ℕ → Type 0
Numbered captured n = number_in captured n < length captured

first_numbered : (n : ℕ) (known : List ℕ) → Numbered (n ∷ known) n
first_numbered n known = by (nat_eq n n) (grind arith)
  where
    by : (b : Bool) → b ≡ true → (if b then zero else suc (number_in known n)) < suc (length known)
    by true q = omega arith
    by false q = absurd (cc)

more_numbered : (n m : ℕ) (known : List ℕ) → Numbered known n → Numbered (m ∷ known) n
more_numbered n m known l = by (nat_eq n m)
  where
    by : (b : Bool) → (if b then zero else suc (number_in known n)) < suc (length known)
    by true = omega arith
    by false = omega (arith, l)

known_numbered : (n : ℕ) (known : List ℕ) → is_among n known ≡ true → Numbered known n
known_numbered n [] q = absurd (cc)
known_numbered n (m ∷ known) q = by (nat_eq n m) q (λ r. known_numbered n known r)
  where
    by : (b : Bool)
        → (if b then true else is_among n known) ≡ true
        → (is_among n known ≡ true → Numbered known n)
        → (if b then zero else suc (number_in known n)) < suc (length known)
    by true r go = omega arith
    by false r go = let l = go r in omega (arith, l)

stays_numbered : (n : ℕ) (known others : List ℕ) → Numbered known n → Numbered (met_after known others) n
stays_numbered n known [] l = l
stays_numbered n known (m ∷ others) l =
    by (is_among m known) (stays_numbered n known others l) (stays_numbered n (m ∷ known) others (more_numbered n m known l))
  where
    by : (b : Bool)
        → Numbered (met_after known others) n
        → Numbered (met_after (m ∷ known) others) n
        → Numbered (met_after (if b then known else m ∷ known) others) n
    by true x y = x
    by false x y = y

all_numbered : (known others : List ℕ) → All (Numbered (met_after known others)) others
all_numbered known [] = All-nil (Numbered known)
all_numbered known (n ∷ others) =
    All-cons (Numbered (met_after known (n ∷ others))) n others (by (is_among n known) refl) (all_numbered (if is_among n known then known else n ∷ known) others)
  where
    by : (b : Bool) → is_among n known ≡ b → Numbered (met_after (if b then known else n ∷ known) others) n
    by true q = stays_numbered n known others (known_numbered n known q)
    by false q = stays_numbered n (n ∷ known) others (first_numbered n known)

map_all : (P Q : ℕ → Type 0) (f : ℕ → ℕ) → ((n : ℕ) → P n → Q (f n)) → (xs : List ℕ) → All P xs → All Q (map f xs)
map_all P Q f g [] a = All-nil Q
map_all P Q f g (x ∷ xs) a = All-cons Q (f x) (map f xs) (g x (All-head P x xs a)) (map_all P Q f g xs (All-tail P x xs a))

-- the key that a head with its fixed arguments has
key_numbered : (g : List MonoTree) (head : TermTree) (fixed : List Argument) → MeetsOnlyCaptured (key_of g head fixed)
key_numbered g head fixed =
    let captured : List ℕ = captured_of head fixed in
    let key : Key = key_of g head fixed in
    let count : length key.captured ≡ length captured = length-map captured (mono_at g) in
    All-same (λ (n : ℕ). n < length key.captured) (variables_met key.head key.fixed) (map (number_in captured) (variables_met head fixed))
    (key_moved (number_in captured) head fixed)
    (map_all (Numbered captured) (λ (n : ℕ). n < length key.captured) (number_in captured)
    (λ n l. subst (λ k. number_in captured n < k) (sym count) l) (variables_met head fixed) (all_numbered [] (variables_met head fixed)))

abbrev EachNumbered : List Key → Type 0
EachNumbered [] = Unit {0}
EachNumbered (key ∷ keys) = MeetsOnlyCaptured key × EachNumbered keys

each_both : (xs ys : List Key) → EachNumbered xs → EachNumbered ys → EachNumbered (xs ++ ys)
each_both [] ys a b = b
each_both (x ∷ xs) ys a b = (a.0, each_both xs ys (a.1) b)

head_numbered : (head : TermTree) (key : Key) → MeetsOnlyCaptured key → EachNumbered (keys_of_head head key)
head_numbered (t_val number) key a = (a, tt)
head_numbered (t_fix at fix) key a = (a, tt)
head_numbered _ key a = tt

sites_numbered : (p : Program) (sites : List Site) → EachNumbered (flat_map (keys_of_site p) sites)
sites_numbered p [] = tt
sites_numbered p (site ∷ sites) =
    let head = head_of site.call in
    let fixed = fixed_of (skeleton (head_ty p head)) (arguments_of site.call) in
    each_both (keys_of_site p site) (flat_map (keys_of_site p) sites)
    (head_numbered head (key_of site.context head fixed) (key_numbered site.context head fixed)) (sites_numbered p sites)

met_numbered : {keys met after : List Key} → Meets keys met after → EachNumbered keys → EachNumbered met → EachNumbered after
met_numbered meets_none a b = a
met_numbered (meets_known n k m) a b = met_numbered m a (b.1)
met_numbered {keys = keys} (meets_new {key = key} f l m) a b = met_numbered m (each_both keys (key ∷ []) a (b.0, tt)) (b.1)

all_keys_numbered : {p : Program} {keys final : List Key} {number : ℕ} {rows : List Taken}
    → TakesAll p keys number rows final
    → EachNumbered keys
    → EachNumbered final
all_keys_numbered (takes_end q) a = a
all_keys_numbered {p = p} (takes_next {taken = taken} q u m rest) a =
    all_keys_numbered rest (met_numbered m a (sites_numbered p (sites_of taken.params taken.body)))

main_numbered : (number : ℕ) → MeetsOnlyCaptured (main_key number)
unfolding met_in_term
main_numbered number = All-nil (λ (n : ℕ). n < zero)

none_or_some : {A : Type 0} {x : A} → None ≡ Some x → ⊥
none_or_some q = cc

each_at : (keys : List Key) (number : ℕ) (key : Key) → EachNumbered keys → slice_get keys number ≡ Some key → MeetsOnlyCaptured key
each_at [] number key a q = absurd (none_or_some q)
each_at (x ∷ keys) zero key a q = subst MeetsOnlyCaptured (same_Some x key q) (a.0)
each_at (x ∷ keys) (suc number) key a q = each_at keys number key (a.1) q

pub captured : KeysMeetOnlyCaptured
captured p instances keys h number key q = each_at keys number key (all_keys_numbered h.all (main_numbered h.number, tt)) q
