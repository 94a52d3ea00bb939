-- A key is one of a list or it is new.
use Rattle.std.proofs.Common.{◌≡◌, ℕ, zero, suc, List, [], ◌∷◌, Some, None, ◌⊎◌, inl, inr, refl, ap, ◌∙◌}
use Rattle.std.proofs.lemmas.Option.{same_Some}
use Rattle.theory_trees_decided.proofs.Decided.{mono_decided, term_decided}
use Rattle.theory_instances.specs.Calls.{Argument, of_term, of_mono}
use Rattle.theory_instances.specs.Keys.{Key, plain_key, IsSameKey}
use Rattle.theory_instances.specs.Lists.{IsKnownAs, IsNew}

abbrev Told : {A : Type 0} → A → A → Type 0
Told {A} a b = (a ≡ b) ⊎ (a ≡ b → ⊥)

list_decided : {A : Type 0} → ((a b : A) → Told a b) → (xs ys : List A) → Told xs ys
list_decided f [] [] = inl refl
list_decided f [] (y ∷ ys) = inr (λ q. cc)
list_decided f (x ∷ xs) [] = inr (λ q. cc)
list_decided f (x ∷ xs) (y ∷ ys) = elim (f x y) [
  | inl q ↦ elim (list_decided f xs ys) [ inl r ↦ inl (λ j. q j ∷ r j) | inr r ↦ inr (λ s. r (cc)) ]
  | inr q ↦ inr (λ s. q (cc))
]

argument_decided : (a b : Argument) → Told a b
argument_decided (of_term a) (of_term b) = elim (term_decided a b) [ inl q ↦ inl (ap of_term q) | inr q ↦ inr (λ s. q (cc)) ]
argument_decided (of_mono a) (of_mono b) = elim (mono_decided a b) [ inl q ↦ inl (ap of_mono q) | inr q ↦ inr (λ s. q (cc)) ]
argument_decided (of_term a) (of_mono b) = inr (λ q. cc)
argument_decided (of_mono a) (of_term b) = inr (λ q. cc)

key_decided : (a b : Key) → Told a b
key_decided a b = elim (term_decided a.head b.head) [
  | inl q ↦ elim (list_decided argument_decided a.fixed b.fixed) [
    | inl r ↦ elim (list_decided mono_decided a.captured b.captured) [
      | inl s ↦ inl (λ j. record { head = q j; fixed = r j; captured = s j })
      | inr s ↦ inr (λ e. s (ap (λ (k : Key). k.captured) e))
    ]
    | inr r ↦ inr (λ e. r (ap (λ (k : Key). k.fixed) e))
  ]
  | inr q ↦ inr (λ e. q (ap (λ (k : Key). k.head) e))
]

no_element : {A : Type 0} {x : A} → None ≡ Some x → ⊥
no_element q = cc

pub known_or_new : (keys : List Key) (key : Key) → ((number : ℕ) × IsKnownAs keys number key) ⊎ IsNew keys key
known_or_new [] key = inr (λ number k. no_element k.at)
known_or_new (first ∷ keys) key = elim (key_decided (plain_key first) (plain_key key)) [
  | inl q ↦ inl (zero, record { known = first; at = refl; same = q })
  | inr d ↦ elim (known_or_new keys key) [
    | inl r ↦ inl (suc (r.0), record { known = (r.1).known; at = (r.1).at; same = (r.1).same })
    | inr new ↦ inr (λ number k. not_here d new number k)
  ]
]
  where
    not_here : (IsSameKey first key → ⊥) → IsNew keys key → (number : ℕ) → IsKnownAs (first ∷ keys) number key → ⊥
    not_here d new zero k = d (ap plain_key (same_Some first k.known k.at) ∙ k.same)
    not_here d new (suc number) k = new number (record { known = k.known; at = k.at; same = k.same })
