-- Functions with pinned arguments: they agree where the functions do, and only what the arguments denote at their
-- skeletons counts.
use Rattle.std.proofs.Common.{◌≡◌, ℕ, List, ◌∷◌, map, refl, sym, ap, ◌∙◌, subst}
use Rattle.theory_canonical.specs.Skeletons.{Skeleton, sk_o, sk_c, sk_arrow, sk_all}
use Rattle.theory_canonical.specs.Contexts.{Standing, Heads}
use Rattle.theory_denotation.specs.Valuations.{Domain, ValuationEntry, den_term, Valuation, mono_in, HeadEntries}
use Rattle.theory_denotation.specs.Denotation.{term_den}
use Rattle.theory_denotation.specs.Valued.{ContextValued, HeadsValued}
use Rattle.theory_denotation_heads.specs.Agreeing.{HeadsAgree}
use Rattle.theory_denotation_heads.proofs.Agreed as heads_agreed
use Rattle.theory_denotation_unfolding.specs.Agreement.{AgreeBelow, EntriesAgree, ValuationsAgree, HeadEntriesAgree}
use Rattle.theory_denotation_unfolding.proofs.Agreed.{term_agrees, lower_valuations, lower_heads}
use Rattle.theory_instances.specs.Calls.{Argument}
use Rattle.theory_instances_passing.specs.Pinned.{AtEach, GivenArgument, given_term, given, IsFixed}
use Rattle.theory_instances_canonical.specs.Keys.{CanonicalFixed, fixed_end, fixed_value, fixed_term, fixed_mono}
use Rattle.theory_instances_heads.specs.Heads.{pinned_to, pinned_entry}

-- a fixed argument first
pub pinned_first : (s t : Skeleton) (x : AtEach) (set : List GivenArgument) (f : Domain (sk_arrow s t))
    → IsFixed s
    → pinned_to (sk_arrow s t) (given_term x ∷ set) f ≡ (λ (d : Domain s). pinned_to t set (f (x s)))
pinned_first sk_o t x set f i = absurd i
pinned_first sk_c t x set f i = refl
pinned_first (sk_arrow r s) t x set f i = refl
pinned_first (sk_all s) t x set f i = refl

pub pinned_agrees : {heads : Heads} {e : HeadEntries} {g : List Standing} {w : Valuation} {s : Skeleton} {fixed : List Argument} (b : ℕ)
    → CanonicalFixed heads g s fixed
    → HeadEntriesAgree b heads e e
    → ValuationsAgree b g w w
    → (d c : Domain s)
    → AgreeBelow b s d c
    → AgreeBelow b s (pinned_to s (map (given e w) fixed) d) (pinned_to s (map (given e w) fixed) c)
pinned_agrees b fixed_end h r d c q = q
pinned_agrees b (fixed_value f) h r d c q = λ k l x y p. pinned_agrees k f (lower_heads k b l h) (lower_valuations k b l r) (d x) (c y) (q k l x y p)
pinned_agrees {e = e} {w = w} b (fixed_term {s = s} {t = t} {term = term} {fixed = fixed} i a f) h r d c q =
    let x : AtEach = term_den e w term in
    let set : List GivenArgument = map (given e w) fixed in
    let rest : AgreeBelow b (sk_arrow s t) (λ (y : Domain s). pinned_to t set (d (x s))) (λ (y : Domain s). pinned_to t set (c (x s))) = λ k l y z p.
    pinned_agrees k f (lower_heads k b l h) (lower_valuations k b l r) (d (x s)) (c (x s))
    (q k l (x s) (x s) (term_agrees k a (lower_heads k b l h) (lower_valuations k b l r))) in
    subst (λ (u : Domain (sk_arrow s t)). AgreeBelow b (sk_arrow s t) u (pinned_to (sk_arrow s t) (given_term x ∷ set) c)) (sym (pinned_first s t x set d i))
    (subst (λ (u : Domain (sk_arrow s t)). AgreeBelow b (sk_arrow s t) (λ (y : Domain s). pinned_to t set (d (x s))) u) (sym (pinned_first s t x set c i)) rest)
pinned_agrees {w = w} b (fixed_mono {mono = mono} a f) h r d c q = λ u. pinned_agrees b f h r (d (mono_in w mono)) (c (mono_in w mono)) (q (mono_in w mono))

-- an entry with pinned arguments
pub entry_agrees : {heads : Heads} {e : HeadEntries} {g : List Standing} {w : Valuation} {s : Skeleton} {fixed : List Argument} {x : ValuationEntry} (b : ℕ)
    → CanonicalFixed heads g s fixed
    → HeadEntriesAgree b heads e e
    → ValuationsAgree b g w w
    → EntriesAgree b s x x
    → EntriesAgree b s (pinned_entry (map (given e w) fixed) x) (pinned_entry (map (given e w) fixed) x)
entry_agrees {e = e} {w = w} {s = s} {fixed = fixed} b f h r o = record {
  left = pinned_to s (map (given e w) fixed) o.left;
  right = pinned_to s (map (given e w) fixed) o.right;
  is_left = ap (pinned_entry (map (given e w) fixed)) o.is_left;
  is_right = ap (pinned_entry (map (given e w) fixed)) o.is_right;
  agree = pinned_agrees b f h r o.left o.right o.agree;
}

module _ {heads : Heads} {e e' : HeadEntries} (h : HeadsValued heads e) (a : HeadsAgree heads e e') where
  pinned_same : {g : List Standing} {w : Valuation} {s : Skeleton} {fixed : List Argument}
      → CanonicalFixed heads g s fixed
      → ContextValued g w
      → (d : Domain s)
      → pinned_to s (map (given e' w) fixed) d ≡ pinned_to s (map (given e w) fixed) d
  pinned_same fixed_end z d = refl
  pinned_same (fixed_value f) z d = λ j x. pinned_same f z (d x) j
  pinned_same {w = w} (fixed_term {s = s} {t = t} {term = term} {fixed = fixed} i c f) z d =
      pinned_first s t (term_den e' w term) (map (given e' w) fixed) d i
      ∙ (λ j. λ (y : Domain s). pinned_same f z (d (term_den e' w term s)) j)
      ∙ (λ j. λ (y : Domain s). pinned_to t (map (given e w) fixed) (d (heads_agreed.term_agrees heads e e' h a c z j)))
      ∙ sym (pinned_first s t (term_den e w term) (map (given e w) fixed) d i)
  pinned_same {w = w} (fixed_mono {mono = mono} c f) z d = λ j u. pinned_same f z (d (mono_in w mono)) j

  pub entry_same : {g : List Standing} {w : Valuation} {s : Skeleton} {fixed : List Argument} {x y : ValuationEntry} (d : Domain s)
      → CanonicalFixed heads g s fixed
      → ContextValued g w
      → y ≡ x
      → x ≡ den_term s d
      → pinned_entry (map (given e' w) fixed) y ≡ pinned_entry (map (given e w) fixed) x
  entry_same {w = w} {s = s} {fixed = fixed} d f z q p =
      ap (pinned_entry (map (given e' w) fixed)) (q ∙ p)
      ∙ ap (den_term s) (pinned_same f z d)
      ∙ ap (pinned_entry (map (given e w) fixed)) (sym p)
