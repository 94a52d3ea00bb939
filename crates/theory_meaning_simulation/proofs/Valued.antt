-- What is closed does the same everywhere, the heads of items are valued, and phrases that are the same
-- but for positions do the same.
use Rattle.std.proofs.Common.{◌≡◌, ◌<◌, ◌≤◌, ℕ, zero, suc, List, [], Option, refl, sym, ap, ◌∙◌, subst, arith}
use Rattle.htt_syntax.specs.Trees.{MonoTree, TyTree, TermTree, CompTree}
use Rattle.theory_values.specs.Values.{Value}
use Rattle.theory_values.specs.Heaps.{Heap}
use Rattle.theory_meaning.specs.Closures.{RunValue, base, Env, Items}
use Rattle.theory_meaning.specs.Meaning.{base_or_fault, of_one, of_two, of_three, term_result, inner_result, comp_result, runner_of}
use Rattle.theory_canonical.specs.Skeletons.{Skeleton, skeleton}
use Rattle.theory_canonical.specs.Contexts.{Heads}
use Rattle.theory_canonical.specs.Canonical.{IsCanonicalTy}
use Rattle.theory_typing.specs.Contexts.{Environment}
use Rattle.theory_typing.specs.Positions.{plain_ty}
use Rattle.theory_typing_canonical.specs.Environments.{heads_of}
use Rattle.theory_denotation.specs.Outcomes.{Running}
use Rattle.theory_denotation.specs.Valuations.{Domain, Valuation, HeadEntries}
use Rattle.theory_denotation.specs.Valued.{IsOf, HeadsValued}
use Rattle.theory_denotation_moves.proofs.Agreeing.{into, out_of}
use Rattle.theory_denotation_positions.proofs.Plain.{plain_skeleton}
use Rattle.theory_typing_sound.proofs.Closed.{nothing_valued, nothing_along, ty_same, type_at}
use Rattle.theory_meaning_simulation.specs.Simulation.{GivesSo, AlikeOutcomes, Does, ValDoes, ItemsDo}
use Rattle.theory_meaning_simulation.proofs.Reindexed.{does_filled, does_plain}

module _ (items : Items) where
  pub closed_does : {heads : Heads} {e : HeadEntries} (ty : TyTree) (w : Valuation)
      → HeadsValued heads e
      → IsCanonicalTy heads [] ty
      → (k : ℕ) (u : RunValue) (d : Domain (skeleton ty))
      → Does items [] ty (skeleton ty) k u d
      → Does items w ty (skeleton ty) k u d
  closed_does ty w h c k u d m =
      subst (λ t. Does items w t (skeleton ty) k u d) (ty_same c)
      (into (does_filled items ty h c (nothing_along w) nothing_valued (skeleton ty) refl k u d) m)

  pub same_does : (w : Valuation) (ty v : TyTree) (k : ℕ) (u : RunValue) (f : (s : Skeleton) → Domain s)
      → plain_ty ty ≡ plain_ty v
      → Does items w ty (skeleton ty) k u (f (skeleton ty))
      → Does items w v (skeleton v) k u (f (skeleton v))
  same_does w ty v k u f q m =
      let there : skeleton ty ≡ skeleton v = sym (plain_skeleton ty) ∙ ap skeleton q ∙ plain_skeleton v in
      let plain = into (does_plain items ty w (skeleton ty) k u (f (skeleton ty))) m in
      let other = subst (λ t. Does items w t (skeleton ty) k u (f (skeleton ty))) q plain in
      let back = out_of (does_plain items v w (skeleton ty) k u (f (skeleton ty))) other in
      subst (λ s. Does items w v s k u (f s)) there back

  -- entering and running with one unit of fuel less
  pub entered_so : (P : RunValue → Type 0) (e : Env) (term : TermTree)
      → ((i : ℕ) → GivesSo (term_result items (inner_result items i) e term) P)
      → (i : ℕ)
      → GivesSo (inner_result items i e term) P
  entered_so P e term f zero = tt
  entered_so P e term f (suc i) = f i

  pub started_alike : (t : MonoTree) (e : Env) (comp : CompTree) (g : Running) (k : ℕ)
      → ((j n : ℕ) → j < k → j ≤ n → (h : Heap) (cs : List ℕ) →
      AlikeOutcomes t (comp_result items (inner_result items j) (runner_of items j) e comp h cs) (g n h cs))
      → (j n : ℕ)
      → j < k
      → j ≤ n
      → (h : Heap) (cs : List ℕ)
      → AlikeOutcomes t (runner_of items j e comp h cs) (g n h cs)
  started_alike t e comp g k f zero n below le h cs = tt
  started_alike t e comp g k f (suc j) n below le h cs = f j n (omega (arith, below)) (omega (arith, le)) h cs

-- operations on values of the text
pub one_so : (f : Value → Option Value) (v : Value) (x : RunValue) (P : RunValue → Type 0)
    → x ≡ base v
    → GivesSo (base_or_fault (f v)) P
    → GivesSo (of_one f x) P
one_so f v x P q h = subst (λ y. GivesSo (of_one f y) P) (sym q) h

pub two_so : (f : Value → Value → Option Value) (v u : Value) (x y : RunValue) (P : RunValue → Type 0)
    → x ≡ base v
    → y ≡ base u
    → GivesSo (base_or_fault (f v u)) P
    → GivesSo (of_two f x y) P
two_so f v u x y P q r h = subst (λ z. GivesSo (of_two f z y) P) (sym q) (subst (λ z. GivesSo (of_one (f v) z) P) (sym r) h)

pub three_so : (f : Value → Value → Value → Option Value) (v u a : Value) (x y z : RunValue) (P : RunValue → Type 0)
    → x ≡ base v
    → y ≡ base u
    → z ≡ base a
    → GivesSo (base_or_fault (f v u a)) P
    → GivesSo (of_three f x y z) P
three_so f v u a x y z P q r s h =
    subst (λ b. GivesSo (of_three f b y z) P) (sym q)
    (subst (λ b. GivesSo (of_two (f v) b z) P) (sym r) (subst (λ b. GivesSo (of_one (f v u) b) P) (sym s) h))

val_is_of : {items : Items} {e : HeadEntries} {n : ℕ} {ty : TyTree} {s : Skeleton} → ValDoes items e n ty → skeleton ty ≡ s → IsOf s (e.vals n)
val_is_of {e = e} {n = n} v q = subst (λ u. IsOf u (e.vals n)) q (record { of = v.of; is = v.is })

pub items_valued : {items : Items} {env : Environment} {e : HeadEntries} → ItemsDo items env e → HeadsValued (heads_of env) e
items_valued {env = env} m =
    record { vals = λ n s d. let o = type_at env.vals n s d in val_is_of (m.vals n o.ty o.found) o.is; made = λ n s values d. elim d [ ] }
