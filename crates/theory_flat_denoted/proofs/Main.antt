-- Main's flat body denotes what main's canonical term does.
use Rattle.std.proofs.Common.{◌≡◌, ℕ, zero, suc, List, [], ◌∷◌, map, Some, None, slice_get, refl, sym, ap, ◌∙◌, subst}
use Rattle.std.proofs.lemmas.Option.{same_Some}
use Rattle.htt_syntax.specs.Trees.{t_val}
use Rattle.theory_values.specs.Heaps.{Heap}
use Rattle.theory_canonical.specs.Skeletons.{Skeleton, sk_c, skeleton}
use Rattle.theory_denotation.specs.Valuations.{den_term, HeadEntries, running_of_entry}
use Rattle.theory_denotation.specs.Recursion.{entered, entered_running}
use Rattle.theory_denotation.specs.Denotation.{term_den, head_den, comp_den}
use Rattle.theory_instances.specs.Calls.{ProgramVal, Program, passed_count, head_ty, ty_of_val}
use Rattle.theory_instances.specs.Keys.{Key}
use Rattle.theory_instances.specs.Bodies.{arguments_within}
use Rattle.theory_instances.specs.Lists.{Taken, TakesAll, takes_end, takes_next, main_key, HasInstances}
use Rattle.theory_instances_passing.specs.Pinned.{given, applied_to}
use Rattle.theory_instances_canonical.specs.Keys.{IsCanonicalProgram}
use Rattle.theory_instances_heads.specs.Heads.{AreInstanceHeads}
use Rattle.theory_instances_linked.proofs.TakenUp.{taken_up}
use Rattle.theory_instances_linked.proofs.Instances.{denote}
use Rattle.theory_flat_denoted.specs.Laws.{MainDenotes}
use Rattle.theory_flat_denoted.proofs.Bodies.{flat_denoted}

some_or_none : {A : Type 0} {x : A} → Some x ≡ None → ⊥
some_or_none q = cc

-- the instance of main
record FirstRow (p : Program) (number : ℕ) (rows : List Taken) (keys : List Key) : Type 0 where
  pub row : Taken
  pub at : slice_get rows zero ≡ Some row
  pub key : slice_get keys zero ≡ Some (main_key number)

first_row : {p : Program} {number : ℕ} {rows : List Taken} {keys : List Key}
    → TakesAll p (main_key number ∷ []) zero rows keys
    → FirstRow p number rows keys
first_row (takes_end q) = absurd (some_or_none q)
first_row {number = number} {keys = keys} (takes_next {key = key} {taken = taken} q u m rest) =
    let up = taken_up (takes_next q u m rest) zero taken refl in
    let same : up.key ≡ main_key number = sym up.takes.same_key ∙ u.same_key ∙ sym (same_Some (main_key number) key q) in
    record { row = taken; at = refl; key = subst (λ (k : Key). slice_get keys zero ≡ Some k) same up.at }

module _ (p : Program) (rows : List Taken) (keys : List Key) (e : HeadEntries) (program : IsCanonicalProgram p) (has : HasInstances p rows keys)
    (a : AreInstanceHeads p keys e) where
  abbrev number : ℕ
  number = has.number

  abbrev first : FirstRow p number rows keys
  first = first_row has.all

  main_skeleton : skeleton has.main.val.ty ≡ sk_c
  unfolding skeleton
  main_skeleton = ap skeleton has.main.is_hoare

  head_is : skeleton (head_ty p (t_val number)) ≡ sk_c
  head_is = ap (λ o. skeleton (ty_of_val o)) has.main.there ∙ main_skeleton

  instance_is : e.vals number ≡ den_term sk_c (entered_running (comp_den e [] first.row.body))
  unfolding term_den
  instance_is =
      subst (λ (s : Skeleton).
      applied_to (head_den e [] (t_val number)) (map (given e []) (arguments_within s (main_key number)))
      ≡ den_term sk_c (entered_running (comp_den e [] first.row.body))) head_is
      (denote p rows keys e program has a zero (main_key number) first.row first.key first.at [] [] (sym (ap passed_count head_is)))

  value_is : e.vals number ≡ den_term sk_c (entered_running (term_den e [] has.main.val.term sk_c))
  value_is =
      a.vals number has.main.val has.main.there
      ∙ ap (λ (s : Skeleton). den_term s (entered s (term_den e [] has.main.val.term s))) main_skeleton

  body_is : (n : ℕ) (h : Heap) (cs : List ℕ) → comp_den e [] first.row.body n h cs ≡ term_den e [] has.main.val.term sk_c n h cs
  body_is n h cs = ap (λ x. running_of_entry x (suc n) h cs) (sym instance_is ∙ value_is)

pub main_denoted : MainDenotes
main_denoted p rows keys instances e program has flat a number main named there n h cs =
    let first = first_row has.all in
    let same : has.number ≡ number = same_Some has.number number (sym has.main.named ∙ named) in
    let val_is : has.main.val ≡ main = same_Some has.main.val main (sym has.main.there ∙ ap (slice_get p.vals) same ∙ there) in
    flat_denoted.bodies p rows keys instances e program has flat a zero first.row first.at n [] h cs
    ∙ body_is p rows keys e program has a n h cs
    ∙ ap (λ (v : ProgramVal). term_den e [] v.term sk_c n h cs) val_is
