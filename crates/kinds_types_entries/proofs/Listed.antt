-- What is found in a list of declared things.
use Rattle.std.proofs.Common.{◌≡◌, ℕ, List, map, Some, None, Result, Ok, Err, sym, ap, ◌∙◌, arith}
use Rattle.std.specs.Prelude.{slice_get, option_map, IfOk, IfErr}
use Rattle.std.proofs.lemmas.Option.{slice_get-map}
use Rattle.htt_syntax_words.specs.declared.words.Rule.TheVariants.{Sort}
use Rattle.theory_checking.specs.Stops.{refused, Finds, finds}
use Rattle.kinds_types_entries.specs.declared.stop.TypeStop.{TypeStop}
use Rattle.kinds_types_entries.specs.declared.stop.TypeStop.TheVariants.{Ill, Limit, NoMemory}
use Rattle.kinds_types_entries.specs.Answers.{Answers}

module _ {A B : Type 0} (view : A → B) (xs : List A) (n at : ℕ) where
  pub found : (x : A) → slice_get xs n ≡ Some x → slice_get (map view xs) n ≡ Some (view x)
  found x is = slice_get-map view xs n ∙ ap (option_map view) is

  pub copy_comes : (x : A) (made : Result A TypeStop)
      → slice_get xs n ≡ Some x
      → IfOk made (λ y. view y ≡ view x)
      → IfErr made (λ stop. stop ≡ NoMemory)
      → Answers view (Finds (λ (b : B). slice_get (map view xs) n ≡ Some b) (refused Sort at)) made
  copy_comes x (Ok y) is same memory = finds (found x is ∙ ap Some (sym same))
  copy_comes x (Err NoMemory) is same memory = tt
  copy_comes x (Err (Limit which)) is same memory = absurd (let e = memory in cc)
  copy_comes x (Err (Ill byte rule)) is same memory = absurd (let e = memory in cc)

  pub none_found : slice_get xs n ≡ None → (b : B) → slice_get (map view xs) n ≡ Some b → ⊥
  none_found none b there = let no : None ≡ Some b = sym (slice_get-map view xs n ∙ ap (option_map view) none) ∙ there in grind (arith, no)
