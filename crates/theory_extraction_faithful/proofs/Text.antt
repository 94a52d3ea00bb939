-- The run of main's text has the outcomes of main's flat body, each for some fuel: through what main's canonical term
-- denotes with the entries of the file, and with the heads of the instances.
use Rattle.std.proofs.Common.{◌≡◌, ◌≢◌, ℕ, List, [], ◌∷◌, map, Some, slice_get, refl, sym, ap, ◌∙◌, subst}
use Rattle.std.proofs.lemmas.Option.{same_Some}
use Rattle.htt_syntax.specs.Trees.{TripleTree}
use Rattle.theory_values.specs.Values.{Value}
use Rattle.theory_values.specs.Heaps.{Heap}
use Rattle.theory_meaning.specs.Closures.{RunValue, base, done}
use Rattle.theory_canonical.specs.Skeletons.{sk_c, skeleton}
use Rattle.theory_typing.specs.Laws.{none}
use Rattle.theory_items.specs.Items.{ItemTree}
use Rattle.theory_denotation.specs.Outcomes.{Outcome, out_of_fuel}
use Rattle.theory_denotation.specs.Valuations.{HeadEntries}
use Rattle.theory_denotation.specs.Denotation.{ValTree, term_den, heads_of_vals}
use Rattle.theory_denotation.specs.Laws.{run_result}
use Rattle.theory_instances.specs.Calls.{ProgramVal, Program}
use Rattle.theory_instances_canonical.specs.Keys.{val_tree, IsCanonicalProgram}
use Rattle.theory_instances_heads.specs.Heads.{AreInstanceHeads, heads_of_instances}
use Rattle.theory_instances_heads.proofs.Made.{have_heads}
use Rattle.theory_fuel_of_values.specs.Laws.{plain_heads}
use Rattle.theory_fuel_of_values.proofs.Law.{instance_heads}
use Rattle.theory_flat.specs.Flat.{Instance, HasFlatInstances}
use Rattle.theory_flat.specs.Reading.{flat_run}
use Rattle.theory_flat_denoted.proofs.Main.{main_denoted}
use Rattle.theory_extraction.specs.Extraction.{HasVals, program}
use Rattle.theory_adequacy_files.specs.Laws.{trees_of, entries_of}
use Rattle.theory_adequacy_files.proofs.Files.{files}
use Rattle.theory_extraction_formed.proofs.Files.{files_formed}
use Rattle.theory_extraction_faithful.specs.Laws.{text_run}

trees_are : (vals : List ProgramVal) → trees_of vals ≡ map val_tree vals
trees_are [] = refl
trees_are (v ∷ vals) = ap (λ (vs : List ValTree). val_tree v ∷ vs) (trees_are vals)

module _ (items : List ItemTree) (vals : List ProgramVal) (main : ℕ) (instances : List Instance) (d : HasVals none items vals)
    (has : HasFlatInstances (program vals (Some main)) instances) where
  abbrev p : Program
  p = program vals (Some main)

  abbrev e : HeadEntries
  e = heads_of_instances p has.keys

  abbrev val : ProgramVal
  val = has.has.main.val

  abbrev spec : TripleTree
  spec = has.has.main.spec

  there : slice_get vals main ≡ Some val
  there = ap (slice_get vals) (same_Some main has.has.number has.has.main.named) ∙ has.has.main.there

  main_runs : skeleton val.ty ≡ sk_c
  unfolding skeleton
  main_runs = ap skeleton has.has.main.is_hoare

  canonical : IsCanonicalProgram p
  canonical = files_formed.canonical items vals (Some main) d

  heads : AreInstanceHeads p has.keys e
  heads = have_heads p has.taken has.keys canonical has.has

  plain_is : entries_of vals ≡ plain_heads p
  plain_is = ap heads_of_vals (trees_are vals)

  abbrev Denotes : HeadEntries → Heap → List ℕ → Outcome → Type 0
  Denotes f h cs end = (n : ℕ) × (term_den f [] val.term sk_c n h cs ≡ end)

  flat_is : (n : ℕ) (h : Heap) (cs : List ℕ) → flat_run instances n 0 [] h cs ≡ term_den e [] val.term sk_c n h cs
  flat_is n h cs = main_denoted p has.taken has.keys instances e canonical has.has has.flat heads main val refl there n h cs

  pub flat_of_text : (h : Heap) (cs : List ℕ) (end : Outcome)
      → end ≢ out_of_fuel
      → (fuel : ℕ) × (text_run items main h cs fuel ≡ run_result end)
      → (n : ℕ) × (flat_run instances n 0 [] h cs ≡ end)
  flat_of_text h cs end other text =
      let plain = (files.outcomes items vals d main val spec there has.has.main.is_hoare h cs end other).0 text in
      let counted =
      (instance_heads p has.keys e canonical heads main val there main_runs h cs end other).1
      (subst (λ (f : HeadEntries). Denotes f h cs end) plain_is plain) in
      (counted.0, flat_is (counted.0) h cs ∙ counted.1)

  pub text_of_flat : (h : Heap) (cs : List ℕ) (end : Outcome)
      → end ≢ out_of_fuel
      → (n : ℕ) × (flat_run instances n 0 [] h cs ≡ end)
      → (fuel : ℕ) × (text_run items main h cs fuel ≡ run_result end)
  text_of_flat h cs end other (n, flat) =
      let plain =
      (instance_heads p has.keys e canonical heads main val there main_runs h cs end other).0 (n, sym (flat_is n h cs) ∙ flat) in
      (files.outcomes items vals d main val spec there has.has.main.is_hoare h cs end other).1
      (subst (λ (f : HeadEntries). Denotes f h cs end) (sym plain_is) plain)

  -- what the run is done with is a value
  pub result_is : (h : Heap) (cs : List ℕ) (fuel : ℕ) (result : RunValue) (k : Heap) (left : List ℕ)
      → text_run items main h cs fuel ≡ done result k left
      → (x : Value) × (result ≡ base x)
  result_is h cs fuel result k left ends =
      let r = files.results items vals d main val spec there has.has.main.is_hoare h cs fuel result k left ends in (r.0, r.1)
