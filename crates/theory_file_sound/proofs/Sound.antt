-- A derived file is sound.
use Rattle.std.proofs.Common.{◌≡◌, ℕ, zero, suc, List, [], ◌∷◌, Some, refl, subst}
use Rattle.htt_syntax.specs.Trees.{ProofTree}
use Rattle.theory_canonical.specs.Contexts.{Heads}
use Rattle.theory_typing.specs.Contexts.{Environment, Obligation}
use Rattle.theory_logic_rules.specs.Rules.{Proves}
use Rattle.theory_typing_canonical.specs.Environments.{heads_of}
use Rattle.theory_items.specs.Items.{ItemTree}
use Rattle.theory_denotation.specs.Valuations.{HeadEntries}
use Rattle.theory_denotation.specs.Denotation.{ValTree, heads_of_vals}
use Rattle.theory_denotation.specs.Valued.{HeadsValued}
use Rattle.theory_denotation_relations.proofs.Choices.{valued}
use Rattle.theory_denotation_heads.proofs.Files.{denote}
use Rattle.theory_file_steps.specs.Laws.{FileHolds}
use Rattle.theory_file_steps.proofs.Growing.{sound}
use Rattle.theory_meaning_triples.proofs.Triples.{meets}
use Rattle.theory_items_sound.proofs.Kept.{items_keep_sound}
use Rattle.theory_file_obligations.proofs.More.{all_sound}
use Rattle.theory_file_derived.specs.Derived.{ProofItem, IsDerived, owed_at, texts_of}
use Rattle.theory_file_sound.specs.Laws.{DerivedFileIsSound}
use Rattle.theory_file_sound.proofs.Values.{vals_of, are_vals, file_heads}
use Rattle.theory_file_sound.proofs.Holding.{AllProved, all_hold}

rows_proved : (final : Environment) (rows : List (List Obligation))
    → ((item number : ℕ) (o : Obligation) → owed_at rows (Some item) number ≡ Some o → (p : ProofTree) × Proves final o.context [] p o.goal)
    → AllProved final rows
rows_proved final [] f = tt
rows_proved final (owed ∷ rows) f = ((λ k o q. f zero (suc k) o q), rows_proved final rows (λ item. f (suc item)))

module _ {items : List ItemTree} {proofs : List ProofItem} {final : Environment} (d : IsDerived items proofs final) where
  values : List ValTree
  values = vals_of d.derives

  entries : HeadEntries
  entries = heads_of_vals values

  heads_valued : HeadsValued (heads_of final) entries
  unfolding entries values
  heads_valued =
      subst (λ (h : Heads). HeadsValued h (heads_of_vals (vals_of d.derives))) (file_heads d.derives)
      (valued.valued (vals_of d.derives) (are_vals d.derives items_keep_sound.empty))

  file_holds : FileHolds final.recs (texts_of items) final entries
  unfolding entries values
  file_holds =
      all_hold final (texts_of items) (vals_of d.derives) (heads_of_vals (vals_of d.derives)) heads_valued
      (denote (vals_of d.derives) (are_vals d.derives items_keep_sound.empty)) d.derives
      (sound.nothing final.recs (texts_of items) (heads_of_vals (vals_of d.derives))) refl refl refl
      (rows_proved final d.rows (λ item number o q. let r = d.proved item number o q in (r.proof, r.proves)))

pub derived_sound : DerivedFileIsSound
derived_sound = record {
  environment = λ items proofs final d. all_sound d.derives items_keep_sound.empty;
  triples = λ items proofs final d number spec q fuel cs words h k.
      let f = file_holds d in
      meets final.recs (texts_of items) final (entries d) f.sound.canonical f.runs f.means f.does number spec q fuel cs words h k;
}
