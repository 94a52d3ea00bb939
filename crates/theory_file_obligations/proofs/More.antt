-- Items that derive one after the other keep the environment sound, and add heads.
use Rattle.std.proofs.Common.{◌≡◌, List, [], ◌∷◌, ◌++◌, map, sym, subst}
use Rattle.std.proofs.lemmas.List.{map-append}
use Rattle.htt_syntax.specs.Trees.{TyTree}
use Rattle.theory_canonical.specs.Skeletons.{skeleton}
use Rattle.theory_canonical.specs.Contexts.{Heads}
use Rattle.theory_typing.specs.Contexts.{Context, Environment, Obligation}
use Rattle.theory_typing_canonical.specs.Environments.{heads_of, IsCanonicalContext, no_entry, mono_entry, heap_entry, term_entry}
use Rattle.theory_items.specs.Items.{ItemTree, Added, with_val, with_added, Derives, derives_abbreviation, derives_pred, derives_def, derives_val, derives_rec}
use Rattle.theory_items.proofs.MoreHeads.{HasHeads, has_more, ty_more}
use Rattle.theory_items_sound.specs.Environments.{SoundEnvironment}
use Rattle.theory_items_sound.proofs.Kept.{items_keep_sound}
use Rattle.theory_file_derived.specs.Derived.{DerivesAll, derives_none, derives_more}

pub all_sound : {env final : Environment} {items : List ItemTree} {rows : List (List Obligation)}
    → DerivesAll env items final rows
    → SoundEnvironment env
    → SoundEnvironment final
all_sound derives_none s = s
all_sound (derives_more {env = env} {item = item} {added = added} {owed = owed} d rest) s = all_sound rest (items_keep_sound.kept env item added owed s d)

same_heads : {heads : Heads} → HasHeads heads heads
same_heads = record { vals = λ d. d; made = λ d. d }

then_heads : {heads more most : Heads} → HasHeads heads more → HasHeads more most → HasHeads heads most
then_heads f g = record { vals = λ d. g.vals (f.vals d); made = λ d. g.made (f.made d) }

val_heads : (env : Environment) (ty : TyTree) → HasHeads (heads_of env) (heads_of (with_val env ty))
val_heads env ty =
    let q : record { vals = map skeleton env.vals ++ skeleton ty ∷ []; made = [] } ≡ heads_of (with_val env ty) =
    λ j. record { vals = sym (map-append skeleton env.vals (ty ∷ [])) j; made = [] } in
    subst (HasHeads (heads_of env)) q (has_more (map skeleton env.vals) (skeleton ty ∷ []) [])

item_heads : {env : Environment} {item : ItemTree} {added : Added} {o : List Obligation}
    → Derives env [] item added o
    → HasHeads (heads_of env) (heads_of (with_added env added))
item_heads (derives_abbreviation a) = same_heads
item_heads (derives_pred a b) = same_heads
item_heads (derives_def a b) = same_heads
item_heads {env = env} (derives_val {ty' = ty'} a h b) = val_heads env ty'
item_heads (derives_rec f a b i) = same_heads

all_heads : {env final : Environment} {items : List ItemTree} {rows : List (List Obligation)}
    → DerivesAll env items final rows
    → HasHeads (heads_of env) (heads_of final)
all_heads derives_none = same_heads
all_heads (derives_more d rest) = then_heads (item_heads d) (all_heads rest)

-- an item and those behind it
pub heads_from : {env final : Environment} {item : ItemTree} {added : Added} {o : List Obligation} {items : List ItemTree}
    {rows : List (List Obligation)}
    → Derives env [] item added o
    → DerivesAll (with_added env added) items final rows
    → HasHeads (heads_of env) (heads_of final)
heads_from d rest = then_heads (item_heads d) (all_heads rest)

pub context_more : {heads more : Heads} {g : Context} → HasHeads heads more → IsCanonicalContext heads g → IsCanonicalContext more g
context_more f no_entry = no_entry
context_more f (mono_entry c) = mono_entry (context_more f c)
context_more f (heap_entry c) = heap_entry (context_more f c)
context_more f (term_entry c d) = term_entry (context_more f c) (ty_more f d)
