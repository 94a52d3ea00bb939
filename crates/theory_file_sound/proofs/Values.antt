-- The values of a file that derives, as canonical terms, each under those before it.
use Rattle.std.proofs.Common.{◌≡◌, List, [], ◌∷◌, ◌++◌, map, refl, sym, ap, ◌∙◌, subst}
use Rattle.std.proofs.lemmas.List.{map-append}
use Rattle.htt_syntax.specs.Trees.{TyTree}
use Rattle.theory_canonical.specs.Skeletons.{Skeleton, skeleton}
use Rattle.theory_typing.specs.Contexts.{Environment, Obligation}
use Rattle.theory_typing.specs.Laws.{none}
use Rattle.theory_typing_canonical.specs.Environments.{heads_of, no_entry}
use Rattle.theory_typing_canonical.proofs.Typed.{formed_ty, fitted}
use Rattle.theory_items.specs.Items.{ItemTree, derives_abbreviation, derives_pred, derives_def, derives_val, derives_rec}
use Rattle.theory_denotation.specs.Denotation.{ValTree}
use Rattle.theory_denotation_relations.specs.Files.{AreVals, vals_end, vals_more, skeletons_after, heads_of_skeletons, heads_of_file}
use Rattle.theory_items_sound.specs.Environments.{SoundEnvironment}
use Rattle.theory_items_sound.proofs.Kept.{items_keep_sound}
use Rattle.theory_file_derived.specs.Derived.{DerivesAll, derives_none, derives_more}
use Rattle.theory_logic_unfoldings_satisfied.proofs.Bodies.{ends_run}

-- the canonical term of a value, with the skeleton of its type
abbrev pub vals_of : {env final : Environment} {items : List ItemTree} {rows : List (List Obligation)} → DerivesAll env items final rows → List ValTree
vals_of derives_none = []
vals_of (derives_more (derives_val {ty' = ty'} {term' = term'} a h b) rest) = record { term = term'; skeleton = skeleton ty' } ∷ vals_of rest
vals_of (derives_more (derives_abbreviation a) rest) = vals_of rest
vals_of (derives_more (derives_pred a b) rest) = vals_of rest
vals_of (derives_more (derives_def a b) rest) = vals_of rest
vals_of (derives_more (derives_rec f a b i) rest) = vals_of rest

more_skeletons : (types : List TyTree) (ty : TyTree) → map skeleton (types ++ ty ∷ []) ≡ map skeleton types ++ skeleton ty ∷ []
more_skeletons types ty = map-append skeleton types (ty ∷ [])

pub are_vals : {env final : Environment} {items : List ItemTree} {rows : List (List Obligation)} (d : DerivesAll env items final rows)
    → SoundEnvironment env
    → AreVals (map skeleton env.vals) (vals_of d)
are_vals derives_none s = vals_end
are_vals (derives_more {env = env} {item = item} {added = added} {owed = owed} (derives_val {ty' = ty'} {term' = term'} a h b) rest) s =
    vals_more (fitted env s.canonical no_entry (formed_ty env s.canonical no_entry a) b).term (ends_run ty' h)
    (subst (λ (before : List Skeleton). AreVals before (vals_of rest)) (more_skeletons env.vals ty')
    (are_vals rest (items_keep_sound.kept env item added owed s (derives_val a h b))))
are_vals (derives_more (derives_abbreviation a) rest) s = are_vals rest s
are_vals (derives_more (derives_pred a b) rest) s = are_vals rest s
are_vals (derives_more {env = env} {item = item} {added = added} {owed = owed} (derives_def a b) rest) s =
    are_vals rest (items_keep_sound.kept env item added owed s (derives_def a b))
are_vals (derives_more {env = env} {item = item} {added = added} {owed = owed} (derives_rec f a b i) rest) s =
    are_vals rest (items_keep_sound.kept env item added owed s (derives_rec f a b i))

skeletons_are : {env final : Environment} {items : List ItemTree} {rows : List (List Obligation)} (d : DerivesAll env items final rows)
    → skeletons_after (map skeleton env.vals) (vals_of d) ≡ map skeleton final.vals
skeletons_are derives_none = refl
skeletons_are (derives_more {env = env} (derives_val {ty' = ty'} a h b) rest) =
    ap (λ (before : List Skeleton). skeletons_after before (vals_of rest)) (sym (more_skeletons env.vals ty')) ∙ skeletons_are rest
skeletons_are (derives_more (derives_abbreviation a) rest) = skeletons_are rest
skeletons_are (derives_more (derives_pred a b) rest) = skeletons_are rest
skeletons_are (derives_more (derives_def a b) rest) = skeletons_are rest
skeletons_are (derives_more (derives_rec f a b i) rest) = skeletons_are rest

pub file_heads : {final : Environment} {items : List ItemTree} {rows : List (List Obligation)} (d : DerivesAll none items final rows)
    → heads_of_file (vals_of d) ≡ heads_of final
file_heads d = ap heads_of_skeletons (skeletons_are d)
