-- What a step denotes as what it becomes: the part before what follows it.
use Rattle.std.proofs.Common.{◌≡◌, List, ◌∷◌, refl}
use Rattle.htt_syntax.specs.Trees.{CompTree}
use Rattle.theory_values.specs.Values.{v_unit}
use Rattle.theory_canonical.specs.Skeletons.{sk_o}
use Rattle.theory_canonical.specs.Contexts.{Standing, as_term, Heads}
use Rattle.theory_canonical.specs.Canonical.{IsCanonicalComp, n_unit}
use Rattle.theory_typing.specs.Typing.{Part, part_step, part_comp, part_unit, Joined, joined_step, joined_comp, joined_unit}
use Rattle.theory_typing_canonical.proofs.Entries.{IsCanonicalPart}
use Rattle.theory_denotation.specs.Outcomes.{Running, ended, in_sequence}
use Rattle.theory_denotation.specs.Valuations.{den_term, Valuation, HeadEntries}
use Rattle.theory_denotation.specs.Denotation.{term_den, comp_den, step_den}
use Rattle.theory_denotation.specs.Valued.{ContextValued, HeadsValued}
use Rattle.theory_denotation_substitution.proofs.Placing.{put_here}
use Rattle.theory_denotation_substitution.proofs.Terms.{comp_put, spliced}

abbrev pub part_den : HeadEntries → Valuation → Part → Running
part_den e w (part_step step) = step_den e w step
part_den e w (part_comp comp) = comp_den e w comp
part_den e w part_unit = λ n h cs. ended v_unit h cs

pub joined_den : {heads : Heads} {e : HeadEntries} {g : List Standing} {w : Valuation} {part : Part} {others r : CompTree}
    → Joined part others r
    → HeadsValued heads e
    → ContextValued g w
    → IsCanonicalPart heads g part
    → IsCanonicalComp heads (as_term sk_o ∷ g) others
    → comp_den e w r ≡ in_sequence (part_den e w part) (λ v. comp_den e (den_term sk_o v ∷ w) others)
unfolding term_den
joined_den joined_step h z c d = refl
joined_den (joined_comp b) h z c d = spliced b c d h z
joined_den (joined_unit a) h z c d = comp_put a d (put_here h z n_unit)
