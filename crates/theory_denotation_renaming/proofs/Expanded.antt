-- The eta-expansion of a neutral term denotes what the term denotes.
use Rattle.std.proofs.Common.{◌≡◌, zero, suc, ◌∷◌, refl, sym, ap, ◌∙◌}
use Rattle.htt_syntax.specs.Trees.{TyTree, TermTree, y_mono, y_fun, y_all, y_hoare, y_at, triple, t_var, t_app, t_inst, m_var}
use Rattle.theory_renaming.specs.Renaming.{Map, lift, rename_term}
use Rattle.theory_canonical.specs.Skeletons.{sk_o, skeleton}
use Rattle.theory_canonical.specs.Eta.{expansion}
use Rattle.theory_denotation.specs.Outcomes.{Outcome, ended, out_of_fuel, asking, wrong, then_outcome}
use Rattle.theory_denotation.specs.Valuations.{Domain, den_mono, den_term, Valuation, value_of_entry, running_of_entry, applied_entry, instance_entry}
use Rattle.theory_denotation.specs.Valuations.{HeadEntries}
use Rattle.theory_denotation.specs.Denotation.{term_den, head_den}
use Rattle.theory_denotation.proofs.HeadsDenote.{head_is_of, head_value}
use Rattle.theory_denotation_renaming.specs.Laws.{ExpansionKeepsHeads}
use Rattle.theory_denotation_renaming.proofs.Renamed.{agree_suc, head_renamed}

then_ended : (o : Outcome) → then_outcome o (λ v h cs. ended v h cs) ≡ o
then_ended (ended v h cs) = refl
then_ended out_of_fuel = refl
then_ended asking = refl
then_ended wrong = refl

-- where the head denotes x, so does the expansion
pub expanded : (e : HeadEntries) (ty : TyTree) (m : Map) (term : TermTree) (w : Valuation) (x : Domain (skeleton ty))
    → term_den e w term sk_o ≡ value_of_entry (head_den e w term)
    → head_den e w term ≡ den_term (skeleton ty) x
    → term_den e w (expansion m term ty) (skeleton ty) ≡ x
unfolding expansion skeleton term_den
expanded e (y_mono mono) m term w x v q = v ∙ ap value_of_entry q
expanded e (y_fun argument answer) m term w x v q = λ j d.
    expanded e answer (lift m) (t_app (rename_term suc term) (expansion (λ n. suc (m n)) (t_var zero) argument)) (den_term (skeleton argument) d ∷ w) (x d) refl
    (ap (λ y. applied_entry y (term_den e (den_term (skeleton argument) d ∷ w) (expansion (λ n. suc (m n)) (t_var zero) argument)))
    (head_renamed e term (agree_suc (den_term (skeleton argument) d) w) ∙ q)
    ∙ ap (λ y. den_term (skeleton answer) (x y)) (expanded e argument (λ n. suc (m n)) (t_var zero) (den_term (skeleton argument) d ∷ w) d refl refl)) j
expanded e (y_all body) m term w x v q = λ j t.
    expanded e body (lift m) (t_inst (rename_term suc term) (m_var zero)) (den_mono t ∷ w) (x t) refl
    (ap (λ y. instance_entry y t) (head_renamed e term (agree_suc (den_mono t) w) ∙ q)) j
expanded e (y_hoare (triple pre mono post)) m term w x v q = (λ j n h cs. then_ended (running_of_entry (head_den e w term) n h cs) j) ∙ ap running_of_entry q
expanded e (y_at at ty) m term w x v q = expanded e ty m term w x v q

pub kept : ExpansionKeepsHeads
kept heads e g w h f term ty d =
    let o = head_is_of h f d in o.is ∙ ap (den_term (skeleton ty)) (sym (expanded e ty (λ n. n) term w o.of (head_value e w d) o.is))
