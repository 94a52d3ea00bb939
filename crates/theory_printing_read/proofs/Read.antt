-- What is printed of types, formulas, proofs and sequents is read back, as nothing else.
use Rattle.std.proofs.Common.{[], zero, length, take, refl}
use Rattle.theory_grammar.specs.Grammar as grammar
use Rattle.theory_grammar.proofs.One.{one_type, one_formula, one_proof}
use Rattle.theory_text.specs.Phrases.{ty_comes, formula_comes}
use Rattle.theory_text.specs.Proofs.{proof_comes}
use Rattle.theory_text_bytes.proofs.One.{texts}
use Rattle.theory_printing.specs.Brackets.{formula_form}
use Rattle.theory_printing.specs.Phrases.{ty, formula}
use Rattle.theory_printing.specs.Proofs.{proof}
use Rattle.theory_printing.specs.Pieces.{bytes_of}
use Rattle.theory_printing_conditions.specs.Conditions.{is_block}
use Rattle.theory_printing_tokens.proofs.Printed.{printed_tokens}
use Rattle.theory_printing_forms.specs.Said.{said_ty, said_formula, said_proof}
use Rattle.theory_printing_forms.proofs.Forms.{any_formula}
use Rattle.theory_printing_phrases.proofs.Phrases.{read_ty, read_formula}
use Rattle.theory_printing_proofs.proofs.Readings.{any_proof}
use Rattle.theory_printing_proofs.proofs.Proofs.{read_proof}
use Rattle.theory_printing_sequents.specs.Sequents.{scope_in, scope_of}
use Rattle.theory_printing_sequents.specs.Laws.{place_in, place_of}
use Rattle.theory_printing_sequents.proofs.Sequents.{declared_in, names_in, each_phrase}
use Rattle.theory_printing_declared.specs.Tables.{vals_in, recs_in, counts_in, table_of}
use Rattle.theory_printing_declared.proofs.Laws.{declared_names}
use Rattle.theory_printing_read.specs.Laws.{TypesAreRead, FormulasAreRead, ProofsAreRead, SequentsAreRead, PlacesHavePrintedNames}
use Rattle.theory_printing_read.proofs.Standing.{stands}

pub types_are_read : TypesAreRead
types_are_read counts s r A has names e =
    stands (grammar.ty 1) (ty_comes r) said_ty r (ty s A) A one_type
    (λ x given derives comes. record { tree = x; derives = derives; comes = comes }) (texts.types r) e (printed_tokens.types counts s A has)
    (λ v. read_ty names A has 1 v)

pub formulas_are_read : FormulasAreRead
formulas_are_read counts s r F has names e =
    stands (grammar.formula 1) (formula_comes r) said_formula r (formula s F) F one_formula
    (λ x given derives comes. record { tree = x; derives = derives; comes = comes }) (texts.formulas r) e
    (printed_tokens.formulas counts s F has) (λ v. any_formula (formula_form F) (read_formula names F has 1 v))

pub proofs_are_read : ProofsAreRead
proofs_are_read counts s r p has names e =
    stands (grammar.proof 1) (proof_comes r) said_proof r (proof s p) p one_proof
    (λ x given derives comes. record { tree = x; derives = derives; comes = comes }) (texts.proofs r) e
    (printed_tokens.proofs counts s p has) (λ v. any_proof (is_block p) (read_proof names p has 1 v))

pub sequents_are_read : SequentsAreRead
sequents_are_read names vals recs counts q declared has =
    each_phrase has
    (λ outer A h.
    let s = scope_in vals recs outer zero in
    let text = bytes_of (ty s A) in
    types_are_read counts s (place_in text names outer zero) A h (names_in text names vals recs counts outer zero (declared_in outer zero declared)) refl)
    (λ F h.
    let s = scope_of vals recs q in
    let text = bytes_of (formula s F) in
    formulas_are_read counts s (place_of text names q) F h (names_in text names vals recs counts q.context (length q.hypotheses) declared) refl)

pub places_named : PlacesHavePrintedNames
places_named = record {
  in_files = λ text phrase file visible g n h.
      let names = take visible file.names in
      names_in phrase names (vals_in names) (recs_in names) (counts_in names) g n
      (declared_in g n (declared_names.in_order [] zero names (declared_names.of_files text file visible h)));
  with_names = λ phrase vals recs counts g n k h.
      names_in phrase (table_of vals recs counts) vals recs counts g n (declared_in g n (declared_names.of_scopes [] zero vals recs counts k h));
}
