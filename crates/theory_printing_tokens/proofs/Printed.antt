-- The bytes that are printed have the printed tokens.
use Rattle.std.proofs.Common.{[], length, refl, sym, subst}
use Rattle.std.proofs.lemmas.List.{append-nil}
use Rattle.htt_lexer.specs.Tokens.{Reads}
use Rattle.theory_printing.specs.Pieces.{Printed, bytes_of}
use Rattle.theory_printing.specs.Phrases.{ty, formula}
use Rattle.theory_printing.specs.Proofs.{proof}
use Rattle.theory_printing_tokens.specs.Spoken.{tokens_of}
use Rattle.theory_printing_tokens.specs.Laws.{HasPrintedTokens, PrintedTokens}
use Rattle.theory_printing_tokens.proofs.Leaves.{LexesPhrase}
use Rattle.theory_printing_tokens.proofs.Phrases.{lex_ty, lex_formula}
use Rattle.theory_printing_tokens.proofs.Proofs.{lex_proof}

whole : (p : Printed) → LexesPhrase p → HasPrintedTokens p
whole p h =
    let all = h [] refl (bytes_of p) [] (sym (append-nil (bytes_of p))) in
    record {
      spoken = all.spoken;
      are_tokens = record {
        utf8 = all.utf8;
        reads = subst (λ bs. Reads 0 bs (tokens_of (bytes_of p) p all.spoken) (length (bytes_of p)) []) (append-nil (bytes_of p)) all.reads;
      };
    }

pub printed_tokens : PrintedTokens
printed_tokens = record {
  types = λ counts s A h. whole (ty s A) (lex_ty counts s A h);
  formulas = λ counts s F h. whole (formula s F) (lex_formula counts s F h);
  proofs = λ counts s p h. whole (proof s p) (lex_proof counts s p h);
}
