-- What is said to begin a phrase begins one.
use Rattle.std.proofs.Common.{ℕ, List, ◌∷◌, sym, subst}
use Rattle.htt_lexer_tokens.specs.declared.tokens.Token.{Token}
use Rattle.theory_grammar.specs.Marks.{Mark, AllFit, span_of}
use Rattle.theory_reading_completions.specs.Laws.{Started, MonoStarts, TypeStarts, TermStarts, CompStarts, FormulaStarts, ProofStarts, DeclStarts}
use Rattle.theory_reading_completions.proofs.Halts.{Start}
use Rattle.theory_reading_completions.proofs.Starts.{starts_mono, starts_ty, starts_term, starts_comp, starts_formula, starts_proof, starts_decl}

started : {A : Type 0} (marks : A → List Mark) (l : ℕ) (token : Token) → Start marks l token.kind (span_of token) → Started marks token
started marks l token one = record {
  tree = one.tree;
  more = one.tokens;
  fit = subst (λ ms. AllFit (token ∷ one.tokens) ms) (sym one.whole) (record { kind = one.same; at = one.at; span = one.there }, one.fit);
}

pub mono_starts : MonoStarts
mono_starts l token h = started _ l token (starts_mono l token.kind (span_of token) h)

pub type_starts : TypeStarts
type_starts l token h = started _ l token (starts_ty l token.kind (span_of token) h)

pub term_starts : TermStarts
term_starts l token h = started _ l token (starts_term l token.kind (span_of token) h)

pub comp_starts : CompStarts
comp_starts l token h = started _ l token (starts_comp l token.kind (span_of token) h)

pub formula_starts : FormulaStarts
formula_starts l token h = started _ l token (starts_formula l token.kind (span_of token) h)

pub proof_starts : ProofStarts
proof_starts l token h = started _ l token (starts_proof l token.kind (span_of token) h)

pub decl_starts : DeclStarts
decl_starts token h = started _ 0 token (starts_decl token.kind (span_of token) h)
