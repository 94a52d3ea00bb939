-- What is read is what is derived within the limits.
use Rattle.std.proofs.Common.{◌≡◌, ℕ, zero, suc, ◌≤◌, List, [], ◌∷◌, length, sym, ◌∙◌, ap, subst, arith, lit≤, lit<}
use Rattle.std.specs.Prelude.{Ok}
use Rattle.htt_lexer_tokens.specs.declared.tokens.Token.{Token}
use Rattle.htt_parser_trees.specs.Trees.{RawDeclTree}
use Rattle.theory_grammar.specs.Marks.{Mark, Limits, AllFit, AllWithin}
use Rattle.theory_grammar.specs.Grammar
use Rattle.theory_grammar.specs.Derivations.{the_limits}
use Rattle.theory_grammar.specs.Readers.{give, ◌>>=◌, refuse, if_first}
use Rattle.theory_grammar.specs.Beginnings.{never}
use Rattle.theory_grammar.specs.Phrases.{Deeper}
use Rattle.theory_grammar.specs.Reading.{decl_reader, file_on}
use Rattle.theory_grammar.proofs.Spells.{Spells, spelled}
use Rattle.theory_grammar.proofs.Monotypes.{Knows}
use Rattle.theory_grammar.proofs.Files.{knows, file_gets}
use Rattle.theory_reading.specs.Laws.{MonoIsDerived, MonoIsRead, outermost, FormulaIsDerived, ProofIsDerived, FileIsDerived, FormulaIsRead, ProofIsRead}
use Rattle.theory_reading.specs.Laws.{FileIsRead}
use Rattle.theory_reading.proofs.Tells.{bound, read_of, left_of}
use Rattle.theory_reading.proofs.Words.{Trusts}
use Rattle.theory_reading.proofs.Files.{trusts, file_tells}

all_fit : (lim : Limits) (ms : List Mark) (ts : List Token) → Spells lim ms ts [] → AllFit ts ms
all_fit lim [] ts s = subst (λ us. AllFit us []) (sym s) tt
all_fit lim (m ∷ ms) ts s = subst (λ us. AllFit us (m ∷ ms)) (sym s.2) (s.3, all_fit lim ms s.1 s.5)

all_within : (lim : Limits) (ms : List Mark) (ts rest : List Token) → Spells lim ms ts rest → AllWithin lim ms
all_within lim [] ts rest s = tt
all_within lim (m ∷ ms) ts rest s = (s.4, all_within lim ms s.1 rest s.5)

known : Knows the_limits outermost 1
known = knows the_limits 63 256 1 (lit≤ tt) (lit< tt)

trusted : Trusts the_limits outermost 1
trusted = trusts the_limits 63 256 1 (lit≤ tt) (lit≤ tt)

pub mono_is_derived : MonoIsDerived
mono_is_derived tokens tree e =
    let s = trusted.mono.tells tokens tree [] e in
    (all_fit the_limits (Grammar.mono 1 tree) tokens s, all_within the_limits (Grammar.mono 1 tree) tokens [] s)

pub formula_is_derived : FormulaIsDerived
formula_is_derived tokens tree e =
    let s = trusted.formula.tells tokens tree [] e in
    (all_fit the_limits (Grammar.formula 1 tree) tokens s, all_within the_limits (Grammar.formula 1 tree) tokens [] s)

pub proof_is_derived : ProofIsDerived
proof_is_derived tokens tree e =
    let s = trusted.proof.tells tokens tree [] e in
    (all_fit the_limits (Grammar.proof 1 tree) tokens s, all_within the_limits (Grammar.proof 1 tree) tokens [] s)

-- a file is read to its end, and has no more declarations than may be read
ends : (d : Deeper) (m : ℕ) (tokens : List Token) (decls : List RawDeclTree) (rest : List Token)
    → file_on d m tokens ≡ Ok (decls, rest)
    → (rest ≡ []) × (length decls ≤ m)
unfolding file_on if_first give refuse ◌>>=◌ read_of left_of
ends d zero [] decls rest e = (sym (ap (left_of []) e), subst (λ ds. length ds ≤ 0) (ap (read_of []) e) (lit≤ tt))
ends d zero (t ∷ ts) decls rest e = cc
ends d (suc m) [] decls rest e = (sym (ap (left_of []) e), subst (λ ds. length ds ≤ suc m) (ap (read_of []) e) (omega arith))
ends d (suc m) (t ∷ ts) decls rest e =
    let one = bound (decl_reader d (t ∷ ts)) _ decls rest e in
    let others = bound (file_on d m one.mid) _ decls rest one.next in
    let less = ends d m one.mid others.value others.mid others.first in
    let many = less.1 in
    let same = ap length (ap (read_of []) others.next) in
    let count : length decls ≤ suc m = grind (arith, same, many) in
    (sym (ap (left_of []) others.next) ∙ less.0, count)

pub file_is_derived : FileIsDerived
file_is_derived tokens decls rest e =
    let end = ends outermost 10_000 tokens decls rest e in
    let s = (file_tells outermost (record { level = lit≤ tt; chain = lit≤ tt }) trusted 10_000).tells tokens decls rest e in
    let to_end = subst (λ us. Spells the_limits (Grammar.file decls) tokens us) end.0 s in (
      all_fit the_limits (Grammar.file decls) tokens to_end,
      record { marks = all_within the_limits (Grammar.file decls) tokens [] to_end; count = end.1 },
      end.0,
    )

pub mono_is_read : MonoIsRead
mono_is_read tokens tree fit within =
    (known.mono {n = length tokens} tree).reads tokens [] (omega arith) (spelled the_limits tokens (Grammar.mono 1 tree) fit within) tt

pub formula_is_read : FormulaIsRead
formula_is_read tokens tree fit within =
    (known.formula {n = length tokens} tree).reads tokens [] (omega arith) (spelled the_limits tokens (Grammar.formula 1 tree) fit within)
    tt

pub proof_is_read : ProofIsRead
proof_is_read tokens tree fit within =
    (known.proof {n = length tokens} {c = never} tree).reads tokens [] (omega arith)
    (spelled the_limits tokens (Grammar.proof 1 tree) fit within) tt

pub file_is_read : FileIsRead
file_is_read tokens decls fit within =
    (file_gets outermost known {n = length tokens} 10_000 decls within.count).reads tokens [] (omega arith)
    (spelled the_limits tokens (Grammar.file decls) fit within.marks) tt
