-- A list of tokens derives at most one tree: the readers read whichever it derives, if they may read
-- as deep and as far as both.
use Rattle.std.proofs.Common.{◌≡◌, ℕ, ◌+◌, ◌≤◌, List, [], ◌∷◌, length, sym, ◌∙◌, ap, arith}
use Rattle.std.specs.Prelude.{Bool, Result, Ok, Err}
use Rattle.htt_lexer_tokens.specs.declared.tokens.Kind.{Kind}
use Rattle.htt_lexer_tokens.specs.declared.tokens.Token.{Token}
use Rattle.theory_grammar.specs.Marks.{Mark, Limits, AllFit, AllWithin}
use Rattle.theory_grammar.specs.Grammar
use Rattle.theory_grammar.specs.Readers.{Reader, Halt}
use Rattle.theory_grammar.specs.Beginnings.{never}
use Rattle.theory_grammar.specs.Phrases.{Deeper}
use Rattle.theory_grammar.specs.Reading.{deeper, file_on}
use Rattle.theory_grammar.specs.Laws.{OneMono, OneType, OneTerm, OneFormula, OneProof, OneFile}
use Rattle.theory_grammar.proofs.Spells.{spelled}
use Rattle.theory_grammar.proofs.Gets.{Gets}
use Rattle.theory_grammar.proofs.Monotypes.{Knows}
use Rattle.theory_grammar.proofs.Files.{knows, file_gets}

-- ---- limits that are wide enough

pub levels : List Mark → ℕ
levels [] = 0
levels (m ∷ ms) = m.level + levels ms

pub operands : List Mark → ℕ
operands [] = 0
operands (m ∷ ms) = m.operand + operands ms

pub within : (ms : List Mark) (lim : Limits) → levels ms ≤ lim.nesting → operands ms ≤ lim.chain → AllWithin lim ms
unfolding levels operands
within [] lim deep far = tt
within (m ∷ ms) lim deep far = (record { level = omega (arith, deep); operand = omega (arith, far) }, within ms lim (omega (arith, deep)) (omega (arith, far)))

abbrev wide : List Mark → List Mark → Limits
wide ms ns = record { nesting = levels ms + levels ns; chain = operands ms + operands ns }

-- ---- one answer

told : {A : Type 0} → A → Result (A × List Token) Halt → A
told other (Ok read) = read.0
told other (Err halt) = other

same_answer : {A : Type 0} (o : Result (A × List Token) Halt) (x y : A) → o ≡ Ok (x, []) → o ≡ Ok (y, []) → x ≡ y
unfolding told
same_answer o x y e h = ap (told x) (sym e ∙ h)

module _ {A : Type 0} (c : Kind → Bool) (read : Deeper → Reader A) (marks : A → List Mark)
    (gets : (lim : Limits) (d : Deeper) → Knows lim d 1 → (n : ℕ) (x : A) → Gets lim c n (read d) (marks x) x) where
  one : (tokens : List Token) (x y : A) → AllFit tokens (marks x) → AllFit tokens (marks y) → x ≡ y
  one tokens x y fit other =
      let lim = wide (marks x) (marks y) in
      let d = deeper lim.chain lim.nesting in
      let know : Knows lim d 1 = knows lim lim.chain lim.nesting 1 (omega arith) (omega arith) in
      let left = spelled lim tokens (marks x) fit (within (marks x) lim (omega arith) (omega arith)) in
      let right = spelled lim tokens (marks y) other (within (marks y) lim (omega arith) (omega arith)) in
      same_answer (read d tokens) x y
      ((gets lim d know (length tokens) x).reads tokens [] (omega arith) left tt)
      ((gets lim d know (length tokens) y).reads tokens [] (omega arith) right tt)

pub one_mono : OneMono
one_mono = one _ (λ d. d.mono) (Grammar.mono 1) (λ lim d know n x. know.mono x)

pub one_type : OneType
one_type = one _ (λ d. d.ty) (Grammar.ty 1) (λ lim d know n x. know.ty x)

pub one_term : OneTerm
one_term = one _ (λ d. d.term) (Grammar.term 1) (λ lim d know n x. know.term x)

pub one_formula : OneFormula
one_formula = one _ (λ d. d.formula) (Grammar.formula 1) (λ lim d know n x. know.formula x)

pub one_proof : OneProof
one_proof = one never (λ d. d.proof) (Grammar.proof 1) (λ lim d know n x. know.proof x)

pub one_file : OneFile
one_file tokens ds es fit other =
    let lim = wide (Grammar.file ds) (Grammar.file es) in
    let d = deeper lim.chain lim.nesting in
    let m = length ds + length es in
    let know : Knows lim d 1 = knows lim lim.chain lim.nesting 1 (omega arith) (omega arith) in
    let left = spelled lim tokens (Grammar.file ds) fit (within (Grammar.file ds) lim (omega arith) (omega arith)) in
    let right = spelled lim tokens (Grammar.file es) other (within (Grammar.file es) lim (omega arith) (omega arith)) in
    same_answer (file_on d m tokens) ds es
    ((file_gets d know {n = length tokens} m ds (omega arith)).reads tokens [] (omega arith) left tt)
    ((file_gets d know {n = length tokens} m es (omega arith)).reads tokens [] (omega arith) right tt)
