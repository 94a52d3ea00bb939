-- Files: no two refusals are right.
use Rattle.std.proofs.Common.{◌≡◌, ℕ, ◌+◌, List, [], ◌∷◌, ◌++◌, length, refl, sym, ◌∙◌, ap, subst, arith}
use Rattle.std.specs.Prelude.{Result, Ok, Err}
use Rattle.std.proofs.lemmas.List.{append_cancel_right}
use Rattle.htt_lexer_tokens.specs.declared.tokens.Token.{Token}
use Rattle.htt_parser_trees.specs.Trees.{RawDeclTree}
use Rattle.theory_grammar.specs.Marks.{Mark, Limits}
use Rattle.theory_grammar.specs.Grammar
use Rattle.theory_grammar.specs.Derivations.{the_limits}
use Rattle.theory_grammar.specs.Readers.{Halt, Why, expected, too_nested, too_long, too_many}
use Rattle.theory_grammar.specs.Reading.{file_on}
use Rattle.theory_grammar.proofs.Files.{file_gets}
use Rattle.theory_reading.specs.Laws.{outermost, read_file}
use Rattle.theory_reading.proofs.Laws.{file_is_derived}
use Rattle.theory_grammar_chains.proofs.Laws.{in_files}
use Rattle.theory_reading_places.proofs.Words.{chain_same}
use Rattle.theory_reading_places.proofs.Files.{file_follows}
use Rattle.theory_reading_limits.proofs.Files.{file_bars}
use Rattle.theory_refusals.specs.Refusals.{Begins, GoesPast, IsTooDeep, IsTooFar, NoneGoesOn, NoneWithin, short_file, IsRightInFile, FileRefusal}
use Rattle.theory_refusals.proofs.Files.{file_is_refused}
use Rattle.theory_refusals.proofs.One.{file_has_one_place, file_is_not_derived}
use Rattle.theory_refusals_reasons.specs.Laws.{FileHasOneRefusal}
use Rattle.theory_refusals_reasons.proofs.Stops.{not_too_far, not_too_deep}
use Rattle.theory_refusals_reasons.proofs.Phrases.{begins_past, same_halt}

-- declarations past a limit, whatever their number
any_file : {past : Limits → Mark → Type 0} {before : List Token} {t : Token}
    → GoesPast the_limits past short_file before t
    → GoesPast the_limits past Grammar.file before t
any_file goes = record {
  tree = goes.tree.decls;
  first = goes.first;
  mark = goes.mark;
  others = goes.others;
  more = goes.more;
  whole = goes.whole;
  fit = goes.fit;
  within = goes.within;
  next = goes.next;
  past = goes.past;
  goes_on = goes.goes_on;
}

module _ (m : ℕ) where
  far_here : (before : List Token) (t : Token) (more : List Token)
      → file_on outermost m (before ++ (t ∷ more)) ≡ Err (record { why = too_nested; rest = t ∷ more })
      → GoesPast the_limits IsTooFar Grammar.file before t
      → ⊥
  far_here =
      not_too_far (λ d. file_on d m) (λ y d. file_on d (m + length y)) Grammar.file _
      (λ y lim d know n. file_gets d know (m + length y) y (omega arith)) (λ b d e follow i j. file_follows d e follow m m (chain_same b m))
      (λ y lim d e stands bar. file_bars d e stands bar m (m + length y) (omega arith)) in_files

  deep_here : (before : List Token) (t : Token) (more : List Token)
      → file_on outermost m (before ++ (t ∷ more)) ≡ Err (record { why = too_long; rest = t ∷ more })
      → GoesPast the_limits IsTooDeep Grammar.file before t
      → ⊥
  deep_here =
      not_too_deep (λ d. file_on d m) (λ y d. file_on d (m + length y)) Grammar.file _
      (λ y lim d know n. file_gets d know (m + length y) y (omega arith)) (λ b d e follow i j. file_follows d e follow m m (chain_same b m))
      (λ y lim d e stands bar. file_bars d e stands bar m (m + length y) (omega arith)) in_files

module _ (before : List Token) (t : Token) (nest : GoesPast the_limits IsTooDeep short_file before t)
    (far : GoesPast the_limits IsTooFar short_file before t) (none : NoneWithin the_limits Grammar.file before t) where
  abbrev tokens : List Token
  tokens = before ++ (t ∷ nest.more)

  deep : FileRefusal tokens (record { why = too_nested; rest = t ∷ nest.more })
  deep = record { before = before; parts = refl; right = (nest, none) }

  by_why : (why : Why) (rest : List Token)
      → rest ≡ t ∷ nest.more
      → IsRightInFile before why rest
      → read_file tokens ≡ Err (record { why = why; rest = rest })
      → ⊥
  by_why expected rest is right stops = (subst (λ ts. NoneGoesOn Grammar.file before ts) is right.1) (begins_past (any_file nest))
  by_why too_nested rest is right stops = far_here 10_000 before t nest.more (stops ∙ ap (λ ts. Err (record { why = too_nested; rest = ts })) is) (any_file far)
  by_why too_long rest is right stops = deep_here 10_000 before t nest.more (stops ∙ ap (λ ts. Err (record { why = too_long; rest = ts })) is) (any_file nest)
  by_why too_many [] is right stops = right
  by_why too_many (u ∷ rest) is right stops = (subst (λ ts. NoneGoesOn short_file before ts) is right.1) (begins_past nest)

  by_answer : (o : Result (List RawDeclTree × List Token) Halt) → read_file tokens ≡ o → ⊥
  by_answer (Ok read) e =
      let found = file_is_derived tokens read.0 read.1 e in
      file_is_not_derived tokens (record { why = too_nested; rest = t ∷ nest.more }) read.0 deep found.0 found.1
  by_answer (Err halt) e =
      let r = file_is_refused tokens halt e in
      let is : halt.rest ≡ t ∷ nest.more = file_has_one_place tokens halt (record { why = too_nested; rest = t ∷ nest.more }) r deep in
      let same : r.before ≡ before = append_cancel_right r.before before (t ∷ nest.more) (sym (r.parts ∙ ap (λ ts. r.before ++ ts) is)) in
      by_why halt.why halt.rest is (subst (λ ts. IsRightInFile ts halt.why halt.rest) same r.right) e

  clash : ⊥
  clash = by_answer (read_file tokens) refl

begins_short : (before : List Token) (t : Token) → Begins short_file (before ++ (t ∷ [])) → Begins Grammar.file (before ++ (t ∷ []))
begins_short before t begins = record { tree = begins.tree.decls; more = begins.more; fit = begins.fit }

same_why : (before : List Token) (why other : Why) (rest : List Token) → IsRightInFile before why rest → IsRightInFile before other rest → why ≡ other
same_why before expected expected rest one two = refl
same_why before too_nested too_nested rest one two = refl
same_why before too_long too_long rest one two = refl
same_why before too_many too_many rest one two = refl
same_why before why other [] one two = at_end why other one two
  where
    at_end : (why other : Why) → IsRightInFile before why [] → IsRightInFile before other [] → why ≡ other
    at_end expected expected one two = refl
    at_end expected too_nested one two = absurd two
    at_end expected too_long one two = absurd two
    at_end expected too_many one two = absurd two
    at_end too_nested other one two = absurd one
    at_end too_long other one two = absurd one
    at_end too_many other one two = absurd one
same_why before expected too_nested (t ∷ rest) one two = absurd (one.1 (begins_short before t (begins_past two.0)))
same_why before expected too_long (t ∷ rest) one two = absurd (one.1 (begins_short before t (begins_past two.0)))
same_why before expected too_many (t ∷ rest) one two = absurd (one.1 two.0.goes_on)
same_why before too_nested expected (t ∷ rest) one two = absurd (two.1 (begins_short before t (begins_past one.0)))
same_why before too_long expected (t ∷ rest) one two = absurd (two.1 (begins_short before t (begins_past one.0)))
same_why before too_many expected (t ∷ rest) one two = absurd (two.1 one.0.goes_on)
same_why before too_nested too_many (t ∷ rest) one two = absurd (two.1 (begins_past one.0))
same_why before too_long too_many (t ∷ rest) one two = absurd (two.1 (begins_past one.0))
same_why before too_many too_nested (t ∷ rest) one two = absurd (one.1 (begins_past two.0))
same_why before too_many too_long (t ∷ rest) one two = absurd (one.1 (begins_past two.0))
same_why before too_nested too_long (t ∷ rest) one two = absurd (clash before t one.0 two.0 one.1)
same_why before too_long too_nested (t ∷ rest) one two = absurd (clash before t two.0 one.0 one.1)

pub file_has_one_refusal : FileHasOneRefusal
file_has_one_refusal tokens halt other one two =
    let rest : halt.rest ≡ other.rest = file_has_one_place tokens halt other one two in
    let same : two.before ≡ one.before = append_cancel_right two.before one.before halt.rest (ap (λ ts. two.before ++ ts) rest ∙ sym two.parts ∙ one.parts) in
    let right : IsRightInFile one.before other.why halt.rest =
    subst (λ ts. IsRightInFile one.before other.why ts) (sym rest) (subst (λ ts. IsRightInFile ts other.why other.rest) same two.right) in
    same_halt halt other (same_why one.before halt.why other.why halt.rest one.right right) rest
