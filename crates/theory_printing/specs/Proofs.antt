-- What is printed of proofs: a row for each form. The statements of a block and its end stand on one line.
use Rattle.std.specs.Prelude.{ℕ, List, [], ◌∷◌}
use Rattle.htt_lexer_tokens.specs.declared.tokens.Keyword.{Keyword}
use Rattle.htt_lexer_tokens.specs.declared.tokens.Keyword.TheVariants.{IntroWord, GenWord, HaveWord, OpenWord, BothWord}
use Rattle.htt_lexer_tokens.specs.declared.tokens.Keyword.TheVariants.{LeftWord, RightWord, GiveWord, TrivialWord}
use Rattle.htt_lexer_tokens.specs.declared.tokens.Keyword.TheVariants.{ReflWord, AbsurdWord, CaseWord, RewriteWord}
use Rattle.htt_lexer_tokens.specs.declared.tokens.Keyword.TheVariants.{InductWord, SplitWord, FirstWord, SecondWord}
use Rattle.htt_lexer_tokens.specs.declared.tokens.Keyword.TheVariants.{AppWord, InstWord, AxiomWord, LemWord, TheWord}
use Rattle.htt_lexer_tokens.specs.declared.tokens.Sign.TheVariants.{ColonSign, DotSign, EqualSign, AtSign}
use Rattle.htt_syntax.specs.Trees.{MonoTree, FormulaTree, ArgTree, ProofTree, StmtTree, BlockTree, a_heap, a_term}
use Rattle.htt_syntax.specs.Trees.{p_hyp, p_trivial, p_refl, p_first, p_second, p_left, p_right, p_absurd, p_both}
use Rattle.htt_syntax.specs.Trees.{p_give, p_app, p_inst, p_case, p_rewrite, p_induct, p_split, p_axiom, p_lem, p_the}
use Rattle.htt_syntax.specs.Trees.{p_block, p_at, p_unfold, d_intro, d_gen, d_have, d_open, d_at, b_then, b_end}
use Rattle.theory_text_names.specs.Scopes.{a_term_or_heap}
use Rattle.theory_printing.specs.Pieces
use Rattle.theory_printing.specs.Pieces.{Printed, nothing, ◌▹◌, deeper, operand, space, word, sign, name}
use Rattle.theory_printing.specs.Pieces.{between, comma, semicolon, in_parens, in_brackets}
use Rattle.theory_printing.specs.Names.{PrintScope, with_entry, with_hypothesis, hypothesis_name, new_name}
use Rattle.theory_printing.specs.Names.{new_hypothesis, entry, rec_name}
use Rattle.theory_printing.specs.Phrases.{mono, term, formula}

-- ---- lists, with a comma between two

unfoldable pub more_monos : PrintScope → List MonoTree → Printed
more_monos s [] = nothing
more_monos s (t ∷ ts) = comma ▹ mono s t ▹ more_monos s ts

-- in square brackets, which are missing where there are none
abbrev pub monos : PrintScope → List MonoTree → Printed
monos s [] = nothing
monos s (t ∷ ts) = in_brackets (mono s t ▹ more_monos s ts)

abbrev pub arg : PrintScope → ArgTree → Printed
arg s (a_heap h) = sign AtSign ▹ entry s h
arg s (a_term M) = deeper (term s M)

unfoldable pub more_args : PrintScope → List ArgTree → Printed
more_args s [] = nothing
more_args s (a ∷ others) = comma ▹ arg s a ▹ more_args s others

abbrev pub args : PrintScope → List ArgTree → Printed
args s [] = nothing
args s (a ∷ others) = arg s a ▹ more_args s others

-- ---- what binds

-- a formula under a variable
abbrev pub motive : PrintScope → FormulaTree → Printed
motive s C =
    new_name a_term_or_heap s ▹ between DotSign ▹ in_brackets (deeper (formula (with_entry a_term_or_heap s) C))

-- where what follows a statement stands
unfoldable pub after_stmt : StmtTree → PrintScope → PrintScope
after_stmt d_intro s = with_hypothesis s
after_stmt d_gen s = with_entry a_term_or_heap s
after_stmt (d_have F p) s = with_hypothesis s
after_stmt (d_open p) s = with_hypothesis (with_entry a_term_or_heap s)
after_stmt (d_at at d) s = after_stmt d s

-- for the next word: the word, and two hypotheses
abbrev pub under_next : PrintScope → PrintScope
under_next s = with_hypothesis (with_hypothesis (with_entry a_term_or_heap s))

-- a word with one proof in brackets
abbrev pub of_one : Keyword → Printed → Printed
of_one w printed = word w ▹ in_parens (deeper printed)

unfoldable mutual
  pub proof : PrintScope → ProofTree → Printed
  proof s (p_hyp number) = name (hypothesis_name number)
  proof s p_trivial = word TrivialWord
  proof s p_refl = word ReflWord
  proof s (p_first p) = of_one FirstWord (proof s p)
  proof s (p_second p) = of_one SecondWord (proof s p)
  proof s (p_left p) = of_one LeftWord (proof s p)
  proof s (p_right p) = of_one RightWord (proof s p)
  proof s (p_absurd p) = of_one AbsurdWord (proof s p)
  proof s (p_both p q) = word BothWord ▹ in_parens (deeper (proof s p) ▹ comma ▹ deeper (proof s q))
  proof s (p_give a p) = word GiveWord ▹ in_parens (arg s a ▹ comma ▹ deeper (proof s p))
  proof s (p_app p q) = word AppWord ▹ in_parens (deeper (proof s p) ▹ comma ▹ operand 2 (deeper (proof s q)))
  proof s (p_inst p a) = word InstWord ▹ in_parens (deeper (proof s p) ▹ comma ▹ operand 2 (arg s a))
  proof s (p_case p q r) =
      word CaseWord ▹
      in_parens (deeper (proof s p) ▹ comma ▹
      new_hypothesis s ▹ between DotSign ▹ deeper (proof (with_hypothesis s) q) ▹ comma ▹
      new_hypothesis s ▹ between DotSign ▹ deeper (proof (with_hypothesis s) r))
  proof s (p_rewrite p C q) =
      word RewriteWord ▹ in_parens (deeper (proof s p) ▹ comma ▹ motive s C ▹ comma ▹ deeper (proof s q))
  proof s (p_induct C M p q) =
      word InductWord ▹
      in_parens (motive s C ▹ comma ▹ deeper (term s M) ▹ comma ▹ deeper (proof s p) ▹ comma ▹
      new_name a_term_or_heap s ▹ space ▹ new_hypothesis s ▹ space ▹ new_hypothesis (with_hypothesis s) ▹
      between DotSign ▹ deeper (proof (under_next s) q))
  proof s (p_split C M p q) =
      word SplitWord ▹
      in_parens (motive s C ▹ comma ▹ deeper (term s M) ▹ comma ▹ deeper (proof s p) ▹ comma ▹ deeper (proof s q))
  proof s (p_axiom c ts more) = word AxiomWord ▹ space ▹ name c ▹ monos s ts ▹ in_parens (args s more)
  proof s (p_unfold number at_next more) =
      word AxiomWord ▹ space ▹ rec_name s number ▹ sign DotSign ▹ Pieces.number at_next ▹ in_parens (args s more)
  proof s (p_lem F) = word LemWord ▹ in_brackets (deeper (formula s F))
  proof s (p_the F p) =
      word TheWord ▹ in_brackets (deeper (formula s F)) ▹ in_parens (deeper (proof s p))
  proof s (p_block b) = block s b
  proof s (p_at at p) = proof s p

  pub block : PrintScope → BlockTree → Printed
  block s (b_then d b) = stmt s d ▹ block (after_stmt d s) b
  block s (b_end p) = proof s p

  pub stmt : PrintScope → StmtTree → Printed
  stmt s d_intro = word IntroWord ▹ space ▹ new_hypothesis s ▹ semicolon
  stmt s d_gen = word GenWord ▹ space ▹ new_name a_term_or_heap s ▹ semicolon
  stmt s (d_have F p) =
      word HaveWord ▹ space ▹ new_hypothesis s ▹ between ColonSign ▹ in_brackets (deeper (formula s F)) ▹
      between EqualSign ▹ deeper (proof s p) ▹ semicolon
  stmt s (d_open p) =
      word OpenWord ▹ space ▹ new_name a_term_or_heap s ▹ space ▹ new_hypothesis s ▹ between EqualSign ▹
      deeper (proof s p) ▹ semicolon
  stmt s (d_at at d) = stmt s d
