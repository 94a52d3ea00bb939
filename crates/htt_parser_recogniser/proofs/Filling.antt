-- How the edges over the tokens are made: the shorter ones, and of those of one width the first.
use Rattle.std.proofs.Common.{◌≡◌, ℕ, ◌+◌, ◌-◌, ◌≤◌, ◌<◌, inl, inr, List, [], ◌++◌, length, map, refl, sym, subst, arith}
use Rattle.htt_lexer_tokens.specs.declared.tokens.Token.{Token}
use Rattle.htt_parser_table.specs.declared.symbols.Nonterminal.{Nonterminal}
use Rattle.htt_parser_table.specs.declared.symbols.Nonterminal.TheVariants.{Binder, MonoName, SumSign, ProductSign, UnaryWord, UnaryRule, HeapNumber, Heap}
use Rattle.htt_parser_table.specs.declared.symbols.Nonterminal.TheVariants.{Factor, Mono, MonoInBrackets, MonosAfter, Monos, TypePhrase, Triple, Term}
use Rattle.htt_parser_table.specs.declared.symbols.Nonterminal.TheVariants.{Parameters, Relation, Sum, SumRest, Product, ProductRest, Application, Parts, Atom}
use Rattle.htt_parser_table.specs.declared.symbols.Nonterminal.TheVariants.{Comp, Step, Formula, Sort, Disjunction, Conjunction, Separation, FormulaAtom, Terms}
use Rattle.htt_parser_table.specs.declared.symbols.Nonterminal.TheVariants.{TermsAfter, Argument, Arguments, ArgumentsAfter, Motive, Proof, Statement, End}
use Rattle.htt_parser_table.specs.declared.symbols.Nonterminal.TheVariants.{ProofsAfter, NamesAfter, Names, MonoParameter, MonoParametersAfter, MonoParameters}
use Rattle.htt_parser_table.specs.declared.symbols.Nonterminal.TheVariants.{Body, Declaration, File}
use Rattle.htt_parser_table.specs.Table.{every_nonterminal}
use Rattle.htt_parser_recogniser.specs.declared.rows.Edge.{Edge}
use Rattle.htt_parser_recogniser.specs.Rounds.{edge_of, Has, HasEach}
use Rattle.htt_parser_recogniser.proofs.Lists.{in_left, in_right, in_map, below_or_same}

-- each is among all
is_among : (n : Nonterminal) → Has every_nonterminal n
is_among Binder = inl refl
is_among MonoName = inr (inl refl)
is_among SumSign = inr (inr (inl refl))
is_among ProductSign = inr (inr (inr (inl refl)))
is_among UnaryWord = inr (inr (inr (inr (inl refl))))
is_among UnaryRule = inr (inr (inr (inr (inr (inl refl)))))
is_among HeapNumber = inr (inr (inr (inr (inr (inr (inl refl))))))
is_among Heap = inr (inr (inr (inr (inr (inr (inr (inl refl)))))))
is_among Factor = inr (inr (inr (inr (inr (inr (inr (inr (inl refl))))))))
is_among Mono = inr (inr (inr (inr (inr (inr (inr (inr (inr (inl refl)))))))))
is_among MonoInBrackets = inr (inr (inr (inr (inr (inr (inr (inr (inr (inr (inl refl))))))))))
is_among MonosAfter = inr (inr (inr (inr (inr (inr (inr (inr (inr (inr (inr (inl refl)))))))))))
is_among Monos = inr (inr (inr (inr (inr (inr (inr (inr (inr (inr (inr (inr (inl refl))))))))))))
is_among TypePhrase = inr (inr (inr (inr (inr (inr (inr (inr (inr (inr (inr (inr (inr (inl refl)))))))))))))
is_among Triple = inr (inr (inr (inr (inr (inr (inr (inr (inr (inr (inr (inr (inr (inr (inl refl))))))))))))))
is_among Atom = inr (inr (inr (inr (inr (inr (inr (inr (inr (inr (inr (inr (inr (inr (inr (inl refl)))))))))))))))
is_among Application = inr (inr (inr (inr (inr (inr (inr (inr (inr (inr (inr (inr (inr (inr (inr (inr (inl refl))))))))))))))))
is_among Product = inr (inr (inr (inr (inr (inr (inr (inr (inr (inr (inr (inr (inr (inr (inr (inr (inr (inl refl)))))))))))))))))
is_among Sum = inr (inr (inr (inr (inr (inr (inr (inr (inr (inr (inr (inr (inr (inr (inr (inr (inr (inr (inl refl))))))))))))))))))
is_among Relation = inr (inr (inr (inr (inr (inr (inr (inr (inr (inr (inr (inr (inr (inr (inr (inr (inr (inr (inr (inl refl)))))))))))))))))))
is_among Term = inr (inr (inr (inr (inr (inr (inr (inr (inr (inr (inr (inr (inr (inr (inr (inr (inr (inr (inr (inr (inl refl))))))))))))))))))))
is_among Parameters = inr (inr (inr (inr (inr (inr (inr (inr (inr (inr (inr (inr (inr (inr (inr (inr (inr (inr (inr (inr (inr (inl refl)))))))))))))))))))))
is_among SumRest = inr (inr (inr (inr (inr (inr (inr (inr (inr (inr (inr (inr (inr (inr (inr (inr (inr (inr (inr (inr (inr (inr (inl refl))))))))))))))))))))))
is_among ProductRest =
    inr (inr (inr
    (inr (inr (inr (inr (inr (inr (inr (inr (inr (inr (inr (inr (inr (inr (inr (inr (inr (inr (inr (inr (inl refl)))))))))))))))))))))))
is_among Parts =
    inr (inr (inr (inr
    (inr (inr (inr (inr (inr (inr (inr (inr (inr (inr (inr (inr (inr (inr (inr (inr (inr (inr (inr (inr (inl refl))))))))))))))))))))))))
is_among Comp =
    inr (inr (inr (inr (inr
    (inr (inr (inr (inr (inr (inr (inr (inr (inr (inr (inr (inr (inr (inr (inr (inr (inr (inr (inr (inr (inl refl)))))))))))))))))))))))))
is_among Step =
    inr (inr (inr (inr (inr (inr
    (inr (inr (inr (inr (inr (inr (inr (inr (inr (inr (inr (inr (inr (inr (inr (inr (inr (inr (inr (inr (inl refl))))))))))))))))))))))))))
is_among FormulaAtom =
    inr (inr (inr (inr (inr (inr
    (inr
    (inr (inr (inr (inr (inr (inr (inr (inr (inr (inr (inr (inr (inr (inr (inr (inr (inr (inr (inr (inr (inl refl)))))))))))))))))))))))))))
is_among Separation =
    inr (inr (inr (inr (inr (inr
    (inr (inr (inr
    (inr (inr (inr (inr (inr (inr (inr (inr (inr (inr (inr (inr (inr (inr (inr (inr (inr (inr (inr (inl refl))))))))))))))))))))))))))))
is_among Conjunction =
    inr (inr (inr (inr (inr (inr
    (inr (inr (inr (inr
    (inr (inr (inr (inr (inr (inr (inr (inr (inr (inr (inr (inr (inr (inr (inr (inr (inr (inr (inr (inl refl)))))))))))))))))))))))))))))
is_among Disjunction =
    inr (inr (inr (inr (inr (inr
    (inr (inr (inr (inr (inr
    (inr (inr (inr (inr (inr (inr (inr (inr (inr (inr (inr (inr (inr (inr (inr (inr (inr (inr (inr (inl refl))))))))))))))))))))))))))))))
is_among Formula =
    inr (inr (inr (inr (inr (inr
    (inr (inr (inr (inr (inr (inr
    (inr (inr (inr (inr (inr (inr (inr (inr (inr (inr (inr (inr (inr (inr (inr (inr (inr (inr (inr (inl refl)))))))))))))))))))))))))))))))
is_among Sort =
    inr (inr (inr (inr (inr (inr
    (inr (inr (inr (inr (inr (inr
    (inr
    (inr (inr (inr (inr (inr (inr (inr (inr (inr (inr (inr (inr (inr (inr (inr (inr (inr (inr (inr (inl refl))))))))))))))))))))))))))))))))
is_among Terms =
    inr (inr (inr (inr (inr (inr
    (inr (inr (inr (inr (inr (inr
    (inr (inr (inr
    (inr (inr (inr (inr (inr (inr (inr (inr (inr (inr (inr (inr (inr (inr (inr (inr (inr (inr (inl refl)))))))))))))))))))))))))))))))))
is_among TermsAfter =
    inr (inr (inr (inr (inr (inr
    (inr (inr (inr (inr (inr (inr
    (inr (inr (inr (inr
    (inr (inr (inr (inr (inr (inr (inr (inr (inr (inr (inr (inr (inr (inr (inr (inr (inr (inr (inl refl))))))))))))))))))))))))))))))))))
is_among Argument =
    inr (inr (inr (inr (inr (inr
    (inr (inr (inr (inr (inr (inr
    (inr (inr (inr (inr (inr
    (inr (inr (inr (inr (inr (inr (inr (inr (inr (inr (inr (inr (inr (inr (inr (inr (inr (inr (inl refl)))))))))))))))))))))))))))))))))))
is_among Arguments =
    inr (inr (inr (inr (inr (inr
    (inr (inr (inr (inr (inr (inr
    (inr (inr (inr (inr (inr (inr
    (inr (inr (inr (inr (inr (inr (inr (inr (inr (inr (inr (inr (inr (inr (inr (inr (inr (inr (inl refl))))))))))))))))))))))))))))))))))))
is_among ArgumentsAfter =
    inr (inr (inr (inr (inr (inr
    (inr (inr (inr (inr (inr (inr
    (inr (inr (inr (inr (inr (inr
    (inr
    (inr (inr (inr (inr (inr (inr (inr (inr (inr (inr (inr (inr (inr (inr (inr (inr (inr (inr (inl refl)))))))))))))))))))))))))))))))))))))
is_among Motive =
    inr (inr (inr (inr (inr (inr
    (inr (inr (inr (inr (inr (inr
    (inr (inr (inr (inr (inr (inr
    (inr (inr (inr
    (inr (inr (inr (inr (inr (inr (inr (inr (inr (inr (inr (inr (inr (inr (inr (inr (inr (inl refl))))))))))))))))))))))))))))))))))))))
is_among End =
    inr (inr (inr (inr (inr (inr
    (inr (inr (inr (inr (inr (inr
    (inr (inr (inr (inr (inr (inr
    (inr (inr (inr (inr
    (inr (inr (inr (inr (inr (inr (inr (inr (inr (inr (inr (inr (inr (inr (inr (inr (inr (inl refl)))))))))))))))))))))))))))))))))))))))
is_among Proof =
    inr (inr (inr (inr (inr (inr
    (inr (inr (inr (inr (inr (inr
    (inr (inr (inr (inr (inr (inr
    (inr (inr (inr (inr (inr
    (inr (inr (inr (inr (inr (inr (inr (inr (inr (inr (inr (inr (inr (inr (inr (inr (inr (inl refl))))))))))))))))))))))))))))))))))))))))
is_among Statement =
    inr (inr (inr (inr (inr (inr
    (inr (inr (inr (inr (inr (inr
    (inr (inr (inr (inr (inr (inr
    (inr (inr (inr (inr (inr (inr
    (inr (inr (inr (inr (inr (inr (inr (inr (inr (inr (inr (inr (inr (inr (inr (inr (inr (inl refl)))))))))))))))))))))))))))))))))))))))))
is_among ProofsAfter =
    inr (inr (inr (inr (inr (inr
    (inr (inr (inr (inr (inr (inr
    (inr (inr (inr (inr (inr (inr
    (inr (inr (inr (inr (inr (inr
    (inr
    (inr (inr (inr (inr (inr (inr (inr (inr (inr (inr (inr (inr (inr (inr (inr (inr (inr (inl refl))))))))))))))))))))))))))))))))))))))))))
is_among NamesAfter =
    inr (inr (inr (inr (inr (inr
    (inr (inr (inr (inr (inr (inr
    (inr (inr (inr (inr (inr (inr
    (inr (inr (inr (inr (inr (inr
    (inr (inr (inr
    (inr (inr (inr (inr (inr (inr (inr (inr (inr (inr (inr (inr (inr (inr (inr (inr (inl refl)))))))))))))))))))))))))))))))))))))))))))
is_among Names =
    inr (inr (inr (inr (inr (inr
    (inr (inr (inr (inr (inr (inr
    (inr (inr (inr (inr (inr (inr
    (inr (inr (inr (inr (inr (inr
    (inr (inr (inr (inr
    (inr (inr (inr (inr (inr (inr (inr (inr (inr (inr (inr (inr (inr (inr (inr (inr (inl refl))))))))))))))))))))))))))))))))))))))))))))
is_among MonoParameter =
    inr (inr (inr (inr (inr (inr
    (inr (inr (inr (inr (inr (inr
    (inr (inr (inr (inr (inr (inr
    (inr (inr (inr (inr (inr (inr
    (inr (inr (inr (inr (inr
    (inr (inr (inr (inr (inr (inr (inr (inr (inr (inr (inr (inr (inr (inr (inr (inr (inl refl)))))))))))))))))))))))))))))))))))))))))))))
is_among MonoParametersAfter =
    inr (inr (inr (inr (inr (inr
    (inr (inr (inr (inr (inr (inr
    (inr (inr (inr (inr (inr (inr
    (inr (inr (inr (inr (inr (inr
    (inr (inr (inr (inr (inr (inr
    (inr (inr (inr (inr (inr (inr (inr (inr (inr (inr (inr (inr (inr (inr (inr (inr (inl refl))))))))))))))))))))))))))))))))))))))))))))))
is_among MonoParameters =
    inr (inr (inr (inr (inr (inr
    (inr (inr (inr (inr (inr (inr
    (inr (inr (inr (inr (inr (inr
    (inr (inr (inr (inr (inr (inr
    (inr (inr (inr (inr (inr (inr
    (inr
    (inr (inr (inr (inr (inr (inr (inr (inr (inr (inr (inr (inr (inr (inr (inr (inr (inl refl)))))))))))))))))))))))))))))))))))))))))))))))
is_among Body =
    inr (inr (inr (inr (inr (inr
    (inr (inr (inr (inr (inr (inr
    (inr (inr (inr (inr (inr (inr
    (inr (inr (inr (inr (inr (inr
    (inr (inr (inr (inr (inr (inr
    (inr (inr (inr
    (inr (inr (inr (inr (inr (inr (inr (inr (inr (inr (inr (inr (inr (inr (inr (inl refl))))))))))))))))))))))))))))))))))))))))))))))))
is_among Declaration =
    inr (inr (inr (inr (inr (inr
    (inr (inr (inr (inr (inr (inr
    (inr (inr (inr (inr (inr (inr
    (inr (inr (inr (inr (inr (inr
    (inr (inr (inr (inr (inr (inr
    (inr (inr (inr (inr
    (inr (inr (inr (inr (inr (inr (inr (inr (inr (inr (inr (inr (inr (inr (inr (inl refl)))))))))))))))))))))))))))))))))))))))))))))))))
is_among File =
    inr (inr (inr (inr (inr (inr
    (inr (inr (inr (inr (inr (inr
    (inr (inr (inr (inr (inr (inr
    (inr (inr (inr (inr (inr (inr
    (inr (inr (inr (inr (inr (inr
    (inr (inr (inr (inr (inr
    (inr (inr (inr (inr (inr (inr (inr (inr (inr (inr (inr (inr (inr (inr (inr (inl refl))))))))))))))))))))))))))))))))))))))))))))))))))

pub record Filled (edges : List Edge) (count width from : ℕ) : Type 0 where
  pub shorter : (n : Nonterminal) (i w : ℕ) → w < width → i + w ≤ count → Has edges (edge_of i (i + w) n)
  pub these : (n : Nonterminal) (i : ℕ) → i < from → Has edges (edge_of i (i + width) n)

pub filled_none : (count : ℕ) → Filled [] count 0 0
filled_none count = record { shorter = λ n i w less fits. absurd (omega (arith, less)); these = λ n i less. absurd (omega (arith, less)) }

pub filled_next : (edges : List Edge) (count width from : ℕ)
    → Filled edges count width from
    → Filled (edges ++ map (edge_of from (from + width)) every_nonterminal) count width (from + 1)
filled_next edges count width from filled =
    let more = map (edge_of from (from + width)) every_nonterminal in
    record {
      shorter = λ n i w less fits. in_left edges more _ (filled.shorter n i w less fits);
      these = λ n i less. elim (below_or_same i from (omega (arith, less))) [
        | inl below ↦ in_left edges more _ (filled.these n i below)
        | inr same ↦
            subst (λ k. Has (edges ++ more) (edge_of k (k + width) n)) (sym same)
            (in_right edges more _ (in_map (edge_of from (from + width)) every_nonterminal n (is_among n)))
      ];
    }

pub filled_width : (edges : List Edge) (count width from : ℕ) → count < width + from → Filled edges count width from → Filled edges count (width + 1) 0
filled_width edges count width from enough filled = record {
  shorter = λ n i w less fits. elim (below_or_same w width (omega (arith, less))) [
    | inl below ↦ filled.shorter n i w below fits
    | inr same ↦ subst (λ k. Has edges (edge_of i (i + k) n)) (sym same) (filled.these n i (omega (arith, same, fits, enough)))
  ];
  these = λ n i less. absurd (omega (arith, less));
}

pub filled_all : (tokens : List Token) (edges : List Edge) (width : ℕ) → length tokens < width → Filled edges (length tokens) width 0 → HasEach tokens edges
filled_all tokens edges width enough filled n i j a b =
    let to : i + (j - i) ≡ j = omega (arith, a) in
    subst (λ k. Has edges (edge_of i k n)) to (filled.shorter n i (j - i) (omega (arith, b, enough)) (omega (arith, a, b)))
