-- The readers at every level, and those of declarations and files, stop behind what begins some tree.
use Rattle.std.proofs.Common.{◌≡◌, ℕ, zero, suc, ◌+◌, ◌≤◌, List, [], ◌∷◌, ◌++◌, refl, sym, ap, arith, ◌<◌, length, ◌∙◌, subst, append_assoc, append-nil}
use Rattle.htt_lexer_tokens.specs.declared.tokens.Kind.{Kind}
use Rattle.htt_lexer_tokens.specs.declared.tokens.Kind.TheVariants.{Keyword, Sign, Name}
use Rattle.htt_lexer_tokens.specs.declared.tokens.Keyword.TheVariants.{TypeWord, PredWord, DefWord, ValWord, ProofWord, AutoWord, InductWord}
use Rattle.htt_lexer_tokens.specs.declared.tokens.Sign.TheVariants.{OpenParenSign, CloseParenSign, OpenBracketSign, CloseBracketSign, OpenBraceSign}
use Rattle.htt_lexer_tokens.specs.declared.tokens.Sign.TheVariants.{CloseBraceSign, CommaSign, ColonSign, DotSign, EqualSign}
use Rattle.htt_parser_trees.specs.declared.place.Span.{Span}
use Rattle.htt_parser_trees.specs.Trees.{RawTyTree, RawTermTree, mono_param, body_proof, RawDeclTree, decl_type, decl_pred, decl_def, decl_val, decl_proof}
use Rattle.theory_grammar.specs.Marks.{Mark, Limits, ◌⨟◌, sign, word, name, separated, each_after}
use Rattle.theory_grammar.specs.Grammar
use Rattle.theory_grammar.specs.Readers.{measured, give, ◌>>=◌, if_first, after_commas, Halt, Why, expected, too_nested, too_long, too_many, then_read, refuse}
use Rattle.theory_grammar.specs.Phrases.{Deeper, a_name_there, is_close}
use Rattle.theory_grammar.specs.Reading.{deeper, mono_parameter_reader, mono_parameters_reader, pred_on, induct_on, pred_case, body_case, body_reader, typed_on}
use Rattle.theory_grammar.specs.Reading.{decl_case, decl_reader, file_on}
use Rattle.theory_reading.proofs.Words.{Stands, Trusts}
use Rattle.theory_reading.proofs.Tells.{list_in_brackets, join}
use Rattle.theory_reading_completions.proofs.Halts.{Halts, Ends, Case, halts_then, halts_last, halts_give, halts_either, halts_choice, halts_first, halts_deep}
use Rattle.theory_reading_completions.proofs.Halts.{Completion, Stopped, Past, halts_reround}
use Rattle.theory_reading_completions.proofs.Words.{Ending, at_word, a_word, a_sign', skip, binder_ends, name_ends, number_ends, more_end, mono_ends}
use Rattle.std.specs.Prelude.{Bool, true, false, Result, Ok, Err, cond}
use Rattle.htt_lexer_tokens.specs.declared.tokens.Token.{Token}
use Rattle.theory_grammar.specs.Beginnings.{begins_mono, begins_ty, begins_term, begins_comp, begins_fatom, begins_formula, begins_proof, begins_decl}
use Rattle.theory_grammar.proofs.Spells.{Spells}
use Rattle.theory_reading.proofs.Files.{trusts}
use Rattle.theory_reading.proofs.Files as files
use Rattle.theory_reading_completions.proofs.Starts.{the_span, starts_mono, starts_ty, starts_term, starts_comp, starts_formula, starts_disj, starts_conj}
use Rattle.theory_reading_completions.proofs.Starts.{starts_star, starts_proof}
use Rattle.theory_reading_completions.proofs.Terms.{ty_ends, term_ends, comp_ends}
use Rattle.theory_reading_completions.proofs.Formulas.{formula_ends, disj_ends, conj_ends, star_ends}
use Rattle.theory_reading_completions.proofs.Proofs.{proof_ends}

pub ending : (lim : Limits) (further n l : ℕ) → suc further ≡ lim.chain → n + l ≡ suc lim.nesting → Ending lim (deeper further n) l
unfolding deeper
ending lim further zero l chain room =
    let trust : Trusts lim (deeper further zero) l = trusts lim further zero l (omega (arith, chain)) (omega (arith, room)) in
    let past : lim.nesting < l = omega (arith, room) in
    record {
      trust = trust;
      further = chain;
      ty = record { tells = trust.ty; halts = halts_deep begins_ty l Name the_span refl past (starts_ty l) };
      term = record { tells = trust.term; halts = halts_deep begins_term l Name the_span refl past (starts_term l) };
      comp = record { tells = trust.comp; halts = halts_deep begins_comp l Name the_span refl past (starts_comp l) };
      formula = record { tells = trust.formula; halts = halts_deep begins_formula l Name the_span refl past (starts_formula l) };
      disj = record { tells = trust.disj; halts = halts_deep begins_fatom l Name the_span refl past (starts_disj l) };
      conj = record { tells = trust.conj; halts = halts_deep begins_fatom l Name the_span refl past (starts_conj l) };
      star = record { tells = trust.star; halts = halts_deep begins_fatom l Name the_span refl past (starts_star l) };
      mono = record { tells = trust.mono; halts = halts_deep begins_mono l Name the_span refl past (starts_mono l) };
      proof = record { tells = trust.proof; halts = halts_deep begins_proof l Name the_span refl past (starts_proof l) };
    }
ending lim further (suc n) l chain room =
    let next : Ending lim (deeper further n) (suc l) = ending lim further n (suc l) chain (grind (arith, room)) in
    let here : Stands lim l = record { level = omega (arith, room); chain = omega (arith, chain) } in
    let d = deeper further n in
    record {
      trust = trusts lim further (suc n) l (omega (arith, chain)) (omega (arith, room));
      further = next.further;
      ty = ty_ends d l here next;
      term = term_ends d l here next;
      comp = comp_ends d l here next;
      formula = formula_ends d l here next;
      disj = disj_ends d l here next;
      conj = conj_ends d l here next;
      star = star_ends d l here next;
      mono = mono_ends d l here next;
      proof = proof_ends d l here next;
    }

-- ---- declarations

module _ {lim : Limits} (d : Deeper) (here : Stands lim 0) (trust : Ending lim d 1) where
  pub mono_parameter_ends : Ends lim (mono_parameter_reader d) Grammar.mono_parameter
  unfolding mono_parameter_reader ◌⨟◌
  mono_parameter_ends = record {
    tells = files.mono_parameter_tells d here trust.trust;
    halts = halts_then _ (name_ends 0 here) (λ x. skip 0 here ColonSign _ (halts_last (mono_param x) trust.mono (λ m. refl)));
  }

  pub some_parameters_end :
      Ends lim (if_first is_close (give [])
      (mono_parameter_reader d >>= (λ p. measured (after_commas (Sign CommaSign) (mono_parameter_reader d)) >>= (λ ps. give (p ∷ ps)))))
      (separated (sign 0 CommaSign) Grammar.mono_parameter)
  some_parameters_end = record {
    tells = files.some_parameters_tell d here trust.trust;
    halts =
        halts_first _ (halts_give _ refl)
        (halts_then _ mono_parameter_ends (λ p.
        halts_last (λ ps. p ∷ ps) (more_end 0 here (mono_parameter_reader d) Grammar.mono_parameter mono_parameter_ends) (λ ps. refl)));
  }

  pub mono_parameters_end : Ends lim (mono_parameters_reader d) Grammar.mono_parameters
  unfolding mono_parameters_reader ◌⨟◌
  mono_parameters_end = record {
    tells = files.mono_parameters_tell d here trust.trust;
    halts = skip 0 here OpenParenSign _ (halts_then _ some_parameters_end (λ ps. skip 0 here CloseParenSign _ (halts_give ps refl)));
  }

  pred_halts : (x : Span) (xs : List Span) → Halts lim (λ ns. word 0 PredWord ⨟ (name 0 x ⨟ (Grammar.names xs ⨟ ns))) (pred_on d x xs) Grammar.decl
  unfolding pred_on ◌⨟◌
  pred_halts x xs = halts_then _ mono_parameters_end (λ ps. skip 0 here EqualSign _ (halts_last (decl_pred x xs ps) trust.formula (λ f. refl)))

  induct_halts : (x : Span) → Halts lim (λ ns. word 0 PredWord ⨟ (name 0 x ⨟ (word 0 InductWord ⨟ ns))) (induct_on d x) Grammar.decl
  unfolding induct_on ◌⨟◌
  induct_halts x =
      halts_then _ (binder_ends 0 here) (λ b.
      halts_then _ mono_parameters_end (λ ps.
      skip 0 here EqualSign _ (skip 0 here OpenBraceSign _
      (halts_then _ trust.formula (λ f.
      skip 0 here CloseBraceSign _
      (skip 0 here OpenBraceSign _ (halts_then _ trust.formula (λ g. skip 0 here CloseBraceSign _ (halts_give _ refl)))))))))

  pred_case_halts : (x : Span) (k : Kind) (s : Span) → Case lim (λ ns. word 0 PredWord ⨟ (name 0 x ⨟ ns)) Grammar.decl k s (pred_case d x k)
  unfolding ◌⨟◌
  pred_case_halts x (Keyword InductWord) s = a_word 0 here InductWord s _ (induct_halts x)
  pred_case_halts x (Sign OpenBracketSign) s =
      a_sign' 0 here OpenBracketSign s _
      (halts_then _ (name_ends 0 here) (λ a.
      halts_then _ (more_end 0 here a_name_there (name 0) (name_ends 0 here)) (λ xs.
      skip 0 here CloseBracketSign _
      (halts_reround _ _ (λ ns.
      ap (λ ms. word 0 PredWord ++ (name 0 x ++ (sign 0 OpenBracketSign ++ ms)))
      (sym (list_in_brackets (name 0 a) (each_after (sign 0 CommaSign) (name 0) xs) (sign 0 CloseBracketSign) ns)))
      (pred_halts x (a ∷ xs))))))
  pred_case_halts x _ s = tt

  body_halts : (k : Kind) (s : Span) → Case lim (λ ns. ns) Grammar.body k s (body_case k)
  unfolding ◌⨟◌
  body_halts (Keyword AutoWord) s = at_word 0 here AutoWord s _ (halts_give _ refl)
  body_halts _ s = tt

  pub body_ends : Ends lim (body_reader d) Grammar.body
  unfolding body_reader
  body_ends = record { tells = files.body_tells d here trust.trust; halts = halts_either _ body_halts (halts_last body_proof trust.proof (λ p. refl)) }

  typed_halts : (round : List Mark → List Mark) (make : Span → RawTyTree → RawTermTree → RawDeclTree)
      → ((x : Span) (a : RawTyTree) (m : RawTermTree) →
      round (name 0 x ⨟ (sign 0 ColonSign ⨟ (Grammar.ty 1 a ⨟ (sign 0 EqualSign ⨟ Grammar.term 1 m)))) ≡ Grammar.decl (make x a m))
      → Halts lim round (typed_on d make) Grammar.decl
  unfolding typed_on
  typed_halts round make same =
      halts_then _ (name_ends 0 here) (λ x.
      skip 0 here ColonSign _ (halts_then _ trust.ty (λ a. skip 0 here EqualSign _ (halts_last (make x a) trust.term (λ m. same x a m)))))

  decl_halts : (k : Kind) (s : Span) → Case lim (λ ns. ns) Grammar.decl k s (decl_case d k)
  unfolding ◌⨟◌
  decl_halts (Keyword TypeWord) s =
      a_word 0 here TypeWord s _
      (halts_then _ (name_ends 0 here) (λ x. skip 0 here EqualSign _ (halts_last (decl_type x) trust.mono (λ m. refl))))
  decl_halts (Keyword PredWord) s = a_word 0 here PredWord s _ (halts_then _ (name_ends 0 here) (λ x. halts_either _ (pred_case_halts x) (pred_halts x [])))
  decl_halts (Keyword DefWord) s = a_word 0 here DefWord s _ (typed_halts (λ ns. word 0 DefWord ⨟ ns) decl_def (λ x a m. refl))
  decl_halts (Keyword ValWord) s = a_word 0 here ValWord s _ (typed_halts (λ ns. word 0 ValWord ⨟ ns) decl_val (λ x a m. refl))
  decl_halts (Keyword ProofWord) s =
      at_word 0 here ProofWord s _
      (halts_then _ (name_ends 0 here) (λ x.
      skip 0 here DotSign _
      (halts_then _ (number_ends 0 here) (λ v. skip 0 here EqualSign _ (halts_last (decl_proof s.from x v) body_ends (λ b. refl))))))
  decl_halts _ s = tt

  pub decl_ends : Ends lim (decl_reader d) Grammar.decl
  unfolding decl_reader
  decl_ends = record { tells = files.decl_tells d here trust.trust; halts = halts_choice _ (decl_halts (Keyword TypeWord) the_span) decl_halts }

-- ---- files

-- so many whole declarations, and a token that begins another
pub record Full (lim : Limits) (m : ℕ) (ts rest : List Token) : Type 0 where
  pub decls : List RawDeclTree
  pub count : length decls ≡ m
  pub spelled : Spells lim (Grammar.file decls) ts rest
  pub token : Token
  pub others : List Token
  pub next : rest ≡ token ∷ others
  pub begins : begins_decl token.kind ≡ true

-- a file of at most so many declarations that begins with what was read
pub record Short (lim : Limits) (m : ℕ) (ts : List Token) (halt : Halt) : Type 0 where
  pub stop : Completion lim Grammar.file ts halt
  pub few : length stop.tree ≤ m

abbrev pub FileStop : Limits → ℕ → List Token → Halt → Why → Type 0
FileStop lim m ts halt too_many = Full lim m ts halt.rest
FileStop lim m ts halt _ = Short lim m ts halt

abbrev pub FileStopped : Limits → ℕ → List Token → Result (List RawDeclTree × List Token) Halt → Type 0
FileStopped lim m ts (Ok read) = Unit {0}
FileStopped lim m ts (Err halt) = FileStop lim m ts halt halt.why

one_few : (m : ℕ) → 1 ≤ suc m
one_few m = omega arith

more_few : (n m : ℕ) → n ≤ m → suc n ≤ suc m
more_few n m h = omega (arith, h)

no_decl_here : (lim : Limits) (t : Token) (us : List Token) (b : Bool)
    → begins_decl t.kind ≡ b
    → FileStop lim 0 (t ∷ us) (record { why = cond b too_many expected; rest = t ∷ us }) (cond b too_many expected)
no_decl_here lim t us true e = record { decls = []; count = refl; spelled = refl; token = t; others = us; next = refl; begins = e }
no_decl_here lim t us false e = record {
  stop = record { tree = []; first = []; others = []; tokens = []; whole = refl; spelled = refl; fit = tt; past = tt };
  few = omega arith;
}

of_first : (lim : Limits) (m : ℕ) (ts : List Token) (halt : Halt) → Completion lim Grammar.decl ts halt → Short lim (suc m) ts halt
unfolding ◌⨟◌
of_first lim m ts halt c = record {
  stop = record {
    tree = c.tree ∷ [];
    first = c.first;
    others = c.others;
    tokens = c.tokens;
    whole = append-nil (Grammar.decl c.tree) ∙ c.whole;
    spelled = c.spelled;
    fit = c.fit;
    past = c.past;
  };
  few = one_few m;
}

first_stop : (lim : Limits) (m : ℕ) (ts : List Token) (halt : Halt) (why : Why)
    → halt.why ≡ why
    → Completion lim Grammar.decl ts halt
    → FileStop lim (suc m) ts halt why
first_stop lim m ts halt too_many e c = absurd (subst (λ w. Past lim w halt.rest c.tokens c.others) e c.past)
first_stop lim m ts halt expected e c = of_first lim m ts halt c
first_stop lim m ts halt too_nested e c = of_first lim m ts halt c
first_stop lim m ts halt too_long e c = of_first lim m ts halt c

behind_one : (lim : Limits) (m : ℕ) (x : RawDeclTree) (ts mid : List Token) (halt : Halt)
    → Spells lim (Grammar.decl x) ts mid
    → Short lim m mid halt
    → Short lim (suc m) ts halt
unfolding ◌⨟◌
behind_one lim m x ts mid halt s short =
    let c = short.stop in
    record {
      stop = record {
        tree = x ∷ c.tree;
        first = Grammar.decl x ++ c.first;
        others = c.others;
        tokens = c.tokens;
        whole = ap (λ ns. Grammar.decl x ++ ns) c.whole ∙ sym (append_assoc (Grammar.decl x) c.first c.others);
        spelled = join lim (Grammar.decl x) c.first ts mid halt.rest s c.spelled;
        fit = c.fit;
        past = c.past;
      };
      few = more_few (length c.tree) m short.few;
    }

later_stop : (lim : Limits) (m : ℕ) (x : RawDeclTree) (ts mid : List Token) (halt : Halt) (why : Why)
    → Spells lim (Grammar.decl x) ts mid
    → FileStop lim m mid halt why
    → FileStop lim (suc m) ts halt why
later_stop lim m x ts mid halt too_many s c = record {
  decls = x ∷ c.decls;
  count = ap (λ n. suc n) c.count;
  spelled = join lim (Grammar.decl x) (Grammar.file c.decls) ts mid halt.rest s c.spelled;
  token = c.token;
  others = c.others;
  next = c.next;
  begins = c.begins;
}
later_stop lim m x ts mid halt expected s c = behind_one lim m x ts mid halt s c
later_stop lim m x ts mid halt too_nested s c = behind_one lim m x ts mid halt s c
later_stop lim m x ts mid halt too_long s c = behind_one lim m x ts mid halt s c

module _ {lim : Limits} (d : Deeper) (here : Stands lim 0) (trust : Ending lim d 1) where
  pub file_stops : (m : ℕ) (ts : List Token) → FileStopped lim m ts (file_on d m ts)
  unfolding file_on if_first refuse give ◌>>=◌
  file_stops zero [] = tt
  file_stops zero (t ∷ us) = no_decl_here lim t us (begins_decl t.kind) refl
  file_stops (suc m) [] = tt
  file_stops (suc m) (t ∷ us) =
      by_first m (t ∷ us) (decl_reader d (t ∷ us)) refl
      ((decl_ends d here trust).halts.halted (t ∷ us) (t ∷ us) (λ ns end s. s) (λ a b. refl)) (λ mid. file_stops m mid)
    where
      by_rest : (m : ℕ) (x : RawDeclTree) (ts mid : List Token) (o : Result (List RawDeclTree × List Token) Halt)
          → Spells lim (Grammar.decl x) ts mid
          → FileStopped lim m mid o
          → FileStopped lim (suc m) ts (then_read o (λ xs. give (x ∷ xs)))
      by_rest m x ts mid (Ok read) s stopped = tt
      by_rest m x ts mid (Err halt) s stopped = later_stop lim m x ts mid halt halt.why s stopped

      by_first : (m : ℕ) (ts : List Token) (o : Result (RawDeclTree × List Token) Halt)
          → decl_reader d ts ≡ o
          → Stopped lim Grammar.decl ts o
          → ((mid : List Token) → FileStopped lim m mid (file_on d m mid))
          → FileStopped lim (suc m) ts (then_read o (λ x. file_on d m >>= (λ xs. give (x ∷ xs))))
      by_first m ts (Ok read) e stopped rest =
          by_rest m read.0 ts read.1 (file_on d m read.1) ((decl_ends d here trust).tells.tells ts read.0 read.1 e) (rest read.1)
      by_first m ts (Err halt) e stopped rest = first_stop lim m ts halt halt.why refl stopped
