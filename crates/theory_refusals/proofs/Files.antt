-- Each refusal of a file is right.
use Rattle.std.proofs.Common.{◌≡◌, ℕ, zero, suc, ◌+◌, ◌<◌, ◌≤◌, List, [], ◌∷◌, ◌++◌, length, refl, sym, ◌∙◌, ap, subst, arith, lit≤, append_assoc, append-nil}
use Rattle.std.specs.Prelude.{Result, Ok, Err}
use Rattle.htt_lexer_tokens.specs.declared.tokens.Token.{Token}
use Rattle.htt_parser_trees.specs.Trees.{RawDeclTree}
use Rattle.theory_grammar.specs.Marks.{Mark, Limits, FitsMark, AllFit, AllWithin, span_of, ◌⨟◌}
use Rattle.theory_grammar.specs.Grammar
use Rattle.theory_grammar.specs.Derivations.{the_limits}
use Rattle.theory_grammar.specs.Readers.{Halt, Why, expected, too_nested, too_long, too_many, give, then_read, ◌>>=◌, refused, refuse, if_first}
use Rattle.theory_grammar.specs.Beginnings.{begins_decl}
use Rattle.theory_grammar.specs.Phrases.{Deeper}
use Rattle.theory_grammar.specs.Reading.{decl_reader, file_on}
use Rattle.theory_grammar.proofs.Spells.{spelled}
use Rattle.theory_grammar.proofs.Files.{file_gets}
use Rattle.theory_reading.specs.Laws.{outermost}
use Rattle.theory_reading.proofs.Words.{Stands}
use Rattle.theory_reading_places.specs.Alike.{Alike}
use Rattle.theory_reading_places.proofs.Follows.{in_none, in_all, Kept, Answers}
use Rattle.theory_reading_places.proofs.Words.{Follow}
use Rattle.theory_reading_places.proofs.Files.{decl_follows, file_follows}
use Rattle.theory_reading_completions.proofs.Halts.{Past, Stopped, fit_both}
use Rattle.theory_reading_completions.proofs.Starts.{starts_decl}
use Rattle.theory_reading_completions.proofs.Files.{Full, Short, FileStop, FileStopped, decl_ends, file_stops}
use Rattle.theory_reading_limits.proofs.Bars.{SameOk, same_ok}
use Rattle.theory_reading_limits.proofs.Files.{file_bars}
use Rattle.theory_reading_places.proofs.Laws.{kept_same, answers_alike}
use Rattle.theory_reading_limits.specs.Limits.{IsLimit}
use Rattle.theory_reading_limits.proofs.Laws.{parts_of}
use Rattle.theory_refusals.specs.Refusals.{Begins, NoneGoesOn, NoneWithin, ShortFile, short_file, IsRightInFile, FileRefusal}
use Rattle.theory_refusals.specs.Laws.{FileIsRefused}
use Rattle.theory_refusals.proofs.Places.{clash, one_more, wider, widest, knows_widest, all_within, follow_widest, follow_outermost, ending_outermost}
use Rattle.theory_refusals.proofs.Places.{bar_widest, not_past, fit_whole}

stands : Stands the_limits 0
stands = record { level = lit≤ tt; chain = lit≤ tt }

answers_wide : (m k : ℕ) (d : Deeper)
    → Follow in_all outermost d
    → (few : ℕ) (tokens : List Token) (halt : Halt)
    → file_on outermost m tokens ≡ Err halt
    → Answers in_all few (file_on d (m + k)) tokens (Err halt)
answers_wide m k d follow few tokens halt e =
    subst (λ o. Answers in_all few (file_on d (m + k)) tokens o) e
    ((file_follows outermost d follow {i = length tokens} {j = few} m (m + k) (omega arith)).answers tokens (omega arith))

answers_same : (m few : ℕ) (tokens : List Token) (halt : Halt)
    → file_on outermost m tokens ≡ Err halt
    → Answers in_none few (file_on outermost m) tokens (Err halt)
answers_same m few tokens halt e =
    subst (λ o. Answers in_none few (file_on outermost m) tokens o) e
    ((file_follows outermost outermost follow_outermost {i = length tokens} {j = few} m m refl).answers tokens (omega arith))

reads_wide : (m : ℕ) (tokens : List Token) (y : List RawDeclTree)
    → AllFit tokens (Grammar.file y)
    → file_on (widest (Grammar.file y)) (m + length y) tokens ≡ Ok (y, [])
reads_wide m tokens y fit =
    (file_gets (widest (Grammar.file y)) (knows_widest (Grammar.file y)) {n = length tokens} (m + length y) y (omega arith)).reads tokens []
    (omega arith) (spelled (wider (Grammar.file y)) tokens (Grammar.file y) fit (all_within (Grammar.file y))) tt

file_then : (ds es : List RawDeclTree) → Grammar.file (ds ++ es) ≡ Grammar.file ds ++ Grammar.file es
unfolding ◌⨟◌
file_then [] es = refl
file_then (d ∷ ds) es = ap (λ ms. Grammar.decl d ++ ms) (file_then ds es) ∙ sym (append_assoc (Grammar.decl d) (Grammar.file ds) (Grammar.file es))

-- a token that begins a declaration goes on with any declarations
begins_another : (before : List Token) (t : Token) (lim : Limits) (m : ℕ) (ts rest : List Token) (full : Full lim m ts rest)
    → full.token ≡ t
    → AllFit before (Grammar.file full.decls)
    → Begins Grammar.file (before ++ (t ∷ []))
unfolding ◌⨟◌
begins_another before t lim m ts rest full is fit =
    let one = starts_decl full.token.kind (span_of full.token) full.begins in
    let tree = full.decls ++ (one.tree ∷ []) in
    let whole : Grammar.file tree ≡ Grammar.file full.decls ++ (one.mark ∷ one.others) =
    file_then full.decls (one.tree ∷ []) ∙ ap (λ ms. Grammar.file full.decls ++ ms) (append-nil (Grammar.decl one.tree) ∙ one.whole) in
    let fits : FitsMark full.token one.mark = record { kind = one.same; at = one.at; span = one.there } in
    let all : AllFit (before ++ (t ∷ one.tokens)) (Grammar.file full.decls ++ (one.mark ∷ one.others)) =
    fit_both before (t ∷ one.tokens) (Grammar.file full.decls) (one.mark ∷ one.others) fit
    (subst (λ x. FitsMark x one.mark) is fits, one.fit) in
    record {
      tree = tree;
      more = one.tokens;
      fit =
          subst (λ ts. AllFit ts (Grammar.file tree)) (sym (one_more before t one.tokens))
          (subst (λ ms. AllFit (before ++ (t ∷ one.tokens)) ms) (sym whole) all);
    }

-- ---- a file that is refused as too long has more declarations

abbrev Many : ℕ → Result (List RawDeclTree × List Token) Halt → Result (List RawDeclTree × List Token) Halt → Type 0
Many m (Ok read) other = Unit {0}
Many m (Err halt) (Err halted) = Unit {0}
Many m (Err halt) (Ok read) = halt.why ≡ too_many → m < length read.0

not_both : (m : ℕ) (halted : Halt) (o : Result (List RawDeclTree × List Token) Halt) → Many m o (Err halted)
not_both m halted (Ok read) = tt
not_both m halted (Err halt) = tt

longer : (m n : ℕ) → m < n → suc m < suc n
longer m n h = omega (arith, h)

some_there : (n : ℕ) → 0 < suc n
some_there n = omega arith

one_at_least : (x : RawDeclTree) (halt : Halt) (o : Result (List RawDeclTree × List Token) Halt) → Many 0 (Err halt) (then_read o (λ xs. give (x ∷ xs)))
unfolding give
one_at_least x halt (Ok read) = λ is. some_there (length read.0)
one_at_least x halt (Err halted) = tt

behind_one : (m : ℕ) (x : RawDeclTree) (o p : Result (List RawDeclTree × List Token) Halt)
    → Many m o p
    → Many (suc m) (then_read o (λ xs. give (x ∷ xs))) (then_read p (λ xs. give (x ∷ xs)))
unfolding give
behind_one m x (Ok read) p h = tt
behind_one m x (Err halt) (Err halted) h = tt
behind_one m x (Err halt) (Ok read) h = λ is. longer m (length read.0) (h is)

module _ (d : Deeper) (follow : Follow in_all outermost d) where
  first_decl : (j : ℕ) (halt : Halt) (o : Result (RawDeclTree × List Token) Halt) → Many 0 (Err halt) (then_read o (λ x. file_on d j >>= (λ xs. give (x ∷ xs))))
  unfolding ◌>>=◌
  first_decl j halt (Ok read) = one_at_least read.0 halt (file_on d j read.1)
  first_decl j halt (Err halted) = tt

  -- a declaration isn't refused as one too many
  no_decl_many : (m : ℕ) (ts : List Token) (halt : Halt) (p : Result (List RawDeclTree × List Token) Halt)
      → Stopped the_limits Grammar.decl ts (Err halt)
      → Many m (Err halt) p
  no_decl_many m ts halt (Ok read) stop = λ is. absurd (subst (λ w. Past the_limits w halt.rest stop.tokens stop.others) is stop.past)
  no_decl_many m ts halt (Err halted) stop = tt

  by_decl : (m j : ℕ) (ts : List Token) (o p : Result (RawDeclTree × List Token) Halt)
      → SameOk o p
      → Stopped the_limits Grammar.decl ts o
      → ((mid : List Token) → Many m (file_on outermost m mid) (file_on d j mid))
      → Many (suc m) (then_read o (λ x. file_on outermost m >>= (λ xs. give (x ∷ xs))))
      (then_read p (λ x. file_on d j >>= (λ xs. give (x ∷ xs))))
  unfolding ◌>>=◌
  by_decl m j ts (Ok read) p same stop rest =
      subst (λ a.
      Many (suc m) (then_read (file_on outermost m read.1) (λ xs. give (read.0 ∷ xs)))
      (then_read a (λ x. file_on d j >>= (λ xs. give (x ∷ xs))))) (sym same)
      (behind_one m read.0 (file_on outermost m read.1) (file_on d j read.1) (rest read.1))
  by_decl m j ts (Err halt) p same stop rest = no_decl_many (suc m) ts halt (then_read p (λ x. file_on d j >>= (λ xs. give (x ∷ xs)))) stop

  many : (m j : ℕ) (ts : List Token) → Many m (file_on outermost m ts) (file_on d j ts)
  unfolding file_on if_first refuse give ◌>>=◌
  many zero j [] = tt
  many zero zero (t ∷ ts) = tt
  many zero (suc j) (t ∷ ts) = first_decl j (record { why = refused too_many begins_decl (t ∷ ts); rest = t ∷ ts }) (decl_reader d (t ∷ ts))
  many (suc m) j [] = tt
  many (suc m) zero (t ∷ ts) = not_both (suc m) (record { why = refused too_many begins_decl (t ∷ ts); rest = t ∷ ts }) (file_on outermost (suc m) (t ∷ ts))
  many (suc m) (suc j) (t ∷ ts) =
      by_decl m j (t ∷ ts) (decl_reader outermost (t ∷ ts)) (decl_reader d (t ∷ ts)) (same_ok (λ n k. decl_follows outermost d follow) (t ∷ ts))
      ((decl_ends outermost stands ending_outermost).halts.halted (t ∷ ts) (t ∷ ts) (λ ns end s. s) (λ a b. refl)) (λ mid. many m j mid)

many_there : (m j : ℕ) (d : Deeper)
    → Follow in_all outermost d
    → (ts : List Token) (y : List RawDeclTree) (halt : Halt)
    → file_on outermost m ts ≡ Err halt
    → file_on d j ts ≡ Ok (y, [])
    → halt.why ≡ too_many
    → m < length y
many_there m j d follow ts y halt e read = subst (λ o. Many m o (Ok (y, []))) e (subst (λ o. Many m (file_on outermost m ts) o) read (many d follow m j ts))

too_few : (m n ten : ℕ) → m ≡ ten → n ≤ ten → m < n → ⊥
too_few m n ten is few more = omega (arith, is, few, more)

abbrev short : {m : ℕ} → m ≡ 10_000 → (tree : List RawDeclTree) → length tree ≤ m → ShortFile
short ten tree few = record { decls = tree; count = subst (λ n. length tree ≤ n) ten few }

module _ (m : ℕ) (tokens : List Token) (halt : Halt) (e : file_on outermost m tokens ≡ Err halt) (before : List Token)
    (parts : tokens ≡ before ++ halt.rest) where
  none_alike : halt.why ≡ expected → (other : List Token) → Alike halt.rest other → (y : List RawDeclTree) → AllFit (before ++ other) (Grammar.file y) → ⊥
  none_alike is other alike y fit =
      clash (answers_wide m (length y) (widest (Grammar.file y)) (follow_widest (Grammar.file y)) (length (before ++ other)) tokens halt e)
      before other parts alike (omega arith) (subst (λ w. Kept in_all w) (sym is) tt) y (reads_wide m (before ++ other) y fit)

  none_goes_on : halt.why ≡ expected → (rest : List Token) → halt.rest ≡ rest → NoneGoesOn Grammar.file before rest
  none_goes_on is [] at_end = λ y fit.
      none_alike is [] (subst (λ ts. Alike ts []) (sym at_end) tt) y
      (subst (λ ts. AllFit ts (Grammar.file y)) (sym (append-nil before)) fit)
  none_goes_on is (t ∷ rest) there = λ begins.
      none_alike is (t ∷ begins.more) (subst (λ ts. Alike ts (t ∷ begins.more)) (sym there) refl) begins.tree
      (subst (λ ts. AllFit ts (Grammar.file begins.tree)) (one_more before t begins.more) begins.fit)

  none_here : IsLimit halt.why → (t : Token) (rest : List Token) → halt.rest ≡ t ∷ rest → NoneWithin the_limits Grammar.file before t
  none_here limit t rest there begins =
      let y = begins.tree in
      let us = before ++ (t ∷ begins.more) in
      let fit : AllFit us (Grammar.file y) =
      subst (λ ts. AllFit ts (Grammar.file y)) (one_more before t begins.more)
      (fit_whole (before ++ (t ∷ [])) begins.more begins.first begins.others (Grammar.file y) begins.whole begins.fit begins.goes_on) in
      not_past (file_bars outermost (widest (Grammar.file y)) stands (bar_widest (Grammar.file y)) m (m + length y) (omega arith)) before t
      begins.more halt.why limit
      (answers_alike (answers_same m (length us) tokens halt e) before (t ∷ begins.more) parts
      (subst (λ ts. Alike ts (t ∷ begins.more)) (sym there) refl) (omega arith) (kept_same halt.why))
      y (reads_wide m us y fit) begins.first begins.others begins.whole begins.fit begins.within

  no_short_file : m ≡ 10_000 → halt.why ≡ too_many → (t : Token) (rest : List Token) → halt.rest ≡ t ∷ rest → NoneGoesOn short_file before (t ∷ rest)
  no_short_file ten is t rest there begins =
      let y = begins.tree.decls in
      let us = before ++ (t ∷ begins.more) in
      let fit : AllFit us (Grammar.file y) = subst (λ ts. AllFit ts (Grammar.file y)) (one_more before t begins.more) begins.fit in
      too_few m (length y) 10_000 ten begins.tree.count
      (many_there m (m + length y) (widest (Grammar.file y)) (follow_widest (Grammar.file y)) us y (record { why = halt.why; rest = t ∷ begins.more })
      (answers_alike (answers_same m (length us) tokens halt e) before (t ∷ begins.more) parts
      (subst (λ ts. Alike ts (t ∷ begins.more)) (sym there) refl) (omega arith) (kept_same halt.why))
      (reads_wide m us y fit) is)

  is_right : m ≡ 10_000
      → (why : Why) (rest more : List Token) (others : List Mark) (tree : List RawDeclTree) (first : List Mark)
      → length tree ≤ m
      → Grammar.file tree ≡ first ++ others
      → AllFit before first
      → AllWithin the_limits first
      → AllFit more others
      → halt.why ≡ why
      → halt.rest ≡ rest
      → Past the_limits why rest more others
      → IsRightInFile before why rest
  is_right ten expected rest more others tree first few whole fit within goes_on is there past = (
    record {
      tree = short ten tree few;
      first = first;
      others = others;
      more = more;
      whole = whole;
      fit = fit;
      within = within;
      goes_on = goes_on;
    },
    none_goes_on is rest there,
  )
  is_right ten too_nested (t ∷ rest) (u ∷ more) (n ∷ others) tree first few whole fit within goes_on is there past = (
    record {
      tree = short ten tree few;
      first = first;
      mark = n;
      others = others;
      more = more;
      whole = whole;
      fit = fit;
      within = within;
      next = subst (λ x. FitsMark x n) past.0 goes_on.0;
      past = past.1;
      goes_on = goes_on.1;
    },
    none_here (subst IsLimit (sym is) tt) t rest there,
  )
  is_right ten too_long (t ∷ rest) (u ∷ more) (n ∷ others) tree first few whole fit within goes_on is there past = (
    record {
      tree = short ten tree few;
      first = first;
      mark = n;
      others = others;
      more = more;
      whole = whole;
      fit = fit;
      within = within;
      next = subst (λ x. FitsMark x n) past.0 goes_on.0;
      past = past.1;
      goes_on = goes_on.1;
    },
    none_here (subst IsLimit (sym is) tt) t rest there,
  )
  is_right ten _ rest more others tree first few whole fit within goes_on is there past = absurd past

  is_full : m ≡ 10_000
      → halt.why ≡ too_many
      → (full : Full the_limits m tokens halt.rest)
      → AllFit before (Grammar.file full.decls)
      → AllWithin the_limits (Grammar.file full.decls)
      → IsRightInFile before too_many halt.rest
  is_full ten is full fit within =
      subst (λ ts. IsRightInFile before too_many ts) (sym full.next) (
        record {
          decls = full.decls;
          count = full.count ∙ ten;
          fit = fit;
          within = within;
          goes_on = begins_another before full.token the_limits m tokens halt.rest full refl fit;
        },
        no_short_file ten is full.token full.others full.next,
      )

of_short : (m : ℕ) (tokens : List Token) (halt : Halt)
    → file_on outermost m tokens ≡ Err halt
    → m ≡ 10_000
    → Short the_limits m tokens halt
    → FileRefusal tokens halt
of_short m tokens halt e ten one =
    let stop = one.stop in
    let p = parts_of the_limits stop.first tokens halt.rest stop.spelled in
    record {
      before = p.before;
      parts = p.parts;
      right =
          is_right m tokens halt e p.before p.parts ten halt.why halt.rest stop.tokens stop.others stop.tree stop.first one.few stop.whole
          p.fit p.within stop.fit refl refl stop.past;
    }

by_why : (m : ℕ) (tokens : List Token) (halt : Halt)
    → file_on outermost m tokens ≡ Err halt
    → m ≡ 10_000
    → (why : Why)
    → halt.why ≡ why
    → FileStop the_limits m tokens halt why
    → FileRefusal tokens halt
by_why m tokens halt e ten too_many is stop =
    let p = parts_of the_limits (Grammar.file stop.decls) tokens halt.rest stop.spelled in
    record {
      before = p.before;
      parts = p.parts;
      right = subst (λ w. IsRightInFile p.before w halt.rest) (sym is) (is_full m tokens halt e p.before p.parts ten is stop p.fit p.within);
    }
by_why m tokens halt e ten expected is stop = of_short m tokens halt e ten stop
by_why m tokens halt e ten too_nested is stop = of_short m tokens halt e ten stop
by_why m tokens halt e ten too_long is stop = of_short m tokens halt e ten stop

refused_at : (m : ℕ) → m ≡ 10_000 → (tokens : List Token) (halt : Halt) → file_on outermost m tokens ≡ Err halt → FileRefusal tokens halt
refused_at m ten tokens halt e =
    let stop = subst (λ o. FileStopped the_limits m tokens o) e (file_stops outermost stands ending_outermost m tokens) in
    by_why m tokens halt e ten halt.why refl stop

pub file_is_refused : FileIsRefused
file_is_refused tokens halt e = refused_at 10_000 refl tokens halt e
