-- What is refused rightly isn't derived within the limits, and at most one place is right.
use Rattle.std.proofs.Common.{◌≡◌, ◌≤◌, List, [], ◌∷◌, ◌++◌, length, refl, sym, ◌∙◌, ap, subst, arith, append_assoc, append-nil}
use Rattle.htt_lexer_tokens.specs.declared.tokens.Token.{Token}
use Rattle.theory_grammar.specs.Marks.{Mark, Limits, AllFit, AllWithin}
use Rattle.theory_grammar.specs.Grammar
use Rattle.theory_grammar.specs.Derivations.{the_limits}
use Rattle.theory_grammar.specs.Readers.{Why, expected, too_nested, too_long, too_many}
use Rattle.theory_refusals.specs.Refusals.{Begins, BeginsWithin, GoesPast, NoneGoesOn, NoneWithin, IsRight, short_file, Full, IsRightInFile}
use Rattle.theory_refusals.specs.Laws.{OnePlace, MonoHasOnePlace, FormulaHasOnePlace, ProofHasOnePlace, FileHasOnePlace, NotDerived, RefusedMonoIsNotDerived}
use Rattle.theory_refusals.specs.Laws.{RefusedFormulaIsNotDerived, RefusedProofIsNotDerived, RefusedFileIsNotDerived}
use Rattle.theory_refusals.proofs.Places.{one_more, fit_whole}

-- ---- one list of tokens, in two parts in two ways

pub record Behind (before rest other : List Token) : Type 0 where
  pub token : Token
  pub more : List Token
  pub parts : other ≡ before ++ (token ∷ more)
  pub next : List Token
  pub first : rest ≡ token ∷ next

data Cut (before rest other others : List Token) : Type 0 where
  same : rest ≡ others → Cut before rest other others
  here : Behind before rest other → Cut before rest other others
  there : Behind other others before → Cut before rest other others

cut : (before rest other others : List Token) → before ++ rest ≡ other ++ others → Cut before rest other others
cut [] rest [] others e = same e
cut [] rest (t ∷ other) others e = here (record { token = t; more = other; parts = refl; next = other ++ others; first = e })
cut (t ∷ before) rest [] others e = there (record { token = t; more = before; parts = refl; next = before ++ rest; first = sym e })
cut (t ∷ before) rest (u ∷ other) others e =
    further t u before rest other others (first_same t u (before ++ rest) (other ++ others) e)
    (cut before rest other others (rest_same t u (before ++ rest) (other ++ others) e))
  where
    first_same : (t u : Token) (ts us : List Token) → t ∷ ts ≡ u ∷ us → t ≡ u
    first_same t u ts us e = cc

    rest_same : (t u : Token) (ts us : List Token) → t ∷ ts ≡ u ∷ us → ts ≡ us
    rest_same t u ts us e = cc

    further : (t u : Token) (before rest other others : List Token) → t ≡ u → Cut before rest other others → Cut (t ∷ before) rest (u ∷ other) others
    further t u before rest other others e (same h) = same h
    further t u before rest other others e (here b) =
        here (record {
          token = b.token;
          more = b.more;
          parts = ap (λ ts. u ∷ ts) b.parts ∙ ap (λ x. x ∷ (before ++ (b.token ∷ b.more))) (sym e);
          next = b.next;
          first = b.first;
        })
    further t u before rest other others e (there b) =
        there (record {
          token = b.token;
          more = b.more;
          parts = ap (λ ts. t ∷ ts) b.parts ∙ ap (λ x. x ∷ (other ++ (b.token ∷ b.more))) e;
          next = b.next;
          first = b.first;
        })

-- ---- what begins with more tokens begins with fewer

pub record Halves (ts us : List Token) (ms : List Mark) : Type 0 where
  pub first : List Mark
  pub second : List Mark
  pub whole : ms ≡ first ++ second
  pub fit : AllFit ts first
  pub fits : AllFit us second

halves : (ts us : List Token) (ms : List Mark) → AllFit (ts ++ us) ms → Halves ts us ms
halves [] us ms h = record { first = []; second = ms; whole = refl; fit = tt; fits = h }
halves (t ∷ ts) us [] h = absurd h
halves (t ∷ ts) us (m ∷ ms) h =
    let r = halves ts us ms h.1 in
    record { first = m ∷ r.first; second = r.second; whole = ap (λ ns. m ∷ ns) r.whole; fit = (h.0, r.fit); fits = r.fits }

within_first : (lim : Limits) (ms ns : List Mark) → AllWithin lim (ms ++ ns) → AllWithin lim ms
within_first lim [] ns h = tt
within_first lim (m ∷ ms) ns h = (h.0, within_first lim ms ns h.1)

fewer : {A : Type 0} (lim : Limits) (marks : A → List Mark) (ts us : List Token) → BeginsWithin lim marks (ts ++ us) → BeginsWithin lim marks ts
fewer lim marks ts us begins =
    let h = halves ts us begins.first begins.fit in
    record {
      tree = begins.tree;
      first = h.first;
      others = h.second ++ begins.others;
      more = us ++ begins.more;
      whole = begins.whole ∙ ap (λ ms. ms ++ begins.others) h.whole ∙ append_assoc h.first h.second begins.others;
      fit = h.fit;
      within = within_first lim h.first h.second (subst (λ ms. AllWithin lim ms) h.whole begins.within);
      goes_on = fit_whole us begins.more h.second begins.others (h.second ++ begins.others) refl h.fits begins.goes_on;
    }

-- ---- one place

pub record Place {A : Type 0} (marks : A → List Mark) (before rest : List Token) : Type 0 where
  pub begins : BeginsWithin the_limits marks before
  pub none : (token : Token) (next : List Token) → rest ≡ token ∷ next → NoneWithin the_limits marks before token
  pub ends : rest ≡ [] → (tree : A) → AllFit before (marks tree) → ⊥

not_behind : {A : Type 0} (marks : A → List Mark) (before rest other others : List Token)
    → Place marks before rest
    → Place marks other others
    → Behind before rest other
    → ⊥
not_behind marks before rest other others one two b =
    one.none b.token b.next b.first
    (fewer the_limits marks (before ++ (b.token ∷ [])) b.more
    (subst (λ ts. BeginsWithin the_limits marks ts) (b.parts ∙ sym (one_more before b.token b.more)) two.begins))

one_place : {A : Type 0} (marks : A → List Mark) (before rest other others : List Token)
    → before ++ rest ≡ other ++ others
    → Place marks before rest
    → Place marks other others
    → rest ≡ others
one_place marks before rest other others e one two = by_cut (cut before rest other others e)
  where
    by_cut : Cut before rest other others → rest ≡ others
    by_cut (same h) = h
    by_cut (here b) = absurd (not_behind marks before rest other others one two b)
    by_cut (there b) = absurd (not_behind marks other others before rest two one b)

begins_any : {A : Type 0} (lim : Limits) (marks : A → List Mark) (ts : List Token) → BeginsWithin lim marks ts → Begins marks ts
begins_any lim marks ts begins = record {
  tree = begins.tree;
  more = begins.more;
  fit = fit_whole ts begins.more begins.first begins.others (marks begins.tree) begins.whole begins.fit begins.goes_on;
}

before_past : {A : Type 0} (lim : Limits) (is_past : Limits → Mark → Type 0) (marks : A → List Mark) (ts : List Token) (t : Token)
    → GoesPast lim is_past marks ts t
    → BeginsWithin lim marks ts
before_past lim is_past marks ts t past = record {
  tree = past.tree;
  first = past.first;
  others = past.mark ∷ past.others;
  more = t ∷ past.more;
  whole = past.whole;
  fit = past.fit;
  within = past.within;
  goes_on = (past.next, past.goes_on);
}

first_token : (t u : Token) (ts us : List Token) → t ∷ ts ≡ u ∷ us → t ≡ u
first_token t u ts us e = cc

same_token : {A : Type 0} (marks : A → List Mark) (before : List Token) (t : Token) (rest : List Token)
    → NoneWithin the_limits marks before t
    → (u : Token) (next : List Token)
    → t ∷ rest ≡ u ∷ next
    → NoneWithin the_limits marks before u
same_token marks before t rest none u next e = subst (λ x. NoneWithin the_limits marks before x) (first_token t u rest next e) none

no_begin : {A : Type 0} (marks : A → List Mark) (before rest : List Token)
    → NoneGoesOn marks before rest
    → (u : Token) (next : List Token)
    → rest ≡ u ∷ next
    → NoneWithin the_limits marks before u
no_begin marks before [] none u next e begins = absurd (let no : [] ≡ u ∷ next = e in cc)
no_begin marks before (t ∷ rest) none u next e begins =
    none (begins_any the_limits marks (before ++ (t ∷ []))
    (subst (λ x. BeginsWithin the_limits marks (before ++ (x ∷ []))) (sym (first_token t u rest next e)) begins))

not_ended : (t : Token) (rest : List Token) → t ∷ rest ≡ [] → ⊥
not_ended t rest e = cc

at_end : {A : Type 0} (marks : A → List Mark) (before rest : List Token)
    → NoneGoesOn marks before rest
    → rest ≡ []
    → (tree : A)
    → AllFit before (marks tree)
    → ⊥
at_end marks before [] none e = none
at_end marks before (t ∷ rest) none e = absurd (not_ended t rest e)

place_of : {A : Type 0} (marks : A → List Mark) (before : List Token) (why : Why) (rest : List Token)
    → IsRight the_limits marks before why rest
    → Place marks before rest
place_of marks before expected rest right = record { begins = right.0; none = no_begin marks before rest right.1; ends = at_end marks before rest right.1 }
place_of marks before too_nested [] right = absurd right
place_of marks before too_nested (t ∷ rest) right = record {
  begins = before_past the_limits _ marks before t right.0;
  none = same_token marks before t rest right.1;
  ends = λ e. absurd (not_ended t rest e);
}
place_of marks before too_long [] right = absurd right
place_of marks before too_long (t ∷ rest) right = record {
  begins = before_past the_limits _ marks before t right.0;
  none = same_token marks before t rest right.1;
  ends = λ e. absurd (not_ended t rest e);
}
place_of marks before too_many rest right = absurd right

-- ---- what is refused rightly isn't derived

whole_begins : {A : Type 0} (marks : A → List Mark) (ts : List Token) (y : A)
    → AllFit ts (marks y)
    → AllWithin the_limits (marks y)
    → BeginsWithin the_limits marks ts
whole_begins marks ts y fit within = record {
  tree = y;
  first = marks y;
  others = [];
  more = [];
  whole = sym (append-nil (marks y));
  fit = fit;
  within = within;
  goes_on = tt;
}

not_there : {A : Type 0} (marks : A → List Mark) (before rest : List Token)
    → Place marks before rest
    → (y : A)
    → AllFit (before ++ rest) (marks y)
    → AllWithin the_limits (marks y)
    → ⊥
not_there marks before [] place y fit within = place.ends refl y (subst (λ ts. AllFit ts (marks y)) (append-nil before) fit)
not_there marks before (t ∷ rest) place y fit within =
    place.none t rest refl (fewer the_limits marks (before ++ (t ∷ [])) rest
    (subst (λ ts. BeginsWithin the_limits marks ts) (sym (one_more before t rest))
    (whole_begins marks (before ++ (t ∷ rest)) y fit within)))

not_derived : {A : Type 0} (marks : A → List Mark) → NotDerived marks
not_derived marks tokens halt y one fit within =
    not_there marks one.before halt.rest (place_of marks one.before halt.why halt.rest one.right) y
    (subst (λ ts. AllFit ts (marks y)) one.parts fit) within

pub mono_is_not_derived : RefusedMonoIsNotDerived
mono_is_not_derived = not_derived (Grammar.mono 1)

pub formula_is_not_derived : RefusedFormulaIsNotDerived
formula_is_not_derived = not_derived (Grammar.formula 1)

pub proof_is_not_derived : RefusedProofIsNotDerived
proof_is_not_derived = not_derived (Grammar.proof 1)

-- ---- so it has one place

one_refusal : {A : Type 0} (marks : A → List Mark) → OnePlace marks
one_refusal marks tokens halt other one two =
    one_place marks one.before halt.rest two.before other.rest (sym one.parts ∙ two.parts)
    (place_of marks one.before halt.why halt.rest one.right) (place_of marks two.before other.why other.rest two.right)

pub mono_has_one_place : MonoHasOnePlace
mono_has_one_place = one_refusal (Grammar.mono 1)

pub formula_has_one_place : FormulaHasOnePlace
formula_has_one_place = one_refusal (Grammar.formula 1)

pub proof_has_one_place : ProofHasOnePlace
proof_has_one_place = one_refusal (Grammar.proof 1)

-- ---- files

any_file : (ts : List Token) → BeginsWithin the_limits short_file ts → BeginsWithin the_limits Grammar.file ts
any_file ts begins = record {
  tree = begins.tree.decls;
  first = begins.first;
  others = begins.others;
  more = begins.more;
  whole = begins.whole;
  fit = begins.fit;
  within = begins.within;
  goes_on = begins.goes_on;
}

full_begins : (before : List Token) (t : Token) → Full before t → BeginsWithin the_limits short_file before
full_begins before t full = record {
  tree = record { decls = full.decls; count = subst (λ n. length full.decls ≤ n) full.count (omega arith) };
  first = Grammar.file full.decls;
  others = [];
  more = [];
  whole = sym (append-nil (Grammar.file full.decls));
  fit = full.fit;
  within = full.within;
  goes_on = tt;
}

file_place : (before : List Token) (why : Why) (rest : List Token) → IsRightInFile before why rest → Place short_file before rest
file_place before expected rest right = record {
  begins = right.0;
  none = λ u next e begins. no_begin Grammar.file before rest right.1 u next e (any_file (before ++ (u ∷ [])) begins);
  ends = λ e f fit. at_end Grammar.file before rest right.1 e f.decls fit;
}
file_place before too_nested [] right = absurd right
file_place before too_nested (t ∷ rest) right = record {
  begins = before_past the_limits _ short_file before t right.0;
  none = λ u next e begins. same_token Grammar.file before t rest right.1 u next e (any_file (before ++ (u ∷ [])) begins);
  ends = λ e. absurd (not_ended t rest e);
}
file_place before too_long [] right = absurd right
file_place before too_long (t ∷ rest) right = record {
  begins = before_past the_limits _ short_file before t right.0;
  none = λ u next e begins. same_token Grammar.file before t rest right.1 u next e (any_file (before ++ (u ∷ [])) begins);
  ends = λ e. absurd (not_ended t rest e);
}
file_place before too_many [] right = absurd right
file_place before too_many (t ∷ rest) right = record {
  begins = full_begins before t right.0;
  none = no_begin short_file before (t ∷ rest) right.1;
  ends = λ e. absurd (not_ended t rest e);
}

pub file_has_one_place : FileHasOnePlace
file_has_one_place tokens halt other one two =
    one_place short_file one.before halt.rest two.before other.rest (sym one.parts ∙ two.parts)
    (file_place one.before halt.why halt.rest one.right) (file_place two.before other.why other.rest two.right)

pub file_is_not_derived : RefusedFileIsNotDerived
file_is_not_derived tokens halt decls one fit within =
    not_there short_file one.before halt.rest (file_place one.before halt.why halt.rest one.right)
    (record { decls = decls; count = within.count }) (subst (λ ts. AllFit ts (Grammar.file decls)) one.parts fit) within.marks
