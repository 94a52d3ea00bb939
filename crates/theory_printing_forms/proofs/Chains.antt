-- Parts of phrases that are read: places, operations, arguments, parameters.
use Rattle.std.proofs.Common.{◌≡◌, ℕ, zero, suc, ◌+◌, List, [], ◌∷◌, ◌++◌, Bool, true, refl, sym, ◌∙◌, ap, subst, arith, append_assoc}
use Rattle.std.specs.Prelude.{Option, Some, None, Result, Ok, Err, ◌==◌}
use Rattle.std.proofs.lemmas.Bool.{eq-eqb}
use Rattle.htt_lexer_tokens.specs.declared.tokens.Keyword.TheVariants.{NullWord, PlaceWord}
use Rattle.htt_lexer_tokens.specs.declared.tokens.Sign.TheVariants.{OpenBracketSign, CloseBracketSign, OpenBraceSign, ColonSign, DotSign}
use Rattle.htt_syntax.specs.declared.mono.Op.{Op}
use Rattle.htt_syntax.specs.declared.mono.Op.TheVariants.{Add, Sub, Mul, And, Or, Xor, Shl, Shr, Lt}
use Rattle.htt_syntax.specs.Trees.{MonoTree, TyTree, TripleTree, TermTree, FixTree, CompTree, StepTree, TermTrees, t_app, t_inst, t_loc, t_bin, t_at, x_body}
use Rattle.htt_parser_trees.specs.declared.place.Span.{Span}
use Rattle.htt_parser_trees.specs.Trees as raw
use Rattle.theory_grammar.specs.Marks as marks
use Rattle.theory_grammar.specs.Marks.{Mark, ◌⨟◌}
use Rattle.theory_grammar.specs.Grammar as grammar
use Rattle.theory_text_names.specs.Stops.{Stop, ◌>>=◌}
use Rattle.theory_text_names.specs.Scopes.{a_term, Scope, under_name}
use Rattle.theory_text.specs.Bytes.{byte_of_atom}
use Rattle.theory_text.specs.Phrases as texts
use Rattle.theory_text.specs.Phrases.{ty_comes, triple_comes, params_come, term_comes, comp_comes, step_comes, atom_comes, parts_come, terms_come, right_count}
use Rattle.theory_text.specs.Monotypes.{mono_comes}
use Rattle.theory_printing.specs.Pieces.{Printed, nothing, one, ◌▹◌, operand, space, in_brackets, between, marks_of, a_sign}
use Rattle.theory_printing.specs.Phrases.{op_sign, right_of, literal_place}
use Rattle.theory_printing_tokens.specs.Spoken.{Spoken, KindToken}
use Rattle.theory_printing_forms.specs.Readings.{MeetsPrinted, Reads, ReadsMono, ReadsAtom, ReadsRel, ReadsHead, count_parts}
use Rattle.theory_printing_forms.specs.Said.{said_ty, said_triple, said_term, said_fix, said_comp, said_step, said_terms}
use Rattle.theory_printing_forms.proofs.Meets.{Goes, go, goes_then, goes, numbered, alone, goes_space, goes_sign, goes_word_at, ends_word_at}
use Rattle.theory_printing_forms.proofs.Meets.{ends_number, ends_sign, goes_between}
use Rattle.theory_printing_forms.proofs.Forms.{bind}

-- ---- what phrases are read as

abbrev pub ReadsComp : (r : Scope) (l : ℕ) (p : Printed) → Spoken r.text p → CompTree → Type 0
ReadsComp r l p v told = Reads (grammar.comp l) (comp_comes r) said_comp r.text l p v told

abbrev pub ReadsStep : (r : Scope) (l : ℕ) (p : Printed) → Spoken r.text p → StepTree → Type 0
ReadsStep r l p v told = Reads (grammar.step l) (step_comes r) said_step r.text l p v told

-- a triple, with its first brace
pub record ReadsSpec (r : Scope) (l : ℕ) (p : Printed) (v : Spoken r.text p) (told : TripleTree) : Type 0 where
  pub at : ℕ
  pub tree : raw.RawTripleTree
  pub meets_at : MeetsPrinted r.text l p v (marks.sign_at l OpenBraceSign at ⨟ grammar.triple l tree)
  pub meets : MeetsPrinted r.text l p v (marks.sign l OpenBraceSign ⨟ grammar.triple l tree)
  pub given : TripleTree
  pub comes : triple_comes r tree ≡ Ok given
  pub same : said_triple given ≡ told

-- behind the parameters of a recursive function: its triple, and the computation under its name
abbrev pub behind_params : Span → raw.RawTripleTree → raw.RawCompTree → Scope → Result FixTree Stop
behind_params name spec body inner = do
  T ← triple_comes inner spec
  E ← comp_comes (under_name inner name a_term) body
  Ok (x_body T E)

pub record ReadsFix (r : Scope) (l : ℕ) (name : Span) (p : Printed) (v : Spoken r.text p) (told : FixTree) : Type 0 where
  pub params : raw.RawParamTrees
  pub spec : raw.RawTripleTree
  pub body : raw.RawCompTree
  pub meets :
      MeetsPrinted r.text l p v
      (grammar.params l params ⨟ marks.sign l ColonSign ⨟ marks.sign l OpenBraceSign ⨟ grammar.triple l spec ⨟ marks.sign l DotSign ⨟
      grammar.comp (suc l) body)
  pub given : FixTree
  pub comes : params_come r params (λ inner. behind_params name spec body inner) ≡ Ok given
  pub same : said_fix given ≡ told

pub record ReadsTerms (spell : ℕ → raw.RawTermTrees →
    List Mark) (r : Scope) (l : ℕ) (p : Printed) (v : Spoken r.text p) (told : TermTrees) (number : ℕ) : Type 0 where
  pub tree : raw.RawTermTrees
  pub meets : MeetsPrinted r.text l p v (spell l tree)
  pub count : texts.count_of tree ≡ number
  pub given : TermTrees
  pub comes : terms_come r tree ≡ Ok given
  pub same : said_terms given ≡ told

-- ---- small facts

plus_zero : (n : ℕ) → n ≡ n + zero
plus_zero n = omega arith

plus_suc : (n m : ℕ) → suc n + m ≡ n + suc m
plus_suc n m = omega arith

pub some_same : {A : Type 0} {x y : A} → Some x ≡ Some y → x ≡ y
some_same {x = x} e = ap (λ o. from o x) e
  where
    from : {A : Type 0} → Option A → A → A
    from (Some y) x = y
    from None x = x

pub right_number : {a b : ℕ} (at : ℕ) → a ≡ b → right_count at (a == b) ≡ Ok tt
right_number {a} {b} at e = ap (right_count at) (eq-eqb a b e)

pub no_terms_meet : {text : List ℕ} {l : ℕ} (v : Spoken text nothing) → MeetsPrinted text l nothing v []
unfolding marks_of
no_terms_meet v = record { meets = tt }

assoc_five : (a b c d e f rest : List Mark) → a ++ (b ++ (c ++ (d ++ (e ++ (f ++ rest))))) ≡ (a ++ (b ++ (c ++ (d ++ (e ++ f))))) ++ rest
assoc_five a b c d e f rest =
    ap (λ x. a ++ (b ++ (c ++ (d ++ x)))) (sym (append_assoc e f rest))
    ∙ ap (λ x. a ++ (b ++ (c ++ x))) (sym (append_assoc d (e ++ f) rest))
    ∙ ap (λ x. a ++ (b ++ x)) (sym (append_assoc c (d ++ (e ++ f)) rest))
    ∙ ap (λ x. a ++ x) (sym (append_assoc b (c ++ (d ++ (e ++ f))) rest))
    ∙ sym (append_assoc a (b ++ (c ++ (d ++ (e ++ f)))) rest)

regrouped_marks : (a b c d e f rest : List Mark)
    → (a ⨟ (b ⨟ (c ⨟ (d ⨟ (e ⨟ (f ⨟ rest)))))) ≡ ((a ⨟ (b ⨟ (c ⨟ (d ⨟ (e ⨟ f))))) ⨟ rest)
unfolding ◌⨟◌
regrouped_marks a b c d e f rest = assoc_five a b c d e f rest

-- what is grouped with what follows, and by itself
pub regrouped : {text : List ℕ} {l : ℕ} {p : Printed} {v : Spoken text p} (a b c d e f rest : List Mark)
    → MeetsPrinted text l p v (a ⨟ (b ⨟ (c ⨟ (d ⨟ (e ⨟ (f ⨟ rest))))))
    → MeetsPrinted text l p v ((a ⨟ (b ⨟ (c ⨟ (d ⨟ (e ⨟ f))))) ⨟ rest)
regrouped {text} {l} {p} {v} a b c d e f rest h = subst (λ gs. MeetsPrinted text l p v gs) (regrouped_marks a b c d e f rest) h

-- ---- places

pub place_read : (r : Scope) (l n : ℕ) (v : Spoken r.text (literal_place n)) → ReadsAtom r l (literal_place n) v (t_loc n)
unfolding literal_place marks_of grammar.term term_comes said_term
place_read r l zero v =
    record { tree = raw.a_null v.token.from; meets = ends_word_at r.text l NullWord v; given = t_at v.token.from (t_loc zero); comes = refl; same = refl }
place_read r l (suc n) v =
    record {
      tree = raw.a_place v.0.token.from (suc n);
      meets = go (goes_word_at r.text l PlaceWord v.0) (go (goes_space r.text l v.1.0) (ends_number r.text l (suc n) v.1.1));
      given = t_at v.0.token.from (t_loc (suc n));
      comes = refl;
      same = refl;
    }

-- ---- operations

abbrev prod_of : raw.RawAtomTree → raw.RawProdTree
prod_of a = raw.x_prod (raw.l_apply a raw.no_parts) raw.x_end

abbrev AtomAt : (r : Scope) (p : Printed) → TermTree → Type 0
AtomAt r p told = (l : ℕ) (v : Spoken r.text p) → ReadsAtom r l p v told

sum_of : (r : Scope) {p q : Printed} {m n : TermTree} (s : raw.SumSign) (l : ℕ)
    → AtomAt r p m
    → AtomAt r q n
    → (v : Spoken r.text (p ▹ between (grammar.sum_sign s) ▹ operand 2 q))
    → ReadsRel r l (p ▹ between (grammar.sum_sign s) ▹ operand 2 q) v (t_bin (texts.sum_op s) m n)
unfolding grammar.term term_comes said_term ◌⨟◌
sum_of r s l left right v =
    let a = left l v.0 in
    let b = right l v.1.1 in
    record {
      tree = raw.r_sum (raw.s_sum (prod_of a.tree) (raw.s_more s (prod_of b.tree) raw.s_end));
      meets = go (goes (alone (alone a.meets))) (go (goes_between r.text l (grammar.sum_sign s) v.1.0) (alone (numbered 2 (alone (alone b.meets)))));
      given = t_at (byte_of_atom a.tree) (t_bin (texts.sum_op s) a.given b.given);
      comes = bind _ (bind _ (bind _ a.comes refl) refl) (bind _ (bind _ (bind _ b.comes refl) refl) refl);
      same = λ i. t_bin (texts.sum_op s) (a.same i) (b.same i);
    }

product_of : (r : Scope) {p q : Printed} {m n : TermTree} (s : raw.ProdSign) (l : ℕ)
    → AtomAt r p m
    → AtomAt r q n
    → (v : Spoken r.text (p ▹ between (grammar.prod_sign s) ▹ operand 2 q))
    → ReadsRel r l (p ▹ between (grammar.prod_sign s) ▹ operand 2 q) v (t_bin (texts.prod_op s) m n)
unfolding grammar.term term_comes said_term ◌⨟◌
product_of r s l left right v =
    let a = left l v.0 in
    let b = right l v.1.1 in
    record {
      tree = raw.r_sum (raw.s_sum (raw.x_prod (raw.l_apply a.tree raw.no_parts) (raw.x_more s (raw.l_apply b.tree raw.no_parts) raw.x_end)) raw.s_end);
      meets = alone (go (goes (alone a.meets)) (go (goes_between r.text l (grammar.prod_sign s) v.1.0) (alone (numbered 2 (alone b.meets)))));
      given = t_at (byte_of_atom a.tree) (t_bin (texts.prod_op s) a.given b.given);
      comes = bind _ (bind _ (bind _ a.comes refl) (bind _ (bind _ b.comes refl) refl)) refl;
      same = λ i. t_bin (texts.prod_op s) (a.same i) (b.same i);
    }

pub operation : (r : Scope) {p q : Printed} {m n : TermTree} (op : Op)
    → AtomAt r p m
    → AtomAt r q n
    → (l : ℕ) (v : Spoken r.text (p ▹ between (op_sign op) ▹ right_of op q))
    → ReadsRel r l (p ▹ between (op_sign op) ▹ right_of op q) v (t_bin op m n)
unfolding grammar.term term_comes said_term ◌⨟◌
operation r Add left right l v = sum_of r raw.plus l left right v
operation r Sub left right l v = sum_of r raw.minus l left right v
operation r Or left right l v = sum_of r raw.bar l left right v
operation r Xor left right l v = sum_of r raw.caret l left right v
operation r Mul left right l v = product_of r raw.times l left right v
operation r And left right l v = product_of r raw.ampersand l left right v
operation r Shl left right l v = product_of r raw.shift_left l left right v
operation r Shr left right l v = product_of r raw.shift_right l left right v
operation r Lt left right l v =
    let a = left l v.0 in
    let b = right l v.1.1 in
    record {
      tree = raw.r_less (raw.s_sum (prod_of a.tree) raw.s_end) (raw.s_sum (prod_of b.tree) raw.s_end);
      meets = go (goes (alone (alone (alone a.meets)))) (go (goes_between r.text l (op_sign Lt) v.1.0) (alone (alone (alone b.meets))));
      given = t_at (byte_of_atom a.tree) (t_bin Lt a.given b.given);
      comes = bind _ (bind _ (bind _ (bind _ a.comes refl) refl) refl) (bind _ (bind _ (bind _ (bind _ b.comes refl) refl) refl) refl);
      same = λ i. t_bin Lt (a.same i) (b.same i);
    }

-- ---- arguments

abbrev onto : raw.RawPartTrees → raw.RawPartTrees → raw.RawPartTrees
onto raw.no_parts last = last
onto (raw.atom_part a parts) last = raw.atom_part a (onto parts last)
onto (raw.mono_part t parts) last = raw.mono_part t (onto parts last)

onto_marks : (l k : ℕ) (parts last : raw.RawPartTrees)
    → grammar.parts l k (onto parts last) ≡ grammar.parts l k parts ⨟ grammar.parts l (k + count_parts parts) last
unfolding grammar.term ◌⨟◌
onto_marks l k raw.no_parts last = ap (λ n. grammar.parts l n last) (plus_zero k)
onto_marks l k (raw.atom_part a parts) last =
    ap (λ ms. marks.numbered k (grammar.atom l a) ++ ms)
    (onto_marks l (suc k) parts last ∙ ap (λ n. grammar.parts l (suc k) parts ++ grammar.parts l n last) (plus_suc k (count_parts parts)))
    ∙ sym (append_assoc (marks.numbered k (grammar.atom l a)) (grammar.parts l (suc k) parts) (grammar.parts l (k + suc (count_parts parts)) last))
onto_marks l k (raw.mono_part t parts) last =
    let inside = marks.numbered k (grammar.mono l t) in
    let closing = marks.sign l CloseBracketSign in
    ap (λ ms. marks.sign l OpenBracketSign ++ (inside ++ (closing ++ ms)))
    (onto_marks l (suc k) parts last ∙ ap (λ n. grammar.parts l (suc k) parts ++ grammar.parts l n last) (plus_suc k (count_parts parts)))
    ∙ ap (λ ms. marks.sign l OpenBracketSign ++ ms)
    (sym (append_assoc inside (closing ++ grammar.parts l (suc k) parts) (grammar.parts l (k + suc (count_parts parts)) last)))

onto_count : (parts last : raw.RawPartTrees) → count_parts (onto parts last) ≡ count_parts parts + count_parts last
onto_count raw.no_parts last = omega arith
onto_count (raw.atom_part a parts) last = let rest = onto_count parts last in omega (arith, rest)
onto_count (raw.mono_part t parts) last = let rest = onto_count parts last in omega (arith, rest)

-- what a part comes to that comes to something
split : {A B : Type 0} (m : Result A Stop) (f : A → Result B Stop) (y : B) → (m >>= f) ≡ Ok y → (x : A) × (m ≡ Ok x) × (f x ≡ Ok y)
unfolding ◌>>=◌
split (Ok x) f y e = (x, refl, e)
split (Err stop) f y e = absurd (cc e)

abbrev comes_to : {A : Type 0} → A → Result A Stop
comes_to x = Ok x

ok_same : {A : Type 0} {x y : A} → comes_to x ≡ comes_to y → x ≡ y
ok_same {x = x} e = ap (λ o. from o x) e
  where
    from : {A : Type 0} → Result A Stop → A → A
    from (Ok y) x = y
    from (Err stop) x = x

onto_comes : (r : Scope) (at : ℕ) (M : TermTree) (parts last : raw.RawPartTrees) (given : TermTree)
    → parts_come r at M parts ≡ Ok given
    → parts_come r at M (onto parts last) ≡ parts_come r at given last
unfolding term_comes
onto_comes r at M raw.no_parts last given e = ap (λ G. parts_come r at G last) (ok_same e)
onto_comes r at M (raw.atom_part a parts) last given e =
    let first = split (atom_comes r a) (λ N. parts_come r at (t_at at (t_app M N)) parts) given e in
    bind _ first.1 (onto_comes r at (t_at at (t_app M first.0)) parts last given first.2)
onto_comes r at M (raw.mono_part t parts) last given e =
    let first = split (mono_comes r t) (λ u. parts_come r at (t_at at (t_inst M u)) parts) given e in
    bind _ first.1 (onto_comes r at (t_at at (t_inst M first.0)) parts last given first.2)

-- the marks of a head with one more part
one_more : {text : List ℕ} {l : ℕ} {p : Printed} {v : Spoken text p} (head parts more whole : List Mark)
    → whole ≡ parts ++ more
    → MeetsPrinted text l p v ((head ⨟ parts) ⨟ more)
    → MeetsPrinted text l p v (head ⨟ whole)
unfolding ◌⨟◌
one_more {text} {l} {p} {v} head parts more whole e h =
    subst (λ gs. MeetsPrinted text l p v gs) (append_assoc head parts more ∙ ap (λ ms. head ++ ms) (sym e)) h

pub applied : {r : Scope} {l : ℕ} {p q : Printed} {v : Spoken r.text p} {w : Spoken r.text q} {m n : TermTree} {arguments : ℕ}
    → ReadsHead r l p v m arguments
    → ReadsAtom r l q w n
    → (gap : Spoken r.text space)
    → ReadsHead r l (p ▹ space ▹ operand (2 + arguments) q) (v, (gap, w)) (t_app m n) (suc arguments)
unfolding grammar.term term_comes said_term ◌⨟◌
applied {r} {l} {p} {q} {v} {w} {m} {n} {arguments} h a gap =
    let last = raw.atom_part a.tree raw.no_parts in
    let at = byte_of_atom h.head in
    let numbers : 2 + count_parts h.parts ≡ 2 + arguments = ap (λ k. 2 + k) h.count in
    let marks_told : grammar.parts l 2 (onto h.parts last) ≡ grammar.parts l 2 h.parts ++ (marks.numbered (2 + arguments) (grammar.atom l a.tree) ++ []) =
    onto_marks l 2 h.parts last ∙ ap (λ k. grammar.parts l 2 h.parts ++ (marks.numbered k (grammar.atom l a.tree) ++ [])) numbers in
    record {
      head = h.head;
      parts = onto h.parts last;
      count = onto_count h.parts last ∙ ap (λ k. k + 1) h.count ∙ omega arith;
      meets =
          one_more (grammar.atom l h.head) (grammar.parts l 2 h.parts) (marks.numbered (2 + arguments) (grammar.atom l a.tree) ++ [])
          (grammar.parts l 2 (onto h.parts last)) marks_told
          (go (goes h.meets) (go (goes_space r.text l gap) (alone (numbered (2 + arguments) a.meets))));
      first = h.first;
      first_comes = h.first_comes;
      given = t_at at (t_app h.given a.given);
      comes = onto_comes r at h.first h.parts last h.given h.comes ∙ bind _ a.comes refl;
      same = λ i. t_app (h.same i) (a.same i);
    }

pub instantiated : {r : Scope} {l : ℕ} {p q : Printed} {v : Spoken r.text p} {w : Spoken r.text q} {m : TermTree} {t : MonoTree} {arguments : ℕ}
    → ReadsHead r l p v m arguments
    → (gap : Spoken r.text space)
    → (opening : Spoken r.text (one (a_sign OpenBracketSign)))
    → ReadsMono r l q w t
    → (closing : Spoken r.text (one (a_sign CloseBracketSign)))
    → ReadsHead r l (p ▹ space ▹ in_brackets (operand (2 + arguments) q)) (v, (gap, (opening, (w, closing)))) (t_inst m t) (suc arguments)
unfolding grammar.term term_comes said_term ◌⨟◌
instantiated {r} {l} {p} {q} {v} {w} {m} {t} {arguments} h gap opening u closing =
    let last = raw.mono_part u.tree raw.no_parts in
    let at = byte_of_atom h.head in
    let numbers : 2 + count_parts h.parts ≡ 2 + arguments = ap (λ k. 2 + k) h.count in
    let more : ℕ → List Mark = λ k. marks.sign l OpenBracketSign ++ (marks.numbered k (grammar.mono l u.tree) ++ (marks.sign l CloseBracketSign ++ [])) in
    let marks_told : grammar.parts l 2 (onto h.parts last) ≡ grammar.parts l 2 h.parts ++ more (2 + arguments) =
    onto_marks l 2 h.parts last ∙ ap (λ k. grammar.parts l 2 h.parts ++ more k) numbers in
    record {
      head = h.head;
      parts = onto h.parts last;
      count = onto_count h.parts last ∙ ap (λ k. k + 1) h.count ∙ omega arith;
      meets = one_more (grammar.atom l h.head) (grammar.parts l 2 h.parts) (more (2 + arguments)) (grammar.parts l 2 (onto h.parts last)) marks_told
          (go (goes h.meets) (go (goes_space r.text l gap)
          (go (goes_sign r.text l OpenBracketSign opening)
          (go (goes (numbered (2 + arguments) u.meets)) (ends_sign r.text l CloseBracketSign closing)))));
      first = h.first;
      first_comes = h.first_comes;
      given = t_at at (t_inst h.given u.given);
      comes = onto_comes r at h.first h.parts last h.given h.comes ∙ bind _ u.comes refl;
      same = λ i. t_inst (h.same i) (u.same i);
    }
