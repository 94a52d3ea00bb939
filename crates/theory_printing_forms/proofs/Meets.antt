-- Tokens that were printed, side by side with the marks of what was printed and those of a tree of the grammar.
use Rattle.std.proofs.Common.{◌≡◌, ℕ, suc, List, [], ◌∷◌, ◌++◌, refl, sym, ◌∙◌, ap, subst, append_assoc}
use Rattle.std.specs.Prelude.{Some, None}
use Rattle.std.proofs.lemmas.List.{append-nil}
use Rattle.htt_lexer_tokens.specs.declared.tokens.Keyword.{Keyword}
use Rattle.htt_lexer_tokens.specs.declared.tokens.Sign.{Sign}
use Rattle.htt_lexer_tokens.specs.declared.tokens.Sign.TheVariants.{CommaSign, SemicolonSign}
use Rattle.htt_lexer_tokens.specs.declared.tokens.Kind.TheVariants as kinds
use Rattle.htt_lexer_tokens.specs.declared.tokens.Token.{Token}
use Rattle.theory_grammar.specs.Marks as marks
use Rattle.theory_grammar.specs.Marks.{Mark, FitsMark, AllFit, Limits, AllWithin, ◌⨟◌, span_of}
use Rattle.theory_printing.specs.Pieces.{Printed, one, ◌▹◌, deeper, operand, marks_of, a_word, a_sign, a_number, a_name, space, between, comma, semicolon}
use Rattle.theory_printing_tokens.specs.Spoken.{Spoken, tokens_of, KindToken, NameToken}
use Rattle.theory_printing_forms.specs.Readings.{MeetsMark, Meets, MeetsPrinted}

pub meets_then : (ts us : List Token) (ms ns gs hs : List Mark) → Meets ts ms gs → Meets us ns hs → Meets (ts ++ us) (ms ++ ns) (gs ⨟ hs)
unfolding ◌⨟◌
meets_then [] us [] ns [] hs h k = k
meets_then (t ∷ ts) us (m ∷ ms) ns (g ∷ gs) hs h k = (h.0, meets_then ts us ms ns gs hs h.1 k)
meets_then [] us (m ∷ ms) ns gs hs h k = absurd h
meets_then [] us [] ns (g ∷ gs) hs h k = absurd h
meets_then (t ∷ ts) us [] ns gs hs h k = absurd h
meets_then (t ∷ ts) us (m ∷ ms) ns [] hs h k = absurd h

pub meets_numbered : (n : ℕ) (ts : List Token) (ms gs : List Mark) → Meets ts ms gs → Meets ts (marks.numbered n ms) (marks.numbered n gs)
meets_numbered n [] [] [] h = h
meets_numbered n (t ∷ ts) (m ∷ ms) (g ∷ gs) h =
    (record { fits = record { kind = h.0.fits.kind; at = h.0.fits.at; span = h.0.fits.span }; level = h.0.level; operand = refl }, h.1)
meets_numbered n [] (m ∷ ms) gs h = absurd h
meets_numbered n [] [] (g ∷ gs) h = absurd h
meets_numbered n (t ∷ ts) [] gs h = absurd h
meets_numbered n (t ∷ ts) (m ∷ ms) [] h = absurd h

pub fits_of : (ts : List Token) (ms gs : List Mark) → Meets ts ms gs → AllFit ts gs
fits_of [] [] [] h = tt
fits_of (t ∷ ts) (m ∷ ms) (g ∷ gs) h = (h.0.fits, fits_of ts ms gs h.1)
fits_of [] (m ∷ ms) gs h = absurd h
fits_of [] [] (g ∷ gs) h = absurd h
fits_of (t ∷ ts) [] gs h = absurd h
fits_of (t ∷ ts) (m ∷ ms) [] h = absurd h

-- nothing more behind the marks of the grammar
pub meets_nil : (ts : List Token) (ms gs : List Mark) → Meets ts ms gs → Meets ts ms (gs ⨟ [])
unfolding ◌⨟◌
meets_nil ts ms gs h = subst (λ hs. Meets ts ms hs) (sym (append-nil gs)) h

-- ---- printed pieces

-- the same with what follows: its marks come to those of both
pub record Goes (text : List ℕ) (l : ℕ) (p : Printed) (v : Spoken text p) (onto : List Mark → List Mark) : Type 0 where
  pub on : (us : List Token) (ns hs : List Mark) → Meets us ns hs → Meets (tokens_of text p v ++ us) (marks_of l p ++ ns) (onto hs)

pub go : {text : List ℕ} {l : ℕ} {p q : Printed} {v : Spoken text p} {w : Spoken text q} {onto : List Mark → List Mark} {hs : List Mark}
    → Goes text l p v onto
    → MeetsPrinted text l q w hs
    → MeetsPrinted text l (p ▹ q) (v, w) (onto hs)
unfolding marks_of
go {text} {l} {p} {q} {v} {w} {onto} {hs} h k = record { meets = h.on (tokens_of text q w) (marks_of l q) hs k.meets }

pub goes_then : {text : List ℕ} {l : ℕ} {p q : Printed} {v : Spoken text p} {w : Spoken text q} {onto further : List Mark → List Mark}
    → Goes text l p v onto
    → Goes text l q w further
    → Goes text l (p ▹ q) (v, w) (λ hs. onto (further hs))
unfolding marks_of
goes_then {text} {l} {p} {q} {v} {w} {onto} {further} h k =
    record {
      on = λ us ns hs m.
          subst (λ ts. Meets ts ((marks_of l p ++ marks_of l q) ++ ns) (onto (further hs))) (sym (append_assoc (tokens_of text p v) (tokens_of text q w) us))
          (subst (λ ms. Meets (tokens_of text p v ++ (tokens_of text q w ++ us)) ms (onto (further hs))) (sym (append_assoc (marks_of l p) (marks_of l q) ns))
          (h.on (tokens_of text q w ++ us) (marks_of l q ++ ns) (further hs) (k.on us ns hs m)));
    }

-- a phrase with what follows it
pub goes : {text : List ℕ} {l : ℕ} {p : Printed} {v : Spoken text p} {gs : List Mark} → MeetsPrinted text l p v gs → Goes text l p v (λ hs. gs ⨟ hs)
goes {text} {l} {p} {v} {gs} h = record { on = λ us ns hs m. meets_then (tokens_of text p v) us (marks_of l p) ns gs hs h.meets m }

pub deep : {text : List ℕ} {l : ℕ} {p : Printed} {v : Spoken text p} {gs : List Mark} → MeetsPrinted text (suc l) p v gs → MeetsPrinted text l (deeper p) v gs
unfolding marks_of
deep h = record { meets = h.meets }

pub numbered : {text : List ℕ} {l : ℕ} {p : Printed} {v : Spoken text p} {gs : List Mark} (n : ℕ)
    → MeetsPrinted text l p v gs
    → MeetsPrinted text l (operand n p) v (marks.numbered n gs)
unfolding marks_of
numbered {text} {l} {p} {v} {gs} n h = record { meets = meets_numbered n (tokens_of text p v) (marks_of l p) gs h.meets }

-- no further operand behind it
pub alone : {text : List ℕ} {l : ℕ} {p : Printed} {v : Spoken text p} {gs : List Mark} → MeetsPrinted text l p v gs → MeetsPrinted text l p v (gs ⨟ [])
alone {text} {l} {p} {v} {gs} h = record { meets = meets_nil (tokens_of text p v) (marks_of l p) gs h.meets }

-- ---- single tokens: with the byte in the tree, or without it

pub goes_space : (text : List ℕ) (l : ℕ) (v : Spoken text space) → Goes text l space v (λ hs. hs)
unfolding marks_of
goes_space text l v = record { on = λ us ns hs m. m }

pub goes_sign : (text : List ℕ) (l : ℕ) (s : Sign) (v : Spoken text (one (a_sign s))) → Goes text l (one (a_sign s)) v (λ hs. marks.sign l s ⨟ hs)
unfolding marks_of ◌⨟◌
goes_sign text l s v = record { on = λ us ns hs m. (record { fits = record { kind = v.is; at = tt; span = tt }; level = refl; operand = refl }, m) }

pub ends_sign : (text : List ℕ) (l : ℕ) (s : Sign) (v : Spoken text (one (a_sign s))) → MeetsPrinted text l (one (a_sign s)) v (marks.sign l s)
unfolding marks_of
ends_sign text l s v = record { meets = (record { fits = record { kind = v.is; at = tt; span = tt }; level = refl; operand = refl }, tt) }

pub goes_sign_at : (text : List ℕ) (l : ℕ) (s : Sign) (v : Spoken text (one (a_sign s)))
    → Goes text l (one (a_sign s)) v (λ hs. marks.sign_at l s v.token.from ⨟ hs)
unfolding marks_of ◌⨟◌
goes_sign_at text l s v = record { on = λ us ns hs m. (record { fits = record { kind = v.is; at = refl; span = tt }; level = refl; operand = refl }, m) }

pub ends_sign_at : (text : List ℕ) (l : ℕ) (s : Sign) (v : Spoken text (one (a_sign s)))
    → MeetsPrinted text l (one (a_sign s)) v (marks.sign_at l s v.token.from)
unfolding marks_of
ends_sign_at text l s v = record { meets = (record { fits = record { kind = v.is; at = refl; span = tt }; level = refl; operand = refl }, tt) }

pub goes_word : (text : List ℕ) (l : ℕ) (w : Keyword) (v : Spoken text (one (a_word w))) → Goes text l (one (a_word w)) v (λ hs. marks.word l w ⨟ hs)
unfolding marks_of ◌⨟◌
goes_word text l w v = record { on = λ us ns hs m. (record { fits = record { kind = v.is; at = tt; span = tt }; level = refl; operand = refl }, m) }

pub ends_word : (text : List ℕ) (l : ℕ) (w : Keyword) (v : Spoken text (one (a_word w))) → MeetsPrinted text l (one (a_word w)) v (marks.word l w)
unfolding marks_of
ends_word text l w v = record { meets = (record { fits = record { kind = v.is; at = tt; span = tt }; level = refl; operand = refl }, tt) }

pub goes_word_at : (text : List ℕ) (l : ℕ) (w : Keyword) (v : Spoken text (one (a_word w)))
    → Goes text l (one (a_word w)) v (λ hs. marks.word_at l w v.token.from ⨟ hs)
unfolding marks_of ◌⨟◌
goes_word_at text l w v = record { on = λ us ns hs m. (record { fits = record { kind = v.is; at = refl; span = tt }; level = refl; operand = refl }, m) }

pub ends_word_at : (text : List ℕ) (l : ℕ) (w : Keyword) (v : Spoken text (one (a_word w)))
    → MeetsPrinted text l (one (a_word w)) v (marks.word_at l w v.token.from)
unfolding marks_of
ends_word_at text l w v = record { meets = (record { fits = record { kind = v.is; at = refl; span = tt }; level = refl; operand = refl }, tt) }

pub goes_number : (text : List ℕ) (l : ℕ) (n : ℕ) (v : Spoken text (one (a_number n))) → Goes text l (one (a_number n)) v (λ hs. marks.number l n ⨟ hs)
unfolding marks_of ◌⨟◌
goes_number text l n v = record { on = λ us ns hs m. (record { fits = record { kind = v.is; at = tt; span = tt }; level = refl; operand = refl }, m) }

pub ends_number : (text : List ℕ) (l : ℕ) (n : ℕ) (v : Spoken text (one (a_number n))) → MeetsPrinted text l (one (a_number n)) v (marks.number l n)
unfolding marks_of
ends_number text l n v = record { meets = (record { fits = record { kind = v.is; at = tt; span = tt }; level = refl; operand = refl }, tt) }

pub goes_number_at : (text : List ℕ) (l : ℕ) (n : ℕ) (v : Spoken text (one (a_number n)))
    → Goes text l (one (a_number n)) v (λ hs. marks.number_at l n v.token.from ⨟ hs)
unfolding marks_of ◌⨟◌
goes_number_at text l n v = record { on = λ us ns hs m. (record { fits = record { kind = v.is; at = refl; span = tt }; level = refl; operand = refl }, m) }

pub ends_number_at : (text : List ℕ) (l : ℕ) (n : ℕ) (v : Spoken text (one (a_number n)))
    → MeetsPrinted text l (one (a_number n)) v (marks.number_at l n v.token.from)
unfolding marks_of
ends_number_at text l n v = record { meets = (record { fits = record { kind = v.is; at = refl; span = tt }; level = refl; operand = refl }, tt) }

pub goes_name : (text : List ℕ) (l : ℕ) (name : List ℕ) (v : Spoken text (one (a_name name)))
    → Goes text l (one (a_name name)) v (λ hs. marks.name l (span_of v.token) ⨟ hs)
unfolding marks_of ◌⨟◌
goes_name text l name v = record { on = λ us ns hs m. (record { fits = record { kind = v.is; at = tt; span = refl }; level = refl; operand = refl }, m) }

pub ends_name : (text : List ℕ) (l : ℕ) (name : List ℕ) (v : Spoken text (one (a_name name)))
    → MeetsPrinted text l (one (a_name name)) v (marks.name l (span_of v.token))
unfolding marks_of
ends_name text l name v = record { meets = (record { fits = record { kind = v.is; at = tt; span = refl }; level = refl; operand = refl }, tt) }

-- ---- signs with spaces

pub goes_between : (text : List ℕ) (l : ℕ) (s : Sign) (v : Spoken text (between s)) → Goes text l (between s) v (λ hs. marks.sign l s ⨟ hs)
goes_between text l s v = goes_then (goes_space text l v.0) (goes_then (goes_sign text l s v.1.0) (goes_space text l v.1.1))

pub goes_comma : (text : List ℕ) (l : ℕ) (v : Spoken text comma) → Goes text l comma v (λ hs. marks.sign l CommaSign ⨟ hs)
goes_comma text l v = goes_then (goes_sign text l CommaSign v.0) (goes_space text l v.1)

-- a semicolon at the end of a statement
pub ends_semicolon : (text : List ℕ) (l : ℕ) (v : Spoken text semicolon) → MeetsPrinted text l semicolon v (marks.sign l SemicolonSign)
unfolding marks_of
ends_semicolon text l v = record { meets = (record { fits = record { kind = v.0.is; at = tt; span = tt }; level = refl; operand = refl }, tt) }
