-- The longest sign at the front of a text.
use Rattle.std.proofs.Common.{◌≡◌, ℕ, ◌<◌, List, [], ◌∷◌, ◌++◌, length, take, refl, sym, arith}
use Rattle.std.specs.Prelude.{Option, Some, None}
use Rattle.std.specs.Option.{option_map, option_or, unwrap_or}
use Rattle.htt_lexer_tokens.specs.declared.tokens.Sign.{Sign}
use Rattle.htt_lexer_tokens.specs.declared.tokens.Kind.TheVariants as kinds
use Rattle.htt_lexer.specs.declared.pieces.Piece.{Piece}
use Rattle.htt_lexer.specs.declared.pieces.Piece.TheVariants.{Token, NoToken}
use Rattle.htt_lexer.proofs.Rows.{by_option}

-- a table that has spellings of one to three bytes
pub record IsShort (look : List ℕ → Option Sign) : Type 0 where
  pub empty : look [] ≡ None
  pub long : (spelling : List ℕ) → 3 < length spelling → look spelling ≡ None

-- no longer spelling is at the front of what follows
abbrev pub NoLonger : (List ℕ → Option Sign) → List ℕ → List ℕ → Type 0
NoLonger look spelling rest = (b : ℕ) (more after : List ℕ) → rest ≡ b ∷ more ++ after → look (spelling ++ b ∷ more) ≡ None

abbrev pub within : (List ℕ → Option Sign) → ℕ → List ℕ → Option Piece
within look most text = option_map (λ s. Token (kinds.Sign s) (length (take most text))) (look (take most text))

abbrev pub front : (List ℕ → Option Sign) → List ℕ → Piece
front look text = unwrap_or (option_or (within look 3 text) (option_or (within look 2 text) (within look 1 text))) NoToken

-- ---- the longest spelling is the one that is found

pub front-longest : (look : List ℕ → Option Sign) (spelling rest : List ℕ) (s : Sign) → IsShort look → look spelling ≡ Some s → NoLonger look spelling rest →
    front look (spelling ++ rest) ≡ Token (kinds.Sign s) (length spelling)
front-longest look [] rest s short is longest = let none = short.empty in cc
front-longest look (x ∷ []) [] s short is longest = rw is refl
front-longest look (x ∷ []) (y ∷ []) s short is longest = rw (longest y [] [] refl, is) refl
front-longest look (x ∷ []) (y ∷ z ∷ more) s short is longest = rw (longest y (z ∷ []) more refl, longest y [] (z ∷ more) refl, is) refl
front-longest look (x ∷ y ∷ []) [] s short is longest = rw is refl
front-longest look (x ∷ y ∷ []) (z ∷ more) s short is longest = rw (longest z [] more refl, is) refl
front-longest look (x ∷ y ∷ z ∷ []) rest s short is longest = rw is refl
front-longest look (x ∷ y ∷ z ∷ w ∷ more) rest s short is longest = let none = short.long (x ∷ y ∷ z ∷ w ∷ more) (omega arith) in cc

-- ---- what is found is the longest spelling

pub record HasSign (look : List ℕ → Option Sign) (text : List ℕ) (s : Sign) (n : ℕ) : Type 0 where
  pub spelling : List ℕ
  pub rest : List ℕ
  pub whole : text ≡ spelling ++ rest
  pub size : n ≡ length spelling
  pub is : look spelling ≡ Some s
  pub longest : NoLonger look spelling rest

abbrev pub Finds : (List ℕ → Option Sign) → List ℕ → Piece → Type 0
Finds look text (Token (kinds.Sign s) n) = HasSign look text s n
Finds look text _ = Unit {0}

none_after : (look : List ℕ → Option Sign) (spelling : List ℕ) → NoLonger look spelling []
none_after look spelling b more after e = cc

long_after : (look : List ℕ → Option Sign) (x y z : ℕ) (rest : List ℕ) → IsShort look → NoLonger look (x ∷ y ∷ z ∷ []) rest
long_after look x y z rest short b more after e = short.long (x ∷ y ∷ z ∷ b ∷ more) (omega arith)

one_after : (look : List ℕ → Option Sign) (x y z : ℕ) (rest : List ℕ) → IsShort look → look (x ∷ y ∷ z ∷ []) ≡ None → NoLonger look (x ∷ y ∷ []) (z ∷ rest)
one_after look x y z rest short none b [] after e = let same : z ≡ b = cc in rw (sym same) none
one_after look x y z rest short none b (c ∷ more) after e = short.long (x ∷ y ∷ b ∷ c ∷ more) (omega arith)

two_after : (look : List ℕ → Option Sign) (x y : ℕ) (rest : List ℕ) → IsShort look → look (x ∷ y ∷ []) ≡ None →
    ((z : ℕ) (more : List ℕ) → rest ≡ z ∷ more → look (x ∷ y ∷ z ∷ []) ≡ None) → NoLonger look (x ∷ []) (y ∷ rest)
two_after look x y rest short none next b [] after e = let same : y ≡ b = cc in rw (sym same) none
two_after look x y [] short none next b (c ∷ []) after e = cc
two_after look x y (z ∷ rest) short none next b (c ∷ []) after e =
    let first : y ≡ b = cc in
    let second : z ≡ c = cc in
    rw (sym first, sym second) (next z rest refl)
two_after look x y rest short none next b (c ∷ d ∷ more) after e = short.long (x ∷ b ∷ c ∷ d ∷ more) (omega arith)

pub finds : (look : List ℕ → Option Sign) (text : List ℕ) → IsShort look → Finds look text (front look text)
finds look [] short =
    let P : Option Sign → Type 0 = λ o. Finds look [] (unwrap_or (option_map (λ s. Token (kinds.Sign s) 0) o) NoToken) in
    rw short.empty tt
finds look (x ∷ []) short =
    by_option (λ o.
    Finds look (x ∷ []) (unwrap_or
    (option_or (option_map (λ s. Token (kinds.Sign s) (length (x ∷ []))) o)
    (option_or (option_map (λ s. Token (kinds.Sign s) (length (x ∷ []))) o) (option_map (λ s. Token (kinds.Sign s) (length (x ∷ []))) o)))
    NoToken))
    (look (x ∷ [])) (λ _. tt)
    (λ s is. record { spelling = x ∷ []; rest = []; whole = refl; size = refl; is = is; longest = none_after look (x ∷ []) })
finds look (x ∷ y ∷ []) short =
    by_option (λ o.
    Finds look (x ∷ y ∷ []) (unwrap_or
    (option_or (option_map (λ s. Token (kinds.Sign s) (length (x ∷ y ∷ []))) o)
    (option_or (option_map (λ s. Token (kinds.Sign s) (length (x ∷ y ∷ []))) o) (within look 1 (x ∷ y ∷ [])))) NoToken))
    (look (x ∷ y ∷ []))
    (λ none. by_option (λ o. Finds look (x ∷ y ∷ []) (unwrap_or (option_map (λ s. Token (kinds.Sign s) (length (x ∷ []))) o) NoToken))
    (look (x ∷ [])) (λ _. tt)
    (λ s is. record { spelling = x ∷ []; rest = y ∷ []; whole = refl; size = refl; is = is; longest = two_after look x y [] short none (λ z more e. cc) }))
    (λ s is. record { spelling = x ∷ y ∷ []; rest = []; whole = refl; size = refl; is = is; longest = none_after look (x ∷ y ∷ []) })
finds look (x ∷ y ∷ z ∷ text) short =
    by_option (λ o.
    Finds look (x ∷ y ∷ z ∷ text)
    (unwrap_or (option_or (option_map (λ s. Token (kinds.Sign s) (length (x ∷ y ∷ z ∷ []))) o)
    (option_or (within look 2 (x ∷ y ∷ z ∷ text)) (within look 1 (x ∷ y ∷ z ∷ text)))) NoToken))
    (look (x ∷ y ∷ z ∷ []))
    (λ three.
    by_option (λ o.
    Finds look (x ∷ y ∷ z ∷ text)
    (unwrap_or (option_or (option_map (λ s. Token (kinds.Sign s) (length (x ∷ y ∷ []))) o) (within look 1 (x ∷ y ∷ z ∷ text))) NoToken))
    (look (x ∷ y ∷ []))
    (λ two. by_option (λ o. Finds look (x ∷ y ∷ z ∷ text) (unwrap_or (option_map (λ s. Token (kinds.Sign s) (length (x ∷ []))) o) NoToken))
    (look (x ∷ [])) (λ _. tt)
    (λ s is. record {
      spelling = x ∷ [];
      rest = y ∷ z ∷ text;
      whole = refl;
      size = refl;
      is = is;
      longest = two_after look x y (z ∷ text) short two (λ v more e. let same : z ≡ v = cc in rw (sym same) three);
    }))
    (λ s is. record { spelling = x ∷ y ∷ []; rest = z ∷ text; whole = refl; size = refl; is = is; longest = one_after look x y z text short three }))
    (λ s is. record { spelling = x ∷ y ∷ z ∷ []; rest = text; whole = refl; size = refl; is = is; longest = long_after look x y z text short })

-- nothing else is found
abbrev pub OnlySigns : Piece → Type 0
OnlySigns (Token (kinds.Sign s) n) = Unit {0}
OnlySigns NoToken = Unit {0}
OnlySigns _ = ⊥

pub only_signs : (look : List ℕ → Option Sign) (text : List ℕ) → OnlySigns (front look text)
only_signs look text =
    by_option (λ o.
    OnlySigns (unwrap_or
    (option_or (option_map (λ s. Token (kinds.Sign s) (length (take 3 text))) o) (option_or (within look 2 text) (within look 1 text)))
    NoToken))
    (look (take 3 text))
    (λ _. by_option (λ o. OnlySigns (unwrap_or (option_or (option_map (λ s. Token (kinds.Sign s) (length (take 2 text))) o) (within look 1 text)) NoToken))
    (look (take 2 text))
    (λ _. by_option (λ o. OnlySigns (unwrap_or (option_map (λ s. Token (kinds.Sign s) (length (take 1 text))) o) NoToken))
    (look (take 1 text)) (λ _. tt) (λ _ _. tt))
    (λ _ _. tt))
    (λ _ _. tt)
