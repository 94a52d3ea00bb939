-- A text has one list of tokens or one refusal, these have one list of declarations or one refusal,
-- and these say one thing.
use Rattle.std.proofs.Common.{ℕ, ◌≡◌, ◌≢◌, ◌⊎◌, List, length, Result, Ok, Err, refl, sym, ◌∙◌, ap, subst, ⊎_elim, inl, inr}
use Rattle.htt_syntax_words.specs.declared.words.SyntaxKind.{SyntaxKind}
use Rattle.htt_syntax_words.specs.declared.words.SyntaxKind.TheVariants as kinds
use Rattle.htt_syntax_words.specs.declared.words.Which.TheVariants.{File, CodeFile, HeapFile, Declarations, Nesting, Chain, Nodes, Depth, Context, Mono}
use Rattle.htt_lexer_tokens.specs.declared.tokens.Token.{Token}
use Rattle.htt_lexer.specs.declared.lexer.LexStop.{LexStop}
use Rattle.htt_lexer.specs.declared.lexer.LexStop.TheVariants as lex
use Rattle.htt_lexer.specs.Tokens.{AreTokens}
use Rattle.htt_lexer.specs.Refusals.{RefusesText}
use Rattle.htt_lexer.specs.Laws.{IsCause}
use Rattle.htt_lexer.proofs.TokenLaws as token
use Rattle.htt_parser_trees.specs.Trees.{RawDeclTree}
use Rattle.theory_grammar.specs.Derivations.{IsFile, IsFileWithin}
use Rattle.theory_grammar.specs.Readers.{Halt}
use Rattle.theory_grammar.proofs.One.{one_file}
use Rattle.theory_reading.specs.Laws.{read_file}
use Rattle.theory_refusals.specs.Refusals.{FileRefusal}
use Rattle.theory_refusals.proofs.One.{file_is_not_derived}
use Rattle.htt_parser.specs.declared.stops.ParseStop.{ParseStop}
use Rattle.htt_parser.specs.declared.stops.ParseStop.TheVariants as stops
use Rattle.htt_parser.specs.Refusals.{stop_at}
use Rattle.htt_top_one_form.specs.declared.form.Form.{Form}
use Rattle.htt_top_one_form.specs.Form.{IsForm}
use Rattle.htt_top_one_form.proofs.Meaning.{one_form}
use Rattle.htt_top_answers.specs.declared.answer.Refusal.{Refusal}
use Rattle.htt_top_answers.specs.declared.answer.Refusal.TheVariants.{Usage, ReadFault, Limit, Syntax, NotInferred, BadCode, BadHeap, Fault, Stopped, NoMemory}
use Rattle.htt_top_answers.specs.Answers.{Answer, value, halt}
use Rattle.htt_top.specs.Stages.{TokensGive, ParseGives, FormGives, DeclsGive, form_result}
use Rattle.htt_top.specs.Answers.{IsSyntax}
use Rattle.htt_top.proofs.StageLemmas.{Agree}

-- ---- what declarations say

pub decls_gives : (bytes : List ℕ) (decls : List RawDeclTree) (f : Form) (x : Answer) → IsForm bytes decls f → FormGives f x → DeclsGive bytes decls x
decls_gives bytes decls f (Ok outcome) t g = (f, t, g)
decls_gives bytes decls f (Err Usage) t g = (f, t, g)
decls_gives bytes decls f (Err ReadFault) t g = (f, t, g)
decls_gives bytes decls f (Err (Limit which)) t g = (f, t, g)
decls_gives bytes decls f (Err (Syntax at kind)) t g = absurd g
decls_gives bytes decls f (Err (NotInferred at)) t g = (f, t, g)
decls_gives bytes decls f (Err (BadCode at)) t g = (f, t, g)
decls_gives bytes decls f (Err (BadHeap line)) t g = (f, t, g)
decls_gives bytes decls f (Err (Fault kind location)) t g = (f, t, g)
decls_gives bytes decls f (Err (Stopped bound count)) t g = (f, t, g)
decls_gives bytes decls f (Err NoMemory) t g = tt

form_cases : (f : Form) (x : Answer)
    → FormGives f x
    → x ≢ Err NoMemory
    → ((f.claimed ≡ form_result f) × (x ≡ Ok (value (form_result f)))) ⊎ ((f.claimed ≢ form_result f) × (x ≡ Err (NotInferred f.place)))
form_cases f (Ok (value n)) p m = inl (p.0, ap (λ (n : ℕ). Ok (value n)) p.1)
form_cases f (Ok (halt words h)) p m = absurd p
form_cases f (Err (NotInferred at)) p m = inr (p.0, ap (λ (at : ℕ). Err (NotInferred at)) p.1)
form_cases f (Err NoMemory) p m = absurd (m refl)
form_cases f (Err Usage) p m = absurd p
form_cases f (Err ReadFault) p m = absurd p
form_cases f (Err (Limit which)) p m = absurd p
form_cases f (Err (Syntax at kind)) p m = absurd p
form_cases f (Err (BadCode at)) p m = absurd p
form_cases f (Err (BadHeap line)) p m = absurd p
form_cases f (Err (Fault kind location)) p m = absurd p
form_cases f (Err (Stopped bound count)) p m = absurd p

form_agrees : (f : Form) → Agree (FormGives f)
form_agrees f x y p q m k =
    ⊎_elim
    (λ (i : (f.claimed ≡ form_result f) × (x ≡ Ok (value (form_result f)))).
    ⊎_elim
    (λ (j : (f.claimed ≡ form_result f) × (y ≡ Ok (value (form_result f)))). i.1 ∙ sym j.1)
    (λ (j : (f.claimed ≢ form_result f) × (y ≡ Err (NotInferred f.place))). absurd (j.0 i.0))
    (form_cases f y q k))
    (λ (i : (f.claimed ≢ form_result f) × (x ≡ Err (NotInferred f.place))).
    ⊎_elim
    (λ (j : (f.claimed ≡ form_result f) × (y ≡ Ok (value (form_result f)))). absurd (i.0 j.0))
    (λ (j : (f.claimed ≢ form_result f) × (y ≡ Err (NotInferred f.place))). i.1 ∙ sym j.1)
    (form_cases f y q k))
    (form_cases f x p m)

decls_cases : (bytes : List ℕ) (decls : List RawDeclTree) (x : Answer)
    → DeclsGive bytes decls x
    → x ≢ Err NoMemory
    → ((f : Form) × IsForm bytes decls f × FormGives f x) ⊎ (IsSyntax x × ((f : Form) → IsForm bytes decls f → ⊥))
decls_cases bytes decls (Ok outcome) p m = inl p
decls_cases bytes decls (Err (Syntax at kind)) p m = inr (tt, p)
decls_cases bytes decls (Err NoMemory) p m = absurd (m refl)
decls_cases bytes decls (Err Usage) p m = inl p
decls_cases bytes decls (Err ReadFault) p m = inl p
decls_cases bytes decls (Err (Limit which)) p m = inl p
decls_cases bytes decls (Err (NotInferred at)) p m = inl p
decls_cases bytes decls (Err (BadCode at)) p m = inl p
decls_cases bytes decls (Err (BadHeap line)) p m = inl p
decls_cases bytes decls (Err (Fault kind location)) p m = inl p
decls_cases bytes decls (Err (Stopped bound count)) p m = inl p

pub decls_agree : (bytes : List ℕ) (decls : List RawDeclTree) (x y : Answer)
    → DeclsGive bytes decls x
    → DeclsGive bytes decls y
    → x ≢ Err NoMemory
    → y ≢ Err NoMemory
    → (x ≡ y) ⊎ (((f : Form) → IsForm bytes decls f → ⊥) × IsSyntax x × IsSyntax y)
decls_agree bytes decls x y p q m k =
    ⊎_elim
    (λ (i : (f : Form) × IsForm bytes decls f × FormGives f x).
    ⊎_elim
    (λ (j : (f : Form) × IsForm bytes decls f × FormGives f y).
    let e : j.0 ≡ i.0 = one_form bytes decls j.0 i.0 j.1 i.1 in
    inl (form_agrees i.0 x y i.2 (subst (λ f. FormGives f y) e j.2) m k))
    (λ (j : IsSyntax y × ((f : Form) → IsForm bytes decls f → ⊥)). absurd (j.1 i.0 i.1))
    (decls_cases bytes decls y q k))
    (λ (i : IsSyntax x × ((f : Form) → IsForm bytes decls f → ⊥)).
    ⊎_elim
    (λ (j : (f : Form) × IsForm bytes decls f × FormGives f y). absurd (i.1 j.0 j.1))
    (λ (j : IsSyntax y × ((f : Form) → IsForm bytes decls f → ⊥)). inr (i.1, i.0, j.0))
    (decls_cases bytes decls y q k))
    (decls_cases bytes decls x p m)

-- ---- tokens

abbrev lex_refusal : LexStop → Refusal
lex_refusal (lex.NotUtf8 at) = Syntax at kinds.Utf8
lex_refusal (lex.BadChar at) = Syntax at kinds.Char
lex_refusal (lex.LiteralTooLarge at) = Syntax at kinds.Literal
lex_refusal lex.NoMemory = NoMemory

record IsLexed (bytes : List ℕ) (x : Result (List Token) Refusal) : Type 0 where
  pub stop : LexStop
  pub cause : IsCause stop
  pub is : x ≡ Err (lex_refusal stop)
  pub refuses : RefusesText bytes stop

tokens_cases : (bytes : List ℕ) (x : Result (List Token) Refusal)
    → TokensGive bytes x
    → x ≢ Err NoMemory
    → ((tokens : List Token) × (x ≡ Ok tokens) × AreTokens bytes tokens) ⊎ IsLexed bytes x
tokens_cases bytes (Ok tokens) p m = inl (tokens, refl, p)
tokens_cases bytes (Err (Syntax at kinds.Utf8)) p m = inr (record { stop = lex.NotUtf8 at; cause = tt; is = refl; refuses = p })
tokens_cases bytes (Err (Syntax at kinds.Char)) p m = inr (record { stop = lex.BadChar at; cause = tt; is = refl; refuses = p })
tokens_cases bytes (Err (Syntax at kinds.Literal)) p m = inr (record { stop = lex.LiteralTooLarge at; cause = tt; is = refl; refuses = p })
tokens_cases bytes (Err (Syntax at kinds.Token)) p m = absurd p
tokens_cases bytes (Err (Syntax at kinds.Unbound)) p m = absurd p
tokens_cases bytes (Err (Syntax at kinds.Duplicate)) p m = absurd p
tokens_cases bytes (Err (Syntax at kinds.Sort)) p m = absurd p
tokens_cases bytes (Err NoMemory) p m = absurd (m refl)
tokens_cases bytes (Err Usage) p m = absurd p
tokens_cases bytes (Err ReadFault) p m = absurd p
tokens_cases bytes (Err (Limit which)) p m = absurd p
tokens_cases bytes (Err (NotInferred at)) p m = absurd p
tokens_cases bytes (Err (BadCode at)) p m = absurd p
tokens_cases bytes (Err (BadHeap line)) p m = absurd p
tokens_cases bytes (Err (Fault kind location)) p m = absurd p
tokens_cases bytes (Err (Stopped bound count)) p m = absurd p

pub tokens_agree : (bytes : List ℕ) → Agree (TokensGive bytes)
tokens_agree bytes x y p q m k =
    ⊎_elim
    (λ (i : (tokens : List Token) × (x ≡ Ok tokens) × AreTokens bytes tokens).
    ⊎_elim
    (λ (j : (tokens : List Token) × (y ≡ Ok tokens) × AreTokens bytes tokens). i.1 ∙ ap Ok (token.laws.one_list bytes i.0 j.0 i.2 j.2) ∙ sym j.1)
    (λ (j : IsLexed bytes y). absurd (token.laws.one_answer bytes i.0 j.stop j.cause i.2 j.refuses))
    (tokens_cases bytes y q k))
    (λ (i : IsLexed bytes x).
    ⊎_elim
    (λ (j : (tokens : List Token) × (y ≡ Ok tokens) × AreTokens bytes tokens). absurd (token.laws.one_answer bytes j.0 i.stop i.cause j.2 i.refuses))
    (λ (j : IsLexed bytes y).
    i.is
    ∙ ap (λ (stop : LexStop). Err (lex_refusal stop)) (token.laws.one_refusal bytes i.stop j.stop i.cause j.cause i.refuses j.refuses)
    ∙ sym j.is)
    (tokens_cases bytes y q k))
    (tokens_cases bytes x p m)

-- ---- declarations

abbrev parse_refusal : ParseStop → Refusal
parse_refusal (stops.Expected at) = Syntax at kinds.Token
parse_refusal (stops.TooNested at) = Limit Nesting
parse_refusal (stops.TooLongChain at) = Limit Chain
parse_refusal (stops.TooMany at) = Limit Declarations
parse_refusal stops.NoMemory = NoMemory

record IsParsed (bytes : List ℕ) (tokens : List Token) (x : Result (List RawDeclTree) Refusal) : Type 0 where
  pub stop : Halt
  pub is : x ≡ Err (parse_refusal (stop_at (length bytes) stop))
  pub read : read_file tokens ≡ Err stop
  pub refuses : FileRefusal tokens stop

abbrev HasDecls : List Token → Result (List RawDeclTree) Refusal → Type 0
HasDecls tokens x = (decls : List RawDeclTree) × (x ≡ Ok decls) × IsFile tokens decls × IsFileWithin decls

parse_cases : (bytes : List ℕ) (tokens : List Token) (x : Result (List RawDeclTree) Refusal)
    → ParseGives bytes tokens x
    → x ≢ Err NoMemory
    → HasDecls tokens x ⊎ IsParsed bytes tokens x
parse_cases bytes tokens (Ok decls) p m = inl (decls, refl, p.0, p.1)
parse_cases bytes tokens (Err (Syntax at kinds.Token)) p m =
    inr (record { stop = p.0; is = ap (λ (s : ParseStop). Err (parse_refusal s)) p.3; read = p.1; refuses = p.2 })
parse_cases bytes tokens (Err (Limit Nesting)) p m =
    inr (record { stop = p.1.0; is = ap (λ (s : ParseStop). Err (parse_refusal s)) p.1.3; read = p.1.1; refuses = p.1.2 })
parse_cases bytes tokens (Err (Limit Chain)) p m =
    inr (record { stop = p.1.0; is = ap (λ (s : ParseStop). Err (parse_refusal s)) p.1.3; read = p.1.1; refuses = p.1.2 })
parse_cases bytes tokens (Err (Limit Declarations)) p m =
    inr (record { stop = p.1.0; is = ap (λ (s : ParseStop). Err (parse_refusal s)) p.1.3; read = p.1.1; refuses = p.1.2 })
parse_cases bytes tokens (Err NoMemory) p m = absurd (m refl)
parse_cases bytes tokens (Err (Syntax at kinds.Utf8)) p m = absurd p
parse_cases bytes tokens (Err (Syntax at kinds.Char)) p m = absurd p
parse_cases bytes tokens (Err (Syntax at kinds.Literal)) p m = absurd p
parse_cases bytes tokens (Err (Syntax at kinds.Unbound)) p m = absurd p
parse_cases bytes tokens (Err (Syntax at kinds.Duplicate)) p m = absurd p
parse_cases bytes tokens (Err (Syntax at kinds.Sort)) p m = absurd p
parse_cases bytes tokens (Err (Limit File)) p m = absurd p
parse_cases bytes tokens (Err (Limit CodeFile)) p m = absurd p
parse_cases bytes tokens (Err (Limit HeapFile)) p m = absurd p
parse_cases bytes tokens (Err (Limit Nodes)) p m = absurd p
parse_cases bytes tokens (Err (Limit Depth)) p m = absurd p
parse_cases bytes tokens (Err (Limit Context)) p m = absurd p
parse_cases bytes tokens (Err (Limit Mono)) p m = absurd p
parse_cases bytes tokens (Err Usage) p m = absurd p
parse_cases bytes tokens (Err ReadFault) p m = absurd p
parse_cases bytes tokens (Err (NotInferred at)) p m = absurd p
parse_cases bytes tokens (Err (BadCode at)) p m = absurd p
parse_cases bytes tokens (Err (BadHeap line)) p m = absurd p
parse_cases bytes tokens (Err (Fault kind location)) p m = absurd p
parse_cases bytes tokens (Err (Stopped bound count)) p m = absurd p

same_halt : {A : Type 0} (o : Result A Halt) (h k : Halt) → o ≡ Err h → o ≡ Err k → h ≡ k
same_halt o h k e f = cc

pub parse_agrees : (bytes : List ℕ) (tokens : List Token) → Agree (ParseGives bytes tokens)
parse_agrees bytes tokens x y p q m k =
    ⊎_elim
    (λ (i : HasDecls tokens x).
    ⊎_elim
    (λ (j : HasDecls tokens y). i.1 ∙ ap Ok (one_file tokens i.0 j.0 i.2 j.2) ∙ sym j.1)
    (λ (j : IsParsed bytes tokens y). absurd (file_is_not_derived tokens j.stop i.0 j.refuses i.2 i.3))
    (parse_cases bytes tokens y q k))
    (λ (i : IsParsed bytes tokens x).
    ⊎_elim
    (λ (j : HasDecls tokens y). absurd (file_is_not_derived tokens i.stop j.0 i.refuses j.2 j.3))
    (λ (j : IsParsed bytes tokens y).
    i.is
    ∙ ap (λ (h : Halt). Err (parse_refusal (stop_at (length bytes) h))) (same_halt (read_file tokens) i.stop j.stop i.read j.read)
    ∙ sym j.is)
    (parse_cases bytes tokens y q k))
    (parse_cases bytes tokens x p m)
