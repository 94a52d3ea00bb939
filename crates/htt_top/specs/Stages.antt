-- The stages of a command. Each gives a value, or the refusal with which the command ends.
use Rattle.std.specs.Prelude.{ℕ, ◌≡◌, ◌≢◌, ◌+◌, ◌%◌, ◌^◌, ◌<◌, ◌≤◌, ◌⊎◌, List, length, Option, Some, None, Result, Ok}
use Rattle.std.specs.Prelude.{Err}
use Rattle.htt_base.specs.Outside.{Held, Told, Rose}
use Rattle.htt_syntax_words.specs.declared.words.Which.{Which}
use Rattle.htt_syntax_words.specs.declared.words.Which.TheVariants.{CodeFile, HeapFile, Declarations, Nesting, Chain}
use Rattle.htt_syntax_words.specs.declared.words.SyntaxKind.TheVariants as kinds
use Rattle.theory_values.specs.Heaps.{Heap, empty_heap}
use Rattle.heap_model_flat.specs.Blocks.{blocks_of}
use Rattle.heap_model_text.specs.HeapText.{IsHeapFile, IsBadLine}
use Rattle.word_loader_code.specs.declared.code.Code.{Code}
use Rattle.word_loader_format.specs.Layout.{Bytes}
use Rattle.word_loader_format.specs.Rows.{IsRefused}
use Rattle.word_machine.specs.declared.runs.End.{End}
use Rattle.word_machine.specs.declared.runs.End.TheVariants as ends
use Rattle.word_machine.specs.Runs.{EndsShipped}
use Rattle.htt_lexer_tokens.specs.declared.tokens.Token.{Token}
use Rattle.htt_lexer.specs.declared.lexer.LexStop.TheVariants.{NotUtf8, BadChar, LiteralTooLarge}
use Rattle.htt_lexer.specs.Refusals.{RefusesText}
use Rattle.htt_lexer.specs.Tokens.{AreTokens}
use Rattle.htt_parser_trees.specs.Trees.{RawDeclTree}
use Rattle.theory_grammar.specs.Derivations.{IsFile, IsFileWithin}
use Rattle.htt_parser.specs.declared.stops.ParseStop.TheVariants.{Expected, TooNested, TooLongChain, TooMany}
use Rattle.htt_parser.specs.Refusals.{RefusesFile}
use Rattle.htt_top_one_form.specs.declared.form.Form.{Form}
use Rattle.htt_top_one_form.specs.Form.{IsForm}
use Rattle.htt_top_answers.specs.declared.answer.Refusal.{Refusal}
use Rattle.htt_top_answers.specs.declared.answer.Refusal.TheVariants.{ReadFault, Limit, Syntax, NotInferred, BadCode}
use Rattle.htt_top_answers.specs.declared.answer.Refusal.TheVariants.{BadHeap, Fault, Stopped, NoMemory}
use Rattle.htt_top_answers.specs.Answers.{Answer, value, halt}
use Rattle.htt_top_answers.specs.Lines.{limit_of}

-- what is seen of the files in a call: what each name held at entry, and the count of read faults at
-- entry and now
pub record Seen : Type 0 where
  pub held : Option Held
  pub before : ℕ
  pub now : ℕ

abbrev pub seen : Option Held → ℕ → ℕ → Seen
seen held before now = record { held = held; before = before; now = now }

-- one stage and then another: a refusal of the first is that of both, and else the other goes on from
-- the value
abbrev pub Then : {A B : Type 0}
    → (Result A Refusal → Type 0)
    → (A → Result B Refusal → Type 0)
    → Result B Refusal
    → Type 0
Then {A = A} first next result =
    ((refusal : Refusal) × first (Err refusal) × (result ≡ Err refusal)) ⊎ ((a : A) × first (Ok a) × next a result)

-- a file is read, and then its size is tested
abbrev pub FileGives : Seen → List ℕ → Which → Result (List ℕ) Refusal → Type 0
FileGives s name which (Ok bytes) = Told s.held (λ held. held name ≡ Some bytes) × (length bytes ≤ limit_of which)
FileGives s name which (Err (Limit passed)) =
    (passed ≡ which)
    × Told s.held (λ held. (bytes : List ℕ) × (held name ≡ Some bytes) × (limit_of which < length bytes))
FileGives s name which (Err ReadFault) = Rose s.before s.now
FileGives s name which (Err NoMemory) = Unit {0}
FileGives s name which (Err refusal) = ⊥

-- bytes as code; the row of a refusal is dropped, since no line shows it
abbrev pub LoadGives : List ℕ → Result Code Refusal → Type 0
LoadGives bytes (Ok code) = Bytes bytes code
LoadGives bytes (Err (BadCode at)) = (row : ℕ) × IsRefused bytes at row
LoadGives bytes (Err NoMemory) = Unit {0}
LoadGives bytes (Err refusal) = ⊥

abbrev pub CodeGives : Seen → List ℕ → Result Code Refusal → Type 0
CodeGives s name = Then (FileGives s name CodeFile) LoadGives

-- bytes as a heap
abbrev pub HeapGives : List ℕ → Result Heap Refusal → Type 0
HeapGives bytes (Ok heap) = IsHeapFile bytes heap
HeapGives bytes (Err (BadHeap line)) = IsBadLine bytes line
HeapGives bytes (Err NoMemory) = Unit {0}
HeapGives bytes (Err refusal) = ⊥

-- the heap that a run starts from: that of the heap file, or else the empty one
abbrev pub StartGives : Seen → Option (List ℕ) → Result Heap Refusal → Type 0
StartGives s None result = result ≡ Ok empty_heap
StartGives s (Some name) result = Then (FileGives s name HeapFile) HeapGives result

-- the end of a run as an answer
abbrev pub answer_of_end : End → Answer
answer_of_end (ends.Halted words heap) = Ok (halt words (blocks_of heap))
answer_of_end (ends.Fault kind location) = Err (Fault kind location)
answer_of_end (ends.Stopped bound count) = Err (Stopped bound count)

-- a run of so many steps
abbrev pub RunGives : Code → Heap → ℕ → Answer → Type 0
RunGives code heap steps answer =
    (answer ≡ Err NoMemory) ⊎ ((end : End) × EndsShipped code heap steps end × (answer ≡ answer_of_end end))

-- the result that the program of a form returns: its number, or the sum of its two numbers modulo 2^64
abbrev pub form_result : Form → ℕ
form_result f = sum f.left f.right
  where
    sum : ℕ → Option ℕ → ℕ
    sum a None = a
    sum a (Some b) = (a + b) % 2 ^ 64

-- a form: its value, where its claim is that of its result
abbrev pub FormGives : Form → Answer → Type 0
FormGives f (Ok (value n)) = (f.claimed ≡ form_result f) × (n ≡ form_result f)
FormGives f (Ok (halt words heap)) = ⊥
FormGives f (Err (NotInferred at)) = (f.claimed ≢ form_result f) × (at ≡ f.place)
FormGives f (Err NoMemory) = Unit {0}
FormGives f (Err refusal) = ⊥

-- bytes as tokens
abbrev pub TokensGive : List ℕ → Result (List Token) Refusal → Type 0
TokensGive bytes (Ok tokens) = AreTokens bytes tokens
TokensGive bytes (Err (Syntax at kinds.Utf8)) = RefusesText bytes (NotUtf8 at)
TokensGive bytes (Err (Syntax at kinds.Char)) = RefusesText bytes (BadChar at)
TokensGive bytes (Err (Syntax at kinds.Literal)) = RefusesText bytes (LiteralTooLarge at)
TokensGive bytes (Err NoMemory) = Unit {0}
TokensGive bytes (Err refusal) = ⊥

-- the tokens of these bytes as declarations, within the limits
abbrev pub ParseGives : List ℕ → List Token → Result (List RawDeclTree) Refusal → Type 0
ParseGives bytes tokens (Ok decls) = IsFile tokens decls × IsFileWithin decls
ParseGives bytes tokens (Err (Syntax at kinds.Token)) = RefusesFile (length bytes) tokens (Expected at)
ParseGives bytes tokens (Err (Limit Nesting)) = (at : ℕ) × RefusesFile (length bytes) tokens (TooNested at)
ParseGives bytes tokens (Err (Limit Chain)) = (at : ℕ) × RefusesFile (length bytes) tokens (TooLongChain at)
ParseGives bytes tokens (Err (Limit Declarations)) = (at : ℕ) × RefusesFile (length bytes) tokens (TooMany at)
ParseGives bytes tokens (Err NoMemory) = Unit {0}
ParseGives bytes tokens (Err refusal) = ⊥

-- declarations of these bytes, which are those of a form or aren't; the place and the kind are free
abbrev pub DeclsGive : List ℕ → List RawDeclTree → Answer → Type 0
DeclsGive bytes decls (Err (Syntax at kind)) = (f : Form) → IsForm bytes decls f → ⊥
DeclsGive bytes decls (Err NoMemory) = Unit {0}
DeclsGive bytes decls answer = (f : Form) × IsForm bytes decls f × FormGives f answer

-- bytes as a text: its tokens, its declarations, and what they say
abbrev pub GoGives : List ℕ → Answer → Type 0
GoGives bytes = Then (TokensGive bytes) (λ tokens. Then (ParseGives bytes tokens) (DeclsGive bytes))
