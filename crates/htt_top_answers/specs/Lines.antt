-- The lines that each answer prints.
use Rattle.std.specs.Prelude.{ℕ, ◌≡◌, ◌+◌, ◌++◌, List, codes, Ok, Err}
use Rattle.std.specs.Fmt.{decimal}
use Rattle.htt_syntax_words.specs.declared.words.SyntaxKind.{SyntaxKind}
use Rattle.htt_syntax_words.specs.declared.words.SyntaxKind.TheVariants as kinds
use Rattle.htt_syntax_words.specs.declared.words.Which.{Which}
use Rattle.htt_syntax_words.specs.declared.words.Which.TheVariants as which
use Rattle.htt_syntax_words.specs.declared.words.Kind.{Kind}
use Rattle.htt_syntax_words.specs.declared.words.Kind.TheVariants as faults
use Rattle.htt_syntax_words.specs.declared.words.Bound.{Bound}
use Rattle.htt_syntax_words.specs.declared.words.Bound.TheVariants as bounds
use Rattle.heap_model_text.specs.HeapText.{IsHeapText, words_text}
use Rattle.htt_top_answers.specs.Answers.{Answer, value, halt}
use Rattle.htt_top_answers.specs.declared.answer.Refusal.{Refusal}
use Rattle.htt_top_answers.specs.declared.answer.Refusal.TheVariants.{Usage, ReadFault, Limit, Syntax, NotInferred}
use Rattle.htt_top_answers.specs.declared.answer.Refusal.TheVariants.{BadCode, BadHeap, Fault, Stopped, NoMemory}

abbrev pub kind_word : SyntaxKind → List ℕ
kind_word kinds.Utf8 = codes "utf8"
kind_word kinds.Char = codes "char"
kind_word kinds.Literal = codes "literal"
kind_word kinds.Token = codes "token"
kind_word kinds.Unbound = codes "unbound"
kind_word kinds.Duplicate = codes "duplicate"
kind_word kinds.Sort = codes "sort"

abbrev pub fault_word : Kind → List ℕ
fault_word faults.Get = codes "get"
fault_word faults.Set = codes "set"
fault_word faults.Free = codes "free"

abbrev pub bound_word : Bound → List ℕ
bound_word bounds.Step = codes "step"
bound_word bounds.Frame = codes "frame"
bound_word bounds.Heap = codes "heap"
bound_word bounds.Fuel = codes "fuel"
bound_word bounds.Turns = codes "turns"

abbrev pub limit_word : Which → List ℕ
limit_word which.File = codes "file"
limit_word which.CodeFile = codes "codefile"
limit_word which.HeapFile = codes "heapfile"
limit_word which.Declarations = codes "declarations"
limit_word which.Nesting = codes "nesting"
limit_word which.Chain = codes "chain"
limit_word which.Nodes = codes "nodes"
limit_word which.Depth = codes "depth"
limit_word which.Context = codes "context"
limit_word which.Mono = codes "mono"

-- the largest permitted number of what is counted
abbrev pub limit_of : Which → ℕ
limit_of which.File = 1048576
limit_of which.CodeFile = 33554432
limit_of which.HeapFile = 16777216
limit_of which.Declarations = 10000
limit_of which.Nesting = 256
limit_of which.Chain = 64
limit_of which.Nodes = 1000000
limit_of which.Depth = 1000
limit_of which.Context = 4096
limit_of which.Mono = 64

abbrev pub refusal_line : Refusal → List ℕ
refusal_line Usage = codes "usage\n"
refusal_line ReadFault = codes "read fault\n"
refusal_line (Limit which) =
    codes "limit " ++ limit_word which ++ codes " " ++ decimal (limit_of which + 1) ++ codes "\n"
refusal_line (Syntax at kind) = codes "syntax " ++ decimal at ++ codes " " ++ kind_word kind ++ codes "\n"
refusal_line (NotInferred at) = codes "no main.1 " ++ decimal at ++ codes " infer\n"
refusal_line (BadCode at) = codes "bad code " ++ decimal at ++ codes "\n"
refusal_line (BadHeap line) = codes "bad heap " ++ decimal line ++ codes "\n"
refusal_line (Fault kind location) = codes "fault " ++ fault_word kind ++ codes " " ++ decimal location ++ codes "\n"
refusal_line (Stopped bound count) = codes "stopped " ++ bound_word bound ++ codes " " ++ decimal count ++ codes "\n"
refusal_line NoMemory = codes "no memory\n"

-- the lines of an answer: of code that halted its words in one line, and then the text of its heap
abbrev pub AreLines : Answer → List ℕ → Type 0
AreLines (Ok (value n)) lines = lines ≡ codes "value " ++ decimal n ++ codes "\n"
AreLines (Ok (halt words heap)) lines =
    (text : List ℕ) × IsHeapText heap text × (lines ≡ codes "words" ++ words_text words ++ codes "\n" ++ text)
AreLines (Err refusal) lines = lines ≡ refusal_line refusal
