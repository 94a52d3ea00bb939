-- What is seen of the answers of the stages.
use Rattle.std.specs.Prelude.{ℕ, ◌≡◌, ◌++◌, List, map, Option, Some, Result, Ok, Err, Vec}
use Rattle.std.specs.Global.{Global}
use Rattle.htt_base.specs.Outside.{Told}
use Rattle.theory_values.specs.Heaps.{Heap as Blocks}
use Rattle.heap_model_flat.specs.Blocks.{blocks_of}
use Rattle.heap_model_flat.specs.declared.heap.Heap.{Heap}
use Rattle.htt_lexer_tokens.specs.declared.tokens.Token.{Token}
use Rattle.htt_parser_trees.specs.declared.decl.RawDecl.{RawDecl}
use Rattle.htt_parser_trees.specs.Trees.{RawDeclTree}
use Rattle.htt_parser_trees.specs.DeclViews.{raw_decl_tree}
use Rattle.htt_top_answers.specs.declared.answer.Refusal.{Refusal}

abbrev pub bytes_result : Result (Vec ℕ Global) Refusal → Result (List ℕ) Refusal
bytes_result (Ok v) = Ok v.items
bytes_result (Err refusal) = Err refusal

abbrev pub tokens_result : Result (Vec Token Global) Refusal → Result (List Token) Refusal
tokens_result (Ok v) = Ok v.items
tokens_result (Err refusal) = Err refusal

abbrev pub decls_result : Result (Vec RawDecl Global) Refusal → Result (List RawDeclTree) Refusal
decls_result (Ok v) = Ok (map raw_decl_tree v.items)
decls_result (Err refusal) = Err refusal

abbrev pub blocks_result : Result Heap Refusal → Result Blocks Refusal
blocks_result (Ok heap) = Ok (blocks_of heap)
blocks_result (Err refusal) = Err refusal

-- where the stage gives a value, all of these files were read, where the files tell
abbrev pub ReadsAll : {A : Type 0}
    → List (List ℕ)
    → Option (List (List ℕ))
    → Option (List (List ℕ))
    → Result A Refusal
    → Type 0
ReadsAll files before now (Ok a) = Told before (λ b. now ≡ Some (b ++ files))
ReadsAll files before now (Err refusal) = Unit {0}
