use Rattle.std.proofs.Common.{◌≡◌, ◌++◌, take, codes, string_bytes}
use Rattle.heap_model_text.specs.HeapText.{words_text}
use Rattle.htt_top_answers.proofs.lines.words_line.Given as goal

abbrev pub invariant-loop-word : goal.invariant-loop-word
invariant-loop-word l = string_bytes l.text ≡ codes "words" ++ words_text (take l.word-index l.words)
