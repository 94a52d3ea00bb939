use Rattle.std.proofs.Common.{rules, ◌≡◌, Err, ap, option_map, inl}
use Rattle.heap_model_flat.specs.Blocks.{blocks_of}
use Rattle.htt_top_answers.specs.Answers.{seen_answer}
use Rattle.htt_top.proofs.ReadLemmas.{reads_run}
use Rattle.htt_top.proofs.DueLemmas.{due_no_code, due_no_heap, due_run, loaded_is_valid, started_is_low}
use Rattle.htt_top.proofs.run.load_and_run.Goals as goal

pub returns-in_err-code-clause-due : goal.returns-in_err-code-clause-due
returns-in_err-code-clause-due g c =
    let e : c.from_residual.result ≡ Err c.in_err-code.field-0.0 = search rules in
    due_no_code _ _ _ c.args.steps c.in_err-code.field-0.0 (seen_answer c.from_residual.result) c.in_err-code.ensures.gives (ap seen_answer e)

pub returns-in_err-code-clause-reads : goal.returns-in_err-code-clause-reads
returns-in_err-code-clause-reads g c = inl c.in_err-code.ensures.reads

pub returns-in_err-heap-clause-due : goal.returns-in_err-heap-clause-due
returns-in_err-heap-clause-due g c =
    let e : c.from_residual-in_err-heap.result ≡ Err c.in_err-heap.field-0.0 = search rules in
    due_no_heap _ _ _ _ _ _ _ c.args.steps c.in_ok-code.code c.in_ok-code.ensures.gives c.in_ok-code.ensures.held
    c.in_ok-code.ensures.counts c.in_err-heap.ensures.counts
    c.in_err-heap.field-0.0 (seen_answer c.from_residual-in_err-heap.result) c.in_err-heap.ensures.gives (ap seen_answer e)

pub returns-in_err-heap-clause-reads : goal.returns-in_err-heap-clause-reads
returns-in_err-heap-clause-reads g c =
    reads_run _ _ _ _ _ (option_map (λ n. n.now) c.args.heap) c.in_ok-code.code _ _ _
    c.in_ok-code.ensures.gives c.in_err-heap.ensures.counts c.in_ok-code.ensures.reads_all c.in_err-heap.ensures.reads

pub returns-clause-due : goal.returns-clause-due
returns-clause-due g c =
    due_run _ _ _ _ _ _ _ c.args.steps c.in_ok-code.code c.in_ok-code.ensures.gives c.in_ok-code.ensures.held c.in_ok-code.ensures.counts
    c.in_ok-heap.ensures.counts
    (blocks_of c.in_ok-heap.heap) (seen_answer c.run_code.result) c.in_ok-heap.ensures.gives c.run_code.ensures

pub returns-clause-reads : goal.returns-clause-reads
returns-clause-reads g c =
    reads_run _ _ _ _ _ (option_map (λ n. n.now) c.args.heap) c.in_ok-code.code _ _ _
    c.in_ok-code.ensures.gives c.in_ok-heap.ensures.counts c.in_ok-code.ensures.reads_all c.in_ok-heap.ensures.reads

pub run_code-requires-clause-valid : goal.run_code-requires-clause-valid
run_code-requires-clause-valid g c = loaded_is_valid _ _ c.in_ok-code.code c.in_ok-code.ensures.gives

pub run_code-requires-clause-low : goal.run_code-requires-clause-low
run_code-requires-clause-low g c = started_is_low _ _ (blocks_of c.in_ok-heap.heap) c.in_ok-heap.ensures.gives
