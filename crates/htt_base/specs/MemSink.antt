-- What a sink in memory has taken, and which of its calls fail.
use Rattle.std.specs.Prelude.{ℕ, List, Contains}
use Rattle.htt_base.specs.declared.mem_sink.MemSink.{MemSink}

abbrev pub sink_bytes : MemSink → List ℕ
sink_bytes s = s.bytes.items

abbrev pub fault_count : MemSink → ℕ
fault_count s = s.faults

-- the number of the next call, counted from 0
abbrev pub next_put : MemSink → ℕ
next_put s = s.calls

-- the numbers of the calls that fail
abbrev pub failing_puts : MemSink → List ℕ
failing_puts s = s.failing.items

-- the next call is one of those that fail
abbrev pub FailsNextPut : MemSink → Type 0
FailsNextPut s = Contains (failing_puts s) (next_put s)
