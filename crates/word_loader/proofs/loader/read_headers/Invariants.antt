use Rattle.std.proofs.Common.{◌≡◌, ◌+◌, ◌-◌, ◌*◌, ◌≤◌, ◌++◌, length, true}
use Rattle.std.specs.Prelude.{nat_eq}
use Rattle.word_loader_format.specs.Rows.{headers_at, headers_tests}
use Rattle.word_loader.proofs.Steps.{IsDecidedBy}
use Rattle.word_loader.proofs.loader.read_headers.Given as goal

-- the tests of the headers that are left decide, and they are the rest of the headers
abbrev pub invariant-loop-i : goal.invariant-loop-i
invariant-loop-i l =
    record {
      left : IsDecidedBy (headers_tests l.file 9 true 0 l.count) (headers_tests l.file l.at (nat_eq l.i 0) l.before (l.count - l.i));
      said : l.headers.items ++ headers_at l.file l.at (l.count - l.i) ≡ headers_at l.file 9 l.count;
      place : l.at ≡ 9 + 10 * l.i;
      room : l.at ≤ length l.file;
      few : l.before ≤ 1000000;
    }
