use Rattle.std.proofs.Common.{◌≡◌, ◌≤◌, ◌++◌, drop, length}
use Rattle.word_loader_format.specs.Rows.{bodies_tests, after_bodies}
use Rattle.word_loader_format.specs.Reading.{functions_at}
use Rattle.word_loader.proofs.Steps.{IsDecidedBy}
use Rattle.word_loader.proofs.loader.read_functions.Given as goal

-- the tests of the bodies that are left decide, and they are the rest of the functions
abbrev pub invariant-loop-header : goal.invariant-loop-header
invariant-loop-header l =
    record {
      left :
          IsDecidedBy (bodies_tests l.file l.version l.headers l.at l.headers)
          (bodies_tests l.file l.version l.headers l.place (drop l.header-index l.headers));
      said : l.functions.items ++ functions_at l.file l.version l.place (drop l.header-index l.headers) ≡ functions_at l.file l.version l.at l.headers;
      next : after_bodies l.file l.version l.place (drop l.header-index l.headers) ≡ after_bodies l.file l.version l.at l.headers;
      room : l.place ≤ length l.file;
    }
