use Rattle.std.proofs.Common.{◌≡◌, ◌-◌, ◌≤◌, ◌++◌, length}
use Rattle.word_loader_format.specs.Rows.{body_tests, after_body}
use Rattle.word_loader_format.specs.Reading.{body_in}
use Rattle.word_loader.proofs.Steps.{IsDecidedBy}
use Rattle.word_loader.proofs.loader.read_body.Given as goal

-- the tests of the instructions that are left decide, and they are the rest of the body
abbrev pub invariant-loop-i : goal.invariant-loop-i
invariant-loop-i l =
    record {
      left :
          IsDecidedBy (body_tests l.file l.version l.headers l.own l.at l.own.count)
          (body_tests l.file l.version l.headers l.own l.place (l.own.count - l.i));
      said : l.body.items ++ body_in l.file l.version l.place (l.own.count - l.i) ≡ body_in l.file l.version l.at l.own.count;
      next : after_body l.file l.version l.place (l.own.count - l.i) ≡ after_body l.file l.version l.at l.own.count;
      room : l.place ≤ length l.file;
    }
