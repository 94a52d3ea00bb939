-- What a function answers that tests and reads.
use Rattle.std.specs.Prelude.{◌≡◌, Result, Ok, Err, List}
use Rattle.word_loader_format.specs.declared.rows.Fault.{Fault}
use Rattle.word_loader_format.specs.Rows as rows
use Rattle.word_loader_format.specs.Rows.{Test, checked}
use Rattle.word_loader.specs.declared.rules.Site.{Site}

-- a value exactly where all tests are met, and else the first one that isn't
abbrev pub AnswersTests : {X : Type 0} → Result X Fault → List Test → (X → Type 0) → Type 0
AnswersTests (Ok x) tests IsValue = (checked tests ≡ Ok tt) × IsValue x
AnswersTests (Err f) tests IsValue = checked tests ≡ Err f

abbrev pub site_seen : Site → rows.Site
site_seen site = record { own = site.own; callee = site.callee; numbers = site.numbers.now }
