use Rattle.std.proofs.Common.{◌≡◌, ◌<◌, ◌^◌, take}
use Rattle.std.specs.Str.Parse.{AllDigits, digits_value}
use Rattle.heap_model_text.proofs.cutting.number_of.Given as goal

-- the number so far is that of the digits so far
abbrev pub invariant-loop-digit : goal.invariant-loop-digit
invariant-loop-digit l = record {
  value : l.number ≡ digits_value 10 (take l.digit-index l.digits);
  digits : AllDigits 10 (take l.digit-index l.digits);
  fits : l.number < 2 ^ 64;
}
