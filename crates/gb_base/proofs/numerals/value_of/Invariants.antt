use Rattle.std.proofs.Common.{◌≡◌, ◌<◌, ◌^◌, ◌≤◌, drop, length, true}
use Rattle.std.specs.List.{list_all}
use Rattle.gb_base.specs.Numerals.{is_digit, value_from}
use Rattle.gb_base.proofs.numerals.value_of.Given as goal

abbrev pub invariant-loop-digit : goal.invariant-loop-digit
invariant-loop-digit l = record {
  few : length l.digits ≤ 10;
  digits : list_all is_digit (drop l.digit-index l.digits) ≡ true;
  small : l.value < 10 ^ l.digit-index;
  so_far : value_from l.value (drop l.digit-index l.digits) ≡ value_from 0 l.digits;
}
