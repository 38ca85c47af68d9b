use Rattle.std.proofs.Common.{◌≡◌, ◌^◌, ◌<◌, drop}
use Rattle.std.specs.Str.{all_ascii_digits}
use Rattle.std.specs.Str.Parse.{digits_value, digits_value_after}
use Rattle.registry_http.proofs.headers.read_length.Given as goal

abbrev pub invariant-loop-digit : goal.invariant-loop-digit
invariant-loop-digit l = record {
  small : l.length < 10 ^ l.digit-index;
  digits : all_ascii_digits (drop l.digit-index l.text) ≡ all_ascii_digits l.text;
  value : digits_value_after 10 l.length (drop l.digit-index l.text) ≡ digits_value 10 l.text;
}
