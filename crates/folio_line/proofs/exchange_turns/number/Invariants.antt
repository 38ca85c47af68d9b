use Rattle.std.proofs.Common.{◌≡◌, ◌++◌, drop, length, vec_capacity}
use Rattle.folio_line.specs.inner.Turns.{turns_of}
use Rattle.folio_line.proofs.exchange_turns.number.Given as goal

abbrev pub invariant-loop-exchange : goal.invariant-loop-exchange
invariant-loop-exchange l = record {
  items : l.turns.items ++ turns_of l.exchange-index (drop l.exchange-index l.exchanges) ≡ turns_of 0 l.exchanges;
  count : length l.turns.items ≡ l.exchange-index;
  capacity : vec_capacity l.turns ≡ vec_capacity l.fn.turns;
}
