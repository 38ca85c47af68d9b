use Rattle.std.proofs.Common.{◌≡◌, ◌++◌, drop, length, map, vec_capacity}
use Rattle.folio_line.specs.declared.exchange_turns.Turn.{Turn}
use Rattle.folio_line.proofs.exchange_turns.write_back.Given as goal

abbrev pub invariant-loop-turn : goal.invariant-loop-turn
invariant-loop-turn l = record {
  items : l.exchanges.items ++ map (λ (t : Turn). t.exchange) (drop l.turn-index l.turns) ≡ map (λ (t : Turn). t.exchange) l.turns;
  count : length l.exchanges.items ≡ l.turn-index;
  capacity : vec_capacity l.exchanges ≡ vec_capacity l.fn.exchanges;
}
