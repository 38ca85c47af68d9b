use Rattle.std.proofs.Common.{◌≡◌, ◌++◌, drop, flat_map}
use Rattle.std.specs.String.{string_bytes}
use Rattle.folio_extract.specs.RankTables.{exchange_line}
use Rattle.folio_extract.proofs.exchange_lines.add_exchange_lines.Given as goal

abbrev pub invariant-loop-exchange : goal.invariant-loop-exchange
invariant-loop-exchange l =
    string_bytes l.text ++ flat_map exchange_line (drop l.exchange-index l.exchanges) ≡ string_bytes l.fn.text ++ flat_map exchange_line l.exchanges
