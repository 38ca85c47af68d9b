use Rattle.std.proofs.Common.{◌≡◌, ◌≤◌, ◌++◌, None, drop}
use Rattle.std.specs.String.{string_bytes}
use Rattle.folio_extract.specs.inner.RankWalk.{ranked_lines}
use Rattle.folio_extract.proofs.rank_lines.add_rank_lines.Given as goal

abbrev pub invariant-loop-right : goal.invariant-loop-right
invariant-loop-right l = record {
  written : string_bytes l.text ++ ranked_lines l.rank l.before (drop l.right-index l.rights) ≡ string_bytes l.fn.text ++ ranked_lines 0 None l.rights;
  bound : l.rank ≤ l.right-index;
}
