-- How far the one registrar has come.
use Rattle.std.specs.Prelude.{◌≡◌, ℕ, ◌<◌, ◌+◌, List, length, All}
use Rattle.std.specs.List.{enumerate_from, range_with_len}
use Rattle.gb_base.specs.declared.keys.Key.{Key}
use Rattle.act_model.specs.declared.receipts.Receipt.{Receipt}
use Rattle.folio_sections.specs.Entries.{at as at_key}
use Rattle.kept_registers.specs.Kept.{Kept}
use Rattle.folio_sections.specs.declared.entries.Entry.{Entry}
use Rattle.registrar.specs.KeptAwards.{AwardsKept}
use Rattle.registrar.specs.KeptDistributions.{DistributionsKept}
use Rattle.registrar.specs.Settling.{settled_in_order}
use Rattle.registrar.specs.declared.verdicts.Verdict.{Verdict}
use Rattle.registrar.specs.inner.CasesRise.{CasesRise}

-- the first n items are settled: what stands at each key, and what became of each
pub record SettledTo (journal : List Receipt) (n : ℕ) (at : Key → List Entry) (vs : List Verdict) : Type 0 where
  pub entries : at ≡ at_key (settled_in_order journal (range_with_len 1 n)).entries
  pub verdicts : enumerate_from 1 vs ≡ (settled_in_order journal (range_with_len 1 n)).verdicts
  pub count : length vs ≡ n
  pub kept : Kept journal at
  pub awards : AwardsKept journal at
  pub distributed : DistributionsKept journal at
  pub rise : CasesRise at
  pub earlier : (k : Key) → All (λ e. e.receipt < n + 1) (at k)
