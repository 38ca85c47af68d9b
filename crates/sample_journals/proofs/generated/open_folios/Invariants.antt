-- The folios that are opened so far.
use Rattle.std.proofs.Common.{◌≡◌, ◌+◌, map}
use Rattle.std.specs.List.{range_with_len}
use Rattle.sample_journals.specs.Sample.{opening_receipt}
use Rattle.sample_journals.specs.Turns.{first_notes}
use Rattle.sample_journals.specs.inner.FirstReceipts.{AreFirst}
use Rattle.sample_journals.proofs.generated.open_folios.Given as goal

abbrev pub invariant-loop-n : goal.invariant-loop-n
invariant-loop-n l = record {
  receipts : l.journal.receipts ≡ map opening_receipt (range_with_len 1 l.n);
  first : AreFirst (l.n + 1) l.journal.receipts;
  folios : l.folios.items ≡ map first_notes (range_with_len 1 l.n);
}
