-- Answers on a disk in memory.
use Rattle.std.proofs.Common.{◌≡◌, ◌+◌, ◌==◌, length, ap, subst, ◌∙◌, arith}
use Rattle.std.specs.List.{list_any}
use Rattle.gb_outside.specs.MemDisks.{is_due}
use Rattle.gb_outside.specs.inner.Calls.{events}
use Rattle.gb_outside.proofs.Record.{length_events}
use Rattle.gb_outside.proofs.mem_disk.MemDisk.is_due.Goals as goal

pub returns : goal.returns
returns c =
    let inside = c.self.inside in
    let count : c.len.result ≡ length (events inside.calls.items inside.written.items) = omega (arith, length_events inside.calls.items inside.written.items) in
    let here : c.is_named.result ≡ list_any (λ n. n == length (events inside.calls.items inside.written.items) + 1) c.deref.result.now
    = subst (λ m. c.is_named.result ≡ list_any (λ n. n == m + 1) c.deref.result.now) count c.is_named.ensures in
    subst (λ xs. c.is_named.result ≡ list_any (λ n. n == length (events inside.calls.items inside.written.items) + 1) xs) c.deref.ensures.value here
    ∙ ap is_due c.self.view_is
