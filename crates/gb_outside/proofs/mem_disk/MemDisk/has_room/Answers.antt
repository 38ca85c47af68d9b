-- Answers on a disk in memory.
use Rattle.std.proofs.Common.{◌≡◌, ◌+◌, ◌&&◌, true, nat_le, refl, sym, ap, ◌∙◌, arith}
use Rattle.gb_outside.specs.MemDisks.{has_room_at, bytes_written}
use Rattle.gb_outside.specs.inner.Calls.{events}
use Rattle.gb_outside.proofs.Record.{bytes_written_all}
use Rattle.gb_outside.proofs.mem_disk.MemDisk.has_room.Goals as goal

pub returns-then-fits : goal.returns-then-fits
returns-then-fits c =
    let inside = c.self.inside in
    let file : nat_le (c.args.at + c.args.size) inside.longest ≡ true = sym c.fits.ensures ∙ c.if-fits.true in
    let count : c.len.result ≡ bytes_written (events inside.calls.items inside.written.items) = omega (arith, bytes_written_all inside.calls.items inside.written.items c.self.invariant.3.all_written) in
    let here : c.fits-then-fits.result ≡ (nat_le (c.args.at + c.args.size) inside.longest && nat_le (bytes_written (events inside.calls.items inside.written.items) + c.args.size) inside.most_written)
    = c.fits-then-fits.ensures ∙ rw (file, count) refl in
    here ∙ ap (λ disk. has_room_at disk c.args.at c.args.size) c.self.view_is
