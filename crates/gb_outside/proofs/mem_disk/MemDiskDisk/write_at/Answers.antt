-- Answers on a disk in memory.
use Rattle.std.proofs.Common.{◌/◌, length, sym, ap, ◌∙◌, arith, length-take}
use Rattle.gb_outside.proofs.MemDisks.{write_torn}
use Rattle.gb_outside.proofs.mem_disk.MemDiskDisk.write_at.Goals as goal

pub returns-then-is_due-clause-stop : goal.returns-then-is_due-clause-stop
returns-then-is_due-clause-stop c =
    write_torn c.args.self.now c.fault.new.self c.args.at (length c.args.bytes.now) _ (sym c.is_full.ensures ∙ c.if-is_full.false) (ap (λ d. d.first) (c.fault.ensures.left) ∙ ap (λ d. d.first) c.store.ensures)
    (ap (λ d. d.done) (c.fault.ensures.left) ∙ ap (λ d. d.done) c.store.ensures) c.requires (omega (arith, length-take (length c.args.bytes.now / 2) c.args.bytes.now))

pub returns-clause-stop : goal.returns-clause-stop
returns-clause-stop c =
    write_torn c.args.self.now c.store-2.new.self c.args.at (length c.args.bytes.now) _ (sym c.is_full.ensures ∙ c.if-is_full.false) (ap (λ d. d.first) c.store-2.ensures)
    (ap (λ d. d.done) c.store-2.ensures) c.requires (omega arith)
