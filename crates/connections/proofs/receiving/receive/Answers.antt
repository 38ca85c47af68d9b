use Rattle.std.proofs.Common.{◌∙◌, ◌||◌, ap, refl}
use Rattle.receipt_journal.specs.Receiving.{receiving_disk_failed}
use Rattle.connections.proofs.MadeFiles.{behind_first, made_torn}
use Rattle.connections.proofs.ReceivedItems.{receives}
use Rattle.connections.proofs.receiving.receive.Goals as goal

pub returns-clause-receives : goal.returns-clause-receives
returns-clause-receives g c = λ tells held clock on.
    receives g.D.Disk.reads g.D.Disk.images g.D.Disk.moment g.D.Disk.since c.args.disk.now c.receive.new.disk c.now-stamp.result c.args.from c.args.item.now c.receive.result c.receive.new.self
    (g.met.D.Disk.reads_is_image c.receive.new.disk tells) (λ t file le image. g.met.D.Disk.counts_now c.receive.new.disk t file tells le image) (λ file left. g.met.D.Disk.only_now c.args.disk.now file tells left)
    c.receive.ensures.untouched c.args.book.now.book.log.gate _ (c.receive.ensures.torn tells) (λ sound. c.receive.ensures.stands tells (c.receive.ensures.failed ∙ ap (λ b. b || receiving_disk_failed c.receive.result) c.requires.works ∙ sound))
    c.args.book.now held (g.C.Clock.ticks c.args.clock.now) (g.C.Clock.ticks c.now-stamp.new.self) clock c.now-stamp.ensures on refl refl (c.receive.ensures.answer c.requires.works) c.receive.ensures.journal
    (c.receive.ensures.any_moment tells c.requires.works)

pub returns-clause-made : goal.returns-clause-made
returns-clause-made g c = λ tells was.
    made_torn (g.D.Disk.reads c.args.disk.now) (g.D.Disk.reads c.receive.new.disk) c.args.book.now.book.log.gate _ (behind_first _ c.args.book.now.book.log.gate (c.requires.stands tells).ends) (c.receive.ensures.torn tells) was
