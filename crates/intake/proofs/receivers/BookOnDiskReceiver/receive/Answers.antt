use Rattle.std.proofs.Common.{◌≡◌, Bool, false, ◌||◌, List, inr, refl, sym, ap, ◌∙◌, subst, IsTrue}
use Rattle.gb_outside.specs.Images.{LeavesOnly}
use Rattle.gb_outside.proofs.Moments.{started}
use Rattle.journal_disk.specs.Layout.{the_heading, StandsFor}
use Rattle.act_model.specs.declared.receipts.Receipt.{Receipt}
use Rattle.act_model.specs.Receiving.{next_receipt}
use Rattle.receipt_journal.specs.Receiving.{answer_on, is_received, journal_after, receiving_disk_failed}
use Rattle.receipt_journal.specs.Standing.{IsKeepable, StandsForJournal, records}
use Rattle.receipt_journal.proofs.Answering.{appended_to}
use Rattle.intake.specs.Grown.{DiskGrows, IsDurable}
use Rattle.intake.proofs.Durable.{keepable_after, grown_by, refused_on_disk, durable_stands}
use Rattle.intake.proofs.TakenItems.{book_takes}
use Rattle.intake.proofs.WrittenFrames.{frame_of_receipt}
use Rattle.intake.proofs.receivers.BookOnDiskReceiver.receive.Goals as goal

-- the book stands on the disk after the item, where the disk did not fail
neither : (a b : Bool) → a ≡ false → b ≡ false → (a || b) ≡ false
neither a b first second = rw (first, second) refl

works : (g : _) (c : goal.After-receive g) → receiving_disk_failed c.receive.result ≡ false → c.receive.new.self.log.failed ≡ false
works g c sound = c.receive.ensures.failed ∙ neither _ _ c.requires.ready.works sound

durable : (g : _) (c : goal.After-receive g) → receiving_disk_failed c.receive.result ≡ false → IsTrue g.D.Disk.tells → IsDurable c.receive.new.self (g.D.Disk.reads c.receive.new.disk) (g.D.Disk.images c.receive.new.disk)
durable g c sound tells =
    let run = c.receive.ensures.any_moment tells c.requires.ready.works in
    let here = run.each _ (g.met.D.Disk.counts_now c.receive.new.disk _ _ tells run.later (g.met.D.Disk.reads_is_image c.receive.new.disk tells)) in
    let stands = c.receive.ensures.stands tells (works g c sound) in record {
      keepable = subst IsKeepable (sym c.receive.ensures.journal)
          (keepable_after _ _ _ _ _ c.receive.result _ (c.requires.ready.durable tells).keepable here
          (subst (λ (j : List Receipt). StandsFor the_heading (g.D.Disk.reads c.receive.new.disk) (records j)) c.receive.ensures.journal (inr stands.journal)));
      stands = stands;
    }

pub returns-clause-ready : goal.returns-clause-ready
returns-clause-ready g c = λ sound. record {
  works = works g c sound;
  durable = durable g c sound;
  stands = λ tells file image. durable_stands _ _ _ file (durable g c sound tells) image;
}

-- an item that is refused leaves the disk as it was
untouched : (g : _) (c : goal.After-receive g) → is_received (answer_on c.args.self.now.book.now.journal c.stamp_for-stamp.result c.args.from.sender c.args.from.reference c.args.item.now) ≡ false → c.receive.new.disk ≡ c.args.self.now.disk.now
untouched g c refused =
    let none = refused_on_disk c.args.self.now.book.now.journal c.stamp_for-stamp.result c.args.from.sender c.args.from.reference c.args.item.now c.receive.result (c.receive.ensures.answer c.requires.ready.works) refused in
    c.receive.ensures.untouched none.0 none.1

-- the disk's journal grows by the item's receipt at most
grew : (g : _) (c : goal.After-receive g) → IsTrue g.D.Disk.tells → DiskGrows g.D.Disk.reads g.D.Disk.moment g.D.Disk.since c.args.self.now.disk.now c.receive.new.disk c.args.self.now.book.now.journal
    (journal_after c.args.self.now.book.now.journal c.stamp_for-stamp.result c.args.from.sender c.args.from.reference c.args.item.now (answer_on c.args.self.now.book.now.journal c.stamp_for-stamp.result c.args.from.sender c.args.from.reference c.args.item.now))
grew g c tells =
    let journal = c.args.self.now.book.now.journal in
    let disk = c.args.self.now.disk.now in
    let next = next_receipt journal c.stamp_for-stamp.result c.args.from.sender c.args.from.reference c.args.item.now in
    let accepted = is_received (answer_on journal c.stamp_for-stamp.result c.args.from.sender c.args.from.reference c.args.item.now) in record {
      left = grown_by g.D.Disk.moment g.D.Disk.since _ _ (g.D.Disk.images disk) _ next accepted (c.receive.ensures.any_moment tells c.requires.ready.works)
          (λ refused. subst (λ d. LeavesOnly g.D.Disk.moment g.D.Disk.since disk d (λ file. StandsForJournal file journal)) (sym (untouched g c refused))
          (started g.D.Disk.moment g.D.Disk.since disk (λ file. StandsForJournal file journal)
          (λ file left. c.requires.ready.stands tells file (g.met.D.Disk.only_now disk file tells left))));
      written = frame_of_receipt journal next accepted c.args.self.now.book.now.log.gate _ (g.D.Disk.reads disk) (g.D.Disk.reads c.receive.new.disk)
          (c.requires.ready.durable tells).stands.ends (appended_to journal next) (c.receive.ensures.torn tells) (λ refused. ap g.D.Disk.reads (untouched g c refused));
    }

pub returns-clause-takes : goal.returns-clause-takes
returns-clause-takes g c = λ held is.
    book_takes _ _ _ _ _ _ _ _ _ c.args.self.now.book.now.journal _ held c.stamp_for-stamp.result _ _ _ _ is
    (λ t own. ((c.stamp_for-stamp.ensures.own t own).0, ap g.C.Clock.ticks (c.stamp_for-stamp.ensures.own t own).1)) c.stamp_for-stamp.ensures.ticks
    (c.receive.ensures.answer c.requires.ready.works) c.receive.ensures.journal
    (λ tells. let all = grew g c tells in record { left = record { later = all.left.later; each = all.left.each; before = all.left.before }; written = all.written })
    (λ tells file image. let run = (grew g c tells).left in run.each file (g.met.D.Disk.counts_now c.receive.new.disk _ file tells run.later image))
