use Rattle.std.proofs.Common.{◌≡◌, true, false, List, refl, sym, ◌∙◌, subst}
use Rattle.act_model.specs.declared.receipts.Receipt.{Receipt}
use Rattle.journal_disk.specs.Opening.{AnswersSynced}
use Rattle.receipt_journal.specs.Standing.{records, StandsForJournal}
use Rattle.receipt_journal.proofs.Standings.{journal_once, stands_by_frames}
use Rattle.registry_office.specs.Statuses.{disk_fault}
use Rattle.intake.proofs.Durable.{front_refl}
use Rattle.registry_office.proofs.OnDisk.{whole_of_file, front_of_file, is_writing, found_by_writing}
use Rattle.registry_office.proofs.Opened.{keeps_grown, opening_status, disk_at_opening, found_at_opening, no_front, made_at_opening, made_of_journal, makes_at_opening}
use Rattle.registry_office.proofs.disk_settling.settle_disk.Goals as goal

-- an opened book was synced, and settling touches no disk
synced : (g : _) (c : goal.After-drop-book-inside-in-Ok-7 g) → AnswersSynced g.D.Disk.reads g.D.Disk.images g.D.Disk.moment g.D.Disk.since c.args.disk.now c.open.new.disk false → AnswersSynced g.D.Disk.reads g.D.Disk.images g.D.Disk.moment g.D.Disk.since c.args.disk.now c.open.new.disk (disk_fault c.settle.result)
synced g c first = subst (AnswersSynced g.D.Disk.reads g.D.Disk.images g.D.Disk.moment g.D.Disk.since c.args.disk.now c.open.new.disk) (sym (is_writing c.settle.result c.settle.ensures.others).no_disk) first

pub returns-in-Ok-clause-written : goal.returns-in-Ok-clause-written
returns-in-Ok-clause-written g c = λ tells journal stands ok.
    whole_of_file _ _ _ c.journal.result.now.receipts c.in-Ok.book.journal journal c.journal.ensures (c.in-Ok.ensures.opened tells).found stands (c.settle.ensures.written ok)

pub returns-in-Ok-clause-part : goal.returns-in-Ok-clause-part
returns-in-Ok-clause-part g c = λ tells journal stands.
    front_of_file _ _ _ c.journal.result.now.receipts c.in-Ok.book.journal journal c.journal.ensures (c.in-Ok.ensures.opened tells).found stands c.settle.ensures.part

pub returns-in-Ok-clause-stands_at_end : goal.returns-in-Ok-clause-stands_at_end
returns-in-Ok-clause-stands_at_end g c = λ tells journal file stands ok image.
    subst (λ (j : List Receipt). StandsForJournal file j) (journal_once (g.D.Disk.reads c.args.disk.now) c.in-Ok.book.journal journal (c.in-Ok.ensures.opened tells).found stands)
    (stands_by_frames file c.in-Ok.book.journal c.in-Ok.ensures.records.keepable ((c.in-Ok.ensures.opened tells).stands.durable file image))

pub returns-in-Ok-clause-found : goal.returns-in-Ok-clause-found
returns-in-Ok-clause-found g c = λ tells. found_by_writing c.settle.result (g.D.Disk.reads c.args.disk.now) c.settle.ensures.others (c.in-Ok.book.journal, (c.in-Ok.ensures.opened tells).found)

pub returns-in-Ok-clause-made : goal.returns-in-Ok-clause-made
returns-in-Ok-clause-made g c = λ tells which. made_of_journal (records c.in-Ok.book.journal) (g.D.Disk.reads c.open.new.disk) (c.in-Ok.ensures.opened tells).stands.journal

pub returns-in-Ok-clause-made_so : goal.returns-in-Ok-clause-made_so
returns-in-Ok-clause-made_so g c = λ tells quiet unmade. c.in-Ok.ensures.made tells refl unmade

pub returns-in-Ok-clause-kept_any_moment : goal.returns-in-Ok-clause-kept_any_moment
returns-in-Ok-clause-kept_any_moment g c = λ tells. synced g c (c.in-Ok.ensures.any_moment tells)

pub returns-in-Ok-clause-grown : goal.returns-in-Ok-clause-grown
returns-in-Ok-clause-grown g c = λ tells journal stands.
    keeps_grown g.D.Disk.reads g.D.Disk.images g.D.Disk.moment g.D.Disk.since c.args.disk.now c.open.new.disk journal journal _ stands (front_refl journal) (synced g c (c.in-Ok.ensures.any_moment tells))

pub returns-in-Ok-clause-unopened : goal.returns-in-Ok-clause-unopened
returns-in-Ok-clause-unopened g c = λ tells none. absurd (none (c.in-Ok.book.journal, (c.in-Ok.ensures.opened tells).found))

pub returns-in-Ok-clause-unopened_by : goal.returns-in-Ok-clause-unopened_by
returns-in-Ok-clause-unopened_by g c = λ none. let never : true ≡ false = sym none ∙ (is_writing c.settle.result c.settle.ensures.others).opened in absurd cc

pub returns-in-Ok-clause-no_usage : goal.returns-in-Ok-clause-no_usage
returns-in-Ok-clause-no_usage g c = (is_writing c.settle.result c.settle.ensures.others).not_usage

pub returns-in-Ok-clause-no_input : goal.returns-in-Ok-clause-no_input
returns-in-Ok-clause-no_input g c = ((is_writing c.settle.result c.settle.ensures.others).no_read, (is_writing c.settle.result c.settle.ensures.others).not_long)

pub returns-in-Ok-clause-no_door : goal.returns-in-Ok-clause-no_door
returns-in-Ok-clause-no_door g c = (is_writing c.settle.result c.settle.ensures.others).no_door

pub returns-in-Err-clause-written : goal.returns-in-Err-clause-written
returns-in-Err-clause-written g c = λ tells journal stands ok. absurd ((opening_status c.status_of_opening.result c.in-Err.fault c.status_of_opening.ensures).not_ok ok)

pub returns-in-Err-clause-part : goal.returns-in-Err-clause-part
returns-in-Err-clause-part g c = λ tells journal stands. no_front (g.K.Sink.written c.args.sink.now) _

pub returns-in-Err-clause-stands_at_end : goal.returns-in-Err-clause-stands_at_end
returns-in-Err-clause-stands_at_end g c = λ tells journal file stands ok image. absurd ((opening_status c.status_of_opening.result c.in-Err.fault c.status_of_opening.ensures).not_ok ok)

pub returns-in-Err-clause-found : goal.returns-in-Err-clause-found
returns-in-Err-clause-found g c = λ tells. found_at_opening c.status_of_opening.result c.in-Err.fault (g.D.Disk.reads c.args.disk.now) c.status_of_opening.ensures (c.in-Err.ensures.refused tells)

pub returns-in-Err-clause-made : goal.returns-in-Err-clause-made
returns-in-Err-clause-made g c = λ tells. made_at_opening c.status_of_opening.result c.in-Err.fault (g.D.Disk.reads c.args.disk.now) (g.D.Disk.reads c.open.new.disk) c.status_of_opening.ensures (c.in-Err.ensures.made tells)

pub returns-in-Err-clause-made_so : goal.returns-in-Err-clause-made_so
returns-in-Err-clause-made_so g c = λ tells. makes_at_opening c.status_of_opening.result c.in-Err.fault (g.D.Disk.reads c.args.disk.now) (g.D.Disk.reads c.open.new.disk) c.status_of_opening.ensures (c.in-Err.ensures.made tells)

pub returns-in-Err-clause-kept_any_moment : goal.returns-in-Err-clause-kept_any_moment
returns-in-Err-clause-kept_any_moment g c = λ tells. subst (AnswersSynced g.D.Disk.reads g.D.Disk.images g.D.Disk.moment g.D.Disk.since c.args.disk.now c.open.new.disk) (sym (disk_at_opening c.status_of_opening.result c.in-Err.fault c.status_of_opening.ensures)) (c.in-Err.ensures.any_moment tells)

pub returns-in-Err-clause-grown : goal.returns-in-Err-clause-grown
returns-in-Err-clause-grown g c = λ tells journal stands.
    keeps_grown g.D.Disk.reads g.D.Disk.images g.D.Disk.moment g.D.Disk.since c.args.disk.now c.open.new.disk journal journal _ stands (front_refl journal) (subst (AnswersSynced g.D.Disk.reads g.D.Disk.images g.D.Disk.moment g.D.Disk.since c.args.disk.now c.open.new.disk) (sym (disk_at_opening c.status_of_opening.result c.in-Err.fault c.status_of_opening.ensures)) (c.in-Err.ensures.any_moment tells))

pub returns-in-Err-clause-no_usage : goal.returns-in-Err-clause-no_usage
returns-in-Err-clause-no_usage g c = (opening_status c.status_of_opening.result c.in-Err.fault c.status_of_opening.ensures).not_usage

pub returns-in-Err-clause-no_input : goal.returns-in-Err-clause-no_input
returns-in-Err-clause-no_input g c = ((opening_status c.status_of_opening.result c.in-Err.fault c.status_of_opening.ensures).no_read, (opening_status c.status_of_opening.result c.in-Err.fault c.status_of_opening.ensures).not_long)

pub returns-in-Err-clause-no_door : goal.returns-in-Err-clause-no_door
returns-in-Err-clause-no_door g c = (opening_status c.status_of_opening.result c.in-Err.fault c.status_of_opening.ensures).no_door
